use Rattle.std.proofs.Common.{ℕ, ◌<◌, ◌≤◌, length}
use Rattle.matching.specs.Inbox.{accepted_from}
use Rattle.crash_free.specs.Runs.{sent}
use Rattle.bare_world.proofs.bare_world.BareWorld.has_heard_all.Given as goal

abbrev pub invariant-loop-source : goal.invariant-loop-source
invariant-loop-source l = (s : ℕ) → s < l.source → length (sent l.fn.self.run s l.fn.rank) ≤ accepted_from l.fn.inbox s
