use Rattle.std.proofs.Common.{◌≡◌, ◌≤◌, length, take, vec_capacity, vec_len}
use Rattle.bare_world.specs.Sequences.{FollowsAll}
use Rattle.bare_world.specs.Headline.{StandsFor}
use Rattle.bare_world.specs.Retained.{NothingGone}
use Rattle.world_model.proofs.world.World.run.Given as goal

abbrev pub invariant-loop-done : goal.invariant-loop-done
invariant-loop-done l = record {
  ran : FollowsAll l.fn.self (take l.done l.events) l.replies.items l.self;
  stands : StandsFor l.self l.self.run;
  nothing_gone : NothingGone l.self l.self.run;
  count : vec_len l.replies ≡ l.done;
  room : length l.events ≤ vec_capacity l.replies;
}
