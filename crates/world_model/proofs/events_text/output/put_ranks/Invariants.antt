use Rattle.std.proofs.Common.{◌≡◌, ◌++◌, string_bytes}
use Rattle.world_model.specs.EventsText.Output.{ranks_text}
use Rattle.world_model.proofs.events_text.output.put_ranks.Given as goal

-- the lines of the ranks so far are written
abbrev pub invariant-loop-rank : goal.invariant-loop-rank
invariant-loop-rank l = string_bytes l.text ≡ string_bytes l.initial.text ++ ranks_text l.rank l.lines
