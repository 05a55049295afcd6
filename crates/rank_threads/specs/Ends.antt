-- How a rank ended, by where it stands when it leaves.
use Rattle.std.specs.Prelude.{Bool, true, false}
use Rattle.audit.specs.declared.outcome.End.{End}
use Rattle.audit.specs.declared.outcome.End.TheVariants as end
use Rattle.rank_machine.specs.declared.want.Want.{Want}
use Rattle.rank_machine.specs.declared.want.Want.TheVariants as want
use Rattle.rank_machine.specs.Machine.{machine_want}
use Rattle.rank_threads.specs.Phases.{Phase}
use Rattle.rank_node.specs.declared.phase.Phase.TheVariants as phase

-- a rank whose machine wants this and isn't stepped any more: only a receive and a probe that waits
-- can be stalled
abbrev pub end_at : Want → End
end_at want.Halted = end.Halted
end_at (want.Faulted fault) = end.Faulted fault
end_at (want.Receive selector) = end.Stalled
end_at (want.Probe selector) = end.Stalled
end_at want.Internal = end.Unfinished
end_at (want.Send dest context tag) = end.Unfinished
end_at (want.TryProbe selector) = end.Unfinished
end_at (want.Print value) = end.Unfinished

-- a rank that replays hasn't come to the end of its row, and one that is down is nowhere
abbrev pub end_in : Phase → End
end_in (phase.Running v) = end_at (machine_want v.machine)
end_in (phase.Replaying r) = end.Unfinished
end_in (phase.Down s) = end.Unfinished

-- a rank that a limit stopped is unfinished, wherever it stands
abbrev pub end_of : Bool → Phase → End
end_of true p = end.Unfinished
end_of false p = end_in p
