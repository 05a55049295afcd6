use Rattle.std.proofs.Common.{◌≡◌, ◌++◌, length, string_bytes}
use Rattle.bare_world.specs.Headline.{lines_of}
use Rattle.world_model.specs.EventsText.Output.{printed_text}
use Rattle.world_model.proofs.events_text.output.put_lines_of.Given as goal

-- what is written and the rank's lines that are left are the whole
abbrev pub invariant-loop-rest : goal.invariant-loop-rest
invariant-loop-rest l =
    string_bytes l.text ++ printed_text l.rank (lines_of l.rank l.rest) ≡ string_bytes l.initial.text ++ printed_text l.rank (lines_of l.rank l.lines)

abbrev pub decreases-loop-rest : goal.decreases-loop-rest
decreases-loop-rest l = length l.rest
