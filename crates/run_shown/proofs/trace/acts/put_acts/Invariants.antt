use Rattle.std.proofs.Common.{◌≡◌, ◌++◌, reverse, take, string_bytes}
use Rattle.run_shown.specs.Trace.Lines.{lines_text}
use Rattle.run_shown.proofs.trace.acts.put_acts.Given as goal

-- the lines of the acts so far are written
abbrev pub invariant-loop-index : goal.invariant-loop-index
invariant-loop-index l =
    string_bytes l.to ≡ string_bytes l.initial.to
    ++ lines_text l.width l.told.lines.now (reverse (take l.index l.told.acts.now)) (reverse (take l.index l.told.places.now))
