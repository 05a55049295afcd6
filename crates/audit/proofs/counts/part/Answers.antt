use Rattle.std.proofs.Common.{◌∙◌, sym}
use Rattle.audit.proofs.Counting.{run_part}
use Rattle.audit.proofs.counts.part.Goals as goal

pub returns-in-Misses : goal.returns-in-Misses
returns-in-Misses c =
    run_part c.args.event c.args.later c.args.count c.receiver_clock.result c.new.result (sym c.kind.ensures ∙ c.in-Misses.is) c.receiver_clock.ensures.event
    c.receiver_clock.ensures.value c.requires.count c.requires.later c.new.ensures
