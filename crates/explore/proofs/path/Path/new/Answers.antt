use Rattle.limits.specs.Limits.{most_ranks}
use Rattle.explore.proofs.Counting.{counts_begin}
use Rattle.explore.proofs.path.Path.new.Goals as goal

pub returns-clause-counts : goal.returns-clause-counts
returns-clause-counts c =
    counts_begin c.in_ok-new.field-0 c.args.program.now c.args.ranks c.args.steps most_ranks c.in_ok-new.ensures.program c.in_ok-new.ensures.ranks
    c.in_ok-new.ensures.run c.in_ok-new.ensures.begins c.requires.few
