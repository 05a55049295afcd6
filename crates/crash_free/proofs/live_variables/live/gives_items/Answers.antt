use Rattle.crash_free.proofs.LiveVariablesLaws.Begun.{opening_gives}
use Rattle.crash_free.proofs.live_variables.live.gives_items.Goals as goal

pub returns : goal.returns
returns c = opening_gives c.args.program.now c.law_lines.ensures c.are_placed.ensures c.arrays-arrays.ensures.sized
