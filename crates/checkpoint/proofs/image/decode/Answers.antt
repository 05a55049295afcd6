use Rattle.std.proofs.Common.{arith}
use Rattle.checkpoint.proofs.Whole.{is_found}
use Rattle.checkpoint.proofs.Saved.{found_savable, found_rests}
use Rattle.checkpoint.proofs.image.decode.Goals as goal

pub returns-clause-found : goal.returns-clause-found
returns-clause-found c =
    is_found c.args.program.now c.args.rank c.args.size (omega (arith, c.ranges.rank.fits)) (omega (arith, c.ranges.size.fits))
    c.args.bytes.now
    c.whole_of.result (λ i. i) (λ i. omega (arith, c.type_inv.bytes i)) c.whole_of.ensures

pub returns-clause-savable : goal.returns-clause-savable
returns-clause-savable c =
    found_savable c.args.program.now c.args.rank c.args.size c.args.bytes.now c.whole_of.result (λ i. i) c.requires.size
    (returns-clause-found c)

pub returns-clause-rest : goal.returns-clause-rest
returns-clause-rest c = found_rests c.args.program.now c.args.rank c.args.size c.args.bytes.now c.whole_of.result (λ i. i)
    (returns-clause-found c)
