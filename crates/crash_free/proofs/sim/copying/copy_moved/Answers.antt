use Rattle.std.proofs.Common.{refl, sym, ◌∙◌, arith}
use Rattle.std.proofs.lemmas.Option.{slice_get_read}
use Rattle.crash_free.proofs.Points.{one_there}
use Rattle.crash_free.proofs.sim.copying.copy_moved.Goals as goal

-- a machine with a mark is the other one
pub copy_unless-requires : goal.copy_unless-requires
copy_unless-requires c = λ stays.
    let low = c.loop-rank-test.true in
    let size = c.requires.ranks in
    one_there
    (sym (slice_get_read c.args.machines.now _ c.loop-rank.rank _ refl (omega (arith, low, size)) c.index-machines-rank.is)
    ∙ c.requires.unmoved c.loop-rank.rank (c.is_marked-stays.ensures.yes stays)
    ∙ slice_get_read c.args.others.now _ c.loop-rank.rank _ refl (omega (arith, low)) c.index-others-rank.is)
