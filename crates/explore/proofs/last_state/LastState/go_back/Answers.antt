use Rattle.std.proofs.Common.{◌≡◌, ◌-◌, Some, length, refl, arith, slice_get, subst, sym}
use Rattle.std.proofs.lemmas.Option.{slice_get_read}
use Rattle.explore.proofs.LastKnown.{knows_back}
use Rattle.explore.proofs.last_state.LastState.go_back.Goals as goal

pub loop-self-preserved : goal.loop-self-preserved
loop-self-preserved c =
    let shared = c.mark.ensures.shared in
    let within = c.loop-self.invariant.within in
    let at : slice_get c.args.acts.now (c.loop-self.self.shared - 1) ≡ Some c.index-acts-self.result =
    slice_get_read c.args.acts.now (length c.args.acts.now) (c.loop-self.self.shared - 1) c.index-acts-self.result refl
    (omega (arith, c.loop-self-test.true, within)) c.index-acts-self.is in
    record {
      knows =
          λ t program n C parts same known.
          knows_back t program n C c.args.acts.now parts c.index-acts-self.result c.loop-self.self _ c.mark.new.self same
          (subst (λ i. slice_get c.args.acts.now i ≡ Some c.index-acts-self.result) (sym shared) at) (omega (arith, c.loop-self-test.true, shared)) refl
          refl (sym shared) c.mark.ensures (c.loop-self.invariant.knows t program n C parts same known);
      within = omega (arith, within, shared);
    }
