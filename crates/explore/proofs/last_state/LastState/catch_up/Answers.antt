use Rattle.std.proofs.Common.{◌≡◌, Some, length, refl, arith, slice_get}
use Rattle.std.proofs.lemmas.Option.{slice_get_read}
use Rattle.explore.proofs.LastKnown.{knows_on}
use Rattle.explore.proofs.last_state.LastState.catch_up.Goals as goal

pub loop-self-preserved : goal.loop-self-preserved
loop-self-preserved c =
    let shared = c.mark.ensures.shared in
    let at : slice_get c.args.acts.now c.loop-self.self.shared ≡ Some c.index-acts-self.result =
    slice_get_read c.args.acts.now (length c.args.acts.now) c.loop-self.self.shared c.index-acts-self.result refl c.loop-self-test.true c.index-acts-self.is in
    record {
      knows =
          λ t program n C parts same known.
          knows_on t program n C c.args.acts.now parts c.index-acts-self.result c.loop-self.self c.mark.new.self _ same at c.mark.ensures refl refl refl
          (c.loop-self.invariant.knows t program n C parts same known);
      within = λ _. omega (arith, c.loop-self-test.true, shared);
    }
