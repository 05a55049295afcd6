use Rattle.std.proofs.Common.{◌<◌, ◌≡◌, ◌≤◌, ◌-◌, ◌+◌, ◌++◌, ◌∷◌, [], List, Some, length, get_or, refl, sym, ap, subst, ◌∙◌, arith}
use Rattle.std.proofs.lemmas.List.{length-reverse}
use Rattle.std.proofs.lemmas.Option.{slice_get-get_or}
use Rattle.crash_free.specs.Runs.{Passed}
use Rattle.crash_free.specs.declared.choice.Choice.TheVariants.{Next}
use Rattle.explore.specs.declared.branch.Branch.{Branch}
use Rattle.explore.specs.declared.moves.Move.{Move}
use Rattle.explore.specs.Exploring.{and_then}
use Rattle.explore.specs.Moves.{move_of}
use Rattle.explore.specs.Searching.{BranchesOff}
use Rattle.explore.specs.Stems.{IsAfter, Stem, stem_of, stems_of}
use Rattle.explore.proofs.Among.{among_index}
use Rattle.explore.proofs.Leaving.{branches_none, branches_from, branches_more, stem_with}
use Rattle.explore.proofs.Stems.{off_push, stem_here, stems_push}
use Rattle.explore.proofs.branching.branch_off.Goals as goal

pub loop-at-init : goal.loop-at-init
loop-at-init c = record {
  within = omega arith;
  some = c.requires.some;
  branches =
      branches_none c.args.mode c.args.path.now.sim c.args.moves.now (length c.args.moves.now) (stems_of c.args.path.now.sim.run c.args.pending.now.items) refl;
  off = c.requires.off;
}

pub loop-at-preserved : goal.loop-at-preserved
loop-at-preserved c =
    let s = c.args.path.now.sim in
    let low : c.loop-at.at - 1 < length c.args.moves.now = omega (arith, c.loop-at.invariant.within, c.loop-at-test.true) in
    let within : c.loop-at.at - 1 ≤ length c.args.moves.now = omega (arith, low) in
    let back : c.loop-at.at ≡ (c.loop-at.at - 1) + 1 = omega (arith, c.loop-at-test.true) in
    let m : Move = get_or c.args.moves.now (c.loop-at.at - 1) (move_of 0 Next) in
    let b : Branch = record { shared = length c.acts-shared.result.now; chosen = Some m; choices = c.len-choices.result } in
    let all : length c.acts-shared.result.now ≡ length s.run = ap length (rw c.as_sim.ensures at c.acts-shared.ensures) ∙ length-reverse s.run in
    let more =
    branches_more c.args.mode s c.args.moves.now (c.loop-at.at - 1) m (stems_of s.run c.args.pending.now.items) (stems_of s.run c.loop-at.pending.items)
    (slice_get-get_or c.args.moves.now (c.loop-at.at - 1) (move_of 0 Next) low)
    (subst (λ k. BranchesOff c.args.mode s c.args.moves.now k (stems_of s.run c.args.pending.now.items) (stems_of s.run c.loop-at.pending.items)) back
    c.loop-at.invariant.branches) in
    let one : stem_of s.run b ≡ stem_with s m = stem_here s.run b all in
    let new : stems_of s.run (c.loop-at.pending.items ++ b ∷ []) ≡ stems_of s.run c.loop-at.pending.items ++ stem_with s m ∷ [] =
    stems_push s.run c.loop-at.pending.items b ∙ ap (λ (z : Stem). stems_of s.run c.loop-at.pending.items ++ z ∷ []) one in
    let may = (c.requires.acts m (among_index c.args.moves.now (c.loop-at.at - 1) (move_of 0 Next) low)).2 in
    let run : (P : List Passed) × IsAfter c.args.mode s.program (length s.machines) s.run (Some m) P =
    (and_then s.run m.rank may.0, (may.0, (may.1, may.2), refl)) in
    record {
      within = within;
      some = omega (arith, c.loop-at-test.true);
      branches =
          rw c.in_ok-push.ensures.items
          (subst (λ (z : List Stem). BranchesOff c.args.mode s c.args.moves.now (c.loop-at.at - 1) (stems_of s.run c.args.pending.now.items) z) (sym new) more);
      off =
          rw c.in_ok-push.ensures.items
          (off_push c.args.mode s.program (length s.machines) s.run c.loop-at.pending.items b all run c.loop-at.invariant.off);
    }

pub returns-clause-branches : goal.returns-clause-branches
returns-clause-branches c =
    branches_from c.args.mode c.args.path.now.sim c.args.moves.now c.loop-at.at (stems_of c.args.path.now.sim.run c.args.pending.now.items)
    (stems_of c.args.path.now.sim.run c.loop-at.pending.items) c.loop-at.invariant.some c.loop-at-test.false c.loop-at.invariant.branches
