-- The stems that moves add.
use Rattle.std.proofs.Common.{◌≡◌, ℕ, ◌<◌, ◌≤◌, ◌+◌, List, [], ◌∷◌, ◌++◌, Some, length, slice_get, ◌⊎◌, inl, inr, sym, ap, subst, ◌∙◌, arith}
use Rattle.std.proofs.lemmas.Bool.{cases_eq}
use Rattle.std.specs.Prelude.{drop, sum_by}
use Rattle.std.proofs.lemmas.Option.{slice_get_within, get_or_from_slice_get}
use Rattle.std.proofs.lemmas.List.Sums.{sum_by-drop_more}
use Rattle.crash_free.specs.Runs.{Passed}
use Rattle.crash_free.specs.Sim.{SimValue}
use Rattle.explore.specs.declared.moves.Move.{Move}
use Rattle.explore.specs.Outcomes.{IsAmong}
use Rattle.explore.specs.Searching.{IsTaken, NeedsAfter, BranchesOff}
use Rattle.explore.specs.Small.{EnoughFor, EnoughForAll}
use Rattle.explore.specs.Stems.{Stem}
use Rattle.explore.proofs.Among.{among_first, among_last}
use Rattle.explore.proofs.Small.{all_more, all_push}
use Rattle.explore.specs.declared.send_mode.SendMode.{SendMode}

-- the stem of a move after the run of a simulation
abbrev pub stem_with : SimValue → Move → Stem
stem_with s m = record { before = s.run; chosen = Some m }

-- none is added yet
pub branches_none : (mode : SendMode) → (s : SimValue) (moves : List Move) (k : ℕ) (pending : List Stem) → k ≡ length moves → BranchesOff mode s moves k pending pending
branches_none mode s moves k pending end =
    record {
      kept = λ x a. a;
      made = λ i m from e. absurd (let low = slice_get_within moves i m e in omega (arith, end, from, low));
      enough = λ needs each j before. all_more mode s.program (length s.machines) j (j + sum_by needs (drop k moves)) pending (omega arith) before;
    }

-- those that are left once one is
pub branches_from : (mode : SendMode) → (s : SimValue) (moves : List Move) (k : ℕ) (old new : List Stem) → 0 < k → k ≤ 1 → BranchesOff mode s moves k old new
    → BranchesOff mode s moves 1 old new
branches_from mode s moves k old new some low off =
    let one : k ≡ 1 = omega (arith, some, low) in
    subst (λ i. BranchesOff mode s moves i old new) one off

-- one move more
pub branches_more : (mode : SendMode) → (s : SimValue) (moves : List Move) (k : ℕ) (m : Move) (old mid : List Stem) → slice_get moves k ≡ Some m
    → BranchesOff mode s moves (k + 1) old mid → BranchesOff mode s moves k old (mid ++ stem_with s m ∷ [])
branches_more mode s moves k m old mid there off =
    record {
      kept = λ x a. among_first mid (stem_with s m ∷ []) x (off.kept x a);
      made = λ i x from e. made i x from e (cases_eq i k);
      enough = enough;
    }
  where
    made : (i : ℕ) (x : Move) → k ≤ i → slice_get moves i ≡ Some x → (i ≡ k) ⊎ (i ≡ k → ⊥) → IsTaken s x (mid ++ stem_with s m ∷ [])
    made i x from e (inl same) =
        let one : Some m ≡ Some x = sym there ∙ subst (λ j. slice_get moves j ≡ Some x) same e in
        let it : m ≡ x = cc in
        subst (λ (z : Move). IsTaken s z (mid ++ stem_with s m ∷ [])) it (among_last mid (stem_with s m))
    made i x from e (inr apart) = among_first mid (stem_with s m ∷ []) (stem_with s x) (off.made i x (omega (arith, from, apart)) e)

    enough : (needs : Move → ℕ) → ((x : Move) → IsAmong moves x → NeedsAfter mode s x (needs x)) → (j : ℕ)
        → EnoughForAll mode s.program (length s.machines) j old
        → EnoughForAll mode s.program (length s.machines) (j + sum_by needs (drop k moves)) (mid ++ stem_with s m ∷ [])
    enough needs each j before =
        let left = off.enough needs each j before in
        let here = each m (k, there) in
        let both =
        all_push mode s.program (length s.machines) (j + sum_by needs (drop (k + 1) moves)) (needs m) mid (stem_with s m) left here.0
        (λ P r. subst (λ (C : List Passed). EnoughFor mode s (needs m) C) (sym r.2) (here.1 r.0 r.1)) in
        let sums = sum_by-drop_more needs moves k m (slice_get_within moves k m there) in
        let it = ap needs (get_or_from_slice_get moves k m m there) in
        all_more mode s.program (length s.machines) (j + sum_by needs (drop (k + 1) moves) + needs m) (j + sum_by needs (drop k moves)) (mid ++ stem_with s m ∷ [])
        (omega (arith, sums, it)) both
