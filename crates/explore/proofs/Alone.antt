-- Where the acts of a rank are persistent. A run that goes on from there has one of them before each other act of that rank, whatever the others
-- do meanwhile, or the rank makes none. And as the others go on, the rank keeps its acts and gets no more.
use Rattle.std.proofs.Common.{◌≡◌, ℕ, zero, suc, ◌+◌, ◌≤◌, List, length, ◌⊎◌, inl, inr, refl, sym, ap, subst, ◌∙◌, arith}
use Rattle.std.proofs.lemmas.Bool.{cases_eq}
use Rattle.std.proofs.lemmas.List.{length-append}
use Rattle.rank_machine.specs.States.{State}
use Rattle.rank_machine.specs.Acts.{Act}
use Rattle.crash_free.specs.Runs.{Passed, history}
use Rattle.explore.specs.Sending.{IsRunUnder}
use Rattle.crash_free.specs.Parts.{IsPartOf}
use Rattle.crash_free.proofs.Lists.{history-other}
use Rattle.crash_free.proofs.Reorder.{IsBeginning-trans, history_grows}
use Rattle.explore.specs.Sending.{MayFollowUnder}
use Rattle.explore.specs.AndThen.{and_then}
use Rattle.explore.specs.Persistent.{GoesOnWithout, there, further, IsPersistent}
use Rattle.explore.proofs.Exploring.{all_or_next, both_ways, follows_both, part_of_itself}
use Rattle.explore.proofs.Finding.{own_longer, part_shorter}
use Rattle.explore.specs.declared.send_mode.SendMode.{SendMode}

-- a part of a run with one act more
part_of_next : (P C : List Passed) (q : ℕ) (act : Act) → IsPartOf (and_then P q act) C → IsPartOf P C
part_of_next P C q act part r =
    IsBeginning-trans (history P r) (history (and_then P q act) r) (history C r) (history_grows P (record { rank = q; act = act }) r) (part r)

-- A run to which others than rank r go on from P is one, and P is a part of it, in which r made no more.
pub record IsWithout (mode : SendMode) (start : ℕ → State) (n r : ℕ) (P C : List Passed) : Type 0 where
  pub is_run : IsRunUnder mode start n C
  pub part : IsPartOf P C
  pub same : history C r ≡ history P r

-- a run that goes on without a rank has what it went on from as a part
pub without_part : (mode : SendMode) → (start : ℕ → State) (n r : ℕ) (P C : List Passed) → IsRunUnder mode start n P → GoesOnWithout mode start n r P C → IsWithout mode start n r P C
without_part mode start n r P C run there = record { is_run = run; part = part_of_itself P; same = refl }
without_part mode start n r P C run (further q act other may on) =
    let more = without_part mode start n r (and_then P q act) C (run, may.0, may.1, may.2) on in
    record {
      is_run = more.is_run;
      part = part_of_next P C q act more.part;
      same = more.same ∙ history-other P (record { rank = q; act = act }) r other;
    }

-- How far others than rank r go on from P, of what C does: to all of it, or to an act of r.
record Without (mode : SendMode) (start : ℕ → State) (n r : ℕ) (P C : List Passed) : Type 0 where
  run : List Passed
  onward : GoesOnWithout mode start n r P run
  part : IsPartOf run C
  all_or_own : IsPartOf C run ⊎ ((act : Act) × MayFollowUnder mode start n run r act × IsPartOf (and_then run r act) C)

-- one act of another rank before that
one_before : (mode : SendMode) → (start : ℕ → State) (n r : ℕ) (P C : List Passed) (q : ℕ) (act : Act) → (q ≡ r → ⊥) → MayFollowUnder mode start n P q act
    → Without mode start n r (and_then P q act) C → Without mode start n r P C
one_before mode start n r P C q act other may more =
    record { run = more.run; onward = further q act other may more.onward; part = more.part; all_or_own = more.all_or_own }

-- as far as C is longer
within : (mode : SendMode) → (start : ℕ → State) (n r : ℕ) (C : List Passed) → IsRunUnder mode start n C → (k : ℕ) (P : List Passed) → IsRunUnder mode start n P → IsPartOf P C
    → length C ≤ length P + k → Without mode start n r P C
within mode start n r C whole zero P run part few = go (all_or_next mode start n P C run whole part)
  where
    go : IsPartOf C P ⊎ ((q : ℕ) × (act : Act) × MayFollowUnder mode start n P q act × IsPartOf (and_then P q act) C) → Without mode start n r P C
    go (inl all) = record { run = P; onward = there; part = part; all_or_own = inl all }
    go (inr next) =
        let less = part_shorter mode start n (and_then P next.0 next.1) C (run, next.2.0, next.2.1, next.2.2) whole next.3 in
        absurd (omega (arith, less, few))
within mode start n r C whole (suc k) P run part few =
    go (λ q act may part'. within mode start n r C whole k (and_then P q act) (run, may.0, may.1, may.2) part' (omega (arith, few)))
    (all_or_next mode start n P C run whole part)
  where
    go : ((q : ℕ) (act : Act) → MayFollowUnder mode start n P q act → IsPartOf (and_then P q act) C → Without mode start n r (and_then P q act) C)
        → IsPartOf C P ⊎ ((q : ℕ) × (act : Act) × MayFollowUnder mode start n P q act × IsPartOf (and_then P q act) C) → Without mode start n r P C
    go more (inl all) = record { run = P; onward = there; part = part; all_or_own = inl all }
    go more (inr next) = by (cases_eq next.0 r)
      where
        by : (next.0 ≡ r) ⊎ (next.0 ≡ r → ⊥) → Without mode start n r P C
        by (inl own) =
            record {
              run = P;
              onward = there;
              part = part;
              all_or_own =
                  inr (
                    next.1,
                    subst (λ q. MayFollowUnder mode start n P q next.1) own next.2,
                    subst (λ q. IsPartOf (and_then P q next.1) C) own next.3,
                  );
            }
        by (inr other) = one_before mode start n r P C next.0 next.1 other next.2 (more next.0 next.1 next.2 next.3)

-- from any part of a run one comes to where the rank acts next, or to all of the run
go_without : (mode : SendMode) → (start : ℕ → State) (n r : ℕ) (P C : List Passed) → IsRunUnder mode start n P → IsRunUnder mode start n C → IsPartOf P C → Without mode start n r P C
go_without mode start n r P C run whole part = within mode start n r C whole (length C) P run part (omega arith)

-- In a run of which P is a part the rank made one of its acts next, or it made no more.
pub persistent_act : (mode : SendMode) → (start : ℕ → State) (n : ℕ) (P C : List Passed) (r : ℕ) → IsRunUnder mode start n P → IsRunUnder mode start n C → IsPartOf P C
    → IsPersistent mode start n P r → ((act : Act) × MayFollowUnder mode start n P r act × IsPartOf (and_then P r act) C) ⊎ (history C r ≡ history P r)
persistent_act mode start n P C r run whole part persistent = go w.all_or_own
  where
    w : Without mode start n r P C
    w = go_without mode start n r P C run whole part

    is : IsWithout mode start n r P w.run
    is = without_part mode start n r P w.run run w.onward

    go : IsPartOf C w.run ⊎ ((act : Act) × MayFollowUnder mode start n w.run r act × IsPartOf (and_then w.run r act) C)
        → ((act : Act) × MayFollowUnder mode start n P r act × IsPartOf (and_then P r act) C) ⊎ (history C r ≡ history P r)
    go (inl all) = inr (both_ways (history C r) (history w.run r) (all r) (w.part r) ∙ is.same)
    go (inr next) =
        let may = persistent w.run next.0 w.onward next.1 in
        let both = follows_both mode start n P w.run r next.0 is.part is.same may in
        inl (
          next.0,
          may,
          λ q. IsBeginning-trans (history (and_then P r next.0) q) (history (and_then w.run r next.0) q) (history C q) (both.1 q) (next.2 q),
        )

-- In each run of which P is a part, and in which rank r made no more, it may make what it may make after P.
abbrev pub KeepsActs : SendMode → (ℕ → State) → ℕ → List Passed → ℕ → Type 0
KeepsActs mode start n P r = (C : List Passed) (act : Act) → IsRunUnder mode start n C → IsPartOf P C → history C r ≡ history P r → MayFollowUnder mode start n C r act
    → MayFollowUnder mode start n P r act

-- so it is where its acts are persistent
pub keeps_acts : (mode : SendMode) → (start : ℕ → State) (n : ℕ) (P : List Passed) (r : ℕ) → IsRunUnder mode start n P → IsPersistent mode start n P r → KeepsActs mode start n P r
keeps_acts mode start n P r run persistent C act whole part same may = go w.all_or_own
  where
    w : Without mode start n r P C
    w = go_without mode start n r P C run whole part

    is : IsWithout mode start n r P w.run
    is = without_part mode start n r P w.run run w.onward

    go : IsPartOf C w.run ⊎ ((a : Act) × MayFollowUnder mode start n w.run r a × IsPartOf (and_then w.run r a) C) → MayFollowUnder mode start n P r act
    go (inl all) = persistent w.run act w.onward (follows_both mode start n C w.run r act all (is.same ∙ sym same) may).0
    go (inr next) =
        let own = own_longer w.run r next.0 in
        let whole = ap length (next.2 r).1 in
        let sum = length-append (history (and_then w.run r next.0) r) (next.2 r).0 in
        let one = ap length same in
        let two = ap length is.same in
        absurd (omega (arith, own, whole, sum, one, two))

-- and it is so still where others went on
pub keeps_further : (mode : SendMode) → (start : ℕ → State) (n : ℕ) (P C : List Passed) (r : ℕ) → IsPartOf P C → history C r ≡ history P r → KeepsActs mode start n P r
    → KeepsActs mode start n C r
keeps_further mode start n P C r part same keeps D act whole part' same' may =
    let before =
    keeps D act whole (λ z. IsBeginning-trans (history P z) (history C z) (history D z) (part z) (part' z)) (same' ∙ same) may in
    (follows_both mode start n P C r act part same before).0
