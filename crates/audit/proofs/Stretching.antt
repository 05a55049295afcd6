-- Steps of their own that ranks make side by side keep to the outcome, and are counted.
use Rattle.std.proofs.Common.{◌≡◌, ℕ, suc, ◌+◌, ◌≤◌, List, [], ◌∷◌, Some, length, slice_get, sum, refl, sym, subst, ◌∙◌, arith}
use Rattle.std.specs.Prelude.{IsSomeAnd}
use Rattle.std.proofs.lemmas.List.Sums.{sum_by-cons}
use Rattle.std.proofs.lemmas.Option.{slice_get_within}
use Rattle.rank_machine.specs.Machine.{MachineValue, still}
use Rattle.crash_free.specs.Runs.{history, printed}
use Rattle.crash_free.specs.Sim.{SimValue, Simulates}
use Rattle.crash_free.specs.Advances.{Advances, first_machine}
use Rattle.crash_free.specs.Parts.{IsBeginning}
use Rattle.crash_free.specs.SideBySide.{MakesSteps, GoSideBySide}
use Rattle.crash_free.proofs.Advancing.{Advances-stride}
use Rattle.crash_free.proofs.Lists.{there_is}
use Rattle.audit.specs.Outcome.{OutcomeValue, lines_of}
use Rattle.audit.specs.Rows.{row, expand}
use Rattle.audit.specs.Trace.{TraceValue}
use Rattle.audit.specs.Audits.{Keeps, GoesTo}
use Rattle.audit.specs.Playing.{HasLeft, PlayAll}
use Rattle.audit.proofs.Reaching.{some_there}
use Rattle.audit.proofs.Steps.{goes_same}

-- no rank makes a step
pub side_by_side_none : (s : SimValue) (left : List ℕ) → length left ≡ length s.machines → GoSideBySide s left left s
side_by_side_none s left width = record {
  program = refl;
  run = refl;
  ranks = refl;
  width = refl;
  each = λ r k j at at'.
      let low = slice_get_within left r k at in
      let m = there_is s.machines r (omega (arith, low, width)) in
      let both : Some k ≡ Some j = sym at ∙ at' in
      let same : k ≡ j = cc in
      rw m.1 (subst (λ l. MakesSteps k l m.0 m.0) same (record { made = 0; sum = omega arith; strides = still }));
}

-- what one rank made, as a machine
made_there : (s s' : SimValue) (left left' : List ℕ) (r k j : ℕ) → GoSideBySide s left left' s' → slice_get left r ≡ Some k → slice_get left' r ≡ Some j
    → (m : MachineValue) × (slice_get s.machines r ≡ Some m) × ((m' : MachineValue) × (slice_get s'.machines r ≡ Some m') × MakesSteps k j m m')
made_there s s' left left' r k j goes at at' =
    let m = some_there (slice_get s.machines r) (λ m. IsSomeAnd (slice_get s'.machines r) (MakesSteps k j m)) (goes.each r k j at at') in
    (m.0, m.1, some_there (slice_get s'.machines r) (MakesSteps k j m.0) m.2)

-- a rank that made steps has as many fewer left
made_left : (s s' : SimValue) (r total k j : ℕ) (m m' : MachineValue) → s'.program ≡ s.program → s'.run ≡ s.run → length s'.machines ≡ length s.machines
    → slice_get s.machines r ≡ Some m → slice_get s'.machines r ≡ Some m' → MakesSteps k j m m' → HasLeft s r total k → HasLeft s' r total j
made_left s s' r total k j m m' program run ranks at at' steps has =
    let first = first_machine s.program (length s.machines) r in
    let before : Advances has.made first (history s.run r) m =
    subst (λ z. IsSomeAnd z (λ m. Advances has.made first (history s.run r) m)) at has.advances in
    let now_left = steps.sum in
    let sum = has.sum in
    record {
      made = has.made + steps.made;
      sum = omega (arith, sum, now_left);
      advances = rw (at', program, ranks, run) (Advances-stride has.made steps.made first m m' (history s.run r) before steps.strides);
      clocked = rw run has.clocked;
    }

-- all ranks play on
pub plays_side_by_side : (o : OutcomeValue) (s s' : SimValue) (left left' : List ℕ) → GoSideBySide s left left' s' → PlayAll o left left' s s'
plays_side_by_side o s s' left left' goes = record {
  within = λ within. record {
    rows = λ q events there. subst (λ C. IsBeginning (row C q) (expand events)) (sym goes.run) (within.rows q events there);
    lines = λ q. subst (λ C. IsBeginning (printed C q) (lines_of q o.lines)) (sym goes.run) (within.lines q);
  };
  each = λ r total k j at at' has.
      let m = made_there s s' left left' r k j goes at at' in
      made_left s s' r total k j m.0 m.2.0 goes.program goes.run goes.ranks m.1 m.2.1 m.2.2 has;
}

-- no list of numbers has a greater sum than one that is nowhere smaller
sum_up_to : (xs ys : List ℕ) → length xs ≡ length ys → ((r k j : ℕ) → slice_get ys r ≡ Some k → slice_get xs r ≡ Some j → j ≤ k) → sum xs ≤ sum ys
sum_up_to [] [] width each = omega arith
sum_up_to [] (y ∷ ys) width each = absurd (omega (arith, width))
sum_up_to (x ∷ xs) [] width each = absurd (omega (arith, width))
sum_up_to (x ∷ xs) (y ∷ ys) width each =
    let first : x ≤ y = each 0 y x refl refl in
    let rest : sum xs ≤ sum ys = sum_up_to xs ys (omega (arith, width)) (λ r k j at at'. each (suc r) k j at at') in
    rw (sum_by-cons (λ (n : ℕ). n) x xs, sum_by-cons (λ (n : ℕ). n) y ys) (omega (arith, first, rest))

-- no rank has more steps left
pub few_side_by_side : (s s' : SimValue) (left left' : List ℕ) → GoSideBySide s left left' s' → sum left' ≤ sum left
few_side_by_side s s' left left' goes =
    sum_up_to left' left goes.width (λ r k j at at'. (let steps = (made_there s s' left left' r k j goes at at').2.2 in let left_now = steps.sum in omega (arith, left_now)))

-- and the traces stay kept
pub goes_side_by_side : (s s' : SimValue) (left left' : List ℕ) (traces : List TraceValue) → Keeps s traces → GoSideBySide s left left' s' → Simulates s'
    → GoesTo s s' traces
goes_side_by_side s s' left left' traces kept goes simulates = goes_same s s' traces kept goes.program goes.run goes.ranks simulates
