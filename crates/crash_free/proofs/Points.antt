-- Beginnings of a run, and points of it: they stay points of each run that begins with the same acts.
use Rattle.std.proofs.Common.{◌≡◌, ℕ, ℤ, zero, suc, ◌≤◌, ◌-◌, ◌+◌, List, [], ◌∷◌, ◌++◌, length, refl, sym, ap, subst, ◌∙◌, arith, Bool}
use Rattle.std.specs.Prelude.{drop, reverse, take, Some, slice_get}
use Rattle.std.proofs.lemmas.List.{append_assoc, length-append, length-reverse, length-take-le, reverse-append, reverse-reverse, take-append-drop}
use Rattle.rank_language.specs.Program.{ProgramValue}
use Rattle.crash_free.specs.Runs.{Passed}
use Rattle.crash_free.specs.Points.{PointValue, first_acts, GoesBehind, IsPointOf, stood, AreUnmoved}
use Rattle.rank_machine.specs.Machine.{MachineValue}
use Rattle.crash_free.specs.Sim.{SimValue}
use Rattle.crash_free.specs.Slots.{Slot, IsKept}
use Rattle.crash_free.specs.Lines.{AreLines}
use Rattle.crash_free.proofs.Choosing.{value_of}

-- one run behind another
pub behind_further : (A B C : List Passed) → GoesBehind A B → GoesBehind B C → GoesBehind A C
behind_further A B C a b = (b.0 ++ a.0, b.1 ∙ ap (λ X. b.0 ++ X) a.1 ∙ sym (append_assoc b.0 a.0 A))

-- is as long or longer
pub behind_longer : (C C' : List Passed) → GoesBehind C C' → length C ≤ length C'
behind_longer C C' b =
    let size = ap length b.1 in
    let sum = length-append b.0 C in
    omega (arith, size, sum)

-- the first acts of a run are those of one behind it
first_later : (k : ℕ) (later C : List Passed) → k ≤ length C → first_acts k (later ++ C) ≡ first_acts k C
first_later k [] C low = refl
first_later k (p ∷ later) C low =
    let sum : length (later ++ C) ≡ length later + length C = length-append later C in
    let size : length (p ∷ (later ++ C)) ≡ suc (length (later ++ C)) = refl in
    let one : length (p ∷ (later ++ C)) - k ≡ suc (length (later ++ C) - k) = omega (arith, sum, size, low) in
    ap (λ j. drop j (p ∷ (later ++ C))) one ∙ first_later k later C low

-- so they are of a run that goes behind
pub first_behind : (k : ℕ) (C C' : List Passed) → GoesBehind C C' → k ≤ length C → first_acts k C' ≡ first_acts k C
first_behind k C C' b low = ap (first_acts k) b.1 ∙ first_later k b.0 C low

-- all of them are the run
pub first_all : (C : List Passed) → first_acts (length C) C ≡ C
first_all C =
    let none : length C - length C ≡ 0 = omega arith in
    ap (λ k. drop k C) none

-- so many acts in their order, turned around, are the first
pub first_taken : (k : ℕ) (C acts : List Passed) → acts ≡ reverse C → k ≤ length acts → reverse (take k acts) ≡ first_acts k C
first_taken k C acts same low =
    sym (first_all (reverse (take k acts))) ∙ ap (λ j. first_acts j (reverse (take k acts))) size
    ∙ sym (first_behind k (reverse (take k acts)) C parts (omega (arith, size)))
  where
    size : length (reverse (take k acts)) ≡ k
    size =
        let one = length-reverse (take k acts) in
        let two = length-take-le k acts low in
        one ∙ two

    parts : GoesBehind (reverse (take k acts)) C
    parts = (
      reverse (drop k acts),
      sym (reverse-reverse C) ∙ ap reverse (sym same) ∙ ap reverse (sym (take-append-drop k acts)) ∙ reverse-append (take k acts) (drop k acts),
    )

-- a run goes on behind what it begins with
pub first_before : (k : ℕ) (C : List Passed) → GoesBehind (first_acts k C) C
first_before k C = (take (length C - k) C, sym (take-append-drop (length C - k) C))

-- which has so many acts
pub first_long : (k : ℕ) (C : List Passed) → k ≤ length C → length (first_acts k C) ≡ k
first_long k C low = go C low
  where
    size : (j : ℕ) (xs : List Passed) → j ≤ length xs → length (drop j xs) + j ≡ length xs
    size zero xs l = omega arith
    size (suc j) [] l = absurd (omega (arith, l))
    size (suc j) (x ∷ xs) l = (let rest = size j xs (omega (arith, l)) in omega (arith, rest))

    go : (xs : List Passed) → k ≤ length xs → length (first_acts k xs) ≡ k
    go xs l = (let rest = size (length xs - k) xs (omega arith) in omega (arith, rest, l))

-- what a beginning begins with the run does
pub first_of_first : (j k : ℕ) (C : List Passed) → j ≤ k → k ≤ length C → first_acts j (first_acts k C) ≡ first_acts j C
first_of_first j k C low within =
    let size = first_long k C within in
    sym (first_behind j (first_acts k C) C (first_before k C) (omega (arith, size, low)))

-- the acts that are kept when a run is cut are its first ones
first_kept : (k : ℕ) (acts : List Passed) → k ≤ length acts → first_acts k (reverse acts) ≡ reverse (take k acts)
first_kept k acts low = sym (first_taken k (reverse acts) acts (sym (reverse-reverse acts)) low)

-- and the others stand before them
pub cut_parts : (k : ℕ) (acts : List Passed) → reverse (drop k acts) ++ reverse (take k acts) ≡ reverse acts
cut_parts k acts = sym (ap reverse (sym (take-append-drop k acts)) ∙ reverse-append (take k acts) (drop k acts))

-- a point of a run is one of each other run that begins with the acts before it
pub same_point : (program : ProgramValue) (n : ℕ) (C D : List Passed) (p : PointValue) → IsPointOf program n C p → p.made ≤ length D
    → first_acts p.made D ≡ first_acts p.made C → IsPointOf program n D p
same_point program n C D p point within same =
    record { within = within; ranks = point.ranks; kept = rw same point.kept; lines = rw same point.lines }

-- a simulation stands at a point where it is, once its run is made as long
pub record WentBack (now : SimValue) (p : PointValue) (machines : List MachineValue) (channels : List (List Slot)) (rows : List (List ℤ))
    (C later : List Passed) : Type 0 where
  pub kept : IsKept now.program machines channels C
  pub lines : AreLines rows C
  pub back : value_of now.program machines C ≡ stood now.program now.run p
  pub since : later ++ C ≡ now.run

-- what a point keeps, and the acts that were made before it, are what a simulation keeps
pub went_back : {program : ProgramValue} {machines : List MachineValue} {now : SimValue} {p q : PointValue} (acts : List Passed)
    → value_of program machines (reverse acts) ≡ now → q ≡ p → IsPointOf now.program (length now.machines) now.run p
    → WentBack now p q.machines q.channels q.lines (reverse (take q.made acts)) (reverse (drop q.made acts))
went_back {now = now} {p = p} {q = q} acts view same point =
    let run : reverse acts ≡ now.run = ap (λ (v : SimValue). v.run) view in
    let long : length (reverse acts) ≡ length now.run = ap length run in
    let size = length-reverse acts in
    let within : q.made ≤ length now.run = rw same point.within in
    let first : first_acts q.made now.run ≡ reverse (take q.made acts) =
    ap (first_acts q.made) (sym run) ∙ first_kept q.made acts (omega (arith, long, size, within)) in
    let kept : IsKept now.program q.machines q.channels (first_acts q.made now.run) = rw same point.kept in
    let lines : AreLines q.lines (first_acts q.made now.run) = rw same point.lines in
    record {
      kept = subst (λ C. IsKept now.program q.machines q.channels C) first kept;
      lines = subst (λ C. AreLines q.lines C) first lines;
      back = ap (λ C. value_of now.program q.machines C) (sym first) ∙ ap (λ (z : PointValue). stood now.program now.run z) same;
      since = cut_parts q.made acts ∙ run;
    }

-- at a point there are as many machines
pub as_many : {program : ProgramValue} {machines : List MachineValue} {C : List Passed} {now : SimValue} {p q : PointValue} → value_of program machines C ≡ now
    → q ≡ p → IsPointOf now.program (length now.machines) now.run p → length machines ≡ length q.machines
as_many view same point = ap (λ (v : SimValue). length v.machines) view ∙ sym point.ranks ∙ sym (ap (λ (z : PointValue). length z.machines) same)

-- and those without a move are the same
pub still_unmoved : {program : ProgramValue} {machines : List MachineValue} {C : List Passed} {now : SimValue} {p q : PointValue} (marks : List Bool)
    → value_of program machines C ≡ now → q ≡ p → AreUnmoved now.machines p.machines marks → AreUnmoved machines q.machines marks
still_unmoved marks view same unmoved = λ r marked.
    ap (λ (v : SimValue). slice_get v.machines r) view ∙ unmoved r marked ∙ sym (ap (λ (z : PointValue). slice_get z.machines r) same)

-- what stands at one place is one machine
pub one_there : {m other : MachineValue} → Some m ≡ Some other → m ≡ other
one_there e = cc
