-- Where states say how long their runs are, no run that stands among them is longer than all of these together.
use Rattle.std.proofs.Common.{◌≡◌, ℕ, zero, suc, ◌+◌, ◌≤◌, false, List, [], ◌∷◌, Some, length, slice_get, sym, ap, subst, ◌∙◌, arith}
use Rattle.rank_language.specs.Program.{ProgramValue}
use Rattle.crash_free.specs.Runs.{Passed}
use Rattle.crash_free.specs.Sim.{SimValue}
use Rattle.crash_free.specs.Standing.{Rows, no_rows, and_number, StandsAt}
use Rattle.crash_free.proofs.Appending.{ranks_behind}
use Rattle.explore.specs.Closing.{MeetsOne}
use Rattle.explore.specs.Met.{Kept, StandsBy}
use Rattle.explore.specs.declared.send_mode.SendMode.{SendMode}

-- the first number
abbrev first_number : List ℕ → ℕ
first_number [] = 0
first_number (k ∷ ks) = k

-- the lengths of these states together
abbrev pub longest : List Rows → ℕ
longest [] = 0
longest (rows ∷ states) = first_number rows.numbers + longest states

-- that of each is one of them
one_of_them : (states : List Rows) (i : ℕ) (rows : Rows) → slice_get states i ≡ Some rows → first_number rows.numbers ≤ longest states
one_of_them [] i rows e = absurd cc
one_of_them (x ∷ states) zero rows e =
    let same : x ≡ rows = cc in
    let number : first_number x.numbers ≡ first_number rows.numbers = ap (λ (z : Rows). first_number z.numbers) same in
    omega (arith, number)
one_of_them (x ∷ states) (suc i) rows e =
    let low = one_of_them states i rows e in
    omega (arith, low)

-- where a run stands begins with its length
begins_with : (program : ProgramValue) (n : ℕ) (C : List Passed) (rows : Rows) → StandsAt program n C rows → first_number rows.numbers ≡ length C
begins_with program n C rows at =
    let s : SimValue = record { program = program; machines = at.machines; run = C } in
    ap (λ (z : Rows). first_number z.numbers) (sym at.written ∙ ranks_behind at.table s (and_number no_rows (length C)) (length at.machines))

-- so no run that meets one is longer than all of them together
pub none_longer : (mode : SendMode) → (program : ProgramValue) (n : ℕ) (met : Kept) → met.closes ≡ false → (m : List Passed) → MeetsOne mode program n met m
    → length m ≤ longest met.states
none_longer mode program n met none m a =
    let at : StandsBy false program n a.run a.stood.0 = subst (λ closes. StandsBy closes program n a.run a.stood.0) none a.stood.2 in
    let low = one_of_them met.states a.stood.1.0 a.stood.0 a.stood.1.1 in
    let size = begins_with program n a.run a.stood.0 at in
    let same = a.as_long none in
    omega (arith, low, size, same)
