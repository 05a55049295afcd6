-- What a simulation keeps is a point of its run, behind all acts.
use Rattle.std.proofs.Common.{◌≡◌, ℕ, ℤ, List, length, sym, ap, subst, ◌∙◌, arith}
use Rattle.std.specs.Prelude.{reverse}
use Rattle.std.proofs.lemmas.List.{length-reverse}
use Rattle.rank_language.specs.Program.{ProgramValue}
use Rattle.rank_machine.specs.Machine.{MachineValue}
use Rattle.crash_free.specs.Runs.{Passed}
use Rattle.crash_free.specs.Sim.{SimValue}
use Rattle.crash_free.specs.Slots.{Slot, IsKept}
use Rattle.crash_free.specs.Lines.{AreLines}
use Rattle.crash_free.specs.Points.{first_acts, IsPointOf}
use Rattle.crash_free.proofs.Choosing.{value_of}
use Rattle.crash_free.proofs.Points.{first_all}

-- so are copies of it
pub is_point : {program : ProgramValue} {machines : List MachineValue} {now : SimValue} {channels : List (List Slot)} {lines : List (List ℤ)}
    (acts : List Passed) (ms : List MachineValue) (cs : List (List Slot)) (ls : List (List ℤ)) (made : ℕ)
    → value_of program machines (reverse acts) ≡ now → IsKept program machines channels (reverse acts) → AreLines lines (reverse acts)
    → ms ≡ machines → cs ≡ channels → ls ≡ lines → made ≡ length acts
    → IsPointOf now.program (length now.machines) now.run (record { machines = ms; channels = cs; lines = ls; made = made })
is_point {program} {machines} {now} {channels} {lines} acts ms cs ls made seen kept shown is_ms is_cs is_ls is_made =
    subst (λ (n : SimValue). IsPointOf n.program (length n.machines) n.run (record { machines = ms; channels = cs; lines = ls; made = made })) seen
    (record {
      within = omega (arith, size, is_made);
      ranks = ap length is_ms;
      kept = rw (is_ms, is_cs, all) kept;
      lines = rw (is_ls, all) shown;
    })
  where
    size : length (reverse acts) ≡ length acts
    size = length-reverse acts

    all : first_acts made (reverse acts) ≡ reverse acts
    all = ap (λ k. first_acts k (reverse acts)) (is_made ∙ sym size) ∙ first_all (reverse acts)
