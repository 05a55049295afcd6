-- Steps of its own that one rank makes in succession: what they leave, and where they end.
use Rattle.std.proofs.Common.{◌≡◌, ℕ, List, Some, refl, ◌⊎◌, slice_get}
use Rattle.std.specs.Prelude.{◌≢◌, slice_set}
use Rattle.std.proofs.lemmas.List.{length-set}
use Rattle.std.proofs.lemmas.Option.{slice_get_within}
use Rattle.rank_language.specs.Program.{ProgramValue}
use Rattle.rank_machine.specs.declared.want.Want.TheVariants as want
use Rattle.rank_machine.specs.Wants.{wants}
use Rattle.rank_machine.specs.Machine.{MachineValue, state_of, machine_want, Strides}
use Rattle.crash_free.specs.Runs.{Passed}
use Rattle.crash_free.specs.Wanted.{StandsAtAct}
use Rattle.crash_free.specs.Inside.{GoesInside}
use Rattle.crash_free.proofs.Keeping.{set_there, set_apart}
use Rattle.crash_free.proofs.Choosing.{value_of}

-- the machine of one rank goes on, and all else stays
pub goes_inside : (program : ProgramValue) (machines : List MachineValue) (C : List Passed) (r n : ℕ) (m m' : MachineValue)
    → slice_get machines r ≡ Some m → Strides n m m'
    → GoesInside (value_of program machines C) r n (value_of program (slice_set machines r m') C)
goes_inside program machines C r n m m' there strides =
    record {
      program = refl;
      run = refl;
      ranks = length-set machines r m';
      strides = rw (there, set_there machines r m' (slice_get_within machines r m there)) strides;
      others = λ q apart. set_apart machines r m' q apart;
    }

-- a machine that asks for no step of its own stands at an act, or has ended
pub stands_at : (machines : List MachineValue) (r : ℕ) (m m' : MachineValue) → slice_get machines r ≡ Some m
    → (machine_want m' ≡ want.Internal) ⊎ (machine_want m' ≡ wants (state_of m')) → machine_want m' ≢ want.Internal → StandsAtAct (slice_set machines r m') r
stands_at machines r m m' there from apart =
    (machine_want m', rw (set_there machines r m' (slice_get_within machines r m there)) (record { at_want = refl; from_state = from }), apart)
