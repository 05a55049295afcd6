-- Steps, sends, prints and misses: each is allowed where the rank's machine asks for it, and what a simulation keeps stays kept.
use Rattle.std.proofs.Common.{◌≡◌, ℕ, ℤ, ◌<◌, List, [], ◌∷◌, Some, None, length, refl, sym, ◌∙◌, subst, slice_get, get_or, ◌++◌, ◌⊎◌, inl, inr}
use Rattle.std.specs.Prelude.{slice_set, position, IsSomeAnd}
use Rattle.std.proofs.lemmas.Option.{slice_get_within, slice_get_read}
use Rattle.matching.specs.declared.packet.Context.{Context}
use Rattle.matching.specs.declared.selector.Selector.{Selector}
use Rattle.rank_language.specs.Program.{ProgramValue}
use Rattle.rank_machine.specs.declared.want.Want.{Want}
use Rattle.rank_machine.specs.declared.want.Want.TheVariants as want
use Rattle.rank_machine.specs.Wants.{wants, payload, IsLegal}
use Rattle.rank_machine.specs.Acts.{Act, sends, misses, prints, Makes, next}
use Rattle.rank_machine.specs.Machine.{MachineValue, state_of, machine_want, GoesOn, next_of, IsTrying, KeepsRank}
use Rattle.crash_free.specs.declared.choice.Choice.{Choice}
use Rattle.crash_free.specs.declared.choice.Choice.TheVariants as choice
use Rattle.crash_free.specs.Runs.{Passed, history, looked_up, IsFree}
use Rattle.std.proofs.lemmas.List.{reverse-append}
use Rattle.std.specs.Prelude.{reverse}
use Rattle.crash_free.specs.Sim.{SimValue, start_of, makes, meant, inbound_of, IsAfter, IsFreeAt, Does, Allows}
use Rattle.crash_free.specs.Slots.{Slot, IsKept}
use Rattle.crash_free.specs.Wanted.{Wants, WantsAt}
use Rattle.crash_free.proofs.MailLemmas.{mail_print, mail_miss, mail_send, with_slot}
use Rattle.crash_free.proofs.Keeping.{set_there, kept_act}

-- what a machine asks for that is no step of its own its state wants
pub wants_it : (m : MachineValue) (w : Want) → Wants m w → (want.Internal ≡ w → ⊥) → wants (state_of m) ≡ w
wants_it m w a no_step = go a.from_state
  where
    go : (machine_want m ≡ want.Internal) ⊎ (machine_want m ≡ wants (state_of m)) → wants (state_of m) ≡ w
    go (inl e) = absurd (no_step (sym e ∙ a.at_want))
    go (inr e) = sym e ∙ a.at_want

-- the simulation of these parts
abbrev pub value_of : ProgramValue → List MachineValue → List Passed → SimValue
value_of program machines C = record { program = program; machines = machines; run = C }

-- what is done of the machine of a rank is allowed
allows_at : (s s' : SimValue) (r : ℕ) (m m' : MachineValue) (c : Choice) → slice_get s.machines r ≡ Some m → slice_get s'.machines r ≡ Some m'
    → Does (meant m c) s r m m' s' → Allows s r c s'
allows_at s s' r m m' c there there' does = rw (there, there') does

-- the step that a machine asks for is allowed
pub allowed_step : (program : ProgramValue) (machines : List MachineValue) (C : List Passed) (r : ℕ) (m m' : MachineValue)
    → slice_get machines r ≡ Some m → Wants m want.Internal → GoesOn m m'
    → Allows (value_of program machines C) r choice.Next (value_of program (slice_set machines r m') C)
allowed_step program machines C r m m' there a goes =
    allows_at (value_of program machines C) (value_of program (slice_set machines r m') C) r m m' choice.Next there
    (set_there machines r m' (slice_get_within machines r m there)) (rw a.at_want (goes, refl))

-- an act that a choice names is allowed where it is free
pub allowed_act : (program : ProgramValue) (machines : List MachineValue) (C : List Passed) (r : ℕ) (m m' : MachineValue) (c : Choice) (act : Act)
    → slice_get machines r ≡ Some m → meant m c ≡ makes act → IsFreeAt (value_of program machines C) r m act
    → IsAfter m act (looked_up (inbound_of C r) act) m'
    → Allows (value_of program machines C) r c (value_of program (slice_set machines r m') (record { rank = r; act = act } ∷ C))
allowed_act program machines C r m m' c act there means free after =
    allows_at (value_of program machines C) (value_of program (slice_set machines r m') (record { rank = r; act = act } ∷ C)) r m m' c there
    (set_there machines r m' (slice_get_within machines r m there)) (rw means (free, after, refl))

-- What a call has to show of an act: the choice is allowed, and what the simulation keeps stays kept.
pub record IsDone (program : ProgramValue) (machines : List MachineValue) (channels' : List (List Slot)) (C : List Passed) (r : ℕ) (m' : MachineValue)
    (c : Choice) (act : Act) : Type 0 where
  pub allowed : Allows (value_of program machines C) r c (value_of program (slice_set machines r m') (record { rank = r; act = act } ∷ C))
  pub kept : IsKept program (slice_set machines r m') channels' (record { rank = r; act = act } ∷ C)

-- a print is made
pub done_print : {program : ProgramValue} {machines : List MachineValue} {channels : List (List Slot)} {C : List Passed} {r : ℕ} {m m' : MachineValue} {v : ℤ}
    → IsKept program machines channels C → slice_get machines r ≡ Some m → Wants m (want.Print v)
    → Makes (state_of m) (prints v) None → state_of m' ≡ next (state_of m) (prints v) None → m'.position ≡ next_of m → KeepsRank m m'
    → IsDone program machines channels C r m' choice.Next (prints v)
done_print {program} {machines} {channels} {C} {r} {m} {m'} {v} kept there a made state position stays =
    let after : IsAfter m (prints v) None m' = record { state = state; position = position; stays = stays } in
    let free : IsFree (wants (state_of m)) (prints v) (inbound_of C r) (history C r) = tt in
    record {
      allowed = allowed_act program machines C r m m' choice.Next (prints v) there (rw a.at_want refl) free after;
      kept = kept_act program machines channels channels C r m m' (prints v) kept there made free after (mail_print (length machines) channels C r v kept.mail);
    }

-- a machine that asks for a probe that doesn't wait may miss
pub may_miss : {m : MachineValue} {w : Selector} → Wants m (want.TryProbe w) → IsTrying (machine_want m)
may_miss a = rw a.at_want tt

-- a miss is made
pub done_miss : {program : ProgramValue} {machines : List MachineValue} {channels : List (List Slot)} {C : List Passed} {r : ℕ} {m m' : MachineValue}
    {w : Selector}
    → IsKept program machines channels C → slice_get machines r ≡ Some m → Wants m (want.TryProbe w)
    → Makes (state_of m) misses None → state_of m' ≡ next (state_of m) misses None → m'.position ≡ next_of m → KeepsRank m m'
    → IsDone program machines channels C r m' choice.Miss misses
done_miss {program} {machines} {channels} {C} {r} {m} {m'} {w} kept there a made state position stays =
    let after : IsAfter m misses None m' = record { state = state; position = position; stays = stays } in
    let free : IsFree (wants (state_of m)) misses (inbound_of C r) (history C r) = tt in
    record {
      allowed = allowed_act program machines C r m m' choice.Miss misses there (rw a.at_want refl) free after;
      kept = kept_act program machines channels channels C r m m' misses kept there made free after (mail_miss (length machines) channels C r kept.mail);
    }

-- a send is made, and its message has a slot
pub done_send : {program : ProgramValue} {machines : List MachineValue} {channels : List (List Slot)} {C : List Passed} {r : ℕ} {m m' : MachineValue}
    {dest : ℕ} {context : Context} {tag : ℕ}
    → IsKept program machines channels C → slice_get machines r ≡ Some m → Wants m (want.Send dest context tag) → dest < length machines
    → Makes (state_of m) (sends dest context tag (payload (state_of m))) None
    → state_of m' ≡ next (state_of m) (sends dest context tag (payload (state_of m))) None → m'.position ≡ next_of m → KeepsRank m m'
    → IsDone program machines (with_slot channels r dest context tag (payload (state_of m))) C r m' choice.Next (sends dest context tag (payload (state_of m)))
done_send {program} {machines} {channels} {C} {r} {m} {m'} {dest} {context} {tag} kept there a receiver made state position stays =
    let act : Act = sends dest context tag (payload (state_of m)) in
    let after : IsAfter m act None m' = record { state = state; position = position; stays = stays } in
    let free : IsFree (wants (state_of m)) act (inbound_of C r) (history C r) = tt in
    record {
      allowed = allowed_act program machines C r m m' choice.Next act there (rw a.at_want refl) free after;
      kept = kept_act program machines channels _ C r m m' act kept there made free after
          (mail_send (start_of program (length machines)) (length machines) channels C r dest context tag (payload (state_of m)) kept.simulates.is_run
          kept.mail kept.few
          (slice_get_within machines r m there) receiver);
    }

-- what the machine of a rank asks for
pub wants_there : (machines : List MachineValue) (r : ℕ) (w : Want) (m : MachineValue) → WantsAt machines r w → slice_get machines r ≡ Some m → Wants m w
wants_there machines r w m machine_want there = subst (λ o. IsSomeAnd o (λ x. Wants x w)) there machine_want

-- the machine that a call reads is its rank's
pub read_machine : (now : SimValue) (program : ProgramValue) (machines : List MachineValue) (C : List Passed) (k r : ℕ) (m : MachineValue)
    → value_of program machines C ≡ now → k ≡ r → r < length now.machines → m ≡ get_or machines k m → slice_get machines r ≡ Some m
read_machine now program machines C k r m seen place low read =
    subst (λ z. slice_get machines z ≡ Some m) place (slice_get_read machines (length machines) k m refl inside read)
  where
    inside : k < length machines
    inside = rw place (subst (λ (s : SimValue). r < length s.machines) (sym seen) low)

-- and asks for what the call asks
pub found_machine : {now : SimValue} {program : ProgramValue} {machines : List MachineValue} {C : List Passed} {k r : ℕ} {m : MachineValue} (w : Want)
    → value_of program machines C ≡ now → k ≡ r → r < length now.machines → WantsAt now.machines r w → m ≡ get_or machines k m
    → (slice_get machines r ≡ Some m) × Wants m w
found_machine {now} {program} {machines} {C} {k} {r} {m} w seen place low machine_want read =
    let there = read_machine now program machines C k r m seen place low read in
    (there, wants_there machines r w m (subst (λ (s : SimValue). WantsAt s.machines r w) (sym seen) machine_want) there)

-- what it wants names ranks that there are
pub legal_there : (now : SimValue) (program : ProgramValue) (machines : List MachineValue) (channels : List (List Slot)) (C : List Passed) (k r : ℕ)
    (m : MachineValue) (w : Want)
    → value_of program machines C ≡ now → IsKept program machines channels C → k ≡ r → r < length now.machines → m ≡ get_or machines k m
    → IsLegal m.store.size w → IsLegal (length now.machines) w
legal_there now program machines channels C k r m w seen kept place low read legal =
    let there = read_machine now program machines C k r m seen place low read in
    subst (λ (s : SimValue). IsLegal (length s.machines) w) seen (subst (λ n. IsLegal n w) (kept.ranks r m there).size legal)

-- a run with one more act, newest first
pub run_push : (acts : List Passed) (p : Passed) → reverse (acts ++ p ∷ []) ≡ p ∷ reverse acts
run_push acts p = reverse-append acts (p ∷ [])
