-- What a simulation keeps: a step of a rank leads on by inner steps, and an act makes the run one act longer.
use Rattle.std.proofs.Common.{◌≡◌, ℕ, zero, suc, ◌+◌, ◌*◌, ◌<◌, ◌≤◌, List, [], ◌∷◌, ◌++◌, Some, length, refl, sym, ap, ◌∙◌, subst, arith, slice_get}
use Rattle.std.proofs.Common.{◌⊎◌, inl, inr}
use Rattle.std.specs.Prelude.{slice_set, slice_index_or, replicate}
use Rattle.std.proofs.lemmas.List.{length-set}
use Rattle.std.proofs.lemmas.Option.{slice_get_within}
use Rattle.limits.specs.Limits.{most_ranks}
use Rattle.rank_language.specs.Program.{ProgramValue}
use Rattle.rank_machine.specs.States.{State, Inners, here, inner, opening}
use Rattle.rank_machine.specs.Wants.{wants}
use Rattle.rank_machine.specs.Acts.{Act, Makes, Runs}
use Rattle.rank_machine.specs.Machine.{MachineValue, state_of, GoesOn, KeepsRank}
use Rattle.rank_machine.proofs.Striding.{Inners-push}
use Rattle.crash_free.specs.Runs.{Passed, history, looked_up, IsFree, IsRun}
use Rattle.crash_free.specs.Sim.{start_of, inbound_of, IsAfter, Begins, AreBegun}
use Rattle.crash_free.specs.Slots.{Slot, IsMail, IsRanks, IsKept}
use Rattle.crash_free.proofs.Steps.{Inners-append, Runs-push}
use Rattle.crash_free.proofs.Lists.{history-own, history-other, push_cases}

-- what stands in a list after a write: what was written, or what was there
pub set_cases : {A : Type 0} (xs : List A) (i : ℕ) (y : A) (k : ℕ) (x : A) → slice_get (slice_set xs i y) k ≡ Some x
    → ((i ≡ k) × (x ≡ y)) ⊎ ((i ≡ k → ⊥) × (slice_get xs k ≡ Some x))
set_cases [] i y k x e = cc
set_cases (z ∷ xs) zero y zero x e = inl (refl, cc)
set_cases (z ∷ xs) zero y (suc k) x e = inr ((λ q. cc), e)
set_cases (z ∷ xs) (suc i) y zero x e = inr ((λ q. cc), e)
set_cases (z ∷ xs) (suc i) y (suc k) x e = more (set_cases xs i y k x e)
  where
    more : ((i ≡ k) × (x ≡ y)) ⊎ ((i ≡ k → ⊥) × (slice_get xs k ≡ Some x)) → ((suc i ≡ suc k) × (x ≡ y)) ⊎ ((suc i ≡ suc k → ⊥) × (slice_get xs k ≡ Some x))
    more (inl h) = inl (ap suc h.0, h.1)
    more (inr h) = inr ((λ q. h.0 (omega (arith, q))), h.1)

-- what was written stands there
pub set_there : {A : Type 0} (xs : List A) (i : ℕ) (y : A) → i < length xs → slice_get (slice_set xs i y) i ≡ Some y
set_there [] i y low = absurd (omega arith)
set_there (x ∷ xs) zero y low = refl
set_there (x ∷ xs) (suc i) y low = set_there xs i y (omega arith)

-- what stands at another place of a list stays where one is written
pub set_apart : {A : Type 0} (xs : List A) (i : ℕ) (y : A) (k : ℕ) → (k ≡ i → ⊥) → slice_get (slice_set xs i y) k ≡ slice_get xs k
set_apart [] i y k apart = refl
set_apart (x ∷ xs) zero y zero apart = absurd (apart refl)
set_apart (x ∷ xs) zero y (suc k) apart = refl
set_apart (x ∷ xs) (suc i) y zero apart = refl
set_apart (x ∷ xs) (suc i) y (suc k) apart = set_apart xs i y k (λ e. apart (ap suc e))

-- an internal step leaves whose machine it is
keeps_rank : (m m' : MachineValue) → GoesOn m m' → KeepsRank m m'
keeps_rank m m' g = record { program = g.program; rank = g.rank; size = g.size }

-- so it stays this rank's machine, of the same program and among as many ranks
ranks_kept : (program : ProgramValue) (n r : ℕ) (m m' : MachineValue) → KeepsRank m m' → IsRanks program n r m → IsRanks program n r m'
ranks_kept program n r m m' k i = record { program_same = k.program ∙ i.program_same; rank = k.rank ∙ i.rank; size = k.size ∙ i.size }

-- a rank's machine stands, by inner steps, after its history
abbrev Stands : ProgramValue → ℕ → List Passed → ℕ → MachineValue → Type 0
Stands program n C r m = (after : State) × Runs (start_of program n r) (history C r) after × Inners after (state_of m)

-- with another machine of one rank, and perhaps more acts
kept_with : (program : ProgramValue) (machines : List MachineValue) (channels channels' : List (List Slot)) (C C' : List Passed) (r : ℕ) (m m' : MachineValue)
    → IsKept program machines channels C → slice_get machines r ≡ Some m → KeepsRank m m' → IsRun (start_of program (length machines)) (length machines) C'
    → Stands program (length machines) C' r m' → ((q : ℕ) → (r ≡ q → ⊥) → history C' q ≡ history C q) → IsMail (length machines) channels' C'
    → IsKept program (slice_set machines r m') channels' C'
kept_with program machines channels channels' C C' r m m' kept there keeps run stands others mail =
    record {
      simulates = record { is_run = rw same run; ranks = λ q x at. rw same (each q x (set_cases machines r m' q x at)) };
      ranks = λ q x at. rw same (each_rank q x (set_cases machines r m' q x at));
      some = rw same kept.some;
      few = rw same kept.few;
      mail = rw same mail;
    }
  where
    same : length (slice_set machines r m') ≡ length machines
    same = length-set machines r m'

    each : (q : ℕ) (x : MachineValue) → ((r ≡ q) × (x ≡ m')) ⊎ ((r ≡ q → ⊥) × (slice_get machines q ≡ Some x)) → Stands program (length machines) C' q x
    each q x (inl h) = subst (λ z. Stands program (length machines) C' z x) h.0 (subst (λ z. Stands program (length machines) C' r z) (sym h.1) stands)
    each q x (inr h) =
        let old = kept.simulates.ranks q x h.1 in
        (old.0, subst (λ z. Runs (start_of program (length machines) q) z old.0) (sym (others q h.0)) old.1, old.2)

    each_rank : (q : ℕ) (x : MachineValue) → ((r ≡ q) × (x ≡ m')) ⊎ ((r ≡ q → ⊥) × (slice_get machines q ≡ Some x)) → IsRanks program (length machines) q x
    each_rank q x (inl h) =
        subst (λ z. IsRanks program (length machines) z x) h.0
        (subst (λ z. IsRanks program (length machines) r z) (sym h.1) (ranks_kept program (length machines) r m m' keeps (kept.ranks r m there)))
    each_rank q x (inr h) = kept.ranks q x h.1

-- an internal step of a rank
pub kept_step : (program : ProgramValue) (machines : List MachineValue) (channels : List (List Slot)) (C : List Passed) (r : ℕ) (m m' : MachineValue)
    → IsKept program machines channels C → slice_get machines r ≡ Some m → GoesOn m m' → IsKept program (slice_set machines r m') channels C
kept_step program machines channels C r m m' kept there goes =
    kept_with program machines channels channels C C r m m' kept there (keeps_rank m m' goes) kept.simulates.is_run
    (further goes.state) (λ q never. refl) kept.mail
  where
    further : (inner (state_of m) ≡ Some (state_of m')) ⊎ (state_of m' ≡ state_of m) → Stands program (length machines) C r m'
    further (inl e) = let old = kept.simulates.ranks r m there in (old.0, old.1, Inners-push old.2 e)
    further (inr e) = let old = kept.simulates.ranks r m there in (old.0, old.1, subst (λ z. Inners old.0 z) (sym e) old.2)

-- steps of its own of a rank, whatever their number
pub kept_inside : (program : ProgramValue) (machines : List MachineValue) (channels : List (List Slot)) (C : List Passed) (r : ℕ) (m m' : MachineValue)
    → IsKept program machines channels C → slice_get machines r ≡ Some m → KeepsRank m m' → Inners (state_of m) (state_of m')
    → IsKept program (slice_set machines r m') channels C
kept_inside program machines channels C r m m' kept there keeps inners =
    let old = kept.simulates.ranks r m there in
    kept_with program machines channels channels C C r m m' kept there keeps kept.simulates.is_run (old.0, old.1, Inners-append old.2 inners)
    (λ q never. refl) kept.mail

-- an act of a rank
pub kept_act : (program : ProgramValue) (machines : List MachineValue) (channels channels' : List (List Slot)) (C : List Passed) (r : ℕ) (m m' : MachineValue)
    (act : Act)
    → IsKept program machines channels C → slice_get machines r ≡ Some m
    → Makes (state_of m) act (looked_up (inbound_of C r) act) → IsFree (wants (state_of m)) act (inbound_of C r) (history C r)
    → IsAfter m act (looked_up (inbound_of C r) act) m' → IsMail (length machines) channels' (record { rank = r; act = act } ∷ C)
    → IsKept program (slice_set machines r m') channels' (record { rank = r; act = act } ∷ C)
kept_act program machines channels channels' C r m m' act kept there makes free after mail =
    kept_with program machines channels channels' C (record { rank = r; act = act } ∷ C) r m m' kept there after.stays (
      kept.simulates.is_run,
      slice_get_within machines r m there,
      record
          { after = old.0; stands = state_of m; reached = old.1; inner = old.2; makes = makes; free = free },
    )
    (state_of m', further, here) (λ q never. history-other C (record { rank = r; act = act }) q never) mail
  where
    old : Stands program (length machines) C r m
    old = kept.simulates.ranks r m there

    further : Runs (start_of program (length machines) r) (history (record { rank = r; act = act } ∷ C) r) (state_of m')
    further =
        subst (λ h. Runs (start_of program (length machines) r) h (state_of m')) (sym (history-own C r act))
        (Runs-push (start_of program (length machines) r) old.0 (state_of m') (history C r) (act, looked_up (inbound_of C r) act) old.1
        (state_of m, old.2, makes, after.state))

abbrev no_slots : List Slot
no_slots = []

-- no act has been made
kept_new : (program : ProgramValue) (machines : List MachineValue) (n : ℕ) → 1 ≤ n → n ≤ most_ranks → length machines ≡ n
    → ((r : ℕ) (m : MachineValue) → slice_get machines r ≡ Some m → IsRanks program n r m × (state_of m ≡ opening program r n))
    → IsKept program machines (replicate (most_ranks * n) []) []
kept_new program machines n some few long each =
    record {
      simulates = record { is_run = tt; ranks = λ r m at. (opening program r (length machines), refl, begun r m at) };
      ranks = λ r m at. rw long (each r m at).0;
      some = rw long some;
      few = rw long few;
      mail = record {
        size = length_replicate (most_ranks * n) ∙ ap (λ z. most_ranks * z) (sym long);
        each = λ r s rank source. none (most_ranks * n) (most_ranks * r + s);
      };
    }
  where
    begun : (r : ℕ) (m : MachineValue) → slice_get machines r ≡ Some m → Inners (opening program r (length machines)) (state_of m)
    begun r m at = subst (λ z. Inners (opening program r (length machines)) z) (sym (rw long (each r m at).1)) here

    length_replicate : (k : ℕ) → length (replicate k no_slots) ≡ k
    length_replicate zero = refl
    length_replicate (suc k) = ap suc (length_replicate k)

    none : (k i : ℕ) → slice_index_or (replicate k no_slots) i [] ≡ []
    none zero i = refl
    none (suc k) zero = refl
    none (suc k) (suc i) = none k i

-- one more machine at its beginning
pub begun_push : (program : ProgramValue) (n : ℕ) (machines : List MachineValue) (m : MachineValue) → AreBegun program n machines
    → Begins program n (length machines) m → AreBegun program n (machines ++ m ∷ [])
begun_push program n machines m begun begins r x at = go (push_cases machines m r x at)
  where
    go : (slice_get machines r ≡ Some x) ⊎ ((r ≡ length machines) × (x ≡ m)) → Begins program n r x
    go (inl old) = begun r x old
    go (inr new) = rw (new.0, new.1) begins

-- what machines at their beginning keep
pub kept_begun : (program : ProgramValue) (machines : List MachineValue) (n : ℕ) → 1 ≤ n → n ≤ most_ranks → length machines ≡ n → AreBegun program n machines
    → IsKept program machines (replicate (most_ranks * n) []) []
kept_begun program machines n some few long begun =
    kept_new program machines n some few long (λ r m at. let b = begun r m at in
    (record { program_same = b.program_same; rank = ap (λ s. s.rank) b.store; size = ap (λ s. s.size) b.store }, b.state))
