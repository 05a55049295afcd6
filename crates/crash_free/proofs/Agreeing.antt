-- A rank finished each collective that its store counts; and all ranks of a run keep the collective laws.
use Rattle.std.proofs.Common.{◌≡◌, ℕ, ◌+◌, ◌<◌, ◌≤◌, List, [], ◌∷◌, ◌++◌, Option, Some, length, slice_get, refl, sym, ap, ◌∙◌, arith, ◌⊎◌, inl, inr}
use Rattle.std.proofs.lemmas.Bool.{cases_lt}
use Rattle.std.proofs.lemmas.List.{append-nil}
use Rattle.rank_language.specs.Program.{ProgramValue}
use Rattle.rank_machine.specs.States.{State, Inners, here, inner, opening}
use Rattle.rank_machine.specs.Acts.{Message, Act, Runs, next}
use Rattle.rank_machine.specs.Machine.{MachineValue, state_of}
use Rattle.rank_machine.proofs.CollectiveParts.{within_at}
use Rattle.rank_machine.proofs.Striding.{Inners-push}
use Rattle.crash_free.specs.Runs.{Passed, History, history, IsRun}
use Rattle.crash_free.specs.Laws.{Moment, IsFirst, Finished, HasFinished, CollectiveLaws}
use Rattle.crash_free.specs.Sim.{SimValue, start_of, Simulates, CollectivesAgree}
use Rattle.crash_free.proofs.Steps.{Runs-push}
use Rattle.crash_free.proofs.Sound.{Sound, sound_inner}
use Rattle.crash_free.proofs.Acting.{sound_act}
use Rattle.crash_free.proofs.Collecting.{opens}
use Rattle.crash_free.proofs.BarrierLaw.{barrier_law}
use Rattle.crash_free.proofs.BroadcastLaw.{broadcast_law}
use Rattle.crash_free.proofs.ReduceLaw.{reduce_law}
use Rattle.crash_free.proofs.Counting.{AfterCall, Effect, own_effect, made_effect}
use Rattle.crash_free.proofs.Order.{Way, stay, own, act, moment_way, stood_ordinal, positive, one_call}

-- a step that counts k finished the kth collective, unless it was counted before
counted_here : (start : State) (h : History) (k : ℕ) (a b : State) (m : Moment start h a) → (inner a ≡ Some b) ⊎ IsFirst a m.later b → 0 < a.store.size
    → Effect a b → k ≤ b.store.finished → (k ≤ a.store.finished) ⊎ HasFinished start h k
counted_here start h k a b m step z (inl e) l = inl (let f = e.0 in omega (arith, f, l))
counted_here start h k a b m step z (inr e) l = by_call e.2
  where
    finished : b.store.finished ≡ a.store.finished + 1 → a.store.finished < k → Finished start h k e.0 a b
    finished f g =
        let o = stood_ordinal a e.0 z e.1 in
        record {
          went = record { moment = m; step = step };
          stood = e.1;
          ordinal = omega (arith, o, f, g, l);
          finished = omega (arith, f, g, l);
        }

    by_number : b.store.finished ≡ a.store.finished + 1 → (a.store.finished < k) ⊎ (k ≤ a.store.finished)
        → (k ≤ a.store.finished) ⊎ HasFinished start h k
    by_number f (inl g) = inr (e.0, a, b, finished f g)
    by_number f (inr g) = inl g

    by_call : AfterCall a e.0 b → (k ≤ a.store.finished) ⊎ HasFinished start h k
    by_call (inl f) = by_number f (cases_lt a.store.finished k)
    by_call (inr f) = inl (let g = f.0 in omega (arith, g, l))

-- along any way
counted_way : (r n k : ℕ) (start : State) (h before later l' : History) (reached a b : State) → r < n → h ≡ before ++ later
    → Runs start before reached → Inners reached a → Sound r n before a → Way a later b l' → k ≤ b.store.finished
    → (k ≤ a.store.finished) ⊎ HasFinished start h k
counted_way r n k start h before later l' reached a b lt whole runs inners w stay l = inl l
counted_way r n k start h before later l' reached a b lt whole runs inners w (own {b = d} e v) l =
    go (counted_way r n k start h before later l' reached d b lt whole runs (Inners-push inners e) (sound_inner r n before a d lt w e) v l)
  where
    now : Moment start h a
    now = record { before = before; later = later; whole = whole; reached = reached; runs = runs; inners = inners }

    go : (k ≤ d.store.finished) ⊎ HasFinished start h k → (k ≤ a.store.finished) ⊎ HasFinished start h k
    go (inl m) = counted_here start h k a d now (inl e) (positive r n before a lt w) (own_effect a d e) m
    go (inr f) = inr f
counted_way r n k start h before later l' reached a b lt whole runs inners w (act {l = more} x e v) l =
    let after = next a x.0 x.1 in
    let on_to = Runs-push start reached after before x runs (a, inners, e, refl) in
    let kept = sound_act r n before a x.0 x.1 lt w e in
    go (counted_way r n k start h (before ++ x ∷ []) more l' after after b lt (whole ∙ one_by_one before x more) on_to here kept v l)
  where
    one_by_one : (before : History) (x : Act × Option Message) (more : History) → before ++ (x ∷ more) ≡ (before ++ x ∷ []) ++ more
    one_by_one [] x more = refl
    one_by_one (y ∷ before) x more = ap (λ z. y ∷ z) (one_by_one before x more)

    now : Moment start h a
    now = record { before = before; later = x ∷ more; whole = whole; reached = reached; runs = runs; inners = inners }

    go : (k ≤ (next a x.0 x.1).store.finished) ⊎ HasFinished start h k → (k ≤ a.store.finished) ⊎ HasFinished start h k
    go (inl m) = counted_here start h k a (next a x.0 x.1) now (inr (e, refl)) (positive r n before a lt w) (made_effect r n before a x.0 x.1 lt w e) m
    go (inr f) = inr f

-- A rank that counts k collectives finished its kth: so the laws speak of each that a machine's number counts.
was_finished : (r n k : ℕ) (start : State) (h : History) (a : State) → r < n → Sound r n [] start → start.store.finished ≡ 0 → 0 < k
    → Moment start h a → k ≤ a.store.finished → HasFinished start h k
was_finished r n k start h a lt w none some m l =
    at (counted_way r n k start h [] h m.later start start a lt refl refl here w (moment_way start h a m) l)
  where
    at : (k ≤ start.store.finished) ⊎ HasFinished start h k → HasFinished start h k
    at (inl g) = absurd (omega (arith, g, none, some))
    at (inr f) = f

-- The collective laws of each run of a program.
collective_laws : (program : ProgramValue) (n : ℕ) (C : List Passed) → IsRun (λ r. opening program r n) n C
    → CollectiveLaws (λ r. opening program r n) n C
collective_laws program n C w =
    let start : ℕ → State = λ r. opening program r n in
    let o = opens program n in
    record {
      one = one_call start n C o;
      barrier = barrier_law start n C w o;
      broadcast = broadcast_law start n C w o;
      reduce = reduce_law start n C w o;
    }

-- A simulation's ranks have kept them, and finished what their machines count.
pub agrees : (s : SimValue) → Simulates s → CollectivesAgree s
agrees s w =
    record {
      laws = collective_laws s.program (length s.machines) s.run w.is_run;
      counts = λ r m k e some l. counted_machine r m k e some l (w.ranks r m e);
    }
  where
    counted_machine : (r : ℕ) (m : MachineValue) (k : ℕ) → slice_get s.machines r ≡ Some m → 0 < k → k ≤ m.store.finished
        → (after : State) × Runs (start_of s.program (length s.machines) r) (history s.run r) after × Inners after (state_of m)
        → HasFinished (start_of s.program (length s.machines) r) (history s.run r) k
    counted_machine r m k e some l x =
        let n = length s.machines in
        let rank = within_at s.machines r m e in
        let h = history s.run r in
        let now : Moment (start_of s.program n r) h (state_of m) =
        record { before = h; later = []; whole = sym (append-nil h); reached = x.0; runs = x.1; inners = x.2 } in
        was_finished r n k (start_of s.program n r) h (state_of m) rank (opens s.program n r rank) refl some now l
