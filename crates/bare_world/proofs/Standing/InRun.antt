-- Where a rank stands that has made the first acts of a history: others' sends and later acts keep it, and its next act leads on.
use Rattle.std.proofs.Common.{◌≡◌, ℕ, ◌+◌, ◌<◌, ◌⊎◌, inl, inr, List, [], ◌∷◌, ◌++◌, Option, Some, None, length, take, drop, refl, sym, ap}
use Rattle.std.proofs.Common.{subst, ◌∙◌, arith, length-append}
use Rattle.matching.specs.Inbox.{Mailbox}
use Rattle.payload_log.specs.Backlog.{BacklogValue}
use Rattle.rank_machine.specs.States.{State, Inners, here, inner}
use Rattle.rank_machine.specs.Acts.{Act, Message, Makes, Does, Runs, next}
use Rattle.rank_machine.specs.Machine.{MachineValue, state_of}
use Rattle.rank_machine.proofs.Determined.{still, same_stop, same_runs}
use Rattle.rank_machine.proofs.Striding.{Inners-push}
use Rattle.crash_free.specs.Runs.{Passed, History, history, sent, looked_up, IsRun}
use Rattle.crash_free.specs.Grows.{Grows}
use Rattle.crash_free.proofs.Steps.{Runs-push}
use Rattle.crash_free.proofs.Lists.{history-own, history-other}
use Rattle.std.proofs.lemmas.Bool.{cases_eq}
use Rattle.std.proofs.lemmas.List.{take-append-drop}
use Rattle.bare_world.specs.Stands.{InboxStands, StandsIn}
use Rattle.bare_world.proofs.Standing.Inboxes.{InboxStands-longer}
use Rattle.bare_world.proofs.Lists.Beginnings.{take_append, Next, next_of_drop, drop_some}

-- other ranks sent more
pub StandsIn-longer : (start : State) (n r : ℕ) (inbound inbound' : ℕ → List Message) (h : History)
    (c : ℕ) (m : MachineValue) (box : Mailbox) (log : List BacklogValue)
    → ((s : ℕ) → Grows (inbound s) (inbound' s)) → StandsIn start n r inbound h c m box log → StandsIn start n r inbound' h c m box log
StandsIn-longer start n r inbound inbound' h c m box log g s =
    record {
      within = s.within;
      after = s.after;
      reached = s.reached;
      inner = s.inner;
      counted = s.counted;
      logged = s.logged;
      inbox = InboxStands-longer box inbound inbound' (take c h) g s.inbox;
    }

-- the rank itself made more acts, in this life or an earlier one
pub StandsIn-later : (start : State) (n r : ℕ) (inbound : ℕ → List Message) (h h' extra : History)
    (c : ℕ) (m : MachineValue) (box : Mailbox) (log : List BacklogValue)
    → h' ≡ h ++ extra → StandsIn start n r inbound h c m box log → StandsIn start n r inbound h' c m box log
StandsIn-later start n r inbound h h' extra c m box log e s =
    record {
      within = rw (e, length-append h extra) (let l = s.within in omega (arith, l));
      after = s.after;
      reached = rw same s.reached;
      inner = s.inner;
      counted = s.counted;
      logged = s.logged;
      inbox = rw same s.inbox;
    }
  where
    same : take c h' ≡ take c h
    same = ap (λ z. take c z) e ∙ take_append c h extra s.within

-- inner steps of the machine
pub StandsIn-moved : (start : State) (n r : ℕ) (inbound : ℕ → List Message) (h : History) (c : ℕ) (m m' : MachineValue)
    (box : Mailbox) (log : List BacklogValue)
    → (inner (state_of m) ≡ Some (state_of m')) ⊎ (state_of m' ≡ state_of m) → StandsIn start n r inbound h c m box log
    → StandsIn start n r inbound h c m' box log
StandsIn-moved start n r inbound h c m m' box log e s =
    record {
      within = s.within;
      after = s.after;
      reached = s.reached;
      inner = goes e;
      counted = s.counted;
      logged = s.logged;
      inbox = s.inbox;
    }
  where
    goes : (inner (state_of m) ≡ Some (state_of m')) ⊎ (state_of m' ≡ state_of m) → Inners s.after (state_of m')
    goes (inl f) = Inners-push s.inner f
    goes (inr f) = subst (λ z. Inners s.after z) (sym f) s.inner

-- frames came or went
pub StandsIn-frames : (start : State) (n r : ℕ) (inbound : ℕ → List Message) (h : History)
    (c : ℕ) (m : MachineValue) (box box' : Mailbox) (log log' : List BacklogValue)
    → length box'.accepted ≡ n → InboxStands box' inbound (take c h)
    → length log' ≡ n
    → StandsIn start n r inbound h c m box log → StandsIn start n r inbound h c m box' log'
StandsIn-frames start n r inbound h c m box box' log log' counted stands logged s =
    record {
      within = s.within;
      after = s.after;
      reached = s.reached;
      inner = s.inner;
      counted = counted;
      logged = logged;
      inbox = stands;
    }

-- The next act of the history: the machine that makes it, with its message, stands one act further.
pub StandsIn-next : (start : State) (n r : ℕ) (inbound : ℕ → List Message) (h : History)
    (c : ℕ) (m m' : MachineValue) (box box' : Mailbox) (log log' : List BacklogValue)
    (a : Act) (o : Option Message) (rest : History)
    → drop c h ≡ (a, o) ∷ rest
    → Makes (state_of m) a o
    → state_of m' ≡ next (state_of m) a o
    → length box'.accepted ≡ n → InboxStands box' inbound (take c h ++ (a, o) ∷ [])
    → length log' ≡ n
    → StandsIn start n r inbound h c m box log → StandsIn start n r inbound h (c + 1) m' box' log'
StandsIn-next start n r inbound h c m m' box box' log log' a o rest is makes state counted stands logged s =
    record {
      within = x.within;
      after = next (state_of m) a o;
      reached = rw x.taken (Runs-push start s.after (next (state_of m) a o) (take c h) (a, o) s.reached (state_of m, s.inner, makes, refl));
      inner = subst (λ z. Inners (next (state_of m) a o) z) (sym state) here;
      counted = counted;
      logged = logged;
      inbox = rw x.taken stands;
    }
  where
    x : Next c h (a, o) rest
    x = next_of_drop c h (a, o) rest is

-- ---- a machine that is behind can only make the run's next act

-- each rank's acts lead from its first state to some state
pub run_reaches : (start : ℕ → State) (n : ℕ) (C : List Passed) (r : ℕ) → IsRun start n C → (z : State) × Runs (start r) (history C r) z
run_reaches start n [] r i = (start r, refl)
run_reaches start n (p ∷ C) r i = go (run_reaches start n C r i.0) (cases_eq p.rank r)
  where
    go : (z : State) × Runs (start r) (history C r) z → (p.rank ≡ r) ⊎ (p.rank ≡ r → ⊥) → (z : State) × Runs (start r) (history (p ∷ C) r) z
    go rest (inr ne) = rw (history-other C p r ne) rest
    go rest (inl e) =
        let x : Act × Option Message = (p.act, looked_up (λ s. sent C s p.rank) p.act) in
        let k = i.2 in
        let to = next k.stands x.0 x.1 in
        let own : (z : State) × Runs (start p.rank) (history (p ∷ C) p.rank) z =
        (to, rw (history-own C p.rank p.act) (Runs-push (start p.rank) k.after to (history C p.rank) x k.reached (k.stands, k.inner, k.makes, refl))) in
        subst (λ q. (z : State) × Runs (start q) (history (p ∷ C) q) z) e own

-- a run of acts in two parts
Runs-split : (a c : State) (h k : History) → Runs a (h ++ k) c → (b : State) × Runs a h b × Runs b k c
Runs-split a c [] k r = (a, refl, r)
Runs-split a c (x ∷ h) k r =
    let s : (b : State) × Runs r.0 h b × Runs b k c = Runs-split r.0 c h k r.2 in
    (s.0, (r.0, r.1, s.1), s.2)

-- the next act of the history is one that the machine makes where it stands
pub record NextAct (h : History) (c : ℕ) (m : MachineValue) : Type 0 where
  pub act : Act
  pub message : Option Message
  pub rest : History
  pub is_next : drop c h ≡ (act, message) ∷ rest
  pub makes : Makes (state_of m) act message

-- The next act of a history whose first acts led to this state, which makes it.
pub record NextDoes (h : History) (c : ℕ) (from : State) : Type 0 where
  pub act : Act
  pub message : Option Message
  pub rest : History
  pub is_next : drop c h ≡ (act, message) ∷ rest
  pub after : State
  pub does : Does from act message after

-- so it is of a machine that is behind
pub next_does : (start : State) (n r : ℕ) (inbound : ℕ → List Message) (h : History) (c : ℕ) (m : MachineValue)
    (box : Mailbox) (log : List BacklogValue) (z : State)
    → Runs start h z → c < length h → (s : StandsIn start n r inbound h c m box log) → NextDoes h c s.after
next_does start n r inbound h c m box log z whole l s =
    let d = drop_some c h l in
    let split : Runs start (take c h ++ drop c h) z = rw (take-append-drop c h) whole in
    let parts = Runs-split start z (take c h) (drop c h) split in
    let same : parts.0 ≡ s.after = same_runs start parts.0 s.after (take c h) parts.1 s.reached in
    let goes : Runs s.after (d.0 ∷ d.1) z = subst (λ q. Runs q (d.0 ∷ d.1) z) same (subst (λ q. Runs parts.0 q z) d.2 parts.2) in
    record { act = d.0.0; message = d.0.1; rest = d.1; is_next = d.2; after = goes.0; does = goes.1 }

-- a machine that is behind stands at the next act
pub next_act : (start : State) (n r : ℕ) (inbound : ℕ → List Message) (h : History) (c : ℕ) (m : MachineValue)
    (box : Mailbox) (log : List BacklogValue) (z : State)
    → Runs start h z → c < length h → inner (state_of m) ≡ None → StandsIn start n r inbound h c m box log → NextAct h c m
next_act start n r inbound h c m box log z whole l stop s =
    let d = next_does start n r inbound h c m box log z whole l s in
    let here_it_is : d.does.0 ≡ state_of m = same_stop d.does.1 s.inner (still d.does.0 d.act d.message d.does.2) stop in
    record { act = d.act; message = d.message; rest = d.rest; is_next = d.is_next; makes = subst (λ q. Makes q d.act d.message) here_it_is d.does.2 }
