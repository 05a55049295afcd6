-- All that holds where a rank finished a collective: what it took there other ranks sent, which had begun the same one. Faults
-- elsewhere don't matter, since a rank that finished has seen the packets that say so.
use Rattle.std.proofs.Common.{◌≡◌, ℕ, ℤ, suc, ◌<◌, List, [], ◌∷◌, ◌++◌, Ok, Option, Some, refl, sym, ap, subst, ◌∙◌, arith, inr}
use Rattle.matching.specs.declared.packet.Context.TheVariants.{Collective}
use Rattle.rank_language.specs.Placed as statements
use Rattle.rank_language.specs.Block.{Block}
use Rattle.rank_language.specs.Program.{ProgramValue}
use Rattle.rank_machine.specs.Values.{Store}
use Rattle.rank_machine.specs.Collectives.{CollectiveKind, CollectiveCall, called, parts, parts_of, given_by}
use Rattle.rank_machine.specs.States.{State, opening}
use Rattle.rank_machine.specs.Acts.{Message, Act, takes}
use Rattle.rank_machine.proofs.Calls.{IsCall, is_call, Agrees, agreed}
use Rattle.rank_machine.proofs.Outcomes.{standing}
use Rattle.crash_free.specs.Runs.{Passed, History, history, IsRun}
use Rattle.crash_free.specs.Laws.{Moment, Began, Finished, first_collective}
use Rattle.crash_free.proofs.Sound.{Has, Has-longer, Checked, IsUnder, Sound, fresh, sound_inners}
use Rattle.crash_free.proofs.Acting.{sound_runs}
use Rattle.crash_free.proofs.Senders.{taken_there, Sender, sender}
use Rattle.crash_free.proofs.Finishing.{stood, call_there, under_of, Finishing, finishing}

-- each rank begins with no collective under way
abbrev pub Opens : (ℕ → State) → ℕ → Type 0
Opens start n = (r : ℕ) → r < n → Sound r n [] (start r)

-- so at the beginning of a program
pub opens : (program : ProgramValue) (n : ℕ) → Opens (λ r. opening program r n) n
opens program n = λ r l. by_rank r l
  where
    by_rank : (r : ℕ) → r < n → Sound r n [] (opening program r n)
    by_rank r l =
        let a : State = opening program r n in
        record { rank = refl; size = refl; way = fresh [] a.store (first_collective a.rest) l (refl, refl) }

-- what holds at a moment
pub moment_sound : (r n : ℕ) (start : State) (h : History) (a : State) → r < n → Sound r n [] start → (m : Moment start h a) → Sound r n m.before a
moment_sound r n start h a l begins m = sound_inners r n m.before m.reached a l (sound_runs r n [] m.before start m.reached l begins m.runs) m.inners

-- the rank that sent a packet which a rank took as one of its call: it stood at that collective too
pub record Other (start : ℕ → State) (n : ℕ) (C : List Passed) (q r : ℕ) (call : CollectiveCall) (vs : List ℤ) : Type 0 where
  pub message : Message
  pub sender : Sender (start q) (history C q) n q r message
  pub agrees : Agrees call sender.gives.call vs

-- there is one for each such packet
pub other : (start : ℕ → State) (n : ℕ) (C : List Passed) → IsRun start n C → Opens start n → (q r j : ℕ) (m : Message) (call : CollectiveCall) (vs : List ℤ)
    → q < n → Has (history C r) (takes q j, Some m) → m.context ≡ Collective → given_by call m.items ≡ Ok vs → Other start n C q r call vs
other start n C w o q r j m call vs l h c g =
    let s = sender start n C w q r j m l (o q l) (taken_there C r q j m h) c in
    record { message = m; sender = s; agrees = agreed call s.gives.call vs (sym (ap (given_by call) s.gives.given) ∙ g) }

-- so it has begun it
pub other_began : (start : ℕ → State) (n : ℕ) (C : List Passed) (q r k : ℕ) (call : CollectiveCall) (vs : List ℤ) → call.ordinal ≡ k
    → (x : Other start n C q r call vs) → Began (start q) (history C q) k x.sender.gives.call
other_began start n C q r k call vs e x =
    let g = x.sender.gives in
    record {
      from = x.sender.state;
      to = x.sender.to;
      went = record { moment = x.sender.moment; step = inr x.sender.step };
      stood = call_there x.sender.state g.call g.collective g.rest g.stands g.valid;
      ordinal = x.agrees.ordinal ∙ e;
    }

-- from what a rank has checked
pub of_checked : (start : ℕ → State) (n : ℕ) (C : List Passed) → IsRun start n C → Opens start n
    → (q r : ℕ) (before later : History) (call : CollectiveCall) (g : List ℤ) (i : ℕ) → q < n → history C r ≡ before ++ later
    → (x : Checked before call g i q) → Other start n C q r call x.items
of_checked start n C w o q r before later call g i l whole x =
    let took : Act × Option Message = (takes q x.place, Some x.message) in
    let has : Has (history C r) took = subst (λ h. Has h took) (sym whole) (Has-longer before later took x.has) in
    other start n C w o q r x.place x.message call x.items l has x.context x.agrees

-- a history has the first of its later acts
pub has_first : (h before later more : History) (x : Act × Option Message) → h ≡ before ++ later → later ≡ x ∷ more → Has h x
has_first h before later more x e f = subst (λ z. Has z x) (sym (e ∙ ap (λ z. before ++ z) f)) (seam before)
  where
    seam : (before : History) → Has (before ++ x ∷ more) x
    seam [] = (0, refl)
    seam (y ∷ before) = let a = seam before in (suc a.0, a.1)

-- all that holds where a rank finished
pub record Scene (start : ℕ → State) (n : ℕ) (C : List Passed) (r k : ℕ) (call : CollectiveCall) (from to : State) : Type 0 where
  pub before : History
  pub later : History
  pub whole : history C r ≡ before ++ later
  pub collective : statements.Collective
  pub rest : Block
  pub stands : from ≡ standing from.store collective rest
  pub valid : called from.store collective ≡ Ok call
  pub rank : from.store.rank ≡ r
  pub size : from.store.size ≡ n
  pub under : IsUnder before from.store call
  pub named : IsCall from.store collective call
  pub finishing : Finishing from.store collective call later to.store

-- it holds there
pub scene : (start : ℕ → State) (n : ℕ) (C : List Passed) → Opens start n → (r k : ℕ) (call : CollectiveCall) (from to : State) → r < n
    → Finished (start r) (history C r) k call from to → Scene start n C r k call from to
scene start n C o r k call from to l f =
    let m = f.went.moment in
    let w = moment_sound r n (start r) (history C r) from l (o r l) m in
    let s = stood from call f.stood in
    let size = w.size in
    let named = is_call from.store s.collective call (omega (arith, l, size)) s.valid in
    let u = under_of r n m.before from call s.collective s.rest w s.stands s.valid in
    let counts = f.finished ∙ sym f.ordinal ∙ named.ordinal in
    record {
      before = m.before;
      later = m.later;
      whole = m.whole;
      collective = s.collective;
      rest = s.rest;
      stands = s.stands;
      valid = s.valid;
      rank = w.rank;
      size = w.size;
      under = u;
      named = named;
      finishing = finishing from call m.later to s.collective s.rest s.stands s.valid u.within counts f.went.step;
    }

-- who finished had begun
pub self_began : (start : ℕ → State) (C : List Passed) (r k : ℕ) (call : CollectiveCall) (from to : State)
    → Finished (start r) (history C r) k call from to → Began (start r) (history C r) k call
self_began start C r k call from to f = record { from = from; to = to; went = f.went; stood = f.stood; ordinal = f.ordinal }

-- the parts of a call, where kind, root, size and rank are known
pub known_parts : (s : Store) (call : CollectiveCall) (kind : CollectiveKind) (root n r : ℕ) → call.kind ≡ kind → call.root ≡ root → s.size ≡ n → s.rank ≡ r
    → parts_of s call ≡ parts kind root n r
known_parts s call kind root n r a b d e = rw (a, b, d, e) refl
