-- A message that a rank took was sent, and one of a collective at a moment when its sender stood at a collective with a send to
-- this rank.
use Rattle.std.proofs.Common.{◌≡◌, ℕ, ℤ, zero, suc, ◌+◌, ◌<◌, List, [], ◌∷◌, ◌++◌, Ok, Err, Option, Some, None, length, refl, sym, ap, subst, ◌∙◌}
use Rattle.std.proofs.Common.{slice_get, ◌⊎◌, inl, inr}
use Rattle.std.proofs.lemmas.Bool.{eq-eqb, ne_eqb, cases_eq}
use Rattle.matching.specs.declared.packet.Context.TheVariants.{PointToPoint, Collective}
use Rattle.rank_language.specs.Placed as statements
use Rattle.rank_language.specs.Placed.{declare, declare_array, assign, assign_item, send, receive, probe, try_probe, print, collect}
use Rattle.rank_language.specs.Block.{Block, done, plain, if_only, if_else, loop}
use Rattle.rank_machine.specs.declared.fault.MachineFault.{MachineFault}
use Rattle.rank_machine.specs.declared.want.Want.{Want}
use Rattle.rank_machine.specs.declared.want.Want.TheVariants as want
use Rattle.rank_machine.specs.Values.{Store, Valued}
use Rattle.rank_machine.specs.Collectives.{CollectiveCall, called, header, gives, part_of}
use Rattle.rank_machine.specs.States.{State, item_value}
use Rattle.rank_machine.specs.Wants.{want_of, first_payload}
use Rattle.rank_machine.specs.Acts.{Message, Act, sends, takes, hits, misses, prints, Fits, Makes, Does, Runs, next}
use Rattle.rank_machine.proofs.Lines.{never, sends_only, receives_only, probes_only, tries_only, prints_only, tests_only}
use Rattle.rank_machine.proofs.Outcomes.{standing, Outcome, made}
use Rattle.crash_free.specs.Runs.{Passed, History, at_place, history, sent, sends_from, send_at, looked_up, IsRun}
use Rattle.crash_free.specs.Laws.{Moment, IsFirst, first_collective}
use Rattle.crash_free.specs.Grows.{Grows}
use Rattle.crash_free.proofs.Lists.{at_place-append, push_cases, history-own, history-other}
use Rattle.crash_free.proofs.Going.{sent_grows}
use Rattle.crash_free.proofs.Steps.{Runs-push}
use Rattle.crash_free.proofs.OtherSteps.{split, stands_there}
use Rattle.crash_free.proofs.Sound.{Has, Sound, sound_inners}
use Rattle.crash_free.proofs.Acting.{no_call, no_fault, sound_runs}

-- what a rank took is among what its source sent
pub taken_there : (C : List Passed) (r q j : ℕ) (m : Message) → Has (history C r) (takes q j, Some m) → at_place (sent C q r) j ≡ Some m
taken_there [] r q j m a = absurd (let e = a.1 in cc)
taken_there (p ∷ C) r q j m a = longer (sent_grows C p q r) (by_rank (λ b. taken_there C r q j m b) (cases_eq p.rank r))
  where
    own : Act × Option Message
    own = (takes q j, Some m)

    made_now : Act → Act × Option Message
    made_now act = (act, looked_up (λ s. sent C s r) act)

    longer : Grows (sent C q r) (sent (p ∷ C) q r) → at_place (sent C q r) j ≡ Some m → at_place (sent (p ∷ C) q r) j ≡ Some m
    longer g e = rw g.1 (at_place-append (sent C q r) g.0 j m e)

    new : (act : Act) → own ≡ made_now act → at_place (sent C q r) j ≡ Some m
    new act e =
        let same : act ≡ takes q j = sym (ap (λ x. x.0) e) in
        let found : Some m ≡ looked_up (λ s. sent C s r) act = ap (λ x. x.1) e in
        sym (found ∙ ap (looked_up (λ s. sent C s r)) same)

    old_or_new : (Has (history C r) own → at_place (sent C q r) j ≡ Some m)
        → (slice_get (history C r) a.0 ≡ Some own) ⊎ ((a.0 ≡ length (history C r)) × (own ≡ made_now p.act)) → at_place (sent C q r) j ≡ Some m
    old_or_new before (inl e) = before (a.0, e)
    old_or_new before (inr e) = new p.act e.1

    by_rank : (Has (history C r) own → at_place (sent C q r) j ≡ Some m) → (p.rank ≡ r) ⊎ (p.rank ≡ r → ⊥) → at_place (sent C q r) j ≡ Some m
    by_rank before (inl e) =
        let all : history (p ∷ C) r ≡ history C r ++ made_now p.act ∷ [] =
        subst (λ z. history (p ∷ C) z ≡ history C z ++ (p.act, looked_up (λ s. sent C s z) p.act) ∷ []) e (history-own C p.rank p.act) in
        old_or_new before (push_cases (history C r) (made_now p.act) a.0 own (rw all at a.1))
    by_rank before (inr ne) = before (a.0, rw (history-other C p r ne) at a.1)

-- a message that was sent is of a send in the history
pub record Sent (h : History) (r : ℕ) (m : Message) : Type 0 where
  pub before : History
  pub message : Option Message
  pub later : History
  pub whole : h ≡ before ++ (sends r m.context m.tag m.items, message) ∷ later

-- of a later one
later_sent : (x : Act × Option Message) (h : History) (r : ℕ) (m : Message) → Sent h r m → Sent (x ∷ h) r m
later_sent x h r m s = record { before = x ∷ s.before; message = s.message; later = s.later; whole = ap (λ z. x ∷ z) s.whole }

-- of the first one, or of a later one
sent_here : (k r : ℕ) (act : Act) (rest : List Message) (h : History) (i : ℕ) (m : Message) (o : Option Message)
    → slice_get (send_at k r act rest) i ≡ Some m → ((i : ℕ) → slice_get rest i ≡ Some m → Sent h r m) → Sent ((act, o) ∷ h) r m
sent_here k r (sends d c t items) rest h i m o e more = by_dest (cases_eq d r) i
  where
    own : Message
    own = record { clock = k; context = c; tag = t; items = items }

    first : (i : ℕ) → d ≡ r → slice_get (own ∷ rest) i ≡ Some m → Sent ((sends d c t items, o) ∷ h) r m
    first zero same f =
        let here : own ≡ m = cc in
        subst (λ z. Sent ((sends d c t items, o) ∷ h) r z) here
        (record { before = []; message = o; later = h; whole = ap (λ z. (sends z c t items, o) ∷ h) same })
    first (suc i) same f = later_sent (sends d c t items, o) h r m (more i f)

    by_dest : (d ≡ r) ⊎ (d ≡ r → ⊥) → (i' : ℕ) → Sent ((sends d c t items, o) ∷ h) r m
    by_dest (inl same) i' = first i same (rw (eq-eqb d r same) at e)
    by_dest (inr ne) i' = later_sent (sends d c t items, o) h r m (more i (rw (ne_eqb d r ne) at e))
sent_here k r (takes s j) rest h i m o e more = later_sent (takes s j, o) h r m (more i e)
sent_here k r (hits s j) rest h i m o e more = later_sent (hits s j, o) h r m (more i e)
sent_here k r misses rest h i m o e more = later_sent (misses, o) h r m (more i e)
sent_here k r (prints v) rest h i m o e more = later_sent (prints v, o) h r m (more i e)

-- from the kth act on
was_sent : (k r : ℕ) (h : History) (i : ℕ) (m : Message) → slice_get (sends_from k r h) i ≡ Some m → Sent h r m
was_sent k r [] i m e = absurd cc
was_sent k r (x ∷ h) i m e = sent_here (k + 1) r x.0 (sends_from (k + 1) r h) h i m x.1 e (λ i f. was_sent (k + 1) r h i m f)

-- by its place
pub sent_at : (k r : ℕ) (h : History) (j : ℕ) (m : Message) → at_place (sends_from k r h) j ≡ Some m → Sent h r m
sent_at k r h zero m e = absurd cc
sent_at k r h (suc j) m e = was_sent k r h j m e

-- where a rank's acts are cut in two
pub record Cut (a : State) (before : History) (x : Act × Option Message) : Type 0 where
  pub reached : State
  pub runs : Runs a before reached
  pub after : State
  pub does : Does reached x.0 x.1 after

-- they can be cut before each act
pub cut : (a b : State) (before : History) (x : Act × Option Message) (later : History) → Runs a (before ++ x ∷ later) b → Cut a before x
cut a b [] x later r = record { reached = a; runs = refl; after = r.0; does = r.1 }
cut a b (y ∷ before) x later r =
    let more = cut r.0 b before x later r.2 in
    record { reached = more.reached; runs = (r.0, r.1, more.runs); after = more.after; does = more.does }

-- a rank that stands at a collective with a send to this one
pub record Giving (a : State) (d : ℕ) (items : List ℤ) : Type 0 where
  pub collective : statements.Collective
  pub rest : Block
  pub call : CollectiveCall
  pub stands : a ≡ standing a.store collective rest
  pub valid : called a.store collective ≡ Ok call
  pub part : part_of a.store call ≡ gives d
  pub given : items ≡ header call ++ call.items

-- what sends is no reception
gave_it : (s : Store) (c : statements.Collective) (r : Block) (call : CollectiveCall) (d t : ℕ) (items : List ℤ) (m : Option Message) (b : State)
    → called s c ≡ Ok call → Outcome s c r call (sends d Collective t items) m b → Giving (standing s c r) d items
gave_it s c r call d t items m b e (inl o) =
    let q = o.sent in
    let same : d ≡ o.dest = cc in
    let given : items ≡ header call ++ call.items = cc in
    record { collective = c; rest = r; call = call; stands = refl; valid = e; part = o.part ∙ ap gives (sym same); given = given }
gave_it s c r call d t items m b e (inr (inl o)) = absurd (let q = o.taken in cc)
gave_it s c r call d t items m b e (inr (inr o)) = absurd (let q = o.taken in cc)

-- a send of a collective
giving_call : (s : Store) (c : statements.Collective) (r : Block) (d t : ℕ) (items : List ℤ) (m : Option Message)
    → (v : Valued CollectiveCall) → called s c ≡ v → Makes (standing s c r) (sends d Collective t items) m → Giving (standing s c r) d items
giving_call s c r d t items m (Ok call) e f =
    gave_it s c r call d t items m (next (standing s c r) (sends d Collective t items) m) e (made s c r call e (sends d Collective t items) m f)
giving_call s c r d t items m (Err k) e f = absurd (no_call s c r (sends d Collective t items) m k e f)

-- no other statement sends in the context of collectives: what it would send answers its want
abbrev IsSending : List ℤ → ℕ → ℕ → List ℤ → Option Message → Want → Type 0
IsSending own d t items m w = Fits w own (sends d Collective t items) m

-- a send statement has another context
point_to_point : (own : List ℤ) (d t : ℕ) (items : List ℤ) (m : Option Message) (d' t' : ℕ)
    → IsSending own d t items m (want.Send d' PointToPoint t') → ⊥
point_to_point own d t items None d' t' f = let e = f.1 in cc
point_to_point own d t items (Some m) d' t' f = f

-- by cases of the statement
sends_elsewhere : (s : Store) (b : Block) (d t : ℕ) (items : List ℤ) (m : Option Message) → first_collective b ≡ None
    → IsSending (first_payload s b) d t items m (want_of s b None) → ⊥
sends_elsewhere s done d t items m n f = f
sends_elsewhere s (plain (declare p) r) d t items m n f = f
sends_elsewhere s (plain (declare_array p) r) d t items m n f = f
sends_elsewhere s (plain (assign p e) r) d t items m n f = tests_only (IsSending [] d t items m) s e (λ k h. h) (λ h. h) f
sends_elsewhere s (plain (assign_item p i e) r) d t items m n f =
    never (IsSending [] d t items m) (item_value s p i e) _ (λ k h. h) (λ x h. h) f
sends_elsewhere s (plain (send x y p) r) d t items m n f =
    let own = first_payload s (plain (send x y p) r) in
    sends_only (IsSending own d t items m) s x y p (λ k h. h) (λ d' t'. point_to_point own d t items m d' t') f
sends_elsewhere s (plain (receive x y b) r) d t items m n f = receives_only (IsSending [] d t items m) s x y (λ k h. h) (λ w h. h) f
sends_elsewhere s (plain (probe x y) r) d t items m n f = probes_only (IsSending [] d t items m) s x y (λ k h. h) (λ w h. h) f
sends_elsewhere s (plain (try_probe x y z) r) d t items m n f = tries_only (IsSending [] d t items m) s x y (λ k h. h) (λ w h. h) f
sends_elsewhere s (plain (print e) r) d t items m n f = prints_only (IsSending [] d t items m) s e (λ k h. h) (λ z h. h) f
sends_elsewhere s (plain (collect c) r) d t items m n f = cc
sends_elsewhere s (if_only e y r) d t items m n f = tests_only (IsSending [] d t items m) s e (λ k h. h) (λ h. h) f
sends_elsewhere s (if_else e y o r) d t items m n f = tests_only (IsSending [] d t items m) s e (λ k h. h) (λ h. h) f
sends_elsewhere s (loop e y r) d t items m n f = tests_only (IsSending [] d t items m) s e (λ k h. h) (λ h. h) f

-- so a send in that context is one of a collective
giving : (a : State) (d t : ℕ) (items : List ℤ) (m : Option Message) → Makes a (sends d Collective t items) m → Giving a d items
giving a d t items m f = by_fault a.fault refl
  where
    by_first : a.fault ≡ None → (first_collective a.rest ≡ None) ⊎ ((c : statements.Collective) × (r : Block) × (a.rest ≡ plain (collect c) r))
        → Giving a d items
    by_first q (inl none) =
        absurd (sends_elsewhere a.store a.rest d t items m none
        (subst (λ k. Fits (want_of a.store a.rest k) (first_payload a.store a.rest) (sends d Collective t items) m) q f))
    by_first q (inr x) =
        let there = stands_there a x.0 x.1 q x.2 in
        subst (λ z. Giving z d items) (sym there)
        (giving_call a.store x.0 x.1 d t items m (called a.store x.0) refl (subst (λ z. Makes z (sends d Collective t items) m) there f))

    by_fault : (k : Option MachineFault) → a.fault ≡ k → Giving a d items
    by_fault None q = by_first q (split a.rest)
    by_fault (Some k) q = absurd (no_fault a (sends d Collective t items) m k q f)

-- each rank's acts lead somewhere
pub runs_of : (start : ℕ → State) (n : ℕ) (C : List Passed) → IsRun start n C → (r : ℕ) → (after : State) × Runs (start r) (history C r) after
runs_of start n [] w r = (start r, refl)
runs_of start n (p ∷ C) w r = by_rank (λ q. runs_of start n C w.0 q) (cases_eq p.rank r)
  where
    by_rank : ((q : ℕ) → (after : State) × Runs (start q) (history C q) after) → (p.rank ≡ r) ⊎ (p.rank ≡ r → ⊥)
        → (after : State) × Runs (start r) (history (p ∷ C) r) after
    by_rank before (inl e) =
        let m = w.2 in
        let x : Act × Option Message = (p.act, looked_up (λ s. sent C s p.rank) p.act) in
        let to : State = next m.stands x.0 x.1 in
        let own : Runs (start p.rank) (history (p ∷ C) p.rank) to =
        rw (history-own C p.rank p.act) (Runs-push (start p.rank) m.after to (history C p.rank) x m.reached (m.stands, m.inner, m.makes, refl)) in
        subst (λ z. (after : State) × Runs (start z) (history (p ∷ C) z) after) e (to, own)
    by_rank before (inr ne) = rw (history-other C p r ne) (before r)

-- the moment at which a message of a collective was sent, with all that holds then
pub record Sender (start : State) (h : History) (n s r : ℕ) (m : Message) : Type 0 where
  pub state : State
  pub moment : Moment start h state
  pub to : State
  pub step : IsFirst state moment.later to
  pub gives : Giving state r m.items
  pub sound : Sound s n moment.before state

-- there is one for each such message
pub sender : (start : ℕ → State) (n : ℕ) (C : List Passed) → IsRun start n C → (s r j : ℕ) (m : Message) → s < n → Sound s n [] (start s)
    → at_place (sent C s r) j ≡ Some m → m.context ≡ Collective → Sender (start s) (history C s) n s r m
sender start n C w s r j m l begins e c =
    let x = sent_at 0 r (history C s) j m e in
    let own : Act × Option Message = (sends r m.context m.tag m.items, x.message) in
    let a = runs_of start n C w s in
    let u = cut (start s) a.0 x.before own x.later (subst (λ h. Runs (start s) h a.0) x.whole a.1) in
    let mid = u.does.0 in
    let makes : Makes mid (sends r m.context m.tag m.items) x.message = u.does.2 in
    record {
      state = mid;
      moment = record { before = x.before; later = own ∷ x.later; whole = x.whole; reached = u.reached; runs = u.runs; inners = u.does.1 };
      to = next mid (sends r m.context m.tag m.items) x.message;
      step = (makes, refl);
      gives = giving mid r m.tag m.items x.message (subst (λ z. Makes mid (sends r z m.tag m.items) x.message) c makes);
      sound = sound_inners s n x.before u.reached mid l (sound_runs s n [] x.before (start s) u.reached l begins u.runs) u.does.1;
    }
