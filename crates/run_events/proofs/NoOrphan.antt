-- Why there is no orphan: packets and lines are of acts in the run, and each row has all events of the run.
use Rattle.std.proofs.Common.{◌≡◌, ℕ, zero, suc, ℤ, ◌+◌, ◌<◌, ◌≤◌, ◌⊎◌, inl, inr, List, [], ◌∷◌, ◌++◌, take, drop}
use Rattle.std.proofs.Common.{Option, Some, None, slice_get, refl, sym, ap, subst, arith, get_or}
use Rattle.std.proofs.lemmas.Bool.{cases_lt, cases_eq, eq-eqb, ne_eqb}
use Rattle.std.proofs.lemmas.List.{take-append-drop}
use Rattle.std.proofs.lemmas.Option.{slice_get-get_or}
use Rattle.event_logger.specs.Sequential.Event.{EventValue}
use Rattle.rank_machine.specs.Acts.{Act, Message, carried, sends, takes, hits, misses, prints}
use Rattle.rank_node.specs.declared.frame.Frame.TheVariants as frame
use Rattle.matching.specs.PacketValue as packet
use Rattle.crash_free.specs.Runs.{History, at_place, history, sends_from, send_at, prints_from, print_at}
use Rattle.crash_free.specs.Parts.{IsBeginning}
use Rattle.crash_free.proofs.Taking.{no_history}
use Rattle.audit.specs.Rows.{event_at, cons_some, events_from}
use Rattle.bare_world.specs.World.{WorldValue, size, start_of}
use Rattle.bare_world.specs.Headline.{StandsFor}
use Rattle.run_events.specs.NoOrphan.{IsStable, NoOrphan}

-- ---- acts by their clocks

-- an act of a history, before which the rank had made k acts, with this clock
record MadeAt (k : ℕ) (h : History) (clock : ℕ) (act : Act) : Type 0 where
  index : ℕ
  message : Option Message
  is_clock : clock ≡ k + index + 1
  there : slice_get h index ≡ Some (act, message)

-- it is one of a history with an act in front
later_made : (k : ℕ) (x : Act × Option Message) (h : History) (clock : ℕ) (act : Act) → MadeAt (k + 1) h clock act → MadeAt k (x ∷ h) clock act
later_made k x h clock act m =
    let c : clock ≡ (k + 1) + m.index + 1 = m.is_clock in
    record { index = suc m.index; message = m.message; is_clock = omega (arith, c); there = m.there }

-- or the one in front
first_made : (k : ℕ) (act : Act) (o : Option Message) (h : History) → MadeAt k ((act, o) ∷ h) (k + 1) act
first_made k act o h = record { index = 0; message = o; is_clock = omega arith; there = refl }

-- a send in front, to this rank or to another
sent_first : (k d to : ℕ) (o : Option Message) (x : Message) (h : History) (rest : List Message) (i : ℕ) (m : Message) → x.clock ≡ k + 1
    → ((j : ℕ) → slice_get rest j ≡ Some m → MadeAt (k + 1) h m.clock (sends d m.context m.tag m.items))
    → to ≡ d → slice_get (x ∷ rest) i ≡ Some m → MadeAt k ((sends to x.context x.tag x.items, o) ∷ h) m.clock (sends d m.context m.tag m.items)
sent_first k d to o x h rest zero m c more same f =
    let q : x ≡ m = cc in
    subst (λ (z : Message). MadeAt k ((sends to x.context x.tag x.items, o) ∷ h) z.clock (sends d z.context z.tag z.items)) q
    (subst (λ z. MadeAt k ((sends to x.context x.tag x.items, o) ∷ h) x.clock (sends z x.context x.tag x.items)) same
    (subst (λ z. MadeAt k ((sends to x.context x.tag x.items, o) ∷ h) z (sends to x.context x.tag x.items)) (sym c)
    (first_made k (sends to x.context x.tag x.items) o h)))
sent_first k d to o x h rest (suc j) m c more same f =
    later_made k (sends to x.context x.tag x.items, o) h m.clock (sends d m.context m.tag m.items) (more j f)

-- a message of the first act or of those behind it
send_here : (k d : ℕ) (a : Act) (o : Option Message) (h : History) (rest : List Message) (i : ℕ) (m : Message)
    → ((j : ℕ) → slice_get rest j ≡ Some m → MadeAt (k + 1) h m.clock (sends d m.context m.tag m.items))
    → slice_get (send_at (k + 1) d a rest) i ≡ Some m → MadeAt k ((a, o) ∷ h) m.clock (sends d m.context m.tag m.items)
send_here k d (takes s j) o h rest i m more f = later_made k (takes s j, o) h m.clock (sends d m.context m.tag m.items) (more i f)
send_here k d (hits s j) o h rest i m more f = later_made k (hits s j, o) h m.clock (sends d m.context m.tag m.items) (more i f)
send_here k d misses o h rest i m more f = later_made k (misses, o) h m.clock (sends d m.context m.tag m.items) (more i f)
send_here k d (prints v) o h rest i m more f = later_made k (prints v, o) h m.clock (sends d m.context m.tag m.items) (more i f)
send_here k d (sends to c t items) o h rest i m more f = by_dest (cases_eq to d)
  where
    by_dest : (to ≡ d) ⊎ (to ≡ d → ⊥) → MadeAt k ((sends to c t items, o) ∷ h) m.clock (sends d m.context m.tag m.items)
    by_dest (inl same) =
        sent_first k d to o (record { clock = k + 1; context = c; tag = t; items = items }) h rest i m refl more same (rw (eq-eqb to d same) at f)
    by_dest (inr ne) =
        later_made k (sends to c t items, o) h m.clock (sends d m.context m.tag m.items) (more i (rw (ne_eqb to d ne) at f))

-- a message is the send with its clock
send_made : (k d : ℕ) (h : History) (i : ℕ) (m : Message) → slice_get (sends_from k d h) i ≡ Some m → MadeAt k h m.clock (sends d m.context m.tag m.items)
send_made k d [] i m e = absurd cc
send_made k d (x ∷ h) i m e = send_here k d x.0 x.1 h (sends_from (k + 1) d h) i m (λ j f. send_made (k + 1) d h j m f) e

-- what is there twice is one
one_line : (a b : ℕ × ℤ) → Some a ≡ Some b → a ≡ b
one_line a b e = cc

-- a line of the first act or of those behind it
print_here : (k : ℕ) (a : Act) (o : Option Message) (h : History) (rest : List (ℕ × ℤ)) (i clock : ℕ) (value : ℤ)
    → ((j : ℕ) → slice_get rest j ≡ Some (clock, value) → MadeAt (k + 1) h clock (prints value))
    → slice_get (print_at (k + 1) a rest) i ≡ Some (clock, value) → MadeAt k ((a, o) ∷ h) clock (prints value)
print_here k (takes s p) o h rest i clock value more f = later_made k (takes s p, o) h clock (prints value) (more i f)
print_here k (hits s p) o h rest i clock value more f = later_made k (hits s p, o) h clock (prints value) (more i f)
print_here k misses o h rest i clock value more f = later_made k (misses, o) h clock (prints value) (more i f)
print_here k (sends d c t items) o h rest i clock value more f = later_made k (sends d c t items, o) h clock (prints value) (more i f)
print_here k (prints v) o h rest (suc j) clock value more f = later_made k (prints v, o) h clock (prints value) (more j f)
print_here k (prints v) o h rest zero clock value more f =
    let both = one_line (k + 1, v) (clock, value) f in
    let c : k + 1 ≡ clock = ap (λ (z : ℕ × ℤ). z.0) both in
    let q : v ≡ value = ap (λ (z : ℕ × ℤ). z.1) both in
    subst (λ z. MadeAt k ((prints v, o) ∷ h) z (prints value)) c (subst (λ z. MadeAt k ((prints v, o) ∷ h) (k + 1) (prints z)) q (first_made k (prints v) o h))

-- a line is the print with its clock
print_made : (k : ℕ) (h : History) (i clock : ℕ) (value : ℤ) → slice_get (prints_from k h) i ≡ Some (clock, value) → MadeAt k h clock (prints value)
print_made k [] i clock value e = absurd cc
print_made k (x ∷ h) i clock value e = print_here k x.0 x.1 h (prints_from (k + 1) h) i clock value (λ j f. print_made (k + 1) h j clock value f) e

-- ---- rows

-- with one more in front too
begins_too : (o : Option EventValue) (xs ys : List EventValue) → IsBeginning xs ys → IsBeginning (cons_some o xs) (cons_some o ys)
begins_too None xs ys b = b
begins_too (Some e) xs ys b = (b.0, ap (λ z. e ∷ z) b.1)

-- the events of more acts begin with those of the first ones
more_events : (k : ℕ) (h later : History) → IsBeginning (events_from k h) (events_from k (h ++ later))
more_events k [] later = (events_from k later, refl)
more_events k (x ∷ h) later = begins_too (event_at (k + 1) x.0 x.1) (events_from (k + 1) h) (events_from (k + 1) (h ++ later)) (more_events (k + 1) h later)

-- ---- a world

-- an act of the run is stable
is_stable : (w : WorldValue) → StandsFor w w.run → (r clock : ℕ) (act : Act) → MadeAt 0 (history w.run r) clock act → IsStable w r clock act
is_stable w stands r clock act made =
    record {
      message = made.message;
      made = subst (λ z. at_place (history w.run r) z ≡ Some (act, made.message)) (sym next) made.there;
      row = stored;
      stored = there;
      determinants =
          subst (λ z. IsBeginning (events_from 0 (take clock (history w.run r))) z) (sym (stands.rows r stored there))
          (subst (λ z. IsBeginning (events_from 0 (take clock (history w.run r))) (events_from 0 z)) (take-append-drop clock (history w.run r))
          (more_events 0 (take clock (history w.run r)) (drop clock (history w.run r))));
    }
  where
    next : clock ≡ suc made.index
    next = let c : clock ≡ 0 + made.index + 1 = made.is_clock in omega (arith, c)

    low : r < size w
    low = go (cases_lt r (size w))
      where
        go : (r < size w) ⊎ (size w ≤ r) → r < size w
        go (inl l) = l
        go (inr high) =
            absurd (let none = no_history (start_of w) (size w) w.run stands.is_run r high in
            let there = subst (λ z. slice_get z made.index ≡ Some (act, made.message)) none made.there in cc)

    stored : List EventValue
    stored = get_or w.logger.rows r []

    there : slice_get w.logger.rows r ≡ Some stored
    there = slice_get-get_or w.logger.rows r [] (let many = stands.as_many_rows in omega (arith, many, low))

-- there is no orphan
pub no_orphan : (w : WorldValue) → StandsFor w w.run → NoOrphan w
no_orphan w stands =
    record {
      packets = λ s d k frames p on there. sent_stable s d p (stands.packets s d k frames (frame.Data p) on there).1;
      lines = λ r clock value among.
          is_stable w stands r clock (prints value)
          (print_made 0 (history w.run r) among.0 clock value (subst (λ z. slice_get z among.0 ≡ Some (clock, value)) (stands.lines r) among.1));
    }
  where
    sent_stable : (s d : ℕ) (p : packet.PacketValue) → at_place (sends_from 0 d (history w.run s)) p.number ≡ Some (carried p)
        → IsStable w s p.clock (sends d p.context p.tag p.items)
    sent_stable s d p at = go p.number at
      where
        go : (number : ℕ) → at_place (sends_from 0 d (history w.run s)) number ≡ Some (carried p) → IsStable w s p.clock (sends d p.context p.tag p.items)
        go zero e = absurd cc
        go (suc i) e =
            is_stable w stands s p.clock (sends d p.context p.tag p.items) (send_made 0 d (history w.run s) i (carried p) e)
