-- What a store and an acknowledgment come to.
use Rattle.std.proofs.Common.{◌≡◌, ◌≢◌, ℕ, zero, suc, ◌+◌, ◌<◌, ◌≤◌, true, false, List, [], ◌∷◌, ◌++◌, Option, Some, None, length, drop, replicate, refl, sym}
use Rattle.std.proofs.Common.{ap, subst, ◌∙◌, arith, slice_get, slice_set, IsSomeAnd, option_map}
use Rattle.std.proofs.lemmas.List.{append-nil}
use Rattle.std.proofs.lemmas.Option.{slice_get_within}
use Rattle.event_logger.specs.Sequential.Event.{EventValue, event_of, finds_none, count_of}
use Rattle.event_logger.specs.Sequential.Misses.{parts_of}
use Rattle.event_logger.specs.Sequential.History.{Answers}
use Rattle.event_logger.specs.declared.sequential.call.Call.TheVariants.{Append}
use Rattle.event_logger.specs.declared.sequential.call.Reply.TheVariants.{Length}
use Rattle.event_logger.specs.declared.sequential.kind.Kind.{Kind}
use Rattle.event_logger.specs.declared.sequential.kind.Kind.TheVariants as kind
use Rattle.event_logger.proofs.SequentialLaws.Misses.{one_part}
use Rattle.rank_machine.specs.Acts.{Act, Message, sends, takes, hits, misses, prints}
use Rattle.rank_node.specs.Storing.{next_unstored, Appends}
use Rattle.crash_free.specs.Runs.{Passed, at_place, history, sent, looked_up, continue}
use Rattle.bare_world.specs.Rows.{row, event_at}
use Rattle.bare_world.specs.RunIndex.{clock_at, with_misses}
use Rattle.bare_world.specs.World.{Rank, Live, WorldValue, size}
use Rattle.bare_world.specs.Seats.{at_work, AtRank, IsAccepted, IsAcked, IsNotAtWork, IsStored, NotedAs}
use Rattle.bare_world.specs.Follows.{CanNot, Follows}
use Rattle.bare_world.specs.Stands.{start_at, Stands}
use Rattle.bare_world.specs.declared.event.WorldEvent.TheVariants.{Store, Ack}
use Rattle.bare_world.specs.declared.reply.Reply.TheVariants as reply
use Rattle.bare_world.proofs.Lists.Beginnings.{drop_zero}
use Rattle.bare_world.proofs.Rows.{row_one_more, event_clock}
use Rattle.bare_world.proofs.Headline.{nothing_in_replay}
use Rattle.bare_world.proofs.Calls.RankOfEvent.{none_live, same_live, at_value, value_at, live_at, live_in_replay, same_world}
use Rattle.bare_world.proofs.Plain.Worlds.{rank_of, as_many_rows}
use Rattle.bare_world.proofs.Calls.OldestUnstored.{oldest_act, oldest_counted, oldest_first, accepts, sender_below, misses_noted, misses_run, copies}
use Rattle.bare_world.proofs.Runs.EventNamesOneAct.{takes_event, hits_event}

-- no rank is there to acknowledge anything
pub ack_nowhere : (w : WorldValue) (r : ℕ) → size w ≤ r → Follows w (Ack r) reply.Refused w
ack_nowhere w r past = (λ v live. absurd (none_live w r v past live), refl)

-- nothing is stored that isn't acknowledged
pub ack_none : (w w' : WorldValue) (r : ℕ) → AtRank w.ranks r (λ v. v.rank.stored ≡ 0) → w' ≡ w → Follows w (Ack r) reply.Refused w'
ack_none w w' r h same =
    (λ v live. subst (λ z. IsSomeAnd z (λ y. IsSomeAnd y (λ (u : Live). u.rank.stored ≡ 0))) live h, same)

-- a rank that is down or replays has nothing to acknowledge
pub ack_idle : (w : WorldValue) (r : ℕ) → Stands w → IsSomeAnd (slice_get w.ranks r) IsNotAtWork → Follows w (Ack r) reply.Refused w
ack_idle w r s h = (λ v live. (nothing_in_replay w r v s live (live_in_replay w r v h live)).1, refl)

-- an event is acknowledged
pub ack_some : (w w' : WorldValue) (r : ℕ) → AtRank w.ranks r (λ v. (y : Option Live) × IsAcked v y × (w'.ranks ≡ slice_set w.ranks r y))
    → w'.program ≡ w.program → w'.images ≡ w.images → w'.logger ≡ w.logger → w'.wires ≡ w.wires → w'.lines ≡ w.lines → w'.run ≡ w.run
    → Follows w (Ack r) reply.Acked w'
ack_some w w' r h program images logger wires lines run =
    let x = live_at w.ranks r _ h in
    record {
      before = x.0;
      live = x.1;
      some = λ z. (let l = x.2.1.0 in omega (arith, l, z));
      answered = refl;
      after = same_world w' _ program (x.2.2 ∙ ap (λ z. slice_set w.ranks r z) x.2.1.1) images logger wires lines run;
    }

-- the event of a miss
misses_of : (c : ℕ) (o : Option Message) (x : EventValue) → event_at c misses o ≡ Some x → x ≡ event_of kind.Miss 0 0 c
misses_of c o x e = cc

-- an event of a message names its source and its clock, and is the event of each act that takes or hits the message at this clock
pub record Names (w : WorldValue) (r : ℕ) (x : EventValue) : Type 0 where
  pub place : ℕ
  pub message : Message
  pub there : at_place (sent w.run x.sender r) place ≡ Some message
  pub clock : message.clock ≡ x.sender_clock

-- an event that isn't a miss names a message
named_by : (w : WorldValue) (r : ℕ) (x : EventValue) (a : Act) → event_at (length (history w.run r) + 1) a (looked_up (λ q. sent w.run q r) a) ≡ Some x
    → x.kind ≢ kind.Miss → Names w r x
named_by w r x (takes s j) e ne =
    let h = takes_event (length (history w.run r) + 1) s j (at_place (sent w.run s r) j) x e in
    record {
      place = j;
      message = h.0;
      there = subst (λ z. at_place (sent w.run z r) j ≡ Some h.0) (sym (ap (λ z. z.sender) h.2)) h.1;
      clock = sym (ap (λ z. z.sender_clock) h.2);
    }
named_by w r x (hits s j) e ne =
    let h = hits_event (length (history w.run r) + 1) s j (at_place (sent w.run s r) j) x e in
    record {
      place = j;
      message = h.0;
      there = subst (λ z. at_place (sent w.run z r) j ≡ Some h.0) (sym (ap (λ z. z.sender) h.2)) h.1;
      clock = sym (ap (λ z. z.sender_clock) h.2);
    }
named_by w r x misses e ne = absurd (ne (ap (λ z. z.kind) (misses_of (length (history w.run r) + 1) None x e)))
named_by w r x (sends d c t items) e ne = absurd cc
named_by w r x (prints v) e ne = absurd cc

-- what found a message is no miss, and no run of misses
found_some : (x : EventValue) (k : Kind) → finds_none k ≡ true → finds_none x.kind ≡ false → x.kind ≡ k → ⊥
found_some x k none some is = (let q : true ≡ false = sym none ∙ sym (ap finds_none is) ∙ some in cc)

-- so it is of one act, the next of its rank
pub found_act : (w : WorldValue) (r : ℕ) (x : EventValue) → Stands w → AtRank w.ranks r (λ v. next_unstored v.rank ≡ Some x) → finds_none x.kind ≡ false
    → (a : Act) × (event_at (length (history w.run r) + 1) a (looked_up (λ q. sent w.run q r) a) ≡ Some x)
found_act w r x s h some =
    let v = live_at w.ranks r _ h in
    let a = oldest_act w r v.0 x s v.1 v.2 in
    let one : x ∷ [] ≡ a.1 ∷ a.2 = sym (one_part x (found_some x kind.Misses refl some)) ∙ a.3 in
    let same : x ≡ a.1 = cc in
    (a.0, a.5 ∙ ap Some (sym same))

-- and names a message
names : (w : WorldValue) (r : ℕ) (x : EventValue) → Stands w → AtRank w.ranks r (λ v. next_unstored v.rank ≡ Some x) → finds_none x.kind ≡ false → Names w r x
names w r x s h some = (let a = found_act w r x s h some in named_by w r x a.0 a.1 (found_some x kind.Miss refl some))

-- its sender is one of the ranks
pub names_a_rank : (w : WorldValue) (r n : ℕ) (x : EventValue) → Stands w → AtRank w.ranks r (λ v. next_unstored v.rank ≡ Some x)
    → finds_none x.kind ≡ false → n ≡ length w.ranks → x.sender < n
names_a_rank w r n x s h some e =
    let m = names w r x s h some in
    let l = sender_below (start_at w (size w)) (size w) w.run x.sender r m.place m.message s.run.is_run m.there in
    omega (arith, e, l)

-- and sent a message with its clock
pub names_a_message : (w : WorldValue) (r : ℕ) (x : EventValue) → Stands w → AtRank w.ranks r (λ v. next_unstored v.rank ≡ Some x)
    → finds_none x.kind ≡ false → ((j : ℕ) → clock_at w.run x.sender r j ≡ Some x.sender_clock → ⊥) → ⊥
names_a_message w r x s h some none =
    let m = names w r x s h some in
    none m.place (ap (λ o. option_map (λ (y : Message). y.clock) o) m.there ∙ ap Some m.clock)

-- its clock is the next of its rank in the run
own_clock : (w : WorldValue) (r : ℕ) (x : EventValue) → Stands w → AtRank w.ranks r (λ v. next_unstored v.rank ≡ Some x) → finds_none x.kind ≡ false
    → x.receiver_clock ≡ length (history w.run r) + 1
own_clock w r x s h some = (let a = found_act w r x s h some in event_clock (length (history w.run r) + 1) a.0 (looked_up (λ q. sent w.run q r) a.0) x a.1)

-- a message with this clock
with_clock : (o : Option Message) (clock : ℕ) → option_map (λ (y : Message). y.clock) o ≡ Some clock → (m : Message) × (o ≡ Some m) × (m.clock ≡ clock)
with_clock None clock e = absurd cc
with_clock (Some m) clock e = (m, refl, cc)

-- a hit of the message that is named is of its event
pub hit_stands : (w : WorldValue) (r : ℕ) (x : EventValue) (j : ℕ) → Stands w → AtRank w.ranks r (λ v. next_unstored v.rank ≡ Some x) → x.kind ≡ kind.Hit
    → clock_at w.run x.sender r j ≡ Some x.sender_clock
    → event_at (length (history w.run r) + 1) (hits x.sender j) (at_place (sent w.run x.sender r) j) ≡ Some x
hit_stands w r x j s h is at =
    let m = with_clock (at_place (sent w.run x.sender r) j) x.sender_clock at in
    ap (λ o. event_at (length (history w.run r) + 1) (hits x.sender j) o) m.1
    ∙ ap Some (ap (λ k. event_of k x.sender m.0.clock (length (history w.run r) + 1)) (sym is) ∙ ap
    (λ k. event_of x.kind x.sender k (length (history w.run r) + 1)) m.2
    ∙ ap (λ k. event_of x.kind x.sender x.sender_clock k) (sym (own_clock w r x s h (ap finds_none is))))

-- and so is a reception
pub reception_stands : (w : WorldValue) (r : ℕ) (x : EventValue) (j : ℕ) → Stands w → AtRank w.ranks r (λ v. next_unstored v.rank ≡ Some x)
    → x.kind ≡ kind.Reception
    → clock_at w.run x.sender r j ≡ Some x.sender_clock
    → event_at (length (history w.run r) + 1) (takes x.sender j) (at_place (sent w.run x.sender r) j) ≡ Some x
reception_stands w r x j s h is at =
    let m = with_clock (at_place (sent w.run x.sender r) j) x.sender_clock at in
    ap (λ o. event_at (length (history w.run r) + 1) (takes x.sender j) o) m.1
    ∙ ap Some (ap (λ k. event_of k x.sender m.0.clock (length (history w.run r) + 1)) (sym is) ∙ ap
    (λ k. event_of x.kind x.sender k (length (history w.run r) + 1)) m.2
    ∙ ap (λ k. event_of x.kind x.sender x.sender_clock k) (sym (own_clock w r x s h (ap finds_none is))))

-- the one act of an event that found a message
pub noted_one : (w : WorldValue) (r : ℕ) (x : EventValue) (a : Act) (C' : List Passed) → finds_none x.kind ≡ false
    → event_at (length (history w.run r) + 1) a (looked_up (λ q. sent w.run q r) a) ≡ Some x → C' ≡ record { rank = r; act = a } ∷ w.run
    → NotedAs w.run r x 1 C'
noted_one w r x a C' some event after =
    let one = one_part x (found_some x kind.Misses refl some) in
    record {
      acts = a ∷ [];
      noted = record {
        row_grows = row_one_more w.run r a x event ∙ ap (λ z. row w.run r ++ z) (sym (append-nil (parts_of x) ∙ one));
        as_many = sym (ap length (append-nil (parts_of x) ∙ one));
      };
      after = after;
      as_many = refl;
    }

-- the acts of a miss, or of a run of misses
pub noted_misses : (w : WorldValue) (r count : ℕ) (x : EventValue) (C' : List Passed) → Stands w → AtRank w.ranks r (λ v. next_unstored v.rank ≡ Some x)
    → finds_none x.kind ≡ true → count ≡ count_of x → C' ≡ with_misses r count w.run → NotedAs w.run r x count C'
noted_misses w r count x C' s h none is after =
    let v = live_at w.ranks r _ h in
    record {
      acts = replicate (count_of x) misses;
      noted = misses_noted w.run r x none (oldest_counted w r v.0 x s v.1 v.2) (oldest_first w r v.0 x s v.1 v.2);
      after = after ∙ ap (λ n. with_misses r n w.run) is ∙ misses_run w.run r (count_of x);
      as_many = is ∙ sym (copies (count_of x));
    }

-- what was noted may be taken back
pub noted_back : (C C' : List Passed) (r count : ℕ) (x : EventValue) → NotedAs C r x count C' → drop count C' ≡ C
noted_back C C' r count x n = ap (λ z. drop z C') n.as_many ∙ ap (λ z. drop (length n.acts) z) n.after ∙ back C n.acts
  where
    back : (D : List Passed) (acts : List Act) → drop (length acts) (continue D r acts) ≡ D
    back D [] = drop_zero D
    back D (a ∷ acts) =
        one (continue (record { rank = r; act = a } ∷ D) r acts) (length acts) (record { rank = r; act = a }) D (back (record { rank = r; act = a } ∷ D) acts)
      where
        one : (xs : List Passed) (k : ℕ) (x : Passed) (E : List Passed) → drop k xs ≡ x ∷ E → drop (suc k) xs ≡ E
        one [] zero x E e = absurd cc
        one [] (suc k) x E e = absurd cc
        one (y ∷ xs) zero x E e = (let q : xs ≡ E = cc in drop_zero xs ∙ q)
        one (y ∷ xs) (suc k) x E e = one xs k x E e

-- no rank is there to store anything
pub store_nowhere : (w : WorldValue) (r : ℕ) → size w ≤ r → Follows w (Store r) reply.Refused w
store_nowhere w r past = (λ v live. absurd (none_live w r v past live), refl)

-- a rank that is down or replays has nothing to store
pub store_idle : (w : WorldValue) (r : ℕ) → Stands w → IsSomeAnd (slice_get w.ranks r) IsNotAtWork → Follows w (Store r) reply.Refused w
store_idle w r s h = (λ v live. (nothing_in_replay w r v s live (live_in_replay w r v h live)).0, refl)

-- nothing is unstored, or an effect stands before it
pub store_none : (w : WorldValue) (r : ℕ) (x : Rank) → slice_get w.ranks r ≡ Some (at_work x) → next_unstored x ≡ None → Follows w (Store r) reply.Refused w
store_none w r x at none = (λ v live. subst (λ z. next_unstored z.rank ≡ None) (sym (same_live w r x v at live)) none, refl)

-- the row of a rank is its own
pub store_row : (w : WorldValue) (r : ℕ) (x : Rank) → Stands w → slice_get w.ranks r ≡ Some (at_work x)
    → AtRank w.ranks r (λ v. (v.rank.stable.rank ≡ r) × (r < length w.logger.rows))
store_row w r x s at =
    let k = rank_of s r (record { rank = x; left = [] }) at in
    let l = slice_get_within w.ranks r (at_work x) at in
    value_at w.ranks r x (λ v. (v.rank.stable.rank ≡ r) × (r < length w.logger.rows)) at (k.number, let e = as_many_rows s in omega (arith, l, e))

-- the logger accepts the event
pub store_accepted : (w : WorldValue) (r : ℕ) (x : Rank) (e : EventValue) → Stands w → slice_get w.ranks r ≡ Some (at_work x) → next_unstored x ≡ Some e
    → AtRank w.ranks r (λ v. IsAccepted w.logger r (next_unstored v.rank))
store_accepted w r x e s at oldest =
    value_at w.ranks r x (λ v. IsAccepted w.logger r (next_unstored v.rank)) at (accepts w r (record { rank = x; left = [] }) e s at oldest)

-- it is the oldest of its rank
pub store_oldest : (w : WorldValue) (r : ℕ) (x : Rank) (e : EventValue) → slice_get w.ranks r ≡ Some (at_work x) → next_unstored x ≡ Some e
    → AtRank w.ranks r (λ v. next_unstored v.rank ≡ Some e)
store_oldest w r x e at oldest = value_at w.ranks r x (λ v. next_unstored v.rank ≡ Some e) at oldest

-- the append of an event
appended : (e : EventValue) (o : Option EventValue) (r count : ℕ) (w w' : WorldValue) → o ≡ Some e → Appends o r w.logger (Length count) w'.logger
    → Answers w.logger r (Append e) (Length count) w'.logger
appended e o r count w w' q h = subst (λ z. Appends z r w.logger (Length count) w'.logger) q h

-- an event is stored
pub store_some : (w w' : WorldValue) (r acts : ℕ) (x : Rank) (e : EventValue) (count : ℕ) → Stands w
    → slice_get w.ranks r ≡ Some (at_work x) → next_unstored x ≡ Some e
    → NotedAs w.run r e acts w'.run
    → AtRank w.ranks r (λ v. (y : Option Live) × IsStored w.logger w'.logger count v y × (w'.ranks ≡ slice_set w.ranks r y))
    → w'.program ≡ w.program → w'.images ≡ w.images → w'.wires ≡ w.wires → w'.lines ≡ w.lines
    → Follows w (Store r) (reply.Stored count) w'
store_some w w' r acts x e count s at oldest noted ranks program images wires lines =
    let number = (rank_of s r (record { rank = x; left = [] }) at).number in
    let is = at_value w.ranks r x _ at ranks in
    record {
      before = record { rank = x; left = [] };
      live = at;
      event = e;
      oldest = oldest;
      count = count;
      answered = refl;
      appends = appended e (next_unstored x) r count w w' oldest (subst (λ z. Appends (next_unstored x) z w.logger (Length count) w'.logger) number is.1.0);
      acts = noted.acts;
      noted = noted.noted;
      after = same_world w' _ program (is.2 ∙ ap (λ z. slice_set w.ranks r z) is.1.1) images refl wires lines noted.after;
    }

-- the same, of a rank whose number the event names
pub store_named : (w w' : WorldValue) (r named acts : ℕ) (x : Rank) (e : EventValue) (count : ℕ) → r ≡ named → Stands w
    → slice_get w.ranks r ≡ Some (at_work x) → next_unstored x ≡ Some e
    → NotedAs w.run r e acts w'.run
    → AtRank w.ranks r (λ v. (y : Option Live) × IsStored w.logger w'.logger count v y × (w'.ranks ≡ slice_set w.ranks r y))
    → w'.program ≡ w.program → w'.images ≡ w.images → w'.wires ≡ w.wires → w'.lines ≡ w.lines
    → Follows w (Store named) (reply.Stored count) w'
store_named w w' r named acts x e count same s at oldest noted ranks program images wires lines =
    subst (λ z. Follows w (Store z) (reply.Stored count) w') same (store_some w w' r acts x e count s at oldest noted ranks program images wires lines)

-- where memory ends a store could happen
pub store_possible : (w : WorldValue) (r : ℕ) (x : Rank) (e : EventValue) → slice_get w.ranks r ≡ Some (at_work x) → next_unstored x ≡ Some e
    → CanNot w (Store r) → ⊥
store_possible w r x e at oldest cannot = let none : Some e ≡ None = sym oldest ∙ cannot (record { rank = x; left = [] }) at in cc

-- what a store comes to, and what its calls ask for
pub ruleset store_laws = (store_nowhere, store_idle, store_none, store_some, store_row, store_accepted, store_oldest, store_possible, noted_back)

-- what an acknowledgment comes to
pub ruleset ack_laws = (ack_nowhere, ack_idle, ack_none, ack_some)
