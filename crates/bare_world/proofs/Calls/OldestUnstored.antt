-- The oldest unstored event of a rank: the logger accepts it, and it names a message of the run, or is a run of misses from
-- the next act of its rank on.
use Rattle.std.proofs.Common.{◌≡◌, ℕ, zero, suc, ◌+◌, ◌-◌, ◌<◌, ◌≤◌, ⊎_elim, List, [], ◌∷◌, ◌++◌, map, true, Some, length, drop, refl, sym, ap, subst, ◌∙◌}
use Rattle.std.proofs.Common.{arith, append_assoc}
use Rattle.std.proofs.Common.{slice_get, slice_index_or, replicate}
use Rattle.std.proofs.lemmas.Bool.{cases_lt, lt-leb}
use Rattle.std.proofs.lemmas.List.{append-nil, length_push}
use Rattle.std.proofs.lemmas.Option.{slice_get_within, slice_get-get_or}
use Rattle.limits.specs.Limits.{most_events}
use Rattle.event_logger.specs.Sequential.Event.{EventValue, event_of, first_clock, first_of, count_of, finds_none}
use Rattle.event_logger.specs.Sequential.Misses.{misses_after, parts_of, IsCounted, IsCountedAt}
use Rattle.event_logger.specs.Sequential.History.{above, append_reply, last_clock}
use Rattle.event_logger.specs.declared.sequential.call.Reply.TheVariants.{Length}
use Rattle.event_logger.specs.declared.sequential.kind.Kind.{Kind}
use Rattle.event_logger.specs.declared.sequential.kind.Kind.TheVariants as kind
use Rattle.event_logger.proofs.SequentialLaws.Misses.{misses_push, parts_length}
use Rattle.rank_machine.specs.States.{State}
use Rattle.rank_machine.specs.Acts.{Act, Message, misses}
use Rattle.rank_node.specs.declared.waiting.Waiting.{Waiting}
use Rattle.rank_node.specs.declared.waiting.Waiting.TheVariants as waits
use Rattle.rank_node.specs.Waiting.{events_in, expanded}
use Rattle.rank_node.specs.Storing.{next_unstored}
use Rattle.crash_free.specs.Runs.{Passed, at_place, history, sent, sends_from, looked_up, IsRun, continue}
use Rattle.crash_free.proofs.Lists.{history-own, history-other}
use Rattle.bare_world.specs.Rows.{row, event_at, events_from, Noted}
use Rattle.bare_world.specs.World.{Live, WorldValue, size, IsLive, unpassed, unstored}
use Rattle.bare_world.specs.Plain.{plain_rank}
use Rattle.bare_world.specs.RunIndex.{with_misses}
use Rattle.bare_world.specs.Seats.{IsAccepted}
use Rattle.bare_world.specs.Stands.{start_at, Pending, Stands}
use Rattle.bare_world.proofs.Lists.Beginnings.{drop_beyond}
use Rattle.bare_world.proofs.Standing.LiveRanks.{above_row}
use Rattle.bare_world.proofs.Rows.{row_one_more, event_clock}
use Rattle.bare_world.proofs.Standing.KeptByAcks.{event_there, drop_first}
use Rattle.bare_world.proofs.Plain.ActsOfEvents.{first_part, none_above, last_clock_early}
use Rattle.bare_world.proofs.Plain.EffectsAndLeft.{unpassed_plain}
use Rattle.bare_world.proofs.Plain.Worlds.{rank_of, row_of, as_many_rows}

-- the oldest pending act, with its event
first_pending : (start : ℕ → State) (C : List Passed) (r : ℕ) (acts : List Act) (x : EventValue) (rest : List Waiting)
    → Pending start C r acts (waits.Event x ∷ rest)
    → (a : Act) × (event_at (length (history C r) + 1) a (looked_up (λ s. sent C s r) a) ≡ Some x)
first_pending start C r [] x rest p = absurd p
first_pending start C r (a ∷ acts) x rest p = (a, p.1)

module _ (w : WorldValue) (r : ℕ) (v : Live) (x : EventValue) (s : Stands w) (live : IsLive w r v) (oldest : next_unstored v.rank ≡ Some x) where
  -- it is the first of what hasn't passed
  first : unpassed v.rank ≡ waits.Event x ∷ drop (v.rank.stored + 1) v.rank.pending
  first = drop_first v.rank.pending v.rank.stored (waits.Event x) (event_there v.rank.pending v.rank.stored x oldest)

  -- it stands for some of its rank's acts
  pub oldest_counted : IsCounted x
  oldest_counted = (s.runs.ranks r v live).unstored 0 x (ap (λ z. slice_get (events_in z) 0) first)

  pub oldest_act : (a : Act) × (p : EventValue) × (ps : List EventValue) × (parts_of x ≡ p ∷ ps) × (p.receiver_clock ≡ first_clock x)
      × (event_at (length (history w.run r) + 1) a (looked_up (λ q. sent w.run q r) a) ≡ Some p)
  oldest_act =
      let z = first_part x ((s.runs.ranks r v live).unstored 0 x (ap (λ y. slice_get (events_in y) 0) first)) in
      let is : unpassed (plain_rank v.rank) ≡ waits.Event z.first ∷ (map waits.Event z.others ++ expanded (drop (v.rank.stored + 1) v.rank.pending)) =
      unpassed_plain v.rank ∙ ap (λ y. expanded y) first ∙ ap (λ y. map waits.Event y ++ expanded (drop (v.rank.stored + 1) v.rank.pending)) z.parts in
      let a = first_pending (start_at w (size w)) w.run r (rank_of s r v live).acts z.first
      (map waits.Event z.others ++ expanded (drop (v.rank.stored + 1) v.rank.pending))
      (subst (λ y. Pending (start_at w (size w)) w.run r (rank_of s r v live).acts y) is (rank_of s r v live).pending) in
      (a.0, z.first, z.others, z.parts, z.clock, a.1)

  -- it begins with the next act of its rank in the run
  pub oldest_first : first_clock x ≡ length (history w.run r) + 1
  oldest_first =
      let a = oldest_act in
      sym a.4 ∙ event_clock (length (history w.run r) + 1) a.0 (looked_up (λ q. sent w.run q r) a.0) a.1 a.5

  row_there : slice_get w.logger.rows r ≡ Some (slice_index_or w.logger.rows r [])
  row_there =
      let l = slice_get_within w.ranks r (Some v) live in
      slice_get-get_or w.logger.rows r [] (let e = as_many_rows s in omega (arith, l, e))

  -- fewer events are stored than there may be
  few_stored : length (slice_index_or w.logger.rows r []) < most_events
  few_stored =
      let counts = s.counts.ranks r v (slice_index_or w.logger.rows r []) live row_there in
      let made = counts.made in
      let few = counts.few in
      let some : length (unstored v.rank) ≡ suc (length (events_in (drop (v.rank.stored + 1) v.rank.pending))) = ap (λ z. length (events_in z)) first in
      omega (arith, made, few, some)

  -- no act of the row comes after the run
  none_after : above (length (history w.run r)) (events_from 0 (history w.run r)) ≡ []
  none_after =
      (let z : 0 + length (history w.run r) ≡ length (history w.run r) = omega arith in
      subst (λ y. above y (events_from 0 (history w.run r)) ≡ events_from y (drop (length (history w.run r)) (history w.run r))) z
      (above_row 0 (length (history w.run r)) (history w.run r) (omega arith)))
      ∙ ap (λ z. events_from (length (history w.run r)) z) (drop_beyond (length (history w.run r)) (history w.run r) (omega arith))

  -- its first clock is above that of the last stored event
  later : last_clock (slice_index_or w.logger.rows r []) < first_clock x
  later =
      let low = last_clock_early (length (history w.run r)) (slice_index_or w.logger.rows r [])
      (none_above (length (history w.run r)) (slice_index_or w.logger.rows r []) (s.runs.rows r (slice_index_or w.logger.rows r []) row_there)
      (ap (λ z. above (length (history w.run r)) z) (row_of s r (slice_index_or w.logger.rows r []) row_there) ∙ none_after)) in
      let f = oldest_first in
      omega (arith, low, f)

  replied : (es : List EventValue) → length es < most_events → last_clock es < first_clock x → append_reply es x ≡ Length (length es + 1)
  replied es few above = rw (lt-leb most_events (length es) few, lt-leb (first_clock x) (last_clock es) above) refl

  -- the logger accepts it
  pub accepts : IsAccepted w.logger r (next_unstored v.rank)
  accepts =
      subst (λ z. IsAccepted w.logger r z) (sym oldest)
      (length (slice_index_or w.logger.rows r []) + 1, replied (slice_index_or w.logger.rows r []) few_stored later)

-- ---- misses

-- so many acts more of a rank
misses_count : (C : List Passed) (r n : ℕ) → length (history (with_misses r n C) r) ≡ length (history C r) + n
misses_count C r zero = (let z : length (history C r) ≡ length (history C r) + 0 = omega arith in z)
misses_count C r (suc n) =
    let e = ap length (history-own (with_misses r n C) r misses)
    ∙ length_push (history (with_misses r n C) r) (misses, looked_up (λ s. sent (with_misses r n C) s r) misses) in
    let k = misses_count C r n in
    omega (arith, e, k)

-- are so many events more
misses_row : (C : List Passed) (r n : ℕ) → row (with_misses r n C) r ≡ row C r ++ misses_after (length (history C r)) n
misses_row C r zero = sym (append-nil (row C r))
misses_row C r (suc n) =
    let k = misses_count C r n in
    let e : length (history (with_misses r n C) r) + 1 ≡ length (history C r) + n + 1 = omega (arith, k) in
    row_one_more (with_misses r n C) r misses (event_of kind.Miss 0 0 (length (history (with_misses r n C) r) + 1)) refl
    ∙ ap (λ z. row (with_misses r n C) r ++ event_of kind.Miss 0 0 z ∷ []) e
    ∙ ap (λ z. z ++ event_of kind.Miss 0 0 (length (history C r) + n + 1) ∷ []) (misses_row C r n)
    ∙ append_assoc (row C r) (misses_after (length (history C r)) n) (event_of kind.Miss 0 0 (length (history C r) + n + 1) ∷ [])
    ∙ ap (λ z. row C r ++ z) (sym (misses_push (length (history C r)) n))

-- a run goes on by them
misses_continue : (C : List Passed) (r n : ℕ) → continue C r (replicate n misses) ≡ with_misses r n C
misses_continue C r zero = refl
misses_continue C r (suc n) = misses_continue (record { rank = r; act = misses } ∷ C) r n ∙ swapped n
  where
    swapped : (k : ℕ) → with_misses r k (record { rank = r; act = misses } ∷ C) ≡ record { rank = r; act = misses } ∷ with_misses r k C
    swapped zero = refl
    swapped (suc k) = ap (λ z. record { rank = r; act = misses } ∷ z) (swapped k)

-- a miss, and a run of misses, that begin with the next act are as many misses
parts_missed : (x : EventValue) (n : ℕ) → finds_none x.kind ≡ true → IsCounted x → first_clock x ≡ n + 1 → parts_of x ≡ misses_after n (count_of x)
parts_missed x n none counted first = go x.kind x.sender x.sender_clock x.receiver_clock none counted first
  where
    go : (k : Kind) (q m l : ℕ) → finds_none k ≡ true → IsCountedAt k q m l → first_of k m l ≡ n + 1
        → parts_of (event_of k q m l) ≡ misses_after n (count_of (event_of k q m l))
    go kind.Reception q m l is c f = absurd cc
    go kind.Hit q m l is c f = absurd cc
    go kind.Miss q m l is c f =
        ap (λ z. event_of kind.Miss z m l ∷ []) c.0 ∙ ap (λ z. event_of kind.Miss 0 z l ∷ []) c.1 ∙ ap (λ z. event_of kind.Miss 0 0 z ∷ []) f
    go kind.Misses q m l is c f =
        let some = c.0 in
        let low = c.1 in
        let e : l - m ≡ n = omega (arith, some, low, f) in
        ap (λ z. misses_after z m) e

-- so many copies
pub copies : (n : ℕ) → length (replicate n misses) ≡ n
copies zero = refl
copies (suc n) = ap suc (copies n)

-- so these acts are the event's
pub misses_noted : (C : List Passed) (r : ℕ) (x : EventValue) → finds_none x.kind ≡ true → IsCounted x → first_clock x ≡ length (history C r) + 1
    → Noted C r (replicate (count_of x) misses) x
misses_noted C r x none counted first =
    record {
      row_grows =
          ap (λ z. row z r) (misses_continue C r (count_of x)) ∙ misses_row C r (count_of x)
          ∙ ap (λ z. row C r ++ z) (sym (append-nil (parts_of x) ∙ parts_missed x (length (history C r)) none counted first));
      as_many = copies (count_of x) ∙ sym (ap length (append-nil (parts_of x)) ∙ parts_length x);
    }

-- and the run goes on by them
pub misses_run : (C : List Passed) (r n : ℕ) → with_misses r n C ≡ continue C r (replicate n misses)
misses_run C r n = sym (misses_continue C r n)

-- ---- senders

-- only a rank sends
pub sends_none : (start : ℕ → State) (n : ℕ) (C : List Passed) (s : ℕ) → n ≤ s → IsRun start n C → history C s ≡ []
sends_none start n [] s l i = refl
sends_none start n (p ∷ C) s l i =
    history-other C p s (λ e. let below : p.rank < n = i.1 in omega (arith, e)) ∙ sends_none start n C s l i.0

-- what was sent was sent by a rank
pub sender_below : (start : ℕ → State) (n : ℕ) (C : List Passed) (s d j : ℕ) (m : Message) → IsRun start n C → at_place (sent C s d) j ≡ Some m → s < n
sender_below start n C s d j m i at =
    ⊎_elim (λ (l : s < n). l)
    (λ (l : n ≤ s). absurd (nothing j (subst (λ z. at_place (sends_from 0 d z) j ≡ Some m) (sends_none start n C s l i) at)))
    (cases_lt s n)
  where
    nothing : (j : ℕ) → at_place {A = Message} [] j ≡ Some m → ⊥
    nothing zero e = cc
    nothing (suc j) e = cc
