-- The acts that sent the messages of a pair of ranks, by their indices, have the messages that were sent, in their order.
use Rattle.std.proofs.Common.{◌≡◌, ℕ, zero, suc, ◌+◌, ◌<◌, ◌≤◌, ℤ, List, [], ◌∷◌, ◌++◌, ◌⊎◌, inl, inr, Bool, true, false}
use Rattle.std.proofs.Common.{refl, sym, ap, ◌∙◌, subst, arith, Some, None, length, map, slice_get, nat_lt}
use Rattle.std.specs.Prelude.{◌==◌, ◌&&◌}
use Rattle.std.proofs.lemmas.Bool.{and_cases, cases_eq, eq-eqb, ne_eqb, ltb-false}
use Rattle.std.proofs.lemmas.List.{map-append, append-nil, length_push}
use Rattle.std.proofs.lemmas.Option.{slice_get_within}
use Rattle.limits.specs.Limits.{most_ranks}
use Rattle.matching.specs.declared.packet.Context.{Context}
use Rattle.rank_machine.specs.Acts.{Message, Act, sends, takes, hits, misses, prints}
use Rattle.crash_free.specs.Runs.{Passed, add_if, history, sent, send_at, at_place, cons_if, looked_up}
use Rattle.crash_free.specs.Sim.{inbound_of}
use Rattle.crash_free.proofs.Lists.{as_many_before, sent-own, sent-other, history-own, one_more, there_is}
use Rattle.crash_free.specs.SendIndex.Sends.{matched_by, matching_send, nth_send, run_before, send_indices, sends_to}
use Rattle.crash_free.proofs.SendIndexLaws.SendLemmas.{none_added}
use Rattle.run_shown.specs.Trace.Deliveries.{AreOfRanks, delivered, sent_as, sent_at, sent_by}

-- indices of these messages have the same message at each place
looked_in : (acts : List Passed) (xs : List ℕ) (ms : List Message) (k : ℕ) → map (λ index. sent_at acts (Some index)) xs ≡ map Some ms
    → sent_at acts (slice_get xs k) ≡ slice_get ms k
looked_in acts [] [] k same = refl
looked_in acts [] (m ∷ ms) k same = absurd cc
looked_in acts (x ∷ xs) [] k same = absurd cc
looked_in acts (x ∷ xs) (m ∷ ms) zero same = cc
looked_in acts (x ∷ xs) (m ∷ ms) (suc k) same =
    let rest : map (λ index. sent_at acts (Some index)) xs ≡ map Some ms = cc in
    looked_in acts xs ms k rest

-- so by places from 1
placed_in : (acts : List Passed) (xs : List ℕ) (ms : List Message) (place : ℕ) → map (λ index. sent_at acts (Some index)) xs ≡ map Some ms
    → sent_at acts (at_place xs place) ≡ at_place ms place
placed_in acts xs ms zero same = refl
placed_in acts xs ms (suc k) same = looked_in acts xs ms k same

-- nothing is at any place of an empty list
nothing_in : (place : ℕ) → None ≡ at_place {A = Message} [] place
nothing_in zero = refl
nothing_in (suc k) = refl

-- the indices of a pair's sends are those of its messages
abbrev AreSent : List Passed → List Passed → ℕ → ℕ → Type 0
AreSent acts run source dest = map (λ i. sent_at acts (Some i)) (send_indices run source dest) ≡ map Some (sent run source dest)

-- another rank's act sends nothing of this one's
sent_otherwise : (acts run : List Passed) (p : Passed) (source dest : ℕ) → (source ≡ p.rank → ⊥) → AreSent acts run source dest
    → AreSent acts (p ∷ run) source dest
sent_otherwise acts run p source dest ne before =
    ap (λ t. map (λ i. sent_at acts (Some i)) (add_if (t && sends_to dest p.act) (send_indices run source dest) (length run)))
    (ne_eqb p.rank source (λ e. ne (sym e)))
    ∙ before
    ∙ ap (map Some) (sym (sent-other run p source dest (λ e. ne (sym e))))

-- nor does an act that is no send
sent_nothing : (acts run : List Passed) (p : Passed) (dest : ℕ) → sends_to dest p.act ≡ false
    → ((count : ℕ) → send_at count dest p.act [] ≡ []) → AreSent acts run p.rank dest → AreSent acts (p ∷ run) p.rank dest
sent_nothing acts run p dest quiet none before =
    ap (λ t. map (λ i. sent_at acts (Some i)) (add_if (p.rank == p.rank && t) (send_indices run p.rank dest) (length run))) quiet
    ∙ ap (map (λ i. sent_at acts (Some i))) (none_added (p.rank == p.rank) (send_indices run p.rank dest) (length run))
    ∙ before
    ∙ ap (map Some)
    (sym (sent-own run p.rank dest p.act
    ∙ ap (λ z. sent run p.rank dest ++ z) (none (length (history run p.rank) + 1))
    ∙ append-nil (sent run p.rank dest)))

-- a send has its message
module _ (acts : List Passed) (p : Passed) (index dest tag : ℕ) (context : Context) (items : List ℤ)
    (there : slice_get acts index ≡ Some p) (is_send : p.act ≡ sends dest context tag items) where
  abbrev run : List Passed
  run = run_before acts index

  -- the message
  abbrev message : Message
  message = record { clock = length (history run p.rank) + 1; context = context; tag = tag; items = items }

  -- its clock is how many acts its rank has now
  counted : length (history (run_before acts (index + 1)) p.rank) ≡ length (history run p.rank) + 1
  counted =
      ap (λ z. length (history z p.rank)) (one_more acts index p there)
      ∙ ap length (history-own run p.rank p.act)
      ∙ length_push (history run p.rank) (p.act, looked_up (λ s. sent run s p.rank) p.act)

  -- it is the message of the act of this index
  message_is : sent_at acts (Some index) ≡ Some message
  message_is =
      ap (sent_as acts index) there
      ∙ ap (λ a. sent_by a (length (history (run_before acts (index + 1)) p.rank))) is_send
      ∙ ap (λ c. Some (record { clock = c; context = context; tag = tag; items = items })) counted

  -- its pair has one more index
  sends_grow : send_indices (p ∷ run) p.rank dest ≡ send_indices run p.rank dest ++ index ∷ []
  sends_grow =
      ap (λ a. add_if (p.rank == p.rank && sends_to dest a) (send_indices run p.rank dest) (length run)) is_send
      ∙ rw (eq-eqb p.rank p.rank refl, eq-eqb dest dest refl) refl
      ∙ ap (λ n. send_indices run p.rank dest ++ n ∷ []) (as_many_before acts index (let low = slice_get_within acts index p there in omega (arith, low)))

  -- and one more message
  sent_grows : sent (p ∷ run) p.rank dest ≡ sent run p.rank dest ++ message ∷ []
  sent_grows =
      sent-own run p.rank dest p.act
      ∙ ap (λ a. sent run p.rank dest ++ send_at (length (history run p.rank) + 1) dest a []) is_send
      ∙ ap (λ t. sent run p.rank dest ++ cons_if t message []) (eq-eqb dest dest refl)

  sent_own : AreSent acts run p.rank dest → AreSent acts (p ∷ run) p.rank dest
  sent_own before =
      ap (map (λ i. sent_at acts (Some i))) sends_grow
      ∙ map-append (λ i. sent_at acts (Some i)) (send_indices run p.rank dest) (index ∷ [])
      ∙ ap (λ z. z ++ sent_at acts (Some index) ∷ []) before
      ∙ ap (λ z. map Some (sent run p.rank dest) ++ z ∷ []) message_is
      ∙ sym (map-append Some (sent run p.rank dest) (message ∷ []))
      ∙ ap (map Some) (sym sent_grows)

  -- nothing was sent to another
  sent_elsewhere : (to : ℕ) → (to ≡ dest → ⊥) → AreSent acts run p.rank to → AreSent acts (p ∷ run) p.rank to
  sent_elsewhere to ne before =
      sent_nothing acts run p to (ap (sends_to to) is_send ∙ ne_eqb dest to (λ e. ne (sym e)))
      (λ count. ap (λ a. send_at count to a []) is_send ∙ ap (λ t. cons_if t (record { clock = count; context = context; tag = tag; items = items }) [])
      (ne_eqb dest to (λ e. ne (sym e)))) before

  sent_by_send : (to : ℕ) → (to ≡ dest) ⊎ (to ≡ dest → ⊥) → AreSent acts run p.rank to → AreSent acts (p ∷ run) p.rank to
  sent_by_send to (inl same) before =
      subst (λ z. AreSent acts (p ∷ run) p.rank z) (sym same) (sent_own (subst (λ z. AreSent acts run p.rank z) same before))
  sent_by_send to (inr ne) before = sent_elsewhere to ne before

-- so with each act
sent_more : (acts : List Passed) (index : ℕ) (p : Passed) (source dest : ℕ) → slice_get acts index ≡ Some p
    → AreSent acts (run_before acts index) source dest → AreSent acts (p ∷ run_before acts index) source dest
sent_more acts index p source dest there before = go (cases_eq source p.rank)
  where
    own : AreSent acts (run_before acts index) p.rank dest → (act : Act) → p.act ≡ act → AreSent acts (p ∷ run_before acts index) p.rank dest
    own b (sends to context tag items) is = sent_by_send acts p index to tag context items there is dest (cases_eq dest to) b
    own b (takes s j) is = sent_nothing acts (run_before acts index) p dest (ap (sends_to dest) is) (λ count. ap (λ a. send_at count dest a []) is) b
    own b (hits s j) is = sent_nothing acts (run_before acts index) p dest (ap (sends_to dest) is) (λ count. ap (λ a. send_at count dest a []) is) b
    own b misses is = sent_nothing acts (run_before acts index) p dest (ap (sends_to dest) is) (λ count. ap (λ a. send_at count dest a []) is) b
    own b (prints value) is = sent_nothing acts (run_before acts index) p dest (ap (sends_to dest) is) (λ count. ap (λ a. send_at count dest a []) is) b

    go : (source ≡ p.rank) ⊎ (source ≡ p.rank → ⊥) → AreSent acts (p ∷ run_before acts index) source dest
    go (inl same) =
        subst (λ z. AreSent acts (p ∷ run_before acts index) z dest) (sym same)
        (own (subst (λ z. AreSent acts (run_before acts index) z dest) same before) p.act refl)
    go (inr ne) = sent_otherwise acts (run_before acts index) p source dest ne before

-- and of any first acts
are_sent : (acts : List Passed) (index : ℕ) → index ≤ length acts → (source dest : ℕ) → AreSent acts (run_before acts index) source dest
are_sent acts zero low source dest = refl
are_sent acts (suc k) low source dest =
    let p = there_is acts k (omega (arith, low)) in
    let next : run_before acts (suc k) ≡ p.0 ∷ run_before acts k =
    ap (run_before acts) (let e : suc k ≡ k + 1 = omega arith in e) ∙ one_more acts k p.0 p.1 in
    subst (λ z. AreSent acts z source dest) (sym next) (sent_more acts k p.0 source dest p.1 (are_sent acts k (omega (arith, low)) source dest))

-- ranks that there can't be send nothing
none_sent : (acts : List Passed) → AreOfRanks most_ranks acts → (index : ℕ) → index ≤ length acts → (source dest : ℕ) → most_ranks ≤ source
    → sent (run_before acts index) source dest ≡ []
none_sent acts few zero low source dest far = refl
none_sent acts few (suc k) low source dest far =
    let p = there_is acts k (omega (arith, low)) in
    let next : run_before acts (suc k) ≡ p.0 ∷ run_before acts k =
    ap (run_before acts) (let e : suc k ≡ k + 1 = omega arith in e) ∙ one_more acts k p.0 p.1 in
    let below : p.0.rank < most_ranks = few k p.0 p.1 in
    subst (λ z. sent z source dest ≡ []) (sym next)
    (sent-other (run_before acts k) p.0 source dest (λ e. omega (arith, e, far, below)) ∙ none_sent acts few k (omega (arith, low)) source dest far)

-- the act that sent the message of another one has the message that this one takes or hits
pub match_is_sent : (acts : List Passed) (index : ℕ) (p : Passed) → AreOfRanks most_ranks acts → index ≤ length acts
    → p.rank < most_ranks → sent_at acts (matching_send (run_before acts index) p) ≡ delivered (run_before acts index) p
match_is_sent acts index p few low below = go p.act
  where
    -- no rank that there can't be is a source
    far_source : (s : ℕ) → (nat_lt s most_ranks && nat_lt p.rank most_ranks) ≡ false → most_ranks ≤ s
    far_source s apart = far (and_cases (nat_lt s most_ranks) (nat_lt p.rank most_ranks) apart)
      where
        far : (nat_lt s most_ranks ≡ false) ⊎ (nat_lt p.rank most_ranks ≡ false) → most_ranks ≤ s
        far (inl e) = ltb-false s most_ranks e
        far (inr e) = absurd (let past = ltb-false p.rank most_ranks e in omega (arith, past, below))

    at : (source place : ℕ) → sent_at acts (nth_send (run_before acts index) source p.rank place) ≡ at_place (sent (run_before acts index) source p.rank) place
    at source place = by_test (nat_lt source most_ranks && nat_lt p.rank most_ranks) refl
      where
        by_test : (t : Bool) → (nat_lt source most_ranks && nat_lt p.rank most_ranks) ≡ t
            → sent_at acts (nth_send (run_before acts index) source p.rank place) ≡ at_place (sent (run_before acts index) source p.rank) place
        by_test true is =
            rw is (placed_in acts (send_indices (run_before acts index) source p.rank) (sent (run_before acts index) source p.rank) place
            (are_sent acts index low source p.rank))
        by_test false is = rw (is, none_sent acts few index low source p.rank (far_source source is)) (nothing_in place)

    go : (act : Act) → sent_at acts (matched_by (run_before acts index) p.rank act) ≡ looked_up (inbound_of (run_before acts index) p.rank) act
    go (sends dest context tag items) = refl
    go (takes source place) = at source place
    go (hits source place) = at source place
    go misses = refl
    go (prints value) = refl
