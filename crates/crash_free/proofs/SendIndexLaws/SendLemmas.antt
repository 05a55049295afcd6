-- The sends of a run, noted act by act, and found again.
use Rattle.std.proofs.Common.{◌≡◌, ℕ, ℤ, ◌+◌, ◌*◌, ◌<◌, List, [], ◌∷◌, ◌++◌, ◌⊎◌, inl, inr, Bool, true, false}
use Rattle.std.proofs.Common.{refl, sym, ap, ◌∙◌, arith, length, replicate, nat_lt}
use Rattle.std.specs.Prelude.{◌&&◌, ◌==◌}
use Rattle.std.proofs.lemmas.Bool.{cases_eq, eq-eqb, ne_eqb, ltb-true, and_parts}
use Rattle.std.proofs.lemmas.List.{length-set, get_or-set_same, get_or-set_other, get_or-replicate}
use Rattle.limits.specs.Limits.{most_ranks}
use Rattle.matching.specs.declared.packet.Context.{Context}
use Rattle.rank_machine.specs.Acts.{Act, sends, takes, hits, misses, prints}
use Rattle.crash_free.specs.Runs.{Passed, add_if, at_place}
use Rattle.crash_free.specs.SendIndex.Sends.{matched_by, matching_send, nth_send, send_indices, sends_to}
use Rattle.crash_free.specs.SendIndex.Tables.{HasSends, found_at, found_by, noted, noted_by, of_pair, pair}

-- ranks that there can be
few_source : (s d : ℕ) → (nat_lt s most_ranks && nat_lt d most_ranks) ≡ true → s < most_ranks
few_source s d is = ltb-true s most_ranks (and_parts (nat_lt s most_ranks) (nat_lt d most_ranks) is).0

-- so is the destination
few_dest : (s d : ℕ) → (nat_lt s most_ranks && nat_lt d most_ranks) ≡ true → d < most_ranks
few_dest s d is = ltb-true d most_ranks (and_parts (nat_lt s most_ranks) (nat_lt d most_ranks) is).1

-- nothing comes of a test that fails
pub none_added : (a : Bool) (xs : List ℕ) (x : ℕ) → add_if (a && false) xs x ≡ xs
none_added true xs x = refl
none_added false xs x = refl

-- where no act is made, nothing is sent
pub no_sends : HasSends [] (replicate (most_ranks * most_ranks) [])
no_sends = record {
  as_many = refl;
  each = λ source dest few.
      get_or-replicate (most_ranks * most_ranks) (pair source dest) [] [] (omega (arith, few_source source dest few, few_dest source dest few));
}

-- what a table has at a place is the send at that place
same_at : (run : List Passed) (table : List (List ℕ)) (source dest place : ℕ) → HasSends run table
    → found_at table source dest place ≡ nth_send run source dest place
same_at run table source dest place kept = go (nat_lt source most_ranks && nat_lt dest most_ranks) refl
  where
    go : (t : Bool) → (nat_lt source most_ranks && nat_lt dest most_ranks) ≡ t → found_at table source dest place ≡ nth_send run source dest place
    go true is = rw is (ap (λ xs. at_place xs place) (kept.each source dest is))
    go false is = rw is refl

-- so what it has for an act is the send of the act's message
pub found_is : (run : List Passed) (table : List (List ℕ)) (p : Passed) → HasSends run table → found_by table p.rank p.act ≡ matching_send run p
found_is run table p kept = go p.act
  where
    go : (act : Act) → found_by table p.rank act ≡ matched_by run p.rank act
    go (sends dest context tag items) = refl
    go (takes source place) = same_at run table source p.rank place kept
    go (hits source place) = same_at run table source p.rank place kept
    go misses = refl
    go (prints value) = refl

-- an act that is no send leaves the table
notes_nothing : (run : List Passed) (table : List (List ℕ)) (p : Passed) → HasSends run table
    → ((dest : ℕ) → sends_to dest p.act ≡ false) → HasSends (p ∷ run) table
notes_nothing run table p kept none = record {
  as_many = kept.as_many;
  each = λ source dest few.
      kept.each source dest few
      ∙ sym (none_added (p.rank == source) (send_indices run source dest) (length run))
      ∙ ap (λ t. add_if (p.rank == source && t) (send_indices run source dest) (length run)) (sym (none dest));
}

-- a send is noted with its pair
module _ (run : List Passed) (table : List (List ℕ)) (p : Passed) (dest tag : ℕ) (context : Context) (items : List ℤ)
    (is_send : p.act ≡ sends dest context tag items) (kept : HasSends run table) where
  -- of its pair there is one more
  sends_own : send_indices (p ∷ run) p.rank dest ≡ send_indices run p.rank dest ++ length run ∷ []
  sends_own =
      ap (λ a. add_if (p.rank == p.rank && sends_to dest a) (send_indices run p.rank dest) (length run)) is_send
      ∙ rw (eq-eqb p.rank p.rank refl, eq-eqb dest dest refl) refl

  -- of another pair there are as many
  sends_other : (source to : ℕ) → (p.rank ≡ source → dest ≡ to → ⊥) → send_indices (p ∷ run) source to ≡ send_indices run source to
  sends_other source to ne =
      ap (λ a. add_if (p.rank == source && sends_to to a) (send_indices run source to) (length run)) is_send
      ∙ go (cases_eq p.rank source) (cases_eq dest to)
    where
      go : ((p.rank ≡ source) ⊎ (p.rank ≡ source → ⊥)) → ((dest ≡ to) ⊎ (dest ≡ to → ⊥))
          → add_if (p.rank == source && (dest == to)) (send_indices run source to) (length run) ≡ send_indices run source to
      go (inl one) (inl other) = absurd (ne one other)
      go (inl one) (inr other) =
          ap (λ t. add_if (p.rank == source && t) (send_indices run source to) (length run)) (ne_eqb dest to other)
          ∙ none_added (p.rank == source) (send_indices run source to) (length run)
      go (inr one) rest =
          ap (λ t. add_if (t && (dest == to)) (send_indices run source to) (length run)) (ne_eqb p.rank source one)

  -- the table has one more of the pair
  table_own : (few : (nat_lt p.rank most_ranks && nat_lt dest most_ranks) ≡ true)
      → of_pair (noted p.rank dest (length run) table) p.rank dest ≡ of_pair table p.rank dest ++ length run ∷ []
  table_own few =
      rw few (get_or-set_same table (pair p.rank dest) _ []
      (omega (arith, kept.as_many, few_source p.rank dest few, few_dest p.rank dest few)))

  -- and what it had of another
  table_other : (source to : ℕ) → (nat_lt source most_ranks && nat_lt to most_ranks) ≡ true → (p.rank ≡ source → dest ≡ to → ⊥)
      → of_pair (noted p.rank dest (length run) table) source to ≡ of_pair table source to
  table_other source to low ne = go (nat_lt p.rank most_ranks && nat_lt dest most_ranks) refl
    where
      go : (t : Bool) → (nat_lt p.rank most_ranks && nat_lt dest most_ranks) ≡ t
          → of_pair (noted p.rank dest (length run) table) source to ≡ of_pair table source to
      go true few =
          let here = few_dest p.rank dest few in
          let there = few_dest source to low in
          rw few (get_or-set_other table (pair p.rank dest) (pair source to) _ []
          (λ e. ne (omega (arith, e, here, there)) (omega (arith, e, here, there))))
      go false few = rw few refl

  as_long : length (noted p.rank dest (length run) table) ≡ most_ranks * most_ranks
  as_long = go (nat_lt p.rank most_ranks && nat_lt dest most_ranks) refl
    where
      go : (t : Bool) → (nat_lt p.rank most_ranks && nat_lt dest most_ranks) ≡ t
          → length (noted p.rank dest (length run) table) ≡ most_ranks * most_ranks
      go true few = rw few (length-set table (pair p.rank dest) _ ∙ kept.as_many)
      go false few = rw few kept.as_many

  at_each : (source to : ℕ) → (nat_lt source most_ranks && nat_lt to most_ranks) ≡ true
      → ((p.rank ≡ source) ⊎ (p.rank ≡ source → ⊥)) → ((dest ≡ to) ⊎ (dest ≡ to → ⊥))
      → of_pair (noted p.rank dest (length run) table) source to ≡ send_indices (p ∷ run) source to
  at_each source to low (inl one) (inl other) =
      let few : (nat_lt p.rank most_ranks && nat_lt dest most_ranks) ≡ true = rw (one, other) low in
      rw (← one, ← other) (table_own few ∙ ap (λ xs. xs ++ length run ∷ []) (kept.each p.rank dest few) ∙ sym sends_own)
  at_each source to low (inl one) (inr other) =
      table_other source to low (λ e f. other f) ∙ kept.each source to low ∙ sym (sends_other source to (λ e f. other f))
  at_each source to low (inr one) rest =
      table_other source to low (λ e f. one e) ∙ kept.each source to low ∙ sym (sends_other source to (λ e f. one e))

  notes_send : HasSends (p ∷ run) (noted p.rank dest (length run) table)
  notes_send = record {
    as_many = as_long;
    each = λ source to low. at_each source to low (cases_eq p.rank source) (cases_eq dest to);
  }

-- once an act is noted, it is the newest of the run that is noted
pub notes_act : (run : List Passed) (table : List (List ℕ)) (p : Passed) (index : ℕ) → index ≡ length run → HasSends run table
    → HasSends (p ∷ run) (noted_by p.rank p.act index table)
notes_act run table p index is kept = rw is (go p.act refl)
  where
    go : (act : Act) → p.act ≡ act → HasSends (p ∷ run) (noted_by p.rank act (length run) table)
    go (sends dest context tag items) is = notes_send run table p dest tag context items is kept
    go (takes source place) is = notes_nothing run table p kept (λ dest. ap (sends_to dest) is)
    go (hits source place) is = notes_nothing run table p kept (λ dest. ap (sends_to dest) is)
    go misses is = notes_nothing run table p kept (λ dest. ap (sends_to dest) is)
    go (prints value) is = notes_nothing run table p kept (λ dest. ap (sends_to dest) is)
