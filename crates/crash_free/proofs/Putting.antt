-- A place is put last in the queue of its kind, which is made where there is none: all that was listed still is, and
-- places still rise, since the place is that of the slot to come.
use Rattle.std.proofs.Common.{◌≡◌, ℕ, ◌+◌, ◌<◌, ◌≤◌, Bool, true, false, cond, List, [], ◌∷◌, ◌++◌, Some, None, length, refl, sym, ap, ◌∙◌}
use Rattle.std.proofs.Common.{subst, arith, slice_get, get_or, ◌⊎◌, inl, inr}
use Rattle.std.specs.Prelude.{slice_set, Result, Ok, Err, OnOk, OnErr}
use Rattle.std.specs.Map.{lookup}
use Rattle.std.specs.Ordering.{nat_cmp}
use Rattle.std.specs.BTreeMap.{is_at}
use Rattle.std.specs.Cmp.{unsigned_tied}
use Rattle.std.proofs.lemmas.Bool.{ne_eqb, cases_eq}
use Rattle.std.proofs.lemmas.List.{length_push}
use Rattle.std.proofs.lemmas.Option.{slice_get_within}
use Rattle.crash_free.specs.Slots.{Slot}
use Rattle.crash_free.specs.Index.{IndexValue, queue_number, AreThere, IsListed, IsRising, IsIndex}
use Rattle.crash_free.specs.Index.{HasQueues, ListsMore}
use Rattle.crash_free.proofs.Lists.{push_cases}
use Rattle.crash_free.proofs.Keeping.{set_cases, set_there}
use Rattle.crash_free.proofs.Searching.{one_there}
use Rattle.crash_free.proofs.Indexing.{with_queue, still_listed, queue_read}
use Rattle.rank_machine.proofs.CollectiveParts.{longer_at}

-- an index whose queues are those of another and perhaps an empty one has what that lists
listed_on : (i i' : IndexValue) (kind place : ℕ) → HasQueues i i' → IsListed i kind place → IsListed i' kind place
listed_on i i' kind place has l = record {
  queue = l.queue;
  places = l.places;
  index = l.index;
  number = has.numbers kind l.queue l.number;
  there = go has.queues;
  at = l.at;
}
  where
    go : (i'.queues ≡ i.queues) ⊎ (i'.queues ≡ i.queues ++ [] ∷ []) → slice_get i'.queues l.queue ≡ Some l.places
    go (inl e) = ap (λ qs. slice_get qs l.queue) e ∙ l.there
    go (inr e) = ap (λ qs. slice_get qs l.queue) e ∙ longer_at i.queues ([] ∷ []) l.queue l.places l.there

-- nothing rises
none_rise : (n : ℕ) → IsRising n []
none_rise n = record { within = λ i place e. absurd (never place e); rises = λ i j early late le e f. absurd (never early e) }
  where
    never : (place : ℕ) → None ≡ Some place → ⊥
    never place e = cc

-- and is an index of the same slots
index_on : (i i' : IndexValue) (slots : List Slot) → HasQueues i i' → IsIndex i slots → IsIndex i' slots
index_on i i' slots has index =
    record {
      listed = λ place m there. let l = index.listed place m there in (listed_on i i' _ place has l.0, listed_on i i' _ place has l.1);
      rising = λ q places there. go has.queues q places there;
    }
  where
    go : (i'.queues ≡ i.queues) ⊎ (i'.queues ≡ i.queues ++ [] ∷ []) → (q : ℕ) (places : List ℕ) → slice_get i'.queues q ≡ Some places
        → IsRising (length slots) places
    go (inl e) q places there = index.rising q places (subst (λ qs. slice_get qs q ≡ Some places) e there)
    go (inr e) q places there = by_place (push_cases i.queues [] q places (subst (λ qs. slice_get qs q ≡ Some places) e there))
      where
        by_place : (slice_get i.queues q ≡ Some places) ⊎ ((q ≡ length i.queues) × (places ≡ [])) → IsRising (length slots) places
        by_place (inl old) = index.rising q places old
        by_place (inr new) = subst (IsRising (length slots)) (sym new.1) (none_rise (length slots))

-- places that rise to n rise with n behind them
rises_to : (n : ℕ) (places : List ℕ) → IsRising n places → IsRising n (places ++ n ∷ [])
rises_to n places r =
    record {
      within = λ i p e. within (push_cases places n i p e);
      rises = λ i j early late le e f. rises le (push_cases places n i early e) (push_cases places n j late f);
    }
  where
    within : {i p : ℕ} → (slice_get places i ≡ Some p) ⊎ ((i ≡ length places) × (p ≡ n)) → p ≤ n
    within (inl old) = r.within _ _ old
    within (inr new) = let same = new.1 in omega (arith, same)

    rises : {i j early late : ℕ} → i ≤ j → (slice_get places i ≡ Some early) ⊎ ((i ≡ length places) × (early ≡ n))
        → (slice_get places j ≡ Some late) ⊎ ((j ≡ length places) × (late ≡ n)) → early ≤ late
    rises le (inl e) (inl f) = r.rises _ _ _ _ le e f
    rises le (inl e) (inr f) = let same = f.1 in let w = r.within _ _ e in omega (arith, same, w)
    rises le (inr e) (inl f) =
        let last = e.0 in let low = slice_get_within places _ _ f in
        absurd (omega (arith, le, last, low))
    rises le (inr e) (inr f) = let x = e.1 in let y = f.1 in omega (arith, x, y)

-- a place was put last in a queue, or refused memory left the queue as it was
abbrev pub IsPut : List ℕ → ℕ → List ℕ → Type 0
IsPut before place after = (after ≡ before) ⊎ (after ≡ before ++ place ∷ [])

-- then all that was listed still is
put_lists_more : (i mid : IndexValue) (q place : ℕ) (before after : List ℕ) → HasQueues i mid → slice_get mid.queues q ≡ Some before
    → IsPut before place after → ListsMore i place (with_queue mid q after)
put_lists_more i mid q place before after has there put =
    record {
      listed = λ kind other l. more kind other (listed_on i mid kind other has l);
      index = λ slots long w. whole slots long (index_on i mid slots has w);
    }
  where
    kept : (other : ℕ) → IsPut before place after → (j : ℕ) → slice_get before j ≡ Some other → (k : ℕ) × (slice_get after k ≡ Some other)
    kept other (inl e) j at = (j, subst (λ xs. slice_get xs j ≡ Some other) (sym e) at)
    kept other (inr e) j at = (j, subst (λ xs. slice_get xs j ≡ Some other) (sym e) (longer_at before (place ∷ []) j other at))

    more : (kind other : ℕ) → IsListed mid kind other → IsListed (with_queue mid q after) kind other
    more kind other l = still_listed mid q before after kind other there (kept other put) l

    rising : (n : ℕ) → n ≡ place → IsRising n before → IsPut before place after → IsRising n after
    rising n e r (inl f) = subst (IsRising n) (sym f) r
    rising n e r (inr f) = subst (IsRising n) (sym (f ∙ ap (λ z. before ++ z ∷ []) (sym e))) (rises_to n before r)

    whole : (slots : List Slot) → length slots ≡ place → IsIndex mid slots → IsIndex (with_queue mid q after) slots
    whole slots long w =
        record {
          listed = λ k m e. let l = w.listed k m e in (more _ k l.0, more _ k l.1);
          rising = λ k ys e. at (set_cases mid.queues q after k ys e);
        }
      where
        at : {k : ℕ} {ys : List ℕ} → ((q ≡ k) × (ys ≡ after)) ⊎ ((q ≡ k → ⊥) × (slice_get mid.queues k ≡ Some ys)) → IsRising (length slots) ys
        at (inl h) = subst (IsRising (length slots)) (sym h.1) (rising (length slots) long (w.rising q before there) put)
        at (inr h) = w.rising _ _ h.1

-- what goes last in a list is at its end
at_end : (xs : List ℕ) (x : ℕ) → slice_get (xs ++ x ∷ []) (length xs) ≡ Some x
at_end [] x = refl
at_end (y ∷ xs) x = at_end xs x

-- and a place that was put is listed
pub put_listed : (mid : IndexValue) (q kind place : ℕ) (before after : List ℕ) → queue_number mid kind ≡ Some q → slice_get mid.queues q ≡ Some before
    → after ≡ before ++ place ∷ [] → IsListed (with_queue mid q after) kind place
put_listed mid q kind place before after number there e =
    record {
      queue = q;
      places = after;
      index = length before;
      number = number;
      there = set_there mid.queues q after (slice_get_within mid.queues q before there);
      at = ap (λ xs. slice_get xs (length before)) e ∙ at_end before place;
    }

-- What a call has to show that puts a place: what was listed still is, and so is the place, unless memory was wanting.
pub record IsPutIn (i : IndexValue) (kind place : ℕ) (i' : IndexValue) {E : Type 0} (result : Result (Unit {0}) E) : Type 0 where
  pub more : ListsMore i place i'
  pub ok : OnOk result (IsListed i' kind place)

-- a place is put in the queue of a kind
pub put_in : {E : Type 0} (i now : IndexValue) (kinds : List (ℕ × ℕ)) (queues : List (List ℕ)) (q kind place : ℕ) (before after : List ℕ)
    (result : Result (Unit {0}) E) → record { kinds = kinds; queues = queues } ≡ now → AreThere (record { kinds = kinds; queues = queues })
    → HasQueues i now → queue_number now kind ≡ Some q → before ≡ get_or queues q before
    → OnOk result (after ≡ before ++ place ∷ []) → OnErr result (after ≡ before)
    → IsPutIn i kind place (record { kinds = kinds; queues = slice_set queues q after }) result
put_in {E = E} i now kinds queues q kind place before after result seen there has number read ok err =
    record { more = put_lists_more i mid q place before after mine slot (put result ok err); ok = listed result ok }
  where
    mid : IndexValue
    mid = record { kinds = kinds; queues = queues }

    mine : HasQueues i mid
    mine = subst (HasQueues i) (sym seen) has

    own : queue_number mid kind ≡ Some q
    own = subst (λ (m : IndexValue). queue_number m kind ≡ Some q) (sym seen) number

    slot : slice_get queues q ≡ Some before
    slot = queue_read kinds queues q kind before there own read

    put : (result : Result (Unit {0}) E) → OnOk result (after ≡ before ++ place ∷ []) → OnErr result (after ≡ before) → IsPut before place after
    put (Ok x) f g = inr f
    put (Err x) f g = inl g

    listed : (result : Result (Unit {0}) E) → OnOk result (after ≡ before ++ place ∷ []) → OnOk result (IsListed (with_queue mid q after) kind place)
    listed (Ok x) f = put_listed mid q kind place before after own slot f
    listed (Err x) f = tt

-- two places that were put
pub more_and_more : (i mid last : IndexValue) (place : ℕ) → ListsMore i place mid → ListsMore mid place last → ListsMore i place last
more_and_more i mid last place one two =
    record { listed = λ kind other l. two.listed kind other (one.listed kind other l); index = λ slots long w. two.index slots long (one.index slots long w) }

-- an index has its own queues
pub same_queues : (i : IndexValue) → HasQueues i i
same_queues i = record { numbers = λ kind q e. e; queues = inl refl }

-- a kind without a queue gets an empty one
pub queue_more : (kinds kinds' : List (ℕ × ℕ)) (queues : List (List ℕ)) (kind : ℕ) → lookup (is_at (nat_cmp kind)) kinds ≡ None
    → ((k : ℕ) → lookup (is_at (nat_cmp k)) kinds' ≡ cond (is_at (nat_cmp kind) k) (Some (length queues)) (lookup (is_at (nat_cmp k)) kinds))
    → HasQueues (record { kinds = kinds; queues = queues }) (record { kinds = kinds'; queues = queues ++ [] ∷ [] })
queue_more kinds kinds' queues kind none updates = record { numbers = λ k q e. go k q e (cases_eq kind k); queues = inr refl }
  where
    never : (q : ℕ) → None ≡ Some q → ⊥
    never q e = cc

    go : (k q : ℕ) → lookup (is_at (nat_cmp k)) kinds ≡ Some q → (kind ≡ k) ⊎ (kind ≡ k → ⊥) → lookup (is_at (nat_cmp k)) kinds' ≡ Some q
    go k q e (inl same) = absurd (never q (sym none ∙ subst (λ z. lookup (is_at (nat_cmp z)) kinds ≡ Some q) (sym same) e))
    go k q e (inr apart) =
        updates k ∙ ap (λ b. cond b (Some (length queues)) (lookup (is_at (nat_cmp k)) kinds)) (unsigned_tied kind k ∙ ne_eqb kind k apart) ∙ e

-- and then each kind's queue is there
pub queue_more_there : (kinds kinds' : List (ℕ × ℕ)) (queues : List (List ℕ)) (kind : ℕ) → AreThere (record { kinds = kinds; queues = queues })
    → ((k : ℕ) → lookup (is_at (nat_cmp k)) kinds' ≡ cond (is_at (nat_cmp kind) k) (Some (length queues)) (lookup (is_at (nat_cmp k)) kinds))
    → AreThere (record { kinds = kinds'; queues = queues ++ [] ∷ [] })
queue_more_there kinds kinds' queues kind there updates k q e = go (is_at (nat_cmp kind) k) (sym (updates k) ∙ e)
  where
    long : length (queues ++ [] ∷ []) ≡ length queues + 1
    long = length_push queues []

    go : (b : Bool) → cond b (Some (length queues)) (lookup (is_at (nat_cmp k)) kinds) ≡ Some q → q < length (queues ++ [] ∷ [])
    go true f = let same : length queues ≡ q = one_there (length queues) q refl f in omega (arith, same, long)
    go false f = let low = there k q f in omega (arith, low, long)
