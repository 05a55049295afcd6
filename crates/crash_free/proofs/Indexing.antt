-- What is listed in an index of slots stays so where a slot is added or emptied, or a queue is written.
use Rattle.std.proofs.Common.{◌≡◌, ℕ, List, [], ◌∷◌, ◌++◌, Some, None, length, refl, sym, ap, ◌∙◌}
use Rattle.std.proofs.Common.{subst, arith, slice_get, get_or, take, ◌+◌, ◌<◌, ◌≤◌, ◌⊎◌, inl, inr}
use Rattle.std.specs.Prelude.{slice_set}
use Rattle.std.proofs.lemmas.Bool.{cases_eq}
use Rattle.std.proofs.lemmas.List.{length-set, length_push, length-take-le, take_more, take_all}
use Rattle.std.proofs.lemmas.Option.{slice_get_within, slice_get_read}
use Rattle.matching.specs.PacketValue as packet
use Rattle.crash_free.specs.Slots.{Slot}
use Rattle.crash_free.specs.Index.{IndexValue, queue_number, AreThere, IsListed, IsListedTwice, IsRising, IsIndex}
use Rattle.crash_free.specs.Index.{ListsMore, ListsSlot}
use Rattle.crash_free.proofs.Lists.{push_cases}
use Rattle.crash_free.proofs.Keeping.{set_cases, set_there, set_apart}
use Rattle.crash_free.proofs.Searching.{one_there}

-- no slot that holds a message is empty
pub full : (m : packet.PacketValue) → Some m ≡ None → ⊥
full m e = cc

-- one more slot, whose message is listed
index_longer : (i : IndexValue) (slots : List Slot) (m : packet.PacketValue) → IsIndex i slots → IsListedTwice i m.context m.tag (length slots)
    → IsIndex i (slots ++ Some m ∷ [])
index_longer i slots m index twice =
    record {
      listed = λ place x there. go place x (push_cases slots (Some m) place (Some x) there);
      rising = λ q places there. longer places (index.rising q places there);
    }
  where
    go : (place : ℕ) (x : packet.PacketValue) → (slice_get slots place ≡ Some (Some x)) ⊎ ((place ≡ length slots) × (Some x ≡ Some m))
        → IsListedTwice i x.context x.tag place
    go place x (inl old) = index.listed place x old
    go place x (inr new) =
        let same : x ≡ m = one_there x m refl new.1 in
        subst (λ (z : packet.PacketValue). IsListedTwice i z.context z.tag place) (sym same) (subst (λ k. IsListedTwice i m.context m.tag k) (sym new.0) twice)

    longer : (places : List ℕ) → IsRising (length slots) places → IsRising (length (slots ++ Some m ∷ [])) places
    longer places r = record {
      within = λ k p at. let w = r.within k p at in let long = length_push slots (Some m) in omega (arith, w, long);
      rises = r.rises;
    }

-- one more slot, which is empty
index_and_empty : (i : IndexValue) (slots : List Slot) → IsIndex i slots → IsIndex i (slots ++ None ∷ [])
index_and_empty i slots index =
    record {
      listed = λ place m there. go place m (push_cases slots None place (Some m) there);
      rising = λ q places there. longer places (index.rising q places there);
    }
  where
    go : (place : ℕ) (m : packet.PacketValue) → (slice_get slots place ≡ Some (Some m)) ⊎ ((place ≡ length slots) × (Some m ≡ None))
        → IsListedTwice i m.context m.tag place
    go place m (inl old) = index.listed place m old
    go place m (inr new) = absurd (full m new.1)

    longer : (places : List ℕ) → IsRising (length slots) places → IsRising (length (slots ++ None ∷ [])) places
    longer places r = record {
      within = λ k p at. let w = r.within k p at in let long = length_push slots None in omega (arith, w, long);
      rises = r.rises;
    }

-- an empty slot needs no listing
pub empty_listed : (i : IndexValue) (place : ℕ) → ListsSlot i place None i
empty_listed i place slots long index = index_and_empty i slots index

-- a message that was listed gets its slot
pub slot_listed : (i i' : IndexValue) (m : packet.PacketValue) (place : ℕ) → ListsMore i place i' → IsListedTwice i' m.context m.tag place
    → ListsSlot i place (Some m) i'
slot_listed i i' m place more twice slots long index =
    index_longer i' slots m (more.index slots long index) (subst (IsListedTwice i' m.context m.tag) (sym long) twice)

-- one slot emptied
pub index_emptied : (i : IndexValue) (slots : List Slot) (k : ℕ) → IsIndex i slots → IsIndex i (slice_set slots k None)
index_emptied i slots k index =
    record {
      listed = λ place m there. go place m (set_cases slots k None place (Some m) there);
      rising = λ q places there. subst (λ n. IsRising n places) (sym (length-set slots k None)) (index.rising q places there);
    }
  where
    go : (place : ℕ) (m : packet.PacketValue) → ((k ≡ place) × (Some m ≡ None)) ⊎ ((k ≡ place → ⊥) × (slice_get slots place ≡ Some (Some m)))
        → IsListedTwice i m.context m.tag place
    go place m (inl h) = absurd (full m h.1)
    go place m (inr h) = index.listed place m h.1

-- no slots have an index of nothing
pub no_slots : IsIndex (record { kinds = []; queues = [] }) []
no_slots = record { listed = λ place m there. absurd (never place m there); rising = λ q places there. absurd (none q places there) }
  where
    never : (place : ℕ) (m : packet.PacketValue) → slice_get [] place ≡ Some (Some m) → ⊥
    never place m e = cc

    none : (q : ℕ) (places : List ℕ) → slice_get [] q ≡ Some places → ⊥
    none q places e = cc

-- one slot more was listed
pub slot_more : (i i' : IndexValue) (slots : List Slot) (place : ℕ) (slot : Slot) → place < length slots → slot ≡ get_or slots place slot
    → ListsSlot i place slot i' → IsIndex i (take place slots) → IsIndex i' (take (place + 1) slots)
slot_more i i' slots place slot low is more index =
    subst (IsIndex i') (sym (take_more slots place slot low ∙ ap (λ z. take place slots ++ z ∷ []) (sym is)))
    (more (take place slots) (length-take-le place slots (omega (arith, low))) index)

-- and then all were
pub all_slots : (i : IndexValue) (slots : List Slot) (n : ℕ) → length slots ≤ n → IsIndex i (take n slots) → IsIndex i slots
all_slots i slots n all index = subst (IsIndex i) (take_all n slots all) index

-- the index with another queue at a number
abbrev pub with_queue : IndexValue → ℕ → List ℕ → IndexValue
with_queue i q places = record { kinds = i.kinds; queues = slice_set i.queues q places }

-- what is listed stays so where another queue is written, or one that has its place
pub still_listed : (i : IndexValue) (q : ℕ) (before after : List ℕ) (kind place : ℕ) → slice_get i.queues q ≡ Some before
    → ((j : ℕ) → slice_get before j ≡ Some place → (k : ℕ) × (slice_get after k ≡ Some place)) → IsListed i kind place
    → IsListed (with_queue i q after) kind place
still_listed i q before after kind place there has l = go (cases_eq l.queue q)
  where
    go : (l.queue ≡ q) ⊎ (l.queue ≡ q → ⊥) → IsListed (with_queue i q after) kind place
    go (inl e) =
        let same : l.places ≡ before = one_there l.places before (subst (λ z. slice_get i.queues z ≡ Some l.places) e l.there) there in
        let new = has l.index (subst (λ xs. slice_get xs l.index ≡ Some place) same l.at) in
        record {
          queue = q;
          places = after;
          index = new.0;
          number = l.number ∙ ap Some e;
          there = set_there i.queues q after (slice_get_within i.queues q before there);
          at = new.1;
        }
    go (inr apart) = record {
      queue = l.queue;
      places = l.places;
      index = l.index;
      number = l.number;
      there = set_apart i.queues q after l.queue apart ∙ l.there;
      at = l.at;
    }

-- the queue that a call reads is there
pub queue_read : (kinds : List (ℕ × ℕ)) (queues : List (List ℕ)) (q kind : ℕ) (before : List ℕ) → AreThere (record { kinds = kinds; queues = queues })
    → queue_number (record { kinds = kinds; queues = queues }) kind ≡ Some q → before ≡ get_or queues q before → slice_get queues q ≡ Some before
queue_read kinds queues q kind before there number read = slice_get_read queues (length queues) q before refl (there kind q number) read
