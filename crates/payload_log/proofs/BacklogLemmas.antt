-- Packets that stand in one list by number, first those kept and then those held, when one more is saved, held or freed,
-- or some are let go.
--
-- Where nothing is let go that isn't sent, the first of those held is the next of those kept: so it is freed where it
-- stands. Where more is let go, nothing is kept, and the first of the list goes.
use Rattle.std.proofs.Common.{◌≡◌, ℕ, zero, suc, ◌+◌, ◌-◌, ◌<◌, ◌≤◌, List, [], ◌∷◌, ◌++◌, length, take}
use Rattle.std.proofs.Common.{drop, min, max, sym, ap, subst, ◌∙◌, arith, Bool, true, false, ◌⊎◌, inl, inr}
use Rattle.std.specs.Prelude.{nat_lt, if◌then◌else◌}
use Rattle.std.proofs.lemmas.Bool.{lt-ltb, cases_lt}
use Rattle.std.proofs.lemmas.Grind.{common_steps}
use Rattle.std.proofs.lemmas.List.{drop-take, drop-drop, take-append-le, drop-append-le, length-take, length-drop, length-append, drop_all, take_all}
use Rattle.limits.specs.Limits.{greatest_clock}
use Rattle.matching.specs.PacketValue.{PacketValue}
use Rattle.payload_log.specs.Backlog.{BacklogValue, AreNumbered, IsBacklog, backlog_of, saved, hold, freed_of, next_number, pruned}

-- one more with the next number
pub numbered_push : (base : ℕ) (ms : List PacketValue) (m : PacketValue) → AreNumbered base ms → m.number ≡ base + length ms + 1 → AreNumbered base (ms ++ m ∷ [])
numbered_push base ms m each next = λ k d low. grind (arith, common_steps, each)

-- all but the first
numbered_rest : (base : ℕ) (m : PacketValue) (ms : List PacketValue) → AreNumbered base (m ∷ ms) → AreNumbered (base + 1) ms
numbered_rest base m ms each = λ k d low. each (suc k) d (omega (arith, low)) ∙ omega arith

-- the first of the rest goes to the front
take-seam : (n : ℕ) (ps : List PacketValue) (m : PacketValue) (ms : List PacketValue) → drop n ps ≡ m ∷ ms → take (suc n) ps ≡ take n ps ++ m ∷ []
take-seam zero [] m ms e = absurd cc
take-seam zero (p ∷ ps) m ms e = cc
take-seam (suc n) [] m ms e = absurd cc
take-seam (suc n) (p ∷ ps) m ms e = ap (λ l. p ∷ l) (take-seam n ps m ms e)

-- and those behind it are the rest
drop-seam : (n : ℕ) (ps : List PacketValue) (m : PacketValue) (ms : List PacketValue) → drop n ps ≡ m ∷ ms → drop (suc n) ps ≡ ms
drop-seam zero [] m ms e = absurd cc
drop-seam zero (p ∷ ps) m ms e = cc
drop-seam (suc n) [] m ms e = absurd cc
drop-seam (suc n) (p ∷ ps) m ms e = drop-seam n ps m ms e

-- all the packets of a list are kept
length_kept : (base sent cursor : ℕ) (ps : List PacketValue) → IsBacklog (backlog_of base sent cursor ps) → sent - base ≤ length ps
length_kept base sent cursor ps is = let short = length-take (sent - base) ps in let all = is.kept in omega arith

-- a test of numbers that is passed, or not
above : (a b : ℕ) → a < b → nat_lt a b ≡ true
above a b lt = lt-ltb a b lt

-- and the number that is no greater fails it
not_above : (a b : ℕ) → b ≤ a → nat_lt a b ≡ false
not_above a b le = grind (arith, common_steps)

-- a packet that is saved is kept where its number is above the base
saved_above : (b : BacklogValue) (m : PacketValue) → b.base < m.number → saved b m ≡ record b { sent = b.sent + 1; kept = b.kept ++ m ∷ [] }
saved_above b m lt = ap (λ (t : Bool). record b { sent = b.sent + 1; kept = if t then b.kept ++ m ∷ [] else b.kept }) (above b.base m.number lt)

-- and where it is not, the packet is only counted as sent
saved_below : (b : BacklogValue) (m : PacketValue) → m.number ≤ b.base → saved b m ≡ record b { sent = b.sent + 1 }
saved_below b m le = ap (λ (t : Bool). record b { sent = b.sent + 1; kept = if t then b.kept ++ m ∷ [] else b.kept }) (not_above b.base m.number le)

-- a backlog stays one with a packet that is saved, where what is held goes on from there
is_backlog_saved : (b : BacklogValue) (m : PacketValue) (held : List PacketValue) → IsBacklog b → m.number ≡ b.sent + 1
    → b.sent + 1 + length held ≤ greatest_clock
    → AreNumbered (b.sent + 1) held → IsBacklog (saved (record b { held = held }) m)
is_backlog_saved b m held is next high numbers = at (cases_lt b.base m.number)
  where
    at : (b.base < m.number) ⊎ (m.number ≤ b.base) → IsBacklog (saved (record b { held = held }) m)
    at (inl lt) =
        let long = length-append b.kept (m ∷ []) in
        let size = is.kept in
        subst IsBacklog (sym (saved_above (record b { held = held }) m lt)) (record {
          kept = omega arith;
          numbered = numbered_push b.base b.kept m is.numbered (omega arith);
          above = is.above;
          below = let low = is.below in omega arith;
          base = is.base;
          sent = high;
          next = numbers;
        })
    at (inr le) =
        let size = is.kept in
        subst IsBacklog (sym (saved_below (record b { held = held }) m le)) (record {
          kept = omega arith;
          numbered = is.numbered;
          above = is.above;
          below = let low = is.below in omega arith;
          base = is.base;
          sent = high;
          next = numbers;
        })

-- the packet that was held first has the next number, and those behind it go on from there
pub is_backlog_freed : (b : BacklogValue) (held : List PacketValue) → b.held ≡ held → 0 < length held → IsBacklog b → IsBacklog (freed_of b held)
is_backlog_freed b [] e some is = absurd (omega arith)
is_backlog_freed b (m ∷ ms) e some is =
    let numbers : AreNumbered b.sent (m ∷ ms) = subst (λ l. AreNumbered b.sent l) e is.next in
    let high : b.sent + length (m ∷ ms) ≤ greatest_clock = subst (λ l. b.sent + length l ≤ greatest_clock) e is.sent in
    is_backlog_saved b m ms is (numbers zero m (omega arith) ∙ omega arith) (omega arith) (numbered_rest b.sent m ms numbers)

-- a backlog stays one with a packet that is held
is_backlog_hold : (b : BacklogValue) (m : PacketValue) → IsBacklog b → m.number ≡ next_number b → m.number ≤ greatest_clock → IsBacklog (hold b m)
is_backlog_hold b m is next high = record {
  kept = is.kept;
  numbered = is.numbered;
  above = is.above;
  below = is.below;
  base = is.base;
  sent = let long = length-append b.held (m ∷ []) in omega arith;
  next = numbered_push b.sent b.held m is.next next;
}

-- a packet that goes last is held
hold_at_end : (base sent cursor : ℕ) (ps : List PacketValue) (m : PacketValue) → IsBacklog (backlog_of base sent cursor ps)
    → backlog_of base sent cursor (ps ++ m ∷ []) ≡ hold (backlog_of base sent cursor ps) m
hold_at_end base sent cursor ps m is =
    let short = length_kept base sent cursor ps is in
    λ i. record {
      base = base;
      sent = sent;
      cursor = cursor;
      kept = take-append-le (sent - base) ps (m ∷ []) short i;
      held = drop-append-le (sent - base) ps (m ∷ []) short i;
    }

-- whether there is memory or not, a backlog stays one
pub is_backlog_pushed : (base sent cursor : ℕ) (ps qs : List PacketValue) (m : PacketValue) (pushed : Bool) → IsBacklog (backlog_of base sent cursor ps)
    → m.number ≡ next_number (backlog_of base sent cursor ps) → m.number ≤ greatest_clock
    → qs ≡ (if pushed then ps ++ m ∷ [] else ps) → IsBacklog (backlog_of base sent cursor qs)
is_backlog_pushed base sent cursor ps qs m true is next high same =
    subst IsBacklog (sym (ap (backlog_of base sent cursor) same ∙ hold_at_end base sent cursor ps m is))
    (is_backlog_hold (backlog_of base sent cursor ps) m is next high)
is_backlog_pushed base sent cursor ps qs m false is next high same = subst (λ l. IsBacklog (backlog_of base sent cursor l)) (sym same) is

-- where the base isn't past the last one sent, what is held first is kept where it stands
pub freed_in_place : (base sent cursor : ℕ) (ps : List PacketValue) (held : List PacketValue) → drop (sent - base) ps ≡ held → 0 < length held
    → AreNumbered sent (drop (sent - base) ps) → base ≤ sent
    → backlog_of base (sent + 1) cursor ps ≡ freed_of (backlog_of base sent cursor ps) held
freed_in_place base sent cursor ps [] e some numbers low = absurd (omega arith)
freed_in_place base sent cursor ps (m ∷ ms) e some numbers low =
    let n = sent - base in
    let one_more : sent + 1 - base ≡ suc n = omega arith in
    let number : m.number ≡ sent + 1 = subst (λ l. AreNumbered sent l) e numbers zero m (omega arith) ∙ omega arith in
    (λ i. record {
      base = base;
      sent = sent + 1;
      cursor = cursor;
      kept = (ap (λ k. take k ps) one_more ∙ take-seam n ps m ms e) i;
      held = (ap (λ k. drop k ps) one_more ∙ drop-seam n ps m ms e) i;
    })
    ∙ sym (saved_above (record (backlog_of base sent cursor ps) { held = ms }) m (omega arith))

-- where it is past it, nothing is kept, and what is held first goes
pub freed_at_front : (base sent cursor : ℕ) (ps : List PacketValue) (held : List PacketValue) → drop (sent - base) ps ≡ held → 0 < length held
    → AreNumbered sent (drop (sent - base) ps) → sent < base
    → backlog_of base (sent + 1) cursor (drop 1 ps) ≡ freed_of (backlog_of base sent cursor ps) held
freed_at_front base sent cursor ps [] e some numbers low = absurd (omega arith)
freed_at_front base sent cursor ps (m ∷ ms) e some numbers low =
    let none_now : sent - base ≡ 0 = omega arith in
    let none_then : sent + 1 - base ≡ 0 = omega arith in
    let number : m.number ≡ sent + 1 = subst (λ l. AreNumbered sent l) e numbers zero m (omega arith) ∙ omega arith in
    let all : ps ≡ m ∷ ms = sym (ap (λ k. drop k ps) none_now) ∙ e in
    (λ i. record {
      base = base;
      sent = sent + 1;
      cursor = cursor;
      kept = (ap (λ k. take k (drop 1 ps)) none_then ∙ sym (ap (λ k. take k ps) none_now)) i;
      held = (ap (λ k. drop k (drop 1 ps)) none_then ∙ ap (drop 1) all) i;
    })
    ∙ sym (saved_below (record (backlog_of base sent cursor ps) { held = ms }) m (omega arith))

-- a packet that is saved where none is held
pub is_backlog_kept : (base sent cursor number : ℕ) (ps qs : List PacketValue) (m : PacketValue) → IsBacklog (backlog_of base sent cursor ps)
    → drop (sent - base) ps ≡ [] → m.number ≡ sent + 1 → number ≡ m.number → number ≤ greatest_clock → base < number → qs ≡ ps ++ m ∷ []
    → IsBacklog (backlog_of base number cursor qs)
is_backlog_kept base sent cursor number ps qs m is none next same high lt pushed =
    let n = sent - base in
    let b = backlog_of base sent cursor ps in
    let all : length ps ≤ n = let left = sym (length-drop n ps) ∙ ap (length {A = PacketValue}) none in omega arith in
    let long = length-append ps (m ∷ []) in
    let still = is_backlog_saved b m [] is next (omega arith) (λ k d low. absurd (omega arith)) in
    let more : backlog_of base number cursor qs ≡ record b { sent = sent + 1; kept = take n ps ++ m ∷ []; held = [] } = λ i. record {
      base = base;
      sent = (same ∙ next) i;
      cursor = cursor;
      kept = (ap (take (number - base)) pushed ∙ take_all (number - base) (ps ++ m ∷ []) (omega arith) ∙ ap (λ l. l ++ m ∷ []) (sym (take_all n ps all))) i;
      held = (ap (drop (number - base)) pushed ∙ drop_all (number - base) (ps ++ m ∷ []) (omega arith)) i;
    } in
    subst IsBacklog (sym (more ∙ sym (saved_above (record b { held = [] }) m (omega arith)))) still

-- and one that was let go before it is saved
pub is_backlog_let_go : (base sent cursor number : ℕ) (ps : List PacketValue) (m : PacketValue) → IsBacklog (backlog_of base sent cursor ps)
    → drop (sent - base) ps ≡ [] → m.number ≡ sent + 1 → number ≡ m.number → number ≤ greatest_clock → number ≤ base
    → IsBacklog (backlog_of base number cursor ps)
is_backlog_let_go base sent cursor number ps m is none next same high le =
    let b = backlog_of base sent cursor ps in
    let still = is_backlog_saved b m [] is next (omega arith) (λ k d low. absurd (omega arith)) in
    let as_many : number - base ≡ sent - base = omega arith in
    let more : backlog_of base number cursor ps ≡ record b { sent = sent + 1; held = [] } = λ i. record {
      base = base;
      sent = (same ∙ next) i;
      cursor = cursor;
      kept = take (as_many i) ps;
      held = (ap (λ k. drop k ps) as_many ∙ none) i;
    } in
    subst IsBacklog (sym (more ∙ sym (saved_below (record b { held = [] }) m (omega arith)))) still

-- the kept packets up to a number go
kept_after : (base sent upto : ℕ) (ps : List PacketValue) → base < upto
    → take (sent - upto) (drop (min (sent - base) (upto - base)) ps) ≡ drop (upto - base) (take (sent - base) ps)
kept_after base sent upto ps lt = at (cases_lt sent upto)
  where
    at : (sent < upto) ⊎ (upto ≤ sent) → take (sent - upto) (drop (min (sent - base) (upto - base)) ps) ≡ drop (upto - base) (take (sent - base) ps)
    at (inl past) =
        let none : sent - upto ≡ 0 = omega arith in
        let short = length-take (sent - base) ps in
        ap (λ k. take k (drop (min (sent - base) (upto - base)) ps)) none ∙ sym (drop_all (upto - base) (take (sent - base) ps) (omega arith))
    at (inr within) =
        let some : min (sent - base) (upto - base) ≡ upto - base = omega arith in
        let both : upto - base + (sent - upto) ≡ sent - base = omega arith in
        ap (λ k. take (sent - upto) (drop k ps)) some ∙ sym (drop-take (upto - base) (sent - upto) ps) ∙ ap (λ k. drop (upto - base) (take k ps)) both

-- and those held stay
held_after : (base sent upto : ℕ) (ps : List PacketValue) → base < upto
    → drop (sent - upto) (drop (min (sent - base) (upto - base)) ps) ≡ drop (sent - base) ps
held_after base sent upto ps lt =
    let all : min (sent - base) (upto - base) + (sent - upto) ≡ sent - base = omega arith in
    drop-drop (sent - upto) (min (sent - base) (upto - base)) ps ∙ ap (λ k. drop k ps) all

-- so where the kept packets up to a number go from the front of the list, it is the pruned backlog
pub pruned_front : (base sent cursor upto last : ℕ) (ps qs : List PacketValue) → base < upto → last ≡ max cursor (upto + 1)
    → qs ≡ drop (min (sent - base) (upto - base)) ps
    → backlog_of upto sent last qs ≡ pruned (backlog_of base sent cursor ps) upto
pruned_front base sent cursor upto last ps qs lt moved gone =
    let b = backlog_of base sent cursor ps in
    (λ i. record {
      base = upto;
      sent = sent;
      cursor = moved i;
      kept = (ap (take (sent - upto)) gone ∙ kept_after base sent upto ps lt) i;
      held = (ap (drop (sent - upto)) gone ∙ held_after base sent upto ps lt) i;
    })
    ∙ sym (ap (λ (t : Bool). if t then record b { base = upto; cursor = max cursor (upto + 1); kept = drop (upto - base) b.kept } else b) (above base upto lt))
