-- What waits at a gate and what is left to replay, without runs of misses: as many effects, as many acts; a miss that joins is
-- one act more, like one that doesn't; and a run that is half replayed is its next miss and the others.
use Rattle.std.proofs.Common.{◌≡◌, ℕ, zero, suc, ◌+◌, ◌-◌, ◌≤◌, true, List, [], ◌∷◌, ◌++◌}
use Rattle.std.proofs.Common.{length, map, drop, refl, sym, ap, ◌∙◌, arith, append_assoc, slice_get}
use Rattle.std.proofs.lemmas.List.{append-nil}
use Rattle.event_logger.specs.Sequential.Event.{EventValue, event_of, joined, finds_none}
use Rattle.event_logger.specs.Sequential.Misses.{parts_of, parts_at, expand, IsCounted, IsCountedAt, misses_after}
use Rattle.event_logger.specs.declared.sequential.kind.Kind.{Kind}
use Rattle.event_logger.specs.declared.sequential.kind.Kind.TheVariants as kind
use Rattle.event_logger.proofs.SequentialLaws.Misses.{joined_parts}
use Rattle.rank_node.specs.declared.waiting.Waiting.{Waiting}
use Rattle.rank_node.specs.declared.waiting.Waiting.TheVariants as waits
use Rattle.rank_node.specs.Waiting.{events_in, effects, BeginsWithEvents, is_settled, expanded, ends_in_miss, joins}
use Rattle.rank_node.specs.Waiting.{with_joined}
use Rattle.bare_world.specs.World.{Rank, unpassed}
use Rattle.bare_world.specs.Plain.{plainly, plain_rank, AllCounted}
use Rattle.bare_world.proofs.Lists.Beginnings.{drop_zero}
use Rattle.bare_world.proofs.Lists.Places.{get_last}

-- ---- what waits, one for each act

-- one after the other
pub expanded_append : (xs ys : List Waiting) → expanded (xs ++ ys) ≡ expanded xs ++ expanded ys
expanded_append [] ys = refl
expanded_append (waits.Event e ∷ xs) ys =
    ap (λ z. map waits.Event (parts_of e) ++ z) (expanded_append xs ys) ∙ sym (append_assoc (map waits.Event (parts_of e)) (expanded xs) (expanded ys))
expanded_append (waits.Send d c ∷ xs) ys = ap (λ z. waits.Send d c ∷ z) (expanded_append xs ys)
expanded_append (waits.Line c v ∷ xs) ys = ap (λ z. waits.Line c v ∷ z) (expanded_append xs ys)

-- the events among events and what waits behind them
events_of_map : (es : List EventValue) (xs : List Waiting) → events_in (map waits.Event es ++ xs) ≡ es ++ events_in xs
events_of_map [] xs = refl
events_of_map (e ∷ es) xs = ap (λ z. e ∷ z) (events_of_map es xs)

-- the events are those that the events stand for
pub events_expanded : (xs : List Waiting) → events_in (expanded xs) ≡ expand (events_in xs)
events_expanded [] = refl
events_expanded (waits.Event e ∷ xs) = events_of_map (parts_of e) (expanded xs) ∙ ap (λ z. parts_of e ++ z) (events_expanded xs)
events_expanded (waits.Send d c ∷ xs) = events_expanded xs
events_expanded (waits.Line c v ∷ xs) = events_expanded xs

-- events that wait in front are no effects
effects_of_map : (es : List EventValue) (xs : List Waiting) → effects (map waits.Event es ++ xs) ≡ effects xs
effects_of_map [] xs = refl
effects_of_map (e ∷ es) xs = effects_of_map es xs

-- as many effects wait
pub effects_expanded : (xs : List Waiting) → effects (expanded xs) ≡ effects xs
effects_expanded [] = refl
effects_expanded (waits.Event e ∷ xs) = effects_of_map (parts_of e) (expanded xs) ∙ effects_expanded xs
effects_expanded (waits.Send d c ∷ xs) = ap suc (effects_expanded xs)
effects_expanded (waits.Line c v ∷ xs) = ap suc (effects_expanded xs)

-- what is counted stands for some act
some_part : (e : EventValue) → IsCounted e → (p : EventValue) × (ps : List EventValue) × (parts_of e ≡ p ∷ ps)
some_part e counted = go e.kind counted
  where
    some : (k n : ℕ) → 1 ≤ n → (p : EventValue) × (ps : List EventValue) × (misses_after k n ≡ p ∷ ps)
    some k zero l = absurd (omega (arith, l))
    some k (suc n) l = (event_of kind.Miss 0 0 (k + 1), misses_after (k + 1) n, refl)

    go : (k : Kind) → IsCountedAt k e.sender e.sender_clock e.receiver_clock → (p : EventValue) × (ps : List EventValue) × (parts_at e k ≡ p ∷ ps)
    go kind.Reception c = (e, [], refl)
    go kind.Hit c = (e, [], refl)
    go kind.Miss c = (e, [], refl)
    go kind.Misses c = some (e.receiver_clock - e.sender_clock) e.sender_clock c.0

-- ---- so many of the first are stored

-- what isn't stored
pub plainly_drop : (k : ℕ) (xs : List Waiting) → drop k (plainly k xs) ≡ expanded (drop k xs)
plainly_drop zero [] = refl
plainly_drop zero (x ∷ xs) = drop_none (expanded (x ∷ xs))
  where
    drop_none : {A : Type 0} (ys : List A) → drop 0 ys ≡ ys
    drop_none [] = refl
    drop_none (y ∷ ys) = refl
plainly_drop (suc k) [] = refl
plainly_drop (suc k) (x ∷ xs) = plainly_drop k xs

-- what a rank hasn't let pass
pub unpassed_plain : (v : Rank) → unpassed (plain_rank v) ≡ expanded (unpassed v)
unpassed_plain v = plainly_drop v.stored v.pending

-- as many effects wait
pub plainly_effects : (k : ℕ) (xs : List Waiting) → effects (plainly k xs) ≡ effects xs
plainly_effects zero xs = effects_expanded xs
plainly_effects (suc k) [] = refl
plainly_effects (suc k) (waits.Event e ∷ xs) = plainly_effects k xs
plainly_effects (suc k) (waits.Send d c ∷ xs) = ap suc (plainly_effects k xs)
plainly_effects (suc k) (waits.Line c v ∷ xs) = ap suc (plainly_effects k xs)

-- the first of them are events
pub plainly_begins : (k : ℕ) (xs : List Waiting) → BeginsWithEvents k xs → BeginsWithEvents k (plainly k xs)
plainly_begins zero xs b = tt
plainly_begins (suc k) [] b = absurd b
plainly_begins (suc k) (waits.Event e ∷ xs) b = plainly_begins k xs b
plainly_begins (suc k) (waits.Send d c ∷ xs) b = absurd b
plainly_begins (suc k) (waits.Line c v ∷ xs) b = absurd b

-- an event, a send or a line goes last
pub plainly_push : (k : ℕ) (xs : List Waiting) (y : Waiting) → k ≤ length xs → plainly k (xs ++ y ∷ []) ≡ plainly k xs ++ expanded (y ∷ [])
plainly_push zero xs y low = expanded_append xs (y ∷ [])
plainly_push (suc k) [] y low = absurd (omega (arith, low))
plainly_push (suc k) (x ∷ xs) y low = ap (λ z. x ∷ z) (plainly_push k xs y (omega (arith, low)))

-- where nothing waits, nothing does, and else something does
pub plainly_settled : (k : ℕ) (xs : List Waiting) → AllCounted (events_in (drop k xs)) → is_settled (plainly k xs) ≡ is_settled xs
plainly_settled zero [] counted = refl
plainly_settled zero (waits.Event e ∷ xs) counted =
    let p = some_part e (counted 0 e refl) in
    ap (λ z. is_settled (map waits.Event z ++ expanded xs)) p.2
plainly_settled zero (waits.Send d c ∷ xs) counted = refl
plainly_settled zero (waits.Line c v ∷ xs) counted = refl
plainly_settled (suc k) [] counted = refl
plainly_settled (suc k) (x ∷ xs) counted = refl

-- where nothing waits
pub plainly_none : (k : ℕ) (xs : List Waiting) → xs ≡ [] → plainly k xs ≡ []
plainly_none zero [] e = refl
plainly_none (suc k) [] e = refl
plainly_none k (x ∷ xs) e = absurd cc

-- something waits just where something did
pub none_plainly : (k : ℕ) (xs : List Waiting) → AllCounted (events_in (drop k xs)) → plainly k xs ≡ [] → xs ≡ []
none_plainly k xs counted e = none xs (sym (plainly_settled k xs counted) ∙ ap is_settled e)
  where
    none : (xs : List Waiting) → is_settled xs ≡ true → xs ≡ []
    none [] q = refl
    none (x ∷ xs) q = absurd cc

-- the first of them, which is stored, goes
pub plainly_less : (k : ℕ) (xs : List Waiting) → (k ≡ 0 → ⊥) → plainly (k - 1) (drop 1 xs) ≡ drop 1 (plainly k xs)
plainly_less zero xs ne = absurd (ne refl)
plainly_less (suc k) [] ne = plainly_none (suc k - 1) [] refl
plainly_less (suc k) (x ∷ xs) ne =
    let e : suc k - 1 ≡ k = omega arith in
    ap (λ z. plainly z (drop 1 (x ∷ xs))) e ∙ ap (λ z. plainly k z) (drop_zero xs) ∙ sym (drop_zero (plainly k xs))

-- the first of them were events
pub begins_plainly : (k : ℕ) (xs : List Waiting) → BeginsWithEvents k (plainly k xs) → BeginsWithEvents k xs
begins_plainly zero xs b = tt
begins_plainly (suc k) [] b = absurd b
begins_plainly (suc k) (waits.Event e ∷ xs) b = begins_plainly k xs b
begins_plainly (suc k) (waits.Send d c ∷ xs) b = absurd b
begins_plainly (suc k) (waits.Line c v ∷ xs) b = absurd b

-- ---- a miss that joins

-- one event more waits behind the others
map_push : (es : List EventValue) (x : EventValue) → map waits.Event (es ++ x ∷ []) ≡ map waits.Event es ++ waits.Event x ∷ []
map_push [] x = refl
map_push (e ∷ es) x = ap (λ z. waits.Event e ∷ z) (map_push es x)

-- the last of them, which a miss joins, is counted, and ends at this clock
pub record LastMiss (c : ℕ) (xs : List Waiting) : Type 0 where
  pub before : List Waiting
  pub last : EventValue
  pub is : xs ≡ before ++ waits.Event last ∷ []
  pub miss : finds_none last.kind ≡ true

-- where a miss may join, there is a last miss or run
pub last_miss : (c : ℕ) (xs : List Waiting) → ends_in_miss xs ≡ true → LastMiss c xs
last_miss c [] ends = absurd cc
last_miss c (waits.Event e ∷ []) ends = record { before = []; last = e; is = refl; miss = ends }
last_miss c (waits.Send d k ∷ []) ends = absurd cc
last_miss c (waits.Line k v ∷ []) ends = absurd cc
last_miss c (x ∷ (y ∷ xs)) ends =
    let l = last_miss c (y ∷ xs) ends in
    record { before = x ∷ l.before; last = l.last; is = ap (λ z. x ∷ z) l.is; miss = l.miss }

-- the events among both
pub events_append : (xs ys : List Waiting) → events_in (xs ++ ys) ≡ events_in xs ++ events_in ys
events_append [] ys = refl
events_append (waits.Event e ∷ xs) ys = ap (λ z. e ∷ z) (events_append xs ys)
events_append (waits.Send d c ∷ xs) ys = events_append xs ys
events_append (waits.Line c v ∷ xs) ys = events_append xs ys

-- it is counted, where all are
pub last_counted : (c : ℕ) (xs : List Waiting) (l : LastMiss c xs) → AllCounted (events_in xs) → IsCounted l.last
last_counted c xs l counted =
    counted (length (events_in l.before)) l.last
    (ap (λ z. slice_get (events_in z) (length (events_in l.before))) l.is
    ∙ ap (λ z. slice_get z (length (events_in l.before))) (events_append l.before (waits.Event l.last ∷ []))
    ∙ get_last (events_in l.before) l.last)

-- with a miss more in the last of them
pub joined_append : (before : List Waiting) (e : EventValue) → with_joined (before ++ waits.Event e ∷ []) ≡ before ++ waits.Event (joined e) ∷ []
joined_append [] e = refl
joined_append (x ∷ []) e = refl
joined_append (x ∷ (y ∷ xs)) e = ap (λ z. x ∷ z) (joined_append (y ∷ xs) e)

-- a miss that joins is one act more that waits, like one that doesn't
expanded_joined : (c : ℕ) (xs : List Waiting) (l : LastMiss c xs) → IsCounted l.last → l.last.receiver_clock ≡ c
    → expanded (with_joined xs) ≡ expanded xs ++ waits.Event (event_of kind.Miss 0 0 (c + 1)) ∷ []
expanded_joined c xs l counted clock =
    ap (λ z. expanded (with_joined z)) l.is ∙ ap expanded (joined_append l.before l.last) ∙ expanded_append l.before (waits.Event (joined l.last) ∷ [])
    ∙ ap (λ z. expanded l.before ++ (map waits.Event z ++ [])) (joined_parts l.last l.miss counted)
    ∙ ap (λ z. expanded l.before ++ z) (append-nil _ ∙ map_push (parts_of l.last) (event_of kind.Miss 0 0 (l.last.receiver_clock + 1)))
    ∙ sym (append_assoc (expanded l.before) (map waits.Event (parts_of l.last)) (waits.Event (event_of kind.Miss 0 0 (l.last.receiver_clock + 1)) ∷ []))
    ∙ ap (λ z. z ++ waits.Event (event_of kind.Miss 0 0 (l.last.receiver_clock + 1)) ∷ []) (sym whole)
    ∙ ap (λ n. expanded xs ++ waits.Event (event_of kind.Miss 0 0 (n + 1)) ∷ []) clock
  where
    whole : expanded xs ≡ expanded l.before ++ map waits.Event (parts_of l.last)
    whole = ap expanded l.is ∙ expanded_append l.before (waits.Event l.last ∷ []) ∙ ap (λ z. expanded l.before ++ z) (append-nil _)

-- so it is where the first of them are stored
pub plainly_joined : (c k : ℕ) (xs : List Waiting) (join : joins k xs ≡ true) → IsCounted (last_miss c (drop k xs) join).last
    → (last_miss c (drop k xs) join).last.receiver_clock ≡ c
    → plainly k (with_joined xs) ≡ plainly k xs ++ waits.Event (event_of kind.Miss 0 0 (c + 1)) ∷ []
plainly_joined c zero [] join counted clock = absurd cc
plainly_joined c zero (x ∷ xs) join counted clock = expanded_joined c (x ∷ xs) (last_miss c (x ∷ xs) join) counted clock
plainly_joined c (suc k) [] join counted clock = absurd cc
plainly_joined c (suc zero) (x ∷ []) join counted clock = absurd cc
plainly_joined c (suc (suc k)) (x ∷ []) join counted clock = absurd cc
plainly_joined c (suc k) (x ∷ (y ∷ xs)) join counted clock = ap (λ z. x ∷ z) (plainly_joined c k (y ∷ xs) join counted clock)
