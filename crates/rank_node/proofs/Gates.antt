-- What waits at the gate, as it grows at its end and shrinks at its front: how many effects there are, how many sends to a
-- rank, and that the first of it are events.
use Rattle.std.proofs.Common.{◌≡◌, ℕ, zero, suc, ◌+◌, ◌-◌, ◌<◌, ◌≤◌, Bool, true, false, ◌==◌, if◌then◌else◌, List, [], ◌∷◌, ◌++◌}
use Rattle.std.proofs.Common.{length, drop, slice_get, option_and_then, refl, subst, arith}
use Rattle.std.specs.Prelude.{IsSome}
use Rattle.rank_node.specs.declared.waiting.Waiting.{Waiting}
use Rattle.rank_node.specs.declared.waiting.Waiting.TheVariants.{Event, Send, Line}
use Rattle.rank_node.specs.Waiting.{effects, sends_to, event_in, BeginsWithEvents}

-- ---- how many effects wait

-- what goes last counts too
pub effects_push : (xs : List Waiting) (y : Waiting) → effects (xs ++ y ∷ []) ≡ effects xs + effects (y ∷ [])
effects_push [] y = (let z : effects (y ∷ []) ≡ 0 + effects (y ∷ []) = omega arith in z)
effects_push (Event e ∷ xs) y = effects_push xs y
effects_push (Send d c ∷ xs) y =
    (let z = effects_push xs y in let q : suc (effects (xs ++ y ∷ [])) ≡ suc (effects xs) + effects (y ∷ []) = omega (arith, z) in q)
effects_push (Line c v ∷ xs) y =
    (let z = effects_push xs y in let q : suc (effects (xs ++ y ∷ [])) ≡ suc (effects xs) + effects (y ∷ []) = omega (arith, z) in q)

-- ---- how many sends to a rank wait

-- what goes last counts too
pub sends_to_push : (d : ℕ) (xs : List Waiting) (y : Waiting) → sends_to d (xs ++ y ∷ []) ≡ sends_to d xs + sends_to d (y ∷ [])
sends_to_push d [] y = (let z : sends_to d (y ∷ []) ≡ 0 + sends_to d (y ∷ []) = omega arith in z)
sends_to_push d (Event e ∷ xs) y = sends_to_push d xs y
sends_to_push d (Send e c ∷ xs) y = go (e == d) (sends_to_push d xs y)
  where
    go : (b : Bool) → sends_to d (xs ++ y ∷ []) ≡ sends_to d xs + sends_to d (y ∷ [])
        → (if b then suc (sends_to d (xs ++ y ∷ [])) else sends_to d (xs ++ y ∷ []))
        ≡ (if b then suc (sends_to d xs) else sends_to d xs) + sends_to d (y ∷ [])
    go true z = omega (arith, z)
    go false z = z
sends_to_push d (Line c v ∷ xs) y = sends_to_push d xs y

-- an event that goes first doesn't
pub sends_to_drop : (d : ℕ) (xs : List Waiting) → IsSome (option_and_then event_in (slice_get xs 0)) → sends_to d (drop 1 xs) ≡ sends_to d xs
sends_to_drop d [] first = absurd cc
sends_to_drop d (Event e ∷ []) first = refl
sends_to_drop d (Event e ∷ (y ∷ xs)) first = refl
sends_to_drop d (Send e c ∷ xs) first = absurd cc
sends_to_drop d (Line c v ∷ xs) first = absurd cc

-- ---- the events that stand first

-- what goes last changes nothing
pub begins_push : (k : ℕ) (xs : List Waiting) (y : Waiting) → BeginsWithEvents k xs → BeginsWithEvents k (xs ++ y ∷ [])
begins_push zero xs y b = tt
begins_push (suc k) [] y b = absurd b
begins_push (suc k) (Event e ∷ xs) y b = begins_push k xs y b
begins_push (suc k) (Send d c ∷ xs) y b = absurd b
begins_push (suc k) (Line c v ∷ xs) y b = absurd b

-- so many are there
pub begins_within : (k : ℕ) (xs : List Waiting) → BeginsWithEvents k xs → k ≤ length xs
begins_within zero xs b = omega arith
begins_within (suc k) [] b = absurd b
begins_within (suc k) (Event e ∷ xs) b = (let z = begins_within k xs b in omega (arith, z))
begins_within (suc k) (Send d c ∷ xs) b = absurd b
begins_within (suc k) (Line c v ∷ xs) b = absurd b

-- the first of all is one
pub begins_first : (k : ℕ) (xs : List Waiting) → 0 < k → BeginsWithEvents k xs → IsSome (option_and_then event_in (slice_get xs 0))
begins_first zero xs some b = absurd (omega (arith, some))
begins_first (suc k) [] some b = absurd b
begins_first (suc k) (Event e ∷ xs) some b = refl
begins_first (suc k) (Send d c ∷ xs) some b = absurd b
begins_first (suc k) (Line c v ∷ xs) some b = absurd b

-- the last goes, where it isn't among them
pub begins_withdraw : (k : ℕ) (xs : List Waiting) (y : Waiting) → BeginsWithEvents k (xs ++ y ∷ []) → k < length (xs ++ y ∷ []) → BeginsWithEvents k xs
begins_withdraw zero xs y b l = tt
begins_withdraw (suc k) [] y b l = absurd (omega (arith, l))
begins_withdraw (suc k) (Event e ∷ xs) y b l = begins_withdraw k xs y b (omega (arith, l))
begins_withdraw (suc k) (Send d c ∷ xs) y b l = absurd b
begins_withdraw (suc k) (Line c v ∷ xs) y b l = absurd b

-- the event right behind them is one of them then
pub begins_more : (k : ℕ) (xs : List Waiting) → BeginsWithEvents k xs → IsSome (option_and_then event_in (slice_get xs k)) → BeginsWithEvents (k + 1) xs
begins_more zero [] b f = absurd cc
begins_more zero (Event e ∷ xs) b f = tt
begins_more zero (Send d c ∷ xs) b f = absurd cc
begins_more zero (Line c v ∷ xs) b f = absurd cc
begins_more (suc k) [] b f = absurd b
begins_more (suc k) (Event x ∷ xs) b f =
    (let z : suc (k + 1) ≡ suc k + 1 = omega arith in subst (λ y. BeginsWithEvents y (Event x ∷ xs)) z (begins_more k xs b f))
begins_more (suc k) (Send d c ∷ xs) b f = absurd b
begins_more (suc k) (Line c v ∷ xs) b f = absurd b

-- the first of them goes
pub begins_less : (k : ℕ) (xs : List Waiting) → BeginsWithEvents k xs → BeginsWithEvents (k - 1) (drop 1 xs)
begins_less zero xs b = tt
begins_less (suc k) [] b = absurd b
begins_less (suc k) (Event e ∷ []) b = subst (λ z. BeginsWithEvents z []) (let z : k ≡ suc k - 1 = omega arith in z) b
begins_less (suc k) (Event e ∷ (y ∷ xs)) b = subst (λ z. BeginsWithEvents z (y ∷ xs)) (let z : k ≡ suc k - 1 = omega arith in z) b
begins_less (suc k) (Send d c ∷ xs) b = absurd b
begins_less (suc k) (Line c v ∷ xs) b = absurd b
