-- Lists: beginnings and ends, and the packets of messages.
use Rattle.std.proofs.Common.{◌≡◌, ℕ, zero, suc, ◌+◌, ◌<◌, ◌≤◌, List, [], ◌∷◌, ◌++◌, Some, length, take, drop, map, refl, sym, ap, subst, ◌∙◌}
use Rattle.std.proofs.Common.{arith, slice_get, replicate}
use Rattle.matching.specs.PacketValue as packet
use Rattle.rank_machine.specs.Acts.{Message}
use Rattle.bare_world.specs.Stands.{packet_of, packets_from}

-- the beginning of a longer list
pub take_append : {A : Type 0} (k : ℕ) (xs ys : List A) → k ≤ length xs → take k (xs ++ ys) ≡ take k xs
take_append zero xs ys l = refl
take_append (suc k) [] ys l = absurd (omega arith)
take_append (suc k) (x ∷ xs) ys l = ap (λ z. x ∷ z) (take_append k xs ys (omega arith))

-- all of a list
pub take_whole : {A : Type 0} (xs : List A) → take (length xs) xs ≡ xs
take_whole [] = refl
take_whole (x ∷ xs) = ap (λ z. x ∷ z) (take_whole xs)

-- how many are taken
pub take_length : {A : Type 0} (k : ℕ) (xs : List A) → k ≤ length xs → length (take k xs) ≡ k
take_length zero xs l = refl
take_length (suc k) [] l = absurd (omega arith)
take_length (suc k) (x ∷ xs) l = ap suc (take_length k xs (omega arith))

-- nothing is left behind the end
pub drop_beyond : {A : Type 0} (k : ℕ) (xs : List A) → length xs ≤ k → drop k xs ≡ []
drop_beyond zero [] l = refl
drop_beyond (suc k) [] l = refl
drop_beyond zero (x ∷ xs) l = absurd (omega arith)
drop_beyond (suc k) (x ∷ xs) l = drop_beyond k xs (omega arith)

-- the rest of a longer list
pub drop_append : {A : Type 0} (k : ℕ) (xs ys : List A) → k ≤ length xs → drop k (xs ++ ys) ≡ drop k xs ++ ys
drop_append zero [] ys l = refl
drop_append zero (x ∷ xs) ys l = refl
drop_append (suc k) [] ys l = absurd (omega arith)
drop_append (suc k) (x ∷ xs) ys l = drop_append k xs ys (omega arith)

-- what was added is left
pub drop_own : {A : Type 0} (xs ys : List A) → drop (length xs) (xs ++ ys) ≡ ys
drop_own [] [] = refl
drop_own [] (y ∷ ys) = refl
drop_own (x ∷ xs) ys = drop_own xs ys

-- of nothing nothing is left
pub drop_none : {A : Type 0} (k : ℕ) → drop {A = A} k [] ≡ []
drop_none zero = refl
drop_none (suc k) = refl

-- all is left where none is dropped
pub drop_zero : {A : Type 0} (xs : List A) → drop 0 xs ≡ xs
drop_zero [] = refl
drop_zero (x ∷ xs) = refl

-- where more was dropped in two goes
pub drop_more : {A : Type 0} (j k : ℕ) (xs : List A) → drop j (drop k xs) ≡ drop (k + j) xs
drop_more j zero [] = ap (λ z. drop z []) (let e : j ≡ 0 + j = omega arith in e)
drop_more j zero (x ∷ xs) = ap (λ z. drop z (x ∷ xs)) (let e : j ≡ 0 + j = omega arith in e)
drop_more j (suc k) [] = drop_none j ∙ sym (drop_none (suc k + j))
drop_more j (suc k) (x ∷ xs) = drop_more j k xs ∙ (let e : suc (k + j) ≡ suc k + j = omega arith in ap (λ z. drop z (x ∷ xs)) e)

-- the next element: it is one more to take, and one less to drop
pub record Next {A : Type 0} (k : ℕ) (xs : List A) (x : A) (rest : List A) : Type 0 where
  pub within : k + 1 ≤ length xs
  pub taken : take (k + 1) xs ≡ take k xs ++ x ∷ []
  pub dropped : drop (k + 1) xs ≡ rest
  pub there : slice_get xs k ≡ Some x

-- what is left first is next
pub next_of_drop : {A : Type 0} (k : ℕ) (xs : List A) (x : A) (rest : List A) → drop k xs ≡ x ∷ rest → Next k xs x rest
next_of_drop zero [] x rest e = absurd cc
next_of_drop (suc k) [] x rest e = absurd cc
next_of_drop zero (y ∷ xs) x rest e =
    let h : y ≡ x = cc in
    let t : xs ≡ rest = cc in
    record { within = omega arith; taken = ap (λ z. z ∷ []) h; dropped = drop_zero xs ∙ t; there = ap Some h }
next_of_drop (suc k) (y ∷ xs) x rest e =
    let n = next_of_drop k xs x rest e in
    let p : suc (k + 1) ≡ suc k + 1 = omega arith in
    record {
      within = let l = n.within in omega (arith, l);
      taken = subst (λ z. take z (y ∷ xs) ≡ y ∷ (take k xs ++ x ∷ [])) p (ap (λ z. y ∷ z) n.taken);
      dropped = subst (λ z. drop z (y ∷ xs) ≡ rest) p n.dropped;
      there = n.there;
    }

-- there is a next element
pub drop_some : {A : Type 0} (k : ℕ) (xs : List A) → k < length xs → (x : A) × (rest : List A) × (drop k xs ≡ x ∷ rest)
drop_some k [] l = absurd (omega arith)
drop_some zero (y ∷ xs) l = (y, xs, refl)
drop_some (suc k) (y ∷ xs) l = drop_some k xs (omega arith)

-- one message more
pub packets_push : (r k : ℕ) (ms : List Message) (m : Message) → packets_from r k (ms ++ m ∷ []) ≡ packets_from r k ms ++ packet_of r (k + length ms + 1) m ∷ []
packets_push r k [] m = (let e : k + 1 ≡ k + 0 + 1 = omega arith in ap (λ z. packet_of r z m ∷ []) e)
packets_push r k (x ∷ ms) m =
    ap (λ z. packet_of r (k + 1) x ∷ z)
    (packets_push r (k + 1) ms m
    ∙ (let e : k + 1 + length ms + 1 ≡ k + suc (length ms) + 1 = omega arith in ap (λ z. packets_from r (k + 1) ms ++ packet_of r z m ∷ []) e))

-- as many packets as messages
pub packets_length : (r k : ℕ) (ms : List Message) → length (packets_from r k ms) ≡ length ms
packets_length r k [] = refl
packets_length r k (x ∷ ms) = ap suc (packets_length r (k + 1) ms)

-- each packet is the one of its message
pub packets_get : (r k : ℕ) (ms : List Message) (i : ℕ) (p : packet.PacketValue) → slice_get (packets_from r k ms) i ≡ Some p
    → (m : Message) × (slice_get ms i ≡ Some m) × (p ≡ packet_of r (k + i + 1) m)
packets_get r k [] i p e = absurd cc
packets_get r k (x ∷ ms) zero p e =
    (x, refl, (let q : packet_of r (k + 1) x ≡ p = cc in sym q) ∙ (let z : k + 1 ≡ k + 0 + 1 = omega arith in ap (λ y. packet_of r y x) z))
packets_get r k (x ∷ ms) (suc i) p e =
    let g = packets_get r (k + 1) ms i p e in
    (g.0, g.1, g.2 ∙ (let z : k + 1 + i + 1 ≡ k + suc i + 1 = omega arith in ap (λ y. packet_of r y g.0) z))

-- the packet of a message
pub packets_there : (r k : ℕ) (ms : List Message) (i : ℕ) (m : Message) → slice_get ms i ≡ Some m
    → slice_get (packets_from r k ms) i ≡ Some (packet_of r (k + i + 1) m)
packets_there r k [] i m e = absurd cc
packets_there r k (x ∷ ms) zero m e =
    let q : x ≡ m = cc in
    let z : k + 1 ≡ k + 0 + 1 = omega arith in
    ap Some (ap (λ y. packet_of r (k + 1) y) q ∙ ap (λ y. packet_of r y m) z)
packets_there r k (x ∷ ms) (suc i) m e =
    packets_there r (k + 1) ms i m e
    ∙ (let z : k + 1 + i + 1 ≡ k + suc i + 1 = omega arith in ap (λ y. Some (packet_of r y m)) z)

-- what stands in the rest stands in the list
pub get_drop : {A : Type 0} (n : ℕ) (xs : List A) (k : ℕ) (x : A) → slice_get (drop n xs) k ≡ Some x → slice_get xs (n + k) ≡ Some x
get_drop zero [] k x e = absurd cc
get_drop zero (y ∷ xs) k x e = (let z : k ≡ 0 + k = omega arith in subst (λ j. slice_get (y ∷ xs) j ≡ Some x) z e)
get_drop (suc n) [] k x e = absurd cc
get_drop (suc n) (y ∷ xs) k x e = (let z : suc (n + k) ≡ suc n + k = omega arith in subst (λ j. slice_get (y ∷ xs) j ≡ Some x) z (get_drop n xs k x e))

-- and the other way around
pub get_dropped : {A : Type 0} (n : ℕ) (xs : List A) (k : ℕ) (x : A) → slice_get xs (n + k) ≡ Some x → slice_get (drop n xs) k ≡ Some x
get_dropped zero [] k x e = absurd cc
get_dropped zero (y ∷ xs) k x e = (let z : 0 + k ≡ k = omega arith in subst (λ j. slice_get (y ∷ xs) j ≡ Some x) z e)
get_dropped (suc n) [] k x e = absurd cc
get_dropped (suc n) (y ∷ xs) k x e = get_dropped n xs k x (let z : suc n + k ≡ suc (n + k) = omega arith in subst (λ j. slice_get (y ∷ xs) j ≡ Some x) z e)

-- what stands in an image of a list
pub get_map : {A B : Type 0} (f : A → B) (xs : List A) (k : ℕ) (y : B) → slice_get (map f xs) k ≡ Some y → (x : A) × (slice_get xs k ≡ Some x) × (y ≡ f x)
get_map f [] k y e = absurd cc
get_map f (x ∷ xs) zero y e = (x, refl, (let q : f x ≡ y = cc in sym q))
get_map f (x ∷ xs) (suc k) y e = get_map f xs k y e

-- an image is as long
pub map_length : {A B : Type 0} (f : A → B) (xs : List A) → length (map f xs) ≡ length xs
map_length f [] = refl
map_length f (x ∷ xs) = ap suc (map_length f xs)

-- so many copies
pub replicate_length : {A : Type 0} (n : ℕ) (x : A) → length (replicate n x) ≡ n
replicate_length zero x = refl
replicate_length (suc n) x = ap suc (replicate_length n x)
