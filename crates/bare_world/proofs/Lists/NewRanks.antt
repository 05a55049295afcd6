-- The ranks of a new world, one after another.
use Rattle.std.proofs.Common.{◌≡◌, ℕ, suc, List, [], ◌∷◌, ◌++◌, Option, Some, None, length, refl, sym, ap, subst, ◌∙◌}
use Rattle.std.proofs.Common.{slice_get, ◌⊎◌, inl, inr, replicate, ◌+◌, arith, length-append}
use Rattle.rank_language.specs.Program.{ProgramValue}
use Rattle.crash_free.proofs.Lists.{push_cases}
use Rattle.bare_world.specs.World.{Live}
use Rattle.bare_world.specs.Headline.{IsOpened}
use Rattle.bare_world.specs.Seats.{SeatValue, IsNew, IsSeat, AreSeats, lives, images}
use Rattle.bare_world.proofs.Lists.Beginnings.{get_map, map_length}

-- all seats so far are new
abbrev pub AllNew : ProgramValue → ℕ → List SeatValue → Type 0
AllNew program n seats = (r : ℕ) (s : SeatValue) → slice_get seats r ≡ Some s → IsNew program n r s

-- one more rank at the beginning of its program
pub new_more : (program : ProgramValue) (n k : ℕ) (seats : List SeatValue) (y : SeatValue)
    → AllNew program n seats → length seats ≡ k → IsNew program n k y → AllNew program n (seats ++ y ∷ [])
new_more program n k seats y all e new r s at = go (push_cases seats y r s at)
  where
    go : (slice_get seats r ≡ Some s) ⊎ ((r ≡ length seats) × (s ≡ y)) → IsNew program n r s
    go (inl old) = all r s old
    go (inr h) = subst (λ z. IsNew program n z s) (sym (h.0 ∙ e)) (subst (λ z. IsNew program n k z) (sym h.1) new)

-- new seats are seats
pub are_seats : (program : ProgramValue) (n : ℕ) (seats : List SeatValue) → AllNew program n seats → length seats ≡ n
    → AreSeats program (length seats) seats
are_seats program n seats all e r s at = subst (λ z. IsSeat program z r s) (sym e) (all r s at).seat

-- the ranks are at the beginning of the program
pub are_opened : (program : ProgramValue) (n : ℕ) (seats : List SeatValue) → AllNew program n seats
    → (r : ℕ) (x : Option Live) → slice_get (lives seats) r ≡ Some x → IsOpened program n r x
are_opened program n seats all r x at =
    let s = get_map (λ (s : SeatValue). s.live) seats r x at in
    subst (λ z. IsOpened program n r z) (sym s.2) (all r s.0 s.1).opened

-- a list where each element is the same
all_same : {A : Type 0} (xs : List A) (y : A) → ((k : ℕ) (x : A) → slice_get xs k ≡ Some x → x ≡ y) → xs ≡ replicate (length xs) y
all_same [] y all = refl
all_same (x ∷ xs) y all = ap (λ z. z ∷ xs) (all 0 x refl) ∙ ap (λ z. y ∷ z) (all_same xs y (λ k z at. all (suc k) z at))

-- and have no images
pub no_images : (program : ProgramValue) (n : ℕ) (seats : List SeatValue) → AllNew program n seats → length seats ≡ n → images seats ≡ replicate n None
no_images program n seats all e =
    all_same (images seats) None
    (λ k o at. (let s = get_map (λ (s : SeatValue). s.image) seats k o at in s.2 ∙ (all k s.0 s.1).image))
    ∙ ap (λ z. replicate z None) (map_length (λ (s : SeatValue). s.image) seats ∙ e)

-- one more new seat of so many
pub all_more : (program : ProgramValue) (n k : ℕ) (seats items : List SeatValue) (y : SeatValue) → items ≡ seats ++ y ∷ []
    → length seats ≡ k → AllNew program n seats → IsNew program n k y → (length items ≡ k + 1) × AllNew program n items
all_more program n k seats items y is e all new =
    subst (λ z. (length z ≡ k + 1) × AllNew program n z) (sym is)
    ((let l = length-append seats (y ∷ []) in omega (arith, l, e)), new_more program n k seats y all e new)
