-- Copies of a rank, of a seat and of all seats.
use Rattle.std.proofs.Common.{◌≡◌, ℕ, ◌+◌, zero, suc, List, [], ◌∷◌, ◌++◌, length, take, add-one, refl, sym, ap, subst, ◌∙◌, Option, Some}
use Rattle.std.proofs.Common.{slice_get}
use Rattle.std.specs.List.{AllZip}
use Rattle.checkpoint.specs.Shelf.{image_bytes}
use Rattle.checkpoint.specs.declared.memory_shelf.MemoryShelf.{MemoryShelf}
use Rattle.rank_language.specs.Program.{ProgramValue}
use Rattle.rank_node.specs.Copied.{node_with, stored_with}
use Rattle.rank_node.specs.Image.{Reads, image_on}
use Rattle.rank_node.specs.Stored.{Stored}
use Rattle.rank_node.specs.Phases.{phase_with, stable_in}
use Rattle.rank_node.specs.declared.phase.Phase.TheVariants.{Running, Replaying, Down}
use Rattle.bare_world.specs.World.{Rank}
use Rattle.bare_world.specs.Seats.{SeatValue, AreSeats, lives, images}
use Rattle.bare_world.specs.Seat.{IsOwn, IsOf, IsKept, IsSeated, Phase, seat_of, shelf_of}
use Rattle.bare_world.specs.Driven.{AreAlike}
use Rattle.bare_world.specs.Copied.{IsPhaseCopy, IsSeatCopy}

-- ---- what stands at a seat

-- what is stable is this rank's still
own_copy : (program : ProgramValue) (r n : ℕ) (s : Stored MemoryShelf (Unit {0})) (shelf : MemoryShelf) → image_bytes shelf.image ≡ shelf_of s
    → IsOwn program r n s → IsOwn program r n (stored_with s tt shelf)
own_copy program r n s shelf b k = record { rank = k.rank; size = k.size; reads = subst (λ z. Reads program r n z) (sym b) k.reads }

-- a rank of a program is one of it on a shelf that holds the same image
of_copy : (program : ProgramValue) (r n : ℕ) (v : Rank) (shelf : MemoryShelf) → image_bytes shelf.image ≡ shelf_of v.stable
    → IsOf program r n v → IsOf program r n (node_with v tt shelf)
of_copy program r n v shelf b k = record { same_program = k.same_program; own = own_copy program r n v.stable shelf b k.own }

-- a rank in any phase, which is copied with its shelf
pub phase_copy : (s c : Phase) (shelf : MemoryShelf) → image_bytes shelf.image ≡ shelf_of (stable_in s) → c ≡ phase_with s tt shelf → IsPhaseCopy s c
phase_copy s c shelf b e = subst (λ z. IsPhaseCopy s z) (sym e) (go s b)
  where
    go : (s : Phase) → image_bytes shelf.image ≡ shelf_of (stable_in s) → IsPhaseCopy s (phase_with s tt shelf)
    go (Running v) b = record { live = (shelf, refl); bytes = b; standing = λ program r n k. of_copy program r n v shelf b k; left = λ k. k }
    go (Replaying v) b = record { live = (shelf, refl); bytes = b; standing = λ program r n k. of_copy program r n v.node shelf b k; left = λ k. k }
    go (Down s) b = record { live = tt; bytes = b; standing = λ program r n k. own_copy program r n s shelf b k; left = λ k. k }

-- ---- seats

-- what holds of a rank at a seat holds of its copy
pub kept_copy : (program : ProgramValue) (r n : ℕ) (place : Option Phase) (s c : Phase) → IsSeated program r n place → place ≡ Some s → IsPhaseCopy s c
    → IsKept program r n c
kept_copy program r n place s c k is copy =
    let kept : IsKept program r n s = subst (λ z. IsSeated program r n z) is k in
    record { standing = copy.standing program r n kept.standing; left = copy.left kept.left }

-- the image is the same
pub seat_copy : (program : ProgramValue) (r n : ℕ) (place : Option Phase) (s c : Phase) → place ≡ Some s → IsPhaseCopy s c
    → IsSeatCopy (seat_of program r n place) (seat_of program r n (Some c))
seat_copy program r n place s c is copy =
    subst (λ z. IsSeatCopy (seat_of program r n z) (seat_of program r n (Some c))) (sym is)
    (record { same_program = refl; rank = refl; size = refl; live = copy.live; image = ap (λ z. image_on program r n z) copy.bytes })

-- ---- all seats

-- copies of seats are as many
pub as_many : (seats copies : List SeatValue) → AllZip IsSeatCopy seats copies → length copies ≡ length seats
as_many [] [] a = refl
as_many [] (y ∷ ys) a = absurd a
as_many (x ∷ xs) [] a = absurd a
as_many (x ∷ xs) (y ∷ ys) a = ap suc (as_many xs ys a.1)

-- the copy at a place is of the seat there
copy_at : (seats copies : List SeatValue) (r : ℕ) (c : SeatValue) → AllZip IsSeatCopy seats copies → slice_get copies r ≡ Some c
    → (s : SeatValue) × (slice_get seats r ≡ Some s) × IsSeatCopy s c
copy_at [] [] r c a e = absurd cc
copy_at [] (y ∷ ys) r c a e = absurd a
copy_at (x ∷ xs) [] r c a e = absurd a
copy_at (x ∷ xs) (y ∷ ys) zero c a e = (x, refl, (let q : y ≡ c = cc in subst (λ z. IsSeatCopy x z) q a.0))
copy_at (x ∷ xs) (y ∷ ys) (suc r) c a e = copy_at xs ys r c a.1 e

-- copies of seats are seats
pub are_seats : (program : ProgramValue) (seats copies : List SeatValue) → AreSeats program (length seats) seats → AllZip IsSeatCopy seats copies
    → AreSeats program (length copies) copies
are_seats program seats copies are all r c at =
    let s = copy_at seats copies r c all at in
    let k = are r s.0 s.1 in
    record { same_program = s.2.same_program ∙ k.same_program; rank = s.2.rank ∙ k.rank; size = s.2.size ∙ k.size ∙ sym (as_many seats copies all) }

-- their ranks are alike
pub are_alike : (seats copies : List SeatValue) → AllZip IsSeatCopy seats copies → AreAlike (lives seats) (lives copies)
are_alike [] [] a = tt
are_alike [] (y ∷ ys) a = absurd a
are_alike (x ∷ xs) [] a = absurd a
are_alike (x ∷ xs) (y ∷ ys) a = (a.0.live, are_alike xs ys a.1)

-- and have the same images
pub same_images : (seats copies : List SeatValue) → AllZip IsSeatCopy seats copies → images copies ≡ images seats
same_images [] [] a = refl
same_images [] (y ∷ ys) a = absurd a
same_images (x ∷ xs) [] a = absurd a
same_images (x ∷ xs) (y ∷ ys) a = ap (λ z. y.image ∷ z) (same_images xs ys a.1) ∙ ap (λ z. z ∷ images xs) a.0.image

-- one more copy
more : (seats copies : List SeatValue) (k : ℕ) (s c : SeatValue) → slice_get seats k ≡ Some s → IsSeatCopy s c
    → AllZip IsSeatCopy (take k seats) copies → AllZip IsSeatCopy (take (suc k) seats) (copies ++ c ∷ [])
more [] copies k s c e y a = absurd cc
more (x ∷ xs) [] zero s c e y a = ((let q : x ≡ s = cc in subst (λ z. IsSeatCopy z c) (sym q) y), tt)
more (x ∷ xs) (d ∷ ds) zero s c e y a = absurd a
more (x ∷ xs) [] (suc k) s c e y a = absurd a
more (x ∷ xs) (d ∷ ds) (suc k) s c e y a = (a.0, more xs ds k s c e y a.1)

-- one more seat is copied, behind the copies of those before it
pub copy_more : (seats copies items : List SeatValue) (k : ℕ) (s c : SeatValue) → items ≡ copies ++ c ∷ [] → slice_get seats k ≡ Some s → IsSeatCopy s c
    → AllZip IsSeatCopy (take k seats) copies → AllZip IsSeatCopy (take (k + 1) seats) items
copy_more seats copies items k s c is e y a =
    subst (λ z. AllZip IsSeatCopy (take z seats) items) (sym (add-one k))
    (subst (λ z. AllZip IsSeatCopy (take (suc k) seats) z) (sym is) (more seats copies k s c e y a))
