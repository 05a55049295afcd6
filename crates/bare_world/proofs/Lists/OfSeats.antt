-- The ranks and the images of seats, by the seat of one rank.
use Rattle.std.proofs.Common.{◌≡◌, ℕ, ◌<◌, false, List, Option, Some, None, length, option_map, refl, sym, ap, subst, ◌∙◌}
use Rattle.std.proofs.Common.{arith, get_or, slice_get, slice_set, IsSomeAnd, length-set, Result, Ok, Err, IfOk, OnOk, OnErr}
use Rattle.std.specs.declared.alloc.AllocError.{AllocError}
use Rattle.std.proofs.lemmas.Option.{slice_get-map, slice_get_read}
use Rattle.std.proofs.lemmas.List.{map-set}
use Rattle.checkpoint.specs.Image.{ImageValue}
use Rattle.event_logger.specs.Sequential.Event.{EventValue}
use Rattle.rank_language.specs.Program.{ProgramValue}
use Rattle.rank_node.specs.Image.{begins_at}
use Rattle.rank_node.specs.Replay.{cuts, left_of}
use Rattle.bare_world.specs.World.{Live}
use Rattle.bare_world.specs.Seats.{SeatValue, SeatsValue, IsSeat, AreSeats, lives, images, IfLive, AtRank}
use Rattle.bare_world.specs.Seats.{with_live, IsImaged, IsRestarted, ChangesRank, CallsRank, RestartsRank, TakesImage}
use Rattle.bare_world.proofs.Lists.Beginnings.{map_length}
use Rattle.bare_world.proofs.Lists.Replaced.{replaced_keeps, set_same}

-- the rank of a seat stands in its place
live_there : (seats : List SeatValue) (r : ℕ) (s : SeatValue) → slice_get seats r ≡ Some s → slice_get (lives seats) r ≡ Some s.live
live_there seats r s there = slice_get-map (λ (z : SeatValue). z.live) seats r ∙ ap (λ o. option_map (λ (z : SeatValue). z.live) o) there

-- so does its image
pub image_there : (seats : List SeatValue) (r : ℕ) (s : SeatValue) → slice_get seats r ≡ Some s → slice_get (images seats) r ≡ Some s.image
image_there seats r s there = slice_get-map (λ (z : SeatValue). z.image) seats r ∙ ap (λ o. option_map (λ (z : SeatValue). z.image) o) there

-- what holds of the rank of a seat holds at its place
at_seat : (seats : List SeatValue) (r : ℕ) (s : SeatValue) (P : Live → Type 0) → slice_get seats r ≡ Some s → IfLive s.live P → AtRank (lives seats) r P
at_seat seats r s P there h = subst (λ z. IsSomeAnd z (λ x. IfLive x P)) (sym (live_there seats r s there)) h

-- another seat in the place of one
set_lives : (seats : List SeatValue) (r : ℕ) (s : SeatValue) → lives (slice_set seats r s) ≡ slice_set (lives seats) r s.live
set_lives seats r s = map-set (λ (z : SeatValue). z.live) seats r s

-- the images then
set_images : (seats : List SeatValue) (r : ℕ) (s : SeatValue) → images (slice_set seats r s) ≡ slice_set (images seats) r s.image
set_images seats r s = map-set (λ (z : SeatValue). z.image) seats r s

-- where the image of the seat stays all images do
pub same_images : (seats : List SeatValue) (r : ℕ) (s s' : SeatValue) → slice_get seats r ≡ Some s → s'.image ≡ s.image
    → images (slice_set seats r s') ≡ images seats
same_images seats r s s' there e =
    set_images seats r s' ∙ set_same (images seats) r s'.image (image_there seats r s there ∙ ap Some (sym e))

-- where the seat stays of its rank all are seats
still_seats : (program : ProgramValue) (seats : List SeatValue) (r : ℕ) (s s' : SeatValue) → slice_get seats r ≡ Some s
    → s'.program ≡ s.program → s'.rank ≡ s.rank → s'.size ≡ s.size → AreSeats program (length seats) seats
    → AreSeats program (length (slice_set seats r s')) (slice_set seats r s')
still_seats program seats r s s' there same_program same_rank same_size all =
    subst (λ n. AreSeats program n (slice_set seats r s')) (sym (length-set seats r s'))
    (replaced_keeps (λ k x. IsSeat program (length seats) k x) seats r s' (λ k x ne at. all k x at)
    (λ x at. (let is = all r s there in record { same_program = same_program ∙ is.same_program; rank = same_rank ∙ is.rank; size = same_size ∙ is.size })))

-- ---- a call on the seat of one rank

-- The seat that a call takes from the seats is the rank's.
pub record IsTaken (value : SeatsValue) (seats : List SeatValue) (index rank : ℕ) (s : SeatValue) : Type 0 where
  pub all_ranks : lives seats ≡ value.ranks
  pub all_images : images seats ≡ value.images
  pub number : index ≡ rank
  pub there : slice_get seats index ≡ Some s

-- it is what stands at its index
pub taken : (value : SeatsValue) (program : ProgramValue) (seats : List SeatValue) (index rank : ℕ) (s : SeatValue)
    → ◌≡◌ {A = SeatsValue} (record { program = program; ranks = lives seats; images = images seats }) value → index ≡ rank
    → rank < length value.ranks → s ≡ get_or seats index s → IsTaken value seats index rank s
taken value program seats index rank s view same below read =
    let ranks : lives seats ≡ value.ranks = ap (λ (z : SeatsValue). z.ranks) view in
    let many : length (lives seats) ≡ length seats = map_length (λ (z : SeatValue). z.live) seats in
    let all : length (lives seats) ≡ length value.ranks = ap (λ (z : List (Option Live)). length z) ranks in
    record {
      all_ranks = ranks;
      all_images = ap (λ (z : SeatsValue). z.images) view;
      number = same;
      there = slice_get_read seats (length seats) index s refl (omega (arith, same, many, all, below)) read;
    }

-- what holds of the rank of the seat holds at its place
pub of_seat : {value : SeatsValue} {seats : List SeatValue} {index rank : ℕ} {s : SeatValue} (P : Live → Type 0)
    → IsTaken value seats index rank s → IfLive s.live P → AtRank value.ranks rank P
of_seat {value = value} {seats = seats} {index = index} {rank = rank} {s = s} P t h =
    subst (λ z. AtRank value.ranks z P) t.number (subst (λ z. AtRank z index P) t.all_ranks (at_seat seats index s P t.there h))

-- the ranks after the call
pub ranks_then : {value : SeatsValue} {seats : List SeatValue} {index rank : ℕ} {s : SeatValue} (s' : SeatValue)
    → IsTaken value seats index rank s → lives (slice_set seats index s') ≡ slice_set value.ranks rank s'.live
ranks_then {value = value} {seats = seats} {index = index} s' t =
    set_lives seats index s' ∙ ap (λ z. slice_set z index s'.live) t.all_ranks ∙ ap (λ z. slice_set value.ranks z s'.live) t.number

-- what the call did to the rank of the seat, as what it did to the ranks
after_call : {value : SeatsValue} {seats : List SeatValue} {index rank : ℕ} {s : SeatValue} (s' : SeatValue) (P Q : Live → Type 0)
    → IsTaken value seats index rank s
    → ((v : Live) → lives (slice_set seats index s') ≡ slice_set value.ranks rank s'.live → P v → Q v)
    → IfLive s.live P → AtRank value.ranks rank Q
after_call {value = value} {seats = seats} {index = index} {rank = rank} {s = s} s' P Q t then h =
    of_seat Q t (go s.live h)
  where
    go : (o : Option Live) → IfLive o P → IfLive o Q
    go None q = q
    go (Some v) q = then v (ranks_then s' t) q

-- where the call leaves the seat's image, the images are as they were
images_stay : {value : SeatsValue} {seats : List SeatValue} {index rank : ℕ} {s : SeatValue} (s' : SeatValue)
    → IsTaken value seats index rank s → s' ≡ with_live s s'.live → images (slice_set seats index s') ≡ value.images
images_stay {value = value} {seats = seats} {index = index} {rank = rank} {s = s} s' t others =
    same_images seats index s s' t.there (ap (λ (z : SeatValue). z.image) others) ∙ t.all_images

-- and all are the seats of their ranks still
pub all_stay : {program : ProgramValue} {value : SeatsValue} {seats : List SeatValue} {index rank : ℕ} {s : SeatValue} (s' : SeatValue)
    → IsTaken value seats index rank s → s' ≡ with_live s s'.live → AreSeats program (length seats) seats
    → AreSeats program (length (slice_set seats index s')) (slice_set seats index s')
all_stay {program = program} {seats = seats} {index = index} {s = s} s' t others all =
    still_seats program seats index s s' t.there (ap (λ (z : SeatValue). z.program) others) (ap (λ (z : SeatValue). z.rank) others)
    (ap (λ (z : SeatValue). z.size) others) all

-- what the call did to the rank of the seat it did to that of the seats
pub change_there : {value : SeatsValue} {seats : List SeatValue} {index rank : ℕ} {s : SeatValue} {program : ProgramValue} (s' : SeatValue)
    (change : Live → Option Live → Type 0) → IsTaken value seats index rank s → program ≡ value.program → s' ≡ with_live s s'.live
    → IfLive s.live (λ v. change v s'.live)
    → ChangesRank value rank (record { program = program; ranks = lives (slice_set seats index s'); images = images (slice_set seats index s') }) change
change_there {value = value} {seats = seats} {index = index} {rank = rank} s' change t program others h =
    record {
      rank = after_call s' (λ v. change v s'.live) (λ v. (x : Option Live) × change v x × (lives (slice_set seats index s') ≡ slice_set value.ranks rank x)) t
          (λ v is e. (s'.live, e, is)) h;
      program = program;
      images = images_stay s' t others;
    }

-- two facts of a live rank are one
both_live : (o : Option Live) (P Q : Live → Type 0) → IfLive o P → IfLive o Q → IfLive o (λ v. P v × Q v)
both_live None P Q h g = h
both_live (Some v) P Q h g = (h, g)

-- so are two facts of a call that succeeds, of which one is about what is answered
pub both_ok : {A : Type 0} (result : Result A AllocError) (o : Option Live) (P : A → Live → Type 0) (Q : Live → Type 0)
    → IfOk result (λ a. IfLive o (P a)) → OnOk result (IfLive o Q) → IfOk result (λ a. IfLive o (λ v. P a v × Q v))
both_ok (Ok a) o P Q h g = both_live o (P a) Q h g
both_ok (Err e) o P Q h g = tt

-- and three
pub three_ok : {A : Type 0} (result : Result A AllocError) (o : Option Live) (P : A → Live → Type 0) (Q R : Live → Type 0)
    → IfOk result (λ a. IfLive o (P a)) → OnOk result (IfLive o Q) → OnOk result (IfLive o R) → IfOk result (λ a. IfLive o (λ v. P a v × Q v × R v))
three_ok (Ok a) None P Q R h g k = h
three_ok (Ok a) (Some v) P Q R h g k = (h, g, k)
three_ok (Err e) o P Q R h g k = tt

-- of which rank memory is refused
pub asks_there : {A : Type 0} {value : SeatsValue} {seats : List SeatValue} {index rank : ℕ} {s : SeatValue} (result : Result A AllocError)
    (asks : Live → Type 0) → IsTaken value seats index rank s → OnErr result (IfLive s.live asks) → OnErr result (AtRank value.ranks rank asks)
asks_there (Ok a) asks t h = tt
asks_there (Err e) asks t h = of_seat asks t h

-- a call on the seat is one on the rank of the seats
pub call_there : {A : Type 0} {value : SeatsValue} {seats : List SeatValue} {index rank : ℕ} {s : SeatValue} {program : ProgramValue}
    (result : Result A AllocError) (s' : SeatValue) (change : A → Live → Option Live → Type 0) (asks : Live → Type 0) → IsTaken value seats index rank s
    → ◌≡◌ {A = SeatsValue} (record { program = program; ranks = lives seats; images = images seats }) value
    → s' ≡ with_live s s'.live → IfOk result (λ a. IfLive s.live (λ v. change a v s'.live)) → OnErr result (AtRank value.ranks rank asks)
    → OnErr result (s' ≡ s)
    → CallsRank value rank result (record { program = program; ranks = lives (slice_set seats index s'); images = images (slice_set seats index s') }) change asks
call_there (Ok a) s' change asks t view others ok memory err =
    record { ok = change_there s' (change a) t (ap (λ (z : SeatsValue). z.program) view) others ok; memory = tt; err = tt }
call_there {seats = seats} {index = index} {s = s} {program = program} (Err e) s' change asks t view others ok memory err =
    record {
      ok = tt;
      memory = memory;
      err =
          ap made (ap (λ z. slice_set seats index z) err ∙ set_same seats index s t.there) ∙ view;
    }
  where
    made : List SeatValue → SeatsValue
    made z = record { program = program; ranks = lives z; images = images z }

-- the seat is one of as many as there are ranks
seat_size : {value : SeatsValue} {seats : List SeatValue} {index rank : ℕ} {s : SeatValue} (program : ProgramValue) → IsTaken value seats index rank s
    → AreSeats program (length seats) seats → s.size ≡ length value.ranks
seat_size {seats = seats} {index = index} {s = s} program t all =
    (all index s t.there).size ∙ sym (map_length (λ (z : SeatValue). z.live) seats) ∙ ap (λ (z : List (Option Live)). length z) t.all_ranks

-- a restart of the rank of the seat
restarted_then : {value : SeatsValue} {seats : List SeatValue} {index rank : ℕ} {s : SeatValue} {program : ProgramValue} (s' : SeatValue)
    (row : List EventValue) (count : ℕ) → IsTaken value seats index rank s → program ≡ value.program → AreSeats program (length seats) seats
    → s' ≡ with_live s s'.live → count ≡ length (left_of (begins_at s.program s.rank s.size s.image) row)
    → IsRestarted s.program s.size s.rank s.image row s'.live
    → RestartsRank value rank row (record { program = program; ranks = lives (slice_set seats index s'); images = images (slice_set seats index s') }) count
restarted_then {value = value} {seats = seats} {index = index} {rank = rank} {s = s} {program = program} s' row count t same all others counts h =
    record {
      counted = subst (λ z. IsSomeAnd z (λ image. count ≡ length (left_of (begins_at value.program rank (length value.ranks) image) row))) (sym there) counted;
      rank =
          subst (λ z. IsSomeAnd z (λ image.
          (x : Option Live) × IsRestarted value.program (length value.ranks) rank image row x × (lives (slice_set seats index s') ≡ slice_set value.ranks rank x)))
          (sym there) (s'.live, is, ranks_then s' t);
      program = same;
      images = images_stay s' t others;
    }
  where
    own : IsSeat program (length seats) index s
    own = all index s t.there

    there : slice_get value.images rank ≡ Some s.image
    there = subst (λ z. slice_get value.images z ≡ Some s.image) t.number
        (subst (λ z. slice_get z index ≡ Some s.image) t.all_images (image_there seats index s t.there))

    begins : begins_at s.program s.rank s.size s.image ≡ begins_at value.program rank (length value.ranks) s.image
    begins =
        ap (λ z. begins_at z s.rank s.size s.image) (own.same_program ∙ same)
        ∙ ap (λ z. begins_at value.program z s.size s.image) (own.rank ∙ t.number)
        ∙ ap (λ z. begins_at value.program rank z s.image) (seat_size program t all)

    counted : count ≡ length (left_of (begins_at value.program rank (length value.ranks) s.image) row)
    counted = counts ∙ ap (λ z. length (left_of z row)) begins

    is : IsRestarted value.program (length value.ranks) rank s.image row s'.live
    is =
        subst (λ z. IsRestarted z (length value.ranks) rank s.image row s'.live) (own.same_program ∙ same)
        (subst (λ z. IsRestarted s.program z rank s.image row s'.live) (seat_size program t all)
        (subst (λ z. IsRestarted s.program s.size z s.image row s'.live) (own.rank ∙ t.number) h))

-- so it is with each answer
pub restart_there : {value : SeatsValue} {seats : List SeatValue} {index rank : ℕ} {s : SeatValue} {program : ProgramValue} (result : Result ℕ AllocError)
    (s' : SeatValue) (row : List EventValue) → IsTaken value seats index rank s → program ≡ value.program → AreSeats program (length seats) seats
    → s' ≡ with_live s s'.live → IfOk result (λ count. count ≡ length (left_of (begins_at s.program s.rank s.size s.image) row))
    → OnOk result (IsRestarted s.program s.size s.rank s.image row s'.live)
    → IfOk result (RestartsRank value rank row
    (record { program = program; ranks = lives (slice_set seats index s'); images = images (slice_set seats index s') }))
restart_there (Ok count) s' row t same all others counts h = restarted_then s' row count t same all others counts h
restart_there (Err e) s' row t same all others counts h = tt

-- the image of the seat cuts no event of a row, where that of its place cuts none
pub uncut_there : {value : SeatsValue} {seats : List SeatValue} {index rank : ℕ} {s : SeatValue} (program : ProgramValue) (row : List EventValue)
    → program ≡ value.program → IsTaken value seats index rank s → AreSeats program (length seats) seats
    → IsSomeAnd (slice_get value.images rank) (λ image. cuts (begins_at value.program rank (length value.ranks) image).clock row ≡ false)
    → cuts (begins_at s.program s.rank s.size s.image).clock row ≡ false
uncut_there {value = value} {seats = seats} {index = index} {rank = rank} {s = s} program row same t all h =
    ap (λ z. cuts (begins_at z s.rank s.size s.image).clock row) (own.same_program ∙ same)
    ∙ ap (λ z. cuts (begins_at value.program z s.size s.image).clock row) (own.rank ∙ t.number)
    ∙ ap (λ z. cuts (begins_at value.program rank z s.image).clock row) (seat_size program t all)
    ∙ subst (λ z. IsSomeAnd z (λ image. cuts (begins_at value.program rank (length value.ranks) image).clock row ≡ false)) there h
  where
    own : IsSeat program (length seats) index s
    own = all index s t.there

    there : slice_get value.images rank ≡ Some s.image
    there = subst (λ z. slice_get value.images z ≡ Some s.image) t.number
        (subst (λ z. slice_get z index ≡ Some s.image) t.all_images (image_there seats index s t.there))

-- an image of the rank of the seat
pub imaged_then : {value : SeatsValue} {seats : List SeatValue} {index rank : ℕ} {s : SeatValue} {program : ProgramValue} (s' : SeatValue)
    → program ≡ value.program → IsTaken value seats index rank s → AreSeats program (length seats) seats
    → IfLive s.live (λ v. IsImaged s.program s.size s.rank v s'.live s'.image)
    → TakesImage value rank (record { program = program; ranks = lives (slice_set seats index s'); images = images (slice_set seats index s') })
imaged_then {value = value} {seats = seats} {index = index} {rank = rank} {s = s} {program = program} s' same t all h =
    record {
      rank = after_call s' (λ v. IsImaged s.program s.size s.rank v s'.live s'.image)
          (λ v. (x : Option Live) × (image : Option ImageValue) × IsImaged value.program (length value.ranks) rank v x image
          × (lives (slice_set seats index s') ≡ slice_set value.ranks rank x) × (images (slice_set seats index s') ≡ slice_set value.images rank image)) t
          (λ v is e. (s'.live, s'.image, of_rank v e, is, images_then)) h;
      program = same;
    }
  where
    of_rank : (v : Live) → IsImaged s.program s.size s.rank v s'.live s'.image → IsImaged value.program (length value.ranks) rank v s'.live s'.image
    of_rank v is =
        let own = all index s t.there in
        subst (λ z. IsImaged z (length value.ranks) rank v s'.live s'.image) (own.same_program ∙ same)
        (subst (λ z. IsImaged s.program z rank v s'.live s'.image) (seat_size program t all)
        (subst (λ z. IsImaged s.program s.size z v s'.live s'.image) (own.rank ∙ t.number) is))

    images_then : images (slice_set seats index s') ≡ slice_set value.images rank s'.image
    images_then = set_images seats index s' ∙ ap (λ z. slice_set z index s'.image) t.all_images ∙ ap (λ z. slice_set value.images z s'.image) t.number
