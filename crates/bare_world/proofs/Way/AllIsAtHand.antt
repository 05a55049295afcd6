-- What is at hand at each seat is at hand of all.
use Rattle.std.proofs.Common.{◌≡◌, ℕ, ◌<◌, List, Option, Some, length, sym, subst, ◌∙◌, slice_get, IfSome}
use Rattle.std.proofs.lemmas.Option.{slice_get_within}
use Rattle.checkpoint.specs.Image.{ImageValue}
use Rattle.rank_language.specs.Block.{lines_at}
use Rattle.rank_language.specs.Program.{ProgramValue, block_of}
use Rattle.bare_world.specs.World.{Live}
use Rattle.bare_world.specs.Seats.{SeatValue, AreSeats, lives, images}
use Rattle.bare_world.specs.Stocked.{HasShelf, RunsProgram, IsSeatStocked, AreStocked}
use Rattle.bare_world.proofs.Lists.Beginnings.{get_map, map_length}

-- these seats are stocked
abbrev pub AllStocked : ℕ → List SeatValue → Type 0
AllStocked k seats = (r : ℕ) (s : SeatValue) → r < k → slice_get seats r ≡ Some s → IsSeatStocked s

-- so are the ranks at them
pub seats_stocked : (program : ProgramValue) (seats : List SeatValue) → program.statements ≡ lines_at 0 (block_of program)
    → AreSeats program (length seats) seats → AllStocked (length seats) seats → AreStocked program (lives seats) (images seats)
seats_stocked program seats lines are all =
    record { lines = lines; run = λ r v e. run r v e; shelves = λ r o e. shelf r o e }
  where
    run : (r : ℕ) (v : Live) → slice_get (lives seats) r ≡ Some (Some v) → RunsProgram program v
    run r v e =
        let s = get_map (λ (s : SeatValue). s.live) seats r (Some v) e in
        let k = all r s.0 (slice_get_within seats r s.0 s.1) s.1 in
        subst (λ z. IfSome z (λ (u : Live). RunsProgram s.0.program u)) (sym s.2) k.runs ∙ (are r s.0 s.1).same_program

    shelf : (r : ℕ) (o : Option ImageValue) → slice_get (images seats) r ≡ Some o → HasShelf program r (length (lives seats)) o
    shelf r o e =
        let s = get_map (λ (s : SeatValue). s.image) seats r o e in
        let k = all r s.0 (slice_get_within seats r s.0 s.1) s.1 in
        let i = are r s.0 s.1 in
        subst (λ z. HasShelf program r z o) (i.size ∙ sym (map_length (λ (s : SeatValue). s.live) seats))
        (subst (λ z. HasShelf program z s.0.size o) i.rank
        (subst (λ z. HasShelf z s.0.rank s.0.size o) i.same_program (subst (λ z. HasShelf s.0.program s.0.rank s.0.size z) (sym s.2) k.shelf)))
