use Rattle.std.proofs.Common.{map, sym, ap, arith}
use Rattle.rank_threads.proofs.SeatingLemmas.{unseated}
use Rattle.rank_threads.specs.Stations.{stations_of}
use Rattle.rank_threads.specs.declared.life.seat.Seat.TheVariants as seat
use Rattle.rank_threads.proofs.life.rounds.sit_down.Goals as goal

-- one more sits down
pub loop-parcel-preserved : goal.loop-parcel-preserved
loop-parcel-preserved g c =
    let before = c.loop-parcel.invariant in
    let seated = unseated (λ s. seat.Between s) c.loop-parcel.seats.items (seat.Between c.open.result) c.pop.new.self.items c.in-Some.parcel
    (map (λ s. seat.Between s) (stations_of c.args.stations.items)) (rw (sym c.in-Some.ensures.items) before.seated)
    (ap (λ s. seat.Between s) c.open.ensures) in
    record {
      seated = rw (c.push_reserved.ensures.items) seated;
      all = grind (arith, before.all, c.in-Some.ensures.len, c.push_reserved.ensures.len);
      seats = grind (arith, before.seats, c.in-Some.ensures.len, c.push_reserved.ensures.len, c.push_reserved.ensures.capacity);
      room = grind (arith, before.room, c.in-Some.ensures.capacity);
    }
