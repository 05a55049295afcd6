use Rattle.std.proofs.Common.{◌≡◌, [], ◌∷◌, ◌++◌, subst, arith, rules}
use Rattle.rank_threads.proofs.SeatLemmas.{but_less, but_none, gone_less}
use Rattle.rank_threads.proofs.SeatingLemmas.{stations_snoc}
use Rattle.rank_threads.specs.Seats.{AreGone, AreSeatedBut}
use Rattle.rank_threads.specs.Stations.{stations_of}
use Rattle.rank_threads.specs.declared.life.seat.Seat.TheVariants as seat
use Rattle.rank_threads.proofs.life.rounds.get_up.Goals as goal

-- one more gets up
pub loop-seat-preserved : goal.loop-seat-preserved
loop-seat-preserved g c =
    let before = c.loop-seat.invariant in
    let stood = stations_of c.loop-seat.stations.items in
    record {
      gone = gone_less c.pop.new.self.items c.in-Some.seat (subst AreGone c.in-Some.ensures.items before.gone);
      kept = λ program firsts all.
          let split : AreSeatedBut program firsts (c.pop.new.self.items ++ seat.Gone c.in-Gone.station ∷ []) stood
          = subst (λ s. AreSeatedBut program firsts (c.pop.new.self.items ++ s ∷ []) stood) c.in-Gone.is
          (subst (λ l. AreSeatedBut program firsts l stood) c.in-Some.ensures.items (before.kept program firsts all)) in
          rw (c.push_reserved.ensures.items, stations_snoc c.loop-seat.stations.items (record { rt = c.args.rt; station = c.in-Gone.station }))
          (but_less program firsts c.pop.new.self.items c.in-Gone.station stood split);
      all = grind (arith, before.all, c.in-Some.ensures.len, c.push_reserved.ensures.len);
      places = grind (arith, before.places, c.in-Some.ensures.len, c.push_reserved.ensures.len, c.push_reserved.ensures.capacity);
      room = grind (arith, before.room, c.push_reserved.ensures.capacity);
    }

-- all were kept
pub returns-clause-kept : goal.returns-clause-kept
returns-clause-kept g c =
    λ program firsts all.
    let none : c.loop-seat.seats.items ≡ [] = search rules in
    but_none program firsts (stations_of c.loop-seat.stations.items)
    (subst (λ l. AreSeatedBut program firsts l (stations_of c.loop-seat.stations.items)) none (c.loop-seat.invariant.kept program firsts all))
