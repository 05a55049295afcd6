use Rattle.std.proofs.Common.{length, refl}
use Rattle.explore.proofs.Stopping.{some_stops, stops_push}
use Rattle.explore.proofs.stops.Stops.note.Goals as goal

pub returns : goal.returns
returns c = λ steps can.
    (let s = c.args.path.now.sim in
    record {
      counts = can.counts;
      of_run =
          stops_push s.program (length s.machines) steps s.run c.make_room.new.self _ c.in_ok-stop_at.field-0
          (some_stops s.program (length s.machines) steps s.run c.make_room.new.self c.args.self.now c.make_room.ensures can.of_run)
          (c.in_ok-stop_at.ensures steps can.counts) refl c.in_ok-push.ensures.items;
    })
