use Rattle.std.proofs.Common.{◌≡◌, ◌+◌, map, vec_len, sym, ◌∙◌, ap, arith}
use Rattle.ports.specs.Lanes.{lane_from, lane_to}
use Rattle.ports.specs.AllLanes.{to_names, from_names}
use Rattle.rank_threads.proofs.SeatingLemmas.{desks_less, from_snoc, new_more, seated, to_snoc}
use Rattle.rank_threads.proofs.life.seating.seat_all.Goals as goal

pub new-station-requires-clause-own : goal.new-station-requires-clause-own
new-station-requires-clause-own g c =
    (desks_less c.args.logger.now 0 c.pop.new.self.items c.in-Some.desk (rw (sym c.in-Some.ensures.items) c.loop-desk.invariant.desks)).1

pub new-station-requires-clause-who : goal.new-station-requires-clause-who
new-station-requires-clause-who g c =
    let less = desks_less c.args.logger.now 0 c.pop.new.self.items c.in-Some.desk (rw (sym c.in-Some.ensures.items) c.loop-desk.invariant.desks) in
    less.2 ∙ omega (arith, c.pop.new.self.ok.0, c.len-rank.ensures)

pub loop-desk-preserved : goal.loop-desk-preserved
loop-desk-preserved g c =
    let kept = c.loop-desk.invariant in
    let less = desks_less c.args.logger.now 0 c.pop.new.self.items c.in-Some.desk (rw (sym c.in-Some.ensures.items) kept.desks) in
    let shorter : vec_len c.loop-desk.desks ≡ vec_len c.pop.new.self + 1 = grind (arith, c.in-Some.ensures.len) in
    let to = seated (λ s. map lane_to s.kit.to.items) (to_names c.pop-in-Some.new.self.items) (map lane_to c.in-Some-pop.to_each.items) c.loop-desk.stations.items
    (record { rt = c.args.rt; station = c.new-station.result }) (to_names c.args.parts.ends.to.items)
    (rw (sym (to_snoc c.pop-in-Some.new.self.items c.in-Some-pop.to_each), sym c.in-Some-pop.ensures.items) kept.to)
    (sym (ap (λ v. map lane_to v.items) c.new-station.ensures.to)) in
    let from = seated (λ s. map lane_from s.kit.from.items) (from_names c.pop-in-Some-2.new.self.items) (map lane_from c.in-Some-pop-2.from_each.items)
    c.loop-desk.stations.items (record { rt = c.args.rt; station = c.new-station.result }) (from_names c.args.parts.ends.from.items)
    (rw (sym (from_snoc c.pop-in-Some-2.new.self.items c.in-Some-pop-2.from_each), sym c.in-Some-pop-2.ensures.items) kept.from)
    (sym (ap (λ v. map lane_from v.items) c.new-station.ensures.from)) in
    let desks = seated (λ s. s.down.desk) c.pop.new.self.items c.in-Some.desk c.loop-desk.stations.items
    (record { rt = c.args.rt; station = c.new-station.result }) c.args.parts.desks.items
    (rw (sym c.in-Some.ensures.items) kept.seated) (sym c.new-station.ensures.desk) in
    let plans = seated (λ s. s.kit.plan) c.pop-in-Some-3.new.self.items c.in-Some-pop-3.plan c.loop-desk.stations.items
    (record { rt = c.args.rt; station = c.new-station.result }) c.args.parts.plans.items
    (rw (sym c.in-Some-pop-3.ensures.items) kept.plans) (sym c.new-station.ensures.plan) in
    let fresh = new_more c.loop-desk.stations.items (record { rt = c.args.rt; station = c.new-station.result }) kept.fresh c.new-station.ensures.fresh in
    record {
      to = rw (c.push_reserved.ensures.items) to;
      from = rw (c.push_reserved.ensures.items) from;
      seated = rw (c.push_reserved.ensures.items) desks;
      desks = less.0;
      plans = rw (c.push_reserved.ensures.items) plans;
      fresh = rw (c.push_reserved.ensures.items) fresh;
      as_many_to = grind (arith, kept.as_many_to, c.in-Some.ensures.len, c.in-Some-pop.ensures.len);
      as_many_from = grind (arith, kept.as_many_from, c.in-Some.ensures.len, c.in-Some-pop-2.ensures.len);
      as_many_plans = grind (arith, kept.as_many_plans, c.in-Some.ensures.len, c.in-Some-pop-3.ensures.len);
      all = grind (arith, kept.all, shorter, c.push_reserved.ensures.len);
      room = grind (arith, kept.room, c.push_reserved.ensures.capacity);
    }
