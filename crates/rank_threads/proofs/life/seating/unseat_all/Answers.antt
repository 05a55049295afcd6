use Rattle.std.proofs.Common.{map, sym, ◌∙◌, ap, arith}
use Rattle.ports.specs.Lanes.{lane_from, lane_to}
use Rattle.ports.specs.AllLanes.{to_names, from_names}
use Rattle.rank_threads.specs.Seating.{account_of, accounts_of, desks_of, lanes_from, lanes_to}
use Rattle.rank_threads.specs.Stations.{stations_of}
use Rattle.rank_threads.proofs.SeatingLemmas.{from_snoc, to_snoc, unseated}
use Rattle.rank_threads.proofs.life.seating.unseat_all.Goals as goal

pub loop-parcel-preserved : goal.loop-parcel-preserved
loop-parcel-preserved g c =
    let kept = c.loop-parcel.invariant in
    let stations = c.in-Some.ensures.items in
    let all = stations_of c.args.stations.items in
    let to = unseated (λ s. map lane_to s.kit.to.items) (to_names c.loop-parcel.to.items) (map lane_to c.take_apart-desk.result.1.items) c.pop.new.self.items
    c.in-Some.parcel (lanes_to all) (rw (sym stations) kept.to)
    (ap (λ v. map lane_to v.items) (c.take_apart-desk.ensures.to ∙ ap (λ s. s.kit.to) c.open.ensures)) in
    let from = unseated (λ s. map lane_from s.kit.from.items) (from_names c.loop-parcel.from.items) (map lane_from c.take_apart-desk.result.2.items)
    c.pop.new.self.items c.in-Some.parcel (lanes_from all) (rw (sym stations) kept.from)
    (ap (λ v. map lane_from v.items) (c.take_apart-desk.ensures.from ∙ ap (λ s. s.kit.from) c.open.ensures)) in
    let desks = unseated (λ s. s.down.desk) c.loop-parcel.desks.items c.take_apart-desk.result.0 c.pop.new.self.items c.in-Some.parcel (desks_of all)
    (rw (sym stations) kept.desks) (c.take_apart-desk.ensures.desk ∙ ap (λ s. s.down.desk) c.open.ensures) in
    let accounts = unseated account_of c.loop-parcel.accounts.items c.take_apart-desk.result.3 c.pop.new.self.items c.in-Some.parcel (accounts_of all)
    (rw (sym stations) kept.accounts) (c.take_apart-desk.ensures.account ∙ ap account_of c.open.ensures) in
    record {
      to = rw (c.push_reserved.ensures.items, to_snoc c.loop-parcel.to.items c.take_apart-desk.result.1) to;
      from = rw (c.push_reserved-in-Some.ensures.items, from_snoc c.loop-parcel.from.items c.take_apart-desk.result.2) from;
      desks = rw (c.push_reserved-in-Some-2.ensures.items) desks;
      accounts = rw (c.push_reserved-in-Some-3.ensures.items) accounts;
      room_to = grind (arith, kept.room_to, c.in-Some.ensures.len, c.push_reserved.ensures.len, c.push_reserved.ensures.capacity);
      room_from = grind (arith, kept.room_from, c.in-Some.ensures.len, c.push_reserved-in-Some.ensures.len, c.push_reserved-in-Some.ensures.capacity);
      room_desks = grind (arith, kept.room_desks, c.in-Some.ensures.len, c.push_reserved-in-Some-2.ensures.len, c.push_reserved-in-Some-2.ensures.capacity);
      room_accounts = grind (
        arith,
        kept.room_accounts,
        c.in-Some.ensures.len,
        c.push_reserved-in-Some-3.ensures.len,
        c.push_reserved-in-Some-3.ensures.capacity,
      );
      all = grind (arith, kept.all, c.in-Some.ensures.len, c.push_reserved-in-Some-2.ensures.len);
      as_many_accounts = grind (arith, kept.as_many_accounts, c.push_reserved-in-Some-2.ensures.len, c.push_reserved-in-Some-3.ensures.len);
    }
