use Rattle.std.proofs.Common.{◌≡◌, ◌<◌, [], ◌∷◌, ◌++◌, length, map, slice_index_or, sym, ◌∙◌, ap, arith, Vec, Global}
use Rattle.std.proofs.lemmas.Grind.{common_steps}
use Rattle.std.proofs.lemmas.List.Elements.{All-push}
use Rattle.ports.specs.Lanes.{TxValue, RxValue, lane_from, taken_of}
use Rattle.ports.specs.Crossed.{grow}
use Rattle.ports.specs.AllLanes.{to_names}
use Rattle.ports.proofs.EndsLemmas.{opened_more, none_put_more, room_more}
use Rattle.ports.proofs.all_lanes.open_into.Goals as goal

-- the new lane's two ends stand last
pub loop-source-preserved : goal.loop-source-preserved
loop-source-preserved c =
    let l = c.loop-source in
    let to = l.to.items in
    let tx = c.in_ok-tx.tx in
    let rx = c.in_ok-tx.rx in
    let row = c.push.new.self in
    let d = c.index_mut.result.now in
    let low : l.source < length to = omega arith in
    let row_is : row.items ≡ (slice_index_or to l.source d).items ++ tx ∷ []
    = c.in_ok-push.ensures.items ∙ ap (λ (v : Vec TxValue Global). v.items ++ tx ∷ []) c.index_mut.ensures.value in
    let column_is = c.in_ok-push-2.ensures.items in
    let rows = to_names c.args.to.now.items in
    record {
      names = opened_more to l.source row tx rows l.column.items rx d l.invariant.names l.invariant.column row_is c.in_ok-tx.ensures.lane
          ∙ ap (λ items. grow rows (map lane_from items)) (sym column_is);
      column = grind (arith, common_steps, column_is);
      end = l.invariant.end;
      size = l.invariant.size;
      room = room_more to l.source row tx d l.invariant.room low row_is (c.in_ok-tx.ensures.room ∙ c.room.ensures);
      put = none_put_more to l.source row tx d l.invariant.put low row_is c.in_ok-tx.ensures.put;
      taken = rw column_is (All-push (λ (r : RxValue). taken_of r ≡ []) l.column.items rx l.invariant.taken c.in_ok-tx.ensures.taken);
    }
