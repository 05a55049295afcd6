use Rattle.std.proofs.Common.{◌≡◌, List, [], map, replicate, slice_index_or, sym, ◌∙◌, ap, arith, Vec, Global}
use Rattle.std.proofs.lemmas.List.{length-map}
use Rattle.std.proofs.lemmas.List.Elements.{All-push}
use Rattle.std.specs.List.{All}
use Rattle.ports.specs.Lanes.{RxValue, lane_from, taken_of}
use Rattle.ports.specs.Crossed.{grow, grow_all}
use Rattle.ports.specs.AllLanes.{to_names, from_names, AreCrossed}
use Rattle.ports.proofs.EndsLemmas.{a_row_each, columns_more, crossed_of, whole_more}
use Rattle.ports.proofs.RowLemmas.{pairs_of, to_wide, from_high}
use Rattle.ports.proofs.all_lanes.open_all.Goals as goal

-- one more rank has a lane from each
pub loop-preserved : goal.loop-preserved
loop-preserved c =
    let i = c.loop.invariant in
    let from = c.loop.from.items in
    let column = c.in_ok-column.column in
    let none = replicate c.args.ranks [] in
    let from_is = c.in_ok-push.ensures.items in
    record {
      same = c.in_ok-column.ensures.names
          ∙ ap (λ rows. grow rows (map lane_from column.items)) i.same
          ∙ sym (columns_more none from column)
          ∙ ap (λ (ends : List (Vec RxValue Global)). grow_all none (from_names ends)) (sym from_is);
      whole = rw from_is (whole_more c.args.ranks from column i.whole (omega (arith, c.in_ok-column.ensures.whole)));
      to = omega (arith, i.to, c.in_ok-column.ensures.size);
      from = omega (arith, i.from, c.in_ok-push.ensures.len);
      room = c.in_ok-column.ensures.room;
      put = c.in_ok-column.ensures.put;
      taken = rw from_is (All-push (λ (ends : Vec RxValue Global). All (λ r. taken_of r ≡ []) ends.items) from column i.taken c.in_ok-column.ensures.taken);
    }

pub returns-clause-to : goal.returns-clause-to
returns-clause-to c = λ k d low.
    let i = c.loop.invariant in
    let to = c.loop.to.items in
    let from = c.loop.from.items in
    let crossed : AreCrossed to from = crossed_of c.args.ranks to from (omega arith) i.same i.whole in
    let columns = length-map from (λ (ends : Vec RxValue Global). map lane_from ends.items) in
    let wide = to_wide c.args.ranks to (from_names from) crossed (omega (arith, columns)) k d low in
    omega (arith, wide, (slice_index_or to k d).ok.0)

pub returns-clause-from : goal.returns-clause-from
returns-clause-from c = λ k d low.
    let high = from_high c.args.ranks c.loop.from.items c.loop.invariant.whole k d low in
    omega (arith, high, (slice_index_or c.loop.from.items k d).ok.0)

pub returns-clause-pairs : goal.returns-clause-pairs
returns-clause-pairs c =
    let i = c.loop.invariant in
    let to = c.loop.to.items in
    let from = c.loop.from.items in
    let crossed : AreCrossed to from = crossed_of c.args.ranks to from (omega arith) i.same i.whole in
    let rows = a_row_each to in
    pairs_of c.args.ranks (to_names to) (from_names from) crossed (omega (arith, rows))
