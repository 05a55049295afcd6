use Rattle.std.proofs.Common.{◌≡◌, ◌+◌, ◌<◌, List, [], ◌∷◌, ◌++◌, length, map, replicate, slice_set, slice_index_or, sym, ◌∙◌, ap, arith, Vec, Global}
use Rattle.std.specs.List.{sum_by}
use Rattle.ports.specs.Lanes.{TxValue, RxValue, lane_from, put_of, taken_of}
use Rattle.ports.specs.Crossed.{grow, grow_all}
use Rattle.ports.specs.AllLanes.{to_names, from_names, AreWhole, all_put, all_taken, taken_by, counted_to}
use Rattle.ports.proofs.EndsLemmas.{closed_one, columns_more, row_is_there, whole_less}
use Rattle.ports.proofs.SumLemmas.{counted_more, none_left, nothing_is, put_less, taken_less, taken_one}
use Rattle.ports.proofs.all_lanes.close_all.Goals as goal

-- the last rank's ends are the last column
pub loop-rx-init : goal.loop-rx-init
loop-rx-init c =
    let l = c.loop-column in
    let i = l.invariant in
    let high = length (to_names c.args.ends.to.items) in
    let none = replicate high [] in
    let left = c.pop.new.self.items in
    let column = c.in-Some.column in
    let from_is : l.from.items ≡ left ++ column ∷ [] = c.in-Some.ensures.items in
    let whole : AreWhole high (from_names (left ++ column ∷ [])) = rw (sym from_is) i.whole in
    let parts = whole_less high left column whole in
    let less : all_taken l.from.items ≡ all_taken left + taken_by column = ap all_taken from_is ∙ taken_less left column in
    record {
      size = i.size;
      low = omega (arith, parts.1, column.ok.0);
      same = i.same ∙ ap (λ (ends : List (Vec RxValue Global)). grow_all none (from_names ends)) from_is ∙ columns_more none left column;
      whole = parts.0;
      put_fits = i.put_fits;
      put = i.put;
      taken_fits = i.taken_fits;
      taken = ap (λ n. counted_to (l.all.taken + n)) (sym less) ∙ i.taken;
    }

-- a rank that has an end in the column has one in its row
pub unreachable-requires : goal.unreachable-requires
unreachable-requires c =
    let l = c.loop-rx in
    let rows = grow_all (replicate (length (to_names c.args.ends.to.items)) []) (from_names c.pop.new.self.items) in
    let left = c.pop-in-loop-rx.new.self in
    let rx = c.in-Some-pop.rx in
    let d = c.index_mut.result.now in
    let before : to_names l.to.items ≡ grow rows (map lane_from (left.items ++ rx ∷ []))
    = l.invariant.same ∙ ap (λ items. grow rows (map lane_from items)) c.in-Some-pop.ensures.items in
    let at : length left.items ≡ c.len.result = omega (arith, left.ok.0, c.len.ensures) in
    let low : c.len.result < length l.to.items
    = omega (arith, l.invariant.low, l.invariant.size, l.to.ok.0, c.len.ensures, c.in-Some-pop.ensures.cases) in
    let there = row_is_there l.to.items c.len.result rows left.items rx d before at low in
    let read = ap (λ (v : Vec TxValue Global). length v.items) c.index_mut.ensures.value in
    omega (arith, there, read, d.ok.0, c.in_default-pop-2.ensures.cases)

-- the two ends are of one lane
pub close-requires : goal.close-requires
close-requires c =
    let l = c.loop-rx in
    let rows = grow_all (replicate (length (to_names c.args.ends.to.items)) []) (from_names c.pop.new.self.items) in
    let left = c.pop-in-loop-rx.new.self in
    let rx = c.in-Some-pop.rx in
    let tx = c.in-Some-pop-2.tx in
    let d = c.index_mut.result.now in
    let row = c.pop-in-Some-pop.new.self in
    let before : to_names l.to.items ≡ grow rows (map lane_from (left.items ++ rx ∷ []))
    = l.invariant.same ∙ ap (λ items. grow rows (map lane_from items)) c.in-Some-pop.ensures.items in
    let at : length left.items ≡ c.len.result = omega (arith, left.ok.0, c.len.ensures) in
    let low : c.len.result < length l.to.items
    = omega (arith, l.invariant.low, l.invariant.size, l.to.ok.0, c.len.ensures, c.in-Some-pop.ensures.cases) in
    let row_is : (slice_index_or l.to.items c.len.result d).items ≡ row.items ++ tx ∷ []
    = sym (ap (λ (v : Vec TxValue Global). v.items) c.index_mut.ensures.value) ∙ c.in-Some-pop-2.ensures.items in
    (closed_one l.to.items c.len.result row tx rows left.items rx d before at low row_is).0

-- one lane less, and what it carried is counted
pub loop-rx-preserved : goal.loop-rx-preserved
loop-rx-preserved c =
    let l = c.loop-rx in
    let i = l.invariant in
    let rows = grow_all (replicate (length (to_names c.args.ends.to.items)) []) (from_names c.pop.new.self.items) in
    let left = c.pop-in-loop-rx.new.self in
    let rx = c.in-Some-pop.rx in
    let tx = c.in-Some-pop-2.tx in
    let d = c.index_mut.result.now in
    let row = c.pop-in-Some-pop.new.self in
    let source = c.len.result in
    let to' = slice_set l.to.items source row in
    let column_is : l.column.items ≡ left.items ++ rx ∷ [] = c.in-Some-pop.ensures.items in
    let before : to_names l.to.items ≡ grow rows (map lane_from (left.items ++ rx ∷ []))
    = i.same ∙ ap (λ items. grow rows (map lane_from items)) column_is in
    let at : length left.items ≡ source = omega (arith, left.ok.0, c.len.ensures) in
    let low : source < length l.to.items = omega (arith, i.low, i.size, l.to.ok.0, c.len.ensures, c.in-Some-pop.ensures.cases) in
    let row_is : (slice_index_or l.to.items source d).items ≡ row.items ++ tx ∷ []
    = sym (ap (λ (v : Vec TxValue Global). v.items) c.index_mut.ensures.value) ∙ c.in-Some-pop-2.ensures.items in
    let put : all_put to' + length (put_of tx) ≡ all_put l.to.items = put_less l.to.items source row tx d low row_is in
    let others = all_taken c.pop.new.self.items in
    let one : taken_by l.column ≡ taken_by left + length (taken_of rx)
    = ap (sum_by (λ (r : RxValue). length (taken_of r))) column_is ∙ taken_one left.items rx in
    let taken : (others + taken_by left) + length (taken_of rx) ≡ others + taken_by l.column = omega (arith, one) in
    let put_is = c.together-all.ensures.put ∙ ap (λ n. counted_to (l.all.put + n)) c.close.ensures.put in
    let taken_is = c.together-all.ensures.taken ∙ ap (λ n. counted_to (l.all.taken + n)) c.close.ensures.taken in
    record {
      size = i.size;
      low = omega (arith, i.low, c.in-Some-pop.ensures.cases);
      same = (closed_one l.to.items source row tx rows left.items rx d before at low row_is).1;
      whole = i.whole;
      put_fits = omega (arith, c.together-all.ensures.put);
      put = ap (λ n. counted_to (n + all_put to')) put_is
          ∙ counted_more l.all.put (length (put_of tx)) (all_put to') (all_put l.to.items) (counted_to (all_put c.args.ends.to.items)) put i.put;
      taken_fits = omega (arith, c.together-all.ensures.taken);
      taken = ap (λ n. counted_to (n + (others + taken_by left))) taken_is
          ∙ counted_more l.all.taken (length (taken_of rx)) (others + taken_by left) (others + taken_by l.column)
          (counted_to (all_taken c.args.ends.from.items)) taken i.taken;
    }

-- no end is left
pub returns-clause-put : goal.returns-clause-put
returns-clause-put c =
    let l = c.loop-column in
    let high = length (to_names c.args.ends.to.items) in
    let none : l.from.items ≡ [] = nothing_is l.from.items (omega (arith, l.from.ok.0, c.in_default.ensures.cases)) in
    let rows : to_names l.to.items ≡ replicate high []
    = l.invariant.same ∙ ap (λ (ends : List (Vec RxValue Global)). grow_all (replicate high []) (from_names ends)) none in
    omega (arith, l.invariant.put, l.invariant.put_fits, none_left high l.to.items rows)

pub returns-clause-taken : goal.returns-clause-taken
returns-clause-taken c =
    let l = c.loop-column in
    let none : l.from.items ≡ [] = nothing_is l.from.items (omega (arith, l.from.ok.0, c.in_default.ensures.cases)) in
    let left : all_taken l.from.items ≡ 0 = ap all_taken none in
    omega (arith, l.invariant.taken, l.invariant.taken_fits, left)
