use Rattle.std.proofs.Common.{◌≡◌, ◌+◌, ◌≤◌, [], length, map, replicate, vec_len}
use Rattle.ports.specs.Lanes.{lane_from}
use Rattle.ports.specs.Crossed.{grow, grow_all}
use Rattle.ports.specs.AllLanes.{to_names, from_names, AreWhole, all_put, all_taken, taken_by, counted_to}
use Rattle.ports.proofs.all_lanes.close_all.Given as goal

abbrev pub invariant-loop-column : goal.invariant-loop-column
invariant-loop-column l = record {
  size : vec_len l.to ≡ length (to_names l.fn.ends.to.items);
  same : to_names l.to.items ≡ grow_all (replicate (length (to_names l.fn.ends.to.items)) []) (from_names l.from.items);
  whole : AreWhole (length (to_names l.fn.ends.to.items)) (from_names l.from.items);
  put_fits : l.all.put ≤ 18446744073709551615;
  put : counted_to (l.all.put + all_put l.to.items) ≡ counted_to (all_put l.fn.ends.to.items);
  taken_fits : l.all.taken ≤ 18446744073709551615;
  taken : counted_to (l.all.taken + all_taken l.from.items) ≡ counted_to (all_taken l.fn.ends.from.items);
}

abbrev pub decreases-loop-column : goal.decreases-loop-column
decreases-loop-column l = vec_len l.from

abbrev pub invariant-loop-rx : goal.invariant-loop-rx
invariant-loop-rx l = record {
  size : vec_len l.to ≡ length (to_names l.fn.ends.to.items);
  low : vec_len l.column ≤ length (to_names l.fn.ends.to.items);
  same : to_names l.to.items ≡ grow (grow_all (replicate (length (to_names l.fn.ends.to.items)) []) (from_names l.from.items)) (map lane_from l.column.items);
  whole : AreWhole (length (to_names l.fn.ends.to.items)) (from_names l.from.items);
  put_fits : l.all.put ≤ 18446744073709551615;
  put : counted_to (l.all.put + all_put l.to.items) ≡ counted_to (all_put l.fn.ends.to.items);
  taken_fits : l.all.taken ≤ 18446744073709551615;
  taken : counted_to (l.all.taken + (all_taken l.from.items + taken_by l.column)) ≡ counted_to (all_taken l.fn.ends.from.items);
}

abbrev pub decreases-loop-rx : goal.decreases-loop-rx
decreases-loop-rx l = vec_len l.column
