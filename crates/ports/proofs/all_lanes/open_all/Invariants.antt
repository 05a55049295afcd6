use Rattle.std.proofs.Common.{◌≡◌, [], replicate, vec_len}
use Rattle.ports.specs.Crossed.{grow_all}
use Rattle.ports.specs.AllLanes.{to_names, from_names, AreWhole, HaveRoom, NonePut, NoneTaken}
use Rattle.ports.proofs.all_lanes.open_all.Given as goal

abbrev pub invariant-loop : goal.invariant-loop
invariant-loop l = record {
  same : to_names l.to.items ≡ grow_all (replicate l.fn.ranks []) (from_names l.from.items);
  whole : AreWhole l.fn.ranks (from_names l.from.items);
  to : vec_len l.to ≡ l.fn.ranks;
  from : vec_len l.from ≡ l.counter;
  room : HaveRoom l.to.items;
  put : NonePut l.to.items;
  taken : NoneTaken l.from.items;
}
