use Rattle.std.proofs.Common.{◌≡◌, [], map, length, vec_len}
use Rattle.std.specs.List.{All}
use Rattle.ports.specs.Crossed.{grow}
use Rattle.ports.specs.AllLanes.{to_names, NonePut, HaveRoom}
use Rattle.ports.specs.Lanes.{lane_from, taken_of}
use Rattle.ports.proofs.all_lanes.open_into.Given as goal

abbrev pub invariant-loop-source : goal.invariant-loop-source
invariant-loop-source l = record {
  names : to_names l.to.items ≡ grow (to_names l.fn.to.items) (map lane_from l.column.items);
  column : length l.column.items ≡ l.source;
  end : vec_len l.to ≡ l.source-end;
  size : vec_len l.to ≡ vec_len l.fn.to;
  room : HaveRoom l.to.items;
  put : NonePut l.to.items;
  taken : All (λ rx. taken_of rx ≡ []) l.column.items;
}
