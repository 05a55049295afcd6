use Rattle.std.proofs.Common.{◌≡◌, [], replicate, vec_len}
use Rattle.ports.specs.AllLanes.{to_names, HaveRoom, NonePut}
use Rattle.ports.proofs.all_lanes.no_lanes.Given as goal

abbrev pub invariant-loop : goal.invariant-loop
invariant-loop l = (to_names l.to.items ≡ replicate l.counter []) × (vec_len l.to ≡ l.counter) × HaveRoom l.to.items × NonePut l.to.items
