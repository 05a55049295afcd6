-- What contracts see of a rank that runs: its gate as what waits there, with how many of these
-- events are stored.
use Rattle.rank_node.specs.Node.{Node}
use Rattle.rank_node.specs.declared.running.Running.TheInside.{Inside}

-- the rank that these fields are
abbrev pub seen : {S D : Type 0} → Inside S D → Node S D
seen r = record {
  stable = r.stable;
  machine = r.machine;
  clock = r.clock;
  made = r.made;
  inbox = r.inbox;
  log = r.log;
  pending = r.pending.waiting;
  stored = r.pending.stored;
  dues = r.dues.items;
}
