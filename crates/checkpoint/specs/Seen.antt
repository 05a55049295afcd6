-- What the code reads, as the definitions see it.
use Rattle.checkpoint.specs.declared.read_machine.MachineStanding as source
use Rattle.checkpoint.specs.Image.{MachineStanding}

-- where a machine stands, as it was read
abbrev pub standing_seen : source.MachineStanding → MachineStanding
standing_seen s = record {
  position = s.position;
  done = s.done;
  fault = s.fault;
  gathered = s.gathered.items;
  finished = s.finished;
}
