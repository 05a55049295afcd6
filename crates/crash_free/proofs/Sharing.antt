-- A machine may be given to a thread.
use denote.Ref.{NamedLft}
use denote.Param.Send.{IsSend, sendable}
use Rattle.std.proofs.Crossing.{crosses}
use Rattle.rank_language.proofs.Sharing.{program_sync}
use Rattle.rank_machine.specs.contracts.items.Items as Items
use Rattle.rank_machine.specs.contracts.gathered.Gathered as Gathered
use Rattle.rank_machine.specs.contracts.store.Store as Store
use Rattle.rank_machine.specs.contracts.fault.MachineFault as Fault
use Rattle.rank_machine.specs.contracts.machine.Machine as Machine

-- items may be
items_send : IsSend Items.the_row
items_send = search (crosses, sendable) depth 60

-- and the values that a reduce has gathered
gathered_send : IsSend Gathered.the_row
gathered_send = search (crosses, sendable) depth 60

-- so a store
store_send : IsSend Store.the_row
store_send = search (items_send, gathered_send, crosses, sendable) depth 60

-- and a fault
fault_send : IsSend Fault.the_row
fault_send = search (crosses, sendable) depth 60

-- so a machine, as threads may share its program
pub machine_send : (a : NamedLft) → IsSend (Machine.the_row a)
machine_send a = search (program_sync, store_send, fault_send, crosses, sendable) depth 60
