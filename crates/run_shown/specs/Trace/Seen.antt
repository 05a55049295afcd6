-- The messages that code holds, as the definitions speak of them.
use Rattle.std.specs.Prelude.{Option, Some, None}
use Rattle.rank_machine.specs.Acts as acts
use Rattle.run_shown.specs.declared.trace.message.SentMessage.{SentMessage}

-- a message, without where its items lie in memory
abbrev pub message_seen : SentMessage → acts.Message
message_seen m = record { clock = m.clock; context = m.context; tag = m.tag; items = m.items.now }

-- a message, if there is one, without where its items lie in memory
abbrev pub maybe_seen : Option SentMessage → Option acts.Message
maybe_seen (Some m) = Some (message_seen m)
maybe_seen None = None
