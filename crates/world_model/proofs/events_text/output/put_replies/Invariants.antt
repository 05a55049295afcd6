use Rattle.std.proofs.Common.{◌≡◌, ◌++◌, length, string_bytes}
use Rattle.world_model.specs.EventsText.Output.{replies_text}
use Rattle.world_model.proofs.events_text.output.put_replies.Given as goal

-- what is written and the replies that are left are the whole
abbrev pub invariant-loop-rest : goal.invariant-loop-rest
invariant-loop-rest l = string_bytes l.text ++ replies_text l.rest ≡ string_bytes l.initial.text ++ replies_text l.replies

abbrev pub decreases-loop-rest : goal.decreases-loop-rest
decreases-loop-rest l = length l.rest
