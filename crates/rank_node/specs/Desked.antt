-- What a rank calls at the event logger that threads share, through its desk: the store of a
-- determinant, and the fetch of its own determinants before a replay (Alvisi and Marzullo 1998,
-- section 3).
use Rattle.std.specs.Prelude.{◌≡◌, Option, Some, None, ◌⊎◌}
use Rattle.event_logger.specs.Sequential.Event.{EventValue}
use Rattle.event_logger.specs.Sequential.History.{append_reply}
use Rattle.event_logger.specs.declared.sequential.call.Call.TheVariants.{Append}
use Rattle.event_logger.specs.declared.view.Answer.{Answer}
use Rattle.event_logger.specs.declared.view.Answer.TheVariants.{NoPlace, TooEarly}
use Rattle.event_logger.specs.Desks.{DeskValue, own_row, reply_with, with_call}
use Rattle.rank_node.specs.Stored.{Stored}
use Rattle.rank_node.specs.Node.{Node}

-- what is stable, with this desk
abbrev pub with_desk : {S : Type 0} → Stored S DeskValue → DeskValue → Stored S DeskValue
with_desk s desk = record s { desk = desk }

-- the rank with this desk, and all else as it was
abbrev pub at_desk : {S : Type 0} → Node S DeskValue → DeskValue → Node S DeskValue
at_desk v desk = record v { stable = with_desk v.stable desk }

-- there is an event, the answer to its append is that of the row, and the append stands last in the
-- desk's calls
abbrev pub Appended : Option EventValue → DeskValue → Answer → DeskValue → Type 0
Appended None old answer new = ⊥
Appended (Some e) old answer new = (append_reply (own_row old) e ≡ reply_with (Append e) answer) × (new ≡ with_call old (Append e) answer)

-- the logger refused the event by name
abbrev pub IsDeclined : Option EventValue → DeskValue → DeskValue → Type 0
IsDeclined e old new = Appended e old NoPlace new ⊎ Appended e old TooEarly new
