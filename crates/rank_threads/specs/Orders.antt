-- When a script's order is done: once the rank has made the act of that clock. When a rank takes an
-- image: if its script asks for one, or after each so many acts (periodic checkpoints).
use Rattle.std.specs.Prelude.{ℕ, ◌%◌, ◌==◌, Bool, true, false, ◌||◌, List, Option, Some, None}
use Rattle.std.specs.NonZero.{non_zero_u32_get}
use Rattle.std.specs.declared.num.NonZeroU32.{NonZeroU32}
use Rattle.rank_text.specs.declared.script.line.Order.{Order}
use Rattle.rank_text.specs.declared.script.line.Order.TheVariants.{Kill, Image}
use Rattle.rank_text.specs.declared.script.line.ScriptLine.{ScriptLine}
use Rattle.rank_node.specs.Phases.{clock_in}
use Rattle.rank_threads.specs.Plans.{order_at}
use Rattle.rank_threads.specs.Phases.{Phase}
use Rattle.rank_threads.specs.declared.turn.stepping.Stepped.{Stepped}
use Rattle.rank_threads.specs.declared.turn.stepping.Stepped.TheVariants as stepped

-- what the rank is to do after this step; only an act can be what a line waits for
abbrev pub order_after : Stepped → List ScriptLine → Phase → Option Order
order_after stepped.Acted plan p = order_at plan (clock_in p)
order_after stepped.Moved plan p = None
order_after stepped.Blocked plan p = None
order_after stepped.Held plan p = None
order_after stepped.Ended plan p = None

-- the rank is to crash
abbrev pub is_kill : Option Order → Bool
is_kill None = false
is_kill (Some Kill) = true
is_kill (Some Image) = false

-- the rank is to take an image
abbrev pub is_image : Option Order → Bool
is_image None = false
is_image (Some Kill) = false
is_image (Some Image) = true

-- an image is due at this clock: the rank takes one after each so many acts, and the clock is a
-- multiple of that number
abbrev pub is_due : Option NonZeroU32 → ℕ → Bool
is_due None clock = false
is_due (Some every) clock = clock % non_zero_u32_get every == 0

-- an image is due after this step, which only an act can be
abbrev pub is_due_after : Stepped → Option NonZeroU32 → Phase → Bool
is_due_after stepped.Acted every p = is_due every (clock_in p)
is_due_after stepped.Moved every p = false
is_due_after stepped.Blocked every p = false
is_due_after stepped.Held every p = false
is_due_after stepped.Ended every p = false

-- an image is to be taken after this step: the script's next line asks for it, or it is due
abbrev pub images_after : Stepped → Option NonZeroU32 → List ScriptLine → Phase → Bool
images_after stepped every plan p = is_image (order_after stepped plan p) || is_due_after stepped every p
