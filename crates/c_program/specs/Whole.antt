-- The whole C text of a rank program.
use Rattle.std.specs.Prelude.{◌≡◌, ℕ, Bool, true, false, List, ◌++◌}
use Rattle.rank_text.specs.Checker.Faults.{IsText}
use Rattle.rank_text.specs.Grammar.Forms.{Form}
use Rattle.rank_language.specs.StandOn.{StandOn}
use Rattle.c_program.specs.Translation.{c_program}
use Rattle.c_program.specs.declared.runtime.head.TheConstants.{HEAD}
use Rattle.c_program.specs.declared.runtime.values.TheConstants.{VALUES}
use Rattle.c_program.specs.declared.runtime.messages.TheConstants.{MESSAGES}
use Rattle.c_program.specs.declared.runtime.sending.TheConstants.{AWAITED, STARTED}
use Rattle.c_program.specs.declared.runtime.collectives.TheConstants.{COLLECTIVES}
use Rattle.c_program.specs.declared.runtime.ending.TheConstants.{ENDING}

-- the fixed part in front of the program's own
unfoldable pub fixed_head : List ℕ
fixed_head = HEAD.now

-- the fixed part behind it, about values
unfoldable pub fixed_values : List ℕ
fixed_values = VALUES.now

-- about messages
unfoldable pub fixed_messages : List ℕ
fixed_messages = MESSAGES.now

-- how a message is sent: the rank goes on, or if sends are synchronous, it waits until the message is
-- received (MPI 1.1, section 3.4)
unfoldable pub fixed_sending : Bool → List ℕ
fixed_sending false = STARTED.now
fixed_sending true = AWAITED.now

-- about collectives
unfoldable pub fixed_collectives : List ℕ
fixed_collectives = COLLECTIVES.now

-- about beginnings and ends
unfoldable pub fixed_ending : List ℕ
fixed_ending = ENDING.now

-- the C text of statements with the numbers of their lines: the program's own part between the fixed ones, for
-- sends of this kind
abbrev pub c_text : Bool → List ℕ → List Form → List ℕ
c_text synchronous ns fs =
    fixed_head ++ c_program ns fs ++ fixed_values ++ fixed_messages ++ fixed_sending synchronous ++ fixed_collectives ++ fixed_ending

-- The text is the C text of this rank program: of its statements, with the numbers of the lines on which they stand.
pub record IsCText (synchronous : Bool) (text c : List ℕ) : Type 0 where
  pub forms : List Form
  pub numbers : List ℕ
  pub reads : IsText text forms
  pub stand : StandOn text forms numbers
  pub whole : c ≡ c_text synchronous numbers forms
