-- From where on a rank sends another no more messages that a receive or a probe may be for, whatever
-- it receives (what a process may still do, as its program shows it: Godefroid 1996, chapter 4;
-- claims of positions, one by the next: Aho, Lam, Sethi and Ullman 2006, section 9.2). Packets of
-- collectives have a context of their own, so none is meant (MPI 1.1, section 5.1).
use Rattle.std.specs.Prelude.{◌≡◌, ℕ, ◌==◌, ℤ, Bool, true, false, ◌&&◌, List, Ok, Option, Some, None, slice_get}
use Rattle.matching.specs.declared.packet.Context.TheVariants.{PointToPoint}
use Rattle.rank_language.specs.Placed.{Placed}
use Rattle.rank_language.specs.Block.{Line, remaining, next_position}
use Rattle.rank_language.specs.Program.{ProgramValue, block_of}
use Rattle.rank_machine.specs.declared.want.Want.TheVariants.{Send}
use Rattle.rank_machine.specs.Values.{Store, value, rank_in}
use Rattle.rank_machine.specs.States.{State, Inners}
use Rattle.rank_machine.specs.Wants.{tag_in}
use Rattle.rank_machine.specs.Acts.{Act, Message, sends, IsNamed, Makes, Runs}
use Rattle.rank_machine.specs.Machine.{line_want}
use Rattle.crash_free.specs.LiveVariables.Live.{claimed}
use Rattle.explore.specs.declared.silences.silence.Silence.{Silence}
use Rattle.explore.specs.declared.silences.sought.Sought.{Sought}

-- whatever acts a rank in this state makes and then one more, that isn't the send of a message to
-- this one, with this tag or any
abbrev pub SendsNone : ℕ → Option ℕ → State → Type 0
SendsNone dest sought a =
    (made : List (Act × Option Message)) (b stands : State) (tag : ℕ) (items : List ℤ) (m : Option Message) → Runs a made b → Inners b stands
    → IsNamed sought tag → Makes stands (sends dest PointToPoint tag items) m → ⊥

-- so a state of this rank of n in which those statements remain that do at a position
abbrev pub IsSilentFrom : ProgramValue → Sought → ℕ → Type 0
IsSilentFrom program sought p =
    (a : State) → a.rest ≡ remaining (block_of program) p → a.store.rank ≡ sought.sender → a.store.size ≡ sought.ranks
    → SendsNone sought.receiver sought.tag a

-- the expression has this value on rank r of n, whatever is stored
abbrev pub IsFixed : ℕ → ℕ → Placed → ℤ → Type 0
IsFixed n r e z = (s : Store) → s.size ≡ n → s.rank ≡ r → value s e ≡ Ok z

-- the expression is never the receiver, where the sender evaluates it
abbrev pub IsNotTo : Sought → Placed → Type 0
IsNotTo sought e =
    (s : Store) (z : ℤ) → s.size ≡ sought.ranks → s.rank ≡ sought.sender → value s e ≡ Ok z → rank_in s.size z ≡ Ok sought.receiver → ⊥

-- the expression is never a tag that is sought
abbrev pub HasNoTag : Option ℕ → Placed → Type 0
HasNoTag sought e = (s : Store) (z : ℤ) (tag : ℕ) → value s e ≡ Ok z → tag_in z ≡ Ok tag → IsNamed sought tag → ⊥

-- at the line the sender never asks for the send of such a message
abbrev pub LineSendsNone : Sought → Line → Type 0
LineSendsNone sought l =
    (s : Store) (tag : ℕ) → s.size ≡ sought.ranks → s.rank ≡ sought.sender → IsNamed sought.tag tag
    → line_want s l ≡ Ok (Send sought.receiver PointToPoint tag) → ⊥

-- Of claims for positions the one for a line is right if those for the next positions are: it
-- sends none, and is claimed wherever it leads.
pub record HoldsAt (sought : Sought) (claims : ℕ → Bool) (p : ℕ) (l : Line) : Type 0 where
  pub none : LineSendsNone sought l
  pub on : claims (next_position l p true) ≡ true
  pub off : claims (next_position l p false) ≡ true

-- each claim for one of these lines is right if the others are
abbrev pub AllHold : Sought → List Bool → List Line → Type 0
AllHold sought row ls = (p : ℕ) (l : Line) → slice_get ls p ≡ Some l → claimed row p ≡ true → HoldsAt sought (claimed row) p l

-- where the row claims a position it is silent from there on
abbrev pub IsRowOf : ProgramValue → Silence → Type 0
IsRowOf program row = (p : ℕ) → claimed row.claims p ≡ true → IsSilentFrom program row.sought p

-- a message with the one tag has the other: the other is any, or both are one tag
abbrev pub has_tag : Option ℕ → Option ℕ → Bool
has_tag None sought = true
has_tag (Some k) None = false
has_tag (Some k) (Some j) = k == j

-- these messages are among those
abbrev pub covers : Sought → Sought → Bool
covers all some =
    (all.ranks == some.ranks) && ((all.sender == some.sender) && ((all.receiver == some.receiver) && has_tag all.tag some.tag))

-- a row of the table claims the position for messages among which these are
pub record Claims (table : List Silence) (sought : Sought) (p : ℕ) : Type 0 where
  pub place : ℕ
  pub row : Silence
  pub there : slice_get table place ≡ Some row
  pub covered : covers row.sought sought ≡ true
  pub claim : claimed row.claims p ≡ true

-- each row of the table is right
abbrev pub IsTableOf : ProgramValue → List Silence → Type 0
IsTableOf program table = (i : ℕ) (row : Silence) → slice_get table i ≡ Some row → IsRowOf program row
