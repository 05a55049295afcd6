-- Crash-free runs of all ranks, the reference (specification) of refinement: which acts may follow
-- which (MPI 1.1, chapter 3; section 3.5: messages of one sender don't overtake one another, and
-- the choice among senders is free; section 3.8: a probe finds what a receive would take).
--
-- A run is the list of its acts, the newest first. A rank's history is the list of its own acts,
-- the oldest first, each with the message that it took or hit: what determines a piecewise
-- deterministic rank (Alvisi and Marzullo 1998). Places count from 1: the kth act of a rank has
-- clock k, and the kth message of a sender to a rank has number k.
use Rattle.std.specs.Prelude.{◌≡◌, ℕ, ℤ, zero, suc, ◌+◌, ◌<◌, ◌==◌, ◌&&◌, ◌||◌, Bool, true, false, List, [], ◌∷◌, ◌++◌, Option, Some, None, IsSomeAnd}
use Rattle.std.specs.Prelude.{slice_get}
use Rattle.matching.specs.declared.selector.Selector.{Selector}
use Rattle.rank_machine.specs.declared.want.Want.{Want}
use Rattle.rank_machine.specs.declared.want.Want.TheVariants as want
use Rattle.rank_machine.specs.States.{State, Inners}
use Rattle.rank_machine.specs.Wants.{wants}
use Rattle.rank_machine.specs.Acts.{Message, Act, sends, takes, hits, misses, prints, Matches, Makes, Runs}

-- an act of a run, with the rank that made it
pub record Passed : Type 0 where
  pub rank : ℕ
  pub act : Act

-- a rank's own acts, each with the message that it took or hit
abbrev pub History : Type 0
History = List (Act × Option Message)

-- the element at a place; there is no place 0
abbrev pub at_place : {A : Type 0} → List A → ℕ → Option A
at_place xs zero = None
at_place xs (suc k) = slice_get xs k

-- the list with this in front, or without
abbrev pub cons_if : {A : Type 0} → Bool → A → List A → List A
cons_if true x xs = x ∷ xs
cons_if false x xs = xs

-- the list with this at its end, or without
abbrev pub add_if : {A : Type 0} → Bool → List A → A → List A
add_if true xs x = xs ++ x ∷ []
add_if false xs x = xs

-- a send to this rank, the act with this clock, gives a message
abbrev pub send_at : ℕ → ℕ → Act → List Message → List Message
send_at c r (sends d context tag items) rest = cons_if (d == r) (record { clock = c; context = context; tag = tag; items = items }) rest
send_at c r (takes source place) rest = rest
send_at c r (hits source place) rest = rest
send_at c r misses rest = rest
send_at c r (prints value) rest = rest

-- the messages of the sends to r in a history, before which the sender had made k acts
abbrev pub sends_from : ℕ → ℕ → History → List Message
sends_from k r [] = []
sends_from k r (x ∷ h) = send_at (k + 1) r x.0 (sends_from (k + 1) r h)

-- a print, the act with this clock, gives a line
abbrev pub print_at : ℕ → Act → List (ℕ × ℤ) → List (ℕ × ℤ)
print_at c (prints value) rest = (c, value) ∷ rest
print_at c (sends dest context tag items) rest = rest
print_at c (takes source place) rest = rest
print_at c (hits source place) rest = rest
print_at c misses rest = rest

-- the prints in a history, each with its clock
abbrev pub prints_from : ℕ → History → List (ℕ × ℤ)
prints_from k [] = []
prints_from k (x ∷ h) = print_at (k + 1) x.0 (prints_from (k + 1) h)

-- the message that an act takes or hits, among what each sender sent to its rank
abbrev pub looked_up : (ℕ → List Message) → Act → Option Message
looked_up inbound (takes source place) = at_place (inbound source) place
looked_up inbound (hits source place) = at_place (inbound source) place
looked_up inbound (sends dest context tag items) = None
looked_up inbound misses = None
looked_up inbound (prints value) = None

-- the history of a rank in a run
abbrev pub history : List Passed → ℕ → History
history [] r = []
history (p ∷ C) r = add_if (p.rank == r) (history C r) (p.act, looked_up (λ s. sends_from 0 p.rank (history C s)) p.act)

-- the messages that s sent to r in a run, in order
abbrev pub sent : List Passed → ℕ → ℕ → List Message
sent C s r = sends_from 0 r (history C s)

-- what a rank printed in a run, each line with its clock
abbrev pub printed : List Passed → ℕ → List (ℕ × ℤ)
printed C r = prints_from 0 (history C r)

-- an act takes the message at this place of this source
abbrev pub takes_it : ℕ → ℕ → Act → Bool
takes_it s j (takes source place) = source == s && place == j
takes_it s j (sends dest context tag items) = false
takes_it s j (hits source place) = false
takes_it s j misses = false
takes_it s j (prints value) = false

-- one of the acts takes the message at this place of this source
abbrev pub taken : History → ℕ → ℕ → Bool
taken [] s j = false
taken (x ∷ h) s j = takes_it s j x.0 || taken h s j

-- A rank with this history, to which each sender sent what is inbound, may take or hit the message
-- at place j of s: it is there, it isn't taken, it matches, and each earlier message of s that
-- matches is taken.
pub record IsEligible (inbound : ℕ → List Message) (h : History) (s j : ℕ) (selector : Selector) : Type 0 where
  pub message : Message
  pub there : at_place (inbound s) j ≡ Some message
  pub untaken : taken h s j ≡ false
  pub matching : Matches selector s message
  pub not_overtaking : (i : ℕ) (m : Message) → i < j → at_place (inbound s) i ≡ Some m → Matches selector s m → taken h s i ≡ true

-- the selector of a receive that stands
abbrev pub receives : Want → Option Selector
receives (want.Receive selector) = Some selector
receives want.Internal = None
receives (want.Send dest context tag) = None
receives (want.Probe selector) = None
receives (want.TryProbe selector) = None
receives (want.Print value) = None
receives want.Halted = None
receives (want.Faulted fault) = None

-- the selector of a probe that stands, whether it waits or not
abbrev pub probes : Want → Option Selector
probes (want.Probe selector) = Some selector
probes (want.TryProbe selector) = Some selector
probes want.Internal = None
probes (want.Send dest context tag) = None
probes (want.Receive selector) = None
probes (want.Print value) = None
probes want.Halted = None
probes (want.Faulted fault) = None

-- what an act takes or hits is eligible for the selector that stands
abbrev pub IsFree : Want → Act → (ℕ → List Message) → History → Type 0
IsFree w (takes s j) inbound h = IsSomeAnd (receives w) (λ selector. IsEligible inbound h s j selector)
IsFree w (hits s j) inbound h = IsSomeAnd (probes w) (λ selector. IsEligible inbound h s j selector)
IsFree w (sends dest context tag items) inbound h = Unit {0}
IsFree w misses inbound h = Unit {0}
IsFree w (prints value) inbound h = Unit {0}

-- A rank that began at this state and has this history may make this act next: by inner steps it
-- gets to a state whose first statement makes the act, and what the act takes or hits is eligible.
pub record MayMake (start : State) (inbound : ℕ → List Message) (h : History) (act : Act) : Type 0 where
  pub after : State
  pub stands : State
  pub reached : Runs start h after
  pub inner : Inners after stands
  pub makes : Makes stands act (looked_up inbound act)
  pub free : IsFree (wants stands) act inbound h

-- the newest act of a run is of one of the n ranks, which may make it after the acts before
abbrev pub IsRun : (ℕ → State) → ℕ → List Passed → Type 0
IsRun start n [] = Unit {0}
IsRun start n (p ∷ C) =
    IsRun start n C × (p.rank < n) × MayMake (start p.rank) (λ s. sent C s p.rank) (history C p.rank) p.act

-- a run that goes on by these acts of one rank, one after another
abbrev pub continue : List Passed → ℕ → List Act → List Passed
continue C r [] = C
continue C r (act ∷ acts) = continue (record { rank = r; act = act } ∷ C) r acts
