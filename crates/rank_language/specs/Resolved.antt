-- What the names of a text stand for: the places of what they declare (docs/LANGUAGE.md: fault
-- Undeclared).
use Rattle.std.specs.Prelude.{ℕ, pos, List, [], ◌∷◌, Option, Some, None, option_map, map, position}
use Rattle.std.specs.Str.{bytes_eq}
use Rattle.rank_text.specs.Grammar.Tree as text
use Rattle.rank_text.specs.Grammar.Forms as line
use Rattle.rank_language.specs.Options.{◌>>=◌}
use Rattle.rank_text.specs.Checker.Scope.{Scope}
use Rattle.rank_language.specs.Placed.{Placed, number, variable, item, reading, negation, operation, Pattern, any, value}
use Rattle.rank_language.specs.Placed.{Payload, one, all_of, Buffer, into_variable, into_array}
use Rattle.rank_language.specs.Placed.{declare, declare_array, assign, assign_item, send, receive, probe, try_probe, print}
use Rattle.rank_language.specs.Placed.{barrier, broadcast, reduce, collect, Step, does, tests, repeats, otherwise, closes}

-- the place of a name among names: the first at which it stands
abbrev pub place_in : List (List ℕ) → List ℕ → Option ℕ
place_in names x = position (λ y. bytes_eq y x) names

-- the place of a variable among the variables
abbrev pub variable_place : Scope → List ℕ → Option ℕ
variable_place s x = place_in s.variables x

-- the place of an array among the arrays
abbrev pub array_place : Scope → List ℕ → Option ℕ
array_place s x = place_in (map (λ a. a.0) s.arrays) x

-- an expression with places for its names, where each is declared in the sort that is used
abbrev pub resolved : Scope → text.Tree → Option Placed
resolved s (text.number n) = Some (number (pos n))
resolved s (text.variable x) = option_map variable (variable_place s x)
resolved s (text.item x e) = do
  p ← array_place s x
  index ← resolved s e
  Some (item p index)
resolved s (text.reading r) = Some (reading r)
resolved s (text.negation e) = option_map negation (resolved s e)
resolved s (text.operation o a b) = do
  left ← resolved s a
  right ← resolved s b
  Some (operation o left right)

-- a source or a tag with places for its names
abbrev pub pattern_resolved : Scope → line.Pattern → Option Pattern
pattern_resolved s line.any = Some any
pattern_resolved s (line.value e) = option_map value (resolved s e)

-- what a name by itself stands for: one thing where it is a variable, another where it is an array
abbrev pub either_place : {A : Type 0} → (ℕ → A) → (ℕ → A) → Option ℕ → Option ℕ → Option A
either_place f g (Some p) o = Some (f p)
either_place f g None o = option_map g o

-- a payload with places for its names: a lone name that is a variable gives one item, and one that is an array all of its items
abbrev pub payload_resolved : Scope → line.Payload → Option Payload
payload_resolved s (line.lone x) = either_place (λ p. one (variable p)) all_of (variable_place s x) (array_place s x)
payload_resolved s (line.one e) = option_map one (resolved s e)

-- a buffer with a place for its name, which is a variable's or an array's
abbrev pub buffer_resolved : Scope → List ℕ → Option Buffer
buffer_resolved s x = either_place into_variable into_array (variable_place s x) (array_place s x)

-- a statement with places for its names, where each is declared in the sort that is used
abbrev pub form_resolved : Scope → line.Form → Option Step
form_resolved s (line.var_form x) = option_map (λ p. does (declare p)) (variable_place s x)
form_resolved s (line.array_form x n) = option_map (λ p. does (declare_array p)) (array_place s x)
form_resolved s (line.let_form x e) = do
  p ← variable_place s x
  v ← resolved s e
  Some (does (assign p v))
form_resolved s (line.item_form x i e) = do
  p ← array_place s x
  index ← resolved s i
  v ← resolved s e
  Some (does (assign_item p index v))
form_resolved s (line.if_form e) = option_map tests (resolved s e)
form_resolved s line.else_form = Some otherwise
form_resolved s line.end_form = Some closes
form_resolved s (line.while_form e) = option_map repeats (resolved s e)
form_resolved s (line.send_form d t p) = do
  destination ← resolved s d
  tag ← resolved s t
  payload ← payload_resolved s p
  Some (does (send destination tag payload))
form_resolved s (line.recv_form c t x) = do
  source ← pattern_resolved s c
  tag ← pattern_resolved s t
  buffer ← buffer_resolved s x
  Some (does (receive source tag buffer))
form_resolved s (line.probe_form c t) = do
  source ← pattern_resolved s c
  tag ← pattern_resolved s t
  Some (does (probe source tag))
form_resolved s (line.try_probe_form c t x) = do
  source ← pattern_resolved s c
  tag ← pattern_resolved s t
  flag ← variable_place s x
  Some (does (try_probe source tag flag))
form_resolved s (line.print_form e) = option_map (λ v. does (print v)) (resolved s e)
form_resolved s line.barrier_form = Some (does (collect barrier))
form_resolved s (line.bcast_form r x) = do
  root ← resolved s r
  buffer ← buffer_resolved s x
  Some (does (collect (broadcast root buffer)))
form_resolved s (line.reduce_form o r e x) = do
  root ← resolved s r
  v ← resolved s e
  p ← variable_place s x
  Some (does (collect (reduce o root v p)))

-- statements with places for their names, in the same order
abbrev pub all_resolved : Scope → List line.Form → Option (List Step)
all_resolved s [] = Some []
all_resolved s (f ∷ fs) = do
  step ← form_resolved s f
  steps ← all_resolved s fs
  Some (step ∷ steps)
