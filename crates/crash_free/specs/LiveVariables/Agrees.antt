-- When two states of a rank differ only in what is never read again: so that whatever follows the
-- one follows the other (a reduction of states by dead variables: Yorav and Grumberg 2004).
use Rattle.std.specs.Prelude.{◌≡◌, pos, Bool, true, length, slice_index_or}
use Rattle.rank_machine.specs.Values.{Store}
use Rattle.rank_machine.specs.States.{State}
use Rattle.crash_free.specs.LiveVariables.Names.{StoredName, place, status}
use Rattle.crash_free.specs.LiveVariables.Unread.{reads_first}

-- both have stored the same under this name
abbrev pub Same : StoredName → Store → Store → Type 0
Same (place p) s s' = slice_index_or s.variables p (pos 0) ≡ slice_index_or s'.variables p (pos 0)
Same status s s' = (s.source ≡ s'.source) × (s.tag ≡ s'.tag) × (s.count ≡ s'.count)

-- both have stored the same, except for variables and status that aren't among these names
pub record SameWhere (among : StoredName → Bool) (s s' : Store) : Type 0 where
  pub rank : s.rank ≡ s'.rank
  pub size : s.size ≡ s'.size
  pub as_many : length s.variables ≡ length s'.variables
  pub arrays : s.arrays ≡ s'.arrays
  pub finished : s.finished ≡ s'.finished
  pub parts : s.done ≡ s'.done
  pub gathered : s.gathered ≡ s'.gathered
  pub same : (x : StoredName) → among x ≡ true → Same x s s'

-- Two states agree: the same statements remain, with the same fault or none, and both have stored
-- the same, except for variables and status that are unread there.
pub record Agrees (a b : State) : Type 0 where
  pub rest : a.rest ≡ b.rest
  pub fault : a.fault ≡ b.fault
  pub stored : SameWhere (λ x. reads_first x a.rest) a.store b.store
