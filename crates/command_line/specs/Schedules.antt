-- In which order the ranks of a run take their turns, as the words of a command line say
-- (docs/FORMATS.md, "Command").
use Rattle.std.specs.Prelude.{◌≡◌, ℕ, List, Option, Some, None, codes, IsSomeAnd}
use Rattle.command_line.specs.Words.{IsSpelledOr, value_of}
use Rattle.command_line.specs.declared.scheduling.Policy.{Policy}
use Rattle.command_line.specs.declared.scheduling.Policy.TheVariants as policy
use Rattle.command_line.specs.declared.scheduling.Scheduling.{Scheduling}

-- the word that names a policy
abbrev pub policy_word : Policy → List ℕ
policy_word policy.RoundRobin = codes "round-robin"
policy_word policy.Uniform = codes "uniform"
policy_word policy.Starve = codes "starve"
policy_word policy.RunOn = codes "run-on"
policy_word policy.RecoveryFirst = codes "recovery-first"

-- the policy that the text names; without a text there is none
abbrev pub IsPolicyIf : Option (List ℕ) → Option Policy → Type 0
IsPolicyIf None named = named ≡ None
IsPolicyIf (Some text) named = IsSomeAnd named (λ p. text ≡ policy_word p)

-- The ranks take turns by the policy that `--schedule` names, if it is there, from what `--seed` gives,
-- as many as `--turns` allows.
pub record IsSchedulingOf (arguments : List (List ℕ)) (scheduling : Scheduling) : Type 0 where
  pub policy : IsPolicyIf (value_of (codes "schedule") arguments) scheduling.policy
  pub seed : IsSpelledOr 1 (value_of (codes "seed") arguments) scheduling.seed
  pub turns : IsSpelledOr 100000000 (value_of (codes "turns") arguments) scheduling.turns
