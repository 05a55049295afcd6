-- A state stops after at most one number of inner steps, so that the number may stand in a ghost
-- field.
use Rattle.std.specs.Prelude.{◌≡◌, ℕ, zero, suc, true, Option, Some, None, is_none, IsSomeAnd}
use Rattle.std.proofs.Common.{refl, ap}
use mathlib.Core.Bool.{Bool-set}
use mathlib.Core.HLevel.{Σ_prop_path}
use Rattle.rank_machine.specs.States.{State, inner}
use Rattle.bare_world.specs.Measures.{StopsAfter}

-- what is there isn't nothing
never : (P : State → Type 0) (o : Option State) → is_none o ≡ true → IsSomeAnd o P → ⊥
never P None e h = absurd h
never P (Some b) e h = absurd cc

one_stop : (a : State) (j k : ℕ) → StopsAfter j a → StopsAfter k a → j ≡ k
one_stop a zero zero s t = refl
one_stop a zero (suc k) s t = absurd (never (λ b. StopsAfter k b) (inner a) s t)
one_stop a (suc j) zero s t = absurd (never (λ b. StopsAfter j b) (inner a) t s)
one_stop a (suc j) (suc k) s t = both (λ b. one_stop b j k) (inner a) s t
  where
    both : ((b : State) → StopsAfter j b → StopsAfter k b → j ≡ k)
        → (o : Option State) → IsSomeAnd o (λ b. StopsAfter j b) → IsSomeAnd o (λ b. StopsAfter k b) → suc j ≡ suc k
    both same None x y = absurd x
    both same (Some b) x y = ap suc (same b x y)

-- there is one proof of it
stops_prop : (k : ℕ) (a : State) → IsProp (StopsAfter k a)
stops_prop zero a = Bool-set (is_none (inner a)) true
stops_prop (suc k) a = some (λ b. stops_prop k b) (inner a)
  where
    some : ((b : State) → IsProp (StopsAfter k b)) → (o : Option State) → IsProp (IsSomeAnd o (λ b. StopsAfter k b))
    some one None = λ x y. absurd x
    some one (Some b) = one b

-- the number is one
pub StopsAfter-prop : (a : State) → IsProp ((k : ℕ) × StopsAfter k a)
StopsAfter-prop a s t = Σ_prop_path (λ k. stops_prop k a) (one_stop a s.0 t.0 s.1 t.1)
