-- What is left of a plan after its next line.
use Rattle.std.proofs.Common.{◌≡◌, ℕ, ◌+◌, ◌≤◌, List, [], ◌∷◌, ◌++◌, length, drop, refl, sym, ap}
use Rattle.std.proofs.Math.Numerals.{add-one}
use Rattle.std.proofs.lemmas.List.{drop-drop, drop_all}
use Rattle.rank_text.specs.Scripts.Script.{orders_of}
use Rattle.rank_text.specs.declared.script.line.ScriptLine.{ScriptLine}
use Rattle.rank_threads.specs.Plans.{plans_below}

-- a place further on leaves one line less
pub one_used : {A : Type 0} (xs : List A) (k : ℕ) → drop (k + 1) xs ≡ drop 1 (drop k xs)
one_used xs k = sym (drop-drop 1 k xs)

-- at the end nothing is left
pub all_used : {A : Type 0} (xs : List A) (k : ℕ) → length xs ≤ k → drop k xs ≡ drop 1 (drop k xs)
all_used xs k past = rw (drop_all k xs past) refl

-- one rank more
pub plans_next : (k : ℕ) (script : List ScriptLine) → plans_below (k + 1) script ≡ plans_below k script ++ orders_of k script ∷ []
plans_next k script = ap (λ n. plans_below n script) (add-one k)
