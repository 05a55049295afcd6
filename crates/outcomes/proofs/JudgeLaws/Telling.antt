-- The text of a no.
use Rattle.std.proofs.Common.{◌≡◌, ◌++◌, ℕ, List, codes}
use Rattle.outcomes.specs.Judge.Judged.{IsNoText}

-- `no`, and whatever stands behind it
pub is_no_text : (why text : List ℕ) → text ≡ codes "no\n" ++ why → IsNoText text
is_no_text why text whole = record { why = why; whole = whole }
