-- Looks at one lane: the first is noted, and the others leave that.
use Rattle.std.proofs.Common.{◌≡◌, ◌≢◌, ℕ, ◌+◌, ◌⊎◌, inl, inr, sym, ◌∙◌, arith}

-- this lane is the next to be looked at, or was looked at last
abbrev pub IsNoted : ℕ → ℕ → Type 0
IsNoted source below = (below ≡ source) ⊎ (below ≡ source + 1)

-- at first it is the next
pub noted_next : (source below : ℕ) → below ≡ source → IsNoted source below
noted_next source below next = inl next

-- after a look it was the last
pub noted_last : (source below : ℕ) → below ≡ source + 1 → IsNoted source below
noted_last source below last = inr last

-- after each look it was looked at
pub looked_once : (source below looked : ℕ) → IsNoted source below → (below ≡ source → looked ≡ source + 1) → (below ≢ source → looked ≡ below)
    → looked ≡ source + 1
looked_once source below looked (inl same) next others = next same
looked_once source below looked (inr last) next others = others (λ same. absurd (omega (arith, sym last ∙ same))) ∙ last

-- what holds of each look
pub ruleset look_laws = (noted_next, noted_last, looked_once)
