-- The lines of a text, put together.
use Rattle.std.proofs.Common.{◌≡◌, ℕ, zero, suc, ◌+◌, List, ◌++◌, codes, refl, ap, ◌∙◌, sym, append_assoc, arith}
use Rattle.rank_text.specs.Printer.Canonical.{indentation}

-- one block more indents by two spaces more
indentation_more : (depth : ℕ) → indentation (depth + 1) ≡ indentation depth ++ codes "  "
indentation_more zero = refl
indentation_more (suc depth) =
    let e : suc depth + 1 ≡ suc (depth + 1) = omega arith in
    ap indentation e ∙ ap (λ z. codes "  " ++ z) (indentation_more depth)

-- two spaces more behind a text that is indented already
pub indented : (old text new : List ℕ) (depth : ℕ) → text ≡ old ++ indentation depth → new ≡ text ++ codes "  "
    → new ≡ old ++ indentation (depth + 1)
indented old text new depth p q =
    q ∙ ap (λ z. z ++ codes "  ") p ∙ append_assoc old (indentation depth) (codes "  ") ∙ ap (λ z. old ++ z) (sym (indentation_more depth))
