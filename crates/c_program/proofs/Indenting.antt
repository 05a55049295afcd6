-- How far a line is indented, put together.
use Rattle.std.proofs.Common.{◌≡◌, ℕ, zero, suc, ◌+◌, List, ◌++◌, codes, refl, ap, ◌∙◌, sym, append_assoc, arith}
use Rattle.c_program.specs.Translation.{c_indentation}

-- one block more indents by four spaces more
indentation_more : (depth : ℕ) → c_indentation (depth + 1) ≡ c_indentation depth ++ codes "    "
indentation_more zero = refl
indentation_more (suc depth) =
    let e : suc depth + 1 ≡ suc (depth + 1) = omega arith in
    ap c_indentation e ∙ ap (λ z. codes "    " ++ z) (indentation_more depth)

-- four spaces more behind a text that is indented already
pub indented : (old text new : List ℕ) (depth : ℕ) → text ≡ old ++ c_indentation depth → new ≡ text ++ codes "    "
    → new ≡ old ++ c_indentation (depth + 1)
indented old text new depth p q =
    q ∙ ap (λ z. z ++ codes "    ") p ∙ append_assoc old (c_indentation depth) (codes "    ") ∙ ap (λ z. old ++ z) (sym (indentation_more depth))
