-- A name's fields are those that its bytes give.
use Rattle.std.specs.Prelude.{ℕ, List, length, ◌≡◌, ◌≤◌, take}
use Rattle.std.proofs.Common.{sym, arith, length-take, ap, ◌∙◌}
use Rattle.rank_text.specs.Grammar.Name.{kept_bytes, padded}
use Rattle.rank_text.specs.declared.grammar.name.Name.TheInside.{Inside}

-- a name with these bytes and this length
abbrev fields : List ℕ → ℕ → Inside
fields b l = record { bytes = b; len = l }

-- the fields are those that the bytes give
pub unpadded : (n : Inside) → n.len ≤ kept_bytes → length n.bytes ≡ kept_bytes → n.bytes ≡ padded (take n.len n.bytes)
    → fields (padded (take n.len n.bytes)) (length (take n.len n.bytes)) ≡ n
unpadded n h k e =
    let f : length (take n.len n.bytes) ≡ n.len = omega (arith, length-take n.len n.bytes) in
    ap (λ b. fields b (length (take n.len n.bytes))) (sym e) ∙ ap (λ l. fields n.bytes l) f
