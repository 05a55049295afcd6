use Rattle.std.proofs.Common.{◌≡◌, ℕ, suc, ◌-◌, ◌+◌, ◌<◌, List, [], ◌∷◌, ◌++◌, length, take, get_or, slice_set, slice_index_or, replicate}
use Rattle.std.proofs.Common.{ap, ◌∙◌, sym, arith, append_assoc, length-take}
use Rattle.std.proofs.lemmas.List.{take_more}
use Rattle.std.proofs.Math.Seq.{set-append_seam}
use Rattle.rank_text.specs.Grammar.Name.{kept_bytes}
use Rattle.rank_text.proofs.grammar.name.Name.new.Goals as goal

-- a zero behind the bytes so far gives way to the next byte
written : (xs kept : List ℕ) (i : ℕ) → i < length xs → i < kept_bytes → kept ≡ take i xs ++ replicate (kept_bytes - i) 0
    → slice_set kept i (slice_index_or xs i 0) ≡ take (i + 1) xs ++ replicate (kept_bytes - (i + 1)) 0
written xs kept i h k q =
    let n : 17 - i ≡ suc (kept_bytes - (i + 1)) = omega arith in
    let e : kept ≡ take i xs ++ 0 ∷ replicate (kept_bytes - (i + 1)) 0 = q ∙ ap (λ z. take i xs ++ replicate z 0) n in
    let m : length (take i xs) ≡ i = omega (arith, length-take i xs) in
    ap (λ z. slice_set z i (get_or xs i 0)) e
    ∙ ap (λ z. slice_set (take i xs ++ 0 ∷ replicate (kept_bytes - (i + 1)) 0) z (get_or xs i 0)) (sym m)
    ∙ set-append_seam (take i xs) 0 (replicate (kept_bytes - (i + 1)) 0) (get_or xs i 0)
    ∙ sym (append_assoc (take i xs) (get_or xs i 0 ∷ []) (replicate (kept_bytes - (i + 1)) 0))
    ∙ ap (λ z. z ++ replicate (kept_bytes - (i + 1)) 0) (sym (take_more xs i 0 h))

pub loop-i-preserved : goal.loop-i-preserved
loop-i-preserved c = written c.args.bytes.now c.loop-i.kept c.loop-i.i (omega arith) (omega arith) c.loop-i.invariant
