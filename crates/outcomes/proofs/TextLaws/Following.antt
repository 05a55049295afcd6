-- What the lines so far have of each rank, after one line more.
use Rattle.std.proofs.Common.{◌≡◌, ℕ, zero, suc, ◌+◌, ◌<◌, ◌==◌, ◌&&◌, Bool, true, false, List, [], ◌∷◌, ◌++◌}
use Rattle.std.proofs.Common.{slice_get, slice_set, Some, ◌⊎◌, inl, inr, refl, sym, ap, ◌∙◌, arith, length-set, eq-eqb, ne_eqb, if◌then◌else◌, nat_eq}
use Rattle.std.proofs.lemmas.Bool.Decides.{nat_tests}
use Rattle.crash_free.proofs.Keeping.{set_cases}
use Rattle.outcomes.specs.declared.text.form.Entry.{Entry}
use Rattle.outcomes.specs.declared.text.form.LineForm.{LineForm}
use Rattle.outcomes.specs.declared.text.form.LinePart.{LinePart}
use Rattle.outcomes.specs.declared.text.form.LinePart.TheVariants as part
use Rattle.outcomes.specs.declared.text.progress.RankSoFar.{RankSoFar}
use Rattle.outcomes.specs.Text.Texts.{after, after_entry, entry_at, entry_of, progress_from, progress_of, rank_of, all_ended, AreProgress}

-- entries, and one more behind them
progress_from-push : (r : ℕ) (p : RankSoFar) (es : List Entry) (e : Entry) → progress_from r p (es ++ e ∷ []) ≡ after_entry r (progress_from r p es) e
progress_from-push r p [] e = refl
progress_from-push r p (x ∷ es) e = progress_from-push r (after_entry r p x) es e

-- an entry of the rank
of_own : (r : ℕ) (es : List Entry) (e : Entry) → rank_of e ≡ r → progress_of r (es ++ e ∷ []) ≡ after (progress_of r es) e
of_own r es e own =
    progress_from-push r _ es e ∙ ap (λ b. if b then after (progress_of r es) e else progress_of r es) (eq-eqb (rank_of e) r own)

-- an entry of another rank
of_other : (r : ℕ) (es : List Entry) (e : Entry) → (rank_of e ≡ r → ⊥) → progress_of r (es ++ e ∷ []) ≡ progress_of r es
of_other r es e other =
    progress_from-push r _ es e ∙ ap (λ b. if b then after (progress_of r es) e else progress_of r es) (ne_eqb (rank_of e) r other)

-- one entry more
pub one_more : (n k : ℕ) (es : List Entry) (e : Entry) (ps : List RankSoFar) (p : RankSoFar) → AreProgress n es ps → rank_of e ≡ k
    → slice_get ps k ≡ Some p → AreProgress n (es ++ e ∷ []) (slice_set ps k (after p e))
one_more n k es e ps p kept is at = record {
  width = length-set ps k _ ∙ kept.width;
  each = λ r q there. each r q (set_cases ps k (after p e) r q there);
}
  where
    each : (r : ℕ) (q : RankSoFar) → ((k ≡ r) × (q ≡ after p e)) ⊎ ((k ≡ r → ⊥) × (slice_get ps r ≡ Some q)) → q ≡ progress_of r (es ++ e ∷ [])
    each r q (inl own) =
        own.1 ∙ ap (λ z. after z e) (kept.each k p at) ∙ ap (λ z. after (progress_of z es) e) own.0 ∙ sym (of_own r es e (is ∙ own.0))
    each r q (inr others) = kept.each r q others.1 ∙ sym (of_other r es e (λ own. others.0 (sym is ∙ own)))

-- one entry more, of this rank, by what its line says
pub one_form : (n k number : ℕ) (es : List Entry) (form : LineForm) (ps : List RankSoFar) (p q : RankSoFar) → AreProgress n es ps → form.rank ≡ k
    → slice_get ps k ≡ Some p → ((number rank : ℕ) → q ≡ after p (entry_at number rank form.part))
    → AreProgress n (es ++ entry_of number form ∷ []) (slice_set ps k q)
one_form n k number es form ps p q kept is at next =
    rw (next number form.rank) (one_more n k es (entry_of number form) ps p kept (of_form number form.rank form.part ∙ is) at)
  where
    of_form : (number rank : ℕ) (part : LinePart) → rank_of (entry_at number rank part) ≡ rank
    of_form number rank (part.Event kind source sent clock) = refl
    of_form number rank (part.Print clock value) = refl
    of_form number rank (part.End end) = refl

-- if a rank has no end, not all have
pub not_all : (n r : ℕ) (es : List Entry) → r < n → (progress_of r es).ended ≡ false → false ≡ all_ended n es
not_all zero r es low h = absurd (omega (arith, low))
not_all (suc n) r es low h = go (nat_eq r n) refl (not_all n r es)
  where
    go : (b : Bool) → nat_eq r n ≡ b → (r < n → (progress_of r es).ended ≡ false → false ≡ all_ended n es)
        → false ≡ all_ended n es && (progress_of n es).ended
    go true e more = (let is : r ≡ n = grind (arith, nat_tests) in grind (arith))
    go false e more = (let below : r < n = grind (arith, nat_tests) in let no = more below h in grind (arith))
