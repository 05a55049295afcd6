-- How what was found of a telling program says whether each rank prints the same in all its runs.
use Rattle.std.proofs.Common.{◌≡◌, ℕ, zero, suc, ◌+◌, ◌<◌, ◌≤◌, ℤ, true, false, List, [], ◌∷◌, Some, None, length, slice_get, ◌⊎◌, inl, inr, refl, ap, subst, sym, arith, ◌∙◌}
use Rattle.std.proofs.lemmas.Bool.{cases_eq}
use Rattle.std.proofs.lemmas.Option.{slice_get_within}
use Rattle.command_line.specs.declared.exploring.ExploreJob.{ExploreJob}
use Rattle.audit.specs.FinalRuns.Maximal.{RankOutcome}
use Rattle.explore.specs.Explored.{ExploredValue}
use Rattle.explore.specs.Outcomes.{IsAmong}
use Rattle.rank_language.specs.Program.{ProgramValue}
use Rattle.explore.specs.declared.send_mode.SendMode.TheVariants.{Buffered}
use Rattle.runner.specs.Apart.{AreLinesApart}
use Rattle.runner.specs.Determinism.{AreAlike, ArePartedAt, IsKnown, PrintsOther, printed}
use Rattle.runner.specs.Searches.{IsFoundBy}
use Rattle.runner.specs.declared.commands.apart.Apart.{Apart}
use Rattle.runner.specs.declared.commands.determinism.Determinism.TheVariants as known

-- all was found, and it is alike
pub is_same : (program : ProgramValue) (lines : List ℕ) (job : ExploreJob) (runs : ℕ) (found : ExploredValue) → IsFoundBy program Buffered job runs found
    → found.complete ≡ true → AreAlike found.outcomes → IsKnown program lines job.ranks found known.Same
is_same program lines job runs found searched complete alike =
    let all = searched.complete complete in
    IsKnown.same complete (λ one other a b. alike.alike one other (all.no_others one a) (all.no_others other b))

-- not all was found
pub is_stopped : (program : ProgramValue) (lines : List ℕ) (job : ExploreJob) (found : ExploredValue) → found.complete ≡ false
    → AreAlike found.outcomes → IsKnown program lines job.ranks found known.Stopped
is_stopped program lines job found stopped alike = IsKnown.stopped stopped alike

-- two that were found differ
pub is_differing : (program : ProgramValue) (lines : List ℕ) (job : ExploreJob) (runs : ℕ) (found : ExploredValue) (one other : List RankOutcome) (apart : Apart)
    (rank : ℕ) → IsFoundBy program Buffered job runs found → ArePartedAt rank one other found.outcomes → apart.rank ≡ rank
    → AreLinesApart program lines job.ranks one other apart → IsKnown program lines job.ranks found (known.Differ apart)
is_differing program lines job runs found one other apart rank searched parted same at_lines = IsKnown.differ (record {
  one = one;
  other = other;
  one_possible = searched.possible one parted.one_among;
  other_possible = searched.possible other parted.other_among;
  apart = subst (λ (r : ℕ). PrintsOther r one other) (sym same) parted.apart;
  at_lines = at_lines;
})

-- Outcomes before this one are like the first.
abbrev pub AlikeBelow : List (List RankOutcome) → ℕ → Type 0
AlikeBelow outcomes k = (i : ℕ) (first o : List RankOutcome) → i < k → slice_get outcomes 0 ≡ Some first → slice_get outcomes i ≡ Some o
    → printed first ≡ printed o

-- so is this one
pub alike_further : (outcomes : List (List RankOutcome)) (k : ℕ) (first o : List RankOutcome) → AlikeBelow outcomes k
    → slice_get outcomes 0 ≡ Some first → slice_get outcomes k ≡ Some o → printed first ≡ printed o → AlikeBelow outcomes (k + 1)
alike_further outcomes k first o before begins here same i one other low starts there = go (cases_eq i k)
  where
    go : (i ≡ k) ⊎ (i ≡ k → ⊥) → printed one ≡ printed other
    go (inl e) =
        let f : Some first ≡ Some one = sym begins ∙ starts in
        let g : Some o ≡ Some other = sym here ∙ ap (slice_get outcomes) (sym e) ∙ there in
        let f1 : first ≡ one = cc in
        let g1 : o ≡ other = cc in
        ap printed (sym f1) ∙ same ∙ ap printed g1
    go (inr apart) = before i one other (omega (arith, low, apart)) starts there

-- so all are
pub alike_all : (outcomes : List (List RankOutcome)) (k : ℕ) → AlikeBelow outcomes k → length outcomes ≤ k → AreAlike outcomes
alike_all [] k alike all = record { alike = λ one other a b. (let e = a.1 in absurd cc) }
alike_all (first ∷ outcomes) k alike all = record { alike = λ one other a b. sym (like one a) ∙ like other b }
  where
    like : (o : List RankOutcome) → IsAmong (first ∷ outcomes) o → printed first ≡ printed o
    like o c =
        let e = c.1 in
        let within = slice_get_within (first ∷ outcomes) c.0 o e in
        alike c.0 first o (omega (arith, within, all)) refl e

-- this one differs from the first
pub parted : (outcomes : List (List RankOutcome)) (k rank : ℕ) (first o : List RankOutcome) → slice_get outcomes 0 ≡ Some first
    → slice_get outcomes k ≡ Some o → PrintsOther rank first o → ArePartedAt rank first o outcomes
parted outcomes k rank first o begins here apart = record { one_among = (0, begins); other_among = (k, here); apart = apart }

-- what stands at a place printed its lines
printed_at : (outcome : List RankOutcome) (i : ℕ) (x : RankOutcome) → slice_get outcome i ≡ Some x → slice_get (printed outcome) i ≡ Some x.lines
printed_at [] i x e = absurd cc
printed_at (y ∷ outcome) zero x e = (let same : y ≡ x = cc in ap (λ (o : RankOutcome). Some o.lines) same)
printed_at (y ∷ outcome) (suc i) x e = printed_at outcome i x e

-- where nothing stands nothing is printed
printed_none : (outcome : List RankOutcome) (i : ℕ) → slice_get outcome i ≡ None → slice_get (printed outcome) i ≡ None
printed_none [] i e = refl
printed_none (y ∷ outcome) zero e = absurd cc
printed_none (y ∷ outcome) (suc i) e = printed_none outcome i e

-- a rank that printed the same in both
pub both_same : (one other : List RankOutcome) (rank : ℕ) (x y : RankOutcome) → slice_get one rank ≡ Some x → slice_get other rank ≡ Some y
    → x.lines ≡ y.lines → slice_get (printed one) rank ≡ slice_get (printed other) rank
both_same one other rank x y here there same = printed_at one rank x here ∙ ap (λ (l : List ℤ). Some l) same ∙ sym (printed_at other rank y there)

-- one that didn't
pub both_other : (one other : List RankOutcome) (rank : ℕ) (x y : RankOutcome) → slice_get one rank ≡ Some x → slice_get other rank ≡ Some y
    → (x.lines ≡ y.lines → ⊥) → PrintsOther rank one other
both_other one other rank x y here there apart same =
    let e : Some x.lines ≡ Some y.lines = sym (printed_at one rank x here) ∙ same ∙ printed_at other rank y there in
    apart cc

-- one that stands in none
pub none_there : (one other : List RankOutcome) (rank : ℕ) → slice_get one rank ≡ None → slice_get other rank ≡ None
    → slice_get (printed one) rank ≡ slice_get (printed other) rank
none_there one other rank here there = printed_none one rank here ∙ sym (printed_none other rank there)

-- one that stands in the first alone
pub only_here : (one other : List RankOutcome) (rank : ℕ) (x : RankOutcome) → slice_get one rank ≡ Some x → slice_get other rank ≡ None
    → PrintsOther rank one other
only_here one other rank x here there same =
    let e : Some x.lines ≡ None = sym (printed_at one rank x here) ∙ same ∙ printed_none other rank there in
    absurd cc

-- one that stands in the second alone
pub only_there : (one other : List RankOutcome) (rank : ℕ) (y : RankOutcome) → slice_get one rank ≡ None → slice_get other rank ≡ Some y
    → PrintsOther rank one other
only_there one other rank y here there same =
    let e : None ≡ Some y.lines = sym (printed_none one rank here) ∙ same ∙ printed_at other rank y there in
    absurd cc

-- Ranks before this one printed the same.
abbrev pub SameBelow : List RankOutcome → List RankOutcome → ℕ → Type 0
SameBelow one other k = (i : ℕ) → i < k → slice_get (printed one) i ≡ slice_get (printed other) i

-- so did this one
pub same_further : (one other : List RankOutcome) (k : ℕ) → SameBelow one other k → slice_get (printed one) k ≡ slice_get (printed other) k
    → SameBelow one other (k + 1)
same_further one other k before here i low = go (cases_eq i k)
  where
    go : (i ≡ k) ⊎ (i ≡ k → ⊥) → slice_get (printed one) i ≡ slice_get (printed other) i
    go (inl same) = subst (λ (j : ℕ). slice_get (printed one) j ≡ slice_get (printed other) j) (sym same) here
    go (inr apart) = before i (omega (arith, low, apart))

-- so all did, as there are no more of them in the second
pub all_same : (one other : List RankOutcome) (k : ℕ) → SameBelow one other k → length one ≤ k
    → slice_get (printed one) (length one) ≡ slice_get (printed other) (length one) → printed one ≡ printed other
all_same [] [] k same all last = refl
all_same [] (y ∷ other) k same all last = (let e : None ≡ Some y.lines = last in absurd cc)
all_same (x ∷ one) [] k same all last = (let e : Some x.lines ≡ None = same 0 (omega (arith, all)) in absurd cc)
all_same (x ∷ one) (y ∷ other) k same all last =
    let e : Some x.lines ≡ Some y.lines = same 0 (omega (arith, all)) in
    let first : x.lines ≡ y.lines = cc in
    let rest : printed one ≡ printed other = all_same one other (length one) (λ i low. same (suc i) (omega (arith, low, all))) (omega arith) last in
    let whole : x.lines ∷ printed one ≡ y.lines ∷ printed other = cc in
    whole
