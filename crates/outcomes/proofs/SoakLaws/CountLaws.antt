-- Bars have the counts of the runs that were noted: a run more counts in the one bar of its outcome,
-- since no two bars are of one outcome, and in a new bar only if no run before had that outcome.
use Rattle.std.proofs.Common.{◌≡◌, ◌≢◌, ℕ, zero, suc, ◌+◌, ◌≤◌, Bool, true, false, List, [], ◌∷◌, ◌++◌, Some, length}
use Rattle.std.proofs.Common.{slice_get, slice_set, refl, sym, subst, ◌∙◌, ap, arith}
use Rattle.std.proofs.Math.Nat.{min-eq_left}
use Rattle.audit.specs.FinalRuns.Maximal.{RankOutcome}
use Rattle.outcomes.specs.Soak.Histogram.{RunSeen, BarValue, most_runs, one_if, up_to, first_bar, with_one, HasAt, AreOthers}
use Rattle.outcomes.specs.Soak.Histogram.{Notes, again, first, AreBars, of_none, of_one, HaveHad, had_none, had_it, had_other}
use Rattle.outcomes.specs.Soak.Histogram.{HaveCounts, NoneIsLost, AreApart, IsHistogram}

-- a flag counts once at most
one_at_most : (b : Bool) → one_if b ≤ 1
one_at_most true = omega arith
one_at_most false = omega arith

-- no more runs had an outcome than there are, and no more of them had a crash
few : (o : List RankOutcome) (runs : List RunSeen) (n c : ℕ) → HaveHad o runs n c → (n ≤ length runs) × (c ≤ length runs)
few o [] n c had_none = (omega arith, omega arith)
few o (run ∷ runs) n c (had_it _ same had) =
    let less = few o runs _ _ had in let one = one_at_most run.has_crashed in (omega (arith, less.0), omega (arith, less.1, one))
few o (run ∷ runs) n c (had_other _ differs had) =
    let less = few o runs _ _ had in (omega (arith, less.0), omega (arith, less.1))

-- a run more of another outcome changes no bar
all_others : (run : RunSeen) (runs : List RunSeen) (bars : List BarValue) → AreOthers bars run.outcome → HaveCounts runs bars → HaveCounts (run ∷ runs) bars
all_others run runs [] others counts = tt
all_others run runs (bar ∷ bars) others counts = (
  had_other run (λ e. others zero bar refl (sym e)) counts.0,
  all_others run runs bars (λ at it there. others (suc at) it there) counts.1,
)

-- the bar of the run's outcome counts it
counted_again : (run : RunSeen) (runs : List RunSeen) (bars : List BarValue) (at : ℕ) (bar : BarValue) → length (run ∷ runs) ≤ most_runs
    → slice_get bars at ≡ Some bar → bar.outcome ≡ run.outcome → AreApart bars → HaveCounts runs bars
    → HaveCounts (run ∷ runs) (slice_set bars at (with_one bar run.has_crashed))
counted_again run runs [] at bar low there same apart counts = absurd cc
counted_again run runs (x ∷ bars) zero bar low there same apart counts =
    let it : x ≡ bar = cc in
    let had : HaveHad bar.outcome runs bar.runs bar.crashed = subst (λ b. HaveHad b.outcome runs b.runs b.crashed) it counts.0 in
    let less = few bar.outcome runs bar.runs bar.crashed had in
    let one = one_at_most run.has_crashed in
    let n : up_to (bar.runs + 1) ≡ bar.runs + 1 = min-eq_left (omega (arith, low, less.0)) in
    let c : up_to (bar.crashed + one_if run.has_crashed) ≡ bar.crashed + one_if run.has_crashed = min-eq_left (omega (arith, low, less.1, one)) in
    let more : HaveHad bar.outcome (run ∷ runs) (bar.runs + 1) (bar.crashed + one_if run.has_crashed) = had_it run (sym same) had in
    let others : AreOthers bars run.outcome = subst (AreOthers bars) (ap (λ b. b.outcome) it ∙ same) apart.0 in (
      subst (λ z. HaveHad bar.outcome (run ∷ runs) z (up_to (bar.crashed + one_if run.has_crashed))) (sym n)
          (subst (λ z. HaveHad bar.outcome (run ∷ runs) (bar.runs + 1) z) (sym c) more),
      all_others run runs bars others counts.1,
    )
counted_again run runs (x ∷ bars) (suc at) bar low there same apart counts = (
  had_other run (λ e. apart.0 at bar there (same ∙ e)) counts.0,
  counted_again run runs bars at bar low there same apart.1 counts.1,
)

-- no run had an outcome that has no bar
none_had : (o : List RankOutcome) (runs : List RunSeen) (bars : List BarValue) → NoneIsLost runs bars → AreOthers bars o → HaveHad o runs 0 0
none_had o [] bars lost others = had_none
none_had o (run ∷ runs) bars lost others =
    had_other run (λ e. others lost.0.0 lost.0.1.0 lost.0.1.1 (lost.0.1.2 ∙ e)) (none_had o runs bars lost.1 others)

-- a new bar counts the first run of its outcome
counted_first : (run : RunSeen) (runs : List RunSeen) (bars : List BarValue) → HaveHad run.outcome runs 0 0 → AreOthers bars run.outcome → HaveCounts runs bars
    → HaveCounts (run ∷ runs) (bars ++ first_bar run.outcome run.has_crashed ∷ [])
counted_first run runs [] had others counts =
    let none : 0 + one_if run.has_crashed ≡ one_if run.has_crashed = omega arith in
    (subst (HaveHad run.outcome (run ∷ runs) 1) none (had_it run refl had), tt)
counted_first run runs (bar ∷ bars) had others counts = (
  had_other run (λ e. others zero bar refl (sym e)) counts.0,
  counted_first run runs bars had (λ at it there. others (suc at) it there) counts.1,
)

-- a bar that counts a run more is of the same outcome
has_still : (bars : List BarValue) (at i : ℕ) (bar : BarValue) (h : Bool) (o : List RankOutcome) → slice_get bars at ≡ Some bar
    → HasAt bars o i → HasAt (slice_set bars at (with_one bar h)) o i
has_still [] at i bar h o there has = absurd cc
has_still (x ∷ bars) zero zero bar h o there has = (with_one bar h, refl, (let it : bar ≡ has.0 = cc in ap (λ b. b.outcome) it ∙ has.2))
has_still (x ∷ bars) zero (suc i) bar h o there has = has
has_still (x ∷ bars) (suc at) zero bar h o there has = has
has_still (x ∷ bars) (suc at) (suc i) bar h o there has = has_still bars at i bar h o there has

-- and stands where it stood, if one more stands behind
has_before : (bars : List BarValue) (more : BarValue) (i : ℕ) (o : List RankOutcome) → HasAt bars o i → HasAt (bars ++ more ∷ []) o i
has_before [] more i o has = (let e = has.1 in absurd cc)
has_before (x ∷ bars) more zero o has = has
has_before (x ∷ bars) more (suc i) o has = has_before bars more i o has

-- the last one stands last
has_last : (bars : List BarValue) (more : BarValue) → (i : ℕ) × HasAt (bars ++ more ∷ []) more.outcome i
has_last [] more = (zero, (more, refl, refl))
has_last (x ∷ bars) more = (let last = has_last bars more in (suc last.0, last.1))

-- no run is lost where its bar is only counted up
kept_again : (runs : List RunSeen) (bars : List BarValue) (at : ℕ) (bar : BarValue) (h : Bool) → slice_get bars at ≡ Some bar → NoneIsLost runs bars
    → NoneIsLost runs (slice_set bars at (with_one bar h))
kept_again [] bars at bar h there lost = tt
kept_again (run ∷ runs) bars at bar h there lost =
    ((lost.0.0, has_still bars at lost.0.0 bar h run.outcome there lost.0.1), kept_again runs bars at bar h there lost.1)

-- nor where one more stands behind
kept_first : (runs : List RunSeen) (bars : List BarValue) (more : BarValue) → NoneIsLost runs bars → NoneIsLost runs (bars ++ more ∷ [])
kept_first [] bars more lost = tt
kept_first (run ∷ runs) bars more lost =
    ((lost.0.0, has_before bars more lost.0.0 run.outcome lost.0.1), kept_first runs bars more lost.1)

-- what is of none of the outcomes is of none of them still
others_again : (bars : List BarValue) (at : ℕ) (bar : BarValue) (h : Bool) (o : List RankOutcome) → slice_get bars at ≡ Some bar → AreOthers bars o
    → AreOthers (slice_set bars at (with_one bar h)) o
others_again [] at bar h o there others i it e = absurd cc
others_again (x ∷ bars) zero bar h o there others zero it e =
    (let new : with_one bar h ≡ it = cc in λ same. others zero bar there (ap (λ b. b.outcome) new ∙ same))
others_again (x ∷ bars) zero bar h o there others (suc i) it e = others (suc i) it e
others_again (x ∷ bars) (suc at) bar h o there others zero it e = others zero it e
others_again (x ∷ bars) (suc at) bar h o there others (suc i) it e =
    others_again bars at bar h o there (λ j y f. others (suc j) y f) i it e

-- bars of different outcomes are so still
apart_again : (bars : List BarValue) (at : ℕ) (bar : BarValue) (h : Bool) → slice_get bars at ≡ Some bar → AreApart bars
    → AreApart (slice_set bars at (with_one bar h))
apart_again [] at bar h there apart = tt
apart_again (x ∷ bars) zero bar h there apart = (
  (let it : x ≡ bar = cc in subst (λ b. AreOthers bars b.outcome) it apart.0),
  apart.1,
)
apart_again (x ∷ bars) (suc at) bar h there apart = (
  others_again bars at bar h x.outcome there apart.0,
  apart_again bars at bar h there apart.1,
)

-- what is of none of these outcomes, nor of that of one more, is of none of all
others_first : (bars : List BarValue) (more : BarValue) (o : List RankOutcome) → AreOthers bars o → more.outcome ≢ o → AreOthers (bars ++ more ∷ []) o
others_first [] more o others differs zero it e = (let new : more ≡ it = cc in λ same. differs (ap (λ b. b.outcome) new ∙ same))
others_first [] more o others differs (suc i) it e = absurd cc
others_first (x ∷ bars) more o others differs zero it e = others zero it e
others_first (x ∷ bars) more o others differs (suc i) it e =
    others_first bars more o (λ j y f. others (suc j) y f) differs i it e

-- and so they are with one more of another outcome
apart_first : (bars : List BarValue) (more : BarValue) → AreOthers bars more.outcome → AreApart bars → AreApart (bars ++ more ∷ [])
apart_first [] more others apart = ((λ at it e. absurd cc), tt)
apart_first (x ∷ bars) more others apart = (
  others_first bars more x.outcome apart.0 (λ e. others zero x refl (sym e)),
  apart_first bars more (λ at it there. others (suc at) it there) apart.1,
)

-- a run more
one_more : (run : RunSeen) (runs : List RunSeen) (old new : List BarValue) → length (run ∷ runs) ≤ most_runs → IsHistogram runs old
    → Notes old run.outcome run.has_crashed new → IsHistogram (run ∷ runs) new
one_more run runs old new low h (again at bar there same) = record {
  counts = counted_again run runs old at bar low there same h.apart h.counts;
  none_lost = (
    (at, has_still old at at bar run.has_crashed run.outcome there (bar, there, same)),
    kept_again runs old at bar run.has_crashed there h.none_lost,
  );
  apart = apart_again old at bar run.has_crashed there h.apart;
}
one_more run runs old new low h (first others) = record {
  counts = counted_first run runs old (none_had run.outcome runs old h.none_lost others) others h.counts;
  none_lost = (
    has_last old (first_bar run.outcome run.has_crashed),
    kept_first runs old (first_bar run.outcome run.has_crashed) h.none_lost,
  );
  apart = apart_first old (first_bar run.outcome run.has_crashed) others h.apart;
}

-- the bars of runs that were noted one after another
pub is_histogram : (runs : List RunSeen) (bars : List BarValue) → AreBars runs bars → length runs ≤ most_runs → IsHistogram runs bars
is_histogram [] bars of_none low = record { counts = tt; none_lost = tt; apart = tt }
is_histogram (run ∷ runs) bars (of_one _ before noted) low =
    one_more run runs _ bars low (is_histogram runs _ before (omega (arith, low))) noted
