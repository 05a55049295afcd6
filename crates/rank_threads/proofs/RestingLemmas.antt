-- What an idle turn makes of a rank that hasn't marked itself, path by path.
use Rattle.std.proofs.Common.{◌≡◌, ℕ, Bool, true, false, inl, inr, refl, sym, ap, subst, ◌∙◌}
use Rattle.rank_threads.specs.Resting.{ComesToRest, Rests, RestsUnless, WaitsOn}
use Rattle.rank_threads.specs.Tally.{after_idle, is_last_idle}
use Rattle.rank_threads.specs.declared.turn.stepping.Stepped.{Stepped}
use Rattle.rank_threads.specs.declared.turn.stepping.Stepped.TheVariants as stepped
use Rattle.rank_threads.specs.declared.tally.Tally.{Tally}

-- a rank that owes nothing goes by its step
unless_free : (owes : Bool) (idle : ℕ) (s : Stepped) (t u : Tally) → owes ≡ false → ComesToRest idle s t u → RestsUnless owes idle s t u
unless_free true idle s t u free rests = absurd cc
unless_free false idle s t u free rests = rests

-- one that may owe a frame stays as it was
unless_owing : (owes : Bool) (idle : ℕ) (s : Stepped) (t : Tally) → owes ≡ true → RestsUnless owes idle s t t
unless_owing true idle s t owing = refl
unless_owing false idle s t owing = absurd cc

-- so it does in the turn
pub rests_owing : (idle : ℕ) (s : Stepped) (t : Tally) → t.may_owe ≡ true → Rests idle s t t
rests_owing idle s t owing = unless_owing t.may_owe idle s t owing

-- one that has ended marks itself
pub rests_ended : (idle : ℕ) (t u : Tally) → t.may_owe ≡ false → u ≡ record t { is_marked = true } → Rests idle stepped.Ended t u
rests_ended idle t u free marked = unless_free t.may_owe idle stepped.Ended t u free marked

-- one that made steps isn't at rest
pub rests_moved : (idle : ℕ) (t : Tally) → t.may_owe ≡ false → Rests idle stepped.Moved t t
rests_moved idle t free = unless_free t.may_owe idle stepped.Moved t t free refl

-- nor is one that made an act
pub rests_acted : (idle : ℕ) (t : Tally) → t.may_owe ≡ false → Rests idle stepped.Acted t t
rests_acted idle t free = unless_free t.may_owe idle stepped.Acted t t free refl

-- nor one that waits at its gate
pub rests_held : (idle : ℕ) (t : Tally) → t.may_owe ≡ false → Rests idle stepped.Held t t
rests_held idle t free = unless_free t.may_owe idle stepped.Held t t free refl

-- before the last idle turn a rank only counts
waits_on : (last : Bool) (t : Tally) → last ≡ false → WaitsOn last t t
waits_on true t early = absurd cc
waits_on false t early = refl

-- then it marks itself
waits_marked : (last : Bool) (t u : Tally) → last ≡ true → u ≡ record t { is_marked = true } → WaitsOn last t u
waits_marked true t u late marked = inl marked
waits_marked false t u late marked = absurd cc

-- or notes what it has read
waits_noted : (last : Bool) (t u : Tally) → last ≡ true → u ≡ record t { seen = u.seen } → WaitsOn last t u
waits_noted true t u late noted = inr noted
waits_noted false t u late noted = absurd cc

-- a rank that waits has counted the turn, and it wasn't the last
pub rests_waiting : (idle : ℕ) (t u : Tally) (waited : Bool) → t.may_owe ≡ false → waited ≡ is_last_idle t idle → u ≡ after_idle t idle
    → waited ≡ false → Rests idle stepped.Blocked t u
rests_waiting idle t u waited free same counted early =
    unless_free t.may_owe idle stepped.Blocked t u free
    (subst (λ v. WaitsOn (is_last_idle t idle) (after_idle t idle) v) (sym counted) (waits_on (is_last_idle t idle) (after_idle t idle) (sym same ∙ early)))

-- it was the last, and other rows have grown
pub rests_noted : (idle : ℕ) (t s u : Tally) (waited : Bool) → t.may_owe ≡ false → waited ≡ is_last_idle t idle → s ≡ after_idle t idle
    → waited ≡ true → u ≡ record s { seen = u.seen } → Rests idle stepped.Blocked t u
rests_noted idle t s u waited free same counted late noted =
    unless_free t.may_owe idle stepped.Blocked t u free
    (waits_noted (is_last_idle t idle) (after_idle t idle) u (sym same ∙ late) (noted ∙ ap (λ (v : Tally). record v { seen = u.seen }) counted))

-- it was the last, and none has
pub rests_marked : (idle : ℕ) (t s r u : Tally) (waited : Bool) → t.may_owe ≡ false → waited ≡ is_last_idle t idle → s ≡ after_idle t idle
    → waited ≡ true → r ≡ s → u ≡ record r { is_marked = true } → Rests idle stepped.Blocked t u
rests_marked idle t s r u waited free same counted late quiet marked =
    unless_free t.may_owe idle stepped.Blocked t u free
    (waits_marked (is_last_idle t idle) (after_idle t idle) u (sym same ∙ late) (marked ∙ ap (λ (v : Tally). record v { is_marked = true }) (quiet ∙ counted)))

-- what holds on each path of an idle turn
pub ruleset resting_laws = (rests_owing, rests_ended, rests_moved, rests_acted, rests_held, rests_waiting, rests_noted, rests_marked)
