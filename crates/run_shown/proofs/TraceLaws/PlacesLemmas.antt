-- The places of acts, found one after another.
use Rattle.std.proofs.Common.{◌≡◌, ℕ, zero, suc, List, [], ◌∷◌, ◌++◌, ◌+◌, ◌<◌, ◌≤◌, refl, sym, ap, ◌∙◌, subst, arith, Option, Some, None}
use Rattle.std.proofs.Common.{slice_get, length, length-append, reverse, take, get_or}
use Rattle.std.specs.Prelude.{IsSomeAnd}
use Rattle.std.proofs.lemmas.List.{take_more, reverse-append, append-nil, append_assoc}
use Rattle.std.proofs.lemmas.Option.{slice_get_past, slice_get-get_or, slice_get_within}
use Rattle.std.proofs.Math.Seq.{get_or-append_seam}
use Rattle.rank_language.specs.Program.{ProgramValue}
use Rattle.rank_machine.specs.declared.want.Want.{Want}
use Rattle.rank_machine.specs.Machine.{MachineValue}
use Rattle.crash_free.specs.declared.choice.Choice.{Choice}
use Rattle.crash_free.specs.Runs.{Passed}
use Rattle.crash_free.specs.Sim.{SimValue, choice_of, Meaning, ended, other, own_step, makes, meant, Does, Allows}
use Rattle.crash_free.specs.Inside.{GoesInside}
use Rattle.crash_free.specs.Wanted.{Wants, WantsAt}
use Rattle.crash_free.proofs.Refusing.{ranks_same}
use Rattle.crash_free.specs.SendIndex.Sends.{run_before}
use Rattle.run_shown.specs.Trace.Deliveries.{AreClocked, AreOfRanks}
use Rattle.run_shown.specs.Trace.Places.{AreFound, StandsAt, IsMadeAt, ArePlaces, clock_of, is_try}
use Rattle.run_shown.specs.declared.trace.place.Place.{Place}

-- the newest act of a run stands last where the oldest is the first
last_is : (x : Passed) (C : List Passed) → slice_get (reverse (x ∷ C)) (length (reverse C)) ≡ Some x
last_is x C =
    ap (λ z. slice_get z (length (reverse C))) (reverse-append (x ∷ []) C)
    ∙ slice_get-get_or (reverse C ++ x ∷ []) (length (reverse C)) x (omega (arith, length-append (reverse C) (x ∷ [])))
    ∙ ap Some (get_or-append_seam (reverse C) x [] x)

-- a choice after which an act stands behind those before made this act
grown_by : (M : Meaning) (s s' : SimValue) (r : ℕ) (m m' : MachineValue) (p : Passed) → Does M s r m m' s'
    → slice_get (reverse s'.run) (length (reverse s.run)) ≡ Some p → s'.run ≡ p ∷ s.run
grown_by ended s s' r m m' p does seen = absurd does
grown_by other s s' r m m' p does seen = absurd does
grown_by own_step s s' r m m' p does seen =
    let same : s'.run ≡ s.run = ap (λ z. z.run) does.1 in
    let none : None ≡ Some p =
    sym (slice_get_past (reverse s.run) (length (reverse s.run)) (omega arith))
    ∙ ap (λ z. slice_get (reverse z) (length (reverse s.run))) (sym same)
    ∙ seen in
    absurd cc
grown_by (makes act) s s' r m m' p does seen =
    let more : s'.run ≡ record { rank = r; act = act } ∷ s.run = ap (λ z. z.run) does.2 in
    let one : Some (record { rank = r; act = act }) ≡ Some p =
    sym (last_is (record { rank = r; act = act }) s.run)
    ∙ ap (λ z. slice_get (reverse z) (length (reverse s.run))) (sym more)
    ∙ seen in
    let same : record { rank = r; act = act } ≡ p = cc in
    more ∙ ap (λ z. z ∷ s.run) same

-- so did one that is allowed
pub made_more_by : (s there s' : SimValue) (r : ℕ) (c : Choice) (p : Passed) → there.run ≡ s.run → Allows there r c s'
    → slice_get (reverse s'.run) (length (reverse s.run)) ≡ Some p → s'.run ≡ p ∷ s.run
made_more_by s there s' r c p same allowed seen =
    go (slice_get there.machines r) (slice_get s'.machines r) allowed ∙ ap (λ z. p ∷ z) same
  where
    go : (o q : Option MachineValue) → IsSomeAnd o (λ m. IsSomeAnd q (λ m'. Does (meant m c) there r m m' s')) → s'.run ≡ p ∷ there.run
    go (Some m) (Some m') does = grown_by (meant m c) there s' r m m' p does (rw (same) seen)
    go (Some m) None none = absurd none
    go None q none = absurd none

-- what a rank wants is what its machine wants, where that stands
tries_so : (o : Option MachineValue) (m : MachineValue) (w : Want) (place : Place) → IsSomeAnd o (λ z. Wants z w) → o ≡ Some m
    → m.position ≡ place.position → is_try w ≡ place.tries → IsSomeAnd o (λ z. StandsAt z place)
tries_so None m w place wanted is position tries = absurd wanted
tries_so (Some z) m w place wanted is position tries =
    let same : z ≡ m = cc in
    record { position = ap (λ y. y.position) same ∙ position; tries = ap is_try wanted.at_want ∙ tries }

-- an act that was allowed where the rank's own steps had led it, and that was made, was made there
pub made_at : (s there s' : SimValue) (passed : Passed) (place : Place) (steps : ℕ) (m : MachineValue) (w : Want)
    → GoesInside s passed.rank steps there → slice_get there.machines passed.rank ≡ Some m → m.position ≡ place.position
    → WantsAt there.machines passed.rank w → is_try w ≡ place.tries → Allows there passed.rank (choice_of passed.act) s'
    → s'.run ≡ passed ∷ s.run → place.clock ≡ clock_of s'.run passed.rank → IsMadeAt s passed place s'
made_at s there s' passed place steps m w inside is position wanted tries allowed made clock = record {
  steps = steps;
  there = there;
  inside = inside;
  stands = tries_so (slice_get there.machines passed.rank) m w place wanted is position tries;
  allowed = allowed;
  made = made;
  clock = clock;
}

-- one act more was made
made_more : (s mid s' : SimValue) (acts : List Passed) (places : List Place) (passed : Passed) (place : Place) → ArePlaces s acts places mid
    → IsMadeAt mid passed place s' → ArePlaces s (acts ++ passed ∷ []) (places ++ place ∷ []) s'
made_more s mid s' [] [] passed place same made = (s', rw (same) made, refl)
made_more s mid s' [] (p ∷ places) passed place bad made = absurd bad
made_more s mid s' (a ∷ acts) [] passed place bad made = absurd bad
made_more s mid s' (a ∷ acts) (p ∷ places) passed place so_far made =
    (so_far.0, so_far.1, made_more so_far.0 mid s' acts places passed place so_far.2 made)

-- so was the one at this index
pub next_made : (s mid s' : SimValue) (acts : List Passed) (i : ℕ) (passed d : Passed) (places : List Place) (place : Place) → i < length acts
    → passed ≡ get_or acts i d → ArePlaces s (take i acts) places mid → IsMadeAt mid passed place s'
    → ArePlaces s (take (i + 1) acts) (places ++ place ∷ []) s'
next_made s mid s' acts i passed d places place lt is so_far made =
    rw (take_more acts i d lt, ← is) (made_more s mid s' (take i acts) places passed place so_far made)

-- a rank with an allowed choice is one of those that there are
rank_below : (s s' : SimValue) (r : ℕ) (c : Choice) → Allows s r c s' → r < length s.machines
rank_below s s' r c allowed = go (slice_get s.machines r) refl allowed
  where
    go : (o : Option MachineValue) → slice_get s.machines r ≡ o → IsSomeAnd o (λ m. IsSomeAnd (slice_get s'.machines r) (λ m'. Does (meant m c) s r m m' s'))
        → r < length s.machines
    go None is none = absurd none
    go (Some m) is does = slice_get_within s.machines r m is

-- so each act that was made is of one of them
ranks_from : (n : ℕ) (s s' : SimValue) (acts : List Passed) (places : List Place) → ArePlaces s acts places s' → length s.machines ≤ n
    → (index : ℕ) (p : Passed) → slice_get acts index ≡ Some p → p.rank < n
ranks_from n s s' [] places made few index p there = absurd cc
ranks_from n s s' (a ∷ acts) [] made few index p there = absurd made
ranks_from n s s' (a ∷ acts) (place ∷ places) made few zero p there =
    let at = made.1 in
    let below = rank_below at.there made.0 a.rank (choice_of a.act) at.allowed in
    let same : a ≡ p = cc in
    subst (λ z. z.rank < n) same (omega (arith, below, few, at.inside.ranks))
ranks_from n s s' (a ∷ acts) (place ∷ places) made few (suc i) p there =
    let at = made.1 in
    let as_many = ranks_same at.there made.0 a.rank (choice_of a.act) at.allowed in
    ranks_from n made.0 s' acts places made.2 (omega (arith, few, at.inside.ranks, as_many)) i p there

-- there are as many places as acts
as_many_from : (s s' : SimValue) (acts : List Passed) (places : List Place) → ArePlaces s acts places s' → length places ≡ length acts
as_many_from s s' [] [] made = refl
as_many_from s s' [] (place ∷ places) made = absurd made
as_many_from s s' (a ∷ acts) [] made = absurd made
as_many_from s s' (a ∷ acts) (place ∷ places) made = ap suc (as_many_from made.0 s' acts places made.2)

-- and each place has the clock of its act
clocks_from : (s s' : SimValue) (acts : List Passed) (places : List Place) → ArePlaces s acts places s' → (index : ℕ) (p : Passed) (at : Place)
    → slice_get acts index ≡ Some p → slice_get places index ≡ Some at → at.clock ≡ clock_of (run_before acts (index + 1) ++ s.run) p.rank
clocks_from s s' [] places made index p at there stands = absurd cc
clocks_from s s' (a ∷ acts) [] made index p at there stands = absurd made
clocks_from s s' (a ∷ acts) (place ∷ places) made zero p at there stands =
    let same : a ≡ p = cc in
    let here : place ≡ at = cc in
    ap (λ z. z.clock) (sym here) ∙ made.1.clock ∙ ap (λ z. clock_of z a.rank) made.1.made ∙ ap (λ z. clock_of (a ∷ s.run) z.rank) same
clocks_from s s' (a ∷ acts) (place ∷ places) made (suc i) p at there stands =
    let next : suc (i + 1) ≡ suc i + 1 = omega arith in
    clocks_from made.0 s' acts places made.2 i p at there stands
    ∙ ap (λ z. clock_of (run_before acts (i + 1) ++ z) p.rank) made.1.made
    ∙ ap (λ z. clock_of z p.rank)
    (sym (append_assoc (run_before acts (i + 1)) (a ∷ []) s.run) ∙ ap (λ z. z ++ s.run) (sym (reverse-append (a ∷ []) (take (i + 1) acts))))
    ∙ ap (λ k. clock_of (run_before (a ∷ acts) k ++ s.run) p.rank) next

-- the acts of which places are found are of the ranks of the program
pub of_ranks : (program : ProgramValue) (ranks n : ℕ) (acts : List Passed) (places : List Place) → AreFound program ranks acts places → ranks ≤ n
    → AreOfRanks n acts
of_ranks program ranks n acts places found few =
    ranks_from n found.first found.last acts places found.made (omega (arith, few, found.as_many))

-- and their places have their clocks
pub clocked : (program : ProgramValue) (ranks : ℕ) (acts : List Passed) (places : List Place) → AreFound program ranks acts places
    → AreClocked acts places
clocked program ranks acts places found = record {
  as_many = as_many_from found.first found.last acts places found.made;
  each = λ index p at there stands.
      clocks_from found.first found.last acts places found.made index p at there stands
      ∙ ap (λ z. clock_of (run_before acts (index + 1) ++ z) p.rank) found.no_act
      ∙ ap (λ z. clock_of z p.rank) (append-nil (run_before acts (index + 1)));
}
