-- Why replay is exact: the run only grows, so both lives made the same acts with the same messages, and these determine the state.
use Rattle.std.proofs.Common.{◌≡◌, ℕ, ◌≤◌, inl, inr, List, [], ◌∷◌, length, take, refl, sym, ap, subst, ◌∙◌, arith}
use Rattle.std.proofs.lemmas.List.{append-nil, take-append-le}
use Rattle.rank_machine.specs.States as states
use Rattle.rank_machine.specs.States.{State, Inners, here, on}
use Rattle.rank_machine.specs.Acts.{Act, Runs}
use Rattle.rank_machine.specs.Machine.{state_of}
use Rattle.rank_machine.proofs.Determined.{same_runs}
use Rattle.crash_free.specs.Runs.{Passed, History, history, continue}
use Rattle.crash_free.specs.Parts.{IsBeginning, IsPartOf}
use Rattle.crash_free.proofs.Reorder.{IsBeginning-trans, history_grows}
use Rattle.bare_world.specs.declared.event.WorldEvent.{WorldEvent}
use Rattle.bare_world.specs.declared.reply.Reply.{Reply}
use Rattle.bare_world.specs.World.{WorldValue, size, start_of}
use Rattle.bare_world.specs.Headline.{StandsFor, IsWhere}
use Rattle.bare_world.specs.Sequences.{FollowsAll}
use Rattle.run_events.specs.NoDomino.{NoDomino}
use Rattle.run_events.specs.Replaying.{AreSilentlyOne, ReplaysExactly}
use Rattle.run_events.proofs.NoDomino.{events_have_no_domino}

-- of two states to which one leads by silent steps, one leads to the other
one_line : {a b c : State} → Inners a b → Inners a c → AreSilentlyOne b c
one_line here second = inl second
one_line (on e r) here = inr (on e r)
one_line (on {b = x} e r) (on {b = y} e' r') =
    let same : y ≡ x = cc in
    one_line r (rw same at r')

-- a list without elements
is_empty : (acts : List Act) → length acts ≡ 0 → acts ≡ []
is_empty [] e = refl
is_empty (a ∷ acts) e = absurd (omega (arith, e))

-- a run that goes on by acts of one rank has what it had
continued : (C : List Passed) (r : ℕ) (acts : List Act) → IsPartOf C (continue C r acts)
continued C r [] q = ([], sym (append-nil (history C q)))
continued C r (a ∷ acts) q =
    let p : Passed = record { rank = r; act = a } in
    IsBeginning-trans (history C q) (history (p ∷ C) q) (history (continue C r (a ∷ acts)) q) (history_grows C p q) (continued (p ∷ C) r acts q)

-- the first ones of a list that goes on are its own
same_first : (k : ℕ) (h l : History) → k ≤ length h → IsBeginning h l → take k l ≡ take k h
same_first k h l le b = ap (λ z. take k z) b.1 ∙ take-append-le k h b.0 le

-- the same state, by silent steps
pub replays_exactly : (w w' : WorldValue) (events : List WorldEvent) (answers : List Reply) → FollowsAll w events answers w' → StandsFor w w.run
    → StandsFor w' w'.run → ReplaysExactly w w'
replays_exactly w w' events answers f stands stands' r v v' live nothing live' same =
    one_line first.inner (subst (λ z. Inners z (state_of v'.rank.machine)) one second.inner)
  where
    more : NoDomino w events w'
    more = events_have_no_domino w events answers w' f

    first : IsWhere (start_of w) (size w) w.run r v
    first = stands.ranks r v live

    second : IsWhere (start_of w') (size w') w'.run r v'
    second = stands'.ranks r v' live'

    none : first.acts ≡ []
    none = is_empty first.acts (first.as_many ∙ nothing)

    start : start_of w' r ≡ start_of w r
    start = ap (λ z. states.opening z r (size w')) more.after.program ∙ ap (λ z. states.opening w.program r z) more.after.as_many

    within : v.rank.clock ≤ length (history w.run r)
    within = subst (λ z. v.rank.clock ≤ length (history (continue w.run r z) r)) none first.within

    reached : Runs (start_of w r) (take v.rank.clock (history w.run r)) first.after
    reached = subst (λ z. Runs (start_of w r) (take v.rank.clock (history (continue w.run r z) r)) first.after) none first.reached

    acts : take v.rank.clock (history (continue w'.run r second.acts) r) ≡ take v.rank.clock (history w.run r)
    acts =
        same_first v.rank.clock (history w.run r) (history (continue w'.run r second.acts) r) within
        (IsBeginning-trans (history w.run r) (history w'.run r) (history (continue w'.run r second.acts) r) (more.acts r) (continued w'.run r second.acts r))

    reached' : Runs (start_of w r) (take v.rank.clock (history w.run r)) second.after
    reached' =
        subst (λ z. Runs z (take v.rank.clock (history w.run r)) second.after) start
        (subst (λ z. Runs (start_of w' r) z second.after) acts
        (subst (λ k. Runs (start_of w' r) (take k (history (continue w'.run r second.acts) r)) second.after) same second.reached))

    one : second.after ≡ first.after
    one = same_runs (start_of w r) second.after first.after (take v.rank.clock (history w.run r)) reached' reached
