-- Rounds of a world that is played: in each of them every rank has its turn, and a round that had events is one round more.
use Rattle.std.proofs.Common.{◌≡◌, ℕ, suc, ◌+◌, ◌<◌, ◌≤◌, ◌⊎◌, inl, inr, Bool, true, false, List, [], ◌∷◌, ◌++◌, length}
use Rattle.std.proofs.Common.{refl, sym, ap, subst, ◌∙◌, arith, append_assoc}
use Rattle.std.specs.Prelude.{MatchBool}
use Rattle.std.proofs.lemmas.Bool.{cases_eq}
use Rattle.std.proofs.lemmas.List.{length-append, append-nil, append_cancel_left}
use Rattle.bare_world.specs.declared.event.WorldEvent.{WorldEvent}
use Rattle.bare_world.specs.declared.event.WorldEvent.TheVariants.{Step}
use Rattle.bare_world.specs.World.{WorldValue}
use Rattle.bare_world.specs.ToTheEnd.{IsNoCrash, Leads}
use Rattle.bare_world.specs.Follows.{Follows}
use Rattle.bare_world.specs.Onward.{IsWorld}
use Rattle.bare_world.specs.declared.reply.Reply.{Reply}
use Rattle.bare_world.specs.Finished.{steps_in, IsInVain, HasTurn, AreRounds, IsStill, Played, HadTurn, HadTurns, HadRound, HadRounds}
use Rattle.bare_world.specs.Finished.{leaves_all, HasLed, IsTaken, for_all, no_steps}
use Rattle.bare_world.proofs.HeadlineKept.{happens_can}
use Rattle.bare_world.proofs.Alike.OneEventMore.{happened}
use Rattle.bare_world.proofs.Ending.LeavesAll.{leaves}
use Rattle.bare_world.proofs.Ending.IsPlayedOn.{leads_append, played_more, quiet_last}

-- ---- the turn of a rank

-- an event that changed something is taken
pub taken_one : (w : WorldValue) (events : List WorldEvent) (event : WorldEvent) (answer : Reply) (w' : WorldValue) (events' : List WorldEvent)
    → IsWorld w → IsNoCrash event → leaves_all answer ≡ false → Follows w event answer w' → events' ≡ events ++ event ∷ []
    → IsTaken event w events w' events'
unfolding IsTaken
taken_one w events event answer w' events' i mild l f e =
    let h = happened w event answer w' (λ q. (let k : false ≡ true = sym l ∙ ap leaves_all q in cc)) f in
    inl ((mild, happens_can w event answer w' i.stands h, (answer, w', h, refl)), e)

-- one that left all as it was is taken in vain
pub taken_none : (w : WorldValue) (events : List WorldEvent) (event : WorldEvent) (answer : Reply) (w' : WorldValue) (events' : List WorldEvent)
    → leaves_all answer ≡ true → Follows w event answer w' → events' ≡ events → IsTaken event w events w' events'
unfolding IsTaken
taken_none w events event answer w' events' l f e =
    let same = leaves w event answer w' l f in
    inr (same, e, (answer, l, subst (λ z. Follows w event answer z) same f))

-- a step that is taken is the turn of its rank
pub turn_taken : (c : ℕ → ℕ) (r q : ℕ) (u v w : WorldValue) (x y z : List WorldEvent) → q ≡ r → Played c u x v y → IsTaken (Step q) v y w z
    → HadTurn r u x w z
unfolding HasLed HadTurn IsTaken
turn_taken c r q u v w x y z same p taken = subst (λ k. (late : List WorldEvent) × (z ≡ x ++ late) × HasTurn k u late w) same (go p.led taken)
  where
    go : (late : List WorldEvent) × (y ≡ x ++ late) × Leads u late v
        → (Leads v (Step q ∷ []) w × (z ≡ y ++ Step q ∷ [])) ⊎ ((w ≡ v) × (z ≡ y) × IsInVain v (Step q))
        → (late : List WorldEvent) × (z ≡ x ++ late) × HasTurn q u late w
    go l (inl t) = (
      l.0 ++ Step q ∷ [],
      t.1 ∙ ap (λ k. k ++ Step q ∷ []) l.1 ∙ append_assoc x l.0 (Step q ∷ []),
      record {
        before = l.0;
        after = Step q ∷ [];
        whole = refl;
        mid = v;
        leads = l.2;
        leads_on = t.0;
        turn = inl ([], refl);
      },
    )
    go l (inr t) = (
      l.0,
      t.1 ∙ l.1,
      record {
        before = l.0;
        after = [];
        whole = sym (append-nil l.0);
        mid = v;
        leads = l.2;
        leads_on = t.0;
        turn = inr t.2;
      },
    )

-- a step that is the first of some events is the first of them and more
more_after : (r : ℕ) (mid : WorldValue) (after late : List WorldEvent) → ((later : List WorldEvent) × (after ≡ Step r ∷ later)) ⊎ IsInVain mid (Step r)
    → ((later : List WorldEvent) × (after ++ late ≡ Step r ∷ later)) ⊎ IsInVain mid (Step r)
more_after r mid after late (inl a) = inl (a.0 ++ late, ap (λ k. k ++ late) a.1)
more_after r mid after late (inr v) = inr v

-- what comes behind it leaves it there
turn_then : (r : ℕ) (u v w : WorldValue) (x y z : List WorldEvent) → HadTurn r u x v y → HasLed v y w z → HadTurn r u x w z
unfolding HasLed HadTurn
turn_then r u v w x y z h p = (
  h.0 ++ p.0,
  p.1 ∙ ap (λ k. k ++ p.0) h.1 ∙ append_assoc x h.0 p.0,
  record {
    before = h.2.before;
    after = h.2.after ++ p.0;
    whole = ap (λ k. k ++ p.0) h.2.whole ∙ append_assoc h.2.before h.2.after p.0;
    mid = h.2.mid;
    leads = h.2.leads;
    leads_on = leads_append h.2.mid v w h.2.after p.0 h.2.leads_on p.2;
    turn = more_after r h.2.mid h.2.after p.0 h.2.turn;
  },
)

-- and so does what comes before it
turn_behind : (r : ℕ) (u v w : WorldValue) (x y z : List WorldEvent) → HasLed u x v y → HadTurn r v y w z → HadTurn r u x w z
unfolding HasLed HadTurn
turn_behind r u v w x y z p h = (
  p.0 ++ h.0,
  h.1 ∙ ap (λ k. k ++ h.0) p.1 ∙ append_assoc x p.0 h.0,
  record {
    before = p.0 ++ h.2.before;
    after = h.2.after;
    whole = ap (λ k. p.0 ++ k) h.2.whole ∙ sym (append_assoc p.0 h.2.before h.2.after);
    mid = h.2.mid;
    leads = leads_append u v h.2.mid p.0 h.2.before p.2 h.2.leads;
    leads_on = h.2.leads_on;
    turn = h.2.turn;
  },
)

-- ---- so each rank

-- the ranks below k had their turns
abbrev pub TurnsBelow : ℕ → WorldValue → List WorldEvent → WorldValue → List WorldEvent → Type 0
TurnsBelow k w events w' events' = (r : ℕ) → r < k → HadTurn r w events w' events'

-- one rank more
pub turns_next : (c d : ℕ → ℕ) (k : ℕ) (u v w : WorldValue) (x y z : List WorldEvent) → Played c u x v y → TurnsBelow k u x v y → Played d v y w z
    → HadTurn k v y w z → TurnsBelow (k + 1) u x w z
turns_next c d k u v w x y z before all one turn r l = go (cases_eq r k)
  where
    go : (r ≡ k) ⊎ (r ≡ k → ⊥) → HadTurn r u x w z
    go (inl e) = subst (λ q. HadTurn q u x w z) (sym e) (turn_behind k u v w x y z before.led turn)
    go (inr ne) = turn_then r u v w x y z (all r (omega (arith, l, ne))) one.led

-- ---- a round

-- steps on a list, and on what comes behind it
steps_both : (r : ℕ) (xs ys : List WorldEvent) → steps_in r (xs ++ ys) ≡ steps_in r xs + steps_in r ys
steps_both r [] ys = (let e : steps_in r ys ≡ 0 + steps_in r ys = omega arith in e)
steps_both r (x ∷ xs) ys = (let q = steps_both r xs ys in omega (arith, q))

-- where something happened, and each rank had its turn, it was a round
round_is : (u w : WorldValue) (x z : List WorldEvent) → HadTurns u x w z → Played (for_all 1) u x w z → length x < length z → HadRound u x w z
unfolding HasLed HadTurn HadRound
round_is u w x z turns p more = (
  p.led.0,
  p.led.1,
  record {
    some =
        (let a = ap (λ k. length k) p.led.1 in
        let b = length-append x p.led.0 in
        omega (arith, a, b, more));
    leads = p.led.2;
    turns = λ r l.
        (let h = turns r l in
        subst (λ k. HasTurn r u k w) (append_cancel_left x h.0 p.led.0 (sym h.1 ∙ p.led.1)) h.2);
    few = λ r.
        (let a = p.steps r in
        let b = ap (λ k. steps_in r k) p.led.1 in
        let d = steps_both r x p.led.0 in
        omega (arith, a, b, d));
  },
)

-- so it was where the steps came first, and two lists of other events then
pub round_of_two : (t u v w : WorldValue) (p x y z : List WorldEvent) → HadTurns t p u x → Played (for_all 1) t p u x → Played no_steps u x v y
    → Played no_steps v y w z → length p < length z → HadRound t p w z
round_of_two t u v w p x y z turns a b c more =
    round_is t w p z (λ r l. turn_then r t v w p y z (turn_then r t u v p x y (turns r l) b.led) c.led)
    (quiet_last (for_all 1) t v w p y z (quiet_last (for_all 1) t u v p x y a b) c) more

-- or three
pub round_of_three : (t u v w m : WorldValue) (p x y z k : List WorldEvent) → HadTurns t p u x → Played (for_all 1) t p u x → Played no_steps u x v y
    → Played no_steps v y w z → Played no_steps w z m k → length p < length k → HadRound t p m k
round_of_three t u v w m p x y z k turns a b c d more =
    round_is t m p k
    (λ r l. turn_then r t w m p z k (turn_then r t v w p y z (turn_then r t u v p x y (turns r l) b.led) c.led) d.led)
    (quiet_last (for_all 1) t w m p z k (quiet_last (for_all 1) t v w p y z (quiet_last (for_all 1) t u v p x y a b) c) d) more

-- ---- so many rounds

-- none yet
pub rounds_none : (w : WorldValue) (events : List WorldEvent) → HadRounds 0 w events w events
unfolding HadRounds
rounds_none w events = ([], sym (append-nil events), (refl, refl))

-- one more
rounds_next : (k : ℕ) (u v w : WorldValue) (x y z : List WorldEvent) → HadRounds k u x v y → HadRound v y w z → HadRounds (k + 1) u x w z
unfolding HadRounds HadRound
rounds_next k u v w x y z early last =
    subst (λ n. (late : List WorldEvent) × (z ≡ x ++ late) × AreRounds n u late w) (let e : suc k ≡ k + 1 = omega arith in e) (
      early.0 ++ last.0,
      last.1 ∙ ap (λ e. e ++ last.0) early.1 ∙ append_assoc x early.0 last.0,
      (early.0, last.0, v, refl, early.2, last.2),
    )

-- which were played
pub rounds_played : (k : ℕ) (u v w : WorldValue) (x y z : List WorldEvent) → Played (for_all k) u x v y × HadRounds k u x v y
    → Played (for_all 1) v y w z → HadRound v y w z → Played (for_all (k + 1)) u x w z × HadRounds (k + 1) u x w z
rounds_played k u v w x y z early p last =
    (played_more (for_all k) (for_all 1) (for_all (k + 1)) u v w x y z (λ r. omega arith) early.0 p, rounds_next k u v w x y z early.1 last)

-- of a list that was empty they are the whole
pub rounds_whole : (quiet : Bool) (n : ℕ) (u w : WorldValue) (x z : List WorldEvent) → x ≡ []
    → MatchBool quiet (IsStill w) (HadRounds n u x w z) → MatchBool quiet (IsStill w) (AreRounds n u z w)
unfolding HadRounds
rounds_whole true n u w x z e still = still
rounds_whole false n u w x z e h = subst (λ k. AreRounds n u k w) (sym (h.1 ∙ ap (λ k. k ++ h.0) e)) h.2
