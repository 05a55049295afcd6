-- Ranks that are at rest, and those whose next act is refused.
use Rattle.std.proofs.Common.{◌≡◌, ℕ, ◌+◌, ◌<◌, ◌≤◌, ◌⊎◌, List, inl, inr, true, [], length, Some, None, refl, sym, ap, subst, ◌∙◌, arith, slice_get}
use Rattle.std.proofs.lemmas.Bool.{cases_eq}
use Rattle.std.specs.Prelude.{IsSomeAnd}
use Rattle.rank_node.specs.declared.fault.NodeFault.{NodeFault}
use Rattle.rank_node.specs.Waiting.{is_settled}
use Rattle.rank_node.specs.Steps.{turn_of, refusal_of}
use Rattle.rank_node.proofs.Again.{settled_nil}
use Rattle.matching.specs.Inbox.{accepted_from}
use Rattle.crash_free.specs.Runs.{Passed, history, sent}
use Rattle.bare_world.specs.World.{Rank, Live, WorldValue, size}
use Rattle.bare_world.specs.Seats.{at_work, IsNotAtWork}
use Rattle.bare_world.specs.Finished.{is_idle, IsQuietAs, HearsAll, RestsAt, IsFirstRestless, IsSpent}
use Rattle.bare_world.proofs.Calls.RankOfEvent.{same_live}

-- a rank at work where nothing waits, which has made its acts and is idle, is quiet
pub quiet_is : (C : List Passed) (r : ℕ) (v : Rank) → is_settled v.pending ≡ true → v.clock ≡ length (history C r) → is_idle (turn_of v) ≡ true
    → IsQuietAs C r v
quiet_is C r v settled made idle = record { none = settled_nil v.pending settled; made = made; idle = idle }

-- ---- ranks at rest

-- a rank at work that is quiet and has accepted all that was sent to it is at rest
pub rests_is : (w : WorldValue) (r : ℕ) (v : Rank) → slice_get w.ranks r ≡ Some (at_work v) → IsQuietAs w.run r v → HearsAll w r v.inbox → RestsAt w r
rests_is w r v live quiet hears = (
  record {
    rank = record { rank = v; left = [] };
    live = live;
    left = refl;
    none = quiet.none;
    made = quiet.made;
    idle = quiet.idle;
  },
  λ s l u there.
      subst (λ (z : Live). length (sent w.run s r) ≤ accepted_from z.rank.inbox s) (sym (same_live w r v u live there))
      (hears s l),
)

-- a rank at work that rests has the value that it has
rests_as : (w : WorldValue) (r : ℕ) (v : Rank) → slice_get w.ranks r ≡ Some (at_work v) → (rests : RestsAt w r)
    → rests.0.rank ≡ record { rank = v; left = [] }
rests_as w r v live rests = same_live w r v rests.0.rank live rests.0.live

-- so one that isn't quiet isn't at rest
pub busy_restless : (w : WorldValue) (r : ℕ) (v : Rank) → slice_get w.ranks r ≡ Some (at_work v) → (IsQuietAs w.run r v → ⊥) → RestsAt w r → ⊥
busy_restless w r v live busy rests =
    busy
    (subst (λ (z : Live). IsQuietAs w.run r z.rank) (rests_as w r v live rests)
    (record { none = rests.0.none; made = rests.0.made; idle = rests.0.idle }))

-- nor is one that hasn't accepted all
pub deaf_restless : (w : WorldValue) (r : ℕ) (v : Rank) → slice_get w.ranks r ≡ Some (at_work v) → (HearsAll w r v.inbox → ⊥) → RestsAt w r → ⊥
deaf_restless w r v live deaf rests = deaf (λ s l. rests.1 s l (record { rank = v; left = [] }) live)

-- nor one that is down, or replays
pub idle_restless : (w : WorldValue) (r : ℕ) → IsSomeAnd (slice_get w.ranks r) IsNotAtWork → RestsAt w r → ⊥
idle_restless w r not rests = subst (λ o. IsSomeAnd o IsNotAtWork) rests.0.live not rests.0.left

-- so of one rank more it is known, in a world that is the other
pub rest_next : (k : ℕ) (b w : WorldValue) → b ≡ w → ((r : ℕ) → r < k → RestsAt w r) → RestsAt b k → (r : ℕ) → r < k + 1 → RestsAt w r
rest_next k b w same all one r l = go (cases_eq r k)
  where
    go : (r ≡ k) ⊎ (r ≡ k → ⊥) → RestsAt w r
    go (inl e) = subst (λ q. RestsAt w q) (sym e) (subst (λ z. RestsAt z k) same one)
    go (inr ne) = all r (omega (arith, l, ne))

-- and a rank that isn't at rest is the first, if those below are
pub first_is : (k : ℕ) (b w : WorldValue) → b ≡ w → k < size w → ((r : ℕ) → r < k → RestsAt w r) → (RestsAt b k → ⊥) → IsFirstRestless w k
first_is k b w same low all restless =
    record { is_rank = low; restless = subst (λ z. RestsAt z k → ⊥) same restless; first = all }

-- ---- ranks that are spent

-- a rank at work whose step is refused is spent
pub spent_is : (w : WorldValue) (r : ℕ) (v : Rank) (fault : NodeFault) → slice_get w.ranks r ≡ Some (at_work v) → refusal_of v ≡ Some fault
    → IsSpent w r fault
spent_is w r v fault live refused =
    record { rank = record { rank = v; left = [] }; live = live; left = refl; refused = refused }

-- one that is down, or replays, isn't spent
pub at_rest_unspent : (w : WorldValue) (r : ℕ) (fault : NodeFault) → IsSomeAnd (slice_get w.ranks r) IsNotAtWork → IsSpent w r fault → ⊥
at_rest_unspent w r fault not s = subst (λ o. IsSomeAnd o IsNotAtWork) s.live not s.left

-- nor is one at work whose step isn't refused
pub allowed_unspent : (w : WorldValue) (r : ℕ) (v : Rank) (fault : NodeFault) → slice_get w.ranks r ≡ Some (at_work v) → refusal_of v ≡ None
    → IsSpent w r fault → ⊥
allowed_unspent w r v fault live allowed s =
    (let u : s.rank ≡ record { rank = v; left = [] } = same_live w r v s.rank live s.live in
    let q : None ≡ Some fault = sym allowed ∙ sym (ap (λ (z : Live). refusal_of z.rank) u) ∙ s.refused in
    cc)

-- so if it isn't in a world that is the other, of one rank more it is known
pub unspent_next : (k : ℕ) (b w : WorldValue) → b ≡ w → ((r : ℕ) → r < k → (fault : NodeFault) → IsSpent w r fault → ⊥)
    → ((fault : NodeFault) → IsSpent b k fault → ⊥) → (r : ℕ) → r < k + 1 → (fault : NodeFault) → IsSpent w r fault → ⊥
unspent_next k b w same all one r l fault s = go (cases_eq r k)
  where
    go : (r ≡ k) ⊎ (r ≡ k → ⊥) → ⊥
    go (inl e) = one fault (subst (λ z. IsSpent z k fault) (sym same) (subst (λ z. IsSpent w z fault) e s))
    go (inr ne) = all r (omega (arith, l, ne)) fault s
