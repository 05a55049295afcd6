-- What the calls on a world's parts come to, as events: what holds of the rank that an event names.
use Rattle.std.proofs.Common.{◌≡◌, ◌≢◌, ℕ, ◌<◌, ◌≤◌, List, [], Option, Some, None, length, refl, sym, ap, subst, ◌∙◌, arith, slice_get}
use Rattle.std.proofs.Common.{IsSomeAnd, Result, Ok, Err, OnErr, Bool, true, false}
use Rattle.std.specs.Bool.{OnTrue, OnFalse}
use Rattle.std.proofs.lemmas.Option.{slice_get_within}
use Rattle.checkpoint.specs.Image.{ImageValue}
use Rattle.event_logger.specs.Sequential.History.{StateValue}
use Rattle.rank_language.specs.Program.{ProgramValue}
use Rattle.matching.specs.declared.line.Line.{Line}
use Rattle.crash_free.specs.Runs.{Passed}
use Rattle.bare_world.specs.World.{Rank, Live, WorldValue, size, IsLive, IsDown}
use Rattle.bare_world.specs.Wires.{AllWires}
use Rattle.bare_world.specs.Seats.{at_work, AtRank, IsNotAtWork, IsNotInReplay}

-- no rank is live beyond the last
pub none_live : (w : WorldValue) (r : ℕ) (v : Live) → size w ≤ r → IsLive w r v → ⊥
none_live w r v past live = let l = slice_get_within w.ranks r (Some v) live in omega (arith, l)

-- the rank at work at a place is this one
pub same_live : (w : WorldValue) (r : ℕ) (x : Rank) (v : Live) → slice_get w.ranks r ≡ Some (at_work x) → IsLive w r v → v ≡ record { rank = x; left = [] }
same_live w r x v at live = let both : Some (Some v) ≡ Some (at_work x) = sym live ∙ at in cc

-- what holds at a rank holds of its value
pub at_value : (ranks : List (Option Live)) (r : ℕ) (x : Rank) (P : Live → Type 0) → slice_get ranks r ≡ Some (at_work x) → AtRank ranks r P
    → P (record { rank = x; left = [] })
at_value ranks r x P at h = subst (λ z. IsSomeAnd z (λ y. IsSomeAnd y P)) at h

-- what holds of a rank at work holds at its place
pub value_at : (ranks : List (Option Live)) (r : ℕ) (x : Rank) (P : Live → Type 0) → slice_get ranks r ≡ Some (at_work x)
    → P (record { rank = x; left = [] }) → AtRank ranks r P
value_at ranks r x P at h = subst (λ z. IsSomeAnd z (λ y. IsSomeAnd y P)) (sym at) h

-- a rank at work has nothing left
pub works_at : (ranks : List (Option Live)) (r : ℕ) (x : Rank) → slice_get ranks r ≡ Some (at_work x) → AtRank ranks r (λ v. v.left ≡ [])
works_at ranks r x at = value_at ranks r x (λ v. v.left ≡ []) at refl

-- what holds at a rank holds of some live value
pub live_at : (ranks : List (Option Live)) (r : ℕ) (P : Live → Type 0) → AtRank ranks r P → (v : Live) × (slice_get ranks r ≡ Some (Some v)) × P v
live_at ranks r P h = go (slice_get ranks r) refl h
  where
    go : (o : Option (Option Live)) → slice_get ranks r ≡ o → IsSomeAnd o (λ y. IsSomeAnd y P) → (v : Live) × (slice_get ranks r ≡ Some (Some v)) × P v
    go None e h = absurd h
    go (Some None) e h = absurd h
    go (Some (Some v)) e h = (v, e, h)

-- the rank that an event names is the one at its place
pub one_live : (w : WorldValue) (r : ℕ) (u v : Live) → IsLive w r u → IsLive w r v → v ≡ u
one_live w r u v a b = let both : Some (Some v) ≡ Some (Some u) = sym b ∙ a in cc

-- a rank that is live isn't down
pub not_down : (w : WorldValue) (r : ℕ) (v : Live) → IsDown w r → IsLive w r v → ⊥
not_down w r v down live = let both : Some (Some v) ≡ Some None = sym live ∙ down in cc

-- a live rank that isn't at work replays
pub live_in_replay : (w : WorldValue) (r : ℕ) (v : Live) → IsSomeAnd (slice_get w.ranks r) IsNotAtWork → IsLive w r v → v.left ≢ []
live_in_replay w r v h live = subst (λ z. IsSomeAnd z IsNotAtWork) live h

-- a rank that neither works nor replays is down
pub is_then_down : (w : WorldValue) (r : ℕ) → IsSomeAnd (slice_get w.ranks r) IsNotAtWork → IsSomeAnd (slice_get w.ranks r) IsNotInReplay → IsDown w r
is_then_down w r h g = go (slice_get w.ranks r) h g
  where
    go : (o : Option (Option Live)) → IsSomeAnd o IsNotAtWork → IsSomeAnd o IsNotInReplay → o ≡ Some None
    go None h g = absurd h
    go (Some None) h g = refl
    go (Some (Some v)) h g = absurd (h g)

-- a world is all its parts
pub same_world : (a b : WorldValue) → a.program ≡ b.program → a.ranks ≡ b.ranks → a.images ≡ b.images → a.logger ≡ b.logger → a.wires ≡ b.wires
    → a.lines ≡ b.lines → a.run ≡ b.run → a ≡ b
same_world a b p r i l wi li c =
    ap (λ z. made z a.ranks a.images a.logger a.wires a.lines a.run) p ∙ ap (λ z. made b.program z a.images a.logger a.wires a.lines a.run) r
    ∙ ap (λ z. made b.program b.ranks z a.logger a.wires a.lines a.run) i ∙ ap (λ z. made b.program b.ranks b.images z a.wires a.lines a.run) l
    ∙ ap (λ z. made b.program b.ranks b.images b.logger z a.lines a.run) wi ∙ ap (λ z. made b.program b.ranks b.images b.logger b.wires z a.run) li
    ∙ ap (λ z. made b.program b.ranks b.images b.logger b.wires b.lines z) c
  where
    made : ProgramValue → List (Option Live) → List (Option ImageValue) → StateValue → AllWires → List Line → List Passed → WorldValue
    made p r i l wi li c = record { program = p; ranks = r; images = i; logger = l; wires = wi; lines = li; run = c }

-- a rank of which something holds is there
pub at_below : (ranks : List (Option Live)) (r : ℕ) (P : Live → Type 0) → AtRank ranks r P → r < length ranks
at_below ranks r P h = let x = live_at ranks r P h in slice_get_within ranks r (Some x.0) x.1

-- a clause about an error, which holds of each result
pub on_err : {A E : Type 0} (r : Result A E) (P : Type 0) → P → OnErr r P
on_err (Ok x) P p = tt
on_err (Err e) P p = p

-- from a clause about `true` another follows
pub on_true : {P Q : Type 0} (b : Bool) → (P → Q) → OnTrue b P → OnTrue b Q
on_true true f h = f h
on_true false f h = tt

-- and from one about `false`
pub on_false : {P Q : Type 0} (b : Bool) → (P → Q) → OnFalse b P → OnFalse b Q
on_false true f h = tt
on_false false f h = f h
