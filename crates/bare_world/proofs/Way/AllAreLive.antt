-- Ranks that are down start again, and then all are live.
use Rattle.std.proofs.Common.{◌≡◌, ℕ, ◌+◌, ◌<◌, ◌≤◌, ◌⊎◌, inl, inr, ⊎_elim, Option, Some, None, length, refl, sym, ap, subst, ◌∙◌, arith, slice_get}
use Rattle.std.proofs.Common.{slice_set}
use Rattle.std.proofs.lemmas.Bool.{cases_lt, cases_eq}
use Rattle.std.proofs.lemmas.List.{length-set}
use Rattle.std.proofs.lemmas.Option.{slice_get-get_or}
use Rattle.rank_node.specs.Replay.{restarted, left_of}
use Rattle.bare_world.specs.declared.event.WorldEvent.TheVariants.{Restart}
use Rattle.bare_world.specs.declared.reply.Reply.{Reply}
use Rattle.bare_world.specs.World.{Live, WorldValue, size, IsLive, IsDown}
use Rattle.bare_world.specs.Headline.{stable_of}
use Rattle.bare_world.specs.Follows.{CanNot, RestartFollows}
use Rattle.bare_world.specs.Driven.{AllLive, LiveTo}
use Rattle.bare_world.proofs.Lists.Places.{set_get_same, set_get_other}

-- before the first
pub live_first : (w : WorldValue) → LiveTo 0 w
live_first w r l m = absurd (omega (arith, l))

-- a rank is live where it can't start again
pub live_or_down : (w : WorldValue) (r : ℕ) → r < size w → (IsDown w r → ⊥) → (v : Live) × IsLive w r v
live_or_down w r l never = go (slice_get w.ranks r) refl
  where
    go : (o : Option (Option Live)) → slice_get w.ranks r ≡ o → (v : Live) × IsLive w r v
    go None e = absurd (let q : None ≡ Some (_) = sym e ∙ slice_get-get_or w.ranks r None l in cc)
    go (Some None) e = absurd (never e)
    go (Some (Some v)) e = (v, e)

-- a rank that can't be restarted is live already, so one more rank is
pub live_refused : (w : WorldValue) (k : ℕ) → CanNot w (Restart k) → LiveTo k w → LiveTo (k + 1) w
live_refused w k never all r l m = go (cases_eq r k)
  where
    go : (r ≡ k) ⊎ (r ≡ k → ⊥) → (v : Live) × IsLive w r v
    go (inl e) = live_or_down w r m (λ down. never (subst (λ z. IsDown w z) e down))
    go (inr ne) = all r (⊎_elim (λ z. z) (λ z. absurd (ne (omega (arith, l, z)))) (cases_lt r k)) m

-- or it has
pub live_restarted : (w : WorldValue) (k : ℕ) (answer : Reply) (w' : WorldValue) → RestartFollows w k answer w' → LiveTo k w → LiveTo (k + 1) w'
live_restarted w k answer w' f all r l m = go (cases_eq r k)
  where
    new : Live
    new = record { rank = restarted (stable_of (size w) k f.shelf) f.image (length f.events); left = left_of f.image f.events }

    ranks : w'.ranks ≡ slice_set w.ranks k (Some new)
    ranks = ap (λ z. z.ranks) f.after

    go : (r ≡ k) ⊎ (r ≡ k → ⊥) → (v : Live) × IsLive w' r v
    go (inl e) = (new, ap (λ z. slice_get z r) ranks ∙ ap (λ z. slice_get (slice_set w.ranks k (Some new)) z) e ∙ set_get_same w.ranks k None (Some new) f.down)
    go (inr ne) =
        let e1 = ap length ranks in
        let e2 = length-set w.ranks k (Some new) in
        let z = all r (⊎_elim (λ z. z) (λ z. absurd (ne (omega (arith, l, z)))) (cases_lt r k)) (omega (arith, m, e1, e2)) in
        (z.0, ap (λ y. slice_get y r) ranks ∙ set_get_other w.ranks k r (Some new) ne ∙ z.1)

-- after the last
pub live_all : (w : WorldValue) (n : ℕ) → size w ≤ n → LiveTo n w → AllLive w
live_all w n l all r m = all r (omega (arith, l, m)) m
