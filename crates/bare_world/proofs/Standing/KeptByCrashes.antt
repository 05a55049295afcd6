-- A crash keeps what a world stands for and what senders keep.
use Rattle.std.proofs.Common.{◌≡◌, ℕ, None, refl, sym, subst}
use Rattle.std.proofs.lemmas.List.{length-set}
use Rattle.bare_world.specs.World.{WorldValue, size}
use Rattle.bare_world.specs.declared.reply.Reply.{Reply}
use Rattle.bare_world.specs.Stands.{StandsAt}
use Rattle.bare_world.specs.Follows.{CrashFollows}
use Rattle.bare_world.proofs.Covers.KeptByEvents.{Covers-rank}
use Rattle.bare_world.proofs.Standing.Worlds.{Goes, changed, Stands-rank}

-- the number of ranks stays
pub resized : (w w' : WorldValue) → size w' ≡ size w → StandsAt (size w) w' → StandsAt (size w') w'
resized w w' f s = subst (λ k. StandsAt k w') (sym f) s

-- a crash
pub Stands-crash : (w : WorldValue) (r : ℕ) (answer : Reply) (w' : WorldValue) → Goes w → CrashFollows w r answer w' → Goes w'
Stands-crash w r answer w' s f =
    subst (λ z. Goes z) (sym f.after)
    (record {
      run =
          resized w (changed w r None w.images w.logger w.lines w.run) (length-set w.ranks r None)
          (Stands-rank (size w) w r None w.logger s.run refl (λ v e. absurd cc));
      covers = Covers-rank w (changed w r None w.images w.logger w.lines w.run) r None refl refl refl (λ v e. absurd cc) s.covers;
    })
