-- A receive and the two probes have this in common: each looks for what its selector names, and makes one kind of act of it.
use Rattle.std.proofs.Common.{◌≡◌, ℕ, ℤ, List, Some, refl}
use Rattle.matching.specs.declared.selector.Selector.{Selector}
use Rattle.rank_machine.specs.declared.want.Want.{Want}
use Rattle.rank_machine.specs.declared.want.Want.TheVariants as want
use Rattle.rank_machine.specs.Acts.{Act, Message, takes, hits, Matches, Fits}
use Rattle.crash_free.specs.declared.choice.Choice.TheVariants as choice
use Rattle.crash_free.specs.Runs.{History, at_place, looked_up, IsEligible, IsFree}
use Rattle.crash_free.specs.Sim.{makes, meaning}

-- A want that looks for what its selector names, and the kind of act that it makes of a message of a source, at a place.
pub record Seeks (v : Want) (w : Selector) (act : ℕ → ℕ → Act) : Type 0 where
  pub no_step : want.Internal ≡ v → ⊥
  pub means : (items : List ℤ) (s j : ℕ) → meaning v items (choice.Take s j) ≡ makes (act s j)
  pub free : (inbound : ℕ → List Message) (h : History) (s j : ℕ) → IsEligible inbound h s j w → IsFree v (act s j) inbound h
  pub eligible : (inbound : ℕ → List Message) (h : History) (s j : ℕ) → IsFree v (act s j) inbound h → IsEligible inbound h s j w
  pub fits : (items : List ℤ) (s j : ℕ) (m : Message) → Matches w s m → Fits v items (act s j) (Some m)
  pub finds : (inbound : ℕ → List Message) (s j : ℕ) → looked_up inbound (act s j) ≡ at_place (inbound s) j

-- a receive takes it
pub receiving : (w : Selector) → Seeks (want.Receive w) w takes
receiving w = record {
  no_step = λ e. cc;
  means = λ items s j. refl;
  free = λ inbound h s j e. e;
  eligible = λ inbound h s j f. f;
  fits = λ items s j m h. h;
  finds = λ inbound s j. refl;
}

-- a probe that waits hits it
pub probing : (w : Selector) → Seeks (want.Probe w) w hits
probing w = record {
  no_step = λ e. cc;
  means = λ items s j. refl;
  free = λ inbound h s j e. e;
  eligible = λ inbound h s j f. f;
  fits = λ items s j m h. h;
  finds = λ inbound s j. refl;
}

-- and so does one that doesn't
pub trying : (w : Selector) → Seeks (want.TryProbe w) w hits
trying w = record {
  no_step = λ e. cc;
  means = λ items s j. refl;
  free = λ inbound h s j e. e;
  eligible = λ inbound h s j f. f;
  fits = λ items s j m h. h;
  finds = λ inbound s j. refl;
}
