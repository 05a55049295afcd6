-- No domino effect: a crash takes back the rank that crashed, to its last checkpoint at worst, and
-- no other rank; and no event takes an act out of the run.
-- Source: domino effect, Elnozahy, Alvisi, Wang and Johnson 2002, section 2; pessimistic logging,
-- under which only the failed process rolls back, there section 3.
use Rattle.std.specs.Prelude.{◌≡◌, ℕ, ◌≤◌, List, [], ◌∷◌, Option, Some, None, slice_get}
use Rattle.checkpoint.specs.Image.{ImageValue}
use Rattle.crash_free.specs.Parts.{IsPartOf}
use Rattle.bare_world.specs.declared.event.WorldEvent.{WorldEvent}
use Rattle.bare_world.specs.declared.event.WorldEvent.TheVariants.{Step, Put, Arrive, Store, Ack, Image, Crash, Restart, Release}
use Rattle.bare_world.specs.World.{Live, WorldValue, IsLive}
use Rattle.bare_world.specs.Finished.{IsAfter}

-- the event is a crash of this rank
abbrev pub IsCrashOf : ℕ → WorldEvent → Type 0
IsCrashOf q (Step r) = ⊥
IsCrashOf q (Put s d) = ⊥
IsCrashOf q (Arrive s d i) = ⊥
IsCrashOf q (Store r) = ⊥
IsCrashOf q (Ack r) = ⊥
IsCrashOf q (Image r) = ⊥
IsCrashOf q (Crash r) = r ≡ q
IsCrashOf q (Restart r) = ⊥
IsCrashOf q (Release r) = ⊥

-- none of the events is a crash of this rank
abbrev pub HasNoCrashOf : ℕ → List WorldEvent → Type 0
HasNoCrashOf q [] = Unit {0}
HasNoCrashOf q (event ∷ events) = (IsCrashOf q event → ⊥) × HasNoCrashOf q events

-- The rank isn't taken back from one world to the other: if it is live, it is live still, and has
-- made at least as many acts.
abbrev pub IsNotTakenBack : ℕ → WorldValue → WorldValue → Type 0
IsNotTakenBack q w w' = (v : Live) → IsLive w q v → (later : Live) × IsLive w' q later × (v.rank.clock ≤ later.rank.clock)

-- the clock of an image, 0 if none was taken
abbrev pub image_clock : Option ImageValue → ℕ
image_clock None = 0
image_clock (Some i) = i.clock

-- each live rank has made at least the acts up to its last image
abbrev pub AreAboveImages : WorldValue → Type 0
AreAboveImages w =
    (q : ℕ) (v : Live) (o : Option ImageValue) → IsLive w q v → slice_get w.images q ≡ Some o → image_clock o ≤ v.rank.clock

-- What events take back: each rank that they don't crash goes on from where it was; a rank that
-- they restart goes on from its last image or further; and each act of the run stays in the run.
pub record NoDomino (w : WorldValue) (events : List WorldEvent) (w' : WorldValue) : Type 0 where
  pub ranks : (q : ℕ) → HasNoCrashOf q events → IsNotTakenBack q w w'
  pub images : AreAboveImages w → AreAboveImages w'
  pub after : IsAfter w w'
  pub acts : IsPartOf w.run w'.run
