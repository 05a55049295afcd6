-- The parts of an event (docs/FORMATS.md, "Events of a world").
use Rattle.std.specs.Prelude.{ℕ, List, codes}
use Rattle.bare_world.specs.declared.event.WorldEvent.{WorldEvent}
use Rattle.bare_world.specs.declared.event.WorldEvent.TheVariants.{Step, Put, Arrive, Store, Ack, Image, Crash, Restart, Release}

-- the word with which an event is told
abbrev pub word_of : WorldEvent → List ℕ
word_of (Step rank) = codes "step"
word_of (Put source dest) = codes "put"
word_of (Arrive source dest index) = codes "arrive"
word_of (Store rank) = codes "store"
word_of (Ack rank) = codes "ack"
word_of (Image rank) = codes "image"
word_of (Crash rank) = codes "crash"
word_of (Restart rank) = codes "restart"
word_of (Release rank) = codes "release"
