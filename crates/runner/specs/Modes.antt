-- The mode of sends by which a search is made (MPI 1.1, section 3.4: communication modes).
use Rattle.std.specs.Prelude.{Bool, true, false}
use Rattle.explore.specs.declared.send_mode.SendMode.{SendMode}
use Rattle.explore.specs.declared.send_mode.SendMode.TheVariants.{Buffered, Synchronous}

-- sends are buffered, unless they are to be synchronous
abbrev pub mode_of : Bool → SendMode
mode_of false = Buffered
mode_of true = Synchronous
