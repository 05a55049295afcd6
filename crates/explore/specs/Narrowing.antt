-- Which of the moves that are open a search goes on with: all, or those of one rank, if its acts are
-- persistent (Flanagan and Godefroid 2005; Vakkalanka, Gopalakrishnan and Kirby 2008).
use Rattle.std.specs.Prelude.{◌≡◌, ◌⊎◌, ℕ, ◌==◌, Bool, true, List, length}
use Rattle.std.specs.List.{filter, list_any}
use Rattle.crash_free.specs.Sim.{SimValue, start_of}
use Rattle.explore.specs.declared.moves.Move.{Move}
use Rattle.explore.specs.Persistent.{IsPersistent}
use Rattle.explore.specs.declared.send_mode.SendMode.{SendMode}

-- the move is one of rank r
abbrev pub is_of : ℕ → Move → Bool
is_of r m = m.rank == r

-- the acts of rank r are persistent after the run of a simulation
abbrev pub ArePersistent : SendMode → SimValue → ℕ → Type 0
ArePersistent mode s r = IsPersistent mode (start_of s.program (length s.machines)) (length s.machines) s.run r

-- the acts of rank r are persistent, and one of the moves is of it
abbrev pub IsEnough : SendMode → SimValue → List Move → ℕ → Type 0
IsEnough mode s moves r = ArePersistent mode s r × (list_any (is_of r) moves ≡ true)

-- the moves that are kept are those of one rank, in their order, which are enough
abbrev pub AreOfOne : SendMode → SimValue → List Move → List Move → Type 0
AreOfOne mode s moves kept = (r : ℕ) × IsEnough mode s moves r × (kept ≡ filter (is_of r) moves)

-- the moves that are kept are all, or are those of one rank, which are enough
abbrev pub AreKept : SendMode → SimValue → List Move → List Move → Type 0
AreKept mode s moves kept = (kept ≡ moves) ⊎ AreOfOne mode s moves kept
