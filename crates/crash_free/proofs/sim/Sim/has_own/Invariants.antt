use Rattle.crash_free.proofs.sim.Sim.has_own.Given as goal

-- the part that is compared
abbrev pub ghosts-is_own : goal.ghosts-is_own
ghosts-is_own a = record { kept = a.part.now }
