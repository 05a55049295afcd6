use Rattle.crash_free.proofs.sim.Sim.has_mail.Given as goal

-- the part that is compared
abbrev pub ghosts-is_mail : goal.ghosts-is_mail
ghosts-is_mail a = record { kept = a.part.now }
