use Rattle.std.proofs.Common.{◌≡◌, ◌++◌, drop}
use Rattle.rank_text.specs.Checker.SeenLines.{forms_seen}
use Rattle.c_program.specs.Translation.{c_members}
use Rattle.c_program.proofs.program.members_of.Given as goal

-- the members so far and those of the rest are all
abbrev pub invariant-loop-form : goal.invariant-loop-form
invariant-loop-form l = l.members.items ++ c_members (forms_seen (drop l.form-index l.forms)) ≡ c_members (forms_seen l.forms)
