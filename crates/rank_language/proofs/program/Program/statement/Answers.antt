use Rattle.std.proofs.Common.{◌≡◌, slice_get}
use Rattle.rank_language.specs.Correct.{IsProgram}
use Rattle.rank_language.specs.Seen.{line_in}
use Rattle.rank_language.proofs.Statements.{line_found, found_leads, found_reaches, found_placed, found_past}
use Rattle.rank_language.proofs.program.Program.statement.Goals as goal

-- the program stands
stands : (c : goal.After-get) → IsProgram c.args.self.now
stands c = rw (← c.self.view_is) c.self.invariant.stands

-- what was found is the program's line there
line : (c : goal.After-get) → line_in c.get.result ≡ slice_get c.args.self.now.statements c.args.position
line c =
    let h = c.get.ensures.lookup in
    rw (← c.self.view_is, ← c.deref.ensures.value) (line_found c.deref.result.now c.args.position c.get.result _ h.1 h.3)

pub returns-clause-line : goal.returns-clause-line
returns-clause-line c = line c

pub returns-clause-there : goal.returns-clause-there
returns-clause-there c = found_leads _ _ _ (stands c) (line c)

pub returns-clause-within : goal.returns-clause-within
returns-clause-within c = found_reaches _ _ _ (stands c) (line c)

pub returns-clause-placed : goal.returns-clause-placed
returns-clause-placed c = found_placed _ _ _ (stands c) (line c)

pub returns-clause-past : goal.returns-clause-past
returns-clause-past c = found_past _ _ _ (stands c) (line c)
