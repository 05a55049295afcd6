use Rattle.std.proofs.Common.{arith}
use Rattle.rank_language.specs.Compact.{HasCompacts}
use Rattle.rank_language.proofs.Compacting.{compact_bound, compact_there, compact_within}
use Rattle.rank_language.proofs.Statements.{line_leads, line_reaches, line_placed}
use Rattle.rank_language.proofs.program.Program.compact.Goals as goal

pub index-requires : goal.index-requires
index-requires c =
    let h : HasCompacts c.self.inside.compacts.items c.args.self.now = rw (← c.self.view_is) c.self.invariant in
    let within = compact_within _ _ c.args.position h c.requires in
    let ok = c.self.inside.compacts.ok.0 in
    omega (arith, within, ok)

-- the program stands, with its compact forms
stands : (c : goal.After-index) → HasCompacts c.self.inside.compacts.items c.args.self.now
stands c = rw (← c.self.view_is) c.self.invariant

pub returns-clause-line : goal.returns-clause-line
returns-clause-line c =
    compact_there c.self.inside.compacts.items c.args.self.now.statements c.args.position c.index.result.now
    (compact_within _ _ c.args.position (stands c) c.requires) c.index.ensures (stands c).each

pub returns-clause-there : goal.returns-clause-there
returns-clause-there c = λ l. λ q. line_leads c.args.self.now c.args.position l (stands c).stands q

pub returns-clause-within : goal.returns-clause-within
returns-clause-within c = λ l. λ q. line_reaches c.args.self.now c.args.position l (stands c).stands q

pub returns-clause-placed : goal.returns-clause-placed
returns-clause-placed c = λ l. λ q. line_placed c.args.self.now c.args.position l (stands c).stands q

pub returns-clause-bound : goal.returns-clause-bound
returns-clause-bound c = compact_bound c.args.self.now c.args.position (stands c).stands c.requires
