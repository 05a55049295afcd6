use Rattle.std.proofs.Common.{◌++◌, ◌∷◌, [], List, length, refl, sym, subst, ◌∙◌, arith}
use Rattle.explore.specs.declared.branch.Branch.{Branch}
use Rattle.explore.specs.Searching.{IsOn}
use Rattle.explore.specs.Small.{EnoughForAll}
use Rattle.explore.specs.Stems.{stems_of}
use Rattle.explore.specs.Tables.{AreTablesOf}
use Rattle.explore.proofs.Among.{popped_some}
use Rattle.explore.proofs.Going.{beyond_on, fewer_back, on_back, on_own}
use Rattle.explore.proofs.LastKnown.{knows_by, knows_of}
use Rattle.explore.proofs.ongoing.Search.look_on.Goals as goal

pub loop-branch-init : goal.loop-branch-init
loop-branch-init c = record { on = c.requires.on; enough = λ k e. (k, e, omega arith); closes = refl; knows = c.requires.knows; back = λ steps can. can; beyond = λ steps can before now. before now }

pub look-requires-clause-few : goal.look-requires-clause-few
look-requires-clause-few c = (let on = c.loop-branch.invariant.on in omega (arith, c.requires.few, on.ranks))

pub look-requires-clause-tables : goal.look-requires-clause-tables
look-requires-clause-tables c =
    subst (λ p. AreTablesOf p c.args.tables.now) (sym c.loop-branch.invariant.on.program_same) c.requires.tables

pub look-requires-clause-back : goal.look-requires-clause-back
look-requires-clause-back c = (c.requires.back.0, c.loop-branch.invariant.back c.requires.back.0 c.requires.back.1)

pub look-requires-clause-on : goal.look-requires-clause-on
look-requires-clause-on c =
    let on = c.loop-branch.invariant.on in
    let last = popped_some c.loop-branch.self.pending.items c.pop.new.self.items c.pop.result c.in-Some.branch c.pop.ensures.items c.in-Some.is in
    on_own c.args.mode c.args.self.now.path.sim.program (length c.args.self.now.path.sim.machines) c.loop-branch.self.path.sim
    (c.pop.new.self.items ++ c.in-Some.branch ∷ []) c.loop-branch.self.found c.loop-branch.self.met c.loop-branch.self.out_of_steps
    (subst (λ (z : List Branch). IsOn c.args.mode c.args.self.now.path.sim.program (length c.args.self.now.path.sim.machines) c.loop-branch.self.path.sim z
    c.loop-branch.self.found c.loop-branch.self.met c.loop-branch.self.out_of_steps) last on)

pub loop-branch-preserved : goal.loop-branch-preserved
loop-branch-preserved c =
    let s = c.loop-branch.self.path.sim in
    let on = c.loop-branch.invariant.on in
    let last = popped_some c.loop-branch.self.pending.items c.pop.new.self.items c.pop.result c.in-Some.branch c.pop.ensures.items c.in-Some.is in
    record {
      on =
          on_back c.args.mode c.args.self.now.path.sim.program (length c.args.self.now.path.sim.machines) s c.look.new.self.path.sim c.look.new.self.pending.items
          c.look.new.self.found c.look.new.self.met c.look.new.self.out_of_steps on.program_same on.ranks c.in_ok-look.ensures.on;
      enough =
          λ k e.
          (let x = c.loop-branch.invariant.enough k e in
          let before = x.2 in
          let fewer =
          fewer_back c.args.mode c.args.self.now.path.sim.program (length c.args.self.now.path.sim.machines) s s.run c.look.new.self.path.sim.run
          (c.pop.new.self.items ++ c.in-Some.branch ∷ []) c.look.new.self.pending.items on.program_same on.ranks c.in_ok-look.ensures.enough x.0
          (subst (λ (z : List Branch). EnoughForAll c.args.mode c.args.self.now.path.sim.program (length c.args.self.now.path.sim.machines) x.0 (stems_of s.run z))
          last x.1) in
          let less = fewer.2 in
          (fewer.0, fewer.1, omega (arith, before, less)));
      closes = c.in_ok-look.ensures.closes ∙ c.loop-branch.invariant.closes;
      knows =
          knows_by c.args.tables.now.live c.args.self.now.path.sim s c.look.new.self.path.sim.run c.look.new.self.met.parts c.look.new.self.last
          (record { program = on.program_same; ranks = on.ranks }) c.in_ok-look.ensures.knows;
      back = λ steps can. c.in_ok-look.ensures.back steps (c.loop-branch.invariant.back steps can);
      beyond =
          λ steps can start.
          beyond_on c.args.mode c.args.self.now.path.sim.program (length c.args.self.now.path.sim.machines) s steps c.loop-branch.self.out_of_steps
          c.look.new.self.out_of_steps on.program_same on.ranks (c.loop-branch.invariant.beyond steps can start)
          (c.in_ok-look.ensures.beyond steps (c.loop-branch.invariant.back steps can));
    }

pub returns-then-branch-clause-back : goal.returns-then-branch-clause-back
returns-then-branch-clause-back c = λ steps can. c.in_ok-look.ensures.back steps (c.loop-branch.invariant.back steps can)

pub returns-then-branch-clause-beyond : goal.returns-then-branch-clause-beyond
returns-then-branch-clause-beyond c = λ steps can start.
    (let on = c.loop-branch.invariant.on in
    beyond_on c.args.mode c.args.self.now.path.sim.program (length c.args.self.now.path.sim.machines) c.loop-branch.self.path.sim steps
    c.loop-branch.self.out_of_steps c.look.new.self.out_of_steps on.program_same on.ranks (c.loop-branch.invariant.beyond steps can start)
    (c.in_ok-look.ensures.beyond steps (c.loop-branch.invariant.back steps can)))

pub returns-then-branch-clause-closes : goal.returns-then-branch-clause-closes
returns-then-branch-clause-closes c = c.in_ok-look.ensures.closes ∙ c.loop-branch.invariant.closes

pub look-requires-clause-knows : goal.look-requires-clause-knows
look-requires-clause-knows c =
    let on = c.loop-branch.invariant.on in
    knows_of c.args.tables.now.live c.args.self.now.path.sim c.loop-branch.self.path.sim c.loop-branch.self.path.sim.run c.loop-branch.self.met.parts
    c.loop-branch.self.last (record { program = on.program_same; ranks = on.ranks }) c.loop-branch.invariant.knows

pub returns-then-branch-clause-knows : goal.returns-then-branch-clause-knows
returns-then-branch-clause-knows c =
    let on = c.loop-branch.invariant.on in
    knows_by c.args.tables.now.live c.args.self.now.path.sim c.loop-branch.self.path.sim c.look.new.self.path.sim.run c.look.new.self.met.parts
    c.look.new.self.last (record { program = on.program_same; ranks = on.ranks }) c.in_ok-look.ensures.knows
