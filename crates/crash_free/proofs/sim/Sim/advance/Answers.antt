use Rattle.std.specs.Prelude.{reverse}
use Rattle.rank_machine.proofs.Striding.{strides_are_inner}
use Rattle.crash_free.proofs.Keeping.{kept_inside}
use Rattle.crash_free.proofs.Choosing.{read_machine}
use Rattle.crash_free.proofs.Inside.{goes_inside, stands_at}
use Rattle.crash_free.proofs.sim.Sim.advance.Goals as goal

pub invariant_of-self : goal.invariant_of-self
invariant_of-self c =
    let s = c.self.inside in
    let there = read_machine c.args.self.now s.program.now s.machines.items (reverse s.passed.items) c.from.result c.args.rank
    c.index_mut-machine.result.now c.self.view_is c.from.ensures c.requires.there c.index_mut-machine.ensures.value in (
      rw c.from.ensures (kept_inside _ _ _ _ c.args.rank _ _ c.self.invariant.0 there c.advance-made.ensures.stays
          (strides_are_inner _ _ _ c.advance-made.ensures.made)),
      c.self.invariant.1,
    )

pub returns-clause-inside : goal.returns-clause-inside
returns-clause-inside c =
    let s = c.self.inside in
    let there = read_machine c.args.self.now s.program.now s.machines.items (reverse s.passed.items) c.from.result c.args.rank
    c.index_mut-machine.result.now c.self.view_is c.from.ensures c.requires.there c.index_mut-machine.ensures.value in
    rw (← c.self.view_is, c.from.ensures) (goes_inside s.program.now s.machines.items (reverse s.passed.items) c.args.rank c.advance-made.result
    c.index_mut-machine.result.now c.advance-made.new.self there c.advance-made.ensures.made)

pub returns-clause-stops : goal.returns-clause-stops
returns-clause-stops c = λ less.
    let s = c.self.inside in
    let there = read_machine c.args.self.now s.program.now s.machines.items (reverse s.passed.items) c.from.result c.args.rank
    c.index_mut-machine.result.now c.self.view_is c.from.ensures c.requires.there c.index_mut-machine.ensures.value in
    rw c.from.ensures (stands_at s.machines.items c.args.rank c.index_mut-machine.result.now c.advance-made.new.self there
    c.law_wants_of_its_state.ensures (c.advance-made.ensures.stands less))
