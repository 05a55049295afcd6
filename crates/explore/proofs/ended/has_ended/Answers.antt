use Rattle.explore.proofs.ended.has_ended.Goals as goal

pub returns-in-Halted : goal.returns-in-Halted
returns-in-Halted c = λ e. (c.wants.result, c.wants.ensures.wanted, rw c.in-Halted.is tt)

pub returns-in-Faulted : goal.returns-in-Faulted
returns-in-Faulted c = λ e. (c.wants.result, c.wants.ensures.wanted, rw c.in-Faulted.is tt)
