use Rattle.rank_machine.specs.declared.want.Want.TheVariants as want
use Rattle.audit.proofs.FinalRunsLaws.Finding.{receives_one, probes_one, receives_none, probes_none, waits_so}
use Rattle.audit.proofs.final_runs.stalled.may_go_on.Goals as goal

pub returns-in-Receive-clause-yes : goal.returns-in-Receive-clause-yes
returns-in-Receive-clause-yes c = λ e.
    receives_one c.args.run.now c.args.ends.now c.args.rank c.in-Receive.selector c.ranks-ranks.ensures.stands c.in-Receive.ensures.wanted
    (c.is_there.ensures.yes e)

pub returns-in-Receive-clause-no : goal.returns-in-Receive-clause-no
returns-in-Receive-clause-no c = λ e.
    receives_none c.args.run.now c.args.ends.now c.args.rank c.in-Receive.selector c.ranks-ranks.ensures.stands c.in-Receive.ensures.wanted
    (c.is_there.ensures.no e)

pub returns-in-Probe-clause-yes : goal.returns-in-Probe-clause-yes
returns-in-Probe-clause-yes c = λ e.
    probes_one c.args.run.now c.args.ends.now c.args.rank c.in-Probe.selector c.ranks-ranks.ensures.stands c.in-Probe.ensures.wanted
    (c.is_there-in-Probe.ensures.yes e)

pub returns-in-Probe-clause-no : goal.returns-in-Probe-clause-no
returns-in-Probe-clause-no c = λ e.
    probes_none c.args.run.now c.args.ends.now c.args.rank c.in-Probe.selector c.ranks-ranks.ensures.stands c.in-Probe.ensures.wanted
    (c.is_there-in-Probe.ensures.no e)

pub returns-in-Internal-clause-no : goal.returns-in-Internal-clause-no
returns-in-Internal-clause-no c = λ e.
    absurd (waits_so c.args.run.now c.args.ends.now c.args.rank want.Internal c.requires.waits c.requires.said c.in-Internal.ensures.wanted)

pub returns-in-Send-clause-no : goal.returns-in-Send-clause-no
returns-in-Send-clause-no c = λ e.
    absurd (waits_so c.args.run.now c.args.ends.now c.args.rank _ c.requires.waits c.requires.said c.in-Send.ensures.wanted)

pub returns-in-TryProbe-clause-no : goal.returns-in-TryProbe-clause-no
returns-in-TryProbe-clause-no c = λ e.
    absurd (waits_so c.args.run.now c.args.ends.now c.args.rank _ c.requires.waits c.requires.said c.in-TryProbe.ensures.wanted)

pub returns-in-Print-clause-no : goal.returns-in-Print-clause-no
returns-in-Print-clause-no c = λ e.
    absurd (waits_so c.args.run.now c.args.ends.now c.args.rank _ c.requires.waits c.requires.said c.in-Print.ensures.wanted)

pub returns-in-Halted-clause-no : goal.returns-in-Halted-clause-no
returns-in-Halted-clause-no c = λ e.
    absurd (waits_so c.args.run.now c.args.ends.now c.args.rank want.Halted c.requires.waits c.requires.said c.in-Halted.ensures.wanted)

pub returns-in-Faulted-clause-no : goal.returns-in-Faulted-clause-no
returns-in-Faulted-clause-no c = λ e.
    absurd (waits_so c.args.run.now c.args.ends.now c.args.rank _ c.requires.waits c.requires.said c.in-Faulted.ensures.wanted)
