use Rattle.std.proofs.Common.{◌∙◌}
use Rattle.crash_free.proofs.Lists.{there_is}
use Rattle.explore.proofs.LastKnown.{current_written}
use Rattle.explore.proofs.met.note_rank.Goals as goal

pub returns-clause-current : goal.returns-clause-current
returns-clause-current c = λ _.
    (let there = there_is c.args.sim.now.machines c.args.rank c.requires.rank in
    current_written c.args.live.now c.args.sim.now there.0 c.own_place.new.parts c.mail_place.new.parts c.set_mail.new.self c.args.rank c.in-Some.own
    c.in-Some-2.mail c.requires.stands there.1 (c.requires.programs c.args.rank there.0 there.1) c.mail_place.ensures.keeps
    (c.set_mail.ensures.own ∙ c.set_own.ensures.there) (rw c.in-Some.is at c.in_ok-own.ensures.there) c.set_mail.ensures.there
    (rw c.in-Some-2.is at c.in_ok-mail.ensures.there))
