use Rattle.std.proofs.Common.{ap, ◌∙◌}
use Rattle.matching.specs.Queue.{first_by}
use Rattle.matching.specs.Inbox.{Mailbox}
use Rattle.matching.specs.Matching.{is_named}
use Rattle.matching.proofs.QueueLemmas.{shown_fits, shown_none, shown_place, shown_there}
use Rattle.matching.proofs.inbox.Inbox.first_named.Goals as goal

pub returns-clause-fits : goal.returns-clause-fits
returns-clause-fits c =
    let first = c.first.ensures ∙ ap (λ (b : Mailbox). first_by (is_named c.args.source c.args.clock) b.packets) c.self.view_is in
    shown_fits (is_named c.args.source c.args.clock) c.args.self.now.packets _ first

pub returns-clause-none : goal.returns-clause-none
returns-clause-none c =
    let first = c.first.ensures ∙ ap (λ (b : Mailbox). first_by (is_named c.args.source c.args.clock) b.packets) c.self.view_is in
    shown_none (is_named c.args.source c.args.clock) c.args.self.now.packets _ first

pub returns-clause-place : goal.returns-clause-place
returns-clause-place c =
    let first = c.first.ensures ∙ ap (λ (b : Mailbox). first_by (is_named c.args.source c.args.clock) b.packets) c.self.view_is in
    shown_place (is_named c.args.source c.args.clock) c.args.self.now.packets _ first

pub returns-clause-there : goal.returns-clause-there
returns-clause-there c =
    let first = c.first.ensures ∙ ap (λ (b : Mailbox). first_by (is_named c.args.source c.args.clock) b.packets) c.self.view_is in
    shown_there (is_named c.args.source c.args.clock) c.args.self.now.packets _ first
