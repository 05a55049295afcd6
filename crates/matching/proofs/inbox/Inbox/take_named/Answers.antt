use Rattle.std.proofs.Common.{ap, ◌∙◌}
use Rattle.matching.specs.Queue.{first_by}
use Rattle.matching.specs.Inbox.{Mailbox, without_match}
use Rattle.matching.specs.Matching.{is_named}
use Rattle.matching.proofs.QueueLemmas.{taken_fits, taken_none, taken_place, taken_there}
use Rattle.matching.proofs.InboxLemmas.{box_of, is_mailbox_without_first, without_found}
use Rattle.matching.proofs.inbox.Inbox.take_named.Goals as goal

pub invariant_of-self : goal.invariant_of-self
invariant_of-self c =
    rw c.take_first.ensures.left (is_mailbox_without_first _ c.self.inside.packets c.self.inside.accepted.items c.self.invariant)

pub returns-clause-fits : goal.returns-clause-fits
returns-clause-fits c =
    let first = c.take_first.ensures.taken ∙ ap (λ (b : Mailbox). first_by (is_named c.args.source c.args.clock) b.packets) c.self.view_is in
    taken_fits (is_named c.args.source c.args.clock) c.args.self.now.packets _ first

pub returns-clause-none : goal.returns-clause-none
returns-clause-none c =
    let first = c.take_first.ensures.taken ∙ ap (λ (b : Mailbox). first_by (is_named c.args.source c.args.clock) b.packets) c.self.view_is in
    taken_none (is_named c.args.source c.args.clock) c.args.self.now.packets _ first

pub returns-clause-place : goal.returns-clause-place
returns-clause-place c =
    let first = c.take_first.ensures.taken ∙ ap (λ (b : Mailbox). first_by (is_named c.args.source c.args.clock) b.packets) c.self.view_is in
    taken_place (is_named c.args.source c.args.clock) c.args.self.now.packets _ first

pub returns-clause-there : goal.returns-clause-there
returns-clause-there c =
    let first = c.take_first.ensures.taken ∙ ap (λ (b : Mailbox). first_by (is_named c.args.source c.args.clock) b.packets) c.self.view_is in
    taken_there (is_named c.args.source c.args.clock) c.args.self.now.packets _ first

pub returns-clause-gone : goal.returns-clause-gone
returns-clause-gone c =
    let first = c.take_first.ensures.taken ∙ ap (λ (b : Mailbox). first_by (is_named c.args.source c.args.clock) b.packets) c.self.view_is in
    let left =
    ap (λ ms. box_of ms c.self.inside.accepted.items) c.take_first.ensures.left
    ∙ ap (without_match (is_named c.args.source c.args.clock)) c.self.view_is in
    without_found (is_named c.args.source c.args.clock) c.args.self.now _ _ first left
