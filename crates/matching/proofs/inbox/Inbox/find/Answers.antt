use Rattle.std.proofs.Common.{ap, ◌∙◌}
use Rattle.std.specs.Prelude.{position}
use Rattle.matching.specs.Inbox.{Mailbox}
use Rattle.matching.specs.Matching.{matches}
use Rattle.matching.proofs.QueueLemmas.{found_fits}
use Rattle.matching.proofs.inbox.Inbox.find.Goals as goal

pub returns-clause-fits : goal.returns-clause-fits
returns-clause-fits c =
    let first = c.position.ensures ∙ ap (λ (b : Mailbox). position (matches c.args.selector.now) b.packets) c.self.view_is in
    found_fits (matches c.args.selector.now) c.args.self.now.packets _ first
