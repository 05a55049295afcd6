use Rattle.std.proofs.Common.{ap, ◌∙◌}
use Rattle.std.specs.Prelude.{position}
use Rattle.matching.specs.Inbox.{Mailbox}
use Rattle.matching.specs.Matching.{is_named}
use Rattle.matching.proofs.QueueLemmas.{found_fits}
use Rattle.matching.proofs.inbox.Inbox.find_named.Goals as goal

pub returns-clause-fits : goal.returns-clause-fits
returns-clause-fits c =
    let first = c.position.ensures ∙ ap (λ (b : Mailbox). position (is_named c.args.source c.args.clock) b.packets) c.self.view_is in
    found_fits (is_named c.args.source c.args.clock) c.args.self.now.packets _ first
