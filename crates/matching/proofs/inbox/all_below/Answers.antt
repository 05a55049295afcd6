use Rattle.std.proofs.Common.{sym, ap, ◌∙◌}
use Rattle.matching.specs.Queue.{above_last}
use Rattle.matching.proofs.Following.{last_decides}
use Rattle.matching.proofs.inbox.all_below.Goals as goal

pub returns : goal.returns
returns c =
    c.is_above.ensures ∙ ap (above_last c.args.number) c.last_number.ensures
    ∙ sym (last_decides c.args.source c.args.number c.args.packets.now c.requires)
