use Rattle.crash_free.proofs.Receivers.{receiver_within, has_source}
use Rattle.crash_free.proofs.mail.Mail.channel.Goals as goal

pub index-requires : goal.index-requires
index-requires c =
    receiver_within _ _ _ c.args.source _ _ c.self.view_is c.self.invariant c.from.ensures c.requires.place c.self.inside.inbound.ok.0

pub channel-requires : goal.channel-requires
channel-requires c = has_source _ _ _ _ _ _ c.self.view_is c.self.invariant c.from.ensures c.requires.source c.requires.place c.index.ensures
