use Rattle.crash_free.proofs.Receivers.{receiver_within, has_source}
use Rattle.crash_free.proofs.mail.Mail.take.Goals as goal

pub index_mut-requires : goal.index_mut-requires
index_mut-requires c =
    receiver_within _ _ _ c.args.source _ _ c.self.view_is c.self.invariant c.from.ensures c.requires.place c.self.inside.inbound.ok.0

pub take-requires-clause-source : goal.take-requires-clause-source
take-requires-clause-source c = has_source _ _ _ _ _ _ c.self.view_is c.self.invariant c.from.ensures c.requires.source c.requires.place c.index_mut.ensures.value
