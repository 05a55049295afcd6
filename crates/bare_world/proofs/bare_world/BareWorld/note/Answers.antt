use Rattle.std.proofs.Common.{◌≡◌, ◌∷◌, false, ap, ◌∙◌}
use Rattle.crash_free.specs.Seen.{act_of}
use Rattle.crash_free.specs.Runs.{Passed}
use Rattle.event_logger.specs.Sequential.Event.{finds_none}
use Rattle.bare_world.proofs.Calls.Stores.{noted_one}
use Rattle.bare_world.proofs.bare_world.BareWorld.note.Goals as goal

-- src/bare_world/storing.rt
pub returns-clause-noted : goal.returns-clause-noted
returns-clause-noted c =
    let found : finds_none c.args.event.kind ≡ false = search in
    noted_one c.args.self.now c.args.rank c.args.event (act_of c.act_of-act.result) c.push.new.self.acts found c.act_of-act.ensures
    (c.in_ok-push.ensures.ok ∙ ap (λ z. let p : Passed = record { rank = c.args.rank; act = act_of c.act_of-act.result } in p ∷ z.run) c.self.view_is)
