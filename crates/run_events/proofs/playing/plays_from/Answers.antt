use Rattle.std.proofs.Common.{subst}
use Rattle.run_events.specs.Plays.{NoneRefused}
use Rattle.run_events.proofs.Played.{goes}
use Rattle.run_events.proofs.playing.plays_from.Goals as goal

pub returns : goal.returns
returns c = λ yes.
    (let taken : NoneRefused c.in-Ok.replies.items = subst NoneRefused c.as_slice.ensures.value (c.none_refused.ensures c.if-not-none_refused.false) in
    goes c.args.world.now c.args.ranks c.args.run.now c.args.events.now c.in-Ok.replies.items c.run.new.self c.in-Ok.ensures.follows taken c.run.ensures.stands
    (c.is_there.ensures.world_size yes) (c.is_there.ensures.run_size yes) c.is_there.ensures.simulates (c.is_there.ensures.same yes))
