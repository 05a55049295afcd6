use Rattle.std.proofs.Common.{◌≡◌, Option, Some, sym, ap, subst, ◌∙◌, slice_get, slice_set}
use Rattle.rank_node.specs.Storing.{next_unstored}
use Rattle.bare_world.specs.World.{Live, WorldValue}
use Rattle.bare_world.specs.Seats.{at_work, AtRank, IsAccepted, IsStored, NotedAs}
use Rattle.bare_world.proofs.Calls.Stores.{store_accepted, store_named}
use Rattle.bare_world.proofs.bare_world.BareWorld.store.Goals as goal

-- src/bare_world/storing.rt
pub store-requires-clause-accepted : goal.store-requires-clause-accepted
store-requires-clause-accepted c =
    subst (λ (z : WorldValue). AtRank z.ranks c.in-Some.rank (λ (v : Live). IsAccepted z.logger c.in-Some.rank (next_unstored v.rank))) (sym c.self-2.view_is)
    (subst (λ (z : WorldValue). AtRank z.ranks c.in-Some.rank (λ (v : Live). IsAccepted z.logger c.in-Some.rank (next_unstored v.rank)))
    (sym c.in_ok-acts.ensures.others)
    (store_accepted c.args.self.now c.in-Some.rank c.in-Some-running.running.now c.in-Some-oldest_unstored.event c.requires
    (subst (λ z. slice_get z.ranks c.in-Some.rank ≡ Some (at_work c.in-Some-running.running.now)) c.self.view_is c.in-Some-running.ensures.some)
    (sym c.oldest_unstored.ensures ∙ c.in-Some-oldest_unstored.is)))

-- src/bare_world/storing.rt
pub returns-clause-follows : goal.returns-clause-follows
returns-clause-follows c =
    let both = c.self-2.view_is ∙ c.in_ok-acts.ensures.others in
    store_named c.args.self.now _ c.in-Some.rank c.args.rank c.in_ok-acts.acts c.in-Some-running.running.now
    c.in-Some-oldest_unstored.event c.in-Ok.count c.in-Some.ensures.0 c.requires
    (subst (λ z. slice_get z.ranks c.in-Some.rank ≡ Some (at_work c.in-Some-running.running.now)) c.self.view_is c.in-Some-running.ensures.some)
    (sym c.oldest_unstored.ensures ∙ c.in-Some-oldest_unstored.is)
    (subst (λ z. NotedAs c.args.self.now.run c.in-Some.rank c.in-Some-oldest_unstored.event c.in_ok-acts.acts z)
    (sym (ap (λ (z : WorldValue). z.run) c.self-2.view_is)) c.in_ok-acts.ensures.noted)
    (subst (λ (z : WorldValue). AtRank z.ranks c.in-Some.rank
    (λ (v : Live). (x : Option Live) × IsStored z.logger c.store.new.logger c.in-Ok.count v x × (c.store.new.self.ranks ≡ slice_set z.ranks c.in-Some.rank x)))
    both c.in-Ok.ensures.ok.ok.rank)
    (c.in-Ok.ensures.ok.ok.program ∙ ap (λ (z : WorldValue). z.program) both) (c.in-Ok.ensures.ok.ok.images ∙ ap (λ (z : WorldValue). z.images) both)
    (ap (λ (z : WorldValue). z.wires) both) (ap (λ (z : WorldValue). z.lines) both)
