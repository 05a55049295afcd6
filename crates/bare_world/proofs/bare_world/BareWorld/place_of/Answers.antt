use Rattle.std.proofs.Common.{◌≡◌, ◌<◌, ℕ, Some, sym, subst, ap, ◌∙◌, length}
use Rattle.bare_world.specs.RunIndex.{clock_at}
use Rattle.bare_world.proofs.Calls.Stores.{names_a_rank, names_a_message}
use Rattle.bare_world.proofs.bare_world.BareWorld.place_of.Goals as goal

-- src/bare_world/storing.rt
pub place_of-requires-clause-source : goal.place_of-requires-clause-source
place_of-requires-clause-source c =
    subst (λ z. z < c.self.inside.run.ranks) (sym c.sender.ensures)
    (names_a_rank c.args.self.now c.args.rank c.self.inside.run.ranks c.args.event c.requires.stands c.requires.oldest c.requires.named
    (c.self.invariant.2 ∙ sym c.self.invariant.1 ∙ ap (λ z. length z.ranks) c.self.view_is))

-- src/bare_world/storing.rt
pub unreachable-requires : goal.unreachable-requires
unreachable-requires c =
    names_a_message c.args.self.now c.args.rank c.args.event c.requires.stands c.requires.oldest c.requires.named
    (subst (λ z. (j : ℕ) → clock_at z.run c.args.event.sender c.args.rank j ≡ Some c.args.event.sender_clock → ⊥) c.self.view_is
    (rw (c.sender.ensures, c.sender_clock.ensures) at c.in_default.ensures.none))
