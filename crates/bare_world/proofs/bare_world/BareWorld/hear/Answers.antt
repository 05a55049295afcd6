use Rattle.std.proofs.Common.{◌≡◌, true, false, refl, subst}
use Rattle.bare_world.specs.Wires.{wire_of}
use Rattle.bare_world.specs.Driven.{IsAskAt}
use Rattle.bare_world.proofs.Way.EachAskIsHeard.{hear_true, hear_false, hear_moved, heard_end}
use Rattle.bare_world.proofs.bare_world.BareWorld.hear.Goals as goal
use Rattle.bare_world.proofs.bare_world.BareWorld.hear.Goals.{then-is_ask+in_ok-drive, else-is_ask}

-- src/bare_world/way/hearing.rt
pub returns-clause-heard : goal.returns-clause-heard
returns-clause-heard c =
    heard_end _ _ _ _ _ _ _ _ c.requires.source c.requires.dest c.loop-index.invariant.0 c.frames-index-end.ensures c.loop-index-test.false
    c.loop-index.invariant.1

-- src/bare_world/way/hearing.rt
pub loop-index-preserved : goal.loop-index-preserved
loop-index-preserved c =
    elim c.if-is_ask.branch [
      | then-is_ask+in_ok-drive w ↦
          (let t : c.is_ask.result ≡ true = assumption (w.if-is_ask) in
          let p = w.self-is in
          let q = w.events-is in
          let e : c.if-is_ask.self ≡ w.drive.new.self = cc in
          let f : c.if-is_ask.events.items ≡ w.drive.new.events.items = cc in
          hear_moved _ _ _ _ _ _ _ _ _ e f
          (hear_true _ _ _ _ _ _ _ _ _ _ _ _ _ w.from.ensures w.from-then-is_ask.ensures refl c.requires.world c.requires.live c.requires.source c.requires.dest
          c.loop-index.invariant.0 c.loop-index.invariant.1
          (subst (λ k. IsAskAt (wire_of c.loop-index.self.wires c.args.source c.args.dest) c.loop-index.index k) t c.is_ask.ensures)
          w.in_ok-drive.ensures.follows w.in_ok-drive.ensures.list))
      | else-is_ask w ↦
          (let t : c.is_ask.result ≡ false = assumption (w.if-is_ask) in
          let p = w.self-is in
          let q = w.events-is in
          let e : c.if-is_ask.self ≡ c.loop-index.self = cc in
          let f : c.if-is_ask.events.items ≡ c.loop-index.events.items = cc in
          hear_moved _ _ _ _ _ _ _ _ _ e f (
            c.loop-index.invariant.0,
            hear_false _ _ _ _ _ _ _ c.requires.source c.requires.dest c.loop-index.invariant.0 c.loop-index.invariant.1
                (subst (λ k. IsAskAt (wire_of c.loop-index.self.wires c.args.source c.args.dest) c.loop-index.index k) t c.is_ask.ensures),
          ))
    ]
