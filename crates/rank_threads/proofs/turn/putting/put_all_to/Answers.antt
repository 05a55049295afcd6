use Rattle.std.proofs.Common.{rules, ◌≡◌}
use Rattle.rank_threads.proofs.PuttingLemmas.{others_on, put_more}
use Rattle.rank_threads.specs.Costs.{after_put}
use Rattle.rank_threads.specs.Putting.{PutsInto}
use Rattle.rank_threads.specs.declared.node.frames.PutResult.TheVariants as put_result
use Rattle.rank_threads.proofs.turn.putting.put_all_to.Goals as goal

-- a frame went and was counted
pub loop-preserved : goal.loop-preserved
loop-preserved g c =
    let here : PutsInto (put_result.Gone c.in-Gone.kind) c.loop.life.node.phase c.args.dest c.loop.life.kit.to.items c.put_to.new.node.phase c.put_to.new.lanes.items
    = search rules in
    let counted : c.count_put-in-Gone.new.self ≡ after_put c.loop.life.kit.meter c.args.dest c.in-Gone.kind = search rules in
    record {
      others = others_on c.args.dest c.args.life.now.node.phase c.loop.life.node.phase c.put_to.new.node.phase c.loop.invariant.others
          c.put_to.ensures.others;
      undone = search rules;
      owing = search rules;
      counted = put_more c.args.dest c.args.life.now c.loop.life _ c.in-Gone.kind c.loop.life.node.phase c.put_to.new.node.phase
          c.loop.invariant.counted here counted;
      kept = search rules;
    }
