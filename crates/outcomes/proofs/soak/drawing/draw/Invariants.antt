use Rattle.std.proofs.Common.{◌≤◌, ◌+◌, All}
use Rattle.rank_text.specs.Scripts.Orders.{IsOrder}
use Rattle.outcomes.specs.Soak.Lines.{AreWithin, CanBeUsed, images_in, kills_in}
use Rattle.outcomes.proofs.soak.drawing.draw.Given as goal

-- the lines drawn so far are right, and together with what is left not too many
abbrev pub invariant-loop-left : goal.invariant-loop-left
invariant-loop-left l = record {
  orders : All (IsOrder l.ranks) l.lines.items;
  within : AreWithin l.acts l.lines.items;
  usable : CanBeUsed l.lines.items;
  kills : kills_in l.lines.items + l.left.kills ≤ l.fn.most.kills;
  images : images_in l.lines.items + l.left.images ≤ l.fn.most.images;
}

abbrev pub decreases-loop-left : goal.decreases-loop-left
decreases-loop-left l = l.left.kills + l.left.images
