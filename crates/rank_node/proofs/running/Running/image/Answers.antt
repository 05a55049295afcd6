use Rattle.std.proofs.Common.{rules}
use Rattle.rank_node.proofs.Images.{keeps_same}
use Rattle.rank_node.proofs.Nodes.{kept_place}
use Rattle.rank_node.proofs.running.Running.image.Goals as goal

pub returns-then-not-settled-clause-kept : goal.returns-then-not-settled-clause-kept
returns-then-not-settled-clause-kept g c = keeps_same g.S.Shelf.last c.args.self.now.stable

pub returns-in_err-bytes-clause-kept : goal.returns-in_err-bytes-clause-kept
returns-in_err-bytes-clause-kept g c =
    let kept = keeps_same g.S.Shelf.last c.args.self.now.stable in
    search rules

pub returns-clause-ok : goal.returns-clause-ok
returns-clause-ok g c = record {
  settled = search rules;
  shelf = c.put.new.self.shelf;
  after = search rules;
  bytes = search rules;
  reads = search rules;
}

pub invariant_of-self : goal.invariant_of-self
invariant_of-self g c = kept_place c.self.inside c.put.new.self (search rules) (search rules) c.self.invariant
