use Rattle.std.proofs.Common.{rules, ◌≡◌, ℕ, List, sym, subst}
use Rattle.std.specs.Prelude.{IfOk}
use Rattle.rank_node.specs.Node.{IsNode}
use Rattle.rank_node.proofs.Images.{node_savable, spelling_rest}
use Rattle.rank_node.proofs.running.Running.bytes.Goals as goal

pub encode_parts-requires : goal.encode_parts-requires
encode_parts-requires g c =
    let is : IsNode c.args.self.now = search rules in
    let savable = node_savable c.args.self.now is c.requires in
    search rules

pub returns-clause-spelled : goal.returns-clause-spelled
returns-clause-spelled g c =
    let v = c.args.self.now in
    let rest = spelling_rest (record { machine = v.machine; clock = v.clock; inbox = v.inbox; log = v.log }) in
    subst (λ (s : List ℕ). IfOk c.encode_parts.result (λ bytes. bytes.items ≡ s)) (sym rest) (search rules)
