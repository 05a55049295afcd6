use Rattle.std.proofs.Common.{◌<◌, length, arith}
use Rattle.rank_node.proofs.Images.{kepts_more}
use Rattle.rank_node.proofs.imaging.owe_kepts.Goals as goal

pub loop-source-preserved : goal.loop-source-preserved
loop-source-preserved c =
    let accepted = c.args.inbox.now.accepted in
    let dues = c.args.dues.now.items in
    let low : c.loop-source.source < length c.args.inbox.now.accepted =
    (let a = c.loop-source-test.true in let b = c.requires.accepted in omega (arith, a, b)) in
    let below : c.loop-source.source < length c.args.dues.now.items =
    (let a = c.loop-source-test.true in let b = c.requires.dues in omega (arith, a, b)) in
    let more = kepts_more accepted dues c.loop-source.source c.index-due.result.now low below in
    cc
