use Rattle.std.proofs.Common.{◌<◌, ◌≤◌, sym, length, arith}
use Rattle.std.proofs.lemmas.Option.{get_or_from_slice_get}
use Rattle.checkpoint.specs.Spelling.{kept}
use Rattle.checkpoint.specs.Legal.{IsPacket}
use Rattle.checkpoint.proofs.Written.{begins, writes, spelled_all, legal_all}
use Rattle.checkpoint.proofs.write_image.put_all_kept.Goals as goal

pub loop-place-init : goal.loop-place-init
loop-place-init c = begins kept IsPacket c.args.out.now.items c.args.l.now.kept

pub loop-place-preserved : goal.loop-place-preserved
loop-place-preserved c =
    let ms = c.args.l.now.kept in
    let m = c.in-Some.p.now in
    let there = get_or_from_slice_get ms c.loop-place.place m m (sym c.in-Some.ensures) in
    let within : c.loop-place.place < length ms = omega (arith, c.len-place-end.ensures, c.loop-place-test.true) in
    writes kept IsPacket c.args.out.now.items c.loop-place.out.items c.put_kept.new.out.items ms c.loop-place.place m m within (sym there)
    c.in_ok-put_kept.ensures.spelled c.in_ok-put_kept.ensures.packet c.loop-place.invariant

pub returns-clause-spelled : goal.returns-clause-spelled
returns-clause-spelled c =
    let past : length c.args.l.now.kept ≤ c.loop-place.place = omega (arith, c.len-place-end.ensures, c.loop-place-test.false) in
    spelled_all kept IsPacket c.args.out.now.items c.loop-place.out.items c.args.l.now.kept c.loop-place.place past c.loop-place.invariant

pub returns-clause-packets : goal.returns-clause-packets
returns-clause-packets c =
    let past : length c.args.l.now.kept ≤ c.loop-place.place = omega (arith, c.len-place-end.ensures, c.loop-place-test.false) in
    legal_all kept IsPacket c.args.out.now.items c.loop-place.out.items c.args.l.now.kept c.loop-place.place past c.loop-place.invariant
