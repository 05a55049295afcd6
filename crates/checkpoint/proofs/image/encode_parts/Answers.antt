use Rattle.std.proofs.Common.{All, sym, ap, subst, ◌∙◌, rules, arith}
use Rattle.std.proofs.lemmas.Grind.{common_steps}
use Rattle.checkpoint.specs.Image.{ImageValue, at_rest}
use Rattle.checkpoint.specs.declared.format.Format.TheVariants.{Two}
use Rattle.checkpoint.specs.Spelling.{text_in}
use Rattle.checkpoint.specs.Legal.{IsTable, IsStored}
use Rattle.checkpoint.specs.Reading.{reading}
use Rattle.checkpoint.proofs.Whole.{text_is_read, text_at_rest}
use Rattle.checkpoint.proofs.Saving.{machine_is, image_is}
use Rattle.checkpoint.proofs.image.encode_parts.Goals as goal

pub returns-clause-spelled : goal.returns-clause-spelled
unfolding text_in
returns-clause-spelled c = first_of (search rules, grind (arith, common_steps))

pub returns-clause-reads : goal.returns-clause-reads
returns-clause-reads c =
    let m = c.args.machine.now in
    let i : ImageValue = record { machine = m; clock = c.args.clock; inbox = c.args.inbox.now; log = c.args.log.now } in
    let whole = c.law_within_program.ensures in
    let written = c.in_ok-put_machine.ensures in
    let table = subst IsTable c.program-program.ensures c.law_within_table.ensures in
    let saved = machine_is m whole.machine whole.lines whole.few c.requires.ranks written.gathered written.variables
    written.arrays in
    let stored = subst (All IsStored) c.destinations.ensures c.in_ok-put_lanes.ensures.stored in
    let is = image_is i c.requires whole.machine table saved c.law_numbers_rise.ensures c.law_few_packets.ensures c.in_ok-put_inbox.ensures.packets
    stored in
    ap (reading m.program m.store.rank m.store.size) (returns-clause-spelled c ∙ sym (text_at_rest Two i))
    ∙ text_is_read Two m.program m.store.rank m.store.size (at_rest i) is
