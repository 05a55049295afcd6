use Rattle.std.proofs.Common.{rules, false, ◌≡◌, ◌≤◌, ◌++◌, Some, length, slice_get, string_bytes}
use Rattle.std.specs.Prelude.{get_or}
use Rattle.std.proofs.lemmas.Option.{slice_get-get_or}
use Rattle.crash_free.specs.SendIndex.Sends.{run_before}
use Rattle.run_shown.specs.Trace.Deliveries.{as_told, delivered}
use Rattle.run_shown.specs.Trace.Lines.{order_text}
use Rattle.run_shown.specs.Trace.Seen.{maybe_seen}
use Rattle.run_shown.proofs.TraceLaws.LineLemmas.{goes_on, whole}
use Rattle.run_shown.proofs.trace.acts.put_acts.Goals as goal

pub loop-index-preserved : goal.loop-index-preserved
loop-index-preserved c =
    let p = get_or c.args.told.acts.now c.loop-index.index c.index-told-index.result in
    let here : slice_get c.args.told.acts.now c.loop-index.index ≡ Some p =
    slice_get-get_or c.args.told.acts.now c.loop-index.index c.index-told-index.result c.loop-index-test.true in
    let is : maybe_seen c.sent-message.result ≡ as_told (delivered (run_before c.args.told.acts.now c.loop-index.index) p) =
    c.sent-message.ensures c.requires.clocked c.requires.delivered p here in
    goes_on c.clock_width-width.result c.args.told.lines.now c.args.told.acts.now c.args.told.places.now c.loop-index.index
    p (record { clock = 0; position = 0; tries = false }) (maybe_seen c.sent-message.result) (string_bytes c.put_head.new.to) (string_bytes c.loop-index.to)
    (string_bytes c.put_line.new.to) here c.requires.clocked.as_many is c.loop-index.invariant c.in_ok-put_line.ensures

pub returns : goal.returns
returns c =
    let past : length c.args.told.acts.now ≤ c.loop-index.index = search rules in
    let said : string_bytes c.push_str.new.self ≡ string_bytes c.args.to.now ++ order_text = search rules in
    whole c.clock_width-width.result c.args.told.lines.now c.args.told.acts.now c.args.told.places.now c.loop-index.index
    (string_bytes c.args.to.now) (string_bytes c.push_str.new.self) (string_bytes c.put_head.new.to) (string_bytes c.loop-index.to) past
    c.requires.clocked.as_many c.clock_width-width.ensures said c.in_ok-put_head.ensures c.loop-index.invariant
