use Rattle.rank_language.proofs.resolve_form.resolve_form.Goals as goal

-- what is said of any target holds of this one
pub returns-in-Let : goal.returns-in-Let
returns-in-Let c = rw c.in-Let.is (c.resolve_assignment.ensures c.args.target)

pub returns-in-LetItem : goal.returns-in-LetItem
returns-in-LetItem c = rw c.in-LetItem.is (c.resolve_item_assignment.ensures c.args.target)

pub returns-in-Send : goal.returns-in-Send
returns-in-Send c = rw c.in-Send.is (c.resolve_send.ensures c.args.target)

pub returns-in-Recv : goal.returns-in-Recv
returns-in-Recv c = rw c.in-Recv.is (c.resolve_receive.ensures c.args.target)

pub returns-in-Probe : goal.returns-in-Probe
returns-in-Probe c = rw c.in-Probe.is (c.resolve_probe.ensures c.args.target)

pub returns-in-TryProbe : goal.returns-in-TryProbe
returns-in-TryProbe c = rw c.in-TryProbe.is (c.resolve_try_probe.ensures c.args.target)
