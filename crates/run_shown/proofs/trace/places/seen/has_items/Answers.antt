use Rattle.std.proofs.lemmas.Bool.Decides.{Decides-int_eq}
use Rattle.std.proofs.lemmas.Slice.Eq.{slice_eq-Decides}
use Rattle.run_shown.proofs.trace.places.seen.has_items.Goals as goal

pub returns : goal.returns
returns c = (slice_eq-Decides Decides-int_eq c.args.items.now c.args.others.now _ c.eq.ensures).0
