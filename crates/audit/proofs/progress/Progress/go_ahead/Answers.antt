use Rattle.std.proofs.Common.{◌≡◌, Some, length, slice_get, slice_set, refl, sym, ap, ◌∙◌, arith}
use Rattle.std.proofs.lemmas.List.{length-map, map-set}
use Rattle.std.proofs.lemmas.Option.{slice_get_read}
use Rattle.audit.specs.Ahead.{ProgressValue}
use Rattle.audit.specs.Rows.{row}
use Rattle.audit.proofs.GoingAhead.{ahead_on}
use Rattle.audit.proofs.Picking.{row_read}
use Rattle.audit.proofs.progress.Progress.go_ahead.Goals as goal

pub go_ahead-requires-clause-taken : goal.go_ahead-requires-clause-taken
go_ahead-requires-clause-taken c =
    let all = ap (λ (p : ProgressValue). p.taken) c.self.view_is in
    let long = ap length all in
    let mapped = length-map c.self.inside.taken.items (λ row. row.items) in
    let wide = c.requires.progress.taken in
    let low = c.requires.rank in
    let place = c.from-place.ensures in
    c.requires.progress.rows c.args.rank c.index_mut.result.now.items
    (row_read (λ row. row.items) c.self.inside.taken.items c.args.self.taken c.args.rank c.from-place.result c.index_mut.result.now all place
    c.index_mut.ensures.value (omega (arith, long, mapped, wide, low, place)))
    ∙ ap (λ (p : ProgressValue). row p.sim.run c.args.rank) (sym c.self.view_is)

pub returns : goal.returns
returns c = record {
  ahead = λ a ahead.
      let left = ap (λ (p : ProgressValue). p.left) c.self.view_is in
      let taken = ap (λ (p : ProgressValue). p.taken) c.self.view_is in
      let long = ap length left in
      let wide = c.requires.progress.left in
      let low = c.requires.rank in
      let place = c.from-place.ensures in
      let read : slice_get c.self.inside.left.items c.from-place.result ≡ Some c.index.result.now =
      slice_get_read c.self.inside.left.items (length c.self.inside.left.items) c.from-place.result c.index.result.now refl
      (omega (arith, long, wide, low, place)) c.index.ensures in
      ahead_on a c.args.self _ c.args.rank c.index.result.now c.in_ok-now.now
      (rw (← c.self.view_is) c.in_ok-now.ensures.goes)
      (ap (λ ks. slice_get ks c.args.rank) (sym left) ∙ ap (λ q. slice_get c.self.inside.left.items q) (sym place) ∙ read)
      (rw (← c.self.view_is) c.in_ok-now.ensures.spends)
      (ap (λ ks. slice_set ks c.from-place.result c.in_ok-now.now) left ∙ ap (λ q. slice_set c.args.self.left q c.in_ok-now.now) place)
      (map-set (λ row. row.items) c.self.inside.taken.items c.from-place.result c.go_ahead.new.taken
      ∙ ap (λ es. slice_set es c.from-place.result c.go_ahead.new.taken.items) taken
      ∙ ap (λ q. slice_set c.args.self.taken q c.go_ahead.new.taken.items) place
      ∙ ap (λ es. slice_set c.args.self.taken c.args.rank es) c.in_ok-now.ensures.taken)
      (rw (← c.self.view_is) c.in_ok-now.ensures.others)
      ahead;
}
