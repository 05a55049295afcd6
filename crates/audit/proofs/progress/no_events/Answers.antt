use Rattle.std.proofs.Common.{[], ◌∷◌, ◌++◌, map, replicate, ap, ◌∙◌}
use Rattle.std.proofs.lemmas.List.{map_push, replicate-append-replicate}
use Rattle.audit.proofs.progress.no_events.Goals as goal

pub loop-preserved : goal.loop-preserved
loop-preserved c =
    ap (map (λ row. row.items)) c.in_ok-push.ensures.items ∙ map_push (λ row. row.items) c.loop.rows.items c.new.result
    ∙ ap (λ z. z ++ c.new.result.items ∷ []) c.loop.invariant ∙ ap (λ z. replicate c.loop.counter [] ++ z ∷ []) c.new.ensures.items
    ∙ replicate-append-replicate c.loop.counter 1 []
