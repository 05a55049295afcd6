use Rattle.std.proofs.Common.{◌≢◌, ◌≤◌, IfSome, slice_get, refl, sym, subst, arith, ◌∙◌}
use Rattle.limits.specs.Limits.{most_lines}
use Rattle.rank_language.specs.Compact.{compact_line}
use Rattle.rank_machine.specs.declared.want.Want.TheVariants as want
use Rattle.rank_machine.specs.Machine.{standing, machine_want, IsMachine, IsMade}
use Rattle.rank_machine.proofs.Compacting.{compact_made, compact_placed, machine_placed, unled_after}
use Rattle.rank_machine.proofs.store.Store.step.Goals as goal

pub follow_compact-requires : goal.follow_compact-requires
follow_compact-requires c =
    let k = c.compact-compact.ensures in
    let m = standing c.args.program.now c.args.position c.args.self.now in
    let bound : c.args.position ≤ most_lines = k.bound in
    record {
      placed =
          compact_placed _ _ (compact_line c.compact-compact.result.now) (slice_get c.args.program.now.statements c.args.position) k.line
          (λ l. λ q. machine_placed m l c.requires.machine (k.placed l q));
      position = omega (arith, bound);
    }

pub returns-in-Some-clause-made : goal.returns-in-Some-clause-made
returns-in-Some-clause-made c =
    let k = c.compact-compact.ensures in
    let f = c.follow_compact.ensures in
    compact_made (standing c.args.program.now c.args.position c.args.self.now) (compact_line c.compact-compact.result.now)
    (slice_get c.args.program.now.statements c.args.position) _ c.follow_compact.new.self c.requires.machine refl refl k.line k.there k.within
    (sym f.next ∙ c.in-Some.is) f.stored f.variables f.arrays f.lengths f.rank

pub follow_statement-requires : goal.follow_statement-requires
follow_statement-requires c =
    let f = c.follow_compact.ensures in
    let same = f.stored ∙ unled_after c.args.self.now (compact_line c.compact-compact.result.now) c.args.position (sym f.next ∙ c.in-None.is) in
    record { machine = subst (λ s. IsMachine (standing c.args.program.now c.args.position s)) (sym same) c.requires.machine }

pub returns-in-None-clause-made : goal.returns-in-None-clause-made
returns-in-None-clause-made c =
    let f = c.follow_compact.ensures in
    let same = f.stored ∙ unled_after c.args.self.now (compact_line c.compact-compact.result.now) c.args.position (sym f.next ∙ c.in-None.is) in
    subst (λ s. IfSome c.follow_statement.result
    (λ next. IsMade (standing c.args.program.now c.args.position s) (standing c.args.program.now next c.follow_statement.new.self)))
    same c.follow_statement.ensures.made

pub returns-in-None-clause-stays : goal.returns-in-None-clause-stays
returns-in-None-clause-stays c =
    let f = c.follow_compact.ensures in
    let same = f.stored ∙ unled_after c.args.self.now (compact_line c.compact-compact.result.now) c.args.position (sym f.next ∙ c.in-None.is) in
    λ none. c.follow_statement.ensures.stays none ∙ same

pub returns-in-None-clause-stands : goal.returns-in-None-clause-stands
returns-in-None-clause-stands c =
    let f = c.follow_compact.ensures in
    let same = f.stored ∙ unled_after c.args.self.now (compact_line c.compact-compact.result.now) c.args.position (sym f.next ∙ c.in-None.is) in
    λ none. subst (λ s. machine_want (standing c.args.program.now c.args.position s) ≢ want.Internal) same (c.follow_statement.ensures.stands none)
