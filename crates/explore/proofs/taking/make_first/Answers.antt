use Rattle.std.proofs.Common.{◌≡◌, ◌+◌, ◌≤◌, ◌-◌, ◌++◌, List, ap, sym, ◌∙◌, length, arith}
use Rattle.std.specs.Prelude.{reverse}
use Rattle.std.proofs.lemmas.List.{length-append, length-reverse}
use Rattle.crash_free.specs.Runs.{Passed}
use Rattle.explore.proofs.Stopping.{all_within, some_stops}
use Rattle.explore.proofs.TakenUp.{made_first, needs_since, on_value_too}
use Rattle.explore.proofs.taking.make_first.Goals as goal

pub go_back-requires : goal.go_back-requires
go_back-requires c =
    let s = c.args.path.now.sim in
    let are = some_stops s.program (length s.machines) c.requires.back.0 s.run c.drop_behind.new.self c.args.stops.now c.drop_behind.ensures.some
    c.requires.back.1.of_run in
    record { back = (c.requires.back.0, record { counts = c.requires.back.1.counts; of_run = are }) }

pub overflow_sub-count : goal.overflow_sub-count
overflow_sub-count c =
    let s = c.args.path.now.sim in
    let are = some_stops s.program (length s.machines) c.requires.back.0 s.run c.drop_behind.new.self c.args.stops.now c.drop_behind.ensures.some
    c.requires.back.1.of_run in
    let short = c.in_ok-since.ensures.short c.args.shared
    (all_within s.program (length s.machines) c.requires.back.0 s.run c.drop_behind.new.self c.args.shared are c.drop_behind.ensures.within) in
    let size : length c.acts.result.now ≡ length c.go_back.new.path.sim.run = ap length (rw c.as_sim.ensures at c.acts.ensures) ∙ length-reverse c.go_back.new.path.sim.run in
    omega (arith, size, short)

pub make_again-requires-clause-back : goal.make_again-requires-clause-back
make_again-requires-clause-back c =
    let s = c.args.path.now.sim in
    let are = some_stops s.program (length s.machines) c.requires.back.0 s.run c.drop_behind.new.self c.args.stops.now c.drop_behind.ensures.some
    c.requires.back.1.of_run in
    let t = c.go_back.new.path.sim in
    let acts = c.as_slice.result.now in
    let whole : reverse acts ++ t.run ≡ s.run =
    ap (λ (xs : List Passed). reverse xs ++ t.run) c.as_slice.ensures.value ∙ c.in_ok-since.ensures.since in (
      c.requires.back.0,
      c.in_ok-since.ensures.back c.requires.back.0 are,
      needs_since s t (reverse acts ++ t.run) c.in_ok-since.ensures.alike whole c.args.path.now.left c.requires.back.0 c.requires.back.1.counts,
    )

pub returns-clause-made : goal.returns-clause-made
returns-clause-made c =
    let s = c.args.path.now.sim in
    let are = some_stops s.program (length s.machines) c.requires.back.0 s.run c.drop_behind.new.self c.args.stops.now c.drop_behind.ensures.some
    c.requires.back.1.of_run in
    let short = c.in_ok-since.ensures.short c.args.shared
    (all_within s.program (length s.machines) c.requires.back.0 s.run c.drop_behind.new.self c.args.shared are c.drop_behind.ensures.within) in
    let size : length c.acts.result.now ≡ length c.go_back.new.path.sim.run = ap length (rw c.as_sim.ensures at c.acts.ensures) ∙ length-reverse c.go_back.new.path.sim.run in
    let t = c.go_back.new.path.sim in
    let acts = c.as_slice.result.now in
    let whole : reverse acts ++ t.run ≡ s.run =
    ap (λ (xs : List Passed). reverse xs ++ t.run) c.as_slice.ensures.value ∙ c.in_ok-since.ensures.since in
    let count = c.args.shared - length c.acts.result.now in
    let low = c.requires.within in
    let parts = sym (ap length whole) ∙ length-append (reverse acts) t.run in
    let long = length-reverse acts in
    let all : length t.run + count ≡ c.args.shared = omega (arith, size, short) in
    let few : count ≤ length acts = omega (arith, size, short, low, parts, long) in
    on_value_too c.make_again.result c.make_again.ensures.made (λ made. made ∙ made_first s.run t.run acts count c.args.shared whole all few)

pub returns-clause-back : goal.returns-clause-back
returns-clause-back c =
    let s = c.args.path.now.sim in
    on_value_too c.make_again.result c.make_again.ensures.back
    (λ keeps steps can.
    keeps steps
    (c.in_ok-since.ensures.back steps
    (some_stops s.program (length s.machines) steps s.run c.drop_behind.new.self c.args.stops.now c.drop_behind.ensures.some can.of_run)))
