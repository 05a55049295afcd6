use Rattle.std.proofs.Common.{◌≡◌, ℕ, ℤ, List, length, map, Ok, nat_le, subst}
use Rattle.std.proofs.lemmas.Result.{err_from_is_err_and}
use Rattle.rank_machine.specs.Gathering.{GatheredValue}
use Rattle.checkpoint.specs.declared.fault.ImageFault.TheVariants.{Field}
use Rattle.checkpoint.specs.Reading.{Fails, where_holds, standing_at, values_at, arrays_at}
use Rattle.checkpoint.specs.Seen.{standing_seen}
use Rattle.checkpoint.proofs.Underway.{refused}
use Rattle.checkpoint.proofs.read_machine.machine_of.Goals as goal

pub returns-in_err-gathered : goal.returns-in_err-gathered
returns-in_err-gathered c =
    let p = err_from_is_err_and c.from_residual-in_err-gathered.result c.from_residual-in_err-gathered.ensures.1 in
    let seen = standing_seen c.in_ok-standing.standing in
    let at_standing = subst (λ (n : ℕ). standing_at n c.args.bytes.now ≡ Ok (seen, c.in_ok-standing.rest.now)) c.len.ensures.count
    c.in_ok-standing.ensures.read in
    let at_variables = subst (λ (n : ℕ). values_at n c.in_ok-status.rest.now ≡ Ok (
      c.in_ok-variables.variables.items,
      c.in_ok-variables.rest.now,
    )) c.variable_count.ensures c.in_ok-variables.ensures.read in
    let at_arrays = subst (λ (as_ : List (List ℕ × ℕ)). arrays_at (map (λ a. a.1) as_) c.in_ok-variables.rest.now
    ≡ Ok (c.in_ok-arrays.arrays.items, c.in_ok-arrays.rest.now)) c.arrays.ensures.arrays c.in_ok-arrays.ensures.read in
    let made : List ℤ → GatheredValue = λ zs. record { room = c.args.size; values = zs } in
    let failed = subst (λ (zs : List ℤ). Fails c.in_err-gathered.field-0.0 (where_holds (nat_le (length zs) c.args.size) Field (made zs)))
    c.deref.ensures.value c.in_err-gathered.ensures in
    rw (p.1, p.2) (refused c.args.program.now c.args.rank c.args.size c.args.bytes.now c.in_err-gathered.field-0.0 (made seen.gathered)
    (seen, c.in_ok-standing.rest.now) (c.in_ok-status.status, c.in_ok-status.rest.now) _ _
    at_standing c.in_ok-status.ensures.read at_variables at_arrays failed)
