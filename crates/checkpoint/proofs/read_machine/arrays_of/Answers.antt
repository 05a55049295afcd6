use Rattle.std.proofs.Common.{◌≡◌, ◌+◌, ◌<◌, ◌++◌, ◌∷◌, [], ℕ, ℤ, List, length, slice_index, ◌∙◌, ap, subst, Ok, arith}
use Rattle.std.proofs.lemmas.Result.{err_from_is_err_and}
use Rattle.std.proofs.lemmas.List.{length_push}
use Rattle.checkpoint.specs.Reading.{Fails, values_at, arrays_at}
use Rattle.checkpoint.proofs.Loop.{goes_on, ends, is_done}
use Rattle.checkpoint.proofs.Arrays.{lengths_in, lengths_length, number_here, is_sized, arrays_more, all_arrays}
use Rattle.checkpoint.proofs.read_machine.arrays_of.Goals as goal

pub returns-in_err-items-clause-read : goal.returns-in_err-items-clause-read
returns-in_err-items-clause-read c =
    let p = err_from_is_err_and c.from_residual.result c.from_residual.ensures.1 in
    let xs = c.args.arrays.now in
    let found = c.loop-array.found.items in
    let n = number_here xs c.loop-array.array-index _ c.array-item.result found c.loop-array-test.true c.array-item.is
    c.loop-array.invariant.count in
    let failed = subst (λ (k : ℕ). Fails c.in_err-items.field-0.0 (values_at k c.loop-array.rest.now)) n c.in_err-items.ensures.read in
    let within : c.loop-array.array-index < length (lengths_in xs) = omega (arith, lengths_length xs, c.loop-array-test.true) in
    rw (p.1, p.2) (ends (λ before. values_at (slice_index (lengths_in xs) (length before))) c.in_err-items.field-0.0 found
    (length (lengths_in xs)) c.loop-array.array-index c.loop-array.rest.now (arrays_at (lengths_in xs) c.args.bytes.now)
    within failed c.loop-array.invariant.read)

pub of-requires-clause-least : goal.of-requires-clause-least
of-requires-clause-least c =
    let s = is_sized c.args.arrays.now c.loop-array.array-index _ c.array-item.result c.loop-array-test.true c.array-item.is c.requires in
    let e = c.in_ok-items.ensures.count in
    omega (arith, s.0, e)

pub of-requires-clause-most : goal.of-requires-clause-most
of-requires-clause-most c =
    let s = is_sized c.args.arrays.now c.loop-array.array-index _ c.array-item.result c.loop-array-test.true c.array-item.is c.requires in
    let e = c.in_ok-items.ensures.count in
    omega (arith, s.1, e)

pub loop-array-preserved : goal.loop-array-preserved
loop-array-preserved c =
    let xs = c.args.arrays.now in
    let found = c.loop-array.found.items in
    let items = c.in_ok-items.items.items in
    let pushed = c.in_ok-push.ensures.items ∙ ap (λ (z : List ℤ). found ++ z ∷ []) c.of.ensures in
    let n = number_here xs c.loop-array.array-index _ c.array-item.result found c.loop-array-test.true c.array-item.is
    c.loop-array.invariant.count in
    let read = subst (λ (k : ℕ). values_at k c.loop-array.rest.now ≡ Ok (items, c.in_ok-items.after.now)) n c.in_ok-items.ensures.read in
    let within : c.loop-array.array-index < length (lengths_in xs) = omega (arith, lengths_length xs, c.loop-array-test.true) in
    record {
      read = rw pushed (goes_on (λ before. values_at (slice_index (lengths_in xs) (length before))) found
          (length (lengths_in xs)) c.loop-array.array-index c.loop-array.rest.now items c.in_ok-items.after.now
          (arrays_at (lengths_in xs) c.args.bytes.now) within read c.loop-array.invariant.read);
      count = rw pushed (length_push found items ∙ ap (λ n. n + 1) c.loop-array.invariant.count);
      lengths = rw pushed (arrays_more xs c.loop-array.array-index _ c.array-item.result found items c.loop-array-test.true c.array-item.is
          c.in_ok-items.ensures.count c.loop-array.invariant.lengths);
    }

pub returns-clause-read : goal.returns-clause-read
returns-clause-read c =
    let xs = c.args.arrays.now in
    is_done (λ before. values_at (slice_index (lengths_in xs) (length before))) c.loop-array.found.items
    (length (lengths_in xs)) c.loop-array.array-index c.loop-array.rest.now (arrays_at (lengths_in xs) c.args.bytes.now)
    (omega (arith, lengths_length xs, c.loop-array-test.false)) c.loop-array.invariant.read

pub returns-clause-lengths : goal.returns-clause-lengths
returns-clause-lengths c = all_arrays c.args.arrays.now c.loop-array.array-index c.loop-array.found.items c.loop-array-test.false
    c.loop-array.invariant.lengths
