use Rattle.std.proofs.Common.{◌+◌, ◌∙◌, ap}
use Rattle.std.proofs.lemmas.Result.{err_from_is_err_and}
use Rattle.std.proofs.lemmas.List.{length_push}
use Rattle.std.proofs.lemmas.Int.{to_z-of_z}
use Rattle.std.specs.Int.{w64}
use Rattle.checkpoint.specs.Reading.{value_at, values_at}
use Rattle.checkpoint.proofs.Loop.{goes_on, ends, is_done}
use Rattle.checkpoint.proofs.reading.values_of.Goals as goal

pub returns-in_err-value-clause-read : goal.returns-in_err-value-clause-read
returns-in_err-value-clause-read c =
    let p = err_from_is_err_and c.from_residual.result c.from_residual.ensures.1 in
    rw (p.1, p.2) (ends (λ before. value_at) c.in_err-value.field-0.0 c.loop.values.items c.args.count c.loop.counter c.loop.rest.now
    (values_at c.args.count c.args.bytes.now) c.loop-test.true c.in_err-value.ensures.read c.loop.invariant.read)

pub loop-preserved : goal.loop-preserved
loop-preserved c = record {
  read =
      let signed = to_z-of_z w64 c.in_ok-value.value c.in_ok-value.ensures.range in
      rw (c.in_ok-push.ensures.items, signed) (goes_on (λ before. value_at) c.loop.values.items c.args.count c.loop.counter c.loop.rest.now
      c.in_ok-value.value c.in_ok-value.after.now (values_at c.args.count c.args.bytes.now) c.loop-test.true c.in_ok-value.ensures.read
      c.loop.invariant.read);
  count = rw c.in_ok-push.ensures.items (length_push c.loop.values.items _ ∙ ap (λ n. n + 1) c.loop.invariant.count);
}

pub returns-clause-read : goal.returns-clause-read
returns-clause-read c = is_done (λ before. value_at) c.loop.values.items c.args.count c.loop.counter c.loop.rest.now
    (values_at c.args.count c.args.bytes.now) c.loop-test.false c.loop.invariant.read
