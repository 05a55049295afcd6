use Rattle.std.proofs.Common.{◌+◌, ◌≤◌, [], ◌∙◌, ap}
use Rattle.std.proofs.lemmas.Result.{err_from_is_err_and}
use Rattle.std.proofs.lemmas.List.{length_push}
use Rattle.std.proofs.lemmas.List.Elements.{All-push}
use Rattle.limits.specs.Limits.{greatest_clock}
use Rattle.checkpoint.specs.Reading.{many_at, count_at}
use Rattle.checkpoint.proofs.Loop.{goes_on, ends, is_done}
use Rattle.checkpoint.proofs.read_inbox.counts_of.Goals as goal

pub returns-in_err-count-clause-read : goal.returns-in_err-count-clause-read
returns-in_err-count-clause-read c =
    let p = err_from_is_err_and c.from_residual.result c.from_residual.ensures.1 in
    rw (p.1, p.2) (ends (λ before. count_at) c.in_err-count.field-0.0 c.loop.counts.items c.args.size c.loop.counter c.loop.rest.now
    (many_at (λ before. count_at) c.args.size [] c.args.bytes.now) c.loop-test.true c.in_err-count.ensures.read c.loop.invariant.read)

pub loop-preserved : goal.loop-preserved
loop-preserved c = record {
  read = rw c.in_ok-push.ensures.items (goes_on (λ before. count_at) c.loop.counts.items c.args.size c.loop.counter c.loop.rest.now
      c.in_ok-count.count c.in_ok-count.after.now (many_at (λ before. count_at) c.args.size [] c.args.bytes.now) c.loop-test.true
      c.in_ok-count.ensures.read c.loop.invariant.read);
  count = rw c.in_ok-push.ensures.items (length_push c.loop.counts.items _ ∙ ap (λ n. n + 1) c.loop.invariant.count);
  high = rw c.in_ok-push.ensures.items (All-push (λ n. n ≤ greatest_clock) c.loop.counts.items c.in_ok-count.count c.loop.invariant.high
      c.in_ok-count.ensures.high);
}

pub returns-clause-read : goal.returns-clause-read
returns-clause-read c = is_done (λ before. count_at) c.loop.counts.items c.args.size c.loop.counter c.loop.rest.now
    (many_at (λ before. count_at) c.args.size [] c.args.bytes.now) c.loop-test.false c.loop.invariant.read
