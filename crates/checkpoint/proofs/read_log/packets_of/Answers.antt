use Rattle.std.proofs.Common.{◌≡◌, ◌+◌, [], ℕ, Ok, ap, sym, ◌∙◌, subst}
use Rattle.std.proofs.lemmas.List.{length_push}
use Rattle.matching.specs.PacketValue.{PacketValue}
use Rattle.std.proofs.lemmas.Result.{err_from_is_err_and}
use Rattle.checkpoint.specs.Reading.{Fails, many_at, kept_at, kept_above, last_clock}
use Rattle.checkpoint.proofs.Loop.{goes_on, ends, is_done, last_clock-push}
use Rattle.checkpoint.proofs.read_log.packets_of.Goals as goal
use Rattle.payload_log.proofs.BacklogLemmas.{numbered_push}

pub returns-in_err-packet-clause-read : goal.returns-in_err-packet-clause-read
returns-in_err-packet-clause-read c =
    let p = err_from_is_err_and c.from_residual.result c.from_residual.ensures.1 in
    rw (p.1, p.2) (ends (kept_at c.args.rank c.args.most c.args.base) c.in_err-packet.field-0.0 c.loop-place.packets.items c.args.count
    c.loop-place.place c.loop-place.rest.now (many_at (kept_at c.args.rank c.args.most c.args.base) c.args.count [] c.args.bytes.now)
    c.loop-place-test.true (subst (λ (n : ℕ). Fails c.in_err-packet.field-0.0
    (kept_above c.args.rank c.args.most (last_clock c.loop-place.packets.items) (c.args.base + n + 1) c.loop-place.rest.now))
    (sym c.loop-place.invariant.count)
    (subst (λ (n : ℕ). Fails c.in_err-packet.field-0.0 (kept_above c.args.rank c.args.most n (c.args.base + c.loop-place.place + 1)
    c.loop-place.rest.now)) c.loop-place.invariant.above c.in_err-packet.ensures.read)) c.loop-place.invariant.read)

pub loop-place-preserved : goal.loop-place-preserved
loop-place-preserved c =
    let pushed = c.in_ok-push_back.ensures.items in
    let i = c.loop-place.invariant in
    let m = c.in_ok-packet.packet in
    let ms = c.loop-place.packets.items in
    let after = c.in_ok-packet.after.now in
    let one = subst (λ (n : ℕ). kept_above c.args.rank c.args.most n (c.args.base + c.loop-place.place + 1) c.loop-place.rest.now
    ≡ Ok (m, after)) i.above c.in_ok-packet.ensures.read in
    let read = subst (λ (n : ℕ). kept_above c.args.rank c.args.most (last_clock ms) (c.args.base + n + 1) c.loop-place.rest.now
    ≡ Ok (m, after)) (sym i.count) one in
    let total = many_at (kept_at c.args.rank c.args.most c.args.base) c.args.count [] c.args.bytes.now in
    record {
      read = rw pushed (goes_on (kept_at c.args.rank c.args.most c.args.base) ms c.args.count c.loop-place.place c.loop-place.rest.now m
          after total c.loop-place-test.true read i.read);
      count = rw pushed (length_push ms m ∙ ap (λ n. n + 1) i.count);
      numbered = rw pushed (numbered_push c.args.base ms m i.numbered (c.in_ok-packet.ensures.number ∙ ap (λ n. c.args.base + n + 1)
          (sym i.count)));
      above = ap (λ (x : PacketValue). x.clock) c.packet.view_is ∙ sym (ap last_clock pushed ∙ last_clock-push ms m);
    }

pub returns-clause-read : goal.returns-clause-read
returns-clause-read c = is_done (kept_at c.args.rank c.args.most c.args.base) c.loop-place.packets.items c.args.count c.loop-place.place
    c.loop-place.rest.now (many_at (kept_at c.args.rank c.args.most c.args.base) c.args.count [] c.args.bytes.now) c.loop-place-test.false
    c.loop-place.invariant.read
