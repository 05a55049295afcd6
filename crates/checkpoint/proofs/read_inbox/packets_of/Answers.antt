use Rattle.std.proofs.Common.{◌≡◌, List, ℕ, ◌+◌, ◌-◌, Ok, ap, sym, ◌∙◌, subst}
use Rattle.matching.specs.Inbox.{Mailbox}
use Rattle.std.proofs.lemmas.Result.{err_from_is_err_and}
use Rattle.checkpoint.specs.Reading.{Fails, many_at, packet_at}
use Rattle.checkpoint.proofs.Loop.{goes_on, ends, is_done}
use Rattle.checkpoint.proofs.read_inbox.packets_of.Goals as goal

pub returns-in_err-packet-clause-read : goal.returns-in_err-packet-clause-read
returns-in_err-packet-clause-read c =
    let p = err_from_is_err_and c.from_residual.result c.from_residual.ensures.1 in
    let failed = subst (λ (a : List ℕ). Fails c.in_err-packet.field-0.0 (packet_at c.args.size a c.loop.inbox.packets c.loop.rest.now))
    c.loop.invariant.stays c.in_err-packet.ensures.read in
    rw (p.1, p.2) (ends (packet_at c.args.size c.args.inbox.accepted) c.in_err-packet.field-0.0 c.loop.inbox.packets c.args.count
    c.loop.counter c.loop.rest.now (many_at (packet_at c.args.size c.args.inbox.accepted) c.args.count c.args.inbox.packets
    c.args.bytes.now) c.loop-test.true failed c.loop.invariant.read)

pub loop-preserved : goal.loop-preserved
loop-preserved c =
    let put = c.in_ok-put_back.ensures.ok in
    let read = subst (λ (a : List ℕ). packet_at c.args.size a c.loop.inbox.packets c.loop.rest.now
    ≡ Ok (c.in_ok-packet.packet, c.in_ok-packet.after.now)) c.loop.invariant.stays c.in_ok-packet.ensures.read in
    let total = many_at (packet_at c.args.size c.args.inbox.accepted) c.args.count c.args.inbox.packets c.args.bytes.now in
    let on = goes_on (packet_at c.args.size c.args.inbox.accepted) c.loop.inbox.packets c.args.count c.loop.counter c.loop.rest.now
    c.in_ok-packet.packet c.in_ok-packet.after.now total c.loop-test.true read c.loop.invariant.read in
    record {
      read = subst (λ (b : Mailbox). many_at (packet_at c.args.size c.args.inbox.accepted) (c.args.count - (c.loop.counter + 1)) b.packets
          c.in_ok-packet.after.now ≡ total) (sym put) on;
      stays = ap (λ (b : Mailbox). b.accepted) put ∙ c.loop.invariant.stays;
    }

pub returns-clause-read : goal.returns-clause-read
returns-clause-read c = is_done (packet_at c.args.size c.args.inbox.accepted) c.loop.inbox.packets c.args.count c.loop.counter
    c.loop.rest.now (many_at (packet_at c.args.size c.args.inbox.accepted) c.args.count c.args.inbox.packets c.args.bytes.now)
    c.loop-test.false c.loop.invariant.read
