use Rattle.std.proofs.Common.{rules, subst, sym, false, ◌≡◌, ◌++◌, ◌∷◌, [], ◌<◌, ◌≤◌, ◌+◌, Some, arith, length, slice_get}
use Rattle.limits.specs.Limits.{most_ranks}
use Rattle.crash_free.proofs.Lists.{as_many_before, one_more, stands_at}
use Rattle.crash_free.specs.SendIndex.Sends.{run_before}
use Rattle.crash_free.specs.SendIndex.Tables.{HasSends}
use Rattle.run_shown.specs.Trace.Deliveries.{AreFoundUpTo, delivered, sent_at}
use Rattle.run_shown.proofs.TraceLaws.SentLemmas.{match_is_sent}
use Rattle.run_shown.proofs.TraceLaws.DeliveryLemmas.{found_more, none_found}
use Rattle.run_shown.proofs.trace.deliveries.deliveries_of.Goals as goal

pub loop-index-init : goal.loop-index-init
loop-index-init c = record {
  found = subst (λ z. AreFoundUpTo c.args.acts.now 0 z) (sym c.new-found.ensures.items) (none_found c.args.acts.now);
  noted = c.in_ok-sends.ensures.kept;
}

pub loop-index-preserved : goal.loop-index-preserved
loop-index-preserved c =
    let acts = c.args.acts.now in
    let index = c.loop-index.index in
    let p = c.index-acts-index.result in
    let there : slice_get acts index ≡ Some p = stands_at _ _ _ _ c.loop-index-test.true c.index-acts-index.is in
    let low : index ≤ length acts = (let below = c.loop-index-test.true in omega (arith, below)) in
    let few : p.rank < most_ranks = c.requires index p there in
    let is : sent_at acts c.send_for-send.result ≡ delivered (run_before acts index) p =
    subst (λ z. sent_at acts z ≡ delivered (run_before acts index) p)
    (sym (c.send_for-send.ensures.sent (run_before acts index) c.loop-index.invariant.noted)) (match_is_sent acts index p c.requires low few) in
    let items : c.push.new.self.items ≡ c.mark.new.found.items ++ record { send = c.send_for-send.result; taken = false } ∷ [] = search rules in
    record {
      found =
          subst (λ z. AreFoundUpTo acts (index + 1) z) (sym items)
          (found_more acts index c.loop-index.found.items c.mark.new.found.items _ p c.loop-index.invariant.found there is c.mark.ensures);
      noted =
          subst (λ z. HasSends z c.note.new.self) (sym (one_more acts index p there))
          (c.in_ok-note.ensures.kept (run_before acts index) (sym (as_many_before acts index low)) c.loop-index.invariant.noted);
    }
