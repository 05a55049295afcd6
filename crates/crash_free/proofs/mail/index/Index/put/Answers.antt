use Rattle.crash_free.proofs.Putting.{put_in}
use Rattle.crash_free.proofs.mail.index.Index.put.Goals as goal

pub returns-clause-more : goal.returns-clause-more
returns-clause-more c =
    let i = c.self.inside in
    let done = put_in c.args.self.now c.number.new.self i.kinds.entries i.queues.items c.in_ok-queue.queue c.args.kind c.args.place
    c.index_mut-queue.result.now c.push.new.self c.push.result c.self.view_is c.self.invariant c.in_ok-queue.ensures.queues c.in_ok-queue.ensures.ok
    c.index_mut-queue.ensures.value c.push.ensures.ok c.push.ensures.err in
    done.more

pub returns-clause-ok : goal.returns-clause-ok
returns-clause-ok c =
    let i = c.self.inside in
    let done = put_in c.args.self.now c.number.new.self i.kinds.entries i.queues.items c.in_ok-queue.queue c.args.kind c.args.place
    c.index_mut-queue.result.now c.push.new.self c.push.result c.self.view_is c.self.invariant c.in_ok-queue.ensures.queues c.in_ok-queue.ensures.ok
    c.index_mut-queue.ensures.value c.push.ensures.ok c.push.ensures.err in
    done.ok
