use Rattle.std.proofs.Common.{◌∙◌}
use Rattle.audit.proofs.Steps.{goes_on}
use Rattle.audit.proofs.Rounds.{all_play_on}
use Rattle.audit.proofs.auditor.Auditor.play.Goals as goal

pub loop-self-preserved : goal.loop-self-preserved
loop-self-preserved g c =
    let o = c.args.goal.now.outcome.now in
    let start = c.args.self.now.sim in
    let width = c.round.auto.left ∙ c.loop-self.invariant.width in
    let first = goes_on start c.loop-self.self.sim c.round.new.self.sim c.loop-self.self.traces.items c.round.new.self.traces.items c.loop-self.invariant.goes
    c.in_ok-round.ensures.goes in
    let played = all_play_on o c.args.left.now c.loop-self.left c.round.new.left start c.loop-self.self.sim c.round.new.self.sim c.loop-self.invariant.width
    c.loop-self.invariant.plays c.in_ok-round.ensures.plays in
    record {
      goes = goes_on start c.round.new.self.sim c.stretch.new.self.sim c.round.new.self.traces.items c.stretch.new.self.traces.items first c.stretch.ensures.goes;
      width = c.stretch.auto.left ∙ width;
      plays = all_play_on o c.args.left.now c.round.new.left c.stretch.new.left start c.round.new.self.sim c.stretch.new.self.sim width played
          (c.stretch.ensures.plays o);
    }

pub returns-clause-plays : goal.returns-clause-plays
returns-clause-plays g c =
    all_play_on c.args.goal.now.outcome.now c.args.left.now c.loop-self.left c.round.new.left c.args.self.now.sim c.loop-self.self.sim c.round.new.self.sim
    c.loop-self.invariant.width c.loop-self.invariant.plays c.in_ok-round.ensures.plays
