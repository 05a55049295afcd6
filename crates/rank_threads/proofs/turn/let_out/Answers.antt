use Rattle.std.proofs.Common.{refl, sym, ap, subst, ◌∙◌}
use Rattle.rank_node.specs.Phases.{clock_in}
use Rattle.rank_threads.proofs.GateLemmas.{took_image}
use Rattle.rank_threads.proofs.SeatLemmas.{place_on}
use Rattle.rank_threads.specs.Phases.{gate_in}
use Rattle.rank_threads.specs.Used.{MayUseOne}
use Rattle.rank_threads.proofs.turn.let_out.Goals as goal

-- the gate was cleared, and what went out then left it so
pub returns : goal.returns
returns g c =
    let old = c.args.life.now in
    let mid = c.clear_gate.new.life in
    let new = c.put_out.new.life in
    let gate = c.in_ok-clear_gate.ensures in
    let put = c.in_ok-put_out.ensures in
    record {
      lets = record {
        nothing = λ owed none. put.nothing (gate.cleared.owing owed) none;
        settled = λ leaves well. ap (λ g. g.waiting) put.kept.gate.0 ∙ gate.settled leaves refl (sym put.kept.gate.1 ∙ well);
        kept = λ leaves. put.kept.gate.0 ∙ ap (λ l. gate_in l.node.phase) (gate.left leaves);
        image = λ imaged runs well.
            took_image (clock_in old.node.phase) mid.node.phase new.node.phase
            (gate.cleared.image refl imaged (sym put.kept.gate.1 ∙ well) (gate.cleared.runs ∙ runs)) gate.cleared.clock put.kept.gate.2;
        unimaged = λ none. put.kept.gate.2 ∙ gate.cleared.unimaged none;
        replays = λ none. put.kept.gate.2 ∙ gate.cleared.replays (gate.cleared.runs ∙ none);
        unasked = λ none. put.kept.plan ∙ gate.cleared.unasked none;
        lines = subst (MayUseOne c.args.is_asked old.kit.plan) (sym put.kept.plan) gate.cleared.lines;
        same = (place_on old mid new gate.cleared.same.0 put.kept.same.0, put.kept.same.1 ∙ gate.cleared.same.1);
      };
    }
