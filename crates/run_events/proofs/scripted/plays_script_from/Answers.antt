use Rattle.std.proofs.Common.{ℕ, ◌≡◌, ◌<◌, subst, rules}
use Rattle.rank_text.specs.Scripts.Script.{orders_of}
use Rattle.run_events.specs.Scripted.{used_lines}
use Rattle.run_events.proofs.WithScript.{goes_with}
use Rattle.run_events.proofs.scripted.plays_script_from.Goals as goal

-- src/scripted.rt
pub returns : goal.returns
returns c = λ yes.
    goes_with c.args.world.now c.args.ranks c.args.run.now c.args.script.now c.args.unused.now c.args.events.now c.in-Some.lines.items c.taken.new.world
    (search rules)
    (subst (λ z. (r : ℕ) → r < c.args.ranks → orders_of r z ≡ used_lines c.args.script.now c.args.unused.now r) c.as_slice.ensures.value
    (c.in_ok-are_used.ensures c.if-not-branch.false))
    (c.are_back.ensures c.if-not-are_back.false) c.law_stands.ensures.stands (c.is_there.ensures.world_size yes) (c.is_there.ensures.run_size yes)
    c.is_there.ensures.simulates (c.is_there.ensures.same yes)
