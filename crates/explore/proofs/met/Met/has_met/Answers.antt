use Rattle.std.proofs.Common.{◌≡◌, ap, length, refl, sym, subst, ◌∙◌, arith}
use Rattle.std.proofs.lemmas.List.{length-reverse}
use Rattle.explore.specs.LastState.{Knows}
use Rattle.explore.specs.Parts.{KeepsParts}
use Rattle.explore.proofs.Joining.{states_stay, state_among}
use Rattle.explore.proofs.met.Met.has_met.Goals as goal

pub state_of-requires-clause-knows : goal.state_of-requires-clause-knows
state_of-requires-clause-knows c =
    let s = c.args.sim.now in
    c.catch_up.ensures.knows c.args.live.now s.program (length s.machines) s.run c.keep_new.new.self c.acts.ensures
    (subst (λ parts. Knows c.args.live.now s.program (length s.machines) s.run parts c.args.last.now) (sym (c.keep_new.ensures ∙ ap (λ z. z.parts) c.self.view_is))
    c.requires.knows)

pub state_of-requires-clause-caught_up : goal.state_of-requires-clause-caught_up
state_of-requires-clause-caught_up c =
    let within = c.requires.knows.within in
    let long : length c.acts.result.now ≡ length c.args.sim.now.run = ap length c.acts.ensures ∙ length-reverse c.args.sim.now.run in
    c.catch_up.ensures.all (omega (arith, within, long)) ∙ long

pub invariant_of-self : goal.invariant_of-self
invariant_of-self c =
    (states_stay c.self.inside.parts c.state_of.new.parts c.state_of.new.parts c.self.inside.states c.self.inside.states c.args.self.now.states
    (subst (λ old. KeepsParts old c.state_of.new.parts) c.keep_new.ensures c.state_of.ensures.keeps) refl c.self.invariant
    (ap (λ z. z.states) c.self.view_is) refl).0

pub invariant_of-self-2 : goal.invariant_of-self-2
invariant_of-self-2 c =
    (states_stay c.self.inside.parts c.state_of.new.parts c.keep_new-2.new.self c.self.inside.states c.self.inside.states c.args.self.now.states
    (subst (λ old. KeepsParts old c.state_of.new.parts) c.keep_new.ensures c.state_of.ensures.keeps) c.keep_new-2.ensures c.self.invariant
    (ap (λ z. z.states) c.self.view_is) refl).0

pub invariant_of-self-in_default : goal.invariant_of-self-in_default
invariant_of-self-in_default c =
    (states_stay c.self.inside.parts c.state_of.new.parts c.keep_new-2.new.self c.self.inside.states c.self.inside.states c.args.self.now.states
    (subst (λ old. KeepsParts old c.state_of.new.parts) c.keep_new.ensures c.state_of.ensures.keeps) c.keep_new-2.ensures c.self.invariant
    (ap (λ z. z.states) c.self.view_is) refl).0

pub returns-in_default-clause-same : goal.returns-in_default-clause-same
returns-in_default-clause-same c =
    record {
      closes = ap (λ z. z.closes) c.self.view_is;
      states =
          (states_stay c.self.inside.parts c.state_of.new.parts c.keep_new-2.new.self c.self.inside.states c.self.inside.states c.args.self.now.states
          (subst (λ old. KeepsParts old c.state_of.new.parts) c.keep_new.ensures c.state_of.ensures.keeps) c.keep_new-2.ensures c.self.invariant
          (ap (λ z. z.states) c.self.view_is) refl).1;
    }

pub returns-clause-yes : goal.returns-clause-yes
returns-clause-yes c = λ e.
    (let found = rw c.in-Some.is at c.in_ok-state.ensures.parts in (
      found.0,
      state_among c.state_of.new.parts c.keep_new-2.new.self c.self.inside.states c.self.inside.states c.in-Some.state found.0 c.keep_new-2.ensures refl found.1
          (c.contains.ensures (let one = e in cc)),
      found.2,
    ))

pub returns-clause-same : goal.returns-clause-same
returns-clause-same c =
    record {
      closes = ap (λ z. z.closes) c.self.view_is;
      states =
          (states_stay c.self.inside.parts c.state_of.new.parts c.keep_new-2.new.self c.self.inside.states c.self.inside.states c.args.self.now.states
          (subst (λ old. KeepsParts old c.state_of.new.parts) c.keep_new.ensures c.state_of.ensures.keeps) c.keep_new-2.ensures c.self.invariant
          (ap (λ z. z.states) c.self.view_is) refl).1;
    }
