use Rattle.std.proofs.Common.{◌≡◌, inl, inr, sym, subst, rules, w64, to_z, of_z}
use Rattle.audit.specs.Playing.{IsNextLine, IsOfMessage}
use Rattle.audit.proofs.Refusing.{IsActless, no_event_next, no_line_next, no_act_wanted}
use Rattle.audit.proofs.auditor.Auditor.act.Goals as goal

pub returns-in-None-clause-none : goal.returns-in-None-clause-none
returns-in-None-clause-none c = λ no stands.
    no_event_next c.args.goal.now.outcome.now c.args.self.now.sim c.args.rank c.wants-want.result c.requires.keeps.simulates c.wants-want.ensures.wanted
    (elim c.in-Receive.is as (λ _. IsOfMessage c.wants-want.result) [
      | inl e ↦ subst IsOfMessage (sym e.1) tt
      | inr d ↦ elim d as (λ _. IsOfMessage c.wants-want.result) [
        | inl e ↦ subst IsOfMessage (sym e.1) tt
        | inr e ↦ subst IsOfMessage (sym e.1) tt
      ]
    ]) c.in-None.ensures.none

pub returns-else-is_next_line-clause-none : goal.returns-else-is_next_line-clause-none
returns-else-is_next_line-clause-none c = λ no stands.
    let h = c.is_next_line.ensures.no c.if-is_next_line.false in
    let same : to_z w64 (of_z w64 c.in-Print.value) ≡ c.in-Print.value = search rules in
    no_line_next c.args.goal.now.outcome.now c.args.self.now.sim c.args.rank c.in-Print.value c.requires.keeps.simulates c.in-Print.ensures.wanted
    (λ next. h (subst (λ v. IsNextLine c.args.goal.now.outcome.now c.args.self.now.sim c.args.rank v) (sym same) next))

pub returns-in-Internal-clause-none : goal.returns-in-Internal-clause-none
returns-in-Internal-clause-none c = λ no stands.
    no_act_wanted c.args.goal.now.outcome.now c.args.self.now.sim c.args.rank c.wants-want.result c.requires.keeps.simulates c.wants-want.ensures.wanted stands
    (elim c.in-Internal.is as (λ _. IsActless c.wants-want.result) [
      | inl e ↦ subst IsActless (sym e) tt
      | inr d ↦ elim d as (λ _. IsActless c.wants-want.result) [
        | inl e ↦ subst IsActless (sym e) tt
        | inr e ↦ subst IsActless (sym e.1) tt
      ]
    ])
