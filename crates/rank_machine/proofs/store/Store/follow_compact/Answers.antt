use Rattle.std.proofs.Common.{◌≡◌, ℕ, inl, inr, refl, sym, subst, ◌∙◌}
use Rattle.rank_language.specs.declared.compact.Compact.{Compact}
use Rattle.rank_machine.proofs.Compacting.{IsTest, test_led}
use Rattle.rank_machine.proofs.store.Store.follow_compact.Goals as goal

-- each of these forms is a test
pub returns-in-EqualNumber-clause-next : goal.returns-in-EqualNumber-clause-next
returns-in-EqualNumber-clause-next c =
    let T : Compact → Type 0 = IsTest c.in-EqualNumber.unmet in
    c.test.ensures
    ∙ test_led c.args.self.now c.args.compact.now c.in-EqualNumber.unmet c.args.position
    (elim c.in-EqualNumber.is as (λ _. T c.args.compact.now) [
      | inl e ↦ subst T (sym e.2) refl
      | inr d ↦ elim d as (λ _. T c.args.compact.now) [
        | inl e ↦ subst T (sym e.2) refl
        | inr d ↦ elim d as (λ _. T c.args.compact.now) [
          | inl e ↦ subst T (sym e.2) refl
          | inr d ↦ elim d as (λ _. T c.args.compact.now) [
            | inl e ↦ subst T (sym e.2) refl
            | inr d ↦ elim d as (λ _. T c.args.compact.now) [
              | inl e ↦ subst T (sym e.2) refl
              | inr d ↦ elim d as (λ _. T c.args.compact.now) [
                | inl e ↦ subst T (sym e.2) refl
                | inr d ↦ elim d as (λ _. T c.args.compact.now) [
                  | inl e ↦ subst T (sym e.2) refl
                  | inr d ↦ elim d as (λ _. T c.args.compact.now) [
                    | inl e ↦ subst T (sym e.2) refl
                    | inr d ↦ elim d as (λ _. T c.args.compact.now) [
                      | inl e ↦ subst T (sym e.2) refl
                      | inr d ↦ elim d as (λ _. T c.args.compact.now) [
                        | inl e ↦ subst T (sym e.2) refl
                        | inr d ↦ elim d as (λ _. T c.args.compact.now) [
                          | inl e ↦ subst T (sym e.2) refl
                          | inr d ↦ elim d as (λ _. T c.args.compact.now) [
                            | inl e ↦ subst T (sym e.2) refl
                            | inr e ↦ subst T (sym e.1) refl
                          ]
                        ]
                      ]
                    ]
                  ]
                ]
              ]
            ]
          ]
        ]
      ]
    ])
