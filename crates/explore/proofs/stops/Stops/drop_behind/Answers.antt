use Rattle.std.proofs.Common.{rules, ◌≡◌, refl, subst}
use Rattle.std.specs.Prelude.{nat_le}
use Rattle.std.specs.List.{filter}
use Rattle.std.proofs.lemmas.Bool.{leb-true}
use Rattle.std.proofs.lemmas.Fn.{filter_same}
use Rattle.explore.specs.declared.stops.Stop.{Stop}
use Rattle.explore.specs.Outcomes.{IsAmong}
use Rattle.explore.proofs.Keeping.{among_kept}
use Rattle.explore.proofs.stops.Stops.drop_behind.Goals as goal

pub returns-clause-some : goal.returns-clause-some
returns-clause-some c =
    let kept : c.retain.new.self.items ≡ filter (λ (s : Stop). nat_le s.point.made c.args.shared) c.args.self.now.later.items =
    filter_same _ _ _ (λ x b f' k. search rules) _ _ c.retain.ensures.filtered in
    record {
      first = refl;
      later =
          λ stop a.
          (among_kept (λ (s : Stop). nat_le s.point.made c.args.shared) c.args.self.now.later.items stop (subst (λ xs. IsAmong xs stop) kept a)).0;
    }

pub returns-clause-within : goal.returns-clause-within
returns-clause-within c = λ stop a.
    (let kept : c.retain.new.self.items ≡ filter (λ (s : Stop). nat_le s.point.made c.args.shared) c.args.self.now.later.items =
    filter_same _ _ _ (λ x b f' k. search rules) _ _ c.retain.ensures.filtered in
    let passes =
    (among_kept (λ (s : Stop). nat_le s.point.made c.args.shared) c.args.self.now.later.items stop (subst (λ xs. IsAmong xs stop) kept a)).1 in
    leb-true stop.point.made c.args.shared passes)
