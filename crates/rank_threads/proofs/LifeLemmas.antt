-- What a life counts, by the end with which its station comes back; and life after life.
use Rattle.std.proofs.Common.{◌≡◌, ◌≢◌, ◌⊎◌, inl, inr, ℕ, Bool, true, false, is_some, Option, Some, None, refl, sym, ap, ◌∙◌}
use Rattle.event_logger.specs.Desks.{own_row}
use Rattle.rank_language.specs.Program.{ProgramValue}
use Rattle.rank_node.specs.Phases.{stable_in}
use Rattle.rank_node.specs.declared.fault.NodeFault.{NodeFault}
use Rattle.rank_node.specs.declared.fault.NodeFault.TheVariants as fault
use Rattle.rank_threads.specs.Endings.{IsKilledAt, crashes_after, crashes_by, end_after, stood_after}
use Rattle.rank_threads.specs.Keeping.{HasLived, IsToldToLeave, Lives, told, failed, last, again}
use Rattle.rank_threads.specs.Lives.{SamePlace}
use Rattle.rank_threads.specs.Stations.{HasRow}
use Rattle.rank_threads.specs.Used.{UsesLines}
use Rattle.rank_threads.specs.declared.life.ending.Ending.{Ending}
use Rattle.rank_threads.specs.declared.life.ending.Ending.TheVariants as ending
use Rattle.rank_threads.specs.declared.life.Life.{Life}
use Rattle.rank_threads.specs.Phases.{Begins, Phase}
use Rattle.rank_threads.specs.declared.life.station.Station.{Station}

-- the end tells whether the rank crashed
by_end : (o : Ending) (is_spent : Bool) (p : Phase) (crashes : ℕ) → crashes_after o crashes ≡ crashes_by (end_after o is_spent p) crashes
by_end (ending.Crashed killed) is_spent p crashes = refl
by_end (ending.Left reason) is_spent p crashes = refl

-- a life that began at a station and ended so was lived, and is counted by the end
pub has_lived : (program : ProgramValue) (old new : Station) (begun ended : Life) (how : Ending)
    → Begins program old.down old.row begun.node.phase → begun.kit.plan ≡ old.kit.plan → begun.kit.tally ≡ old.kit.tally
    → SamePlace begun ended → UsesLines how begun.kit.plan ended.kit.plan → IsKilledAt how ended.node.phase
    → ended.kit.tally.crashes ≡ crashes_after how begun.kit.tally.crashes
    → new.end ≡ end_after how ended.kit.tally.is_spent ended.node.phase
    → new.down ≡ stable_in ended.node.phase → new.kit.plan ≡ ended.kit.plan → new.kit.tally ≡ ended.kit.tally
    → new.stood ≡ stood_after how ended.node.phase → HasLived program old new
has_lived program old new begun ended how begins plan counts same lines killed counted leaves down left tally stands none = record {
  begun = begun;
  begins = begins;
  plan = plan;
  counts = counts;
  ended = ended;
  same = same;
  how = how;
  lines = lines;
  killed = killed;
  leaves = leaves;
  left = left;
  shelf = ap (λ s. s.shelf) down;
  stored = ap (λ s. own_row s.desk) down;
  stands = stands;
  steps = ap (λ t. t.steps) tally;
  spent = ap (λ t. t.is_spent) tally;
  crashes =
      ap (λ t. t.crashes) tally ∙ counted ∙ ap (λ t. crashes_after how t.crashes) counts
      ∙ by_end how ended.kit.tally.is_spent ended.node.phase old.kit.tally.crashes
      ∙ ap (λ e. crashes_by e old.kit.tally.crashes) (sym leaves);
}

-- if a rank met a fault nothing is said
pub met_fault : (program : ProgramValue) (old new : Station) (f : NodeFault) → new.kit.tally.fault ≡ Some f → HasLived program old new
met_fault program old new f met none = (let both : Some f ≡ None = sym met ∙ none in absurd cc)

-- nor if it has one
pub has_fault : (program : ProgramValue) (old new : Station) → is_some new.kit.tally.fault ≡ true → HasLived program old new
has_fault program old new some none = (let gone : false ≡ true = ap is_some (sym none) ∙ some in absurd cc)

-- what comes behind a life, counts no crash, uses no line, and keeps shelf and stored events leaves
-- it as it was
pub lived_on : (program : ProgramValue) (old mid new : Station) → HasLived program old mid → (new.kit.tally.fault ≢ Some fault.Memory → new.kit.tally.fault ≡ mid.kit.tally.fault)
    → new.end ≡ mid.end → new.kit.plan ≡ mid.kit.plan → new.stood ≡ mid.stood → new.kit.tally.crashes ≡ mid.kit.tally.crashes → new.kit.tally.steps ≡ mid.kit.tally.steps
    → new.kit.tally.is_spent ≡ mid.kit.tally.is_spent → new.down.shelf ≡ mid.down.shelf → own_row new.down.desk ≡ own_row mid.down.desk
    → HasLived program old new
lived_on program old mid new lived kept end plan stood same steps spent shelf stored none =
    let life = lived (sym (kept (λ memory. (let both : None ≡ Some fault.Memory = sym none ∙ memory in absurd cc))) ∙ none) in
    record {
      begun = life.begun;
      begins = life.begins;
      plan = life.plan;
      counts = life.counts;
      ended = life.ended;
      same = life.same;
      how = life.how;
      lines = life.lines;
      killed = life.killed;
      leaves = end ∙ life.leaves;
      left = plan ∙ life.left;
      shelf = shelf ∙ life.shelf;
      stored = stored ∙ life.stored;
      stands = stood ∙ life.stands;
      steps = steps ∙ life.steps;
      spent = spent ∙ life.spent;
      crashes = same ∙ life.crashes ∙ ap (λ e. crashes_by e old.kit.tally.crashes) (sym end);
    }

-- a fault or none
well_or_not : (f : Option NodeFault) → (f ≡ None) ⊎ (f ≢ None)
well_or_not None = inl refl
well_or_not (Some e) = inr (λ both. absurd cc)

-- one life more, without a fault, by which the rank crashed
pub lives_on : (program : ProgramValue) (first old new : Station) → ((u : Station) → Lives program old u → Lives program first u)
    → HasLived program old new → new.end ≡ None → new.kit.tally.fault ≡ None → (new.end ≡ None → new.kit.tally.fault ≡ None → HasRow new) → (u : Station) → Lives program new u → Lives program first u
lives_on program first old new before lived crashed well row u rest = before u (again (lived well) well crashed (row crashed well) rest)

-- the last life, in which the rank left, or met a fault
pub lives_last : (program : ProgramValue) (first old new : Station) → ((u : Station) → Lives program old u → Lives program first u) → HasLived program old new
    → new.end ≢ None → Lives program first new
lives_last program first old new before lived left =
    elim (well_or_not new.kit.tally.fault) [ inl well ↦ before new (last (lived well) well left) | inr fault ↦ before new (failed fault) ]

-- the last life, behind which the rank has a fault, and is given up with it
pub lives_failed : (program : ProgramValue) (first old mid new : Station) → ((u : Station) → Lives program old u → Lives program first u)
    → is_some mid.kit.tally.fault ≡ true → new.kit.tally ≡ mid.kit.tally → Lives program first new
lives_failed program first old mid new before some same = before new (failed (λ none.
    let gone : false ≡ true = ap is_some (sym (ap (λ t. t.fault) (sym same) ∙ none)) ∙ some in
    absurd cc))

-- no life more, as the rank was told to leave
pub lives_told : (program : ProgramValue) (first old new : Station) → ((u : Station) → Lives program old u → Lives program first u) → IsToldToLeave old new
    → Lives program first new
lives_told program first old new before left = before new (told left)

-- what leads from life to life
pub ruleset keeper_laws = (lives_on, lives_last, lives_failed, lives_told)
