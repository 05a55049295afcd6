-- The choices of a run that is made: each is noted where the machine of its rank stands, and the steps that led there are counted.
use Rattle.std.proofs.Common.{◌≡◌, ℕ, ◌<◌, Bool, List, [], ◌∷◌, ◌++◌, Option, Some, None, length, slice_get, refl, sym, ap, subst, ◌∙◌}
use Rattle.std.specs.Prelude.{IsSomeAnd}
use Rattle.std.proofs.lemmas.Option.{slice_get_within}
use Rattle.rank_language.specs.Program.{ProgramValue}
use Rattle.rank_machine.specs.declared.want.Want.{Want}
use Rattle.rank_machine.specs.Wants.{payload}
use Rattle.rank_machine.specs.Acts.{Act, Fits}
use Rattle.rank_machine.specs.Machine.{MachineValue, state_of, machine_want}
use Rattle.crash_free.specs.Runs.{Passed, history, looked_up}
use Rattle.crash_free.specs.Sim.{SimValue, Simulates, Allows, inbound_of}
use Rattle.crash_free.specs.Wanted.{StandsAtAct, Wants, WantsAt}
use Rattle.explore.specs.declared.moves.Move.{Move}
use Rattle.explore.specs.declared.moves.Noted.{Noted}
use Rattle.explore.specs.declared.path.Path.{Path}
use Rattle.explore.specs.Chosen.{HasChoices, IsChoice, IsNotedOf, IsNoteAt, KeepsChoices, MakesChoices, is_probe}
use Rattle.explore.specs.Counting.{HasMade}
use Rattle.explore.specs.Counts.{Counts, KeepsCount}
use Rattle.explore.specs.Exploring.{and_then}
use Rattle.explore.specs.Making.{LeadsTo}
use Rattle.explore.specs.Searching.{Begins, IsAlike}
use Rattle.explore.proofs.Choosing.{IsChosen, IsStep, act_of_choice, goes_by}
use Rattle.explore.specs.declared.send_mode.SendMode.{SendMode}
use Rattle.explore.specs.Sending.{IsReleasedAt}

-- acts that are no choices leave the choices as they were
choices_behind : (mode : SendMode) → (program : ProgramValue) (n : ℕ) (later P : List Passed) (choices : List Noted) → MakesChoices mode program n P choices
    → MakesChoices mode program n (later ++ P) choices
choices_behind mode program n [] P choices made = made
choices_behind mode program n (p ∷ later) P choices made = MakesChoices.passes p.rank p.act (choices_behind mode program n later P choices made)

-- and the ranks of another simulation of the same program make them too, in the same run
choices_alike : (mode : SendMode) → (s s' : SimValue) (run : List Passed) (choices : List Noted) → s'.program ≡ s.program → length s'.machines ≡ length s.machines
    → s'.run ≡ run → MakesChoices mode s.program (length s.machines) run choices → MakesChoices mode s'.program (length s'.machines) s'.run choices
choices_alike mode s s' run choices program ranks same made =
    subst (λ p. MakesChoices mode p (length s'.machines) s'.run choices) (sym program)
    (subst (λ n. MakesChoices mode s.program n s'.run choices) (sym ranks)
    (subst (λ C. MakesChoices mode s.program (length s.machines) C choices) (sym same) made))

-- what a machine asks for says whether that is a probe
pub probe_asked : (machines : List MachineValue) (r : ℕ) (w : Want) (probes : Bool) → WantsAt machines r w → probes ≡ is_probe w
    → IsSomeAnd (slice_get machines r) (λ machine. probes ≡ is_probe (machine_want machine))
probe_asked machines r w probes wants same = go (slice_get machines r) wants
  where
    go : (o : Option MachineValue) → IsSomeAnd o (λ m. Wants m w) → IsSomeAnd o (λ machine. probes ≡ is_probe (machine_want machine))
    go (Some m) asks = same ∙ ap is_probe (sym asks.at_want)
    go None asks = absurd asks

-- a note that is taken of the machine of a rank
pub note_there : (machines : List MachineValue) (m : Move) (machine : MachineValue) (position : ℕ) (probes : Bool)
    → slice_get machines m.rank ≡ Some machine → position ≡ machine.position
    → IsSomeAnd (slice_get machines m.rank) (λ x. probes ≡ is_probe (machine_want x))
    → IsNoteAt machines m (record { chosen = m; position = position; probes = probes })
note_there machines m machine position probes there same asks = (
  refl,
  subst (λ o. IsSomeAnd o (λ x. (position ≡ x.position) × (probes ≡ is_probe (machine_want x)))) (sym there)
      (same, subst (λ o. IsSomeAnd o (λ x. probes ≡ is_probe (machine_want x))) there asks),
)

-- the newest act of a run, or this one if there is none
newest : Act → List Passed → Act
newest act [] = act
newest act (p ∷ P) = p.act

-- A note of a move that is made
module _ (mode : SendMode) (s s' : SimValue) (c : Noted) (left : List ℕ) (steps : ℕ) (now : Simulates s) (then : Simulates s')
    (at : StandsAtAct s.machines c.chosen.rank) (released : IsReleasedAt mode s c.chosen.rank) (allows : Allows s c.chosen.rank c.chosen.choice s') (counts : Counts steps s left)
    (noted : IsSomeAnd (slice_get s.machines c.chosen.rank) (λ machine. IsNotedOf c machine)) where
  step : IsStep s c.chosen.rank s'
  step = goes_by s s' c.chosen.rank c.chosen.choice now then at allows

  picked : IsChosen s c.chosen.rank c.chosen.choice s'
  picked = act_of_choice s s' c.chosen.rank c.chosen.choice now then at allows

  same_act : step.act ≡ picked.act
  unfolding step newest picked
  same_act = ap (newest step.act) (sym step.run ∙ picked.run)

  -- it is a choice of the run
  note_is_choice : IsChoice mode s.program (length s.machines) s.run c picked.act
  note_is_choice =
      let low : c.chosen.rank < length s.machines = slice_get_within s.machines c.chosen.rank step.machine step.there in
      let count = counts c.chosen.rank low in
      record {
        stands_for = ((picked.may.0, picked.may.1, released), picked.same);
        machine = step.machine;
        steps = count.0;
        made = subst (λ o. IsSomeAnd o (λ m. HasMade s.program (length s.machines) c.chosen.rank (history s.run c.chosen.rank) count.0 m)) step.there count.1;
        asks =
            subst (λ a. Fits (machine_want step.machine) (payload (state_of step.machine)) a (looked_up (inbound_of s.run c.chosen.rank) a)) same_act
            step.fits;
        noted = subst (λ o. IsSomeAnd o (λ machine. IsNotedOf c machine)) step.there noted;
      }

  choices_with : (choices : List Noted) → MakesChoices mode s.program (length s.machines) s.run choices
      → MakesChoices mode s'.program (length s'.machines) s'.run (choices ++ c ∷ [])
  choices_with choices made =
      choices_alike mode s s' (and_then s.run c.chosen.rank picked.act) (choices ++ c ∷ []) step.program step.ranks picked.run
      (MakesChoices.chooses c picked.act made note_is_choice)

-- a move that is noted as a choice is one more
pub choice_made : (mode : SendMode) → (p p' : Path) (m : Move) (c : Noted) → Simulates p.sim → Simulates p'.sim → StandsAtAct p.sim.machines m.rank
    → IsReleasedAt mode p.sim m.rank → Allows p.sim m.rank m.choice p'.sim → IsNoteAt p.sim.machines m c → p'.choices.items ≡ p.choices.items ++ c ∷ [] → KeepsChoices mode p p'
choice_made mode p p' m c now then at released allows note more steps counts made =
    subst (λ cs. MakesChoices mode p'.sim.program (length p'.sim.machines) p'.sim.run cs) (sym more)
    (choices_with mode p.sim p'.sim c p.left steps now then
    (subst (λ (x : Move). StandsAtAct p.sim.machines x.rank) (sym note.0) at)
    (subst (λ (x : Move). IsReleasedAt mode p.sim x.rank) (sym note.0) released)
    (subst (λ (x : Move). Allows p.sim x.rank x.choice p'.sim) (sym note.0) allows) counts
    (subst (λ (x : Move). IsSomeAnd (slice_get p.sim.machines x.rank) (λ machine. IsNotedOf c machine)) (sym note.0) note.1) p.choices.items made)

-- and one that isn't noted leaves them
pub choice_passed : (mode : SendMode) → (p p' : Path) (m : Move) → Simulates p.sim → Simulates p'.sim → StandsAtAct p.sim.machines m.rank
    → Allows p.sim m.rank m.choice p'.sim → p'.choices.items ≡ p.choices.items → KeepsChoices mode p p'
choice_passed mode p p' m now then at allows same steps counts made =
    let step : IsStep p.sim m.rank p'.sim = goes_by p.sim p'.sim m.rank m.choice now then at allows in
    subst (λ cs. MakesChoices mode p'.sim.program (length p'.sim.machines) p'.sim.run cs) (sym same)
    (choices_alike mode p.sim p'.sim (and_then p.sim.run m.rank step.act) p.choices.items step.program step.ranks step.run
    (MakesChoices.passes m.rank step.act made))

-- acts that are fixed and then a move, behind those of a path
pub chosen_further : (mode : SendMode) → (b p m p' : Path) → KeepsCount b.sim b.left p.sim p.left → KeepsChoices mode b p → LeadsTo mode p.sim m.sim
    → KeepsCount p.sim p.left m.sim m.left → m.choices.items ≡ p.choices.items → KeepsChoices mode m p' → KeepsChoices mode b p'
chosen_further mode b p m p' counted before leads counts same then steps at_first made =
    let here : Counts steps p.sim p.left = counted steps at_first in
    let behind = leads.behind in
    then steps (counts steps here)
    (subst (λ cs. MakesChoices mode m.sim.program (length m.sim.machines) m.sim.run cs) (sym same)
    (choices_alike mode p.sim m.sim (behind.0 ++ p.sim.run) p.choices.items leads.program leads.ranks behind.1
    (choices_behind mode p.sim.program (length p.sim.machines) behind.0 p.sim.run p.choices.items (before steps at_first made))))

-- the acts alone
pub chosen_on : (mode : SendMode) → (b p m : Path) → KeepsCount b.sim b.left p.sim p.left → KeepsChoices mode b p → LeadsTo mode p.sim m.sim → m.choices.items ≡ p.choices.items
    → KeepsChoices mode b m
chosen_on mode b p m counted before leads same steps at_first made =
    let behind = leads.behind in
    subst (λ cs. MakesChoices mode m.sim.program (length m.sim.machines) m.sim.run cs) (sym same)
    (choices_alike mode p.sim m.sim (behind.0 ++ p.sim.run) p.choices.items leads.program leads.ranks behind.1
    (choices_behind mode p.sim.program (length p.sim.machines) behind.0 p.sim.run p.choices.items (before steps at_first made)))

-- So in the run of a path from the beginning on its choices were made, which are those that were to be made.
pub choices_there : (mode : SendMode) → (program : ProgramValue) (n steps : ℕ) (b p : Path) (choices : List Noted) → Begins program n b → Counts steps b.sim b.left
    → b.choices.items ≡ [] → KeepsChoices mode b p → IsAlike b.sim p.sim → p.choices.items ≡ choices → MakesChoices mode program n p.sim.run choices
choices_there mode program n steps b p choices begins counts none keeps alike same =
    let empty : HasChoices mode b =
    subst (λ cs. MakesChoices mode b.sim.program (length b.sim.machines) b.sim.run cs) (sym none)
    (subst (λ C. MakesChoices mode b.sim.program (length b.sim.machines) C []) (sym begins.run) MakesChoices.begins) in
    subst (λ cs. MakesChoices mode program n p.sim.run cs) same
    (subst (λ k. MakesChoices mode program k p.sim.run p.choices.items) (alike.ranks ∙ begins.ranks)
    (subst (λ q. MakesChoices mode q (length p.sim.machines) p.sim.run p.choices.items) (alike.program ∙ begins.program_same) (keeps steps counts empty)))
