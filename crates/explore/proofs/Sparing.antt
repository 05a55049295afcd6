-- A run that is looked at is one, and what it leaves needs no more than the rest of what is enough for it.
use Rattle.std.proofs.Common.{◌≡◌, ℕ, zero, ◌+◌, ◌<◌, ◌≤◌, List, [], ◌∷◌, ◌++◌, length, ◌⊎◌, inl, inr, sym, ap, subst, arith}
use Rattle.std.specs.Prelude.{drop, slice_index, sum_by}
use Rattle.std.proofs.lemmas.Option.{slice_get_within, get_or_from_slice_get}
use Rattle.std.proofs.lemmas.List.Sums.{sum_by-drop_more}
use Rattle.rank_language.specs.Program.{ProgramValue}
use Rattle.rank_machine.specs.Acts.{Act}
use Rattle.crash_free.specs.Runs.{Passed}
use Rattle.crash_free.specs.Sim.{SimValue, choice_of, start_of}
use Rattle.explore.specs.declared.moves.Move.{Move}
use Rattle.explore.specs.Exploring.{and_then}
use Rattle.explore.specs.Counts.{HaveStopped, NoneIsFixed, StopsAtAct}
use Rattle.explore.specs.Making.{LeadsTo}
use Rattle.explore.specs.Moves.{move_of, HasAll}
use Rattle.explore.specs.Outcomes.{IsAmong, AreDistinct}
use Rattle.explore.specs.Searching.{IsAlike, HaveLeft, NeedsAfter}
use Rattle.explore.specs.Stems.{Stem, StandsFor, IsRunOf, whole}
use Rattle.explore.specs.Small.{AreEnough, at_once, tree, EnoughFor, EnoughForAll, Spares, KeepsEnough}
use Rattle.explore.proofs.Choosing.{act_of_choice}
use Rattle.explore.proofs.Searching.{Moves, alike_back}
use Rattle.explore.proofs.Small.{sum_some, one_enough, enough_by, all_by, all_pop}
use Rattle.explore.specs.declared.send_mode.SendMode.{SendMode}

-- acts that are fixed need no run
pub along_enough : (mode : SendMode) → (s : SimValue) (old : List Stem) (mid s' : SimValue) (new : List Stem) → IsAlike s mid → LeadsTo mode mid s' → KeepsEnough mode s old mid new
    → KeepsEnough mode s old s' new
along_enough mode s old mid s' new alike leads keeps j k before here =
    let x = keeps j k before here in
    (x.0, x.1, x.2, enough_by mode s mid x.1 s'.run alike (leads.enough x.1 (enough_by mode mid s x.1 mid.run (alike_back s mid alike) x.3)), x.4)

-- and a run that came to its end, or where it stops, is one
pub spares_one : (mode : SendMode) → (s : SimValue) (old : List Stem) (s' : SimValue) (new : List Stem) → KeepsEnough mode s old s' new → Spares mode s old new
spares_one mode s old s' new keeps j k before here =
    let x = keeps j k before here in
    let some = one_enough mode (start_of s.program (length s.machines)) (length s.machines) x.1 s'.run x.3 in
    let few = x.4 in
    (x.0, x.2, omega (arith, some, few))

-- Where each rank has stopped, and each of the moves is of a rank that has steps left, no act is fixed.
pub none_fixed : (mode : SendMode) → (s : SimValue) (left : List ℕ) (moves : List Move) → HaveStopped mode s left → HaveLeft left moves → HasAll mode s moves → (r : ℕ)
    → NoneIsFixed mode s r
none_fixed mode s left moves stopped some all r act fix = go (stopped r fix.low)
  where
    go : (slice_index left r ≡ 0) ⊎ StopsAtAct mode s r → ⊥
    go (inl none) =
        let more = some (move_of r (choice_of act)) (all r act (fix.low, fix.may, fix.released)) in
        omega (arith, none, more)
    go (inr stops) = (stops fix.released).1 act fix

module _ (mode : SendMode) (s mid s' : SimValue) (pending new : List Stem) (moves : List Move) (first : Move)
    (made : Moves mode s mid s' pending new moves first) (once : AreDistinct moves) (none : (r : ℕ) → NoneIsFixed mode mid r) where
  -- what is enough before the moves is for all of them together
  pub moves_enough : (old : List Stem) → KeepsEnough mode s old mid pending → KeepsEnough mode s old s' new
  moves_enough old keeps j k before here =
      let x = keeps j k before here in
      by x.0 x.1 (all_by mode mid s x.0 pending (alike_back s mid made.alike) x.2) (enough_by mode mid s x.1 mid.run (alike_back s mid made.alike) x.3) x.4
    where
      by : (i l : ℕ) → EnoughForAll mode mid.program (length mid.machines) i pending → EnoughFor mode mid l mid.run → i + l ≤ j + k
          → (i' : ℕ) × (l' : ℕ) × EnoughForAll mode s.program (length s.machines) i' new × EnoughFor mode s l' s'.run × (i' + l' ≤ j + k)
      by i l left (at_once r act fix rest) low = absurd (none r act fix)
      by i l left (tree others needs among each few some) low =
          let after : (m : Move) (act : Act) → StandsFor mode mid.program (length mid.machines) mid.run m act
          → EnoughFor mode mid (needs m) (and_then mid.run m.rank act) =
          λ m act for. subst (λ c. EnoughFor mode mid (needs (move_of m.rank c)) (and_then mid.run m.rank act)) for.1 (each m.rank act for.0) in
          let of : (m : Move) → IsAmong moves m → NeedsAfter mode mid m (needs m) =
          λ m a.
          (let x = (made.acts m a).2 in (
            one_enough mode (start_of mid.program (length mid.machines)) (length mid.machines) (needs m) (and_then mid.run m.rank x.0) (after m x.0 (x.1, x.2)),
            λ act for. after m act for,
          )) in
          let sums =
          sum_some needs moves others once
          (λ m a. (let x = (made.acts m a).2 in subst (λ c. IsAmong others (move_of m.rank c)) x.2 (among m.rank x.0 x.1))) in
          let whole = sum_by-drop_more needs moves 0 first (slice_get_within moves 0 first made.there) in
          let it = ap needs (get_or_from_slice_get moves 0 first first made.there) in
          let free = (made.acts first (0, made.there)).2 in
          let step =
          act_of_choice mid s' first.rank first.choice made.now made.then (made.acts first (0, made.there)).1 made.allows in (
            i + sum_by needs (drop 1 moves),
            needs first,
            all_by mode s mid (i + sum_by needs (drop 1 moves)) new made.alike (made.off.enough needs of i left),
            enough_by mode s mid (needs first) s'.run made.alike
                (subst (λ (C : List Passed). EnoughFor mode mid (needs first) C) (sym step.run) (after first step.act ((step.may.0, step.may.1, free.1.2), step.same))),
            omega (arith, low, few, sums, whole, it),
          )

-- at the beginning
pub enough_begins : (mode : SendMode) → (program : ProgramValue) (n k : ℕ) → AreEnough mode (start_of program n) n k [] → EnoughForAll mode program n k (whole ∷ [])
enough_begins mode program n k e = (
  k,
  zero,
  one_enough mode (start_of program n) n k [] e,
  λ P same. subst (λ (C : List Passed). AreEnough mode (start_of program n) n k C) (sym same) e,
  tt,
  omega arith,
)

-- after the run of a stem was looked at fewer are enough
pub enough_on : (mode : SendMode) → (program : ProgramValue) (n k : ℕ) (pending new : List Stem) (x : Stem) (s : SimValue) → s.program ≡ program → length s.machines ≡ n
    → IsRunOf mode program n x s.run → Spares mode s pending new → EnoughForAll mode program n k (pending ++ x ∷ []) → (i : ℕ) × EnoughForAll mode program n i new × (i < k)
enough_on mode program n k pending new x s same ranks made spares e =
    let p = all_pop mode program n k pending x e in
    let y = here p.0 p.1 p.2 (p.4 s.run made) in
    let less = p.5 in
    let fewer = y.2 in
    (y.0, y.1, omega (arith, less, fewer))
  where
    here : (j l : ℕ) → EnoughForAll mode program n j pending → AreEnough mode (start_of program n) n l s.run
        → (i : ℕ) × EnoughForAll mode program n i new × (i < j + l)
    here =
        subst (λ z. (j l : ℕ) → EnoughForAll mode program z j pending → AreEnough mode (start_of program z) z l s.run
        → (i : ℕ) × EnoughForAll mode program z i new × (i < j + l)) ranks
        (subst (λ p. (j l : ℕ) → EnoughForAll mode p (length s.machines) j pending → AreEnough mode (start_of p (length s.machines)) (length s.machines) l s.run
        → (i : ℕ) × EnoughForAll mode p (length s.machines) i new × (i < j + l)) same spares)

-- so they are where it was only taken away
pub enough_without : (mode : SendMode) → (program : ProgramValue) (n k : ℕ) (pending : List Stem) (x : Stem) → EnoughForAll mode program n k (pending ++ x ∷ [])
    → (i : ℕ) × EnoughForAll mode program n i pending × (i < k)
enough_without mode program n k pending x e =
    let p = all_pop mode program n k pending x e in
    let less = p.5 in
    let some = p.3 in
    (p.0, p.2, omega (arith, less, some))
