-- Stops of a run: they are stops of each run that begins with the same acts, so a search that goes back to one keeps those before it.
use Rattle.std.proofs.Common.{◌≡◌, ℕ, ◌+◌, ◌<◌, ◌≤◌, List, [], ◌∷◌, ◌++◌, Some, length, slice_get, ◌⊎◌, inl, inr, refl, sym, ap, subst, ◌∙◌, arith, Bool}
use Rattle.std.proofs.lemmas.Bool.{cases_eq, cases_lt}
use Rattle.std.proofs.lemmas.List.{append-nil}
use Rattle.std.proofs.lemmas.Option.{slice_get_past, slice_get_within}
use Rattle.rank_language.specs.Program.{ProgramValue}
use Rattle.crash_free.specs.Points.{IsPointOf, first_acts, AreUnmoved, GoesBehind, stood}
use Rattle.rank_machine.specs.Machine.{MachineValue}
use Rattle.crash_free.specs.Parts.{IsBeginning}
use Rattle.crash_free.specs.Runs.{Passed, history}
use Rattle.crash_free.specs.Sim.{SimValue, Simulates, Allows}
use Rattle.crash_free.specs.Wanted.{StandsAtAct}
use Rattle.crash_free.proofs.Points.{behind_longer, first_before, first_behind, first_long, first_of_first, same_point}
use Rattle.explore.specs.declared.moves.Move.{Move}
use Rattle.explore.specs.declared.stops.Stop.{Stop}
use Rattle.explore.specs.declared.stops.Stops.{Stops}
use Rattle.explore.specs.Counting.{HasMade}
use Rattle.explore.specs.Counts.{AreEqualAt, Counts, KeepsCount}
use Rattle.explore.specs.Making.{LeadsTo}
use Rattle.explore.specs.Outcomes.{IsAmong}
use Rattle.explore.specs.Resting.{AreResting}
use Rattle.explore.specs.Searching.{IsAlike}
use Rattle.explore.specs.Stops.{AreSomeOf, AreStops, AreWithin, CanGoBack, IsClosest, IsOneOf, IsStop, KeepsStops}
use Rattle.explore.proofs.Among.{among_push}
use Rattle.audit.proofs.Reaching.{some_there}
use Rattle.explore.proofs.Choosing.{IsStep, goes_by}
use Rattle.explore.proofs.Within.{history_behind, one_made}
use Rattle.explore.specs.declared.send_mode.SendMode.{SendMode}

-- The same acts

-- a stop of a run is one of each other run that begins with the acts before it
stop_same : (program : ProgramValue) (n steps : ℕ) (C D : List Passed) (stop : Stop) → IsStop program n steps C stop → stop.point.made ≤ length D
    → first_acts stop.point.made D ≡ first_acts stop.point.made C → IsStop program n steps D stop
stop_same program n steps C D stop is within same =
    record {
      point = same_point program n C D stop.point is.point within same;
      counts = subst (λ (P : List Passed). Counts steps (by P) stop.left) (sym same) is.counts;
      resting = subst (λ (P : List Passed). AreResting (by P) stop.marks) (sym same) is.resting;
    }
  where
    by : List Passed → SimValue
    by P = record { program = program; machines = stop.point.machines; run = P }

-- so are the stops of a run of each one behind it
stops_behind : (program : ProgramValue) (n steps : ℕ) (C D : List Passed) (stops : Stops) → AreStops program n steps C stops → GoesBehind C D
    → AreStops program n steps D stops
stops_behind program n steps C D stops are behind =
    record {
      begins = are.begins;
      each =
          λ stop one.
          (let is = are.each stop one in
          let low = is.point.within in
          let long = behind_longer C D behind in
          stop_same program n steps C D stop is (omega (arith, low, long)) (first_behind stop.point.made C D behind low));
    }

-- by the ranks of another simulation of the same program too
stops_alike : (s s' : SimValue) (steps : ℕ) (C : List Passed) (stops : Stops) → IsAlike s s' → AreStops s.program (length s.machines) steps C stops
    → AreStops s'.program (length s'.machines) steps C stops
stops_alike s s' steps C stops alike are =
    subst (λ n. AreStops s'.program n steps C stops) (sym alike.ranks)
    (subst (λ p. AreStops p (length s.machines) steps C stops) (sym alike.program) are)

-- where a run goes on, and steps are counted, a search can still go back
pub stops_on : (s s' : SimValue) (left left' : List ℕ) (stops : Stops) → IsAlike s s' → GoesBehind s.run s'.run → KeepsCount s left s' left'
    → KeepsStops s left stops s' left' stops
stops_on s s' left left' stops alike behind counts steps back =
    record {
      counts = counts steps back.counts;
      of_run =
          stops_alike s s' steps s'.run stops alike
          (stops_behind s.program (length s.machines) steps s.run s'.run stops back.of_run behind);
    }

-- Some of the stops

-- what is one of some is one of all
one_of_some : (some all : Stops) (stop : Stop) → AreSomeOf some all → IsOneOf some stop → IsOneOf all stop
one_of_some some all stop fewer (inl e) = inl (e ∙ fewer.first)
one_of_some some all stop fewer (inr a) = inr (fewer.later stop a)

-- some of the stops of a run are stops of it
pub some_stops : (program : ProgramValue) (n steps : ℕ) (C : List Passed) (some all : Stops) → AreSomeOf some all → AreStops program n steps C all
    → AreStops program n steps C some
some_stops program n steps C some all fewer are =
    record {
      begins = ap (λ (stop : Stop). stop.point.made) fewer.first ∙ are.begins;
      each = λ stop one. are.each stop (one_of_some some all stop fewer one);
    }

-- where the later ones are behind so many acts, or fewer, all are
pub all_within : (program : ProgramValue) (n steps : ℕ) (C : List Passed) (stops : Stops) (k : ℕ) → AreStops program n steps C stops
    → ((stop : Stop) → IsAmong stops.later.items stop → stop.point.made ≤ k) → AreWithin k stops
all_within program n steps C stops k are later stop (inl e) =
    (let none = ap (λ (x : Stop). x.point.made) e in let first = are.begins in omega (arith, none, first))
all_within program n steps C stops k are later stop (inr a) = later stop a

-- One more

-- where the simulation stands is a stop of its run
pub stop_there : (s : SimValue) (left : List ℕ) (stop : Stop) → IsPointOf s.program (length s.machines) s.run stop.point
    → stood s.program s.run stop.point ≡ s → stop.left ≡ left → AreResting s stop.marks → (steps : ℕ) → Counts steps s left
    → IsStop s.program (length s.machines) steps s.run stop
stop_there s left stop point here same resting steps counts =
    record {
      point = point;
      counts =
          subst (λ (xs : List ℕ). Counts steps (stood s.program s.run stop.point) xs) (sym same)
          (subst (λ (z : SimValue). Counts steps z left) (sym here) counts);
      resting = subst (λ (z : SimValue). AreResting z stop.marks) (sym here) resting;
    }

-- with it the stops are stops still
pub stops_push : (program : ProgramValue) (n steps : ℕ) (C : List Passed) (some new : Stops) (stop : Stop) → AreStops program n steps C some
    → IsStop program n steps C stop → new.first ≡ some.first → new.later.items ≡ some.later.items ++ stop ∷ [] → AreStops program n steps C new
stops_push program n steps C some new stop are is first more =
    record { begins = ap (λ (x : Stop). x.point.made) first ∙ are.begins; each = each }
  where
    later : (x : Stop) → IsAmong some.later.items x ⊎ (x ≡ stop) → IsStop program n steps C x
    later x (inl before) = are.each x (inr before)
    later x (inr e) = subst (λ (y : Stop). IsStop program n steps C y) (sym e) is

    each : (x : Stop) → IsOneOf new x → IsStop program n steps C x
    each x (inl e) = are.each x (inl (e ∙ first))
    each x (inr a) = later x (among_push some.later.items stop x (subst (λ (xs : List Stop). IsAmong xs x) more a))

-- The first one

-- the only stop is the one at the beginning
pub stops_begin : (s : SimValue) (left : List ℕ) (stops : Stops) → s.run ≡ [] → stops.later.items ≡ []
    → ((steps : ℕ) → Counts steps s left → IsStop s.program (length s.machines) steps s.run stops.first) → (steps : ℕ) → Counts steps s left
    → CanGoBack steps s left stops
stops_begin s left stops none alone first steps counts =
    record { counts = counts; of_run = record { begins = begins; each = each } }
  where
    begins : stops.first.point.made ≡ 0
    begins =
        let low = (first steps counts).point.within in
        let size : length s.run ≡ 0 = ap length none in
        omega (arith, low, size)

    each : (x : Stop) → IsOneOf stops x → IsStop s.program (length s.machines) steps s.run x
    each x (inl e) = subst (λ (y : Stop). IsStop s.program (length s.machines) steps s.run y) (sym e) (first steps counts)
    each x (inr a) = absurd (let some : IsAmong [] x = subst (λ (xs : List Stop). IsAmong xs x) alone a in let e = some.1 in cc)

-- Going back

-- A simulation that went back to the closest stop
module _ (s : SimValue) (stops : Stops) (stop : Stop) (closest : IsClosest stops stop) (steps : ℕ)
    (are : AreStops s.program (length s.machines) steps s.run stops) where
  is : IsStop s.program (length s.machines) steps s.run stop
  is = are.each stop closest.one

  pub back_point : IsPointOf s.program (length s.machines) s.run stop.point
  back_point = is.point

  pub back_resting : AreResting (stood s.program s.run stop.point) stop.marks
  back_resting = is.resting

  -- a rank that had as many steps left there has made none since, so its machine is the same
  pub back_unmoved : (left : List ℕ) (marks : List Bool) → Counts steps s left → AreEqualAt left stop.left marks
      → AreUnmoved s.machines stop.point.machines marks
  back_unmoved left marks counts equal r marked = by_rank (cases_lt r (length s.machines))
    where
      size : length stop.point.machines ≡ length s.machines
      size = is.point.ranks

      by_rank : (r < length s.machines) ⊎ (length s.machines ≤ r) → slice_get s.machines r ≡ slice_get stop.point.machines r
      by_rank (inl low) =
          let here = counts r low in
          let there = is.counts r (omega (arith, low, size)) in
          let now = some_there (slice_get s.machines r) (λ m. HasMade s.program (length s.machines) r (history s.run r) here.0 m) here.1 in
          let then =
          some_there (slice_get stop.point.machines r)
          (λ m. HasMade s.program (length stop.point.machines) r (history (first_acts stop.point.made s.run) r) there.0 m) there.1 in
          let made : HasMade s.program (length s.machines) r (history (first_acts stop.point.made s.run) r) there.0 then.0 =
          subst (λ n. HasMade s.program n r (history (first_acts stop.point.made s.run) r) there.0 then.0) size then.2 in
          let behind = first_before stop.point.made s.run in
          let begins : IsBeginning (history (first_acts stop.point.made s.run) r) (history s.run r) =
          subst (λ (C : List Passed). IsBeginning (history (first_acts stop.point.made s.run) r) (history C r)) (sym behind.1)
          (history_behind behind.0 (first_acts stop.point.made s.run) r) in
          let all = here.2 in
          let all_there = there.2 in
          let left_same = equal.0 r marked in
          let same =
          one_made s.program (length s.machines) r (history s.run r) (history s.run r) (history (first_acts stop.point.made s.run) r) here.0 there.0
          now.0 then.0 now.2 made (omega (arith, all, all_there, left_same)) [] begins.0 (sym (append-nil (history s.run r))) begins.1 in
          now.1 ∙ ap (λ (m : MachineValue). Some m) same.1 ∙ sym then.1
      by_rank (inr high) = slice_get_past s.machines r high ∙ sym (slice_get_past stop.point.machines r (omega (arith, high, size)))

  pub back_alike : (t : SimValue) → t ≡ stood s.program s.run stop.point → IsAlike s t
  back_alike t back =
      record {
        program = ap (λ (z : SimValue). z.program) back;
        ranks = ap (λ (z : SimValue). length z.machines) back ∙ is.point.ranks;
      }

  -- has made as many acts as were made before it
  back_made : (t : SimValue) → t ≡ stood s.program s.run stop.point → t.run ≡ first_acts stop.point.made s.run
  back_made t back = ap (λ (z : SimValue). z.run) back

  pub back_short : (t : SimValue) → t ≡ stood s.program s.run stop.point → (k : ℕ) → AreWithin k stops → length t.run ≤ k
  back_short t back k within =
      let size = ap length (back_made t back) ∙ first_long stop.point.made s.run is.point.within in
      let low = within stop closest.one in
      omega (arith, size, low)

  -- and all stops are stops of its run
  stays : (other : Stop) → IsOneOf stops other → IsStop s.program (length s.machines) steps (first_acts stop.point.made s.run) other
  stays other one =
      let low = closest.most other one in
      let size = first_long stop.point.made s.run is.point.within in
      stop_same s.program (length s.machines) steps s.run (first_acts stop.point.made s.run) other (are.each other one) (omega (arith, low, size))
      (first_of_first other.point.made stop.point.made s.run low is.point.within)

  pub back_there : (t : SimValue) (left : List ℕ) → t ≡ stood s.program s.run stop.point → left ≡ stop.left → CanGoBack steps t left stops
  back_there t left back same =
      record {
        counts =
            subst (λ (xs : List ℕ). Counts steps t xs) (sym same) (subst (λ (z : SimValue). Counts steps z stop.left) (sym back) is.counts);
        of_run =
            stops_alike s t steps t.run stops (back_alike t back)
            (subst (λ (C : List Passed). AreStops s.program (length s.machines) steps C stops) (sym (back_made t back))
            (record { begins = are.begins; each = stays }));
      }

-- A move

-- so it is where a move is made
pub stops_chosen : (s s' : SimValue) (m : Move) (left left' : List ℕ) (stops : Stops) → Simulates s → Simulates s' → StandsAtAct s.machines m.rank
    → Allows s m.rank m.choice s' → KeepsCount s left s' left' → KeepsStops s left stops s' left' stops
stops_chosen s s' m left left' stops now then at allows counts =
    let step : IsStep s m.rank s' = goes_by s s' m.rank m.choice now then at allows in
    stops_on s s' left left' stops (record { program = step.program; ranks = step.ranks })
    (record { rank = m.rank; act = step.act } ∷ [], step.run) counts

-- and behind acts that are fixed
pub stops_led : (mode : SendMode) → (s s' : SimValue) (left left' : List ℕ) (stops : Stops) → LeadsTo mode s s' → KeepsCount s left s' left' → KeepsStops s left stops s' left' stops
stops_led mode s s' left left' stops leads counts =
    stops_on s s' left left' stops (record { program = leads.program; ranks = leads.ranks }) leads.behind counts

-- The closest

-- the stop is the closest of the first one and so many of the others
pub record IsClosestBy (stops : Stops) (items : List Stop) (k : ℕ) (stop : Stop) : Type 0 where
  pub one : IsOneOf stops stop
  pub first : stops.first.point.made ≤ stop.point.made
  pub most : (i : ℕ) (x : Stop) → i < k → slice_get items i ≡ Some x → x.point.made ≤ stop.point.made

-- the first one alone is
pub closest_first : (stops : Stops) (items : List Stop) → IsClosestBy stops items 0 stops.first
closest_first stops items =
    record { one = inl refl; first = omega arith; most = λ i x low there. absurd (omega (arith, low)) }

-- where the next one is closer, that is
module _ (stops : Stops) (items : List Stop) (k : ℕ) (stop next : Stop) (there : slice_get items k ≡ Some next)
    (closest : IsClosestBy stops items k stop) where
  -- it stands at its place alone
  made_same : (i : ℕ) (x : Stop) → i ≡ k → slice_get items i ≡ Some x → x.point.made ≡ next.point.made
  made_same i x e at =
      let both : Some x ≡ Some next = sym (subst (λ j. slice_get items j ≡ Some x) e at) ∙ there in
      let same : x ≡ next = cc in
      ap (λ (z : Stop). z.point.made) same

  pub closest_next : items ≡ stops.later.items → stop.point.made < next.point.made → IsClosestBy stops items (k + 1) next
  closest_next same closer =
      let low = closest.first in
      record {
        one = inr (k, subst (λ (xs : List Stop). slice_get xs k ≡ Some next) same there);
        first = omega (arith, low, closer);
        most = λ i x less at. go i x less at (cases_eq i k);
      }
    where
      go : (i : ℕ) (x : Stop) → i < k + 1 → slice_get items i ≡ Some x → (i ≡ k) ⊎ (i ≡ k → ⊥) → x.point.made ≤ next.point.made
      go i x less at (inl e) = (let same = made_same i x e at in omega (arith, same))
      go i x less at (inr apart) = (let most = closest.most i x (omega (arith, less, apart)) at in omega (arith, most, closer))

  -- where it isn't, the same is
  pub closest_still : next.point.made ≤ stop.point.made → IsClosestBy stops items (k + 1) stop
  closest_still far =
      record { one = closest.one; first = closest.first; most = λ i x less at. go i x less at (cases_eq i k) }
    where
      go : (i : ℕ) (x : Stop) → i < k + 1 → slice_get items i ≡ Some x → (i ≡ k) ⊎ (i ≡ k → ⊥) → x.point.made ≤ stop.point.made
      go i x less at (inl e) = (let same = made_same i x e at in omega (arith, same, far))
      go i x less at (inr apart) = closest.most i x (omega (arith, less, apart)) at

-- once all were looked at it is the closest of all
pub closest_all : (stops : Stops) (items : List Stop) (k : ℕ) (stop : Stop) → IsClosestBy stops items k stop → items ≡ stops.later.items
    → length items ≤ k → IsClosest stops stop
closest_all stops items k stop closest same all = record { one = closest.one; most = most }
  where
    most : (other : Stop) → IsOneOf stops other → other.point.made ≤ stop.point.made
    most other (inl e) = subst (λ (x : Stop). x.point.made ≤ stop.point.made) (sym e) closest.first
    most other (inr a) =
        let there : slice_get items a.0 ≡ Some other = subst (λ (xs : List Stop). slice_get xs a.0 ≡ Some other) (sym same) a.1 in
        let low = slice_get_within items a.0 other there in
        closest.most a.0 other (omega (arith, low, all)) there
