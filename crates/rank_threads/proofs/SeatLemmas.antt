-- A rank at its seat, from turn to turn, and from life to life.
use Rattle.std.proofs.Common.{◌≡◌, ◌≢◌, ◌⊎◌, inl, inr, ℕ, zero, suc, ◌+◌, ◌<◌, true, false, is_some, List, [], ◌∷◌, ◌++◌, map, length, slice_index_or, slice_set, get_or-set_other, get_or-set_same, Option, Some, None, refl, sym, ap, subst, ◌∙◌, arith, length-append}
use Rattle.std.proofs.lemmas.List.{get_or_append_left}
use Rattle.checkpoint.specs.declared.memory_shelf.MemoryShelf.{MemoryShelf}
use Rattle.event_logger.specs.Desks.{DeskValue}
use Rattle.rank_language.specs.Program.{ProgramValue}
use Rattle.rank_node.specs.Phases.{stable_in}
use Rattle.rank_node.specs.Stored.{Stored}
use Rattle.rank_text.specs.declared.script.line.ScriptLine.{ScriptLine}
use Rattle.rank_threads.proofs.LifeLemmas.{has_fault, has_lived}
use Rattle.rank_threads.proofs.UsedLines.{images_on, kill_last, none_yet}
use Rattle.rank_threads.specs.Endings.{IsKilledAt, crashes_after, end_after, stood_after}
use Rattle.rank_threads.specs.Keeping.{HasLived, Lives, WasKept, WereKept}
use Rattle.rank_threads.specs.Lives.{SameLife, SamePlace}
use Rattle.rank_threads.specs.Phases.{Begins, SameStable}
use Rattle.rank_threads.specs.Seats.{AreGone, AreSeated, AreSeatedBut, EndsAt, IsBehind, IsLiving, IsSeat, IsSeated, KeepsSeat, LeadsTo, LeftBehind, MayEnd, MovesOn, UsesLast}
use Rattle.rank_threads.specs.Seats.{is_gone, is_living}
use Rattle.rank_threads.specs.Stations.{IsLifeOf, SameStation}
use Rattle.rank_threads.specs.Used.{MayUseImage, UsesImages, UsesLines}
use Rattle.rank_threads.specs.declared.life.ending.Ending.{Ending}
use Rattle.rank_threads.specs.declared.life.ending.Ending.TheVariants as ending
use Rattle.rank_threads.specs.declared.life.Life.{Life}
use Rattle.rank_threads.specs.declared.life.seat.Seat.{Seat}
use Rattle.rank_threads.specs.declared.life.seat.Seat.TheVariants as seat
use Rattle.rank_threads.specs.declared.life.station.Station.{Station}

-- the same desk, and so on
stable_on : (a b c : Stored MemoryShelf DeskValue) → SameStable a b → SameStable b c → SameStable a c
stable_on a b c one two = record {
  desk = (two.desk.0 ∙ one.desk.0, two.desk.1 ∙ one.desk.1);
  rank = two.rank ∙ one.rank;
  size = two.size ∙ one.size;
}

-- the same place, twice
pub place_on : (a b c : Life) → SamePlace a b → SamePlace b c → SamePlace a c
place_on a b c one two = (
  two.0 ∙ one.0,
  (stable_on (stable_in a.node.phase) (stable_in b.node.phase) (stable_in c.node.phase) one.1.0 two.1.0, two.1.1 ∙ one.1.1),
  two.2 ∙ one.2,
  two.3 ∙ one.3,
)

-- so with stations
pub station_on : (a b c : Station) → SameStation a b → SameStation b c → SameStation a c
station_on a b c one two =
    (two.0 ∙ one.0, stable_on a.down b.down c.down one.1 two.1, two.2 ∙ one.2, two.3 ∙ one.3, two.4 ∙ one.4)

-- a station is that of its rank
station_same : (a : Station) → SameStation a a
station_same a = (refl, record { desk = (refl, refl); rank = refl; size = refl }, refl, refl, refl)

-- the station of a life that began at a station
life_between : (a d : Station) (b c : Life) → IsLifeOf a b → SamePlace b c → IsLifeOf d c → SameStation a d
life_between a d b c begun same over = (
  sym over.0 ∙ same.0 ∙ begun.0,
  stable_on a.down (stable_in c.node.phase) d.down
      (stable_on a.down (stable_in b.node.phase) (stable_in c.node.phase) begun.1 same.1.0)
      (record { desk = (sym over.1.desk.0, sym over.1.desk.1); rank = sym over.1.rank; size = sym over.1.size }),
  sym over.2 ∙ same.1.1 ∙ begun.2,
  sym over.3 ∙ same.2 ∙ begun.3,
  sym over.4 ∙ same.3 ∙ begun.4,
)

-- a life goes on that has begun at a station
pub living_first : (program : ProgramValue) (old : Station) (life : Life)
    → Begins program old.down old.row life.node.phase → life.kit.plan ≡ old.kit.plan
    → life.kit.tally ≡ old.kit.tally → IsLifeOf old life → IsLiving program old life
living_first program old life begins plan counts place = record {
  begun = life;
  begins = begins;
  plan = plan;
  counts = counts;
  place = place;
  same = ((refl, (record { desk = (refl, refl); rank = refl; size = refl }, refl), refl, refl), refl);
  lines = none_yet life.kit.plan;
}

-- a turn more
pub living_on : (program : ProgramValue) (old : Station) (a b : Life) → IsLiving program old a → SameLife a b → MayUseImage a.kit.plan b.kit.plan
    → IsLiving program old b
living_on program old a b living same lines = record {
  begun = living.begun;
  begins = living.begins;
  plan = living.plan;
  counts = living.counts;
  place = living.place;
  same = (place_on living.begun a b living.same.0 same.0, same.1 ∙ living.same.1);
  lines = images_on living.begun.kit.plan a.kit.plan b.kit.plan living.lines lines;
}

-- in which no line is used
pub living_same : (program : ProgramValue) (old : Station) (a b : Life) → IsLiving program old a → SameLife a b → b.kit.plan ≡ a.kit.plan → IsLiving program old b
living_same program old a b living same plan = living_on program old a b living same (inl plan)

-- the lines of a whole life
last_lines : (how : Ending) (first old new : List ScriptLine) → UsesImages first old → UsesLast how old new → UsesLines how first new
last_lines (ending.Crashed killed) first old new before used = kill_last first old new killed before used
last_lines (ending.Left reason) first old new before used = images_on first old new before used

-- a life that went on is over, by a turn that ended it so
pub life_over : (program : ProgramValue) (old new : Station) (a b : Life) (how : Ending) → IsLiving program old a → SamePlace a b
    → UsesLast how a.kit.plan b.kit.plan → IsKilledAt how b.node.phase → b.kit.tally.crashes ≡ crashes_after how a.kit.tally.crashes
    → new.end ≡ end_after how b.kit.tally.is_spent b.node.phase → new.down ≡ stable_in b.node.phase → new.kit.plan ≡ b.kit.plan
    → new.kit.tally ≡ b.kit.tally → new.stood ≡ stood_after how b.node.phase → IsLifeOf new b
    → SameStation old new × HasLived program old new
life_over program old new a b how living same lines killed counted leaves down left tally stands of =
    let all = place_on living.begun a b living.same.0 same in (
      life_between old new living.begun b living.place all of,
      has_lived program old new living.begun b how living.begins living.plan living.counts all
          (last_lines how living.begun.kit.plan a.kit.plan b.kit.plan living.lines lines) killed (counted ∙ ap (crashes_after how) living.same.1) leaves down left tally
          stands,
    )

-- a rank that keeps its seat moves on
pub moves_on : (program : ProgramValue) (a b : Seat) → KeepsSeat program a b → MovesOn program a b
moves_on program a b keeps first before = record { old = before.old; same = before.same; led = before.led; here = keeps before.old before.here }

-- a rank that is seated between two lives
seated_between : (program : ProgramValue) (first now : Station) → SameStation first now → LeadsTo program first now → IsSeated program first (seat.Between now)
seated_between program first now same led = record { old = now; same = same; led = led; here = refl }

-- a rank whose lives are over was kept
seated_gone : (program : ProgramValue) (first now : Station) → IsSeated program first (seat.Gone now) → WasKept program first now
seated_gone program first now seated = (station_on first seated.old now seated.same seated.here.0, seated.led now seated.here.1)

-- a rank hasn't lived yet
seated_first : (program : ProgramValue) (first : Station) → IsSeated program first (seat.Between first)
seated_first program first = seated_between program first first (station_same first) (λ end lives. lives)

-- a life is in its place
pub place_same : (a : Life) → SamePlace a a
place_same a = (refl, (record { desk = (refl, refl); rank = refl; size = refl }, refl), refl, refl)

-- a life that went on at this seat is over, by a turn that ended it so
pub seat_over : (program : ProgramValue) (old : Station) (a b : Life) (how : Ending) (s : Seat) → IsBehind how b s → IsLiving program old a → SamePlace a b
    → UsesLast how a.kit.plan b.kit.plan → IsKilledAt how b.node.phase → b.kit.tally.crashes ≡ crashes_after how a.kit.tally.crashes
    → IsSeat program old s
seat_over program old a b how (seat.Between s) behind living same lines killed counted = absurd behind
seat_over program old a b how (seat.Living other) behind living same lines killed counted = absurd behind
seat_over program old a b how (seat.Over s) behind living same lines killed counted =
    life_over program old s a b how living same lines killed counted behind.end behind.down behind.plan behind.tally behind.stood behind.same
seat_over program old a b how (seat.Gone s) behind living same lines killed counted = absurd behind
seat_over program old a b how seat.Empty behind living same lines killed counted = absurd behind

-- a life that was taken away is over, and its rank is here behind it
pub ends_taken : (how : Ending) (a b : Seat) (life : Life) (s : Station) → a ≡ seat.Living life → b ≡ seat.Over s → LeftBehind how life s → EndsAt how a b
ends_taken how a b life s taken over left =
    subst (λ x. EndsAt how x b) (sym taken) (subst (IsBehind how life) (sym over) left)

-- and it may end as was said of the seat
pub may_end : (how : Ending) (a : Seat) (life : Life) → a ≡ seat.Living life → MayEnd how a → IsKilledAt how life.node.phase
may_end how a life taken may = subst (MayEnd how) taken may

-- nothing ends at any other seat
pub none_ends : (how : Ending) (a : Seat) → MayEnd how a → is_living a ≡ true
none_ends how (seat.Between s) may = absurd may
none_ends how (seat.Living life) may = refl
none_ends how (seat.Over s) may = absurd may
none_ends how (seat.Gone s) may = absurd may
none_ends how seat.Empty may = absurd may

-- a life that couldn't begin is over
pub life_failed : (program : ProgramValue) (old new : Station) (life : Life) → IsLifeOf old life → IsLifeOf new life → is_some new.kit.tally.fault ≡ true
    → SameStation old new × HasLived program old new
life_failed program old new life begun over met = (life_between old new life life begun (place_same life) over, has_fault program old new met)

-- from where it stood between two lives
pub moves_from : (program : ProgramValue) (s : Station) (b : Seat) → IsSeat program s b → MovesOn program (seat.Between s) b
moves_from program s b now first before =
    record { old = before.old; same = before.same; led = before.led; here = subst (λ o. IsSeat program o b) before.here now }

-- behind a life comes the next one
pub followed_life : (program : ProgramValue) (mid s : Station) → SameStation mid s → ((old : Station) → HasLived program old mid → LeadsTo program old s)
    → MovesOn program (seat.Over mid) (seat.Between s)
followed_life program mid s same follows first before =
    seated_between program first s (station_on first mid s (station_on first before.old mid before.same before.here.0) same)
    (λ end rest. before.led end (follows before.old before.here.1 end rest))

-- or none
pub followed_gone : (program : ProgramValue) (mid s : Station) → SameStation mid s → ((old : Station) → HasLived program old mid → Lives program old s)
    → MovesOn program (seat.Over mid) (seat.Gone s)
followed_gone program mid s same follows first before = record {
  old = before.old;
  same = before.same;
  led = before.led;
  here = (station_on before.old mid s before.here.0 same, follows before.old before.here.1);
}

-- an option that isn't there
pub none_of : {A : Type 0} (o : Option A) → is_some o ≡ false → o ≡ None
none_of None e = refl
none_of (Some x) e = absurd cc

-- one that is
pub some_of : {A : Type 0} (o : Option A) → is_some o ≡ true → o ≢ None
some_of None e = absurd cc
some_of (Some x) e = λ none. absurd cc

-- one seat is changed
pub set_seated : (program : ProgramValue) (firsts : List Station) (seats : List Seat) (kept : List Station) (at : ℕ) (now other : Seat) → at < length seats
    → MovesOn program (slice_index_or seats at other) now → AreSeatedBut program firsts seats kept → AreSeatedBut program firsts (slice_set seats at now) kept
set_seated program firsts [] kept at now other low moves all = absurd (omega arith)
set_seated program [] (s ∷ ss) kept at now other low moves all = absurd all
set_seated program (x ∷ xs) (s ∷ ss) kept zero now other low moves all = (moves x all.0, all.1)
set_seated program (x ∷ xs) (s ∷ ss) kept (suc k) now other low moves all =
    (all.0, set_seated program xs ss kept k now other (omega (arith, low)) moves all.1)

-- somebody is seated at each
pub seated_at : (program : ProgramValue) (firsts : List Station) (seats : List Seat) (kept : List Station) (at : ℕ) (other : Seat) → at < length seats
    → AreSeatedBut program firsts seats kept → (first : Station) × IsSeated program first (slice_index_or seats at other)
seated_at program firsts [] kept at other low all = absurd (omega arith)
seated_at program [] (s ∷ ss) kept at other low all = absurd all
seated_at program (x ∷ xs) (s ∷ ss) kept zero other low all = (x, all.0)
seated_at program (x ∷ xs) (s ∷ ss) kept (suc k) other low all = seated_at program xs ss kept k other (omega (arith, low)) all.1

-- at first all are between two lives
pub all_seated : (program : ProgramValue) (firsts : List Station) → AreSeated program firsts (map seat.Between firsts)
all_seated program [] = tt
all_seated program (x ∷ xs) = (seated_first program x, all_seated program xs)

-- without seats all were kept
pub but_none : (program : ProgramValue) (firsts kept : List Station) → AreSeatedBut program firsts [] kept → WereKept program firsts kept
but_none program [] kept all = all
but_none program (x ∷ xs) kept all = all

-- the last one gets up
pub but_less : (program : ProgramValue) (firsts : List Station) (seats : List Seat) (now : Station) (kept : List Station)
    → AreSeatedBut program firsts (seats ++ seat.Gone now ∷ []) kept → AreSeatedBut program firsts seats (now ∷ kept)
but_less program [] [] now kept all = absurd all
but_less program [] (s ∷ ss) now kept all = absurd all
but_less program (x ∷ xs) [] now kept all = (seated_gone program x now all.0, but_none program xs kept all.1)
but_less program (x ∷ xs) (s ∷ ss) now kept all = (all.0, but_less program xs ss now kept all.1)

-- all but the last one are gone, if all are
pub gone_less : (seats : List Seat) (s : Seat) → AreGone (seats ++ s ∷ []) → AreGone seats
gone_less seats s all = λ at other low.
    let longer : at < length (seats ++ s ∷ []) = grind (arith, low, length-append) in
    ap is_gone (sym (get_or_append_left seats (s ∷ []) other at low)) ∙ all at other longer

-- the ranks below this number are gone
abbrev pub GoneBelow : ℕ → List Seat → Type 0
GoneBelow end seats = (at : ℕ) (other : Seat) → at < end → is_gone (slice_index_or seats at other) ≡ true

-- or equal, or not
same_or_not : (a b : ℕ) → a < b + 1 → (a ≡ b) ⊎ (a < b)
same_or_not zero zero low = inl refl
same_or_not zero (suc b) low = inr (omega arith)
same_or_not (suc a) zero low = absurd (omega (arith, low))
same_or_not (suc a) (suc b) low = elim (same_or_not a b (omega (arith, low))) [ inl e ↦ inl (ap suc e) | inr l ↦ inr (omega (arith, l)) ]

-- one more is gone
pub gone_more : (seats : List Seat) (end : ℕ) (now : Seat) → end < length seats → GoneBelow end seats → is_gone now ≡ true
    → GoneBelow (end + 1) (slice_set seats end now)
gone_more seats end now low below gone at other under = elim (same_or_not at end under) [
  | inl e ↦ subst (λ k. is_gone (slice_index_or (slice_set seats end now) k other) ≡ true) (sym e)
      (ap is_gone (get_or-set_same seats end now other low) ∙ gone)
  | inr l ↦ (
      let not : at ≢ end = omega (arith, l) in
      ap is_gone (get_or-set_other seats end at now other not) ∙ below at other l)
]

-- how a life is over at its seat
pub ruleset end_laws = (ends_taken, may_end, none_ends)
