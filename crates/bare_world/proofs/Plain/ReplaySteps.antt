-- A rank that replays takes the same steps as the rank without runs of misses: what each step comes to, and its clock.
use Rattle.std.proofs.Common.{◌≡◌, ℕ, zero, suc, ◌+◌, ◌<◌, ◌≤◌, ◌⊎◌, inl, inr, ⊎_elim, Bool, true, false, ◌&&◌, if◌then◌else◌, List, [], ◌∷◌}
use Rattle.std.proofs.Common.{Some, Ok, length, drop, slice_get, slice_set, refl, sym, ap, subst, ◌∙◌, arith}
use Rattle.std.proofs.lemmas.Bool.{cases_lt, and_parts, eqb-true, eq-eqb}
use Rattle.event_logger.specs.Sequential.Event.{EventValue}
use Rattle.event_logger.specs.Sequential.Misses.{expand, IsCounted}
use Rattle.event_logger.specs.Sequential.History.{above}
use Rattle.event_logger.proofs.SequentialLaws.Misses.{left_goes_on, left_used_up}
use Rattle.event_logger.proofs.SequentialLaws.NextParts.{part, part_fits, Fits as FitsPart}
use Rattle.rank_machine.specs.declared.want.Want.{Want}
use Rattle.rank_machine.specs.Machine.{MachineValue, machine_want}
use Rattle.rank_node.specs.declared.turn.Turn.{Turn}
use Rattle.rank_node.specs.Waiting.{events_in}
use Rattle.rank_node.specs.Replay.{is_last, uses_event, left_after}
use Rattle.rank_node.specs.Replay.{replay_turn_at, ReplayStepAt, replayed_at}
use Rattle.crash_free.specs.Runs.{history}
use Rattle.bare_world.specs.Rows.{events_from}
use Rattle.bare_world.specs.declared.reply.Reply.{Reply}
use Rattle.bare_world.specs.World.{Rank, Live, WorldValue, size, IsLive}
use Rattle.bare_world.specs.Plain.{plain_rank, plain, without_runs, AllCounted, RankRuns}
use Rattle.bare_world.specs.Stands.{start_at, RankStands, Stands}
use Rattle.bare_world.specs.Follows.{ReplayFollows, effect_at, lines_after, passed_at}
use Rattle.bare_world.proofs.Standing.LiveRanks.{nothing_unpassed, RankStands-settled, at_run, left_run, above_row}
use Rattle.bare_world.proofs.Standing.ReplayGoesOn.{settled, behind, replays, Goes as StepGoes}
use Rattle.bare_world.proofs.Plain.ActsOfEvents.{left_late}
use Rattle.bare_world.proofs.Plain.Ranks.{none_waits, next_left, same_effect, same_lines}
use Rattle.bare_world.proofs.Plain.Worlds.{live_plainly, set_plainly, rank_of, stored_low}
use Rattle.bare_world.proofs.Plain.ReplayedIsStep.{turn_of_part, step_of_part, after_of_part, still_waits, Acts, acts_of_step}

-- ---- a rank that replays

module _ (w : WorldValue) (r : ℕ) (v : Live) (s : Stands w) (live : IsLive w r v) (e : EventValue) (rest : List EventValue) (left : v.left ≡ e ∷ rest) where
  counted : (k : ℕ) (y : EventValue) → slice_get (e ∷ rest) k ≡ Some y → IsCounted y
  counted k y at = (s.runs.ranks r v live).left k y (ap (λ z. slice_get z k) left ∙ at)

  later : (k : ℕ) (y : EventValue) → slice_get (e ∷ rest) k ≡ Some y → v.rank.clock < y.receiver_clock
  later k y at = (s.runs.ranks r v live).later k y (ap (λ z. slice_get z k) left ∙ at)

  -- what is left to it without runs begins with the next part
  abbrev pub others : List EventValue
  others = (next_left v e rest (s.runs.ranks r v live) left).0

  pub left_plainly : (plain v).left ≡ part v.rank.clock e ∷ (next_left v e rest (s.runs.ranks r v live) left).0
  left_plainly = (next_left v e rest (s.runs.ranks r v live) left).1

  fits : FitsPart v.rank.clock e (part v.rank.clock e)
  fits = part_fits v.rank.clock e (counted 0 e refl) (later 0 e refl)

  pub stands : RankStands (start_at w (size w)) (size w) w.run r (plain v)
  stands = rank_of s r v live

  none_plainly : (plain v).rank.pending ≡ []
  none_plainly =
      settled (start_at w (size w)) (size w) w.run r (plain v) s.run.is_run (rank_of s r v live) (part v.rank.clock e)
      (next_left v e rest (s.runs.ranks r v live) left).0 (next_left v e rest (s.runs.ranks r v live) left).1

  -- nothing waits
  pub none_waiting : v.rank.pending ≡ []
  none_waiting = none_waits v (s.runs.ranks r v live) none_plainly

  -- and it is behind the run
  pub is_behind : v.rank.clock < length (history w.run r)
  is_behind =
      behind (start_at w (size w)) (size w) w.run r (plain v) s.run.is_run (rank_of s r v live) (part v.rank.clock e)
      (next_left v e rest (s.runs.ranks r v live) left).0 (next_left v e rest (s.runs.ranks r v live) left).1

  -- what its step comes to
  pub goes : (x : Want) → machine_want v.rank.machine ≡ x
      → StepGoes (start_at w (size w)) (size w) w.run r (plain v) s.run.is_run (rank_of s r v live) (part v.rank.clock e)
      (next_left v e rest (s.runs.ranks r v live) left).0 (next_left v e rest (s.runs.ranks r v live) left).1 x
  goes x is =
      replays (start_at w (size w)) (size w) w.run r (plain v) s.run.is_run (rank_of s r v live) (part v.rank.clock e)
      (next_left v e rest (s.runs.ranks r v live) left).0 (next_left v e rest (s.runs.ranks r v live) left).1 x is

  -- it is never refused
  pub fitting : (x : Want) → machine_want v.rank.machine ≡ x → (t : Turn) × (replay_turn_at v.rank e x ≡ Ok t)
  fitting x is = ((goes x is).turn, sym (turn_of_part v.rank e fits x) ∙ (goes x is).turned)

  -- what is left is the row above the clock
  is_left : above v.rank.clock (expand (e ∷ rest)) ≡ events_from v.rank.clock (drop v.rank.clock (history w.run r))
  is_left =
      sym (ap (λ z. above v.rank.clock (expand z)) left)
      ∙ left_run (start_at w (size w)) (size w) w.run r (plain v) (rank_of s r v live)
      (RankStands-settled (start_at w (size w)) (size w) w.run r (plain v) (rank_of s r v live) none_plainly)

  above_clock : (c : ℕ) → c ≤ length (history w.run r) → above c (events_from 0 (history w.run r)) ≡ events_from c (drop c (history w.run r))
  above_clock c l =
      (let z : 0 + c ≡ c = omega arith in
      subst (λ y. above y (events_from 0 (history w.run r)) ≡ events_from y (drop c (history w.run r))) z (above_row 0 c (history w.run r) l))

  module _ (x : Want) (is : machine_want v.rank.machine ≡ x) (t : Turn) (turned : replay_turn_at v.rank e x ≡ Ok t) (m : MachineValue)
      (steps : ReplayStepAt v.rank e x m) where
    same : (goes x is).turn ≡ t
    same = (let q : Ok (goes x is).turn ≡ Ok t = sym (goes x is).turned ∙ turn_of_part v.rank e fits x ∙ turned in cc)

    -- where the rank without runs stands then
    after : RankStands (start_at w (size w)) (size w) w.run r (record {
      rank = replayed_at (plain_rank v.rank) (part v.rank.clock e) x m;
      left = left_after (plain_rank v.rank) x t (part v.rank.clock e) (next_left v e rest (s.runs.ranks r v live) left).0;
    })
    after =
        subst (λ y. RankStands (start_at w (size w)) (size w) w.run r (record {
          rank = replayed_at (plain_rank v.rank) (part v.rank.clock e) x m;
          left = left_after (plain_rank v.rank) x y (part v.rank.clock e) (next_left v e rest (s.runs.ranks r v live) left).0;
        })) same ((goes x is).stands m (step_of_part v.rank e x t m turned steps))

    owes : after.acts ≡ []
    owes =
        RankStands-settled (start_at w (size w)) (size w) w.run r _ after
        (still_waits (plain_rank v.rank) (part v.rank.clock e) x m ∙ none_plainly)

    clock_is : (replayed_at v.rank e x m).clock ≡ (replayed_at (plain_rank v.rank) (part v.rank.clock e) x m).clock
    clock_is = ap (λ (z : Rank). z.clock) (after_of_part v.rank e x t m turned)

    -- what is left to it then
    left_then : left_after (plain_rank v.rank) x t (part v.rank.clock e) (next_left v e rest (s.runs.ranks r v live) left).0
        ≡ events_from (replayed_at v.rank e x m).clock (drop (replayed_at v.rank e x m).clock (history w.run r))
    left_then =
        left_run (start_at w (size w)) (size w) w.run r _ after owes
        ∙ ap (λ c. events_from c (drop c (history w.run r))) (sym clock_is)

    within : (replayed_at v.rank e x m).clock ≤ length (history w.run r)
    within = (let l = (at_run (start_at w (size w)) (size w) w.run r _ after owes).within in let c = clock_is in omega (arith, l, c))

    last_used : (b : Bool) → (uses_event x t && is_last v.rank e) ≡ b
        → above (v.rank.clock + 1) (expand (if b then rest else e ∷ rest)) ≡ above (v.rank.clock + 1) (expand (e ∷ rest))
    last_used false f = refl
    last_used true f =
        let l = eqb-true e.receiver_clock (v.rank.clock + 1) (and_parts (uses_event x t) (is_last v.rank e) f).1 in
        sym (left_used_up (v.rank.clock + 1) e rest (counted 0 e refl) (omega (arith, l)))

    by : Acts v.rank e x t m → above (replayed_at v.rank e x m).clock (expand (left_after v.rank x t e rest))
        ≡ events_from (replayed_at v.rank e x m).clock (drop (replayed_at v.rank e x m).clock (history w.run r))
    by (inl h) =
        ap (λ c. above c (expand (left_after v.rank x t e rest))) h.0
        ∙ ap (λ b. above v.rank.clock (expand (if b && is_last v.rank e then rest else e ∷ rest))) h.1
        ∙ is_left ∙ ap (λ c. events_from c (drop c (history w.run r))) (sym h.0)
    by (inr h) =
        let l = within in
        let c = h.0 in
        ap (λ c. above c (expand (left_after v.rank x t e rest))) h.0
        ∙ last_used (uses_event x t && is_last v.rank e) refl
        ∙ left_goes_on v.rank.clock (e ∷ rest) (events_from 0 (history w.run r))
        (is_left ∙ sym (above_clock v.rank.clock (omega (arith, l, c))))
        ∙ above_clock (v.rank.clock + 1) (omega (arith, l, c)) ∙ ap (λ c. events_from c (drop c (history w.run r))) (sym h.0)

    -- so it is what the rank has left, without runs
    pub left_of_part : above (replayed_at v.rank e x m).clock (expand (left_after v.rank x t e rest))
        ≡ left_after (plain_rank v.rank) x t (part v.rank.clock e) (next_left v e rest (s.runs.ranks r v live) left).0
    left_of_part = by (acts_of_step v.rank e x t m turned) ∙ sym left_then

    -- the rank then, without runs
    pub replayed_plainly : plain (record { rank = replayed_at v.rank e x m; left = left_after v.rank x t e rest })
        ≡ record {
          rank = replayed_at (plain_rank v.rank) (part v.rank.clock e) x m;
          left = left_after (plain_rank v.rank) x t (part v.rank.clock e) (next_left v e rest (s.runs.ranks r v live) left).0;
        }
    replayed_plainly =
        ap (λ z. record { rank = z; left = above (replayed_at v.rank e x m).clock (expand (left_after v.rank x t e rest)) })
        (after_of_part v.rank e x t m turned)
        ∙ ap (λ z. record { rank = replayed_at (plain_rank v.rank) (part v.rank.clock e) x m; left = z }) left_of_part

    all_counted : (b : Bool) → AllCounted (if b then rest else e ∷ rest)
    all_counted true k y at = counted (suc k) y at
    all_counted false k y at = counted k y at

    not_last : uses_event x t ≡ true → (uses_event x t && is_last v.rank e) ≡ false → v.rank.clock + 1 < e.receiver_clock
    not_last u f = go (cases_lt (v.rank.clock + 1) e.receiver_clock)
      where
        go : (v.rank.clock + 1 < e.receiver_clock) ⊎ (e.receiver_clock ≤ v.rank.clock + 1) → v.rank.clock + 1 < e.receiver_clock
        go (inl l) = l
        go (inr l) =
            let low = later 0 e refl in
            let q : e.receiver_clock ≡ v.rank.clock + 1 = omega (arith, l, low) in
            absurd (let z : true ≡ false = sym (ap (λ b. b && is_last v.rank e) u ∙ eq-eqb e.receiver_clock (v.rank.clock + 1) q) ∙ f in cc)

    late : (uses_event x t ≡ true) ⊎ (v.rank.clock + 1 < e.receiver_clock) → (b : Bool) → (uses_event x t && is_last v.rank e) ≡ b → (k : ℕ) (y : EventValue)
        → slice_get (if b then rest else e ∷ rest) k ≡ Some y → v.rank.clock + 1 < y.receiver_clock
    late h true f k y at = left_late v.rank.clock e rest (drop v.rank.clock (history w.run r)) counted (later 0 e refl) is_left k y at (later (suc k) y at)
    late h false f (suc k) y at =
        left_late v.rank.clock e rest (drop v.rank.clock (history w.run r)) counted (later 0 e refl) is_left k y at (later (suc k) y at)
    late h false f zero y at =
        (let q : e ≡ y = cc in subst (λ z. v.rank.clock + 1 < z.receiver_clock) q (⊎_elim (λ u. not_last u f) (λ l. l) h))

    ends : Acts v.rank e x t m → (k : ℕ) (y : EventValue) → slice_get (left_after v.rank x t e rest) k ≡ Some y
        → (replayed_at v.rank e x m).clock < y.receiver_clock
    ends (inl h) k y at =
        let l = later k y (sym (ap (λ b. slice_get (if b && is_last v.rank e then rest else e ∷ rest) k) h.1) ∙ at) in
        let c = h.0 in
        omega (arith, l, c)
    ends (inr h) k y at =
        let l = late h.1 (uses_event x t && is_last v.rank e) refl k y at in
        let c = h.0 in
        omega (arith, l, c)

    -- its runs
    pub replayed_runs : RankRuns (record { rank = replayed_at v.rank e x m; left = left_after v.rank x t e rest })
    replayed_runs =
        record {
          unstored = λ k y at.
              absurd (let q : slice_get [] k ≡ Some y = ap (λ z. slice_get (events_in z) k)
              (sym (nothing_unpassed (replayed_at v.rank e x m) (still_waits v.rank e x m ∙ none_waiting))) ∙ at in cc);
          left = all_counted (uses_event x t && is_last v.rank e);
          later = ends (acts_of_step v.rank e x t m turned);
        }

-- a step of a rank that replays is one of the rank without runs
pub replay_plainly : (w : WorldValue) (r : ℕ) (answer : Reply) (w' : WorldValue) → Stands w → ReplayFollows w r answer w'
    → ReplayFollows (without_runs w) r answer (without_runs w')
replay_plainly w r answer w' s f =
    record {
      before = plain f.before;
      live = live_plainly w r f.before f.live;
      event = part f.before.rank.clock f.event;
      rest = others w r f.before s f.live f.event f.rest f.replaying;
      replaying = left_plainly w r f.before s f.live f.event f.rest f.replaying;
      turn = f.turn;
      turned =
          turn_of_part f.before.rank f.event
          (part_fits f.before.rank.clock f.event ((s.runs.ranks r f.before f.live).left 0 f.event (ap (λ z. slice_get z 0) f.replaying))
          ((s.runs.ranks r f.before f.live).later 0 f.event (ap (λ z. slice_get z 0) f.replaying))) (machine_want f.before.rank.machine)
          ∙ f.turned;
      machine = f.machine;
      steps = step_of_part f.before.rank f.event (machine_want f.before.rank.machine) f.turn f.machine f.turned f.steps;
      answered = f.answered;
      after =
          ap without_runs f.after
          ∙ ap (λ z. record (without_runs w) {
            ranks = z;
            lines = lines_after w.lines r f.before.rank (machine_want f.before.rank.machine) f.turn;
            run = passed_at w.run r (f.before.rank.clock + 1) (effect_at f.before.rank (machine_want f.before.rank.machine) f.turn);
          })
          (set_plainly w.ranks r
          (record {
            rank = replayed_at f.before.rank f.event (machine_want f.before.rank.machine) f.machine;
            left = left_after f.before.rank (machine_want f.before.rank.machine) f.turn f.event f.rest;
          })
          (record {
            rank = replayed_at (plain_rank f.before.rank) (part f.before.rank.clock f.event) (machine_want f.before.rank.machine) f.machine;
            left = left_after (plain_rank f.before.rank) (machine_want f.before.rank.machine) f.turn (part f.before.rank.clock f.event)
                (others w r f.before s f.live f.event f.rest f.replaying);
          })
          (replayed_plainly w r f.before s f.live f.event f.rest f.replaying (machine_want f.before.rank.machine) refl f.turn f.turned f.machine f.steps))
          ∙ ap (λ z. record (without_runs w) {
            ranks = slice_set (without_runs w).ranks r (Some (record {
              rank = replayed_at (plain_rank f.before.rank) (part f.before.rank.clock f.event) (machine_want f.before.rank.machine) f.machine;
              left = left_after (plain_rank f.before.rank) (machine_want f.before.rank.machine) f.turn (part f.before.rank.clock f.event)
                  (others w r f.before s f.live f.event f.rest f.replaying);
            }));
            lines = z;
            run = passed_at w.run r (f.before.rank.clock + 1) (effect_at f.before.rank (machine_want f.before.rank.machine) f.turn);
          }) (sym (same_lines f.before (s.runs.ranks r f.before f.live) low w.lines r (machine_want f.before.rank.machine) f.turn))
          ∙ ap (λ z. record (without_runs w) {
            ranks = slice_set (without_runs w).ranks r (Some (record {
              rank = replayed_at (plain_rank f.before.rank) (part f.before.rank.clock f.event) (machine_want f.before.rank.machine) f.machine;
              left = left_after (plain_rank f.before.rank) (machine_want f.before.rank.machine) f.turn (part f.before.rank.clock f.event)
                  (others w r f.before s f.live f.event f.rest f.replaying);
            }));
            lines = lines_after w.lines r (plain_rank f.before.rank) (machine_want f.before.rank.machine) f.turn;
            run = passed_at w.run r (f.before.rank.clock + 1) z;
          }) (sym (same_effect f.before (s.runs.ranks r f.before f.live) low (machine_want f.before.rank.machine) f.turn));
    }
  where
    low : f.before.rank.stored ≤ length f.before.rank.pending
    low = stored_low w r s f.before f.live
