-- A step of a rank that runs keeps what a world stands for and what senders keep: it is a step of the rank without runs of
-- misses, of which each miss is an event of its own.
use Rattle.std.proofs.Common.{◌≡◌, ℕ, ◌+◌, ◌≤◌, [], Some, map, option_map, length, MatchBool, refl, sym, ap, subst, ◌∙◌, slice_set}
use Rattle.std.proofs.lemmas.List.{length-set}
use Rattle.std.proofs.lemmas.Option.{slice_get_within}
use Rattle.event_logger.specs.Sequential.Misses.{IsCounted}
use Rattle.rank_machine.specs.declared.want.Want.{Want}
use Rattle.rank_machine.specs.declared.want.Want.TheVariants as want
use Rattle.rank_machine.specs.Machine.{MachineValue, machine_want}
use Rattle.rank_node.specs.Steps.{turn_at, step_at, MachineStepAt, DidAct}
use Rattle.bare_world.specs.declared.reply.Reply.{Reply}
use Rattle.bare_world.specs.World.{Live, WorldValue, size, unpassed}
use Rattle.bare_world.specs.Plain.{plain_rank, plain, without_runs, RankRuns}
use Rattle.bare_world.specs.Stands.{start_at, StandsAt, RankCovers, Stands}
use Rattle.bare_world.specs.Follows.{StepFollows, after_turn, lines_after, effect_at, passed_at}
use Rattle.bare_world.proofs.Covers.KeptByEvents.{Covers-rank}
use Rattle.bare_world.proofs.Covers.KeptBySteps.{step_covers}
use Rattle.bare_world.proofs.Standing.KeptByNewEvents.{plain_step_at}
use Rattle.bare_world.proofs.Standing.StepsByPlace.{stepping}
use Rattle.bare_world.proofs.Plain.EffectsAndLeft.{LastMiss}
use Rattle.bare_world.proofs.Plain.Ranks.{none_left_plainly, joins_clock, same_room, same_turn, same_effect, same_lines, stepped_plainly}
use Rattle.bare_world.proofs.Plain.Worlds.{GoesOn, live_plainly, set_plainly, rank_of, stored_low}

-- the machine makes the same step
steps_plainly : (v : Live) (runs : RankRuns v) (low : v.rank.stored ≤ length v.rank.pending) (x : Want) (m : MachineValue) → MachineStepAt v.rank x m
    → MachineStepAt (plain_rank v.rank) x m
steps_plainly v runs low want.Internal m f = f
steps_plainly v runs low (want.Send d c t) m f = subst (λ b. MatchBool b (DidAct v.rank.machine m) (m ≡ v.rank.machine)) (sym (same_room v runs low)) f
steps_plainly v runs low (want.Receive s) m f = f
steps_plainly v runs low (want.Probe s) m f = f
steps_plainly v runs low (want.TryProbe s) m f = f
steps_plainly v runs low (want.Print z) m f = subst (λ b. MatchBool b (DidAct v.rank.machine m) (m ≡ v.rank.machine)) (sym (same_room v runs low)) f
steps_plainly v runs low want.Halted m f = f
steps_plainly v runs low (want.Faulted k) m f = f

-- a step of a rank that runs
pub Stands-step : (w : WorldValue) (r : ℕ) (answer : Reply) (w' : WorldValue) → Stands w → StepFollows w r answer w' → GoesOn w'
Stands-step w r answer w' s f =
    subst (λ z. GoesOn z) (sym f.after)
    (record {
      run = subst (λ k. StandsAt k (without_runs after)) (sym (length-set w.ranks r (Some u))) stands;
      covers =
          Covers-rank w after r (Some u) refl refl refl
          (λ y e. (let q : u ≡ y = cc in subst (λ z. RankCovers w.images r z) q
          (step_covers w.images r f.before f.machine [] (s.covers.ranks r f.before f.live) (machine_want f.before.rank.machine)))) s.covers;
    })
  where
    x : Want
    x = machine_want f.before.rank.machine

    u : Live
    u = record { rank = step_at f.before.rank (machine_want f.before.rank.machine) f.machine; left = [] }

    after : WorldValue
    after =
        after_turn w r f.before (turn_at f.before.rank (machine_want f.before.rank.machine))
        (step_at f.before.rank (machine_want f.before.rank.machine) f.machine) []

    runs : RankRuns f.before
    runs = s.runs.ranks r f.before f.live

    low : f.before.rank.stored ≤ length f.before.rank.pending
    low = stored_low w r s f.before f.live

    clock : (l : LastMiss f.before.rank.clock (unpassed f.before.rank)) → IsCounted l.last → l.last.receiver_clock ≡ f.before.rank.clock
    clock l counted = joins_clock (start_at w (size w)) (size w) w.run r f.before (rank_of s r f.before f.live) l counted

    turned : turn_at (plain_rank f.before.rank) (machine_want f.before.rank.machine) ≡ turn_at f.before.rank (machine_want f.before.rank.machine)
    turned = same_turn f.before (s.runs.ranks r f.before f.live) low (machine_want f.before.rank.machine)

    -- the step of the rank without runs
    stepped : StandsAt (size w) (record (without_runs w) {
      ranks = slice_set (without_runs w).ranks r
          (Some (record { rank = plain_step_at (plain_rank f.before.rank) (machine_want f.before.rank.machine) f.machine; left = [] }));
      lines = lines_after w.lines r (plain_rank f.before.rank) (machine_want f.before.rank.machine)
          (turn_at (plain_rank f.before.rank) (machine_want f.before.rank.machine));
      run = passed_at w.run r (f.before.rank.clock + 1) (effect_at (plain_rank f.before.rank) (machine_want f.before.rank.machine)
          (turn_at (plain_rank f.before.rank) (machine_want f.before.rank.machine)));
    })
    stepped =
        stepping (size w) (without_runs w) r (plain f.before) f.machine s.run (live_plainly w r f.before f.live)
        (slice_get_within w.ranks r (Some f.before) f.live) (none_left_plainly f.before f.running) (machine_want f.before.rank.machine) refl
        (steps_plainly f.before (s.runs.ranks r f.before f.live) low (machine_want f.before.rank.machine) f.machine f.steps)

    lines : lines_after w.lines r (plain_rank f.before.rank) (machine_want f.before.rank.machine)
        (turn_at (plain_rank f.before.rank) (machine_want f.before.rank.machine))
        ≡ lines_after w.lines r f.before.rank (machine_want f.before.rank.machine) (turn_at f.before.rank (machine_want f.before.rank.machine))
    lines =
        ap (λ t. lines_after w.lines r (plain_rank f.before.rank) (machine_want f.before.rank.machine) t) turned
        ∙ same_lines f.before (s.runs.ranks r f.before f.live) low w.lines r (machine_want f.before.rank.machine)
        (turn_at f.before.rank (machine_want f.before.rank.machine))

    passes : effect_at (plain_rank f.before.rank) (machine_want f.before.rank.machine)
        (turn_at (plain_rank f.before.rank) (machine_want f.before.rank.machine))
        ≡ effect_at f.before.rank (machine_want f.before.rank.machine) (turn_at f.before.rank (machine_want f.before.rank.machine))
    passes =
        ap (λ t. effect_at (plain_rank f.before.rank) (machine_want f.before.rank.machine) t) turned
        ∙ same_effect f.before (s.runs.ranks r f.before f.live) low (machine_want f.before.rank.machine)
        (turn_at f.before.rank (machine_want f.before.rank.machine))

    ranks : map (option_map plain) (slice_set w.ranks r (Some u))
        ≡ slice_set (without_runs w).ranks r
        (Some (record { rank = plain_step_at (plain_rank f.before.rank) (machine_want f.before.rank.machine) f.machine; left = [] }))
    ranks =
        set_plainly w.ranks r u (record { rank = plain_step_at (plain_rank f.before.rank) (machine_want f.before.rank.machine) f.machine; left = [] })
        (ap (λ z. record { rank = z; left = [] })
        (stepped_plainly f.before (s.runs.ranks r f.before f.live) low f.machine clock (machine_want f.before.rank.machine)))

    stands : StandsAt (size w) (without_runs after)
    stands =
        subst (λ z. StandsAt (size w) (record (without_runs w) {
          ranks = z;
          lines = lines_after w.lines r f.before.rank (machine_want f.before.rank.machine) (turn_at f.before.rank (machine_want f.before.rank.machine));
          run = passed_at w.run r (f.before.rank.clock + 1)
              (effect_at f.before.rank (machine_want f.before.rank.machine) (turn_at f.before.rank (machine_want f.before.rank.machine)));
        })) (sym ranks)
        (subst (λ z. StandsAt (size w) (record (without_runs w) {
          ranks = slice_set (without_runs w).ranks r
              (Some (record { rank = plain_step_at (plain_rank f.before.rank) (machine_want f.before.rank.machine) f.machine; left = [] }));
          lines = z;
          run = passed_at w.run r (f.before.rank.clock + 1)
              (effect_at f.before.rank (machine_want f.before.rank.machine) (turn_at f.before.rank (machine_want f.before.rank.machine)));
        })) lines
        (subst (λ z. StandsAt (size w) (record (without_runs w) {
          ranks = slice_set (without_runs w).ranks r
              (Some (record { rank = plain_step_at (plain_rank f.before.rank) (machine_want f.before.rank.machine) f.machine; left = [] }));
          lines = lines_after w.lines r (plain_rank f.before.rank) (machine_want f.before.rank.machine)
              (turn_at (plain_rank f.before.rank) (machine_want f.before.rank.machine));
          run = passed_at w.run r (f.before.rank.clock + 1) z;
        })) passes stepped))
