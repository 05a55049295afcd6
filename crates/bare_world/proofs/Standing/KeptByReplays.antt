-- A step of a rank that replays keeps what a world stands for.
use Rattle.std.proofs.Common.{◌≡◌, ℕ, ℤ, ◌+◌, ◌<◌, if◌then◌else◌, []}
use Rattle.std.proofs.Common.{Some, Ok, length, refl, sym, ap, subst, ◌∙◌, slice_get}
use Rattle.std.proofs.lemmas.List.{length-set}
use Rattle.ports.specs.Console.{after_line}
use Rattle.rank_machine.specs.Wants.{payload}
use Rattle.rank_machine.specs.Acts.{Fits}
use Rattle.rank_machine.specs.Machine.{state_of, machine_want}
use Rattle.rank_machine.specs.declared.want.Want.{Want}
use Rattle.rank_machine.specs.declared.want.Want.TheVariants as want
use Rattle.rank_node.specs.Waiting.{is_settled}
use Rattle.rank_node.specs.declared.turn.Turn.{Turn}
use Rattle.rank_node.specs.declared.turn.Turn.TheVariants.{Moved, Blocked, Held, Ended}
use Rattle.crash_free.specs.Runs.{history}
use Rattle.bare_world.specs.World.{Live, WorldValue, size}
use Rattle.bare_world.specs.Follows.{passed_at, lines_after, effect_at, ReplayFollows, after_turn}
use Rattle.bare_world.specs.Stands.{RankStands, start_at, StandsAt, RankCovers}
use Rattle.bare_world.specs.declared.reply.Reply.{Reply}
use Rattle.rank_node.specs.Replay.{replayed_at, left_after}
use Rattle.bare_world.proofs.Lists.Beginnings.{next_of_drop}
use Rattle.bare_world.proofs.Runs.ActFitsWant.{wanted, stopped}
use Rattle.bare_world.proofs.Standing.ReplayGoesOn.{replays, next_is, behind, settled as settled_in, Goes as StepGoes}
use Rattle.bare_world.proofs.Standing.PassesOnce.{passed_again, print_again}
use Rattle.bare_world.proofs.Covers.KeptByEvents.{Covers-rank}
use Rattle.bare_world.proofs.Standing.Worlds.{Goes, changed, Stands-rank}
use Rattle.bare_world.proofs.Standing.KeptByCrashes.{resized}
use Rattle.bare_world.proofs.Covers.KeptBySteps.{replay_covers}
use Rattle.audit.proofs.Fitting.{print_fits}

-- a step of a rank that replays
pub Stands-replay : (w : WorldValue) (r : ℕ) (answer : Reply) (w' : WorldValue) → Goes w → ReplayFollows w r answer w' → Goes w'
Stands-replay w r answer w' s f =
    subst (λ z. Goes z) (sym f.after)
    (record {
      run =
          resized w (after_turn w r f.before f.turn (replayed_at f.before.rank f.event (machine_want f.before.rank.machine) f.machine)
          (left_after f.before.rank (machine_want f.before.rank.machine) f.turn f.event f.rest)) (length-set w.ranks r _)
          (subst (λ z. StandsAt (size w) (changed w r (Some v) w.images w.logger z
          (passed_at w.run r (f.before.rank.clock + 1) (effect_at f.before.rank (machine_want f.before.rank.machine) f.turn))))
          (sym (lines_same (machine_want f.before.rank.machine) f.turn refl))
          (subst (λ z. StandsAt (size w) (changed w r (Some v) w.images w.logger w.lines z))
          (sym (passed_again w.run r f.before.rank.clock (effect_at f.before.rank (machine_want f.before.rank.machine) f.turn) is_behind))
          (Stands-rank (size w) w r (Some v) w.logger s.run refl
          (λ u e. (let q : v ≡ u = cc in subst (λ z. RankStands (start_at w (size w)) (size w) w.run r z) q stands)))));
      covers =
          Covers-rank w (after_turn w r f.before f.turn (replayed_at f.before.rank f.event (machine_want f.before.rank.machine) f.machine)
          (left_after f.before.rank (machine_want f.before.rank.machine) f.turn f.event f.rest)) r (Some v) refl refl refl
          (λ u e. (let q : v ≡ u = cc in subst (λ z. RankCovers w.images r z) q
          (replay_covers w.images r f.before f.machine (left_after f.before.rank (machine_want f.before.rank.machine) f.turn f.event f.rest)
          (s.covers.ranks r f.before f.live) f.event (machine_want f.before.rank.machine)))) s.covers;
    })
  where
    v : Live
    v =
        record {
          rank = replayed_at f.before.rank f.event (machine_want f.before.rank.machine) f.machine;
          left = left_after
              f.before.rank (machine_want f.before.rank.machine) f.turn f.event f.rest;
        }

    k : RankStands (start_at w (size w)) (size w) w.run r f.before
    k = s.run.ranks r f.before f.live

    settled : f.before.rank.pending ≡ []
    settled = settled_in (start_at w (size w)) (size w) w.run r f.before s.run.is_run (s.run.ranks r f.before f.live) f.event f.rest f.replaying

    goes : StepGoes (start_at w (size w)) (size w) w.run r f.before s.run.is_run k f.event f.rest f.replaying (machine_want f.before.rank.machine)
    goes = replays (start_at w (size w)) (size w) w.run r f.before s.run.is_run k f.event f.rest f.replaying (machine_want f.before.rank.machine) refl

    is_behind : f.before.rank.clock < length (history w.run r)
    is_behind = behind (start_at w (size w)) (size w) w.run r f.before s.run.is_run k f.event f.rest f.replaying

    same_turn : goes.turn ≡ f.turn
    same_turn = (let q : Ok goes.turn ≡ Ok f.turn = sym goes.turned ∙ f.turned in cc)

    stands : RankStands (start_at w (size w)) (size w) w.run r
        (record {
          rank = replayed_at f.before.rank f.event (machine_want f.before.rank.machine) f.machine;
          left = left_after f.before.rank (machine_want f.before.rank.machine) f.turn f.event f.rest;
        })
    stands =
        subst (λ t. RankStands (start_at w (size w)) (size w) w.run r
        (record {
          rank = replayed_at f.before.rank f.event (machine_want f.before.rank.machine) f.machine;
          left = left_after
              f.before.rank (machine_want f.before.rank.machine) t f.event f.rest;
        })) same_turn
        (goes.stands f.machine f.steps)

    printed_again : (z : ℤ) → machine_want f.before.rank.machine ≡ want.Print z → after_line w.lines r (f.before.rank.clock + 1) z ≡ w.lines
    printed_again z is =
        let x = next_is (start_at w (size w)) (size w) w.run r f.before s.run.is_run k f.event f.rest f.replaying
        (stopped f.before.rank.machine (want.Print z) is (λ y. cc)) in
        let g = print_fits z (payload (state_of f.before.rank.machine)) x.act x.message
        (subst (λ y. Fits y (payload (state_of f.before.rank.machine)) x.act x.message)
        (wanted f.before.rank.machine (want.Print z) is (λ y. cc)) x.makes) in
        print_again w.run r f.before.rank.clock w.lines z x.message (s.run.lines r)
        (subst (λ a. slice_get (history w.run r) f.before.rank.clock ≡ Some (a, x.message)) g.0
        (next_of_drop f.before.rank.clock (history w.run r) (x.act, x.message) x.rest x.is_next).there)

    lines_same : (x : Want) (t : Turn) → machine_want f.before.rank.machine ≡ x → lines_after w.lines r f.before.rank x t ≡ w.lines
    lines_same (want.Print z) Moved is =
        ap (λ z'. if is_settled z' then after_line w.lines r (f.before.rank.clock + 1) z else w.lines) settled ∙ printed_again z is
    lines_same (want.Print z) Blocked is = refl
    lines_same (want.Print z) Held is = refl
    lines_same (want.Print z) Ended is = refl
    lines_same want.Internal t is = refl
    lines_same (want.Send d c y) t is = refl
    lines_same (want.Receive y) t is = refl
    lines_same (want.Probe y) t is = refl
    lines_same (want.TryProbe y) t is = refl
    lines_same want.Halted t is = refl
    lines_same (want.Faulted y) t is = refl
