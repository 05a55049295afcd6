-- A world to which events were given is compared with a run.
use Rattle.std.proofs.Common.{◌≡◌, ℕ, ◌<◌, ◌≤◌, List, length, Ok, ap, subst, ◌∙◌}
use Rattle.std.specs.Prelude.{reverse}
use Rattle.limits.specs.Limits.{most_event_lines}
use Rattle.rank_language.specs.Program.{ProgramValue}
use Rattle.crash_free.specs.Runs.{Passed, history, prints_from, IsRun}
use Rattle.crash_free.specs.Sim.{SimValue, Simulates, start_of}
use Rattle.audit.specs.Rows.{events_from}
use Rattle.bare_world.specs.declared.event.WorldEvent.{WorldEvent}
use Rattle.bare_world.specs.declared.reply.Reply.{Reply}
use Rattle.bare_world.specs.World as world
use Rattle.bare_world.specs.World.{WorldValue, size}
use Rattle.bare_world.specs.Headline.{IsFresh, StandsFor}
use Rattle.bare_world.specs.Sequences.{FollowsAll}
use Rattle.world_model.specs.EventsText.Events.{events_of}
use Rattle.world_model.specs.EventsText.Written.{events_text}
use Rattle.explore.specs.Own.{own}
use Rattle.run_events.specs.Plays.{ArePlain, NoneRefused, IsThere, PlaysFrom, Plays, IsPlayText}
use Rattle.explore.proofs.Same.{same_runs}

-- a rank of a world that has the history of another run printed what it did there, and its row is of the same events
is_there : (w : WorldValue) (C : List Passed) (r : ℕ) → StandsFor w w.run → history w.run r ≡ history C r → IsThere w C r
is_there w C r stands same =
    record {
      acts = same;
      lines = stands.lines r ∙ ap (prints_from 0) same;
      row = λ events at. stands.rows r events at ∙ ap (events_from 0) same;
    }

-- where each rank of a world made its acts of a run, it is where the run is
pub all_there : (w : WorldValue) (n : ℕ) (s : SimValue) → StandsFor w w.run → size w ≡ n → length s.machines ≡ n → Simulates s
    → ((r : ℕ) → r < n → own r (reverse w.run) ≡ own r (reverse s.run)) → (r : ℕ) → r < n → IsThere w s.run r
all_there w n s stands as_many ranks simulates same r low = is_there w s.run r stands (each r)
  where
    in_world : IsRun (world.start_of w) n w.run
    in_world = subst (λ k. IsRun (world.start_of w) k w.run) as_many stands.is_run

    in_run : IsRun (start_of s.program (length s.machines)) n s.run
    in_run = subst (λ k. IsRun (start_of s.program (length s.machines)) k s.run) ranks simulates.is_run

    each : (r : ℕ) → history w.run r ≡ history s.run r
    each = same_runs (world.start_of w) (start_of s.program (length s.machines)) n w.run s.run in_world in_run same

-- where a world did what events say and each rank made its acts of a run, they play the run
pub goes : (before : WorldValue) (n : ℕ) (s : SimValue) (events : List WorldEvent) (replies : List Reply) (after : WorldValue)
    → FollowsAll before events replies after → NoneRefused replies → StandsFor after after.run → size after ≡ n → length s.machines ≡ n
    → Simulates s → ((r : ℕ) → r < n → own r (reverse after.run) ≡ own r (reverse s.run)) → PlaysFrom before n s.run events after
goes before n s events replies after follows taken stands as_many ranks simulates same =
    record {
      replies = replies;
      follows = follows;
      taken = taken;
      stands = stands;
      as_many = as_many;
      there = all_there after n s stands as_many ranks simulates same;
    }

-- so from a new world
pub played : (program : ProgramValue) (n : ℕ) (C : List Passed) (events : List WorldEvent) (before after : WorldValue) → ArePlain events
    → IsFresh program n before → PlaysFrom before n C events after → Plays program n C events
played program n C events before after plain fresh plays =
    record { plain = plain; before = before; fresh = fresh; after = after; plays = plays }

-- so is their text
pub is_text : (program : ProgramValue) (n : ℕ) (C : List Passed) (events : List WorldEvent) (text : List ℕ) → Plays program n C events
    → length events ≤ most_event_lines → events_of text ≡ Ok events → text ≡ events_text events → IsPlayText program n C text
is_text program n C events text plays few read written =
    record { events = events; read = read; plays = plays; few = few; written = written }
