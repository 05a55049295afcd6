-- A world to which events with crashes were given is compared with a run and with its script.
use Rattle.std.proofs.Common.{◌≡◌, ℕ, ◌<◌, ◌≤◌, ◌-◌, List, [], ◌∷◌, ◌++◌, length, take, drop, slice_index_or, Ok, ap, sym, subst, ◌∙◌, refl, arith}
use Rattle.std.specs.Prelude.{Option, Some, None, true, false, reverse, option_map, slice_get, IsSomeAnd, ◌≢◌}
use Rattle.std.proofs.lemmas.List.{append-nil, append_assoc, take_all}
use Rattle.std.proofs.lemmas.Option.{slice_get_past}
use Rattle.limits.specs.Limits.{most_event_lines}
use Rattle.rank_language.specs.Program.{ProgramValue}
use Rattle.rank_text.specs.declared.script.line.Order.{Order}
use Rattle.rank_text.specs.declared.script.line.ScriptLine.{ScriptLine}
use Rattle.rank_text.specs.Scripts.Script.{orders_of}
use Rattle.crash_free.specs.Runs.{Passed, history}
use Rattle.crash_free.specs.Sim.{SimValue, Simulates}
use Rattle.bare_world.specs.declared.event.WorldEvent.{WorldEvent}
use Rattle.bare_world.specs.declared.view.View.{View}
use Rattle.bare_world.specs.declared.reply.Reply.{Reply}
use Rattle.bare_world.specs.declared.reply.Reply.TheVariants as reply
use Rattle.bare_world.specs.Follows.{Follows}
use Rattle.bare_world.specs.View.{IsView, shown_of}
use Rattle.bare_world.specs.World.{Live, WorldValue, size}
use Rattle.bare_world.specs.Headline.{IsFresh, StandsFor}
use Rattle.world_model.specs.EventsText.Events.{events_of}
use Rattle.world_model.specs.EventsText.Written.{events_text}
use Rattle.explore.specs.Own.{own}
use Rattle.run_events.specs.Scripted.{IsBack, IsScriptText, PlaysScript, PlaysScriptFrom, Takes, ends, goes, before, behind, line_at, line_of, used_lines}
use Rattle.run_events.proofs.Played.{all_there}
use Rattle.ports.proofs.SumLemmas.{nothing_is}

-- false isn't true
no_true : false ≡ true → ⊥
no_true e = cc

-- whatever comes of the events that are left, these lines come from those before them
pub record IsTaking (first : WorldValue) (events : List WorldEvent) (w : WorldValue) (rest : List WorldEvent) (lines : List ScriptLine) : Type 0 where
  pub on : (left : List ScriptLine) (last : WorldValue) → Takes last w rest left → Takes last first events (lines ++ left)

-- at first all events are left
pub none_taken : (w : WorldValue) (events : List WorldEvent) → IsTaking w events w events []
none_taken w events = record { on = λ left last takes. takes }

-- what was to come before the lines that are left comes behind those before them
moved : (lines left : List ScriptLine) (o : Option ScriptLine) → lines ++ before o left ≡ behind lines o ++ left
moved lines left None = refl
moved lines left (Some line) = sym (append_assoc lines (line ∷ []) left)

-- a list with items is its first one, and the others
pub first_of : (events : List WorldEvent) (d : WorldEvent) → 1 ≤ length events → events ≡ slice_index_or events 0 d ∷ take (length events - 1) (drop 1 events)
first_of [] d some = absurd (omega (arith, some))
first_of (x ∷ xs) d some = ap (λ z. x ∷ z) (sym (take_all (length (x ∷ xs) - 1) xs (omega arith)))

-- one event, the first of those that are left, is taken
pub one_taken : (first w mid : WorldValue) (events left : List WorldEvent) (event : WorldEvent) (others : List WorldEvent) (answer : Reply)
    (lines more : List ScriptLine) (o : Option ScriptLine) → IsTaking first events w left lines → left ≡ event ∷ others → o ≡ line_at w event
    → Follows w event answer mid → answer ≢ reply.Refused → more ≡ behind lines o → IsTaking first events mid others more
one_taken first w mid events left event others answer lines more o so_far split is follows taken now = record {
  on = λ after last takes. subst (λ z. Takes last first events (z ++ after)) (ap (behind lines) (sym is) ∙ sym now)
      (subst (λ z. Takes last first events z) (moved lines after (line_at w event))
      (so_far.on (before (line_at w event) after) last (subst (λ z. Takes last w z (before (line_at w event) after)) (sym split) (goes answer follows taken takes))));
}

-- at the end all are taken
pub all_taken : (first last : WorldValue) (events left : List WorldEvent) (lines : List ScriptLine) → IsTaking first events last left lines → length left < 1
    → Takes last first events lines
all_taken first last events [] lines so_far none = subst (λ z. Takes last first events z) (append-nil lines) (so_far.on [] last ends)
all_taken first last events (x ∷ xs) lines so_far none = absurd (omega (arith, none))

-- what is shown of a rank is its clock
pub line_shown : (w : WorldValue) (r : ℕ) (asked : Order) (view : View) → IsView w r view
    → option_map (line_of r asked) (slice_get w.ranks r) ≡ Some (record { rank = r; clock = view.clock; order = asked })
line_shown w r asked view is_view = go (slice_get w.ranks r) is_view
  where
    go : (o : Option (Option Live)) → IsSomeAnd o (λ x. view ≡ shown_of x (length (history w.run r)))
        → option_map (line_of r asked) o ≡ Some (record { rank = r; clock = view.clock; order = asked })
    go None shown = absurd shown
    go (Some None) shown = rw shown refl
    go (Some (Some v)) shown = rw shown refl

-- a rank that isn't there has no line
pub no_line : (w : WorldValue) (r : ℕ) (asked : Order) → size w ≤ r → option_map (line_of r asked) (slice_get w.ranks r) ≡ None
no_line w r asked past = ap (option_map (line_of r asked)) (slice_get_past w.ranks r past)

-- a rank is back where so much is shown of it
pub is_back : (w : WorldValue) (r : ℕ) (view : View) → IsView w r view → view.live ≡ true → view.left ≡ 0 → view.acts ≤ view.clock → IsBack w r
is_back w r view is_view live left acts = go (slice_get w.ranks r) refl is_view
  where
    go : (o : Option (Option Live)) → slice_get w.ranks r ≡ o → IsSomeAnd o (λ x. view ≡ shown_of x (length (history w.run r))) → IsBack w r
    go None at shown = absurd shown
    go (Some None) at shown = absurd (no_true (sym (ap (λ (z : View). z.live) shown) ∙ live))
    go (Some (Some v)) at shown = record {
      rank = v;
      live = at;
      none_left = nothing_is v.left (sym (ap (λ (z : View). z.left) shown) ∙ left);
      made = subst (λ k. k ≤ v.rank.clock) (ap (λ (z : View). z.acts) shown) (subst (λ k. view.acts ≤ k) (ap (λ (z : View). z.clock) shown) acts);
    }

-- where a world did what events say and each rank made its acts of a run, they play it with its script
pub goes_with : (first : WorldValue) (n : ℕ) (s : SimValue) (script : List ScriptLine) (unused : List ℕ) (events : List WorldEvent)
    (lines : List ScriptLine) (last : WorldValue) → Takes last first events lines → ((r : ℕ) → r < n → orders_of r lines ≡ used_lines script unused r)
    → ((r : ℕ) → r < size last → IsBack last r) → StandsFor last last.run → size last ≡ n → length s.machines ≡ n → Simulates s
    → ((r : ℕ) → r < n → own r (reverse last.run) ≡ own r (reverse s.run)) → PlaysScriptFrom first n s.run script unused events last
goes_with first n s script unused events lines last takes used back stands as_many ranks simulates same =
    record {
      lines = lines;
      takes = takes;
      used = used;
      back = back;
      stands = stands;
      as_many = as_many;
      there = all_there last n s stands as_many ranks simulates same;
    }

-- so from a new world
pub played : (program : ProgramValue) (n : ℕ) (C : List Passed) (script : List ScriptLine) (unused : List ℕ) (events : List WorldEvent)
    (first last : WorldValue) → IsFresh program n first → PlaysScriptFrom first n C script unused events last → PlaysScript program n C script unused events
played program n C script unused events first last fresh plays = record { first = first; fresh = fresh; last = last; plays = plays }

-- so is their text
pub is_text : (program : ProgramValue) (n : ℕ) (C : List Passed) (script : List ScriptLine) (unused : List ℕ) (events : List WorldEvent) (text : List ℕ)
    → PlaysScript program n C script unused events → length events ≤ most_event_lines → events_of text ≡ Ok events → text ≡ events_text events
    → IsScriptText program n C script unused text
is_text program n C script unused events text plays few read written =
    record { events = events; read = read; plays = plays; few = few; written = written }
