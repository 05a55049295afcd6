-- What a crash and a restart come to.
use Rattle.std.proofs.Common.{◌≡◌, ℕ, ◌<◌, ◌≤◌, false, inr, List, [], Option, Some, None, length, refl, sym}
use Rattle.std.proofs.Common.{ap, subst, ◌∙◌, arith, slice_get, slice_set, slice_index_or, IsSomeAnd}
use Rattle.std.proofs.lemmas.Option.{slice_get_within, slice_get-get_or}
use Rattle.limits.specs.Limits.{most_events}
use Rattle.checkpoint.specs.Image.{ImageValue}
use Rattle.event_logger.specs.Sequential.Event.{EventValue}
use Rattle.event_logger.specs.Sequential.History.{Answers, StateValue, above}
use Rattle.event_logger.specs.declared.sequential.call.Call.TheVariants.{Fetch}
use Rattle.event_logger.specs.declared.sequential.call.Reply.TheVariants.{Events}
use Rattle.rank_node.specs.Image.{begins_at}
use Rattle.rank_node.specs.Replay.{cuts, left_of}
use Rattle.bare_world.specs.World.{Live, WorldValue, size}
use Rattle.bare_world.specs.Seats.{AtRank, IsRestarted}
use Rattle.bare_world.specs.Follows.{CanNot, Follows}
use Rattle.bare_world.specs.Memory.{Unchanged}
use Rattle.bare_world.specs.Stands.{Stands}
use Rattle.bare_world.specs.declared.event.WorldEvent.TheVariants.{Crash, Restart}
use Rattle.bare_world.specs.declared.reply.Reply.TheVariants as reply
use Rattle.bare_world.proofs.Calls.RankOfEvent.{none_live, live_at, not_down, same_world}
use Rattle.bare_world.proofs.Plain.ActsOfEvents.{cuts_none}
use Rattle.bare_world.proofs.Plain.Worlds.{as_many_rows}
use Rattle.bare_world.proofs.Standing.KeptByRestarts.{row_whole}
use Rattle.audit.proofs.Reaching.{some_there}

-- no rank is there to crash
pub crash_nowhere : (w : WorldValue) (r : ℕ) → size w ≤ r → Follows w (Crash r) reply.Refused w
crash_nowhere w r past = (λ v live. none_live w r v past live, refl)

-- a rank that is down can't crash
pub crash_down : (w : WorldValue) (r : ℕ) → slice_get w.ranks r ≡ Some None → Follows w (Crash r) reply.Refused w
crash_down w r down = (λ v live. not_down w r v down live, refl)

-- a rank crashes
pub crash_some : (w w' : WorldValue) (r : ℕ) → AtRank w.ranks r (λ v. Unit {0}) → w'.ranks ≡ slice_set w.ranks r None
    → w'.program ≡ w.program → w'.images ≡ w.images → w'.logger ≡ w.logger → w'.wires ≡ w.wires → w'.lines ≡ w.lines → w'.run ≡ w.run
    → Follows w (Crash r) reply.Crashed w'
crash_some w w' r h ranks program images logger wires lines run =
    let v = live_at w.ranks r _ h in
    record { before = v.0; live = v.1; answered = refl; after = same_world w' _ program ranks images logger wires lines run }

-- ---- a restart

-- no rank is there to start again
pub restart_nowhere : (w : WorldValue) (r : ℕ) → size w ≤ r → Follows w (Restart r) reply.Refused w
restart_nowhere w r past = (λ down. (let l = slice_get_within w.ranks r None down in omega (arith, l, past)), refl)

-- a rank that is live can't start again
pub restart_live : (w : WorldValue) (r : ℕ) → AtRank w.ranks r (λ v. Unit {0}) → Follows w (Restart r) reply.Refused w
restart_live w r h = (λ down. (let v = live_at w.ranks r _ h in not_down w r v.0 down v.1), refl)

-- its row is at the logger
pub restart_row : (w : WorldValue) (r : ℕ) → Stands w → r < length w.ranks → r < length w.logger.rows
restart_row w r s l = let e = as_many_rows s in omega (arith, e, l)

-- and has no more events than there may be
pub restart_few : (w : WorldValue) (r : ℕ) (events : List EventValue) (logger : StateValue) → Stands w → r < length w.ranks
    → Answers w.logger r (Fetch 0) (Events events) logger → length events ≤ most_events
restart_few w r events logger s l fetched =
    let q : Events events ≡ Events (above 0 (slice_index_or w.logger.rows r [])) = fetched.replied in
    let e : events ≡ above 0 (slice_index_or w.logger.rows r []) = cc in
    let there = slice_get-get_or w.logger.rows r [] (restart_row w r s l) in
    subst (λ z. length z ≤ most_events) (sym (e ∙ row_whole w r s (slice_index_or w.logger.rows r []) there))
    (s.counts.rows r (slice_index_or w.logger.rows r []) there)

-- and no image cuts one of them
pub restart_uncut : (w : WorldValue) (r : ℕ) (events : List EventValue) (logger : StateValue) → Stands w → r < length w.ranks
    → Answers w.logger r (Fetch 0) (Events events) logger
    → IsSomeAnd (slice_get w.images r) (λ image. cuts (begins_at w.program r (length w.ranks) image).clock events ≡ false)
restart_uncut w r events logger s l fetched = go (slice_get w.images r) refl
  where
    there : slice_get w.logger.rows r ≡ Some (slice_index_or w.logger.rows r [])
    there = slice_get-get_or w.logger.rows r [] (restart_row w r s l)

    is : events ≡ slice_index_or w.logger.rows r []
    is =
        let q : Events events ≡ Events (above 0 (slice_index_or w.logger.rows r [])) = fetched.replied in
        let e : events ≡ above 0 (slice_index_or w.logger.rows r []) = cc in
        e ∙ row_whole w r s (slice_index_or w.logger.rows r []) there

    go : (o : Option (Option ImageValue)) → slice_get w.images r ≡ o
        → IsSomeAnd o (λ image. cuts (begins_at w.program r (length w.ranks) image).clock events ≡ false)
    go None e =
        absurd (let many = s.run.as_many_images in
        let q : None ≡ Some (slice_index_or w.images r None) = sym e ∙ slice_get-get_or w.images r None (omega (arith, many, l)) in
        cc)
    go (Some image) e =
        cuts_none (begins_at w.program r (length w.ranks) image).clock events
        (λ k x at. s.runs.uncut r k (slice_index_or w.logger.rows r []) x image there (ap (λ z. slice_get z k) (sym is) ∙ at) e)

-- a rank starts again
pub restart_some : (w w' : WorldValue) (r count : ℕ) (events : List EventValue)
    → slice_get w.ranks r ≡ Some None
    → Answers w.logger r (Fetch 0) (Events events) w'.logger
    → IsSomeAnd (slice_get w.images r) (λ image. count ≡ length (left_of (begins_at w.program r (size w) image) events))
    → IsSomeAnd (slice_get w.images r) (λ image. (x : Option Live) × IsRestarted w.program (size w) r image events x × (w'.ranks ≡ slice_set w.ranks r x))
    → w'.program ≡ w.program → w'.images ≡ w.images → w'.wires ≡ w.wires → w'.lines ≡ w.lines → w'.run ≡ w.run
    → Follows w (Restart r) (reply.Restarted count) w'
restart_some w w' r count events down fetches counts up program images wires lines run = follows
  where
    there : (image : Option ImageValue) × (slice_get w.images r ≡ Some image)
        × ((x : Option Live) × IsRestarted w.program (size w) r image events x × (w'.ranks ≡ slice_set w.ranks r x))
    there = some_there (slice_get w.images r) _ up

    counted : count ≡ length (left_of (begins_at w.program r (size w) there.0) events)
    counted = subst (λ z. IsSomeAnd z (λ image. count ≡ length (left_of (begins_at w.program r (size w) image) events))) there.1 counts

    follows : Follows w (Restart r) (reply.Restarted count) w'
    follows = record {
      down = down;
      events = events;
      fetches = fetches;
      image = begins_at w.program r (size w) there.0;
      begins = (there.0, there.1, refl);
      shelf = there.2.1.shelf;
      held = there.2.1.held;
      answered = ap reply.Restarted counted;
      after = same_world w' _ program (there.2.2 ∙ ap (λ z. slice_set w.ranks r z) there.2.1.after) images refl wires lines run;
    }

-- the same, of a rank whose number the event names
pub restart_named : (w w' : WorldValue) (r named count : ℕ) (events : List EventValue) → r ≡ named
    → slice_get w.ranks r ≡ Some None
    → Answers w.logger r (Fetch 0) (Events events) w'.logger
    → IsSomeAnd (slice_get w.images r) (λ image. count ≡ length (left_of (begins_at w.program r (size w) image) events))
    → IsSomeAnd (slice_get w.images r) (λ image. (x : Option Live) × IsRestarted w.program (size w) r image events x × (w'.ranks ≡ slice_set w.ranks r x))
    → w'.program ≡ w.program → w'.images ≡ w.images → w'.wires ≡ w.wires → w'.lines ≡ w.lines → w'.run ≡ w.run
    → Follows w (Restart named) (reply.Restarted count) w'
restart_named w w' r named count events same down fetches counts up program images wires lines run =
    subst (λ z. Follows w (Restart z) (reply.Restarted count) w') same
    (restart_some w w' r count events down fetches counts up program images wires lines run)

-- where memory ends a restart could happen; the fetch may have been answered
pub restart_possible : (w : WorldValue) (r : ℕ) → slice_get w.ranks r ≡ Some None → CanNot w (Restart r) → ⊥
restart_possible w r down cannot = cannot down

-- memory ended after the fetch
pub restart_fetched : (w w' : WorldValue) (r : ℕ) (events : List EventValue) → slice_get w.ranks r ≡ Some None
    → Answers w.logger r (Fetch 0) (Events events) w'.logger
    → w'.program ≡ w.program → w'.ranks ≡ w.ranks → w'.images ≡ w.images → w'.wires ≡ w.wires → w'.lines ≡ w.lines → w'.run ≡ w.run
    → Unchanged w (Restart r) w'
restart_fetched w w' r events down fetches program ranks images wires lines run =
    inr (record { down = down; events = events; fetches = fetches; after = same_world w' _ program ranks images refl wires lines run })

-- what a restart comes to, and what its calls ask for
pub ruleset restart_laws = (restart_nowhere, restart_live, restart_row, restart_few, restart_uncut, restart_some, restart_possible, restart_fetched)
