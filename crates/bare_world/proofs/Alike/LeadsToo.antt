-- A restart, and so any event of the way, leaves alike worlds alike; the list leads the other world on too.
use Rattle.std.proofs.Common.{◌≡◌, ℕ, List, [], ◌∷◌, ◌++◌, Some, length, refl, sym, ap}
use Rattle.std.proofs.Common.{subst, ◌∙◌, arith, slice_get, slice_set}
use Rattle.event_logger.specs.Sequential.Event.{EventValue}
use Rattle.event_logger.specs.Sequential.History.{above, row}
use Rattle.event_logger.specs.declared.sequential.call.Reply.TheVariants.{Events}
use Rattle.rank_machine.specs.Machine.{machine_want}
use Rattle.rank_node.specs.Image.{begins_at}
use Rattle.rank_node.specs.Frames.{outgoing_of}
use Rattle.rank_node.specs.Replay.{restarted, left_of}
use Rattle.rank_node.specs.Steps.{refusal_of}
use Rattle.bare_world.specs.declared.event.WorldEvent.{WorldEvent}
use Rattle.bare_world.specs.declared.event.WorldEvent.TheVariants.{Step, Put, Arrive, Store, Ack, Image, Crash, Restart, Release}
use Rattle.bare_world.specs.declared.reply.Reply.{Reply}
use Rattle.crash_free.specs.Runs.{Passed}
use Rattle.bare_world.specs.World.{WorldValue, size}
use Rattle.bare_world.specs.Headline.{stable_of}
use Rattle.bare_world.specs.Follows.{CanNot, Happens}
use Rattle.bare_world.specs.Follows.{RestartFollows}
use Rattle.bare_world.specs.Way.{IsOwn, CaughtUp, MayHappen, LeadsOn, IsWayOn}
use Rattle.bare_world.specs.Driven.{shelved, AreAlike, Alike, IsUsed, Drove, Driven}
use Rattle.bare_world.proofs.Alike.SameEvents.{refusal_shelf}
use Rattle.bare_world.proofs.Alike.MayHappenToo.{happens_too}
use Rattle.bare_world.proofs.Alike.ListLeadsToo.{alike_set, alike_size, alike_live, alike_down, step_alike, put_alike, arrive_alike}
use Rattle.bare_world.proofs.Lists.Places.{one_there}

-- ---- a restart

-- a reply to a fetch names one list of events
events_one : (x y : List EventValue) → Events x ≡ Events y → x ≡ y
events_one x y e = cc

-- a restart leaves worlds alike, as the same image and the same events are read
restart_alike : (a b : WorldValue) (r : ℕ) (x y : Reply) (a' b' : WorldValue) → Alike a b → RestartFollows a r x a' → RestartFollows b r y b' → Alike a' b'
restart_alike a b r x y a' b' k f g =
    let n : size b ≡ size a = alike_size a b k in
    let events : g.events ≡ f.events = events_one g.events f.events (g.fetches.replied ∙ ap (λ z. Events (above 0 (row z r))) k.rows ∙ sym f.fetches.replied) in
    let on : g.begins.0 ≡ f.begins.0 =
    one_there g.begins.0 f.begins.0 (slice_get a.images r) (ap (λ z. slice_get z r) (sym k.images) ∙ g.begins.1) f.begins.1 in
    let image : g.image ≡ f.image =
    g.begins.2 ∙ ap (λ z. begins_at z r (size b) g.begins.0) k.program ∙ ap (λ z. begins_at a.program r z g.begins.0) n
    ∙ ap (λ z. begins_at a.program r (size a) z) on ∙ sym f.begins.2 in
    let ranks : b'.ranks ≡ slice_set b.ranks r
    (Some (shelved (record { rank = restarted (stable_of (size a) r f.shelf) f.image (length f.events); left = left_of f.image f.events }) g.shelf)) =
    ap (λ z. z.ranks) g.after
    ∙ ap (λ z. slice_set b.ranks r (Some (record { rank = restarted (stable_of z r g.shelf) g.image (length g.events); left = left_of g.image g.events }))) n
    ∙ ap (λ z. slice_set b.ranks r (Some (record { rank = restarted (stable_of (size a) r g.shelf) z (length g.events); left = left_of z g.events }))) image
    ∙ ap (λ z. slice_set b.ranks r (Some (record { rank = restarted (stable_of (size a) r g.shelf) f.image (length z); left = left_of f.image z }))) events in
    let ranks_a : a'.ranks
    ≡ slice_set a.ranks r (Some (record { rank = restarted (stable_of (size a) r f.shelf) f.image (length f.events); left = left_of f.image f.events })) =
    ap (λ z. z.ranks) f.after in
    let rows_a : a'.logger.rows ≡ a.logger.rows = ap (λ z. z.rows) f.fetches.logged in
    let rows_b : b'.logger.rows ≡ b.logger.rows = ap (λ z. z.rows) g.fetches.logged in
    record {
      program = ap (λ z. z.program) g.after ∙ k.program ∙ sym (ap (λ z. z.program) f.after);
      ranks =
          subst (λ z. AreAlike z b'.ranks) (sym ranks_a)
          (subst (λ z. AreAlike (slice_set a.ranks r
          (Some (record { rank = restarted (stable_of (size a) r f.shelf) f.image (length f.events); left = left_of f.image f.events }))) z) (sym ranks)
          (alike_set a.ranks b.ranks r
          (Some (record { rank = restarted (stable_of (size a) r f.shelf) f.image (length f.events); left = left_of f.image f.events }))
          (Some (shelved (record { rank = restarted (stable_of (size a) r f.shelf) f.image (length f.events); left = left_of f.image f.events }) g.shelf))
          k.ranks (g.shelf, refl)));
      images = ap (λ z. z.images) g.after ∙ k.images ∙ sym (ap (λ z. z.images) f.after);
      rows = rows_b ∙ k.rows ∙ sym rows_a;
      wires = ap (λ z. z.wires) g.after ∙ k.wires ∙ sym (ap (λ z. z.wires) f.after);
      lines = ap (λ z. z.lines) g.after ∙ k.lines ∙ sym (ap (λ z. z.lines) f.after);
      run = ap (λ z. z.run) g.after ∙ k.run ∙ sym (ap (λ z. z.run) f.after);
    }

-- ---- each event of the way

-- any used event leaves worlds alike
pub happens_alike : (a b : WorldValue) (event : WorldEvent) (x y : Reply) (a' b' : WorldValue) → Alike a b → IsUsed event
    → Happens a event x a' → Happens b event y b' → Alike a' b'
happens_alike a b (Step r) x y a' b' k used f g = step_alike a b r x y a' b' k f g
happens_alike a b (Put s d) x y a' b' k used f g = put_alike a b s d x y a' b' k f g
happens_alike a b (Arrive s d i) x y a' b' k used f g = arrive_alike a b s d i x y a' b' k f g
happens_alike a b (Restart r) x y a' b' k used f g = restart_alike a b r x y a' b' k f g
happens_alike a b (Store r) x y a' b' k used f g = absurd used
happens_alike a b (Ack r) x y a' b' k used f g = absurd used
happens_alike a b (Image r) x y a' b' k used f g = absurd used
happens_alike a b (Crash r) x y a' b' k used f g = absurd used
happens_alike a b (Release r) x y a' b' k used f g = absurd used

-- what can't happen in the one can't in the other
pub can_not_alike : (a b : WorldValue) (event : WorldEvent) → Alike a b → IsUsed event → CanNot a event → CanNot b event
can_not_alike a b (Step r) k used never = λ v live.
    let was = alike_live a b r v k live in
    let n = never was.rank was.live in (
      ap (λ z. z.left) was.same ∙ n.0,
      λ e. n.1 (sym (refusal_shelf was.rank.rank was.shelf (machine_want was.rank.rank.machine)) ∙ sym (ap (λ z. refusal_of z.rank) was.same) ∙ e),
    )
can_not_alike a b (Put s d) k used never = λ v live l.
    let was = alike_live a b s v k live in
    let n = alike_size a b k in
    ap (λ z. outgoing_of z.rank d) was.same ∙ never was.rank was.live (omega (arith, l, n))
can_not_alike a b (Arrive s d i) k used never = λ v frames f live wire there.
    let was = alike_live a b d v k live in
    never was.rank frames f was.live (wire.0, ap (λ z. slice_get z s) (sym k.wires) ∙ wire.1, wire.2) there
can_not_alike a b (Restart r) k used never = λ down. never (alike_down a b r k down)
can_not_alike a b (Store r) k used never = absurd used
can_not_alike a b (Ack r) k used never = absurd used
can_not_alike a b (Image r) k used never = absurd used
can_not_alike a b (Crash r) k used never = absurd used
can_not_alike a b (Release r) k used never = absurd used

-- its own in the one, its own in the other
own_alike : (start a b : WorldValue) (event : WorldEvent) → Alike a b → IsUsed event → IsOwn start b event → IsOwn start a event
own_alike start a b (Step r) k used own = tt
own_alike start a b (Put s d) k used own = tt
own_alike start a b (Arrive s d i) k used own = λ f frames old wire there was.
    own f frames old (wire.0, ap (λ z. slice_get z s) k.wires ∙ wire.1, wire.2) there was
own_alike start a b (Restart r) k used own = tt
own_alike start a b (Store r) k used own = absurd used
own_alike start a b (Ack r) k used own = absurd used
own_alike start a b (Image r) k used own = absurd used
own_alike start a b (Crash r) k used own = absurd used
own_alike start a b (Release r) k used own = absurd used

-- every rank has caught up in the one, and so in the other
caught_alike : (C : List Passed) (a b : WorldValue) → Alike a b → CaughtUp C b → CaughtUp C a
caught_alike C a b k c r l =
    let n = alike_size a b k in
    let v = c r (omega (arith, l, n)) in
    let was = alike_live a b r v.0 k v.1 in
    let e = ap (λ z. z.rank.clock) was.same in
    let m = v.3 in
    (was.rank, was.live, sym (ap (λ z. z.left) was.same) ∙ v.2, omega (arith, m, e))

-- what may happen in the one may happen in the other
may_alike : (a b : WorldValue) (event : WorldEvent) (y : Reply) (b' : WorldValue) → Alike a b → IsUsed event → (CanNot b event → ⊥)
    → Happens b event y b' → MayHappen a event
may_alike a b event y b' k used can h =
    let course = happens_too a b event y b' k used h in
    record {
      can = λ never. can (can_not_alike a b event k used never);
      answer = course.0;
      after = course.1;
      happens = course.2;
    }

-- ---- the list leads on

-- events that drove a world to where all ranks caught up lead on every world alike
leads : (start a b : WorldValue) (events : List WorldEvent) (b' : WorldValue) → Alike a b → Drove start b events b' → CaughtUp start.run b'
    → LeadsOn start a events
leads start a b [] b' k drove c = caught_alike start.run a b k (subst (λ z. CaughtUp start.run z) drove c)
leads start a b (event ∷ events) b' k drove c = (
  own_alike start a b event k drove.0 drove.1,
  may_alike a b event drove.3.0 drove.3.1 k drove.0 drove.2 drove.3.2,
  λ answer mid h. leads start mid drove.3.1 events b' (happens_alike a b event answer drove.3.0 mid drove.3.1 k drove.0 h drove.3.2) drove.3.3 c,
)

-- A list by which a world like the start was driven until every rank had caught up is a way on.
pub way_on : (start : WorldValue) (events : List WorldEvent) (w : WorldValue) → Driven start events w → CaughtUp start.run w → IsWayOn start events
way_on start events w d c = leads start start d.first events w d.alike d.drove c

-- ---- one event more

-- one more event drives a world on that was driven so far
pub drove_push : (start w mid : WorldValue) (events : List WorldEvent) (event : WorldEvent) (answer : Reply) (w' : WorldValue) → Drove start w events mid
    → IsUsed event → IsOwn start mid event → (CanNot mid event → ⊥) → Happens mid event answer w' → Drove start w (events ++ event ∷ []) w'
drove_push start w mid [] event answer w' drove used own can h = (
  used,
  subst (λ z. IsOwn start z event) drove own,
  λ never. can (subst (λ z. CanNot z event) (sym drove) never),
  (answer, w', subst (λ z. Happens z event answer w') drove h, refl),
)
drove_push start w mid (e ∷ events) event answer w' drove used own can h =
    (drove.0, drove.1, drove.2, (drove.3.0, drove.3.1, drove.3.2, drove_push start drove.3.1 mid events event answer w' drove.3.3 used own can h))
