-- What events of which none is a crash leave as it was, and that they lead on one after another.
use Rattle.std.proofs.Common.{◌≡◌, ℕ, ◌⊎◌, inl, inr, Bool, true, false, if◌then◌else◌, List, [], ◌∷◌, ◌++◌, length, Option, Some, None}
use Rattle.std.proofs.Common.{refl, sym, ap, subst, ◌∙◌, nat_le, slice_get, slice_set, append_assoc, arith}
use Rattle.std.proofs.lemmas.List.{length-set}
use Rattle.checkpoint.specs.Image.{ImageValue}
use Rattle.rank_machine.specs.Acts.{Act}
use Rattle.rank_machine.specs.Machine.{MachineValue, machine_want}
use Rattle.rank_node.specs.Frames.{outgoing_of, arrival_of}
use Rattle.rank_node.specs.Steps.{turn_of}
use Rattle.rank_node.specs.Image.{image_of, after_image}
use Rattle.crash_free.specs.Runs.{Passed, history, continue}
use Rattle.bare_world.specs.declared.event.WorldEvent.{WorldEvent}
use Rattle.bare_world.specs.declared.event.WorldEvent.TheVariants.{Step, Put, Arrive, Store, Ack, Image, Crash, Restart, Release}
use Rattle.bare_world.specs.declared.reply.Reply.{Reply}
use Rattle.bare_world.specs.Headline.{stable_of}
use Rattle.bare_world.specs.World.{Live, WorldValue, size}
use Rattle.bare_world.specs.Follows.{Happens, Follows, passed_at, ImageFollows}
use Rattle.bare_world.specs.Onward.{IsWorld}
use Rattle.bare_world.specs.Stocked.{IsStocked, HasShelf}
use Rattle.bare_world.specs.Way.{CaughtUp, LeadsOn}
use Rattle.bare_world.specs.ToTheEnd.{IsNoCrash, NeedsNothingLost}
use Rattle.bare_world.proofs.HeadlineKept.{happens_can}
use Rattle.bare_world.proofs.Alike.OneEventMore.{world_after}
use Rattle.bare_world.proofs.Lists.Replaced.{slice_set-get}
use Rattle.bare_world.proofs.Ending.MayBeLostStill.{lost_after}
use Rattle.bare_world.proofs.Ending.NeedsNothingLost.{Longer, longer_none, longer_more, longer_after, KeepsLost}
use Rattle.bare_world.proofs.Ending.NeedsNothingLost.{LeadsFrom, no_crash, own_needs, from_append, leads_earlier}
use Rattle.bare_world.proofs.Way.EventIsAnswered.{step_answers, put_answers, arrive_answers, set_stocked, step_program}
use Rattle.bare_world.proofs.Way.EventIsAnswered.{replay_program, put_machine, arrive_machine, image_program}

-- ---- what happens is an answer

-- what happens follows, by its answer
follows_of : (w : WorldValue) (event : WorldEvent) (answer : Reply) (w' : WorldValue) → Happens w event answer w' → Follows w event answer w'
follows_of w (Step r) answer w' (inl f) =
    subst (λ z. Follows w (Step r) z w') (sym f.answered)
    (step_answers w r (turn_of f.before.rank) w' (subst (λ z. Happens w (Step r) z w') f.answered (inl f)))
follows_of w (Step r) answer w' (inr f) =
    subst (λ z. Follows w (Step r) z w') (sym f.answered) (step_answers w r f.turn w' (subst (λ z. Happens w (Step r) z w') f.answered (inr f)))
follows_of w (Put s d) answer w' f =
    subst (λ z. Follows w (Put s d) z w') (sym f.answered)
    (put_answers w s d (length f.frames) f.frame w' (subst (λ z. Happens w (Put s d) z w') f.answered f))
follows_of w (Arrive s d i) answer w' f = arrive_answers w s d i (arrival_of f.before.rank s f.frame) answer w' f.answered f
follows_of w (Store r) answer w' f =
    subst (λ z. Follows w (Store r) z w') (sym f.answered) (subst (λ z. Happens w (Store r) z w') f.answered f)
follows_of w (Ack r) answer w' f = subst (λ z. Follows w (Ack r) z w') (sym f.answered) (subst (λ z. Happens w (Ack r) z w') f.answered f)
follows_of w (Image r) answer w' f =
    subst (λ z. Follows w (Image r) z w') (sym f.answered) (subst (λ z. Happens w (Image r) z w') f.answered f)
follows_of w (Crash r) answer w' f =
    subst (λ z. Follows w (Crash r) z w') (sym f.answered) (subst (λ z. Happens w (Crash r) z w') f.answered f)
follows_of w (Restart r) answer w' f =
    subst (λ z. Follows w (Restart r) z w') (sym f.answered) (subst (λ z. Happens w (Restart r) z w') f.answered f)
follows_of w (Release r) answer w' f =
    subst (λ z. Follows w (Release r) z w') (sym f.answered) (subst (λ z. Happens w (Release r) z w') f.answered f)

-- ---- what is at hand stays at hand

-- where an image is taken
image_stocked : (w : WorldValue) (r : ℕ) (answer : Reply) (w' : WorldValue) → ImageFollows w r answer w' → IsStocked w → IsStocked w'
image_stocked w r answer w' f k =
    subst (λ z. IsStocked z) (sym f.after) (record { lines = mid.lines; run = mid.run; shelves = λ q o e. held q o (slice_set-get w.images r q o (Some img) e) })
  where
    img : ImageValue
    img = image_of f.before.rank

    ranks : List (Option Live)
    ranks = slice_set w.ranks r (Some (record { rank = after_image f.before.rank (stable_of (size w) r f.shelf); left = [] }))

    many : length ranks ≡ size w
    many = length-set w.ranks r (Some (record { rank = after_image f.before.rank (stable_of (size w) r f.shelf); left = [] }))

    mid : IsStocked (record w { ranks = ranks })
    mid =
        set_stocked w (record w { ranks = ranks }) r (record { rank = after_image f.before.rank (stable_of (size w) r f.shelf); left = [] }) refl refl refl
        (k.run r f.before f.live) k

    held : (q : ℕ) (o : Option ImageValue) → ((q ≡ r) × (o ≡ Some img)) ⊎ ((q ≡ r → ⊥) × (slice_get w.images q ≡ Some o))
        → HasShelf w.program q (length ranks) o
    held q o (inl h) =
        subst (λ z. HasShelf w.program z (length ranks) o) (sym h.0)
        (subst (λ z. HasShelf w.program r (length ranks) z) (sym h.1) (subst (λ n. HasShelf w.program r n (Some img)) (sym many) (f.shelf, f.held)))
    held q o (inr h) = subst (λ n. HasShelf w.program q n o) (sym many) (k.shelves q o h.1)

-- after any event but a crash
stocked_after : (w : WorldValue) (event : WorldEvent) (answer : Reply) (w' : WorldValue) → IsNoCrash event → Happens w event answer w' → IsStocked w
    → IsStocked w'
stocked_after w (Step r) answer w' mild (inl f) k =
    set_stocked w w' r _ (ap (λ z. z.program) f.after) (ap (λ z. z.images) f.after) (ap (λ z. z.ranks) f.after)
    (step_program f.before.rank (machine_want f.before.rank.machine) f.machine f.steps ∙ k.run r f.before f.live) k
stocked_after w (Step r) answer w' mild (inr f) k =
    set_stocked w w' r _ (ap (λ z. z.program) f.after) (ap (λ z. z.images) f.after) (ap (λ z. z.ranks) f.after)
    (replay_program f.before.rank f.event (machine_want f.before.rank.machine) f.machine f.steps ∙ k.run r f.before f.live) k
stocked_after w (Put s d) answer w' mild f k =
    set_stocked w w' s _ (ap (λ z. z.program) f.after) (ap (λ z. z.images) f.after) (ap (λ z. z.ranks) f.after)
    (ap (λ (z : MachineValue). z.program) (put_machine f.before.rank d (outgoing_of f.before.rank d)) ∙ k.run s f.before f.live) k
stocked_after w (Arrive s d i) answer w' mild f k =
    set_stocked w w' d _ (ap (λ z. z.program) f.after) (ap (λ z. z.images) f.after) (ap (λ z. z.ranks) f.after)
    (ap (λ (z : MachineValue). z.program) (arrive_machine f.before.rank s f.frame) ∙ k.run d f.before f.live) k
stocked_after w (Store r) answer w' mild f k =
    set_stocked w w' r _ (ap (λ z. z.program) f.after) (ap (λ z. z.images) f.after) (ap (λ z. z.ranks) f.after) (k.run r f.before f.live) k
stocked_after w (Ack r) answer w' mild f k =
    set_stocked w w' r _ (ap (λ z. z.program) f.after) (ap (λ z. z.images) f.after) (ap (λ z. z.ranks) f.after) (k.run r f.before f.live) k
stocked_after w (Image r) answer w' mild f k = image_stocked w r answer w' f k
stocked_after w (Crash r) answer w' mild f k = absurd mild
stocked_after w (Restart r) answer w' mild f k =
    set_stocked w w' r _ (ap (λ z. z.program) f.after) (ap (λ z. z.images) f.after) (ap (λ z. z.ranks) f.after)
    (image_program w r answer w' f) k
stocked_after w (Release r) answer w' mild f k =
    set_stocked w w' r _ (ap (λ z. z.program) f.after) (ap (λ z. z.images) f.after) (ap (λ z. z.ranks) f.after) (k.run r f.before f.live) k

-- ---- the run goes on

-- one list is the end of another
abbrev pub IsLater : List Passed → List Passed → Type 0
IsLater C D = (late : List Passed) × (D ≡ late ++ C)

-- where an act passes, or none
passed_later : (C : List Passed) (r c : ℕ) (o : Option Act) → IsLater C (passed_at C r c o)
passed_later C r c None = ([], refl)
passed_later C r c (Some a) = go (nat_le c (length (history C r)))
  where
    go : (b : Bool) → IsLater C (if b then C else record { rank = r; act = a } ∷ C)
    go true = ([], refl)
    go false = (record { rank = r; act = a } ∷ [], refl)

-- where acts of one rank pass
continued_later : (C : List Passed) (r : ℕ) (acts : List Act) → IsLater C (continue C r acts)
continued_later C r [] = ([], refl)
continued_later C r (a ∷ acts) =
    let p : Passed = record { rank = r; act = a } in
    let l = continued_later (p ∷ C) r acts in
    (l.0 ++ p ∷ [], l.1 ∙ sym (append_assoc l.0 (p ∷ []) C))

-- the same of equal runs
later_at : (C D E : List Passed) → E ≡ D → IsLater C D → IsLater C E
later_at C D E e l = (l.0, e ∙ l.1)

-- after any event
pub later_after : (w : WorldValue) (event : WorldEvent) (answer : Reply) (w' : WorldValue) → Happens w event answer w' → IsLater w.run w'.run
later_after w (Step r) answer w' (inl f) = later_at w.run _ w'.run (ap (λ z. z.run) f.after) (passed_later w.run r _ _)
later_after w (Step r) answer w' (inr f) = later_at w.run _ w'.run (ap (λ z. z.run) f.after) (passed_later w.run r _ _)
later_after w (Put s d) answer w' f = ([], ap (λ z. z.run) f.after)
later_after w (Arrive s d i) answer w' f = ([], ap (λ z. z.run) f.after)
later_after w (Store r) answer w' f = later_at w.run _ w'.run (ap (λ z. z.run) f.after) (continued_later w.run r f.acts)
later_after w (Ack r) answer w' f = ([], ap (λ z. z.run) f.after)
later_after w (Image r) answer w' f = ([], ap (λ z. z.run) f.after)
later_after w (Crash r) answer w' f = ([], ap (λ z. z.run) f.after)
later_after w (Restart r) answer w' f = ([], ap (λ z. z.run) f.after)
later_after w (Release r) answer w' f = later_at w.run _ w'.run (ap (λ z. z.run) f.after) (passed_later w.run r f.clock (Some f.act))

-- the program stays
pub program_after : (w : WorldValue) (event : WorldEvent) (answer : Reply) (w' : WorldValue) → Happens w event answer w' → w'.program ≡ w.program
program_after w (Step r) answer w' (inl f) = ap (λ z. z.program) f.after
program_after w (Step r) answer w' (inr f) = ap (λ z. z.program) f.after
program_after w (Put s d) answer w' f = ap (λ z. z.program) f.after
program_after w (Arrive s d i) answer w' f = ap (λ z. z.program) f.after
program_after w (Store r) answer w' f = ap (λ z. z.program) f.after
program_after w (Ack r) answer w' f = ap (λ z. z.program) f.after
program_after w (Image r) answer w' f = ap (λ z. z.program) f.after
program_after w (Crash r) answer w' f = ap (λ z. z.program) f.after
program_after w (Restart r) answer w' f = ap (λ z. z.program) f.after
program_after w (Release r) answer w' f = ap (λ z. z.program) f.after

-- there are as many ranks
pub size_same : (w : WorldValue) (event : WorldEvent) (answer : Reply) (w' : WorldValue) → Happens w event answer w' → size w' ≡ size w
size_same w (Step r) answer w' (inl f) = ap (λ z. length z.ranks) f.after ∙ length-set w.ranks r _
size_same w (Step r) answer w' (inr f) = ap (λ z. length z.ranks) f.after ∙ length-set w.ranks r _
size_same w (Put s d) answer w' f = ap (λ z. length z.ranks) f.after ∙ length-set w.ranks s _
size_same w (Arrive s d i) answer w' f = ap (λ z. length z.ranks) f.after ∙ length-set w.ranks d _
size_same w (Store r) answer w' f = ap (λ z. length z.ranks) f.after ∙ length-set w.ranks r _
size_same w (Ack r) answer w' f = ap (λ z. length z.ranks) f.after ∙ length-set w.ranks r _
size_same w (Image r) answer w' f = ap (λ z. length z.ranks) f.after ∙ length-set w.ranks r _
size_same w (Crash r) answer w' f = ap (λ z. length z.ranks) f.after ∙ length-set w.ranks r _
size_same w (Restart r) answer w' f = ap (λ z. length z.ranks) f.after ∙ length-set w.ranks r _
size_same w (Release r) answer w' f = ap (λ z. length z.ranks) f.after ∙ length-set w.ranks r _

-- ---- a world that was led on

-- By events that need nothing which may be lost at the start one world leads to the other, which is a world of the same program with a later
-- run.
pub record LedFrom (start w w' : WorldValue) : Type 0 where
  pub events : List WorldEvent
  pub leads : LeadsFrom start w events w'
  pub was_world : IsWorld w
  pub is_world : IsWorld w'
  pub stocked : IsStocked w'
  pub program : w'.program ≡ w.program
  pub same_size : size w' ≡ size w
  pub later : IsLater w.run w'.run
  pub longer : Longer w w'
  pub lost : KeepsLost w w'

-- which may be lost when they begin
abbrev pub Led : WorldValue → WorldValue → Type 0
Led w w' = LedFrom w w w'

-- by none
pub from_none : (start w : WorldValue) → IsWorld w → IsStocked w → LedFrom start w w
from_none start w i k =
    record {
      events = [];
      leads = refl;
      was_world = i;
      is_world = i;
      stocked = k;
      program = refl;
      same_size = refl;
      later = ([], refl);
      longer = longer_none w;
      lost = λ s d l h. h;
    }

-- by some and then more
pub from_more : (start a b c : WorldValue) → LedFrom start a b → LedFrom start b c → LedFrom start a c
from_more start a b c f g =
    record {
      events = f.events ++ g.events;
      leads = from_append start a b c f.events g.events f.leads g.leads;
      was_world = f.was_world;
      is_world = g.is_world;
      stocked = g.stocked;
      program = g.program ∙ f.program;
      same_size = g.same_size ∙ f.same_size;
      later =
          (g.later.0 ++ f.later.0, g.later.1 ∙ ap (λ z. g.later.0 ++ z) f.later.1 ∙ sym (append_assoc g.later.0 f.later.0 a.run));
      longer = longer_more a b c f.longer g.longer;
      lost = λ s d l h. g.lost s d (let n = f.same_size in omega (arith, l, n)) (f.lost s d l h);
    }

-- by one event
pub from_one : (start w : WorldValue) (event : WorldEvent) (answer : Reply) (w' : WorldValue) → IsWorld w → IsStocked w
    → NeedsNothingLost start w event → Happens w event answer w' → LedFrom start w w'
from_one start w event answer w' i k needs h =
    let mild = no_crash start w event needs in
    record {
      events = event ∷ [];
      leads = (needs, happens_can w event answer w' i.stands h, (answer, w', h, refl));
      was_world = i;
      is_world = world_after w event answer w' i (follows_of w event answer w' h);
      stocked = stocked_after w event answer w' mild h k;
      program = program_after w event answer w' h;
      same_size = size_same w event answer w' h;
      later = later_after w event answer w' h;
      longer = longer_after w event answer w' h;
      lost = lost_after w event answer w' i mild h;
    }

-- what is led on from a later world is led on from an earlier one
from_earlier : (a b c d : WorldValue) → LedFrom a a b → LedFrom b c d → LedFrom a c d
from_earlier a b c d f g =
    record {
      events = g.events;
      leads = leads_earlier a b f.was_world f.longer f.lost c g.events d g.leads;
      was_world = g.was_world;
      is_world = g.is_world;
      stocked = g.stocked;
      program = g.program;
      same_size = g.same_size;
      later = g.later;
      longer = g.longer;
      lost = g.lost;
    }

-- the same of what may be lost when they begin
pub led_none : (w : WorldValue) → IsWorld w → IsStocked w → Led w w
led_none w i k = from_none w w i k

-- some and then more
pub led_more : (a b c : WorldValue) → Led a b → Led b c → Led a c
led_more a b c f g = from_more a a b c f (from_earlier a b b c f g)

-- one event
pub led_one : (w : WorldValue) (event : WorldEvent) (answer : Reply) (w' : WorldValue) → IsWorld w → IsStocked w → NeedsNothingLost w w event
    → Happens w event answer w' → Led w w'
led_one w event answer w' i k needs h = from_one w w event answer w' i k needs h

-- a list that leads on, on any course, leads to where all have caught up
pub led_on : (start w : WorldValue) (events : List WorldEvent) → IsWorld w → IsStocked w → LeadsOn start w events
    → (w' : WorldValue) × LedFrom start w w' × CaughtUp start.run w'
led_on start w [] i k l = (w, from_none start w i k, l)
led_on start w (event ∷ events) i k l =
    let h = l.1 in
    let f = from_one start w event h.answer h.after i k (own_needs start w event l.0) h.happens in
    let g = led_on start h.after events f.is_world f.stocked (l.2 h.answer h.after h.happens) in
    (g.0, from_more start w h.after g.0 f g.1, g.2)
