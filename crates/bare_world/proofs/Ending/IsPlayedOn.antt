-- A world that is played on: the list of what happened leads from where it began to where it is, and how many steps it has.
use Rattle.std.proofs.Common.{◌≡◌, ℕ, zero, suc, ◌+◌, ◌<◌, ◌≤◌, ◌==◌, ◌⊎◌, inl, inr, Bool, true, false, if◌then◌else◌, List, [], ◌∷◌, ◌++◌}
use Rattle.std.proofs.Common.{refl, sym, ap, subst, ◌∙◌, arith, append_assoc}
use Rattle.std.proofs.lemmas.Bool.{eqb-true}
use Rattle.std.proofs.lemmas.List.{append-nil}
use Rattle.bare_world.specs.declared.event.WorldEvent.{WorldEvent}
use Rattle.bare_world.specs.declared.event.WorldEvent.TheVariants.{Step, Put, Arrive, Store, Ack, Image, Crash, Restart, Release}
use Rattle.bare_world.specs.declared.reply.Reply.{Reply}
use Rattle.bare_world.specs.World.{WorldValue, size}
use Rattle.bare_world.specs.Follows.{Follows, Happens}
use Rattle.bare_world.specs.Memory.{Unchanged, Fetched}
use Rattle.bare_world.specs.Onward.{IsWorld}
use Rattle.bare_world.specs.ToTheEnd.{IsNoCrash, Leads}
use Rattle.bare_world.specs.Finished.{leaves_all, step_of, steps_in, LeadsAlmost, IsAfter, HasLed, Played, PlayedAlmost, below, for_all, no_steps}
use Rattle.bare_world.proofs.HeadlineKept.{happens_can}
use Rattle.bare_world.proofs.Alike.OneEventMore.{happened}
use Rattle.bare_world.proofs.Ending.LeadsOn.{later_after, program_after, size_same}
use Rattle.bare_world.proofs.Ending.LeavesAll.{leaves}

-- ---- steps on the list

-- those of a longer list
steps_append : (r : ℕ) (xs : List WorldEvent) (e : WorldEvent) → steps_in r (xs ++ e ∷ []) ≡ steps_in r xs + step_of r e
steps_append r [] e = (let q : step_of r e + 0 ≡ 0 + step_of r e = omega arith in q)
steps_append r (x ∷ xs) e = (let q = steps_append r xs e in omega (arith, q))

-- no rank below k is another from there on
below_none : (k r : ℕ) → k ≤ r → below k r ≡ 0
below_none zero r l = refl
below_none (suc k) r l = go (k == r) refl (below_none k r (omega (arith, l)))
  where
    go : (b : Bool) → (k == r) ≡ b → below k r ≡ 0 → (if b then 1 else 0) + below k r ≡ 0
    go true e n = absurd (let q = eqb-true k r e in omega (arith, q, l))
    go false e n = omega (arith, n)

-- each rank counts once at most
below_one : (k r : ℕ) → below k r ≤ 1
below_one zero r = omega arith
below_one (suc k) r = go (k == r) refl (below_one k r)
  where
    go : (b : Bool) → (k == r) ≡ b → below k r ≤ 1 → (if b then 1 else 0) + below k r ≤ 1
    go true e m = (let q = eqb-true k r e in let n = below_none k r (omega (arith, q)) in omega (arith, n))
    go false e m = omega (arith, m)

-- ---- what happened is on the list

-- lists that lead on one after the other
pub leads_append : (a b c : WorldValue) (x y : List WorldEvent) → Leads a x b → Leads b y c → Leads a (x ++ y) c
leads_append a b c [] y e g = subst (λ z. Leads z y c) e g
leads_append a b c (event ∷ x) y f g = (f.0, f.1, (f.2.0, f.2.1, f.2.2, leads_append f.2.1 b c x y f.2.3 g))

-- one event that led on is what is new
pub led_one : (w : WorldValue) (events : List WorldEvent) (event : WorldEvent) (w' : WorldValue) (events' : List WorldEvent) → Leads w (event ∷ []) w'
    → events' ≡ events ++ event ∷ [] → HasLed w events w' events'
unfolding HasLed
led_one w events event w' events' l e = (event ∷ [], e, l)

-- where nothing happened nothing is
led_same : (w : WorldValue) (events : List WorldEvent) (w' : WorldValue) → w' ≡ w → HasLed w events w' events
unfolding HasLed
led_same w events w' e = ([], sym (append-nil events), e)

-- and what is new in two parts
led_more : (u v w : WorldValue) (x y z : List WorldEvent) → HasLed u x v y → HasLed v y w z → HasLed u x w z
unfolding HasLed
led_more u v w x y z f g =
    (f.0 ++ g.0, g.1 ∙ ap (λ k. k ++ g.0) f.1 ∙ append_assoc x f.0 g.0, leads_append u v w f.0 g.0 f.2 g.2)

-- an event that changed something goes last
pub played_one : (w : WorldValue) (events : List WorldEvent) (event : WorldEvent) (answer : Reply) (w' : WorldValue) (events' : List WorldEvent)
    → IsWorld w → IsNoCrash event → leaves_all answer ≡ false → Follows w event answer w' → events' ≡ events ++ event ∷ []
    → Played (λ r. step_of r event) w events w' events'
played_one w events event answer w' events' i mild l f e =
    subst (λ z. Played (λ r. step_of r event) w events w' z) (sym e)
    (record {
      same_size = size_same w event answer w' h;
      leads = λ start led.
          leads_append start w w' events (event ∷ []) led (mild, happens_can w event answer w' i.stands h, (answer, w', h, refl));
      steps = λ r. (let q = steps_append r events event in omega (arith, q));
      led = led_one w events event w' (events ++ event ∷ []) (mild, happens_can w event answer w' i.stands h, (answer, w', h, refl)) refl;
    })
  where
    h : Happens w event answer w'
    h = happened w event answer w' (λ e. (let q : false ≡ true = sym l ∙ ap leaves_all e in cc)) f

-- a world as it was
pub played_same : (more : ℕ → ℕ) (w : WorldValue) (events : List WorldEvent) (w' : WorldValue) (events' : List WorldEvent) → w' ≡ w → events' ≡ events
    → Played more w events w' events'
played_same more w events w' events' e f =
    subst (λ z. Played more w events w' z) (sym f)
    (record {
      same_size = ap (λ z. size z) e;
      leads = λ start led. subst (λ z. Leads start events z) (sym e) led;
      steps = λ r. omega arith;
      led = led_same w events w' e;
    })

-- an event that left all as it was isn't on it
pub played_none : (w : WorldValue) (events : List WorldEvent) (event : WorldEvent) (answer : Reply) (w' : WorldValue) (events' : List WorldEvent)
    → leaves_all answer ≡ true → Follows w event answer w' → events' ≡ events → Played (λ r. step_of r event) w events w' events'
played_none w events event answer w' events' l f e =
    played_same (λ r. step_of r event) w events w' events' (leaves w event answer w' l f) e

-- what is left of a world where memory ran out
left_as : (w : WorldValue) (event : WorldEvent) (w' : WorldValue) → Unchanged w event w' → (w' ≡ w) ⊎ ((r : ℕ) × Fetched w r w')
left_as w (Step r) w' u = inl u
left_as w (Put s d) w' u = inl u
left_as w (Arrive s d i) w' u = inl u
left_as w (Store r) w' u = inl u
left_as w (Ack r) w' u = inl u
left_as w (Image r) w' u = inl u
left_as w (Crash r) w' u = inl u
left_as w (Restart r) w' (inl e) = inl e
left_as w (Restart r) w' (inr f) = inr (r, f)
left_as w (Release r) w' u = inl u

-- an event whose memory was refused
pub played_failed : (w : WorldValue) (events : List WorldEvent) (event : WorldEvent) (w' : WorldValue) (events' : List WorldEvent)
    → Unchanged w event w' → events' ≡ events → PlayedAlmost no_steps w events w' events'
played_failed w events event w' events' u e =
    subst (λ z. PlayedAlmost no_steps w events w' z) (sym e)
    (record { leads = λ start led. (w, led, left_as w event w' u); steps = λ r. omega arith })

-- no memory for the list itself
pub played_nothing : (w : WorldValue) (events : List WorldEvent) (w' : WorldValue) (events' : List WorldEvent) → w' ≡ w → events' ≡ events
    → PlayedAlmost no_steps w events w' events'
played_nothing w events w' events' e f =
    subst (λ z. PlayedAlmost no_steps w events w' z) (sym f)
    (record { leads = λ start led. (w, led, inl e); steps = λ r. omega arith })

-- ---- one after another

-- the steps of both
pub played_more : (c d e : ℕ → ℕ) (u v w : WorldValue) (x y z : List WorldEvent) → ((r : ℕ) → c r + d r ≤ e r)
    → Played c u x v y → Played d v y w z → Played e u x w z
played_more c d e u v w x y z l f g =
    record {
      same_size = g.same_size ∙ f.same_size;
      leads = λ start led. g.leads start (f.leads start led);
      steps = λ r. (let m = l r in let a = f.steps r in let b = g.steps r in omega (arith, m, a, b));
      led = led_more u v w x y z f.led g.led;
    }

-- the same where memory is refused at last
played_then : (c d e : ℕ → ℕ) (u v w : WorldValue) (x y z : List WorldEvent) → ((r : ℕ) → c r + d r ≤ e r)
    → Played c u x v y → PlayedAlmost d v y w z → PlayedAlmost e u x w z
played_then c d e u v w x y z l f g =
    record {
      leads = λ start led. g.leads start (f.leads start led);
      steps = λ r. (let m = l r in let a = f.steps r in let b = g.steps r in omega (arith, m, a, b));
    }

-- first some steps, and then none
pub quiet_last : (c : ℕ → ℕ) (u v w : WorldValue) (x y z : List WorldEvent) → Played c u x v y → Played no_steps v y w z → Played c u x w z
quiet_last c u v w x y z f g = played_more c no_steps c u v w x y z (λ r. omega arith) f g

-- the same where memory is refused at last
pub quiet_then : (c : ℕ → ℕ) (u v w : WorldValue) (x y z : List WorldEvent) → Played c u x v y → PlayedAlmost no_steps v y w z → PlayedAlmost c u x w z
quiet_then c u v w x y z f g = played_then c no_steps c u v w x y z (λ r. omega arith) f g

-- an arrival is no step
pub arrive_quiet : (e : WorldEvent) (s d i : ℕ) (v w : WorldValue) (y z : List WorldEvent) → e ≡ Arrive s d i → Played (λ r. step_of r e) v y w z
    → Played no_steps v y w z
arrive_quiet e s d i v w y z is p = subst (λ (x : WorldEvent). Played (λ r. step_of r x) v y w z) is p

-- ---- at a gate

-- three events that are no steps
pub gate_played : (t u v w : WorldValue) (p x y z : List WorldEvent) → Played no_steps t p u x → Played no_steps u x v y → Played no_steps v y w z
    → Played no_steps t p w z
gate_played t u v w p x y z a b c = quiet_last no_steps t v w p y z (quiet_last no_steps t u v p x y a b) c

-- the same where memory is refused at the last
pub gate_almost : (t u v w : WorldValue) (p x y z : List WorldEvent) → Played no_steps t p u x → Played no_steps u x v y → PlayedAlmost no_steps v y w z
    → PlayedAlmost no_steps t p w z
gate_almost t u v w p x y z a b c = quiet_then no_steps t v w p y z (quiet_last no_steps t u v p x y a b) c

-- ---- a step of each rank

-- what comes before it is none
pub step_played : (k q : ℕ) (u v w : WorldValue) (x y z : List WorldEvent) → q ≡ k → Played no_steps u x v y → Played (λ r. step_of r (Step q)) v y w z
    → Played (λ r. step_of r (Step k)) u x w z
step_played k q u v w x y z same a b =
    subst (λ n. Played (λ r. step_of r (Step n)) u x w z) same
    (played_more no_steps (λ r. step_of r (Step q)) (λ r. step_of r (Step q)) u v w x y z (λ r. omega arith) a b)

-- of one rank more
pub one_step : (k : ℕ) (t u v : WorldValue) (p x y : List WorldEvent) → Played (below k) t p u x → Played (λ r. step_of r (Step k)) u x v y
    → Played (below (k + 1)) t p v y
one_step k t u v p x y a b = played_more (below k) (λ r. step_of r (Step k)) (below (k + 1)) t u v p x y few a b
  where
    few : (r : ℕ) → below k r + step_of r (Step k) ≤ below (k + 1) r
    few r =
        let q : below (k + 1) r ≡ below (suc k) r = ap (λ z. below z r) (let n : k + 1 ≡ suc k = omega arith in n) in
        omega (arith, q)

-- so of each rank at most one
pub one_each : (k : ℕ) (u v : WorldValue) (x y : List WorldEvent) → Played (below k) u x v y → Played (for_all 1) u x v y
one_each k u v x y f = record {
  same_size = f.same_size;
  leads = f.leads;
  steps = λ r. (let l = below_one k r in let a = f.steps r in omega (arith, l, a));
  led = f.led;
}

-- the same where memory is refused
pub one_then : (k : ℕ) (u v w : WorldValue) (x y z : List WorldEvent) → Played (below k) u x v y → PlayedAlmost no_steps v y w z
    → PlayedAlmost (for_all 1) u x w z
one_then k u v w x y z f g =
    played_then (below k) no_steps (for_all 1) u v w x y z (λ r. (let l = below_one k r in omega (arith, l))) f g

-- ---- from where it began

-- a world and itself
after_none : (w w' : WorldValue) → w' ≡ w → IsAfter w w'
after_none w w' e = record { program = ap (λ z. z.program) e; as_many = ap (λ z. size z) e; late = []; later = ap (λ z. z.run) e }

-- one after another
after_more : (a b c : WorldValue) → IsAfter a b → IsAfter b c → IsAfter a c
after_more a b c f g =
    record {
      program = g.program ∙ f.program;
      as_many = g.as_many ∙ f.as_many;
      late = g.late ++ f.late;
      later = g.later ∙ ap (λ z. g.late ++ z) f.later ∙ sym (append_assoc g.late f.late a.run);
    }

-- a list that led somewhere
leads_after : (events : List WorldEvent) (w w' : WorldValue) → Leads w events w' → IsAfter w w'
leads_after [] w w' e = after_none w w' e
leads_after (event ∷ events) w w' l =
    let x = l.2 in
    let late = later_after w event x.0 x.1 x.2 in
    after_more w x.1 w'
    (record {
      program = program_after w event x.0 x.1 x.2;
      as_many = size_same w event x.0 x.1 x.2;
      late = late.0;
      later = late.1;
    })
    (leads_after events x.1 w' x.3)

-- the same where memory was refused at last
almost_after : (events : List WorldEvent) (w w' : WorldValue) → LeadsAlmost w events w' → IsAfter w w'
almost_after events w w' l = after_more w l.0 w' (leads_after events w l.0 l.1) (go l.2)
  where
    go : (w' ≡ l.0) ⊎ ((r : ℕ) × Fetched l.0 r w') → IsAfter l.0 w'
    go (inl e) = after_none l.0 w' e
    go (inr f) =
        record {
          program = ap (λ z. z.program) f.1.after;
          as_many = ap (λ z. size z) f.1.after;
          late = [];
          later = ap (λ z. z.run) f.1.after;
        }

-- ---- from the first event on

-- the empty list leads from a world to itself
from_none : (w : WorldValue) (events : List WorldEvent) → events ≡ [] → Leads w events w
from_none w events e = subst (λ z. Leads w z w) (sym e) refl

-- what the whole list led to comes after the first world
pub whole_after : (more : ℕ → ℕ) (w w' : WorldValue) (none events : List WorldEvent) → none ≡ [] → Played more w none w' events → IsAfter w w'
whole_after more w w' none events e p = leads_after events w w' (p.leads w (from_none w none e))

-- the same where memory was refused at last
pub almost_whole : (more : ℕ → ℕ) (w w' : WorldValue) (none events : List WorldEvent) → none ≡ [] → PlayedAlmost more w none w' events → IsAfter w w'
almost_whole more w w' none events e p = almost_after events w w' (p.leads w (from_none w none e))
