-- Events in a row are written out, one after another.
use Rattle.std.proofs.Common.{◌≡◌, ℕ, ◌+◌, ◌<◌, List, [], ◌∷◌, ◌++◌, length, sym, ap, ◌∙◌, arith}
use Rattle.std.specs.Prelude.{replicate}
use Rattle.std.proofs.lemmas.List.{append-nil, append_assoc, length-append, length-replicate, replicate_more}
use Rattle.bare_world.specs.declared.event.WorldEvent.{WorldEvent}
use Rattle.run_events.specs.declared.times.Times.{Times}
use Rattle.run_events.specs.Planned.{events_in}

-- what is added comes last
pub one_more : (ts : List Times) (t : Times) → events_in (ts ++ t ∷ []) ≡ events_in ts ++ replicate t.count t.event
one_more [] t = append-nil (replicate t.count t.event)
one_more (s ∷ ts) t =
    ap (λ z. replicate s.count s.event ++ z) (one_more ts t) ∙ sym (append_assoc (replicate s.count s.event) (events_in ts) (replicate t.count t.event))

-- one more of the same
pub repeated : (events : List WorldEvent) (k : ℕ) (event : WorldEvent) → (events ++ replicate k event) ++ event ∷ [] ≡ events ++ replicate (k + 1) event
repeated events k event = append_assoc events (replicate k event) (event ∷ []) ∙ ap (λ z. events ++ z) (replicate_more k event)

-- once those of a part are written, those of the others are left
pub one_written : (events : List WorldEvent) (t : Times) (more : List Times)
    → (events ++ replicate t.count t.event) ++ events_in more ≡ events ++ events_in (t ∷ more)
one_written events t more = append_assoc events (replicate t.count t.event) (events_in more)

-- where those of a part are too many, the whole list is
pub too_long : (most : ℕ) (events : List WorldEvent) (t : Times) (more : List Times) (whole : List WorldEvent)
    → events ++ events_in (t ∷ more) ≡ whole → most < length events + t.count → most < length whole
too_long most events t more whole e long =
    let size : length whole ≡ length events + length (events_in (t ∷ more)) = sym (ap length e) ∙ length-append events (events_in (t ∷ more)) in
    let part : length (events_in (t ∷ more)) ≡ length (replicate t.count t.event) + length (events_in more) =
    length-append (replicate t.count t.event) (events_in more) in
    let each = length-replicate t.count t.event in
    omega (arith, long, size, part, each)
