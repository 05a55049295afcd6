-- Events that need nothing that may be lost when they begin: no wire gets shorter by them, and those that follow need nothing either that may
-- have been lost before them.
use Rattle.std.proofs.Common.{◌≡◌, ℕ, ◌<◌, ◌≤◌, ◌⊎◌, inl, inr, List, [], ◌∷◌, ◌++◌, length, Some, sym, ap, subst, ◌∙◌, arith, slice_get, slice_set}
use Rattle.std.proofs.lemmas.Bool.{cases_eq}
use Rattle.std.proofs.lemmas.List.{length-append}
use Rattle.std.proofs.lemmas.Option.{slice_get_within}
use Rattle.rank_node.specs.declared.frame.Frame.{Frame}
use Rattle.rank_node.specs.declared.frame.Frame.TheVariants as frame
use Rattle.bare_world.specs.declared.event.WorldEvent.{WorldEvent}
use Rattle.bare_world.specs.declared.event.WorldEvent.TheVariants.{Step, Put, Arrive, Store, Ack, Image, Crash, Restart, Release}
use Rattle.bare_world.specs.declared.reply.Reply.{Reply}
use Rattle.bare_world.specs.World.{WorldValue, size, IsWire}
use Rattle.bare_world.specs.Follows.{CanNot, Happens, PutFollows}
use Rattle.bare_world.specs.Onward.{IsWorld}
use Rattle.bare_world.specs.Way.{IsOwn}
use Rattle.bare_world.specs.Driven.{Alike}
use Rattle.bare_world.specs.ToTheEnd.{IsNoCrash, Leads, MayBeLost, NeedsNothingLost}
use Rattle.bare_world.proofs.Lists.Places.{set_get_same, set_get_other, one_there}

-- ---- no wire gets shorter

-- each wire of the one is in the other, with no fewer frames
abbrev pub Longer : WorldValue → WorldValue → Type 0
Longer a b = (s d : ℕ) (old : List Frame) → IsWire a s d old → (frames : List Frame) × IsWire b s d frames × (length old ≤ length frames)

-- where nothing happens
pub longer_none : (w : WorldValue) → Longer w w
longer_none w s d old is = (old, is, omega arith)

-- one after another
pub longer_more : (a b c : WorldValue) → Longer a b → Longer b c → Longer a c
longer_more a b c f g s d old is =
    let x = f s d old is in
    let y = g s d x.0 x.1 in
    let m = x.2 in
    let n = y.2 in
    (y.0, y.1, omega (arith, m, n))

-- where the wires stay
longer_same : (w w' : WorldValue) → w'.wires ≡ w.wires → Longer w w'
longer_same w w' e s d old is = (old, (is.0, ap (λ z. slice_get z s) e ∙ is.1, is.2), omega arith)

-- where a frame is put
longer_put : (w : WorldValue) (s d : ℕ) (answer : Reply) (w' : WorldValue) → PutFollows w s d answer w' → Longer w w'
longer_put w s d answer w' f q k old is = go (cases_eq q s)
  where
    new : List (List Frame)
    new = slice_set f.of_s d (f.frames ++ f.frame ∷ [])

    after : w'.wires ≡ slice_set w.wires s new
    after = ap (λ z. z.wires) f.after

    go : (q ≡ s) ⊎ (q ≡ s → ⊥) → (frames : List Frame) × IsWire w' q k frames × (length old ≤ length frames)
    go (inr ne) = (old, (is.0, ap (λ z. slice_get z q) after ∙ set_get_other w.wires s q new ne ∙ is.1, is.2), omega arith)
    go (inl e) = here (cases_eq k d)
      where
        of : is.0 ≡ f.of_s
        of = one_there is.0 f.of_s (slice_get w.wires s) (ap (λ z. slice_get w.wires z) (sym e) ∙ is.1) f.wires

        row : slice_get w'.wires q ≡ Some new
        row = ap (λ z. slice_get w'.wires z) e ∙ ap (λ z. slice_get z s) after ∙ set_get_same w.wires s f.of_s new f.wires

        here : (k ≡ d) ⊎ (k ≡ d → ⊥) → (frames : List Frame) × IsWire w' q k frames × (length old ≤ length frames)
        here (inr ne) =
            (old, (new, row, set_get_other f.of_s d k (f.frames ++ f.frame ∷ []) ne ∙ ap (λ z. slice_get z k) (sym of) ∙ is.2), omega arith)
        here (inl j) =
            let same : old ≡ f.frames =
            one_there old f.frames (slice_get f.of_s d) (ap (λ z. slice_get f.of_s z) (sym j) ∙ ap (λ z. slice_get z k) (sym of) ∙ is.2) f.wire in
            let a = ap length same in
            let b = length-append f.frames (f.frame ∷ []) in (
              f.frames ++ f.frame ∷ [],
              (new, row, ap (λ z. slice_get new z) j ∙ set_get_same f.of_s d f.frames (f.frames ++ f.frame ∷ []) f.wire),
              omega (arith, a, b),
            )

-- after any event
pub longer_after : (w : WorldValue) (event : WorldEvent) (answer : Reply) (w' : WorldValue) → Happens w event answer w' → Longer w w'
longer_after w (Step r) answer w' (inl f) = longer_same w w' (ap (λ z. z.wires) f.after)
longer_after w (Step r) answer w' (inr f) = longer_same w w' (ap (λ z. z.wires) f.after)
longer_after w (Put s d) answer w' f = longer_put w s d answer w' f
longer_after w (Arrive s d i) answer w' f = longer_same w w' (ap (λ z. z.wires) f.after)
longer_after w (Store r) answer w' f = longer_same w w' (ap (λ z. z.wires) f.after)
longer_after w (Ack r) answer w' f = longer_same w w' (ap (λ z. z.wires) f.after)
longer_after w (Image r) answer w' f = longer_same w w' (ap (λ z. z.wires) f.after)
longer_after w (Crash r) answer w' f = longer_same w w' (ap (λ z. z.wires) f.after)
longer_after w (Restart r) answer w' f = longer_same w w' (ap (λ z. z.wires) f.after)
longer_after w (Release r) answer w' f = longer_same w w' (ap (λ z. z.wires) f.after)

-- ---- what an event needs

-- it is no crash
pub no_crash : (start w : WorldValue) (event : WorldEvent) → NeedsNothingLost start w event → IsNoCrash event
no_crash start w (Step r) n = tt
no_crash start w (Put s d) n = tt
no_crash start w (Arrive s d i) n = tt
no_crash start w (Store r) n = tt
no_crash start w (Ack r) n = tt
no_crash start w (Image r) n = tt
no_crash start w (Crash r) n = n
no_crash start w (Restart r) n = tt
no_crash start w (Release r) n = tt

-- an event of a way on needs nothing that may be lost
pub own_needs : (start w : WorldValue) (event : WorldEvent) → IsOwn start w event → NeedsNothingLost start w event
own_needs start w (Step r) o = tt
own_needs start w (Put s d) o = tt
own_needs start w (Arrive s d i) o = λ f frames old wire there was. go f old (o f frames old wire there was)
  where
    go : (f : Frame) (old : List Frame) → (length old ≤ i) ⊎ ((n : ℕ) × (f ≡ frame.Ask n))
        → (length old ≤ i) ⊎ (((n : ℕ) × (f ≡ frame.Ask n)) ⊎ (MayBeLost start s d → ⊥))
    go f old (inl l) = inl l
    go f old (inr a) = inr (inl a)
own_needs start w (Store r) o = tt
own_needs start w (Ack r) o = tt
own_needs start w (Image r) o = tt
own_needs start w (Crash r) o = o
own_needs start w (Restart r) o = tt
own_needs start w (Release r) o = tt

-- what may be lost in the one world may be lost in the other
abbrev pub KeepsLost : WorldValue → WorldValue → Type 0
KeepsLost a b = (s d : ℕ) → s < size a → MayBeLost a s d → MayBeLost b s d

-- what needs nothing that may be lost in a later world needs nothing that may be lost in an earlier one
needs_earlier : (a b : WorldValue) → IsWorld a → Longer a b → KeepsLost a b → (w : WorldValue) (event : WorldEvent) → NeedsNothingLost b w event
    → NeedsNothingLost a w event
needs_earlier a b i longer lost w (Step r) n = tt
needs_earlier a b i longer lost w (Put s d) n = tt
needs_earlier a b i longer lost w (Arrive s d k) n = λ f frames old wire there was.
    let new = longer s d old was in
    go f old new.0 new.2
    (let l = slice_get_within a.wires s was.0 was.1 in let m = i.stands.run.as_many_wires in omega (arith, l, m))
    (n f frames new.0 wire there new.1)
  where
    go : (f : Frame) (old new : List Frame) → length old ≤ length new → s < size a
        → (length new ≤ k) ⊎ (((n : ℕ) × (f ≡ frame.Ask n)) ⊎ (MayBeLost b s d → ⊥))
        → (length old ≤ k) ⊎ (((n : ℕ) × (f ≡ frame.Ask n)) ⊎ (MayBeLost a s d → ⊥))
    go f old new m l (inl x) = inl (omega (arith, m, x))
    go f old new m l (inr (inl ask)) = inr (inl ask)
    go f old new m l (inr (inr never)) = inr (inr (λ h. never (lost s d l h)))
needs_earlier a b i longer lost w (Store r) n = tt
needs_earlier a b i longer lost w (Ack r) n = tt
needs_earlier a b i longer lost w (Image r) n = tt
needs_earlier a b i longer lost w (Crash r) n = n
needs_earlier a b i longer lost w (Restart r) n = tt
needs_earlier a b i longer lost w (Release r) n = tt

-- what an event needs of the start it needs in each of two worlds that are alike
pub needs_alike : (start a b : WorldValue) (event : WorldEvent) → Alike a b → NeedsNothingLost start b event → NeedsNothingLost start a event
needs_alike start a b (Step r) k n = tt
needs_alike start a b (Put s d) k n = tt
needs_alike start a b (Arrive s d i) k n = λ f frames old wire there was.
    n f frames old (wire.0, ap (λ z. slice_get z s) k.wires ∙ wire.1, wire.2) there was
needs_alike start a b (Store r) k n = tt
needs_alike start a b (Ack r) k n = tt
needs_alike start a b (Image r) k n = tt
needs_alike start a b (Crash r) k n = n
needs_alike start a b (Restart r) k n = tt
needs_alike start a b (Release r) k n = tt

-- ---- lists

-- these events lead from one world to another, and need nothing that may be lost at the start
abbrev pub LeadsFrom : WorldValue → WorldValue → List WorldEvent → WorldValue → Type 0
LeadsFrom start w [] w' = w' ≡ w
LeadsFrom start w (event ∷ events) w' =
    NeedsNothingLost start w event × (CanNot w event → ⊥)
    × ((answer : Reply) × (mid : WorldValue) × Happens w event answer mid × LeadsFrom start mid events w')

-- they lead there
pub leads_from : (start w : WorldValue) (events : List WorldEvent) (w' : WorldValue) → LeadsFrom start w events w' → Leads w events w'
leads_from start w [] w' l = l
leads_from start w (event ∷ events) w' l =
    (no_crash start w event l.0, l.1, (l.2.0, l.2.1, l.2.2, leads_from start l.2.1 events w' l.2.3))

-- lists that lead on one after the other
pub from_append : (start a b c : WorldValue) (x y : List WorldEvent) → LeadsFrom start a x b → LeadsFrom start b y c → LeadsFrom start a (x ++ y) c
from_append start a b c [] y e g = subst (λ z. LeadsFrom start z y c) e g
from_append start a b c (event ∷ x) y f g = (f.0, f.1, (f.2.0, f.2.1, f.2.2, from_append start f.2.1 b c x y f.2.3 g))

-- a list needs nothing that may be lost in an earlier world
pub leads_earlier : (a b : WorldValue) → IsWorld a → Longer a b → KeepsLost a b → (w : WorldValue) (events : List WorldEvent) (w' : WorldValue)
    → LeadsFrom b w events w' → LeadsFrom a w events w'
leads_earlier a b i longer lost w [] w' l = l
leads_earlier a b i longer lost w (event ∷ events) w' l = (
  needs_earlier a b i longer lost w event l.0,
  l.1,
  (l.2.0, l.2.1, l.2.2, leads_earlier a b i longer lost l.2.1 events w' l.2.3),
)
