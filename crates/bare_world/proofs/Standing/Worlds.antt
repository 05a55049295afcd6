-- A world keeps what it stands for, where a rank changes, crashes or starts again, where a frame is put, or an act passes.
use Rattle.std.proofs.Common.{◌≡◌, ℕ, ◌<◌, ◌⊎◌, inl, inr, ⊎_elim, List, [], ◌∷◌, ◌++◌, Option, Some, length, sym, ap, subst, ◌∙◌, slice_get}
use Rattle.std.proofs.Common.{slice_set}
use Rattle.std.proofs.lemmas.List.{length-set}
use Rattle.event_logger.specs.Sequential.Event.{EventValue}
use Rattle.event_logger.specs.Sequential.History.{StateValue}
use Rattle.matching.specs.declared.line.Line.{Line}
use Rattle.rank_machine.specs.States.{State}
use Rattle.rank_machine.specs.Acts.{Act, carried}
use Rattle.rank_node.specs.declared.frame.Frame.{Frame}
use Rattle.rank_node.specs.declared.frame.Frame.TheVariants as frame
use Rattle.crash_free.specs.Runs.{Passed, history, sent, printed, MayMake}
use Rattle.crash_free.proofs.Lists.{at_place-append, push_cases}
use Rattle.crash_free.proofs.Going.{sent_grows, Extends-by_other}
use Rattle.bare_world.specs.Rows.{row}
use Rattle.bare_world.specs.World.{Live, WorldValue, size, IsWire}
use Rattle.bare_world.specs.Headline.{IsReal, lines_of}
use Rattle.bare_world.proofs.Lists.Replaced.{slice_set-get}
use Rattle.checkpoint.specs.Image.{ImageValue}
use Rattle.rank_node.specs.Image.{begins_at}
use Rattle.bare_world.specs.Misses.{MissesNoneShown}
use Rattle.bare_world.specs.Stands.{start_at, RankStands, StandsAt, Covers}
use Rattle.bare_world.proofs.Standing.LiveRanks.{ImageStands-later, RankStands-extended}

-- what an event keeps, except for the count of events: what goes with the run, and what senders
-- may drop
pub record Goes (w : WorldValue) : Type 0 where
  pub run : StandsAt (size w) w
  pub covers : Covers w

-- the world with this for a rank, and these images, logger, lines and run
abbrev pub changed : WorldValue → ℕ → Option Live → List (Option ImageValue) → StateValue → List Line → List Passed → WorldValue
changed w r x images logger lines C = record w { ranks = slice_set w.ranks r x; images = images; logger = logger; lines = lines; run = C }

-- each rank goes with the run, where the one that changed does
pub replaced : (n : ℕ) (start : ℕ → State) (C : List Passed) (ranks : List (Option Live)) (r : ℕ) (x : Option Live)
    → ((q : ℕ) (u : Live) → (q ≡ r → ⊥) → slice_get ranks q ≡ Some (Some u) → RankStands start n C q u)
    → ((v : Live) → x ≡ Some v → RankStands start n C r v)
    → (q : ℕ) (u : Live) → slice_get (slice_set ranks r x) q ≡ Some (Some u) → RankStands start n C q u
replaced n start C ranks r x others k q u e = go (slice_set-get ranks r q (Some u) x e)
  where
    go : ((q ≡ r) × (Some u ≡ x)) ⊎ ((q ≡ r → ⊥) × (slice_get ranks q ≡ Some (Some u))) → RankStands start n C q u
    go (inr h) = others q u h.0 h.1
    go (inl h) = rw (h.0) (k u (sym h.1))

-- other ranks stand in the run, and the logger has the same rows
pub Stands-ranks : (n : ℕ) (w : WorldValue) (ranks : List (Option Live)) (logger : StateValue) → StandsAt n w → logger.rows ≡ w.logger.rows
    → ((r : ℕ) (v : Live) → slice_get ranks r ≡ Some (Some v) → RankStands (start_at w n) n w.run r v)
    → StandsAt n (record w { ranks = ranks; logger = logger })
Stands-ranks n w ranks logger s rows k = record {
  is_run = s.is_run;
  missed = s.missed;
  as_many_rows = ap length rows ∙ s.as_many_rows;
  rows = λ q events e. s.rows q events (subst (λ z. slice_get z q ≡ Some events) rows e);
  as_many_wires = s.as_many_wires;
  wires_to_all = s.wires_to_all;
  packets = s.packets;
  lines = s.lines;
  as_many_images = s.as_many_images;
  images = s.images;
  ranks = k;
}

-- a rank changes, crashes or starts again
pub Stands-rank : (n : ℕ) (w : WorldValue) (r : ℕ) (x : Option Live) (logger : StateValue) → StandsAt n w → logger.rows ≡ w.logger.rows
    → ((v : Live) → x ≡ Some v → RankStands (start_at w n) n w.run r v) → StandsAt n (changed w r x w.images logger w.lines w.run)
Stands-rank n w r x logger s rows k =
    Stands-ranks n w (slice_set w.ranks r x) logger s rows (replaced n (start_at w n) w.run w.ranks r x (λ q u ne e. s.ranks q u e) k)

-- a packet that was real stays so
IsReal-longer : (C : List Passed) (p : Passed) (s d : ℕ) (f : Frame) → IsReal C s d f → IsReal (p ∷ C) s d f
IsReal-longer C p s d (frame.Data q) i =
    let g = sent_grows C p s d in
    (i.0, rw g.1 (at_place-append (sent C s d) g.0 q.number (carried q) i.1))
IsReal-longer C p s d (frame.Ask k) i = tt
IsReal-longer C p s d (frame.Kept k) i = tt

-- the run goes on by an act of r, whose rank changes
pub Stands-passed : (n : ℕ) (w : WorldValue) (r : ℕ) (a : Act) (v : Live) (logger : StateValue) (lines : List Line)
    → StandsAt n w → r < n
    → MayMake (start_at w n r) (λ q. sent w.run q r) (history w.run r) a
    → MissesNoneShown (start_at w n) w.run r a
    → RankStands (start_at w n) n (record { rank = r; act = a } ∷ w.run) r v
    → length logger.rows ≡ n
    → ((q : ℕ) (x : List EventValue) → slice_get logger.rows q ≡ Some x → x ≡ row (record { rank = r; act = a } ∷ w.run) q)
    → ((q : ℕ) → lines_of q lines ≡ printed (record { rank = r; act = a } ∷ w.run) q)
    → StandsAt n (changed w r (Some v) w.images logger lines (record { rank = r; act = a } ∷ w.run))
Stands-passed n w r a v logger lines s lt can fair k as_many rows_are lines_are =
    record {
      is_run = (s.is_run, lt, can);
      missed = (s.missed, fair);
      as_many_rows = as_many;
      rows = rows_are;
      as_many_wires = s.as_many_wires;
      wires_to_all = s.wires_to_all;
      packets = λ q d j frames f at e. IsReal-longer w.run (record { rank = r; act = a }) q d f (s.packets q d j frames f at e);
      lines = lines_are;
      as_many_images = s.as_many_images;
      images = λ q o e. ImageStands-later (start_at w n) n w.run (record { rank = r; act = a }) q (begins_at w.program q n o) (s.images q o e);
      ranks = replaced n (start_at w n) (record { rank = r; act = a } ∷ w.run) w.ranks r (Some v)
          (λ q u ne e. RankStands-extended (start_at w n) n w.run (record { rank = r; act = a } ∷ w.run) q u
          (Extends-by_other q w.run (record { rank = r; act = a }) (λ z. ne (sym z))) (s.ranks q u e))
          (λ u e. (let q : v ≡ u = cc in subst (λ z. RankStands (start_at w n) n (record { rank = r; act = a } ∷ w.run) r z) q k));
    }

-- the world with this frame last on a wire
abbrev pub put_on : WorldValue → ℕ → Live → ℕ → List (List Frame) → List Frame → Frame → WorldValue
put_on w r v d of_r frames f = record w { ranks = slice_set w.ranks r (Some v); wires = slice_set w.wires r (slice_set of_r d (frames ++ f ∷ [])) }

-- a frame is put
pub Stands-put : (n : ℕ) (w : WorldValue) (r : ℕ) (v : Live) (d : ℕ) (of_r : List (List Frame)) (frames : List Frame) (f : Frame)
    → StandsAt n w → RankStands (start_at w n) n w.run r v
    → slice_get w.wires r ≡ Some of_r → slice_get of_r d ≡ Some frames → IsReal w.run r d f
    → StandsAt n (put_on w r v d of_r frames f)
Stands-put n w r v d of_r frames f s k at_r at_d real =
    record {
      is_run = s.is_run;
      missed = s.missed;
      as_many_rows = s.as_many_rows;
      rows = s.rows;
      as_many_wires = length-set w.wires r (slice_set of_r d (frames ++ f ∷ [])) ∙ s.as_many_wires;
      wires_to_all = λ q x e. as_many q x (slice_set-get w.wires r q x (slice_set of_r d (frames ++ f ∷ [])) e);
      packets = λ q e j fs g at there. packets q e j fs g at there (slice_set-get w.wires r q at.0 (slice_set of_r d (frames ++ f ∷ [])) at.1);
      lines = s.lines;
      as_many_images = s.as_many_images;
      images = s.images;
      ranks = replaced n (start_at w n) w.run w.ranks r (Some v) (λ q u ne e. s.ranks q u e)
          (λ u e. (let q : v ≡ u = cc in subst (λ z. RankStands (start_at w n) n w.run r z) q k));
    }
  where
    as_many : (q : ℕ) (x : List (List Frame)) → ((q ≡ r) × (x ≡ slice_set of_r d (frames ++ f ∷ []))) ⊎ ((q ≡ r → ⊥) × (slice_get w.wires q ≡ Some x))
        → length x ≡ n
    as_many q x (inr h) = s.wires_to_all q x h.1
    as_many q x (inl h) = ap length h.1 ∙ length-set of_r d (frames ++ f ∷ []) ∙ s.wires_to_all r of_r at_r

    on_wire : (e j : ℕ) (fs : List Frame) (g : Frame) → slice_get fs j ≡ Some g
        → ((e ≡ d) × (fs ≡ frames ++ f ∷ [])) ⊎ ((e ≡ d → ⊥) × (slice_get of_r e ≡ Some fs)) → IsReal w.run r e g
    on_wire e j fs g there (inr h) = s.packets r e j fs g (of_r, at_r, h.1) there
    on_wire e j fs g there (inl h) =
        ⊎_elim (λ old. subst (λ z. IsReal w.run r z g) (sym h.0) (s.packets r d j frames g (of_r, at_r, at_d) old))
        (λ new. subst (λ z. IsReal w.run r e z) (sym new.1) (subst (λ z. IsReal w.run r z f) (sym h.0) real))
        (push_cases frames f j g (subst (λ z. slice_get z j ≡ Some g) h.1 there))

    packets : (q e j : ℕ) (fs : List Frame) (g : Frame) (at : IsWire (put_on w r v d of_r frames f) q e fs) → slice_get fs j ≡ Some g
        → ((q ≡ r) × (at.0 ≡ slice_set of_r d (frames ++ f ∷ []))) ⊎ ((q ≡ r → ⊥) × (slice_get w.wires q ≡ Some at.0)) → IsReal w.run q e g
    packets q e j fs g at there (inr h) = s.packets q e j fs g (at.0, h.1, at.2) there
    packets q e j fs g at there (inl h) =
        let here : slice_get (slice_set of_r d (frames ++ f ∷ [])) e ≡ Some fs = subst (λ z. slice_get z e ≡ Some fs) h.1 at.2 in
        subst (λ z. IsReal w.run z e g) (sym h.0) (on_wire e j fs g there (slice_set-get of_r d e fs (frames ++ f ∷ []) here))
