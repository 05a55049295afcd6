-- Whatever course events take, the worlds that they come to are alike; so what they lead to on one course they lead to on each.
use Rattle.std.proofs.Common.{ℕ, List, [], ◌∷◌, length, Option, Some, None, sym, ap, subst, ◌∙◌, arith}
use Rattle.rank_language.specs.Program.{ProgramValue}
use Rattle.rank_machine.specs.States as states
use Rattle.rank_machine.specs.Acts.{Act}
use Rattle.crash_free.specs.Runs.{Passed, history}
use Rattle.audit.specs.FinalRuns.Maximal.{MayFollow, IsMaximal}
use Rattle.bare_world.specs.declared.event.WorldEvent.{WorldEvent}
use Rattle.bare_world.specs.World.{Live, WorldValue, size, start_of}
use Rattle.bare_world.specs.Driven.{shelved, IsAlike, AreAlike, Alike}
use Rattle.bare_world.specs.Onward.{IsWorld}
use Rattle.bare_world.specs.ToTheEnd.{OnEachCourse, IsSettled, HasEnded, StandsAs, EndsAs}
use Rattle.bare_world.proofs.Headline.{stands_for}
use Rattle.bare_world.proofs.Alike.ListLeadsToo.{alike_size, alike_live}
use Rattle.bare_world.proofs.Alike.EachEvent.{any_alike, may_alike}
use Rattle.bare_world.proofs.Alike.IsWorldToo.{alike_world}
use Rattle.bare_world.proofs.Again.WholeWay.{alike_self}
use Rattle.bare_world.proofs.Ending.NeedsNothingLost.{LeadsFrom, needs_alike}

-- ---- worlds that are alike

-- ranks that are alike are so the other way round
ranks_turned : (xs ys : List (Option Live)) → AreAlike xs ys → AreAlike ys xs
ranks_turned [] [] k = tt
ranks_turned [] (y ∷ ys) k = absurd k
ranks_turned (x ∷ xs) [] k = absurd k
ranks_turned (x ∷ xs) (y ∷ ys) k = (one x y k.0, ranks_turned xs ys k.1)
  where
    one : (x y : Option Live) → IsAlike x y → IsAlike y x
    one None None i = tt
    one None (Some v) i = absurd i
    one (Some u) None i = absurd i
    one (Some u) (Some v) i = (u.rank.stable.shelf, ap (λ (z : Live). shelved z u.rank.stable.shelf) (sym i.1))

-- so are worlds
turned : (a b : WorldValue) → Alike a b → Alike b a
turned a b k =
    record {
      program = sym k.program;
      ranks = ranks_turned a.ranks b.ranks k.ranks;
      images = sym k.images;
      rows = sym k.rows;
      wires = sym k.wires;
      lines = sym k.lines;
      run = sym k.run;
    }

-- this act may follow a run of so many ranks of a program
abbrev Follow : ProgramValue → ℕ → List Passed → ℕ → Act → Type 0
Follow p n C r act = MayFollow (λ q. states.opening p q n) n C r act

-- where no act may follow the run of the one, none may follow that of the other
maximal_alike : (a b : WorldValue) → Alike a b → IsMaximal (start_of a) (size a) a.run → IsMaximal (start_of b) (size b) b.run
maximal_alike a b k maximal r act may =
    maximal r act
    (subst (λ z. Follow z (size a) a.run r act) k.program
    (subst (λ z. Follow b.program z a.run r act) (alike_size a b k) (subst (λ z. Follow b.program (size b) z r act) k.run may)))

-- where all ranks of the one are settled, those of the other are
settled_alike : (a b : WorldValue) → Alike a b → IsSettled b → IsSettled a
settled_alike a b k settled r l =
    let n = alike_size a b k in
    let v = settled r (omega (arith, l, n)) in
    let was = alike_live a b r v.0 k v.1 in (
      was.rank,
      was.live,
      sym (ap (λ z. z.left) was.same) ∙ v.2,
      sym (ap (λ (z : Live). z.rank.pending) was.same) ∙ v.3,
      sym (ap (λ (z : Live). z.rank.clock) was.same) ∙ v.4 ∙ ap (λ C. length (history C r)) k.run,
    )

-- a world like one that has ended has ended
ended_alike : (a b : WorldValue) → Alike a b → IsWorld a → HasEnded b → HasEnded a
ended_alike a b k i h =
    record { stands = stands_for a i.stands; maximal = maximal_alike b a (turned a b k) h.maximal; settled = settled_alike a b k h.settled }

-- ---- on each course

-- what leads the one of two worlds that are alike to a world leads the other to worlds like that, on whatever course
on_each : (start : WorldValue) (Holds : WorldValue → Type 0) (a b : WorldValue) (events : List WorldEvent) (b' : WorldValue) → Alike a b
    → LeadsFrom start b events b' → ((x : WorldValue) → Alike x b' → Holds x) → OnEachCourse start Holds a events
on_each start Holds a b [] b' k l h = h a (subst (λ z. Alike a z) (sym l) k)
on_each start Holds a b (event ∷ events) b' k l h = (
  needs_alike start a b event k l.0,
  may_alike a b event l.2.0 l.2.1 k l.1 l.2.2,
  λ answer mid f. on_each start Holds mid l.2.1 events b' (any_alike a b event answer l.2.0 mid l.2.1 k f l.2.2) l.2.3 h,
)

-- a world that they come to stands for its run
pub always_stands : (w : WorldValue) (events : List WorldEvent) (w' : WorldValue) → LeadsFrom w w events w' → IsWorld w'
    → OnEachCourse w (StandsAs w') w events
always_stands w events w' leads i =
    on_each w (StandsAs w') w w events w' (alike_self w) leads
    (λ x k. (turned x w' k, stands_for x (alike_world w' x (turned x w' k) i).stands))

-- or has ended
pub always_ends : (w : WorldValue) (events : List WorldEvent) (w' : WorldValue) → LeadsFrom w w events w' → IsWorld w' → HasEnded w'
    → OnEachCourse w (EndsAs w') w events
always_ends w events w' leads i ended =
    on_each w (EndsAs w') w w events w' (alike_self w) leads
    (λ x k. (turned x w' k, ended_alike x w' k (alike_world w' x (turned x w' k) i) ended))
