-- The next act of the run is made again, and the way is ready for the one after it.
use Rattle.std.proofs.Common.{◌≡◌, ◌≢◌, ℕ, ◌+◌, ◌-◌, ◌<◌, ◌≤◌, ◌⊎◌, inl, inr, ⊎_elim, List, [], ◌∷◌, ◌++◌, Option, Some, length}
use Rattle.std.proofs.Common.{refl, sym, ap, subst, ◌∙◌, arith, slice_get}
use Rattle.std.proofs.lemmas.Bool.{cases_eq}
use Rattle.std.proofs.lemmas.List.{length_push}
use Rattle.std.proofs.lemmas.Option.{slice_get_within}
use Rattle.matching.specs.Inbox.{accepted_from}
use Rattle.payload_log.specs.Backlog.{backlog}
use Rattle.rank_machine.specs.Acts.{Act}
use Rattle.rank_machine.specs.declared.want.Want.TheVariants as want
use Rattle.rank_machine.specs.Machine.{state_of, machine_want, GoesOn}
use Rattle.crash_free.specs.Runs.{Passed, history, sent, looked_up}
use Rattle.crash_free.proofs.Lists.{history-own, history-other}
use Rattle.bare_world.specs.declared.event.WorldEvent.{WorldEvent}
use Rattle.bare_world.specs.declared.event.WorldEvent.TheVariants.{Step}
use Rattle.bare_world.specs.declared.reply.Reply.{Reply}
use Rattle.bare_world.specs.declared.reply.Reply.TheVariants as reply
use Rattle.bare_world.specs.World.{Live, WorldValue, size, IsLive}
use Rattle.bare_world.specs.Follows.{CanNot, Follows}
use Rattle.bare_world.specs.Onward.{Behind, IsWorld}
use Rattle.bare_world.specs.Measures.{StopsAfter, Nears, RankNears}
use Rattle.bare_world.specs.Driven.{AllLive, NoGaps, DrainedFrom, Ready, Made, FlushKeeps, Driven}
use Rattle.bare_world.proofs.Again.StepWithNothingLeft.{StepOn, step_can}
use Rattle.bare_world.proofs.Again.GoesOn.{behind, next_moves, next_no_gaps, next_all_live, next_still, next_through, caught_up_at_end}
use Rattle.bare_world.proofs.Way.FramesPassNoRank.{who}
use Rattle.bare_world.proofs.Again.StepBringsNearer.{nearer}
use Rattle.bare_world.proofs.Again.StepsToNextAct.{ahead}
use Rattle.bare_world.proofs.Again.PartsOfAct.{next_drained, through_none}
use Rattle.bare_world.specs.Way.{IsWayOn}
use Rattle.bare_world.proofs.Alike.LeadsToo.{way_on}
use Rattle.bare_world.proofs.Alike.OneEventMore.{happened, world_after}

-- what a step of the rank of the next act comes to
pub record Stepped (w : WorldValue) (r : ℕ) (a : Act) (early : List Passed) (answer : Reply) (w' : WorldValue) : Type 0 where
  pub moved : answer ≡ reply.Moved
  pub same_run : w'.run ≡ w.run
  pub on : (Ready w' early × ((n : ℕ) → RankNears n r w → RankNears (n - 1) r w')) ⊎ Made w' (record { rank = r; act = a }) early

-- where the act isn't made yet, its rank is just before it
pub at_act : (w : WorldValue) (early : List Passed) (r : ℕ) (v : Live) → Ready w early → IsLive w r v → v.rank.clock < length (history early r) + 1
    → v.rank.clock ≡ length (history early r)
at_act w early r v g live l = (let m = g.through.made r v live in omega (arith, l, m))

-- so many inner steps come before it: the run has it there
pub act_ahead : (w : WorldValue) (early late : List Passed) (r : ℕ) (a : Act) (v : Live) → Ready w early → w.run ≡ late ++ record { rank = r; act = a } ∷ early
    → IsLive w r v → v.rank.clock < length (history early r) + 1 → (k : ℕ) × StopsAfter k (state_of v.rank.machine)
act_ahead w early late r a v g run live l =
    ahead w r v g.is_world.stands g.is_world.onward live (behind w early late r a v g run live (at_act w early r v g live l))

-- a rank's next act of the run is made by its step
pub make_next : (w : WorldValue) (early late : List Passed) (r : ℕ) (a : Act) (v : Live) (answer : Reply) (w' : WorldValue) → Ready w early
    → w.run ≡ late ++ record { rank = r; act = a } ∷ early → IsLive w r v → v.rank.clock < length (history early r) + 1 → Follows w (Step r) answer w'
    → Stepped w r a early answer w'
make_next w early late r a v answer w' g run live l f =
    record {
      moved = on.moved;
      same_run = on.run;
      on =
          ⊎_elim (λ h. inl (next_still w early late r a v g run live clock answer w' on h.0 h.1 world, λ n k. closer n h.2 h.3 k)) (λ h. inr (made h))
          on.went.either;
    }
  where
    clock : v.rank.clock ≡ length (history early r)
    clock = at_act w early r v g live l

    is_behind : Behind w.run r v
    is_behind = behind w early late r a v g run live clock

    can : answer ≢ reply.Refused
    can e = step_can w r v g.is_world.stands g.is_world.onward live is_behind (refused answer e f)
      where
        refused : (x : Reply) → x ≡ reply.Refused → Follows w (Step r) x w' → CanNot w (Step r)
        refused x q h = (subst (λ z. Follows w (Step r) z w') q h).0

    on : StepOn w r v answer w'
    on = next_moves w early late r a v g run live clock answer w' (happened w (Step r) answer w' can f)

    world : IsWorld w'
    world = world_after w (Step r) answer w' g.is_world f

    new_is : (z : Live) → IsLive w' r z → z ≡ on.new
    new_is z l = ⊎_elim (λ h. h.1) (λ h. absurd (h.0 refl)) (who w w' r on.new on.ranks r z l)

    closer : (n : ℕ) → machine_want v.rank.machine ≡ want.Internal → GoesOn v.rank.machine on.new.rank.machine → RankNears n r w → RankNears (n - 1) r w'
    closer n is goes k z l =
        subst (λ (u : Live). Nears (n - 1) u.rank.machine) (sym (new_is z l)) (nearer n v.rank.machine on.new.rank.machine is goes (k v live))

    made : on.new.rank.clock ≡ v.rank.clock + 1 → Made w' (record { rank = r; act = a }) early
    made one =
        record {
          is_world = world;
          all_live = next_all_live w early late r a v g run live clock answer w' on;
          no_gaps = next_no_gaps w early late r a v g run live clock answer w' on;
          drained = next_drained w r v answer w' live on g.drained;
          through = next_through w early late r a v g run live clock answer w' on one;
        }

-- a rank that is past the act has made it
pub made_already : (w : WorldValue) (early late : List Passed) (p : Passed) (v : Live) → Ready w early → w.run ≡ late ++ p ∷ early → IsLive w p.rank v
    → length (history early p.rank) + 1 ≤ v.rank.clock → Made w p early
made_already w early late p v g run live l =
    record {
      is_world = g.is_world;
      all_live = g.all_live;
      no_gaps = g.no_gaps;
      drained = λ s d x y ok lx ly b. g.drained s d x y tt lx ly b;
      through = record { late = late; parts = run; made = λ q z lz. made q z lz (cases_eq q p.rank) };
    }
  where
    one : (z : Live) → slice_get w.ranks p.rank ≡ Some (Some z) → v ≡ z
    one z e = same (sym live ∙ e)
      where
        same : ◌≡◌ {A = Option (Option Live)} (Some (Some v)) (Some (Some z)) → v ≡ z
        same q = cc

    made : (q : ℕ) (z : Live) → IsLive w q z → (q ≡ p.rank) ⊎ (q ≡ p.rank → ⊥) → length (history (p ∷ early) q) ≤ z.rank.clock
    made q z lz (inl e) =
        let x = ap (λ k. length (history (p ∷ early) k)) e in
        let h = ap length (history-own early p.rank p.act) in
        let n = length_push (history early p.rank) (p.act, looked_up (λ k. sent early k p.rank) p.act) in
        let c = ap (λ k. k.rank.clock) (one z (subst (λ k. IsLive w k z) e lz)) in
        omega (arith, x, h, n, c, l)
    made q z lz (inr ne) =
        let h = ap length (history-other early p q (λ e. ne (sym e))) in
        let n = g.through.made q z lz in
        omega (arith, h, n)

-- once what its rank sent has arrived, the way is ready for the next act
pub ready_after : (w w' : WorldValue) (p : Passed) (early : List Passed) → Made w p early → IsWorld w' → FlushKeeps w w'
    → ((d : ℕ) → d < size w' → DrainedFrom p.rank d w') → Ready w' (p ∷ early)
ready_after w w' p early m i k own =
    record {
      is_world = i;
      all_live = k.all_live m.all_live;
      no_gaps = k.no_gaps m.no_gaps;
      drained = λ s d u v ok lu lv b. go s d u v lu lv b (cases_eq s p.rank);
      through = k.through (p ∷ early) m.through;
    }
  where
    go : (s d : ℕ) (u v : Live) → IsLive w' s u → IsLive w' d v → Behind w'.run d v → (s ≡ p.rank) ⊎ (s ≡ p.rank → ⊥)
        → (backlog u.rank.log d).sent ≤ accepted_from v.rank.inbox s
    go s d u v lu lv b (inl e) = own d (slice_get_within w'.ranks d (Some v) lv) s d u v (e, refl) lu lv b
    go s d u v lu lv b (inr ne) =
        k.drained s d (λ x y a c ok la lc e. m.drained x y a c (λ q. ne (sym ok.0 ∙ q)) la lc e) s d u v (refl, refl) lu lv b

-- ---- a step goes last on the list

-- the way begins: nothing was gone through yet
pub ready_first : (w : WorldValue) → IsWorld w → AllLive w → NoGaps w → ((s d : ℕ) → s < size w → d < size w → DrainedFrom s d w) → Ready w []
ready_first w i all g drained =
    record {
      is_world = i;
      all_live = all;
      no_gaps = g;
      drained =
          λ s d u v ok lu lv b. drained s d (slice_get_within w.ranks s (Some u) lu) (slice_get_within w.ranks d (Some v) lv) s d u v (refl, refl) lu lv b;
      through = through_none w;
    }

-- and ends: the events by which a world like the start was driven so far are a way on
pub way_ends : (start : WorldValue) (events : List WorldEvent) (w : WorldValue) → Driven start events w → Ready w w.run → IsWayOn start events
way_ends start events w d g =
    way_on start events w d
    (λ r l. (let v = caught_up_at_end w g r l in (v.0, v.1, v.2, subst (λ C. length (history C r) ≤ v.0.rank.clock) d.same_run v.3)))
