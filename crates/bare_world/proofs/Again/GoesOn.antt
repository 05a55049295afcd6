-- The way goes on: the next act of the run is made, and at the end every rank has caught up.
use Rattle.std.proofs.Common.{◌≡◌, ℕ, zero, suc, ◌+◌, ◌≤◌, ◌⊎◌, inl, inr, ⊎_elim, List, [], ◌∷◌, ◌++◌, Option, Some, length, refl, sym, ap, subst, ◌∙◌}
use Rattle.std.proofs.Common.{arith, slice_get, slice_set, slice_index}
use Rattle.bare_world.proofs.Standing.LiveRanks.{RankStands-settled}
use Rattle.std.proofs.lemmas.Bool.{cases_eq}
use Rattle.std.proofs.lemmas.List.{length-set, length_push}
use Rattle.matching.specs.Inbox.{accepted_from}
use Rattle.payload_log.specs.Backlog.{backlog}
use Rattle.rank_machine.specs.Acts.{Act, Message}
use Rattle.crash_free.specs.Runs.{Passed, history, sent, looked_up, continue}
use Rattle.crash_free.proofs.Lists.{history-own, history-other}
use Rattle.bare_world.specs.declared.reply.Reply.{Reply}
use Rattle.bare_world.specs.declared.event.WorldEvent.TheVariants.{Step}
use Rattle.bare_world.specs.Rows.{events_from}
use Rattle.bare_world.specs.World.{Live}
use Rattle.bare_world.specs.World.{WorldValue, size, IsLive}
use Rattle.bare_world.specs.Stands.{RankStands, start_at}
use Rattle.bare_world.specs.Plain.{plain}
use Rattle.bare_world.proofs.Plain.Ranks.{none_left}
use Rattle.bare_world.proofs.Plain.Worlds.{rank_of}
use Rattle.bare_world.specs.Follows.{Happens, StepFollows, ReplayFollows}
use Rattle.bare_world.proofs.Lists.Beginnings.{next_of_drop, drop_beyond}
use Rattle.bare_world.specs.Onward.{Behind, IsWorld}
use Rattle.bare_world.specs.Way.{CaughtUp}
use Rattle.bare_world.specs.Driven.{AllLive, NoGaps, Through, Ready}
use Rattle.bare_world.proofs.Again.PacketIsInInbox.{packet_there, next_there, is_behind}
use Rattle.bare_world.proofs.Again.StepBehindRun.{Provides}
use Rattle.bare_world.proofs.Again.StepWithNothingLeft.{StepOn, replays_on, steps_on}
use Rattle.bare_world.proofs.Way.FramesPassNoRank.{who, gaps_kept}

-- ---- the next act of the run

module _ (w : WorldValue) (early late : List Passed) (r : ℕ) (a : Act) (v : Live) (g : Ready w early)
    (run : w.run ≡ late ++ record { rank = r; act = a } ∷ early)
    (live : IsLive w r v) (clock : v.rank.clock ≡ length (history early r)) where
  pub behind : Behind w.run r v
  behind = is_behind w late early r a v g.is_world.stands run live clock g.through.made g.all_live g.drained

  -- the packet that it takes or hits is there
  pub provides : Provides w.run r v
  provides x s j m which is =
      let there = next_there w late early r a v g.is_world.stands run live clock g.through.made g.all_live g.drained in
      let same : Some (x.act, x.message) ≡ Some (a, looked_up (λ q. sent early q r) a) =
      sym (next_of_drop v.rank.clock (history w.run r) (x.act, x.message) x.rest x.is_next).there ∙ there in
      let pair : ◌≡◌ {A = Act × Option Message} (x.act, x.message) (a, looked_up (λ q. sent early q r) a) =
      pair_is (x.act, x.message) (a, looked_up (λ q. sent early q r) a) same in
      let act : x.act ≡ a = ap (λ z. z.0) pair in
      let message : x.message ≡ looked_up (λ q. sent early q r) a = ap (λ z. z.1) pair in
      packet_there w late early r a v g.is_world.stands run live clock g.through.made g.all_live g.drained s j m
      (⊎_elim (λ e. inl (sym act ∙ e)) (λ e. inr (sym act ∙ e)) which) (sym message ∙ is)
    where
      pair_is : (p q : Act × Option Message) → ◌≡◌ {A = Option (Act × Option Message)} (Some p) (Some q) → p ≡ q
      pair_is p q e = cc

  -- its step moves
  pub next_moves : (answer : Reply) (w' : WorldValue) → Happens w (Step r) answer w' → StepOn w r v answer w'
  next_moves answer w' h = ⊎_elim runs replays h
    where
      same : (u : Live) → IsLive w r u → u ≡ v
      same u l = one u v (sym l ∙ live)
        where
          one : (x y : Live) → ◌≡◌ {A = Option (Option Live)} (Some (Some x)) (Some (Some y)) → x ≡ y
          one x y e = cc

      runs : StepFollows w r answer w' → StepOn w r v answer w'
      runs f =
          let e = same f.before f.live in
          subst (λ z. StepOn w r z answer w') e (steps_on w r answer w' f g.is_world.stands g.is_world.onward (subst (λ z. Behind w.run r z) (sym e) behind))

      replays : ReplayFollows w r answer w' → StepOn w r v answer w'
      replays f =
          let e = same f.before f.live in
          subst (λ z. StepOn w r z answer w') e
          (replays_on w r answer w' f g.is_world.stands (subst (λ z. Behind w.run r z) (sym e) behind) (subst (λ z. Provides w.run r z) (sym e) provides))

  later : (answer : Reply) (w' : WorldValue) (s : StepOn w r v answer w') → v.rank.clock ≤ s.new.rank.clock
  later answer w' s = ⊎_elim (λ h. (let x = h.0 in omega (arith, x))) (λ x. omega (arith, x)) s.went.either

  -- after it no rank was passed by, and all are live
  pub next_no_gaps : (answer : Reply) (w' : WorldValue) → StepOn w r v answer w' → NoGaps w'
  next_no_gaps answer w' s =
      gaps_kept (λ x y. Unit {0}) w w' r v s.new live s.ranks s.run (later answer w' s)
      (λ q. (let e = ap (λ z. slice_index z q) s.went.accepted in omega (arith, e)))
      (λ d z ok l b. (let c = s.went.cursors d in let n = g.no_gaps r d v z tt live l b in omega (arith, c, n))) g.no_gaps

  pub next_all_live : (answer : Reply) (w' : WorldValue) → StepOn w r v answer w' → AllLive w'
  next_all_live answer w' s q l = go (cases_eq q r)
    where
      go : (q ≡ r) ⊎ (q ≡ r → ⊥) → (z : Live) × IsLive w' q z
      go (inl e) =
          (s.new, ap (λ z. slice_get z q) s.ranks ∙ ap (λ z. slice_get (slice_set w.ranks r (Some s.new)) z) e ∙ set_same w.ranks r (Some v) (Some s.new) live)
        where
          set_same : {A : Type 0} (xs : List A) (i : ℕ) (x y : A) → slice_get xs i ≡ Some x → slice_get (slice_set xs i y) i ≡ Some y
          set_same [] i x y e = absurd cc
          set_same (z ∷ xs) zero x y e = refl
          set_same (z ∷ xs) (suc i) x y e = set_same xs i x y e
      go (inr ne) =
          let e1 = ap length s.ranks in
          let e2 = length-set w.ranks r (Some s.new) in
          let z = g.all_live q (omega (arith, l, e1, e2)) in
          (z.0, ap (λ k. slice_get k q) s.ranks ∙ set_other w.ranks r q (Some s.new) ne ∙ z.1)
        where
          set_other : {A : Type 0} (xs : List A) (i k : ℕ) (y : A) → (k ≡ i → ⊥) → slice_get (slice_set xs i y) k ≡ slice_get xs k
          set_other [] i k y n = refl
          set_other (z ∷ xs) zero zero y n = absurd (n refl)
          set_other (z ∷ xs) zero (suc k) y n = refl
          set_other (z ∷ xs) (suc i) zero y n = refl
          set_other (z ∷ xs) (suc i) (suc k) y n = set_other xs i k y (λ e. n (ap suc e))

  -- an internal step leaves the way where it stood
  pub next_still : (answer : Reply) (w' : WorldValue) (s : StepOn w r v answer w') → s.new.rank.clock ≡ v.rank.clock → s.new.rank.log ≡ v.rank.log → IsWorld w'
      → Ready w' early
  next_still answer w' s same log i =
      record {
        is_world = i;
        all_live = next_all_live answer w' s;
        no_gaps = next_no_gaps answer w' s;
        drained = λ q d x y ok lx ly b. drained q d x y (who w w' r s.new s.ranks q x lx) (who w w' r s.new s.ranks d y ly) (subst (λ C. Behind C d y) s.run b);
        through = record {
          late = late ++ record { rank = r; act = a } ∷ [];
          parts = s.run ∙ run ∙ sym (push late);
          made = λ q z l. ⊎_elim (λ h. (let n = g.through.made r v live in let e = ap (λ k. k.rank.clock) h.1 in
              let f = ap (λ k. length (history early k)) h.0 in omega (arith, n, e, f, same))) (λ h. g.through.made q z h.1) (who w w' r s.new s.ranks q z l);
        };
      }
    where
      push : (xs : List Passed) → (xs ++ record { rank = r; act = a } ∷ []) ++ early ≡ xs ++ record { rank = r; act = a } ∷ early
      push [] = refl
      push (x ∷ xs) = ap (λ z. x ∷ z) (push xs)

      drained : (q d : ℕ) (x y : Live) → ((q ≡ r) × (x ≡ s.new)) ⊎ ((q ≡ r → ⊥) × IsLive w q x) → ((d ≡ r) × (y ≡ s.new)) ⊎ ((d ≡ r → ⊥) × IsLive w d y)
          → Behind w.run d y → (backlog x.rank.log d).sent ≤ accepted_from y.rank.inbox q
      drained q d x y i j b =
          let x0 = before q x i in
          let y0 = before d y j in
          let c = y0.3 in
          let n = g.drained q d x0.0 y0.0 tt x0.1 y0.1 (omega (arith, b, c)) in
          let e1 = ap (λ z. (backlog z d).sent) x0.2 in
          let e2 = ap (λ z. slice_index z q) y0.4 in
          omega (arith, n, e1, e2)
        where
          before : (k : ℕ) (z : Live) → ((k ≡ r) × (z ≡ s.new)) ⊎ ((k ≡ r → ⊥) × IsLive w k z)
              → (u : Live) × IsLive w k u × (u.rank.log ≡ z.rank.log) × (u.rank.clock ≡ z.rank.clock) × (u.rank.inbox.accepted ≡ z.rank.inbox.accepted)
          before k z (inl h) = (
            v,
            subst (λ e. IsLive w e v) (sym h.0) live,
            sym log ∙ ap (λ e. e.rank.log) (sym h.1),
            sym same ∙ ap (λ e. e.rank.clock) (sym h.1),
            sym s.went.accepted ∙ ap (λ e. e.rank.inbox.accepted) (sym h.1),
          )
          before k z (inr h) = (z, h.1, refl, refl, refl)

  -- the act brings it on
  pub next_through : (answer : Reply) (w' : WorldValue) (s : StepOn w r v answer w') → s.new.rank.clock ≡ v.rank.clock + 1
      → Through w' (record { rank = r; act = a } ∷ early)
  next_through answer w' s one =
      record {
        late = late;
        parts = s.run ∙ run;
        made = λ q z l. made q z (cases_eq q r) (who w w' r s.new s.ranks q z l);
      }
    where
      made : (q : ℕ) (z : Live) → (q ≡ r) ⊎ (q ≡ r → ⊥) → ((q ≡ r) × (z ≡ s.new)) ⊎ ((q ≡ r → ⊥) × IsLive w q z)
          → length (history (record { rank = r; act = a } ∷ early) q) ≤ z.rank.clock
      made q z (inl e) (inr h) = absurd (h.0 e)
      made q z (inr ne) (inl h) = absurd (ne h.0)
      made q z (inl e) (inl h) =
          let x = ap (λ k. length (history (record { rank = r; act = a } ∷ early) k)) e in
          let y = ap length (history-own early r a) in
          let n = length_push (history early r) (a, looked_up (λ k. sent early k r) a) in
          let c = ap (λ k. k.rank.clock) h.1 in
          omega (arith, x, y, n, c, one, clock)
      made q z (inr ne) (inr h) =
          let y = ap length (history-other early (record { rank = r; act = a }) q (λ e. ne (sym e))) in
          let n = g.through.made q z h.1 in
          omega (arith, y, n)

-- ---- the end

-- once all acts of the run were gone through, every rank has caught up
pub caught_up_at_end : (w : WorldValue) → Ready w w.run → CaughtUp w.run w
caught_up_at_end w g r l = (
  v.0,
  v.1,
  none_left v.0 (g.is_world.stands.runs.ranks r v.0 v.1)
      (s.left ∙ ap (λ z. events_from v.0.rank.clock z) (drop_beyond v.0.rank.clock (history (continue w.run r s.acts) r) (short s.all_made))),
  made,
)
  where
    v : (v : Live) × IsLive w r v
    v = g.all_live r l

    s : RankStands (start_at w (size w)) (size w) w.run r (plain v.0)
    s = rank_of g.is_world.stands r v.0 v.1

    made : length (history w.run r) ≤ v.0.rank.clock
    made = g.through.made r v.0 v.1

    short : ((plain v.0).rank.pending ≡ []) ⊎ (v.0.rank.clock ≡ length (history (continue w.run r s.acts) r))
        → length (history (continue w.run r s.acts) r) ≤ v.0.rank.clock
    short (inr e) = omega (arith, e)
    short (inl e) =
        let n = ap (λ z. length (history (continue w.run r z) r)) (RankStands-settled (start_at w (size w)) (size w) w.run r (plain v.0) s e) in
        let m = made in
        omega (arith, n, m)
