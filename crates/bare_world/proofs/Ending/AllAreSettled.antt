-- From every world, where the run gets no longer on the way, all ranks are led to where each is live, has made just its acts of the run, and nothing waits.
use Rattle.std.proofs.Common.{◌≡◌, ◌≢◌, ℕ, zero, suc, ◌+◌, ◌<◌, ◌≤◌, ◌⊎◌, inl, inr, List, [], ◌∷◌, ◌++◌, length, Some, refl, sym, ap, subst, ◌∙◌, arith}
use Rattle.std.proofs.Common.{slice_get, drop}
use Rattle.std.proofs.lemmas.Bool.{cases_eq, cases_lt}
use Rattle.std.proofs.lemmas.List.{length-append}
use Rattle.rank_node.specs.declared.waiting.Waiting.{Waiting}
use Rattle.rank_node.specs.Storing.{after_ack}
use Rattle.crash_free.specs.Runs.{Passed, history, continue}
use Rattle.bare_world.specs.World.{Live, WorldValue, size, IsLive}
use Rattle.bare_world.specs.Follows.{with_rank}
use Rattle.bare_world.specs.Plain.{plain}
use Rattle.bare_world.specs.Stands.{start_at}
use Rattle.bare_world.specs.Onward.{IsWorld}
use Rattle.bare_world.specs.Stocked.{IsStocked}
use Rattle.bare_world.specs.Way.{CaughtUp}
use Rattle.bare_world.specs.ToTheEnd.{IsSettled}
use Rattle.bare_world.proofs.Calls.RankOfEvent.{one_live}
use Rattle.bare_world.proofs.Lists.Beginnings.{drop_zero}
use Rattle.bare_world.proofs.Standing.LiveRanks.{RankStands-settled}
use Rattle.bare_world.proofs.Plain.Ranks.{none_waits_plainly}
use Rattle.bare_world.proofs.Plain.Worlds.{rank_of}
use Rattle.bare_world.proofs.Lists.Places.{set_get_same, set_get_other}
use Rattle.bare_world.proofs.Way.ThereIsOne.{way_exists}
use Rattle.bare_world.proofs.Ending.LeadsOn.{Led, led_none, led_more, led_on}
use Rattle.bare_world.proofs.Ending.GatesOpen.{Goes, longer, goes_first, acked, gate_moves}

-- ---- one gate

-- the rank is the other, but that nothing waits
pub record Quieted (w : WorldValue) (r : ℕ) (v : Live) : Type 0 where
  pub after : WorldValue
  pub led : Led w after
  pub run : after.run ≡ w.run
  pub rank : Live
  pub live : IsLive after r rank
  pub left : rank.left ≡ v.left
  pub clock : rank.rank.clock ≡ v.rank.clock
  pub none : rank.rank.pending ≡ []
  pub others : (q : ℕ) → (q ≡ r → ⊥) → slice_get after.ranks q ≡ slice_get w.ranks q

-- what waits is acknowledged, or makes the run longer: so where less waits, and so here
quieted_on : (n : ℕ) (w : WorldValue) (r : ℕ) (v : Live)
    → ((b : WorldValue) (u : Live) → length u.rank.pending < n → IsWorld b → IsStocked b → IsLive b r u → u.left ≡ []
    → Goes b ⊎ Quieted b r u)
    → length v.rank.pending < n + 1 → IsWorld w → IsStocked w → IsLive w r v → v.left ≡ [] → Goes w ⊎ Quieted w r v
quieted_on n w r v again l i k live left = go v.rank.pending refl
  where
    w' : WorldValue
    w' = with_rank w r (Some (record { rank = after_ack v.rank; left = v.left }))

    next : (f : Led w w') → Goes w' ⊎ Quieted w' r (record { rank = after_ack v.rank; left = v.left }) → Goes w ⊎ Quieted w r v
    next f (inl g) = inl (goes_first w w' f g)
    next f (inr q) =
        inr (record {
          after = q.after;
          led = led_more w w' q.after f q.led;
          run = q.run;
          rank = q.rank;
          live = q.live;
          left = q.left;
          clock = q.clock;
          none = q.none;
          others = λ p ne. q.others p ne ∙ set_get_other w.ranks r p (Some (record { rank = after_ack v.rank; left = v.left })) ne;
        })

    less : (xs : List Waiting) → v.rank.pending ≡ xs → (xs ≡ [] → ⊥) → length (drop 1 v.rank.pending) < n
    less [] e some = absurd (some refl)
    less (x ∷ xs) e some =
        let a = ap length e in
        let b = ap (λ z. length (drop 1 z)) e in
        let c : length (drop 1 (x ∷ xs)) ≡ length xs = ap length (drop_zero xs) in
        omega (arith, l, a, b, c)

    acks : (v.rank.pending ≡ [] → ⊥) → Goes w ⊎ (v.rank.stored ≢ 0) → Goes w ⊎ Quieted w r v
    acks some (inl g) = inl g
    acks some (inr stored) =
        let f = acked w r v i k live stored in
        next f
        (again w' (record { rank = after_ack v.rank; left = v.left }) (less v.rank.pending refl some) f.is_world f.stocked
        (set_get_same w.ranks r (Some v) (Some (record { rank = after_ack v.rank; left = v.left })) live) left)

    go : (xs : List Waiting) → v.rank.pending ≡ xs → Goes w ⊎ Quieted w r v
    go [] e =
        inr (record {
          after = w;
          led = led_none w i k;
          run = refl;
          rank = v;
          live = live;
          left = refl;
          clock = refl;
          none = e;
          others = λ q ne. refl;
        })
    go (x ∷ xs) e =
        let some : v.rank.pending ≡ [] → ⊥ = λ z. (let q : x ∷ xs ≡ [] = sym e ∙ z in cc) in
        acks some (gate_moves w r v i k live left some)

-- so of any
quieted : (n : ℕ) (w : WorldValue) (r : ℕ) (v : Live) → length v.rank.pending < n → IsWorld w → IsStocked w → IsLive w r v → v.left ≡ []
    → Goes w ⊎ Quieted w r v
quieted zero w r v l i k live left = absurd (omega (arith, l))
quieted (suc n) w r v l i k live left =
    quieted_on n w r v (λ b u m j t a e. quieted n b r u m j t a e) (omega (arith, l)) i k live left

-- ---- all gates

-- nothing waits at the first k ranks
abbrev QuietTo : ℕ → WorldValue → Type 0
QuietTo k w = (q : ℕ) → q < k → (v : Live) → IsLive w q v → v.rank.pending ≡ []

-- where all have caught up, and nothing waits at the first k
abbrev StillTo : ℕ → WorldValue → Type 0
StillTo k w = (w' : WorldValue) × Led w w' × (w'.run ≡ w.run) × CaughtUp w'.run w' × QuietTo k w'

-- one gate more
quiet_next : (w : WorldValue) (k : ℕ) → IsWorld w → IsStocked w → CaughtUp w.run w → QuietTo k w → k < size w
    → Goes w ⊎ StillTo (k + 1) w
quiet_next w k i t caught quiet l = go (quieted (length v.0.rank.pending + 1) w k v.0 (omega arith) i t v.1 v.2)
  where
    v : (v : Live) × IsLive w k v × (v.left ≡ []) × (length (history w.run k) ≤ v.rank.clock)
    v = caught k l

    go : Goes w ⊎ Quieted w k v.0 → Goes w ⊎ StillTo (k + 1) w
    go (inl g) = inl g
    go (inr q) = inr (q.after, q.led, q.run, all, still)
      where
        all : CaughtUp q.after.run q.after
        all r m = at (cases_eq r k)
          where
            here : r ≡ k → (u : Live) × IsLive q.after r u × (u.left ≡ []) × (length (history q.after.run r) ≤ u.rank.clock)
            here e =
                let a = ap (λ C. length (history C k)) q.run in
                let b = q.clock in
                let c = v.3 in
                let d = ap (λ z. length (history q.after.run z)) e in
                (q.rank, subst (λ z. IsLive q.after z q.rank) (sym e) q.live, q.left ∙ v.2, omega (arith, a, b, c, d))

            there : (r ≡ k → ⊥) → (u : Live) × IsLive q.after r u × (u.left ≡ []) × (length (history q.after.run r) ≤ u.rank.clock)
            there ne =
                let n = q.led.same_size in
                let u = caught r (omega (arith, m, n)) in
                let a = ap (λ C. length (history C r)) q.run in
                let c = u.3 in
                (u.0, q.others r ne ∙ u.1, u.2, omega (arith, a, c))

            at : (r ≡ k) ⊎ (r ≡ k → ⊥) → (u : Live) × IsLive q.after r u × (u.left ≡ []) × (length (history q.after.run r) ≤ u.rank.clock)
            at (inl e) = here e
            at (inr ne) = there ne

        still : QuietTo (k + 1) q.after
        still r m u live = at (cases_eq r k)
          where
            at : (r ≡ k) ⊎ (r ≡ k → ⊥) → u.rank.pending ≡ []
            at (inl e) =
                ap (λ (z : Live). z.rank.pending) (one_live q.after k q.rank u q.live (subst (λ z. IsLive q.after z u) e live)) ∙ q.none
            at (inr ne) = quiet r (omega (arith, m, ne)) u (sym (q.others r ne) ∙ live)

-- the first k
quiet_to : (w : WorldValue) → IsWorld w → IsStocked w → CaughtUp w.run w → (k : ℕ) → k ≤ size w → Goes w ⊎ StillTo k w
quiet_to w i t caught zero l = inr (w, led_none w i t, refl, caught, λ q m. absurd (omega (arith, m)))
quiet_to w i t caught (suc k) l = go (quiet_to w i t caught k (omega (arith, l)))
  where
    go : Goes w ⊎ StillTo k w → Goes w ⊎ StillTo (suc k) w
    go (inl g) = inl g
    go (inr s) =
        let f = s.1 in
        let n = f.same_size in
        last (quiet_next s.0 k f.is_world f.stocked s.3 s.4 (omega (arith, l, n)))
      where
        last : Goes s.0 ⊎ StillTo (k + 1) s.0 → Goes w ⊎ StillTo (suc k) w
        last (inl g) = inl (goes_first w s.0 s.1 g)
        last (inr z) = inr (z.0, led_more w s.0 z.0 s.1 z.1, z.2 ∙ s.2, z.3, λ q m. z.4 q (omega (arith, m)))

-- ---- all are settled

-- where nothing waits at a rank that has caught up it has made just its acts of the run
settled : (w : WorldValue) → IsWorld w → CaughtUp w.run w → QuietTo (size w) w → IsSettled w
settled w i caught quiet r l =
    let v = caught r l in
    let none = quiet r l v.0 v.1 in
    let s = rank_of i.stands r v.0 v.1 in
    let owes = RankStands-settled (start_at w (size w)) (size w) w.run r (plain v.0) s (none_waits_plainly v.0 none) in
    let within = s.at.within in
    let e = ap (λ z. length (history (continue w.run r z) r)) owes in
    let low = v.3 in
    (v.0, v.1, v.2, none, omega (arith, within, e, low))

-- where all are settled, with the same run
abbrev pub SettledSoon : WorldValue → Type 0
SettledSoon w = (w' : WorldValue) × Led w w' × (w'.run ≡ w.run) × IsSettled w'

-- from every world
pub settles : (w : WorldValue) → IsWorld w → IsStocked w → Goes w ⊎ SettledSoon w
settles w i k = go (cases_lt (length w.run) (length on.0.run))
  where
    on : (w' : WorldValue) × Led w w' × CaughtUp w.run w'
    on = (let way = way_exists w i k in led_on w w way.0 i k way.1)

    f : Led w on.0
    f = on.1

    last : (same : on.0.run ≡ w.run) → Goes on.0 ⊎ StillTo (size on.0) on.0 → Goes w ⊎ SettledSoon w
    last same (inl g) = inl (goes_first w on.0 f g)
    last same (inr z) =
        let n = z.1.same_size in
        inr (z.0, led_more w on.0 z.0 f z.1, z.2 ∙ same, settled z.0 z.1.is_world z.3 (λ q m. z.4 q (omega (arith, m, n))))

    same_run : (late : List Passed) → on.0.run ≡ late ++ w.run → length on.0.run ≤ length w.run → on.0.run ≡ w.run
    same_run [] e l = e
    same_run (p ∷ late) e l =
        let a = ap length e in
        let b = length-append late w.run in
        absurd (omega (arith, a, b, l))

    go : (length w.run < length on.0.run) ⊎ (length on.0.run ≤ length w.run) → Goes w ⊎ SettledSoon w
    go (inl l) = inl (on.0, f, longer w.run on.0.run f.later l)
    go (inr l) =
        let same = same_run f.later.0 f.later.1 l in
        last same
        (quiet_to on.0 f.is_world f.stocked (subst (λ C. CaughtUp C on.0) (sym same) on.2) (size on.0) (omega arith))
