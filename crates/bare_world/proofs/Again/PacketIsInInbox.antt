-- The packet that a rank behind the run takes or hits next is in its inbox, once the earlier acts of the run were gone through.
use Rattle.std.proofs.Common.{◌≡◌, ℕ, zero, suc, ◌+◌, ◌<◌, ◌≤◌, ◌⊎◌, inl, inr, ⊎_elim, Bool, true, false, ◌==◌, List, [], ◌∷◌, ◌++◌, Option, Some, None, length}
use Rattle.std.proofs.Common.{take, refl, sym, ap, subst, ◌∙◌, arith, slice_get}
use Rattle.std.proofs.lemmas.Bool.{cases_lt}
use Rattle.std.proofs.lemmas.List.{append-nil, append_assoc}
use Rattle.std.proofs.lemmas.Option.{slice_get_within, slice_get-get_or}
use Rattle.matching.specs.PacketValue as packet
use Rattle.payload_log.specs.Backlog.{backlog, new_backlog}
use Rattle.rank_machine.specs.declared.want.Want.{Want}
use Rattle.rank_machine.specs.declared.want.Want.TheVariants as want
use Rattle.rank_machine.specs.States.{State}
use Rattle.rank_machine.specs.Wants.{wants}
use Rattle.rank_machine.specs.Acts.{Act, Message, sends, takes, hits, misses, prints, carried}
use Rattle.rank_machine.proofs.CollectiveParts.{longer_at}
use Rattle.crash_free.specs.Runs.{Passed, History, at_place, history, sent, sends_from, send_at, cons_if, add_if, looked_up, taken, IsFree, IsRun}
use Rattle.crash_free.proofs.Lists.{history-own, run_begins}
use Rattle.bare_world.specs.World.{Live}
use Rattle.bare_world.specs.World.{WorldValue, size, IsLive}
use Rattle.bare_world.specs.Stands.{LogStands, sends_of, StandsIn, RankStands, Stands, start_at}
use Rattle.bare_world.specs.Plain.{plain}
use Rattle.bare_world.proofs.Plain.Ranks.{none_waits_plainly}
use Rattle.bare_world.proofs.Plain.Worlds.{rank_of}
use Rattle.bare_world.proofs.Lists.Beginnings.{take_append, take_whole}
use Rattle.bare_world.proofs.Standing.LiveRanks.{RankStands-settled, at_run}
use Rattle.bare_world.proofs.Onward.OneRankChanges.{settled_in}
use Rattle.bare_world.proofs.Runs.ActFitsWant.{history_looks_up}
use Rattle.bare_world.proofs.Lists.Places.{get_last}
use Rattle.bare_world.specs.Driven.{AllLive, Drained}
use Rattle.audit.proofs.Outcomes.{history_beyond}

-- ---- a run begins with its earlier acts

-- a rank's history in a longer run begins with that in the first part
history_begins : (late early : List Passed) (r : ℕ) → (extra : History) × (history (late ++ early) r ≡ history early r ++ extra)
history_begins [] early r = ([], sym (append-nil (history early r)))
history_begins (p ∷ late) early r =
    let rest = history_begins late early r in
    let one = more (p.rank == r) (history (late ++ early) r) (p.act, looked_up (λ s. sent (late ++ early) s p.rank) p.act) in
    (rest.0 ++ one.0, one.1 ∙ ap (λ z. z ++ one.0) rest.1 ∙ append_assoc (history early r) rest.0 one.0)
  where
    more : (b : Bool) (h : History) (x : Act × Option Message) → (extra : History) × (add_if b h x ≡ h ++ extra)
    more true h x = (x ∷ [], refl)
    more false h x = ([], sym (append-nil h))

-- the first act of a rank after the earlier ones, with what it took or hit among what was sent by then
act_there : (late early : List Passed) (r : ℕ) (a : Act)
    → slice_get (history (late ++ record { rank = r; act = a } ∷ early) r) (length (history early r)) ≡ Some (a, looked_up (λ s. sent early s r) a)
act_there late early r a =
    let x : Act × Option Message = (a, looked_up (λ s. sent early s r) a) in
    let begins = history_begins late (record { rank = r; act = a } ∷ early) r in
    let own : history (record { rank = r; act = a } ∷ early) r ≡ history early r ++ x ∷ [] = history-own early r a in
    subst (λ z. slice_get z (length (history early r)) ≡ Some x) (sym (begins.1 ∙ ap (λ z. z ++ begins.0) own))
    (longer_at (history early r ++ x ∷ []) begins.0 (length (history early r)) x (get_last (history early r) x))

-- ---- how much was sent

-- a message in front of both lists, or of neither, leaves the first no longer than the second
cons_longer : (b : Bool) (m : Message) (xs ys : List Message) → length xs ≤ length ys → length (cons_if b m xs) ≤ length (cons_if b m ys)
cons_longer true m xs ys l = omega (arith, l)
cons_longer false m xs ys l = l

-- so does an act, be it a send to that rank or not
send_longer : (c r : ℕ) (a : Act) (xs ys : List Message) → length xs ≤ length ys → length (send_at c r a xs) ≤ length (send_at c r a ys)
send_longer c r (sends d x t items) xs ys l = cons_longer (d == r) (record { clock = c; context = x; tag = t; items = items }) xs ys l
send_longer c r (takes s j) xs ys l = l
send_longer c r (hits s j) xs ys l = l
send_longer c r misses xs ys l = l
send_longer c r (prints z) xs ys l = l

-- a longer history has no fewer sends to a rank
sends_longer : (k r : ℕ) (h extra : History) → length (sends_from k r h) ≤ length (sends_from k r (h ++ extra))
sends_longer k r [] extra = omega arith
sends_longer k r (x ∷ h) extra = send_longer (k + 1) r x.0 (sends_from (k + 1) r h) (sends_from (k + 1) r (h ++ extra)) (sends_longer (k + 1) r h extra)

-- a list's own length or more of a longer list begins with the whole list
take_more : {A : Type 0} (c : ℕ) (xs ys : List A) → length xs ≤ c → (extra : List A) × (take c (xs ++ ys) ≡ xs ++ extra)
take_more c [] ys l = (take c ys, refl)
take_more zero (x ∷ xs) ys l = absurd (omega arith)
take_more (suc c) (x ∷ xs) ys l = (let z = take_more c xs ys (omega (arith, l)) in (z.0, ap (λ y. x ∷ y) z.1))

-- a place that holds a message is from 1 to the length
pub at_place_within : (xs : List Message) (j : ℕ) (m : Message) → at_place xs j ≡ Some m → (1 ≤ j) × (j ≤ length xs)
at_place_within xs zero m e = absurd cc
at_place_within xs (suc j) m e = (let z = slice_get_within xs j m e in (omega arith, omega (arith, z)))

-- ---- what an act takes or hits was there

-- a message that a rank may take hasn't been taken
free_takes : (w : Want) (s j : ℕ) (inbound : ℕ → List Message) (h : History) → IsFree w (takes s j) inbound h → taken h s j ≡ false
free_takes (want.Receive w) s j inbound h f = f.untaken
free_takes (want.Probe w) s j inbound h f = absurd f
free_takes (want.TryProbe w) s j inbound h f = absurd f
free_takes want.Internal s j inbound h f = absurd f
free_takes (want.Send d c t) s j inbound h f = absurd f
free_takes (want.Print v) s j inbound h f = absurd f
free_takes want.Halted s j inbound h f = absurd f
free_takes (want.Faulted k) s j inbound h f = absurd f

-- a message that a probe may show hasn't been taken
free_hits : (w : Want) (s j : ℕ) (inbound : ℕ → List Message) (h : History) → IsFree w (hits s j) inbound h → taken h s j ≡ false
free_hits (want.Receive w) s j inbound h f = absurd f
free_hits (want.Probe w) s j inbound h f = f.untaken
free_hits (want.TryProbe w) s j inbound h f = f.untaken
free_hits want.Internal s j inbound h f = absurd f
free_hits (want.Send d c t) s j inbound h f = absurd f
free_hits (want.Print v) s j inbound h f = absurd f
free_hits want.Halted s j inbound h f = absurd f
free_hits (want.Faulted k) s j inbound h f = absurd f

-- an act of a run takes or hits nothing that was taken
untaken_by : (start : ℕ → State) (n : ℕ) (late early : List Passed) (r : ℕ) (a : Act) (s j : ℕ) → IsRun start n (late ++ record { rank = r; act = a } ∷ early)
    → (a ≡ takes s j) ⊎ (a ≡ hits s j) → taken (history early r) s j ≡ false
untaken_by start n late early r a s j i which =
    let k = (run_begins start n late (record { rank = r; act = a } ∷ early) i).2 in
    from k.stands a which k.free
  where
    from : (x : State) (b : Act) → (b ≡ takes s j) ⊎ (b ≡ hits s j) → IsFree (wants x) b (λ q. sent early q r) (history early r)
        → taken (history early r) s j ≡ false
    from x b (inl e) f =
        free_takes (wants x) s j (λ q. sent early q r) (history early r) (subst (λ z. IsFree (wants x) z (λ q. sent early q r) (history early r)) e f)
    from x b (inr e) f =
        free_hits (wants x) s j (λ q. sent early q r) (history early r) (subst (λ z. IsFree (wants x) z (λ q. sent early q r) (history early r)) e f)

-- a reception and a hit see the message at their place
looks : (inbound : ℕ → List Message) (a : Act) (s j : ℕ) → (a ≡ takes s j) ⊎ (a ≡ hits s j) → looked_up inbound a ≡ at_place (inbound s) j
looks inbound a s j which = ⊎_elim (λ e. ap (λ z. looked_up inbound z) e) (λ e. ap (λ z. looked_up inbound z) e) which

-- ---- the packet

pub record IsThere (v : Live) (s : ℕ) (m : Message) : Type 0 where
  pub index : ℕ
  pub packet : packet.PacketValue
  pub there : slice_get v.rank.inbox.packets index ≡ Some packet
  pub source : packet.source ≡ s
  pub clock : packet.clock ≡ m.clock

module _ (w : WorldValue) (late early : List Passed) (r : ℕ) (a : Act) (v : Live) (t : Stands w) (run : w.run ≡ late ++ record { rank = r; act = a } ∷ early)
    (live : IsLive w r v) (clock : v.rank.clock ≡ length (history early r)) (made : (q : ℕ) (u : Live) → IsLive w q u → length (history early q) ≤ u.rank.clock)
    (all : AllLive w) (drained : Drained w) where
  x : Act × Option Message
  x = (a, looked_up (λ s. sent early s r) a)

  -- its next act is this one
  pub next_there : slice_get (history w.run r) v.rank.clock ≡ Some (a, looked_up (λ s. sent early s r) a)
  next_there = subst (λ z. slice_get (history z r) v.rank.clock ≡ Some (a, looked_up (λ s. sent early s r) a)) (sym run)
      (subst (λ z. slice_get (history (late ++ record { rank = r; act = a } ∷ early) r) z ≡ Some (a, looked_up (λ s. sent early s r) a)) (sym clock)
      (act_there late early r a))

  pub is_behind : v.rank.clock < length (history w.run r)
  is_behind = slice_get_within (history w.run r) v.rank.clock (a, looked_up (λ s. sent early s r) a) next_there

  pub k : RankStands (start_at w (size w)) (size w) w.run r (plain v)
  k = rank_of t r v live

  pub owes_none : k.acts ≡ []
  owes_none = RankStands-settled (start_at w (size w)) (size w) w.run r (plain v) k (none_waits_plainly v (settled_in w r v t live is_behind))

  at : StandsIn (start_at w (size w) r) (size w) r (λ q. sent w.run q r) (history w.run r) v.rank.clock v.rank.machine v.rank.inbox v.rank.log
  at = at_run (start_at w (size w)) (size w) w.run r (plain v) k owes_none

  -- what it has made are its earlier acts
  first_acts : take v.rank.clock (history w.run r) ≡ history early r
  first_acts =
      let begins = history_begins (late ++ record { rank = r; act = a } ∷ []) early r in
      let same : (late ++ record { rank = r; act = a } ∷ []) ++ early ≡ late ++ record { rank = r; act = a } ∷ early =
      append_assoc late (record { rank = r; act = a } ∷ []) early in
      ap (λ z. take v.rank.clock (history z r)) (run ∙ sym same) ∙ ap (λ z. take v.rank.clock z) begins.1 ∙ ap (λ z. take z (history early r ++ begins.0)) clock
      ∙ take_append (length (history early r)) (history early r) begins.0 (omega arith) ∙ take_whole (history early r)

  -- a live rank has sent all that it sent in the earlier acts
  sent_early : (s : ℕ) (u : Live) → IsLive w s u → r < size w → length (sent early s r) ≤ (backlog u.rank.log r).sent
  sent_early s u is lt =
      let j : RankStands (start_at w (size w)) (size w) w.run s (plain u) = rank_of t s u is in
      let begins = history_begins (late ++ record { rank = r; act = a } ∷ []) early s in
      let same : (late ++ record { rank = r; act = a } ∷ []) ++ early ≡ late ++ record { rank = r; act = a } ∷ early =
      append_assoc late (record { rank = r; act = a } ∷ []) early in
      let whole : history w.run s ≡ history early s ++ begins.0 = ap (λ z. history z s) (run ∙ sym same) ∙ begins.1 in
      let first = take_more u.rank.clock (history early s) begins.0 (made s u is) in
      let now : take u.rank.clock (history w.run s) ≡ history early s ++ first.0 = ap (λ z. take u.rank.clock z) whole ∙ first.1 in
      let log : LogStands s (sends_from 0 r (take u.rank.clock (history w.run s))) (sends_of (length (history w.run s)) r j.acts) (backlog u.rank.log r) =
      j.logs r (backlog u.rank.log r) (slice_get-get_or u.rank.log r new_backlog (let e = j.at.logged in omega (arith, lt, e))) in
      let count : (backlog u.rank.log r).sent ≡ length (sends_from 0 r (history early s ++ first.0)) = log.sent ∙ ap (λ z. length (sends_from 0 r z)) now in
      let l = sends_longer 0 r (history early s) first.0 in
      omega (arith, count, l)

  -- The packet of the next act is in the inbox.
  pub packet_there : (s j : ℕ) (m : Message) → (a ≡ takes s j) ⊎ (a ≡ hits s j) → looked_up (λ q. sent early q r) a ≡ Some m → IsThere v s m
  packet_there s j m which found =
      let place : at_place (sent early s r) j ≡ Some m = sym (looks (λ q. sent early q r) a s j which) ∙ found in
      let within = at_place_within (sent early s r) j m place in
      let is_run : IsRun (start_at w (size w)) (size w) (late ++ record { rank = r; act = a } ∷ early) =
      subst (λ z. IsRun (start_at w (size w)) (size w) z) run t.run.is_run in
      let lt : r < size w = slice_get_within w.ranks r (Some v) live in
      let sender : s < size w = below s j m place is_run in
      let u = all s sender in
      let a1 = sent_early s u.0 u.1 lt in
      let a2 = drained s r u.0 v tt u.1 live is_behind in
      let a3 = within.1 in
      let free : taken (take v.rank.clock (history w.run r)) s j ≡ false =
      ap (λ z. taken z s j) first_acts ∙ untaken_by (start_at w (size w)) (size w) late early r a s j is_run which in
      let e = at.inbox.each s j within.0 (omega (arith, a1, a2, a3)) free in
      let real : at_place (sent w.run s r) j ≡ Some (carried e.1) =
      subst (λ z. at_place (sent w.run z r) j ≡ Some (carried e.1)) e.3
      (subst (λ z. at_place (sent w.run e.1.source r) z ≡ Some (carried e.1)) e.4 (at.inbox.real e.0 e.1 e.2)) in
      let y = history_looks_up (start_at w (size w)) (size w) w.run r t.run.is_run v.rank.clock (a, looked_up (λ q. sent early q r) a) next_there in
      let whole : at_place (sent w.run s r) j ≡ Some m = sym (looks (λ q. sent w.run q r) a s j which) ∙ y.3 ∙ found in
      let both : Some (carried e.1) ≡ Some m = sym real ∙ whole in
      record { index = e.0; packet = e.1; there = e.2; source = e.3; clock = ap (λ z. clock_of z) both }
    where
      clock_of : Option Message → ℕ
      clock_of None = 0
      clock_of (Some z) = z.clock

      below : (s j : ℕ) (m : Message) → at_place (sent early s r) j ≡ Some m
          → IsRun (start_at w (size w)) (size w) (late ++ record { rank = r; act = a } ∷ early) → s < size w
      below s j m place is_run = go (cases_lt s (size w))
        where
          go : (s < size w) ⊎ (size w ≤ s) → s < size w
          go (inl l) = l
          go (inr l) =
              let i : IsRun (start_at w (size w)) (size w) early =
              (run_begins (start_at w (size w)) (size w) late (record { rank = r; act = a } ∷ early) is_run).0 in
              let none : sent early s r ≡ [] = ap (λ z. sends_from 0 r z) (history_beyond (start_at w (size w)) (size w) early s i l) in
              let z = at_place_within (sent early s r) j m place in
              let c = ap length none in
              let z0 = z.0 in
              let z1 = z.1 in
              absurd (omega (arith, z0, z1, c))
