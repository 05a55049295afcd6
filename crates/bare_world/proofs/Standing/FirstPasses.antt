-- The first act that waits passes: where its rank stands then, and what its payload log is.
use Rattle.std.proofs.Common.{◌≡◌, ℕ, ◌+◌, inr, ⊎_elim, List, []}
use Rattle.std.proofs.Common.{◌∷◌, ◌++◌, length, take, drop, sym, ap, subst, ◌∙◌, arith}
use Rattle.std.proofs.lemmas.List.{append-nil, length_push}
use Rattle.payload_log.specs.Backlog.{BacklogValue, freed}
use Rattle.rank_machine.specs.States.{State}
use Rattle.rank_machine.specs.Acts.{Act, Message}
use Rattle.crash_free.specs.Runs.{Passed, history, sent, sends_from, looked_up, MayMake, continue, send_at}
use Rattle.crash_free.proofs.Going.{sent_grows, count_continued}
use Rattle.bare_world.specs.Rows.{events_from}
use Rattle.bare_world.specs.World.{Rank, Live, unpassed}
use Rattle.rank_node.specs.declared.waiting.Waiting.{Waiting}
use Rattle.rank_node.specs.Waiting.{BeginsWithEvents}
use Rattle.crash_free.proofs.Lists.{history-own, sends_from-push, send_at-append}
use Rattle.bare_world.proofs.Standing.StepsAtWork.{beyond}
use Rattle.bare_world.proofs.Standing.PayloadLogs.{LogStands-freed}
use Rattle.bare_world.specs.Misses.{MissesNoneShown}
use Rattle.bare_world.specs.Stands.{LogStands, LogsStand, sends_of, IsFor, Pending, StandsIn, RankStands}
use Rattle.bare_world.proofs.Standing.InRun.{StandsIn-longer, StandsIn-frames}

-- what waits is other, and so are the payload log and the number of stored events
abbrev pub after_passing : Rank → List Waiting → ℕ → List BacklogValue → Rank
after_passing v pending stored log = record {
  stable = v.stable;
  machine = v.machine;
  clock = v.clock;
  made = v.made;
  inbox = v.inbox;
  log = log;
  pending = pending;
  stored = stored;
  dues = v.dues;
}

-- what is acknowledged had passed
pub RankStands-acked : (start : ℕ → State) (n : ℕ) (C : List Passed) (r : ℕ) (v : Live) (s : RankStands start n C r v) (pending : List Waiting) (stored : ℕ)
    → (v.rank.pending ≡ [] → ⊥)
    → drop stored pending ≡ unpassed v.rank → BeginsWithEvents stored pending
    → RankStands start n C r (record { rank = after_passing v.rank pending stored v.rank.log; left = v.left })
RankStands-acked start n C r v s pending stored some same low =
    record {
      number = s.number;
      size = s.size;
      acts = s.acts;
      pending = subst (λ z. Pending start C r s.acts z) (sym same) s.pending;
      stored = low;
      all_made = ⊎_elim (λ e. absurd (some e)) (λ e. inr e) s.all_made;
      left = s.left;
      logs = s.logs;
      at = s.at;
    }

-- the payload log when the first act that waits passes
abbrev pub LogPasses : List Passed → ℕ → ℕ → Waiting → List BacklogValue → List BacklogValue → Type 0
LogPasses C r c x log log' =
    (a : Act) (acts : List Act) → IsFor C r a x → c ≡ length (history C r) + length (a ∷ acts)
    → LogsStand r (history C r) c (a ∷ acts) log → LogsStand r (history (record { rank = r; act = a } ∷ C) r) c acts log'

-- the act that waits longest, and where its rank stands when it has passed
pub record First (start : ℕ → State) (n : ℕ) (C : List Passed) (r : ℕ) (x : Waiting) (log : List BacklogValue) (v : Live) : Type 0 where
  pub act : Act
  pub acts : List Act
  pub can : MayMake (start r) (λ q. sent C q r) (history C r) act
  pub fair : MissesNoneShown start C r act
  pub is_for : IsFor C r act x
  pub logs : LogsStand r (history C r) v.rank.clock (act ∷ acts) log
  pub counts : v.rank.clock ≡ length (history C r) + length (act ∷ acts)
  pub stands : RankStands start n (record { rank = r; act = act } ∷ C) r v

-- the first of what waits passes
pub RankStands-passes : (start : ℕ → State) (n : ℕ) (C : List Passed) (r : ℕ) (v : Live) (s : RankStands start n C r v)
    (x : Waiting) (rest pending : List Waiting) (stored : ℕ) (log : List BacklogValue)
    → (v.rank.pending ≡ [] → ⊥)
    → unpassed v.rank ≡ x ∷ rest → drop stored pending ≡ rest → BeginsWithEvents stored pending
    → length log ≡ n → LogPasses C r v.rank.clock x v.rank.log log
    → First start n C r x v.rank.log (record { rank = after_passing v.rank pending stored log; left = v.left })
RankStands-passes start n C r v s x rest pending stored log some is same low logged passes =
    go s.acts (subst (λ z. Pending start C r s.acts z) is s.pending) (⊎_elim (λ e. absurd (some e)) (λ e. e) s.all_made) s.left s.logs s.at
  where
    go : (acts : List Act) → Pending start C r acts (x ∷ rest)
        → v.rank.clock ≡ length (history (continue C r acts) r)
        → v.left ≡ events_from v.rank.clock (drop v.rank.clock (history (continue C r acts) r))
        → LogsStand r (history C r) v.rank.clock acts v.rank.log
        → StandsIn (start r) n r (λ q. sent C q r) (history (continue C r acts) r) v.rank.clock v.rank.machine v.rank.inbox v.rank.log
        → First start n C r x v.rank.log (record { rank = after_passing v.rank pending stored log; left = v.left })
    go [] p all left logs at = absurd p
    go (a ∷ acts) p all left logs at =
        record {
          act = a;
          acts = acts;
          can = p.0;
          fair = p.3;
          is_for = p.1;
          logs = logs;
          counts = all ∙ count_continued C r (a ∷ acts);
          stands = record {
            number = s.number;
            size = s.size;
            acts = acts;
            pending = subst (λ z. Pending start (record { rank = r; act = a } ∷ C) r acts z) (sym same) p.2;
            stored = low;
            all_made = inr all;
            left = left;
            logs = passes a acts p.1 (all ∙ count_continued C r (a ∷ acts)) logs;
            at =
                StandsIn-frames (start r) n r (λ q. sent (record { rank = r; act = a } ∷ C) q r)
                (history (continue (record { rank = r; act = a } ∷ C) r acts) r) v.rank.clock v.rank.machine v.rank.inbox v.rank.inbox v.rank.log log
                at.counted (longer a acts at).inbox logged (longer a acts at);
          };
        }
      where
        longer : (a : Act) (acts : List Act)
            → StandsIn (start r) n r (λ q. sent C q r) (history (continue C r (a ∷ acts)) r) v.rank.clock v.rank.machine v.rank.inbox v.rank.log
            → StandsIn (start r) n r (λ q. sent (record { rank = r; act = a } ∷ C) q r)
            (history (continue (record { rank = r; act = a } ∷ C) r acts) r) v.rank.clock v.rank.machine v.rank.inbox v.rank.log
        longer a acts at =
            StandsIn-longer (start r) n r (λ q. sent C q r) (λ q. sent (record { rank = r; act = a } ∷ C) q r)
            (history (continue (record { rank = r; act = a } ∷ C) r acts) r) v.rank.clock v.rank.machine v.rank.inbox v.rank.log
            (λ q. sent_grows C (record { rank = r; act = a }) q r) at

module _ (C : List Passed) (r c : ℕ) (a : Act) (acts : List Act) (counts : c ≡ length (history C r) + length (a ∷ acts)) where
  all_before : take c (history C r) ≡ history C r
  all_before = beyond c (history C r) (omega (arith, counts))

  one_longer : length (history (record { rank = r; act = a } ∷ C) r) ≡ length (history C r) + 1
  one_longer = ap length (history-own C r a) ∙ length_push (history C r) (a, looked_up (λ s. sent C s r) a)

  all_after : take c (history (record { rank = r; act = a } ∷ C) r) ≡ history C r ++ (a, looked_up (λ s. sent C s r) a) ∷ []
  all_after = beyond c (history (record { rank = r; act = a } ∷ C) r) (let z = one_longer in omega (arith, counts, z)) ∙ history-own C r a

  -- the act is among what was sent, and no more among what waits
  sent_after : (d : ℕ)
      → sends_from 0 d (take c (history (record { rank = r; act = a } ∷ C) r))
      ≡ sends_from 0 d (take c (history C r)) ++ send_at (length (history C r) + 1) d a []
  sent_after d =
      ap (λ z. sends_from 0 d z) all_after ∙ sends_from-push 0 d (history C r) (a, looked_up (λ s. sent C s r) a)
      ∙ ap (λ z. sends_from 0 d z ++ send_at (0 + length (history C r) + 1) d a []) (sym all_before)
      ∙ (let z : 0 + length (history C r) + 1 ≡ length (history C r) + 1 = omega arith in ap (λ k. sends_from 0 d (take c (history C r)) ++ send_at k d a []) z)

  waits_after : (d : ℕ) → sends_of (length (history (record { rank = r; act = a } ∷ C) r)) d acts ≡ sends_of (length (history C r) + 1) d acts
  waits_after d = ap (λ z. sends_of z d acts) one_longer

  -- where the act sends nothing there
  pub quiet_there : (d : ℕ) (b : BacklogValue) → send_at (length (history C r) + 1) d a [] ≡ []
      → LogStands r (sends_from 0 d (take c (history C r))) (sends_of (length (history C r)) d (a ∷ acts)) b
      → LogStands r (sends_from 0 d (take c (history (record { rank = r; act = a } ∷ C) r)))
      (sends_of (length (history (record { rank = r; act = a } ∷ C) r)) d acts) b
  quiet_there d b none s =
      subst (λ z. LogStands r z (sends_of (length (history (record { rank = r; act = a } ∷ C) r)) d acts) b)
      (sym (sent_after d ∙ ap (λ z. sends_from 0 d (take c (history C r)) ++ z) none ∙ append-nil _))
      (subst (λ z. LogStands r (sends_from 0 d (take c (history C r))) z b)
      (send_at-append (length (history C r) + 1) d a [] (sends_of (length (history C r) + 1) d acts) ∙ ap
      (λ z. z ++ sends_of (length (history C r) + 1) d acts) none ∙ sym (waits_after d)) s)

  -- where it sends a message there
  pub message_there : (d : ℕ) (b : BacklogValue) (m : Message) → send_at (length (history C r) + 1) d a [] ≡ m ∷ []
      → LogStands r (sends_from 0 d (take c (history C r))) (sends_of (length (history C r)) d (a ∷ acts)) b
      → LogStands r (sends_from 0 d (take c (history C r))) (m ∷ sends_of (length (history C r) + 1) d acts) b
  message_there d b m one s =
      subst (λ z. LogStands r (sends_from 0 d (take c (history C r))) z b)
      (send_at-append (length (history C r) + 1) d a [] (sends_of (length (history C r) + 1) d acts) ∙ ap
      (λ z. z ++ sends_of (length (history C r) + 1) d acts) one) s

  pub freed_there : (d : ℕ) (b : BacklogValue) (m : Message) → send_at (length (history C r) + 1) d a [] ≡ m ∷ []
      → LogStands r (sends_from 0 d (take c (history C r))) (sends_of (length (history C r)) d (a ∷ acts)) b
      → LogStands r (sends_from 0 d (take c (history (record { rank = r; act = a } ∷ C) r)))
      (sends_of (length (history (record { rank = r; act = a } ∷ C) r)) d acts) (freed b)
  freed_there d b m one s =
      subst (λ z. LogStands r z (sends_of (length (history (record { rank = r; act = a } ∷ C) r)) d acts) (freed b))
      (sym (sent_after d ∙ ap (λ z. sends_from 0 d (take c (history C r)) ++ z) one))
      (subst (λ z. LogStands r (sends_from 0 d (take c (history C r)) ++ m ∷ []) z (freed b)) (sym (waits_after d))
      (LogStands-freed r (sends_from 0 d (take c (history C r))) (sends_of (length (history C r) + 1) d acts) b m (message_there d b m one s)))
