-- What a rank keeps and holds for others was sent by its own acts, the earlier packet by an earlier act. A packet that is
-- saved or held has a greater clock than all before it, and goes behind them; one that is freed stays where it stands; one
-- that is let go leaves the order of the others; and as the clock grows, all stay within it.
use Rattle.std.proofs.Common.{◌≡◌, ℕ, suc, ◌+◌, ◌-◌, ◌<◌, ◌≤◌, ◌⊎◌, inl, inr, Bool, true, false, if◌then◌else◌, List, [], ◌∷◌, ◌++◌}
use Rattle.std.proofs.Common.{length, drop, max, replicate, slice_set, slice_index_or, refl, sym, ap, subst, ◌∙◌, arith, append-nil, append_assoc}
use Rattle.std.specs.Prelude.{All, AllPairs, nat_lt, remove}
use Rattle.std.proofs.lemmas.Bool.{cases_lt}
use Rattle.std.proofs.lemmas.List.{length-drop, length-append, length_push, get_or-drop, drop-append-le, drop_all}
use Rattle.std.proofs.Math.Seq.{drop-append_seam}
use Rattle.std.proofs.lemmas.List.Elements.{All-append, All-drop, All-get_or, All-nil, All-push, All-replicate, All-set, All-take, All-weaker}
use Rattle.std.proofs.lemmas.List.Quantifiers.{all_pairs_push, all_pairs_remove}
use Rattle.matching.specs.PacketValue.{PacketValue}
use Rattle.payload_log.specs.Backlog.{BacklogValue, backlog, new_backlog, saved, hold, freed, freed_of, pruned}
use Rattle.payload_log.specs.Sender.{IsSentBy, WasBefore}

-- ---- lists of packets

-- so many packets of a rank stand in a list, of rising clocks up to this one
record AreSent (rank clock : ℕ) (ms : List PacketValue) : Type 0 where
  sources : All (λ (m : PacketValue). m.source ≡ rank) ms
  rising : AllPairs WasBefore ms
  within : All (λ (m : PacketValue). m.clock ≤ clock) ms

-- of a backlog they are what is kept and what is held
are_sent : (rank clock : ℕ) (b : BacklogValue) → IsSentBy rank clock b → AreSent rank clock (b.kept ++ b.held)
are_sent rank clock b is = record { sources = is.sources; rising = is.rising; within = is.within }

-- and where they are, and acts enough, the backlog is sent by the rank
is_sent_by : (rank clock : ℕ) (b : BacklogValue) → AreSent rank clock (b.kept ++ b.held) → b.sent + length b.held ≤ clock → IsSentBy rank clock b
is_sent_by rank clock b are acts = record { sources = are.sources; rising = are.rising; within = are.within; acts = acts }

-- none
sent_none : (rank clock : ℕ) → AreSent rank clock []
sent_none rank clock = record {
  sources = All-nil (λ (m : PacketValue). m.source ≡ rank);
  rising = λ i j d before below. absurd (omega (arith, below));
  within = All-nil (λ (m : PacketValue). m.clock ≤ clock);
}

-- up to a later clock
sent_upto : (rank c d : ℕ) (ms : List PacketValue) → c ≤ d → AreSent rank c ms → AreSent rank d ms
sent_upto rank c d ms le are = record {
  sources = are.sources;
  rising = are.rising;
  within = All-weaker (λ (m : PacketValue). m.clock ≤ c) (λ (m : PacketValue). m.clock ≤ d) (λ m l. omega (arith, l, le)) ms are.within;
}

-- the packet of the next act goes last
sent_push : (rank c : ℕ) (ms : List PacketValue) (m : PacketValue) → m.source ≡ rank → m.clock ≡ c + 1 → AreSent rank c ms → AreSent rank (c + 1) (ms ++ m ∷ [])
sent_push rank c ms m own next are = record {
  sources = All-push (λ (x : PacketValue). x.source ≡ rank) ms m are.sources own;
  rising = all_pairs_push WasBefore ms m are.rising (λ k d low. (let z = are.within k d low in omega (arith, z, next)));
  within = All-push (λ (x : PacketValue). x.clock ≤ c + 1) ms m
      (All-weaker (λ (x : PacketValue). x.clock ≤ c) (λ (x : PacketValue). x.clock ≤ c + 1) (λ x l. omega (arith, l)) ms are.within) (omega (arith, next));
}

-- the first of them go
sent_drop : (rank c n : ℕ) (ms : List PacketValue) → AreSent rank c ms → AreSent rank c (drop n ms)
sent_drop rank c n ms are = record {
  sources = All-drop (λ (m : PacketValue). m.source ≡ rank) n ms are.sources;
  rising = λ i j d before below. step i j d before (let long = length-drop n ms in omega (arith, below, long));
  within = All-drop (λ (m : PacketValue). m.clock ≤ c) n ms are.within;
}
  where
    step : (i j : ℕ) (d : PacketValue) → i < j → n + j < length ms → WasBefore (slice_index_or (drop n ms) i d) (slice_index_or (drop n ms) j d)
    step i j d before below =
        subst (λ m. WasBefore m (slice_index_or (drop n ms) j d)) (sym (get_or-drop n ms i d))
        (subst (λ m. WasBefore (slice_index_or ms (n + i) d) m) (sym (get_or-drop n ms j d))
        (are.rising (n + i) (n + j) d (omega (arith, before)) below))

-- one of them goes
sent_without : (rank c : ℕ) (ms : List PacketValue) (m : PacketValue) (ns : List PacketValue) → AreSent rank c (ms ++ m ∷ ns) → AreSent rank c (ms ++ ns)
sent_without rank c ms m ns are = subst (AreSent rank c) (seam ms) (record {
  sources = removed (λ (x : PacketValue). x.source ≡ rank) are.sources;
  rising = all_pairs_remove WasBefore (ms ++ m ∷ ns) (length ms) (let z = length-append ms (m ∷ ns) in omega (arith, z)) are.rising;
  within = removed (λ (x : PacketValue). x.clock ≤ c) are.within;
})
  where
    seam : (xs : List PacketValue) → remove (xs ++ m ∷ ns) (length xs) ≡ xs ++ ns
    seam [] = refl
    seam (x ∷ xs) = ap (λ ys. x ∷ ys) (seam xs)

    removed : (P : PacketValue → Type 0) → All P (ms ++ m ∷ ns) → All P (remove (ms ++ m ∷ ns) (length ms))
    removed P all = All-append P _ _ (All-take P (length ms) (ms ++ m ∷ ns) all) (All-drop P (suc (length ms)) (ms ++ m ∷ ns) all)

-- ---- one backlog

-- nothing was sent
new_sent : (rank : ℕ) → IsSentBy rank 0 new_backlog
new_sent rank = is_sent_by rank 0 new_backlog (sent_none rank 0) (omega arith)

-- up to a later clock
later_sent : (rank c d : ℕ) → c ≤ d → (b : BacklogValue) → IsSentBy rank c b → IsSentBy rank d b
later_sent rank c d le b is =
    is_sent_by rank d b (sent_upto rank c d (b.kept ++ b.held) le (are_sent rank c b is)) (let z = is.acts in omega (arith, z, le))

-- the packet of the next act is saved
saved_sent : (rank c : ℕ) (b : BacklogValue) (m : PacketValue)
    → b.held ≡ [] → m.source ≡ rank → m.clock ≡ c + 1 → IsSentBy rank c b → IsSentBy rank (c + 1) (saved b m)
saved_sent rank c b m none own next is =
    is_sent_by rank (c + 1) (saved b m)
    (subst (AreSent rank (c + 1)) (sym (ap (λ h. (saved b m).kept ++ h) none ∙ append-nil (saved b m).kept)) (go (nat_lt b.base m.number)))
    (let z = is.acts in omega (arith, z))
  where
    kept : AreSent rank c b.kept
    kept = subst (AreSent rank c) (ap (λ h. b.kept ++ h) none ∙ append-nil b.kept) (are_sent rank c b is)

    go : (above : Bool) → AreSent rank (c + 1) (if above then b.kept ++ m ∷ [] else b.kept)
    go true = sent_push rank c b.kept m own next kept
    go false = sent_upto rank c (c + 1) b.kept (omega arith) kept

-- the packet of the next act is held
hold_sent : (rank c : ℕ) (b : BacklogValue) (m : PacketValue) → m.source ≡ rank → m.clock ≡ c + 1 → IsSentBy rank c b → IsSentBy rank (c + 1) (hold b m)
hold_sent rank c b m own next is =
    is_sent_by rank (c + 1) (hold b m)
    (subst (AreSent rank (c + 1)) (append_assoc b.kept b.held (m ∷ [])) (sent_push rank c (b.kept ++ b.held) m own next (are_sent rank c b is)))
    (let long = length_push b.held m in let z = is.acts in omega (arith, z, long))

-- the oldest of those held is saved
freed_sent : (rank c : ℕ) (b : BacklogValue) → IsSentBy rank c b → IsSentBy rank c (freed b)
freed_sent rank c b is = go b.held (are_sent rank c b is) is.acts
  where
    kept_on : (m : PacketValue) (ms : List PacketValue) → AreSent rank c (b.kept ++ m ∷ ms) → (above : Bool)
        → AreSent rank c ((if above then b.kept ++ m ∷ [] else b.kept) ++ ms)
    kept_on m ms are true = subst (AreSent rank c) (sym (append_assoc b.kept (m ∷ []) ms)) are
    kept_on m ms are false = sent_without rank c b.kept m ms are

    go : (held : List PacketValue) → AreSent rank c (b.kept ++ held) → b.sent + length held ≤ c → IsSentBy rank c (freed_of b held)
    go [] are acts = is
    go (m ∷ ms) are acts =
        is_sent_by rank c (saved (record b { held = ms }) m) (kept_on m ms are (nat_lt b.base m.number))
        (let z : b.sent + 1 + length ms ≤ c = omega (arith, acts) in z)

-- the first of those kept are let go
pruned_sent : (rank c : ℕ) (b : BacklogValue) (upto : ℕ) → IsSentBy rank c b → IsSentBy rank c (pruned b upto)
pruned_sent rank c b upto is = go (nat_lt b.base upto)
  where
    fewer : (n : ℕ) → AreSent rank c (drop n b.kept ++ b.held)
    fewer n = at (cases_lt (length b.kept) n)
      where
        at : (length b.kept < n) ⊎ (n ≤ length b.kept) → AreSent rank c (drop n b.kept ++ b.held)
        at (inr le) = subst (AreSent rank c) (drop-append-le n b.kept b.held le) (sent_drop rank c n (b.kept ++ b.held) (are_sent rank c b is))
        at (inl lt) =
            subst (AreSent rank c) (drop-append_seam b.kept b.held ∙ sym (ap (λ l. l ++ b.held) (drop_all n b.kept (omega (arith, lt)))))
            (sent_drop rank c (length b.kept) (b.kept ++ b.held) (are_sent rank c b is))

    go : (above : Bool) → IsSentBy rank c (if above then record b { base = upto; cursor = max b.cursor (upto + 1); kept = drop (upto - b.base) b.kept } else b)
    go true = is_sent_by rank c (record b { base = upto; cursor = max b.cursor (upto + 1); kept = drop (upto - b.base) b.kept }) (fewer (upto - b.base)) is.acts
    go false = is

-- ---- the whole payload log

-- nothing was sent to any rank
pub log_new : (rank n : ℕ) → All (IsSentBy rank 0) (replicate n new_backlog)
log_new rank n = All-replicate (IsSentBy rank 0) n new_backlog (new_sent rank)

-- an act more was made
pub log_later : (rank c : ℕ) (log : List BacklogValue) → All (IsSentBy rank c) log → All (IsSentBy rank (c + 1)) log
log_later rank c log all = All-weaker (IsSentBy rank c) (IsSentBy rank (c + 1)) (later_sent rank c (c + 1) (omega arith)) log all

-- the act saved its packet
pub log_saved : (rank c : ℕ) (log : List BacklogValue) (dest : ℕ) (m : PacketValue) → dest < length log → (backlog log dest).held ≡ []
    → m.source ≡ rank → m.clock ≡ c + 1
    → All (IsSentBy rank c) log → All (IsSentBy rank (c + 1)) (slice_set log dest (saved (backlog log dest) m))
log_saved rank c log dest m below none own next all =
    All-set (IsSentBy rank (c + 1)) log dest (saved (backlog log dest) m)
    (saved_sent rank c (backlog log dest) m none own next (All-get_or (IsSentBy rank c) log dest new_backlog below all)) (log_later rank c log all)

-- the act's packet is held
pub log_hold : (rank c : ℕ) (log : List BacklogValue) (dest : ℕ) (m : PacketValue) → dest < length log → m.source ≡ rank → m.clock ≡ c + 1
    → All (IsSentBy rank c) log → All (IsSentBy rank (c + 1)) (slice_set log dest (hold (backlog log dest) m))
log_hold rank c log dest m below own next all =
    All-set (IsSentBy rank (c + 1)) log dest (hold (backlog log dest) m)
    (hold_sent rank c (backlog log dest) m own next (All-get_or (IsSentBy rank c) log dest new_backlog below all)) (log_later rank c log all)

-- a packet that was held is saved
pub log_freed : (rank c : ℕ) (log : List BacklogValue) (dest : ℕ) → dest < length log → All (IsSentBy rank c) log
    → All (IsSentBy rank c) (slice_set log dest (freed (backlog log dest)))
log_freed rank c log dest below all =
    All-set (IsSentBy rank c) log dest (freed (backlog log dest))
    (freed_sent rank c (backlog log dest) (All-get_or (IsSentBy rank c) log dest new_backlog below all)) all

-- packets are let go
pub log_pruned : (rank c : ℕ) (log : List BacklogValue) (dest upto : ℕ) → dest < length log → All (IsSentBy rank c) log
    → All (IsSentBy rank c) (slice_set log dest (pruned (backlog log dest) upto))
log_pruned rank c log dest upto below all =
    All-set (IsSentBy rank c) log dest (pruned (backlog log dest) upto)
    (pruned_sent rank c (backlog log dest) upto (All-get_or (IsSentBy rank c) log dest new_backlog below all)) all
