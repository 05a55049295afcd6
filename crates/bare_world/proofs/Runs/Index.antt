-- The index of a run, after one more act and without the last one.
--
-- Only what the act's own rank made changes: its count by one, and for a send the clocks for its destination, at their end.
use Rattle.std.proofs.Common.{◌≡◌, ℕ, zero, suc, ◌+◌, ◌-◌, ◌<◌, ◌≤◌, ◌==◌, List, [], ◌∷◌, ◌++◌, length, map, take, drop, reverse, Option, Some, None, refl, sym}
use Rattle.std.proofs.Common.{ap, ◌∙◌, subst, arith, slice_get, slice_set, get_or, ◌⊎◌, inl, inr, length-append, length-set, eq-eqb, ne_eqb}
use native.Mathlib.Decide.{ℕ_discrete}
use Rattle.std.specs.Prelude.{IfSome, IfNone}
use Rattle.std.proofs.lemmas.List.{map-append, append-nil, reverse-append, length-reverse, get_or-reverse}
use Rattle.std.proofs.lemmas.Option.{slice_get_read, slice_get_within, slice_get-get_or}
use Rattle.std.proofs.Math.Seq.{take-append_seam}
use Rattle.rank_machine.specs.Acts.{Act, Message, sends, takes, hits, misses, prints}
use Rattle.crash_free.specs.Runs.{Passed, at_place, history, send_at, cons_if}
use Rattle.crash_free.proofs.Lists.{history-own, history-other, sent-own, sent-other}
use Rattle.audit.specs.Trace.{AreInOrder}
use Rattle.bare_world.specs.RunIndex.{clocks, clock_at, MadeValue, RunValue, made_with, made_without, clocks_with, clocks_without, IsMade, AreOf}
use Rattle.bare_world.specs.RunIndex.{IsIndexed, IsNext}
use Rattle.bare_world.proofs.Lists.Replaced.{slice_set-get, replaced_keeps}
use Rattle.bare_world.proofs.Runs.ClocksRise.{clocks-rise, clock_at-place}

-- a rank's acts are no more than the run's
length-history_le : (C : List Passed) (r : ℕ) → length (history C r) ≤ length C
length-history_le [] r = omega arith
length-history_le (p ∷ C) r = at (length-history_le C p.rank) (length-history_le C r) (ℕ_discrete p.rank r)
  where
    at : length (history C p.rank) ≤ length C → length (history C r) ≤ length C → Dec (p.rank ≡ r) → length (history (p ∷ C) r) ≤ suc (length C)
    at own_before before (yes own) =
        let more : length (history (p ∷ C) p.rank) ≡ length (history C p.rank) + 1 =
        ap length (history-own C p.rank p.act) ∙ length-append (history C p.rank) _ in
        subst (λ q. length (history (p ∷ C) q) ≤ suc (length C)) own (omega (arith, own_before, more))
    at own_before before (no other) =
        let same = ap length (history-other C p r other) in
        omega (arith, before, same)

-- what the index has for a rank is what it made
made_there : (n : ℕ) (C : List Passed) (index : List MadeValue) (r : ℕ) (m : MadeValue) → IsIndexed n C index → r < n → m ≡ get_or index r m → IsMade n C r m
made_there n C index r m kept low is = kept.made r m (slice_get_read index n r m (sym kept.width) low is)

-- the index has the clocks of what a rank sent to another, and they rise
pub sent_there : (n : ℕ) (C : List Passed) (index : List MadeValue) (r d k : ℕ) (m : MadeValue) → IsIndexed n C index → r < n → d < n → k ≡ r
    → m ≡ get_or index k m
    → (d < length m.clocks) × (get_or m.clocks d [] ≡ clocks C r d) × AreInOrder (get_or m.clocks d [])
sent_there n C index r d k m kept low dest at is =
    let made = made_there n C index r m kept low (is ∙ ap (λ q. get_or index q m) at) in
    let wide = made.width in
    let there : d < length m.clocks = omega (arith, wide) in
    let same = made.clocks d (get_or m.clocks d []) (slice_get-get_or m.clocks d [] there) in
    (there, same, subst AreInOrder (sym same) (clocks-rise C r d))

-- the place of a clock in the index is that of its message
pub placed : (C : List Passed) (r d c k : ℕ) (ks : List ℕ) (found : Option ℕ) → ks ≡ clocks C r d → k ≡ c → IfSome found (λ j. at_place ks j ≡ Some k)
    → IfSome found (λ j. clock_at C r d j ≡ Some c)
placed C r d c k ks None same is there = tt
placed C r d c k ks (Some j) same is there = clock_at-place C r d j ∙ ap (λ ks. at_place ks j) (sym same) ∙ there ∙ ap Some is

-- a clock with no place in the index is that of no message
pub unplaced : (C : List Passed) (r d c k : ℕ) (ks : List ℕ) (found : Option ℕ) → ks ≡ clocks C r d → k ≡ c
    → IfNone found ((j : ℕ) → at_place ks j ≡ Some k → ⊥)
    → IfNone found ((j : ℕ) → clock_at C r d j ≡ Some c → ⊥)
unplaced C r d c k ks (Some j) same is none = tt
unplaced C r d c k ks None same is none = λ j there. none j (ap (λ ks. at_place ks j) same ∙ sym (clock_at-place C r d j) ∙ there ∙ ap Some (sym is))

-- the count that the index has for a rank
pub count_there : (n : ℕ) (C : List Passed) (index : List MadeValue) (r k : ℕ) (m : MadeValue) → IsIndexed n C index → r < n → k ≡ r → m ≡ get_or index k m
    → m.count ≡ length (history C r)
count_there n C index r k m kept low at is = (made_there n C index r m kept low (is ∙ ap (λ q. get_or index q m) at)).count

-- a rank's count is at most the number of acts
pub count_fits : (n : ℕ) (acts : List Passed) (index : List MadeValue) (r : ℕ) (m : MadeValue) → IsIndexed n (reverse acts) index → r < n
    → m ≡ get_or index r m → m.count ≤ length acts
count_fits n acts index r m kept low is =
    let count = (made_there n (reverse acts) index r m kept low is).count in
    let bound = length-history_le (reverse acts) r in
    let long = length-reverse acts in
    omega (arith, count, bound, long)

-- what a rank sent after one more act of its own
clocks-own : (C : List Passed) (r d : ℕ) (act : Act)
    → clocks (record { rank = r; act = act } ∷ C) r d ≡ clocks C r d ++ map (λ (m : Message). m.clock) (send_at (length (history C r) + 1) d act [])
clocks-own C r d act = ap (map (λ (m : Message). m.clock)) (sent-own C r d act) ∙ map-append (λ (m : Message). m.clock) _ _

-- an act leaves as many lists of clocks, one for each destination
length-clocks_with : (c : ℕ) (act : Act) (ks : List (List ℕ)) → length (clocks_with c act ks) ≡ length ks
length-clocks_with c (sends d context tag items) ks = length-set ks d _
length-clocks_with c (takes s j) ks = refl
length-clocks_with c (hits s j) ks = refl
length-clocks_with c misses ks = refl
length-clocks_with c (prints v) ks = refl

-- so does an act that is taken back
length-clocks_without : (act : Act) (ks : List (List ℕ)) → length (clocks_without act ks) ≡ length ks
length-clocks_without (sends d context tag items) ks = length-set ks d _
length-clocks_without (takes s j) ks = refl
length-clocks_without (hits s j) ks = refl
length-clocks_without misses ks = refl
length-clocks_without (prints v) ks = refl

-- clocks that are f at each place are, after an act, f with what the act adds
clocks_with-each : (f : ℕ → List ℕ) (c : ℕ) (act : Act) (ks : List (List ℕ)) → ((d : ℕ) (x : List ℕ) → slice_get ks d ≡ Some x → x ≡ f d)
    → (d : ℕ) (x : List ℕ) → slice_get (clocks_with c act ks) d ≡ Some x → x ≡ f d ++ map (λ (m : Message). m.clock) (send_at c d act [])
clocks_with-each f c (sends e context tag items) ks each d x there = go (slice_set-get ks e d x (get_or ks e [] ++ c ∷ []) there)
  where
    go : ((d ≡ e) × (x ≡ get_or ks e [] ++ c ∷ [])) ⊎ ((d ≡ e → ⊥) × (slice_get ks d ≡ Some x))
        → x ≡ f d ++ map (λ (m : Message). m.clock) (cons_if (e == d) (record { clock = c; context = context; tag = tag; items = items }) [])
    go (inl own) =
        let low : d < length ks = subst (λ n. d < n) (length-set ks e _) (slice_get_within (slice_set ks e (get_or ks e [] ++ c ∷ [])) d x there) in
        let old = each d (get_or ks d []) (slice_get-get_or ks d [] low) in
        rw (eq-eqb e d (sym own.0)) (own.1 ∙ ap (λ z. get_or ks z [] ++ c ∷ []) (sym own.0) ∙ ap (λ z. z ++ c ∷ []) old)
    go (inr other) = rw (ne_eqb e d (λ q. other.0 (sym q))) (each d x other.1 ∙ sym (append-nil (f d)))
clocks_with-each f c (takes s j) ks each d x there = each d x there ∙ sym (append-nil (f d))
clocks_with-each f c (hits s j) ks each d x there = each d x there ∙ sym (append-nil (f d))
clocks_with-each f c misses ks each d x there = each d x there ∙ sym (append-nil (f d))
clocks_with-each f c (prints v) ks each d x there = each d x there ∙ sym (append-nil (f d))

-- a list without the element that was put last
take_last : {A : Type 0} (xs : List A) (x : A) → take (length (xs ++ x ∷ []) - 1) (xs ++ x ∷ []) ≡ xs
take_last xs x =
    let long = length-append xs (x ∷ []) in
    let short : length (xs ++ x ∷ []) - 1 ≡ length xs = omega (arith, long) in
    ap (λ n. take n (xs ++ x ∷ [])) short ∙ take-append_seam xs (x ∷ [])

-- clocks that are f at each place with what an act adds are f without the act
clocks_without-each : (f : ℕ → List ℕ) (c : ℕ) (act : Act) (ks : List (List ℕ))
    → ((d : ℕ) (x : List ℕ) → slice_get ks d ≡ Some x → x ≡ f d ++ map (λ (m : Message). m.clock) (send_at c d act []))
    → (d : ℕ) (x : List ℕ) → slice_get (clocks_without act ks) d ≡ Some x → x ≡ f d
clocks_without-each f c (sends e context tag items) ks each d x there = go (slice_set-get ks e d x (short (get_or ks e [])) there)
  where
    short : List ℕ → List ℕ
    short old = take (length old - 1) old

    go : ((d ≡ e) × (x ≡ short (get_or ks e []))) ⊎ ((d ≡ e → ⊥) × (slice_get ks d ≡ Some x)) → x ≡ f d
    go (inl own) =
        let low : d < length ks = subst (λ n. d < n) (length-set ks e _) (slice_get_within (slice_set ks e (short (get_or ks e []))) d x there) in
        let old : get_or ks d [] ≡ f d ++ c ∷ [] = rw (eq-eqb e d (sym own.0)) at (each d (get_or ks d []) (slice_get-get_or ks d [] low)) in
        own.1 ∙ ap (λ z. short (get_or ks z [])) (sym own.0) ∙ ap short old ∙ take_last (f d) c
    go (inr other) =
        let old : x ≡ f d ++ [] = rw (ne_eqb e d (λ q. other.0 (sym q))) at (each d x other.1) in
        old ∙ append-nil (f d)
clocks_without-each f c (takes s j) ks each d x there = each d x there ∙ append-nil (f d)
clocks_without-each f c (hits s j) ks each d x there = each d x there ∙ append-nil (f d)
clocks_without-each f c misses ks each d x there = each d x there ∙ append-nil (f d)
clocks_without-each f c (prints v) ks each d x there = each d x there ∙ append-nil (f d)

-- one more act of the rank itself
IsMade-own : (n : ℕ) (C : List Passed) (r : ℕ) (act : Act) (m : MadeValue) → IsMade n C r m → IsMade n (record { rank = r; act = act } ∷ C) r (made_with m act)
IsMade-own n C r act m kept = record {
  count = ap (λ k. k + 1) kept.count ∙ sym (ap length (history-own C r act) ∙ length-append (history C r) _);
  width = length-clocks_with (m.count + 1) act m.clocks ∙ kept.width;
  clocks = λ d x there.
      clocks_with-each (clocks C r) (m.count + 1) act m.clocks kept.clocks d x there
      ∙ ap (λ k. clocks C r d ++ map (λ (m : Message). m.clock) (send_at (k + 1) d act [])) kept.count ∙ sym (clocks-own C r d act);
}

-- an act of another rank
IsMade-other : (n : ℕ) (C : List Passed) (p : Passed) (r : ℕ) (m : MadeValue) → (p.rank ≡ r → ⊥) → IsMade n C r m → IsMade n (p ∷ C) r m
IsMade-other n C p r m other kept = record {
  count = kept.count ∙ sym (ap length (history-other C p r other));
  width = kept.width;
  clocks = λ d x there. kept.clocks d x there ∙ sym (ap (map (λ (m : Message). m.clock)) (sent-other C p r d other));
}

-- without the rank's own last act
IsMade-own_back : (n : ℕ) (C : List Passed) (r : ℕ) (act : Act) (m : MadeValue) → IsMade n (record { rank = r; act = act } ∷ C) r m
    → IsMade n C r (made_without m act)
IsMade-own_back n C r act m kept = record {
  count =
      let more = kept.count ∙ ap length (history-own C r act) ∙ length-append (history C r) _ in
      omega (arith, more);
  width = length-clocks_without act m.clocks ∙ kept.width;
  clocks = clocks_without-each (clocks C r) (length (history C r) + 1) act m.clocks (λ d x there. kept.clocks d x there ∙ clocks-own C r d act);
}

-- without the last act of another rank
IsMade-other_back : (n : ℕ) (C : List Passed) (p : Passed) (r : ℕ) (m : MadeValue) → (p.rank ≡ r → ⊥) → IsMade n (p ∷ C) r m → IsMade n C r m
IsMade-other_back n C p r m other kept = record {
  count = kept.count ∙ ap length (history-other C p r other);
  width = kept.width;
  clocks = λ d x there. kept.clocks d x there ∙ ap (map (λ (m : Message). m.clock)) (sent-other C p r d other);
}

-- the index after one more act
indexed_push : (n : ℕ) (acts : List Passed) (p : Passed) (index : List MadeValue) (m : MadeValue) → IsIndexed n (reverse acts) index → p.rank < n
    → m ≡ get_or index p.rank m → IsIndexed n (reverse (acts ++ p ∷ [])) (slice_set index p.rank (made_with m p.act))
indexed_push n acts p index m kept low is = rw (reverse-append acts (p ∷ [])) record {
  of_ranks = (low, kept.of_ranks);
  width = length-set index p.rank _ ∙ kept.width;
  made = replaced_keeps (λ r x. IsMade n (p ∷ reverse acts) r x) index p.rank (made_with m p.act)
      (λ r x other there. IsMade-other n (reverse acts) p r x (λ q. other (sym q)) (kept.made r x there))
      (λ x there. IsMade-own n (reverse acts) p.rank p.act m (made_there n (reverse acts) index p.rank m kept low is));
}

-- the act that is taken back was counted
pub counted_last : (n : ℕ) (acts : List Passed) (p : Passed) (index : List MadeValue) (m : MadeValue) → IsIndexed n (reverse (acts ++ p ∷ [])) index
    → m ≡ get_or index p.rank m → (p.rank < length index) × (0 < m.count)
counted_last n acts p index m kept is = at (subst (λ C. IsIndexed n C index) (reverse-append acts (p ∷ [])) kept)
  where
    at : IsIndexed n (p ∷ reverse acts) index → (p.rank < length index) × (0 < m.count)
    at kept =
        let low = kept.of_ranks.0 in
        let wide = kept.width in
        let count = (made_there n (p ∷ reverse acts) index p.rank m kept low is).count in
        let more = ap length (history-own (reverse acts) p.rank p.act) ∙ length-append (history (reverse acts) p.rank) _ in
        (omega (arith, low, wide), omega (arith, count, more))

-- the index without the last act
indexed_back : (n : ℕ) (acts : List Passed) (p : Passed) (index : List MadeValue) (m : MadeValue) → IsIndexed n (reverse (acts ++ p ∷ [])) index
    → m ≡ get_or index p.rank m → IsIndexed n (reverse acts) (slice_set index p.rank (made_without m p.act))
indexed_back n acts p index m kept is = at (subst (λ C. IsIndexed n C index) (reverse-append acts (p ∷ [])) kept)
  where
    at : IsIndexed n (p ∷ reverse acts) index → IsIndexed n (reverse acts) (slice_set index p.rank (made_without m p.act))
    at kept = record {
      of_ranks = kept.of_ranks.1;
      width = length-set index p.rank _ ∙ kept.width;
      made = replaced_keeps (λ r x. IsMade n (reverse acts) r x) index p.rank (made_without m p.act)
          (λ r x other there. IsMade-other_back n (reverse acts) p r x (λ q. other (sym q)) (kept.made r x there))
          (λ x there. IsMade-own_back n (reverse acts) p.rank p.act m (made_there n (p ∷ reverse acts) index p.rank m kept kept.of_ranks.0 is));
    }

-- the run and its index after one more act
pub pushed : (n : ℕ) (acts new_acts : List Passed) (p : Passed) (act : Act) (index : List MadeValue) (k : ℕ) (m new : MadeValue)
    → IsIndexed n (reverse acts) index
    → p.rank < n → k ≡ p.rank → act ≡ p.act → m ≡ get_or index k m → new_acts ≡ acts ++ p ∷ [] → new ≡ made_with m act
    → IsIndexed n (reverse new_acts) (slice_set index k new)
pushed n acts new_acts p act index k m new kept low at made is longer changed =
    rw (longer, changed, at, made) (indexed_push n acts p index m kept low (is ∙ ap (λ q. get_or index q m) at))

-- the run and its index without the last act
pub taken_back : (n : ℕ) (acts new_acts : List Passed) (p : Passed) (act : Act) (index : List MadeValue) (k : ℕ) (m new : MadeValue)
    → IsIndexed n (reverse acts) index
    → acts ≡ new_acts ++ p ∷ [] → k ≡ p.rank → act ≡ p.act → m ≡ get_or index k m → new ≡ made_without m act
    → IsIndexed n (reverse new_acts) (slice_set index k new)
taken_back n acts new_acts p act index k m new kept shorter at made is changed =
    rw (changed, at, made) (indexed_back n new_acts p index m (subst (λ l. IsIndexed n (reverse l) index) shorter kept) (is ∙ ap (λ q. get_or index q m) at))

-- ---- acts, oldest first

-- what is left from an index on begins with the element there
drop_at : {A : Type 0} (C : List A) (m : ℕ) (d : A) → m < length C → drop m C ≡ get_or C m d ∷ drop (suc m) C
drop_at [] m d l = absurd (omega (arith, l))
drop_at (x ∷ []) zero d l = refl
drop_at (x ∷ y ∷ C) zero d l = refl
drop_at (x ∷ C) (suc m) d l = drop_at C m d (omega (arith, l))

-- acts of a program's ranks are so from any place on
of_drop : (n m : ℕ) (C : List Passed) → AreOf n C → AreOf n (drop m C)
of_drop n zero [] all = all
of_drop n (suc m) [] all = all
of_drop n zero (p ∷ C) all = all
of_drop n (suc m) (p ∷ C) all = of_drop n m C all.1

-- the act at a place comes next after so many
next_is : (acts : List Passed) (i : ℕ) (p : Passed) → i < length acts → p ≡ get_or acts i p → IsNext (reverse acts) i p.rank
next_is acts i p l is =
    let n = length-reverse acts in
    let m : length (reverse acts) - (i + 1) < length acts = omega (arith, l, n) in
    let at : get_or (reverse acts) (length (reverse acts) - (i + 1)) p ≡ p =
    get_or-reverse acts (length (reverse acts) - (i + 1)) p m
    ∙ ap (λ z. get_or acts z p) (let e : length acts - 1 - (length (reverse acts) - (i + 1)) ≡ i = omega (arith, l, n) in e) ∙ sym is in
    let rest : suc (length (reverse acts) - (i + 1)) ≡ length (reverse acts) - i = omega (arith, l, n) in (
      p.act,
      drop_at (reverse acts) (length (reverse acts) - (i + 1)) p (omega (arith, m, n))
          ∙ ap (λ z. z ∷ drop (suc (length (reverse acts) - (i + 1))) (reverse acts)) at
          ∙ ap (λ z. p ∷ drop z (reverse acts)) rest,
      omega (arith, l, n),
    )

-- and is of one of the ranks
next_of : (n : ℕ) (C : List Passed) (index : List MadeValue) (k r : ℕ) → IsIndexed n C index → IsNext C k r → r < n
next_of n C index k r kept next = (subst (λ z. AreOf n z) next.1 (of_drop n (length C - (k + 1)) C kept.of_ranks)).0

-- the rank read from the run at an index is that of the next act there
pub rank_at_is : (n i r : ℕ) (acts : List Passed) (v : RunValue) (p : Passed) → record { ranks = n; acts = reverse acts } ≡ v → i < length v.acts
    → p ≡ get_or acts i p
    → r ≡ p.rank → IsNext v.acts i r
rank_at_is n i r acts v p is l at e =
    let a = ap (λ z. length z.acts) is in
    let b = length-reverse acts in
    subst (λ q. IsNext v.acts i q) (sym e) (subst (λ z. IsNext z.acts i p.rank) is (next_is acts i p (omega (arith, l, a, b)) at))

-- that rank is one of the run's
pub rank_at_of : (n i r : ℕ) (acts : List Passed) (index : List MadeValue) (v : RunValue) → IsIndexed n (reverse acts) index
    → record { ranks = n; acts = reverse acts } ≡ v
    → IsNext v.acts i r → r < v.ranks
rank_at_of n i r acts index v kept is next =
    subst (λ z. r < z.ranks) is (next_of n (reverse acts) index i r kept (subst (λ z. IsNext z.acts i r) (sym is) next))
