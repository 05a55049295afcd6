-- The lists of all pairs of ranks stand receiver by receiver, as many for each as there may be sources.
use Rattle.std.proofs.Common.{◌≡◌, ℕ, zero, suc, ◌+◌, ◌-◌, ◌*◌, ◌<◌, List, [], ◌∷◌, ◌++◌, length, refl, sym, ap, ◌∙◌, arith}
use Rattle.std.proofs.Common.{None, get_or, replicate, subst}
use Rattle.std.specs.Prelude.{slice_index_or, slice_set, Result, Ok, Err, OnOk}
use Rattle.std.specs.List.{AllZip}
use Rattle.std.proofs.lemmas.List.{get_or_append_left, get_or-append_right, set-append_left, set-append_right, length-append, length-replicate}
use Rattle.std.proofs.lemmas.List.{get_or-replicate, get_or_read, replicate-append-replicate, set-get_or}
use Rattle.std.proofs.lemmas.List.Elements.{same_from_all_zip}
use Rattle.limits.specs.Limits.{most_ranks}
use Rattle.crash_free.specs.Slots.{Slot, place_of, channel}
use Rattle.crash_free.specs.Inbound.{of_source, nothing_inbound, by_pair, HaveAllSources}

-- the receivers behind the first have all sources too
behind : (inbound : List (List Slot)) (receivers : List (List (List Slot))) → HaveAllSources (inbound ∷ receivers) → HaveAllSources receivers
behind inbound receivers whole r low = whole (suc r) (omega (arith, low))

-- so many lists there are
length-by_pair : (receivers : List (List (List Slot))) → HaveAllSources receivers → length (by_pair receivers) ≡ most_ranks * length receivers
length-by_pair [] whole = refl
length-by_pair (inbound ∷ receivers) whole =
    let both = length-append inbound (by_pair receivers) in
    let first = whole 0 (omega arith) in
    let rest = length-by_pair receivers (behind inbound receivers whole) in
    omega (arith, both, first, rest)

-- the list of a pair is that of the source at the receiver
channel-by_pair : (receivers : List (List (List Slot))) (s r : ℕ) → HaveAllSources receivers → s < most_ranks → r < length receivers
    → channel (by_pair receivers) s r ≡ of_source (slice_index_or receivers r []) s
channel-by_pair [] s r whole source rank = absurd (omega (arith, rank))
channel-by_pair (inbound ∷ receivers) s zero whole source rank =
    let size = whole 0 (omega arith) in
    let place : place_of s 0 ≡ s = omega arith in
    ap (λ k. slice_index_or (inbound ++ by_pair receivers) k []) place ∙ get_or_append_left inbound (by_pair receivers) [] s (omega (arith, source, size))
channel-by_pair (inbound ∷ receivers) s (suc r) whole source rank =
    let size = whole 0 (omega arith) in
    let less : most_ranks * suc r + s - most_ranks ≡ most_ranks * r + s = omega arith in
    get_or-append_right inbound (by_pair receivers) most_ranks (place_of s (suc r)) [] size (omega arith)
    ∙ ap (λ k. slice_index_or (by_pair receivers) k []) less ∙ channel-by_pair receivers s r (behind inbound receivers whole) source (omega (arith, rank))

-- a pair that has a list has a receiver that is there
receiver_there : (receivers : List (List (List Slot))) (s r : ℕ) → HaveAllSources receivers → place_of s r < length (by_pair receivers) → r < length receivers
receiver_there receivers s r whole place =
    let size = length-by_pair receivers whole in
    omega (arith, size, place)

-- where one list at a receiver is written, that of its pair is
by_pair-set : (receivers : List (List (List Slot))) (s r : ℕ) (x : List Slot) → HaveAllSources receivers → s < most_ranks → r < length receivers
    → by_pair (slice_set receivers r (slice_set (slice_index_or receivers r []) s x)) ≡ slice_set (by_pair receivers) (place_of s r) x
by_pair-set [] s r x whole source rank = absurd (omega (arith, rank))
by_pair-set (inbound ∷ receivers) s zero x whole source rank =
    let size = whole 0 (omega arith) in
    let place : place_of s 0 ≡ s = omega arith in
    sym (ap (λ k. slice_set (inbound ++ by_pair receivers) k x) place ∙ set-append_left inbound (by_pair receivers) s x (omega (arith, source, size)))
by_pair-set (inbound ∷ receivers) s (suc r) x whole source rank =
    let size = whole 0 (omega arith) in
    let less : most_ranks * suc r + s - most_ranks ≡ most_ranks * r + s = omega arith in
    ap (λ z. inbound ++ z) (by_pair-set receivers s r x (behind inbound receivers whole) source (omega (arith, rank)))
    ∙ ap (λ k. inbound ++ slice_set (by_pair receivers) k x) (sym less)
    ∙ sym (set-append_right inbound (by_pair receivers) most_ranks (place_of s (suc r)) x size (omega arith))

-- where nothing came nothing is of any source
pub none_sent : (s : ℕ) → s < length nothing_inbound → of_source nothing_inbound s ≡ []
none_sent s low =
    let size = length-replicate {A = List Slot} most_ranks [] in
    get_or-replicate most_ranks s [] [] (omega (arith, low, size))

-- lists that are clones of others are those
pub same_clones : (xs ys : List (List Slot)) → AllZip (λ (x y : List Slot). y ≡ x) xs ys → ys ≡ xs
same_clones xs ys all = same_from_all_zip (λ (x y : List Slot). y ≡ x) xs ys all (λ x y same. same)

-- where nothing came to any rank there is a list for each source
pub none_whole : (n : ℕ) → HaveAllSources (replicate n nothing_inbound)
none_whole n r low =
    let count = length-replicate n nothing_inbound in
    ap length (get_or-replicate n r nothing_inbound [] (omega (arith, low, count))) ∙ length-replicate {A = List Slot} most_ranks []

-- and each is empty
pub by_pair_none : (n : ℕ) → by_pair (replicate n nothing_inbound) ≡ replicate (most_ranks * n) []
by_pair_none zero = refl
by_pair_none (suc n) =
    let more : most_ranks + most_ranks * n ≡ most_ranks * suc n = omega arith in
    ap (λ z. nothing_inbound ++ z) (by_pair_none n) ∙ replicate-append-replicate most_ranks (most_ranks * n) [] ∙ ap (λ k. replicate k []) more

-- where what is written is what stood there nothing changes
pub stays_put : {X : Type 0} (xs : List X) (k : ℕ) (before after : X) → before ≡ get_or xs k before → after ≡ before → slice_set xs k after ≡ xs
stays_put xs k before after read same = ap (λ z. slice_set xs k z) (same ∙ read) ∙ set-get_or xs k before

-- the receiver of a pair that has a list is there
pub receiver_within : (mail : List (List Slot)) (receivers : List (List (List Slot))) (k s r n : ℕ) → by_pair receivers ≡ mail → HaveAllSources receivers
    → k ≡ r → place_of s r < length mail → n ≡ length receivers → k < n
receiver_within mail receivers k s r n seen whole at place size =
    let there = receiver_there receivers s r whole (subst (λ (m : List (List Slot)). place_of s r < length m) (sym seen) place) in
    omega (arith, there, at, size)

-- and what is read there is what came to it
is_inbound : (mail inbound : List (List Slot)) (receivers : List (List (List Slot))) (k s r : ℕ) → by_pair receivers ≡ mail → HaveAllSources receivers
    → k ≡ r → place_of s r < length mail → inbound ≡ get_or receivers k inbound → (r < length receivers) × (inbound ≡ get_or receivers r [])
is_inbound mail inbound receivers k s r seen whole at place read =
    let within = receiver_within mail receivers k s r (length receivers) seen whole at place refl in (
      subst (λ i. i < length receivers) at within,
      get_or_read receivers k inbound within read [] ∙ ap (λ i. get_or receivers i []) at,
    )

-- it has a list for the source
pub has_source : (mail inbound : List (List Slot)) (receivers : List (List (List Slot))) (k s r : ℕ) → by_pair receivers ≡ mail → HaveAllSources receivers
    → k ≡ r → s < most_ranks → place_of s r < length mail → inbound ≡ get_or receivers k inbound → s < length inbound
has_source mail inbound receivers k s r seen whole at source place read =
    let here = is_inbound mail inbound receivers k s r seen whole at place read in
    let size = whole r here.0 in
    let long = ap length here.1 in
    omega (arith, source, size, long)

-- which is that of the pair
pub is_of_pair : (mail inbound : List (List Slot)) (receivers : List (List (List Slot))) (k s r : ℕ) → by_pair receivers ≡ mail → HaveAllSources receivers
    → k ≡ r → s < most_ranks → place_of s r < length mail → inbound ≡ get_or receivers k inbound → of_source inbound s ≡ channel mail s r
is_of_pair mail inbound receivers k s r seen whole at source place read =
    let here = is_inbound mail inbound receivers k s r seen whole at place read in
    ap (λ xs. of_source xs s) here.1 ∙ sym (channel-by_pair receivers s r whole source here.0) ∙ ap (λ m. channel m s r) seen

-- once the list of a source is written at a receiver, that of the pair is
is_written : (mail before after : List (List Slot)) (receivers : List (List (List Slot))) (k s r : ℕ) (x : List Slot) → by_pair receivers ≡ mail
    → HaveAllSources receivers → k ≡ r → s < most_ranks → place_of s r < length mail → before ≡ get_or receivers k before
    → after ≡ slice_set before s x → by_pair (slice_set receivers k after) ≡ slice_set mail (place_of s r) x
is_written mail before after receivers k s r x seen whole at source place read write =
    let here = is_inbound mail before receivers k s r seen whole at place read in
    ap (λ z. by_pair (slice_set receivers k z)) (write ∙ ap (λ z. slice_set z s x) here.1)
    ∙ ap (λ i. by_pair (slice_set receivers i (slice_set (get_or receivers r []) s x))) at
    ∙ by_pair-set receivers s r x whole source here.0
    ∙ ap (λ m. slice_set m (place_of s r) x) seen

-- so where a message is put last
pub is_posted : {A E : Type 0} (mail before after : List (List Slot)) (receivers : List (List (List Slot))) (k s r : ℕ) (slot : Slot) (result : Result A E)
    → by_pair receivers ≡ mail → HaveAllSources receivers → k ≡ r → s < most_ranks → place_of s r < length mail → before ≡ get_or receivers k before
    → OnOk result (after ≡ slice_set before s (of_source before s ++ slot ∷ []))
    → OnOk result (by_pair (slice_set receivers k after) ≡ slice_set mail (place_of s r) (channel mail s r ++ slot ∷ []))
is_posted mail before after receivers k s r slot (Ok y) seen whole at source place read write =
    is_written mail before after receivers k s r (of_source before s ++ slot ∷ []) seen whole at source place read write
    ∙ ap (λ xs. slice_set mail (place_of s r) (xs ++ slot ∷ [])) (is_of_pair mail before receivers k s r seen whole at source place read)
is_posted mail before after receivers k s r slot (Err y) seen whole at source place read write = tt

-- and where one is emptied
pub is_taken : {A E : Type 0} (mail before after : List (List Slot)) (receivers : List (List (List Slot))) (k s r i : ℕ) (result : Result A E)
    → by_pair receivers ≡ mail → HaveAllSources receivers → k ≡ r → s < most_ranks → place_of s r < length mail → before ≡ get_or receivers k before
    → OnOk result (after ≡ slice_set before s (slice_set (of_source before s) i None))
    → OnOk result (by_pair (slice_set receivers k after) ≡ slice_set mail (place_of s r) (slice_set (channel mail s r) i None))
is_taken mail before after receivers k s r i (Ok y) seen whole at source place read write =
    is_written mail before after receivers k s r (slice_set (of_source before s) i None) seen whole at source place read write
    ∙ ap (λ xs. slice_set mail (place_of s r) (slice_set xs i None)) (is_of_pair mail before receivers k s r seen whole at source place read)
is_taken mail before after receivers k s r i (Err y) seen whole at source place read write = tt
