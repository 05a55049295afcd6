-- States that are kept in parts: more parts behind change none of them, and one part more is joined
-- behind the others.
use Rattle.std.proofs.Common.{◌≡◌, ℕ, ◌<◌, ◌+◌, List, [], ◌∷◌, ◌++◌, Some, length, refl, sym, ap, ◌∙◌, subst, arith, slice_get, ◌⊎◌, inl, inr}
use Rattle.std.specs.Prelude.{slice_index_or, option_map}
use Rattle.std.proofs.lemmas.List.{append_assoc, length-append, get_or_append_left}
use Rattle.std.proofs.lemmas.Option.{get_or_from_slice_get, slice_get_within, slice_get-map}
use Rattle.crash_free.specs.Standing.{Rows, no_rows, behind}
use Rattle.crash_free.proofs.Appending.{behind_nothing, behind_both}
use Rattle.explore.specs.Outcomes.{IsAmong}
use Rattle.explore.specs.Parts.{joined, all_joined, AreBelow, AllAreBelow, KeepsParts, AreParts}

-- places below a number are below a greater one
below_more : (n m : ℕ) (is : List ℕ) → AreBelow n is → AreBelow (n + m) is
below_more n m [] b = b
below_more n m (i ∷ is) b = (let low = b.0 in omega (arith, low), below_more n m is b.1)

-- so are those of each state
all_below_more : (n m : ℕ) (states : List (List ℕ)) → AllAreBelow n states → AllAreBelow (n + m) states
all_below_more n m [] b = b
all_below_more n m (is ∷ states) b = (below_more n m is b.0, all_below_more n m states b.1)

-- more parts leave what is joined
joined_more : (parts more : List Rows) (is : List ℕ) → AreBelow (length parts) is → joined (parts ++ more) is ≡ joined parts is
joined_more parts more [] b = refl
joined_more parts more (i ∷ is) b =
    ap (λ z. behind z (joined (parts ++ more) is)) (get_or_append_left parts more no_rows i b.0)
    ∙ ap (behind (slice_index_or parts i no_rows)) (joined_more parts more is b.1)

-- so of each state
all_joined_more : (parts more : List Rows) (states : List (List ℕ)) → AllAreBelow (length parts) states
    → all_joined (parts ++ more) states ≡ all_joined parts states
all_joined_more parts more [] b = refl
all_joined_more parts more (is ∷ states) b =
    ap (λ z. z ∷ all_joined (parts ++ more) states) (joined_more parts more is b.0)
    ∙ ap (λ z. joined parts is ∷ z) (all_joined_more parts more states b.1)

-- one place more is joined behind the others
joined_push : (parts : List Rows) (is : List ℕ) (i : ℕ) → joined parts (is ++ i ∷ []) ≡ behind (joined parts is) (slice_index_or parts i no_rows)
joined_push parts [] i = behind_nothing (slice_index_or parts i no_rows)
joined_push parts (j ∷ is) i =
    ap (behind (slice_index_or parts j no_rows)) (joined_push parts is i)
    ∙ sym (behind_both (slice_index_or parts j no_rows) (joined parts is) (slice_index_or parts i no_rows))

-- and is below a number, if it is and the others are
below_push : (n : ℕ) (is : List ℕ) (i : ℕ) → AreBelow n is → i < n → AreBelow n (is ++ i ∷ [])
below_push n [] i b low = (low, tt)
below_push n (j ∷ is) i b low = (b.0, below_push n is i b.1 low)

-- so is one state more
all_below_push : (n : ℕ) (states : List (List ℕ)) (is : List ℕ) → AllAreBelow n states → AreBelow n is → AllAreBelow n (states ++ is ∷ [])
all_below_push n [] is b low = (low, tt)
all_below_push n (js ∷ states) is b low = (b.0, all_below_push n states is b.1 low)

-- which is joined behind the others
all_joined_push : (parts : List Rows) (states : List (List ℕ)) (is : List ℕ)
    → all_joined parts (states ++ is ∷ []) ≡ all_joined parts states ++ joined parts is ∷ []
all_joined_push parts [] is = refl
all_joined_push parts (js ∷ states) is = ap (λ z. joined parts js ∷ z) (all_joined_push parts states is)

-- parts that keep parts that keep others keep those
pub keeps_both : (a b c : List Rows) → KeepsParts a b → KeepsParts b c → KeepsParts a c
keeps_both a b c x y = (x.0 ++ y.0, y.1 ∙ ap (λ z. z ++ y.0) x.1 ∙ append_assoc a x.0 y.0)

-- the states are the same in parts that keep theirs
kept_states : (old new : List Rows) (states : List (List ℕ)) → KeepsParts old new → AllAreBelow (length old) states
    → AllAreBelow (length new) states × (all_joined new states ≡ all_joined old states)
kept_states old new states k b =
    subst (λ z. AllAreBelow (length z) states × (all_joined z states ≡ all_joined old states)) (sym k.1)
    (subst (λ n. AllAreBelow n states) (sym (length-append old k.0)) (all_below_more (length old) (length k.0) states b), all_joined_more old k.0 states b)

-- rows that are kept in parts are kept in more of them
kept_parts : (old new : List Rows) (is : List ℕ) (rows : Rows) → KeepsParts old new → AreParts old is rows → AreParts new is rows
kept_parts old new is rows k a =
    subst (λ z. AreParts z is rows) (sym k.1)
    (record {
      below = subst (λ n. AreBelow n is) (sym (length-append old k.0)) (below_more (length old) (length k.0) is a.below);
      whole = joined_more old k.0 is a.below ∙ a.whole;
    })

-- one part more comes behind them
pub one_part_more : (old new : List Rows) (is : List ℕ) (i : ℕ) (part rows : Rows) → KeepsParts old new → slice_get new i ≡ Some part → AreParts old is rows
    → AreParts new (is ++ i ∷ []) (behind rows part)
one_part_more old new is i part rows k there a =
    let kept = kept_parts old new is rows k a in
    record {
      below = below_push (length new) is i kept.below (slice_get_within new i part there);
      whole =
          joined_push new is i ∙ ap (λ z. behind z (slice_index_or new i no_rows)) kept.whole
          ∙ ap (behind rows) (get_or_from_slice_get new i part no_rows there);
    }

-- where no state comes, what is kept stays, in more parts too
pub states_stay : (old new new' : List Rows) (states states' : List (List ℕ)) (now : List Rows) → KeepsParts old new → new' ≡ new
    → AllAreBelow (length old) states → all_joined old states ≡ now → states' ≡ states
    → AllAreBelow (length new') states' × (all_joined new' states' ≡ now)
states_stay old new new' states states' now k e b view f =
    let kept = kept_states old new states k b in
    subst (λ z. AllAreBelow (length z) states' × (all_joined z states' ≡ now)) (sym e)
    (subst (λ z. AllAreBelow (length new) z × (all_joined new z ≡ now)) (sym f) (kept.0, kept.1 ∙ view))

-- where at most one state comes, at most its rows come
pub states_after : (old new new' : List Rows) (states states' : List (List ℕ)) (is : List ℕ) (rows : Rows) (now : List Rows) → KeepsParts old new → new' ≡ new
    → AllAreBelow (length old) states → all_joined old states ≡ now → AreParts new is rows → (states' ≡ states) ⊎ (states' ≡ states ++ is ∷ [])
    → AllAreBelow (length new') states' × ((all_joined new' states' ≡ now) ⊎ (all_joined new' states' ≡ now ++ rows ∷ []))
states_after old new new' states states' is rows now k e b view a (inl f) =
    let stay = states_stay old new new' states states' now k e b view f in
    (stay.0, inl stay.1)
states_after old new new' states states' is rows now k e b view a (inr f) =
    let kept = kept_states old new states k b in
    subst (λ z. AllAreBelow (length z) states' × ((all_joined z states' ≡ now) ⊎ (all_joined z states' ≡ now ++ rows ∷ []))) (sym e)
    (subst (λ z. AllAreBelow (length new) z × ((all_joined new z ≡ now) ⊎ (all_joined new z ≡ now ++ rows ∷ []))) (sym f) (
      all_below_push (length new) states is kept.0 a.below,
      inr (all_joined_push new states is ∙ ap (λ z. all_joined new states ++ z ∷ []) a.whole ∙ ap (λ z. z ++ rows ∷ []) (kept.1 ∙ view)),
    ))

-- a state that is among those that are kept stands there
pub state_among : (new new' : List Rows) (states states' : List (List ℕ)) (is : List ℕ) (rows : Rows) → new' ≡ new → states' ≡ states → AreParts new is rows
    → IsAmong states is → IsAmong (all_joined new' states') rows
state_among new new' states states' is rows e f a x =
    subst (λ z. IsAmong (all_joined z states') rows) (sym e)
    (subst (λ z. IsAmong (all_joined new z) rows) (sym f)
    (x.0, slice_get-map (joined new) states x.0 ∙ ap (option_map (joined new)) x.1 ∙ ap (λ z. Some z) a.whole))
