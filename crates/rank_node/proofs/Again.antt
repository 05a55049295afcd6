-- What a send that is made again keeps: nothing waits, so nothing is held, and its packet is counted like any other.
use Rattle.std.specs.Prelude.{◌≡◌, ℕ, zero, suc, true, ◌+◌, ◌<◌, ◌≢◌, List, [], ◌∷◌, length, slice_index_or, drop}
use Rattle.std.proofs.Common.{refl, ap, ◌∙◌, arith}
use Rattle.std.proofs.lemmas.List.{nil_from_length}
use Rattle.payload_log.specs.Backlog.{BacklogValue, backlog}
use Rattle.std.proofs.Math.Numerals.{add-one}
use Rattle.event_logger.specs.Sequential.Event.{EventValue}
use Rattle.rank_node.specs.declared.waiting.Waiting.{Waiting}
use Rattle.rank_node.specs.Waiting.{sends_to, is_settled}

-- where nothing waits, the payload log holds nothing
pub none_held : (log : List BacklogValue) (waiting : List Waiting) → ((d : ℕ) → length (backlog log d).held ≡ sends_to d waiting) → waiting ≡ []
    → (d : ℕ) → (backlog log d).held ≡ []
none_held log waiting held settled d = nil_from_length (backlog log d).held (held d ∙ ap (sends_to d) settled)

-- what is settled has nothing in it
pub settled_nil : (waiting : List Waiting) → is_settled waiting ≡ true → waiting ≡ []
settled_nil [] settled = refl
settled_nil (x ∷ xs) settled = absurd cc

-- the events that are left begin with the next one
pub left_is : (n : ℕ) (es : List EventValue) (e : EventValue) (rest : List EventValue) → drop n es ≡ e ∷ rest → (d : EventValue) → slice_index_or es n d ≡ e
left_is zero es e rest is d = ap (λ xs. slice_index_or xs zero d) is
left_is (suc n) [] e rest is d = ap (λ xs. slice_index_or xs zero d) is
left_is (suc n) (x ∷ es) e rest is d = left_is n es e rest is d

-- without the next one the rest is left
pub rest_is : (n : ℕ) (es : List EventValue) (e : EventValue) (rest : List EventValue) → drop n es ≡ e ∷ rest → drop (n + 1) es ≡ rest
rest_is n es e rest is = ap (λ k. drop k es) (add-one n) ∙ go n es is
  where
    go : (n : ℕ) (es : List EventValue) → drop n es ≡ e ∷ rest → drop (suc n) es ≡ rest
    go zero [] is = ap (drop 1) is
    go zero (x ∷ es) is = ap (drop 1) is
    go (suc n) [] is = ap (drop 1) is
    go (suc n) (x ∷ es) is = go n es is

-- where some event is left there is a next one
pub more_left : (n : ℕ) (es : List EventValue) → drop n es ≢ [] → n < length es
more_left zero [] some = absurd (some refl)
more_left zero (x ∷ es) some = (let z : zero < suc (length es) = omega arith in z)
more_left (suc n) [] some = absurd (some refl)
more_left (suc n) (x ∷ es) some = (let z = more_left n es some in let q : suc n < suc (length es) = omega (arith, z) in q)
