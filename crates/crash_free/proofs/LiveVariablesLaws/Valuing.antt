-- What statements evaluate, they evaluate to the same where states agree on what they read.
use Rattle.std.proofs.Common.{◌≡◌, pos, [], ◌∷◌, Ok, refl, ap}
use Rattle.std.proofs.lemmas.Bool.{eq-eqb}
use Rattle.rank_text.specs.declared.grammar.token.Reading.{Reading}
use Rattle.rank_text.specs.declared.grammar.token.Reading.TheVariants.{Rank, Size, Source, Tag, Count}
use Rattle.rank_language.specs.Placed.{Placed, number, variable, item, reading, negation, operation, Pattern, any, value as chosen, Payload}
use Rattle.rank_language.specs.Placed.{one, all_of, Buffer, into_variable, into_array, Collective, barrier, broadcast, reduce}
use Rattle.rank_machine.specs.Values.{Store, value, read}
use Rattle.rank_machine.specs.Collectives.{called, contents}
use Rattle.rank_machine.specs.Wants.{pattern_value, items_of}
use Rattle.crash_free.specs.LiveVariables.Names.{place, status, mentions, pattern_reads, payload_reads, is_buffer, collective_reads}
use Rattle.crash_free.specs.LiveVariables.Agrees.{SameWhere}
use Rattle.crash_free.proofs.LiveVariablesLaws.Where.{left_of, right_of}

-- a word reads the same
read_same : (r : Reading) (s s' : Store) → SameWhere (λ x. mentions x (reading r)) s s' → read s r ≡ read s' r
read_same Rank s s' h = ap pos h.rank
read_same Size s s' h = ap pos h.size
read_same Source s s' h = ap pos (h.same status refl).0
read_same Tag s s' h = ap pos (h.same status refl).1
read_same Count s s' h = ap pos (h.same status refl).2

-- an expression has the same value
pub value_same : (e : Placed) (s s' : Store) → SameWhere (λ x. mentions x e) s s' → value s e ≡ value s' e
value_same (number n) s s' h = refl
value_same (variable p) s s' h = ap Ok (h.same (place p) (eq-eqb p p refl))
value_same (item p e) s s' h = rw (value_same e s s' (let k : SameWhere (λ x. mentions x e) s s' = h in k), h.arrays) refl
value_same (reading r) s s' h = ap Ok (read_same r s s' h)
value_same (negation e) s s' h = rw (value_same e s s' (let k : SameWhere (λ x. mentions x e) s s' = h in k)) refl
value_same (operation o a b) s s' h =
    rw (
      value_same a s s' (left_of (λ x. mentions x a) (λ x. mentions x b) s s' h),
      value_same b s s' (right_of (λ x. mentions x a) (λ x. mentions x b) s s' h),
    ) refl

-- what is asked for has the same value
pub pattern_same : (c : Pattern) (s s' : Store) → SameWhere (λ x. pattern_reads x c) s s' → pattern_value s c ≡ pattern_value s' c
pattern_same any s s' h = refl
pattern_same (chosen e) s s' h = rw (value_same e s s' h) refl

-- a send gives the same items
pub items_same : (p : Payload) (s s' : Store) → SameWhere (λ x. payload_reads x p) s s' → items_of s p ≡ items_of s' p
items_same (one e) s s' h = rw (value_same e s s' h) refl
items_same (all_of p) s s' h = rw h.arrays refl

-- a buffer has the same items
contents_same : (b : Buffer) (s s' : Store) → SameWhere (λ x. is_buffer x b) s s' → contents s b ≡ contents s' b
contents_same (into_variable p) s s' h = ap (λ z. z ∷ []) (h.same (place p) (eq-eqb p p refl))
contents_same (into_array p) s s' h = rw h.arrays refl

-- a collective is called the same way
pub called_same : (c : Collective) (s s' : Store) → SameWhere (λ x. collective_reads x c) s s' → called s c ≡ called s' c
called_same barrier s s' h = rw h.finished refl
called_same (broadcast root b) s s' h =
    rw (
      value_same root s s' (left_of (λ x. mentions x root) (λ x. is_buffer x b) s s' h),
      h.size,
      h.finished,
      h.rank,
      contents_same b s s' (right_of (λ x. mentions x root) (λ x. is_buffer x b) s s' h),
    ) refl
called_same (reduce f root e p) s s' h =
    rw (
      value_same root s s' (left_of (λ x. mentions x root) (λ x. mentions x e) s s' h),
      value_same e s s' (right_of (λ x. mentions x root) (λ x. mentions x e) s s' h),
      h.size,
      h.finished,
    ) refl
