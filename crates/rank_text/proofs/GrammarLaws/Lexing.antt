-- What is pending, and when it stops growing.
--
-- Where a byte doesn't go on with what is pending, or the line ends, the tokens are
-- the one that is pending and those of the rest (`stops`). A word and a number grow
-- to the end of their runs (`word_run`, `digits_run`), however much of them is kept.
use Rattle.std.proofs.Common.{◌≡◌, ℕ, zero, suc, ◌+◌, ◌-◌, ◌*◌, ◌^◌, min, Bool, true, false, List, [], ◌∷◌, ◌++◌, take, Option, Some, None}
use Rattle.std.proofs.Common.{refl, ap, ◌∙◌, sym, append_assoc, append-nil, arith}
use Rattle.std.specs.Prelude.{nat_eq, if◌then◌else◌}
use Rattle.std.proofs.lemmas.Bool.Decides.{nat_tests}
use Rattle.rank_text.specs.declared.grammar.token.Token.{Token}
use Rattle.rank_text.specs.Grammar.Tokens.{is_letter, is_digit, is_word_byte, with_digit, Pending, nothing, word, digits, sign, whole}
use Rattle.rank_text.specs.Grammar.Tokens.{flushed, begun, grown, and_after, tokens_from}
use Rattle.rank_text.specs.Grammar.Lexes.{AllAre, StopsAt, value_behind}

-- no tokens before some
pub none_before : (o : Option (List Token)) → and_after (Some []) o ≡ o
none_before None = refl
none_before (Some ts) = refl

-- no tokens after some
pub none_after : (o : Option (List Token)) → and_after o (Some []) ≡ o
none_after None = refl
none_after (Some ts) = ap Some (append-nil ts)

-- nothing after a refusal
pub refused_after : (o : Option (List Token)) → and_after o None ≡ None
refused_after None = refl
refused_after (Some ts) = refl

-- what comes of a byte, where the byte goes on with what is pending, or begins something
abbrev pub after_byte : Pending → Option Pending → Option Pending → List ℕ → Option (List Token)
after_byte p g n bs =
    elim g [
      | Some q ↦ tokens_from q bs
      | None ↦ elim n [ None ↦ None | Some q ↦ and_after (flushed p) (tokens_from q bs) ]
    ]

-- a byte goes on with what is pending
pub goes_on : (p q : Pending) (b : ℕ) (bs : List ℕ) → grown p b ≡ Some q → tokens_from p (b ∷ bs) ≡ tokens_from q bs
goes_on p q b bs e = ap (λ g. after_byte p g (begun b) bs) e

-- a byte begins something where nothing is pending
pub begins : (q : Pending) (b : ℕ) (bs : List ℕ) → begun b ≡ Some q → tokens_from nothing (b ∷ bs) ≡ tokens_from q bs
begins q b bs e = ap (λ n. after_byte nothing None n bs) e ∙ none_before (tokens_from q bs)

-- the line ends, or goes on with a byte that doesn't go on with what is pending
abbrev pub Stops : Pending → List ℕ → Type 0
Stops p [] = Unit {0}
Stops p (b ∷ bs) = grown p b ≡ None

-- a byte that what is pending doesn't go on with is read as from the beginning, behind the pending token
begun_after : (p : Pending) (n : Option Pending) (bs : List ℕ) → after_byte p None n bs ≡ and_after (flushed p) (after_byte nothing None n bs)
begun_after p None bs = sym (refused_after (flushed p))
begun_after p (Some q) bs = ap (λ o. and_after (flushed p) o) (sym (none_before (tokens_from q bs)))

-- what is pending stops, and the rest is read as from the beginning
pub stops : (p : Pending) (line : List ℕ) → Stops p line → tokens_from p line ≡ and_after (flushed p) (tokens_from nothing line)
stops p [] h = sym (none_after (flushed p))
stops p (b ∷ bs) h = ap (λ g. after_byte p g (begun b) bs) h ∙ begun_after p (begun b) bs

-- a test that keeps what it is given, where it holds
kept_where : {A : Type 0} (z : Bool) (a : A) → z ≡ true → (if z then Some a else None) ≡ Some a
kept_where z a e = ap (λ y. if y then Some a else None) e

-- a test that keeps nothing, where it fails
left_where : {A : Type 0} (z : Bool) (a : A) → z ≡ false → (if z then Some a else None) ≡ None
left_where z a e = ap (λ y. if y then Some a else None) e

-- a test that has kept nothing has failed
pub failed_where : {A : Type 0} (z : Bool) (a : A) → (if z then Some a else None) ≡ None → z ≡ false
failed_where true a e = cc
failed_where false a e = refl

-- a word that is kept up to some bytes, and one byte more
pub take_push : (n : ℕ) (xs : List ℕ) (y : ℕ) → take n (take n xs ++ y ∷ []) ≡ take n (xs ++ y ∷ [])
take_push zero xs y = refl
take_push (suc n) [] y = refl
take_push (suc n) (x ∷ xs) y = ap (λ z. x ∷ z) (take_push n xs y)

-- a word goes on to the end of its run
pub word_run : (w front line : List ℕ) → AllAre is_word_byte w → tokens_from (word (take 17 front)) (w ++ line) ≡ tokens_from (word (take 17 (front ++ w))) line
word_run [] front line h = ap (λ z. tokens_from (word (take 17 z)) line) (sym (append-nil front))
word_run (b ∷ w) front line h =
    goes_on (word (take 17 front)) (word (take 17 (take 17 front ++ b ∷ []))) b (w ++ line)
    (kept_where (is_word_byte b) (word (take 17 (take 17 front ++ b ∷ []))) h.0)
    ∙ ap (λ z. tokens_from (word z) (w ++ line)) (take_push 17 front b)
    ∙ word_run w (front ++ b ∷ []) line h.1
    ∙ ap (λ z. tokens_from (word (take 17 z)) line) (append_assoc front (b ∷ []) w)

-- a number that is kept up to a limit, and one digit more
pub min_digit : (n d limit : ℕ) → min (10 * min n limit + d) limit ≡ min (10 * n + d) limit
min_digit n d limit = omega arith

-- a number goes on to the end of its digits
pub digits_run : (ds : List ℕ) (n : ℕ) (line : List ℕ) → AllAre is_digit ds
    → tokens_from (digits (min n (2 ^ 63))) (ds ++ line) ≡ tokens_from (digits (min (value_behind n ds) (2 ^ 63))) line
digits_run [] n line h = refl
digits_run (d ∷ ds) n line h =
    goes_on (digits (min n (2 ^ 63))) (digits (with_digit (min n (2 ^ 63)) d)) d (ds ++ line)
    (kept_where (is_digit d) (digits (with_digit (min n (2 ^ 63)) d)) h.0)
    ∙ ap (λ z. tokens_from (digits z) (ds ++ line)) (min_digit n (d - 48) (2 ^ 63))
    ∙ digits_run ds (10 * n + (d - 48)) line h.1

-- a byte that is in no word ends the word
pub word_stops : (w line : List ℕ) → StopsAt is_word_byte line → Stops (word w) line
word_stops w [] h = tt
word_stops w (b ∷ bs) h = left_where (is_word_byte b) (word (take 17 (w ++ b ∷ []))) h

-- a byte that is no digit ends the number
pub digits_stop : (n : ℕ) (line : List ℕ) → StopsAt is_digit line → Stops (digits n) line
digits_stop n [] h = tt
digits_stop n (b ∷ bs) h = left_where (is_digit b) (digits (with_digit n b)) h

-- a whole token doesn't grow
pub whole_stops : (token : Token) (line : List ℕ) → Stops (whole token) line
whole_stops token [] = tt
whole_stops token (b ∷ bs) = refl

-- a sign that `=` doesn't follow doesn't grow
pub sign_stops : (c : ℕ) (line : List ℕ) → StopsAt (λ b. nat_eq b 61) line → Stops (sign c) line
sign_stops c [] h = tt
sign_stops c (b ∷ bs) h = left_where (nat_eq b 61) _ h

-- a letter begins a word
pub letter_begins : (b : ℕ) → is_letter b ≡ true → begun b ≡ Some (word (b ∷ []))
letter_begins b h = grind (arith, nat_tests)

-- a digit begins a number
pub digit_begins : (b : ℕ) → is_digit b ≡ true → begun b ≡ Some (digits (b - 48))
digit_begins b h = grind (arith, nat_tests)
