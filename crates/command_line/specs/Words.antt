-- What the words of a command line are: options, what these are given, and files (docs/FORMATS.md, "Command").
use Rattle.std.specs.Prelude.{◌≡◌, ◌==◌, ◌&&◌, ◌||◌, ℕ, Bool, true, false, not, List, [], ◌∷◌, map, codes, if◌then◌else◌}
use Rattle.std.specs.Prelude.{Option, Some, None, is_some, IsSomeAnd, pos, option_map, option_and_then, String, string_bytes}
use Rattle.std.specs.Borrow.{Bor}
use Rattle.std.specs.NonZero.{non_zero_u32_get}
use Rattle.std.specs.declared.num.NonZeroU32.{NonZeroU32}
use Rattle.std.specs.List.{after_first, before_first, list_any}
use Rattle.std.specs.Str.{bytes_eq}
use Rattle.std.specs.Str.Parse.{signed_digits_value, without_leading_sign, IsNumeral}

-- the bytes of each word
abbrev pub texts : {Z : Type 0} → List (String Z) → List (List ℕ)
texts = map string_bytes

-- the words of which a first one was cut off
abbrev pub cut_of : {Z : Type 0} → Option (Bor (List ℕ) × Bor (List (String Z))) → List (List ℕ)
cut_of None = []
cut_of (Some cut) = cut.0.now ∷ texts cut.1.now

-- behind this word each word is a file
abbrev pub is_end : List ℕ → Bool
is_end word = bytes_eq word (codes "--")

-- what stands behind a hyphen (45) in front
abbrev pub behind_hyphen : List ℕ → Option (List ℕ)
behind_hyphen [] = None
behind_hyphen (b ∷ bs) = if b == 45 then Some bs else None

-- what stands before the first equals sign (61), and what stands behind it if there is one
abbrev pub name_and_value : List ℕ → List ℕ × Option (List ℕ)
name_and_value text = (
  before_first (λ b. b == 61) text,
  if list_any (λ b. b == 61) text then Some (after_first (λ b. b == 61) text) else None,
)

-- the name of the option that a word is, `--NAME` or `--NAME=VALUE`, and its value
abbrev pub option_in : List ℕ → Option (List ℕ × Option (List ℕ))
option_in word = option_map name_and_value (option_and_then behind_hyphen (behind_hyphen word))

-- the word is the option of this name
abbrev pub is_option : List ℕ → List ℕ → Bool
is_option name word = elim (option_in word) [ None ↦ false | Some option ↦ bytes_eq option.0 name ]

-- the first word, if there is one
abbrev pub first_of : List (List ℕ) → Option (List ℕ)
first_of [] = None
first_of (word ∷ rest) = Some word

-- the value that stands in an option's own word
abbrev pub own_value : List ℕ → Option (List ℕ)
own_value word = option_and_then (λ option. option.1) (option_in word)

-- what an option is given: the value in its own word, or else the next word
abbrev pub given_by : List ℕ → List (List ℕ) → Option (List ℕ)
given_by word rest = elim (own_value word) [ None ↦ first_of rest | Some value ↦ Some value ]

-- what the option of this name is given
abbrev pub value_of : List ℕ → List (List ℕ) → Option (List ℕ)
value_of name [] = None
value_of name (word ∷ rest) =
    if is_end word then None else (if is_option name word then given_by word rest else value_of name rest)

-- the option of this name is there
abbrev pub is_given : List ℕ → List (List ℕ) → Bool
is_given name [] = false
is_given name (word ∷ rest) = not (is_end word) && (is_option name word || is_given name rest)

-- The option stands alone: no value belongs to it. `--events` stands alone for `trace`, and is given a
-- file or a number for other commands.
abbrev pub is_flag : List ℕ → List ℕ → Bool
is_flag command name = bytes_eq name (codes "costs")
    || bytes_eq name (codes "json")
    || bytes_eq name (codes "picture")
    || bytes_eq name (codes "summary")
    || bytes_eq name (codes "synchronous")
    || bytes_eq name (codes "to-the-end")
    || bytes_eq name (codes "trace")
    || (bytes_eq name (codes "events") && bytes_eq command (codes "trace"))

-- the option's value is the next word
abbrev pub takes_next : List ℕ → List ℕ × Option (List ℕ) → Bool
takes_next command option = not (is_some option.1 || is_flag command option.0)

-- the files among the words, where the first word may be the value of an option before it
abbrev pub files_behind : List ℕ → Bool → List (List ℕ) → List (List ℕ)
files_behind command is_value [] = []
files_behind command true (word ∷ rest) = files_behind command false rest
files_behind command false (word ∷ rest) = if is_end word then rest
    else (elim (option_in word) [
      | None ↦ word ∷ files_behind command false rest
      | Some option ↦ files_behind command (takes_next command option) rest
    ])

-- the files: each word that is no option and isn't given to one, and each word behind `--`
abbrev pub files_of : List ℕ → List (List ℕ) → List (List ℕ)
files_of command arguments = files_behind command false arguments

-- the text spells the number: decimal digits behind a sign or without one, where -0 is 0
abbrev pub Spells : List ℕ → ℕ → Type 0
Spells text number = IsNumeral 10 (without_leading_sign text) × (signed_digits_value 10 text ≡ pos number)

-- the number that the text spells; without a text it is this one
abbrev pub IsSpelledOr : ℕ → Option (List ℕ) → ℕ → Type 0
IsSpelledOr default None number = number ≡ default
IsSpelledOr default (Some text) number = Spells text number

-- the number above 0 that the text spells; without a text there is none
abbrev pub IsSpelledIf : Option (List ℕ) → Option NonZeroU32 → Type 0
IsSpelledIf None count = count ≡ None
IsSpelledIf (Some text) count = IsSomeAnd count (λ number. Spells text (non_zero_u32_get number))
