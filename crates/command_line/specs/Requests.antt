-- Which words ask for help or for the version (docs/FORMATS.md, "Command").
use Rattle.std.specs.Prelude.{◌≡◌, ◌==◌, ◌||◌, ℕ, Bool, true, false, List, [], ◌∷◌, Some, None, codes}
use Rattle.std.specs.Str.{bytes_eq}
use Rattle.command_line.specs.Words.{behind_hyphen}
use Rattle.command_line.specs.declared.no_job.NoJob.{NoJob}
use Rattle.command_line.specs.declared.no_job.NoJob.TheVariants as no_job

-- the first letter is `h` (104) or `V` (86)
abbrev pub begins_so : List ℕ → Bool
begins_so [] = false
begins_so (letter ∷ letters) = letter == 104 || letter == 86

-- the word is `-h` or `-V`, perhaps with more letters
abbrev pub is_short : List ℕ → Bool
is_short word = elim (behind_hyphen word) [ None ↦ false | Some letters ↦ begins_so letters ]

-- the word asks for help or for the version
abbrev pub is_request : List ℕ → Bool
is_request word = bytes_eq word (codes "help")
    || bytes_eq word (codes "--help")
    || bytes_eq word (codes "--version")
    || is_short word

-- one of these words does
abbrev pub has_request : List (List ℕ) → Bool
has_request [] = false
has_request (word ∷ words) = is_request word || has_request words

-- some word behind the program's own name asks for help or for the version
abbrev pub asks_for_help : List (List ℕ) → Bool
asks_for_help [] = false
asks_for_help (program ∷ words) = has_request words

-- help is given only if the words ask for it
abbrev pub IsAsked : List (List ℕ) → NoJob → Type 0
IsAsked words (no_job.Help text) = asks_for_help words ≡ true
IsAsked words (no_job.Mistake text) = Unit {0}
IsAsked words no_job.Memory = Unit {0}
