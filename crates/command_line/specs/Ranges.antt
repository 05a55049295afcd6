-- Which number an option is given, by its range (docs/FORMATS.md, "Command").
use Rattle.std.specs.Prelude.{◌≤◌, ℕ, List, Option, Some, None, IsSomeAnd}
use Rattle.command_line.specs.Words.{IsSpelledOr, Spells}
use Rattle.command_line.specs.declared.range.Range.{Range}

-- the number that the text spells; without a text it is the default, if there is one
abbrev pub IsSpelledElse : Option ℕ → Option (List ℕ) → ℕ → Type 0
IsSpelledElse None text number = IsSomeAnd text (λ t. Spells t number)
IsSpelledElse (Some default) text number = IsSpelledOr default text number

-- this number, in the range
pub record IsNumberIn (range : Range) (text : Option (List ℕ)) (number : ℕ) : Type 0 where
  pub spelled : IsSpelledElse range.default text number
  pub least : range.least ≤ number
  pub most : number ≤ range.most
