-- The tables of names of the code, as the scope of a whole text.
use Rattle.std.specs.Prelude.{◌≡◌, ℕ, [], Option, Some, None}
use Rattle.rank_text.specs.Checker.Scope.{Scope}
use Rattle.rank_language.specs.declared.resolve.Tables.{Tables}
use Rattle.rank_language.specs.declared.resolve.Declared.{Declared}
use Rattle.rank_language.specs.declared.resolve.Declared.TheVariants.{Variable, Array}
use Rattle.rank_text.specs.Checker.SeenLines.{arrays_seen}

-- what is declared, where no block is open
abbrev pub tables_seen : Tables → Scope
tables_seen t = record { variables = t.variables.now; arrays = arrays_seen t.arrays.now; blocks = [] }

-- a name that is declared has this place: a variable's, or an array's where it is no variable
abbrev pub IsPlaceOf : Option ℕ → Option ℕ → Declared → Type 0
IsPlaceOf v a (Variable p) = v ≡ Some p
IsPlaceOf v a (Array p) = (v ≡ None) × (a ≡ Some p)
