-- How many kills of a script were used, as each rank uses its lines from the first on.
use Rattle.std.specs.Prelude.{ℕ, ◌+◌, ◌-◌, ◌^◌, min, List, [], ◌∷◌, length, take}
use Rattle.rank_text.specs.Scripts.Script.{orders_of}
use Rattle.rank_text.specs.declared.script.line.Order.{Order}
use Rattle.rank_text.specs.declared.script.line.Order.TheVariants.{Kill, Image}
use Rattle.rank_text.specs.declared.script.line.ScriptLine.{ScriptLine}

-- how many kills an order is
abbrev pub kills_of : Order → ℕ
kills_of Kill = 1
kills_of Image = 0

-- how many kills are among these lines
abbrev pub kills_in : List ScriptLine → ℕ
kills_in [] = 0
kills_in (line ∷ lines) = kills_of line.order + kills_in lines

-- the lines that were used, if so many are left, the last ones
abbrev pub used_of : List ScriptLine → ℕ → List ScriptLine
used_of lines left = take (length lines - left) lines

-- how many kills of a script the ranks from this one on used, if each left so many lines
abbrev pub kills_used_from : ℕ → List ScriptLine → List ℕ → ℕ
kills_used_from rank script [] = 0
kills_used_from rank script (left ∷ more) = kills_in (used_of (orders_of rank script) left) + kills_used_from (rank + 1) script more

-- how many kills of a script all ranks used, up to the greatest `u64`
abbrev pub kills_used : List ScriptLine → List ℕ → ℕ
kills_used script left = min (kills_used_from 0 script left) (2 ^ 64 - 1)
