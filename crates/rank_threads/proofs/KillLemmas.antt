-- Which lines of a script are used, and how many kills are among them.
use Rattle.std.proofs.Common.{◌≡◌, ℕ, ◌+◌, ◌-◌, ◌≤◌, min, List, [], ◌∷◌, ◌++◌, length, take, refl, sym, ap, ◌∙◌, arith}
use Rattle.std.proofs.lemmas.List.{length-append, append_assoc}
use Rattle.std.proofs.Math.Seq.{take-append_seam}
use Rattle.rank_text.specs.declared.script.line.ScriptLine.{ScriptLine}
use Rattle.rank_threads.specs.Kills.{kills_of, kills_in, used_of}
use Rattle.rank_threads.specs.Used.{UsesKill, UsesImages, unused, used}

-- lines that were used are the first ones
pub used_first : (before left : List ScriptLine) → used_of (before ++ left) (length left) ≡ before
used_first before left =
    let many : length (before ++ left) - length left ≡ length before = omega (arith, length-append before left) in
    ap (λ n. take n (before ++ left)) many ∙ take-append_seam before left

-- the kills among these lines and those
pub kills_append : (before left : List ScriptLine) → kills_in (before ++ left) ≡ kills_in before + kills_in left
kills_append [] left = omega arith
kills_append (line ∷ lines) left = omega (arith, kills_append lines left)

-- These lines were used, and so many kills are among them.
pub record Used (old new : List ScriptLine) (many : ℕ) : Type 0 where
  pub lines : List ScriptLine
  pub first : old ≡ lines ++ new
  pub kills : kills_in lines ≡ many

-- one line more was used
uses_more : (first old new : List ScriptLine) (many : ℕ) (line : ScriptLine) → Used first old many → old ≡ line ∷ new
    → Used first new (many + kills_of line.order)
uses_more first old new many line before next = record {
  lines = before.lines ++ line ∷ [];
  first = before.first ∙ ap (λ l. before.lines ++ l) next ∙ sym (append_assoc before.lines (line ∷ []) new);
  kills = kills_append before.lines (line ∷ []) ∙ omega (arith, before.kills);
}

-- lines that ask for images have no kill
pub used_images : (first new : List ScriptLine) → UsesImages first new → Used first new 0
used_images first new (unused) = record { lines = []; first = refl; kills = refl }
used_images first new (used {old} so one) =
    let all = uses_more first old new 0 one.line (used_images first old so) one.next in
    record { lines = all.lines; first = all.first; kills = all.kills ∙ omega (arith, ap kills_of one.images) }

-- with the line of a kill behind them they have one
pub used_kill : (first mid new : List ScriptLine) (clock : ℕ) → UsesImages first mid → UsesKill mid new clock → Used first new 1
used_kill first mid new clock images kill =
    let all = uses_more first mid new 0 kill.line (used_images first mid images) kill.next in
    record { lines = all.lines; first = all.first; kills = all.kills ∙ omega (arith, ap kills_of kill.kills) }

-- a count that stops at a number, counted on
pub stops_later : (count one more most : ℕ) → min (min (count + one) most + more) most ≡ min (count + (one + more)) most
stops_later count one more most = omega arith

-- with a number that stops there too
pub stops_there : (count one more most : ℕ) → min (min (count + min (0 + one) most) most + more) most ≡ min (count + (one + more)) most
stops_there count one more most = omega arith

-- nothing more is counted
pub stops_not : (count most : ℕ) → count ≤ most → count ≡ min (count + 0) most
stops_not count most low = omega (arith, low)

-- a count that stops is no higher
pub stops_low : (count most : ℕ) → min count most ≤ most
stops_low count most = omega arith
