-- How long a rank that waits does without looks.
use Rattle.std.specs.Prelude.{ℕ, nat_le, ◌==◌, ◌&&◌, ◌*◌, ◌/◌, min, max, Bool, not, if◌then◌else◌}

-- how often in a row a rank looks anew before it gives its core away
abbrev pub most_looks : ℕ
most_looks = 64

-- how many waits go by without looks at most
abbrev pub most_rests : ℕ
most_rests = 128

-- a rank gives its core away if it rests from looks, or has looked so often in vain
abbrev pub gives_away : ℕ → ℕ → Bool
gives_away rests vain = not (rests == 0 && nat_le vain most_looks)

-- how many waits are still to go by without looks, if nothing was found so often: a span, if the
-- last look was in vain
abbrev pub rests_after : ℕ → ℕ → ℕ → ℕ
rests_after rests span vain = if rests == 0 then (if nat_le vain most_looks then 0 else span) else rests

-- the next span is twice as long, up to the most, if the last look was in vain
abbrev pub span_after : ℕ → ℕ → ℕ → ℕ
span_after rests span vain = if rests == 0 then (if nat_le vain most_looks then span else min span (most_rests / 2) * 2) else span

-- the next span is half as long, if something was found by looks; this wait counts in it
abbrev pub span_found : ℕ → ℕ → ℕ → ℕ
span_found rests span vain = if vain == 0 then span else (if rests == 0 then max 1 (span / 2) else span)
