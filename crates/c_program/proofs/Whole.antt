-- The whole C text, put together.
use Rattle.std.proofs.Common.{◌≡◌, ℕ, Bool, List, ap, ◌∙◌}
use Rattle.rank_text.specs.Checker.Faults.{IsText}
use Rattle.rank_text.specs.Grammar.Forms.{Form}
use Rattle.rank_language.specs.StandOn.{StandOn}
use Rattle.c_program.specs.Whole.{IsCText, c_text}

-- the text of a program's statements, with the numbers of their lines, is that program's C text
pub is_c_text : (synchronous : Bool) (text c : List ℕ) (forms : List Form) (numbers shown : List ℕ) → shown ≡ numbers
    → IsText text forms → StandOn text forms numbers → c ≡ c_text synchronous shown forms → IsCText synchronous text c
is_c_text synchronous text c forms numbers shown e reads stand whole =
    record { forms = forms; numbers = numbers; reads = reads; stand = stand; whole = whole ∙ ap (λ ns. c_text synchronous ns forms) e }
