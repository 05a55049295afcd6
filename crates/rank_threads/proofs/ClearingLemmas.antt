-- What holds of a rank whose misses are left at its gate.
use Rattle.std.proofs.Common.{◌≡◌, Bool, true, false, refl}
use Rattle.rank_threads.specs.Phases.{gate_in, misses_only_in}
use Rattle.rank_threads.specs.Clearing.{has_stepped, leaves_misses}
use Rattle.rank_threads.specs.Phases.{Phase}
use Rattle.rank_threads.specs.declared.turn.stepping.Stepped.{Stepped}
use Rattle.rank_threads.specs.declared.turn.stepping.Stepped.TheVariants as stepped

-- it made a step
pub left_stepped : (s : Stepped) (is_imaged is_spent : Bool) (p : Phase) → leaves_misses s is_imaged is_spent p ≡ true → has_stepped s ≡ true
left_stepped stepped.Moved is_imaged is_spent p left = refl
left_stepped stepped.Acted is_imaged is_spent p left = refl
left_stepped stepped.Blocked is_imaged is_spent p left = left
left_stepped stepped.Held is_imaged is_spent p left = left
left_stepped stepped.Ended is_imaged is_spent p left = left

-- it is to take no image
pub left_unimaged : (s : Stepped) (is_imaged is_spent : Bool) (p : Phase) → leaves_misses s is_imaged is_spent p ≡ true → is_imaged ≡ false
left_unimaged s false is_spent p left = refl
left_unimaged stepped.Moved true is_spent p left = absurd cc
left_unimaged stepped.Acted true is_spent p left = absurd cc
left_unimaged stepped.Blocked true is_spent p left = absurd cc
left_unimaged stepped.Held true is_spent p left = absurd cc
left_unimaged stepped.Ended true is_spent p left = absurd cc

-- no limit stopped it
pub left_unspent : (s : Stepped) (is_imaged is_spent : Bool) (p : Phase) → leaves_misses s is_imaged is_spent p ≡ true → is_spent ≡ false
left_unspent s is_imaged false p left = refl
left_unspent stepped.Moved true true p left = absurd cc
left_unspent stepped.Moved false true p left = absurd cc
left_unspent stepped.Acted true true p left = absurd cc
left_unspent stepped.Acted false true p left = absurd cc
left_unspent stepped.Blocked is_imaged true p left = absurd cc
left_unspent stepped.Held is_imaged true p left = absurd cc
left_unspent stepped.Ended is_imaged true p left = absurd cc

-- where its gate stays so, just misses wait there
pub left_only : (s : Stepped) (is_imaged is_spent : Bool) (p q : Phase) → leaves_misses s is_imaged is_spent p ≡ true → gate_in q ≡ gate_in p
    → misses_only_in q ≡ true
left_only stepped.Moved false false p q left same = rw (same) left
left_only stepped.Acted false false p q left same = rw (same) left
left_only stepped.Moved false true p q left same = absurd cc
left_only stepped.Acted false true p q left same = absurd cc
left_only stepped.Moved true is_spent p q left same = absurd cc
left_only stepped.Acted true is_spent p q left same = absurd cc
left_only stepped.Blocked is_imaged is_spent p q left same = absurd cc
left_only stepped.Held is_imaged is_spent p q left same = absurd cc
left_only stepped.Ended is_imaged is_spent p q left same = absurd cc
