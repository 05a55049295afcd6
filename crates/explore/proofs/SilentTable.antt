-- A table is right row by row.
use Rattle.std.proofs.Common.{◌≡◌, zero, suc, List, [], ◌∷◌, ◌++◌, subst}
use Rattle.rank_language.specs.Program.{ProgramValue}
use Rattle.explore.specs.Silences.{IsRowOf, IsTableOf}
use Rattle.explore.specs.declared.silences.silence.Silence.{Silence}

-- one without rows
pub no_rows : (program : ProgramValue) → IsTableOf program []
no_rows program i row is = absurd cc

-- one with a row more
pub row_added : (program : ProgramValue) (rows : List Silence) (row : Silence) → IsTableOf program rows → IsRowOf program row
    → IsTableOf program (rows ++ row ∷ [])
row_added program [] row before right zero x is = let same : row ≡ x = cc in subst (λ z. IsRowOf program z) same right
row_added program [] row before right (suc i) x is = absurd cc
row_added program (y ∷ ys) row before right zero x is = before zero x is
row_added program (y ∷ ys) row before right (suc i) x is = row_added program ys row (λ j. before (suc j)) right i x is
