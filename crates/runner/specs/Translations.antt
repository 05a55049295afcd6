-- What is answered to a program that is wanted as C (docs/FORMATS.md, "Standard output of `c`").
use Rattle.std.specs.Prelude.{◌≡◌, ℕ, Bool, List}
use Rattle.c_program.specs.Whole.{IsCText}

-- What `c` answers: the C text of the program whose text the file holds, for sends of this kind, and
-- status 0.
pub record IsCAnswer (holds : List ℕ → Type 0) (synchronous : Bool) (out : List ℕ) (status : ℕ) : Type 0 where
  pub text : List ℕ
  pub held : holds text
  pub translated : IsCText synchronous text out
  pub done : status ≡ 0
