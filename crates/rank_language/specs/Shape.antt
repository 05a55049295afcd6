-- The tree that lines spell (docs/LANGUAGE.md: `if` .. `else` .. `end`, `while` .. `end`).
use Rattle.std.specs.Prelude.{List, [], ◌∷◌, Bool, true, false}
use Rattle.rank_language.specs.Placed.{Placed, Step, does, tests, repeats, otherwise, closes}
use Rattle.rank_language.specs.Block.{Block, done, plain, if_only, if_else, loop, Line, simple_line}
use Rattle.rank_language.specs.Block.{if_line, else_line, end_line, while_line, back_line}

-- a line without where it leads
abbrev pub step_of : Line → Step
step_of (simple_line s) = does s
step_of (if_line e q) = tests e
step_of (else_line q) = otherwise
step_of end_line = closes
step_of (while_line e q) = repeats e
step_of (back_line q) = closes

-- A list of statements that lines begin, and whether an `else` ends it.
abbrev pub Part : Type 0
Part = Bool × Block

-- the innermost list with more in front
abbrev pub fronted : (Block → Block) → List Part → List Part
fronted f [] = []
fronted f (p ∷ ps) = (p.0, f p.1) ∷ ps

-- the lists that an `if` begins: its parts go into it
abbrev pub branched : Placed → List Part → List Part
branched e [] = []
branched e ((false, y) ∷ ps) = fronted (if_only e y) ps
branched e ((true, y) ∷ []) = []
branched e ((true, y) ∷ ((b, o) ∷ ps)) = fronted (if_else e y o) ps

-- the lists that a `while` begins: its body goes into it
abbrev pub looped : Placed → List Part → List Part
looped e [] = []
looped e ((false, y) ∷ ps) = fronted (loop e y) ps
looped e ((true, y) ∷ ps) = []

-- the lists of statements that lines begin, the innermost first
abbrev pub parts : List Step → List Part
parts [] = (false, done) ∷ []
parts (does s ∷ ss) = fronted (plain s) (parts ss)
parts (tests e ∷ ss) = branched e (parts ss)
parts (repeats e ∷ ss) = looped e (parts ss)
parts (otherwise ∷ ss) = (true, done) ∷ parts ss
parts (closes ∷ ss) = (false, done) ∷ parts ss

-- the innermost list
abbrev pub innermost : List Part → Block
innermost [] = done
innermost (p ∷ ps) = p.1

-- the block of a whole program's lines, whatever they say of where they lead
abbrev pub block_of_steps : List Step → Block
block_of_steps ss = innermost (parts ss)
