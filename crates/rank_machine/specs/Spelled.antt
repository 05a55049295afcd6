-- What the line that a compact form spells evaluates.
use Rattle.std.specs.Prelude.{pos, Option, Some, None}
use Rattle.rank_language.specs.Placed.{Placed, number, declare, declare_array, assign, assign_item, send, receive, probe, try_probe, print, collect}
use Rattle.rank_language.specs.Block.{Line, simple_line, if_line, else_line, end_line, while_line, back_line}

-- what a `let` gives its variable; 0 if the line is none
abbrev pub let_expression : Option Line → Placed
let_expression None = number (pos 0)
let_expression (Some (simple_line (declare p))) = number (pos 0)
let_expression (Some (simple_line (declare_array p))) = number (pos 0)
let_expression (Some (simple_line (assign p e))) = e
let_expression (Some (simple_line (assign_item p i e))) = number (pos 0)
let_expression (Some (simple_line (send d t p))) = number (pos 0)
let_expression (Some (simple_line (receive c t b))) = number (pos 0)
let_expression (Some (simple_line (probe c t))) = number (pos 0)
let_expression (Some (simple_line (try_probe c t x))) = number (pos 0)
let_expression (Some (simple_line (print e))) = number (pos 0)
let_expression (Some (simple_line (collect c))) = number (pos 0)
let_expression (Some (if_line e q)) = number (pos 0)
let_expression (Some (else_line q)) = number (pos 0)
let_expression (Some end_line) = number (pos 0)
let_expression (Some (while_line e q)) = number (pos 0)
let_expression (Some (back_line q)) = number (pos 0)

-- what an `if` tests; 0 if the line is none
abbrev pub test_expression : Option Line → Placed
test_expression None = number (pos 0)
test_expression (Some (simple_line x)) = number (pos 0)
test_expression (Some (if_line e q)) = e
test_expression (Some (else_line q)) = number (pos 0)
test_expression (Some end_line) = number (pos 0)
test_expression (Some (while_line e q)) = number (pos 0)
test_expression (Some (back_line q)) = number (pos 0)
