-- Statements whose names and numbers are what a text can have, and whose expressions are within their limit.
use Rattle.std.proofs.Common.{ℕ, ◌^◌, ◌<◌, ◌≤◌, List, length}
use Rattle.limits.specs.Limits.{most_name_bytes, most_nodes}
use Rattle.rank_text.specs.Grammar.Lexes.{IsName}
use Rattle.rank_text.specs.Grammar.Tree.{Tree, number, variable, item, reading, negation, operation}
use Rattle.rank_text.specs.Grammar.Forms.{Pattern, any, value, Payload, lone, one}
use Rattle.rank_text.specs.Grammar.Forms.{Form, var_form, array_form, let_form, item_form, if_form, else_form, end_form, while_form}
use Rattle.rank_text.specs.Grammar.Forms.{send_form, recv_form, probe_form, try_probe_form, print_form, barrier_form, bcast_form, reduce_form}
use Rattle.rank_text.specs.Checker.Scope.{nodes}

-- a name that isn't too long
abbrev pub IsShortName : List ℕ → Type 0
IsShortName x = IsName x × (length x ≤ most_name_bytes)

-- each name is such a name, and each number is in range
abbrev pub IsPlain : Tree → Type 0
IsPlain (number n) = n < 2 ^ 63
IsPlain (variable x) = IsShortName x
IsPlain (item x e) = IsShortName x × IsPlain e
IsPlain (reading r) = Unit {0}
IsPlain (negation e) = IsPlain e
IsPlain (operation o a b) = IsPlain a × IsPlain b

-- and there are no more nodes than an expression may have
abbrev pub IsFit : Tree → Type 0
IsFit e = IsPlain e × (nodes e ≤ most_nodes)

-- the same of a source or a tag
abbrev pub PatternFits : Pattern → Type 0
PatternFits any = Unit {0}
PatternFits (value e) = IsFit e

-- of what a send gives
abbrev pub PayloadFits : Payload → Type 0
PayloadFits (lone x) = IsShortName x
PayloadFits (one e) = IsFit e

-- and of a statement
abbrev pub FormFits : Form → Type 0
FormFits (var_form x) = IsShortName x
FormFits (array_form x n) = IsShortName x × (n < 2 ^ 63)
FormFits (let_form x e) = IsShortName x × IsFit e
FormFits (item_form x i e) = IsShortName x × IsFit i × IsFit e
FormFits (if_form e) = IsFit e
FormFits else_form = Unit {0}
FormFits end_form = Unit {0}
FormFits (while_form e) = IsFit e
FormFits (send_form d g p) = IsFit d × IsFit g × PayloadFits p
FormFits (recv_form s g x) = PatternFits s × PatternFits g × IsShortName x
FormFits (probe_form s g) = PatternFits s × PatternFits g
FormFits (try_probe_form s g x) = PatternFits s × PatternFits g × IsShortName x
FormFits (print_form e) = IsFit e
FormFits barrier_form = Unit {0}
FormFits (bcast_form r x) = IsFit r × IsShortName x
FormFits (reduce_form o r e x) = IsFit r × IsFit e × IsShortName x
