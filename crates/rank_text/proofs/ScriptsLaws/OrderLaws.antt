-- A script without fault has orders alone, and not too many: no fault holds of any of its lines.
use Rattle.std.specs.Prelude.{◌≡◌, ℕ, ◌+◌, ◌≤◌, Bool, true, false, not, ◌&&◌, nat_lt, List, [], ◌∷◌, length, All, Option, Some, None, IfSome, if◌then◌else◌}
use Rattle.std.specs.List.{cons_option, filter_map}
use Rattle.std.proofs.Common.{refl, arith}
use Rattle.std.proofs.lemmas.Bool.Decides.{nat_tests}
use Rattle.std.proofs.lemmas.List.Elements.{All-nil, All-cons}
use Rattle.limits.specs.Limits.{most_script_lines}
use Rattle.rank_text.specs.Lines.Pieces.{pieces_of, words_of}
use Rattle.rank_text.specs.Lines.Skipped.{is_skipped}
use Rattle.rank_text.specs.declared.script.fault.ScriptFault.{ScriptFault}
use Rattle.rank_text.specs.declared.script.fault.ScriptFaultKind.{ScriptFaultKind}
use Rattle.rank_text.specs.declared.script.fault.ScriptFaultKind.TheVariants.{BadLine, BadRank, Limit}
use Rattle.rank_text.specs.declared.script.line.ScriptLine.{ScriptLine}
use Rattle.rank_text.specs.Scripts.Form.{form_of}
use Rattle.rank_text.specs.Scripts.Orders.{IsOrder}
use Rattle.rank_text.specs.Scripts.Script.{order_by, fault_of, first_fault, first_fault_from, holds, is_bad, is_foreign, script_lines}

-- where no fault is the lowest, none of the three holds
none_holds : (bad foreign late : Bool)
    → (if bad then Some BadLine else (if foreign then Some BadRank else (if late then Some Limit else None))) ≡ None
    → (bad ≡ false) × (foreign ≡ false) × (late ≡ false)
none_holds true foreign late h = cc
none_holds false true late h = cc
none_holds false false true h = cc
none_holds false false false h = (refl, refl, refl)

-- what isn't skipped, and neither bad nor foreign, is an order
is_order : (ranks : ℕ) (skipped : Bool) (form : Option ScriptLine)
    → not skipped && is_bad (if skipped then None else form) ≡ false → is_foreign ranks (if skipped then None else form) ≡ false
    → IfSome (if skipped then None else form) (IsOrder ranks)
is_order ranks true form h k = tt
is_order ranks false None h k = cc
is_order ranks false (Some order) h k = record {
  rank = grind (arith, nat_tests);
  past = grind (arith, nat_tests);
  possible = grind (arith, nat_tests);
}

-- a line without fault asks for nothing or is an order
order_or_none : (ranks number : ℕ) (line : List ℕ) → fault_of ranks number line ≡ None → IfSome (order_by line) (IsOrder ranks)
order_or_none ranks number line h =
    let none = none_holds (holds ranks number line BadLine) (holds ranks number line BadRank) (holds ranks number line Limit) h in
    is_order ranks (is_skipped line) (form_of (words_of line)) none.0 none.1

-- and its number isn't too high
not_late : (ranks number : ℕ) (line : List ℕ) → fault_of ranks number line ≡ None → number ≤ most_script_lines
not_late ranks number line h =
    let none = none_holds (holds ranks number line BadLine) (holds ranks number line BadRank) (holds ranks number line Limit) h in
    let late : nat_lt most_script_lines number ≡ false = none.2 in grind (arith, nat_tests)

-- lines without fault begin with one, and go on with others
passed : (number : ℕ) (fault : Option ScriptFaultKind) (rest : Option ScriptFault)
    → ◌≡◌ {A = Option ScriptFault} (elim fault [ None ↦ rest | Some kind ↦ Some (record { line = number; kind = kind }) ]) None
    → (fault ≡ None) × (rest ≡ None)
passed number None rest h = (refl, h)
passed number (Some kind) rest h = cc

-- an order more, or nothing
one_more : (ranks : ℕ) (order : Option ScriptLine) (orders : List ScriptLine) → IfSome order (IsOrder ranks)
    → All (IsOrder ranks) orders → All (IsOrder ranks) (cons_option order orders)
one_more ranks None orders h k = k
one_more ranks (Some order) orders h k = All-cons (IsOrder ranks) order orders h k

-- lines without fault ask for orders alone
orders_from : (ranks number : ℕ) (lines : List (List ℕ)) → first_fault_from ranks number lines ≡ None
    → All (IsOrder ranks) (filter_map order_by lines)
orders_from ranks number [] h = All-nil (IsOrder ranks)
orders_from ranks number (line ∷ lines) h =
    let both = passed number (fault_of ranks number line) (first_fault_from ranks (number + 1) lines) h in
    one_more ranks (order_by line) (filter_map order_by lines) (order_or_none ranks number line both.0)
    (orders_from ranks (number + 1) lines both.1)

-- a line asks for one order at most
at_most_one : (order : Option ScriptLine) (orders : List ScriptLine) → length (cons_option order orders) ≤ length orders + 1
at_most_one None orders = omega arith
at_most_one (Some order) orders = omega arith

-- lines without fault end before the number of a line is too high
few_from : (ranks number : ℕ) (lines : List (List ℕ)) → first_fault_from ranks number lines ≡ None → number ≤ most_script_lines + 1
    → length (filter_map order_by lines) + number ≤ most_script_lines + 1
few_from ranks number [] h k = omega arith
few_from ranks number (line ∷ lines) h k =
    let both = passed number (fault_of ranks number line) (first_fault_from ranks (number + 1) lines) h in
    let here = not_late ranks number line both.0 in
    let later = few_from ranks (number + 1) lines both.1 (omega (arith, here)) in
    let more = at_most_one (order_by line) (filter_map order_by lines) in
    omega (arith, later, more)

-- the lines of a script without fault are orders
pub orders : (ranks : ℕ) (text : List ℕ) → first_fault ranks text ≡ None → All (IsOrder ranks) (script_lines text)
orders ranks text h = orders_from ranks 1 (pieces_of 10 text) h

-- and they aren't too many
pub few : (ranks : ℕ) (text : List ℕ) → first_fault ranks text ≡ None → length (script_lines text) ≤ most_script_lines
few ranks text h = let all = few_from ranks 1 (pieces_of 10 text) h (omega arith) in omega (arith, all)
