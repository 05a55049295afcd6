-- What is printed of a statement has its tokens, and so has its line.
use Rattle.std.proofs.Common.{ℕ, zero, suc, List, [], ◌∷◌, ◌++◌, codes}
use Rattle.std.proofs.Common.{refl, subst, append_assoc, append-nil}
use Rattle.std.specs.Fmt.{decimal}
use Rattle.rank_text.specs.declared.grammar.token.Keyword.TheVariants as k
use Rattle.rank_text.specs.declared.grammar.token.Reduction.{Reduction}
use Rattle.rank_text.specs.declared.grammar.token.Token.{Token}
use Rattle.rank_text.specs.declared.grammar.token.Token.TheVariants as t
use Rattle.rank_text.specs.Grammar.Lexes.{Lexes, is_end, is_space}
use Rattle.rank_text.specs.Grammar.Forms.{Form, var_form, array_form, let_form, item_form, if_form, else_form, end_form, while_form}
use Rattle.rank_text.specs.Grammar.Forms.{send_form, recv_form, probe_form, try_probe_form, print_form, barrier_form, bcast_form, reduce_form}
use Rattle.rank_text.specs.Printer.Canonical.{expression_text}
use Rattle.rank_text.specs.Printer.Canonical.{pattern_text, payload_text, reduction_text, form_text, indentation}
use Rattle.rank_text.proofs.PrinterLaws.PrintedTokens.{expression_tokens, pattern_tokens, payload_tokens, form_tokens}
use Rattle.rank_text.proofs.PrinterLaws.Fitting.{FormFits}
use Rattle.rank_text.proofs.PrinterLaws.PrintedPieces.{Closed, Reads, closed_then, between, bracket_closed, comma_closed, assign_closed, assign_item_closed, name_reads}
use Rattle.rank_text.proofs.PrinterLaws.PrintedNumbers.{number_reads}
use Rattle.rank_text.proofs.PrinterLaws.PrintedExpressions.{indexed_reads, expression_reads, pattern_reads, payload_reads}
use Rattle.rank_text.proofs.PrinterLaws.PrintedWords.{var_closed, array_closed, let_closed, if_closed, while_closed, send_closed, recv_closed}
use Rattle.rank_text.proofs.PrinterLaws.PrintedWords.{probe_closed, try_probe_closed, print_closed, bcast_closed, reduction_closed, else_reads}
use Rattle.rank_text.proofs.PrinterLaws.PrintedWords.{end_reads, barrier_reads}

-- two arguments behind a word, with a comma between them
two_reads : (word a b : List ℕ) (w : Token) (xs ys : List Token) → Closed word (w ∷ []) → Reads a xs → Reads b ys
    → Reads (word ++ a ++ codes ", " ++ b) (w ∷ (xs ++ t.Comma ∷ ys))
two_reads word a b w xs ys p q r =
    between (word ++ a) (codes ", ") b (w ∷ xs) (t.Comma ∷ []) ys (closed_then word a (w ∷ []) xs p q) comma_closed (λ line. refl) r

-- three arguments behind a word, with commas between them
three_reads : (word a b c : List ℕ) (w : Token) (xs ys zs : List Token) → Closed word (w ∷ []) → Reads a xs → Reads b ys → Reads c zs
    → Reads (word ++ a ++ codes ", " ++ b ++ codes ", " ++ c) (w ∷ (xs ++ t.Comma ∷ (ys ++ t.Comma ∷ zs)))
three_reads word a b c w xs ys zs p q r s =
    let second = two_reads word a b w xs ys p q r in
    let third = between (word ++ a ++ codes ", " ++ b) (codes ", ") c (w ∷ (xs ++ t.Comma ∷ ys)) (t.Comma ∷ []) zs second comma_closed (λ line. refl) s in
    subst (λ z. Reads (word ++ a ++ codes ", " ++ b ++ codes ", " ++ c) (w ∷ z)) (append_assoc xs (t.Comma ∷ ys) (t.Comma ∷ zs)) third

-- a reduction with its root, its value and the root's variable
reduce_reads : (o : Reduction) (a b c : List ℕ) (xs ys zs : List Token) → Reads a xs → Reads b ys → Reads c zs
    → Reads (codes "reduce " ++ reduction_text o ++ codes ", " ++ a ++ codes ", " ++ b ++ codes ", " ++ c)
    (t.Keyword k.Reduce ∷ t.Reduction o ∷ t.Comma ∷ (xs ++ t.Comma ∷ (ys ++ t.Comma ∷ zs)))
reduce_reads o a b c xs ys zs q r s =
    let word = codes "reduce " ++ reduction_text o ++ codes ", " in
    let front = closed_then word a (t.Keyword k.Reduce ∷ t.Reduction o ∷ t.Comma ∷ []) xs (reduction_closed o) q in
    let second =
    between (word ++ a) (codes ", ") b (t.Keyword k.Reduce ∷ t.Reduction o ∷ t.Comma ∷ xs) (t.Comma ∷ []) ys
    front comma_closed (λ line. refl) r in
    let third =
    between (word ++ a ++ codes ", " ++ b) (codes ", ") c (t.Keyword k.Reduce ∷ t.Reduction o ∷ t.Comma ∷ (xs ++ t.Comma ∷ ys)) (t.Comma ∷ []) zs
    second comma_closed (λ line. refl) s in
    subst (λ z. Reads (word ++ a ++ codes ", " ++ b ++ codes ", " ++ c) (t.Keyword k.Reduce ∷ t.Reduction o ∷ t.Comma ∷ z))
    (append_assoc xs (t.Comma ∷ ys) (t.Comma ∷ zs)) third

-- a statement has its tokens
form_reads : (f : Form) → FormFits f → Reads (form_text f) (form_tokens f)
form_reads (var_form x) h = closed_then (codes "var ") x (t.Keyword k.Var ∷ []) (t.Name x ∷ []) var_closed (name_reads x h)
form_reads (array_form x n) h =
    indexed_reads (codes "array " ++ x) (decimal n) (t.Keyword k.Array ∷ t.Name x ∷ []) (t.Number n ∷ [])
    (closed_then (codes "array ") x (t.Keyword k.Array ∷ []) (t.Name x ∷ []) array_closed (name_reads x h.0)) (number_reads n h.1)
form_reads (let_form x e) h =
    between (codes "let " ++ x) (codes " = ") (expression_text e) (t.Keyword k.Let ∷ t.Name x ∷ []) (t.Assign ∷ []) (expression_tokens e)
    (closed_then (codes "let ") x (t.Keyword k.Let ∷ []) (t.Name x ∷ []) let_closed (name_reads x h.0)) assign_closed (λ line. refl)
    (expression_reads e h.1.0)
form_reads (item_form x i e) h =
    let front = closed_then (codes "let ") x (t.Keyword k.Let ∷ []) (t.Name x ∷ []) let_closed (name_reads x h.0) in
    let opened =
    between (codes "let " ++ x) (codes "[") (expression_text i) (t.Keyword k.Let ∷ t.Name x ∷ []) (t.OpenBracket ∷ []) (expression_tokens i) front
    bracket_closed (λ line. refl) (expression_reads i h.1.0) in
    between (codes "let " ++ x ++ codes "[" ++ expression_text i) (codes "] = ") (expression_text e)
    (t.Keyword k.Let ∷ t.Name x ∷ t.OpenBracket ∷ expression_tokens i) (t.CloseBracket ∷ t.Assign ∷ []) (expression_tokens e) opened
    assign_item_closed (λ line. refl) (expression_reads e h.2.0)
form_reads (if_form e) h = closed_then (codes "if ") (expression_text e) (t.Keyword k.If ∷ []) (expression_tokens e) if_closed (expression_reads e h.0)
form_reads else_form h = else_reads
form_reads end_form h = end_reads
form_reads (while_form e) h =
    closed_then (codes "while ") (expression_text e) (t.Keyword k.While ∷ []) (expression_tokens e) while_closed (expression_reads e h.0)
form_reads (send_form d g p) h =
    three_reads (codes "send ") (expression_text d) (expression_text g) (payload_text p) (t.Keyword k.Send) (expression_tokens d)
    (expression_tokens g) (payload_tokens p) send_closed (expression_reads d h.0.0) (expression_reads g h.1.0) (payload_reads p h.2)
form_reads (recv_form s g x) h =
    three_reads (codes "recv ") (pattern_text s) (pattern_text g) x (t.Keyword k.Recv) (pattern_tokens s) (pattern_tokens g) (t.Name x ∷ [])
    recv_closed (pattern_reads s h.0) (pattern_reads g h.1) (name_reads x h.2)
form_reads (probe_form s g) h =
    two_reads (codes "probe ") (pattern_text s) (pattern_text g) (t.Keyword k.Probe) (pattern_tokens s) (pattern_tokens g)
    probe_closed (pattern_reads s h.0) (pattern_reads g h.1)
form_reads (try_probe_form s g x) h =
    three_reads (codes "iprobe ") (pattern_text s) (pattern_text g) x (t.Keyword k.Iprobe) (pattern_tokens s) (pattern_tokens g) (t.Name x ∷ [])
    try_probe_closed (pattern_reads s h.0) (pattern_reads g h.1) (name_reads x h.2)
form_reads (print_form e) h =
    closed_then (codes "print ") (expression_text e) (t.Keyword k.Print ∷ []) (expression_tokens e) print_closed (expression_reads e h.0)
form_reads barrier_form h = barrier_reads
form_reads (bcast_form r x) h =
    two_reads (codes "bcast ") (expression_text r) x (t.Keyword k.Bcast) (expression_tokens r) (t.Name x ∷ [])
    bcast_closed (expression_reads r h.0.0) (name_reads x h.1)
form_reads (reduce_form o r e x) h =
    reduce_reads o (expression_text r) (expression_text e) x (expression_tokens r) (expression_tokens e) (t.Name x ∷ [])
    (expression_reads r h.0.0) (expression_reads e h.1.0) (name_reads x h.2)

-- spaces in front change no tokens
indented_lexes : (depth : ℕ) {line : List ℕ} {ts : List Token} → Lexes line ts → Lexes (indentation depth ++ line) ts
indented_lexes zero l = l
indented_lexes (suc depth) l = is_space (is_space (indented_lexes depth l))

-- a line has its statement's tokens
pub line_lexes : (depth : ℕ) (f : Form) → FormFits f → Lexes (indentation depth ++ form_text f) (form_tokens f)
line_lexes depth f h =
    subst (λ z. Lexes (indentation depth ++ z) (form_tokens f)) (append-nil (form_text f)) (
    subst (λ z. Lexes (indentation depth ++ (form_text f ++ [])) z) (append-nil (form_tokens f)) (indented_lexes depth (form_reads f h [] [] tt is_end)))
