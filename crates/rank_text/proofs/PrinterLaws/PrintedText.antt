-- The canonical text of a whole program's statements is a text of these statements: each of its lines has the tokens of
-- its statement, and no fault holds of it.
use Rattle.std.proofs.Common.{◌≡◌, ℕ, ◌+◌, ◌≤◌, List, [], ◌∷◌, length, Some, refl, sym, subst, arith}
use Rattle.limits.specs.Limits.{most_lines, most_blocks}
use Rattle.rank_text.specs.Grammar.Forms.{Form}
use Rattle.rank_text.specs.Grammar.Lexes.{Lexes}
use Rattle.rank_text.specs.Lines.Pieces.{pieces_of}
use Rattle.rank_text.specs.Checker.Faults.{IsFormed, IsLine, stated, AreLines, none, taken, IsText}
use Rattle.rank_text.specs.Checker.Scope.{Scope, nothing_yet, after, after_all, MayStand, AllMayStand, IsWhole}
use Rattle.rank_text.specs.Printer.Canonical.{depth_of, depth_after, line_text, text_from, program_text, IsCanonical, AllCanonical}
use Rattle.rank_text.proofs.PrinterLaws.PrintedTokens.{form_tokens, form_spells}
use Rattle.rank_text.proofs.PrinterLaws.PrintedLexes.{line_lexes}
use Rattle.rank_text.proofs.PrinterLaws.PrintedLines.{lexes_text, line_states, line_unskipped, line_cut}
use Rattle.rank_text.proofs.PrinterLaws.Bounds.{form_shallow, line_length}
use Rattle.rank_text.proofs.PrinterLaws.Standing.{IsNamedWell, fits_of, named_after, depth_goes, blocks_few, depth_least, clean_of}

-- a line has its statement's tokens and form
line_formed : (s : Scope) (depth : ℕ) (f : Form) → IsNamedWell s → depth ≤ most_blocks → MayStand s f → IsCanonical f
    → IsFormed (line_text depth f) (form_tokens f) f
line_formed s depth f h k m c =
    let fits = fits_of s f h m in
    let at = depth_of depth f in
    let low : at ≤ most_blocks = omega (arith, depth_least depth f, k) in
    let tokens : Lexes (line_text depth f) (form_tokens f) = line_lexes at f fits in
    record {
      looked = record { text = lexes_text tokens; short = line_length at f low fits; not_skipped = line_unskipped at f };
      tokens = tokens;
      form = form_spells f c;
    }

-- and is without fault
line_stated : (s : Scope) (n depth : ℕ) (f : Form) → IsNamedWell s → depth ≤ most_blocks → n ≤ most_lines → MayStand s f → IsCanonical f
    → IsLine s n (line_text depth f) (Some f)
line_stated s n depth f h k early m c =
    let formed = line_formed s depth f h k m c in
    stated formed (clean_of formed (line_states (depth_of depth f) f) early (form_shallow f (fits_of s f h m)) m)

-- the lines of a text have its statements
lines_are : (s : Scope) (n depth : ℕ) (fs : List Form) → IsNamedWell s → depth ≡ length s.blocks → length s.blocks ≤ most_blocks
    → n + length fs ≤ most_lines + 1 → AllMayStand s fs → AllCanonical fs
    → (count : ℕ) × AreLines s n (pieces_of 10 (text_from depth fs)) fs (after_all s fs) count
lines_are s n depth [] h q k early m c = (n, none)
lines_are s n depth (f ∷ fs) h q k early m c =
    let line = line_text depth f in
    let rest = text_from (depth_after depth f) fs in
    let first = line_stated s n depth f h (omega (arith, q, k)) (omega (arith, early)) m.0 c.0 in
    let others =
    lines_are (after s f) (n + 1) (depth_after depth f) fs (named_after s f h m.0) (depth_goes s f depth q) (blocks_few s f m.0 k)
    (omega (arith, early)) m.1 c.1 in
    let text = lexes_text (line_lexes (depth_of depth f) f (fits_of s f h m.0)) in (
      others.0,
      subst (λ z. AreLines s n z (f ∷ fs) (after_all s (f ∷ fs)) others.0) (sym (line_cut line rest text)) (taken first others.1),
    )

-- the canonical text of a whole program is its text
pub reads_back : (fs : List Form) → IsWhole fs → AllCanonical fs → IsText (program_text fs) fs
reads_back fs w c =
    let few = w.few in
    let r = lines_are nothing_yet 1 0 fs (tt, tt) refl (omega arith) (omega (arith, few)) w.standing c in
    record { end = after_all nothing_yet fs; count = r.0; lines = r.1; closed = w.closed }
