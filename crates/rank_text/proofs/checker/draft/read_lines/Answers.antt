use Rattle.std.proofs.Common.{◌≡◌, Ok, Err, sym, ap, ◌∙◌, arith}
use Rattle.rank_text.specs.Lines.Pieces.{pieces_of}
use Rattle.rank_text.specs.Checker.Progress.{going, reader_seen, step, stepped}
use Rattle.rank_text.proofs.CheckerLaws.ReadLaws.{step_goes, step_stops, step_leads, step_in_time}
use Rattle.rank_text.proofs.checker.draft.read_lines.Goals as goal

pub returns-in-Some-2-clause-reading : goal.returns-in-Some-2-clause-reading
returns-in-Some-2-clause-reading c =
    let old = reader_seen c.loop-line.reader in
    let new = reader_seen c.read_line.new.self in
    let n = c.loop-line.number in
    let line = c.in-Some.line.now in
    let turn : Err c.in-Some-2.kind ≡ step old n line = ap (λ o. stepped o new) (sym c.in-Some-2.is) ∙ c.in_ok-kind.ensures in
    step_stops old n line (pieces_of 10 c.in-Some.more.now) c.in-Some-2.kind turn ∙ ap (going old n) c.in-Some.ensures.lines ∙ c.loop-line.invariant.going

pub loop-line-preserved : goal.loop-line-preserved
loop-line-preserved c =
    let old = reader_seen c.loop-line.reader in
    let new = reader_seen c.read_line.new.self in
    let n = c.loop-line.number in
    let line = c.in-Some.line.now in
    let turn : Ok new ≡ step old n line = ap (λ o. stepped o new) (sym c.in_default-2.is) ∙ c.in_ok-kind.ensures in
    let early = step_in_time old new n line turn in record {
      going = step_goes old new n line (pieces_of 10 c.in-Some.more.now) turn ∙ ap (going old n) c.in-Some.ensures.lines ∙ c.loop-line.invariant.going;
      led = step_leads old new n line turn c.loop-line.invariant.led;
      early = omega arith;
    }
