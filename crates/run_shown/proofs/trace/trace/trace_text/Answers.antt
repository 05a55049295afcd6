use Rattle.std.proofs.Common.{rules, ap, ◌∙◌, ◌≡◌, ◌++◌, [], reverse, string_bytes}
use Rattle.run_shown.specs.Trace.Lines.{acts_text}
use Rattle.run_shown.proofs.TraceLaws.LineLemmas.{begins}
use Rattle.run_shown.proofs.trace.trace.trace_text.Goals as goal

pub returns : goal.returns
returns c =
    let empty : string_bytes c.new-text.result ≡ [] = search rules in
    let start : string_bytes c.put_acts.new.to
    ≡ string_bytes c.new-text.result ++ acts_text c.args.given.lines.now (reverse c.args.run.now.run) c.in_ok-found.found.places.items =
    c.in_ok-put_acts.ensures
    ∙ ap (λ l. string_bytes c.new-text.result ++ acts_text l c.told-told.result.acts.now c.told-told.result.places.now)
    c.told-told.ensures.lines
    ∙ ap (λ a. string_bytes c.new-text.result ++ acts_text c.args.given.lines.now a c.told-told.result.places.now) c.told-told.ensures.acts
    ∙ ap (λ p. string_bytes c.new-text.result ++ acts_text c.args.given.lines.now (reverse c.args.run.now.run) p) c.told-told.ensures.places in
    let text : string_bytes c.push_str.new.self ≡ string_bytes c.put_acts.new.to ++ string_bytes c.in_ok-rest.rest = search rules in
    begins c.args.given.text.now c.args.program.now c.args.ranks c.args.given.lines.now (reverse c.args.run.now.run) c.in_ok-found.found.places.items
    (string_bytes c.new-text.result) (string_bytes c.put_acts.new.to) (string_bytes c.in_ok-rest.rest) (string_bytes c.push_str.new.self)
    c.requires.lined c.in_ok-found.ensures.places empty start text
