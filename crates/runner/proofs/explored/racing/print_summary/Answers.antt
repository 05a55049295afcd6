use Rattle.std.proofs.Common.{string_bytes}
use Rattle.runner.proofs.Written.{is_summary}
use Rattle.runner.proofs.explored.racing.print_summary.Goals as goal

-- behind the races stands what was left, then whether the program is safe, then what all of it means
pub returns : goal.returns
returns c =
    let races = string_bytes c.loop-race.text in
    is_summary c.args.synchronous c.args.found.now c.args.left.now c.args.marks.now c.args.cycle.now c.args.limits.runs races (string_bytes c.print_shorts.new.text)
    (string_bytes c.print_safe.new.text) (string_bytes c.print_meaning.new.text) c.in_ok-print_shorts.ensures c.in_ok-print_safe.ensures c.in_ok-print_meaning.ensures
