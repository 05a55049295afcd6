use Rattle.std.proofs.Common.{rules, string_bytes}
use Rattle.runner.proofs.Unreceived.{tells_sent}
use Rattle.runner.proofs.commands.unreceived.left_text.Goals as goal

-- the lines are on the messages that were sent at these lines
pub returns : goal.returns
returns c =
    tells_sent c.args.lined.now.program c.args.ranks c.args.lined.now.lines.items c.as_slice.result.now c.args.run.now.run c.in_ok-left.left
    c.left.inside.messages.items c.as_slice-2.result.now (string_bytes c.new-text.result) (string_bytes c.print_left.new.text) c.in_ok-left.ensures
    c.as_slice.ensures.value c.as_slice-2.ensures.value c.left.view_is (search rules) c.in_ok-print_left.ensures
