use Rattle.std.proofs.Common.{rules, sym, subst}
use Rattle.runner.proofs.commands.explain.of_program.Goals as goal

-- the fault that was found is the first one of what the file holds
pub returns-in-Err-Fault-clause-said : goal.returns-in-Err-Fault-clause-said
returns-in-Err-Fault-clause-said g c = record {
  text = c.as_slice.result.now;
  held = subst (g.F.Files.holds c.args.files.now c.args.name.now) (sym c.as_slice.ensures.value) c.in_ok-text.ensures.text;
  line = c.in-Err-Fault.fault.line;
  kind = c.in-Err-Fault.fault.kind;
  first = c.in-Err-Fault.ensures.fault c.in-Err-Fault.fault (search rules);
}
