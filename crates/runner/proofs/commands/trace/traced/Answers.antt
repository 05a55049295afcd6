use Rattle.runner.proofs.Reasons.{trace_of_script, trace_untold}
use Rattle.runner.proofs.commands.trace.traced.Goals as goal

-- the script isn't read, and the files hold what they held before the program was read
pub returns-in-Err-clause-refused : goal.returns-in-Err-clause-refused
returns-in-Err-clause-refused g c =
    trace_of_script (g.F.Files.holds c.text_in.new.files) (g.F.Files.holds c.args.files.now) c.args.job.run c.in-Err.refusal c.in_ok-text.ensures.kept
    c.in-Err.ensures.refused

-- its run isn't told
pub returns-in-Err-said-clause-refused : goal.returns-in-Err-said-clause-refused
returns-in-Err-said-clause-refused g c =
    trace_untold (g.F.Files.holds c.args.files.now) c.args.job.run c.in-Err-said.refusal c.in-Err-said.ensures.refused
