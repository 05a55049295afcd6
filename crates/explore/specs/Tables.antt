-- What a search knows of a program before it begins.
use Rattle.rank_language.specs.Program.{ProgramValue}
use Rattle.crash_free.specs.LiveVariables.Live as live
use Rattle.explore.specs.Silences as silences
use Rattle.explore.specs.declared.tables.ProgramTables.{ProgramTables}

-- each of the tables is right for the program
pub record AreTablesOf (program : ProgramValue) (t : ProgramTables) : Type 0 where
  pub live : live.IsTableOf program t.live
  pub silences : silences.IsTableOf program t.silences
