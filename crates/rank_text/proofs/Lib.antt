pub mod LinesLaws
pub mod GrammarLaws
pub mod CheckerLaws
pub mod PrinterLaws
pub mod ScriptsLaws
