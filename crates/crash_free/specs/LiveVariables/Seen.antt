-- Names of the code, as the definitions see them.
use Rattle.crash_free.specs.declared.live_variables.name.StoredName as source_name
use Rattle.crash_free.specs.LiveVariables.Names.{StoredName, place, status}

-- a variable by its place, or the status
abbrev pub name_of : source_name.StoredName → StoredName
name_of (source_name.TheVariants.Variable p) = place p
name_of source_name.TheVariants.Status = status
