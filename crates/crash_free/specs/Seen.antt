-- The acts that code holds, as the definitions speak of them.
use Rattle.rank_machine.specs.Acts as acts
use Rattle.crash_free.specs.declared.act.Act.{Act}
use Rattle.crash_free.specs.declared.act.Act.TheVariants.{Sends, Takes, Hits, Misses, Prints}

-- an act, without where its items lie in memory
abbrev pub act_of : Act → acts.Act
act_of (Sends dest context tag items) = acts.sends dest context tag items.items
act_of (Takes source place) = acts.takes source place
act_of (Hits source place) = acts.hits source place
act_of Misses = acts.misses
act_of (Prints value) = acts.prints value
