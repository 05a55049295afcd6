use Rattle.std.proofs.Common.{vec_len, ◌+◌, ◌*◌}
use Rattle.rank_threads.proofs.life.crew.+crew.Given as goal

abbrev pub decreases-spawn_keeper : goal.decreases-spawn_keeper
decreases-spawn_keeper g l = 3 * vec_len l.rest + 2

abbrev pub decreases-spawn_keeper-scope : goal.decreases-spawn_keeper-scope
decreases-spawn_keeper-scope g l = 3 * vec_len l.rest + 1

abbrev pub decreases-keep_all : goal.decreases-keep_all
decreases-keep_all g l = 3 * vec_len l.stations
