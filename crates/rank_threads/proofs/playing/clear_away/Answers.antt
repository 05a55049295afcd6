use Rattle.std.proofs.Common.{rules, sym}
use Rattle.rank_threads.proofs.SeatingLemmas.{desks_listed, kept_desks, kept_from, kept_to}
use Rattle.rank_threads.specs.Seating.{AreDesksFrom}
use Rattle.rank_threads.specs.Stations.{stations_of}
use Rattle.rank_threads.proofs.playing.clear_away.Goals as goal

-- the lanes are those between which the stations were set out
pub close_all-requires : goal.close_all-requires
close_all-requires g c =
    let begun = stations_of c.args._begun.value.items in
    let ended = stations_of c.args.stations.items in
    rw (
      c.unseat_all-desks.ensures.to,
      c.unseat_all-desks.ensures.from,
      kept_to c.args._program.now begun ended c.requires.kept,
      kept_from c.args._program.now begun ended c.requires.kept,
    ) c.requires.out.crossed

-- the desks that come back are those that the stations were made of
pub returns-clause-desks : goal.returns-clause-desks
returns-clause-desks g c =
    let begun = stations_of c.args._begun.value.items in
    let ended = stations_of c.args.stations.items in
    let last : AreDesksFrom c.args._logger.now 0 c.unseat_all-desks.result.desks.items
    = rw (c.unseat_all-desks.ensures.desks) (kept_desks _ c.args._logger.now 0 begun ended c.requires.kept c.requires.out.own) in
    desks_listed c.args._logger.now c.unseat_all-desks.result.desks.items last

-- the ranks have lived from there to here
pub returns-clause-played : goal.returns-clause-played
returns-clause-played g c = record {
  begun = stations_of c.args._begun.value.items;
  ended = stations_of c.args.stations.items;
  lived = record {
    fresh = c.requires.out.fresh;
    lines = c.requires.out.lines;
    desks = c.requires.out.desks;
    lives = c.requires.kept;
  };
  held = sym c.unseat_all-desks.ensures.desks;
  accounts = c.unseat_all-desks.ensures.accounts;
  console = search rules;
}
