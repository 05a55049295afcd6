use Rattle.std.proofs.Common.{rules}
use denote.Exit.{no}
use denote.Param.Send.{IsSend, IsSync, arg_send, param_send}
use Rattle.rank_threads.proofs.Crews.{kept_snoc}
use Rattle.rank_threads.proofs.Sharing.{parcel_send}
use Rattle.rank_threads.proofs.life.crew.+crew.Goals as goal

pub keep_all-returns-clause-kept : goal.keep_all-returns-clause-kept
keep_all-returns-clause-kept g t c =
    let spawned = c.spawn_keeper-parcel in
    let all = kept_snoc c.args.shared.now.program.now c.pop.new.self.items spawned.result.1.items c.in-Some.parcel spawned.result.0 spawned.ensures.kept spawned.ensures.one in
    rw (c.in-Some.ensures.items, c.push_reserved.ensures.items) all

-- the keeper goes to its thread with what all share
pub spawn_keeper-scope-spawn_with-requires-send-F : goal.spawn_keeper-scope-spawn_with-requires-send-F
spawn_keeper-scope-spawn_with-requires-send-F g t c κs within =
    let hold : IsSync g.row.H = search (rules, c.requires) parts 8 in
    let send : IsSend g.row.R = search (rules, c.requires) parts 8 in
    param_send 2 _ (arg_send _ no _ (parcel_send _ _ _ _ g.row.H g.row.R hold send))
