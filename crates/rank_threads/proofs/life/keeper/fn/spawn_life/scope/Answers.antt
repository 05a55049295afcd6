use Rattle.std.proofs.Common.{rules, sym, ap, subst}
use denote.Exit.{no}
use denote.Param.Send.{IsSend, IsSync, arg_send, param_send}
use Rattle.rank_threads.proofs.Sharing.{parcel_send}
use Rattle.rank_threads.specs.Keeping.{HasLived}
use Rattle.rank_threads.specs.Stations.{SameStation}
use Rattle.rank_threads.proofs.life.keeper.fn.spawn_life.scope.Goals as goal

-- the life goes to its thread with what all share
pub spawn_with-requires-send-F : goal.spawn_with-requires-send-F
spawn_with-requires-send-F g c κs within =
    let hold : IsSync g.row.H = search (rules, c.requires) parts 8 in
    let send : IsSend g.row.R = search (rules, c.requires) parts 8 in
    param_send 2 _ (arg_send _ no _ (parcel_send _ _ _ _ g.row.H g.row.R hold send))

-- what is promised is of the station and of this program
pub spawn_with-requires-clause-keeps : goal.spawn_with-requires-clause-keeps
spawn_with-requires-clause-keeps g c κs within =
    λ r back. (
      subst (λ s. SameStation s r.station) (sym c.of.ensures) back.1,
      subst (λ v. HasLived v c.of.result.value r.station) (sym (ap (λ p. p.now) c.of-2.ensures))
          (subst (λ s. HasLived c.captures.shared.now.program.now s r.station) (sym c.of.ensures) back.0),
    )

-- and comes back with it
pub returns-in-Ok : goal.returns-in-Ok
returns-in-Ok g c =
    let back = subst (λ p. SameStation p.0.value c.join.result.station × HasLived p.1.value.now p.0.value c.join.result.station)
    c.in-Ok.ensures.ok c.join.ensures in
    record {
      lived =
          subst (λ s. HasLived c.captures.shared.now.program.now s c.join.result.station) c.of.ensures
          (subst (λ v. HasLived v c.of.result.value c.join.result.station) (ap (λ p. p.now) c.of-2.ensures) back.1);
      same = subst (λ s. SameStation s c.join.result.station) c.of.ensures back.0;
    }
