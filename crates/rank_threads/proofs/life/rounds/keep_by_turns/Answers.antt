use Rattle.std.proofs.Common.{◌≡◌, drop, length, sym, subst, ◌∙◌, arith}
use Rattle.std.proofs.lemmas.List.{take_at}
use Rattle.rank_threads.proofs.SeatLemmas.{all_seated}
use Rattle.rank_threads.specs.Seats.{AreGone, AreSeated}
use Rattle.rank_threads.specs.Stations.{stations_of}
use Rattle.rank_threads.proofs.life.rounds.keep_by_turns.Goals as goal

-- all have left
pub get_up-requires-clause-gone : goal.get_up-requires-clause-gone
get_up-requires-clause-gone g c =
    let program = c.args.shared.now.program.now in
    let firsts = stations_of c.args.stations.items in
    let seats = c.play_out-spent.new.seats in
    let many : length c.play_out-spent.new.seats ≡ c.sit_down-stations.result.1.len
    = grind (arith, c.play_out-spent.auto.seats, c.as_mut_slice.ensures.len, c.sit_down-stations.result.1.ok.0) in
    let lent = take_at seats (drop (length seats) c.sit_down-stations.result.1.items) c.sit_down-stations.result.1.len many in
    let before : AreSeated program firsts c.as_mut_slice.result.now
    = subst (AreSeated program firsts) (sym (c.as_mut_slice.ensures.value ∙ c.sit_down-stations.ensures.seated)) (all_seated program firsts) in
    subst AreGone (sym lent) (c.play_out-spent.ensures.gone firsts before)

-- and were kept
pub returns-clause-kept : goal.returns-clause-kept
returns-clause-kept g c =
    let program = c.args.shared.now.program.now in
    let firsts = stations_of c.args.stations.items in
    let seats = c.play_out-spent.new.seats in
    let many : length c.play_out-spent.new.seats ≡ c.sit_down-stations.result.1.len
    = grind (arith, c.play_out-spent.auto.seats, c.as_mut_slice.ensures.len, c.sit_down-stations.result.1.ok.0) in
    let lent = take_at seats (drop (length seats) c.sit_down-stations.result.1.items) c.sit_down-stations.result.1.len many in
    let before : AreSeated program firsts c.as_mut_slice.result.now
    = subst (AreSeated program firsts) (sym (c.as_mut_slice.ensures.value ∙ c.sit_down-stations.ensures.seated)) (all_seated program firsts) in
    c.get_up.ensures.kept program firsts (subst (AreSeated program firsts) (sym lent) (c.play_out-spent.ensures.kept firsts before))
