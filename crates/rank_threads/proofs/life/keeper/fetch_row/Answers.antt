use Rattle.std.proofs.Common.{ap, ◌∙◌}
use Rattle.rank_threads.proofs.life.keeper.fetch_row.Goals as goal

-- what is fetched changes no lane and no count of frames
pub returns-in-Ok-clause-dropped : goal.returns-in-Ok-clause-dropped
returns-in-Ok-clause-dropped g c =
    λ well. record {
      dropped = c.drop_frames.new.station;
      lanes = c.drop_frames.ensures.dropped;
      left = ap (λ k. k.from) c.fetch.ensures.kit;
      taken = ap (λ k. k.tally.taken) c.fetch.ensures.kit ∙ ap (λ t. t.taken) c.begin_again.ensures;
    }
