use Rattle.std.proofs.Common.{◌≡◌, take}
use Rattle.std.specs.Prelude.{fold}
use Rattle.std.specs.Hash.DefaultHasher as sip
use Rattle.explore.specs.Found.{rank_writes}
use Rattle.explore.proofs.found.hashing.hash_of.Given as goal

-- the ranks so far are hashed
abbrev pub invariant-loop-rank : goal.invariant-loop-rank
invariant-loop-rank l = l.hasher ≡ fold (λ h x. fold sip.write h (rank_writes x)) sip.initial (take l.rank-index l.ranks)
