-- Lists of stations that were kept.
use Rattle.std.proofs.Common.{◌≡◌, List, [], ◌∷◌, ◌++◌, Some, None, sym, ◌∙◌}
use Rattle.rank_language.specs.Program.{ProgramValue}
use Rattle.rank_node.specs.declared.fault.NodeFault.TheVariants as fault
use Rattle.rank_threads.proofs.SeatingLemmas.{stations_snoc}
use Rattle.rank_threads.specs.Keeping.{WasKept, WereKept, failed}
use Rattle.rank_threads.specs.Stations.{SameStation, stations_of}
use Rattle.rank_threads.specs.declared.life.parcel.Parcel.{Parcel}
use Rattle.rank_threads.specs.declared.life.station.Station.{Station}

module _ {W : Type 0} where
  -- one station more
  pub kept_snoc : (program : ProgramValue) (xs ys : List (Parcel W)) (x y : Parcel W) → WereKept program (stations_of xs) (stations_of ys)
      → WasKept program x.station y.station → WereKept program (stations_of (xs ++ x ∷ [])) (stations_of (ys ++ y ∷ []))
  kept_snoc program xs ys x y kept one = rw (stations_snoc xs x, stations_snoc ys y) (one, kept)

-- where no thread could be made, the rank has met refused memory
pub kept_refused : (program : ProgramValue) (old new : Station) → SameStation old new → new.kit.tally.fault ≡ Some fault.Memory → WasKept program old new
kept_refused program old new same met = (same, failed (λ none. (let both : Some fault.Memory ≡ None = sym met ∙ none in absurd cc)))
