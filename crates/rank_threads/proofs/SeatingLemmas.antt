-- A station more and a station less.
use Rattle.std.proofs.Common.{◌≡◌, ℕ, zero, suc, ◌+◌, List, [], ◌∷◌, ◌++◌, ◌<◌, length, map, slice_index_or, refl, sym, ◌∙◌, ap, arith, Vec}
use Rattle.std.proofs.lemmas.List.{map-append, append_assoc}
use Rattle.ports.specs.Lanes.{TxValue, RxValue, lane_to, lane_from}
use Rattle.ports.specs.AllLanes.{to_names, from_names}
use Rattle.event_logger.specs.Desks.{DeskValue, LoggerValue, AreDesks}
use Rattle.rank_language.specs.Program.{ProgramValue}
use Rattle.rank_threads.specs.Keeping.{WereKept}
use Rattle.rank_threads.specs.Seating.{AreDesksFrom, AreNew, desks_of, lanes_from, lanes_to}
use Rattle.rank_threads.specs.Stations.{IsNew, stations_of}
use Rattle.rank_threads.specs.declared.life.parcel.Parcel.{Parcel}
use Rattle.rank_threads.specs.declared.life.station.Station.{Station}

module _ {W : Type 0} where
  -- the last parcel has the lowest rank
  pub stations_snoc : (ps : List (Parcel W)) (p : Parcel W) → stations_of (ps ++ p ∷ []) ≡ p.station ∷ stations_of ps
  stations_snoc [] p = refl
  stations_snoc (q ∷ ps) p = ap (λ l. l ++ q.station ∷ []) (stations_snoc ps p)

  -- what the last rank has goes to a station, and comes back
  moves : {B : Type 0} (f : Station → B) (rest : List B) (one : B) (ps : List (Parcel W)) (p : Parcel W) → one ≡ f p.station
      → (rest ++ one ∷ []) ++ map f (stations_of ps) ≡ rest ++ map f (stations_of (ps ++ p ∷ []))
  moves f rest one ps p same =
      append_assoc rest (one ∷ []) (map f (stations_of ps)) ∙ ap (λ b. rest ++ b ∷ map f (stations_of ps)) same
      ∙ ap (λ l. rest ++ map f l) (sym (stations_snoc ps p))

  pub seated : {B : Type 0} (f : Station → B) (rest : List B) (one : B) (ps : List (Parcel W)) (p : Parcel W) (all : List B)
      → (rest ++ one ∷ []) ++ map f (stations_of ps) ≡ all → one ≡ f p.station → rest ++ map f (stations_of (ps ++ p ∷ [])) ≡ all
  seated f rest one ps p all before same = sym (moves f rest one ps p same) ∙ before

  pub unseated : {B : Type 0} (f : Station → B) (rest : List B) (one : B) (ps : List (Parcel W)) (p : Parcel W) (all : List B)
      → rest ++ map f (stations_of (ps ++ p ∷ [])) ≡ all → one ≡ f p.station → (rest ++ one ∷ []) ++ map f (stations_of ps) ≡ all
  unseated f rest one ps p all before same = moves f rest one ps p same ∙ before

  -- a further rank that hasn't lived yet
  pub new_more : (ps : List (Parcel W)) (p : Parcel W) → AreNew (stations_of ps) → IsNew p.station → AreNew (stations_of (ps ++ p ∷ []))
  new_more ps p all one = rw (stations_snoc ps p) (one, all)

module _ {A : Type 0} where
  -- the names of the lanes of one rank more
  pub to_snoc : (to : List (Vec TxValue A)) (one : Vec TxValue A) → to_names (to ++ one ∷ []) ≡ to_names to ++ map lane_to one.items ∷ []
  to_snoc to one = map-append (λ (ends : Vec TxValue A). map lane_to ends.items) to (one ∷ [])

  pub from_snoc : (from : List (Vec RxValue A)) (one : Vec RxValue A) → from_names (from ++ one ∷ []) ≡ from_names from ++ map lane_from one.items ∷ []
  from_snoc from one = map-append (λ (ends : Vec RxValue A). map lane_from ends.items) from (one ∷ [])

-- what stays of stations that were kept: their number
pub kept_length : (program : ProgramValue) (a b : List Station) → WereKept program a b → length b ≡ length a
kept_length program [] [] kept = refl
kept_length program [] (y ∷ ys) kept = absurd kept
kept_length program (x ∷ xs) [] kept = absurd kept
kept_length program (x ∷ xs) (y ∷ ys) kept = ap suc (kept_length program xs ys kept.1)

-- the lanes into which they put
pub kept_to : (program : ProgramValue) (a b : List Station) → WereKept program a b → lanes_to b ≡ lanes_to a
kept_to program [] [] kept = refl
kept_to program [] (y ∷ ys) kept = absurd kept
kept_to program (x ∷ xs) [] kept = absurd kept
kept_to program (x ∷ xs) (y ∷ ys) kept = rw (kept_to program xs ys kept.1, kept.0.0.3) refl

-- the lanes from which they take
pub kept_from : (program : ProgramValue) (a b : List Station) → WereKept program a b → lanes_from b ≡ lanes_from a
kept_from program [] [] kept = refl
kept_from program [] (y ∷ ys) kept = absurd kept
kept_from program (x ∷ xs) [] kept = absurd kept
kept_from program (x ∷ xs) (y ∷ ys) kept = rw (kept_from program xs ys kept.1, kept.0.0.4) refl

-- and whose desks they have
pub kept_desks : (program : ProgramValue) (logger : LoggerValue) (first : ℕ) (a b : List Station) → WereKept program a b
    → AreDesksFrom logger first (desks_of a) → AreDesksFrom logger first (desks_of b)
kept_desks program logger first [] [] kept all = tt
kept_desks program logger first [] (y ∷ ys) kept all = absurd kept
kept_desks program logger first (x ∷ xs) [] kept all = absurd kept
kept_desks program logger first (x ∷ xs) (y ∷ ys) kept all =
    (kept.0.0.1.desk.0 ∙ all.0, kept.0.0.1.desk.1 ∙ all.1, kept_desks program logger (first + 1) xs ys kept.1 all.2)

-- desks in rank order, one after another, are desks in rank order, each at its place
desks_at : (logger : LoggerValue) (first : ℕ) (ds : List DeskValue) → AreDesksFrom logger first ds → (k : ℕ) (d : DeskValue) → k < length ds
    → ((slice_index_or ds k d).table ≡ logger.table) × ((slice_index_or ds k d).rank ≡ first + k)
desks_at logger first [] all k d low = absurd (omega arith)
desks_at logger first (e ∷ ds) all zero d low = (all.0, all.1 ∙ omega arith)
desks_at logger first (e ∷ ds) all (suc k) d low =
    let rest = desks_at logger (first + 1) ds all.2 k d (omega arith) in
    (rest.0, rest.1 ∙ omega arith)

-- so they may close their logger
pub desks_listed : (logger : LoggerValue) (ds : List DeskValue) → AreDesksFrom logger 0 ds → AreDesks logger.table ds
desks_listed logger ds all k d low = let at = desks_at logger 0 ds all k d low in (at.0, at.1 ∙ omega arith)

-- and the other way round
desks_from : (logger : LoggerValue) (first : ℕ) (ds : List DeskValue)
    → ((k : ℕ) (d : DeskValue) → k < length ds → ((slice_index_or ds k d).table ≡ logger.table) × ((slice_index_or ds k d).rank ≡ first + k))
    → AreDesksFrom logger first ds
desks_from logger first [] at = tt
desks_from logger first (e ∷ ds) at =
    let here = at 0 e (omega arith) in (
      here.0,
      here.1 ∙ omega arith,
      desks_from logger (first + 1) ds (λ k d low. let there = at (suc k) d (omega (arith, low)) in (there.0, there.1 ∙ omega arith)),
    )

-- the desks of a new logger are in rank order
pub desks_ordered : (logger : LoggerValue) (ds : List DeskValue) → AreDesks logger.table ds → AreDesksFrom logger 0 ds
desks_ordered logger ds at = desks_from logger 0 ds (λ k d low. let here = at k d low in (here.0, here.1 ∙ omega arith))

-- without the last one
pub desks_less : (logger : LoggerValue) (first : ℕ) (ds : List DeskValue) (d : DeskValue) → AreDesksFrom logger first (ds ++ d ∷ [])
    → AreDesksFrom logger first ds × (d.table ≡ logger.table) × (d.rank ≡ first + length ds)
desks_less logger first [] d all = (tt, all.0, all.1 ∙ omega arith)
desks_less logger first (e ∷ ds) d all =
    let rest = desks_less logger (first + 1) ds d all.2 in
    ((all.0, all.1, rest.0), rest.1, rest.2 ∙ omega arith)

-- what carries a run from its lanes and desks to its stations, through their lives, and back
pub ruleset played_laws = (kept_to, kept_from, kept_desks, kept_length, desks_listed, desks_ordered)
