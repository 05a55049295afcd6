-- What goes to a thread: what all ranks of a run share, with the program, and a rank's parcel.
use mathlib.Core.List.{[], ◌∷◌}
use mir.Syntax.{Sym}
use denote.Param.{copied, param}
use denote.Param.Send.{IsSend, IsSync, copied_send, param_sync, recorded_send, recorded_sync, sendable, shr_send, shr_sync, struct_send, struct_sync}
use denote.RattleType.{RattleType}
use denote.Ref.{NamedLft}
use denote.Struct.Declared.{shape}
use denote.Struct.Field.{shr_ref_field}
use denote.Struct.Tuple.{TupleAt, field_at, type_at}
use Rattle.std.proofs.Crossing.{crosses}
use Rattle.std.proofs.sync.OnceLock.TheSendSync as once
use Rattle.rank_language.proofs.Sharing.{program_sync}
use Rattle.rank_threads.proofs.early_audit.feed.Feed.TheSendSync as feed
use Rattle.rank_threads.proofs.life.parcel.Parcel.TheSendSync as parcel
use Rattle.rank_threads.specs.contracts.life.parcel.Parcel as Parcel
use Rattle.rank_threads.specs.contracts.shared.Shared as Shared

-- threads may share it, if they may share the hold of a run: nothing changes the program
shared_sync : (a : NamedLft) (H : RattleType) → IsSync H → IsSync (Shared.the_row a H)
shared_sync a H hold =
    recorded_sync (Shared.the_field a H).row _ _ (Shared.the_type a H).to_one
    (struct_sync (shape (Shared.the_type a H)) (
      search (crosses, sendable) depth 60,
      (
        shr_sync _ _ _ program_sync,
        (
          shr_sync _ _ H hold,
          (
            search (crosses, sendable) depth 60,
            (
              search (crosses, sendable) depth 60,
              (
                search (crosses, sendable) depth 60,
                (
                  search (crosses, sendable) depth 60,
                  (
                    search (feed.the_sync, crosses, sendable) depth 60,
                    (
                      search (once.the_sync, crosses, sendable) depth 60,
                      tt,
                    ),
                  ),
                ),
              ),
            ),
          ),
        ),
      ),
    ))

-- a closure over two values may go to a thread if both may
pair_send : (name : Sym) (A B : RattleType) → IsSend A → IsSend B → IsSend (TupleAt name (A ∷ B ∷ []))
pair_send name A B a b =
    recorded_send (field_at name (A ∷ B ∷ [])).row _ _ (type_at name (A ∷ B ∷ [])).to_one
    (struct_send (shape (type_at name (A ∷ B ∷ []))) (a, (b, tt)))

-- so may one over what is shared and a parcel
pub parcel_send : (name : Sym) (k l m : NamedLft) (H R : RattleType) → IsSync H → IsSend R
    → IsSend (TupleAt name ((shr_ref_field k (Shared.the_row l (param 1 H)) tt).row ∷ Parcel.the_row m (copied 0 R) ∷ []))
parcel_send name k l m H R hold send =
    pair_send name (shr_ref_field k (Shared.the_row l (param 1 H)) tt).row (Parcel.the_row m (copied 0 R))
    (shr_send _ _ (Shared.the_row l (param 1 H)) (shared_sync l (param 1 H) (param_sync 1 H hold)))
    (parcel.the_send m (copied 0 R) (copied_send 0 R send))
