-- An image that was read can be saved again, and its cursors are at rest.
use Rattle.std.proofs.Common.{◌≡◌, ℕ, zero, suc, ◌<◌, ◌≤◌, List, [], ◌∷◌, ◌++◌, length, map, All, Result, Ok, Err, refl, sym, ap, subst}
use Rattle.std.proofs.Common.{◌∙◌, arith}
use Rattle.std.specs.Prelude.{AllPairs, IfOk}
use Rattle.std.proofs.lemmas.List.{append-nil}
use Rattle.std.proofs.lemmas.List.Kept.{AllPairs-cons}
use Rattle.limits.specs.Limits.{most_ranks}
use Rattle.matching.specs.PacketValue.{PacketValue}
use Rattle.payload_log.specs.Backlog.{BacklogValue}
use Rattle.payload_log.specs.Sender.{WasBefore, IsSentBy}
use Rattle.rank_language.specs.Program.{ProgramValue}
use Rattle.checkpoint.specs.declared.fault.ImageFault.{ImageFault}
use Rattle.checkpoint.specs.declared.format.Format.{Format}
use Rattle.checkpoint.specs.Image.{ImageValue, rewound, at_rest}
use Rattle.checkpoint.specs.Savable.{IsSavable}
use Rattle.checkpoint.specs.Reading.{last_clock}
use Rattle.checkpoint.specs.Legal.{AllAfter, IsNextKept, IsLane, IsImage, IsTextOf}
use Rattle.checkpoint.proofs.Loop.{last_clock-push}
use Rattle.checkpoint.proofs.Rows.{all_of_row}

-- each kept packet was sent after those before
above_last : (rank most base : ℕ) (before ms : List PacketValue) → AllAfter (IsNextKept rank most base) before ms
    → All (λ (m : PacketValue). last_clock before < m.clock) ms
above_last rank most base before [] row k d low = absurd (omega (arith, low))
above_last rank most base before (m ∷ ms) row zero d low = row.0.rises
above_last rank most base before (m ∷ ms) row (suc k) d low =
    let rises = row.0.rises in
    let last = last_clock-push before m in
    let after = above_last rank most base (before ++ m ∷ []) ms row.1 k d (omega (arith, low)) in
    omega (arith, rises, last, after)

-- their clocks rise
kept_rise : (rank most base : ℕ) (before ms : List PacketValue) → AllAfter (IsNextKept rank most base) before ms → AllPairs WasBefore ms
kept_rise rank most base before [] row = λ i j d first low. absurd (omega (arith, low))
kept_rise rank most base before (m ∷ ms) row =
    let last = last_clock-push before m in
    let above : All (WasBefore m) ms = λ k d low.
    let after = above_last rank most base (before ++ m ∷ []) ms row.1 k d low in omega (arith, last, after)
    in
    AllPairs-cons WasBefore m ms above (kept_rise rank most base (before ++ m ∷ []) ms row.1)

-- what a lane of an image keeps was sent by this rank
sent_is : (rank clock : ℕ) (b : BacklogValue) → IsLane rank clock b → IsSentBy rank clock b
sent_is rank clock b is =
    let same : b.kept ++ b.held ≡ b.kept = ap (λ (ms : List PacketValue). b.kept ++ ms) is.held ∙ append-nil b.kept in
    let each = is.kept.each in
    let none : length b.held ≡ 0 = ap (length {A = PacketValue}) is.held in
    let sent = is.sent in
    record {
      sources = subst (All (λ (m : PacketValue). m.source ≡ rank)) (sym same)
          (all_of_row (IsNextKept rank clock b.base) (λ m. m.source ≡ rank) (λ before m next. next.tail.from) [] b.kept each);
      rising = subst (AllPairs WasBefore) (sym same) (kept_rise rank clock b.base [] b.kept each);
      within = subst (All (λ (m : PacketValue). m.clock ≤ clock)) (sym same)
          (all_of_row (IsNextKept rank clock b.base) (λ m. m.clock ≤ clock) (λ before m next. next.within) [] b.kept each);
      acts = omega (arith, none, sent);
    }

-- an image can be saved
savable_is : (format : Format) (p : ProgramValue) (rank size : ℕ) (i : ImageValue) → size ≤ most_ranks → IsImage format p rank size i
    → IsSavable i
savable_is format p rank size i few is =
    let ranks = is.machine.ranks in
    record {
      ranks = omega (arith, ranks, few);
      accepted = is.inbox.accepted.count ∙ sym ranks;
      log = is.log.count ∙ sym ranks;
      clock = is.clock;
      sent = subst (λ r. All (IsSentBy r i.clock) i.log) (sym is.machine.own)
          (all_of_row (λ before. IsLane rank i.clock) (IsSentBy rank i.clock) (λ before b lane. sent_is rank i.clock b lane) [] i.log
          is.log.each);
      settled = all_of_row (λ before. IsLane rank i.clock) (λ b. b.held ≡ []) (λ before b lane. lane.held) [] i.log is.log.each;
    }

-- the cursors of an image are at rest
lanes_stay : (rank clock : ℕ) (before bs : List BacklogValue) → AllAfter (λ front. IsLane rank clock) before bs → map rewound bs ≡ bs
lanes_stay rank clock before [] row = refl
lanes_stay rank clock before (b ∷ bs) row =
    let one : rewound b ≡ b = λ i. record b { cursor = sym row.0.cursor i; held = sym row.0.held i } in
    let rest = lanes_stay rank clock (before ++ b ∷ []) bs row.1 in
    λ i. one i ∷ rest i

-- so is the image
rests : (format : Format) (p : ProgramValue) (rank size : ℕ) (i : ImageValue) → IsImage format p rank size i → at_rest i ≡ i
rests format p rank size i is = let stay = lanes_stay rank i.clock [] i.log is.log.each in λ j. record i { log = stay j }

-- what was found can be saved
pub found_savable : {X : Type 0} (p : ProgramValue) (rank size : ℕ) (bytes : List ℕ) (r : Result X ImageFault) (view : X → ImageValue)
    → size ≤ most_ranks
    → IfOk r (λ x. IsTextOf p rank size bytes (view x)) → IfOk r (λ x. IsSavable (view x))
found_savable p rank size bytes (Ok x) view few found = savable_is found.0 p rank size (view x) few found.1.image
found_savable p rank size bytes (Err e) view few found = tt

-- and it is at rest
pub found_rests : {X : Type 0} (p : ProgramValue) (rank size : ℕ) (bytes : List ℕ) (r : Result X ImageFault) (view : X → ImageValue)
    → IfOk r (λ x. IsTextOf p rank size bytes (view x)) → IfOk r (λ x. at_rest (view x) ≡ view x)
found_rests p rank size bytes (Ok x) view found = rests found.0 p rank size (view x) found.1.image
found_rests p rank size bytes (Err e) view found = tt
