-- A rank that has ended makes no act, whether or not a send holds it.
use Rattle.std.proofs.Common.{◌≢◌, ℕ, List, length, inl, subst}
use Rattle.rank_machine.specs.declared.want.Want.{Want}
use Rattle.rank_machine.specs.declared.want.Want.TheVariants as want
use Rattle.crash_free.specs.Sim.{SimValue, Simulates}
use Rattle.audit.specs.FinalRuns.Stills.{HasNothing}
use Rattle.explore.specs.Exploring.{HasOneAnswer}
use Rattle.explore.specs.Making.{HasEnded, HasEndedAt}
use Rattle.explore.specs.Moves.{AddsMoves}
use Rattle.explore.specs.declared.moves.Move.{Move}
use Rattle.explore.specs.declared.send_mode.SendMode.{SendMode}
use Rattle.explore.proofs.Moving.{moves_nothing, still_under}
use Rattle.explore.proofs.Sending.{buffered}

-- who has ended asks for nothing that a message answers
ended_nothing : (s : SimValue) (r : ℕ) (w : Want) → HasEnded w → HasNothing s r w
ended_nothing s r want.Halted ended = tt
ended_nothing s r (want.Faulted k) ended = tt
ended_nothing s r want.Internal ended = absurd ended
ended_nothing s r (want.Send d c t) ended = absurd ended
ended_nothing s r (want.Receive w) ended = absurd ended
ended_nothing s r (want.Probe w) ended = absurd ended
ended_nothing s r (want.TryProbe w) ended = absurd ended
ended_nothing s r (want.Print v) ended = absurd ended

-- nor for what has one answer
pub ended_none : (w : Want) → HasEnded w → HasOneAnswer w → ⊥
ended_none want.Halted ended one = one
ended_none (want.Faulted k) ended one = one
ended_none want.Internal ended one = ended
ended_none (want.Send d c t) ended one = ended
ended_none (want.Receive w) ended one = ended
ended_none (want.Probe w) ended one = ended
ended_none (want.TryProbe w) ended one = ended
ended_none (want.Print v) ended one = ended

-- nor for a step of its own
pub ended_still : (w : Want) → HasEnded w → w ≢ want.Internal
ended_still w ended same = (let none : HasEnded want.Internal = subst HasEnded same ended in none)

-- it has no moves
pub adds_ended : (mode : SendMode) → (s : SimValue) (r : ℕ) (moves : List Move) → Simulates s → HasEndedAt s.machines r → AddsMoves mode s r moves moves
adds_ended mode s r moves stands ended =
    let none = moves_nothing s r stands ended.0 moves ended.1 (ended_nothing s r ended.0 ended.2) in
    record {
      kept = λ m a. a;
      acts = λ m a. inl a;
      all = λ act may. none.all act (may.0, may.1, buffered (length s.machines) s.run r);
      still = λ e. still_under mode s r (none.still e);
      once = λ d o. d;
    }
