-- What the step of a turn is answered and counts, and what a turn begins with.
use Rattle.std.proofs.Common.{◌≡◌, ◌≢◌, ℕ, ◌+◌, ◌<◌, Bool, true, false, ◌||◌, Option, Some, None, Result, Ok, Err, refl, sym, ap, ◌∙◌, arith}
use Rattle.std.specs.Prelude.{IfOk, OnErr}
use Rattle.rank_machine.specs.declared.want.Want.{Want}
use Rattle.rank_machine.specs.declared.want.Want.TheVariants as want
use Rattle.rank_node.specs.declared.fault.NodeFault.{NodeFault}
use Rattle.rank_node.specs.declared.fault.NodeFault.TheVariants as fault
use Rattle.rank_node.specs.declared.turn.Turn.{Turn}
use Rattle.rank_node.specs.declared.turn.Turn.TheVariants as turn
use Rattle.rank_node.specs.Phases.{clock_in}
use Rattle.rank_threads.specs.Costs.{after_step}
use Rattle.rank_threads.specs.Phases.{want_in}
use Rattle.rank_threads.specs.Steps.{acts_made, acts_of, counted, is_limit, is_own, is_stopped, may_step, step_of, strides, told, turn_in, Counts, StridesIn}
use Rattle.rank_threads.specs.Tally.{after_steps}
use Rattle.rank_threads.specs.Turns.{Brings, IsBegun, MakesStride}
use Rattle.rank_threads.specs.Phases.{Phase}
use Rattle.rank_threads.specs.declared.life.Life.{Life}
use Rattle.rank_threads.specs.declared.turn.stepping.Stepped.{Stepped}
use Rattle.rank_threads.specs.declared.turn.stepping.Stepped.TheVariants as stepped
use Rattle.rank_threads.specs.declared.tally.Tally.{Tally}
use Rattle.rank_threads.specs.declared.turn.TurnStart.{TurnStart}
use Rattle.rank_threads.proofs.StepLaws.{moved_is_act, unmoved}

-- ---- strides

-- a rank that made no step of its own wants none
pub none_made : (w : Option Want) (made most : ℕ) → 0 < most → (0 < most → w ≡ Some want.Internal → made ≢ 0) → made ≡ 0 → is_own w ≡ false
none_made None made most some strides none = refl
none_made (Some want.Internal) made most some strides none = absurd (strides some refl none)
none_made (Some (want.Send dest context tag)) made most some strides none = refl
none_made (Some (want.Receive s)) made most some strides none = refl
none_made (Some (want.Probe s)) made most some strides none = refl
none_made (Some (want.TryProbe s)) made most some strides none = refl
none_made (Some (want.Print value)) made most some strides none = refl
none_made (Some want.Halted) made most some strides none = refl
none_made (Some (want.Faulted k)) made most some strides none = refl

-- one that made some wanted one
pub some_made : (w : Option Want) (made : ℕ) → 0 < made → (made ≢ 0 → w ≡ Some want.Internal) → is_own w ≡ true
some_made w made some own = ap is_own (own (omega (arith, some)))

-- a rank that may not step makes no stride
pub strides_barred : (t : Tally) (p : Phase) → may_step t ≡ false → strides t p ≡ false
strides_barred t p barred = rw (barred) refl

-- nor does one that wants no step of its own
pub strides_other : (t : Tally) (p : Phase) → may_step t ≡ true → is_own (want_in p) ≡ false → strides t p ≡ false
strides_other t p may other = rw (may) other

-- any other does
pub strides_own : (t : Tally) (p : Phase) → may_step t ≡ true → is_own (want_in p) ≡ true → strides t p ≡ true
strides_own t p may own = rw (may) own

-- one that makes none is as it was
pub no_stride_made : (most : ℕ) (old new : Life) → strides old.kit.tally old.node.phase ≡ false → new.node.phase ≡ old.node.phase
    → new.kit.tally ≡ old.kit.tally → MakesStride most old new
no_stride_made most old new none same counts =
    record { made = λ some. (let both : true ≡ false = sym some ∙ none in absurd cc); none = λ f. (same, counts); clock = ap clock_in same }

-- one that makes one counts it
pub stride_made : (most made : ℕ) (old new : Life) → strides old.kit.tally old.node.phase ≡ true → 0 < made
    → StridesIn made old.node.phase new.node.phase → new.kit.tally ≡ after_steps old.kit.tally made most false
    → clock_in new.node.phase ≡ clock_in old.node.phase → MakesStride most old new
stride_made most made old new own some strode counts clock = record {
  made = λ t. (made, omega (arith, some), strode, counts);
  none = λ none. (let both : true ≡ false = sym own ∙ none in absurd cc);
  clock = clock;
}

-- what isn't a step of the machine's own
foreign : (w : Option Want) → is_own w ≡ false → w ≢ Some want.Internal
foreign w other own = (let both : true ≡ false = sym (ap is_own own) ∙ other in absurd cc)

-- ---- what is answered

-- a rank that a limit stopped has ended
pub answers_spent : (t : Tally) (p : Phase) → t.is_spent ≡ true → Ok stepped.Ended ≡ step_of t p
answers_spent t p spent = rw (spent) refl

-- one that is blocked isn't asked
pub answers_blocked : (t : Tally) (p : Phase) → t.is_spent ≡ false → t.is_blocked ≡ true → Ok stepped.Blocked ≡ step_of t p
answers_blocked t p spent blocked = rw (spent, blocked) refl

-- one that wants a step of its own makes it
pub answers_own : (t : Tally) (p : Phase) → t.is_spent ≡ false → t.is_blocked ≡ false → is_own (want_in p) ≡ true → Ok stepped.Moved ≡ step_of t p
answers_own t p spent blocked own = rw (spent, blocked, own) refl

-- any other makes the step that its state says
pub answers_told : (t : Tally) (p : Phase) (answer : Result Turn NodeFault) (result : Result Stepped NodeFault) → t.is_spent ≡ false
    → t.is_blocked ≡ false → is_own (want_in p) ≡ false → (answer ≢ Err fault.Memory → answer ≡ turn_in p) → result ≡ told answer
    → result ≢ Err fault.Memory → result ≡ step_of t p
answers_told t p answer result spent blocked own says same memory =
    rw (spent, blocked, own) (same ∙ ap told (says (λ lacked. memory (same ∙ ap told lacked))))

-- ---- what is counted

-- of a rank that a limit stopped nothing
pub counts_spent : (most : ℕ) (p q : Phase) (t : Tally) → t.is_spent ≡ true → Counts most p q stepped.Ended t t
counts_spent most p q t spent = ap (λ b. record t { is_spent = b }) (go (is_stopped (turn_in p)))
  where
    go : (b : Bool) → t.is_spent ≡ (b || t.is_spent)
    go true = spent
    go false = refl

-- of one that is blocked nothing more
pub counts_blocked : (most : ℕ) (p q : Phase) (t : Tally) → t.is_blocked ≡ true → Counts most p q stepped.Blocked t t
counts_blocked most p q t blocked = ap (λ b. record t { is_blocked = b }) blocked

-- of a step that the state says what it was
counts_step : (most : ℕ) (p q : Phase) (t : Tally) (answer : Result Turn NodeFault) → (answer ≢ Err fault.Memory → answer ≡ turn_in p)
    → IfOk (told answer) (λ s. Counts most p q s t (counted most answer t))
counts_step most p q t (Ok turn.Moved) says = refl
counts_step most p q t (Ok turn.Blocked) says = refl
counts_step most p q t (Ok turn.Held) says = refl
counts_step most p q t (Ok turn.Ended) says =
    let same : Ok turn.Ended ≡ turn_in p = says (λ lacked. absurd cc) in
    ap (λ a. record t { is_spent = is_stopped a || t.is_spent }) same
counts_step most p q t (Err fault.ClockSpent) says =
    let same : Err fault.ClockSpent ≡ turn_in p = says (λ lacked. absurd cc) in
    ap (λ a. record t { is_spent = is_stopped a || t.is_spent }) same
counts_step most p q t (Err fault.Log) says =
    let same : Err fault.Log ≡ turn_in p = says (λ lacked. absurd cc) in
    ap (λ a. record t { is_spent = is_stopped a || t.is_spent }) same
counts_step most p q t (Err fault.Memory) says = tt
counts_step most p q t (Err fault.NotSettled) says = tt
counts_step most p q t (Err fault.Shelf) says = tt
counts_step most p q t (Err fault.Image) says = tt
counts_step most p q t (Err fault.Replay) says = tt

-- where a limit refuses the step it is told that the rank has ended
pub told_limit : (f : NodeFault) → is_limit f ≡ true → Ok stepped.Ended ≡ told (Err f)
told_limit f limit = rw (limit) refl

-- and that is counted
pub counted_limit : (most : ℕ) (f : NodeFault) (t : Tally) → is_limit f ≡ true → record t { is_spent = true } ≡ counted most (Err f) t
counted_limit most f t limit = rw (limit) refl

-- any other fault is told
pub told_fault : (f : NodeFault) → is_limit f ≡ false → Err f ≡ told (Err f)
told_fault f other = rw (other) refl

-- and not counted
pub counted_fault : (most : ℕ) (f : NodeFault) (t : Tally) → is_limit f ≡ false → t ≡ counted most (Err f) t
counted_fault most f t other = rw (other) refl

-- what is counted of a step that wasn't one of the machine's own is what the state before it says
pub counts_told : (most : ℕ) (p q : Phase) (t s u : Tally) (answer : Result Turn NodeFault) (result : Result Stepped NodeFault)
    → s ≡ t → (answer ≢ Err fault.Memory → answer ≡ turn_in p) → result ≡ told answer → u ≡ counted most answer s
    → IfOk result (λ x. Counts most p q x t u)
counts_told most p q t s u answer result kept says same after =
    rw (same, after, kept) (counts_step most p q t answer says)

-- ---- how the clock grows

-- by what the turn is told
told_clock : (w : Option Want) (answer : Result Turn NodeFault) (old new : ℕ) → is_own w ≡ false
    → IfOk answer (λ t. new ≡ old + acts_made w t) → OnErr answer (new ≡ old) → IfOk (told answer) (λ s. new ≡ old + acts_of s)
told_clock w (Ok turn.Moved) old new own grows stays = grows ∙ ap (λ n. old + n) (moved_is_act w (foreign w own))
told_clock w (Ok turn.Blocked) old new own grows stays = grows ∙ ap (λ n. old + n) (unmoved w turn.Blocked refl)
told_clock w (Ok turn.Held) old new own grows stays = grows ∙ ap (λ n. old + n) (unmoved w turn.Held refl)
told_clock w (Ok turn.Ended) old new own grows stays = grows ∙ ap (λ n. old + n) (unmoved w turn.Ended refl)
told_clock w (Err fault.ClockSpent) old new own grows stays = stays ∙ omega arith
told_clock w (Err fault.Log) old new own grows stays = stays ∙ omega arith
told_clock w (Err fault.Memory) old new own grows stays = tt
told_clock w (Err fault.NotSettled) old new own grows stays = tt
told_clock w (Err fault.Shelf) old new own grows stays = tt
told_clock w (Err fault.Image) old new own grows stays = tt
told_clock w (Err fault.Replay) old new own grows stays = tt

-- where the rank stays as it was, so does its clock
same_clock : (answer : Result Turn NodeFault) (p q : Phase) → OnErr answer (q ≡ p) → OnErr answer (clock_in q ≡ clock_in p)
same_clock (Ok t) p q same = tt
same_clock (Err f) p q same = ap clock_in same

-- so the clock of a rank that wants no step of its own grows by what the turn is told
pub clock_told : (p q : Phase) (answer : Result Turn NodeFault) (result : Result Stepped NodeFault) → result ≡ told answer
    → is_own (want_in p) ≡ false → IfOk answer (λ t. clock_in q ≡ clock_in p + acts_made (want_in p) t) → OnErr answer (q ≡ p)
    → IfOk result (λ s. clock_in q ≡ clock_in p + acts_of s)
clock_told p q answer result same own grows stays =
    rw (same) (told_clock (want_in p) answer (clock_in p) (clock_in q) own grows (same_clock answer p q stays))

-- ---- how a turn begins

-- the rank made a stride, took what its lanes brought, and made the step that its state said then
pub is_begun : (most : ℕ) (old first mid new : Life) (begun : TurnStart) → MakesStride most old first → Brings begun.brought first mid
    → (Ok begun.stepped ≢ Err fault.Memory → Ok begun.stepped ≡ step_of mid.kit.tally mid.node.phase)
    → new.kit.meter ≡ after_step mid.kit.meter begun.stepped (clock_in new.node.phase) → IsBegun most old new begun
is_begun most old first mid new begun strode brings steps acts =
    record { first = first; strode = strode; mid = mid; brought = brings; stepped = steps (λ lacked. absurd cc); acts = acts }

pub ruleset stride_laws = (none_made, some_made, strides_barred, strides_other, strides_own, no_stride_made, stride_made)

pub ruleset count_laws = (told_limit, counted_limit, told_fault, counted_fault)

pub ruleset step_laws = (answers_spent, answers_blocked, answers_own, answers_told, counts_spent, counts_blocked, counts_told)
