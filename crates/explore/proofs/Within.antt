-- A run that is made again needs no more steps than it needed before. For what a rank has made with a history is determined: its
-- machine, and of each number of steps which of them are acts. So a rank that has made all its steps, with an act of the run still to
-- make, would need more for the run.
use Rattle.std.proofs.Common.{◌≡◌, ℕ, zero, suc, ◌+◌, ◌<◌, ◌≤◌, List, [], ◌∷◌}
use Rattle.std.proofs.Common.{◌++◌, Option, length, slice_get, ◌⊎◌, inl, inr, refl, sym, ap, subst, ◌∙◌, arith}
use Rattle.std.specs.Prelude.{slice_index, take}
use Rattle.std.proofs.lemmas.Bool.{cases_eq}
use Rattle.std.proofs.lemmas.List.{append-nil, append_assoc, append_cancel_left, length-append, take-append-le}
use Rattle.std.proofs.Math.Seq.{take-append_seam, take-length}
use Rattle.rank_language.specs.Program.{ProgramValue}
use Rattle.rank_machine.specs.declared.want.Want.TheVariants as want
use Rattle.rank_machine.specs.States.{State}
use Rattle.rank_machine.specs.Wants.{payload}
use Rattle.rank_machine.specs.Acts.{Act, Message, Fits}
use Rattle.rank_machine.specs.Machine.{MachineValue, state_of, machine_want, GoesOn}
use Rattle.crash_free.specs.Parts.{IsBeginning}
use Rattle.crash_free.specs.Points.{GoesBehind}
use Rattle.crash_free.specs.Runs.{Passed, History, history, looked_up}
use Rattle.crash_free.specs.Sim.{SimValue, Begins, IsAfter, inbound_of}
use Rattle.crash_free.proofs.Lists.{history-own}
use Rattle.crash_free.proofs.Reorder.{IsBeginning-trans, history_grows}
use Rattle.crash_free.proofs.Advancing.{same_machine, same_step, same_act}
use Rattle.explore.specs.Counting.{HasMade, begins, inside, acts}
use Rattle.explore.specs.Counts.{Counts, NeedsAtMost}
use Rattle.explore.specs.Searching.{IsAlike}
use Rattle.explore.proofs.Beyond.{all_made}
use Rattle.audit.proofs.Reaching.{some_there}

-- One machine

-- a rank begins with one
one_begins : (program : ProgramValue) (n r : ℕ) (a b : MachineValue) → Begins program n r a → Begins program n r b → a ≡ b
one_begins program n r a b x y =
    same_machine a b (x.program_same ∙ sym y.program_same) (x.position ∙ sym y.position) (x.store ∙ sym y.store)
    (ap (λ (s : State). s.fault) (x.state ∙ sym y.state))

-- What a rank has made

-- an act of a rank, with the message that it took or hit
abbrev Done : Type 0
Done = Act × Option Message

-- a machine that is to make a step of its own makes no act
no_act : (a b : MachineValue) (x : Done) → a ≡ b → machine_want a ≡ want.Internal → Fits (machine_want b) (payload (state_of b)) x.0 x.1 → ⊥
no_act a b x same wants fits =
    subst (λ w. Fits w (payload (state_of b)) x.0 x.1) (ap machine_want (sym same) ∙ wants) fits

-- what comes next in one history is the same
same_next : (h g later more : History) (x y : Done) → h ≡ g → h ++ x ∷ later ≡ g ++ y ∷ more → x ≡ y
same_next h g later more x y same e =
    let rest : x ∷ later ≡ y ∷ more = append_cancel_left g (x ∷ later) (y ∷ more) (ap (λ (z : History). z ++ x ∷ later) (sym same) ∙ e) in
    cc

-- with two beginnings of one history, by as many steps, a rank has made the same, and its machine is the same
pub one_made : (program : ProgramValue) (n r : ℕ) (H h g : History) (j k : ℕ) (a b : MachineValue) → HasMade program n r h j a → HasMade program n r g k b
    → j ≡ k → (later more : History) → H ≡ h ++ later → H ≡ g ++ more → (h ≡ g) × (a ≡ b)
one_made program n r H h g j k a b (begins x) (begins y) same later more e f = (refl, one_begins program n r a b x y)
one_made program n r H h g j k a b (begins x) (inside {k = k'} y wants goes) same later more e f = absurd (omega (arith, same))
one_made program n r H h g j k a b (begins x) (acts {k = k'} act message y fits after) same later more e f = absurd (omega (arith, same))
one_made program n r H h g j k a b (inside {k = j'} x wants goes) (begins y) same later more e f = absurd (omega (arith, same))
one_made program n r H h g j k a b (acts {k = j'} act message x fits after) (begins y) same later more e f = absurd (omega (arith, same))
one_made program n r H h g j k a b (inside {k = j'} {m = a'} x wants goes) (inside {k = k'} {m = b'} y wants' goes') same later more e f =
    let before = one_made program n r H h g j' k' a' b' x y (omega (arith, same)) later more e f in
    (before.0, same_step b' a b (subst (λ m. GoesOn m a) before.1 goes) goes')
one_made program n r H h g j k a b (inside {k = j'} {m = a'} x wants goes)
    (acts {h = g'} {k = k'} {m = b'} act message y fits after) same later more e f =
    let before =
    one_made program n r H h g' j' k' a' b' x y (omega (arith, same)) later ((act, message) ∷ more) e
    (f ∙ append_assoc g' ((act, message) ∷ []) more) in
    absurd (no_act a' b' (act, message) before.1 wants fits)
one_made program n r H h g j k a b (acts {h = h'} {k = j'} {m = a'} act message x fits after)
    (inside {k = k'} {m = b'} y wants goes) same later more e f =
    let before =
    one_made program n r H h' g j' k' a' b' x y (omega (arith, same)) ((act, message) ∷ later) more
    (e ∙ append_assoc h' ((act, message) ∷ []) later) f in
    absurd (no_act b' a' (act, message) (sym before.1) wants fits)
one_made program n r H h g j k a b (acts {h = h'} {k = j'} {m = a'} act message x fits after)
    (acts {h = g'} {k = k'} {m = b'} act' message' y fits' after') same later more e f =
    let one = e ∙ append_assoc h' ((act, message) ∷ []) later in
    let two = f ∙ append_assoc g' ((act', message') ∷ []) more in
    let before = one_made program n r H h' g' j' k' a' b' x y (omega (arith, same)) ((act, message) ∷ later) ((act', message') ∷ more) one two in
    let next : (act, message) ≡ (act', message') = same_next h' g' later more (act, message) (act', message') before.0 (sym one ∙ two) in
    let there = subst (λ m. IsAfter m act message a) before.1 after in (
      ap (λ (z : History). z ++ (act, message) ∷ []) before.0 ∙ ap (λ (z : Done). g' ++ z ∷ []) next,
      same_act b' a b act' message' (subst (λ (z : Done). IsAfter b' z.0 z.1 a) next there) after',
    )

-- what a rank had made by fewer steps
record Earlier (program : ProgramValue) (n r : ℕ) (h : History) (j : ℕ) : Type 0 where
  before : History
  later : History
  machine : MachineValue
  made : HasMade program n r before j machine
  parts : h ≡ before ++ later

-- as many as it made
at_last : (program : ProgramValue) (n r : ℕ) (h : History) (k : ℕ) (m : MachineValue) → HasMade program n r h k m → (j : ℕ) → j ≡ k
    → Earlier program n r h j
at_last program n r h k m made j e =
    record {
      before = h;
      later = [];
      machine = m;
      made = subst (λ i. HasMade program n r h i m) (sym e) made;
      parts = sym (append-nil h);
    }

-- it had made fewer before
earlier : (program : ProgramValue) (n r : ℕ) (h : History) (k : ℕ) (m : MachineValue) → HasMade program n r h k m → (j : ℕ) → j ≤ k
    → Earlier program n r h j
earlier program n r h k m (begins x) j low = at_last program n r [] 0 m (begins x) j (omega (arith, low))
earlier program n r h k m (inside {k = k'} {m = m'} x wants goes) j low = go (λ few. earlier program n r h k' m' x j few) (cases_eq j (k' + 1))
  where
    go : (j ≤ k' → Earlier program n r h j) → (j ≡ k' + 1) ⊎ (j ≡ k' + 1 → ⊥) → Earlier program n r h j
    go rest (inl e) = at_last program n r h (k' + 1) m (inside x wants goes) j e
    go rest (inr apart) = rest (omega (arith, low, apart))
earlier program n r h k m (acts {h = h'} {k = k'} {m = m'} act message x fits after) j low =
    go (λ few. earlier program n r h' k' m' x j few) (cases_eq j (k' + 1))
  where
    go : (j ≤ k' → Earlier program n r h' j) → (j ≡ k' + 1) ⊎ (j ≡ k' + 1 → ⊥) → Earlier program n r (h' ++ (act, message) ∷ []) j
    go rest (inl e) = at_last program n r (h' ++ (act, message) ∷ []) (k' + 1) m (acts act message x fits after) j e
    go rest (inr apart) =
        let it = rest (omega (arith, low, apart)) in
        record {
          before = it.before;
          later = it.later ++ (act, message) ∷ [];
          machine = it.machine;
          made = it.made;
          parts = ap (λ (z : History). z ++ (act, message) ∷ []) it.parts ∙ append_assoc it.before it.later ((act, message) ∷ []);
        }

-- what a rank made with the beginning of its history it made in no more steps
record Sooner (program : ProgramValue) (n r : ℕ) (h : History) (k : ℕ) : Type 0 where
  steps : ℕ
  machine : MachineValue
  made : HasMade program n r h steps machine
  few : steps ≤ k

-- no acts
abbrev none : History
none = []

-- the first of none are none
first_none : (i : ℕ) → none ≡ take i none
first_none zero = refl
first_none (suc i) = refl

-- so many acts of it
sooner : (program : ProgramValue) (n r : ℕ) (h : History) (k : ℕ) (m : MachineValue) → HasMade program n r h k m → (i : ℕ) → i ≤ length h
    → Sooner program n r (take i h) k
sooner program n r h k m (begins x) i low =
    subst (λ (g : History). Sooner program n r g 0) (first_none i) (record { steps = 0; machine = m; made = begins x; few = omega arith })
sooner program n r h k m (inside {k = k'} {m = m'} x wants goes) i low =
    let it = sooner program n r h k' m' x i low in
    let few = it.few in
    record { steps = it.steps; machine = it.machine; made = it.made; few = omega (arith, few) }
sooner program n r h k m (acts {h = h'} {k = k'} {m = m'} act message x fits after) i low =
    go (λ few. sooner program n r h' k' m' x i few) (cases_eq i (length h' + 1))
  where
    whole : History
    whole = h' ++ (act, message) ∷ []

    size : length whole ≡ length h' + 1
    size = length-append h' ((act, message) ∷ [])

    go : (i ≤ length h' → Sooner program n r (take i h') k') → (i ≡ length h' + 1) ⊎ (i ≡ length h' + 1 → ⊥)
        → Sooner program n r (take i whole) (k' + 1)
    go rest (inl e) =
        let all : take i whole ≡ whole = ap (λ j. take j whole) (e ∙ sym size) ∙ take-length whole in
        subst (λ (g : History). Sooner program n r g (k' + 1)) (sym all)
        (record { steps = k' + 1; machine = m; made = acts act message x fits after; few = omega arith })
    go rest (inr apart) =
        let few : i ≤ length h' = omega (arith, low, apart, size) in
        let it = rest few in
        let most = it.few in
        subst (λ (g : History). Sooner program n r g (k' + 1)) (sym (take-append-le i h' ((act, message) ∷ []) few))
        (record { steps = it.steps; machine = it.machine; made = it.made; few = omega (arith, most) })

-- The acts of a run

-- a run has of each rank the history that it had before
pub history_behind : (later D : List Passed) (r : ℕ) → IsBeginning (history D r) (history (later ++ D) r)
history_behind [] D r = ([], sym (append-nil (history D r)))
history_behind (p ∷ later) D r =
    IsBeginning-trans (history D r) (history (later ++ D) r) (history (p ∷ (later ++ D)) r) (history_behind later D r) (history_grows (later ++ D) p r)

-- a run needs no more steps than one that goes on behind it
pub needs_before : (program : ProgramValue) (n steps : ℕ) (C D : List Passed) → GoesBehind D C → NeedsAtMost program n steps C
    → NeedsAtMost program n steps D
needs_before program n steps C D behind needs r low =
    let it = needs r low in
    let begins : IsBeginning (history D r) (history C r) =
    subst (λ (X : List Passed). IsBeginning (history D r) (history X r)) (sym behind.1) (history_behind behind.0 D r) in
    let size = ap length begins.1 ∙ length-append (history D r) begins.0 in
    let first : take (length (history D r)) (history C r) ≡ history D r =
    ap (λ (h : History). take (length (history D r)) h) begins.1 ∙ take-append_seam (history D r) begins.0 in
    let less = sooner program n r (history C r) it.0 it.1 it.2 (length (history D r)) (omega (arith, size)) in
    let few = less.few in
    let most = it.3 in
    (less.steps, less.machine, subst (λ (h : History). HasMade program n r h less.steps less.machine) first less.made, omega (arith, few, most))

-- a simulation needs for its run no more than its ranks have made
pub needs_counted : (s : SimValue) (left : List ℕ) (steps : ℕ) → Counts steps s left → NeedsAtMost s.program (length s.machines) steps s.run
needs_counted s left steps counts r low =
    let it = counts r low in
    let all = it.2 in
    let m = some_there (slice_get s.machines r) (λ x. HasMade s.program (length s.machines) r (history s.run r) it.0 x) it.1 in
    (it.0, m.0, m.2, omega (arith, all))

-- a rank that has made so many steps has made all acts of a run that needs no more
enough_left : (program : ProgramValue) (n steps : ℕ) (C : List Passed) (p : Passed) (m : MachineValue) → p.rank < n
    → HasMade program n p.rank (history C p.rank) steps m → NeedsAtMost program n steps (p ∷ C) → ⊥
enough_left program n steps C p m low all needs =
    let it = needs p.rank low in
    let most = it.3 in
    let h = history C p.rank in
    let x : Done = (p.act, looked_up (inbound_of C p.rank) p.act) in
    let made : HasMade program n p.rank (h ++ x ∷ []) it.0 it.1 =
    subst (λ (g : History). HasMade program n p.rank g it.0 it.1) (history-own C p.rank p.act) it.2 in
    let then = earlier program n p.rank h steps m all it.0 most in
    let same =
    one_made program n p.rank (h ++ x ∷ []) then.before (h ++ x ∷ []) it.0 it.0 then.machine it.1 then.made made refl (then.later ++ x ∷ []) []
    (ap (λ (z : History). z ++ x ∷ []) then.parts ∙ append_assoc then.before then.later (x ∷ [])) (sym (append-nil (h ++ x ∷ []))) in
    let long = ap length same.0 ∙ length-append h (x ∷ []) in
    let parts = ap length then.parts ∙ length-append then.before then.later in
    omega (arith, long, parts)

-- so has one of another simulation of the same program, after the same run
pub has_steps : (s t : SimValue) (left : List ℕ) (steps : ℕ) (p : Passed) → IsAlike s t → t.run ≡ s.run → p.rank < length s.machines
    → Counts steps t left → NeedsAtMost s.program (length s.machines) steps (p ∷ s.run) → slice_index left p.rank ≡ 0 → ⊥
has_steps s t left steps p alike same low counts needs none =
    let all = all_made t left steps p.rank (omega (arith, low, alike.ranks)) none counts in
    enough_left s.program (length s.machines) steps s.run p all.0 low
    (subst (λ (C : List Passed). HasMade s.program (length s.machines) p.rank (history C p.rank) steps all.0) same
    (subst (λ n. HasMade s.program n p.rank (history t.run p.rank) steps all.0) alike.ranks
    (subst (λ q. HasMade q (length t.machines) p.rank (history t.run p.rank) steps all.0) alike.program all.2))) needs
