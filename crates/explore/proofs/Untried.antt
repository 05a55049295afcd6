-- A program without a probe that doesn't wait: no rank ever asks for one, so none ever misses.
use Rattle.std.proofs.Common.{◌≡◌, ℕ, ◌+◌, suc, Bool, true, false, List, [], ◌∷◌, ◌++◌, Option, Some, None, refl, sym, subst, inl, inr}
use Rattle.matching.specs.declared.selector.Selector.{Selector}
use Rattle.rank_language.specs.Placed.{Simple, declare, declare_array, assign, assign_item, send, receive, probe, try_probe, print, collect}
use Rattle.rank_language.specs.Block.{Block, done, plain, if_only, if_else, loop, ◌then◌, size, taken}
use Rattle.rank_language.specs.Block.{Line, else_line, end_line, back_line, lines_at}
use Rattle.rank_language.specs.Program.{ProgramValue, block_of}
use Rattle.rank_machine.specs.declared.fault.MachineFault.{MachineFault}
use Rattle.rank_machine.specs.declared.want.Want.{Want}
use Rattle.rank_machine.specs.declared.want.Want.TheVariants as want
use Rattle.rank_machine.specs.Values.{Store}
use Rattle.rank_machine.specs.States.{State, Inners, here, on, item_value}
use Rattle.rank_machine.specs.Wants.{want_of, or_fault, first_want, simple_want}
use Rattle.rank_machine.specs.Acts.{Act, Message, Runs, next}
use Rattle.rank_machine.proofs.Lines.{never, sends_only, receives_only, probes_only, prints_only, collects_only, tests_only}
use Rattle.crash_free.specs.Runs.{Passed}
use Rattle.crash_free.specs.Sim.{start_of}
use Rattle.explore.specs.Shown.{is_try_probe, is_try_line, HasTryProbe, MissesShown, NeverMissesShown}
use Rattle.explore.proofs.SilentSteps.{Behind, inner_follows, next_follows}

-- none of these lines is one
abbrev AllUntried : List Line → Type 0
AllUntried [] = Unit {0}
AllUntried (l ∷ lines) = (is_try_line l ≡ true → ⊥) × AllUntried lines

all_untried : (lines : List Line) → (HasTryProbe lines → ⊥) → AllUntried lines
all_untried [] none = tt
all_untried (l ∷ lines) none = (λ it. none (0, it), all_untried lines (λ it. none (suc it.0, it.1)))

-- so it is of the first lines, and of the others
parted : (first second : List Line) → AllUntried (first ++ second) → AllUntried first × AllUntried second
parted [] second all = (tt, all)
parted (l ∷ first) second all = (let both = parted first second all.1 in ((all.0, both.0), both.1))

-- none of these statements is one, nor of those in them
abbrev Untried : Block → Type 0
Untried done = Unit {0}
Untried (plain x r) = (is_try_probe x ≡ true → ⊥) × Untried r
Untried (if_only e y r) = Untried y × Untried r
Untried (if_else e y o r) = Untried y × (Untried o × Untried r)
Untried (loop e y r) = Untried y × Untried r

by_lines : (n : ℕ) (b : Block) → AllUntried (lines_at n b) → Untried b
by_lines n done all = tt
by_lines n (plain x r) all = (all.0, by_lines (n + 1) r all.1)
by_lines n (if_only e y r) all =
    let m = n + 1 + size y in
    let both = parted (lines_at (n + 1) y) (end_line ∷ lines_at (m + 1) r) all.1 in
    (by_lines (n + 1) y both.0, by_lines (m + 1) r both.1.1)
by_lines n (if_else e y o r) all =
    let m = n + 1 + size y in
    let q = m + 1 + size o in
    let both = parted (lines_at (n + 1) y) (else_line (q + 1) ∷ (lines_at (m + 1) o ++ end_line ∷ lines_at (q + 1) r)) all.1 in
    let rest = parted (lines_at (m + 1) o) (end_line ∷ lines_at (q + 1) r) both.1.1 in
    (by_lines (n + 1) y both.0, (by_lines (m + 1) o rest.0, by_lines (q + 1) r rest.1.1))
by_lines n (loop e y r) all =
    let m = n + 1 + size y in
    let both = parted (lines_at (n + 1) y) (back_line n ∷ lines_at (m + 1) r) all.1 in
    (by_lines (n + 1) y both.0, by_lines (m + 1) r both.1.1)

-- Steps

-- one list of statements after another
joined : (b k : Block) → Untried b → Untried k → Untried (b then k)
joined done k holds later = later
joined (plain x r) k holds later = (holds.0, joined r k holds.1 later)
joined (if_only e y r) k holds later = (holds.0, joined r k holds.1 later)
joined (if_else e y o r) k holds later = (holds.0, (holds.1.0, joined r k holds.1.1 later))
joined (loop e y r) k holds later = (holds.0, joined r k holds.1 later)

-- behind a test
tested_on : (truth : Bool) (b : Block) → Untried b → Untried (taken truth b)
tested_on truth done holds = tt
tested_on truth (plain x r) holds = holds
tested_on true (if_only e y r) holds = joined y r holds.0 holds.1
tested_on false (if_only e y r) holds = holds.1
tested_on true (if_else e y o r) holds = joined y r holds.0 holds.1.1
tested_on false (if_else e y o r) holds = joined o r holds.1.0 holds.1.1
tested_on true (loop e y r) holds = joined y (loop e y r) holds.0 holds
tested_on false (loop e y r) holds = holds.1

-- wherever a step leads
steps_on : (b c : Block) → Behind b c → Untried b → Untried c
steps_on b c (inl same) holds = subst Untried (sym same) holds
steps_on b c (inr (inl x)) holds = (subst Untried x.1 holds).1
steps_on b c (inr (inr x)) holds = subst Untried (sym x.3) (tested_on x.0 b holds)

inners_on : {a b : State} → Inners a b → Untried a.rest → Untried b.rest
inners_on here none = none
inners_on {a = a} (on {b = b} e r) none = inners_on r (steps_on a.rest b.rest (inner_follows a b e).rest none)

runs_on : (a : State) (made : List (Act × Option Message)) (b : State) → Runs a made b → Untried a.rest → Untried b.rest
runs_on a [] b is none = subst (λ z. Untried z.rest) (sym is) none
runs_on a (x ∷ xs) b (c, (mid, steps, makes, after), more) none =
    runs_on c xs b more
    (subst (λ z. Untried z.rest) (sym after)
    (steps_on mid.rest (next mid x.0 x.1).rest (next_follows mid x.0 x.1).rest (inners_on steps none)))

-- What is asked for

abbrev Tries : Selector → Want → Type 0
Tries w x = x ≡ want.TryProbe w

simple_none : (s : Store) (w : Selector) (x : Simple) → (is_try_probe x ≡ true → ⊥) → Tries w (or_fault (simple_want s x)) → ⊥
simple_none s w (declare p) none e = cc
simple_none s w (declare_array p) none e = cc
simple_none s w (assign p v) none e = tests_only (Tries w) s v (λ k f. cc) (λ f. cc) e
simple_none s w (assign_item p i v) none e = never (Tries w) (item_value s p i v) _ (λ k f. cc) (λ x f. cc) e
simple_none s w (send d t p) none e = sends_only (Tries w) s d t p (λ k f. cc) (λ dest tag f. cc) e
simple_none s w (receive c t b) none e = receives_only (Tries w) s c t (λ k f. cc) (λ x f. cc) e
simple_none s w (probe c t) none e = probes_only (Tries w) s c t (λ k f. cc) (λ x f. cc) e
simple_none s w (try_probe c t x) none e = none refl
simple_none s w (print v) none e = prints_only (Tries w) s v (λ k f. cc) (λ z f. cc) e
simple_none s w (collect c) none e = collects_only (Tries w) s c (λ k f. cc) (λ dest f. cc) (λ source f. cc) (λ f. cc) e

first_none : (s : Store) (w : Selector) (b : Block) → Untried b → Tries w (or_fault (first_want s b)) → ⊥
first_none s w done none e = cc
first_none s w (plain x r) none e = simple_none s w x none.0 e
first_none s w (if_only v y r) none e = tests_only (Tries w) s v (λ k f. cc) (λ f. cc) e
first_none s w (if_else v y o r) none e = tests_only (Tries w) s v (λ k f. cc) (λ f. cc) e
first_none s w (loop v y r) none e = tests_only (Tries w) s v (λ k f. cc) (λ f. cc) e

want_none : (s : Store) (w : Selector) (b : Block) (fault : Option MachineFault) → Untried b → Tries w (want_of s b fault) → ⊥
want_none s w b None none e = first_none s w b none e
want_none s w b (Some k) none e = cc

misses_none : (program : ProgramValue) (n : ℕ) → Untried (block_of program) → (P : List Passed) → MissesShown (start_of program n) P → ⊥
misses_none program n none [] m = m
misses_none program n none (p ∷ P) (inl (is, miss)) =
    let it = miss.may in
    want_none it.stands.store miss.selector it.stands.rest it.stands.fault
    (inners_on it.inner (runs_on (start_of program n p.rank) _ it.after it.reached none)) miss.probes
misses_none program n none (p ∷ P) (inr later) = misses_none program n none P later

-- no run misses
pub never_missed : (program : ProgramValue) → program.statements ≡ lines_at 0 (block_of program) → (HasTryProbe program.statements → ⊥) → (n : ℕ)
    → NeverMissesShown program n
never_missed program lines none n P m =
    misses_none program n (by_lines 0 (block_of program) (subst AllUntried lines (all_untried program.statements none))) P m
