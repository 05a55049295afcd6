-- Each unfinished rank has a cause that was met, unless some rank lacks one.
use Rattle.std.proofs.Common.{◌≡◌, ℕ, ◌+◌, ◌≤◌, nat_le, Bool, true, false, ◌&&◌, if◌then◌else◌, List, [], ◌∷◌, ◌++◌, Option, Some, None, map, refl, ◌∙◌}
use Rattle.std.specs.Prelude.{IfSome}
use Rattle.std.proofs.lemmas.Bool.{leb-true}
use Rattle.std.proofs.lemmas.List.{append_assoc}
use Rattle.audit.specs.declared.outcome.End.{End}
use Rattle.audit.specs.declared.outcome.End.TheVariants as end
use Rattle.limits.specs.Limits.{greatest_clock, most_events}
use Rattle.event_logger.specs.Sequential.Event.{EventValue}
use Rattle.rank_threads.specs.Causes.{AreCaused, HasCause, HaveCauses, IsMet, cause_met, cause_of}
use Rattle.rank_threads.specs.Causes.{causes_from, events_at, if_unfinished, lacks, limit_met, uncaused_from}
use Rattle.rank_threads.specs.declared.report.cause.Cause.{Cause}
use Rattle.rank_threads.specs.declared.report.Report.{Report}
use Rattle.rank_threads.specs.declared.life.seating.Account.{Account}

-- one rank more
pub cause_more : (cs : List (Option Cause)) (c : Option Cause) (later all : List (Option Cause)) → cs ++ c ∷ later ≡ all
    → (cs ++ c ∷ []) ++ later ≡ all
cause_more cs c later all same = append_assoc cs (c ∷ []) later ∙ same

-- what is chosen by a test holds if it does in both cases
chosen : (P : Cause → Type 0) (b : Bool) (c : Cause) (later : Option Cause) → (b ≡ true → P c) → IfSome later P
    → IfSome (if b then Some c else later) P
chosen P true c later first second = first refl
chosen P false c later first second = second

-- and of two that may be chosen
either : (P : Cause → Type 0) (b : Bool) (c d : Option Cause) → IfSome c P → IfSome d P → IfSome (if b then c else d) P
either P true c d first second = first
either P false c d first second = second

-- a number that is found low enough is
low_enough : (a b : ℕ) → nat_le a b ≡ true → a ≤ b
low_enough a b low = leb-true a b low

-- a limit that a rank met was met
met_limit : (steps events : ℕ) (a : Account) → IfSome (limit_met steps events a) (IsMet steps events)
met_limit steps events a =
    chosen (IsMet steps events) (nat_le steps a.steps) _ _ (low_enough steps a.steps)
    (chosen (IsMet steps events) (nat_le greatest_clock a.stood.clock) _ _ (low_enough greatest_clock a.stood.clock)
    (chosen (IsMet steps events) (nat_le most_events events) _ _ (low_enough most_events events) tt))

-- so was each cause
met_cause : (steps events : ℕ) (a : Account) → IfSome (cause_met steps events a) (IsMet steps events)
met_cause steps events a =
    either (IsMet steps events) a.is_spent _ _ (met_limit steps events a)
    (chosen (IsMet steps events) (a.stood.is_replaying && a.stood.is_at_rest) _ _ (λ rests. tt) tt)

-- a rank that lacks none has one exactly if it is unfinished
has_cause : (steps events : ℕ) (e : End) (c : Option Cause) → IfSome c (IsMet steps events) → lacks e (if_unfinished e c) ≡ false
    → HasCause steps events e (if_unfinished e c)
has_cause steps events end.Halted c met some = refl
has_cause steps events (end.Faulted fault) c met some = refl
has_cause steps events end.Stalled c met some = refl
has_cause steps events end.Unfinished None met some = absurd cc
has_cause steps events end.Unfinished (Some c) met some = (c, refl, met)

-- a test that chooses no rank fails, and no later rank is chosen
none_chosen : (b : Bool) (rank : ℕ) (later : Option ℕ) → (if b then Some rank else later) ≡ None → (b ≡ false) × (later ≡ None)
none_chosen true rank later none = absurd cc
none_chosen false rank later none = (refl, none)

-- if no rank lacks a cause, each has one exactly if it is unfinished
are_caused : (steps rank : ℕ) (rows : List (List EventValue)) (accounts : List Account) → uncaused_from steps rank rows accounts ≡ None
    → HaveCauses steps rank rows (map (λ a. a.end) accounts) (causes_from steps rank rows accounts)
are_caused steps rank rows [] none = tt
are_caused steps rank rows (a ∷ accounts) none =
    let both = none_chosen (lacks a.end (cause_of steps (events_at rows rank) a)) rank (uncaused_from steps (rank + 1) rows accounts) none in (
      has_cause steps (events_at rows rank) a.end (cause_met steps (events_at rows rank) a) (met_cause steps (events_at rows rank) a) both.0,
      are_caused steps (rank + 1) rows accounts both.1,
    )

-- so the ranks of a report have causes that were made of what each came to
pub caused_report : (steps : ℕ) (rows : List (List EventValue)) (accounts : List Account) (report : Report) → uncaused_from steps 0 rows accounts ≡ None
    → report.outcome.rows ≡ rows → report.outcome.ends ≡ map (λ a. a.end) accounts → report.causes.items ≡ causes_from steps 0 rows accounts
    → AreCaused steps report
caused_report steps rows accounts report none same ends causes = rw (same, ends, causes) (are_caused steps 0 rows accounts none)
