-- How often ranks have crashed: as often as kills of the script were used.
use Rattle.std.proofs.Common.{◌≡◌, ℕ, zero, suc, ◌+◌, ◌-◌, ◌^◌, ◌≤◌, min, Bool, true, false, List, []}
use Rattle.std.proofs.Common.{◌∷◌, ◌++◌, map, length, Option, Some, None, if◌then◌else◌, refl, sym, ap, ◌∙◌, arith}
use Rattle.std.proofs.lemmas.List.{append_assoc}
use Rattle.rank_language.specs.Program.{ProgramValue}
use Rattle.rank_text.specs.Scripts.Script.{orders_of}
use Rattle.rank_text.specs.declared.script.line.ScriptLine.{ScriptLine}
use Rattle.rank_threads.specs.Kills.{kills_in, kills_used, kills_used_from, used_of}
use Rattle.rank_threads.proofs.KillLemmas.{used_first, kills_append, used_images, used_kill, stops_later, stops_there, stops_not, stops_low}
use Rattle.audit.specs.declared.outcome.End.{End}
use Rattle.rank_node.specs.declared.fault.NodeFault.{NodeFault}
use Rattle.rank_threads.specs.Endings.{crashes_by, end_after}
use Rattle.rank_threads.specs.Faults.{AreWell, crashes_from, fault_of, lacked_memory, lowest_from, met_by}
use Rattle.rank_threads.specs.Keeping.{IsLife, Lives, told, failed, last, again, WereKept}
use Rattle.rank_threads.specs.Phases.{Phase}
use Rattle.rank_threads.specs.Plans.{plans_below}
use Rattle.rank_threads.specs.Seating.{AreNew, accounts_of, plans_of}
use Rattle.rank_threads.specs.Used.{UsesLines}
use Rattle.rank_threads.specs.declared.life.ending.Ending.{Ending}
use Rattle.rank_threads.specs.declared.life.ending.Ending.TheVariants as ending
use Rattle.rank_threads.specs.declared.report.RunFault.{RunFault}
use Rattle.rank_threads.specs.declared.life.seating.Account.{Account}
use Rattle.rank_threads.specs.declared.life.station.Station.{Station}

-- the greatest number to which crashes are counted
abbrev most : ℕ
most = 2 ^ 64 - 1

-- These lines were used in a life that ended so, and how crashes were counted.
record UsedBy (old new : List ScriptLine) (e : Option End) : Type 0 where
  pub lines : List ScriptLine
  pub first : old ≡ lines ++ new
  pub counts : (crashes : ℕ) → crashes ≤ most → crashes_by e crashes ≡ min (crashes + kills_in lines) most

-- by the end with which the station came back
used_by : (how : Ending) (is_spent : Bool) (p : Phase) (old new : List ScriptLine) (e : Option End) → UsesLines how old new → e ≡ end_after how is_spent p
    → UsedBy old new e
used_by (ending.Crashed killed) is_spent p old new e lines end =
    let all = used_kill old lines.0 new killed.at lines.1 lines.2 in
    record {
      lines = all.lines;
      first = all.first;
      counts = λ crashes low. ap (λ x. crashes_by x crashes) end ∙ ap (λ n. min (crashes + n) most) (sym all.kills);
    }
used_by (ending.Left reason) is_spent p old new e lines end =
    let all = used_images old new lines in
    record {
      lines = all.lines;
      first = all.first;
      counts = λ crashes low.
          ap (λ x. crashes_by x crashes) end ∙ stops_not crashes most low ∙ ap (λ n. min (crashes + n) most) (sym all.kills);
    }

-- These lines were used between two stations, and so many kills are counted.
record Counted (old new : Station) : Type 0 where
  pub lines : List ScriptLine
  pub first : old.kit.plan ≡ lines ++ new.kit.plan
  pub crashes : new.kit.tally.crashes ≡ min (old.kit.tally.crashes + kills_in lines) most

-- in one life
life_counted : (program : ProgramValue) (old new : Station) → IsLife program old new → old.kit.tally.crashes ≤ most → Counted old new
life_counted program old new life low =
    let all = used_by life.how life.ended.kit.tally.is_spent life.ended.node.phase life.begun.kit.plan life.ended.kit.plan new.end life.lines life.leaves in
    record {
      lines = all.lines;
      first = sym life.plan ∙ all.first ∙ ap (λ l. all.lines ++ l) (sym life.left);
      crashes = life.crashes ∙ all.counts old.kit.tally.crashes low;
    }

-- in all lives of a rank that has no fault at the end
counted : (program : ProgramValue) (old new : Station) → Lives program old new → new.kit.tally.fault ≡ None → old.kit.tally.crashes ≤ most → Counted old new
counted program old new (told left) none low = record {
  lines = [];
  first = sym left.plan;
  crashes = ap (λ t. t.crashes) left.counts ∙ stops_not old.kit.tally.crashes most low;
}
counted program old new (failed fault) none low = absurd (fault none)
counted program old new (last life well left) none low = life_counted program old new life low
counted program old new (again {mid = mid} life well crashed row more) none low =
    let one = life_counted program old mid life low in
    let rest = counted program mid new more none (rw (one.crashes) (stops_low (old.kit.tally.crashes + kills_in one.lines) most)) in
    record {
      lines = one.lines ++ rest.lines;
      first = one.first ∙ ap (λ l. one.lines ++ l) rest.first ∙ sym (append_assoc one.lines rest.lines new.kit.plan);
      crashes =
          rest.crashes ∙ ap (λ n. min (n + kills_in rest.lines) most) one.crashes
          ∙ stops_later old.kit.tally.crashes (kills_in one.lines) (kills_in rest.lines) most
          ∙ ap (λ n. min (old.kit.tally.crashes + n) most) (sym (kills_append one.lines rest.lines));
    }

-- the lines of a script for each of so many ranks, from one on
abbrev plans_from : ℕ → ℕ → List ScriptLine → List (List ScriptLine)
plans_from rank zero script = []
plans_from rank (suc k) script = orders_of rank script ∷ plans_from (rank + 1) k script

-- the lines for one rank more, behind those for the others
plans_more : (rank k : ℕ) (script : List ScriptLine) → plans_from rank k script ++ orders_of (rank + k) script ∷ [] ≡ plans_from rank (suc k) script
plans_more rank zero script = ap (λ n. orders_of n script ∷ []) (omega arith)
plans_more rank (suc k) script =
    let there : rank + suc k ≡ rank + 1 + k = omega arith in
    ap (λ n. orders_of rank script ∷ (plans_from (rank + 1) k script ++ orders_of n script ∷ [])) there
    ∙ ap (λ l. orders_of rank script ∷ l) (plans_more (rank + 1) k script)

-- counted from rank 0 on these are the lines that a run is given
plans_same : (k : ℕ) (script : List ScriptLine) → plans_below k script ≡ plans_from 0 k script
plans_same zero script = refl
plans_same (suc k) script =
    let there : k ≡ 0 + k = omega arith in
    ap (λ l. l ++ orders_of k script ∷ []) (plans_same k script) ∙ ap (λ n. plans_from 0 k script ++ orders_of n script ∷ []) there ∙ plans_more 0 k script

-- each of these stations has the lines of a script that are for its rank
abbrev ArePlanned : ℕ → List ScriptLine → List Station → Type 0
ArePlanned rank script [] = Unit {0}
ArePlanned rank script (s ∷ ss) = (s.kit.plan ≡ orders_of rank script) × ArePlanned (rank + 1) script ss

-- so has each station of which the lines are listed so
planned : (rank k : ℕ) (script : List ScriptLine) (ss : List Station) → plans_of ss ≡ plans_from rank k script → ArePlanned rank script ss
planned rank k script [] same = tt
planned rank zero script (s ∷ ss) same = absurd cc
planned rank (suc k) script (s ∷ ss) same = (cc, planned (rank + 1) k script ss cc)

-- all ranks have crashed as often as kills were used
all_counted : (program : ProgramValue) (script : List ScriptLine) (rank crashes : ℕ) (begun ended : List Station)
    → AreNew begun → ArePlanned rank script begun → WereKept program begun ended → AreWell (accounts_of ended) → crashes ≤ most
    → crashes_from crashes (accounts_of ended) ≡ min (crashes + kills_used_from rank script (map (λ a. a.unused) (accounts_of ended))) most
all_counted program script rank crashes [] [] new planned kept well low = stops_not crashes most low
all_counted program script rank crashes [] (y ∷ ys) new planned kept well low = absurd kept
all_counted program script rank crashes (x ∷ xs) [] new planned kept well low = absurd kept
all_counted program script rank crashes (x ∷ xs) (y ∷ ys) new planned kept well low =
    let none : x.kit.tally.crashes ≡ 0 = ap (λ t. t.crashes) new.0.tally in
    let one = counted program x y kept.0.1 well.0 (rw (none) (omega arith)) in
    let lines : used_of (orders_of rank script) (length y.kit.plan) ≡ one.lines
    = ap (λ l. used_of l (length y.kit.plan)) (sym planned.0 ∙ one.first) ∙ used_first one.lines y.kit.plan in
    let rest = all_counted program script (rank + 1) (min (crashes + y.kit.tally.crashes) most) xs ys new.1 planned.1 kept.1 well.1
    (stops_low (crashes + y.kit.tally.crashes) most) in
    let many = kills_used_from (rank + 1) script (map (λ a. a.unused) (accounts_of ys)) in
    rest ∙ ap (λ n. min (min (crashes + n) most + many) most) (one.crashes ∙ ap (λ n. min (n + kills_in one.lines) most) none)
    ∙ stops_there crashes (kills_in one.lines) many most
    ∙ ap (λ l. min (crashes + (kills_in l + many)) most) (sym lines)

-- no rank met a fault, if that is what was met
none_met : (rank : ℕ) (f : Option NodeFault) (later : Option RunFault) → met_by rank f later ≡ None → (f ≡ None) × (later ≡ None)
none_met rank None later none = (refl, none)
none_met rank (Some e) later none = absurd cc

-- if none was met by any, all are well
lowest_well : (rank : ℕ) (cs : List Account) → lowest_from rank cs ≡ None → AreWell cs
lowest_well rank [] none = tt
lowest_well rank (c ∷ cs) none =
    let both = none_met rank c.fault (lowest_from (rank + 1) cs) none in
    (both.0, lowest_well (rank + 1) cs both.1)

-- what is not chosen first comes second
none_else : (b : Bool) (f : RunFault) (later : Option RunFault) → (if b then Some f else later) ≡ None → later ≡ None
none_else true f later none = absurd cc
none_else false f later none = none

-- a run that has no fault has ranks without a fault
pub none_well : (cs : List Account) → fault_of cs ≡ None → AreWell cs
none_well cs none = lowest_well 0 cs (none_else (lacked_memory cs) _ (lowest_from 0 cs) none)

-- so a report has counted the kills that were used, if no rank met a fault
pub kills_counted : (program : ProgramValue) (ranks : ℕ) (script : List ScriptLine) (begun ended : List Station)
    → AreNew begun → plans_of begun ≡ plans_below ranks script → WereKept program begun ended → AreWell (accounts_of ended)
    → crashes_from 0 (accounts_of ended) ≡ kills_used script (map (λ a. a.unused) (accounts_of ended))
kills_counted program ranks script begun ended new lines kept well =
    let all = all_counted program script 0 0 begun ended new (planned 0 ranks script begun (lines ∙ plans_same ranks script)) kept well (omega arith) in
    let many = kills_used_from 0 script (map (λ a. a.unused) (accounts_of ended)) in
    let none : 0 + many ≡ many = omega arith in
    all ∙ ap (λ n. min n most) none
