-- A search that takes up its last branch, and looks at its run.
use Rattle.std.proofs.Common.{◌≡◌, ℕ, ◌≤◌, Bool, true, false, List, [], ◌∷◌, ◌++◌, Option, None, length, refl, sym, ap, subst, ◌∙◌}
use Rattle.rank_language.specs.Program.{ProgramValue}
use Rattle.crash_free.specs.Runs.{Passed}
use Rattle.crash_free.specs.Sim.{SimValue}
use Rattle.explore.specs.declared.branch.Branch.{Branch}
use Rattle.explore.specs.declared.moves.Move.{Move}
use Rattle.explore.specs.Endings.{Ending}
use Rattle.explore.specs.Counting.{GoesBeyond}
use Rattle.explore.specs.Met.{Kept}
use Rattle.explore.specs.Searching.{IsAlike, IsOn, Looks, NeedsFewer, Searches}
use Rattle.explore.specs.Small.{EnoughForAll, Spares}
use Rattle.explore.specs.Stems.{first_acts, GoOff, IsAfter, IsRunOf, Stem, stem_of, stems_of, whole}
use Rattle.explore.proofs.Beyond.{beyond_alike}
use Rattle.explore.proofs.Looking.{searches_all, searches_cut, searches_on}
use Rattle.explore.proofs.Playing.{off_by, off_of}
use Rattle.explore.proofs.Sparing.{enough_on, enough_without}
use Rattle.explore.proofs.Stems.{off_none, off_push, off_taken, stems_push, stems_taken}
use Rattle.explore.specs.declared.send_mode.SendMode.{SendMode}
use Rattle.crash_free.specs.Sim.{start_of}
use Rattle.explore.specs.Sending.{HasRunUnder, IsRunUnder}
use Rattle.explore.proofs.Searching.{alike_further, run_there}

-- At the beginning

-- the whole of a program is its only stem
whole_only : (s : SimValue) (b : Branch) → s.run ≡ [] → b.shared ≡ 0 → b.chosen ≡ None → stems_of s.run (b ∷ []) ≡ whole ∷ []
whole_only s b none shared chosen =
    ap (λ (C : List Passed). stems_of C (b ∷ [])) none ∙ ap (λ (k : ℕ). by k b.chosen ∷ []) shared ∙ ap (λ (o : Option Move). by 0 o ∷ []) chosen
  where
    by : ℕ → Option Move → Stem
    by k o = record { before = first_acts k []; chosen = o }

-- so nothing is found yet, and all is to be searched
pub on_begins : (mode : SendMode) → (program : ProgramValue) (n : ℕ) (s : SimValue) (b : Branch) → s.program ≡ program → length s.machines ≡ n → s.run ≡ [] → b.shared ≡ 0
    → b.chosen ≡ None → (closes : Bool) → IsOn mode program n s (b ∷ []) [] (record { closes = closes; states = []; parts = [] }) false
on_begins mode program n s b same ranks none shared chosen closes =
    record {
      program_same = same;
      ranks = ranks;
      is_run = subst (λ C. IsRunUnder mode (start_of program n) n C) (sym none) tt;
      off =
          off_push mode program n s.run [] b (shared ∙ sym (ap length none))
          (s.run, subst (λ o. IsAfter mode program n s.run o s.run) (sym chosen) refl) (off_none mode program n s.run);
      search =
          subst (λ (z : List Stem). Searches mode program n [] z (record { closes = closes; states = []; parts = [] }) false) (sym (whole_only s b none shared chosen))
          (searches_all mode program n closes);
    }

-- The same program and number of ranks

-- how far a search has come, by the program and the number of ranks of a simulation
pub on_own : (mode : SendMode) → (program : ProgramValue) (n : ℕ) (s : SimValue) (pending : List Branch) (outcomes : List Ending) (met : Kept) (cut : Bool)
    → IsOn mode program n s pending outcomes met cut → IsOn mode s.program (length s.machines) s pending outcomes met cut
on_own mode program n s pending outcomes met cut on =
    subst (λ k. IsOn mode s.program k s pending outcomes met cut) (sym on.ranks)
    (subst (λ p. IsOn mode p n s pending outcomes met cut) (sym on.program_same) on)

-- and back
pub on_back : (mode : SendMode) → (program : ProgramValue) (n : ℕ) (s s' : SimValue) (pending : List Branch) (outcomes : List Ending) (met : Kept)
    (cut : Bool) → s.program ≡ program → length s.machines ≡ n → IsOn mode s.program (length s.machines) s' pending outcomes met cut
    → IsOn mode program n s' pending outcomes met cut
on_back mode program n s s' pending outcomes met cut same ranks on =
    subst (λ k. IsOn mode program k s' pending outcomes met cut) ranks (subst (λ p. IsOn mode p (length s.machines) s' pending outcomes met cut) same on)

-- that fewer are enough, back
pub fewer_back : (mode : SendMode) → (program : ProgramValue) (n : ℕ) (s : SimValue) (C C' : List Passed) (old new : List Branch) → s.program ≡ program
    → length s.machines ≡ n → NeedsFewer mode s.program (length s.machines) C old C' new → NeedsFewer mode program n C old C' new
fewer_back mode program n s C C' old new same ranks fewer =
    subst (λ k. NeedsFewer mode program k C old C' new) ranks (subst (λ p. NeedsFewer mode p (length s.machines) C old C' new) same fewer)

-- and that a rank goes beyond
beyond_own : (mode : SendMode) → (program : ProgramValue) (n : ℕ) (s : SimValue) (steps : ℕ) → s.program ≡ program → length s.machines ≡ n
    → GoesBeyond mode program n steps → GoesBeyond mode s.program (length s.machines) steps
beyond_own mode program n s steps same ranks beyond =
    subst (λ k. GoesBeyond mode s.program k steps) (sym ranks) (subst (λ p. GoesBeyond mode p n steps) (sym same) beyond)

-- what goes beyond after a step, if what did so before did, does by the program and the number that are the same
pub beyond_on : (mode : SendMode) → (program : ProgramValue) (n : ℕ) (s : SimValue) (steps : ℕ) (cut cut' : Bool) → s.program ≡ program → length s.machines ≡ n
    → (cut ≡ true → GoesBeyond mode program n steps)
    → ((cut ≡ true → GoesBeyond mode s.program (length s.machines) steps) → cut' ≡ true → GoesBeyond mode s.program (length s.machines) steps)
    → cut' ≡ true → GoesBeyond mode program n steps
beyond_on mode program n s steps cut cut' same ranks before on e =
    beyond_alike mode program n s steps same ranks (on (λ was. beyond_own mode program n s steps same ranks (before was)) e)

-- One branch

module _ (mode : SendMode) (s t : SimValue) (pending : List Branch) (b : Branch) (outcomes : List Ending) (met : Kept) (cut : Bool)
    (on : IsOn mode s.program (length s.machines) s (pending ++ b ∷ []) outcomes met cut) (alike : IsAlike s t)
    (shares : (k : ℕ) → k ≤ b.shared → first_acts k t.run ≡ first_acts k s.run) (long : b.shared ≤ length t.run)
    (run : HasRunUnder mode t) where
  -- the branches before the last one go off its run, once that is made
  off_then : GoOff mode s.program (length s.machines) t.run pending
  off_then = off_taken mode s.program (length s.machines) s.run pending b on.off t.run shares long

  pub off_now : GoOff mode t.program (length t.machines) t.run pending
  off_now = off_of mode s t t.run pending alike off_then

  -- with the stems that they had
  stems_then : stems_of s.run (pending ++ b ∷ []) ≡ stems_of t.run pending ++ stem_of s.run b ∷ []
  stems_then =
      stems_push s.run pending b
      ∙ ap (λ (z : List Stem). z ++ stem_of s.run b ∷ [])
      (sym (stems_taken mode s.program (length s.machines) s.run pending b on.off t.run shares long))

  search_then : Searches mode s.program (length s.machines) outcomes (stems_of t.run pending ++ stem_of s.run b ∷ []) met cut
  search_then = subst (λ (z : List Stem). Searches mode s.program (length s.machines) outcomes z met cut) stems_then on.search

  enough_then : (k : ℕ) → EnoughForAll mode s.program (length s.machines) k (stems_of s.run (pending ++ b ∷ []))
      → EnoughForAll mode s.program (length s.machines) k (stems_of t.run pending ++ stem_of s.run b ∷ [])
  enough_then k e = subst (λ (z : List Stem). EnoughForAll mode s.program (length s.machines) k z) stems_then e

  -- where its run couldn't be made again, as steps ran out
  pub on_cut : IsOn mode s.program (length s.machines) t pending outcomes met true
  on_cut =
      record {
        program_same = alike.program;
        ranks = alike.ranks;
        is_run = run_there mode s t t.run alike run;
        off = off_then;
        search =
            searches_cut mode s.program (length s.machines) outcomes (stems_of t.run pending ++ stem_of s.run b ∷ []) (stems_of t.run pending) met cut search_then;
      }

  pub fewer_cut : NeedsFewer mode s.program (length s.machines) s.run (pending ++ b ∷ []) t.run pending
  fewer_cut k e = enough_without mode s.program (length s.machines) k (stems_of t.run pending) (stem_of s.run b) (enough_then k e)

  -- where it was looked at
  module _ (only : (P : List Passed) → IsRunOf mode s.program (length s.machines) (stem_of s.run b) P → P ≡ t.run) (t' : SimValue) (new : List Branch)
      (alike' : IsAlike t t') (run' : HasRunUnder mode t') (off : GoOff mode t.program (length t.machines) t'.run new) where
    pub on_looked : (outcomes' : List Ending) (met' : Kept) (cut' ended : Bool)
        → Looks mode t ended (stems_of t.run pending) (stems_of t'.run new) outcomes outcomes' met met' → (cut' ≡ false → (cut ≡ false) × (ended ≡ true))
        → IsOn mode s.program (length s.machines) t' new outcomes' met' cut'
    on_looked outcomes' met' cut' ended looks uncut =
        record {
          program_same = alike'.program ∙ alike.program;
          ranks = alike'.ranks ∙ alike.ranks;
          is_run = run_there mode s t' t'.run (alike_further s t t' alike alike') run';
          off = off_by mode s t t'.run new alike off;
          search =
              searches_on mode s.program (length s.machines) outcomes outcomes' (stems_of t.run pending) (stems_of t'.run new) met met' cut cut' ended
              (stem_of s.run b) t alike.program alike.ranks only search_then looks uncut;
        }

    pub fewer_looked : IsRunOf mode s.program (length s.machines) (stem_of s.run b) t.run → Spares mode t (stems_of t.run pending) (stems_of t'.run new)
        → NeedsFewer mode s.program (length s.machines) s.run (pending ++ b ∷ []) t'.run new
    fewer_looked made spares k e =
        enough_on mode s.program (length s.machines) k (stems_of t.run pending) (stems_of t'.run new) (stem_of s.run b) t alike.program alike.ranks made spares
        (enough_then k e)
