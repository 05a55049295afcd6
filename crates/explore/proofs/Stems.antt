-- Branches that go off a run: what they share stays where the run goes on behind it.
use Rattle.std.proofs.Common.{◌≡◌, ℕ, zero, suc, ◌≤◌, List, [], ◌∷◌, ◌++◌, Some, length, slice_get, ◌⊎◌, inl, inr, refl, sym, ap, subst, ◌∙◌, arith}
use Rattle.std.proofs.lemmas.Option.{slice_get_within}
use Rattle.rank_language.specs.Program.{ProgramValue}
use Rattle.crash_free.specs.Runs.{Passed}
use Rattle.crash_free.proofs.Lists.{push_cases}
use Rattle.explore.specs.declared.branch.Branch.{Branch}
use Rattle.explore.specs.Outcomes.{IsAmong}
use Rattle.explore.specs.Stems.{first_acts, GoesBehind, Stem, stem_of, stems_of, IsAfter, IsRunOf, IsLeftTo, GoOff}
use Rattle.explore.proofs.Among.{among_first, among_last, among_push}
use Rattle.rank_machine.proofs.CollectiveParts.{longer_at}
-- Beginnings of a run

pub use Rattle.crash_free.proofs.Points.{behind_further, behind_longer, first_all, first_before, first_behind, first_long, first_of_first, first_taken}
use Rattle.explore.specs.declared.send_mode.SendMode.{SendMode}

-- Stems

-- branches that share the same of two runs have the same stems
stems_same : (C C' : List Passed) (pending : List Branch) → ((b : Branch) → IsAmong pending b → first_acts b.shared C' ≡ first_acts b.shared C)
    → stems_of C' pending ≡ stems_of C pending
stems_same C C' [] each = refl
stems_same C C' (b ∷ bs) each =
    let here : stem_of C' b ≡ stem_of C b = ap (λ (z : List Passed). stem_with z b) (each b (zero, refl)) in
    let rest : stems_of C' bs ≡ stems_of C bs = stems_same C C' bs (λ x a. each x (suc a.0, a.1)) in
    ap (λ (z : Stem). z ∷ stems_of C' bs) here ∙ ap (λ (z : List Stem). stem_of C b ∷ z) rest
  where
    stem_with : List Passed → Branch → Stem
    stem_with z x = record { before = z; chosen = x.chosen }

-- so it is where the run goes on
pub stems_behind : (mode : SendMode) → (program : ProgramValue) (n : ℕ) (C C' : List Passed) (pending : List Branch) → GoOff mode program n C pending → GoesBehind C C'
    → stems_of C' pending ≡ stems_of C pending
stems_behind mode program n C C' pending off behind = stems_same C C' pending (λ b a. first_behind b.shared C C' behind (off.within b a))

-- one stem more
pub stems_push : (C : List Passed) (pending : List Branch) (b : Branch) → stems_of C (pending ++ b ∷ []) ≡ stems_of C pending ++ stem_of C b ∷ []
stems_push C [] b = refl
stems_push C (x ∷ xs) b = ap (λ (z : List Stem). stem_of C x ∷ z) (stems_push C xs b)

-- where no stem is left there is no branch
pub no_stems : (C : List Passed) (pending : List Branch) → stems_of C pending ≡ [] → pending ≡ []
no_stems C [] e = refl
no_stems C (x ∷ xs) e = absurd cc

-- that of a branch where the run ends now
pub stem_here : (C : List Passed) (b : Branch) → b.shared ≡ length C → stem_of C b ≡ record { before = C; chosen = b.chosen }
stem_here C b all = ap (λ (z : List Passed). stem_with z) (ap (λ k. first_acts k C) all ∙ first_all C)
  where
    stem_with : List Passed → Stem
    stem_with z = record { before = z; chosen = b.chosen }

-- a stem left to some is left to more
pub left_more : (mode : SendMode) → (program : ProgramValue) (n : ℕ) (old new : List Stem) → ((x : Stem) → IsAmong old x → IsAmong new x) → (P : List Passed)
    → IsLeftTo mode program n old P → IsLeftTo mode program n new P
left_more mode program n old new kept P l = (l.0, kept l.0 l.1, l.2)

-- what is left to some and one more is left to them, or to that one
pub left_push : (mode : SendMode) → (program : ProgramValue) (n : ℕ) (pending : List Stem) (x : Stem) (P : List Passed) → IsLeftTo mode program n (pending ++ x ∷ []) P
    → IsLeftTo mode program n pending P ⊎ IsRunOf mode program n x P
left_push mode program n pending x P l = go (among_push pending x l.0 l.1)
  where
    go : IsAmong pending l.0 ⊎ (l.0 ≡ x) → IsLeftTo mode program n pending P ⊎ IsRunOf mode program n x P
    go (inl before) = inl (l.0, before, l.2)
    go (inr e) = inr (subst (λ (y : Stem). IsRunOf mode program n y P) e l.2)

-- Branches

-- branches of one run go off another that begins with what they share
off_same : (mode : SendMode) → (program : ProgramValue) (n : ℕ) (C C' : List Passed) (pending : List Branch)
    → ((b : Branch) → IsAmong pending b → first_acts b.shared C' ≡ first_acts b.shared C) → ((b : Branch) → IsAmong pending b → b.shared ≤ length C')
    → GoOff mode program n C pending → GoOff mode program n C' pending
off_same mode program n C C' pending each within off =
    record {
      within = within;
      rising = off.rising;
      some_run = λ b a. subst (λ (z : List Passed). (P : List Passed) × IsAfter mode program n z b.chosen P) (sym (each b a)) (off.some_run b a);
    }

-- where the run goes on they still go off it
pub off_behind : (mode : SendMode) → (program : ProgramValue) (n : ℕ) (C C' : List Passed) (pending : List Branch) → GoesBehind C C' → GoOff mode program n C pending
    → GoOff mode program n C' pending
off_behind mode program n C C' pending behind off =
    off_same mode program n C C' pending (λ b a. first_behind b.shared C C' behind (off.within b a))
    (λ b a. (let long = behind_longer C C' behind in omega (arith, long, off.within b a))) off

-- no branch goes off any run
pub off_none : (mode : SendMode) → (program : ProgramValue) (n : ℕ) (C : List Passed) → GoOff mode program n C []
off_none mode program n C =
    record {
      within = λ b a. absurd (let e = a.1 in cc);
      rising = λ i j b c low e f. absurd (cc);
      some_run = λ b a. absurd (let e = a.1 in cc);
    }

-- one more, where the run ends now
pub off_push : (mode : SendMode) → (program : ProgramValue) (n : ℕ) (C : List Passed) (pending : List Branch) (b : Branch) → b.shared ≡ length C
    → (P : List Passed) × IsAfter mode program n C b.chosen P → GoOff mode program n C pending → GoOff mode program n C (pending ++ b ∷ [])
off_push mode program n C pending b all run off =
    record {
      within = λ x a. within x (among_push pending b x a);
      rising = λ i j x y low e f. rising i j x y low (push_cases pending b i x e) (push_cases pending b j y f);
      some_run = λ x a. opens x (among_push pending b x a);
    }
  where
    within : (x : Branch) → IsAmong pending x ⊎ (x ≡ b) → x.shared ≤ length C
    within x (inl before) = off.within x before
    within x (inr e) = (let same : x.shared ≡ b.shared = ap (λ (z : Branch). z.shared) e in omega (arith, same, all))

    rising : (i j : ℕ) (x y : Branch) → i ≤ j → (slice_get pending i ≡ Some x) ⊎ ((i ≡ length pending) × (x ≡ b))
        → (slice_get pending j ≡ Some y) ⊎ ((j ≡ length pending) × (y ≡ b)) → x.shared ≤ y.shared
    rising i j x y low (inl e) (inl f) = off.rising i j x y low e f
    rising i j x y low (inl e) (inr f) =
        (let same : y.shared ≡ b.shared = ap (λ (z : Branch). z.shared) f.1 in omega (arith, off.within x (i, e), same, all))
    rising i j x y low (inr e) (inl f) = absurd (let less = slice_get_within pending j y f in omega (arith, less, low, e.0))
    rising i j x y low (inr e) (inr f) =
        let one : x.shared ≡ b.shared = ap (λ (z : Branch). z.shared) e.1 in
        let two : y.shared ≡ b.shared = ap (λ (z : Branch). z.shared) f.1 in
        omega (arith, one, two)

    opens : (x : Branch) → IsAmong pending x ⊎ (x ≡ b) → (P : List Passed) × IsRunOf mode program n (stem_of C x) P
    opens x (inl before) = off.some_run x before
    opens x (inr e) =
        subst (λ (y : Branch). (P : List Passed) × IsRunOf mode program n (stem_of C y) P) (sym e)
        (subst (λ (z : Stem). (P : List Passed) × IsRunOf mode program n z P) (sym (stem_here C b all)) run)

-- The last branch, and those before it, which share no more
module _ (mode : SendMode) (program : ProgramValue) (n : ℕ) (C : List Passed) (pending : List Branch) (b : Branch) (off : GoOff mode program n C (pending ++ b ∷ [])) where
  pub last_within : b.shared ≤ length C
  last_within = off.within b (among_last pending b)

  pub last_run : (P : List Passed) × IsRunOf mode program n (stem_of C b) P
  last_run = off.some_run b (among_last pending b)

  share_less : (x : Branch) → IsAmong pending x → x.shared ≤ b.shared
  share_less x a =
      let last = at_end pending in
      let low = slice_get_within pending a.0 x a.1 in
      off.rising a.0 (length pending) x b (omega (arith, low)) (longer_at pending (b ∷ []) a.0 x a.1) last
    where
      at_end : (xs : List Branch) → slice_get (xs ++ b ∷ []) (length xs) ≡ Some b
      at_end [] = refl
      at_end (y ∷ ys) = at_end ys

  front : GoOff mode program n C pending
  front =
      record {
        within = λ x a. off.within x (among_first pending (b ∷ []) x a);
        rising = λ i j x y low e f. off.rising i j x y low (longer_at pending (b ∷ []) i x e) (longer_at pending (b ∷ []) j y f);
        some_run = λ x a. off.some_run x (among_first pending (b ∷ []) x a);
      }

  -- once the last one is taken up the others go off its run, with the stems that they had
  module _ (C' : List Passed) (shares : (k : ℕ) → k ≤ b.shared → first_acts k C' ≡ first_acts k C) (long : b.shared ≤ length C') where
    pub off_taken : GoOff mode program n C' pending
    off_taken =
        off_same mode program n C C' pending (λ x a. shares x.shared (share_less x a)) (λ x a. (let less = share_less x a in omega (arith, less, long))) front

    pub stems_taken : stems_of C' pending ≡ stems_of C pending
    stems_taken = stems_same C C' pending (λ x a. shares x.shared (share_less x a))
