-- What an act leaves: what the other ranks have of their own, and what those have left to receive to
-- which it sends nothing. Where each rank has its rows in a run, the run stands by them.
use Rattle.std.proofs.Common.{◌≡◌, ℕ, ℤ, zero, suc, ◌<◌, ◌+◌, Bool, true, false, List, [], ◌∷◌, ◌++◌, Some, length, ◌⊎◌, inl, inr}
use Rattle.std.proofs.Common.{refl, sym, ap, ◌∙◌, subst, arith, slice_get}
use Rattle.std.specs.Prelude.{map}
use Rattle.std.proofs.lemmas.Bool.{cases_eq}
use Rattle.std.proofs.lemmas.List.{append-nil, length-append}
use Rattle.std.proofs.lemmas.Option.{slice_get_within}
use Rattle.rank_language.specs.Program.{ProgramValue}
use Rattle.rank_machine.specs.Acts.{Act, sends, takes, hits, misses, prints}
use Rattle.rank_machine.specs.Machine.{MachineValue, state_of}
use Rattle.rank_machine.proofs.CollectiveParts.{longer_at}
use Rattle.crash_free.specs.Alike.{packets_in, ComesTo, unreceived, lines_in}
use Rattle.crash_free.specs.LiveVariables.Live.{Table, IsTableOf}
use Rattle.crash_free.specs.Runs.{Passed, History, history, sent, send_at, IsRun}
use Rattle.crash_free.specs.Sim.{SimValue, Simulates, start_of}
use Rattle.crash_free.specs.Slots.{slots_from, IsRanks}
use Rattle.crash_free.specs.Standing.{Rows, no_rows, behind, and_number, and_values, and_all, and_below, and_packet, and_machine, and_machine_if}
use Rattle.crash_free.specs.Standing.{and_own, and_mail, and_rank, rows_of, StandsAt}
use Rattle.crash_free.proofs.Acting.{sound_runs}
use Rattle.crash_free.proofs.Appending.{ranks_behind, rank_in_parts}
use Rattle.crash_free.proofs.Collecting.{opens}
use Rattle.crash_free.proofs.Lists.{push_cases, history-other, sent-own, sent-other, printed-other}
use Rattle.crash_free.proofs.Sound.{Sound, sound_inners}
use Rattle.explore.specs.LastState.{HasOwn, mail_in, sends_to, AreLaid}
use Rattle.explore.specs.Met.{first_rows, StandsBy}

-- an act leaves what the other ranks have of their own
pub own_other : (t : Table) (program : ProgramValue) (n : ℕ) (C : List Passed) (p : Passed) (r : ℕ) (rows : Rows) → (p.rank ≡ r → ⊥)
    → HasOwn t program n C r rows → HasOwn t program n (p ∷ C) r rows
own_other t program n C p r rows ne own =
    record {
      machine = own.machine;
      is_ranks = own.is_ranks;
      comes = subst (λ h. ComesTo (start_of program n r) h (state_of own.machine)) (sym (history-other C p r ne)) own.comes;
      written = ap (λ xs. and_values (and_machine t no_rows own.machine) (map (λ (line : ℕ × ℤ). line.1) xs)) (printed-other C p r ne) ∙ own.written;
    }

-- so they had it before the act
pub own_before : (t : Table) (program : ProgramValue) (n : ℕ) (C : List Passed) (p : Passed) (r : ℕ) (rows : Rows) → (p.rank ≡ r → ⊥)
    → HasOwn t program n (p ∷ C) r rows → HasOwn t program n C r rows
own_before t program n C p r rows ne own =
    record {
      machine = own.machine;
      is_ranks = own.is_ranks;
      comes = subst (λ h. ComesTo (start_of program n r) h (state_of own.machine)) (history-other C p r ne) own.comes;
      written = ap (λ xs. and_values (and_machine t no_rows own.machine) (map (λ (line : ℕ × ℤ). line.1) xs)) (sym (printed-other C p r ne)) ∙ own.written;
    }

-- an act that sends nothing to a rank gives no message to it
sends_nothing : (c r : ℕ) (act : Act) → sends_to act r ≡ false → send_at c r act [] ≡ []
sends_nothing c r (sends dest context tag items) e = rw e refl
sends_nothing c r (takes source place) e = refl
sends_nothing c r (hits source place) e = refl
sends_nothing c r misses e = refl
sends_nothing c r (prints value) e = refl

-- it leaves what each rank sent to that one
pub sent_to_other : (C : List Passed) (p : Passed) (q r : ℕ) → sends_to p.act r ≡ false → sent (p ∷ C) q r ≡ sent C q r
sent_to_other C p q r none = by_rank (cases_eq p.rank q)
  where
    by_rank : (p.rank ≡ q) ⊎ (p.rank ≡ q → ⊥) → sent (p ∷ C) q r ≡ sent C q r
    by_rank (inl e) =
        subst (λ z. sent (p ∷ C) z r ≡ sent C z r) e
        (sent-own C p.rank r p.act ∙ ap (λ z. sent C p.rank r ++ z) (sends_nothing (length (history C p.rank) + 1) r p.act none)
        ∙ append-nil (sent C p.rank r))
    by_rank (inr ne) = sent-other C p q r ne

-- so it leaves what another rank hasn't received of each
unreceived_other : (C : List Passed) (p : Passed) (q r : ℕ) → (p.rank ≡ r → ⊥) → sends_to p.act r ≡ false
    → unreceived (p ∷ C) q r ≡ unreceived C q r
unreceived_other C p q r ne none =
    ap (λ h. packets_in (slots_from 0 q h (sent (p ∷ C) q r))) (history-other C p r ne)
    ∙ ap (λ ms. packets_in (slots_from 0 q (history C r) ms)) (sent_to_other C p q r none)

-- an act of another rank that sends nothing to this one leaves what it has left to receive
pub mail_other : (C : List Passed) (p : Passed) (n r : ℕ) → (p.rank ≡ r → ⊥) → sends_to p.act r ≡ false → mail_in (p ∷ C) n r ≡ mail_in C n r
mail_other C p zero r ne none = refl
mail_other C p (suc n) r ne none =
    ap (λ z. and_all and_packet z (unreceived (p ∷ C) n r)) (mail_other C p n r ne none)
    ∙ ap (and_all and_packet (mail_in C n r)) (unreceived_other C p n r ne none)

-- where a machine stands that a rank comes to, in a program
sound_here : (program : ProgramValue) (n r : ℕ) (h : History) (m : MachineValue) → r < n → ComesTo (start_of program n r) h (state_of m)
    → Sound r n h (state_of m)
sound_here program n r h m low comes =
    sound_inners r n h comes.0 (state_of m) low (sound_runs r n [] h (start_of program n r) comes.0 low (opens program n r low) comes.1) comes.2

-- a rank of a simulation has of its own what its state says
pub own_here : (t : Table) (s : SimValue) (r : ℕ) (m : MachineValue) → Simulates s → slice_get s.machines r ≡ Some m → m.program ≡ s.program
    → HasOwn t s.program (length s.machines) s.run r (and_own t s no_rows r)
own_here t s r m simulates there is =
    let comes = simulates.ranks r m there in
    let sound = sound_here s.program (length s.machines) r (history s.run r) m (slice_get_within s.machines r m there) comes in
    record {
      machine = m;
      is_ranks = record { program_same = is; rank = sound.rank; size = sound.size };
      comes = comes;
      written = ap (λ o. and_values (and_machine_if t no_rows o) (lines_in s.run r)) (sym there);
    }

-- and has left to receive what its state says
pub mail_here : (s : SimValue) (r : ℕ) → and_mail s no_rows r ≡ mail_in s.run (length s.machines) r
mail_here s r = refl

-- the machines of the first ranks, where their rows are laid one behind another
abbrev list_of : (t : Table) (program : ProgramValue) (n : ℕ) (C : List Passed) (first : Rows) (r : ℕ) (rows : Rows) → AreLaid t program n C first r rows
    → List MachineValue
list_of t program n C first zero rows a = []
list_of t program n C first (suc r) rows a = list_of t program n C first r a.0 a.1 ++ a.3.machine ∷ []

-- they are as many
list_long : (t : Table) (program : ProgramValue) (n : ℕ) (C : List Passed) (first : Rows) (r : ℕ) (rows : Rows) (a : AreLaid t program n C first r rows)
    → length (list_of t program n C first r rows a) ≡ r
list_long t program n C first zero rows a = refl
list_long t program n C first (suc r) rows a =
    let before = list_long t program n C first r a.0 a.1 in
    let sum : length (list_of t program n C first r a.0 a.1 ++ a.3.machine ∷ []) ≡ length (list_of t program n C first r a.0 a.1) + 1
    = length-append (list_of t program n C first r a.0 a.1) (a.3.machine ∷ []) in
    sum ∙ (omega (arith, before))

-- a machine of this rank, which comes to where it stands
record IsOf (program : ProgramValue) (n : ℕ) (C : List Passed) (r : ℕ) (m : MachineValue) : Type 0 where
  is_ranks : IsRanks program n r m
  comes : ComesTo (start_of program n r) (history C r) (state_of m)

-- each of them is
list_each : (t : Table) (program : ProgramValue) (n : ℕ) (C : List Passed) (first : Rows) (r : ℕ) (rows : Rows) (a : AreLaid t program n C first r rows)
    → (k : ℕ) (m : MachineValue) → slice_get (list_of t program n C first r rows a) k ≡ Some m → IsOf program n C k m
list_each t program n C first zero rows a k m there = absurd cc
list_each t program n C first (suc r) rows a k m there =
    by_place (λ before. list_each t program n C first r a.0 a.1 k m before) (push_cases (list_of t program n C first r a.0 a.1) a.3.machine k m there)
  where
    own : IsOf program n C r a.3.machine
    own = record { is_ranks = a.3.is_ranks; comes = a.3.comes }

    by_place : (slice_get (list_of t program n C first r a.0 a.1) k ≡ Some m → IsOf program n C k m)
        → (slice_get (list_of t program n C first r a.0 a.1) k ≡ Some m) ⊎ ((k ≡ length (list_of t program n C first r a.0 a.1)) × (m ≡ a.3.machine))
        → IsOf program n C k m
    by_place earlier (inl before) = earlier before
    by_place earlier (inr last) =
        let place : k ≡ r = last.0 ∙ list_long t program n C first r a.0 a.1 in
        subst (λ j. IsOf program n C j m) (sym place) (subst (λ x. IsOf program n C r x) (sym last.1) own)

-- the last of a list stands behind the others
last_there : (xs : List MachineValue) (m : MachineValue) → slice_get (xs ++ m ∷ []) (length xs) ≡ Some m
last_there [] m = refl
last_there (x ∷ xs) m = last_there xs m

-- where the machines are those, and maybe more, the ranks write the rows
laid_rows : (t : Table) (program : ProgramValue) (n : ℕ) (C : List Passed) (first : Rows) (r : ℕ) (rows : Rows) (a : AreLaid t program n C first r rows)
    (machines : List MachineValue) → length machines ≡ n
    → ((k : ℕ) (m : MachineValue) → slice_get (list_of t program n C first r rows a) k ≡ Some m → slice_get machines k ≡ Some m)
    → and_below (and_rank t (record { program = program; machines = machines; run = C })) first r ≡ rows
laid_rows t program n C first zero rows a machines size among = sym a
laid_rows t program n C first (suc r) rows a machines size among =
    rank_in_parts t s (and_below (and_rank t s) first r) r
    ∙ ap (λ z. behind (behind z (and_own t s no_rows r)) (and_mail s no_rows r))
    (laid_rows t program n C first r a.0 a.1 machines size (λ k m there. among k m (longer_at list (a.3.machine ∷ []) k m there)))
    ∙ ap (λ z. behind (behind a.0 z) (and_mail s no_rows r)) own
    ∙ ap (behind (behind a.0 a.2)) mail
    ∙ sym a.4
  where
    s : SimValue
    s = record { program = program; machines = machines; run = C }

    list : List MachineValue
    list = list_of t program n C first r a.0 a.1

    there : slice_get machines r ≡ Some a.3.machine
    there =
        among r a.3.machine
        (subst (λ k. slice_get (list ++ a.3.machine ∷ []) k ≡ Some a.3.machine) (list_long t program n C first r a.0 a.1) (last_there list a.3.machine))

    own : and_own t s no_rows r ≡ a.2
    own = ap (λ o. and_values (and_machine_if t no_rows o) (lines_in C r)) there ∙ a.3.written

    mail : and_mail s no_rows r ≡ mail_in C n r
    mail = mail_here s r ∙ ap (λ k. mail_in C k r) size

-- the rows of a simulation of these machines, behind its length or not
whole_rows : (t : Table) (program : ProgramValue) (n : ℕ) (C : List Passed) (first rows : Rows) (a : AreLaid t program n C first n rows)
    → and_below (and_rank t (record { program = program; machines = list_of t program n C first n rows a; run = C })) first
    (length (list_of t program n C first n rows a)) ≡ rows
whole_rows t program n C first rows a =
    ap (and_below (and_rank t (record { program = program; machines = list_of t program n C first n rows a; run = C })) first)
    (list_long t program n C first n rows a)
    ∙ laid_rows t program n C first n rows a (list_of t program n C first n rows a) (list_long t program n C first n rows a) (λ k m there. there)

-- where machines write the rows of a run, and each is its rank's, the run stands at the rows
stands_of : (t : Table) (program : ProgramValue) (n : ℕ) (C : List Passed) (first laid rows : Rows) (a : AreLaid t program n C first n laid)
    → IsTableOf program t → IsRun (start_of program n) n C
    → rows_of t (record { program = program; machines = list_of t program n C first n laid a; run = C }) ≡ rows → StandsAt program n C rows
stands_of t program n C first laid rows a right run written =
    record {
      machines = list;
      as_many = long;
      simulates =
          record {
            is_run = subst (λ k. IsRun (start_of program k) k C) (sym long) run;
            ranks = λ r m there.
                subst (λ k. ComesTo (start_of program k r) (history C r) (state_of m)) (sym long) (list_each t program n C first n laid a r m there).comes;
          };
      ranks = λ r m there. (list_each t program n C first n laid a r m there).is_ranks;
      table = t;
      right = right;
      written = written;
    }
  where
    list : List MachineValue
    list = list_of t program n C first n laid a

    long : length list ≡ n
    long = list_long t program n C first n laid a

-- where the rows of all ranks are laid one behind another, the run stands by them
pub laid_stands : (closes : Bool) (t : Table) (program : ProgramValue) (n : ℕ) (C : List Passed) (rows : Rows) → IsTableOf program t
    → IsRun (start_of program n) n C → AreLaid t program n C (first_rows closes C) n rows → StandsBy closes program n C rows
laid_stands false t program n C rows right run a =
    stands_of t program n C (and_number no_rows (length C)) rows rows a right run (whole_rows t program n C (and_number no_rows (length C)) rows a)
laid_stands true t program n C rows right run a =
    let s : SimValue = record { program = program; machines = list_of t program n C no_rows n rows a; run = C } in
    stands_of t program n C no_rows rows (behind (and_number no_rows (length C)) rows) a right run
    (ranks_behind t s (and_number no_rows (length C)) (length s.machines)
    ∙ ap (behind (and_number no_rows (length C))) (whole_rows t program n C no_rows rows a))
