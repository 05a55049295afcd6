-- What is known of the last state stays right while the run goes on, and while it goes back.
use Rattle.std.proofs.Common.{◌≡◌, ◌≢◌, ℕ, zero, suc, ◌<◌, ◌≤◌, ◌+◌, false, List, [], ◌∷◌, ◌++◌, Some}
use Rattle.std.proofs.Common.{◌*◌, refl, length, sym, ap, ◌∙◌, subst, arith, slice_get, get_or, take, reverse, ◌⊎◌, inl, inr}
use Rattle.std.proofs.lemmas.Bool.{cases_eq}
use Rattle.std.proofs.lemmas.List.{append-nil, length-append, reverse-append, take_more, length-reverse}
use Rattle.std.proofs.lemmas.Option.{slice_get_within, slice_get-get_or}
use Rattle.rank_language.specs.Program.{ProgramValue}
use Rattle.rank_machine.specs.Machine.{MachineValue}
use Rattle.crash_free.specs.LiveVariables.Live.{Table}
use Rattle.crash_free.specs.Runs.{Passed}
use Rattle.crash_free.specs.Sim.{SimValue, Simulates}
use Rattle.crash_free.specs.Standing.{Rows, no_rows, behind, and_mail, and_own}
use Rattle.explore.specs.LastState.{AreLaid, IsCurrent, Knows, KnowsTheSameBut, Marks, mail_in, sends_to}
use Rattle.explore.specs.Parts.{AreParts, KeepsParts}
use Rattle.explore.specs.Searching.{IsAlike}
use Rattle.explore.specs.Stems.{first_acts, GoesBehind}
use Rattle.explore.specs.declared.last_state.LastState.{LastState}
use Rattle.explore.proofs.ActLeaves.{own_other, own_before, own_here, mail_other, mail_here}
use Rattle.explore.proofs.Joining.{one_part_more}
use Rattle.explore.proofs.Stems.{first_behind, first_taken}

-- what the first acts are with one act more
first_more : (k : ℕ) (C acts : List Passed) (p : Passed) → acts ≡ reverse C → slice_get acts k ≡ Some p → first_acts (k + 1) C ≡ p ∷ first_acts k C
first_more k C acts p same at =
    let low = slice_get_within acts k p at in
    let it : get_or acts k p ≡ p = (let e = sym (slice_get-get_or acts k p low) ∙ at in cc) in
    sym (first_taken (k + 1) C acts same (omega (arith, low))) ∙ ap reverse (take_more acts k p low) ∙ reverse-append (take k acts) (get_or acts k p ∷ [])
    ∙ ap (λ z. z ∷ reverse (take k acts)) it ∙ ap (λ z. p ∷ z) (first_taken k C acts same (omega (arith, low)))

-- a part that is kept stands at its place among more
pub there_still : (old new : List Rows) (i : ℕ) (x : Rows) → KeepsParts old new → slice_get old i ≡ Some x → slice_get new i ≡ Some x
there_still old new i x keeps at = subst (λ z. slice_get z i ≡ Some x) (sym keeps.1) (go old i at)
  where
    go : (xs : List Rows) (j : ℕ) → slice_get xs j ≡ Some x → slice_get (xs ++ keeps.0) j ≡ Some x
    go [] j e = absurd (let q = e in cc)
    go (y ∷ ys) zero e = e
    go (y ∷ ys) (suc j) e = go ys j e

-- parts keep themselves
pub keeps_itself : (parts : List Rows) → KeepsParts parts parts
keeps_itself parts = ([], sym (append-nil parts))

-- two more of the first places
two_more : (xs : List ℕ) (r own mail : ℕ) → slice_get xs (2 * r) ≡ Some own → slice_get xs (2 * r + 1) ≡ Some mail
    → take (2 * suc r) xs ≡ (take (2 * r) xs ++ own ∷ []) ++ mail ∷ []
two_more xs r own mail a b =
    let low = slice_get_within xs (2 * r) own a in
    let low' = slice_get_within xs (2 * r + 1) mail b in
    let on : 2 * suc r ≡ (2 * r + 1) + 1 = omega arith in
    let one : get_or xs (2 * r) own ≡ own = (let e = sym (slice_get-get_or xs (2 * r) own low) ∙ a in cc) in
    let two : get_or xs (2 * r + 1) mail ≡ mail = (let e = sym (slice_get-get_or xs (2 * r + 1) mail low') ∙ b in cc) in
    ap (λ k. take k xs) on ∙ take_more xs (2 * r + 1) mail low' ∙ ap (λ z. z ++ get_or xs (2 * r + 1) mail ∷ []) (take_more xs (2 * r) own low)
    ∙ ap (λ x. (take (2 * r) xs ++ get_or xs (2 * r) own ∷ []) ++ x ∷ []) two ∙ ap (λ x. (take (2 * r) xs ++ x ∷ []) ++ mail ∷ []) one

-- one part is all rows
one_part : (parts : List Rows) (i : ℕ) (first : Rows) → slice_get parts i ≡ Some first → AreParts parts (i ∷ []) first
one_part parts i first there = one_part_more parts parts [] i first no_rows (keeps_itself parts) there (record { below = tt; whole = refl })

module _ (t : Table) (program : ProgramValue) (n : ℕ) where
  -- what is current stays so where more parts are kept, and the same is known of the rank
  pub current_still : (C : List Passed) (old new : List Rows) (last last' : LastState) (r : ℕ) → KeepsParts old new
      → slice_get last'.places (2 * r) ≡ slice_get last.places (2 * r) → slice_get last'.places (2 * r + 1) ≡ slice_get last.places (2 * r + 1)
      → IsCurrent t program n C old last r
      → IsCurrent t program n C new last' r
  current_still C old new last last' r keeps own mail now = (
    now.0,
    own ∙ now.1,
    now.2,
    mail ∙ now.3,
    (let has = now.4 in
        record {
          own_rows = has.own_rows;
          own_there = there_still old new now.0 has.own_rows keeps has.own_there;
          has_own = has.has_own;
          mail_there = there_still old new now.2 _ keeps has.mail_there;
        }),
  )

  -- and where a rank acts that changes nothing of it
  current_on : (C : List Passed) (p : Passed) (parts : List Rows) (last : LastState) (r : ℕ) → (p.rank ≢ r) → sends_to p.act r ≡ false
      → IsCurrent t program n C parts last r → IsCurrent t program n (p ∷ C) parts last r
  current_on C p parts last r other none now = (
    now.0,
    now.1,
    now.2,
    now.3,
    (let has = now.4 in
        record {
          own_rows = has.own_rows;
          own_there = has.own_there;
          has_own = own_other t program n C p r has.own_rows other has.has_own;
          mail_there = has.mail_there ∙ ap Some (sym (mail_other C p n r other none));
        }),
  )

  -- or has not acted yet
  current_back : (C : List Passed) (p : Passed) (parts : List Rows) (last : LastState) (r : ℕ) → (p.rank ≢ r) → sends_to p.act r ≡ false
      → IsCurrent t program n (p ∷ C) parts last r → IsCurrent t program n C parts last r
  current_back C p parts last r other none now = (
    now.0,
    now.1,
    now.2,
    now.3,
    (let has = now.4 in
        record {
          own_rows = has.own_rows;
          own_there = has.own_there;
          has_own = own_before t program n C p r has.own_rows other has.has_own;
          mail_there = has.mail_there ∙ ap Some (mail_other C p n r other none);
        }),
  )

  -- one act of the run more, whose ranks are marked
  pub knows_on : (C acts : List Passed) (parts : List Rows) (p : Passed) (old mid new : LastState) → acts ≡ reverse C → slice_get acts old.shared ≡ Some p
      → Marks old p mid → new.places ≡ mid.places → new.changed ≡ mid.changed → new.shared ≡ mid.shared + 1
      → Knows t program n C parts old → Knows t program n C parts new
  knows_on C acts parts p old mid new same at marks places changed shared knows =
      let low = slice_get_within acts old.shared p at in
      let long : length acts ≡ length C = ap length same ∙ length-reverse C in
      let one : new.shared ≡ old.shared + 1 = shared ∙ ap (λ z. z + 1) marks.shared in
      record {
        within = omega (arith, low, long, one);
        current =
            λ r less no.
            (let was = marks.rest r (sym (ap (λ z. slice_get z r) changed) ∙ no) in
            subst (λ B. IsCurrent t program n B parts new r) (sym (ap (λ k. first_acts k C) one ∙ first_more old.shared C acts p same at))
            (current_on (first_acts old.shared C) p parts new r was.1 was.2
            (current_still (first_acts old.shared C) parts parts old new r (keeps_itself parts) (ap (λ z. slice_get z (2 * r)) (places ∙ marks.places))
            (ap (λ z. slice_get z (2 * r + 1)) (places ∙ marks.places)) (knows.current r less was.0))));
      }

  -- one less
  pub knows_back : (C acts : List Passed) (parts : List Rows) (p : Passed) (old mid new : LastState) → acts ≡ reverse C → slice_get acts new.shared ≡ Some p
      → old.shared ≡ new.shared + 1 → mid.places ≡ old.places → mid.changed ≡ old.changed → mid.shared ≡ new.shared → Marks mid p new
      → Knows t program n C parts old → Knows t program n C parts new
  knows_back C acts parts p old mid new same at one places changed shared marks knows =
      let low = knows.within in
      record {
        within = omega (arith, low, one);
        current =
            λ r less no.
            (let was = marks.rest r no in
            current_back (first_acts new.shared C) p parts new r was.1 was.2
            (subst (λ B. IsCurrent t program n B parts new r) (ap (λ k. first_acts k C) one ∙ first_more new.shared C acts p same at)
            (current_still (first_acts old.shared C) parts parts old new r (keeps_itself parts) (ap (λ z. slice_get z (2 * r)) (marks.places ∙ places))
            (ap (λ z. slice_get z (2 * r + 1)) (marks.places ∙ places)) (knows.current r less (sym (ap (λ z. slice_get z r) changed) ∙ was.0)))));
      }

  -- another run has the same first acts
  pub knows_shared : (C C' : List Passed) (parts : List Rows) (last : LastState) → last.shared ≤ length C'
      → first_acts last.shared C' ≡ first_acts last.shared C → Knows t program n C parts last → Knows t program n C' parts last
  knows_shared C C' parts last low same knows =
      record {
        within = low;
        current = λ r less no. subst (λ B. IsCurrent t program n B parts last r) (sym same) (knows.current r less no);
      }

  -- as one that goes on behind it
  pub knows_behind : (C C' : List Passed) (parts : List Rows) (last : LastState) → GoesBehind C C' → Knows t program n C parts last
      → Knows t program n C' parts last
  knows_behind C C' parts last behind knows =
      let low = knows.within in
      let long : length C' ≡ length behind.0 + length C = ap length behind.1 ∙ length-append behind.0 C in
      knows_shared C C' parts last (omega (arith, low, long)) (first_behind last.shared C C' behind low) knows

  -- of the other ranks as much is known
  pub current_but : (C : List Passed) (old new : List Rows) (last last' : LastState) (rank r : ℕ) → KeepsParts old new → KnowsTheSameBut rank last last'
      → r ≢ rank → IsCurrent t program n C old last r → IsCurrent t program n C new last' r
  current_but C old new last last' rank r keeps same other =
      current_still C old new last last' r keeps (same.places (2 * r) (λ e. other (omega (arith, e))) (λ e. absurd (omega (arith, e))))
      (same.places (2 * r + 1) (λ e. absurd (omega (arith, e))) (λ e. other (omega (arith, e))))

  -- so of all that aren't marked, if nothing changes where this one isn't
  pub current_rest : (C : List Passed) (old new : List Rows) (last last' : LastState) (rank r : ℕ) → KeepsParts old new → KnowsTheSameBut rank last last'
      → (slice_get last.changed rank ≡ Some false → last' ≡ last) → slice_get last'.changed r ≡ Some false
      → (slice_get last.changed r ≡ Some false → IsCurrent t program n C old last r) → IsCurrent t program n C new last' r
  current_rest C old new last last' rank r keeps same unchanged unmarked now = go (cases_eq r rank)
    where
      was : slice_get last.changed r ≡ Some false
      was = ap (λ z. slice_get z r) (sym same.changed) ∙ unmarked

      go : (r ≡ rank) ⊎ (r ≡ rank → ⊥) → IsCurrent t program n C new last' r
      go (inl e) =
          let it = unchanged (subst (λ z. slice_get last.changed z ≡ Some false) e was) in
          current_still C old new last last' r keeps (ap (λ z. slice_get z.places (2 * r)) it) (ap (λ z. slice_get z.places (2 * r + 1)) it) (now was)
      go (inr other) = current_but C old new last last' rank r keeps same other (now was)

  -- of one rank more
  pub current_more : (C : List Passed) (old new : List Rows) (last last' : LastState) (rank r : ℕ) → KeepsParts old new → KnowsTheSameBut rank last last'
      → IsCurrent t program n C new last' rank → ((q : ℕ) → q < rank → IsCurrent t program n C old last q) → r < rank + 1
      → IsCurrent t program n C new last' r
  current_more C old new last last' rank r keeps same here before low = go (cases_eq r rank)
    where
      go : (r ≡ rank) ⊎ (r ≡ rank → ⊥) → IsCurrent t program n C new last' r
      go (inl e) = subst (λ q. IsCurrent t program n C new last' q) (sym e) here
      go (inr other) = current_but C old new last last' rank r keeps same other (before r (omega (arith, low, other)))

  -- the places of the first ranks, so many, are those of what they have, behind the first part
  pub laid_current : (C : List Passed) (parts : List Rows) (last : LastState) (place : ℕ) (first : Rows) → slice_get parts place ≡ Some first
      → (r : ℕ) → ((q : ℕ) → q < r → IsCurrent t program n C parts last q)
      → (rows : Rows) × AreParts parts (place ∷ take (2 * r) last.places) rows × AreLaid t program n C first r rows
  laid_current C parts last place first there zero known = (
    first,
    one_part parts place first there,
    refl,
  )
  laid_current C parts last place first there (suc r) known =
      let before = laid_current C parts last place first there r (λ q low. known q (omega (arith, low))) in
      let now = known r (omega arith) in
      let has = now.4 in
      let is : List ℕ = place ∷ take (2 * r) last.places in (
        behind (behind before.0 has.own_rows) (mail_in C n r),
        subst (λ z. AreParts parts z (behind (behind before.0 has.own_rows) (mail_in C n r))) (sym (ap (λ z. place ∷ z) (two_more last.places r now.0 now.2 now.1 now.3)))
            (one_part_more parts parts (is ++ now.0 ∷ []) now.2 (mail_in C n r) (behind before.0 has.own_rows) (keeps_itself parts) has.mail_there
            (one_part_more parts parts is now.0 has.own_rows before.0 (keeps_itself parts) has.own_there before.1)),
        (before.0, before.2, has.own_rows, has.has_own, refl),
      )

-- rank r has the parts that were written
pub current_written : (t : Table) (s : SimValue) (m : MachineValue) (parts parts' : List Rows) (last : LastState) (r own mail : ℕ) → Simulates s
    → slice_get s.machines r ≡ Some m → m.program ≡ s.program → KeepsParts parts parts' → slice_get last.places (2 * r) ≡ Some own → slice_get parts own ≡ Some (and_own t s no_rows r)
    → slice_get last.places (2 * r + 1) ≡ Some mail
    → slice_get parts' mail ≡ Some (and_mail s no_rows r) → IsCurrent t s.program (length s.machines) s.run parts' last r
current_written t s m parts parts' last r own mail stands at of_program keeps own_at own_there mail_at mail_there = (
  own,
  own_at,
  mail,
  mail_at,
  record {
    own_rows = and_own t s no_rows r;
    own_there = there_still parts parts' own (and_own t s no_rows r) keeps own_there;
    has_own = own_here t s r m stands at of_program;
    mail_there = mail_there ∙ ap Some (mail_here s r);
  },
)

-- what is known by one simulation is by another of the same program on as many ranks
pub knows_of : (t : Table) (s s' : SimValue) (C : List Passed) (parts : List Rows) (last : LastState) → IsAlike s s'
    → Knows t s.program (length s.machines) C parts last → Knows t s'.program (length s'.machines) C parts last
knows_of t s s' C parts last alike knows =
    subst (λ n. Knows t s'.program n C parts last) (sym alike.ranks) (subst (λ p. Knows t p (length s.machines) C parts last) (sym alike.program) knows)

-- the other way
pub knows_by : (t : Table) (s s' : SimValue) (C : List Passed) (parts : List Rows) (last : LastState) → IsAlike s s'
    → Knows t s'.program (length s'.machines) C parts last → Knows t s.program (length s.machines) C parts last
knows_by t s s' C parts last alike knows =
    subst (λ n. Knows t s.program n C parts last) alike.ranks (subst (λ p. Knows t p (length s'.machines) C parts last) alike.program knows)
