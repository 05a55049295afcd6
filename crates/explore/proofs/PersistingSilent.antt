-- A rank that has ended sends no more, and one that stands at a position that the table claims sends
-- a rank no more with a tag but packets of collectives: so its messages to that rank of a context
-- and a tag stay as they are, however the ranks go on.
use Rattle.std.proofs.Common.{◌≡◌, ◌≢◌, ℕ, zero, suc, ℤ, ◌+◌, List, [], ◌∷◌, ◌++◌, Option, Some, None, length, slice_get}
use Rattle.std.proofs.Common.{◌⊎◌, inl, inr, refl, sym, ap, subst, ◌∙◌}
use Rattle.std.specs.Prelude.{Bool, true, false, ◌==◌, ◌&&◌}
use Rattle.std.proofs.lemmas.Bool.{cases_eq, and_parts, eqb-true}
use Rattle.matching.specs.declared.packet.Context.{Context}
use Rattle.matching.specs.declared.packet.Context.TheVariants.{PointToPoint}
use Rattle.rank_language.specs.Block.{remaining}
use Rattle.rank_language.specs.Program.{block_of}
use Rattle.rank_machine.specs.declared.want.Want.{Want}
use Rattle.rank_machine.specs.declared.want.Want.TheVariants as want
use Rattle.rank_machine.specs.States.{State, Inners, here, on}
use Rattle.rank_machine.specs.Wants.{wants, payload}
use Rattle.rank_machine.specs.Acts.{Act, Message, IsNamed, sends, takes, hits, misses, prints, Fits, Makes, Runs, next}
use Rattle.rank_machine.specs.Machine.{MachineValue, state_of}
use Rattle.rank_machine.proofs.Determined.{still, inner_wants, same_runs}
use Rattle.rank_machine.proofs.Striding.{on_the_way}
use Rattle.crash_free.specs.Runs.{Passed, History, at_place, cons_if, history, sent, send_at, looked_up, MayMake}
use Rattle.crash_free.specs.Sim.{SimValue, Simulates, start_of}
use Rattle.crash_free.specs.Wanted.{Wants, WantsAt}
use Rattle.crash_free.proofs.Lists.{history-own, history-other, sent-own, sent-other}
use Rattle.crash_free.proofs.Steps.{Inners-append, Runs-push}
use Rattle.audit.proofs.FinalRunsLaws.Simulating.{wanted}
use Rattle.explore.specs.Exploring.{and_then}
use Rattle.explore.specs.Persistent.{GoesOnWithout, there, further}
use Rattle.explore.specs.Settled.{AreOfProgram, HasSentAll}
use Rattle.explore.specs.Silences.{SendsNone, Claims, IsTableOf, has_tag}
use Rattle.explore.specs.declared.silences.silence.Silence.{Silence}
use Rattle.explore.specs.declared.silences.sought.Sought.{Sought}
use Rattle.explore.proofs.SilentSteps.{Keeps, inners_keep, runs_keep}
use Rattle.audit.proofs.Reaching.{some_there}
use Rattle.explore.specs.declared.send_mode.SendMode.TheVariants.{Buffered}

-- what is wanted is nothing more
abbrev pub HasEnded : Want → Type 0
HasEnded want.Halted = Unit {0}
HasEnded (want.Faulted fault) = Unit {0}
HasEnded want.Internal = ⊥
HasEnded (want.Send dest context tag) = ⊥
HasEnded (want.Receive selector) = ⊥
HasEnded (want.Probe selector) = ⊥
HasEnded (want.TryProbe selector) = ⊥
HasEnded (want.Print value) = ⊥

-- who has ended answers no act
ended_fits_none : (w : Want) (items : List ℤ) (act : Act) (m : Option Message) → HasEnded w → Fits w items act m → ⊥
ended_fits_none want.Halted items act m h f = f
ended_fits_none (want.Faulted k) items act m h f = f
ended_fits_none want.Internal items act m h f = h
ended_fits_none (want.Send d c t) items act m h f = h
ended_fits_none (want.Receive w) items act m h f = h
ended_fits_none (want.Probe w) items act m h f = h
ended_fits_none (want.TryProbe w) items act m h f = h
ended_fits_none (want.Print v) items act m h f = h

-- nor comes to a state that does
ended_makes_none : {a mid : State} (act : Act) (m : Option Message) → Inners a mid → HasEnded (wants a) → Makes mid act m → ⊥
ended_makes_none {a = a} act m here h makes = ended_fits_none (wants a) (payload a) act m h makes
ended_makes_none {a = a} act m (on {b = b} e r) h makes = (let z : HasEnded want.Internal = subst HasEnded (inner_wants a b e) h in z)

-- From a state that sends none

module _ (dest : ℕ) (sought : Option ℕ) where
  -- inner steps lead to one that sends none
  inners_silent : (a b : State) → Inners a b → SendsNone dest sought a → SendsNone dest sought b
  inners_silent a b steps h [] c stands tag items m runs more =
      h [] a stands tag items m refl (Inners-append steps (subst (λ z. Inners z stands) runs more))
  inners_silent a b steps h (x ∷ xs) c stands tag items m (d, (mid, own, makes, after), runs) more =
      h (x ∷ xs) c stands tag items m (d, (mid, Inners-append steps own, makes, after), runs) more

  -- and so does an act
  next_silent : (a : State) (act : Act) (m : Option Message) → Makes a act m → SendsNone dest sought a → SendsNone dest sought (next a act m)
  next_silent a act m makes h made c stands tag items got runs =
      h ((act, m) ∷ made) c stands tag items got (next a act m, (a, here, makes, refl), runs)

-- what sends none of these messages sends none of those that are among them
tag_covered : (dest : ℕ) (own sought : Option ℕ) (a : State) → has_tag own sought ≡ true → SendsNone dest own a → SendsNone dest sought a
tag_covered dest None sought a among h = λ made b stands tag items m runs steps named. h made b stands tag items m runs steps tt
tag_covered dest (Some k) None a among h = absurd cc
tag_covered dest (Some k) (Some j) a among h = subst (λ z. SendsNone dest (Some z) a) (eqb-true k j among) h

-- Messages of a context to a rank, whose tag is sought

module _ (r : ℕ) (context : Context) (tag : Option ℕ) where
  -- a message is one of them
  abbrev pub IsSought : Message → Type 0
  IsSought m = (m.context ≡ context) × IsNamed tag m.tag

  -- none in the list is
  abbrev pub HasNone : List Message → Type 0
  HasNone [] = Unit {0}
  HasNone (x ∷ xs) = (IsSought x → ⊥) × HasNone xs

  -- so none is there
  none_there : (xs : List Message) (i : ℕ) (m : Message) → HasNone xs → IsSought m → slice_get xs i ≡ Some m → ⊥
  none_there [] i m none kind is = absurd cc
  none_there (x ∷ xs) zero m none kind is = (let same : m ≡ x = cc in none.0 (subst (λ y. IsSought y) same kind))
  none_there (x ∷ xs) (suc i) m none kind is = none_there xs i m none.1 kind is

  -- one that is found stands before them
  found_before : (xs ys : List Message) (i : ℕ) (m : Message) → HasNone ys → IsSought m → slice_get (xs ++ ys) i ≡ Some m
      → slice_get xs i ≡ Some m
  found_before [] ys i m none kind is = absurd (none_there ys i m none kind is)
  found_before (x ∷ xs) ys zero m none kind is = is
  found_before (x ∷ xs) ys (suc i) m none kind is = found_before xs ys i m none kind is

  -- the same by its place
  placed_before : (xs ys : List Message) (place : ℕ) (m : Message) → HasNone ys → IsSought m → at_place (xs ++ ys) place ≡ Some m
      → at_place xs place ≡ Some m
  placed_before xs ys zero m none kind is = absurd cc
  placed_before xs ys (suc i) m none kind is = found_before xs ys i m none kind is

  -- a send to another rank, or of another one, gives none
  other_sent : (sent_there : Bool) (x : Message) → (sent_there ≡ true → IsSought x → ⊥) → HasNone (cons_if sent_there x [])
  other_sent true x other = (other refl, tt)
  other_sent false x other = tt

  -- no send of one stands behind this state, if the context is that of sends, or it has ended
  abbrev pub IsSilent : State → Type 0
  IsSilent a = ((context ≡ PointToPoint) × SendsNone r tag a) ⊎ HasEnded (wants a)

  -- an act of a rank that sends no more sends none
  sends_none : (a : State) (act : Act) (m : Option Message) → context ≡ PointToPoint → SendsNone r tag a → Makes a act m → (c : ℕ)
      → HasNone (send_at c r act [])
  sends_none a (sends d other own items) m is h makes c =
      other_sent (d == r) (record { clock = c; context = other; tag = own; items = items })
      (λ there one. h [] a a own items m refl here one.1
      (subst (λ z. Makes a (sends z PointToPoint own items) m) (eqb-true d r there) (subst (λ z. Makes a (sends d z own items) m) (one.0 ∙ is) makes)))
  sends_none a (takes source place) m is h makes c = tt
  sends_none a (hits source place) m is h makes c = tt
  sends_none a misses m is h makes c = tt
  sends_none a (prints value) m is h makes c = tt

  -- What a silent state comes to by inner steps and an act: none is sent, and it is silent too.
  record Stays (act : Act) (b : State) : Type 0 where
    none : (c : ℕ) → HasNone (send_at c r act [])
    silent : IsSilent b

  -- so it is, whichever of the two the state is
  silent_act : (a mid : State) (act : Act) (m : Option Message) → IsSilent a → Inners a mid → Makes mid act m → Stays act (next mid act m)
  silent_act a mid act m (inl h) steps makes =
      let now : SendsNone r tag mid = inners_silent r tag a mid steps h.1 in
      record { none = sends_none mid act m h.0 now makes; silent = inl (h.0, next_silent r tag mid act m makes now) }
  silent_act a mid act m (inr ended) steps makes = absurd (ended_makes_none act m steps ended makes)

  -- A rank with this history stands, by inner steps, at a silent state.
  record SilentAfter (start : State) (h : History) : Type 0 where
    after : State
    stands : State
    reached : Runs start h after
    steps : Inners after stands
    silent : IsSilent stands

  -- with one more act too
  silent_own : (start : State) (inbound : ℕ → List Message) (h : History) (act : Act) → SilentAfter start h → MayMake start inbound h act
      → ((c : ℕ) → HasNone (send_at c r act [])) × SilentAfter start (h ++ (act, looked_up inbound act) ∷ [])
  silent_own start inbound h act x may = (
    stays.none,
    record {
      after = next may.stands act (looked_up inbound act);
      stands = next may.stands act (looked_up inbound act);
      reached =
          Runs-push start may.after (next may.stands act (looked_up inbound act)) h (act, looked_up inbound act) may.reached
          (may.stands, may.inner, may.makes, refl);
      steps = here;
      silent = stays.silent;
    },
  )
    where
      after : may.after ≡ x.after
      after = same_runs start may.after x.after h may.reached x.reached

      on_from_there : Inners x.stands may.stands
      on_from_there = on_the_way x.steps (subst (λ a. Inners a may.stands) after may.inner) (still may.stands act (looked_up inbound act) may.makes)

      stays : Stays act (next may.stands act (looked_up inbound act))
      stays = silent_act x.stands may.stands act (looked_up inbound act) x.silent on_from_there may.makes

  module _ (start : ℕ → State) (n q place : ℕ) (m : Message) (kind : IsSought m) where
    -- so however the ranks go on, such a message that it has sent then it has sent before
    sent_stays : {P C : List Passed} → GoesOnWithout Buffered start n r P C → SilentAfter (start q) (history P q) → at_place (sent C q r) place ≡ Some m
        → at_place (sent P q r) place ≡ Some m
    sent_stays there x found = found
    sent_stays {P = P} {C = C} (further p act apart may more) x found = by_rank (λ y. sent_stays more y found) (cases_eq p q)
      where
        Later : Type 0
        Later = SilentAfter (start q) (history (and_then P p act) q) → at_place (sent (and_then P p act) q r) place ≡ Some m

        by_rank : Later → (p ≡ q) ⊎ (p ≡ q → ⊥) → at_place (sent P q r) place ≡ Some m
        by_rank later (inl own) =
            let may' : MayMake (start q) (λ s. sent P s q) (history P q) act =
            subst (λ z. MayMake (start z) (λ s. sent P s z) (history P z) act) own may.1 in
            let k = silent_own (start q) (λ s. sent P s q) (history P q) act x may' in
            let longer : history (and_then P p act) q ≡ history P q ++ (act, looked_up (λ s. sent P s q) act) ∷ [] =
            subst (λ z. history (and_then P p act) z ≡ history P z ++ (act, looked_up (λ s. sent P s z) act) ∷ []) own (history-own P p act) in
            let all : sent (and_then P p act) q r ≡ sent P q r ++ send_at (length (history P q) + 1) r act [] =
            subst (λ z. sent (and_then P p act) z r ≡ sent P z r ++ send_at (length (history P z) + 1) r act []) own (sent-own P p r act) in
            placed_before (sent P q r) (send_at (length (history P q) + 1) r act []) place m (k.0 (length (history P q) + 1)) kind
            (subst (λ xs. at_place xs place ≡ Some m) all (later (subst (λ h. SilentAfter (start q) h) (sym longer) k.1)))
        by_rank later (inr other) =
            subst (λ xs. at_place xs place ≡ Some m) (sent-other P (record { rank = p; act = act }) q r other)
            (later (subst (λ h. SilentAfter (start q) h) (sym (history-other P (record { rank = p; act = act }) q other)) x))

  -- a rank whose machine stands at a silent state has sent all
  machine_silent : (s : SimValue) (q : ℕ) (m : MachineValue) → Simulates s → slice_get s.machines q ≡ Some m → IsSilent (state_of m)
      → HasSentAll s r context tag q
  machine_silent s q m now is silent C place found goes kind then =
      let at = now.ranks q m is in
      sent_stays (start_of s.program (length s.machines)) (length s.machines) q place found kind goes
      (record { after = at.0; stands = state_of m; reached = at.1; steps = at.2; silent = silent }) then

  -- so has who has ended
  pub ended_silent : (s : SimValue) (q : ℕ) (w : Want) → Simulates s → WantsAt s.machines q w → HasEnded w → HasSentAll s r context tag q
  ended_silent s q w now asked ended =
      let m = some_there (slice_get s.machines q) (λ x. Wants x w) asked in
      let apart : w ≢ want.Internal = λ e. (let z : HasEnded want.Internal = subst HasEnded e ended in z) in
      let is : wants (state_of m.0) ≡ w = wanted s q m.0 w now m.1 m.2 apart in
      machine_silent s q m.0 now m.1 (inr (subst HasEnded (sym is) ended))

  -- and so has who stands at a position that the table claims, if the context is that of sends
  claim_silent : (s : SimValue) (sought : Sought) (m : MachineValue) (table : List Silence) → context ≡ PointToPoint → Simulates s
      → AreOfProgram s → IsTableOf s.program table → slice_get s.machines sought.sender ≡ Some m → sought.ranks ≡ length s.machines
      → sought.receiver ≡ r → sought.tag ≡ tag → Claims table sought m.position → HasSentAll s r context tag sought.sender
  claim_silent s sought m table kind now programs right is many to own x =
      machine_silent s sought.sender m now is
      (inl (
        kind,
        tag_covered r x.row.sought.tag tag (state_of m) (subst (λ z. has_tag x.row.sought.tag z ≡ true) own tags)
            (subst (λ z. SendsNone z x.row.sought.tag (state_of m)) (receivers ∙ to)
            (right x.place x.row x.there m.position x.claim (state_of m) (ap (λ z. remaining (block_of z) m.position) (programs sought.sender m is))
            (keeps.0 ∙ sym senders) (keeps.1 ∙ sym many ∙ sym sizes))),
      ))
    where
      at : (after : State) × Runs (start_of s.program (length s.machines) sought.sender) (history s.run sought.sender) after × Inners after (state_of m)
      at = now.ranks sought.sender m is

      keeps : Keeps (start_of s.program (length s.machines) sought.sender) (state_of m)
      keeps =
          let k = runs_keep (start_of s.program (length s.machines) sought.sender) (history s.run sought.sender) at.0 at.1 in
          let j = inners_keep at.2 in
          (j.0 ∙ k.0, j.1 ∙ k.1)

      first : ((x.row.sought.ranks == sought.ranks) ≡ true)
          × (((x.row.sought.sender == sought.sender) && ((x.row.sought.receiver == sought.receiver) && has_tag x.row.sought.tag sought.tag)) ≡ true)
      first = and_parts (x.row.sought.ranks == sought.ranks) _ x.covered

      second : ((x.row.sought.sender == sought.sender) ≡ true)
          × (((x.row.sought.receiver == sought.receiver) && has_tag x.row.sought.tag sought.tag) ≡ true)
      second = and_parts (x.row.sought.sender == sought.sender) _ first.1

      third : ((x.row.sought.receiver == sought.receiver) ≡ true) × (has_tag x.row.sought.tag sought.tag ≡ true)
      third = and_parts (x.row.sought.receiver == sought.receiver) (has_tag x.row.sought.tag sought.tag) second.1

      sizes : x.row.sought.ranks ≡ sought.ranks
      sizes = eqb-true x.row.sought.ranks sought.ranks first.0

      senders : x.row.sought.sender ≡ sought.sender
      senders = eqb-true x.row.sought.sender sought.sender second.0

      receivers : x.row.sought.receiver ≡ sought.receiver
      receivers = eqb-true x.row.sought.receiver sought.receiver third.0

      tags : has_tag x.row.sought.tag sought.tag ≡ true
      tags = third.1

  pub claimed_silent : (s : SimValue) (q position : ℕ) (sought : Sought) (m : MachineValue) (table : List Silence) (answer : Bool)
      → context ≡ PointToPoint → Simulates s → AreOfProgram s → IsTableOf s.program table → slice_get s.machines q ≡ Some m → position ≡ m.position
      → sought.ranks ≡ length s.machines → sought.sender ≡ q → sought.receiver ≡ r → sought.tag ≡ tag → (answer ≡ true → Claims table sought position)
      → answer ≡ true → HasSentAll s r context tag q
  claimed_silent s q position sought m table answer kind now programs right is at many from to own said said_so =
      subst (λ z. HasSentAll s r context tag z) from
      (claim_silent s sought m table kind now programs right (subst (λ z. slice_get s.machines z ≡ Some m) (sym from) is) many to own
      (subst (λ p. Claims table sought p) at (said said_so)))
