-- Claims that hold line by line are right: whatever a rank does that stands at a position that is
-- claimed, it comes to positions that are, and at none of them it sends what is sought.
use Rattle.std.proofs.Common.{◌≡◌, ℕ, ◌+◌, ◌≤◌, ◌<◌, suc, zero, ℤ, List, [], ◌∷◌, length, Bool, true, false, Ok, Err, Option, Some, None}
use Rattle.std.proofs.Common.{slice_get, refl, sym, ap, subst, ◌∙◌, arith, ◌⊎◌, inl, inr}
use Rattle.std.proofs.lemmas.Bool.{cases_lt}
use Rattle.std.proofs.lemmas.List.{get_or_past}
use Rattle.std.proofs.lemmas.Option.{slice_get_within, slice_get-get_or}
use Rattle.matching.specs.declared.packet.Context.TheVariants.{PointToPoint}
use Rattle.rank_language.specs.Placed.{Placed, Simple}
use Rattle.rank_language.specs.Block.{Block, done, plain, Line, simple_line, if_line, else_line, end_line, while_line}
use Rattle.rank_language.specs.Block.{back_line, size, lines_at, places, remaining, tested, taken}
use Rattle.rank_language.specs.Program.{ProgramValue, block_of}
use Rattle.rank_language.proofs.Places.{leads, length-lines_at, length-places}
use Rattle.rank_machine.specs.declared.fault.MachineFault.{MachineFault}
use Rattle.rank_machine.specs.declared.want.Want.{Want}
use Rattle.rank_machine.specs.declared.want.Want.TheVariants as want
use Rattle.rank_machine.specs.Values.{Store, Valued}
use Rattle.rank_machine.specs.States.{State, Inners, here, on}
use Rattle.rank_machine.specs.Wants.{or_fault, want_of, wants, payload}
use Rattle.rank_machine.specs.Acts.{Act, Message, sends, IsNamed, Fits, Runs, next}
use Rattle.rank_machine.specs.Machine.{line_want, machine_want_at}
use Rattle.rank_machine.proofs.Lines.{line_wants}
use Rattle.crash_free.specs.LiveVariables.Live.{claimed}
use Rattle.explore.specs.Silences.{SendsNone, IsSilentFrom, HoldsAt, AllHold}
use Rattle.explore.specs.declared.silences.sought.Sought.{Sought}
use Rattle.explore.proofs.SilentLoops.{leads_back}
use Rattle.explore.proofs.SilentSteps.{Behind, Follows, inner_follows, next_follows}

-- the line does something, or there is none
abbrev pub DoesSome : Option Line → Type 0
DoesSome None = Unit {0}
DoesSome (Some (simple_line s)) = Unit {0}
DoesSome (Some (if_line e q)) = Unit {0}
DoesSome (Some (else_line q)) = ⊥
DoesSome (Some end_line) = ⊥
DoesSome (Some (while_line e q)) = Unit {0}
DoesSome (Some (back_line q)) = ⊥

module _ (t : Block) (sought : Sought) (row : List Bool) (hold : AllHold sought row (lines_at 0 t)) where
  abbrev at : ℕ → Block
  at p = remaining t p

  abbrev get : ℕ → Option Line
  get p = slice_get (lines_at 0 t) p

  -- A position that is claimed, at which these statements remain.
  record Stands (b : Block) : Type 0 where
    place : ℕ
    claim : claimed row place ≡ true
    rest : b ≡ at place

  -- so it is of equal ones
  moved : (b c : Block) → b ≡ c → Stands c → Stands b
  moved b c same s = record { place = s.place; claim = s.claim; rest = same ∙ s.rest }

  -- and its line does something
  record Acts (b : Block) : Type 0 where
    stands : Stands b
    some : DoesSome (get stands.place)

  -- there is one here, or behind a line that only leads on
  comes_from : (b : Block) (s : Stands b)
      → ((q : ℕ) → s.place < q → s.place < size t → claimed row q ≡ true → b ≡ at q → Acts b) → Acts b
  comes_from b s next = by_line (get s.place) refl
    where
      holds : (l : Line) → get s.place ≡ Some l → HoldsAt sought (claimed row) s.place l
      holds l is = hold s.place l is s.claim

      low : (l : Line) → get s.place ≡ Some l → s.place < size t
      low l is = subst (λ z. s.place < z) (length-lines_at 0 t) (slice_get_within (lines_at 0 t) s.place l is)

      by_line : (o : Option Line) → get s.place ≡ o → Acts b
      by_line None is = record { stands = s; some = subst DoesSome (sym is) tt }
      by_line (Some (simple_line x)) is = record { stands = s; some = subst DoesSome (sym is) tt }
      by_line (Some (if_line e q)) is = record { stands = s; some = subst DoesSome (sym is) tt }
      by_line (Some (while_line e q)) is = record { stands = s; some = subst DoesSome (sym is) tt }
      by_line (Some (else_line q)) is =
          let on_to = leads t s.place (else_line q) is in
          next q on_to.0 (low (else_line q) is) (holds (else_line q) is).on (s.rest ∙ on_to.1)
      by_line (Some end_line) is =
          next (s.place + 1) (omega arith) (low end_line is) (holds end_line is).on (s.rest ∙ leads t s.place end_line is)
      by_line (Some (back_line q)) is =
          let on_to = leads t s.place (back_line q) is in
          let w = leads_back t s.place (back_line q) is in
          record {
            stands = record { place = q; claim = (holds (back_line q) is).on; rest = s.rest ∙ on_to.1 };
            some = subst DoesSome (sym w.2) tt;
          }

  -- so there is one, however many such lines stand there
  comes : (k : ℕ) (b : Block) (s : Stands b) → size t ≤ s.place + k → Acts b
  comes zero b s many = comes_from b s (λ q up low claim rest. absurd (omega (arith, many, low)))
  comes (suc k) b s many =
      comes_from b s (λ q up low claim rest. comes k b (record { place = q; claim = claim; rest = rest }) (omega (arith, many, up)))

  acts : (b : Block) → Stands b → Acts b
  acts b s = comes (size t) b s (omega arith)

  -- past the last line nothing remains
  past : (p : ℕ) → get p ≡ None → at p ≡ done
  past p is = by_end (cases_lt p (length (lines_at 0 t)))
    where
      by_end : (p < length (lines_at 0 t)) ⊎ (length (lines_at 0 t) ≤ p) → at p ≡ done
      by_end (inl low) = absurd (let there = sym is ∙ slice_get-get_or (lines_at 0 t) p end_line low in cc)
      by_end (inr high) = get_or_past (places t done) p done (omega (arith, high, length-places t done, length-lines_at 0 t))

  -- behind a first statement it is claimed
  on_behind : (b c : Block) (x : Simple) → b ≡ plain x c → (a : Acts b) (o : Option Line) → get a.stands.place ≡ o → DoesSome o → Stands c
  on_behind b c x whole a None is some =
      let none : plain x c ≡ done = sym whole ∙ a.stands.rest ∙ past a.stands.place is in
      absurd cc
  on_behind b c x whole a (Some (simple_line y)) is some =
      let p = a.stands.place in
      let there : at p ≡ plain y (at (p + 1)) = leads t p (simple_line y) is in
      let same : plain x c ≡ plain y (at (p + 1)) = sym whole ∙ a.stands.rest ∙ there in
      let rest : c ≡ at (p + 1) = cc in
      record { place = p + 1; claim = (hold p (simple_line y) is a.stands.claim).on; rest = rest }
  on_behind b c x whole a (Some (if_line e q)) is some =
      let there = (leads t a.stands.place (if_line e q) is).1 in
      let none : tested (plain x c) ≡ Some e = ap tested (sym whole ∙ a.stands.rest) ∙ there in
      absurd cc
  on_behind b c x whole a (Some (while_line e q)) is some =
      let there = (leads t a.stands.place (while_line e q) is).1 in
      let none : tested (plain x c) ≡ Some e = ap tested (sym whole ∙ a.stands.rest) ∙ there in
      absurd cc
  on_behind b c x whole a (Some (else_line q)) is some = absurd some
  on_behind b c x whole a (Some end_line) is some = absurd some
  on_behind b c x whole a (Some (back_line q)) is some = absurd some

  -- so it is where the two positions of a test are
  on_either : (b c : Block) (truth : Bool) (s : Stands b) (q : ℕ) → c ≡ taken truth b → claimed row (s.place + 1) ≡ true → claimed row q ≡ true
      → at (s.place + 1) ≡ taken true (at s.place) → at q ≡ taken false (at s.place) → Stands c
  on_either b c true s q is up down taken_there passed_there = record { place = s.place + 1; claim = up; rest = is ∙ ap (taken true) s.rest ∙ sym taken_there }
  on_either b c false s q is up down taken_there passed_there = record { place = q; claim = down; rest = is ∙ ap (taken false) s.rest ∙ sym passed_there }

  -- behind a test
  on_tested : (b c : Block) (truth : Bool) (x : Placed) → tested b ≡ Some x → c ≡ taken truth b → (a : Acts b) (o : Option Line)
      → get a.stands.place ≡ o → DoesSome o → Stands c
  on_tested b c truth x tests goes a None is some =
      let none : tested done ≡ Some x = ap tested (sym (a.stands.rest ∙ past a.stands.place is)) ∙ tests in
      absurd cc
  on_tested b c truth x tests goes a (Some (simple_line y)) is some =
      let p = a.stands.place in
      let there : at p ≡ plain y (at (p + 1)) = leads t p (simple_line y) is in
      let none : tested (plain y (at (p + 1))) ≡ Some x = ap tested (sym (a.stands.rest ∙ there)) ∙ tests in
      absurd cc
  on_tested b c truth x tests goes a (Some (if_line e q)) is some =
      let there = leads t a.stands.place (if_line e q) is in
      let h = hold a.stands.place (if_line e q) is a.stands.claim in
      on_either b c truth a.stands q goes h.on h.off there.2 there.3
  on_tested b c truth x tests goes a (Some (while_line e q)) is some =
      let there = leads t a.stands.place (while_line e q) is in
      let h = hold a.stands.place (while_line e q) is a.stands.claim in
      on_either b c truth a.stands q goes h.on h.off there.2 there.3
  on_tested b c truth x tests goes a (Some (else_line q)) is some = absurd some
  on_tested b c truth x tests goes a (Some end_line) is some = absurd some
  on_tested b c truth x tests goes a (Some (back_line q)) is some = absurd some

  -- so wherever a step leads
  steps_on : (b c : Block) → Stands b → Acts b → Behind b c → Stands c
  steps_on b c s a (inl same) = moved c b same s
  steps_on b c s a (inr (inl x)) = on_behind b c x.0 x.1 a (get a.stands.place) refl a.some
  steps_on b c s a (inr (inr x)) = on_tested b c x.0 x.1 x.2 x.3 a (get a.stands.place) refl a.some

  -- A state of the sender that stands at a position that is claimed.
  record Holds (a : State) : Type 0 where
    stands : Stands a.rest
    rank : a.store.rank ≡ sought.sender
    size : a.store.size ≡ sought.ranks

  -- so a step on
  follows : (a b : State) → Follows a b → Holds a → Holds b
  follows a b f h = record { stands = steps_on a.rest b.rest h.stands (acts a.rest h.stands) f.rest; rank = f.rank ∙ h.rank; size = f.size ∙ h.size }

  inners_hold : {a b : State} → Inners a b → Holds a → Holds b
  inners_hold here h = h
  inners_hold {a = a} (on {b = b} e r) h = inners_hold r (follows a b (inner_follows a b e) h)

  runs_hold : (a : State) (made : List (Act × Option Message)) (b : State) → Runs a made b → Holds a → Holds b
  runs_hold a [] b is h = subst Holds (sym is) h
  runs_hold a (x ∷ xs) b (c, (mid, steps, makes, after), more) h =
      runs_hold c xs b more (subst Holds (sym after) (follows mid (next mid x.0 x.1) (next_follows mid x.0 x.1) (inners_hold steps h)))

  -- the send of a message that is sought
  abbrev Sends : ℕ → Want → Type 0
  Sends tag w = w ≡ want.Send sought.receiver PointToPoint tag

  -- what doesn't fault
  unfaulted : (tag : ℕ) (v : Valued Want) → Sends tag (or_fault v) → v ≡ Ok (want.Send sought.receiver PointToPoint tag)
  unfaulted tag (Ok w) e = ap Ok e
  unfaulted tag (Err k) e = absurd cc

  -- a line that is claimed asks for none
  line_none : (s : Store) (tag p : ℕ) (l : Line) → s.rank ≡ sought.sender → s.size ≡ sought.ranks → IsNamed sought.tag tag → claimed row p ≡ true
      → get p ≡ Some l → machine_want_at (Some l) None (want_of s (at p) None) ≡ want_of s (at p) None → Sends tag (want_of s (at p) None) → ⊥
  line_none s tag p l rank size named claim is same w =
      (hold p l is claim).none s tag size rank named
      (unfaulted tag (line_want s l) (sym (line_wants at p l s (leads t p l is)) ∙ same ∙ w))

  -- nor do the statements that remain there
  rest_none : (s : Store) (tag p : ℕ) (o : Option Line) → s.rank ≡ sought.sender → s.size ≡ sought.ranks → IsNamed sought.tag tag
      → claimed row p ≡ true → get p ≡ o → DoesSome o → Sends tag (want_of s (at p) None) → ⊥
  rest_none s tag p None rank size named claim is some w =
      let none : Sends tag (want_of s done None) = subst (λ b. Sends tag (want_of s b None)) (past p is) w in
      cc
  rest_none s tag p (Some (simple_line y)) rank size named claim is some w = line_none s tag p (simple_line y) rank size named claim is refl w
  rest_none s tag p (Some (if_line e q)) rank size named claim is some w = line_none s tag p (if_line e q) rank size named claim is refl w
  rest_none s tag p (Some (while_line e q)) rank size named claim is some w = line_none s tag p (while_line e q) rank size named claim is refl w
  rest_none s tag p (Some (else_line q)) rank size named claim is some w = some
  rest_none s tag p (Some end_line) rank size named claim is some w = some
  rest_none s tag p (Some (back_line q)) rank size named claim is some w = some

  -- nor a state, whether it has faulted or not
  state_none : (s : Store) (b : Block) (k : Option MachineFault) (tag : ℕ) → s.rank ≡ sought.sender → s.size ≡ sought.ranks
      → IsNamed sought.tag tag → Acts b → Sends tag (want_of s b k) → ⊥
  state_none s b None tag rank size named x w =
      rest_none s tag x.stands.place (get x.stands.place) rank size named x.stands.claim refl x.some
      (subst (λ z. Sends tag (want_of s z None)) x.stands.rest w)
  state_none s b (Some k) tag rank size named x w = cc

  wants_none : (a : State) (tag : ℕ) → Holds a → IsNamed sought.tag tag → Sends tag (wants a) → ⊥
  wants_none a tag h named w = state_none a.store a.rest a.fault tag h.rank h.size named (acts a.rest h.stands) w

  -- a send is made where it is wanted
  wanted : (w : Want) (given : List ℤ) (dest tag : ℕ) (items : List ℤ) (m : Option Message) → Fits w given (sends dest PointToPoint tag items) m
      → w ≡ want.Send dest PointToPoint tag
  wanted (want.Send d c k) given dest tag items None f = rw (sym f.0, sym f.1, sym f.2) refl
  wanted (want.Send d c k) given dest tag items (Some m) f = absurd f
  wanted want.Internal given dest tag items m f = absurd f
  wanted (want.Receive w) given dest tag items m f = absurd f
  wanted (want.Probe w) given dest tag items m f = absurd f
  wanted (want.TryProbe w) given dest tag items m f = absurd f
  wanted (want.Print v) given dest tag items m f = absurd f
  wanted want.Halted given dest tag items m f = absurd f
  wanted (want.Faulted k) given dest tag items m f = absurd f

  sends_none : (a : State) → Holds a → SendsNone sought.receiver sought.tag a
  sends_none a h made b stands tag items m runs steps named makes =
      wants_none stands tag (inners_hold steps (runs_hold a made b runs h)) named
      (wanted (wants stands) (payload stands) sought.receiver tag items m makes)

-- so each claim is right
pub row_is_right : (program : ProgramValue) (sought : Sought) (row : List Bool) → program.statements ≡ lines_at 0 (block_of program)
    → AllHold sought row program.statements → (p : ℕ) → claimed row p ≡ true → IsSilentFrom program sought p
row_is_right program sought row lines hold p claim a rest rank size =
    sends_none (block_of program) sought row (subst (λ ls. AllHold sought row ls) lines hold) a
    (record { stands = record { place = p; claim = claim; rest = rest }; rank = rank; size = size })
