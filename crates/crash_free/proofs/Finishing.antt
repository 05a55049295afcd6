-- How a rank finishes a collective: by its last part, whatever that is.
use Rattle.std.proofs.Common.{◌≡◌, ℕ, ℤ, ◌+◌, ◌<◌, true, false, List, [], ◌∷◌, Ok, Option, Some, None, length, refl, sym, ap, subst, ◌∙◌, arith, slice_get}
use Rattle.std.proofs.Common.{◌⊎◌, inl, inr}
use Rattle.std.proofs.lemmas.Bool.{eq-eqb, ne_eqb, cases_eq}
use Rattle.matching.specs.declared.packet.Context.TheVariants.{Collective}
use Rattle.rank_language.specs.Placed as statements
use Rattle.rank_language.specs.Placed.{barrier, broadcast, reduce, collect}
use Rattle.rank_language.specs.Block.{Block, plain}
use Rattle.rank_machine.specs.declared.fault.MachineFault.{MachineFault}
use Rattle.rank_machine.specs.Values.{Store}
use Rattle.rank_machine.specs.Collectives.{CollectiveCall, called, gives, gets, ends, parts_of, is_last, counted, part_done, given_by, ended, unfaulted}
use Rattle.rank_machine.specs.States.{State, inner}
use Rattle.rank_machine.specs.Acts.{Message, Act, takes, kept}
use Rattle.rank_machine.proofs.Outcomes.{standing, Gave, Took, Outcome, made, unfaulted_ok, ended_so}
use Rattle.rank_machine.proofs.Places.{ends_is_last}
use Rattle.rank_machine.proofs.Stages.{stands_at}
use Rattle.crash_free.specs.Runs.{History}
use Rattle.crash_free.specs.Laws.{IsFirst, call_in, call_now, call_unless, first_collective}
use Rattle.crash_free.proofs.OtherSteps.{split, stands_there, written_keeps}
use Rattle.crash_free.proofs.Sound.{IsUnder, IsWay, IsProgress, Sound}

-- a state that stands at a collective
pub record Stood (a : State) (call : CollectiveCall) : Type 0 where
  pub collective : statements.Collective
  pub rest : Block
  pub stands : a ≡ standing a.store collective rest
  pub valid : called a.store collective ≡ Ok call

-- where a call stands, a collective does, and no fault
pub stood : (a : State) (call : CollectiveCall) → call_in a ≡ Some call → Stood a call
stood a call e = by_fault a.fault refl
  where
    by_first : a.fault ≡ None → call_now a.store (first_collective a.rest) ≡ Some call
        → (first_collective a.rest ≡ None) ⊎ ((c : statements.Collective) × (r : Block) × (a.rest ≡ plain (collect c) r)) → Stood a call
    by_first q f (inl none) = absurd (let g : None ≡ Some call = subst (λ o. call_now a.store o ≡ Some call) none f in cc)
    by_first q f (inr x) =
        let now : unfaulted (called a.store x.0) ≡ Some call =
        subst (λ o. call_now a.store o ≡ Some call) (ap first_collective x.2) f in
        record {
          collective = x.0;
          rest = x.1;
          stands = stands_there a x.0 x.1 q x.2;
          valid = unfaulted_ok (called a.store x.0) call now;
        }

    by_fault : (k : Option MachineFault) → a.fault ≡ k → Stood a call
    by_fault None q = by_first q (subst (λ k. call_unless k (call_now a.store (first_collective a.rest)) ≡ Some call) q e) (split a.rest)
    by_fault (Some k) q =
        absurd (let g : None ≡ Some call = subst (λ k. call_unless k (call_now a.store (first_collective a.rest)) ≡ Some call) q e in cc)

-- and the other way
pub call_there : (a : State) (call : CollectiveCall) (c : statements.Collective) (r : Block) → a ≡ standing a.store c r → called a.store c ≡ Ok call
    → call_in a ≡ Some call
call_there a call c r e v = ap call_in e ∙ ap unfaulted v

-- what holds of a collective under way
pub under_of : (r n : ℕ) (h : History) (a : State) (call : CollectiveCall) (c : statements.Collective) (t : Block) → Sound r n h a → a ≡ standing a.store c t
    → called a.store c ≡ Ok call → IsUnder h a.store call
under_of r n h a call c t w e v =
    let way : IsWay h a.store (Some c) = subst (IsWay h a.store) (ap (λ z. first_collective z.rest) e) w.way in
    subst (IsProgress h a.store) v way

-- the rank finished by a send
pub record GaveLast (s : Store) (call : CollectiveCall) (s' : Store) : Type 0 where
  pub dest : ℕ
  pub part : slice_get (parts_of s call) s.done ≡ Some (gives dest)
  pub after : s' ≡ counted s

-- by a reception
pub record TookLast (s : Store) (c : statements.Collective) (call : CollectiveCall) (later : History) (s' : Store) : Type 0 where
  pub source : ℕ
  pub place : ℕ
  pub message : Message
  pub items : List ℤ
  pub more : History
  pub part : slice_get (parts_of s call) s.done ≡ Some (gets source)
  pub first : later ≡ (takes source place, Some message) ∷ more
  pub context : message.context ≡ Collective
  pub agrees : given_by call message.items ≡ Ok items
  pub after : s' ≡ counted (kept c items s)

-- or by a step of its own
pub record EndedLast (s : Store) (c : statements.Collective) (call : CollectiveCall) (s' : Store) : Type 0 where
  pub part : slice_get (parts_of s call) s.done ≡ Some ends
  pub folded : ended s c call ≡ Ok s'

-- which was the last part
pub record Finishing (s : Store) (c : statements.Collective) (call : CollectiveCall) (later : History) (s' : Store) : Type 0 where
  pub last : s.done + 1 ≡ length (parts_of s call)
  pub how : GaveLast s call s' ⊎ (TookLast s c call later s' ⊎ EndedLast s c call s')

-- what the last part stores
passed_last : (s' : Store) (call : CollectiveCall) → is_last s' call ≡ true → part_done s' call ≡ counted s'
passed_last s' call e = rw e refl

-- no other part counts
passed_on : (s' : Store) (call : CollectiveCall) → is_last s' call ≡ false → (part_done s' call).finished ≡ s'.finished
passed_on s' call e = rw e refl

-- what a collective keeps of a packet leaves what is counted, except for what a reduce gathers
kept_keeps : (c : statements.Collective) (items : List ℤ) (s : Store)
    → ((kept c items s).done ≡ s.done) × ((kept c items s).rank ≡ s.rank) × ((kept c items s).size ≡ s.size) × ((kept c items s).finished ≡ s.finished)
kept_keeps barrier items s = (refl, refl, refl, refl)
kept_keeps (broadcast e b) items s = let w = written_keeps b items s in (w.done, w.rank, w.size, w.finished)
kept_keeps (reduce f e v p) items s = (refl, refl, refl, refl)

-- no number is the next
not_next : (n : ℕ) → n ≡ n + 1 → ⊥
not_next n e = omega (arith, e)

-- a send that finished was the last part
gave_last : (s : Store) (c : statements.Collective) (t : Block) (call : CollectiveCall) (act : Act) (m : Option Message) (more : History) (to : State)
    → s.done < length (parts_of s call) → to.store.finished ≡ s.finished + 1 → Gave s c t call act m to → Finishing s c call ((act, m) ∷ more) to.store
gave_last s c t call act m more to w f o = by_last (cases_eq (s.done + 1) (length (parts_of s call)))
  where
    by_last : (s.done + 1 ≡ length (parts_of s call)) ⊎ (s.done + 1 ≡ length (parts_of s call) → ⊥) → Finishing s c call ((act, m) ∷ more) to.store
    by_last (inl e) =
        let yes : is_last s call ≡ true = eq-eqb (s.done + 1) (length (parts_of s call)) e in
        let after = ap (λ z. z.store) o.after ∙ passed_last s call yes in
        record { last = e; how = inl (record { dest = o.dest; part = stands_at s call (gives o.dest) w o.part; after = after }) }
    by_last (inr ne) =
        let not_yet : is_last s call ≡ false = ne_eqb (s.done + 1) (length (parts_of s call)) ne in
        absurd (not_next s.finished (sym (ap (λ z. z.store.finished) o.after ∙ passed_on s call not_yet) ∙ f))

-- a reception that finished was the last part
took_it : (s : Store) (c : statements.Collective) (t : Block) (call : CollectiveCall) (act : Act) (m : Option Message) (more : History) (to : State)
    → s.done < length (parts_of s call) → to.store.finished ≡ s.finished + 1 → Took s c t call act m to → Finishing s c call ((act, m) ∷ more) to.store
took_it s c t call act m more to w f o = by_last (cases_eq (s.done + 1) (length (parts_of s call)))
  where
    keeps : ((kept c o.items s).done ≡ s.done) × ((kept c o.items s).rank ≡ s.rank) × ((kept c o.items s).size ≡ s.size)
        × ((kept c o.items s).finished ≡ s.finished)
    keeps = kept_keeps c o.items s

    same : is_last (kept c o.items s) call ≡ is_last s call
    same = let a = keeps.0 in let b = keeps.1 in let d = keeps.2 in rw (a, b, d) refl

    by_last : (s.done + 1 ≡ length (parts_of s call)) ⊎ (s.done + 1 ≡ length (parts_of s call) → ⊥) → Finishing s c call ((act, m) ∷ more) to.store
    by_last (inl e) =
        let yes : is_last (kept c o.items s) call ≡ true = same ∙ eq-eqb (s.done + 1) (length (parts_of s call)) e in
        record {
          last = e;
          how = inr (inl (record {
            source = o.source;
            place = o.place;
            message = o.message;
            items = o.items;
            more = more;
            part = stands_at s call (gets o.source) w o.part;
            first = rw (o.taken, o.there) refl;
            context = o.context;
            agrees = o.agrees;
            after = ap (λ z. z.store) o.after ∙ passed_last (kept c o.items s) call yes;
          }));
        }
    by_last (inr ne) =
        let not_yet : is_last (kept c o.items s) call ≡ false = same ∙ ne_eqb (s.done + 1) (length (parts_of s call)) ne in
        absurd (not_next s.finished (sym (ap (λ z. z.store.finished) o.after ∙ passed_on (kept c o.items s) call not_yet ∙ keeps.3) ∙ f))

-- so was any act that finished
by_outcome : (s : Store) (c : statements.Collective) (t : Block) (call : CollectiveCall) (act : Act) (m : Option Message) (more : History) (to : State)
    → s.done < length (parts_of s call) → to.store.finished ≡ s.finished + 1 → Outcome s c t call act m to → Finishing s c call ((act, m) ∷ more) to.store
by_outcome s c t call act m more to w f (inl o) = gave_last s c t call act m more to w f o
by_outcome s c t call act m more to w f (inr (inl o)) = took_it s c t call act m more to w f o
by_outcome s c t call act m more to w f (inr (inr o)) = absurd (not_next s.finished (sym (ap (λ z. z.store.finished) o.after) ∙ f))

-- and any step
by_step : (s : Store) (c : statements.Collective) (t : Block) (call : CollectiveCall) (later : History) (to : State) → called s c ≡ Ok call
    → s.done < length (parts_of s call) → to.store.finished ≡ s.finished + 1
    → (inner (standing s c t) ≡ Some to) ⊎ IsFirst (standing s c t) later to → Finishing s c call later to.store
by_step s c t call later to e w f (inl i) =
    let o = ended_so s c t call e to i in
    let there = stands_at s call ends w o.part in
    record {
      last = ends_is_last call.kind call.root s.size s.rank s.done there;
      how = inr (inr (record { part = there; folded = o.folded ∙ ap Ok (sym (ap (λ z. z.store) o.after)) }));
    }
by_step s c t call [] to e w f (inr i) = absurd i
by_step s c t call (x ∷ later) to e w f (inr i) =
    by_outcome s c t call x.0 x.1 later to w f (subst (Outcome s c t call x.0 x.1) (sym i.1) (made s c t call e x.0 x.1 i.0))

-- of any state that stands at a collective
pub finishing : (a : State) (call : CollectiveCall) (later : History) (to : State) (c : statements.Collective) (t : Block)
    → a ≡ standing a.store c t → called a.store c ≡ Ok call → a.store.done < length (parts_of a.store call)
    → to.store.finished ≡ a.store.finished + 1 → (inner a ≡ Some to) ⊎ IsFirst a later to → Finishing a.store c call later to.store
finishing a call later to c t e v w f step =
    by_step a.store c t call later to v w f (subst (λ z. (inner z ≡ Some to) ⊎ IsFirst z later to) e step)
