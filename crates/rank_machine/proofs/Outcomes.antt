-- What a rank that stands at a collective can do next, case by case.
use Rattle.std.proofs.Common.{◌≡◌, ℕ, ℤ, Bool, true, false, List, ◌++◌, Ok, Err, Option, Some}
use Rattle.std.proofs.Common.{None, refl, sym, ap, subst, ◌∙◌, ◌⊎◌, inl, inr, if◌then◌else◌, option_map}
use Rattle.matching.specs.declared.packet.Context.TheVariants.{Collective}
use Rattle.rank_language.specs.Placed as statements
use Rattle.rank_language.specs.Placed.{barrier, broadcast, reduce, collect}
use Rattle.rank_language.specs.Block.{Block, plain}
use Rattle.rank_machine.specs.declared.fault.MachineFault.{MachineFault}
use Rattle.rank_machine.specs.Values.{Store, Valued, ◌>>=◌}
use Rattle.rank_machine.specs.Collectives.{CollectiveCall, called, header, Part, gives, gets, ends, part_of, part_done, rest_after}
use Rattle.rank_machine.specs.Collectives.{given_by, ended, unfaulted, ended_at, ended_by, own_end, stored_or}
use Rattle.rank_machine.specs.States.{State, inner}
use Rattle.rank_machine.specs.Wants.{or_fault, part_want}
use Rattle.rank_machine.specs.Acts.{Message, Act, sends, takes, hits, misses, prints, Fits, Makes, next, kept, fitting, items_taken, part_taken}
use Rattle.rank_machine.proofs.Lines.{never}

-- a rank that stands at a collective
abbrev pub standing : Store → statements.Collective → Block → State
standing s c r = record { store = s; rest = plain (collect c) r; fault = None }

-- after a part that was made
abbrev pub gone : Store → Store → statements.Collective → Block → CollectiveCall → State
gone s s' c r call = record { store = part_done s' call; rest = rest_after s call (plain (collect c) r) r; fault = None }

-- it gave
pub record Gave (s : Store) (c : statements.Collective) (r : Block) (call : CollectiveCall) (act : Act) (m : Option Message) (b : State) : Type 0 where
  pub dest : ℕ
  pub part : part_of s call ≡ gives dest
  pub sent : act ≡ sends dest Collective 0 (header call ++ call.items)
  pub no_message : m ≡ None
  pub after : b ≡ gone s s c r call

-- it got, from a packet of this call
pub record Took (s : Store) (c : statements.Collective) (r : Block) (call : CollectiveCall) (act : Act) (m : Option Message) (b : State) : Type 0 where
  pub source : ℕ
  pub place : ℕ
  pub message : Message
  pub items : List ℤ
  pub part : part_of s call ≡ gets source
  pub taken : act ≡ takes source place
  pub there : m ≡ Some message
  pub context : message.context ≡ Collective
  pub agrees : given_by call message.items ≡ Ok items
  pub after : b ≡ gone s (kept c items s) c r call

-- it got a packet that doesn't fit
pub record Failed (s : Store) (c : statements.Collective) (r : Block) (call : CollectiveCall) (act : Act) (m : Option Message) (b : State) : Type 0 where
  pub fault : MachineFault
  pub source : ℕ
  pub place : ℕ
  pub taken : act ≡ takes source place
  pub after : b ≡ record { store = s; rest = plain (collect c) r; fault = Some fault }

-- one of the three
abbrev pub Outcome : Store → statements.Collective → Block → CollectiveCall → Act → Option Message → State → Type 0
Outcome s c r call act m b = Gave s c r call act m b ⊎ (Took s c r call act m b ⊎ Failed s c r call act m b)

-- what fits is left as it is
pub fitting_same : (s : Store) (c : statements.Collective) (vs ws : List ℤ) → fitting s c vs ≡ Ok ws → ws ≡ vs
fitting_same s barrier vs ws e = cc
fitting_same s (reduce f e' v p) vs ws e = cc
fitting_same s (broadcast e' b) vs ws e = by_test _ e
  where
    by_test : (t : Bool) → (if t then Ok vs else Err MachineFault.TooLong) ≡ Ok ws → ws ≡ vs
    by_test true e = cc
    by_test false e = cc

-- a reception is one of this call, or fails
takes_one : (s : Store) (c : statements.Collective) (r : Block) (call : CollectiveCall) (q j : ℕ) (m : Message) → part_of s call ≡ gets q
    → m.context ≡ Collective → (v : Valued (List ℤ)) → given_by call m.items ≡ v
    → (w : Valued (List ℤ)) → (v >>= (λ items. fitting s c items)) ≡ w
    → (b : State) → b ≡ part_taken (standing s c r) c r call w → Outcome s c r call (takes q j) (Some m) b
takes_one s c r call q j m p x (Ok vs) e (Ok ws) g b h =
    let same : ws ≡ vs = fitting_same s c vs ws g in
    inr (inl (record {
      source = q;
      place = j;
      message = m;
      items = vs;
      part = p;
      taken = refl;
      there = refl;
      context = x;
      agrees = e;
      after = h ∙ ap (λ z. gone s (kept c z s) c r call) same;
    }))
takes_one s c r call q j m p x (Ok vs) e (Err k) g b h = inr (inr (record { fault = k; source = q; place = j; taken = refl; after = h }))
takes_one s c r call q j m p x (Err k) e (Ok ws) g b h = absurd cc
takes_one s c r call q j m p x (Err k) e (Err k') g b h = inr (inr (record { fault = k'; source = q; place = j; taken = refl; after = h }))

-- the act that answers a part
by_part : (s : Store) (c : statements.Collective) (r : Block) (call : CollectiveCall) → called s c ≡ Ok call → (p : Part) → part_of s call ≡ p
    → (act : Act) (m : Option Message) → Fits (or_fault (part_want s c call p)) (header call ++ call.items) act m
    → Outcome s c r call act m (next (standing s c r) act m)
by_part s c r call e (gives d) p (sends d' c' t' items') None f =
    inl (record { dest = d; part = p; sent = rw (f.0, f.1, f.2, f.3) refl; no_message = refl; after = rw e refl })
by_part s c r call e (gives d) p (sends d' c' t' items') (Some m) f = absurd f
by_part s c r call e (gives d) p (takes q j) m f = absurd f
by_part s c r call e (gives d) p (hits q j) m f = absurd f
by_part s c r call e (gives d) p misses m f = absurd f
by_part s c r call e (gives d) p (prints z) m f = absurd f
by_part s c r call e (gets q) p (takes q' j) (Some m) f =
    subst (λ z. Outcome s c r call (takes z j) (Some m) (next (standing s c r) (takes z j) (Some m))) (sym f.1)
    (takes_one s c r call q j m p f.0 (given_by call m.items) refl (items_taken s c call m.items) refl _ (rw e refl))
by_part s c r call e (gets q) p (takes q' j) None f = absurd f
by_part s c r call e (gets q) p (sends d' c' t' items') m f = absurd f
by_part s c r call e (gets q) p (hits q' j) m f = absurd f
by_part s c r call e (gets q) p misses m f = absurd f
by_part s c r call e (gets q) p (prints z) m f = absurd f
by_part s c r call e ends p act m f = absurd (never (λ w. Fits w (header call ++ call.items) act m) (ended s c call) _ (λ k h. h) (λ x h. h) f)

-- what an act of a collective makes
pub made : (s : Store) (c : statements.Collective) (r : Block) (call : CollectiveCall) → called s c ≡ Ok call → (act : Act) (m : Option Message)
    → Makes (standing s c r) act m → Outcome s c r call act m (next (standing s c r) act m)
made s c r call e act m f = by_part s c r call e (part_of s call) refl act m (rw e at f)

-- a step of its own ends it
pub record Ended (s : Store) (c : statements.Collective) (r : Block) (call : CollectiveCall) (b : State) : Type 0 where
  pub store : Store
  pub part : part_of s call ≡ ends
  pub folded : ended s c call ≡ Ok store
  pub after : b ≡ record { store = store; rest = r; fault = None }

-- what is there didn't fault
pub unfaulted_ok : {A : Type 0} (v : Valued A) (x : A) → unfaulted v ≡ Some x → v ≡ Ok x
unfaulted_ok (Ok y) x e = let same : y ≡ x = cc in ap Ok same
unfaulted_ok (Err k) x e = absurd cc

-- an end that is stored is one of a step of the rank's own
end_part : (s : Store) (c : statements.Collective) (call : CollectiveCall) (p : Part) (s' : Store) → ended_at s c call p ≡ Some s'
    → (p ≡ ends) × (ended s c call ≡ Ok s')
end_part s c call ends s' h = (refl, unfaulted_ok (ended s c call) s' h)
end_part s c call (gives d) s' h = absurd cc
end_part s c call (gets q) s' h = absurd cc

-- a state after an end that was stored
end_made : (s : Store) (r : Block) (o : Option Store) (b : State)
    → option_map (λ x. record { store = stored_or s o; rest = x; fault = None }) (option_map (λ s'. r) o) ≡ Some b
    → (s' : Store) × (o ≡ Some s') × (b ≡ record { store = s'; rest = r; fault = None })
end_made s r (Some s') b h = (s', refl, (let q : record { store = s'; rest = r; fault = None } ≡ b = cc in sym q))
end_made s r None b h = absurd cc

-- what an inner step of a collective makes
pub ended_so : (s : Store) (c : statements.Collective) (r : Block) (call : CollectiveCall) → called s c ≡ Ok call → (b : State)
    → inner (standing s c r) ≡ Some b → Ended s c r call b
ended_so s c r call e b h =
    let m = end_made s r (own_end s c) b h in
    let p = end_part s c call (part_of s call) m.0 (ap (ended_by s c) (sym e) ∙ m.1) in
    record { store = m.0; part = p.0; folded = p.1; after = m.2 }
