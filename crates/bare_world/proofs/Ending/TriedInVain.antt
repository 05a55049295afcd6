-- A world in which events are tried: where the list of what happened gets no longer, each was tried in vain.
use Rattle.std.proofs.Common.{◌≡◌, ℕ, ◌+◌, ◌≤◌, ◌⊎◌, inl, inr, true, List, [], ◌∷◌, ◌++◌, length, refl, sym, ap, subst, ◌∙◌, arith}
use Rattle.std.proofs.Common.{Some, slice_get}
use Rattle.std.proofs.lemmas.Bool.{cases_eq}
use Rattle.std.proofs.lemmas.List.{length-append}
use Rattle.matching.specs.PacketValue as packet
use Rattle.rank_node.specs.declared.frame.Frame.TheVariants as frame
use Rattle.bare_world.specs.declared.event.WorldEvent.{WorldEvent}
use Rattle.bare_world.specs.declared.event.WorldEvent.TheVariants.{Step, Store, Ack, Restart, Release}
use Rattle.bare_world.specs.declared.reply.Reply.{Reply}
use Rattle.bare_world.specs.World.{WorldValue, size}
use Rattle.bare_world.specs.Follows.{Follows}
use Rattle.bare_world.specs.Finished.{leaves_all, IsInVain, StepsInVain, OpensInVain, PutsInVain, ArrivesInVain}
use Rattle.bare_world.specs.Finished.{FindsInVain, IsStill, EachBelow, ForEach, ForEachTwo, Tried}
use Rattle.bare_world.specs.Wires.{wire_of}
use Rattle.bare_world.proofs.Ending.LeavesAll.{leaves}

-- ---- one event

-- one that changed something makes the list longer
pub tried_one : (w : WorldValue) (events : List WorldEvent) (event : WorldEvent) (w' : WorldValue) (events' : List WorldEvent)
    → events' ≡ events ++ event ∷ [] → Tried (λ z. IsInVain z event) w events w' events'
tried_one w events event w' events' e =
    let a = ap length e in
    let b = length-append events (event ∷ []) in
    record { longer = omega (arith, a, b); quiet = λ l. absurd (omega (arith, a, b, l)) }

-- one that left all as it was was tried in vain
pub tried_none : (w : WorldValue) (events : List WorldEvent) (event : WorldEvent) (answer : Reply) (w' : WorldValue) (events' : List WorldEvent)
    → leaves_all answer ≡ true → Follows w event answer w' → events' ≡ events → Tried (λ z. IsInVain z event) w events w' events'
tried_none w events event answer w' events' l f e =
    let same = leaves w event answer w' l f in
    record {
      longer = (let a = ap length e in omega (arith, a));
      quiet = λ m. (same, (answer, l, subst (λ z. Follows z event answer w') (sym same) f));
    }

-- ---- one after another

-- nothing was tried yet
pub tried_nothing : (P : ℕ → WorldValue → Type 0) (w : WorldValue) (events : List WorldEvent) → Tried (EachBelow 0 P) w events w events
tried_nothing P w events = record { longer = omega arith; quiet = λ m. (refl, λ r l. absurd (omega (arith, l))) }

-- what holds holds of less
tried_as : (P Q : WorldValue → Type 0) (u v : WorldValue) (x y : List WorldEvent) → ((k : WorldValue) → P k → Q k) → Tried P u x v y → Tried Q u x v y
tried_as P Q u v x y less f = record { longer = f.longer; quiet = λ l. (let q = f.quiet l in (q.0, less v q.1)) }

-- what was tried first and what was tried then
tried_both : (P Q : WorldValue → Type 0) (u v w : WorldValue) (x y z : List WorldEvent) → Tried P u x v y → Tried Q v y w z
    → Tried (λ k. P k × Q k) u x w z
tried_both P Q u v w x y z f g =
    let a = f.longer in
    let b = g.longer in
    record {
      longer = omega (arith, a, b);
      quiet = λ l.
          (let m = f.quiet (omega (arith, l, b)) in
          let n = g.quiet (omega (arith, l, a)) in
          (n.0 ∙ m.0, (subst P (sym n.0) m.1, n.1)));
    }

-- ---- so for each

-- for one more
one_more : (P : ℕ → WorldValue → Type 0) (k : ℕ) (w : WorldValue) → EachBelow k P w → P k w → EachBelow (k + 1) P w
one_more P k w all one r l = go (cases_eq r k)
  where
    go : (r ≡ k) ⊎ (r ≡ k → ⊥) → P r w
    go (inl e) = subst (λ q. P q w) (sym e) one
    go (inr ne) = all r (omega (arith, l, ne))

-- which is tried
pub each_next : (P : ℕ → WorldValue → Type 0) (k : ℕ) (u v w : WorldValue) (x y z : List WorldEvent) → Tried (EachBelow k P) u x v y → Tried (P k) v y w z
    → Tried (EachBelow (k + 1) P) u x w z
each_next P k u v w x y z f g =
    tried_as (λ m. EachBelow k P m × P k m) (EachBelow (k + 1) P) u w x z (λ m h. one_more P k m h.0 h.1)
    (tried_both (EachBelow k P) (P k) u v w x y z f g)

-- for all, where they are no more
pub each_all : (P : ℕ → WorldValue → Type 0) (k : ℕ) (u v : WorldValue) (x y : List WorldEvent) → size v ≤ k → Tried (EachBelow k P) u x v y
    → Tried (ForEach P) u x v y
each_all P k u v x y low f = record { longer = f.longer; quiet = λ l. (let q = f.quiet l in (q.0, λ r m. q.1 r (omega (arith, m, low)))) }

-- ---- what is tried of one rank

-- it starts again and makes a step
pub step_tried : (k q : ℕ) (u v w : WorldValue) (x y z : List WorldEvent) → q ≡ k → Tried (λ m. IsInVain m (Restart q)) u x v y
    → Tried (λ m. IsInVain m (Step q)) v y w z → Tried (StepsInVain k) u x w z
step_tried k q u v w x y z same a b =
    tried_as (λ m. IsInVain m (Restart q) × IsInVain m (Step q)) (StepsInVain k) u w x z (λ m h. subst (λ r. StepsInVain r m) same (h.0, h.1))
    (tried_both (λ m. IsInVain m (Restart q)) (λ m. IsInVain m (Step q)) u v w x y z a b)

-- what waits first at its gate passes
pub gate_tried : (k q : ℕ) (t u v w : WorldValue) (p x y z : List WorldEvent) → q ≡ k → Tried (λ m. IsInVain m (Store q)) t p u x
    → Tried (λ m. IsInVain m (Ack q)) u x v y → Tried (λ m. IsInVain m (Release q)) v y w z → Tried (OpensInVain k) t p w z
gate_tried k q t u v w p x y z same a b c =
    tried_as (λ m. (IsInVain m (Store q) × IsInVain m (Ack q)) × IsInVain m (Release q)) (OpensInVain k) t w p z
    (λ m h. subst (λ r. OpensInVain r m) same (h.0.0, h.0.1, h.1))
    (tried_both (λ m. IsInVain m (Store q) × IsInVain m (Ack q)) (λ m. IsInVain m (Release q)) t v w p y z
    (tried_both (λ m. IsInVain m (Store q)) (λ m. IsInVain m (Ack q)) t u v p x y a b) c)

-- ---- so for each rank with each

-- what was tried of one rank with all, of the first k
abbrev pub RowsBelow : (ℕ → ℕ → WorldValue → Type 0) → ℕ → WorldValue → Type 0
RowsBelow P s m = EachBelow s (λ q. ForEach (P q)) m

-- and of the next with some
abbrev pub RowTo : (ℕ → ℕ → WorldValue → Type 0) → ℕ → ℕ → WorldValue → Type 0
RowTo P s k m = RowsBelow P s m × EachBelow k (P s) m

-- with none yet
pub row_first : (P : ℕ → ℕ → WorldValue → Type 0) (s : ℕ) (u v : WorldValue) (x y : List WorldEvent) → Tried (RowsBelow P s) u x v y
    → Tried (RowTo P s 0) u x v y
row_first P s u v x y f = tried_as (RowsBelow P s) (RowTo P s 0) u v x y (λ m h. (h, λ r l. absurd (omega (arith, l)))) f

-- with one more
pub row_next : (P : ℕ → ℕ → WorldValue → Type 0) (s k : ℕ) (u v w : WorldValue) (x y z : List WorldEvent) → Tried (RowTo P s k) u x v y
    → Tried (P s k) v y w z → Tried (RowTo P s (k + 1)) u x w z
row_next P s k u v w x y z f g =
    tried_as (λ m. RowTo P s k m × P s k m) (RowTo P s (k + 1)) u w x z (λ m h. (h.0.0, one_more (P s) k m h.0.1 h.1))
    (tried_both (RowTo P s k) (P s k) u v w x y z f g)

-- with all
pub row_all : (P : ℕ → ℕ → WorldValue → Type 0) (s k : ℕ) (u v : WorldValue) (x y : List WorldEvent) → size v ≤ k → Tried (RowTo P s k) u x v y
    → Tried (RowsBelow P (s + 1)) u x v y
row_all P s k u v x y low f =
    record {
      longer = f.longer;
      quiet = λ l. (let q = f.quiet l in (q.0, one_more (λ r. ForEach (P r)) s v q.1.0 (λ r m. q.1.1 r (omega (arith, m, low)))));
    }

-- ---- every packet on a wire

-- a frame that is no packet isn't tried
pub tried_no_packet : (s d i : ℕ) (w : WorldValue) (x : List WorldEvent)
    → ((p : packet.PacketValue) → slice_get (wire_of w.wires s d) i ≡ Some (frame.Data p) → ⊥) → Tried (ArrivesInVain s d i) w x w x
tried_no_packet s d i w x none = record { longer = omega arith; quiet = λ l. (refl, λ p at. absurd (none p at)) }

-- so for each frame of the wire as it was, which it is still where all was in vain
pub wire_all : (s d k : ℕ) (u v : WorldValue) (x y : List WorldEvent) → length (wire_of u.wires s d) ≤ k
    → Tried (EachBelow k (ArrivesInVain s d)) u x v y → Tried (FindsInVain s d) u x v y
wire_all s d k u v x y low f =
    record {
      longer = f.longer;
      quiet = λ l.
          (let q = f.quiet l in
          let n = ap (λ (z : WorldValue). length (wire_of z.wires s d)) q.0 in
          (q.0, λ i m. q.1 i (omega (arith, m, n, low))));
    }

-- ---- a whole round

-- a round that tried all in vain leaves a world that is still
pub round_still : (a b c d e : WorldValue) (t x y z u : List WorldEvent) → Tried (ForEach StepsInVain) a t b x → Tried (ForEach OpensInVain) b x c y
    → Tried (ForEachTwo PutsInVain) c y d z → Tried (ForEachTwo FindsInVain) d z e u → Tried IsStill a t e u
round_still a b c d e t x y z u f g h k =
    tried_as (λ m. ((ForEach StepsInVain m × ForEach OpensInVain m) × ForEachTwo PutsInVain m) × ForEachTwo FindsInVain m) IsStill a e t u
    (λ m q. record { steps = q.0.0.0; gates = q.0.0.1; puts = q.0.1; packets = q.1 })
    (tried_both (λ m. (ForEach StepsInVain m × ForEach OpensInVain m) × ForEachTwo PutsInVain m) (ForEachTwo FindsInVain) a d e t z u
    (tried_both (λ m. ForEach StepsInVain m × ForEach OpensInVain m) (ForEachTwo PutsInVain) a c d t y z
    (tried_both (ForEach StepsInVain) (ForEach OpensInVain) a b c t x y f g) h) k)
