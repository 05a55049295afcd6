-- An event names one act: the clocks of what a rank sent to another rise, so a source and a clock name one message.
use Rattle.std.proofs.Common.{◌≡◌, ℕ, suc, ◌+◌, ◌≤◌, List, [], ◌∷◌, ◌++◌, Option, Some, None, length, refl, sym, ap, subst, ◌∙◌, arith, append_assoc}
use Rattle.std.proofs.lemmas.List.{append_cancel_left, append-nil}
use Rattle.event_logger.specs.Sequential.Event.{EventValue, event_of}
use Rattle.event_logger.specs.declared.sequential.kind.Kind.{Kind}
use Rattle.event_logger.specs.declared.sequential.kind.Kind.TheVariants as kind
use Rattle.rank_machine.specs.Acts.{Act, Message, sends, takes, hits, misses, prints}
use Rattle.crash_free.specs.Runs.{Passed, at_place, history, sent, looked_up, continue}
use Rattle.crash_free.proofs.Clocks.{one_clock}
use Rattle.bare_world.specs.Rows.{row, event_at, cons_some}
use Rattle.bare_world.proofs.Rows.{row-own}

-- the event of a reception names the source and the clock of the message that was taken
pub takes_event : (c s j : ℕ) (o : Option Message) (x : EventValue) → event_at c (takes s j) o ≡ Some x
    → (m : Message) × (o ≡ Some m) × (x ≡ event_of kind.Reception s m.clock c)
takes_event c s j None x e = absurd cc
takes_event c s j (Some m) x e = (m, refl, cc)

-- the event of a hit names the source and the clock of the message that was seen
pub hits_event : (c s j : ℕ) (o : Option Message) (x : EventValue) → event_at c (hits s j) o ≡ Some x
    → (m : Message) × (o ≡ Some m) × (x ≡ event_of kind.Hit s m.clock c)
hits_event c s j None x e = absurd cc
hits_event c s j (Some m) x e = (m, refl, cc)

-- an act that found nothing has the event of a miss
misses_event : (c : ℕ) (o : Option Message) (x : EventValue) → event_at c misses o ≡ Some x → x.kind ≡ kind.Miss
misses_event c o x e = let q : event_of kind.Miss 0 0 c ≡ x = cc in sym (ap (λ z. z.kind) q)

module _ (C : List Passed) (r c : ℕ) (x : EventValue) where
  one_message : (s s' j j' : ℕ) (m m' : Message) → s ≡ s' → at_place (sent C s r) j ≡ Some m → at_place (sent C s' r) j' ≡ Some m' → m.clock ≡ m'.clock → j ≡ j'
  one_message s s' j j' m m' e f g h = one_clock 0 r (history C s') j j' m m' (subst (λ z. at_place (sent C z r) j ≡ Some m) e f) g h

  same_takes : (s s' j j' : ℕ) → event_at c (takes s j) (at_place (sent C s r) j) ≡ Some x
      → event_at c (takes s' j') (at_place (sent C s' r) j') ≡ Some x → takes s j ≡ takes s' j'
  same_takes s s' j j' e f =
      let a = takes_event c s j (at_place (sent C s r) j) x e in
      let b = takes_event c s' j' (at_place (sent C s' r) j') x f in
      let q = sym a.2 ∙ b.2 in
      let es : s ≡ s' = ap (λ z. z.sender) q in
      let ej : j ≡ j' = one_message s s' j j' a.0 b.0 es a.1 b.1 (ap (λ z. z.sender_clock) q) in
      ap (λ z. takes z j) es ∙ ap (λ z. takes s' z) ej

  same_hits : (s s' j j' : ℕ) → event_at c (hits s j) (at_place (sent C s r) j) ≡ Some x → event_at c (hits s' j') (at_place (sent C s' r) j') ≡ Some x
      → hits s j ≡ hits s' j'
  same_hits s s' j j' e f =
      let a = hits_event c s j (at_place (sent C s r) j) x e in
      let b = hits_event c s' j' (at_place (sent C s' r) j') x f in
      let q = sym a.2 ∙ b.2 in
      let es : s ≡ s' = ap (λ z. z.sender) q in
      let ej : j ≡ j' = one_message s s' j j' a.0 b.0 es a.1 b.1 (ap (λ z. z.sender_clock) q) in
      ap (λ z. hits z j) es ∙ ap (λ z. hits s' z) ej

  kinds : (k k' : Kind) → x.kind ≡ k → x.kind ≡ k' → k ≡ k'
  kinds k k' e f = sym e ∙ f

  -- two acts that an event stands for at one place are one
  pub same_event : (a a' : Act) → event_at c a (looked_up (λ s. sent C s r) a) ≡ Some x → event_at c a' (looked_up (λ s. sent C s r) a') ≡ Some x → a ≡ a'
  same_event (takes s j) (takes s' j') e f = same_takes s s' j j' e f
  same_event (hits s j) (hits s' j') e f = same_hits s s' j j' e f
  same_event misses misses e f = refl
  same_event (takes s j) (hits s' j') e f =
      let q = kinds kind.Reception kind.Hit (ap (λ z. z.kind) (takes_event c s j _ x e).2) (ap (λ z. z.kind) (hits_event c s' j' _ x f).2) in cc
  same_event (hits s' j') (takes s j) f e =
      let q = kinds kind.Reception kind.Hit (ap (λ z. z.kind) (takes_event c s j _ x e).2) (ap (λ z. z.kind) (hits_event c s' j' _ x f).2) in cc
  same_event (takes s j) misses e f =
      let q = kinds kind.Reception kind.Miss (ap (λ z. z.kind) (takes_event c s j _ x e).2) (misses_event c None x f) in cc
  same_event misses (takes s j) f e =
      let q = kinds kind.Reception kind.Miss (ap (λ z. z.kind) (takes_event c s j _ x e).2) (misses_event c None x f) in cc
  same_event (hits s j) misses e f =
      let q = kinds kind.Hit kind.Miss (ap (λ z. z.kind) (hits_event c s j _ x e).2) (misses_event c None x f) in cc
  same_event misses (hits s j) f e =
      let q = kinds kind.Hit kind.Miss (ap (λ z. z.kind) (hits_event c s j _ x e).2) (misses_event c None x f) in cc
  same_event (sends d context t items) _ e f = absurd cc
  same_event (prints v) _ e f = absurd cc
  same_event _ (sends d context t items) e f = absurd cc
  same_event _ (prints v) e f = absurd cc

-- ---- what an event stands for

-- acts make no more events than they are
grows : (C : List Passed) (r : ℕ) (acts : List Act) → (es : List EventValue) × (row (continue C r acts) r ≡ row C r ++ es) × (length es ≤ length acts)
grows C r [] = ([], sym (append-nil (row C r)), omega arith)
grows C r (a ∷ acts) =
    let g = grows (record { rank = r; act = a } ∷ C) r acts in (
      cons_some (event_at (length (history C r) + 1) a (looked_up (λ s. sent C s r) a)) [] ++ g.0,
      g.1 ∙ ap (λ z. z ++ g.0) (row-own C r a)
          ∙ append_assoc (row C r) (cons_some (event_at (length (history C r) + 1) a (looked_up (λ s. sent C s r) a)) []) g.0,
      more (event_at (length (history C r) + 1) a (looked_up (λ s. sent C s r) a)) g.0 g.2,
    )
  where
    more : (o : Option EventValue) (es : List EventValue) → length es ≤ length acts → length (cons_some o [] ++ es) ≤ suc (length acts)
    more None es l = omega (arith, l)
    more (Some x) es l = omega (arith, l)

-- the first of as many acts as events makes the first of them
record FirstNoted (C : List Passed) (r : ℕ) (a : Act) (acts : List Act) (x : EventValue) (es : List EventValue) : Type 0 where
  event : event_at (length (history C r) + 1) a (looked_up (λ s. sent C s r) a) ≡ Some x
  others : row (continue (record { rank = r; act = a } ∷ C) r acts) r ≡ row (record { rank = r; act = a } ∷ C) r ++ es

-- of acts that added as many events to a rank's row, the first added the first event
first_noted : (C : List Passed) (r : ℕ) (a : Act) (acts : List Act) (x : EventValue) (es : List EventValue)
    → row (continue (record { rank = r; act = a } ∷ C) r acts) r ≡ row C r ++ x ∷ es → length acts ≡ length es → FirstNoted C r a acts x es
first_noted C r a acts x es is many = go (event_at (length (history C r) + 1) a (looked_up (λ s. sent C s r) a)) refl
  where
    go : (o : Option EventValue) → event_at (length (history C r) + 1) a (looked_up (λ s. sent C s r) a) ≡ o → FirstNoted C r a acts x es
    go None e =
        let g = grows (record { rank = r; act = a } ∷ C) r acts in
        let same : row (record { rank = r; act = a } ∷ C) r ≡ row C r = row-own C r a ∙ ap (λ o. row C r ++ cons_some o []) e ∙ append-nil (row C r) in
        let q : g.0 ≡ x ∷ es = append_cancel_left (row C r) g.0 (x ∷ es) (sym (g.1 ∙ ap (λ z. z ++ g.0) same) ∙ is) in
        let l = ap length q in
        let m = g.2 in
        absurd (omega (arith, l, m, many))
    go (Some y) e =
        let g = grows (record { rank = r; act = a } ∷ C) r acts in
        let same : row (record { rank = r; act = a } ∷ C) r ≡ row C r ++ y ∷ [] = row-own C r a ∙ ap (λ o. row C r ++ cons_some o []) e in
        let whole : row (continue (record { rank = r; act = a } ∷ C) r acts) r ≡ row C r ++ y ∷ g.0 =
        g.1 ∙ ap (λ z. z ++ g.0) same ∙ append_assoc (row C r) (y ∷ []) g.0 in
        let q : y ∷ g.0 ≡ x ∷ es = append_cancel_left (row C r) (y ∷ g.0) (x ∷ es) (sym whole ∙ is) in
        let h : y ≡ x = cc in
        let t : g.0 ≡ es = cc in
        record { event = e ∙ ap Some h; others = g.1 ∙ ap (λ z. row (record { rank = r; act = a } ∷ C) r ++ z) t }

-- as many acts as events that make these are the same acts
pub noted_acts : (C : List Passed) (r : ℕ) (acts acts' : List Act) (es : List EventValue)
    → row (continue C r acts) r ≡ row C r ++ es → length acts ≡ length es
    → row (continue C r acts') r ≡ row C r ++ es → length acts' ≡ length es → acts ≡ acts'
noted_acts C r [] [] es n m n' m' = refl
noted_acts C r [] (b ∷ acts') es n m n' m' = absurd (omega (arith, m, m'))
noted_acts C r (a ∷ acts) [] es n m n' m' = absurd (omega (arith, m, m'))
noted_acts C r (a ∷ acts) (b ∷ acts') [] n m n' m' = absurd (omega (arith, m))
noted_acts C r (a ∷ acts) (b ∷ acts') (x ∷ es) n m n' m' =
    let first = first_noted C r a acts x es n (omega (arith, m)) in
    let second = first_noted C r b acts' x es n' (omega (arith, m')) in
    let same : a ≡ b = same_event C r (length (history C r) + 1) x a b first.event second.event in
    ap (λ z. z ∷ acts) same
    ∙ ap (λ z. b ∷ z) (noted_acts (record { rank = r; act = b } ∷ C) r acts acts' es
    (subst (λ z. row (continue (record { rank = r; act = z } ∷ C) r acts) r ≡ row (record { rank = r; act = z } ∷ C) r ++ es) same first.others)
    (omega (arith, m))
    second.others (omega (arith, m')))
