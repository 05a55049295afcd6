-- Two acts that answer one want and leave the same event, where a clock names one message of a source in both runs, are the same.
use Rattle.std.proofs.Common.{◌≡◌, ℕ, ℤ, List, [], ◌∷◌, ◌++◌, Option, Some, None, ◌⊎◌, inl, inr, refl, sym, ap, subst, ◌∙◌}
use Rattle.event_logger.specs.Sequential.Event.{EventValue, event_of}
use Rattle.event_logger.specs.declared.sequential.kind.Kind.TheVariants as kind
use Rattle.rank_machine.specs.declared.want.Want.{Want}
use Rattle.rank_machine.specs.declared.want.Want.TheVariants as want
use Rattle.rank_machine.specs.Acts.{Act, Message, misses, Fits}
use Rattle.crash_free.specs.Runs.{at_place, print_at, looked_up}
use Rattle.audit.specs.Rows.{event_at, cons_some}
use Rattle.audit.specs.Following.{IsSendAct}
use Rattle.audit.proofs.Fitting.{send_fits, print_fits, IsTake, IsHit, take_fits, hit_fits, try_fits}

-- the event of a reception
pub take_event : (c : ℕ) (a : Act) (o : Option Message) → (i : IsTake a o) → event_at c a o ≡ Some (event_of kind.Reception i.source i.message.clock c)
take_event c a o i = rw (i.act, i.found) refl

-- of a hit
pub hit_event : (c : ℕ) (a : Act) (o : Option Message) → (i : IsHit a o) → event_at c a o ≡ Some (event_of kind.Hit i.source i.message.clock c)
hit_event c a o i = rw (i.act, i.found) refl

-- of a miss
pub miss_event : (c : ℕ) (a : Act) (o : Option Message) → a ≡ misses → event_at c a o ≡ Some (event_of kind.Miss 0 0 c)
miss_event c a o i = rw i refl

-- what is something isn't nothing
some_or_none : {A : Type 0} (o : Option A) (x : A) → o ≡ Some x → o ≡ None → ⊥
some_or_none o x e f = cc

-- of an act that is neither an event nor a print
pub send_left : (w : Want) (items : List ℤ) (c : ℕ) (a : Act) (o : Option Message) → Fits w items a o → event_at c a o ≡ None → print_at c a [] ≡ []
    → IsSendAct a
send_left (want.Send d context t) items c a o f e l = subst IsSendAct (sym (send_fits d context t items a o f).0) tt
send_left (want.Print v) items c a o f e l =
    let same = (print_fits v items a o f).0 in
    absurd (let line : (c, v) ∷ [] ≡ [] = ap (λ x. print_at c x []) (sym same) ∙ l in cc)
send_left (want.Receive w) items c a o f e l = absurd (some_or_none (event_at c a o) _ (take_event c a o (take_fits w items a o f)) e)
send_left (want.Probe w) items c a o f e l = absurd (some_or_none (event_at c a o) _ (hit_event c a o (hit_fits w items a o f)) e)
send_left (want.TryProbe w) items c a o f e l = go (try_fits w items a o f)
  where
    go : IsHit a o ⊎ ((a ≡ misses) × (o ≡ None)) → IsSendAct a
    go (inl i) = absurd (some_or_none (event_at c a o) _ (hit_event c a o i) e)
    go (inr i) = absurd (some_or_none (event_at c a o) _ (miss_event c a o i.0) e)
send_left want.Internal items c a o f e l = absurd f
send_left want.Halted items c a o f e l = absurd f
send_left (want.Faulted k) items c a o f e l = absurd f

-- two events that stand first in one list
first_event : (d e : Option EventValue) (x y : EventValue) (u v : List EventValue) → cons_some d [] ++ u ≡ cons_some e [] ++ v → d ≡ Some x → e ≡ Some y
    → x ≡ y
first_event (Some d) (Some e) x y u v alike p q = cc
first_event None e x y u v alike p q = cc
first_event (Some d) None x y u v alike p q = cc

-- how the messages that two runs sent to a rank are related: a clock names a place in both
abbrev AreNamed : (ℕ → List Message) → (ℕ → List Message) → Type 0
AreNamed inbound inbound' =
    (s j j' : ℕ) (m m' : Message) → at_place (inbound s) j ≡ Some m → at_place (inbound' s) j' ≡ Some m' → m.clock ≡ m'.clock → (j ≡ j') × (m ≡ m')

module _ (inbound inbound' : ℕ → List Message) (named : AreNamed inbound inbound') (c : ℕ) (a b : Act) (o o' : Option Message)
    (found : o ≡ looked_up inbound a) (found' : o' ≡ looked_up inbound' b) (u v : List EventValue)
    (alike : cons_some (event_at c a o) [] ++ u ≡ cons_some (event_at c b o') [] ++ v) where
  -- two messages of one clock, of the sources that two equal events name
  same_message : (s s' j j' : ℕ) (m m' : Message) → s ≡ s' → at_place (inbound s) j ≡ Some m → at_place (inbound' s') j' ≡ Some m' → m.clock ≡ m'.clock
      → (j ≡ j') × (m ≡ m')
  same_message s s' j j' m m' source there there' = named s j j' m m' there (ap (λ q. at_place (inbound' q) j') source ∙ there')

  -- two receptions
  same_take : IsTake a o → IsTake b o' → (a ≡ b) × (o ≡ o')
  same_take i k =
      let event = first_event (event_at c a o) (event_at c b o') _ _ u v alike (take_event c a o i) (take_event c b o' k) in
      let source : i.source ≡ k.source = ap (λ (e : EventValue). e.sender) event in
      let same = same_message i.source k.source i.place k.place i.message k.message source (sym (ap (looked_up inbound) i.act) ∙ sym found ∙ i.found)
      (sym (ap (looked_up inbound') k.act) ∙ sym found' ∙ k.found) (ap (λ (e : EventValue). e.sender_clock) event) in
      (i.act ∙ rw (source, same.0) (sym k.act), i.found ∙ ap Some same.1 ∙ sym k.found)

  -- two hits
  same_hit : IsHit a o → IsHit b o' → (a ≡ b) × (o ≡ o')
  same_hit i k =
      let event = first_event (event_at c a o) (event_at c b o') _ _ u v alike (hit_event c a o i) (hit_event c b o' k) in
      let source : i.source ≡ k.source = ap (λ (e : EventValue). e.sender) event in
      let same = same_message i.source k.source i.place k.place i.message k.message source (sym (ap (looked_up inbound) i.act) ∙ sym found ∙ i.found)
      (sym (ap (looked_up inbound') k.act) ∙ sym found' ∙ k.found) (ap (λ (e : EventValue). e.sender_clock) event) in
      (i.act ∙ rw (source, same.0) (sym k.act), i.found ∙ ap Some same.1 ∙ sym k.found)

  -- a hit is no miss
  hit_or_miss : IsHit a o → b ≡ misses → ⊥
  hit_or_miss i k =
      let kinds : kind.Hit ≡ kind.Miss =
      ap (λ (e : EventValue). e.kind) (first_event (event_at c a o) (event_at c b o') _ _ u v alike (hit_event c a o i) (miss_event c b o' k)) in
      cc

  -- a miss is no hit
  miss_or_hit : a ≡ misses → IsHit b o' → ⊥
  miss_or_hit i k =
      let kinds : kind.Miss ≡ kind.Hit =
      ap (λ (e : EventValue). e.kind) (first_event (event_at c a o) (event_at c b o') _ _ u v alike (miss_event c a o i) (hit_event c b o' k)) in
      cc

  -- two acts that answer one want, and whose events are alike
  pub same_act : (w : Want) (items : List ℤ) → Fits w items a o → Fits w items b o' → (a ≡ b) × (o ≡ o')
  same_act (want.Send d context t) items f g =
      let i = send_fits d context t items a o f in
      let k = send_fits d context t items b o' g in
      (i.0 ∙ sym k.0, i.1 ∙ sym k.1)
  same_act (want.Print x) items f g =
      let i = print_fits x items a o f in
      let k = print_fits x items b o' g in
      (i.0 ∙ sym k.0, i.1 ∙ sym k.1)
  same_act (want.Receive w) items f g = same_take (take_fits w items a o f) (take_fits w items b o' g)
  same_act (want.Probe w) items f g = same_hit (hit_fits w items a o f) (hit_fits w items b o' g)
  same_act (want.TryProbe w) items f g = go (try_fits w items a o f) (try_fits w items b o' g)
    where
      go : IsHit a o ⊎ ((a ≡ misses) × (o ≡ None)) → IsHit b o' ⊎ ((b ≡ misses) × (o' ≡ None)) → (a ≡ b) × (o ≡ o')
      go (inl i) (inl k) = same_hit i k
      go (inl i) (inr k) = absurd (hit_or_miss i k.0)
      go (inr i) (inl k) = absurd (miss_or_hit i.0 k)
      go (inr i) (inr k) = (i.0 ∙ sym k.0, i.1 ∙ sym k.1)
  same_act want.Internal items f g = absurd f
  same_act want.Halted items f g = absurd f
  same_act (want.Faulted k) items f g = absurd f

-- no element in front
pub none_in_front : {A : Type 0} (o : Option A) → cons_some o [] ≡ [] → o ≡ None
none_in_front None e = refl
none_in_front (Some x) e = cc

-- an act that comes without a message finds none
pub none_found : (inbound : ℕ → List Message) (w : Want) (items : List ℤ) (a : Act) → Fits w items a None → None ≡ looked_up inbound a
none_found inbound (want.Send d c t) items a f = sym (ap (looked_up inbound) (send_fits d c t items a None f).0)
none_found inbound (want.Print v) items a f = sym (ap (looked_up inbound) (print_fits v items a None f).0)
none_found inbound (want.Receive w) items a f = absurd (let e = (take_fits w items a None f).found in cc)
none_found inbound (want.Probe w) items a f = absurd (let e = (hit_fits w items a None f).found in cc)
none_found inbound (want.TryProbe w) items a f = go (try_fits w items a None f)
  where
    go : IsHit a None ⊎ ((a ≡ misses) × (◌≡◌ {A = Option Message} None None)) → None ≡ looked_up inbound a
    go (inl i) = absurd (let e = i.found in cc)
    go (inr i) = sym (ap (looked_up inbound) i.0)
none_found inbound want.Internal items a f = absurd f
none_found inbound want.Halted items a f = absurd f
none_found inbound (want.Faulted k) items a f = absurd f
