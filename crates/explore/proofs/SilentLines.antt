-- Which lines ask for no send that is sought: all that are no sends, and a send whose destination or
-- tag is never the one.
use Rattle.std.proofs.Common.{◌≡◌, ◌≢◌, ℕ, ℤ, pos, negsuc, Bool, true, false, Ok, Err, Option, refl, sym, ap, subst, ◌∙◌, ◌⊎◌, inl, inr}
use Rattle.std.proofs.Common.{if◌then◌else◌}
use Rattle.std.specs.Prelude.{nat_lt}
use Rattle.matching.specs.declared.packet.Context.TheVariants.{PointToPoint}
use Rattle.rank_language.specs.Placed.{Placed, Payload, declare, declare_array, assign, assign_item, send, receive, probe, try_probe, print, collect}
use Rattle.rank_language.specs.Block.{Line, simple_line, if_line, else_line, end_line, while_line, back_line}
use Rattle.rank_machine.specs.declared.fault.MachineFault.{MachineFault}
use Rattle.rank_machine.specs.declared.fault.MachineFault.TheVariants.{BadRank}
use Rattle.rank_machine.specs.declared.want.Want.{Want}
use Rattle.rank_machine.specs.declared.want.Want.TheVariants as want
use Rattle.rank_machine.specs.Values.{Store, Valued, ◌>>=◌, value, rank_in}
use Rattle.rank_machine.specs.States.{item_value}
use Rattle.rank_machine.specs.Wants.{tag_in, items_of, or_fault}
use Rattle.rank_machine.specs.Acts.{IsNamed}
use Rattle.rank_machine.specs.Machine.{line_want}
use Rattle.rank_machine.proofs.Lines.{never, receives_only, probes_only, tries_only, prints_only, collects_only, tests_only}
use Rattle.explore.specs.Silences.{IsFixed, IsNotTo, HasNoTag, LineSendsNone}
use Rattle.explore.specs.declared.silences.sought.Sought.{Sought}

-- what is wanted is the send of a message to this rank, whose tag is sought
abbrev pub IsMessage : ℕ → Option ℕ → Want → Type 0
IsMessage to sought (want.Send dest context tag) = (dest ≡ to) × (context ≡ PointToPoint) × IsNamed sought tag
IsMessage to sought want.Internal = ⊥
IsMessage to sought (want.Receive selector) = ⊥
IsMessage to sought (want.Probe selector) = ⊥
IsMessage to sought (want.TryProbe selector) = ⊥
IsMessage to sought (want.Print value) = ⊥
IsMessage to sought want.Halted = ⊥
IsMessage to sought (want.Faulted fault) = ⊥

-- the line is no send of a message
abbrev pub IsNoSend : Line → Type 0
IsNoSend (simple_line (declare p)) = Unit {0}
IsNoSend (simple_line (declare_array p)) = Unit {0}
IsNoSend (simple_line (assign p e)) = Unit {0}
IsNoSend (simple_line (assign_item p i e)) = Unit {0}
IsNoSend (simple_line (send d t p)) = ⊥
IsNoSend (simple_line (receive c t b)) = Unit {0}
IsNoSend (simple_line (probe c t)) = Unit {0}
IsNoSend (simple_line (try_probe c t x)) = Unit {0}
IsNoSend (simple_line (print e)) = Unit {0}
IsNoSend (simple_line (collect c)) = Unit {0}
IsNoSend (if_line e q) = Unit {0}
IsNoSend (else_line q) = Unit {0}
IsNoSend end_line = Unit {0}
IsNoSend (while_line e q) = Unit {0}
IsNoSend (back_line q) = Unit {0}

-- what follows from a value isn't one, if nothing that may follow is
behind : {A : Type 0} (P : Want → Type 0) (v : Valued A) (f : A → Valued Want) → ((k : MachineFault) → P (want.Faulted k) → ⊥)
    → ((x : A) → v ≡ Ok x → P (or_fault (f x)) → ⊥) → P (or_fault (v >>= f)) → ⊥
behind P (Ok x) f faults none h = none x refl h
behind P (Err k) f faults none h = faults k h

module _ (sought : Sought) where
  abbrev P : Want → Type 0
  P w = IsMessage sought.receiver sought.tag w

  -- such a line asks for none
  asks_none : (s : Store) (l : Line) → IsNoSend l → P (or_fault (line_want s l)) → ⊥
  asks_none s (simple_line (declare p)) is h = h
  asks_none s (simple_line (declare_array p)) is h = h
  asks_none s (simple_line (assign p e)) is h = tests_only P s e (λ k x. x) (λ x. x) h
  asks_none s (simple_line (assign_item p i e)) is h = never P (item_value s p i e) _ (λ k x. x) (λ x y. y) h
  asks_none s (simple_line (send d t p)) is h = is
  asks_none s (simple_line (receive c t b)) is h = receives_only P s c t (λ k x. x) (λ w x. x) h
  asks_none s (simple_line (probe c t)) is h = probes_only P s c t (λ k x. x) (λ w x. x) h
  asks_none s (simple_line (try_probe c t x)) is h = tries_only P s c t (λ k y. y) (λ w y. y) h
  asks_none s (simple_line (print e)) is h = prints_only P s e (λ k x. x) (λ z x. x) h
  asks_none s (simple_line (collect c)) is h = collects_only P s c (λ k x. x) (λ d x. (let other = x.1 in absurd cc)) (λ q x. x) (λ x. x) h
  asks_none s (if_line e q) is h = tests_only P s e (λ k x. x) (λ x. x) h
  asks_none s (else_line q) is h = h
  asks_none s end_line is h = h
  asks_none s (while_line e q) is h = tests_only P s e (λ k x. x) (λ x. x) h
  asks_none s (back_line q) is h = h

  -- what is asked for is one
  asked_for : (s : Store) (tag : ℕ) (l : Line) → IsNamed sought.tag tag → line_want s l ≡ Ok (want.Send sought.receiver PointToPoint tag)
      → P (or_fault (line_want s l))
  asked_for s tag l named is = subst (λ v. P (or_fault v)) (sym is) (refl, refl, named)

  pub no_send : (l : Line) → IsNoSend l → LineSendsNone sought l
  no_send l is s tag size rank named asked = asks_none s l is (asked_for s tag l named asked)

  -- nor does a send to another rank, or with another tag
  pub other_send : (d t : Placed) (p : Payload) → IsNotTo sought d ⊎ HasNoTag sought.tag t → LineSendsNone sought (simple_line (send d t p))
  other_send d t p other s tag size rank named is =
      behind P (value s d) _ (λ k x. x)
      (λ x at_d. behind P (value s t) _ (λ k y. y)
      (λ y at_t. behind P (items_of s p) _ (λ k z. z)
      (λ items at_p. behind P (rank_in s.size x) _ (λ k z. z)
      (λ dest at_r. behind P (tag_in y) _ (λ k z. z) (λ own at_own h. by_other x y dest own at_d at_t at_r at_own h other)))))
      (asked_for s tag (simple_line (send d t p)) named is)
    where
      by_other : (x y : ℤ) (dest own : ℕ) → value s d ≡ Ok x → value s t ≡ Ok y → rank_in s.size x ≡ Ok dest → tag_in y ≡ Ok own
          → P (want.Send dest PointToPoint own) → IsNotTo sought d ⊎ HasNoTag sought.tag t → ⊥
      by_other x y dest own at_d at_t at_r at_own h (inl not_to) = not_to s x size rank at_d (at_r ∙ ap Ok h.0)
      by_other x y dest own at_d at_t at_r at_own h (inr no_tag) = no_tag s y own at_t at_own h.2

-- Destinations

-- a number that is a rank is this one
rank_is : (n : ℕ) (z : ℤ) (r : ℕ) → rank_in n z ≡ Ok r → z ≡ pos r
rank_is n (pos t) r at = go (nat_lt t n) at
  where
    go : (fits : Bool) → (if fits then Ok t else Err BadRank) ≡ Ok r → pos t ≡ pos r
    go true e = let same : t ≡ r = cc in ap pos same
    go false e = absurd cc
rank_is n (negsuc t) r at = absurd cc

-- an expression that has another value all along isn't the receiver
pub not_to : (sought : Sought) (e : Placed) (z : ℤ) → IsFixed sought.ranks sought.sender e z → z ≢ pos sought.receiver → IsNotTo sought e
not_to sought e z fixed other s x size rank is at =
    let same : z ≡ x = (let both : Ok z ≡ Ok x = sym (fixed s size rank) ∙ is in cc) in
    other (same ∙ rank_is s.size x sought.receiver at)
