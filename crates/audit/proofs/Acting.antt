-- An allowed choice that is no step of its own makes an act, and the act answers what the rank's machine asks for.
use Rattle.std.proofs.Common.{◌≡◌, ◌≢◌, ℕ, ℤ, List, Option, Some, None, slice_get}
use Rattle.std.proofs.Common.{refl, sym, subst}
use Rattle.std.specs.Prelude.{IsSomeAnd}
use Rattle.rank_machine.specs.declared.want.Want.{Want}
use Rattle.rank_machine.specs.declared.want.Want.TheVariants as want
use Rattle.rank_machine.specs.Wants.{wants, payload}
use Rattle.rank_machine.specs.Acts.{Act, Message, sends, takes, hits, misses, prints, Fits}
use Rattle.rank_machine.specs.Machine.{MachineValue, state_of}
use Rattle.crash_free.specs.declared.choice.Choice.{Choice}
use Rattle.crash_free.specs.declared.choice.Choice.TheVariants as choice
use Rattle.crash_free.specs.Runs.{History, history, looked_up, IsFree}
use Rattle.crash_free.specs.Sim.{SimValue, Meaning, ended, other, own_step, makes, meaning, meant, inbound_of, with_act, IsAfter, Does, Allows}
use Rattle.crash_free.specs.Wanted.{Wants, WantsAt}
use Rattle.crash_free.proofs.Choosing.{wants_it}

-- an act that was made for what a machine asks for
pub record Acted (s : SimValue) (r : ℕ) (w : Want) (c : Choice) (s' : SimValue) : Type 0 where
  pub machine : MachineValue
  pub there : slice_get s.machines r ≡ Some machine
  pub asks : Wants machine w
  pub after : MachineValue
  pub act : Act
  pub means : meaning w (payload (state_of machine)) c ≡ makes act
  pub fits : Fits w (payload (state_of machine)) act (looked_up (inbound_of s.run r) act)
  pub makes_it : IsAfter machine act (looked_up (inbound_of s.run r) act) after
  pub now : s' ≡ with_act s r after act

-- an act that a choice names, and that is free, answers the want
answers : (w : Want) (items : List ℤ) (c : Choice) (act : Act) (inbound : ℕ → List Message) (h : History) → meaning w items c ≡ makes act
    → IsFree w act inbound h → Fits w items act (looked_up inbound act)
answers (want.Send d context t) items choice.Next act inbound h e free =
    let same : sends d context t items ≡ act = cc in
    subst (λ a. Fits (want.Send d context t) items a (looked_up inbound a)) same (refl, refl, refl, refl)
answers (want.Print v) items choice.Next act inbound h e free =
    let same : prints v ≡ act = cc in
    subst (λ a. Fits (want.Print v) items a (looked_up inbound a)) same refl
answers (want.Receive w) items (choice.Take s j) act inbound h e free =
    let same : takes s j ≡ act = cc in
    let eligible = subst (λ a. IsFree (want.Receive w) a inbound h) (sym same) free in
    let there = eligible.there in
    subst (λ a. Fits (want.Receive w) items a (looked_up inbound a)) same (rw there eligible.matching)
answers (want.Probe w) items (choice.Take s j) act inbound h e free =
    let same : hits s j ≡ act = cc in
    let eligible = subst (λ a. IsFree (want.Probe w) a inbound h) (sym same) free in
    let there = eligible.there in
    subst (λ a. Fits (want.Probe w) items a (looked_up inbound a)) same (rw there eligible.matching)
answers (want.TryProbe w) items (choice.Take s j) act inbound h e free =
    let same : hits s j ≡ act = cc in
    let eligible = subst (λ a. IsFree (want.TryProbe w) a inbound h) (sym same) free in
    let there = eligible.there in
    subst (λ a. Fits (want.TryProbe w) items a (looked_up inbound a)) same (rw there eligible.matching)
answers (want.TryProbe w) items choice.Miss act inbound h e free =
    let same : misses ≡ act = cc in
    subst (λ a. Fits (want.TryProbe w) items a (looked_up inbound a)) same tt
answers want.Internal items choice.Next act inbound h e free = absurd cc
answers want.Internal items (choice.Take s j) act inbound h e free = absurd cc
answers want.Internal items choice.Miss act inbound h e free = absurd cc
answers (want.Send d context t) items (choice.Take s j) act inbound h e free = absurd cc
answers (want.Send d context t) items choice.Miss act inbound h e free = absurd cc
answers (want.Print v) items (choice.Take s j) act inbound h e free = absurd cc
answers (want.Print v) items choice.Miss act inbound h e free = absurd cc
answers (want.Receive w) items choice.Next act inbound h e free = absurd cc
answers (want.Receive w) items choice.Miss act inbound h e free = absurd cc
answers (want.Probe w) items choice.Next act inbound h e free = absurd cc
answers (want.Probe w) items choice.Miss act inbound h e free = absurd cc
answers (want.TryProbe w) items choice.Next act inbound h e free = absurd cc
answers want.Halted items c act inbound h e free = absurd cc
answers (want.Faulted k) items c act inbound h e free = absurd cc

-- only where a step of its own is wanted a choice is one
own_is_internal : (w : Want) (items : List ℤ) (c : Choice) → meaning w items c ≡ own_step → want.Internal ≡ w
own_is_internal want.Internal items c e = refl
own_is_internal (want.Send d context t) items choice.Next e = absurd cc
own_is_internal (want.Send d context t) items (choice.Take s j) e = absurd cc
own_is_internal (want.Send d context t) items choice.Miss e = absurd cc
own_is_internal (want.Print v) items choice.Next e = absurd cc
own_is_internal (want.Print v) items (choice.Take s j) e = absurd cc
own_is_internal (want.Print v) items choice.Miss e = absurd cc
own_is_internal (want.Receive w) items choice.Next e = absurd cc
own_is_internal (want.Receive w) items (choice.Take s j) e = absurd cc
own_is_internal (want.Receive w) items choice.Miss e = absurd cc
own_is_internal (want.Probe w) items choice.Next e = absurd cc
own_is_internal (want.Probe w) items (choice.Take s j) e = absurd cc
own_is_internal (want.Probe w) items choice.Miss e = absurd cc
own_is_internal (want.TryProbe w) items choice.Next e = absurd cc
own_is_internal (want.TryProbe w) items (choice.Take s j) e = absurd cc
own_is_internal (want.TryProbe w) items choice.Miss e = absurd cc
own_is_internal want.Halted items c e = absurd cc
own_is_internal (want.Faulted k) items c e = absurd cc

-- an allowed choice of what is no step of its own makes an act
pub acted : (s s' : SimValue) (r : ℕ) (c : Choice) (w : Want) → WantsAt s.machines r w → w ≢ want.Internal → Allows s r c s' → Acted s r w c s'
acted s s' r c w wanted apart allows = go (slice_get s.machines r) (slice_get s'.machines r) refl wanted allows
  where
    by : (m m' : MachineValue) → slice_get s.machines r ≡ Some m → Wants m w → (M : Meaning) → meaning w (payload (state_of m)) c ≡ M
        → Does M s r m m' s' → Acted s r w c s'
    by m m' there asks ended means d = absurd d
    by m m' there asks other means d = absurd d
    by m m' there asks own_step means d = absurd (apart (sym (own_is_internal w (payload (state_of m)) c means)))
    by m m' there asks (makes act) means d =
        let wanted : wants (state_of m) ≡ w = wants_it m w asks (λ q. apart (sym q)) in
        record {
          machine = m;
          there = there;
          asks = asks;
          after = m';
          act = act;
          means = means;
          fits = answers w (payload (state_of m)) c act (inbound_of s.run r) (history s.run r) means
              (subst (λ v. IsFree v act (inbound_of s.run r) (history s.run r)) wanted d.0);
          makes_it = d.1;
          now = d.2;
        }

    go : (o o' : Option MachineValue) → slice_get s.machines r ≡ o → IsSomeAnd o (λ m. Wants m w)
        → IsSomeAnd o (λ m. IsSomeAnd o' (λ m'. Does (meant m c) s r m m' s')) → Acted s r w c s'
    go None o' there a d = absurd a
    go (Some m) None there a d = absurd d
    go (Some m) (Some m') there a d =
        by m m' there a (meaning w (payload (state_of m)) c) refl (subst (λ v. Does (meaning v (payload (state_of m)) c) s r m m' s') a.at_want d)
