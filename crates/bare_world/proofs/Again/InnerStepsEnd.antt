-- The inner steps of a state that come to an end: there are just so many, and where some of them were made the others lead on.
use Rattle.std.proofs.Common.{◌≡◌, ℕ, suc, None, sym, ap, subst}
use Rattle.std.specs.Prelude.{is_none, IsSomeAnd}
use Rattle.rank_machine.specs.States.{State, inner, Inners, here, on}
use Rattle.rank_machine.proofs.Striding.{on_the_way}
use Rattle.bare_world.specs.Measures.{StopsAfter}

-- inner steps that come to an end are so many
stops_after : {a c : State} → Inners a c → inner c ≡ None → (k : ℕ) × StopsAfter k a
stops_after here e = (0, ap is_none e)
stops_after (on e r) stop =
    let k = stops_after r stop in
    (suc k.0, subst (λ o. IsSomeAnd o (λ b. StopsAfter k.0 b)) (sym e) k.1)

-- so there are so many from there
pub stops_from : (a b c : State) → Inners a b → Inners a c → inner c ≡ None → (k : ℕ) × StopsAfter k b
stops_from a b c r s stop = stops_after (on_the_way r s stop) stop
