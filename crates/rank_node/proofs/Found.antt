-- What a receive takes and a probe is shown is what was found: the first packet that the selector names is found at its
-- index, and the machine was given or shown just that one.
use Rattle.std.specs.Prelude.{◌≡◌, ℕ, ◌<◌, Bool, List, length, Option, Some, slice_get, slice_index_or, option_and_then, position}
use Rattle.std.proofs.Common.{ap, sym, subst, ◌∙◌}
use Rattle.std.proofs.lemmas.Option.{slice_get-get_or, slice_get_within}
use Rattle.matching.specs.Inbox.{Mailbox, IsMailbox}
use Rattle.matching.specs.PacketValue.{PacketValue}
use Rattle.rank_machine.specs.Acts as acts
use Rattle.rank_machine.specs.Machine.{MachineValue, state_of, next_of, received_at, KeepsRank}
use Rattle.rank_node.specs.Steps.{at_index, TakesFound, IsShownFound, TriesFound, WasShown}

-- the packet at the first index that passes the test is the one found
pub found-at : (test : PacketValue → Bool) (ms : List PacketValue) (i : ℕ) (m : PacketValue) → position test ms ≡ Some i → slice_get ms i ≡ Some m
    → option_and_then (at_index ms) (position test ms) ≡ Some (i, m)
found-at test ms i m first there =
    ap (option_and_then (at_index ms)) first ∙ ap (option_and_then (λ packet. Some (i, packet))) there

-- a machine that was given the packet found took what was found
pub takes_found : (test : PacketValue → Bool) (ms : List PacketValue) (i : ℕ) (m : PacketValue) (old new : MachineValue)
    → position test ms ≡ Some i → slice_get ms i ≡ Some m
    → ((place : ℕ) → state_of new ≡ acts.next (state_of old) (acts.takes m.source place) (Some (acts.carried m)))
    → new.position ≡ received_at old new.fault → KeepsRank old new
    → TakesFound (option_and_then (at_index ms) (position test ms)) old new
takes_found test ms i m old new first there state position stays =
    let P : Option (ℕ × PacketValue) → Type 0 = λ f. TakesFound f old new in
    subst P (sym (found-at test ms i m first there)) (record { state = state; position = position; stays = stays })

-- a probe that was shown the packet found was shown what was found
pub was_shown : (test : PacketValue → Bool) (ms : List PacketValue) (i : ℕ) (m : PacketValue) (old new : MachineValue)
    → position test ms ≡ Some i → slice_get ms i ≡ Some m
    → ((place : ℕ) → state_of new ≡ acts.next (state_of old) (acts.hits m.source place) (Some (acts.carried m)))
    → new.position ≡ next_of old → KeepsRank old new
    → IsShownFound (option_and_then (at_index ms) (position test ms)) old new × TriesFound (option_and_then (at_index ms) (position test ms)) old new
was_shown test ms i m old new first there state position stays =
    let P : Option (ℕ × PacketValue) → Type 0 = λ f. IsShownFound f old new × TriesFound f old new in
    let shown : WasShown m old new = record { state = state; position = position; stays = stays } in
    subst P (sym (found-at test ms i m first there)) (shown, shown)

-- a packet that lies in the inbox was sent by one of the ranks
pub accepted_source : (box : Mailbox) (i : ℕ) (m : PacketValue) → IsMailbox box → slice_get box.packets i ≡ Some m → m.source < length box.accepted
accepted_source box i m is there =
    let within = slice_get_within box.packets i m there in
    let same : Some m ≡ Some (slice_index_or box.packets i m) = sym there ∙ slice_get-get_or box.packets i m within in
    let own : slice_index_or box.packets i m ≡ m = cc in
    subst (λ (x : PacketValue). x.source < length box.accepted) own (is.each i m within).source
