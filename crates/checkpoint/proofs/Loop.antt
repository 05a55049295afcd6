-- Reading items one after the other, as a loop does.
use Rattle.std.proofs.Common.{◌≡◌, ℕ, suc, ◌-◌, ◌+◌, ◌≤◌, ◌<◌, List, [], ◌∷◌, ◌++◌, Ok, Err, refl, sym, ◌∙◌, arith}
use Rattle.checkpoint.specs.declared.fault.ImageFault.{ImageFault}
use Rattle.checkpoint.specs.declared.fault.ImageFault.TheVariants.{Version, Short, Long, Field, WrongProgram, Memory}
use Rattle.matching.specs.PacketValue.{PacketValue}
use Rattle.checkpoint.specs.Reading.{Read, Fails, many_at, last_clock}

-- an item more was read
pub goes_on : {A : Type 0} (read : List A → List ℕ → Read A) (front : List A) (count i : ℕ) (bytes : List ℕ) (x : A) (after : List ℕ)
    (total : Read (List A)) → i < count → read front bytes ≡ Ok (x, after)
    → many_at read (count - i) front bytes ≡ total → many_at read (count - (i + 1)) (front ++ x ∷ []) after ≡ total
unfolding many_at
goes_on read front count i bytes x after total lt h so_far =
    let k : count - i ≡ suc (count - (i + 1)) = omega arith in
    let one : many_at read (count - i) front bytes ≡ many_at read (count - (i + 1)) (front ++ x ∷ []) after = rw (k, h) refl in
    sym one ∙ so_far

-- an item that is a fault ends all with this fault
fault_ends : {A : Type 0} (read : List A → List ℕ → Read A) (f : ImageFault) (front : List A) (count i : ℕ) (bytes : List ℕ)
    (total : Read (List A)) → i < count → read front bytes ≡ Err f
    → many_at read (count - i) front bytes ≡ total → total ≡ Err f
unfolding many_at
fault_ends read f front count i bytes total lt h so_far =
    let k : count - i ≡ suc (count - (i + 1)) = omega arith in
    let one : many_at read (count - i) front bytes ≡ Err f = rw (k, h) refl in
    sym so_far ∙ one

-- an item that fails ends all
pub ends : {A : Type 0} (read : List A → List ℕ → Read A) (e : ImageFault) (front : List A) (count i : ℕ) (bytes : List ℕ)
    (total : Read (List A)) → i < count → Fails e (read front bytes)
    → many_at read (count - i) front bytes ≡ total → Fails e total
ends read Memory front count i bytes total lt h so_far = tt
ends read Version front count i bytes total lt h so_far = fault_ends read Version front count i bytes total lt h so_far
ends read Short front count i bytes total lt h so_far = fault_ends read Short front count i bytes total lt h so_far
ends read Long front count i bytes total lt h so_far = fault_ends read Long front count i bytes total lt h so_far
ends read Field front count i bytes total lt h so_far = fault_ends read Field front count i bytes total lt h so_far
ends read WrongProgram front count i bytes total lt h so_far = fault_ends read WrongProgram front count i bytes total lt h so_far

-- all items were read
pub is_done : {A : Type 0} (read : List A → List ℕ → Read A) (front : List A) (count i : ℕ) (bytes : List ℕ) (total : Read (List A))
    → count ≤ i → many_at read (count - i) front bytes ≡ total → total ≡ Ok (front, bytes)
unfolding many_at
is_done read front count i bytes total le so_far =
    let k : count - i ≡ 0 = omega arith in
    let one : many_at read (count - i) front bytes ≡ Ok (front, bytes) = rw k refl in
    sym so_far ∙ one

-- the clock of the last message
pub last_clock-push : (ms : List PacketValue) (m : PacketValue) → last_clock (ms ++ m ∷ []) ≡ m.clock
last_clock-push [] m = refl
last_clock-push (n ∷ []) m = refl
last_clock-push (n ∷ o ∷ ms) m = last_clock-push (o ∷ ms) m
