-- What is read as an image of a program is one of this program: its machine has it.
use Rattle.std.proofs.Common.{◌≡◌, ℕ, Bool, true, false, List, length, Result, Ok, Err, refl, sym, ap, ◌∙◌}
use Rattle.checkpoint.specs.declared.fault.ImageFault.{ImageFault}
use Rattle.checkpoint.specs.Image.{ImageValue, lengths_of}
use Rattle.checkpoint.specs.Reading.{◌>>=◌, where_holds, standing_at, status_at, values_at, arrays_at, machine_at}
use Rattle.checkpoint.specs.Reading.{origin_at, table_at, count_at, inbox_at, log_at, image_at, reading}
use Rattle.rank_language.specs.Program.{ProgramValue}
use Rattle.rank_machine.specs.Machine.{MachineValue}

-- where a step and the next succeeded, the first gave something
then_ok : {A B : Type 0} (read : Result A ImageFault) (f : A → Result B ImageFault) (y : B) → (read >>= f) ≡ Ok y
    → (x : A) × (read ≡ Ok x) × (f x ≡ Ok y)
then_ok (Ok x) f y e = (x, refl, e)
then_ok (Err k) f y e = absurd cc

-- what passed a test is what was tested
passed_is : {A : Type 0} (b : Bool) (fault : ImageFault) (x y : A) → where_holds b fault x ≡ Ok y → x ≡ y
passed_is true fault x y e = cc
passed_is false fault x y e = absurd cc

-- equal results have equal values
ok_is : {A : Type 0} (x y : A) → ◌≡◌ {A = Result A ImageFault} (Ok x) (Ok y) → x ≡ y
ok_is x y e = cc

-- a machine that is read is one of the program
machine_program : (p : ProgramValue) (r n : ℕ) (bytes : List ℕ) (m : MachineValue × List ℕ) → machine_at p r n bytes ≡ Ok m → m.0.program ≡ p
unfolding machine_at
machine_program p r n bytes m e =
    let standing = then_ok (standing_at (length p.statements) bytes) _ m e in
    let status = then_ok (status_at n standing.0.1) _ m standing.2 in
    let variables = then_ok (values_at (length p.variables) status.0.1) _ m status.2 in
    let arrays = then_ok (arrays_at (lengths_of p) variables.0.1) _ m variables.2 in
    let is = passed_is _ _ _ m arrays.2 in
    sym (ap (λ (z : MachineValue × List ℕ). z.0.program) is)

-- so is that of an image
image_program : (p : ProgramValue) (r n : ℕ) (bytes : List ℕ) (i : ImageValue × List ℕ) → image_at p r n bytes ≡ Ok i → i.0.machine.program ≡ p
unfolding image_at
image_program p r n bytes i e =
    let origin = then_ok (origin_at r n bytes) _ i e in
    let table = then_ok (table_at p origin.0.1) _ i origin.2 in
    let machine = then_ok (machine_at p r n table.0.1) _ i table.2 in
    let clock = then_ok (count_at machine.0.1) _ i machine.2 in
    let inbox = then_ok (inbox_at n clock.0.1) _ i clock.2 in
    let log = then_ok (log_at r clock.0.0 n inbox.0.1) _ i inbox.2 in
    let found : ImageValue × List ℕ = (record { machine = machine.0.0; clock = clock.0.0; inbox = inbox.0.0; log = log.0.0 }, log.0.1) in
    let is = ok_is found i log.2 in
    sym (ap (λ (z : ImageValue × List ℕ). z.0.machine.program) is) ∙ machine_program p r n table.0.1 machine.0 machine.1

-- and what is all of the bytes
pub read_program : (p : ProgramValue) (r n : ℕ) (bytes : List ℕ) (i : ImageValue) → reading p r n bytes ≡ Ok i → i.machine.program ≡ p
unfolding reading
read_program p r n bytes i e =
    let image = then_ok (image_at p r n bytes) _ i e in
    let is = passed_is _ _ _ i image.2 in
    sym (ap (λ (z : ImageValue). z.machine.program) is) ∙ image_program p r n bytes image.0 image.1
