-- A machine that begins: nothing of its program is done, and its store is the first one.
use Rattle.std.proofs.Common.{◌≡◌, ℕ, ◌<◌, pos, None, length, replicate, refl, arith}
use Rattle.std.proofs.lemmas.List.{length-map, length-replicate}
use Rattle.rank_language.specs.Program.{ProgramValue}
use Rattle.rank_machine.specs.Values.{Store}
use Rattle.rank_machine.specs.States.{first_store}
use Rattle.rank_machine.specs.Machine.{MachineValue, IsMachine}
use Rattle.rank_machine.proofs.Lengths.{zeros_lengths}
use Rattle.rank_machine.proofs.Stages.{fresh}

-- what holds of every machine holds of it
pub begins : (p : ProgramValue) (s : Store) (rank size : ℕ) → s ≡ first_store p rank size → rank < size →
    (let m : MachineValue = record { program = p; position = 0; store = s; fault = None } in IsMachine m)
begins p s rank size e l =
    rw e (record {
      limits = record {
        position = omega arith;
        variables = length-replicate (length p.variables) (pos 0);
        arrays = length-map p.arrays (λ a. replicate a.1 (pos 0));
        lengths = zeros_lengths p.arrays;
        rank = l;
        fault = tt;
        source = omega arith;
        tag = omega arith;
        count = omega arith;
        finished = omega arith;
      };
      stage = fresh (first_store p rank size) _ l refl refl;
    })
