use Rattle.std.proofs.Common.{◌≡◌, ◌-◌, length, map, take, slice_index}
use Rattle.checkpoint.specs.Reading.{many_at, values_at, arrays_at}
use Rattle.checkpoint.proofs.Arrays.{lengths_in}
use Rattle.checkpoint.proofs.read_machine.arrays_of.Given as goal

abbrev pub invariant-loop-array : goal.invariant-loop-array
invariant-loop-array l = record {
  read : many_at (λ before. values_at (slice_index (lengths_in l.arrays) (length before))) (length (lengths_in l.arrays) - l.array-index)
      l.found.items l.rest ≡ arrays_at (lengths_in l.arrays) l.bytes;
  count : length l.found.items ≡ l.array-index;
  lengths : map length l.found.items ≡ take l.array-index (lengths_in l.arrays);
}
