use Rattle.std.proofs.Common.{◌≡◌, map, drop}
use Rattle.rank_text.specs.Checker.Scope.{is_name_in}
use Rattle.c_program.proofs.names.is_among.Given as goal

-- none of the words so far is the word
abbrev pub invariant-loop-known : goal.invariant-loop-known
invariant-loop-known l =
    is_name_in (map (λ w. w.now) (drop l.known-index l.words)) l.word ≡ is_name_in (map (λ w. w.now) l.words) l.word
