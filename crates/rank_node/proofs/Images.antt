-- What an image says of a rank, and where a rank that starts again stands.
use Rattle.std.proofs.Common.{◌≡◌, ℕ, zero, suc, ◌+◌, ◌<◌, ◌≤◌, ◌⊎◌, inl, inr, List, [], ◌∷◌, ◌++◌}
use Rattle.std.proofs.Common.{length, take, slice_set, slice_index, slice_index_or, Option, refl, sym, ap, subst, ◌∙◌, arith}
use Rattle.std.specs.Prelude.{All}
use Rattle.std.proofs.lemmas.Bool.{cases_lt}
use Rattle.std.proofs.Math.Numerals.{add-one}
use Rattle.std.proofs.lemmas.List.{length-replicate, get_or_past}
use Rattle.std.proofs.lemmas.List.Elements.{All-get_or, All-replicate, All-from_get_or}
use Rattle.limits.specs.Limits.{most_ranks}
use Rattle.matching.specs.PacketValue.{PacketValue}
use Rattle.payload_log.specs.Backlog.{BacklogValue, backlog, new_backlog}
use Rattle.payload_log.specs.Sender.{IsSentBy}
use Rattle.rank_language.specs.Program.{ProgramValue}
use Rattle.checkpoint.specs.Image.{ImageValue, at_rest}
use Rattle.checkpoint.specs.Savable.{IsSavable}
use Rattle.checkpoint.specs.Spelling.{spelling, text_in}
use Rattle.checkpoint.proofs.Whole.{lanes_rest}
use Rattle.rank_node.specs.declared.due.Due.{Due}
use Rattle.rank_node.specs.Stored.{Stored}
use Rattle.rank_node.specs.Node.{Node, IsNode}
use Rattle.rank_node.specs.Image.{first_image, KeepsImage, kept_due, kepts_due}
use Rattle.rank_node.proofs.Again.{none_held}
use Rattle.rank_node.proofs.Sent.{log_new}

-- ---- what can be written

-- the beginning of a program
pub first_savable : (program : ProgramValue) (rank size : ℕ) → size ≤ most_ranks → IsSavable (first_image program rank size)
first_savable program rank size limit = record {
  ranks = limit;
  accepted = length-replicate size 0;
  log = length-replicate size new_backlog;
  clock = omega arith;
  sent = log_new rank size;
  settled = All-replicate (λ (b : BacklogValue). b.held ≡ []) size new_backlog refl;
}

-- a rank at which nothing waits
pub node_savable : {S D : Type 0} (v : Node S D) → IsNode v → v.pending ≡ []
    → IsSavable (record { machine = v.machine; clock = v.clock; inbox = v.inbox; log = v.log })
node_savable v is settled = record {
  ranks = (let a = is.machine_size in let b = is.limit in omega (arith, a, b));
  accepted = is.inbox ∙ sym is.machine_size;
  log = is.log ∙ sym is.machine_size;
  clock = is.clock;
  sent = subst (λ rank. All (IsSentBy rank v.clock) v.log) (sym is.machine_rank) is.sent;
  settled = All-from_get_or (λ (b : BacklogValue). b.held ≡ []) v.log new_backlog (λ d below. none_held v.log v.pending is.held settled d);
}

-- and what an image has holds nothing
pub savable_held : (log : List BacklogValue) → All (λ (b : BacklogValue). b.held ≡ []) log → (d : ℕ) → length (backlog log d).held ≡ 0
savable_held log settled d = go (cases_lt d (length log))
  where
    go : (d < length log) ⊎ (length log ≤ d) → length (backlog log d).held ≡ 0
    go (inl below) = ap (length {A = PacketValue}) (All-get_or (λ (b : BacklogValue). b.held ≡ []) log d new_backlog below settled)
    go (inr past) = ap (λ (b : BacklogValue). length b.held) (get_or_past log d new_backlog past)

-- ---- the bytes

-- so an image is spelled as it will be read
pub spelling_rest : (i : ImageValue) → spelling (at_rest i) ≡ spelling i
unfolding text_in
spelling_rest i = rw (lanes_rest i.log)

-- ---- the shelf

-- the image stays where nothing changes
pub keeps_same : {S D : Type 0} (last : S → Option (List ℕ)) (old : Stored S D) → KeepsImage last old old
keeps_same last old = record { shelf = old.shelf; same = refl; image = refl }

-- ---- what an image makes due

-- what is due to one rank more
pub kepts_more : (accepted : List ℕ) (dues : List Due) (i : ℕ) (d : Due) → i < length accepted → i < length dues
    → kepts_due (take (i + 1) accepted) dues
    ≡ slice_set (kepts_due (take i accepted) dues) i (kept_due (slice_index accepted i) (slice_index_or (kepts_due (take i accepted) dues) i d))
kepts_more accepted dues i d low below = ap (λ k. kepts_due (take k accepted) dues) (add-one i) ∙ go accepted dues i low below
  where
    go : (ns : List ℕ) (ds : List Due) (i : ℕ) → i < length ns → i < length ds
        → kepts_due (take (suc i) ns) ds ≡ slice_set (kepts_due (take i ns) ds) i (kept_due (slice_index ns i) (slice_index_or (kepts_due (take i ns) ds) i d))
    go [] ds i low below = absurd (omega (arith, low))
    go (n ∷ ns) [] i low below = absurd (omega (arith, below))
    go (n ∷ ns) (due ∷ ds) zero low below = refl
    go (n ∷ ns) (due ∷ ds) (suc i) low below = ap (λ rest. kept_due n due ∷ rest) (go ns ds i (omega (arith, low)) (omega (arith, below)))

-- as much is due as before
pub length_kepts : (accepted : List ℕ) (dues : List Due) → length (kepts_due accepted dues) ≡ length dues
length_kepts [] dues = refl
length_kepts (n ∷ ns) [] = refl
length_kepts (n ∷ ns) (due ∷ dues) = ap suc (length_kepts ns dues)
