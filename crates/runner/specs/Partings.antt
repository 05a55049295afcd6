-- The lines that say where runs part that lead to different outcomes (docs/FORMATS.md, "Standard
-- output of `explore`").
use Rattle.std.specs.Prelude.{◌≡◌, ◌≢◌, ◌⊎◌, ◌<◌, ◌==◌, ℕ, zero, suc, Bool, if◌then◌else◌, List, [], ◌∷◌, ◌++◌, Option, Some, None, slice_get, take, codes}
use Rattle.std.specs.Fmt.{decimal}
use Rattle.crash_free.specs.declared.choice.Choice.{Choice}
use Rattle.crash_free.specs.declared.choice.Choice.TheVariants as choice
use Rattle.explore.specs.declared.moves.Noted.{Noted}
use Rattle.explore.specs.Outcomes.{IsAmong}
use Rattle.runner.specs.declared.explored.parting.Parted.{Parted}

-- Choices part from others here: they are the same before this place, and there they have the one
-- choice where the others have the other.
pub record PartsFrom (choices others : List Noted) (parted : Parted) : Type 0 where
  pub along : take parted.at choices ≡ take parted.at others
  pub here : slice_get choices parted.at ≡ Some parted.chosen
  pub there : slice_get others parted.at ≡ Some parted.before
  pub apart : parted.chosen ≢ parted.before

-- the choices of the outcome at this index part here from those of one before it
pub record IsParting (choices : List (List Noted)) (index : ℕ) (parted : Parted) : Type 0 where
  pub own : List Noted
  pub own_there : slice_get choices index ≡ Some own
  pub earlier : ℕ
  pub before : earlier < index
  pub others : List Noted
  pub others_there : slice_get choices earlier ≡ Some others
  pub parts : PartsFrom own others parted

-- Each of these is where the choices of the outcome at this index part from those of one before it,
-- and where they part from those of the last one before it is among these.
pub record ArePartings (choices : List (List Noted)) (index : ℕ) (parted : List Parted) : Type 0 where
  pub each : (one : Parted) → IsAmong parted one → IsParting choices index one
  pub from_last : (last : ℕ) (own others : List Noted) (one : Parted) → index ≡ suc last → slice_get choices index ≡ Some own
      → slice_get choices last ≡ Some others → PartsFrom own others one → IsAmong parted one

-- they are those of the outcome before the one at this index; before the first there is none
abbrev pub AreOfLast : List (List Noted) → ℕ → List Parted → Type 0
AreOfLast choices zero parted = parted ≡ []
AreOfLast choices (suc last) parted = ArePartings choices last parted

-- What is brought up to date from the choices of one outcome to those of the next: each is where the
-- two part, or it was there before and the two are the same there and before it.
pub record PartsOn (last own : List Noted) (old new : List Parted) : Type 0 where
  pub each : (one : Parted) → IsAmong new one → PartsFrom own last one ⊎ (IsAmong old one × (take (suc one.at) own ≡ take (suc one.at) last))
  pub among : (one : Parted) → PartsFrom own last one → IsAmong new one

-- a rank, and the line of the program where it stands, if that is known
abbrev pub place_words : ℕ → Option ℕ → List ℕ
place_words rank (Some line) = codes "rank " ++ decimal rank ++ codes " at line " ++ decimal line ++ codes " "
place_words rank None = codes "rank " ++ decimal rank ++ codes " "

-- what was chosen, by a receive or by a probe
abbrev pub choice_words : Choice → Bool → List ℕ
choice_words (choice.Take source index) probes =
    if probes then codes "finds one from " ++ decimal source else (codes "takes from " ++ decimal source)
choice_words choice.Miss probes = codes "finds none"
choice_words choice.Next probes = codes "goes on"

-- the source of the message that the same rank took or found there in a run before
abbrev pub other_words : ℕ → Bool → List ℕ
other_words source probes =
    if probes then codes ", not one from " ++ decimal source else (codes " before " ++ decimal source)

-- what the same rank chose there in a run before
abbrev pub instead_words : Choice → Bool → List ℕ
instead_words (choice.Take source index) probes = other_words source probes
instead_words choice.Miss probes = codes ", not none"
instead_words choice.Next probes = []

-- a rank, where it stands, and what it chose
abbrev pub chosen_words : List ℕ → Noted → List ℕ
chosen_words lines noted =
    place_words noted.chosen.rank (slice_get lines noted.position) ++ choice_words noted.chosen.choice noted.probes

-- what was chosen in a run before: by the same rank in place of this, or by another rank after it
abbrev pub before_words : List ℕ → Parted → List ℕ
before_words lines parted =
    if parted.chosen.chosen.rank == parted.before.chosen.rank
    then instead_words parted.before.chosen.choice parted.before.probes
    else (codes " before " ++ chosen_words lines parted.before)

-- the line that says where a run parts from one before
abbrev pub parted_text : List ℕ → Parted → List ℕ
parted_text lines parted = codes "# " ++ chosen_words lines parted.chosen ++ before_words lines parted ++ codes "\n"

-- these lines, one after another
abbrev pub choices_text : List ℕ → List Parted → List ℕ
choices_text lines [] = []
choices_text lines (parted ∷ others) = parted_text lines parted ++ choices_text lines others
