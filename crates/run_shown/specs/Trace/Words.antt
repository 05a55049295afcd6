-- The acts of a run in words (docs/RUNS.md, "See a run"). A message between two ranks is reported
-- by its tag and its items; one of a collective by the kind and the number of the collective, which
-- its first three items have with the root, and by the others.
use Rattle.std.specs.Prelude.{ℕ, ℤ, pos, nat_lt, Bool, true, false, List, [], ◌∷◌, ◌++◌, length, take, drop, slice_get, codes}
use Rattle.std.specs.Prelude.{Option, Some, None, if◌then◌else◌}
use Rattle.std.specs.Fmt.{decimal, signed_decimal}
use Rattle.std.specs.Ordering.{int_eq}
use Rattle.rank_text.specs.declared.grammar.token.Reduction.TheVariants.{Sum, Max, Min}
use Rattle.matching.specs.declared.packet.Context.{Context}
use Rattle.matching.specs.declared.packet.Context.TheVariants.{PointToPoint, Collective}
use Rattle.rank_machine.specs.Collectives.{CollectiveKind, barriers, broadcasts, folds, kind_number}
use Rattle.rank_machine.specs.Acts.{Message, Act, sends, takes, hits, misses, prints}

-- the most items of a message that are shown
abbrev pub most_shown : ℕ
most_shown = 8

-- the word for a kind of collective
abbrev pub kind_text : CollectiveKind → List ℕ
kind_text barriers = codes "barrier"
kind_text broadcasts = codes "bcast"
kind_text (folds Sum) = codes "reduce sum"
kind_text (folds Max) = codes "reduce max"
kind_text (folds Min) = codes "reduce min"

-- all kinds of collectives
abbrev pub all_kinds : List CollectiveKind
all_kinds = barriers ∷ broadcasts ∷ folds Sum ∷ folds Max ∷ folds Min ∷ []

-- the word for the one of these kinds that packets name by this number
abbrev pub named_among : List CollectiveKind → ℤ → List ℕ
named_among [] number = codes "collective"
named_among (kind ∷ kinds) number = if int_eq number (pos (kind_number kind)) then kind_text kind else named_among kinds number

-- the word for the collective of a packet whose first item this is
abbrev pub name_text : Option ℤ → List ℕ
name_text (Some number) = named_among all_kinds number
name_text None = codes "collective"

-- its number among those of its rank, behind a space
abbrev pub ordinal_text : Option ℤ → List ℕ
ordinal_text (Some ordinal) = codes " " ++ signed_decimal ordinal
ordinal_text None = []

-- the collective of a packet with these items: its kind, its root, its number, and what the rank
-- gives
abbrev pub collective_text : List ℤ → List ℕ
collective_text items = name_text (slice_get items 0) ++ ordinal_text (slice_get items 2)

-- what stands in front of an act of a collective
abbrev pub lead_text : Context → List ℤ → List ℕ
lead_text PointToPoint items = []
lead_text Collective items = collective_text items ++ codes ": "

-- items, each behind a space
abbrev pub listed_text : List ℤ → List ℕ
listed_text [] = []
listed_text (item ∷ items) = codes " " ++ signed_decimal item ++ listed_text items

-- how many items there are, if not all are shown
abbrev pub count_text : ℕ → List ℕ
count_text count = if nat_lt most_shown count then codes " .. (" ++ decimal count ++ codes " items)" else []

-- the first items behind a colon; nothing if there is none
abbrev pub items_text : List ℤ → List ℕ
items_text [] = []
items_text (item ∷ items) = codes ":" ++ listed_text (take most_shown (item ∷ items)) ++ count_text (length (item ∷ items))

-- the tag of a message between two ranks
abbrev pub tag_text : Context → ℕ → List ℕ
tag_text PointToPoint tag = codes ", tag " ++ decimal tag
tag_text Collective tag = []

-- the items that a rank gave: of a collective's packet those behind its first three
abbrev pub given_items : Context → List ℤ → List ℤ
given_items PointToPoint items = items
given_items Collective items = drop 3 items

-- what stands behind the number of the other rank
abbrev pub content_text : Message → List ℕ
content_text m = tag_text m.context m.tag ++ items_text (given_items m.context m.items)

-- how a message is named without its items: by its tag, or by the collective that it is of
abbrev pub mark_text : Context → ℕ → List ℤ → List ℕ
mark_text PointToPoint tag items = codes ", tag " ++ decimal tag
mark_text Collective tag items = codes ", " ++ collective_text items

-- a send of this message
abbrev pub send_text : ℕ → Message → List ℕ
send_text dest m = lead_text m.context m.items ++ codes "send to " ++ decimal dest ++ content_text m

-- a reception of this message
abbrev pub reception_text : ℕ → Option Message → List ℕ
reception_text source None = codes "recv from " ++ decimal source
reception_text source (Some m) = lead_text m.context m.items ++ codes "recv from " ++ decimal source ++ content_text m
    ++ codes " (sent at clock " ++ decimal m.clock ++ codes ")"

-- the word for a probe that doesn't wait, and for one that does
abbrev pub probe_text : Bool → List ℕ
probe_text true = codes "iprobe: "
probe_text false = codes "probe "

-- the tag of the message that a probe hit
abbrev pub hit_text : Option Message → List ℕ
hit_text None = []
hit_text (Some m) = tag_text m.context m.tag

-- An act of this clock, with the message that it takes or hits. It is also said whether its
-- statement is a probe that doesn't wait.
abbrev pub act_text : ℕ → Bool → Act → Option Message → List ℕ
act_text clock tries (sends dest context tag items) message =
    send_text dest (record { clock = clock; context = context; tag = tag; items = items })
act_text clock tries (takes source place) message = reception_text source message
act_text clock tries (hits source place) message = probe_text tries ++ codes "from " ++ decimal source ++ hit_text message
act_text clock tries misses message = codes "iprobe: nothing"
act_text clock tries (prints value) message = codes "print " ++ signed_decimal value
