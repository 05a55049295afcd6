-- The text of what a run's recoveries cost (docs/FORMATS.md, "Standard output of `run`").
use Rattle.std.specs.Prelude.{ℕ, zero, suc, ◌+◌, ◌-◌, ◌^◌, min, length, replicate, slice_index_or, List, [], ◌∷◌, ◌++◌, codes}
use Rattle.std.specs.Fmt.{decimal}
use Rattle.command_line.specs.declared.costing.CostForm.{CostForm}
use Rattle.command_line.specs.declared.costing.CostForm.TheVariants as form
use Rattle.runner.specs.declared.costs.CostLine.{CostLine}
use Rattle.rank_threads.specs.Causes.{events_at}
use Rattle.rank_threads.specs.Costs.{no_costs, plus}
use Rattle.rank_threads.specs.declared.costs.Costs.{Costs}
use Rattle.rank_threads.specs.declared.costs.LogSize.{LogSize}
use Rattle.rank_threads.specs.declared.report.Report.{Report}

-- what the report says of this rank: what its recoveries cost, and how many events it has stored
abbrev pub line_at : Report → ℕ → CostLine
line_at report rank = record { costs = slice_index_or report.costs.items rank no_costs; events = events_at report.outcome.rows rank }

-- of no rank
abbrev pub no_line : CostLine
no_line = record { costs = no_costs; events = 0 }

-- the sizes of two payload logs together
abbrev pub both_sizes : LogSize → LogSize → LogSize
both_sizes a b = record { messages = plus a.messages b.messages; bytes = plus a.bytes b.bytes }

-- the costs of two ranks together; a sum of 2 ^ 64 or more counts as 2 ^ 64 - 1
abbrev pub both_costs : Costs → Costs → Costs
both_costs a b = record {
  acts = plus a.acts b.acts;
  acts_again = plus a.acts_again b.acts_again;
  messages = plus a.messages b.messages;
  messages_again = plus a.messages_again b.messages_again;
  asks = plus a.asks b.asks;
  notices = plus a.notices b.notices;
  images = plus a.images b.images;
  image_bytes = plus a.image_bytes b.image_bytes;
  kept = both_sizes a.kept b.kept;
  kept_most = both_sizes a.kept_most b.kept_most;
  dropped = plus a.dropped b.dropped;
}

-- two lines together
abbrev pub both : CostLine → CostLine → CostLine
both a b = record { costs = both_costs a.costs b.costs; events = plus a.events b.events }

-- the ranks below this number together
abbrev pub sum_below : ℕ → Report → CostLine
sum_below zero report = no_line
sum_below (suc k) report = both (sum_below k report) (line_at report k)

-- the numbers of a line, from left to right
unfoldable pub cells : CostLine → List ℕ
cells line =
    line.costs.acts ∷ line.costs.acts_again ∷ line.costs.messages ∷ line.costs.messages_again
    ∷ line.costs.asks ∷ line.costs.notices ∷ line.events ∷ line.costs.images ∷ line.costs.image_bytes
    ∷ line.costs.kept.messages ∷ line.costs.kept.bytes ∷ line.costs.kept_most.messages ∷ line.costs.kept_most.bytes
    ∷ line.costs.dropped ∷ []

-- a number with spaces in front of it up to this width
unfoldable pub right_in : ℕ → ℕ → List ℕ
right_in width n = replicate (width - length (decimal n)) 32 ++ decimal n

-- a space and a number
unfoldable pub cell_text : ℕ → List ℕ
cell_text n = codes " " ++ right_in 7 n

-- the numbers up to the end of the line
unfoldable pub cells_text : List ℕ → List ℕ
cells_text [] = codes "\n"
cells_text (n ∷ ns) = cell_text n ++ cells_text ns

-- a rank with its numbers
unfoldable pub row_text : ℕ → CostLine → List ℕ
row_text rank line = right_in 4 rank ++ cells_text (cells line)

-- the lines of the ranks below this number
abbrev pub rows_below : ℕ → Report → List ℕ
rows_below zero report = []
rows_below (suc k) report = rows_below k report ++ row_text k (line_at report k)

-- the sum with its numbers
unfoldable pub sum_text : CostLine → List ℕ
sum_text line = codes " sum" ++ cells_text (cells line)

-- the names of the columns
unfoldable pub head_text : List ℕ
head_text = codes "rank    acts   again    sent   again    asks notices  events  images   bytes    kept   bytes    most   bytes dropped\n"

-- a line with the names of the columns, then one for each rank, then their sum
abbrev pub table_text : Report → List ℕ
table_text report =
    head_text ++ rows_below (length report.costs.items) report ++ sum_text (sum_below (length report.costs.items) report)

-- a member of an object of JSON, behind another one: its name and a number
unfoldable pub member : List ℕ → ℕ → List ℕ
member name n = codes ",\"" ++ name ++ codes "\":" ++ decimal n

-- acts and messages
abbrev pub work_text : Costs → List ℕ
work_text c =
    member (codes "acts") c.acts ++ member (codes "acts_again") c.acts_again
    ++ member (codes "sent") c.messages ++ member (codes "sent_again") c.messages_again

-- requests, notices, events and images
abbrev pub calls_text : Costs → ℕ → List ℕ
calls_text c events =
    member (codes "asks") c.asks ++ member (codes "notices") c.notices ++ member (codes "events") events
    ++ member (codes "images") c.images ++ member (codes "image_bytes") c.image_bytes

-- the payload log, at the end and when it kept most messages
abbrev pub kept_text : Costs → List ℕ
kept_text c =
    member (codes "kept") c.kept.messages ++ member (codes "kept_bytes") c.kept.bytes
    ++ member (codes "most") c.kept_most.messages ++ member (codes "most_bytes") c.kept_most.bytes

-- all members behind the first one, up to the end of the line
unfoldable pub members_text : CostLine → List ℕ
members_text line =
    work_text line.costs ++ calls_text line.costs line.events ++ kept_text line.costs
    ++ member (codes "dropped") line.costs.dropped ++ codes "}\n"

-- the object of a rank
unfoldable pub object_text : ℕ → CostLine → List ℕ
object_text rank line = codes "{\"rank\":" ++ decimal rank ++ members_text line

-- the objects of the ranks below this number
abbrev pub objects_below : ℕ → Report → List ℕ
objects_below zero report = []
objects_below (suc k) report = objects_below k report ++ object_text k (line_at report k)

-- the object of so many ranks together
unfoldable pub all_text : ℕ → CostLine → List ℕ
all_text ranks line = codes "{\"ranks\":" ++ decimal ranks ++ members_text line

-- an object for each rank, and one for their sum, with their number
abbrev pub objects_text : Report → List ℕ
objects_text report =
    objects_below (length report.costs.items) report
    ++ all_text (length report.costs.items) (sum_below (length report.costs.items) report)

-- what is printed of the costs in this form
abbrev pub costs_text : CostForm → Report → List ℕ
costs_text form.Unasked report = []
costs_text form.Table report = table_text report
costs_text form.Json report = objects_text report
