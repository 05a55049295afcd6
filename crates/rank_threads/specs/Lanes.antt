-- What stays of the lanes of a rank, the channels from its thread to each and from each to it.
use Rattle.std.specs.Prelude.{◌≡◌, List, map}
use Rattle.ports.specs.Lanes.{TxValue, RxValue, lane_to, lane_from}

-- ends of the same lanes
abbrev pub SameTxs : List TxValue → List TxValue → Type 0
SameTxs a b = map lane_to b ≡ map lane_to a

-- ends of the same lanes
abbrev pub SameRxs : List RxValue → List RxValue → Type 0
SameRxs a b = map lane_from b ≡ map lane_from a
