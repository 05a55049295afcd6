-- The limits of the project. Every other definition, contract and invariant cites these numbers by their names.
use Rattle.std.specs.Prelude.{ℕ, Bool, ◌&&◌, nat_le}

-- the ranks of a run
abbrev pub most_ranks : ℕ
most_ranks = 16

-- the ranks of a run whose images are of format 1
abbrev pub most_ranks_of_format_1 : ℕ
most_ranks_of_format_1 = 8

-- the lines of a program's text
abbrev pub most_lines : ℕ
most_lines = 1000

-- the bytes of a line of a program's text
abbrev pub most_line_bytes : ℕ
most_line_bytes = 8192

-- the blocks that are open at once
abbrev pub most_blocks : ℕ
most_blocks = 32

-- the variables of a program
abbrev pub most_variables : ℕ
most_variables = 64

-- the arrays of a program
abbrev pub most_arrays : ℕ
most_arrays = 16

-- the bytes of a name
abbrev pub most_name_bytes : ℕ
most_name_bytes = 16

-- the nodes of an expression
abbrev pub most_nodes : ℕ
most_nodes = 64

-- the parentheses that are open at once in a line
abbrev pub most_parentheses : ℕ
most_parentheses = 64

-- the items of an array, and those of a message between two ranks
abbrev pub most_items : ℕ
most_items = 256

-- the items of a collective's packet: what names the collective, and those of a message
abbrev pub most_collective_items : ℕ
most_collective_items = 259

-- the tag (MPI 1.1, section 3.2.3, asks for at least this one)
abbrev pub greatest_tag : ℕ
greatest_tag = 32767

-- the clock of a rank, and the number of a message among those of its pair of ranks: what 28 bits hold
abbrev pub greatest_clock : ℕ
greatest_clock = 268435455

-- a rank can have this clock: clocks count from 1
abbrev pub is_clock : ℕ → Bool
is_clock c = nat_le 1 c && nat_le c greatest_clock

-- the sender that an event can name: what 4 bits hold
abbrev pub greatest_sender : ℕ
greatest_sender = 15

-- the events of one rank
abbrev pub most_events : ℕ
most_events = 4096

-- the sends and lines of one rank that wait at its gate
abbrev pub most_effects : ℕ
most_effects = 64

-- the frames that a lane between two ranks holds
abbrev pub most_frames : ℕ
most_frames = 64

-- the lines of a script
abbrev pub most_script_lines : ℕ
most_script_lines = 256

-- the lines of a text of a world's events
abbrev pub most_event_lines : ℕ
most_event_lines = 100000
