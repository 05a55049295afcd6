-- How a run counts: the frames that are put and taken, by which termination is detected (Mattern
-- 1987), and steps, crashes and idle turns.
use Rattle.std.specs.Prelude.{ℕ, ◌+◌, ◌-◌, ◌^◌, min, Bool, true, false, ◌||◌, nat_le, if◌then◌else◌, List, [], ◌∷◌, None, replicate}
use Rattle.limits.specs.Limits.{most_ranks}
use Rattle.rank_node.specs.declared.frame.Frame.{Frame}
use Rattle.rank_threads.specs.declared.tally.Tally.{Tally}

-- nothing is counted yet; a new rank may owe something
abbrev pub new_tally : Tally
new_tally = record {
  put = 0;
  taken = 0;
  steps = 0;
  crashes = 0;
  idle = 0;
  is_marked = false;
  may_owe = true;
  is_blocked = false;
  is_spent = false;
  is_refused = false;
  seen = replicate most_ranks 0;
  fault = None;
}

-- one more, up to the greatest `u64`
abbrev pub one_more : ℕ → ℕ
one_more count = min (count + 1) (2 ^ 64 - 1)

-- a count with so many more, up to the greatest `u32`
abbrev pub more : ℕ → ℕ → ℕ
more count by = min (count + by) (2 ^ 32 - 1)

-- after a frame that came: it is counted, it may be answered, and there is no mark any more
abbrev pub woken : Tally → Tally
woken t = record t { is_marked = false; taken = one_more t.taken; may_owe = true; is_blocked = false }

-- after frames that came, one after another
abbrev pub all_taken : Tally → List Frame → Tally
all_taken t [] = t
all_taken t (frame ∷ frames) = all_taken (woken t) frames

-- at the beginning of another life: it asks every rank
abbrev pub begun_again : Tally → Tally
begun_again t = record t { may_owe = true; is_blocked = false; idle = 0 }

-- after so many steps, of which the limits allow `most`; only an act can leave something to put
abbrev pub after_steps : Tally → ℕ → ℕ → Bool → Tally
after_steps t made most is_act = record t {
  may_owe = t.may_owe || is_act;
  steps = more t.steps made;
  is_spent = nat_le most (more t.steps made) || t.is_spent;
}

-- after a wait in which others had the rank's core: it counts as 8 idle turns
abbrev pub after_wait : Tally → Tally
after_wait t = record t { idle = more t.idle 8 }

-- this idle turn is the last of `most` in succession
abbrev pub is_last_idle : Tally → ℕ → Bool
is_last_idle t most = nat_le most (more t.idle 1)

-- after an idle turn; the last of `most` in succession begins the count anew
abbrev pub after_idle : Tally → ℕ → Tally
after_idle t most = record t { idle = if is_last_idle t most then 0 else more t.idle 1 }
