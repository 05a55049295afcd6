-- A live rank goes with the run still: after acts of others, frames, acts that it makes again, and a restart.
use Rattle.std.proofs.Common.{◌≡◌, ℕ, zero, suc, ◌+◌, ◌<◌, ◌≤◌, inl, ⊎_elim, Bool, true, false, List, [], ◌∷◌, ◌++◌, Option, Some, None, length}
use Rattle.std.proofs.Common.{take, drop, refl, sym, ap, subst, ◌∙◌, arith, slice_get, slice_index, replicate, ◌==◌}
use Rattle.std.proofs.lemmas.Bool.{lt-ltb, le-ltb}
use Rattle.std.proofs.lemmas.List.{append-nil}
use Rattle.event_logger.specs.Sequential.Event.{EventValue}
use Rattle.event_logger.specs.Sequential.History.{above}
use Rattle.matching.specs.Inbox.{Mailbox}
use Rattle.payload_log.specs.Backlog.{BacklogValue, new_backlog}
use Rattle.rank_language.specs.Program.{ProgramValue}
use Rattle.rank_machine.specs.States.{State, Inners, here, opening}
use Rattle.rank_machine.specs.Acts.{Act, Message, Makes, next}
use Rattle.rank_machine.specs.Machine.{MachineValue, state_of}
use Rattle.rank_node.specs.declared.due.Due.{Due}
use Rattle.rank_node.specs.Stored.{Stored}
use Rattle.checkpoint.specs.declared.memory_shelf.MemoryShelf.{MemoryShelf}
use Rattle.crash_free.specs.Runs.{Passed, History, history, sent, sends_from, looked_up, add_if, continue}
use Rattle.crash_free.specs.Grows.{Extends}
use Rattle.crash_free.proofs.Going.{sent_grows}
use Rattle.crash_free.proofs.Lists.{history-own}
use Rattle.bare_world.specs.Rows.{row, event_at, events_from, cons_some}
use Rattle.bare_world.specs.World.{Rank, Live, unpassed}
use Rattle.bare_world.specs.Stands.{InboxStands, LogStands, LogsStand, Pending, StandsIn, ImageStands, RankStands}
use Rattle.bare_world.proofs.Rows.{IsEffect, no_event, event_clock}
use Rattle.bare_world.proofs.Standing.Pending.{Pending-extended, none_pending}
use Rattle.checkpoint.specs.Image.{ImageValue}
use Rattle.rank_node.specs.Image.{first_image}
use Rattle.rank_node.specs.Replay.{restarted, left_of}
use Rattle.bare_world.proofs.Lists.Beginnings.{Next, next_of_drop, take_append, drop_append, drop_beyond, drop_none, replicate_length}
use Rattle.bare_world.proofs.Standing.InRun.{StandsIn-longer, StandsIn-later, StandsIn-next}
use Rattle.audit.proofs.Traces.{replicate_each}

-- ---- the payload log

-- its rank made more acts, in this life or an earlier one
LogsStand-later : (r : ℕ) (h h' extra : History) (c : ℕ) (log : List BacklogValue) → h' ≡ h ++ extra → c ≤ length h → LogsStand r h c [] log
    → LogsStand r h' c [] log
LogsStand-later r h h' extra c log e l s d b at =
    subst (λ z. LogStands r (sends_from 0 d z) [] b) (sym (ap (λ z. take c z) e ∙ take_append c h extra l)) (s d b at)

-- ---- images

-- whatever passes, the rank's own acts too, an image stands
pub ImageStands-later : (start : ℕ → State) (n : ℕ) (C : List Passed) (p : Passed) (r : ℕ) (i : ImageValue) → ImageStands start n C r i
    → ImageStands start n (p ∷ C) r i
ImageStands-later start n C p r i s =
    record {
      at = StandsIn-longer (start r) n r (λ q. sent C q r) (λ q. sent (p ∷ C) q r) (history (p ∷ C) r) i.clock i.machine i.inbox i.log (λ q. sent_grows C p q r)
          (StandsIn-later (start r) n r (λ q. sent C q r) (history C r) (history (p ∷ C) r) (grown p.rank).0 i.clock i.machine i.inbox i.log
          (grown p.rank).1 s.at);
      logs = LogsStand-later r (history C r) (history (p ∷ C) r) (grown p.rank).0 i.clock i.log (grown p.rank).1 s.at.within s.logs;
    }
  where
    add : (b : Bool) (h : History) (x : Act × Option Message) → (extra : History) × (add_if b h x ≡ h ++ extra)
    add true h x = (x ∷ [], refl)
    add false h x = ([], sym (append-nil h))

    grown : (q : ℕ) → (extra : History) × (history (p ∷ C) r ≡ history C r ++ extra)
    grown q = add (p.rank == r) (history C r) (p.act, looked_up (λ s. sent C s p.rank) p.act)

-- ---- what is left to replay

-- an event above the clock is kept
above_some : (c : ℕ) (o : Option EventValue) (rest : List EventValue) → ((x : EventValue) → o ≡ Some x → c < x.receiver_clock)
    → above c (cons_some o rest) ≡ cons_some o (above c rest)
above_some c None rest l = refl
above_some c (Some x) rest l = rw (lt-ltb c x.receiver_clock (l x refl)) refl

-- one that isn't goes
above_none : (c : ℕ) (o : Option EventValue) (rest : List EventValue) → ((x : EventValue) → o ≡ Some x → x.receiver_clock ≤ c)
    → above c (cons_some o rest) ≡ above c rest
above_none c None rest l = refl
above_none c (Some x) rest l = rw (le-ltb c x.receiver_clock (l x refl)) refl

-- all events of acts after a clock are above it
above_whole : (c k : ℕ) (h : History) → c ≤ k → above c (events_from k h) ≡ events_from k h
above_whole c k [] l = refl
above_whole c k (x ∷ h) l =
    above_some c (event_at (k + 1) x.0 x.1) (events_from (k + 1) h) (λ e is. (let z = event_clock (k + 1) x.0 x.1 e is in omega (arith, z)))
    ∙ ap (λ z. cons_some (event_at (k + 1) x.0 x.1) z) (above_whole c (k + 1) h (omega arith))

-- the events of a row above a clock are those of the acts after it
pub above_row : (k n : ℕ) (h : History) → n ≤ length h → above (k + n) (events_from k h) ≡ events_from (k + n) (drop n h)
above_row k zero [] l = refl
above_row k zero (x ∷ h) l = above_whole (k + 0) k (x ∷ h) (omega arith) ∙ (let e : k ≡ k + 0 = omega arith in ap (λ z. events_from z (x ∷ h)) e)
above_row k (suc n) [] l = absurd (omega arith)
above_row k (suc n) (x ∷ h) l =
    above_none (k + suc n) (event_at (k + 1) x.0 x.1) (events_from (k + 1) h) (λ e is. (let z = event_clock (k + 1) x.0 x.1 e is in omega (arith, z)))
    ∙ (let e : k + 1 + n ≡ k + suc n = omega arith in
    subst (λ z. above z (events_from (k + 1) h) ≡ events_from z (drop n h)) e (above_row (k + 1) n h (omega arith)))

-- ---- a restart

-- A rank that starts again at an image of any earlier life goes with the run.
pub RankStands-restarted : (start : ℕ → State) (n : ℕ) (C : List Passed) (r : ℕ)
    (stable : Stored MemoryShelf (Unit {0})) (i : ImageValue) (events : List EventValue) (made : ℕ)
    → stable.rank ≡ r → stable.size ≡ n → events ≡ row C r
    → ImageStands start n C r i
    → RankStands start n C r (record { rank = restarted stable i made; left = left_of i events })
RankStands-restarted start n C r stable i events made number size same s =
    record {
      number = number;
      size = size;
      acts = [];
      pending = tt;
      stored = tt;
      all_made = inl refl;
      left = ap (λ z. above i.clock z) same ∙ (let e : 0 + i.clock ≡ i.clock = omega arith in
          subst (λ z. above z (row C r) ≡ events_from z (drop i.clock (history C r))) e (above_row 0 i.clock (history C r) s.at.within));
      logs = s.logs;
      at = s.at;
    }

-- the beginning of the program stands in an image's place
pub first_image_stands : (start : ℕ → State) (n : ℕ) (C : List Passed) (r : ℕ) (program : ProgramValue)
    → start r ≡ opening program r n → state_of (first_image program r n).machine ≡ opening program r n → ImageStands start n C r (first_image program r n)
first_image_stands start n C r program starts opens =
    record {
      at = begins;
      logs = λ d b e. (let z = replicate_each n new_backlog d b e in rw z (record { sent = refl; kept = refl; held = refl }));
    }
  where
    nothing : (n s : ℕ) → slice_index (replicate n 0) s ≡ 0
    nothing zero s = refl
    nothing (suc n) zero = refl
    nothing (suc n) (suc s) = nothing n s

    begins : StandsIn (start r) n r (λ q. sent C q r) (history C r) 0
        (first_image program r n).machine (first_image program r n).inbox (first_image program r n).log
    begins = record {
      within = omega arith;
      after = start r;
      reached = refl;
      inner = subst (λ z. Inners (start r) z) (starts ∙ sym opens) here;
      counted = replicate_length n 0;
      logged = replicate_length n new_backlog;
      inbox = record {
        real = λ k p e. absurd cc;
        untaken = λ k p e. absurd cc;
        accepted = λ k p e. absurd cc;
        each = λ s j one l t. absurd (let z = nothing n s in omega (arith, one, l, z));
        rising = λ k l p q lt e f. absurd cc;
        taken_accepted = λ s j t. absurd cc;
        shown_accepted = λ s j t. absurd t;
        within = λ s. (let z = nothing n s in omega (arith, z));
      };
    }

-- ---- acts of other ranks

-- others' acts keep a rank with the run
pub RankStands-extended : (start : ℕ → State) (n : ℕ) (C C' : List Passed) (r : ℕ) (v : Live) → Extends r C C' → RankStands start n C r v
    → RankStands start n C' r v
RankStands-extended start n C C' r v e s =
    let both = Pending-extended start C C' r s.acts (unpassed v.rank) e s.pending in
    record {
      number = s.number;
      size = s.size;
      acts = s.acts;
      pending = both.0;
      stored = s.stored;
      all_made = rw both.1.same s.all_made;
      left = rw both.1.same s.left;
      logs = rw e.same s.logs;
      at =
          rw both.1.same (StandsIn-longer (start r) n r (λ q. sent C q r) (λ q. sent C' q r)
          (history (continue C r s.acts) r) v.rank.clock v.rank.machine v.rank.inbox v.rank.log e.grows s.at);
    }

-- ---- where nothing is pending

-- where nothing waits all has passed
pub nothing_unpassed : (v : Rank) → v.pending ≡ [] → unpassed v ≡ []
nothing_unpassed v e = ap (λ z. drop v.stored z) e ∙ drop_none v.stored

-- where nothing waits no act is pending
pub RankStands-settled : (start : ℕ → State) (n : ℕ) (C : List Passed) (r : ℕ) (v : Live) (s : RankStands start n C r v) → v.rank.pending ≡ [] → s.acts ≡ []
RankStands-settled start n C r v s e = none_pending start C r s.acts (unpassed v.rank) s.pending (nothing_unpassed v.rank e)

-- where a rank stands that owes nothing
pub at_run : (start : ℕ → State) (n : ℕ) (C : List Passed) (r : ℕ) (v : Live) (s : RankStands start n C r v) → s.acts ≡ []
    → StandsIn (start r) n r (λ q. sent C q r) (history C r) v.rank.clock v.rank.machine v.rank.inbox v.rank.log
at_run start n C r v s e =
    subst (λ z. StandsIn (start r) n r (λ q. sent C q r) (history (continue C r z) r) v.rank.clock v.rank.machine v.rank.inbox v.rank.log) e s.at

-- what is left then is of the run
pub left_run : (start : ℕ → State) (n : ℕ) (C : List Passed) (r : ℕ) (v : Live) (s : RankStands start n C r v) → s.acts ≡ []
    → v.left ≡ events_from v.rank.clock (drop v.rank.clock (history C r))
left_run start n C r v s e = subst (λ z. v.left ≡ events_from v.rank.clock (drop v.rank.clock (history (continue C r z) r))) e s.left

-- and so is the payload log
pub logs_run : (start : ℕ → State) (n : ℕ) (C : List Passed) (r : ℕ) (v : Live) (s : RankStands start n C r v) → s.acts ≡ []
    → LogsStand r (history C r) v.rank.clock [] v.rank.log
logs_run start n C r v s e = subst (λ z. LogsStand r (history C r) v.rank.clock z v.rank.log) e s.logs

-- a rank with something left to replay has nothing pending, and one with something pending has nothing left
pub settled_behind : (start : ℕ → State) (n : ℕ) (C : List Passed) (r : ℕ) (v : Live) → RankStands start n C r v → (v.left ≡ [] → ⊥) → v.rank.pending ≡ []
settled_behind start n C r v s some =
    ⊎_elim (λ e. e)
    (λ (z : v.rank.clock ≡ length (history (continue C r s.acts) r)). absurd
    (some (s.left ∙ ap (λ y. events_from v.rank.clock y) (drop_beyond v.rank.clock (history (continue C r s.acts) r) (omega (arith, z))))))
    s.all_made

-- a rank of which something waits replays nothing
pub ahead : (start : ℕ → State) (n : ℕ) (C : List Passed) (r : ℕ) (v : Live) → RankStands start n C r v → (v.rank.pending ≡ [] → ⊥) → v.left ≡ []
ahead start n C r v s some =
    ⊎_elim (λ e. absurd (some e))
    (λ (z : v.rank.clock ≡ length (history (continue C r s.acts) r)). s.left ∙ ap (λ y. events_from v.rank.clock y)
    (drop_beyond v.rank.clock (history (continue C r s.acts) r) (omega (arith, z))))
    s.all_made

-- the rank with another machine, inbox, payload log or dues, or what is stable, and the same clock
abbrev pub at_same_clock : Rank → Stored MemoryShelf (Unit {0}) → MachineValue → Mailbox → List BacklogValue → List Due → Rank
at_same_clock v stable m inbox log dues = record {
  stable = stable;
  machine = m;
  clock = v.clock;
  made = v.made;
  inbox = inbox;
  log = log;
  pending = v.pending;
  stored = v.stored;
  dues = dues;
}

-- a rank that makes no act goes with the run still
pub RankStands-same_clock : (start : ℕ → State) (n : ℕ) (C : List Passed) (r : ℕ) (v : Live) (s : RankStands start n C r v)
    (stable : Stored MemoryShelf (Unit {0})) (m : MachineValue) (inbox : Mailbox) (log : List BacklogValue) (dues : List Due)
    → stable.rank ≡ r → stable.size ≡ n
    → LogsStand r (history C r) v.rank.clock s.acts log
    → StandsIn (start r) n r (λ q. sent C q r) (history (continue C r s.acts) r) v.rank.clock m inbox log
    → RankStands start n C r (record { rank = at_same_clock v.rank stable m inbox log dues; left = v.left })
RankStands-same_clock start n C r v s stable m inbox log dues number size logs at =
    record {
      number = number;
      size = size;
      acts = s.acts;
      pending = s.pending;
      stored = s.stored;
      all_made = s.all_made;
      left = s.left;
      logs = logs;
      at = at;
    }

-- ---- an act made again

-- the rank after an act whose event, if it is one, is in the row already
abbrev pub after_again : Rank → MachineValue → Mailbox → List BacklogValue → Rank
after_again v m inbox log = record {
  stable = v.stable;
  machine = m;
  clock = v.clock + 1;
  made = v.made;
  inbox = inbox;
  log = log;
  pending = v.pending;
  stored = v.stored;
  dues = v.dues;
}

-- A rank that is behind the run makes the run's next act, replayed or again.
pub RankStands-again : (start : ℕ → State) (n : ℕ) (C : List Passed) (r : ℕ) (v : Live) (s : RankStands start n C r v)
    (m : MachineValue) (inbox : Mailbox) (log : List BacklogValue)
    (a : Act) (o : Option Message) (rest : History) (left : List EventValue)
    → v.rank.pending ≡ []
    → drop v.rank.clock (history C r) ≡ (a, o) ∷ rest
    → Makes (state_of v.rank.machine) a o
    → state_of m ≡ next (state_of v.rank.machine) a o
    → length inbox.accepted ≡ n → InboxStands inbox (λ q. sent C q r) (take v.rank.clock (history C r) ++ (a, o) ∷ [])
    → length log ≡ n → ((d : ℕ) (b : BacklogValue) → slice_get log d ≡ Some b
    → LogStands r (sends_from 0 d (take v.rank.clock (history C r) ++ (a, o) ∷ [])) [] b)
    → left ≡ events_from (v.rank.clock + 1) rest
    → RankStands start n C r (record { rank = after_again v.rank m inbox log; left = left })
RankStands-again start n C r v s m inbox log a o rest left settled is makes state counted box logged logs now =
    record {
      number = s.number;
      size = s.size;
      acts = [];
      pending = subst (λ z. Pending start C r z (unpassed v.rank)) none s.pending;
      stored = s.stored;
      all_made = inl settled;
      left = now ∙ ap (λ z. events_from (v.rank.clock + 1) z) (sym x.dropped);
      logs = rw x.taken logs;
      at =
          StandsIn-next (start r) n r (λ q. sent C q r) (history C r)
          v.rank.clock v.rank.machine m v.rank.inbox inbox v.rank.log log a o rest is makes state counted box logged (at_run start n C r v s none);
    }
  where
    none : s.acts ≡ []
    none = RankStands-settled start n C r v s settled

    x : Next v.rank.clock (history C r) (a, o) rest
    x = next_of_drop v.rank.clock (history C r) (a, o) rest is

-- a send or a print that passes leaves its rank, as it was before the act, one act behind the run
pub RankStands-passed_by : (start : ℕ → State) (n : ℕ) (C : List Passed) (r : ℕ) (v : Live) (s : RankStands start n C r v) (a : Act)
    → v.rank.pending ≡ [] → v.rank.clock ≡ length (history C r) → v.left ≡ [] → IsEffect a
    → RankStands start n (record { rank = r; act = a } ∷ C) r v
RankStands-passed_by start n C r v s a settled clock left effect =
    record {
      number = s.number;
      size = s.size;
      acts = [];
      pending = rw (nothing_unpassed v.rank settled) tt;
      stored = s.stored;
      all_made = inl settled;
      left = left ∙ sym behind;
      logs =
          LogsStand-later r (history C r) (history C' r) ((a, looked_up (λ q. sent C q r) a) ∷ []) v.rank.clock v.rank.log (history-own C r a)
          (omega (arith, clock)) (logs_run start n C r v s none);
      at =
          StandsIn-longer (start r) n r (λ q. sent C q r) (λ q. sent C' q r) (history C' r) v.rank.clock v.rank.machine v.rank.inbox v.rank.log
          (λ q. sent_grows C (record { rank = r; act = a }) q r)
          (StandsIn-later (start r) n r (λ q. sent C q r) (history C r) (history C' r)
          ((a, looked_up (λ q. sent C q r) a) ∷ []) v.rank.clock v.rank.machine v.rank.inbox v.rank.log (history-own C r a) (at_run start n C r v s none));
    }
  where
    none : s.acts ≡ []
    none = RankStands-settled start n C r v s settled

    C' : List Passed
    C' = record { rank = r; act = a } ∷ C

    behind : events_from v.rank.clock (drop v.rank.clock (history C' r)) ≡ []
    behind =
        ap (λ z. events_from v.rank.clock (drop v.rank.clock z)) (history-own C r a)
        ∙ ap (λ z. events_from v.rank.clock z) (drop_append v.rank.clock (history C r) ((a, looked_up (λ q. sent C q r) a) ∷ []) (omega (arith, clock)))
        ∙ ap (λ z. events_from v.rank.clock (z ++ (a, looked_up (λ q. sent C q r) a) ∷ [])) (drop_beyond v.rank.clock (history C r) (omega (arith, clock)))
        ∙ rw (no_event (v.rank.clock + 1) a (looked_up (λ q. sent C q r) a) effect) refl

-- a rank stands where it stood in the run, whatever its shelf, and however many events it has made
pub stands_otherwise : (start : ℕ → State) (n : ℕ) (C : List Passed) (r : ℕ) (v : Live) (shelf : MemoryShelf) (made : ℕ) → RankStands start n C r v
    → RankStands start n C r (record { rank = record v.rank { stable = record v.rank.stable { shelf = shelf }; made = made }; left = v.left })
stands_otherwise start n C r v shelf made k = record {
  number = k.number;
  size = k.size;
  acts = k.acts;
  pending = k.pending;
  stored = k.stored;
  all_made = k.all_made;
  left = k.left;
  logs = k.logs;
  at = k.at;
}
