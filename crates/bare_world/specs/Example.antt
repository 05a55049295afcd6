-- A run that computes: rank 0 of two sends 41 with tag 7, and rank 1 takes it from any source and
-- prints one more; and when the message is still needed.
--
--   var x
--   if rank == 0
--     send 1, 7, 41
--   else
--     recv any, any, x
--     print x + 1
--   end
use Rattle.std.specs.Prelude.{◌≡◌, ℕ, pos, zero, suc, ◌<◌, List, [], ◌∷◌, Option, Some, None}
use Rattle.std.proofs.Common.{refl, lit<, arith, inl, inr, ⊎_elim}
use Rattle.checkpoint.specs.Image.{ImageValue}
use Rattle.matching.specs.Inbox.{accepted_from}
use Rattle.payload_log.specs.Backlog.{BacklogValue, new_backlog}
use Rattle.event_logger.specs.Sequential.Event.{event_of}
use Rattle.event_logger.specs.declared.sequential.kind.Kind.TheVariants as kind
use Rattle.matching.specs.declared.packet.Context.TheVariants.{PointToPoint}
use Rattle.rank_text.specs.declared.grammar.token.Operator.TheVariants.{Add, Equal}
use Rattle.rank_text.specs.declared.grammar.token.Reading.TheVariants.{Rank}
use Rattle.rank_language.specs.Placed.{number, variable, reading, operation, any, one, into_variable, declare, send, receive, print}
use Rattle.rank_language.specs.Block.{Block, done, plain, if_else, lines_at}
use Rattle.rank_language.specs.Program.{ProgramValue}
use Rattle.rank_machine.specs.States.{State, opening, first_store, here, on}
use Rattle.rank_machine.specs.Acts.{Message, sends, takes, hits, misses, prints, with_status, written}
use Rattle.crash_free.specs.Runs.{Passed, at_place, sent, printed, IsRun}
use Rattle.bare_world.specs.Rows.{row}
use Rattle.bare_world.specs.World.{WorldValue}
use Rattle.bare_world.specs.Retained.{Needed, Retains}

-- what rank 1 does after the reception: it prints one more
abbrev printing : Block
printing = plain (print (operation Add (variable 0) (number (pos 1)))) done

-- what rank 1 does
abbrev receiving : Block
receiving = plain (receive any any (into_variable 0)) printing

-- what rank 0 does
abbrev sending : Block
sending = plain (send (number (pos 1)) (number (pos 7)) (one (number (pos 41)))) done

-- the program
abbrev program : ProgramValue
program = record {
  statements = lines_at 0 (plain (declare 0) (if_else (operation Equal (reading Rank) (number (pos 0))) sending receiving done));
  variables = (120 ∷ []) ∷ [];
  arrays = [];
}

-- the state in which a rank begins
abbrev start : ℕ → State
start r = opening program r 2

-- the message
abbrev message : Message
message = record { clock = 1; context = PointToPoint; tag = 7; items = pos 41 ∷ [] }

-- the run, newest act first
abbrev C : List Passed
C =
    record { rank = 1; act = prints (pos 42) } ∷ record { rank = 1; act = takes 0 1 }
    ∷ record { rank = 0; act = sends 1 PointToPoint 7 (pos 41 ∷ []) } ∷ []

-- rank 0 sent rank 1 one message, with its first act
sent_in_C : sent C 0 1 ≡ message ∷ []
sent_in_C = refl

-- rank 1 made one event: with its first act it took what rank 0 sent with its first
row_in_C : row C 1 ≡ event_of kind.Reception 0 1 1 ∷ []
row_in_C = refl

-- and printed with its second
printed_in_C : printed C 1 ≡ (2, pos 42) ∷ []
printed_in_C = refl

-- the state of rank 0 at the send
abbrev at_send : State
at_send = record { store = first_store program 0 2; rest = sending; fault = None }

-- the state of rank 1 at the receive
abbrev at_receive : State
at_receive = record { store = first_store program 1 2; rest = receiving; fault = None }

-- the state of rank 1 after the reception
abbrev at_print : State
at_print = record { store = with_status 0 message (written (into_variable 0) (pos 41 ∷ []) (first_store program 1 2)); rest = printing; fault = None }

-- acts in which rank 1 probes: it misses, hits the message once that is sent, and takes it still
abbrev P : List Passed
P =
    record { rank = 1; act = takes 0 1 } ∷ record { rank = 1; act = hits 0 1 }
    ∷ record { rank = 0; act = sends 1 PointToPoint 7 (pos 41 ∷ []) } ∷ record { rank = 1; act = misses } ∷ []

-- each of the three is an event, and the hit leaves the message for the reception
row_in_P : row P 1 ≡ event_of kind.Miss 0 0 1 ∷ event_of kind.Hit 0 1 2 ∷ event_of kind.Reception 0 1 3 ∷ []
row_in_P = refl

none_before : (i : ℕ) (m : Message) → i < 1 → at_place (message ∷ []) i ≡ Some m → ⊥
none_before zero m l e = cc
none_before (suc i) m l e = omega arith

C_is_run : IsRun start 2 C
C_is_run = (
  (
    (
      tt,
      lit< tt,
      record { after = start 0; stands = at_send; reached = refl; inner = on refl (on refl here); makes = (refl, refl, refl, refl); free = tt },
    ),
    lit< tt,
    record {
      after = start 1;
      stands = at_receive;
      reached = refl;
      inner = on refl (on refl here);
      makes = (refl, tt, tt);
      free = record {
        message = message;
        there = refl;
        untaken = refl;
        matching = (refl, tt, tt);
        not_overtaking = λ i m l e k. absurd (none_before i m l e);
      };
    },
  ),
  lit< tt,
  record {
    after = at_print;
    stands = at_print;
    reached = (at_print, (at_receive, on refl (on refl here), (refl, tt, tt), refl), refl);
    inner = here;
    makes = refl;
    free = tt;
  },
)

-- ---- what is needed of this run

-- a world of this run in which both ranks are down, rank 0 has no image, and rank 1 perhaps this
abbrev down : Option ImageValue → WorldValue
down image = record {
  program = program;
  ranks = None ∷ None ∷ [];
  images = None ∷ image ∷ [];
  logger = record { rows = [] ∷ row C 1 ∷ []; history = [] };
  wires = ([] ∷ [] ∷ []) ∷ ([] ∷ [] ∷ []) ∷ [];
  lines = record { rank = 1; clock = 2; value = pos 42 } ∷ [];
  run = C;
}

-- the message is needed if rank 1 has no image, though it took the message: it begins at the
-- beginning again
needed : Needed (down None) C 0 1 1 message
needed = record { to = lit< tt; there = refl; above = lit< tt }

-- it isn't needed if an image of rank 1 has accepted it
not_needed : (i : ImageValue) → accepted_from i.inbox 0 ≡ 1 → Needed (down (Some i)) C 0 1 1 message → ⊥
not_needed i accepted n = (let a = n.above in omega (arith, accepted, a))

-- what rank 0 has kept for rank 1 once it sent the message
abbrev kept : BacklogValue
kept = record {
  base = 0;
  sent = 1;
  cursor = 1;
  kept = record { source = 0; clock = 1; number = 1; context = PointToPoint; tag = 7; items = pos 41 ∷ [] } ∷ [];
  held = [];
}

-- so it retains the message
retained : Retains 1 (new_backlog ∷ kept ∷ []) 0 1 1 message
retained = inr (record { packet = _; index = 0; there = refl; source = refl; number = refl; content = refl })

-- rank 0 retains it before it makes the send again, with nothing kept
retained_before : Retains 0 (new_backlog ∷ new_backlog ∷ []) 0 1 1 message
retained_before = inl (lit< tt)

-- it doesn't once it has made the send and has nothing kept
not_retained : Retains 1 (new_backlog ∷ new_backlog ∷ []) 0 1 1 message → ⊥
not_retained x = ⊎_elim (λ l. omega (arith, l)) (λ k. (let e = k.there in cc)) x
