use Rattle.std.proofs.Common.{◌≡◌, true, false, length, refl, sym, ap, ◌∙◌, subst, arith}
use Rattle.std.proofs.lemmas.List.{length-reverse}
use Rattle.std.specs.Prelude.{Ok}
use Rattle.explore.specs.Sending.{HasRunUnder}
use Rattle.explore.specs.Stems.{stems_of}
use Rattle.explore.specs.Tables.{AreTablesOf}
use Rattle.explore.proofs.Going.{fewer_cut, fewer_looked, off_now, on_cut, on_looked}
use Rattle.explore.proofs.Looking.{looks_cut, looks_ended, looks_met}
use Rattle.explore.proofs.Stems.{last_run, last_within}
use Rattle.explore.proofs.TakenUp.{beyond_back}
use Rattle.explore.proofs.LastKnown.{knows_by, knows_of, knows_shared}
use Rattle.explore.proofs.ongoing.Search.look.Goals as goal

pub take_up-requires-clause-within : goal.take_up-requires-clause-within
take_up-requires-clause-within c = last_within c.args.mode c.args.self.now.path.sim.program (length c.args.self.now.path.sim.machines)
    c.args.self.now.path.sim.run c.args.self.now.pending.items c.args.branch c.requires.on.off

pub take_up-requires-clause-some_run : goal.take_up-requires-clause-some_run
take_up-requires-clause-some_run c = last_run c.args.mode c.args.self.now.path.sim.program (length c.args.self.now.path.sim.machines)
    c.args.self.now.path.sim.run c.args.self.now.pending.items c.args.branch c.requires.on.off

pub play-requires-clause-few : goal.play-requires-clause-few
play-requires-clause-few c = (let alike = c.in_ok-take_up.ensures.alike in omega (arith, c.requires.few, alike.ranks))

pub play-requires-clause-tables : goal.play-requires-clause-tables
play-requires-clause-tables c =
    (let alike = c.in_ok-take_up.ensures.alike in
    subst (λ p. AreTablesOf p c.args.tables.now) (sym alike.program) c.requires.tables)

pub play-requires-clause-counts : goal.play-requires-clause-counts
play-requires-clause-counts c =
    let back = c.requires.back in
    (back.0, (c.in_ok-take_up.ensures.back back.0 back.1).counts)

pub play-requires-clause-off : goal.play-requires-clause-off
play-requires-clause-off c =
    off_now c.args.mode c.args.self.now.path.sim c.take_up.new.path.sim c.args.self.now.pending.items c.args.branch c.args.self.now.found c.args.self.now.met
    c.args.self.now.out_of_steps c.requires.on
    c.in_ok-take_up.ensures.alike c.in_ok-take_up.ensures.shares c.in_ok-take_up.ensures.long c.in_ok-take_up.ensures.is_run

pub returns-then-not-branch-clause-on : goal.returns-then-not-branch-clause-on
returns-then-not-branch-clause-on c =
    on_cut c.args.mode c.args.self.now.path.sim c.take_up.new.path.sim c.args.self.now.pending.items c.args.branch c.args.self.now.found c.args.self.now.met
    c.args.self.now.out_of_steps c.requires.on
    c.in_ok-take_up.ensures.alike c.in_ok-take_up.ensures.shares c.in_ok-take_up.ensures.long c.in_ok-take_up.ensures.is_run

pub returns-then-not-branch-clause-enough : goal.returns-then-not-branch-clause-enough
returns-then-not-branch-clause-enough c =
    fewer_cut c.args.mode c.args.self.now.path.sim c.take_up.new.path.sim c.args.self.now.pending.items c.args.branch c.args.self.now.found c.args.self.now.met
    c.args.self.now.out_of_steps c.requires.on
    c.in_ok-take_up.ensures.alike c.in_ok-take_up.ensures.shares c.in_ok-take_up.ensures.long c.in_ok-take_up.ensures.is_run

pub returns-in_ok-note-in-Still-clause-on : goal.returns-in_ok-note-in-Still-clause-on
returns-in_ok-note-in-Still-clause-on c =
    let yes : c.take_up.result ≡ Ok true = (let one = c.in_ok-take_up.was in let two = c.if-not-branch.false in cc) in
    on_looked c.args.mode c.args.self.now.path.sim c.take_up.new.path.sim c.args.self.now.pending.items c.args.branch c.args.self.now.found c.args.self.now.met
    c.args.self.now.out_of_steps c.requires.on
    c.in_ok-take_up.ensures.alike c.in_ok-take_up.ensures.shares c.in_ok-take_up.ensures.long c.in_ok-take_up.ensures.is_run (c.take_up.ensures.only yes) c.play.new.path.sim
    c.play.new.pending.items
    c.in_ok-play.ensures.plays.alike (c.in_ok-play.ensures.plays.runs c.in_ok-take_up.ensures.is_run) c.in_ok-play.ensures.off
    c.note.new.self c.play.new.met c.args.self.now.out_of_steps true
    (looks_ended c.args.mode c.take_up.new.path.sim c.play.new.path.sim (stems_of c.take_up.new.path.sim.run c.args.self.now.pending.items) (stems_of
    c.play.new.path.sim.run c.play.new.pending.items) c.args.self.now.found c.note.new.self
    c.args.self.now.met c.play.new.met (record { ranks = c.in_ok-ranks-in-Still.ranks.items; left = c.in_ok-left-in-Still.left.items })
    c.in_ok-play.ensures.plays c.in_ok-play.ensures.remembers
    (record { outcome = rw c.as_sim-in-Still.ensures at c.in_ok-ranks-in-Still.ensures; left = rw c.as_sim-in-Still-2.ensures at c.in_ok-left-in-Still.ensures }) c.in_ok-note-in-Still.ensures)
    (λ e. (e, refl))

pub returns-in-Met-clause-on : goal.returns-in-Met-clause-on
returns-in-Met-clause-on c =
    let yes : c.take_up.result ≡ Ok true = (let one = c.in_ok-take_up.was in let two = c.if-not-branch.false in cc) in
    on_looked c.args.mode c.args.self.now.path.sim c.take_up.new.path.sim c.args.self.now.pending.items c.args.branch c.args.self.now.found c.args.self.now.met
    c.args.self.now.out_of_steps c.requires.on
    c.in_ok-take_up.ensures.alike c.in_ok-take_up.ensures.shares c.in_ok-take_up.ensures.long c.in_ok-take_up.ensures.is_run (c.take_up.ensures.only yes) c.play.new.path.sim
    c.play.new.pending.items
    c.in_ok-play.ensures.plays.alike (c.in_ok-play.ensures.plays.runs c.in_ok-take_up.ensures.is_run) c.in_ok-play.ensures.off
    c.args.self.now.found c.play.new.met c.args.self.now.out_of_steps true
    (looks_met c.args.mode c.take_up.new.path.sim c.play.new.path.sim (stems_of c.take_up.new.path.sim.run c.args.self.now.pending.items) (stems_of
    c.play.new.path.sim.run c.play.new.pending.items) c.args.self.now.found
    c.args.self.now.met c.play.new.met c.in_ok-play.ensures.plays c.in_ok-play.ensures.remembers
    (c.in_ok-play.ensures.plays.runs c.in_ok-take_up.ensures.is_run) (c.in_ok-play.ensures.met c.in-Met.is))
    (λ e. (e, refl))

pub returns-in_ok-note-in-Still-clause-enough : goal.returns-in_ok-note-in-Still-clause-enough
returns-in_ok-note-in-Still-clause-enough c =
    let yes : c.take_up.result ≡ Ok true = (let one = c.in_ok-take_up.was in let two = c.if-not-branch.false in cc) in
    fewer_looked c.args.mode c.args.self.now.path.sim c.take_up.new.path.sim c.args.self.now.pending.items c.args.branch c.args.self.now.found
    c.args.self.now.met c.args.self.now.out_of_steps c.requires.on
    c.in_ok-take_up.ensures.alike c.in_ok-take_up.ensures.shares c.in_ok-take_up.ensures.long c.in_ok-take_up.ensures.is_run (c.take_up.ensures.only yes) c.play.new.path.sim
    c.play.new.pending.items
    c.in_ok-play.ensures.plays.alike (c.in_ok-play.ensures.plays.runs c.in_ok-take_up.ensures.is_run) c.in_ok-play.ensures.off
    (c.take_up.ensures.made yes) c.in_ok-play.ensures.enough

pub returns-in-Met-clause-enough : goal.returns-in-Met-clause-enough
returns-in-Met-clause-enough c =
    let yes : c.take_up.result ≡ Ok true = (let one = c.in_ok-take_up.was in let two = c.if-not-branch.false in cc) in
    fewer_looked c.args.mode c.args.self.now.path.sim c.take_up.new.path.sim c.args.self.now.pending.items c.args.branch c.args.self.now.found
    c.args.self.now.met c.args.self.now.out_of_steps c.requires.on
    c.in_ok-take_up.ensures.alike c.in_ok-take_up.ensures.shares c.in_ok-take_up.ensures.long c.in_ok-take_up.ensures.is_run (c.take_up.ensures.only yes) c.play.new.path.sim
    c.play.new.pending.items
    c.in_ok-play.ensures.plays.alike (c.in_ok-play.ensures.plays.runs c.in_ok-take_up.ensures.is_run) c.in_ok-play.ensures.off
    (c.take_up.ensures.made yes) c.in_ok-play.ensures.enough

pub returns-in-Spent-clause-enough : goal.returns-in-Spent-clause-enough
returns-in-Spent-clause-enough c =
    let yes : c.take_up.result ≡ Ok true = (let one = c.in_ok-take_up.was in let two = c.if-not-branch.false in cc) in
    fewer_looked c.args.mode c.args.self.now.path.sim c.take_up.new.path.sim c.args.self.now.pending.items c.args.branch c.args.self.now.found
    c.args.self.now.met c.args.self.now.out_of_steps c.requires.on
    c.in_ok-take_up.ensures.alike c.in_ok-take_up.ensures.shares c.in_ok-take_up.ensures.long c.in_ok-take_up.ensures.is_run (c.take_up.ensures.only yes) c.play.new.path.sim
    c.play.new.pending.items
    c.in_ok-play.ensures.plays.alike (c.in_ok-play.ensures.plays.runs c.in_ok-take_up.ensures.is_run) c.in_ok-play.ensures.off
    (c.take_up.ensures.made yes) c.in_ok-play.ensures.enough

pub returns-in-Spent-clause-on : goal.returns-in-Spent-clause-on
returns-in-Spent-clause-on c =
    let yes : c.take_up.result ≡ Ok true = (let one = c.in_ok-take_up.was in let two = c.if-not-branch.false in cc) in
    on_looked c.args.mode c.args.self.now.path.sim c.take_up.new.path.sim c.args.self.now.pending.items c.args.branch c.args.self.now.found c.args.self.now.met
    c.args.self.now.out_of_steps c.requires.on
    c.in_ok-take_up.ensures.alike c.in_ok-take_up.ensures.shares c.in_ok-take_up.ensures.long c.in_ok-take_up.ensures.is_run (c.take_up.ensures.only yes) c.play.new.path.sim
    c.play.new.pending.items
    c.in_ok-play.ensures.plays.alike (c.in_ok-play.ensures.plays.runs c.in_ok-take_up.ensures.is_run) c.in_ok-play.ensures.off
    c.args.self.now.found c.play.new.met true false
    (looks_cut c.args.mode c.take_up.new.path.sim c.play.new.path.sim (stems_of c.take_up.new.path.sim.run c.args.self.now.pending.items) (stems_of
    c.play.new.path.sim.run c.play.new.pending.items) c.args.self.now.found
    c.args.self.now.met c.play.new.met c.in_ok-play.ensures.plays c.in_ok-play.ensures.remembers)
    (λ e. absurd (let z : true ≡ false = e in cc))

pub returns-in_ok-note-in-Still-clause-back : goal.returns-in_ok-note-in-Still-clause-back
returns-in_ok-note-in-Still-clause-back c = λ steps can. c.in_ok-play.ensures.back steps (c.in_ok-take_up.ensures.back steps can)

pub returns-in-Met-clause-back : goal.returns-in-Met-clause-back
returns-in-Met-clause-back c = λ steps can. c.in_ok-play.ensures.back steps (c.in_ok-take_up.ensures.back steps can)

pub returns-in-Spent-clause-back : goal.returns-in-Spent-clause-back
returns-in-Spent-clause-back c = λ steps can. c.in_ok-play.ensures.back steps (c.in_ok-take_up.ensures.back steps can)

pub returns-in-Spent-clause-beyond : goal.returns-in-Spent-clause-beyond
returns-in-Spent-clause-beyond c = λ steps can before cut.
    beyond_back c.args.mode c.args.self.now.path.sim c.take_up.new.path.sim steps c.in_ok-take_up.ensures.alike
    (c.in_ok-play.ensures.beyond c.in-Spent.is steps (c.in_ok-take_up.ensures.back steps can).counts)

pub returns-in_ok-note-in-Still-clause-closes : goal.returns-in_ok-note-in-Still-clause-closes
returns-in_ok-note-in-Still-clause-closes c = c.in_ok-play.ensures.remembers.keeps.same

pub returns-in-Met-clause-closes : goal.returns-in-Met-clause-closes
returns-in-Met-clause-closes c = c.in_ok-play.ensures.remembers.keeps.same

pub returns-in-Spent-clause-closes : goal.returns-in-Spent-clause-closes
returns-in-Spent-clause-closes c = c.in_ok-play.ensures.remembers.keeps.same

pub take_up-requires-clause-is_run : goal.take_up-requires-clause-is_run
take_up-requires-clause-is_run c = c.requires.on.is_run

pub outcome_of-requires-clause-is_run : goal.outcome_of-requires-clause-is_run
outcome_of-requires-clause-is_run c =
    subst (λ z. HasRunUnder c.args.mode z) (sym c.as_sim-in-Still.ensures) (c.in_ok-play.ensures.plays.runs c.in_ok-take_up.ensures.is_run)

pub go_back-requires : goal.go_back-requires
go_back-requires c =
    let within = c.requires.knows.within in
    let long : length c.acts.result.now ≡ length c.args.self.now.path.sim.run = ap length (rw c.as_sim.ensures at c.acts.ensures) ∙ length-reverse c.args.self.now.path.sim.run in
    omega (arith, within, long)

pub play-requires-clause-knows : goal.play-requires-clause-knows
play-requires-clause-knows c =
    let s = c.args.self.now.path.sim in
    let long = c.in_ok-take_up.ensures.long in
    let within = c.go_back.ensures.within in
    knows_of c.args.tables.now.live s c.take_up.new.path.sim c.take_up.new.path.sim.run c.args.self.now.met.parts c.go_back.new.self
    c.in_ok-take_up.ensures.alike
    (knows_shared c.args.tables.now.live s.program (length s.machines) s.run c.take_up.new.path.sim.run c.args.self.now.met.parts c.go_back.new.self
    (omega (arith, within, long)) (c.in_ok-take_up.ensures.shares c.go_back.new.self.shared within)
    (c.go_back.ensures.knows c.args.tables.now.live s.program (length s.machines) s.run c.args.self.now.met.parts (rw c.as_sim.ensures at c.acts.ensures) c.requires.knows))

pub returns-then-not-branch-clause-knows : goal.returns-then-not-branch-clause-knows
returns-then-not-branch-clause-knows c =
    let s = c.args.self.now.path.sim in
    let long = c.in_ok-take_up.ensures.long in
    let within = c.go_back.ensures.within in
    knows_shared c.args.tables.now.live s.program (length s.machines) s.run c.take_up.new.path.sim.run c.args.self.now.met.parts c.go_back.new.self
    (omega (arith, within, long)) (c.in_ok-take_up.ensures.shares c.go_back.new.self.shared within)
    (c.go_back.ensures.knows c.args.tables.now.live s.program (length s.machines) s.run c.args.self.now.met.parts (rw c.as_sim.ensures at c.acts.ensures) c.requires.knows)

pub returns-in_ok-note-in-Still-clause-knows : goal.returns-in_ok-note-in-Still-clause-knows
returns-in_ok-note-in-Still-clause-knows c =
    knows_by c.args.tables.now.live c.args.self.now.path.sim c.take_up.new.path.sim c.play.new.path.sim.run c.play.new.met.parts c.play.new.last
    c.in_ok-take_up.ensures.alike c.in_ok-play.ensures.knows

pub returns-in-Met-clause-knows : goal.returns-in-Met-clause-knows
returns-in-Met-clause-knows c =
    knows_by c.args.tables.now.live c.args.self.now.path.sim c.take_up.new.path.sim c.play.new.path.sim.run c.play.new.met.parts c.play.new.last
    c.in_ok-take_up.ensures.alike c.in_ok-play.ensures.knows

pub returns-in-Spent-clause-knows : goal.returns-in-Spent-clause-knows
returns-in-Spent-clause-knows c =
    knows_by c.args.tables.now.live c.args.self.now.path.sim c.take_up.new.path.sim c.play.new.path.sim.run c.play.new.met.parts c.play.new.last
    c.in_ok-take_up.ensures.alike c.in_ok-play.ensures.knows
