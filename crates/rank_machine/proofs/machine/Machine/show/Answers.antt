use Rattle.std.proofs.Common.{true, ◌<◌, sym, refl, subst}
use Rattle.rank_language.specs.Program.{block_of}
use Rattle.rank_machine.specs.Acts.{carried}
use Rattle.rank_machine.specs.Machine.{MachineValue, machine_want, IsShowing}
use Rattle.rank_machine.proofs.Standing.{past_wants_none}
use Rattle.rank_machine.proofs.Between.{shown_few}
use Rattle.rank_machine.proofs.Acting.{shows_same, shows_flag, shows_status, plain_machine}
use Rattle.rank_machine.proofs.machine.Machine.show.Goals as goal
use Rattle.rank_machine.proofs.machine.Machine.show.Goals.{in-Probe, in-TryProbe}

pub unreachable-requires : goal.unreachable-requires
unreachable-requires c =
    let m = c.self.inside in
    let h = c.in_default.ensures in
    let P : MachineValue → Type 0 = λ v. IsShowing (machine_want v) c.args.packet.now in
    let w = subst P (sym c.self.view_is) c.requires.showing in
    past_wants_none (λ u. IsShowing u c.args.packet.now) _ m.fault (block_of m.program.now) m.position m.store (sym h.line)
    c.self.invariant.limits.position (h.past.0 refl) (λ f z. z) (λ z. z) (λ z. z) w

pub invariant_of-self : goal.invariant_of-self
invariant_of-self c =
    let m : MachineValue =
    record { program = c.self.inside.program.now; position = c.self.inside.position; store = c.self.inside.store; fault = c.self.inside.fault }
    in
    let p = c.args.packet.now in
    let few = shown_few c.args.self.now p c.show.ensures.message c.requires.showing in
    let h = c.in-Some.ensures in
    let i = c.self.invariant in
    let Source : MachineValue → Type 0 = λ z. p.source < z.store.size in
    let source = subst Source (sym c.self.view_is) c.requires.source in
    elim c.match-statement-2.branch [
      | in-Probe w ↦
          let at = rw w.in-Probe.is at (sym h.line) in
          let behind = rw w.in-Probe.is at (h.within true) in
          rw (c.show.ensures.status, w.self-inside-is)
          (plain_machine m _ _ _ i at tt (shows_status m _ _ (carried p) (shows_same m i) source few.tag few.count) behind)
      | in-TryProbe w ↦
          let at = rw w.in-TryProbe.is at (sym h.line) in
          let behind = rw w.in-TryProbe.is at (h.within true) in
          rw (c.show.ensures.status, w.self-inside-is, w.set.ensures)
          (plain_machine m _ _ _ i at tt (shows_status m _ _ (carried p) (shows_flag m w.in-TryProbe.flag _ i) source few.tag few.count) behind)
    ]
