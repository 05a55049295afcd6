-- A rank's steps and acts, one more at their end.
use Rattle.std.proofs.Common.{List, [], ◌∷◌, ◌++◌, Option, refl}
use Rattle.rank_machine.specs.States.{State, Inners, here, on}
use Rattle.rank_machine.specs.Acts.{Act, Message, Does, Runs}

-- inner steps after inner steps
pub Inners-append : {a b c : State} → Inners a b → Inners b c → Inners a c
Inners-append here s = s
Inners-append (on e r) s = on e (Inners-append r s)

-- acts after acts
Runs-append : (a b c : State) (h k : List (Act × Option Message)) → Runs a h b → Runs b k c → Runs a (h ++ k) c
Runs-append a b c [] k r s = rw r at s
Runs-append a b c (x ∷ h) k r s = (r.0, r.1, Runs-append r.0 b c h k r.2 s)

-- one more act
pub Runs-push : (a b c : State) (h : List (Act × Option Message)) (x : Act × Option Message) → Runs a h b → Does b x.0 x.1 c → Runs a (h ++ x ∷ []) c
Runs-push a b c h x r d = Runs-append a b c h (x ∷ []) r (c, d, refl)
