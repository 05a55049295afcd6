-- Each event leaves worlds alike that are alike, and what may happen in the one of them may happen in the other.
use Rattle.std.proofs.Common.{sym, ap, ◌∙◌}
use Rattle.rank_node.specs.Releasing.{next_effect}
use Rattle.rank_node.specs.Storing.{next_unstored}
use Rattle.bare_world.specs.declared.event.WorldEvent.{WorldEvent}
use Rattle.bare_world.specs.declared.event.WorldEvent.TheVariants.{Step, Put, Arrive, Store, Ack, Image, Crash, Restart, Release}
use Rattle.bare_world.specs.declared.reply.Reply.{Reply}
use Rattle.bare_world.specs.World.{Live, WorldValue}
use Rattle.bare_world.specs.Follows.{CanNot, Happens}
use Rattle.bare_world.specs.Way.{MayHappen}
use Rattle.bare_world.specs.Driven.{Alike}
use Rattle.bare_world.proofs.Alike.ListLeadsToo.{alike_live}
use Rattle.bare_world.proofs.Alike.MayHappenToo.{HasCourse, happens_too}
use Rattle.bare_world.proofs.Alike.LeadsToo.{happens_alike, can_not_alike}
use Rattle.bare_world.proofs.Alike.GatesAndImages.{store_alike, store_too, ack_alike, ack_too, image_alike}
use Rattle.bare_world.proofs.Alike.GatesAndImages.{image_too, crash_alike, crash_too, release_alike, release_too}

-- what happens in the one may happen in the other
any_too : (a b : WorldValue) (event : WorldEvent) (y : Reply) (b' : WorldValue) → Alike a b → Happens b event y b' → HasCourse a event
any_too a b (Step r) y b' k g = happens_too a b (Step r) y b' k tt g
any_too a b (Put s d) y b' k g = happens_too a b (Put s d) y b' k tt g
any_too a b (Arrive s d i) y b' k g = happens_too a b (Arrive s d i) y b' k tt g
any_too a b (Store r) y b' k g = store_too a b r y b' k g
any_too a b (Ack r) y b' k g = ack_too a b r y b' k g
any_too a b (Image r) y b' k g = image_too a b r y b' k g
any_too a b (Crash r) y b' k g = crash_too a b r y b' k g
any_too a b (Restart r) y b' k g = happens_too a b (Restart r) y b' k tt g
any_too a b (Release r) y b' k g = release_too a b r y b' k g

-- any event leaves worlds alike
pub any_alike : (a b : WorldValue) (event : WorldEvent) (x y : Reply) (a' b' : WorldValue) → Alike a b
    → Happens a event x a' → Happens b event y b' → Alike a' b'
any_alike a b (Step r) x y a' b' k f g = happens_alike a b (Step r) x y a' b' k tt f g
any_alike a b (Put s d) x y a' b' k f g = happens_alike a b (Put s d) x y a' b' k tt f g
any_alike a b (Arrive s d i) x y a' b' k f g = happens_alike a b (Arrive s d i) x y a' b' k tt f g
any_alike a b (Store r) x y a' b' k f g = store_alike a b r x y a' b' k f g
any_alike a b (Ack r) x y a' b' k f g = ack_alike a b r x y a' b' k f g
any_alike a b (Image r) x y a' b' k f g = image_alike a b r x y a' b' k f g
any_alike a b (Crash r) x y a' b' k f g = crash_alike a b r x y a' b' k f g
any_alike a b (Restart r) x y a' b' k f g = happens_alike a b (Restart r) x y a' b' k tt f g
any_alike a b (Release r) x y a' b' k f g = release_alike a b r x y a' b' k f g

-- what can't happen in the one can't in the other
any_can_not : (a b : WorldValue) (event : WorldEvent) → Alike a b → CanNot a event → CanNot b event
any_can_not a b (Step r) k never = can_not_alike a b (Step r) k tt never
any_can_not a b (Put s d) k never = can_not_alike a b (Put s d) k tt never
any_can_not a b (Arrive s d i) k never = can_not_alike a b (Arrive s d i) k tt never
any_can_not a b (Store r) k never = λ v live.
    let was = alike_live a b r v k live in
    ap (λ (z : Live). next_unstored z.rank) was.same ∙ never was.rank was.live
any_can_not a b (Ack r) k never = λ v live.
    let was = alike_live a b r v k live in
    ap (λ (z : Live). z.rank.stored) was.same ∙ never was.rank was.live
any_can_not a b (Image r) k never = λ v live left pending.
    let was = alike_live a b r v k live in
    never was.rank was.live (sym (ap (λ z. z.left) was.same) ∙ left) (sym (ap (λ (z : Live). z.rank.pending) was.same) ∙ pending)
any_can_not a b (Crash r) k never = λ v live. let was = alike_live a b r v k live in never was.rank was.live
any_can_not a b (Restart r) k never = can_not_alike a b (Restart r) k tt never
any_can_not a b (Release r) k never = λ v live left.
    let was = alike_live a b r v k live in
    ap (λ (z : Live). next_effect z.rank) was.same ∙ never was.rank was.live (sym (ap (λ z. z.left) was.same) ∙ left)

-- what may happen in the one may happen in the other
pub may_alike : (a b : WorldValue) (event : WorldEvent) (y : Reply) (b' : WorldValue) → Alike a b → (CanNot b event → ⊥)
    → Happens b event y b' → MayHappen a event
may_alike a b event y b' k can h =
    let course = any_too a b event y b' k h in
    record {
      can = λ never. can (any_can_not a b event k never);
      answer = course.0;
      after = course.1;
      happens = course.2;
    }
