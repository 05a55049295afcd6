-- The lines of a script that a turn uses, and a life, turn by turn.
use Rattle.std.proofs.Common.{◌≡◌, ℕ, ◌==◌, ◌⊎◌, inl, inr, true, false, List, [], ◌∷◌, drop, Option, Some, None, refl, sym, ap, subst, ◌∙◌}
use Rattle.std.proofs.lemmas.Bool.{cases_Bool, cond-true, cond-false, eqb-true}
use Rattle.rank_text.specs.declared.script.line.Order.{Order}
use Rattle.rank_text.specs.declared.script.line.Order.TheVariants.{Kill, Image}
use Rattle.rank_text.specs.declared.script.line.ScriptLine.{ScriptLine}
use Rattle.rank_node.specs.Phases.{clock_in}
use Rattle.rank_threads.specs.Orders.{order_after, is_kill, is_image}
use Rattle.rank_threads.specs.Plans.{order_at}
use Rattle.rank_threads.specs.Phases.{Phase}
use Rattle.rank_threads.specs.Used.{UsesKill, MayUseImage, MayUseOne, UsesImages, unused, used, UsesLines}
use Rattle.rank_threads.specs.declared.life.ending.Ending.TheVariants as ending
use Rattle.rank_threads.specs.declared.life.ending.KillToken.{KillToken}
use Rattle.rank_threads.specs.declared.turn.stepping.Stepped.{Stepped}
use Rattle.rank_threads.specs.declared.turn.stepping.Stepped.TheVariants as stepped

-- The next line asks for this, at this clock.
record Next (plan : List ScriptLine) (clock : ℕ) (o : Order) : Type 0 where
  pub line : ScriptLine
  pub next : plan ≡ line ∷ drop 1 plan
  pub asks : line.order ≡ o
  pub there : line.clock ≡ clock

-- what a plan orders at a clock its next line asks for
next_line : (plan : List ScriptLine) (clock : ℕ) (o : Order) → order_at plan clock ≡ Some o → Next plan clock o
next_line [] clock o e = absurd cc
next_line (line ∷ lines) clock o e = go (cases_Bool (line.clock == clock))
  where
    go : ((line.clock == clock) ≡ true) ⊎ ((line.clock == clock) ≡ false) → Next (line ∷ lines) clock o
    go (inl t) =
        let both : Some line.order ≡ Some o = sym (cond-true (line.clock == clock) (Some line.order) None t) ∙ e in
        record { line = line; next = refl; asks = cc; there = eqb-true line.clock clock t }
    go (inr f) = (let both : None ≡ Some o = sym (cond-false (line.clock == clock) (Some line.order) None f) ∙ e in absurd cc)

-- what is ordered is a kill
kill_of : (o : Option Order) → is_kill o ≡ true → o ≡ Some Kill
kill_of None e = absurd cc
kill_of (Some Kill) e = refl
kill_of (Some Image) e = absurd cc

-- or an image
image_of : (o : Option Order) → is_image o ≡ true → o ≡ Some Image
image_of None e = absurd cc
image_of (Some Kill) e = absurd cc
image_of (Some Image) e = refl

-- what is ordered after a step is ordered at the rank's clock
ordered : (s : Stepped) (plan : List ScriptLine) (p : Phase) (o : Order) → order_after s plan p ≡ Some o → order_at plan (clock_in p) ≡ Some o
ordered stepped.Acted plan p o e = e
ordered stepped.Moved plan p o e = absurd cc
ordered stepped.Blocked plan p o e = absurd cc
ordered stepped.Held plan p o e = absurd cc
ordered stepped.Ended plan p o e = absurd cc

-- a rank that is killed uses its next line, which is a kill of its clock
pub kill_used : (s : Stepped) (plan new : List ScriptLine) (p : Phase) (k : ℕ) → is_kill (order_after s plan p) ≡ true → new ≡ drop 1 plan
    → k ≡ clock_in p → UsesKill plan new k
kill_used s plan new p k kills dropped at =
    let n = next_line plan (clock_in p) Kill (ordered s plan p Kill (kill_of (order_after s plan p) kills)) in
    record { line = n.line; next = n.next ∙ ap (λ z. n.line ∷ z) (sym dropped); kills = n.asks; there = n.there ∙ sym at }

-- a rank that may have used a line for an image used no other
pub image_used : (s : Stepped) (plan new : List ScriptLine) (p : Phase) → MayUseOne (is_image (order_after s plan p)) plan new → MayUseImage plan new
image_used s plan new p (inl same) = inl same
image_used s plan new p (inr one) =
    let n = next_line plan (clock_in p) Image (ordered s plan p Image (image_of (order_after s plan p) one.0)) in
    inr (record { line = n.line; next = n.next ∙ ap (λ z. n.line ∷ z) (sym one.1); images = n.asks })

-- at first no line is used
pub none_yet : (first : List ScriptLine) → UsesImages first first
none_yet first = unused

-- a turn more
pub images_on : (first old new : List ScriptLine) → UsesImages first old → MayUseImage old new → UsesImages first new
images_on first old new before (inl same) = subst (λ z. UsesImages first z) (sym same) before
images_on first old new before (inr one) = used before one

-- the turn by which a rank crashes
pub kill_last : (first old new : List ScriptLine) (killed : KillToken) → UsesImages first old → UsesKill old new killed.at
    → UsesLines (ending.Crashed killed) first new
kill_last first old new killed before kill = (old, before, kill)

-- what leads from turn to turn
pub ruleset line_laws = (none_yet, images_on, kill_last)
