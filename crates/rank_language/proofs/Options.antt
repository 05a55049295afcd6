-- What a value that came through options says of them.
use Rattle.std.proofs.Common.{◌≡◌, ℕ, Bool, true, false, ◌||◌, Option, Some, None, option_map, refl, subst}
use Rattle.rank_language.specs.Options.{◌>>=◌}
use Rattle.rank_language.specs.Resolved.{either_place}

-- a value of a mapped option comes from one of the option
pub mapped : {A B : Type 0} (f : A → B) (o : Option A) (b : B) → option_map f o ≡ Some b → (a : A) × (o ≡ Some a) × (f a ≡ b)
mapped f None b h = cc
mapped f (Some a) b h = (a, refl, cc)

-- a value that was gone on to comes from one of the first option
pub gone_on : {A B : Type 0} (f : A → Option B) (o : Option A) (b : B) → (o >>= f) ≡ Some b → (a : A) × (o ≡ Some a) × (f a ≡ Some b)
gone_on f None b h = cc
gone_on f (Some a) b h = (a, refl, h)

-- one part of a disjunction holds, so one part of another holds
pub either : (a b c d : Bool) → (a ≡ true → c ≡ true) → (b ≡ true → d ≡ true) → (a || b) ≡ true → (c || d) ≡ true
either true b true d f g h = refl
either true b false d f g h = absurd (let k = f refl in cc)
either false b true d f g h = refl
either false b false d f g h = g h

-- what a name by itself stands for comes from one of its two places
pub either_from : {A : Type 0} (f g : ℕ → A) (o q : Option ℕ) (P : A → Type 0) (t : A) → ((p : ℕ) → o ≡ Some p → P (f p))
    → ((p : ℕ) → q ≡ Some p → P (g p)) → either_place f g o q ≡ Some t → P t
either_from f g (Some p) q P t h k e =
    let r : f p ≡ t = cc in
    subst P r (h p refl)
either_from f g None None P t h k e = cc
either_from f g None (Some p) P t h k e =
    let r : g p ≡ t = cc in
    subst P r (k p refl)
