-- Steps of what is told.
use Rattle.std.specs.Prelude.{Option, Some, None}
use Rattle.ix_base.specs.Told.{Told}

-- one step is another
pub told_map : {A : Type 0} {R S : A → A → Type 0} → ((a b : A) → R a b → S a b) → (x y : Option A) → Told R x y → Told S x y
told_map f None None t = tt
told_map f None (Some b) t = absurd t
told_map f (Some a) None t = absurd t
told_map f (Some a) (Some b) t = f a b t

-- one step behind another
pub told_join : {A : Type 0} {R S T : A → A → Type 0} → ((a b c : A) → R a b → S b c → T a c) → (x y z : Option A) → Told R x y →
    Told S y z → Told T x z
told_join f None None None t u = tt
told_join f None None (Some c) t u = absurd u
told_join f None (Some b) z t u = absurd t
told_join f (Some a) None z t u = absurd t
told_join f (Some a) (Some b) None t u = absurd u
told_join f (Some a) (Some b) (Some c) t u = f a b c t u
