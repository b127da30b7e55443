-- Settings that mean the same as usable ones are usable: for the law `settings_are_usable`.
use Rattle.std.proofs.Common.{◌≡◌, ℕ, ◌≤◌, ◌<◌, List, [], ◌∷◌, refl, sym, ap, ◌∙◌, subst, length}
use Rattle.std.specs.Prelude.{Option, ◌||◌, is_some, true, Bool, IfSome}
use Rattle.std.specs.List.{AllByRecursion, AllZip}
use Rattle.ix_pattern.specs.Piece.{Piece, least_length}
use Rattle.ix_pattern.specs.Rows.{tree}
use Rattle.ix_props.specs.Same.{IsSameSed, IsSameTransform, AreSame}
use Rattle.ix_props.specs.Settings.{AreUsable}
use Rattle.ix_props.specs.declared.settings.MergeSettings.{MergeSettings}
use Rattle.ix_props.specs.declared.settings.Settings.{Settings}
use Rattle.ix_props.specs.declared.settings.TimeSettings.{TimeSettings}
use Rattle.ix_conf_values.specs.Seds.{IsNumbered, IsApplicable}
use Rattle.ix_conf_values.specs.Transforms.{HasDestination}
use Rattle.ix_conf_values.specs.declared.seds.Sed.{Sed}
use Rattle.ix_conf_values.specs.declared.seds.Sed.TheVariants.{Replace, Swap}
use Rattle.ix_conf_values.specs.declared.seds.Which.{Which}
use Rattle.ix_conf_values.specs.declared.transforms.Transform.{Transform}

sed_same : (a b : Sed) → IsSameSed a b → IsApplicable a → IsApplicable b
sed_same (Replace p parts which) (Replace q parts' which') same is = subst IsNumbered same.2 is
sed_same (Replace p parts which) (Swap from to) same is = absurd same
sed_same (Swap from to) (Replace p parts which) same is = absurd same
sed_same (Swap from to) (Swap from' to') same is =
    sym (ap (λ (l : List ℕ). length l) same.0) ∙ is ∙ ap (λ (l : List ℕ). length l) same.1

seds_same : (xs ys : List Sed) → AllZip IsSameSed xs ys → AllByRecursion IsApplicable xs → AllByRecursion IsApplicable ys
seds_same [] [] same is = tt
seds_same [] (b ∷ ys) same is = absurd same
seds_same (a ∷ xs) [] same is = absurd same
seds_same (a ∷ xs) (b ∷ ys) same is = (sed_same a b same.0 is.0, seds_same xs ys same.1 is.1)

transforms_same : (xs ys : List Transform) → AllZip IsSameTransform xs ys → AllByRecursion HasDestination xs →
    AllByRecursion HasDestination ys
transforms_same [] [] same is = tt
transforms_same [] (b ∷ ys) same is = absurd same
transforms_same (a ∷ xs) [] same is = absurd same
transforms_same (a ∷ xs) (b ∷ ys) same is =
    (sym (ap (λ (t : Transform). is_some t.dest || t.write_meta) same.0.others) ∙ is.0, transforms_same xs ys same.1 is.1)

pub usable_same : (a b : Settings) → AreSame a b → AreUsable a → AreUsable b
usable_same a b same is =
    let lines : a.merge.max_lines ≡ b.merge.max_lines = ap (λ (m : MergeSettings). m.max_lines) same.merge.others in
    record {
      groups = subst (λ (n : ℕ). 0 < n) same.breaker.groups is.groups;
      takes = subst (λ (t : Piece). 0 < least_length t) same.breaker.trees is.takes;
      lines = subst (λ (n : ℕ). 1 ≤ n) lines is.lines;
      few_lines = subst (λ (n : ℕ). n ≤ 1_000_000) lines is.few_lines;
      ago = subst (λ (n : ℕ). n ≤ 10_951) (ap (λ (t : TimeSettings). t.days_ago) same.time.others) is.ago;
      hence = subst (λ (n : ℕ). n ≤ 10_950) (ap (λ (t : TimeSettings). t.days_hence) same.time.others) is.hence;
      lookahead = subst (λ (o : Option ℕ). IfSome o (λ n. (1 ≤ n) × (n ≤ 1_048_576)))
          (ap (λ (t : TimeSettings). t.lookahead) same.time.others) is.lookahead;
      seds = seds_same a.seds b.seds same.seds is.seds;
      transforms = transforms_same a.transforms b.transforms same.transforms is.transforms;
    }
