use Rattle.std.proofs.Common.{rules, w64, ◌≡◌, ◌∙◌, sym, ap, refl, ◌++◌, ◌+◌, ℤ, ℕ, subst, to_z, of_z}
use Rattle.ix_lines.proofs.ListLemmas.{take-nil}
use Rattle.ix_lines.specs.Kept.{IsPart}
use mir.Val.{SFits}
use Rattle.std.proofs.Math.Facts.{to_z-of_z}
use Rattle.ix_lines.specs.Lines.{cut, unless_empty}
use Rattle.ix_lines.proofs.KeptLemmas.{line-kept, first-stays}
use Rattle.ix_lines.proofs.kept.Kept.end_line.Goals as goal

pub returns-clause-ok : goal.returns-clause-ok
returns-clause-ok c = λ stretch part keeps is.
    let is' = subst (λ (m : ℤ). IsPart c.args.bytes.now m part) (sym (to_z-of_z c.ranges.moment)) is in
    let k = c.in_ok-add.ensures stretch part keeps is' in
    let first = first-stays stretch part c.in-Some.begun (sym keeps.moment_is ∙ c.in-Some.is) in
    let f : SFits w64 c.in-Some.begun = search rules in
    let written : c.add_line-2.new.out ≡ c.args.out.now
    ++ unless_empty (cut c.args.truncate c.as_slice.result.now) (to_z w64 (of_z w64 c.in-Some.begun)) =
    c.in_ok-add_line.ensures.ok in (
      record { bytes_are = c.clear.ensures ∙ sym (take-nil ℕ (c.args.truncate + 1)); moment_is = refl },
      written
          ∙ ap (λ m. c.args.out.now ++ unless_empty (cut c.args.truncate c.as_slice.result.now) m) (to_z-of_z f)
          ∙ ap (λ l. c.args.out.now ++ unless_empty (cut c.args.truncate l) c.in-Some.begun) c.as_slice.ensures
          ∙ ap (λ l. c.args.out.now ++ l) (line-kept c.args.truncate (stretch ++ part) c.add.new.self c.in-Some.begun k first),
    )
