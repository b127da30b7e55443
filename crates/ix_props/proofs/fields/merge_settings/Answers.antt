use Rattle.std.proofs.Common.{true, ap, ◌∙◌}
use Rattle.ix_props.specs.Settings.{boolean_or, count_or, pattern_of}
use Rattle.ix_props.specs.declared.settings.MergeSettings.{MergeSettings}
use Rattle.ix_props.proofs.fields.merge_settings.Goals as goal

pub returns : goal.returns
returns c =
    let put = c.in_ok-put_patterns.ensures in
    let plain = c.plain-merge.ensures in
    record {
      on = ap (λ (m : MergeSettings). m.on) put ∙ ap (λ (m : MergeSettings). m.on) plain ∙ c.boolean_or.ensures
          ∙ ap (λ v. boolean_or true v) c.find.ensures;
      before_date = ap (λ (m : MergeSettings). m.before_date) put ∙ ap (λ (m : MergeSettings). m.before_date) plain ∙ c.boolean_or-2.ensures
          ∙ ap (λ v. boolean_or true v) c.find-2.ensures;
      before = ap (λ (m : MergeSettings). m.before) put ∙ c.pattern_in.ensures ∙ ap (λ v. pattern_of v) c.find-4.ensures;
      break_after = ap (λ (m : MergeSettings). m.break_after) put ∙ c.pattern_in-2.ensures ∙ ap (λ v. pattern_of v) c.find-5.ensures;
      hold_after = ap (λ (m : MergeSettings). m.hold_after) put ∙ c.pattern_in-3.ensures ∙ ap (λ v. pattern_of v) c.find-6.ensures;
      veto = ap (λ (m : MergeSettings). m.veto) put ∙ c.pattern_in-4.ensures ∙ ap (λ v. pattern_of v) c.find-7.ensures;
      max_lines = ap (λ (m : MergeSettings). m.max_lines) put ∙ ap (λ (m : MergeSettings). m.max_lines) plain ∙ c.count_or.ensures
          ∙ ap (λ v. count_or 256 v) c.find-3.ensures;
    }
