use Rattle.std.proofs.Common.{ap, ◌∙◌, codes}
use Rattle.ix_props.specs.Settings.{count_or, pattern_of, format_of, lookahead_of, zone_or}
use Rattle.ix_props.specs.declared.settings.TimeSettings.{TimeSettings}
use Rattle.ix_props.proofs.fields.time_settings.Goals as goal

pub returns : goal.returns
returns c =
    let put = c.in_ok-put_forms.ensures in
    record {
      prefix = ap (λ (t : TimeSettings). t.prefix) put ∙ c.pattern_in.ensures ∙ ap (λ v. pattern_of v) c.find-5.ensures;
      format = ap (λ (t : TimeSettings). t.format) put ∙ c.format_in.ensures ∙ ap (λ v. format_of v) c.find-6.ensures;
      lookahead = ap (λ (t : TimeSettings). t.lookahead) put ∙ c.lookahead_of.ensures ∙ ap (λ v. lookahead_of v) c.find-2.ensures;
      zone = ap (λ (t : TimeSettings). t.zone) put ∙ c.in_ok-zone.ensures ∙ ap (λ v. zone_or (codes "UTC0") v) c.find.ensures;
      days_ago = ap (λ (t : TimeSettings). t.days_ago) put ∙ c.count_or.ensures ∙ ap (λ v. count_or 2000 v) c.find-3.ensures;
      days_hence = ap (λ (t : TimeSettings). t.days_hence) put ∙ c.count_or-2.ensures ∙ ap (λ v. count_or 2 v) c.find-4.ensures;
    }
