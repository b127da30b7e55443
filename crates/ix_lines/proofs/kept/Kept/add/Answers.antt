use Rattle.std.proofs.Common.{rules, w64, Some, ◌∙◌, ◌++◌, ◌-◌, ◌+◌, ◌<◌, take, length, ap}
use mir.Val.{SFits}
use Rattle.std.specs.Prelude.{unwrap_or}
use Rattle.std.proofs.Math.Facts.{to_z-of_z}
use Rattle.ix_lines.proofs.Answering.{map-ok}
use Rattle.ix_lines.proofs.KeptLemmas.{add-keeps}
use Rattle.ix_lines.proofs.kept.Kept.add.Goals as goal

pub returns : goal.returns
returns c = map-ok c.extend.result c.extend.ensures.ok (λ e stretch part keeps is.
    let f : SFits w64 c.unwrap_or.result = search rules in
    let some : 0 < length c.args.bytes.now = search rules in
    add-keeps c.args.truncate stretch part c.args.self.now _ c.args.bytes.now c.args.moment keeps is some
    (e ∙ ap (λ l. c.args.self.now.bytes ++ l) (c.first_bytes.ensures
    ∙ ap (λ n. take n c.args.bytes.now) (c.saturating_sub-room.ensures ∙ ap (λ k. c.args.truncate + 1 - k) c.len.ensures)))
    (ap Some (to_z-of_z f ∙ c.unwrap_or.ensures ∙ ap (λ m. unwrap_or c.args.self.now.moment m) (to_z-of_z c.ranges.moment))))
