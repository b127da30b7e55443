use Rattle.std.proofs.Common.{List, ◌<◌, ◌^◌, length, sym, ◌∙◌, subst, rules, IsTrue, arith}
use Rattle.std.specs.Prelude.{All}
use Rattle.std.proofs.lemmas.List.Elements.{recursion_from_All}
use Rattle.ix_items.specs.Spelling.{HasSpelling, IsKept}
use Rattle.ix_items.specs.declared.items.Item.TheVariants as items
use Rattle.ix_items.specs.declared.items.Kept.{Kept}
use Rattle.ix_apply.proofs.settings.settings_item.Goals as goal

pub returns-clause-proper : goal.returns-clause-proper
returns-clause-proper c =
    let t = c.if-not-are_kept.false in
    let yes : IsTrue c.are_kept.result = search rules in
    let all : All IsKept c.args.kept.now = subst (All IsKept) c.as_slice.ensures (c.are_kept.ensures.0 yes) in
    let short : length c.args.kept.now < 2 ^ 32 = omega (arith, c.len.ensures, c.if-len-ge-LONG.false) in
    subst (λ (k : List Kept). HasSpelling (items.Settings k)) (sym (c.in_ok-kept.ensures ∙ c.as_slice-2.ensures))
    (record { writable = (short, recursion_from_All IsKept c.args.kept.now all); in_range = tt })
