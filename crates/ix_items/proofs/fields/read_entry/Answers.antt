use Rattle.std.proofs.Common.{◌++◌, ℕ, List, rules, ap, subst, sym, ◌∙◌}
use Rattle.std.proofs.lemmas.Int.{to_z-of_z}
use mir.Val.{SFits}
use Rattle.std.specs.Int.{w64}
use Rattle.ix_items.specs.declared.items.Entry.{Entry}
use Rattle.ix_coding.specs.Spelling.{eight, string, IsShort}
use Rattle.ix_items.proofs.Rows.{entry_found}
use Rattle.ix_items.proofs.fields.read_entry.Goals as goal

pub returns-clause-found : goal.returns-clause-found
returns-clause-found c =
    let f1 : SFits w64 c.in_ok-id.moment = search rules in
    let f2 : SFits w64 c.in_ok-count.newest = search rules in
    let f3 : SFits w64 c.in_ok-count.oldest = search rules in
    let e : Entry = record {
      index = c.in_ok-index.index;
      id = c.in_ok-id.id;
      rule = c.in_ok-id.rule;
      moment = c.in_ok-id.moment;
      count = c.in_ok-count.count;
      newest = c.in_ok-count.newest;
      oldest = c.in_ok-count.oldest;
      bytes = c.in_ok-size.size;
      archive = c.archive_of_number.result;
    } in
    let named = c.in_ok-name.ensures.found in
    let first = named.0 ∙ ap (λ (l : List ℕ). string l ++ c.in_ok-name.rest.now) (sym c.in_ok-index.ensures) in
    let last = c.in_ok-archive.ensures.found ∙ ap (λ (n : ℕ). eight n
    ++ c.in_ok-archive.rest.now) (sym c.archive_of_number.ensures.found) in (
      simp to_z-of_z (entry_found e _ _ _ _ _ _ first c.in_ok-id.ensures.found c.in_ok-count.ensures.found c.in_ok-size.ensures.found last),
      subst (λ (l : List ℕ). IsShort l) (sym c.in_ok-index.ensures) named.1,
      c.archive_of_number.ensures.some,
    )
