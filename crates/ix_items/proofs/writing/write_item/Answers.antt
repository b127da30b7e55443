use Rattle.std.proofs.Common.{ℕ, take, ap, ◌∙◌}
use Rattle.ix_base.proofs.ToldLemmas.{on_err_always}
use Rattle.ix_coding.proofs.Extending.{extends_take}
use Rattle.ix_items.proofs.writing.write_item.Goals as goal

pub returns-then-is_err-clause-err : goal.returns-then-is_err-clause-err
returns-then-is_err-clause-err c =
    let put = c.put_item-done.new.out in
    on_err_always c.put_item-done.result (c.truncate.ensures ∙ ap (λ (n : ℕ). take n put) c.len-before.ensures
    ∙ extends_take c.args.out.now put c.put_item-done.ensures.begun)
