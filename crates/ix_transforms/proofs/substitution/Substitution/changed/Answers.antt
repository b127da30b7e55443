use Rattle.std.proofs.Common.{◌≡◌, ℕ, ◌-◌, sym, ◌∙◌, ap}
use Rattle.std.specs.Prelude.{slice_get}
use Rattle.ix_conf_values.specs.declared.seds.Which.{Which}
use Rattle.ix_transforms.specs.Matches.{matches}
use Rattle.ix_transforms.specs.Seds.{cut, raw_limit, replaced, number_of, chosen}
use Rattle.ix_transforms.proofs.TextLemmas.{cut-again}
use Rattle.ix_transforms.proofs.ReplaceLemmas.{none-chosen, one-chosen, all-chosen}
use Rattle.ix_transforms.proofs.substitution.Substitution.changed.Goals as goal

pub returns-in_default : goal.returns-in_default
returns-in_default c =
    let self = c.args.self.now in
    let found = matches self.pattern.now self.text.now 0 in
    let none = ap (λ (n : ℕ). slice_get found (n - 1)) (sym c.number_of-number.ensures.is) ∙ sym c.in_ok-found.ensures.is
    ∙ c.in_default.is in
    ap (λ fs. cut (replaced self.parts.now self.text.now 0 fs)) (sym (none-chosen c.args.which found none))

pub returns-in_ok-replace_all-in-All : goal.returns-in_ok-replace_all-in-All
returns-in_ok-replace_all-in-All c =
    let self = c.args.self.now in
    let found = matches self.pattern.now self.text.now 0 in
    let one : c.number_of-number.result ≡ 1 = c.number_of-number.ensures.is ∙ ap number_of c.in-All.is in
    let some = ap (λ (n : ℕ). slice_get found (n - 1)) (sym one) ∙ sym c.in_ok-found.ensures.is ∙ c.in-Some.is in
    cut-again raw_limit c.in_ok-replace_all-in-All.field-0 _ c.in_ok-replace_all-in-All.ensures
    ∙ ap (λ fs. cut (replaced self.parts.now self.text.now 0 fs)) (sym (all-chosen self.pattern.now self.text.now c.in-Some.found some))
    ∙ ap (λ (w : Which). cut (replaced self.parts.now self.text.now 0 (chosen w found))) (sym c.in-All.is)

pub returns-in_ok-replace_one-in_default-which : goal.returns-in_ok-replace_one-in_default-which
returns-in_ok-replace_one-in_default-which c =
    let self = c.args.self.now in
    let found = matches self.pattern.now self.text.now 0 in
    let some = ap (λ (n : ℕ). slice_get found (n - 1)) (sym c.number_of-number.ensures.is) ∙ sym c.in_ok-found.ensures.is ∙ c.in-Some.is in
    cut-again raw_limit c.in_ok-replace_one-in_default-which.field-0 _ c.in_ok-replace_one-in_default-which.ensures
    ∙ ap (λ fs. cut (replaced self.parts.now self.text.now 0 fs))
    (sym (one-chosen c.args.which found c.in-Some.found c.in_default-which.not-All some))
