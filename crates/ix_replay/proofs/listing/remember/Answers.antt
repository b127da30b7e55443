use Rattle.std.proofs.Common.{◌≡◌, false, true, if◌then◌else◌, ◌∷◌, Bool, rules, subst, sym, ◌∙◌}
use Rattle.ix_replay.specs.Covering.{Covers}
use Rattle.ix_replay.proofs.listing.remember.Goals as goal

pub returns-then-not-stays : goal.returns-then-not-stays
returns-then-not-stays c = λ items covers.
    let t = c.if-not-stays.true in
    let no : c.stays.result ≡ false = search rules in
    subst (λ (b : Bool). Covers c.args.tally (if b then c.args.item.now ∷ items else items)) (sym no ∙ c.stays.ensures) covers

pub returns : goal.returns
returns c = λ items covers.
    let t = c.if-not-stays.false in
    let yes : c.stays.result ≡ true = search rules in
    let d = c.if-not-done.false in
    let done : c.in_ok-done.done ≡ true = search rules in
    subst (λ (b : Bool). Covers c.add.new.self (if b then c.args.item.now ∷ items else items)) (sym yes ∙ c.stays.ensures)
    (c.in_ok-done.ensures done items covers)
