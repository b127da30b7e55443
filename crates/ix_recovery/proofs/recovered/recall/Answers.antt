use Rattle.std.proofs.Common.{◌≡◌, subst, sym, ap, ◌∙◌}
use Rattle.ix_recovery.proofs.Failing.{memory_no_bad}
use Rattle.std.specs.Prelude.{not, reverse, Result, Err}
use Rattle.std.specs.List.{list_any}
use Rattle.ix_model.specs.Ranked.{ranked}
use Rattle.ix_replay.specs.Lists.{AreListed}
use Rattle.ix_recovery.specs.declared.gathering.GatheredItems.{GatheredItems}
use Rattle.ix_recovery.specs.First.{is_moments}
use Rattle.ix_recovery.specs.Gathered.{nothing, all_taken}
use Rattle.ix_recovery.specs.Recalled.{IsRecalled, IsNoState}
use Rattle.ix_recovery.proofs.Blamed.{bad_stands}
use Rattle.ix_recovery.proofs.Firsts.{first_is, turned}
use Rattle.ix_recovery.proofs.Good.{none_bad}
use Rattle.ix_recovery.proofs.Holding.{holds, not_refused}
use Rattle.ix_recovery.proofs.recovered.recall.Goals as goal

same_fault : {T E : Type 0} {a b : E} → ◌≡◌ {A = Result T E} (Err a) (Err b) → a ≡ b
same_fault e = cc

pub returns-in-Ok-clause-done : goal.returns-in-Ok-clause-done
returns-in-Ok-clause-done c = λ choose history run removed chooser given fit is.
    let same = c.into_items-items.ensures.same in
    let listed : AreListed c.args.book = subst AreListed same c.into_items-items.ensures.lists.listed in
    let gathered = c.in_ok-gathered.ensures ∙ ap (λ l. all_taken l nothing) same in
    holds choose history c.args.book c.in-Ok.held listed
    (record { chooser = chooser; given = given; run = run; removed = removed; is = is }) fit
    (subst (λ (g : GatheredItems). IsRecalled g c.in-Ok.held) gathered c.in-Ok.ensures.recalled)

pub returns-in-Ok-clause-good : goal.returns-in-Ok-clause-good
returns-in-Ok-clause-good c = λ subject bad.
    let same = c.into_items-items.ensures.same in
    let listed : AreListed c.args.book = subst AreListed same c.into_items-items.ensures.lists.listed in
    let gathered = c.in_ok-gathered.ensures ∙ ap (λ l. all_taken l nothing) same in
    let exist = c.choosers_exist.ensures in
    none_bad exist.0 exist.1 c.args.book c.in-Ok.held listed
    (subst (λ (g : GatheredItems). IsRecalled g c.in-Ok.held) gathered c.in-Ok.ensures.recalled) subject bad

pub returns-in-Ok-clause-fresh : goal.returns-in-Ok-clause-fresh
returns-in-Ok-clause-fresh c = λ choose history run removed is.
    let same = c.into_items-items.ensures.same in
    first_is choose history run removed c.args.book (record {
      stands = sym is;
      listed = subst AreListed same c.into_items-items.ensures.lists.listed;
    })
    ∙ ap not (sym (c.say_moments-fresh.ensures ∙ ap (list_any is_moments) (c.as_slice.ensures.value ∙ same)))

pub returns-in-Ok-clause-ledger : goal.returns-in-Ok-clause-ledger
returns-in-Ok-clause-ledger c =
    let gathered = c.in_ok-gathered.ensures ∙ ap (λ l. all_taken l nothing) c.into_items-items.ensures.same in
    c.in-Ok.ensures.recalled.ledger ∙ ap (λ (g : GatheredItems). ranked (reverse g.entries)) gathered ∙ ap ranked (turned c.args.book)

pub returns-in-Err-clause-bad : goal.returns-in-Err-clause-bad
returns-in-Err-clause-bad c = λ subject is.
    let same = c.into_items-items.ensures.same in
    let listed : AreListed c.args.book = subst AreListed same c.into_items-items.ensures.lists.listed in
    let gathered = c.in_ok-gathered.ensures ∙ ap (λ l. all_taken l nothing) same in
    bad_stands c.args.book subject listed (subst (IsNoState subject) gathered
    (c.in-Err.ensures.bad subject (ap (λ f. Err f) (same_fault is))))

pub returns-in-Err-clause-sound : goal.returns-in-Err-clause-sound
returns-in-Err-clause-sound c = λ subject err choose history run removed chooser given is.
    let same = c.into_items-items.ensures.same in
    let listed : AreListed c.args.book = subst AreListed same c.into_items-items.ensures.lists.listed in
    let gathered = c.in_ok-gathered.ensures ∙ ap (λ l. all_taken l nothing) same in
    not_refused choose history c.args.book subject listed
    (record { chooser = chooser; given = given; run = run; removed = removed; is = is })
    (subst (IsNoState subject) gathered (c.in-Err.ensures.bad subject (ap (λ f. Err f) (same_fault err))))

pub returns-in_err-gathered-clause-bad : goal.returns-in_err-gathered-clause-bad
returns-in_err-gathered-clause-bad c = λ subject is. memory_no_bad c.from_residual.result subject c.from_residual.ensures.1 is

pub returns-in_err-gathered-clause-sound : goal.returns-in_err-gathered-clause-sound
returns-in_err-gathered-clause-sound c = λ subject is. memory_no_bad c.from_residual.result subject c.from_residual.ensures.1 is
