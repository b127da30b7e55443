-- Files that are still to come have nothing in what earlier commands left.
use Rattle.std.proofs.Common.{◌≡◌, ◌≤◌, ℕ, true, List, ◌++◌, refl, sym, arith, subst}
use Rattle.std.specs.Prelude.{nat_le}
use Rattle.std.proofs.lemmas.Bool.Decides.{nat_tests}
use Rattle.ix_model.specs.Given.{Chooser}
use Rattle.ix_model.specs.State.{State, Catalog, empty}
use Rattle.ix_model.specs.Step.{state_after}
use Rattle.ix_model.specs.declared.commands.TimedCommand.{TimedCommand}
use Rattle.ix_model.proofs.Following.{after_more}
use Rattle.ix_model.proofs.Named.{by_test}
use Rattle.ix_model.proofs.Renewing.{renews_after}
use Rattle.ix_model.proofs.Stepping.{sound_after}
use Rattle.ix_model.specs.Contents.{is_meta_area, contents_of}
use Rattle.ix_model.specs.OnDisk.{HasNoneFrom}

pub none_from : (s : Catalog) (next : ℕ) → s.next_file ≤ next → HasNoneFrom next (contents_of s)
none_from s next l = λ file later.
    by_test (is_meta_area file.area)
    (λ t. rw t refl)
    (λ t. (let test : nat_le s.next_file file.number ≡ true = grind (arith, nat_tests) in rw (t, test) refl))

pub earlier_none : (choose : Chooser) (before later : List TimedCommand) →
    HasNoneFrom (state_after choose (before ++ later)).catalog.next_file (contents_of (state_after choose before).catalog)
earlier_none choose before later =
    none_from (state_after choose before).catalog (state_after choose (before ++ later)).catalog.next_file
    (subst (λ (m : State). (state_after choose before).catalog.next_file ≤ m.catalog.next_file) (sym (after_more choose empty before later))
    (renews_after choose (state_after choose before) later (sound_after choose before)).later)
