-- The ledger of a history has one entry of each bucket at most, so the order in which it is seen
-- leaves nothing open.
use Rattle.std.proofs.Common.{◌≡◌, ◌≤◌, Bool, true, false, not, List, [], ◌∷◌, length, filter, refl, sym, ap, ◌∙◌, arith}
use Rattle.std.specs.Prelude.{Option, Some, None, ◌==◌, ◌&&◌, bytes_eq, option_to_list, slice_get}
use Rattle.std.specs.List.Sorted.{IsPermutation, IsSortedBy, ties}
use Rattle.std.specs.Ordering.{ordering_then, ordering_reverse, is_eq, is_lt}
use Rattle.std.specs.Cmp.{ranked as of_numbers}
use Rattle.std.specs.declared.cmp.Ordering.{Ordering}
use Rattle.std.specs.declared.cmp.Ordering.TheVariants.{Less, Equal, Greater}
use Rattle.std.proofs.lemmas.Bool.{and_parts, not-true}
use Rattle.std.proofs.lemmas.Bool.Decides.{Decides-eqb}
use Rattle.std.proofs.lemmas.List.Sorted.{IsPermutation-sym}
use Rattle.std.proofs.lemmas.Map.Text.{is_eq-slice_cmp}
use Rattle.ix_items.specs.declared.items.Entry.{Entry}
use Rattle.ix_model.specs.Given.{Chooser}
use Rattle.ix_model.specs.Keeping.{entered_at}
use Rattle.ix_model.specs.Ledger.{is_of}
use Rattle.ix_model.specs.Ranked.{entry_cmp, ranks_before, ranked}
use Rattle.ix_model.specs.State.{slots_in}
use Rattle.ix_model.specs.Step.{state_after}
use Rattle.ix_model.specs.declared.commands.TimedCommand.{TimedCommand}
use Rattle.ix_model.proofs.Ledgers.{same_length}
use Rattle.ix_model.proofs.Named.{by_test}
use Rattle.ix_model.proofs.Ranking.{entry_cmp_total, ranked_by_sort}
use Rattle.ix_model.proofs.Singles.{whole_after}
use Rattle.ix_recovery.proofs.Shuffles.{short_same, filter_moved}

-- ---- entries of which neither stands before the other are of one bucket

level : (r s : Ordering) → r ≡ ordering_reverse s → is_lt r ≡ false → is_lt s ≡ false → r ≡ Equal
level Less s turned a b = cc
level Equal s turned a b = refl
level Greater Less turned a b = cc
level Greater Equal turned a b = cc
level Greater Greater turned a b = cc

both_equal : (r s : Ordering) → ordering_then r s ≡ Equal → (r ≡ Equal) × (s ≡ Equal)
both_equal Less s e = cc
both_equal Equal s e = (refl, e)
both_equal Greater s e = cc

one_bucket : (x y : Entry) → ties ranks_before x y ≡ true → is_of x.index x.id y ≡ true
one_bucket x y tie =
    let apart = and_parts (not (ranks_before x y)) (not (ranks_before y x)) tie in
    let equal = level (entry_cmp y x) (entry_cmp x y) (entry_cmp_total.antisymm y x) (not-true _ apart.1) (not-true _ apart.0) in
    let number = both_equal _ _ equal in
    let newest = both_equal _ _ number.0 in
    let rule = both_equal _ _ newest.0 in
    let moment = both_equal _ _ rule.0 in
    let index : bytes_eq y.index x.index ≡ true = sym (is_eq-slice_cmp y.index x.index) ∙ ap is_eq moment.1 in
    let id : (y.id == x.id) ≡ true = (Decides-eqb y.id x.id).1 (of_numbers y.id x.id Equal (sym number.1)) in
    λ i. index i && id i

-- ---- there is one at most

fewer : (p q : Entry → Bool) → ((e : Entry) → p e ≡ true → q e ≡ true) → (es : List Entry) → length (filter p es) ≤ length (filter q es)
fewer p q into [] = omega arith
fewer p q into (e ∷ es) =
    let rest = fewer p q into es in
    by_test (p e)
    (λ t. rw t (rw (into e t) (omega (arith, rest))))
    (λ t. rw t (by_test (q e) (λ u. rw u (omega (arith, rest))) (λ u. rw u rest)))

one_at_most : (o : Option Entry) → length (option_to_list o) ≤ 1
one_at_most None = omega arith
one_at_most (Some e) = omega arith

few_tie : (choose : Chooser) (history : List TimedCommand) (x : Entry) →
    length (filter (ties ranks_before x) (state_after choose history).catalog.ledger) ≤ 1
few_tie choose history x =
    let m = state_after choose history in
    let o = entered_at (slice_get (slots_in m.catalog.indexes x.index) x.id) in
    let a = fewer (ties ranks_before x) (is_of x.index x.id) (one_bucket x) m.catalog.ledger in
    let b = same_length (filter (is_of x.index x.id) m.catalog.ledger) (option_to_list o) ((whole_after choose history).each x.index x.id)
    in
    let c = one_at_most o in
    omega (arith, a, b, c)

-- its entries in that order are what is seen
pub seen_once : (choose : Chooser) (history : List TimedCommand) (entries : List Entry) →
    IsPermutation entries (state_after choose history).catalog.ledger →
    IsSortedBy ranks_before entries → entries ≡ ranked (state_after choose history).catalog.ledger
seen_once choose history entries moved rises =
    let ledger = (state_after choose history).catalog.ledger in
    ranked_by_sort ledger entries rises
    (λ x. short_same (filter (ties ranks_before x) ledger) (filter (ties ranks_before x) entries) (few_tie choose history x)
    (filter_moved (ties ranks_before x) ledger entries (IsPermutation-sym entries ledger moved)))
