-- A log says moments where a command was accepted, and its ledger stands as it is taken from the
-- last item on.
use Rattle.std.proofs.Common.{◌≡◌, ℕ, Bool, true, false, List, [], ◌∷◌, ◌++◌, refl, sym, ap, ◌∙◌, inl, inr, subst}
use Rattle.std.specs.Prelude.{Option, Some, None, not, ◌||◌, reverse}
use Rattle.std.specs.List.{list_any, filter_map, cons_option}
use Rattle.std.proofs.lemmas.List.{reverse-append}
use Rattle.ix_manifest.specs.Book.{named, name_of}
use Rattle.ix_items.specs.declared.items.Entry.{Entry}
use Rattle.ix_items.specs.declared.items.Item.{Item}
use Rattle.ix_items.specs.declared.items.Item.TheVariants as items
use Rattle.ix_recovery.specs.Among.{IsAmong}
use Rattle.ix_recovery.proofs.Booked.{stands, is_in}
use Rattle.ix_model.specs.Given.{Chooser}
use Rattle.ix_model.specs.State.{State}
use Rattle.ix_model.specs.Step.{state_after}
use Rattle.ix_model.specs.declared.commands.TimedCommand.{TimedCommand}
use Rattle.ix_model.proofs.Named.{by_test}
use Rattle.ix_replay.specs.Lists.{Lists}
use Rattle.ix_model.specs.Snap.{snapshot_of}
use Rattle.ix_store.specs.Written.{over}
use Rattle.ix_recovery.specs.First.{is_first, is_moments}
use Rattle.ix_recovery.specs.Gathered.{entry_in, nothing, with_one, all_taken}

none_some : {X : Type 0} {x : X} → None ≡ Some x → ⊥
none_some e = cc

false_true : false ≡ true → ⊥
false_true e = cc

-- ---- whether one of a list says moments

any_among : (said : List Item) → list_any is_moments said ≡ true → (x : Item) × IsAmong x said × (is_moments x ≡ true)
any_among [] e = absurd (false_true e)
any_among (y ∷ said) e =
    by_test (is_moments y)
    (λ t. (y, inl refl, t))
    (λ t. (let rest = any_among said (rw t at e) in (rest.0, inr rest.1, rest.2)))

among_any : (x : Item) (said : List Item) → IsAmong x said → is_moments x ≡ true → list_any is_moments said ≡ true
among_any x [] at t = absurd at
among_any x (y ∷ said) (inl e) t = let u : is_moments y ≡ true = ap is_moments e ∙ t in rw u refl
among_any x (y ∷ said) (inr at) t =
    by_test (is_moments y)
    (λ u. rw u refl)
    (λ u. rw u (among_any x said at t))

moments_named : (x : Item) → is_moments x ≡ true → name_of x ≡ named 3 [] 0
moments_named (items.Settings kept) t = absurd (false_true t)
moments_named (items.Run run) t = absurd (false_true t)
moments_named (items.Moments last tick) t = refl
moments_named (items.Channel name meta carry) t = absurd (false_true t)
moments_named (items.Ended name) t = absurd (false_true t)
moments_named (items.Bucket index bucket) t = absurd (false_true t)
moments_named (items.Gone index id) t = absurd (false_true t)
moments_named (items.Ledger entry) t = absurd (false_true t)
moments_named (items.Counts settled nulled dropped placed) t = absurd (false_true t)
moments_named (items.Spot spot) t = absurd (false_true t)
moments_named (items.NextFile number) t = absurd (false_true t)
moments_named (items.Removals files) t = absurd (false_true t)
moments_named (items.NextId index id) t = absurd (false_true t)

pub first_is : (choose : Chooser) (history : List TimedCommand) (run : ℕ) (removed : Option Item) (said : List Item) →
    Lists said (over run removed (snapshot_of choose history).book) →
    is_first history ≡ not (list_any is_moments said)
first_is choose [] run removed said lists =
    by_test (list_any is_moments said)
    (λ t. (let found = any_among said t in
    absurd (none_some
    (sym (ap (over run removed (snapshot_of choose []).book) (moments_named found.0 found.2))
    ∙ stands said (over run removed (snapshot_of choose []).book) lists found.0 found.1))))
    (λ t. rw t refl)
first_is choose (o ∷ history) run removed said lists =
    let m : State = state_after choose (o ∷ history) in
    let at = is_in said (over run removed (snapshot_of choose (o ∷ history)).book) lists (named 3 [] 0) (items.Moments m.last m.tick) refl
    in
    let t : list_any is_moments said ≡ true = among_any (items.Moments m.last m.tick) said at.0 refl in
    rw t refl

-- ---- the ledger

one_turned : (entries : List Entry) (o : Option Entry) → reverse (with_one entries o) ≡ cons_option o (reverse entries)
one_turned entries None = refl
one_turned entries (Some e) = reverse-append entries (e ∷ [])

pub turned : (said : List Item) → reverse (all_taken said nothing).entries ≡ filter_map entry_in said
turned [] = refl
turned (x ∷ said) = one_turned (all_taken said nothing).entries (entry_in x) ∙ ap (cons_option (entry_in x)) (turned said)
