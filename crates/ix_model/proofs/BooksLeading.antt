-- The items of a command, all of them together, lead from one book to the next.
use Rattle.std.proofs.Common.{◌≡◌, ℕ, ◌==◌, ◌||◌, Bool, true, false, List, [], ◌∷◌, ◌++◌, refl, sym, ap, ◌∙◌}
use Rattle.std.specs.Prelude.{None}
use Rattle.std.proofs.lemmas.Bool.{eqb-true}
use Rattle.std.proofs.lemmas.Bool.Decides.{Decides-eqb}
use Rattle.std.specs.List.{AllByRecursion}
use Rattle.ix_manifest.specs.Book.{Name, NamedItems, named, name_of}
use Rattle.ix_manifest.proofs.Renaming.{replay_at}
use Rattle.ix_items.specs.declared.items.Item.{Item}
use Rattle.ix_model.specs.Given.{Chooser}
use Rattle.ix_model.specs.State.{State}
use Rattle.ix_model.specs.Step.{state_after}
use Rattle.ix_model.specs.declared.commands.Command.{Command}
use Rattle.ix_model.specs.declared.commands.TimedCommand.{TimedCommand}
use Rattle.ix_model.proofs.Named.{by_test}
use Rattle.ix_catalog.specs.Changes.{is_shelf_kind}
use Rattle.ix_model.specs.Books.{book_of, first_book}
use Rattle.ix_model.specs.Shelved.{shelved}
use Rattle.ix_model.specs.Said.{new_entries, shelf_items, is_channel_kind, channel_items, is_spot_kind, spot_items, is_settings_kind}
use Rattle.ix_model.specs.Said.{settings_items, is_moment_kind, moment_items, command_items, BooksLead, BooksLeadAlike, RunsAreLeft}
use Rattle.ix_model.specs.Snap.{snapshot_of}
use Rattle.ix_model.proofs.SaidChannels.{channels_are_said, each_channel}
use Rattle.ix_model.proofs.SaidShelves.{shelves_are_said, all_own}
use Rattle.ix_model.proofs.SaidSpots.{spots_are_said, settings_are_said, moments_are_said, each_spot, each_setting}
use Rattle.ix_model.proofs.Saying.{says_lead, says_join, both_own, none_of_kind}

true_false : true ≡ false → ⊥
true_false e = cc

both_false : (a b : Bool) → (a || b) ≡ false → (a ≡ false) × (b ≡ false)
both_false true b e = absurd (true_false e)
both_false false b e = (refl, e)

-- ---- the kinds are apart

abbrev two_kinds : ℕ → Bool
two_kinds kind = is_settings_kind kind || is_moment_kind kind

abbrev three_kinds : ℕ → Bool
three_kinds kind = is_spot_kind kind || two_kinds kind

abbrev four_kinds : ℕ → Bool
four_kinds kind = is_channel_kind kind || three_kinds kind

abbrev all_kinds : ℕ → Bool
all_kinds kind = is_shelf_kind kind || four_kinds kind

-- of one kind, by what holds of that
of_one : (one kind : ℕ) (k : ℕ → Bool) → k one ≡ false → (one == kind) ≡ true → k kind ≡ false
of_one one kind k f t = ap k (sym (eqb-true one kind t)) ∙ f

-- where each of these kinds is none of the others
apart_two : (k : ℕ → Bool) (kind : ℕ) → k 1 ≡ false → k 3 ≡ false → k kind ≡ true → two_kinds kind ≡ false
apart_two k kind one three is =
    by_test (1 == kind) (λ t. absurd (true_false (sym is ∙ of_one 1 kind k one t)))
    (λ t1. by_test (3 == kind) (λ t. absurd (true_false (sym is ∙ of_one 3 kind k three t)))
    (λ t3. rw (t1, t3) refl))

apart_three : (k : ℕ → Bool) (kind : ℕ) → k 10 ≡ false → k 1 ≡ false → k 3 ≡ false → k kind ≡ true → three_kinds kind ≡ false
apart_three k kind ten one three is =
    by_test (10 == kind) (λ t. absurd (true_false (sym is ∙ of_one 10 kind k ten t)))
    (λ t. ap (λ (b : Bool). b || two_kinds kind) t ∙ apart_two k kind one three is)

apart_four : (k : ℕ → Bool) (kind : ℕ) → k 4 ≡ false → k 10 ≡ false → k 1 ≡ false → k 3 ≡ false → k kind ≡ true → four_kinds kind ≡ false
apart_four k kind four ten one three is =
    by_test (4 == kind) (λ t. absurd (true_false (sym is ∙ of_one 4 kind k four t)))
    (λ t. ap (λ (b : Bool). b || three_kinds kind) t ∙ apart_three k kind ten one three is)

-- ---- nothing stands under a name of another kind

turned : (a b : ℕ) → (a == b) ≡ false → (b == a) ≡ false
turned a b f = by_test (b == a)
    (λ t. absurd (true_false (sym ((Decides-eqb a b).1 (sym (eqb-true b a t))) ∙ f)))
    (λ t. t)

nothing_in : (m : State) (name : Name) → all_kinds name.kind ≡ false → book_of m name ≡ None
nothing_in m name other =
    let s = both_false (is_shelf_kind name.kind) (four_kinds name.kind) other in
    let f = both_false (is_channel_kind name.kind) (three_kinds name.kind) s.1 in
    let t = both_false (is_spot_kind name.kind) (two_kinds name.kind) f.1 in
    let w = both_false (is_settings_kind name.kind) (is_moment_kind name.kind) t.1 in
    let a = both_false (6 == name.kind) _ s.0 in
    let b = both_false (8 == name.kind) _ a.1 in
    let c = both_false (9 == name.kind) _ b.1 in
    let d = both_false (11 == name.kind) (13 == name.kind) c.1 in
    let k1 = turned 1 name.kind w.0 in
    let k3 = turned 3 name.kind w.1 in
    let k4 = turned 4 name.kind f.0 in
    let k6 = turned 6 name.kind a.0 in
    let k8 = turned 8 name.kind b.0 in
    let k9 = turned 9 name.kind c.0 in
    let k10 = turned 10 name.kind t.0 in
    let k11 = turned 11 name.kind d.0 in
    let k13 = turned 13 name.kind d.1 in
    rw (k1, k3, k4, k6, k8, k9, k10, k11, k13) refl

nothing_first : (name : Name) → all_kinds name.kind ≡ false → first_book name ≡ None
nothing_first name other =
    let s = both_false (is_shelf_kind name.kind) (four_kinds name.kind) other in
    let f = both_false (is_channel_kind name.kind) (three_kinds name.kind) s.1 in
    let t = both_false (is_spot_kind name.kind) (two_kinds name.kind) f.1 in
    let w = both_false (is_settings_kind name.kind) (is_moment_kind name.kind) t.1 in
    let k1 = w.0 in
    rw k1 refl

nothing_left : (choose : Chooser) (history : List TimedCommand) (name : Name) → all_kinds name.kind ≡ false →
    (snapshot_of choose history).book name ≡ None
nothing_left choose [] name other = nothing_first name other
nothing_left choose (o ∷ history) name other = nothing_in (state_after choose (o ∷ history)) name other

-- ---- all of them

pub books_lead : BooksLead
books_lead choose history order =
    let m = state_after choose history in
    let later = state_after choose (history ++ order ∷ []) in
    let from = (snapshot_of choose history).book in
    let to = (snapshot_of choose (history ++ order ∷ [])).book in
    let a = settings_items order.command in
    let b = moment_items later in
    let c = spot_items order.command in
    let d = channel_items m order.command later in
    let e = shelf_items m later in
    let two = says_join is_settings_kind is_moment_kind a b from to (λ kind is. of_one 1 kind is_moment_kind refl is)
    (settings_are_said choose history order) (moments_are_said choose history order) in
    let three = says_join is_spot_kind two_kinds c (a ++ b) from to (λ kind is. of_one 10 kind two_kinds refl is)
    (spots_are_said choose history order) two in
    let four = says_join is_channel_kind three_kinds d (c
    ++ (a ++ b)) from to (λ kind is. of_one 4 kind three_kinds refl is) (channels_are_said choose history order) three in
    let all = says_join is_shelf_kind four_kinds e (d ++ (c ++ (a ++ b))) from to
    (λ kind is. apart_four is_shelf_kind kind refl refl refl refl is) (shelves_are_said choose history order) four in
    says_lead all_kinds (command_items m order.command later) from to all
    (λ name other. nothing_left choose (history ++ order ∷ []) name other ∙ sym (nothing_left choose history name other))

pub books_lead_alike : BooksLeadAlike
books_lead_alike choose history order book alike name run removals =
    ap (λ (b : NamedItems). b name) (books_lead choose history order)
    ∙ replay_at (command_items (state_after choose history) order.command (state_after choose (history ++ order ∷ [])))
    (snapshot_of choose history).book book name (alike name run removals)

all_of_kinds : (m later : State) (command : Command) → AllByRecursion (λ (x : Item). all_kinds (name_of x).kind ≡ true)
    (command_items m command later)
all_of_kinds m later command =
    let a = settings_items command in
    let b = moment_items later in
    let c = spot_items command in
    let d = channel_items m command later in
    let e = shelf_items m later in
    both_own is_shelf_kind four_kinds e (d ++ (c ++ (a ++ b)))
    (all_own later.catalog.ledger (new_entries m later) (shelved m.force m.catalog) (shelved later.force later.catalog))
    (both_own is_channel_kind three_kinds d (c ++ (a ++ b))
    (each_channel (λ (x : Item). is_channel_kind (name_of x).kind ≡ true) (λ life. refl) (λ name. refl) m command later)
    (both_own is_spot_kind two_kinds c (a ++ b) (each_spot (λ (x : Item). is_spot_kind (name_of x).kind ≡ true) (λ spot. refl) command)
    (both_own is_settings_kind is_moment_kind a b (each_setting (λ (x : Item). is_settings_kind (name_of x).kind ≡ true) (λ kept. refl)
    command) (refl, tt))))

pub runs_are_left : RunsAreLeft
runs_are_left m later command text number =
    let own = all_of_kinds m later command in (
      none_of_kind all_kinds (named 2 text number) (command_items m command later) refl own,
      none_of_kind all_kinds (named 12 text number) (command_items m command later) refl own,
    )
