-- Why a task stops, or why it does not.
use Rattle.std.proofs.Common.{◌≡◌, ◌+◌, if◌then◌else◌, ap, ℕ, ℤ, Bool, true, false, not, List, [], ◌∷◌, ◌++◌, refl, sym, ◌∙◌, subst, inl}
use Rattle.std.proofs.Common.{inr}
use Rattle.std.specs.Prelude.{Option, Some, None, is_some, option_to_list, slice_get, filter}
use Rattle.std.specs.List.{sum_by}
use Rattle.std.proofs.lemmas.List.Sorted.{sum_by-IsPermutation}
use Rattle.std.proofs.lemmas.List.Sums.{sum_by-cons}
use Rattle.ix_items.specs.declared.items.Entry.{Entry}
use Rattle.ix_commit.specs.declared.fault.CommitFault.{CommitFault}
use Rattle.ix_commit.specs.declared.fault.CommitFault.TheVariants as commits
use Rattle.ix_life.specs.declared.views.View.{View}
use Rattle.ix_model.proofs.Following.{after_more}
use Rattle.ix_model.proofs.Freezing.{filter_sum}
use Rattle.ix_model.proofs.Ledgers.{ticks_alone}
use Rattle.ix_model.proofs.Ranking.{ranked_moved}
use Rattle.ix_model.proofs.Singles.{whole_after}
use Rattle.ix_model.specs.Bounds.{IsAllowed, IsRefused}
use Rattle.ix_model.specs.Buckets.{Standing, live, frozen, Slot}
use Rattle.ix_model.specs.Given.{Chooser}
use Rattle.ix_model.specs.Judged.{judged, is_known, by_slot, by_standing, by_thawed, draws}
use Rattle.ix_model.specs.Keeping.{entered_at}
use Rattle.ix_model.specs.Ledger as ledgers
use Rattle.ix_model.specs.Ranked.{ranked}
use Rattle.ix_model.specs.Shown as shown
use Rattle.ix_model.specs.Shown.{whole_ledger}
use Rattle.ix_model.specs.State.{State, slots_in, empty}
use Rattle.ix_model.specs.Step.{state_after, effective}
use Rattle.ix_model.specs.declared.answers.Refusal.{Refusal}
use Rattle.ix_model.specs.declared.answers.Refusal.TheVariants as refusals
use Rattle.ix_model.specs.declared.commands.Command.{Command}
use Rattle.ix_model.specs.declared.commands.Command.TheVariants as commands
use Rattle.ix_model.specs.declared.commands.TimedCommand.{TimedCommand}
use Rattle.ix_run.specs.Giving.{given_all}
use Rattle.ix_store.specs.Exporting.{is_seen}
use Rattle.indexd_run.proofs.Ending.{undrawn, undrawn_allowed}
use Rattle.indexd_run.specs.Stops.{of_refusal, of_commit, Caused}
use Rattle.indexd_run.specs.Tasks.{command_in, orders_in, IsRefusedSo, IsUnexported, IsUnseen, IsWhy, IsFine, is_of, entry_of, is_export}
use Rattle.indexd_run.specs.Tasks.{IsUnnamed, IsUnsaid}
use Rattle.indexd_run.specs.declared.stop.Stop.{Stop}
use Rattle.indexd_run.specs.declared.stop.Stop.TheVariants as stops
use Rattle.indexd_run.specs.declared.task.Task.{Task}
use Rattle.indexd_run.specs.declared.task.Task.TheVariants as tasks

-- ---- a task's command is refused because something is not there, or for want of room

abbrev IsNotThere : Option Refusal → Type 0
IsNotThere None = Unit {0}
IsNotThere (Some refusal) = of_refusal refusal ≡ stops.NotFound

either : (b : Bool) (x y : Option Refusal) → IsNotThere x → IsNotThere y → IsNotThere (if b then x else y)
either true x y one two = one
either false x y one two = two

thawed_not_there : (archive : Option ℕ) (is_thawed : Bool) → IsNotThere (by_thawed archive is_thawed)
thawed_not_there None is_thawed = refl
thawed_not_there (Some archive) true = refl
thawed_not_there (Some archive) false = tt

slot_not_there : (slot : Option Slot) → IsNotThere (by_slot slot)
slot_not_there None = refl
slot_not_there (Some s) = by s.standing where
  by : (standing : Standing) → IsNotThere (by_standing standing)
  by (live b) = refl
  by (frozen e thawed) = thawed_not_there e.archive (is_some thawed)

not_there : (m : State) (task : Task) (command : Command) → command_in task ≡ Some command → IsNotThere (judged m command)
not_there m tasks.Buckets command is = cc
not_there m (tasks.Export index range) command is = cc
not_there m (tasks.Roll index) command is =
    let e : commands.Roll index.now ≡ command = cc in
    subst (λ (c : Command). IsNotThere (judged m c)) e (either (not (is_known m index.now)) (Some refusals.UnknownIndex) None refl tt)
not_there m (tasks.Thaw index id) command is =
    let e : commands.Thaw index.now id ≡ command = cc in
    subst (λ (c : Command). IsNotThere (judged m c)) e
    (either (is_known m index.now) (by_slot (slice_get (slots_in m.catalog.indexes index.now) id)) (Some refusals.UnknownIndex)
    (slot_not_there (slice_get (slots_in m.catalog.indexes index.now) id)) refl)
not_there m tasks.Tick command is =
    let e : commands.Tick ≡ command = cc in
    subst (λ (c : Command). IsNotThere (judged m c)) e tt

other_cause : (m : State) (task : Task) (command : Command) (refusal : Refusal) → command_in task ≡ Some command →
    judged m command ≡ Some refusal → of_refusal refusal ≡ stops.NotFound
other_cause m task command refusal is why = subst IsNotThere why (not_there m task command is)

-- a task's command draws no number
pub draws_none : (task : Task) (command : Command) → command_in task ≡ Some command → draws command ≡ false
draws_none tasks.Buckets command is = cc
draws_none (tasks.Export index range) command is = cc
draws_none (tasks.Roll index) command is = let e : commands.Roll index.now ≡ command = cc in subst (λ (c : Command). draws c ≡ false) e refl
draws_none (tasks.Thaw index id) command is = let e : commands.Thaw index.now id ≡ command = cc in
    subst (λ (c : Command). draws c ≡ false) e refl
draws_none tasks.Tick command is = let e : commands.Tick ≡ command = cc in subst (λ (c : Command). draws c ≡ false) e refl

module _ (choose : Chooser) (h : List TimedCommand) (task : Task) (command : Command) (moment : ℤ) (is : command_in task ≡ Some command)
  where
    abbrev order : TimedCommand
    order = record { command = command; moment = moment }

    so : (stop : Stop) (refusal : Refusal) → stop ≡ of_refusal refusal → IsRefused choose false 0 (state_after choose h) order refusal →
        IsRefusedSo choose h (command_in task) moment stop
    so stop refusal says why = subst (λ (o : Option Command). IsRefusedSo choose h o moment stop) (sym is) (refusal, says, why)

    refused : (refusal : Refusal) → IsRefused choose false 0 (state_after choose h) order refusal →
        IsWhy choose h task moment (of_refusal refusal)
    refused refusals.Closed why = let e = other_cause (state_after choose h) task command refusals.Closed is why in cc
    refused refusals.NoChannel why = let e = other_cause (state_after choose h) task command refusals.NoChannel is why in cc
    refused refusals.ChannelOpen why = let e = other_cause (state_after choose h) task command refusals.ChannelOpen is why in cc
    refused refusals.UnknownIndex why = inr (so stops.NotFound refusals.UnknownIndex refl why)
    refused refusals.NoBucket why = inr (so stops.NotFound refusals.NoBucket refl why)
    refused refusals.NotArchived why = inr (so stops.NotFound refusals.NotArchived refl why)
    refused refusals.AlreadyThawed why = inr (so stops.NotFound refusals.AlreadyThawed refl why)
    refused refusals.TooManyChannels why = let e = other_cause (state_after choose h) task command refusals.TooManyChannels is why in cc
    refused refusals.Full why = so stops.Full refusals.Full refl why
    refused refusals.NoMemory why = tt

    uncommitted : (fault : CommitFault) → IsWhy choose h task moment (of_commit fault)
    uncommitted commits.Disk = tt
    uncommitted (commits.Damaged file at) = tt

    pub why_not : (drawn : ℕ) (stop : Stop) → Caused choose drawn h order stop → IsWhy choose h task moment stop
    why_not drawn stop (inl why) = subst (λ (s : Stop). IsWhy choose h task moment s) (sym why.1)
        (refused why.0 (undrawn choose drawn (state_after choose h) order why.0 (draws_none task command is) why.2))
    why_not drawn stop (inr why) = subst (λ (s : Stop). IsWhy choose h task moment s) (sym why.1) (uncommitted why.0)

-- and it is allowed
pub fine_by : (choose : Chooser) (h : List TimedCommand) (task : Task) (command : Command) (moment : ℤ) (drawn : ℕ) →
    command_in task ≡ Some command →
    IsAllowed choose false drawn (state_after choose h) (record { command = command; moment = moment }) → IsFine choose h task moment
fine_by choose h tasks.Buckets command moment drawn is all = tt
fine_by choose h (tasks.Export index range) command moment drawn is all = cc
fine_by choose h (tasks.Roll index) command moment drawn is all =
    let e : command ≡ commands.Roll index.now = cc in
    undrawn_allowed choose drawn (state_after choose h) (record { command = commands.Roll index.now; moment = moment }) refl
    (subst (λ (c : Command). IsAllowed choose false drawn (state_after choose h) (record { command = c; moment = moment })) e all)
fine_by choose h (tasks.Thaw index id) command moment drawn is all =
    let e : command ≡ commands.Thaw index.now id = cc in
    undrawn_allowed choose drawn (state_after choose h) (record { command = commands.Thaw index.now id; moment = moment }) refl
    (subst (λ (c : Command). IsAllowed choose false drawn (state_after choose h) (record { command = c; moment = moment })) e all)
fine_by choose h tasks.Tick command moment drawn is all =
    let e : command ≡ commands.Tick = cc in
    undrawn_allowed choose drawn (state_after choose h) (record { command = commands.Tick; moment = moment }) refl
    (subst (λ (c : Command). IsAllowed choose false drawn (state_after choose h) (record { command = c; moment = moment })) e all)

-- a listing gives no command
pub fine_none : (choose : Chooser) (h : List TimedCommand) (task : Task) (moment : ℤ) → is_export task ≡ false → command_in task ≡ None →
    IsFine choose h task moment
fine_none choose h tasks.Buckets moment not is = tt
fine_none choose h (tasks.Export index range) moment not is = cc
fine_none choose h (tasks.Roll index) moment not is = cc
fine_none choose h (tasks.Thaw index id) moment not is = cc
fine_none choose h tasks.Tick moment not is = cc

-- ---- an export

pub why_unexported : (choose : Chooser) (h : List TimedCommand) (index : List ℕ) (task : Task) (moment : ℤ) (stop : Stop) →
    (is_seen (state_after choose h) index ≡ false → IsUnseen choose h task) →
    IsUnexported choose h index stop → IsWhy choose h task moment stop
why_unexported choose h index task moment stops.Memory unseen why = tt
why_unexported choose h index task moment stops.Disk unseen why = tt
why_unexported choose h index task moment (stops.Damaged file at) unseen why = tt
why_unexported choose h index task moment stops.Inconsistent unseen why = why
why_unexported choose h index task moment stops.NotFound unseen why = inl (unseen why)
why_unexported choose h index task moment stops.TooManyChannels unseen why = why
why_unexported choose h index task moment stops.Full unseen why = absurd why
why_unexported choose h index task moment stops.Output unseen why = tt
why_unexported choose h index task moment stops.Input unseen why = why
why_unexported choose h index task moment stops.Endless unseen why = why

-- ---- a text

pub why_unsaid : (choose : Chooser) (h : List TimedCommand) (task : Task) (moment : ℤ) (view : View) (stop : Stop) →
    (IsUnnamed task view → ⊥) → IsUnsaid task view stop → IsWhy choose h task moment stop
why_unsaid choose h task moment view stop named (inl is) = subst (λ (s : Stop). IsWhy choose h task moment s) (sym is) tt
why_unsaid choose h task moment view stop named (inr (inl is)) = subst (λ (s : Stop). IsWhy choose h task moment s) (sym is) tt
why_unsaid choose h task moment view stop named (inr (inr is)) = absurd (named is.1)

-- ---- a bucket that is brought back has its entry in the ledger

abbrev counts_of : List ℕ → ℕ → Entry → ℕ
counts_of index id e = if is_of index id e then 1 else 0

none_counted : (index : List ℕ) (id : ℕ) (entries : List Entry) → entry_of index id entries ≡ None → sum_by (counts_of index id) entries ≡ 0
none_counted index id [] none = refl
none_counted index id (e ∷ entries) none = by (is_of index id e) refl none (none_counted index id entries) where
  by : (b : Bool) → is_of index id e ≡ b → (if b then Some e else entry_of index id entries) ≡ None →
      (entry_of index id entries ≡ None → sum_by (counts_of index id) entries ≡ 0) → sum_by (counts_of index id) (e ∷ entries) ≡ 0
  by true is none rest = cc
  by false is none rest =
      let count : counts_of index id e ≡ 0 = ap (λ (b : Bool). if b then 1 else 0) is in
      sum_by-cons (counts_of index id) e entries ∙ ap (λ (n : ℕ). n + sum_by (counts_of index id) entries) count
      ∙ ap (λ (n : ℕ). 0 + n) (rest none)

entered_one : (o : Option Slot) → by_slot o ≡ None → sum_by (λ (e : Entry). 1) (option_to_list (entered_at o)) ≡ 1
entered_one None is = cc
entered_one (Some s) is = by s.standing is where
  by : (standing : Standing) → by_standing standing ≡ None →
      sum_by (λ (e : Entry). 1) (option_to_list (entered_at (Some (record { events = s.events; standing = standing })))) ≡ 1
  by (live b) is = cc
  by (frozen e thawed) is = refl

slot_is_there : (b : Bool) (o : Option Refusal) → (if b then o else Some refusals.UnknownIndex) ≡ None → o ≡ None
slot_is_there true o is = is
slot_is_there false o is = cc

zero_one : ◌≡◌ {A = ℕ} 0 1 → ⊥
zero_one is = cc

module _ (choose : Chooser) (h : List TimedCommand) (index : List ℕ) (id : ℕ) (moment : ℤ) (view : View) where
  abbrev thaw : TimedCommand
  thaw = record { command = commands.Thaw index id; moment = moment }

  abbrev slot_at : Option Slot
  slot_at = slice_get (slots_in (state_after choose h).catalog.indexes index) id

  abbrev counted : List Entry → ℕ
  counted entries = sum_by (counts_of index id) entries

  -- a Thaw leaves the ledger alone
  ledger_is : whole_ledger (state_after choose (h ++ thaw ∷ [])) ≡ whole_ledger (state_after choose h)
  ledger_is = ap whole_ledger (after_more choose empty h (thaw ∷ []))
      ∙ ticks_alone choose (state_after choose h) (commands.Thaw index id) (effective (state_after choose h).last moment) (λ is. cc)

  frozen_once : by_slot slot_at ≡ None → counted (whole_ledger (state_after choose h)) ≡ 1
  frozen_once there =
      let filtered : sum_by (λ (e : Entry). 1) (filter (ledgers.is_of index id) (whole_ledger (state_after choose h))) ≡ counted
      (whole_ledger (state_after choose h)) =
      filter_sum (λ (e : Entry). 1) (ledgers.is_of index id) (whole_ledger (state_after choose h)) in
      sym filtered ∙ (whole_after choose h).each index id (λ (e : Entry). 1) ∙ entered_one slot_at there

  named_thaw : IsAllowed choose false 0 (state_after choose h) thaw → view ≡ shown.view (state_after choose (h ++ thaw ∷ [])) →
      entry_of index id view.ledger ≡ None → ⊥
  named_thaw allowed seen none =
      let later = whole_ledger (state_after choose (h ++ thaw ∷ [])) in
      zero_one (
      sym (none_counted index id view.ledger none)
      ∙ ap (λ (v : View). counted v.ledger) seen
      ∙ sum_by-IsPermutation (counts_of index id) later (ranked later) (ranked_moved later)
      ∙ ap counted ledger_is
      ∙ frozen_once (slot_is_there (is_known (state_after choose h) index) (by_slot slot_at) allowed.no_cause))

pub named : (choose : Chooser) (h : List TimedCommand) (task : Task) (moment : ℤ) (view : View) → IsFine choose h task moment →
    view ≡ shown.view (state_after choose (given_all choose h (orders_in task moment))) →
    IsUnnamed task view → ⊥
named choose h tasks.Buckets moment view fine seen none = none
named choose h (tasks.Export index range) moment view fine seen none = none
named choose h (tasks.Roll index) moment view fine seen none = none
named choose h (tasks.Thaw index id) moment view fine seen none = named_thaw choose h index.now id moment view fine seen none
named choose h tasks.Tick moment view fine seen none = none
