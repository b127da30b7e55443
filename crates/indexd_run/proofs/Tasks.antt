-- How a task ends: what it gave, in the words of the run.
use Rattle.std.proofs.Common.{◌≡◌, ◌||◌, ap, ℕ, ℤ, Bool, true, false, List, [], ◌∷◌, length, drop, refl, sym, ◌∙◌, subst, arith, ◌⊎◌, inl}
use Rattle.std.proofs.Common.{inr}
use Rattle.std.specs.Borrow.{Bor}
use Rattle.ix_base.specs.declared.events.Range.{Range}
use Rattle.std.specs.Prelude.{Result, Ok, Err, OnOk, OnErr, IfErr, IsErrOf, Option}
use Rattle.ix_disk.specs.declared.disk.Disk.{Ghosts}
use Rattle.ix_life.specs.declared.views.View.{View}
use Rattle.ix_manifest.specs.Book.{NamedItems}
use Rattle.ix_model.specs.Bounds.{IsAllowed}
use Rattle.ix_model.specs.Given.{Chooser}
use Rattle.ix_model.specs.Step.{state_after}
use Rattle.ix_model.specs.declared.commands.TimedCommand.{TimedCommand}
use Rattle.ix_run.proofs.Gone.{stood_here}
use Rattle.ix_run.specs.Giving.{AreAllowed}
use Rattle.ix_run.specs.Running.{outset}
use Rattle.ix_store.specs.Counting.{numbers}
use Rattle.ix_store.specs.Holding.{Represents}
use Rattle.ix_store.specs.declared.store.Store.{Store}
use Rattle.indexd_run.specs.Ends.{IsLeft, Ends, AtMost}
use Rattle.indexd_run.proofs.Leaving.{left_all}
use Rattle.indexd_run.specs.Stops.{loses, loses_in, is_output, is_input}
use Rattle.indexd_run.specs.Tasks.{GaveAll, Gave, Writing, HasSaid, HasPrinted, is_export, says, IsUnnamed, IsUnsaid}
use Rattle.indexd_run.specs.declared.task.Task.{Task}
use Rattle.indexd_run.specs.declared.task.Task.TheVariants as tasks
use Rattle.indexd_run.specs.declared.stop.Stop.{Stop}
use Rattle.indexd_run.specs.declared.stop.Stop.TheVariants as stops

pub partly : (stop : Stop) (order : TimedCommand) (all orders : List TimedCommand) → is_output stop ≡ false → order ∷ [] ≡ all →
    AtMost order orders → GaveAll (is_output stop) all orders
partly stop order all orders quiet is (inl none) = subst (λ (b : Bool). GaveAll b all orders) (sym quiet) (inl none)
partly stop order all orders quiet is (inr one) = subst (λ (b : Bool). GaveAll b all orders) (sym quiet) (inr (one ∙ is))

pub allowed_one : (choose : Chooser) (base : ℕ) (h : List TimedCommand) (order : TimedCommand) (orders : List TimedCommand) → orders ≡ order
    ∷ [] → AreAllowed choose base h orders →
    IsAllowed choose false (numbers (drop base h)) (state_after choose h) order
allowed_one choose base h order orders is all = (subst (λ (os : List TimedCommand). AreAllowed choose base h os) is all).0

-- where all is given, or there is nothing to give and nothing is given
pub gave_whole : (b : Bool) (all orders : List TimedCommand) → orders ≡ all → GaveAll b all orders
gave_whole true all orders is = is
gave_whole false all orders is = inr is

pub gave_none : (result : Result Unit Stop) (all orders : List TimedCommand) → all ≡ [] → orders ≡ [] → Gave result all orders
gave_none (Ok done) all orders is none = none ∙ sym is
gave_none (Err stop) all orders is none = gave_whole (is_output stop) all orders (none ∙ sym is)

pub not_export : (task : Task) → ((index : Bor (List ℕ)) (range : Range) → task ≡ tasks.Export index range → ⊥) → is_export task ≡ false
not_export tasks.Buckets other = refl
not_export (tasks.Export index range) other = absurd (other index range refl)
not_export (tasks.Roll index) other = refl
not_export (tasks.Thaw index id) other = refl
not_export tasks.Tick other = refl

pub printed_as : {D : Type 0} (writes : Writing) (g : Ghosts D) (choose : Chooser) (h : List TimedCommand) (task : Task) (moment : ℤ)
    (disk : D) (out out' : Option (List ℕ)) →
    is_export task ≡ false → HasSaid writes choose h task moment out out' → HasPrinted writes g choose h task moment disk out out'
printed_as writes g choose h tasks.Buckets moment disk out out' not said = said
printed_as writes g choose h (tasks.Export index range) moment disk out out' not said = cc
printed_as writes g choose h (tasks.Roll index) moment disk out out' not said = said
printed_as writes g choose h (tasks.Thaw index id) moment disk out out' not said = said
printed_as writes g choose h tasks.Tick moment disk out out' not said = said

-- what is said at a stop of a task other than an export
pub says_output : (task : Task) (stop : Stop) → is_export task ≡ false → says task stop ≡ is_output stop
says_output task stop not = ap (λ (b : Bool). b || is_output stop) not

pub says_export : (task : Task) (stop : Stop) (index : Bor (List ℕ)) (range : Range) → task ≡ tasks.Export index range →
    says task stop ≡ true
says_export task stop index range is = ap (λ (t : Task). says t stop) is

-- ---- stops of a text

pub unsaid_safe : (task : Task) (view : View) (stop : Stop) → IsUnsaid task view stop → loses stop ≡ false
unsaid_safe task view stop (inl is) = ap loses is
unsaid_safe task view stop (inr (inl is)) = ap loses is
unsaid_safe task view stop (inr (inr is)) = ap loses is.0

pub unsaid_unread : (task : Task) (view : View) (stop : Stop) → IsUnsaid task view stop → is_input stop ≡ false
unsaid_unread task view stop (inl is) = ap is_input is
unsaid_unread task view stop (inr (inl is)) = ap is_input is
unsaid_unread task view stop (inr (inr is)) = ap is_input is.0

pub unsaid_by : (task : Task) (view : View) (stop : Stop) → (stop ≡ stops.Memory) ⊎ ((stop ≡ stops.Inconsistent) × IsUnnamed task view) →
    IsUnsaid task view stop
unsaid_by task view stop (inl is) = inl is
unsaid_by task view stop (inr is) = inr (inr is)

-- a fact that holds where the result is Ok, or Err
pub on_ok_by : (result : Result Unit Stop) (Q : Type 0) → ((done : Unit) → result ≡ Ok done → Q) → OnOk result Q
on_ok_by (Ok done) Q so = so done refl
on_ok_by (Err stop) Q so = tt

pub at_ok : (result : Result Unit Stop) (done : Unit) (P : Type 0) → result ≡ Ok done → OnOk result P → P
at_ok (Ok all) done P is so = so
at_ok (Err stop) done P is so = cc

pub if_err_by : (result : Result Unit Stop) (Q : Stop → Type 0) → ((stop : Stop) → result ≡ Err stop → Q stop) → IfErr result Q
if_err_by (Ok done) Q so = tt
if_err_by (Err stop) Q so = so stop refl

pub at_err : (result : Result Unit Stop) (stop : Stop) (P : Stop → Type 0) → result ≡ Err stop → IfErr result P → P stop
at_err (Ok done) stop P is so = cc
at_err (Err other) stop P is so = let e : other ≡ stop = cc in subst P e so

pub at_stop : (result : Result Unit Stop) (stop : Stop) (P : Type 0) → result ≡ Err stop → OnErr result P → P
at_stop (Ok done) stop P is so = cc
at_stop (Err other) stop P is so = so

-- the one stop that blames the output
abbrev stopped_at : Stop → Result Unit Stop
stopped_at stop = Err stop

output_is : (stop : Stop) → is_output stop ≡ true → stop ≡ stops.Output
output_is stops.Memory out = cc
output_is stops.Disk out = cc
output_is (stops.Damaged file at) out = cc
output_is stops.Inconsistent out = cc
output_is stops.NotFound out = cc
output_is stops.TooManyChannels out = cc
output_is stops.Full out = cc
output_is stops.Output out = refl
output_is stops.Input out = cc
output_is stops.Endless out = cc

pub output_of : (result : Result Unit Stop) (stop : Stop) → result ≡ Err stop → is_output stop ≡ true → IsErrOf result stops.Output
output_of result stop is output = is ∙ ap stopped_at (output_is stop output)

module _ {D : Type 0} (g : Ghosts D) {M : Type 0} (fits : NamedItems → Type 0) (run : ℕ) (holds : Chooser → List TimedCommand → M →
    Type 0) (choose : Chooser) (h : List TimedCommand) (base : ℕ) (store : Store M) (first last : D) where
  pub left_weaker : (may must : List TimedCommand → Type 0) → ((orders : List TimedCommand) → may orders → must orders) →
      IsLeft g fits holds (outset choose h base (length h) run first) may store last →
      IsLeft g fits holds (outset choose h base (length h) run first) must store last
  left_weaker may must so left = record {
    orders = left.orders;
    allowed = so left.orders left.allowed;
    all = left.all;
    committed = left.committed;
    lasts = left.lasts;
  }

  pub ends_weaker : (lost : Bool) (may must : List TimedCommand → Type 0) → ((orders : List TimedCommand) → may orders → must orders) →
      Ends lost g fits holds (outset choose h base (length h) run first) may store last →
      Ends lost g fits holds (outset choose h base (length h) run first) must store last
  ends_weaker true may must so ends = record { orders = ends.orders; allowed = so ends.orders ends.allowed; stood = ends.stood }
  ends_weaker false may must so ends = left_weaker may must so ends

  pub ends_safe : (lost : Bool) (may : List TimedCommand → Type 0) → lost ≡ false →
      IsLeft g fits holds (outset choose h base (length h) run first) may store last →
      Ends lost g fits holds (outset choose h base (length h) run first) may store last
  ends_safe lost may safe left = subst (λ (b : Bool). Ends b g fits holds (outset choose h base (length h) run first) may store last)
      (sym safe) left

  -- what was given stays given when its text is written, or is not
  pub said : (count : ℕ) (result : Result Unit Stop) (all : List TimedCommand) (task : Task) (view : View) →
      IfErr result (λ stop. IsUnsaid task view stop) →
      IsLeft g fits holds (outset choose h base (length h) run first) (Gave {T = ℕ} (Ok count) all) store last →
      Ends (loses_in result) g fits holds (outset choose h base (length h) run first) (Gave result all) store last
  said count (Ok done) all task view safe left = left_weaker (Gave {T = ℕ} (Ok count) all) (Gave {T = Unit} (Ok done) all) (λ orders is. is)
      left
  said count (Err stop) all task view unsaid left =
      ends_safe (loses stop) (Gave {T = Unit} (Err stop) all) (unsaid_safe task view stop unsaid)
      (left_weaker (Gave {T = ℕ} (Ok count) all) (Gave {T = Unit} (Err stop) all) (λ orders is. gave_whole (is_output stop) all orders is)
      left)

-- nothing is given
pub none_given : {D : Type 0} (g : Ghosts D) {M : Type 0} (fits : NamedItems → Type 0) (holds : Chooser → List TimedCommand → M →
    Type 0) (choose : Chooser) (h : List TimedCommand) (base : ℕ) (store : Store M) (disk : D) (may : List TimedCommand → Type 0) →
    may [] → Represents g fits holds choose h base (length h) store disk →
    IsLeft g fits holds (outset choose h base (length h) store.run disk) may store disk
none_given g fits holds choose h base store disk may so hold =
    left_all g fits holds (outset choose h base (length h) store.run disk) may [] store disk so
    (record {
      allowed = tt;
      same_run = refl;
      hold = hold;
      stood = stood_here g fits store.run holds choose h base (length h) (length h) store disk refl (omega arith) hold;
    })
