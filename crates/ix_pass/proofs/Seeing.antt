-- What a visit finds of a file whose bytes are told.
use Rattle.std.proofs.Common.{◌≡◌, ◌-◌, ℕ, Bool, true, false, List, [], length, take, drop, refl, sym, ap, ◌∙◌}
use Rattle.std.proofs.Common.{arith}
use Rattle.std.specs.Prelude.{Option, Some, None, IfSome}
use Rattle.std.specs.Option.{option_map}
use Rattle.std.proofs.lemmas.Bool.{false≢true}
use Rattle.std.proofs.lemmas.List.{append-nil, length-drop}
use Rattle.ix_base.specs.Told.{IsFrontOf}
use Rattle.ix_base.specs.declared.events.Spot.{Spot}
use Rattle.ix_monitor.specs.Steps.{plan}
use Rattle.ix_monitor.specs.declared.steps.Seen.{Seen}
use Rattle.ix_monitor.specs.declared.steps.Step.{Step}
use Rattle.ix_monitor.specs.declared.steps.Step.TheVariants.{Skip, From, Again}
use Rattle.ix_watch.specs.Visits.{joined, seen_of, read_by}
use Rattle.ix_watch.specs.Visits.{IsFoundIn}
use Rattle.ix_pass.specs.Visiting.{StepReads, found_with}
use Rattle.ix_pass.proofs.Filled.{take_all}

not_none : {X : Type 0} {x : X} → None ≡ Some x → ⊥
not_none e = cc

not_some : {X : Type 0} {x : X} → Some x ≡ None → ⊥
not_some e = cc

inside : {X : Type 0} {x y : X} → Some x ≡ Some y → x ≡ y
inside e = cc

pub missed : (o : Option (List ℕ)) → None ≡ option_map seen_of o → IsFoundIn true None None o
missed None e = refl
missed (Some bytes) e = absurd (not_none e)

pub unseen : (o : Option (List ℕ)) → IsFoundIn false None None o
unseen None = refl
unseen (Some bytes) = tt

all_front : (read whole : List ℕ) → read ≡ whole → IsFrontOf read whole
all_front read whole is = record { rest = []; whole_is = sym is ∙ sym (append-nil read) }

to_end : (place : ℕ) (bytes : List ℕ) (size : ℕ) → size ≡ length bytes → take (size - place) (drop place bytes) ≡ drop place bytes
to_end place bytes size e = take_all (size - place) (drop place bytes) (omega (arith, e, length-drop place bytes))

reads : (whole : Bool) (step : Step) (size : ℕ) (read bytes : List ℕ) → size ≡ length bytes → StepReads whole step size read bytes →
    IsFrontOf read (read_by step bytes) × (whole ≡ true → read ≡ read_by step bytes)
reads true Skip size read bytes e is = (all_front read [] is, λ t. is)
reads true (From place) size read bytes e is = (
  all_front read (drop place bytes) (is ∙ to_end place bytes size e),
  λ t. is
      ∙ to_end place bytes size e,
)
reads true Again size read bytes e is = (all_front read bytes (is ∙ to_end 0 bytes size e), λ t. is ∙ to_end 0 bytes size e)
reads false Skip size read bytes e is = (all_front read [] is, λ t. absurd (false≢true t))
reads false (From place) size read bytes e is = (is, λ t. absurd (false≢true t))
reads false Again size read bytes e is = (is, λ t. absurd (false≢true t))

pub seen_is : (whole : Bool) (kept : Option Spot) (seen : Seen) (blocks : List (List ℕ)) (o : Option (List ℕ)) →
    Some seen ≡ option_map seen_of o →
    IfSome o (StepReads whole (plan seen kept) seen.size (joined blocks)) → IsFoundIn whole kept (Some (found_with seen blocks)) o
seen_is whole kept seen blocks None e is = absurd (not_some e)
seen_is true kept seen blocks (Some bytes) e is =
    let same : seen ≡ seen_of bytes = inside e in
    let both = reads true (plan seen kept) seen.size (joined blocks) bytes (ap (λ (s : Seen). s.size) same) is in
    (record { seen = same; read = both.0 }, both.1)
seen_is false kept seen blocks (Some bytes) e is =
    let same : seen ≡ seen_of bytes = inside e in
    let both = reads false (plan seen kept) seen.size (joined blocks) bytes (ap (λ (s : Seen). s.size) same) is in
    (record { seen = same; read = both.0 }, both.1)
