-- How histories grow from turn to turn.
use Rattle.std.proofs.Common.{◌≡◌, ◌≤◌, ◌⊎◌, ◌∙◌, ◌++◌, ◌&&◌, ℕ, Bool, true, false, List, [], ◌∷◌, length, take, refl, sym, subst, inl}
use Rattle.std.proofs.Common.{inr, ⊎_elim, Result, Ok, Err, arith, length-append}
use Rattle.std.specs.Prelude.{if◌then◌else◌}
use Rattle.std.proofs.lemmas.Bool.{false≢true}
use Rattle.std.proofs.lemmas.List.{take-append-le}
use Rattle.ix_manifest.specs.Book.{NamedItems}
use Rattle.ix_disk.specs.Image.{Image}
use Rattle.ix_disk.specs.Moments.{Always}
use Rattle.ix_disk.specs.declared.disk.Disk.{Ghosts}
use Rattle.ix_disk.proofs.Runs.{always_begins, always_on, always_weaker}
use Rattle.ix_model.specs.Given.{Chooser}
use Rattle.ix_model.specs.declared.commands.TimedCommand.{TimedCommand}
use Rattle.ix_store.specs.Holding.{Represents}
use Rattle.ix_store.specs.Written.{RecoversTo}
use Rattle.ix_store.specs.declared.store.Store.{Store}
use Rattle.ix_store.proofs.Lawful.{held_stands}
use Rattle.ix_serve.specs.Entries.{entry}
use Rattle.ix_serve.specs.Prefixes.{StandsIn}
use Rattle.ix_serve.specs.Serving.{HoldsFrom, IsOpen, still_open}
use Rattle.ix_serve.specs.declared.served.Served.{Served}
use Rattle.ix_serve.specs.declared.served.ServeFault.{ServeFault}
use Rattle.ix_serve.specs.declared.served.ServeFault.TheVariants as fault
use Rattle.ix_serve.specs.Kinds.{Kind}
use Rattle.ix_sessions.specs.Feeding.{Start, Turn, IsSafe, AreSafe, Has, history_after, disk_after, known}

-- ---- prefixes

-- a prefix of the history is one of each longer one
pub longer : (fits : NamedItems → Type 0) (run : ℕ) (choose : Chooser) (k j : ℕ) (h more : List TimedCommand) → k ≤ j → (image : Image) →
    StandsIn fits run choose h j image → StandsIn fits run choose (h ++ more) k image
longer fits run choose k j h more le image from = record {
  count = from.count;
  least = omega (arith, le, from.least);
  most = omega (arith, from.most, length-append h more);
  stands = subst (λ (l : List TimedCommand). RecoversTo fits run choose l image) (sym (take-append-le from.count h more from.most))
      from.stands;
}

pub sooner : (fits : NamedItems → Type 0) (run : ℕ) (choose : Chooser) (k j : ℕ) (h : List TimedCommand) → k ≤ j → (image : Image) →
    StandsIn fits run choose h j image → StandsIn fits run choose h k image
sooner fits run choose k j h le image from = record {
  count = from.count;
  least = omega (arith, le, from.least);
  most = from.most;
  stands = from.stands;
}

-- what a store holds stands for as much as is committed
pub held_in : {D : Type 0} (g : Ghosts D) {M : Type 0} (fits : NamedItems → Type 0) (holds : Chooser → List TimedCommand → M →
    Type 0) (choose : Chooser) (h : List TimedCommand) (base kept k run : ℕ) (store : Store M) (disk : D) → store.run ≡ run → k ≤ kept →
    Represents g fits holds choose h base kept store disk → (image : Image) → g.may_leave disk image → StandsIn fits run choose h k image
held_in g fits holds choose h base kept k run store disk same le hold image may = record {
  count = kept;
  least = le;
  most = hold.staged.within;
  stands = subst (λ (r : ℕ). RecoversTo fits r choose (take kept h) image) same
      (held_stands g fits holds choose h base kept store disk hold image may);
}

-- ---- what is known

known_held : (commits up : Bool) (n kept count : ℕ) → kept ≤ count → (commits ≡ true → count ≡ n) →
    (if commits && up then n else kept) ≤ count
known_held true true n kept count le all = let is = all refl in omega (arith, is)
known_held true false n kept count le all = le
known_held false up n kept count le all = le

known_kept : (commits up : Bool) (n kept : ℕ) → up ≡ false → (if commits && up then n else kept) ≡ kept
known_kept true true n kept down = absurd (false≢true (sym down))
known_kept true false n kept down = refl
known_kept false up n kept down = refl

known_most : (commits up : Bool) (n kept : ℕ) → kept ≤ n → (if commits && up then n else kept) ≤ n
known_most true true n kept le = omega arith
known_most true false n kept le = le
known_most false up n kept le = le

pub known_least : (commits up : Bool) (n kept : ℕ) → kept ≤ n → kept ≤ (if commits && up then n else kept)
known_least true true n kept le = le
known_least true false n kept le = omega arith
known_least false up n kept le = omega arith

module _ {D : Type 0} (g : Ghosts D) (fits : NamedItems → Type 0) (s : Start D) where
  -- no more is known than there is,
  pub knows_within : (turns : List (Turn D)) → s.kept ≤ length s.history → AreSafe g fits s turns →
      known s turns ≤ length (history_after s turns)
  knows_within [] within safe = within
  knows_within (turn ∷ earlier) within safe =
      known_most turn.answer.commits (still_open turn.result) (length (history_after s earlier ++ turn.answer.more)) turn.kept
      (omega (arith, safe.1.within, length-append (history_after s earlier) turn.answer.more))

  -- and no less than before
  pub knows_more : (turns : List (Turn D)) → AreSafe g fits s turns → s.kept ≤ known s turns
  knows_more [] safe = omega arith
  knows_more (turn ∷ earlier) safe =
      let before = knows_more earlier safe.0 in
      let here = known_least turn.answer.commits (still_open turn.result) (length (history_after s earlier ++ turn.answer.more)) turn.kept
      (omega (arith, safe.1.within, length-append (history_after s earlier) turn.answer.more)) in
      omega (arith, before, here, safe.1.least)

  -- every image since the start
  pub images_all : (turns : List (Turn D)) → ((image : Image) → g.may_leave s.disk image →
      StandsIn fits s.run s.choose s.history s.kept image) → AreSafe g fits s turns →
      Always g s.disk (disk_after s turns) (Has fits s turns s.kept)
  images_all [] first safe = always_begins g s.disk (Has fits s [] s.kept) first
  images_all (turn ∷ earlier) first safe =
      let past = history_after s earlier in
      let more = turn.answer.more in
      always_on g s.disk (disk_after s earlier) turn.disk (Has fits s (turn ∷ earlier) s.kept)
      (always_weaker g s.disk (disk_after s earlier) (Has fits s earlier s.kept) (Has fits s (turn ∷ earlier) s.kept)
      (longer fits s.run s.choose s.kept s.kept past more (omega arith)) (images_all earlier first safe.0))
      (always_weaker g (disk_after s earlier) turn.disk (Has fits s (turn ∷ earlier) turn.kept) (Has fits s (turn ∷ earlier) s.kept)
      (sooner fits s.run s.choose s.kept turn.kept (past ++ more) (omega (arith, knows_more earlier safe.0, safe.1.least))) safe.1.images)

open_or : (result : Result Served ServeFault) → IsOpen result ⊎ (still_open result ≡ false)
open_or (Ok value) = inl tt
open_or (Err fault.Disk) = inr refl
open_or (Err (fault.Damaged file at)) = inr refl
open_or (Err fault.Link) = inl tt
open_or (Err fault.Cut) = inl tt

-- ---- one turn more

module _ {D : Type 0} (g : Ghosts D) {M : Type 0} (kind : Kind M) (s : Start D) (earlier : List (Turn D)) (turn : Turn D)
    (before store : Store M) (mid : D)
    (same : before.run ≡ s.run) (goes_on : store.run ≡ before.run) (at : disk_after s earlier ≡ mid) (knows : known s earlier ≤ turn.kept)
    (within : turn.kept ≤ length (history_after s earlier))
    (held : IsOpen turn.result → HoldsFrom g kind.fits kind.holds
    (entry s.choose (history_after s earlier) s.base turn.kept before.run turn.moment) turn.answer.commits (history_after s earlier
    ++ turn.answer.more) store turn.disk)
    (images : Always g mid turn.disk (StandsIn kind.fits before.run s.choose (history_after s earlier ++ turn.answer.more) turn.kept)) where
  abbrev now : List TimedCommand
  now = history_after s earlier ++ turn.answer.more

  -- what is known is committed
  pub knows_on : (stays : IsOpen turn.result) → known s (turn ∷ earlier) ≤ (held stays).count
  knows_on stays = let is = held stays in known_held turn.answer.commits (still_open turn.result) (length now) turn.kept is.count is.least
      is.all

  settled_on : (image : Image) → g.may_leave turn.disk image → Has kind.fits s (turn ∷ earlier) (known s (turn ∷ earlier)) image
  settled_on image may = ⊎_elim
      (λ (stays : IsOpen turn.result). held_in g kind.fits kind.holds s.choose now s.base (held stays).count (known s (turn ∷ earlier))
      s.run store turn.disk (goes_on ∙ same) (knows_on stays) (held stays).hold image may)
      (λ (down : still_open turn.result ≡ false).
      subst (λ (n : ℕ). StandsIn kind.fits s.run s.choose now n image)
      (sym (known_kept turn.answer.commits (still_open turn.result) (length now) turn.kept down))
      (subst (λ (r : ℕ). StandsIn kind.fits r s.choose now turn.kept image) same (images.now image may)))
      (open_or turn.result)

  pub safe_on : IsSafe g kind.fits s earlier turn
  safe_on = record {
    least = knows;
    within = within;
    images = subst (λ (d : D). Always g d turn.disk (Has kind.fits s (turn ∷ earlier) turn.kept)) (sym at)
        (subst (λ (r : ℕ). Always g mid turn.disk (StandsIn kind.fits r s.choose now turn.kept)) same images);
    settled = settled_on;
  }
