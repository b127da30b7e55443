-- A block more of a watched file, given behind others.
use Rattle.std.proofs.Common.{◌≡◌, ◌≤◌, ◌<◌, ◌+◌, ◌-◌, ℕ, ℤ, true, List, [], ◌∷◌, ◌++◌, length, sym, subst, arith}
use Rattle.std.specs.Prelude.{Option, Result, Ok, min}
use Rattle.ix_base.specs.Clocks.{Moments}
use Rattle.ix_disk.specs.declared.disk.Disk.{Ghosts}
use Rattle.ix_manifest.specs.Book.{NamedItems}
use Rattle.ix_model.specs.Given.{Chooser}
use Rattle.ix_model.specs.declared.commands.Command.{Command}
use Rattle.ix_model.specs.declared.commands.Command.TheVariants.{Tick}
use Rattle.ix_model.specs.declared.commands.TimedCommand.{TimedCommand}
use Rattle.ix_store.specs.declared.store.Store.{Store}
use Rattle.ix_run.specs.declared.giving.GiveFault.{GiveFault}
use Rattle.ix_pass.specs.Giving.{Went, Tried, kind, change}
use Rattle.ix_watch.specs.Visits.{joined, added, adds}
use Rattle.ix_pass.proofs.Filled.{adds_at}
use Rattle.ix_pass.proofs.Going.{tried_on}

-- a piece that does not fill its buffer is the last one
pub stops_at : (room size at len n : ℕ) → n ≡ min room (min (size - at) (len - at)) → n < room → at + n < size → len ≤ at + n
stops_at room size at len n many short more = grind (arith, many, short, more)

module _ {D : Type 0} (d : Ghosts D) {M : Type 0} (is_chooser : Chooser → Type 0) (takes : TimedCommand → Type 0) (fits : NamedItems →
    Type 0) (holds : Chooser → List TimedCommand → M → Type 0)
    (ticks : (moment : ℤ) → takes (record { command = Tick; moment = moment })) where
  pub tried_block : (result : Result Unit GiveFault) (path head : List ℕ) (from at : ℕ) (blocks : List (List ℕ)) (block : List ℕ)
      (x y z : Option Moments) (s0 s1 s2 : Store M) (d0 d1 d2 : D) →
      at ≡ from + length (joined blocks) →
      Tried true (adds path head from blocks) x y (λ orders. Went d (kind is_chooser takes fits holds) (Ok tt) orders (change s0 d0 s1 d1))
      →
      Tried true (added path head at block ∷ []) y z (λ orders. Went d (kind is_chooser takes fits holds) result orders
      (change s1 d1 s2 d2)) →
      Tried true (adds path head from (blocks ++ block ∷ [])) x z (λ orders. Went d (kind is_chooser takes fits holds) result orders
      (change s0 d0 s2 d2))
  tried_block result path head from at blocks block x y z s0 s1 s2 d0 d1 d2 e one two =
      subst (λ (l : List Command). Tried true l x z (λ orders. Went d (kind is_chooser takes fits holds) result orders
      (change s0 d0 s2 d2)))
      (sym (adds_at path head from at blocks block e))
      (tried_on d is_chooser takes fits holds ticks true result (adds path head from blocks) (added path head at block
      ∷ []) x y z s0 s1 s2 d0 d1 d2 one two)
