-- The stream of a run that stores its input: the blocks that fill it.
use Rattle.std.proofs.Common.{◌≡◌, ◌+◌, ℕ, ℤ, List, [], ◌∷◌, ◌++◌, length, map, sym, ap, ◌∙◌, subst, arith}
use Rattle.std.specs.Prelude.{Option, Some, None, IfSome, Result, Ok, Err}
use Rattle.std.proofs.lemmas.List.{append-nil, map-append, length-append}
use Rattle.ix_base.specs.Told.{Told, Took}
use Rattle.ix_disk.specs.declared.disk.Disk.{Ghosts}
use Rattle.ix_manifest.specs.Book.{NamedItems}
use Rattle.ix_model.specs.Given.{Chooser}
use Rattle.ix_model.specs.declared.commands.TimedCommand.{TimedCommand}
use Rattle.ix_store.specs.declared.store.Store.{Store}
use Rattle.ix_run.specs.Giving.{given_all, HasGivenAll}
use Rattle.ix_run.specs.Running.{AlwaysRecoverable, outset}
use Rattle.ix_run.specs.Storing.{block_order, joined, Gives, Feeds}
use Rattle.ix_run.specs.declared.giving.GiveFault.{GiveFault}
use Rattle.ix_run.specs.declared.input.RunFault.TheVariants as stops
use Rattle.ix_run.proofs.Stored.{took_both, joined_more, given_on, gives_on, halted_more, filled_all}

-- how many bytes they have with one more
pub joined_length : (blocks : List (List ℕ)) (bytes : List ℕ) →
    length (joined (blocks ++ bytes ∷ [])) ≡ length (joined blocks) + length bytes
joined_length blocks bytes = ap (λ (l : List ℕ). length l) (joined_more blocks bytes) ∙ length-append (joined blocks) bytes

-- nothing more was taken
pub took_end : (taken bytes : List ℕ) (x y z : Option (List ℕ)) → length bytes ≡ 0 → Told (Took taken) x y → Told (Took bytes) y z →
    Told (Took taken) x z
took_end taken [] x y z none p q = subst (λ (l : List ℕ). Told (Took l) x z) (append-nil taken) (took_both taken [] x y z p q)
took_end taken (b ∷ bytes) x y z none p q = absurd (omega (arith, none))

-- what was at its end is there still
pub end_still : (bytes : List ℕ) (x y : Option (List ℕ)) → IfSome x (λ (left : List ℕ). left ≡ []) → Told (Took bytes) x y →
    IfSome y (λ (left : List ℕ). left ≡ [])
end_still bytes None None end p = tt
end_still bytes None (Some y) end p = absurd p
end_still bytes (Some x) None end p = absurd p
end_still [] (Some x) (Some y) end p = sym p ∙ end
end_still (b ∷ bytes) (Some x) (Some y) end p = absurd (not_none b (bytes ++ y) (sym end ∙ p))
  where
    not_none : (b : ℕ) (l : List ℕ) → [] ≡ b ∷ l → ⊥
    not_none b l is = cc

module _ {D : Type 0} (g : Ghosts D) {M : Type 0} (fits : NamedItems → Type 0) (run : ℕ) (holds : Chooser → List TimedCommand → M →
    Type 0) (choose : Chooser) where
  -- a block more
  pub given_block : (h : List TimedCommand) (base k : ℕ) (mid_store store : Store M) (first mid last : D) (moment : ℤ)
      (blocks : List (List ℕ)) (bytes : List ℕ) (result : Result Unit GiveFault) →
      (one : HasGivenAll g fits holds (outset choose h base k run first) (map (block_order moment) blocks) mid_store mid) →
      Gives g fits holds (outset choose (given_all choose h (map (block_order moment) blocks)) base one.count mid_store.run mid) store last
      result
      (block_order moment bytes ∷ []) →
      Gives g fits holds (outset choose h base k run first) store last result (map (block_order moment) (blocks ++ bytes ∷ []))
  given_block h base k mid_store store first mid last moment blocks bytes result one gives =
      subst (λ (some : List TimedCommand). Gives g fits holds (outset choose h base k run first) store last result some)
      (sym (map-append (block_order moment) blocks (bytes ∷ [])))
      (gives_on g fits run holds choose h (map (block_order moment) blocks) (block_order moment bytes
      ∷ []) base k mid_store store first mid last one result gives)

  -- the last was not given
  pub feeds_halt : (h filled : List TimedCommand) (base k : ℕ) (store : Store M) (first last : D) (fault : GiveFault) →
      Gives g fits holds (outset choose h base k run first) store last (Err fault) filled →
      Feeds g fits holds (outset choose h base k run first) store last (Err (stops.Given fault)) filled []
  feeds_halt h filled base k store first last fault gives =
      halted_more g fits run holds choose h base (λ (given : List TimedCommand).
      HasGivenAll g fits holds (outset choose h base k run first) given store last)
      (λ (given : List TimedCommand). AlwaysRecoverable g fits run choose (given_all choose h given) k first last) fault filled [] gives

  -- all were
  pub feeds_all : (h filled : List TimedCommand) (base k : ℕ) (store : Store M) (first last : D) →
      HasGivenAll g fits holds (outset choose h base k run first) filled store last →
      Feeds g fits holds (outset choose h base k run first) store last (Ok tt) filled []
  feeds_all h filled base k store first last all = subst
      (λ (some : List TimedCommand). HasGivenAll g fits holds (outset choose h base k run first) some store last) (sym (append-nil filled))
      all

  -- behind those that open the channel
  pub filled_on : (h a filled : List TimedCommand) (base k : ℕ) (mid_store store : Store M) (first mid last : D) →
      (one : HasGivenAll g fits holds (outset choose h base k run first) a mid_store mid) →
      HasGivenAll g fits holds (outset choose (given_all choose h a) base one.count mid_store.run mid) (filled ++ []) store last →
      HasGivenAll g fits holds (outset choose h base k run first) (a ++ filled) store last
  filled_on h a filled base k mid_store store first mid last one two =
      given_on g fits run holds choose h a filled base k mid_store store first mid last one
      (filled_all g fits mid_store.run holds choose (given_all choose h a) filled base one.count store mid last two)
