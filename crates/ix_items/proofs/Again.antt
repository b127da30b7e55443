-- Bytes that stand for a value are read again.
use Rattle.std.proofs.Common.{◌≡◌, Some, refl}
use Rattle.ix_base.specs.declared.files.Area.{Area}
use Rattle.ix_base.specs.declared.files.Area.TheVariants.{Meta, Home, Cold, Frozen, Thawed}
use Rattle.ix_items.specs.declared.items.State.{State}
use Rattle.ix_items.specs.declared.items.State.TheVariants as states
use Rattle.ix_items.specs.declared.items.Rule.{Rule}
use Rattle.ix_items.specs.declared.items.Rule.TheVariants as rules_of
use Rattle.ix_items.specs.Spelling.{area_byte, state_byte, rule_byte}
use Rattle.ix_items.specs.Reading.{area_of, state_of, rule_of}

pub area_again : (a : Area) → area_of (area_byte a) ≡ Some a
unfolding area_of
area_again Meta = refl
area_again Home = refl
area_again Cold = refl
area_again Frozen = refl
area_again Thawed = refl

pub state_again : (s : State) → state_of (state_byte s) ≡ Some s
unfolding state_of
state_again states.Hot = refl
state_again states.Quarantine = refl
state_again states.Warm = refl
state_again states.Cold = refl
state_again states.Thawed = refl

pub rule_again : (r : Rule) → rule_of (rule_byte r) ≡ Some r
unfolding rule_of
rule_again rules_of.Age = refl
rule_again rules_of.Cold = refl
rule_again rules_of.Total = refl
