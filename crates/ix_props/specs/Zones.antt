-- Time zones of zones.conf.
use Rattle.std.specs.Prelude.{◌≡◌, ℕ, List, Option, Some, None, IsSome, codes}
use Rattle.jiff_tz.specs.PosixReader.{read_whole}
use Rattle.ix_conf.specs.declared.layers.MergedEntry.{MergedEntry}
use Rattle.ix_conf_values.specs.Values.{own_value, stated}
use Rattle.ix_props.specs.declared.zones.RuleFault.{RuleFault}
use Rattle.ix_props.specs.declared.zones.RuleFault.TheVariants as rule_fault
use Rattle.ix_props.specs.declared.zones.ZoneFault.{ZoneFault}
use Rattle.ix_props.specs.declared.zones.ZoneFault.TheVariants as zone_fault

-- the rule of a zone: its stanza's own, which is not empty
abbrev pub rule_of : List MergedEntry → List ℕ → Option (List ℕ)
rule_of zones name = stated (own_value zones name (codes "RULE"))

-- a zone was read of this rule
abbrev pub IsZone : Option (List ℕ) → List ℕ → Type 0
IsZone None zone = ⊥
IsZone (Some rule) zone = (zone ≡ rule) × IsSome (read_whole rule)

-- want of memory may be answered at any time
abbrev pub RefusesRule : List ℕ → RuleFault → Type 0
RefusesRule text rule_fault.BadRule = read_whole text ≡ None
RefusesRule text rule_fault.NoMemory = Unit {0}

abbrev pub IsBadRule : Option (List ℕ) → Type 0
IsBadRule None = ⊥
IsBadRule (Some rule) = read_whole rule ≡ None

abbrev pub RefusesZone : Option (List ℕ) → ZoneFault → Type 0
RefusesZone rule zone_fault.Unknown = rule ≡ None
RefusesZone rule zone_fault.BadRule = IsBadRule rule
RefusesZone rule zone_fault.NoMemory = Unit {0}
