-- Changes of events that are made ready for many of them.
use Rattle.std.specs.Prelude.{List}
use Rattle.ix_conf_values.specs.declared.seds.Sed.{Sed}
use Rattle.ix_conf_values.specs.declared.seds.Sed.TheVariants as sed
use Rattle.ix_conf_values.specs.declared.transforms.Transform.{Transform}
use Rattle.ix_transforms.specs.declared.seds.SedForm.{SedForm}
use Rattle.ix_transforms.specs.declared.seds.SedForm.TheVariants.{Replace, Swap}

-- the change that is made with this
abbrev pub sed_of : SedForm → Sed
sed_of (Replace pattern parts which) = sed.Replace pattern parts.now which
sed_of (Swap from to) = sed.Swap from.now to.now

-- all changes of a channel
pub record Changing : Type 0 where
  pub seds : List Sed
  pub transforms : List Transform
