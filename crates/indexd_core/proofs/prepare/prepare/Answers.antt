use Rattle.std.proofs.Common.{◌∙◌, ℕ, List, refl, subst, sym}
use Rattle.std.specs.Prelude.{IsSome}
use Rattle.ix_base.specs.declared.events.ChannelMeta.{ChannelMeta}
use Rattle.indexd_core.specs.Origins.{stated_of}
use Rattle.indexd_core.specs.Prepared.{IsNotFound}
use Rattle.indexd_core.proofs.prepare.prepare.Goals as goal

pub returns-in-Some : goal.returns-in-Some
returns-in-Some g c = record {
  index = tt;
  usable = tt;
  ok = tt;
  stopped =
      subst (λ (name : List ℕ). IsNotFound (stated_of c.args.origin) (g.T.Tree.files c.args.tree.now) name)
      (sym (c.in_ok-copy_of.ensures ∙ c.as_bytes.ensures.value)) (record {
        configuration = c.in_ok-configuration.configuration;
        files_are = c.in_ok-configuration.ensures.ok;
        named = c.in-Some.ensures.some.0;
        missing = c.in-Some.ensures.some.1;
      });
  same = c.read_configuration.ensures.same;
  later = c.read_configuration.ensures.later;
  later_missing = c.read_configuration.ensures.later_missing;
}

pub returns : goal.returns
returns g c = record {
  index = subst (λ (meta : ChannelMeta). IsSome meta.index) (sym c.in_ok-prepared.ensures.meta) refl;
  usable = c.in_ok-prepared.ensures.usable;
  ok = record {
    configuration = c.in_ok-configuration.configuration;
    files_are = c.in_ok-configuration.ensures.ok;
    limits_are = c.in_ok-prepared.ensures.limits;
    index_is = c.missing_index.ensures.none c.in_default.is;
    meta_is = c.in_ok-prepared.ensures.meta;
    settings_are = c.in_ok-prepared.ensures.settings;
  };
  stopped = tt;
  same = c.read_configuration.ensures.same;
  later = c.read_configuration.ensures.later;
  later_missing = c.read_configuration.ensures.later_missing;
}
