-- Indexes and source types that settings in force name have names of at most 1,024 bytes.
use Rattle.std.proofs.Common.{◌≡◌, ℕ, List, ap, subst}
use Rattle.std.specs.Prelude.{None, Some, IfSome}
use Rattle.ix_base.specs.declared.events.ChannelMeta.{ChannelMeta}
use Rattle.ix_items.specs.declared.items.Kept.{Kept}
use Rattle.ix_state.proofs.Brief as kept
use Rattle.ix_state.proofs.Brief.{IsBrief, AreBrief}
use Rattle.ix_state.specs.Configs.{IsChooser}
use Rattle.ix_life.specs.Limits.{first_fault}
use Rattle.ix_model.specs.Given.{Chooser, entries, default_index, home}
use Rattle.ix_props.specs.Same.{AreSame}
use Rattle.ix_props.specs.declared.settings.Settings.{Settings}
use Rattle.ix_state.proofs.Chosen.{settings_exist}
use Rattle.ix_state.proofs.Loaded.{AreLoaded}

module _ (force : List Kept) (h : AreLoaded force) where
  stanzas : AreBrief force
  stanzas = subst AreBrief h.same h.is.stanzas

  no_fault : first_fault (entries force) ≡ None
  no_fault = subst (λ (l : List Kept). first_fault (entries l) ≡ None) h.same h.is.limits.sound

  pub default_brief : IsBrief (default_index force)
  default_brief = kept.default_brief force stanzas no_fault

  pub home_brief : (index name : List ℕ) → home force index ≡ Some name → IsBrief name
  home_brief = kept.home_brief force stanzas no_fault

-- whoever chooses settings chooses a brief source type
pub source_type_brief : (choose : Chooser) (force : List Kept) (meta : ChannelMeta) → IsChooser choose → AreLoaded force →
    IfSome meta.sourcetype IsBrief →
    IsBrief (choose force meta).sourcetype
source_type_brief choose force meta chooser h b =
    let found = settings_exist h.config.props meta in
    let same : AreSame found.0 (choose h.config.kept meta) = chooser h.config h.is meta found.0 found.1 in
    let brief : IsBrief found.0.sourcetype =
    kept.source_type_brief h.config.kept h.config.props meta.sourcetype meta.source found.0.sourcetype h.is.props b found.1.sourcetype in
    subst (λ (l : List Kept). IsBrief (choose l meta).sourcetype) h.same
    (subst IsBrief (ap (λ (s : Settings). s.sourcetype) same.others) brief)
