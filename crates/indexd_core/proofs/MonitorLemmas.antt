-- A store takes the commands of the files that inputs have watched.
use Rattle.std.proofs.Common.{◌≡◌, ◌≤◌, ◌⊎◌, ◌∙◌, ℕ, ℤ, Bool, true, false, List, ◌∷◌, length, refl, sym, ap, subst, arith, le_trans, inl, inr}
use Rattle.std.proofs.lemmas.List.Elements.{All-contains, All-from_recursion}
use Rattle.std.specs.Prelude.{Option, Some, None, IfSome, Contains, is_some, unwrap_or, if◌then◌else◌}
use Rattle.std.specs.List.{AllByRecursion}
use Rattle.ix_base.specs.declared.events.ChannelMeta.{ChannelMeta}
use Rattle.ix_disk.specs.declared.disk.Disk.{Ghosts}
use Rattle.ix_life.specs.Limits.{limits_of}
use Rattle.ix_life.specs.declared.limits.Limits.{Limits}
use Rattle.ix_life.specs.declared.sets.LimitSet.{LimitSet}
use Rattle.ix_monitor.specs.Inputs.{IsStated as InputIsStated}
use Rattle.ix_monitor.specs.declared.faults.InputFault.{InputFault}
use Rattle.ix_monitor.specs.declared.inputs.Input.{Input}
use Rattle.ix_monitor.specs.declared.watched.Watched.{Watched}
use Rattle.ix_files.specs.Sought.{watched, IsFileOf}
use Rattle.ix_items.specs.declared.items.Kept.{Kept}
use Rattle.ix_model.specs.Given.{is_configured}
use Rattle.ix_model.specs.Shelved.{IsSet}
use Rattle.ix_model.specs.declared.commands.Config.{Config}
use Rattle.ix_pass.specs.Passing.{MayVisit}
use Rattle.ix_state.specs.Configs.{IsConfig}
use Rattle.ix_state.specs.Taken.{IsStated, IsTaken}
use Rattle.indexd_settings.specs.Inputs.{HasInputFault, input_line}
use Rattle.indexd_core.proofs.LockedLemmas.{left_alone}
use Rattle.indexd_core.proofs.MissedLemmas.{configured_brief}
use Rattle.indexd_core.specs.Around.{Around}
use Rattle.indexd_core.specs.Locked.{EndsUsed}
use Rattle.indexd_core.specs.Monitors.{Monitors}
use Rattle.indexd_core.specs.Sides.{Side}
use Rattle.indexd_core.specs.Stored.{unread}
use Rattle.indexd_core.specs.Texts.{Said, status_text}
use Rattle.indexd_core.specs.declared.status.Status.{Status}
use Rattle.indexd_core.specs.declared.status.Status.TheVariants as statuses

-- ---- what an input states

short_source : (source : Option (List ℕ)) (path : List ℕ) → IfSome source (λ (name : List ℕ). length name ≤ 1024) → length path ≤ 4096 →
    length (unwrap_or source path) ≤ 4096
short_source None path own short = short
short_source (Some name) path own short = le_trans own (let less : 1024 ≤ 4096 = omega arith in less)

there : (b : Bool) (found : Limits) → is_some (if b then Some found else None) ≡ true → b ≡ true
there true found is = refl
there false found is = cc

short_index : (force : List Kept) (set : LimitSet) (index : Option (List ℕ)) →
    AllByRecursion (λ (kept : Kept). length kept.stanza ≤ 1024) force → IsSet force set →
    IfSome index (λ (name : List ℕ). is_some (limits_of set name) ≡ true) → IfSome index (λ (name : List ℕ). length name ≤ 1024)
short_index force set None brief is configured = tt
short_index force set (Some name) brief is configured =
    configured_brief force name brief
    (there (is_configured force name) _ (sym (ap is_some (is.limits.limits name)) ∙ configured))

stated : (config : Config) → IsConfig config → (input : Input) → InputIsStated config.limits input → (path : List ℕ) → length path ≤ 4096 →
    IsStated (watched input path).meta
stated config is input said path short = record {
  host = said.host;
  source = short_source input.source path said.source short;
  sourcetype = said.sourcetype;
  index = short_index config.kept config.limits input.index is.stanzas is.limits said.index;
}

-- ---- what may be given for a file

named : (path : List ℕ) → length path ≤ 4096 → length (126 ∷ path) ≤ 4097
named path short = omega (arith, short)

pub watched_taken : (config : Config) (inputs : List Input) → IsConfig config → AllByRecursion (InputIsStated config.limits) inputs →
    (file : Watched) → IsFileOf inputs file → MayVisit IsTaken file
watched_taken config inputs is said file of =
    let input = All-contains (InputIsStated config.limits) inputs of.input
    (All-from_recursion (InputIsStated config.limits) inputs said) of.among in
    let meta : IsStated file.meta = subst (λ (f : Watched). IsStated f.meta) (sym of.has.is)
    (stated config is of.input input file.path of.has.short) in
    record {
      begins = λ moment. (named file.path of.has.short, meta);
      ends = λ moment. named file.path of.has.short;
      adds = λ moment head at bytes short_head short. (
        named file.path of.has.short,
        short,
        record { path = of.has.short; head = short_head },
      );
    }

-- ---- the line of a fault of inputs.conf

-- which was written, or there was no room for it
abbrev pub SaysFault : InputFault → Status → Side → Side → Type 0
SaysFault fault status output output' =
    ((status ≡ statuses.Configuration) × Said (input_line fault) output output')
    ⊎ ((status ≡ statuses.Memory) × Said (status_text statuses.Memory) output output')

pub fault_apart : (fault : InputFault) (ended at : Status) (output output' : Side) → (statuses.Configuration ≡ at → ⊥) →
    (statuses.Memory ≡ at → ⊥) → SaysFault fault ended output output' → ended ≡ at → ⊥
fault_apart fault ended at output output' not also (inl said) is = not (sym said.0 ∙ is)
fault_apart fault ended at output output' not also (inr said) is = also (sym said.0 ∙ is)

pub fault_ends : {D : Type 0} (d : Ghosts D) (disk : D) (fault : InputFault) (ended : Status) (output output' : Side) →
    SaysFault fault ended output output' → EndsUsed ended d disk disk
fault_ends d disk fault ended output output' (inl said) =
    subst (λ (s : Status). EndsUsed s d disk disk) (sym said.0) (record { status_is = inr refl; alone = left_alone d disk })
fault_ends d disk fault ended output output' (inr said) =
    subst (λ (s : Status). EndsUsed s d disk disk) (sym said.0) (record { status_is = inr refl; alone = left_alone d disk })

-- the run is misjudged, or there was no room for the line
pub misjudged_or : {D : Type 0} (d : Ghosts D) (close : Bool) (from to : Around D) (fault : InputFault) (ended : Status) →
    to.ahead ≡ from.ahead → to.disk ≡ from.disk → HasInputFault from.files fault → SaysFault fault ended from.output to.output →
    Monitors ended close d from to
misjudged_or d close from to fault ended not_asked alone first (inl said) = inl (record {
  status_is = said.0;
  fault = fault;
  first = first;
  line = said.1;
  not_asked = not_asked;
  alone = alone;
})
misjudged_or d close from to fault ended not_asked alone first (inr said) =
    subst (λ (s : Status). Monitors s close d from to) (sym said.0) (inr (unread (not_asked, alone) said.1))
