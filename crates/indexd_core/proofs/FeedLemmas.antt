-- How a run of requests is told, and what requests may bring.
use Rattle.std.proofs.Common.{◌≡◌, ◌≤◌, ◌∙◌, ℕ, ℤ, Bool, true, false, List, length, refl, sym, ap, subst, arith}
use Rattle.std.specs.Prelude.{Option, Some, None, IfSome, nat_le, ◌&&◌}
use Rattle.std.proofs.lemmas.Bool.Decides.{nat_tests}
use Rattle.ix_base.specs.declared.events.ChannelMeta.{ChannelMeta}
use Rattle.ix_base.specs.declared.files.File.{File}
use Rattle.ix_http.specs.Limits.{IsBrief, IsBriefMeta}
use Rattle.ix_http.specs.Routes.{is_channel_name}
use Rattle.ix_state.specs.Taken.{IsTaken, IsStated}
use Rattle.ix_serve.specs.Taking.{TakesAsks}
use Rattle.indexd_serve.specs.declared.end.End.{End}
use Rattle.indexd_serve.specs.declared.end.End.TheVariants as ends
use Rattle.indexd_core.specs.Feeds.{end_status}
use Rattle.indexd_core.specs.declared.status.Status.{Status}
use Rattle.indexd_core.specs.declared.status.Status.TheVariants as statuses
use Rattle.indexd_core.proofs.StoredLemmas.{apart}

-- ---- what requests ask for is taken by the memory of the store

both : (a b : Bool) → (a && b) ≡ true → (a ≡ true) × (b ≡ true)
both true b is = (refl, is)
both false b is = cc

name_fits : (channel : List ℕ) → is_channel_name channel ≡ true → length channel ≤ 4097
name_fits channel named = let short : nat_le (length channel) 64 ≡ true = (both _ _ (both (nat_le 1 (length channel)) _ named).1).0 in
    grind (arith, nat_tests)

-- a text that may be stated, and has its limit
brief_text : (text : Option (List ℕ)) → IfSome text IsBrief → IfSome text (λ (name : List ℕ). length name ≤ 1024)
brief_text None brief = tt
brief_text (Some text) brief = brief.1

brief_stated : (meta : ChannelMeta) → IsBriefMeta meta → IsStated meta
brief_stated meta brief = record {
  host = brief.host.1;
  source = omega (arith, brief.source.1);
  sourcetype = brief_text meta.sourcetype brief.sourcetype;
  index = brief_text meta.index brief.index;
}

pub asks_taken : TakesAsks IsTaken
asks_taken = record {
  begins = λ channel meta moment named brief. (name_fits channel named, brief_stated meta brief);
  blocks = λ channel bytes moment named within. (name_fits channel named, within, tt);
  ends = λ channel moment named. name_fits channel named;
}

-- ---- statuses of ends

of_disk : (end : End) → statuses.DiskFault ≡ end_status end → end ≡ ends.Disk
of_disk ends.Ended is = absurd (apart statuses.DiskFault statuses.Done refl is)
of_disk (ends.Unreadable request) is = absurd (apart statuses.DiskFault statuses.Unreadable refl is)
of_disk ends.Memory is = absurd (apart statuses.DiskFault statuses.Memory refl is)
of_disk ends.Endless is = absurd (apart statuses.DiskFault statuses.Endless refl is)
of_disk ends.Disk is = refl
of_disk (ends.Damaged file at) is = absurd (apart statuses.DiskFault statuses.Damaged refl is)
of_disk ends.Input is = absurd (apart statuses.DiskFault statuses.Input refl is)
of_disk ends.Output is = absurd (apart statuses.DiskFault statuses.Output refl is)

pub disk_end : (ended : Status) (end : End) → ended ≡ end_status end → ended ≡ statuses.DiskFault → end ≡ ends.Disk
disk_end ended end is at = of_disk end (sym at ∙ is)

of_input : (end : End) → statuses.Input ≡ end_status end → end ≡ ends.Input
of_input ends.Ended is = absurd (apart statuses.Input statuses.Done refl is)
of_input (ends.Unreadable request) is = absurd (apart statuses.Input statuses.Unreadable refl is)
of_input ends.Memory is = absurd (apart statuses.Input statuses.Memory refl is)
of_input ends.Endless is = absurd (apart statuses.Input statuses.Endless refl is)
of_input ends.Disk is = absurd (apart statuses.Input statuses.DiskFault refl is)
of_input (ends.Damaged file at) is = absurd (apart statuses.Input statuses.Damaged refl is)
of_input ends.Input is = refl
of_input ends.Output is = absurd (apart statuses.Input statuses.Output refl is)

pub input_end : (ended : Status) (end : End) → ended ≡ end_status end → ended ≡ statuses.Input → end ≡ ends.Input
input_end ended end is at = of_input end (sym at ∙ is)

of_output : (end : End) → statuses.Output ≡ end_status end → end ≡ ends.Output
of_output ends.Ended is = absurd (apart statuses.Output statuses.Done refl is)
of_output (ends.Unreadable request) is = absurd (apart statuses.Output statuses.Unreadable refl is)
of_output ends.Memory is = absurd (apart statuses.Output statuses.Memory refl is)
of_output ends.Endless is = absurd (apart statuses.Output statuses.Endless refl is)
of_output ends.Disk is = absurd (apart statuses.Output statuses.DiskFault refl is)
of_output (ends.Damaged file at) is = absurd (apart statuses.Output statuses.Damaged refl is)
of_output ends.Input is = absurd (apart statuses.Output statuses.Input refl is)
of_output ends.Output is = refl

pub output_end : (ended : Status) (end : End) → ended ≡ end_status end → ended ≡ statuses.Output → end ≡ ends.Output
output_end ended end is at = of_output end (sym at ∙ is)

-- a file is blamed
of_damaged : (end : End) (P : Type 0) → statuses.Damaged ≡ end_status end → ((file : File) (at : ℕ) → end ≡ ends.Damaged file at → P) → P
of_damaged ends.Ended P is damaged = absurd (apart statuses.Damaged statuses.Done refl is)
of_damaged (ends.Unreadable request) P is damaged = absurd (apart statuses.Damaged statuses.Unreadable refl is)
of_damaged ends.Memory P is damaged = absurd (apart statuses.Damaged statuses.Memory refl is)
of_damaged ends.Endless P is damaged = absurd (apart statuses.Damaged statuses.Endless refl is)
of_damaged ends.Disk P is damaged = absurd (apart statuses.Damaged statuses.DiskFault refl is)
of_damaged (ends.Damaged file at) P is damaged = damaged file at refl
of_damaged ends.Input P is damaged = absurd (apart statuses.Damaged statuses.Input refl is)
of_damaged ends.Output P is damaged = absurd (apart statuses.Damaged statuses.Output refl is)

pub damaged_end : (ended : Status) (end : End) (P : Type 0) → ended ≡ end_status end → ended ≡ statuses.Damaged →
    ((file : File) (at : ℕ) → end ≡ ends.Damaged file at → P) → P
damaged_end ended end P is at damaged = of_damaged end P (sym at ∙ is) damaged

of_usage : (end : End) → statuses.Usage ≡ end_status end → ⊥
of_usage ends.Ended is = apart statuses.Usage statuses.Done refl is
of_usage (ends.Unreadable request) is = apart statuses.Usage statuses.Unreadable refl is
of_usage ends.Memory is = apart statuses.Usage statuses.Memory refl is
of_usage ends.Endless is = apart statuses.Usage statuses.Endless refl is
of_usage ends.Disk is = apart statuses.Usage statuses.DiskFault refl is
of_usage (ends.Damaged file at) is = apart statuses.Usage statuses.Damaged refl is
of_usage ends.Input is = apart statuses.Usage statuses.Input refl is
of_usage ends.Output is = apart statuses.Usage statuses.Output refl is

pub usage_end : (ended : Status) (end : End) → ended ≡ end_status end → ended ≡ statuses.Usage → ⊥
usage_end ended end is at = of_usage end (sym at ∙ is)

of_listener : (end : End) → statuses.ListenerFault ≡ end_status end → ⊥
of_listener ends.Ended is = apart statuses.ListenerFault statuses.Done refl is
of_listener (ends.Unreadable request) is = apart statuses.ListenerFault statuses.Unreadable refl is
of_listener ends.Memory is = apart statuses.ListenerFault statuses.Memory refl is
of_listener ends.Endless is = apart statuses.ListenerFault statuses.Endless refl is
of_listener ends.Disk is = apart statuses.ListenerFault statuses.DiskFault refl is
of_listener (ends.Damaged file at) is = apart statuses.ListenerFault statuses.Damaged refl is
of_listener ends.Input is = apart statuses.ListenerFault statuses.Input refl is
of_listener ends.Output is = apart statuses.ListenerFault statuses.Output refl is

pub listener_end : (ended : Status) (end : End) → ended ≡ end_status end → ended ≡ statuses.ListenerFault → ⊥
listener_end ended end is at = of_listener end (sym at ∙ is)

of_in_use : (end : End) → statuses.InUse ≡ end_status end → ⊥
of_in_use ends.Ended is = apart statuses.InUse statuses.Done refl is
of_in_use (ends.Unreadable request) is = apart statuses.InUse statuses.Unreadable refl is
of_in_use ends.Memory is = apart statuses.InUse statuses.Memory refl is
of_in_use ends.Endless is = apart statuses.InUse statuses.Endless refl is
of_in_use ends.Disk is = apart statuses.InUse statuses.DiskFault refl is
of_in_use (ends.Damaged file at) is = apart statuses.InUse statuses.Damaged refl is
of_in_use ends.Input is = apart statuses.InUse statuses.Input refl is
of_in_use ends.Output is = apart statuses.InUse statuses.Output refl is

pub in_use_end : (ended : Status) (end : End) → ended ≡ end_status end → ended ≡ statuses.InUse → ⊥
in_use_end ended end is at = of_in_use end (sym at ∙ is)
