-- The statuses of runs of connections.
use Rattle.std.proofs.Common.{◌≡◌, ◌∙◌, ℕ, inl, inr, refl, sym}
use Rattle.std.specs.Prelude.{List, Option}
use Rattle.ix_base.specs.Faults.{Rose}
use Rattle.ix_base.specs.declared.files.File.{File}
use Rattle.ix_net.specs.Listeners.{Handed}
use Rattle.indexd_serve.specs.declared.end.ServeEnd.{ServeEnd}
use Rattle.indexd_serve.specs.declared.end.ServeEnd.TheVariants as ends
use Rattle.ix_sessions.specs.Connections.{listened}
use Rattle.indexd_core.specs.Serves.{EndsServing}
use Rattle.indexd_core.specs.Sides.{Side}
use Rattle.indexd_core.specs.declared.status.Status.{Status}
use Rattle.indexd_core.specs.declared.status.Status.TheVariants as statuses

pub same_listened : (a a' : Option (List (Option (List ℕ)))) (b b' : Option (List Handed)) → a' ≡ a → b' ≡ b → listened a' b' ≡ listened a b
same_listened a a' b b' first second = λ i. record { waiting = first i; handed = second i }

module _ (ended : Status) (requests : ℕ) (output output' : Side) where
  pub output_served : (end : ServeEnd) → EndsServing ended requests end output output' → ended ≡ statuses.Output →
      Rose output.faults output'.faults
  output_served ends.Done (inl done) is = let e : statuses.Done ≡ statuses.Output = sym done.0 ∙ is in absurd (cc)
  output_served ends.Done (inr unsaid) is = unsaid.1
  output_served ends.Listener wrote is = let e : statuses.ListenerFault ≡ statuses.Output = sym wrote.0 ∙ is in absurd (cc)
  output_served ends.Memory wrote is = let e : statuses.Memory ≡ statuses.Output = sym wrote.0 ∙ is in absurd (cc)
  output_served ends.Disk wrote is = let e : statuses.DiskFault ≡ statuses.Output = sym wrote.0 ∙ is in absurd (cc)
  output_served (ends.Damaged file at) wrote is = let e : statuses.Damaged ≡ statuses.Output = sym wrote.0 ∙ is in absurd (cc)

  pub disk_served : (end : ServeEnd) → EndsServing ended requests end output output' → ended ≡ statuses.DiskFault → end ≡ ends.Disk
  disk_served ends.Done (inl done) is = let e : statuses.Done ≡ statuses.DiskFault = sym done.0 ∙ is in absurd (cc)
  disk_served ends.Done (inr unsaid) is = let e : statuses.Output ≡ statuses.DiskFault = sym unsaid.0 ∙ is in absurd (cc)
  disk_served ends.Listener wrote is = let e : statuses.ListenerFault ≡ statuses.DiskFault = sym wrote.0 ∙ is in absurd (cc)
  disk_served ends.Memory wrote is = let e : statuses.Memory ≡ statuses.DiskFault = sym wrote.0 ∙ is in absurd (cc)
  disk_served ends.Disk wrote is = refl
  disk_served (ends.Damaged file at) wrote is = let e : statuses.Damaged ≡ statuses.DiskFault = sym wrote.0 ∙ is in absurd (cc)

  pub listener_served : (end : ServeEnd) → EndsServing ended requests end output output' → ended ≡ statuses.ListenerFault →
      end ≡ ends.Listener
  listener_served ends.Done (inl done) is = let e : statuses.Done ≡ statuses.ListenerFault = sym done.0 ∙ is in absurd (cc)
  listener_served ends.Done (inr unsaid) is = let e : statuses.Output ≡ statuses.ListenerFault = sym unsaid.0 ∙ is in absurd (cc)
  listener_served ends.Listener wrote is = refl
  listener_served ends.Memory wrote is = let e : statuses.Memory ≡ statuses.ListenerFault = sym wrote.0 ∙ is in absurd (cc)
  listener_served ends.Disk wrote is = let e : statuses.DiskFault ≡ statuses.ListenerFault = sym wrote.0 ∙ is in absurd (cc)
  listener_served (ends.Damaged file at) wrote is = let e : statuses.Damaged ≡ statuses.ListenerFault = sym wrote.0 ∙ is in absurd (cc)

  pub damaged_served : (end : ServeEnd) (P : Type 0) → EndsServing ended requests end output output' → ended ≡ statuses.Damaged →
      ((file : File) (at : ℕ) → end ≡ ends.Damaged file at → P) → P
  damaged_served ends.Done P (inl done) is damaged = let e : statuses.Done ≡ statuses.Damaged = sym done.0 ∙ is in absurd (cc)
  damaged_served ends.Done P (inr unsaid) is damaged = let e : statuses.Output ≡ statuses.Damaged = sym unsaid.0 ∙ is in absurd (cc)
  damaged_served ends.Listener P wrote is damaged = let e : statuses.ListenerFault ≡ statuses.Damaged = sym wrote.0 ∙ is in absurd (cc)
  damaged_served ends.Memory P wrote is damaged = let e : statuses.Memory ≡ statuses.Damaged = sym wrote.0 ∙ is in absurd (cc)
  damaged_served ends.Disk P wrote is damaged = let e : statuses.DiskFault ≡ statuses.Damaged = sym wrote.0 ∙ is in absurd (cc)
  damaged_served (ends.Damaged file at) P wrote is damaged = damaged file at refl

  pub input_served : (end : ServeEnd) → EndsServing ended requests end output output' → ended ≡ statuses.Input → ⊥
  input_served ends.Done (inl done) is = let e : statuses.Done ≡ statuses.Input = sym done.0 ∙ is in cc
  input_served ends.Done (inr unsaid) is = let e : statuses.Output ≡ statuses.Input = sym unsaid.0 ∙ is in cc
  input_served ends.Listener wrote is = let e : statuses.ListenerFault ≡ statuses.Input = sym wrote.0 ∙ is in cc
  input_served ends.Memory wrote is = let e : statuses.Memory ≡ statuses.Input = sym wrote.0 ∙ is in cc
  input_served ends.Disk wrote is = let e : statuses.DiskFault ≡ statuses.Input = sym wrote.0 ∙ is in cc
  input_served (ends.Damaged file at) wrote is = let e : statuses.Damaged ≡ statuses.Input = sym wrote.0 ∙ is in cc

  pub usage_served : (end : ServeEnd) → EndsServing ended requests end output output' → ended ≡ statuses.Usage → ⊥
  usage_served ends.Done (inl done) is = let e : statuses.Done ≡ statuses.Usage = sym done.0 ∙ is in cc
  usage_served ends.Done (inr unsaid) is = let e : statuses.Output ≡ statuses.Usage = sym unsaid.0 ∙ is in cc
  usage_served ends.Listener wrote is = let e : statuses.ListenerFault ≡ statuses.Usage = sym wrote.0 ∙ is in cc
  usage_served ends.Memory wrote is = let e : statuses.Memory ≡ statuses.Usage = sym wrote.0 ∙ is in cc
  usage_served ends.Disk wrote is = let e : statuses.DiskFault ≡ statuses.Usage = sym wrote.0 ∙ is in cc
  usage_served (ends.Damaged file at) wrote is = let e : statuses.Damaged ≡ statuses.Usage = sym wrote.0 ∙ is in cc

  pub in_use_served : (end : ServeEnd) → EndsServing ended requests end output output' → ended ≡ statuses.InUse → ⊥
  in_use_served ends.Done (inl done) is = let e : statuses.Done ≡ statuses.InUse = sym done.0 ∙ is in cc
  in_use_served ends.Done (inr unsaid) is = let e : statuses.Output ≡ statuses.InUse = sym unsaid.0 ∙ is in cc
  in_use_served ends.Listener wrote is = let e : statuses.ListenerFault ≡ statuses.InUse = sym wrote.0 ∙ is in cc
  in_use_served ends.Memory wrote is = let e : statuses.Memory ≡ statuses.InUse = sym wrote.0 ∙ is in cc
  in_use_served ends.Disk wrote is = let e : statuses.DiskFault ≡ statuses.InUse = sym wrote.0 ∙ is in cc
  in_use_served (ends.Damaged file at) wrote is = let e : statuses.Damaged ≡ statuses.InUse = sym wrote.0 ∙ is in cc
