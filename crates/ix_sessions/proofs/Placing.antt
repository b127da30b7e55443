-- Where the damage is that ends a run, whatever the disk holds.
use Rattle.std.proofs.Common.{◌≡◌, ◌∙◌, true, ap, sym}
use Rattle.std.proofs.lemmas.Bool.{false≢true}
use Rattle.ix_commit.specs.declared.fault.CommitFault.{CommitFault}
use Rattle.ix_sessions.specs.Connections as connections
use Rattle.ix_sessions.specs.Feeding as feeding
use Rattle.ix_sessions.specs.declared.feed.Fed.{Fed}
use Rattle.ix_sessions.specs.declared.feed.Fed.TheVariants as fed
use Rattle.ix_sessions.specs.declared.serve.Heard.{Heard}
use Rattle.ix_sessions.specs.declared.serve.Heard.TheVariants as heard

pub broken_fed : (a b : CommitFault) → fed.Broken a ≡ fed.Broken b → a ≡ b
broken_fed a b is = cc

pub endless_sound : {cause : CommitFault} → fed.Endless ≡ fed.Broken cause → ⊥
endless_sound is = cc

pub open_fed : (end : Fed) (cause : CommitFault) → feeding.is_open_end end ≡ true → end ≡ fed.Broken cause → ⊥
open_fed end cause up is = false≢true (sym (ap feeding.is_open_end is) ∙ up)

pub broken_heard : (a b : CommitFault) → heard.Broken a ≡ heard.Broken b → a ≡ b
broken_heard a b is = cc

pub done_sound : {cause : CommitFault} → heard.Done ≡ heard.Broken cause → ⊥
done_sound is = cc

pub deaf_sound : {cause : CommitFault} → heard.Listener ≡ heard.Broken cause → ⊥
deaf_sound is = cc

pub open_heard : (end : Heard) (cause : CommitFault) → connections.is_open_end end ≡ true → end ≡ heard.Broken cause → ⊥
open_heard end cause up is = false≢true (sym (ap connections.is_open_end is) ∙ up)
