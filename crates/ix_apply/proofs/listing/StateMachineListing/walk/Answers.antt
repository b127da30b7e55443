use Rattle.std.proofs.Common.{◌≡◌, List, ◌<◌, ◌-◌, ◌^◌, length, sym, subst, ap, ◌∙◌}
use Rattle.std.specs.Prelude.{IsErrOf, Err}
use Rattle.ix_manifest.specs.Book.{empty, replay}
use Rattle.ix_items.specs.Spelling.{body_bytes}
use Rattle.ix_items.specs.declared.items.Item.{Item}
use Rattle.ix_apply.proofs.listing.StateMachineListing.walk.Goals as goal

same_fault : {T E : Type 0} {a b : E} → IsErrOf {T = T} {E = E} (Err a) b → a ≡ b
same_fault e = cc

pub returns-in-Ok-clause-listed : goal.returns-in-Ok-clause-listed
returns-in-Ok-clause-listed c = λ choose history chooser given h.
    ap (λ (l : List Item). replay l empty) c.over.ensures ∙ c.in-Ok.ensures.leads choose history h.state h.first

pub returns-in-Ok-clause-short : goal.returns-in-Ok-clause-short
returns-in-Ok-clause-short c = subst (λ (l : List Item). length (body_bytes l) < 2 ^ 32 - 64) (sym c.over.ensures) c.in-Ok.ensures.short

pub returns-in-Err-clause-sound : goal.returns-in-Err-clause-sound
returns-in-Err-clause-sound c = λ is choose history chooser given h.
    c.in-Err.ensures.sound (ap (λ f. Err f) (same_fault is)) choose history h.state h.first
