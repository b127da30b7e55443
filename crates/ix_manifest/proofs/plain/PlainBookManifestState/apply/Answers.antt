use Rattle.std.proofs.Common.{List, [], ◌∷◌, ap, ◌∙◌}
use Rattle.ix_items.specs.declared.items.Item.{Item}
use Rattle.ix_manifest.specs.Book.{empty, replay}
use Rattle.ix_manifest.proofs.Applying.{replay_behind}
use Rattle.ix_manifest.proofs.plain.PlainBookManifestState.apply.Goals as goal

pub returns : goal.returns
returns c = ap (λ (l : List Item). replay l empty) c.in_ok-push.ensures.ok ∙ replay_behind c.args.self.now.items (c.args.item ∷ []) empty
