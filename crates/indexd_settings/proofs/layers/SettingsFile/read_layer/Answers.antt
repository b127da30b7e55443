use Rattle.std.proofs.Common.{rules}
use Rattle.indexd_settings.proofs.LayerLemmas.{layer_reads, layer_of_text}
use Rattle.indexd_settings.proofs.layers.SettingsFile.read_layer.Goals as goal

pub returns-clause-reads : goal.returns-clause-reads
returns-clause-reads g c =
    layer_reads c.layer_of.result (g.T.Tree.faults c.args.tree.now) (g.T.Tree.faults c.read_text.new.tree) (g.T.Tree.files c.args.tree.now)
    c.args.self c.args.name.now c.in_ok-path.path c.in_ok-text.text c.entries_of.result (search rules) (search rules)
    c.entries_of.ensures.gives
    c.layer_of.ensures.ok c.layer_of.ensures.err c.layer_of.ensures.no_tree

pub returns-clause-text : goal.returns-clause-text
returns-clause-text g c = layer_of_text c.layer_of.result c.entries_of.result c.layer_of.ensures.file c.entries_of.ensures.text
