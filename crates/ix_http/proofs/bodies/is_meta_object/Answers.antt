use Rattle.std.proofs.Common.{◌∙◌, sym}
use Rattle.ix_http.specs.Bodies.{is_meta_name}
use Rattle.ix_http.proofs.NameLemmas.{names_pass-keys, object_is}
use Rattle.ix_http.proofs.bodies.is_meta_object.Goals as goal

pub returns-in-Some : goal.returns-in-Some
returns-in-Some c =
    c.has_meta_names.ensures ∙ sym (names_pass-keys is_meta_name c.in-Some.map.now.entries)
    ∙ sym (object_is is_meta_name _ _ c.in-Some.ensures)
