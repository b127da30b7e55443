use Rattle.std.proofs.Common.{◌∙◌, sym}
use Rattle.ix_http.specs.Bodies.{is_acks_name}
use Rattle.ix_http.proofs.NameLemmas.{names_pass-keys, object_is}
use Rattle.ix_http.proofs.bodies.is_acks_object.Goals as goal

pub returns-in-Some : goal.returns-in-Some
returns-in-Some c =
    c.has_acks_names.ensures ∙ sym (names_pass-keys is_acks_name c.in-Some.map.now.entries)
    ∙ sym (object_is is_acks_name _ _ c.in-Some.ensures)
