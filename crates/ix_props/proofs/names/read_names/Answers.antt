use Rattle.std.proofs.Common.{sym, ap, ◌∙◌, ◌++◌}
use Rattle.ix_props.specs.Names.{names_in, name_in, trimmed}
use Rattle.ix_props.proofs.NameLemmas.{ends_piece, goes_on, closes}
use Rattle.ix_props.proofs.names.read_names.Goals as goal
use Rattle.ix_props.proofs.names.read_names.Goals.{then-byte-eq44+in_ok-add_name, else-byte-eq44+in_ok-push}

pub loop-byte-preserved : goal.loop-byte-preserved
loop-byte-preserved c =
    elim c.if-byte-eq44.branch [
      | then-byte-eq44+in_ok-add_name w ↦
          rw (w.found-is, w.in_ok-add_name.ensures, w.as_slice.ensures, w.piece-is, w.clear.ensures)
          (sym (ends_piece c.loop-byte.found c.args.text.now c.loop-byte.piece c.loop-byte.byte-index c.loop-byte-test.true
          w.if-byte-eq44.true)
          ∙ c.loop-byte.invariant)
      | else-byte-eq44+in_ok-push w ↦
          rw (w.found-is, w.piece-is, w.in_ok-push.ensures.ok)
          (sym (ap (λ pieces. c.loop-byte.found ++ names_in pieces)
          (goes_on c.args.text.now c.loop-byte.piece c.loop-byte.byte-index c.loop-byte-test.true w.if-byte-eq44.false))
          ∙ c.loop-byte.invariant)
    ]

pub returns : goal.returns
returns c =
    c.in_ok-add_name-2.ensures
    ∙ ap (λ piece. c.loop-byte.found ++ name_in (trimmed piece)) c.as_slice-2.ensures
    ∙ ap (λ last. c.loop-byte.found ++ last) (sym (closes c.args.text.now c.loop-byte.piece c.loop-byte.byte-index c.loop-byte-test.false))
    ∙ c.loop-byte.invariant
