use Rattle.std.proofs.Common.{None, arith, sym, ◌∙◌, ap, subst, nat_lt}
use Rattle.ix_pattern.specs.Piece.{least_length, IsSound}
use Rattle.ix_pattern.specs.Rows.{AllInside, rows_of}
use Rattle.ix_pattern.proofs.ReadsLemmas.{syntax-sound}
use Rattle.ix_pattern.proofs.ParseLemmas.{pattern-is, weight-small, groups-few}
use Rattle.ix_pattern.proofs.read.finish.Goals as goal

pub returns-then-is_too_large-clause-too_large : goal.returns-then-is_too_large-clause-too_large
returns-then-is_too_large-clause-too_large c =
    λ e s m.
    let p = (c.in_ok-part.ensures.meaning 0 s None m.frame).added in
    sym (c.is_too_large.ensures s m.frame.deep m.frame.high (c.groups-groups.ensures ∙ m.counted) p.measured) ∙ c.if-is_too_large.true

pub returns-then-part-clause-empty_repeat : goal.returns-then-part-clause-empty_repeat
returns-then-part-clause-empty_repeat c =
    λ e s m.
    let p = (c.in_ok-part.ensures.meaning 0 s None m.frame).added in (
      sym (c.is_too_large.ensures s m.frame.deep m.frame.high (c.groups-groups.ensures ∙ m.counted) p.measured) ∙ c.if-is_too_large.false,
      sym p.empty ∙ c.if-part.true,
    )

pub from_rows-requires-clause-pattern : goal.from_rows-requires-clause-pattern
from_rows-requires-clause-pattern c =
    let m = c.requires.1 in
    let p = (c.in_ok-part.ensures.meaning 0 c.requires.0 None m.frame).added in
    let small = sym (c.is_too_large.ensures c.requires.0 m.frame.deep m.frame.high (c.groups-groups.ensures ∙ m.counted) p.measured)
    ∙ c.if-is_too_large.false in
    let least = weight-small c.requires.0 small in
    record {
      rooted = c.into_rows-rows.ensures.rooted;
      inside = subst (λ g. AllInside g 0 (rows_of c.into_rows-rows.result.items)) (c.in_ok-part.ensures.kept.0.groups
          ∙ sym c.groups-groups.ensures)
          c.into_rows-rows.ensures.inside;
      sound = subst IsSound (sym (c.into_rows-rows.ensures.tree ∙ p.is))
          (syntax-sound c.requires.0 0 m.allowed (sym p.empty ∙ c.if-part.false));
      few_groups = omega (arith, c.groups-groups.ensures, m.counted, groups-few c.requires.0 small);
      light = omega (arith, p.measured, least);
      few_bytes = omega (arith, p.measured, least, c.into_rows-rows.ensures.bytes, c.in_ok-part.ensures.kept.0.bytes, m.bytes);
    }

pub from_rows-requires-clause-takes : goal.from_rows-requires-clause-takes
from_rows-requires-clause-takes c =
    let p = (c.in_ok-part.ensures.meaning 0 c.requires.0 None c.requires.1.frame).added in
    p.takes ∙ ap (λ t. nat_lt 0 (least_length t)) (sym (c.into_rows-rows.ensures.tree ∙ p.is))

pub returns-clause-found : goal.returns-clause-found
returns-clause-found c =
    λ s m.
    let p = (c.in_ok-part.ensures.meaning 0 s None m.frame).added in
    let small = sym (c.is_too_large.ensures s m.frame.deep m.frame.high (c.groups-groups.ensures ∙ m.counted) p.measured)
    ∙ c.if-is_too_large.false in (
      small,
      sym p.empty ∙ c.if-part.false,
      pattern-is _ _ s c.from_rows.ensures (c.into_rows-rows.ensures.tree ∙ p.is) (c.groups-groups.ensures ∙ m.counted) p.measured small,
    )
