use Rattle.std.proofs.Common.{◌≡◌, ◌+◌, ◌∙◌, ◌++◌, ◌∷◌, [], List, Bool, true, length, ap, refl, arith}
use Rattle.ix_conf.specs.Walk.{is_end, never}
use Rattle.ix_conf.proofs.MarkLemmas.{marks_end, marks_never, marks_same}
use Rattle.ix_conf.proofs.names.end_level.Goals as goal

pub returns : goal.returns
returns c =
    let name = c.args.name.now in
    let leads = c.in_ok-push.ensures.items ∙ ap (λ (l : List Bool). l ++ true ∷ []) c.in_ok-leads.ensures in
    let end = marks_end name (length name) refl in
    let size = ap length leads ∙ end.long in
    let len : c.len.result ≡ length name + 1 = omega (arith, size, c.len.ensures, c.push.new.self.ok.0) in
    record {
      leads = marks_same name is_end _ _ leads end;
      others = marks_same name never _ _ c.in_ok-others.ensures (marks_never name c.len.result len);
    }
