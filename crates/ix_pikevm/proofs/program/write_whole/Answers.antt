use Rattle.std.proofs.Common.{◌≡◌, ◌-◌, [], ◌∷◌, ◌++◌, length, ◌∙◌, ap, subst, arith}
use Rattle.ix_pattern.specs.Rows.{piece_at}
use Rattle.ix_pikevm.specs.declared.code.Instr.TheVariants.{Match}
use Rattle.ix_pikevm.specs.Programs.{IsProgram}
use Rattle.ix_pikevm.proofs.ProgramLemmas.{program-made}
use Rattle.ix_pikevm.proofs.program.write_whole.Goals as goal

pub returns : goal.returns
returns c =
    let e : c.root.result ≡ length c.args.p.now.rows - 1 = omega (arith, c.root.ensures.last) in
    subst (λ k. IsProgram c.args.p.now.rows (piece_at c.args.p.now.rows k) c.write_piece.new.code.items c.in_ok-start.start) e
    (program-made c.args.p.now.rows (piece_at c.args.p.now.rows c.root.result) c.push.new.self.items c.write_piece.new.code.items
    c.in_ok-start.start
    (c.in_ok-push.ensures.items ∙ ap (λ l. l ++ Match ∷ []) c.requires) c.in_ok-start.ensures.within c.in_ok-start.ensures.writes)
