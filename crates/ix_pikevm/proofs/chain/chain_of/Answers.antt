use Rattle.std.proofs.Common.{[], ◌∷◌, ◌++◌, max, refl, sym, ◌∙◌, ap, subst, arith}
use Rattle.ix_pattern.specs.Rows.{piece_at}
use Rattle.ix_pikevm.specs.Chains.{join, IsChain}
use Rattle.ix_pikevm.proofs.ChainLemmas.{chain-more}
use Rattle.ix_pikevm.proofs.chain.chain_of.Goals as goal

pub loop-part-init : goal.loop-part-init
loop-part-init c =
    record {
      chain = subst (λ l. IsChain c.args.p.now.rows c.args.sequence (max c.args.first c.args.rest) l c.args.rest
          (join c.args.sequence (piece_at c.args.p.now.rows c.args.first) (piece_at c.args.p.now.rows c.args.rest)))
          (sym (c.in_ok-push.ensures.items ∙ ap (λ l. l ++ c.args.first ∷ []) c.requires.empty))
          (record { is = refl; fits = (omega arith, c.requires.first.1, tt); below = omega arith; sound = c.requires.rest.1 });
      below = c.requires.rest.0;
    }

pub loop-part-preserved : goal.loop-part-preserved
loop-part-preserved c =
    let low = c.in-Some.ensures.below in
    record {
      chain = chain-more c.args.p.now.rows c.args.sequence (max c.args.first c.args.rest) c.loop-part.parts.items
          c.push-in-Some.new.self.items c.loop-part.last c.in-Some.part c.in-Some.more _
          c.in_ok-push-2.ensures.items c.in-Some.ensures.is low.0 low.1 c.loop-part.invariant.chain;
      below = omega (arith, low.1, c.loop-part.invariant.below);
    }
