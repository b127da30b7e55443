use Rattle.std.proofs.Common.{◌≡◌, ℕ, ◌+◌, ◌<◌, Bool, List, [], ◌∷◌, false, length, length-append, sym, ap, subst, arith}
use Rattle.std.specs.Prelude.{slice_get, unwrap_or}
use Rattle.ix_pattern.specs.Rows.{piece_at}
use Rattle.ix_match.specs.Starts.{may_begin}
use Rattle.ix_match.proofs.StartLemmas.{known-more}
use Rattle.ix_match.proofs.starts.begins.Goals as goal

pub piece_begins-b-requires-clause-known : goal.piece_begins-b-requires-clause-known
piece_begins-b-requires-clause-known g c =
    subst (λ (below : List Bool). (k : ℕ) → k < c.loop-piece.piece →
    unwrap_or (slice_get below k) false ≡ may_begin (piece_at c.args.p.now.rows k) c.args.byte)
    (sym c.deref.ensures.value) c.loop-piece.invariant.known

pub loop-piece-preserved : goal.loop-piece-preserved
loop-piece-preserved g c =
    let inv = c.loop-piece.invariant in
    let b = c.piece_begins-b.result in
    record {
      below = omega (arith, ap length c.in_ok-push.ensures.items, length-append c.loop-piece.below.items (b ∷ []), inv.below);
      known = subst (λ (below : List Bool). (k : ℕ) → k < c.loop-piece.piece + 1 →
          unwrap_or (slice_get below k) false ≡ may_begin (piece_at c.args.p.now.rows k) c.args.byte)
          (sym c.in_ok-push.ensures.items)
          (known-more c.loop-piece.below.items b (λ k. may_begin (piece_at c.args.p.now.rows k) c.args.byte) c.loop-piece.piece inv.below
          inv.known c.piece_begins-b.ensures);
    }
