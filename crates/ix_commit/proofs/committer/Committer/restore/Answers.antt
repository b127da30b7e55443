use Rattle.std.proofs.Common.{◌≤◌, List, ℕ, length, take, ap, sym, subst, ◌∙◌}
use Rattle.ix_commit.specs.Cuts.{cut_first}
use Rattle.ix_commit.proofs.Cutting.{cut_parts_back, fits_parts, cut_copies_back, cut_slots_back}
use Rattle.ix_commit.proofs.committer.Committer.restore.Goals as goal

pub cut_parts-requires : goal.cut_parts-requires
cut_parts-requires c =
    let r = c.requires in
    let l = fits_parts c.args.mark.now r.0 c.args.self.now r.1 r.2 in
    subst (λ (ls : List ℕ). length ls ≤ length c.args.self.now.parts) (sym c.as_slice.ensures.value) l

pub returns : goal.returns
returns c = λ committer is grew. record {
  logs = record {
    root = grew.logs.root;
    log = grew.logs.log;
    number = grew.logs.number;
    first = grew.logs.first;
    closed = grew.logs.closed;
  };
  bytes = grew.bytes;
  parts = c.cut_parts.ensures ∙ ap (λ (ls : List ℕ). cut_first (length ls) ls (take (length ls) c.args.self.now.parts))
      c.as_slice.ensures.value ∙ cut_parts_back c.args.mark.now committer c.args.self.now is grew;
  copies = c.truncate.ensures ∙ cut_copies_back c.args.mark.now committer c.args.self.now is grew;
  slots = c.truncate-2.ensures ∙ cut_slots_back c.args.mark.now committer c.args.self.now is grew;
}
