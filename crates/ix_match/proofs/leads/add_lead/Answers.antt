use Rattle.std.proofs.Common.{ℕ, List, sym, subst, rules}
use Rattle.ix_pattern.specs.Rows.{piece_at}
use Rattle.ix_match.specs.Leads.{Leads, Begins}
use Rattle.ix_match.proofs.LeadLemmas.{leads-byte, leads-nothing, leads-last}
use Rattle.ix_match.proofs.leads.add_lead.Goals as goal

pub returns-in_ok-push-in-One : goal.returns-in_ok-push-in-One
returns-in_ok-push-in-One g c = λ whole leads. (
  c.in-Sequence.ensures.1,
  subst (λ (l : List ℕ). Leads whole (piece_at c.args.p.now.rows c.in-Sequence.rest) l) (sym c.in_ok-push-in-One.ensures.items)
      (leads-byte whole (piece_at c.args.p.now.rows c.args.at) (piece_at c.args.p.now.rows c.in-Sequence.first)
      (piece_at c.args.p.now.rows c.in-Sequence.rest)
      c.args.bytes.now.items c.in-One.byte c.in-Sequence.ensures.2 c.in-One.ensures leads),
)

pub returns-in-Nothing : goal.returns-in-Nothing
returns-in-Nothing g c = λ whole leads. (
  c.in-Sequence.ensures.1,
  leads-nothing whole (piece_at c.args.p.now.rows c.args.at) (piece_at c.args.p.now.rows c.in-Sequence.first)
      (piece_at c.args.p.now.rows c.in-Sequence.rest)
      c.args.bytes.now.items c.in-Sequence.ensures.2 c.in-Nothing.ensures leads,
)

pub returns-in_ok-push-in-One-taken_by : goal.returns-in_ok-push-in-One-taken_by
returns-in_ok-push-in-One-taken_by g c = λ whole leads.
    subst (λ (l : List ℕ). Begins whole l) (sym c.in_ok-push-in-One-taken_by.ensures.items)
    (leads-last whole (piece_at c.args.p.now.rows c.args.at) c.args.bytes.now.items c.in-One-taken_by.byte c.in-One-taken_by.ensures leads)

pub returns-in-Other : goal.returns-in-Other
returns-in-Other g c = search rules
