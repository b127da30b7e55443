use Rattle.std.proofs.Common.{◌≡◌, ℕ, ◌-◌, ◌<◌, List, Option, length, sym, subst, arith}
use Rattle.ix_pattern.specs.Rows.{piece_at, tree}
use Rattle.ix_match.specs.Leads.{Leads, LeadsTo, Begins}
use Rattle.ix_match.proofs.LeadLemmas.{leads-init, each-begins}
use Rattle.ix_match.proofs.leads.lead_of.Goals as goal

pub loop-bytes-init : goal.loop-bytes-init
loop-bytes-init g c =
    let last = c.root-at.ensures.last in
    let root : c.root-at.result ≡ length c.args.p.now.rows - 1 = omega (arith, last) in
    record {
      below = omega (arith, last);
      leads = subst (λ (k : ℕ). Leads (tree c.args.p.now.rows) (piece_at c.args.p.now.rows k) c.new-bytes.result.items) (sym root)
          (subst (λ (l : List ℕ). Leads (tree c.args.p.now.rows) (tree c.args.p.now.rows) l) (sym c.new-bytes.ensures.items)
          (leads-init (tree c.args.p.now.rows)));
    }

pub loop-bytes-smaller : goal.loop-bytes-smaller
loop-bytes-smaller g c =
    let to : (c.in-Some.next < c.loop-bytes.at) × Leads (tree c.args.p.now.rows) (piece_at c.args.p.now.rows c.in-Some.next)
    c.add_lead.new.bytes.items =
    subst (λ (o : Option ℕ). LeadsTo c.args.p.now.rows (tree c.args.p.now.rows) c.loop-bytes.at o c.add_lead.new.bytes.items) c.in-Some.is
    (c.in_ok-next.ensures (tree c.args.p.now.rows) c.loop-bytes.invariant.leads) in
    to.0

pub loop-bytes-preserved : goal.loop-bytes-preserved
loop-bytes-preserved g c =
    let to : (c.in-Some.next < c.loop-bytes.at) × Leads (tree c.args.p.now.rows) (piece_at c.args.p.now.rows c.in-Some.next)
    c.add_lead.new.bytes.items =
    subst (λ (o : Option ℕ). LeadsTo c.args.p.now.rows (tree c.args.p.now.rows) c.loop-bytes.at o c.add_lead.new.bytes.items) c.in-Some.is
    (c.in_ok-next.ensures (tree c.args.p.now.rows) c.loop-bytes.invariant.leads) in
    let lower : c.in-Some.next < c.loop-bytes.at = to.0 in
    let below = c.loop-bytes.invariant.below in
    record { below = omega (arith, lower, below); leads = to.1 }

pub returns : goal.returns
returns g c =
    let begins : Begins (tree c.args.p.now.rows) c.add_lead.new.bytes.items =
    subst (λ (o : Option ℕ). LeadsTo c.args.p.now.rows (tree c.args.p.now.rows) c.loop-bytes.at o c.add_lead.new.bytes.items)
    c.in_default.is
    (c.in_ok-next.ensures (tree c.args.p.now.rows) c.loop-bytes.invariant.leads) in
    each-begins c.args.p.now c.add_lead.new.bytes.items begins
