use Rattle.std.proofs.Common.{length, refl, sym, ◌∙◌, ap, subst}
use Rattle.ix_pikevm.specs.Tests.{IsTable}
use Rattle.ix_pikevm.specs.Code.{IsCode, HasSets}
use Rattle.ix_pikevm.specs.Looks.{HasNoLook}
use Rattle.ix_pikevm.specs.Programs.{AreAsks, AllAsked}
use Rattle.ix_pikevm.proofs.ProgramLemmas.{program-code, program-sets}
use Rattle.ix_pattern.specs.Rows.{tree}
use Rattle.ix_pikevm.proofs.matcher.plan_of.Goals as goal

pub returns-clause-plan : goal.returns-clause-plan
returns-clause-plan c =
    let w = c.requires.program in
    let n = length c.args.p.now.rows in
    record {
      code = subst IsCode (sym c.deref.ensures.value) (program-code c.args.p.now.rows (tree c.args.p.now.rows)
          c.args.finder.now.program.code.items c.args.finder.now.program.start w.code);
      sets = subst (HasSets n) (sym c.deref.ensures.value)
          (program-sets c.args.p.now.rows (tree c.args.p.now.rows) c.args.finder.now.program.code.items c.args.finder.now.program.start n
          w.code refl);
      inner = subst IsCode (sym c.deref-3.ensures.value) w.inner;
      insides = subst (HasSets n) (sym c.deref-3.ensures.value) w.insides;
      plain = subst HasNoLook (sym c.deref-3.ensures.value) w.plain;
      tests = record {
        all = ap length c.deref-4.ensures.value ∙ c.requires.all;
        table = subst (λ t. IsTable t c.args.finder.now.width c.args.p.now.rows) (sym c.deref-4.ensures.value) c.requires.table;
      };
      asked = subst (λ a. AllAsked a c.deref.result.now) (sym c.deref-2.ensures.value)
          (subst (AllAsked c.args.finder.now.program.asks.items) (sym c.deref.ensures.value) w.asked);
    }

pub returns-clause-knows : goal.returns-clause-knows
returns-clause-knows c =
    record {
      same = refl;
      asks = subst (λ i. AreAsks c.args.p.now.rows i c.deref-2.result.now) (sym c.deref-3.ensures.value)
          (subst (AreAsks c.args.p.now.rows c.args.finder.now.program.inner.items) (sym c.deref-2.ensures.value) c.requires.program.asks);
    }
