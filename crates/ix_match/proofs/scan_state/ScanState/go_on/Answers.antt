use Rattle.std.proofs.Common.{sym, ◌∙◌, ap, subst}
use Rattle.ix_pikevm.specs.Attempts.{IsAttemptOn}
use Rattle.ix_pikevm.specs.declared.matcher.Matcher.{Matcher}
use Rattle.ix_match.specs.Searches.{IsSearch}
use Rattle.ix_match.specs.declared.search.Search.{Search}
use Rattle.ix_match.proofs.scan_state.ScanState.go_on.Goals as goal

pub begin-requires : goal.begin-requires
begin-requires g c = c.requires.is_kept.search_is.finder_is.program.code.within

pub go_on-requires-clause-search : goal.go_on-requires-clause-search
go_on-requires-clause-search g c = subst (IsSearch c.args.p.now.rows) (sym c.begin.ensures.search) c.requires.is_kept.search_is

pub go_on-requires-clause-stands : goal.go_on-requires-clause-stands
go_on-requires-clause-stands g c =
    subst (λ (s : Search). IsAttemptOn c.args.p.now.rows s.finder.program c.begin.new.self.attempt c.args.input.before
    c.args.input.bytes.now) (sym c.begin.ensures.search)
    (c.in_ok-begin.ensures.stands c.args.p.now.rows c.args.input.before c.args.input.bytes.now c.requires.stands)

pub returns-clause-kept : goal.returns-clause-kept
returns-clause-kept g c =
    record {
      is_kept = record {
        search_is = c.in_ok-outcome.ensures.search;
        whole = ap (λ (f : Matcher). f.width) c.go_on.ensures.finder ∙ ap (λ (s : Search). s.finder.width) c.begin.ensures.search
            ∙ c.requires.is_kept.whole;
      };
      stands = λ begun. subst (λ (f : Matcher). IsAttemptOn c.args.p.now.rows f.program c.go_on.new.attempt c.args.input.before
          c.args.input.bytes.now) (sym c.go_on.ensures.finder) c.in_ok-outcome.ensures.stands;
    }

pub returns-clause-counted : goal.returns-clause-counted
returns-clause-counted g c = c.go_on.ensures.tabled (ap (λ (s : Search). s.finder.width) c.begin.ensures.search ∙ c.requires.is_kept.whole)
