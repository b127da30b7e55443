use Rattle.std.proofs.Common.{◌++◌, ◌∙◌, List, ℕ, ap, inl, inr}
use Rattle.std.specs.Prelude.{Err}
use Rattle.std.proofs.lemmas.Result.{err_from_is_err_and}
use Rattle.indexd_selftest.specs.History.{first_line}
use Rattle.indexd_selftest.proofs.Results.{err_back}
use Rattle.indexd_selftest.proofs.summary.selftest.Goals as goal

pub returns-in_err-fill : goal.returns-in_err-fill
returns-in_err-fill g c =
    let p = err_from_is_err_and c.from_residual-in_err-fill.result c.from_residual-in_err-fill.ensures.1 in
    rw (p.1, p.2) (record {
      summary = tt;
      full = λ is. record {
        config = c.in_ok-config.config;
        in_force = c.in_ok-config.ensures.ok;
        full = λ choose chooser. inl (c.in_err-fill.ensures.full (ap Err (err_back is)) choose chooser);
      };
    })

pub returns-in_err-listed : goal.returns-in_err-listed
returns-in_err-listed g c =
    let p = err_from_is_err_and c.from_residual-in_err-listed.result c.from_residual-in_err-listed.ensures.1 in
    let filled = c.in_ok-fill.ensures.filled in
    rw (p.1, p.2) (record {
      summary = tt;
      full = λ is. record {
        config = c.in_ok-config.config;
        in_force = c.in_ok-config.ensures.ok;
        full = λ choose chooser. inr (
          filled.blocks,
          filled.cut,
          c.in_err-listed.ensures.full is choose _ chooser (filled.stands choose chooser),
        );
      };
    })

pub returns : goal.returns
returns g c =
    let filled = c.in_ok-fill.ensures.filled in
    record {
      summary = record {
        config = c.in_ok-config.config;
        in_force = c.in_ok-config.ensures.ok;
        blocks = filled.blocks;
        cut = filled.cut;
        text_is = λ choose chooser.
            c.in_ok-extend.ensures.ok
            ∙ ap (λ (l : List ℕ). c.in_ok-text.text ++ l) c.as_slice.ensures
            ∙ ap (λ (t : List ℕ). t ++ c.in_ok-listed.listed) c.in_ok-text.ensures
            ∙ ap (λ (l : List ℕ). first_line c.args.seed c.args.count ++ l)
            (c.in_ok-listed.ensures.listed choose _ chooser (filled.stands choose chooser));
      };
      full = λ is. absurd cc;
    }

pub fill-requires-clause-in_force : goal.fill-requires-clause-in_force
fill-requires-clause-in_force g c = c.in_ok-config.ensures.ok

pub fill-requires-clause-settings : goal.fill-requires-clause-settings
fill-requires-clause-settings g c = c.requires.settings c.in_ok-config.config c.in_ok-config.ensures.ok.sound

pub fill-requires-clause-asks : goal.fill-requires-clause-asks
fill-requires-clause-asks g c = c.requires.asks

pub list-requires : goal.list-requires
list-requires g c = c.fill.ensures.told
