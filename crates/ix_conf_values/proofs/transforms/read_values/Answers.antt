use Rattle.std.proofs.Common.{sym, ◌∙◌, ap}
use Rattle.ix_conf_values.specs.Lent.{lent_values}
use Rattle.ix_conf_values.specs.Transforms.{dest_from, dest_of, lookahead_of, source_of, write_meta_of}
use Rattle.ix_conf_values.proofs.TransformLemmas.{is_there, refuse_dest, refuse_lookahead, refuse_source, refuse_write_meta, destined}
use Rattle.ix_conf_values.proofs.transforms.read_values.Goals as goal

pub returns-in_default : goal.returns-in_default
returns-in_default c =
    let v = lent_values c.args.values.now in
    record {
      ok = tt;
      destination = tt;
      err = refuse_dest v c.bad_value.result c.bad_value.ensures (c.in_default.ensures
          ∙ ap (λ w. dest_from w v.dest_key) c.write_meta_of-write_meta.ensures);
    }

pub returns-in_default-lookahead_of : goal.returns-in_default-lookahead_of
returns-in_default-lookahead_of c =
    let v = lent_values c.args.values.now in
    record {
      ok = tt;
      destination = tt;
      err = refuse_lookahead v c.bad_value-in_default-lookahead_of.result c.bad_value-in_default-lookahead_of.ensures
          (is_there (dest_of v) c.in-Some.dest (c.in-Some.ensures ∙ ap (λ w. dest_from w v.dest_key) c.write_meta_of-write_meta.ensures))
          c.in_default-lookahead_of.ensures;
    }

pub returns-in_default-source_of : goal.returns-in_default-source_of
returns-in_default-source_of c =
    let v = lent_values c.args.values.now in
    record {
      ok = tt;
      destination = tt;
      err = refuse_source v c.bad_value-in_default-source_of.result c.in_ok-regex.regex c.bad_value-in_default-source_of.ensures
          (is_there (dest_of v) c.in-Some.dest (c.in-Some.ensures ∙ ap (λ w. dest_from w v.dest_key) c.write_meta_of-write_meta.ensures))
          (is_there (lookahead_of v) c.in-Some-lookahead_of.lookahead c.in-Some-lookahead_of.ensures)
          c.in_ok-regex.ensures.ok c.in_default-source_of.ensures;
    }

pub returns-in_default-write_meta : goal.returns-in_default-write_meta
returns-in_default-write_meta c =
    let v = lent_values c.args.values.now in
    record {
      ok = tt;
      destination = tt;
      err = refuse_write_meta v c.bad_value-in_default-write_meta.result c.in_ok-regex.regex c.bad_value-in_default-write_meta.ensures
          (is_there (dest_of v) c.in-Some.dest (c.in-Some.ensures ∙ ap (λ w. dest_from w v.dest_key) c.write_meta_of-write_meta.ensures))
          (is_there (lookahead_of v) c.in-Some-lookahead_of.lookahead c.in-Some-lookahead_of.ensures)
          c.in_ok-regex.ensures.ok
          (is_there (source_of v) c.in-Some-source_of.source c.in-Some-source_of.ensures)
          (sym c.write_meta_of-write_meta.ensures ∙ c.in_default-write_meta.is);
    }

pub returns : goal.returns
returns c =
    let v = lent_values c.args.values.now in
    let dest = c.in-Some.ensures ∙ ap (λ w. dest_from w v.dest_key) c.write_meta_of-write_meta.ensures in
    let write_meta = sym c.write_meta_of-write_meta.ensures ∙ c.in-Some-write_meta.is in
    record {
      ok = record {
        regex = c.in_ok-regex.ensures.ok;
        source = sym c.in-Some-source_of.ensures;
        dest = sym dest;
        format = c.in-Ok.ensures.format;
        default_value = c.in-Ok.ensures.default_value;
        write_meta = write_meta;
        lookahead = sym c.in-Some-lookahead_of.ensures;
      };
      destination = destined (write_meta_of v) v.dest_key c.in-Some.dest c.in-Some-write_meta.write_meta dest write_meta;
      err = tt;
    }
