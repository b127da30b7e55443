use Rattle.std.proofs.Common.{subst}
use Rattle.std.specs.Option.{ForSome}
use Rattle.ix_parse.specs.declared.carry.Carry.{Carry}
use Rattle.ix_parse.specs.Form.{IsOpenLine}
use Rattle.ix_parse.proofs.Found.{carry_found, carry_given}
use Rattle.ix_parse.proofs.reading.read_front.Goals as goal

pub returns : goal.returns
returns c =
    let carry : Carry = record { lines = c.in_ok-lines.lines; merge = c.in_ok-merge.merge; latest = c.in_ok-latest.latest } in
    let lines = c.in_ok-lines.ensures in
    let merge = c.in_ok-merge.ensures in
    let latest = c.in_ok-latest.ensures in
    record {
      gives = carry_given c.args.rules carry c.longest_line.result _ _ _ _ c.longest_line.ensures lines.gives merge.gives latest.gives;
      found = carry_found carry _ _ _ _ lines.found merge.found latest.found.0;
      form = record {
        pending = lines.form.0;
        line = subst (λ most. ForSome c.in_ok-lines.lines.line (λ line. IsOpenLine most line)) c.longest_line.ensures lines.form.1;
        event = merge.form.1;
        merge = merge.form.0;
        latest = latest.found.1;
      };
    }
