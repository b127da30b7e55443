use Rattle.indexd_selftest.proofs.Joined.{line_joined}
use Rattle.indexd_selftest.proofs.generator.add_line.Goals as goal

pub returns : goal.returns
returns c =
    line_joined c.args.text.now c.extend.new.self c.add_clock.new.text c.extend-2.new.self c.add_seven.new.text c.extend-3.new.self
    c.args.number c.in_ok-extend.ensures.ok c.in_ok-add_clock.ensures c.in_ok-extend-2.ensures.ok c.in_ok-add_seven.ensures
    c.in_ok-extend-3.ensures.ok
