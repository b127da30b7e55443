use Rattle.std.proofs.Common.{rules}
use Rattle.ix_props.proofs.lists.read_transform.Goals as goal

pub returns-in_ok-copy_of-in-Err-BadValue-clause-err :
    goal.returns-in_ok-copy_of-in-Err-BadValue-clause-err
returns-in_ok-copy_of-in-Err-BadValue-clause-err c =
    (c.in_ok-copy_of-in-Err-BadValue.ensures, search rules, rw c.in-Err-BadValue.field-0-is at c.in-Err-BadValue.ensures.err)
