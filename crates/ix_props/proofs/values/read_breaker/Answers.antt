use Rattle.ix_props.proofs.values.read_breaker.Goals as goal

pub bad_breaker-requires-in-Err-Pattern-TooLarge :
    goal.bad_breaker-requires-in-Err-Pattern-TooLarge
bad_breaker-requires-in-Err-Pattern-TooLarge c =
    rw (c.in-Err-Pattern-TooLarge.field-0-is, c.in-Err-Pattern-TooLarge.field-0-0-is) at c.in-Err-Pattern-TooLarge.ensures.err
