-- The bytes of a value that is lent or made.
use Rattle.std.specs.Prelude.{ℕ, List}
use Rattle.ix_transforms.specs.declared.queues.Value.{Value}
use Rattle.ix_transforms.specs.declared.queues.Value.TheVariants.{Lent, Made}

abbrev pub bytes_in : Value → List ℕ
bytes_in (Lent bytes) = bytes.now
bytes_in (Made bytes) = bytes
