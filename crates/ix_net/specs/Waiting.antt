-- The links that wait at a listener in memory.
use Rattle.std.specs.Prelude.{◌≡◌, List, ◌∷◌}
use Rattle.ix_net.specs.declared.mem_link.MemLink.{MemLink}

-- The link is the first one that waits, as it was, but that what was written on it before is
-- forgotten.
pub record IsFirstOf (conn : MemLink) (old new : List MemLink) : Type 0 where
  pub first : MemLink
  pub taken : old ≡ first ∷ new
  pub bytes : conn.bytes ≡ first.bytes
  pub at : conn.at ≡ first.at
  pub most : conn.most ≡ first.most
  pub plan : conn.plan ≡ first.plan
