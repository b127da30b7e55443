-- The limits of what is asked.
use Rattle.std.specs.Prelude.{◌≡◌, ◌≤◌, ℕ, true, List, length, IfSome}
use Rattle.ix_base.specs.declared.events.ChannelMeta.{ChannelMeta}
use Rattle.ix_http.specs.Routes.{is_channel_name}
use Rattle.ix_http.specs.declared.kinds.Ask.{Ask}
use Rattle.ix_http.specs.declared.kinds.Ask.TheVariants.{Begin, Block, End, Acks, Buckets, Events}
use Rattle.ix_http.specs.declared.kinds.Incoming.{Incoming}
use Rattle.ix_http.specs.declared.kinds.Incoming.TheVariants.{Ended, Asked, Refused}

-- 1 to 1,024 bytes
abbrev pub IsBrief : List ℕ → Type 0
IsBrief text = (1 ≤ length text) × (length text ≤ 1024)

pub record IsBriefMeta (meta : ChannelMeta) : Type 0 where
  pub host : IsBrief meta.host
  pub source : IsBrief meta.source
  pub sourcetype : IfSome meta.sourcetype IsBrief
  pub index : IfSome meta.index IsBrief

abbrev pub KeepsLimits : Ask → Type 0
KeepsLimits (Begin channel meta) = (is_channel_name channel ≡ true) × IsBriefMeta meta
KeepsLimits (Block channel bytes) = (is_channel_name channel ≡ true) × (length bytes ≤ 1048576)
KeepsLimits (End channel) = is_channel_name channel ≡ true
KeepsLimits (Acks run numbers) = Unit {0}
KeepsLimits Buckets = Unit {0}
KeepsLimits (Events index range) = Unit {0}

-- what is read of a link, also of one that does not tell its bytes
abbrev pub IsWithin : Incoming → Type 0
IsWithin Ended = Unit {0}
IsWithin (Asked ask) = KeepsLimits ask
IsWithin (Refused fault delimited) = Unit {0}
