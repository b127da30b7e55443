-- How runs of requests end, and what of an end is told once the log behind them was made short.
use Rattle.std.specs.Prelude.{◌≡◌, ◌⊎◌, ◌<◌, ◌≤◌, ℕ, Bool, true, false, Option, None, Some, Result, Ok, Err}
use Rattle.ix_manifest.specs.declared.fault.CheckpointFault.{CheckpointFault}
use Rattle.ix_manifest.specs.declared.fault.CheckpointFault.TheVariants as checkpoints
use Rattle.ix_sessions.specs.Connections as connections
use Rattle.ix_sessions.specs.Feeding as feeding
use Rattle.ix_sessions.specs.declared.feed.Fed.{Fed}
use Rattle.ix_sessions.specs.declared.feed.Fed.TheVariants as fed
use Rattle.ix_sessions.specs.declared.serve.Heard.{Heard}
use Rattle.ix_sessions.specs.declared.serve.Heard.TheVariants as heard
use Rattle.ix_commit.specs.declared.fault.CommitFault.TheVariants as commits
use Rattle.ix_net.specs.declared.link.Side.{Side}
use Rattle.ix_net.specs.declared.link.Side.TheVariants.{Reading, Writing}
use Rattle.indexd_serve.specs.declared.end.End.{End}
use Rattle.indexd_serve.specs.declared.end.End.TheVariants as ends
use Rattle.indexd_serve.specs.declared.end.ServeEnd.{ServeEnd}
use Rattle.indexd_serve.specs.declared.end.ServeEnd.TheVariants as serving

-- ---- over one link

-- the end of a run, by what came of making its log short behind its requests
abbrev pub fed_behind : Fed → Result Unit CheckpointFault → Fed
fed_behind end (Ok done) = end
fed_behind end (Err checkpoints.Disk) = fed.Broken commits.Disk
fed_behind end (Err checkpoints.NoMemory) = fed.NoMemory

-- A run whose requests ended as the first ends as the second: the same, or where the store was open
-- behind them, for want of memory or by a fault of the disk.
abbrev pub FedBehind : Fed → Fed → Type 0
FedBehind first end = (end ≡ first) ⊎ ((feeding.is_open_end first ≡ true) × ((end ≡ fed.NoMemory) ⊎ (end ≡ fed.Broken commits.Disk)))

-- whether the log was made short behind a run: not where there was no room in memory, or the disk
-- has failed or is damaged
abbrev pub is_short : Fed → Bool
is_short fed.Ended = true
is_short (fed.Unreadable request) = true
is_short fed.NoMemory = false
is_short fed.Endless = true
is_short fed.Link = true
is_short (fed.Broken cause) = false

-- ---- over an input and an output

abbrev pub link_end : Option Side → End
link_end None = ends.Output
link_end (Some Reading) = ends.Input
link_end (Some Writing) = ends.Output

abbrev pub end_of : Fed → Option Side → End
end_of fed.Ended failed = ends.Ended
end_of (fed.Unreadable request) failed = ends.Unreadable request
end_of fed.NoMemory failed = ends.Memory
end_of fed.Endless failed = ends.Endless
end_of fed.Link failed = link_end failed
end_of (fed.Broken commits.Disk) failed = ends.Disk
end_of (fed.Broken (commits.Damaged file at)) failed = ends.Damaged file at

-- what an end says of the requests, whichever side of the link has failed
abbrev pub fed_of : End → Fed
fed_of ends.Ended = fed.Ended
fed_of (ends.Unreadable request) = fed.Unreadable request
fed_of ends.Memory = fed.NoMemory
fed_of ends.Endless = fed.Endless
fed_of ends.Disk = fed.Broken commits.Disk
fed_of (ends.Damaged file at) = fed.Broken (commits.Damaged file at)
fed_of ends.Input = fed.Link
fed_of ends.Output = fed.Link

-- ---- over a connection each

abbrev pub heard_end : Heard → ServeEnd
heard_end heard.Done = serving.Done
heard_end heard.Listener = serving.Listener
heard_end (heard.Broken commits.Disk) = serving.Disk
heard_end (heard.Broken (commits.Damaged file at)) = serving.Damaged file at

-- the end of a run, by what came of making its log short behind its connections
abbrev pub heard_behind : Heard → Result Unit CheckpointFault → ServeEnd
heard_behind end (Ok done) = heard_end end
heard_behind end (Err checkpoints.Disk) = serving.Disk
heard_behind end (Err checkpoints.NoMemory) = serving.Memory

-- A run whose connections ended as the first ends as the second: the same, or where the store was
-- open behind them, for want of memory or by a fault of the disk.
abbrev pub HeardBehind : Heard → ServeEnd → Type 0
HeardBehind first end = (end ≡ heard_end first) ⊎ ((connections.is_open_end first ≡ true) × ((end ≡ serving.Memory) ⊎ (end ≡ serving.Disk)))

-- how many of so many connections were taken by the end of a run: all, fewer where the listener
-- failed, and at the most all at any other end
abbrev pub AsManyServed : ℕ → ServeEnd → ℕ → Type 0
AsManyServed requests serving.Done count = count ≡ requests
AsManyServed requests serving.Listener count = count < requests
AsManyServed requests serving.Memory count = count ≤ requests
AsManyServed requests serving.Disk count = count ≤ requests
AsManyServed requests (serving.Damaged file at) count = count ≤ requests

-- whether the log was made short behind a run
abbrev pub is_short_served : ServeEnd → Bool
is_short_served serving.Done = true
is_short_served serving.Listener = true
is_short_served serving.Memory = false
is_short_served serving.Disk = false
is_short_served (serving.Damaged file at) = false
