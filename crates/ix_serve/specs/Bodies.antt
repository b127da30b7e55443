-- The bodies of replies.
use Rattle.std.specs.Prelude.{ℕ, Bool, true, false, List, [], ◌∷◌, ◌++◌, codes, decimal}
use Rattle.std.specs.List.{flat_map}
use Rattle.ix_commit.specs.declared.fault.CommitFault.{CommitFault}
use Rattle.ix_commit.specs.declared.fault.CommitFault.TheVariants as commits
use Rattle.ix_model.specs.declared.answers.Refusal.{Refusal}
use Rattle.ix_model.specs.declared.answers.Refusal.TheVariants as refusals

-- ---- of good replies

abbrev pub begun_body : List ℕ → List ℕ
begun_body channel = codes "{\"channel\":\"" ++ channel ++ codes "\"}"

abbrev pub acked_body : ℕ → ℕ → List ℕ
acked_body number run = codes "{\"ack\":" ++ decimal number ++ codes ",\"run\":" ++ decimal run ++ codes "}"

abbrev pub value_text : Bool → List ℕ
value_text true = codes "true"
value_text false = codes "false"

-- values with one comma between two
abbrev pub values_text : List Bool → List ℕ
values_text [] = []
values_text (value ∷ values) = value_text value ++ flat_map (λ (next : Bool). codes "," ++ value_text next) values

abbrev pub acks_body : List Bool → List ℕ
acks_body values = codes "{\"acks\":[" ++ values_text values ++ codes "]}"

-- ---- of faults

abbrev pub error_body : List ℕ → List ℕ
error_body name = codes "{\"error\":\"" ++ name ++ codes "\"}"

-- A store is closed by a fault of its disk. No request gives a command that is refused for a
-- bucket.
abbrev pub refusal_name : Refusal → List ℕ
refusal_name refusals.Closed = codes "Disk"
refusal_name refusals.NoChannel = codes "NoChannel"
refusal_name refusals.ChannelOpen = codes "ChannelOpen"
refusal_name refusals.UnknownIndex = codes "UnknownIndex"
refusal_name refusals.NoBucket = codes "NoBucket"
refusal_name refusals.NotArchived = codes "NotArchived"
refusal_name refusals.AlreadyThawed = codes "AlreadyThawed"
refusal_name refusals.TooManyChannels = codes "TooManyChannels"
refusal_name refusals.Full = codes "Full"
refusal_name refusals.NoMemory = codes "NoMemory"

abbrev pub commit_name : CommitFault → List ℕ
commit_name commits.Disk = codes "Disk"
commit_name (commits.Damaged file at) = codes "Damaged"
