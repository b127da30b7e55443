-- The routes of the service: the path of a target, and what it names.
use Rattle.std.specs.Prelude.{◌≡◌, ◌-◌, ◌&&◌, ◌||◌, ◌==◌, ℕ, Bool, true, not, nat_le, List, ◌++◌, length, take, drop, Option, Some, None}
use Rattle.std.specs.Prelude.{codes, if◌then◌else◌, ◌↔◌, ⊤}
use Rattle.std.specs.List.{list_all, list_any, before_first, after_first}
use Rattle.std.specs.Char.{is_ascii_alphanumeric}
use Rattle.std.specs.Str.{bytes_eq}
use Rattle.ix_http.specs.declared.places.Place.{Place}
use Rattle.ix_http.specs.declared.places.Place.TheVariants.{Channel, Blocks, End, Acks, Buckets, Events}

-- what a path names
pub data Route : Type 0 where
  channel : List ℕ → Route
  blocks : List ℕ → Route
  end : List ℕ → Route
  acks : Route
  buckets : Route
  events : List ℕ → Route

-- the route that a value of the code stands for
abbrev pub seen : Place → Route
seen (Channel name) = channel name.now
seen (Blocks name) = blocks name.now
seen (End name) = end name.now
seen Acks = acks
seen Buckets = buckets
seen (Events name) = events name.now

-- the target before its first `?`, and what stands behind that
abbrev pub path_of : List ℕ → List ℕ
path_of target = before_first (λ b. b == 63) target

abbrev pub query_of : List ℕ → List ℕ
query_of target = after_first (λ b. b == 63) target

-- a letter, a digit, `_`, `-` or `.`
abbrev pub is_name_byte : ℕ → Bool
is_name_byte b = is_ascii_alphanumeric b || (b == 95 || (b == 45 || b == 46))

-- 1 to 64 of them
abbrev pub is_channel_name : List ℕ → Bool
is_channel_name name = nat_le 1 (length name) && (nat_le (length name) 64 && list_all is_name_byte name)

-- one byte or more, none of them a slash
abbrev pub is_segment : List ℕ → Bool
is_segment name = nat_le 1 (length name) && not (list_any (λ b. b == 47) name)

-- what stands behind a front, and before an end
abbrev pub behind : List ℕ → List ℕ → Option (List ℕ)
behind front text = if bytes_eq (take (length front) text) front then Some (drop (length front) text) else None

abbrev pub before : List ℕ → List ℕ → Option (List ℕ)
before tail text =
    if bytes_eq (drop (length text - length tail) text) tail then Some (take (length text - length tail) text) else None

abbrev pub named : (List ℕ → Bool) → (List ℕ → Route) → List ℕ → Option Route
named test route name = if test name then Some (route name) else None

-- the route of what stands behind `/channels/`
abbrev pub under_channels : Option (List ℕ) → Option (List ℕ) → List ℕ → Option Route
under_channels (Some name) end_name rest = named is_channel_name blocks name
under_channels None (Some name) rest = named is_channel_name end name
under_channels None None rest = named is_channel_name channel rest

unfoldable pub channel_route : List ℕ → Option Route
channel_route rest = under_channels (before (codes "/blocks") rest) (before (codes "/end") rest) rest

-- the route of what stands behind `/indexes/`
abbrev pub under_indexes : Option (List ℕ) → Option Route
under_indexes (Some name) = named is_segment events name
under_indexes None = None

unfoldable pub index_route : List ℕ → Option Route
index_route rest = under_indexes (before (codes "/events") rest)

abbrev pub by_front : Option (List ℕ) → Option (List ℕ) → Option Route
by_front (Some rest) under = channel_route rest
by_front None (Some rest) = index_route rest
by_front None None = None

-- the route of a path
unfoldable pub route_of : List ℕ → Option Route
route_of path =
    if bytes_eq path (codes "/acks") then Some acks
    else (if bytes_eq path (codes "/buckets") then Some buckets
    else by_front (behind (codes "/channels/") path) (behind (codes "/indexes/") path))

-- ---- the same, said the other way round

-- the path of a route
abbrev pub path_text : Route → List ℕ
path_text (channel name) = codes "/channels/" ++ name
path_text (blocks name) = codes "/channels/" ++ name ++ codes "/blocks"
path_text (end name) = codes "/channels/" ++ name ++ codes "/end"
path_text acks = codes "/acks"
path_text buckets = codes "/buckets"
path_text (events name) = codes "/indexes/" ++ name ++ codes "/events"

-- its name is of the form
abbrev pub IsNamed : Route → Type 0
IsNamed (channel name) = is_channel_name name ≡ true
IsNamed (blocks name) = is_channel_name name ≡ true
IsNamed (end name) = is_channel_name name ≡ true
IsNamed acks = ⊤
IsNamed buckets = ⊤
IsNamed (events name) = is_segment name ≡ true

-- a path has a route exactly where it is the path of that route
abbrev pub RoutesAreExact : Type 0
RoutesAreExact = (path : List ℕ) (route : Route) → (route_of path ≡ Some route) ↔ (IsNamed route × (path ≡ path_text route))
