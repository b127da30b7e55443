-- The routes of the service, as `matchit` reads them.
use Rattle.std.specs.Prelude.{◌≡◌, ◌≢◌, ◌<◌, ℕ, List, [], ◌∷◌, ◌++◌, length, false, Option, Some, None, Result, Ok, Err, codes}
use Rattle.matchit.specs.Rows.{RowsOf}
use Rattle.matchit.specs.Order.{placed}
use Rattle.matchit.specs.Route.{Scan, parse_route}
use Rattle.matchit.specs.Router.{RouteOf, route_from, nearest}
use Rattle.matchit.specs.Seek.{has_slash}
use Rattle.matchit.specs.declared.error.InsertError.{InsertError}
use Rattle.ix_http.specs.Routes.{Route, channel, blocks, end, acks, buckets, events, named, is_channel_name}
use Rattle.ix_http.specs.declared.router.Form.{Form}
use Rattle.ix_http.specs.declared.router.Form.TheVariants.{Channel, Blocks, End, Acks, Buckets, Events}

abbrev pub Table : Type 0
Table = RowsOf (RouteOf Form)

abbrev pub with_scan : Table → Form → Result Scan InsertError → Table
with_scan t form (Ok s) = placed (s.pattern, route_from s form) t
with_scan t form (Err e) = t

-- the table with one more route
unfoldable pub with_route : Table → List ℕ → Form → Table
with_route t route form = with_scan t form (parse_route route)

-- the table has no route that conflicts with this one
abbrev pub IsFreeFor : Table → Result Scan InsertError → Type 0
IsFreeFor t (Ok s) = nearest s.pattern t ≡ None
IsFreeFor t (Err e) = ⊥

unfoldable pub IsFree : Table → List ℕ → Type 0
IsFree t route = IsFreeFor t (parse_route route)

-- the routes of the service
unfoldable pub table : Table
table =
    with_route (with_route (with_route (with_route (with_route (with_route []
    (codes "/channels/{name}") Channel) (codes "/channels/{name}/blocks") Blocks)
    (codes "/channels/{name}/end") End) (codes "/acks") Acks) (codes "/buckets") Buckets)
    (codes "/indexes/{name}/events") Events

-- ---- how paths are spelled

-- the path of a form with this name
abbrev pub text_of : Form → List ℕ → List ℕ
text_of Channel name = codes "/channels/" ++ name
text_of Blocks name = codes "/channels/" ++ name ++ codes "/blocks"
text_of End name = codes "/channels/" ++ name ++ codes "/end"
text_of Acks name = codes "/acks"
text_of Buckets name = codes "/buckets"
text_of Events name = codes "/indexes/" ++ name ++ codes "/events"

-- one byte or more, none of them a slash
abbrev pub IsSegment : List ℕ → Type 0
IsSegment name = (0 < length name) × (has_slash name ≡ false)

-- the name of a form, where it has one
abbrev pub IsNameOf : Form → List ℕ → Type 0
IsNameOf Channel name = IsSegment name
IsNameOf Blocks name = IsSegment name
IsNameOf End name = IsSegment name
IsNameOf Acks name = name ≡ []
IsNameOf Buckets name = name ≡ []
IsNameOf Events name = IsSegment name

-- a path is spelled as the form says, with this name; or as no form says
abbrev pub IsFound : List ℕ → Option (Form × List ℕ) → Type 0
IsFound path (Some found) = IsNameOf found.0 found.1 × (path ≡ text_of found.0 found.1)
IsFound path None = (form : Form) (name : List ℕ) → IsNameOf form name → path ≢ text_of form name

-- the route of a form and a name: a channel's name is of the form too
abbrev pub named_route : Form → List ℕ → Option Route
named_route Channel name = named is_channel_name channel name
named_route Blocks name = named is_channel_name blocks name
named_route End name = named is_channel_name end name
named_route Acks name = Some acks
named_route Buckets name = Some buckets
named_route Events name = Some (events name)
