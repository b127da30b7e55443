-- What is judged of a request by its head alone.
use Rattle.std.specs.Prelude.{◌&&◌, ◌||◌, ℕ, Bool, true, false, not, nat_le, nat_lt, List, length, Option, Some, None, codes, if◌then◌else◌}
use Rattle.std.specs.Str.{bytes_eq}
use Rattle.ix_heads.specs.Heads.{Heading}
use Rattle.ix_heads.specs.Lines.{has_line, has_other}
use Rattle.ix_heads.specs.Lengths.{declared_length}
use Rattle.ix_heads.specs.declared.lengths.Declared.{Declared}
use Rattle.ix_heads.specs.declared.lengths.Declared.TheVariants.{Wrong, Missing, Bytes}
use Rattle.ix_http.specs.declared.kinds.HttpFault.{HttpFault}
use Rattle.ix_http.specs.declared.kinds.HttpFault.TheVariants.{BadHead, NoRoute, WrongMethod, NoLength, Encoded, TooLong}
use Rattle.ix_http.specs.Routes.{Route, channel, blocks, end, acks, buckets, events, route_of, path_of}

-- the method of a route
abbrev pub method_of : Route → List ℕ
method_of (channel name) = codes "PUT"
method_of (blocks name) = codes "POST"
method_of (end name) = codes "POST"
method_of acks = codes "POST"
method_of buckets = codes "GET"
method_of (events name) = codes "GET"

-- the most bytes that the body of a route may have
abbrev pub limit_of : Route → ℕ
limit_of (channel name) = 65536
limit_of (blocks name) = 1048576
limit_of (end name) = 0
limit_of acks = 65536
limit_of buckets = 0
limit_of (events name) = 0

-- whether the head has to say how long the body is
abbrev pub needs_length : Route → Bool
needs_length (channel name) = true
needs_length (blocks name) = true
needs_length (end name) = false
needs_length acks = true
needs_length buckets = false
needs_length (events name) = false

abbrev pub is_wrong : Declared → Bool
is_wrong Wrong = true
is_wrong Missing = false
is_wrong (Bytes n) = false

abbrev pub is_missing : Declared → Bool
is_missing Wrong = false
is_missing Missing = true
is_missing (Bytes n) = false

-- the length of the body; 0 where the head does not say it
abbrev pub length_of : Declared → ℕ
length_of Wrong = 0
length_of Missing = 0
length_of (Bytes n) = n

abbrev pub body_length : Heading → ℕ
body_length h = length_of (declared_length h.lines)

-- at most 64 header lines, and a length that can be read or none
abbrev pub is_good : Heading → Bool
is_good h = nat_le (length h.lines) 64 && not (is_wrong (declared_length h.lines))

abbrev pub is_chunked : Heading → Bool
is_chunked h = has_line (codes "transfer-encoding") h.lines

-- how many bytes of body follow the head, where it is known where the request ends
unfoldable pub delimited_length : Heading → Option ℕ
delimited_length h =
    if is_good h && (not (is_chunked h) && nat_le (body_length h) 1048576) then Some (body_length h) else None

-- what is wrong with a request whose route is known
abbrev pub route_fault : Heading → Option Route → Option HttpFault
route_fault h None = Some NoRoute
route_fault h (Some r) =
    if not (bytes_eq h.method (method_of r)) then Some WrongMethod
    else (if is_chunked h || (needs_length r && is_missing (declared_length h.lines)) then Some NoLength
    else (if has_other (codes "content-encoding") (codes "identity") h.lines then Some Encoded
    else (if nat_lt (limit_of r) (body_length h) then Some TooLong
    else None)))

-- the first fault of a head, in this order
unfoldable pub head_fault : Heading → Option HttpFault
head_fault h = if not (is_good h) then Some BadHead else route_fault h (route_of (path_of h.target))
