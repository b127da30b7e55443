-- What is asked by the bytes at the front of a link, and how many of them that takes.
use Rattle.std.specs.Prelude.{◌≡◌, ◌<◌, ◌⊎◌, ℕ, List, [], ◌++◌, length, true, false, Option, Some, None, Result, Ok, Err, option_map}
use Rattle.std.specs.Prelude.{option_and_then}
use Rattle.httparse.specs.Grammar.{RequestHead}
use Rattle.ix_heads.specs.Heads.{Heading, heading, HasHead, IsHeadless, IsCut, TakesSome}
use Rattle.ix_heads.specs.declared.faults.LinkFault.{LinkFault}
use Rattle.ix_heads.specs.declared.faults.LinkFault.TheVariants.{Failed, Cut, NoMemory}
use Rattle.ix_http.specs.declared.kinds.HttpFault.{HttpFault}
use Rattle.ix_http.specs.declared.kinds.HttpFault.TheVariants.{BadHead, NoRoute, BadQuery, BadBody}
use Rattle.ix_http.specs.declared.kinds.Ask.{Ask}
use Rattle.ix_http.specs.declared.kinds.Ask.TheVariants.{Begin, Block, End, Acks, Buckets, Events}
use Rattle.ix_http.specs.declared.kinds.Incoming.{Incoming}
use Rattle.ix_http.specs.declared.kinds.Incoming.TheVariants.{Ended, Asked, Refused}
use Rattle.ix_http.specs.Routes as routes
use Rattle.ix_http.specs.Routes.{Route, route_of, path_of, query_of}
use Rattle.ix_http.specs.Ranges.{range_of}
use Rattle.ix_http.specs.Bodies.{json_of, meta_of, acks_of}
use Rattle.ix_http.specs.Verdicts.{delimited_length, head_fault}

-- ---- a request that is whole

abbrev pub or_refused : HttpFault → Option Ask → Incoming
or_refused fault None = Refused fault true
or_refused fault (Some ask) = Asked ask

-- what a request without a fault of its head asks, by its route, its query and its body
unfoldable pub asked_of : Route → List ℕ → List ℕ → Incoming
asked_of (routes.channel name) query body = or_refused BadBody
    (option_map (λ meta. Begin name meta) (option_and_then meta_of (json_of body)))
asked_of (routes.blocks name) query body = Asked (Block name body)
asked_of (routes.end name) query body = Asked (End name)
asked_of routes.acks query body = or_refused BadBody (option_map (λ a. Acks a.0 a.1) (option_and_then acks_of (json_of body)))
asked_of routes.buckets query body = Asked Buckets
asked_of (routes.events name) query body = or_refused BadQuery (option_map (λ range. Events name range) (range_of query))

abbrev pub by_route : Option Route → List ℕ → List ℕ → Incoming
by_route None query body = Refused NoRoute true
by_route (Some route) query body = asked_of route query body

abbrev pub by_fault : Option HttpFault → Option Route → List ℕ → List ℕ → Incoming
by_fault (Some fault) route query body = Refused fault true
by_fault None route query body = by_route route query body

-- what a request with this head and this body comes to
unfoldable pub judged : Heading → List ℕ → Incoming
judged h body = by_fault (head_fault h) (route_of (path_of h.target)) (query_of h.target) body

-- ---- the bytes of a link

-- so many bytes were taken
abbrev pub TakesBody : ℕ → List ℕ → List ℕ → List ℕ → Type 0
TakesBody n body old new = (old ≡ body ++ new) × (length body ≡ n)

-- what a head and the bytes behind it come to: a request whose end is not known is refused behind
-- its head, and one whose end is known is judged with its whole body
abbrev pub Follows : Option ℕ → Heading → Incoming → List ℕ → List ℕ → Type 0
Follows None h incoming old new =
    (fault : HttpFault) × (head_fault h ≡ Some fault) × (incoming ≡ Refused fault false) × (new ≡ old)
Follows (Some n) h incoming old new = (body : List ℕ) × TakesBody n body old new × (incoming ≡ judged h body)

-- a link that ended before its first byte
abbrev pub AsksNothing : Incoming → List ℕ → List ℕ → Type 0
AsksNothing incoming old new = (old ≡ []) × (new ≡ []) × (incoming ≡ Ended)

-- bytes that are no head
abbrev pub AsksBadly : Incoming → List ℕ → List ℕ → Type 0
AsksBadly incoming old new = IsHeadless old new × (incoming ≡ Refused BadHead false)

-- a head, and what follows
abbrev pub AsksBy : Incoming → List ℕ → List ℕ → Type 0
AsksBy incoming old new =
    (h : RequestHead) × (rest : List ℕ) × HasHead old h rest × Follows (delimited_length (heading h)) (heading h) incoming rest new

-- what the bytes of a link ask, and the bytes that are left behind the request
abbrev pub Asks : Incoming → List ℕ → List ℕ → Type 0
Asks incoming old new = AsksNothing incoming old new ⊎ AsksBadly incoming old new ⊎ AsksBy incoming old new

-- the bytes end inside a head, or inside a body
abbrev pub EndsInside : List ℕ → Type 0
EndsInside old =
    IsCut old
    ⊎ ((h : RequestHead) × (rest : List ℕ) × HasHead old h rest
    × (n : ℕ) × (delimited_length (heading h) ≡ Some n) × (length rest < n))

-- just the bytes of a request were taken whose end is known
abbrev pub TakesRequest : List ℕ → List ℕ → Type 0
TakesRequest old new =
    (h : RequestHead) × (rest : List ℕ) × HasHead old h rest
    × (n : ℕ) × (delimited_length (heading h) ≡ Some n) × ((body : List ℕ) × TakesBody n body rest new)

-- what is answered for the bytes of a link, and what is left of them
abbrev pub Fits : Result Incoming LinkFault → List ℕ → List ℕ → Type 0
Fits (Ok incoming) old new = Asks incoming old new
Fits (Err Cut) old new = EndsInside old × (new ≡ [])
Fits (Err Failed) old new = TakesSome old new
Fits (Err (NoMemory true)) old new = TakesRequest old new
Fits (Err (NoMemory false)) old new = TakesSome old new × ¬ (TakesRequest old new)
