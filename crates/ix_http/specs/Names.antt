-- The names of the faults of requests.
use Rattle.std.specs.Prelude.{ℕ, List, codes}
use Rattle.ix_http.specs.declared.kinds.HttpFault.{HttpFault}
use Rattle.ix_http.specs.declared.kinds.HttpFault.TheVariants.{BadHead, NoRoute, WrongMethod, NoLength, Encoded, TooLong, BadQuery, BadBody}

abbrev pub name_of : HttpFault → List ℕ
name_of BadHead = codes "BadHead"
name_of NoRoute = codes "NoRoute"
name_of WrongMethod = codes "WrongMethod"
name_of NoLength = codes "NoLength"
name_of Encoded = codes "Encoded"
name_of TooLong = codes "TooLong"
name_of BadQuery = codes "BadQuery"
name_of BadBody = codes "BadBody"
