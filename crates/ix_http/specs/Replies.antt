-- The text of a reply.
use Rattle.std.specs.Prelude.{ℕ, ◌&&◌, nat_le, nat_lt, List, [], ◌++◌, length, Option, None, unwrap_or, codes, decimal, if◌then◌else◌}
use Rattle.http.specs.StatusCode.{reason_phrase}
use Rattle.ix_http.specs.declared.kinds.Kind.{Kind}
use Rattle.ix_http.specs.declared.kinds.Kind.TheVariants.{Json, Plain}

-- the canonical phrase of a status of three digits, where it has one
unfoldable pub reason_of : ℕ → Option (List ℕ)
reason_of status = if nat_le 100 status && nat_lt status 1000 then reason_phrase status else None

abbrev pub phrase_of : ℕ → List ℕ
phrase_of status = unwrap_or (reason_of status) []

abbrev pub type_of : Kind → List ℕ
type_of Json = codes "application/json"
type_of Plain = codes "text/plain"

abbrev pub status_line : ℕ → List ℕ
status_line status = codes "HTTP/1.1 " ++ decimal status ++ codes " " ++ phrase_of status

-- the end of the status line, three header lines, and an empty line
abbrev pub header_lines : ℕ → Kind → List ℕ
header_lines n kind =
    codes "\r\nContent-Length: " ++ decimal n ++ codes "\r\nContent-Type: " ++ type_of kind
    ++ codes "\r\nConnection: close\r\n\r\n"

abbrev pub head_text : ℕ → Kind → ℕ → List ℕ
head_text status kind n = status_line status ++ header_lines n kind

abbrev pub reply_text : ℕ → Kind → List ℕ → List ℕ
reply_text status kind body = head_text status kind (length body) ++ body
