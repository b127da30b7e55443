-- Replies.
use Rattle.std.specs.Prelude.{ℕ, Bool, List, length, nat_le, if◌then◌else◌}
use Rattle.ix_http.specs.Names.{name_of}
use Rattle.ix_http.specs.Replies.{reply_text}
use Rattle.ix_http.specs.declared.kinds.HttpFault.{HttpFault}
use Rattle.ix_http.specs.declared.kinds.HttpFault.TheVariants as http
use Rattle.ix_http.specs.declared.kinds.Kind.{Kind}
use Rattle.ix_http.specs.declared.kinds.Kind.TheVariants.{Json, Plain}
use Rattle.ix_commit.specs.declared.fault.CommitFault.{CommitFault}
use Rattle.ix_model.specs.declared.answers.Refusal.{Refusal}
use Rattle.ix_model.specs.declared.answers.Refusal.TheVariants as refusals
use Rattle.ix_serve.specs.Bodies.{begun_body, acked_body, acks_body, error_body, refusal_name, commit_name}

pub record Reply : Type 0 where
  pub status : ℕ
  pub kind : Kind
  pub body : List ℕ

abbrev pub reply : ℕ → Kind → List ℕ → Reply
reply status kind body = record { status = status; kind = kind; body = body }

-- its bytes on a link
abbrev pub text_of : Reply → List ℕ
text_of r = reply_text r.status r.kind r.body

-- ---- good ones

abbrev pub begun : List ℕ → Reply
begun channel = reply 201 Json (begun_body channel)

abbrev pub acked : ℕ → ℕ → Reply
acked number run = reply 200 Json (acked_body number run)

abbrev pub acks : List Bool → Reply
acks values = reply 200 Json (acks_body values)

-- a listing, or the lines of events
abbrev pub plain : List ℕ → Reply
plain text = reply 200 Plain text

-- ---- of faults

abbrev pub http_status : HttpFault → ℕ
http_status http.BadHead = 400
http_status http.NoRoute = 404
http_status http.WrongMethod = 405
http_status http.NoLength = 411
http_status http.Encoded = 415
http_status http.TooLong = 413
http_status http.BadQuery = 400
http_status http.BadBody = 400

abbrev pub refusal_status : Refusal → ℕ
refusal_status refusals.Closed = 500
refusal_status refusals.NoChannel = 404
refusal_status refusals.ChannelOpen = 409
refusal_status refusals.UnknownIndex = 404
refusal_status refusals.NoBucket = 404
refusal_status refusals.NotArchived = 404
refusal_status refusals.AlreadyThawed = 404
refusal_status refusals.TooManyChannels = 429
refusal_status refusals.Full = 507
refusal_status refusals.NoMemory = 503

abbrev pub unread : HttpFault → Reply
unread fault = reply (http_status fault) Json (error_body (name_of fault))

abbrev pub refused : Refusal → Reply
refused refusal = reply (refusal_status refusal) Json (error_body (refusal_name refusal))

abbrev pub broken : CommitFault → Reply
broken cause = reply 500 Json (error_body (commit_name cause))

-- want of memory
abbrev pub no_memory : Reply
no_memory = refused refusals.NoMemory

-- ---- events

abbrev pub most_lines : ℕ
most_lines = 16777216

abbrev pub lines_reply : List ℕ → Reply
lines_reply lines = if nat_le (length lines) most_lines then plain lines else unread http.TooLong

-- the lines of an index, which is seen or not
abbrev pub events_reply : Bool → List ℕ → Reply
events_reply seen lines = if seen then lines_reply lines else refused refusals.UnknownIndex
