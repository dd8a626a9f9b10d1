-- Whose line it is, the id of its request and what it asks of an arena; and whose request a reply
-- answers.
use Rattle.std.specs.Prelude.{ℕ, ◌==◌, if◌then◌else◌, Option, Some, None}
use Rattle.deed_core.specs.declared.requests.Request.{Request}
use Rattle.lease_terms.specs.Requests.{RequestId}
use Rattle.lease_proto.specs.declared.lines.Line.{Line}
use Rattle.lease_proto.specs.declared.lines.Line.TheVariants as lines
use Rattle.lease_proto.specs.declared.lines.Op.{Op}
use Rattle.lease_proto.specs.declared.replies.Again.{Again}
use Rattle.lease_proto.specs.declared.replies.Reply.{Reply}
use Rattle.lease_proto.specs.declared.replies.Reply.TheVariants as replies
use Rattle.lease_proto.specs.declared.lines.HelloLine.{HelloLine}
use Rattle.lease_proto.specs.declared.lines.LeaseLine.{LeaseLine}

-- the client that sends a line
abbrev pub client_of : Line → ℕ
client_of (lines.Hello h) = h.client
client_of (lines.Request id op) = id.client

-- and its incarnation
abbrev pub incarnation_of : Line → ℕ
incarnation_of (lines.Hello h) = h.incarnation
incarnation_of (lines.Request id op) = id.incarnation

-- the id of a request; a hello has none
abbrev pub request_of : Line → Option RequestId
request_of (lines.Hello h) = None
request_of (lines.Request id op) = Some id

-- what a request asks for; a hello asks for nothing
abbrev pub op_of : Line → Option Op
op_of (lines.Hello h) = None
op_of (lines.Request id op) = Some op

-- what a lease asks of its arena
abbrev pub demand_of : LeaseLine → Request
demand_of l = record {
  size = l.size;
  align = l.options.align;
  phase = l.options.phase;
  nocross = l.options.nocross;
  min = l.options.min;
  max = l.options.max;
}

-- the client that a reply names; an `error` names none
abbrev pub client_named : Reply → Option ℕ
client_named (replies.Welcome r) = Some r.client
client_named (replies.Granted r) = Some r.id.client
client_named (replies.Released id) = Some id.client
client_named (replies.Refused r) = Some r.id.client
client_named (replies.Old r) = Some r.client
client_named (replies.Stale r) = Some r.id.client
client_named (replies.Gap r) = Some r.id.client
client_named (replies.Again r) = Some r.client
client_named (replies.Error error) = None

-- the incarnation of the line that it answers; `old` and `error` don't name it
abbrev pub incarnation_named : Reply → Option ℕ
incarnation_named (replies.Welcome r) = Some r.incarnation
incarnation_named (replies.Granted r) = Some r.id.incarnation
incarnation_named (replies.Released id) = Some id.incarnation
incarnation_named (replies.Refused r) = Some r.id.incarnation
incarnation_named (replies.Old r) = None
incarnation_named (replies.Stale r) = Some r.id.incarnation
incarnation_named (replies.Gap r) = Some r.id.incarnation
incarnation_named (replies.Again r) = Some r.incarnation
incarnation_named (replies.Error error) = None

-- the reply by which nothing came of the request
abbrev pub again_of : RequestId → Reply
again_of id = replies.Again
    (record { client = id.client; incarnation = id.incarnation; number = id.number })

-- the reply by which nothing came of the hello
abbrev pub hello_again_of : HelloLine → Reply
hello_again_of h = replies.Again
    (record { client = h.client; incarnation = h.incarnation; number = 0 })

-- the request that an `again` answers; of a hello, its number is 0
abbrev pub again_request : Again → Option RequestId
again_request a =
    if a.number == 0 then None
    else Some (record { client = a.client; incarnation = a.incarnation; number = a.number })

-- the request that it answers; `welcome`, `old`, `error` and the `again` of a hello name none
abbrev pub request_named : Reply → Option RequestId
request_named (replies.Welcome r) = None
request_named (replies.Granted r) = Some r.id
request_named (replies.Released id) = Some id
request_named (replies.Refused r) = Some r.id
request_named (replies.Old r) = None
request_named (replies.Stale r) = Some r.id
request_named (replies.Gap r) = Some r.id
request_named (replies.Again r) = again_request r
request_named (replies.Error error) = None
