-- That lines have answers: from each picture there is a step of these, and which.
use Rattle.std.specs.Prelude.{◌≡◌, ◌⊎◌, ℕ, ◌<◌, List, map, flat_map, Ok, Err}
use Rattle.magazine_layer.specs.Depots.{after_tick}
use Rattle.lease_terms.specs.Requests.{RequestId}
use Rattle.lease_terms.specs.declared.refusals.Refusal.{Refusal}
use Rattle.lease_terms.specs.declared.refusals.Refusal.TheVariants.{Leases}
use Rattle.lease_proto.specs.declared.faults.LineFault.{LineFault}
use Rattle.lease_proto.specs.declared.lines.Line.TheVariants as lines
use Rattle.lease_proto.specs.declared.lines.HelloLine.{HelloLine}
use Rattle.lease_proto.specs.declared.lines.Op.{Op}
use Rattle.lease_proto.specs.declared.lines.Op.TheVariants as ops
use Rattle.lease_proto.specs.declared.lines.ReleaseLine.{ReleaseLine}
use Rattle.lease_proto.specs.declared.operators.OperatorLine.TheVariants as operator
use Rattle.lease_proto.specs.declared.operators.ResizeLine.{ResizeLine}
use Rattle.lease_proto.specs.declared.operators.ServedLine.TheVariants as served
use Rattle.lease_proto.specs.declared.replies.Reply.{Reply}
use Rattle.lease_proto.specs.declared.replies.Reply.TheVariants as reply
use Rattle.lease_proto.specs.Cpus.{IsCpu}
use Rattle.lease_proto.specs.Faults.{error_line}
use Rattle.lease_proto.specs.Operators.{served_of, rounds_named}
use Rattle.lease_proto.specs.Reports.{ok_text}
use Rattle.lease_book.specs.Answers.{IsNew}
use Rattle.lease_book.specs.BookState.{account_in}
use Rattle.lease_book.specs.Reports.{report_of}
use Rattle.lease_machine.specs.Picture.{Picture, IsPicture, SameSetup, BookAlone}
use Rattle.arena_tree.specs.Trees.{arena_named}
use Rattle.lease_machine.specs.Operators.{Resizes, with_cpu, with_depots_by, audit_texts_of}
use Rattle.lease_machine.specs.Operators.{client_text_of}
use Rattle.lease_machine.specs.Machine.{LeaseStep, RefusesLease, Releases, RefusesRelease}
use Rattle.lease_machine.specs.AnswerLaws.{reply_bytes, IsRequestLine}
use Rattle.lease_machine.specs.RoomLaws.{refusal_to}
use Rattle.lease_history.specs.Told.{IsKnownReply}

-- bytes that are no line: by its error line
abbrev pub FaultsAreAnswered : Type 0
FaultsAreAnswered = (d : Picture) (line : List ℕ) (fault : LineFault) → IsPicture d
    → served_of line ≡ Err fault → LeaseStep d line (error_line fault) d

-- a request by its number, where that isn't new: by the reply that is known
abbrev pub KnownAreAnswered : Type 0
KnownAreAnswered = (d : Picture) (line : List ℕ) (id : RequestId) (op : Op) (r : Reply)
    → IsPicture d → IsRequestLine line id op → IsKnownReply (arena_named d.tree) d.book id r
    → LeaseStep d line (reply_bytes r) d

-- a hello of an older incarnation than the client's: by that one
abbrev pub OldHellosAreAnswered : Type 0
OldHellosAreAnswered = (d : Picture) (line : List ℕ) (h : HelloLine) → IsPicture d
    → served_of line ≡ Ok (served.Client (lines.Hello h))
    → h.incarnation < (account_in h.client d.book).incarnation
    → LeaseStep d line (reply_bytes (reply.Old (record {
      client = h.client;
      current = (account_in h.client d.book).incarnation;
    }))) d

-- the lines that only tell: by what there is
abbrev pub AuditsAreAnswered : Type 0
AuditsAreAnswered = (d : Picture) (line : List ℕ) → IsPicture d
    → served_of line ≡ Ok (served.Operator operator.Audit)
    → LeaseStep d line (audit_texts_of d d.tree d.spaces) d

abbrev pub ClientsAreTold : Type 0
ClientsAreTold = (d : Picture) (line : List ℕ) → IsPicture d
    → served_of line ≡ Ok (served.Operator operator.Clients)
    → LeaseStep d line (flat_map client_text_of (map report_of d.book.accounts)) d

-- the selection of a CPU
abbrev pub CpusAreSelected : Type 0
CpusAreSelected = (d : Picture) (line : List ℕ) (n : ℕ) → IsPicture d → IsCpu n
    → served_of line ≡ Ok (served.Operator (operator.Cpu n))
    → LeaseStep d line ok_text (record d { cpus = with_cpu n d; selected = n })

-- a tick
abbrev pub TicksAreAnswered : Type 0
TicksAreAnswered = (d : Picture) (line : List ℕ) → IsPicture d
    → served_of line ≡ Ok (served.Operator operator.Tick)
    → LeaseStep d line ok_text
    (record d { spaces = map (with_depots_by after_tick) d.spaces })

-- a new size for the magazines of an arena, whether it isn't there, has none that are smaller, or
-- has some
abbrev pub ResizesAreAnswered : Type 0
ResizesAreAnswered = (d new : Picture) (line text : List ℕ) (r : ResizeLine) → IsPicture d
    → served_of line ≡ Ok (served.Operator (operator.Resize r))
    → Resizes r.arena (rounds_named r.size) d text new → LeaseStep d line text new

-- a new release is settled however little memory there is: the lease ends, or it is refused by the
-- first word that is so
abbrev pub ReleasesAreSettled : Type 0
ReleasesAreSettled = (old new : Picture) (line text : List ℕ) (id : RequestId) (l : ReleaseLine)
    → IsRequestLine line id (ops.Release l) → IsNew (account_in id.client old.book) id
    → LeaseStep old line text new
    → ((text ≡ reply_bytes (reply.Released id)) × Releases id l old new)
    ⊎ ((why : Refusal) × (text ≡ reply_bytes (refusal_to id why)) × RefusesRelease id l old why)

-- a new request is refused so, and nothing has to move for that
abbrev pub RefusesStill : RequestId → Op → Picture → Refusal → Type 0
RefusesStill id (ops.Release l) d why = RefusesRelease id l d why
RefusesStill id (ops.Lease l) d Leases = ⊥
RefusesStill id (ops.Lease l) d why = RefusesLease id l d d why

-- and then it is answered so, and at most the book changes: a release of an arena that isn't there
-- or of what isn't leased; a lease of an arena that isn't there, a bad one, one that nothing serves
abbrev pub RefusalsAreAnswered : Type 0
RefusalsAreAnswered = (d : Picture) (line : List ℕ) (id : RequestId) (op : Op) (why : Refusal)
    → IsPicture d → IsRequestLine line id op → IsNew (account_in id.client d.book) id
    → RefusesStill id op d why
    → (new : Picture) × BookAlone d new × LeaseStep d line (reply_bytes (refusal_to id why)) new

-- an interval that begins in each depot leaves a picture of the same setup
abbrev pub TicksKeep : Type 0
TicksKeep = (d : Picture) → IsPicture d
    → IsPicture (record d { spaces = map (with_depots_by after_tick) d.spaces })
    × SameSetup d (record d { spaces = map (with_depots_by after_tick) d.spaces })

-- and so do greater magazines
abbrev pub ResizesKeep : Type 0
ResizesKeep = (old new : Picture) (r : ResizeLine) (text : List ℕ) → IsPicture old
    → Resizes r.arena (rounds_named r.size) old text new → IsPicture new × SameSetup old new
