-- What lines leave empty, and when a lease is to be asked for again.
use Rattle.std.specs.Prelude.{◌≡◌, ◌≢◌, ◌⊎◌, ℕ, codes, List, [], All, Contains, Ok}
use Rattle.arena_tree.specs.declared.trees.TreeArena.{TreeArena}
use Rattle.stock.specs.OwnCaches.{all_own_rounds}
use Rattle.lease_terms.specs.Requests.{RequestId}
use Rattle.lease_book.specs.BookState.{leased_segments, account_in}
use Rattle.lease_book.specs.Answers.{IsNew}
use Rattle.lease_proto.specs.declared.faults.ErrorWord.TheVariants.{Memory}
use Rattle.lease_proto.specs.declared.lines.LeaseLine.{LeaseLine}
use Rattle.lease_proto.specs.declared.lines.Op.TheVariants as ops
use Rattle.lease_proto.specs.declared.operators.OperatorLine.TheVariants as operator
use Rattle.lease_proto.specs.declared.operators.ServedLine.TheVariants as served
use Rattle.lease_proto.specs.Faults.{error_text}
use Rattle.lease_proto.specs.Operators.{served_of}
use Rattle.lease_proto.specs.Requests.{demand_of, again_of}
use Rattle.lease_machine.specs.Picture.{NumberedCpu, Picture, Finds, caches_of}
use Rattle.lease_machine.specs.Operators.{IsReapedOut}
use Rattle.lease_machine.specs.Serving.{CanServe}
use Rattle.lease_machine.specs.Machine.{LeaseStep}
use Rattle.lease_machine.specs.AnswerLaws.{reply_bytes, IsRequestLine}
use Rattle.lease_machine.specs.RoomLaws.{NothingIsKept}

-- the magazines of the CPU are empty
abbrev pub CpuHasNoRound : NumberedCpu → Type 0
CpuHasNoRound c = all_own_rounds (caches_of c) ≡ []

-- the line `reap`, whatever it is answered, leaves no round that may be reaped, and no complete
-- slab
abbrev pub ReapLeavesNone : Type 0
ReapLeavesNone = (old new : Picture) (text : List ℕ) → LeaseStep old (codes "reap") text new
    → All (λ s. All IsReapedOut s.caches) new.spaces

-- after a line `offline N` that isn't answered `error memory` that CPU has no round, and each other
-- is as it was
abbrev pub OfflineHasNoRound : Type 0
OfflineHasNoRound = (old new : Picture) (n : ℕ) (line text : List ℕ)
    → served_of line ≡ Ok (served.Operator (operator.Offline n)) → LeaseStep old line text new
    → (text ≡ error_text Memory)
    ⊎ All (λ c. CpuHasNoRound c ⊎ ((c.number ≢ n) × Contains old.cpus c)) new.cpus

-- where nothing is leased and no CPU has a round, `tick` and then `reap` leave nothing kept
abbrev pub TickAndReapEmpty : Type 0
TickAndReapEmpty = (old mid new : Picture) (told text : List ℕ) → leased_segments old.book ≡ []
    → All CpuHasNoRound old.cpus → LeaseStep old (codes "tick") told mid
    → LeaseStep mid (codes "reap") text new → NothingIsKept new

-- a lease of a new number is answered `again` only where something serves it
abbrev pub AgainMeansRoom : Type 0
AgainMeansRoom = (old new : Picture) (id : RequestId) (l : LeaseLine) (line text : List ℕ)
    → IsRequestLine line id (ops.Lease l) → IsNew (account_in id.client old.book) id
    → LeaseStep old line text new → text ≡ reply_bytes (again_of id)
    → (index : ℕ) × (x : TreeArena) × Finds old l.arena index x
    × CanServe old index x (demand_of l)
