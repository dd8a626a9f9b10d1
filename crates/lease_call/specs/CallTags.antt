-- Answers, with each segment as its tag.
use Rattle.std.specs.Prelude.{Option, Some, None, Result, Ok, Err}
use Rattle.deed_core.specs.Tag.{Tag}
use Rattle.lease_terms.specs.Requests.{RequestId}
use Rattle.arena_tree.specs.Tags.{tag_option}
use Rattle.arena_tree.specs.declared.part_faults.Stopped.{Stopped}
use Rattle.lease_book.specs.Receipts.{ReceiptState}
use Rattle.lease_book.specs.declared.words.SweepEnd.{SweepEnd}
use Rattle.lease_book.specs.declared.words.SweepEnd.TheVariants.{Ended, Welcome}
use Rattle.lease_call.specs.declared.call_faults.CallFault.{CallFault}
use Rattle.lease_call.specs.declared.call_faults.CallFault.TheVariants as calling
use Rattle.lease_call.specs.declared.call_faults.NotReleased.{NotReleased}
use Rattle.lease_call.specs.declared.call_faults.NotSettled.{NotSettled}
use Rattle.lease_call.specs.declared.call_faults.NotSettled.TheVariants as settling

abbrev pub tag_released : {X D : Type 0} → (X → Tag) → Result (ReceiptState × X) (NotReleased D)
    → Result (ReceiptState × Tag) (NotReleased D)
tag_released f (Ok r) = Ok (r.0, f r.1)
tag_released f (Err e) = Err e

-- a lease that ended, if one did
abbrev pub tag_swept : {X D : Type 0} → (X → Tag) → Result (SweepEnd X D) Stopped
    → Result (Option (RequestId × Tag)) Stopped
tag_swept f (Ok (Welcome w)) = Ok None
tag_swept f (Ok (Ended id x)) = Ok (Some (id, f x))
tag_swept f (Err e) = Err e

abbrev pub tag_not_settled : {X D : Type 0} → (X → Tag) → NotSettled X D → NotSettled Tag D
tag_not_settled f (settling.NotLeased n) =
    settling.NotLeased (record { segment = f n.segment; answer = n.answer })
tag_not_settled f (settling.Stopped x) = settling.Stopped (f x)

abbrev pub tag_settled : {X D : Type 0} → (X → Tag) → Result ReceiptState (NotSettled X D)
    → Result ReceiptState (NotSettled Tag D)
tag_settled f (Ok r) = Ok r
tag_settled f (Err e) = Err (tag_not_settled f e)

abbrev pub tag_call_fault : {X : Type 0} → (X → Tag) → CallFault X → CallFault Tag
tag_call_fault f (calling.Stuck x) = calling.Stuck (f x)
tag_call_fault f (calling.Stopped o) = calling.Stopped (tag_option f o)

abbrev pub tag_end : {X A : Type 0} → (X → Tag) → Result A (CallFault X) → Result A (CallFault Tag)
tag_end f (Ok x) = Ok x
tag_end f (Err e) = Err (tag_call_fault f e)
