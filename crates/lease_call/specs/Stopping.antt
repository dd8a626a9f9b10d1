-- Lists of steps that a stop ends.
use Rattle.std.specs.Prelude.{◌≡◌, Bool, true, false, Result}
use Rattle.deed_core.specs.Tag.{Tag}
use Rattle.arena_tree.specs.Stops.{is_stopped, refuses_by}
use Rattle.arena_tree.specs.Events.{AnswerTo}
use Rattle.lease_call.specs.Calls.{BookCall, AnswerOf, Look, Settle, Refuse, Release, Hello, Sweep}
use Rattle.lease_call.specs.CallPlans.{CallPlan, Done, Part, Call}
use Rattle.lease_call.specs.Kept.{HandsBack}
use Rattle.lease_call.specs.declared.call_faults.CallFault.{CallFault}
use Rattle.lease_call.specs.declared.call_faults.CallFault.TheVariants as calling
use Rattle.lease_call.specs.declared.call_faults.NotGreeted.{NotGreeted}
use Rattle.lease_call.specs.declared.call_faults.NotGreeted.TheVariants as greeting
use Rattle.lease_call.specs.declared.call_faults.NotReleased.{NotReleased}
use Rattle.lease_call.specs.declared.call_faults.NotReleased.TheVariants as releasing
use Rattle.lease_call.specs.declared.call_faults.NotSettled.{NotSettled}
use Rattle.lease_call.specs.declared.call_faults.NotSettled.TheVariants as settling

abbrev pub settle_stops : {D : Type 0} → NotSettled Tag D → Bool
settle_stops (settling.NotLeased n) = false
settle_stops (settling.Stopped t) = true

abbrev pub release_stops : {D : Type 0} → NotReleased D → Bool
release_stops (releasing.Answered a) = false
release_stops releasing.Stopped = true

abbrev pub hello_stops : {D : Type 0} → NotGreeted D → Bool
hello_stops (greeting.Late f) = false
hello_stops greeting.Stopped = true

-- the answer says that nothing was done
abbrev pub is_stopped_call : (D : Type 0) → (k : BookCall) → AnswerOf D k → Bool
is_stopped_call D (Look id) a = refuses_by (λ _. true) a
is_stopped_call D (Settle id given terms) a = refuses_by settle_stops a
is_stopped_call D (Refuse id why) a = refuses_by (λ _. true) a
is_stopped_call D (Release id arena base) a = refuses_by release_stops a
is_stopped_call D (Hello client incarnation asked) a = refuses_by hello_stops a
is_stopped_call D (Sweep client) a = refuses_by (λ _. true) a

-- and the segment comes back
abbrev pub StoppedCall : (D : Type 0) → (k : BookCall) → AnswerOf D k → Type 0
StoppedCall D k a = (is_stopped_call D k a ≡ true) × HandsBack D k a

-- the line ends as one that was stopped
abbrev pub fault_stops : CallFault Tag → Bool
fault_stops (calling.Stuck t) = false
fault_stops (calling.Stopped o) = true

abbrev pub call_stopped : {A : Type 0} → Result A (CallFault Tag) → Bool
call_stopped r = refuses_by fault_stops r

-- where a step is stopped the list ends at once, as stopped, and else it doesn't end so; `stopped`
-- says it of the last step
abbrev pub StopsLast : {D A : Type 0} → (A → Bool) → CallPlan D A → (stopped : Bool) → Type 0
StopsLast ends (Done a) stopped = ends a ≡ stopped
StopsLast ends (Part e f) true = ⊥
StopsLast ends (Part e f) false = (x : AnswerTo e) → StopsLast ends (f x) (is_stopped e x)
StopsLast ends (Call k f) true = ⊥
StopsLast {D = D} ends (Call k f) false =
    (x : AnswerOf D k) → StopsLast ends (f x) (is_stopped_call D k x)
