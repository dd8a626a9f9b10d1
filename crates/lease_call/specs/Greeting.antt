-- A hello, as a list of steps, and the reply to what it comes to.
use Rattle.std.specs.Prelude.{ℕ, zero, suc, List, Option, Some, None, Result, Ok, Err}
use Rattle.deed_core.specs.Tag.{Tag}
use Rattle.lease_terms.specs.Requests.{RequestId}
use Rattle.arena_tree.specs.declared.part_faults.Stopped.{Stopped}
use Rattle.arena_tree.specs.declared.trees.TreeArena.{TreeArena}
use Rattle.lease_proto.specs.Requests.{hello_again_of}
use Rattle.lease_proto.specs.declared.lines.HelloLine.{HelloLine}
use Rattle.lease_proto.specs.declared.replies.Reply.{Reply}
use Rattle.lease_proto.specs.declared.replies.Reply.TheVariants as reply
use Rattle.lease_book.specs.Words.{Greeted}
use Rattle.lease_book.specs.declared.answers.HelloFault.{HelloFault}
use Rattle.lease_book.specs.declared.answers.HelloFault.TheVariants as fault
use Rattle.lease_call.specs.Calls.{Hello, Sweep}
use Rattle.lease_call.specs.CallPlans.{CallPlan, Done, Call}
use Rattle.lease_call.specs.Hands.{hand_first, place_first}
use Rattle.lease_call.specs.declared.call_faults.CallFault.{CallFault}
use Rattle.lease_call.specs.declared.call_faults.CallFault.TheVariants as calling
use Rattle.lease_call.specs.declared.call_faults.NotGreeted.{NotGreeted}
use Rattle.lease_call.specs.declared.call_faults.NotGreeted.TheVariants as greeting
use Rattle.lease_call.specs.declared.outcomes.Greeting.{Greeting}
use Rattle.lease_call.specs.declared.outcomes.Greeting.TheVariants.{Welcome, Late, Unswept}

-- what a hello ends with
abbrev pub HelloEnd : Type 0 → Type 0
HelloEnd D = Result (Greeting D) (CallFault Tag)

-- the reply to a hello that isn't taken
abbrev pub hello_refusal : {D : Type 0} → HelloLine → HelloFault D → Reply
hello_refusal h (fault.Old current) = reply.Old (record { client = h.client; current = current })
hello_refusal h fault.NoMemory = hello_again_of h

-- the reply to what a hello came to, a welcome by the protocol that stands; where leases of older
-- incarnations may be left, the hello may be sent once more
abbrev pub reply_of_greeting : {D : Type 0} → HelloLine → Greeting D → Reply
reply_of_greeting h (Welcome w) = reply.Welcome
    (record { client = h.client; incarnation = h.incarnation; protocol = w.protocol })
reply_of_greeting h (Late f) = hello_refusal h f
reply_of_greeting h Unswept = hello_again_of h

-- a lease ended, and what it was of goes back, and so on; where none is left, the hello that was
-- taken is welcome
abbrev pub on_sweep : {D : Type 0} → List TreeArena → Greeted → CallPlan D (HelloEnd D)
    → Result (Option (RequestId × Tag)) Stopped → CallPlan D (HelloEnd D)
on_sweep arenas taken rest (Ok None) = Done (Ok (Welcome taken))
on_sweep arenas taken rest (Ok (Some r)) = place_first arenas r.1 rest
on_sweep arenas taken rest (Err e) = Done (Err (calling.Stopped None))

-- one sweep after another, until one finds no lease, or so many were made
abbrev pub sweep_plan : {D : Type 0} → List TreeArena → Greeted → (turns : ℕ)
    → CallPlan D (HelloEnd D)
sweep_plan arenas taken zero = Done (Ok Unswept)
sweep_plan arenas taken (suc turns) =
    Call (Sweep taken.client) (on_sweep arenas taken (sweep_plan arenas taken turns))

-- the book takes the hello, and then its client's leases of older incarnations end
abbrev pub on_hello : {D : Type 0} → List TreeArena → (turns : ℕ)
    → Result Greeted (NotGreeted D) → CallPlan D (HelloEnd D)
on_hello arenas turns (Ok taken) = sweep_plan arenas taken turns
on_hello arenas turns (Err (greeting.Late f)) = Done (Ok (Late f))
on_hello arenas turns (Err greeting.Stopped) = Done (Err (calling.Stopped None))

abbrev pub greet_plan : {D : Type 0} → List TreeArena → HelloLine → ℕ → CallPlan D (HelloEnd D)
greet_plan arenas h turns =
    Call (Hello h.client h.incarnation h.protocol) (on_hello arenas turns)

-- after the hand
abbrev pub hello_plan : {D : Type 0} → List TreeArena → Option Tag → HelloLine → ℕ
    → CallPlan D (HelloEnd D)
hello_plan arenas hand h turns = hand_first arenas hand (greet_plan arenas h turns)
