-- A request, as a list of steps.
use Rattle.std.specs.Prelude.{List, Option}
use Rattle.deed_core.specs.Tag.{Tag}
use Rattle.lease_terms.specs.Requests.{RequestId}
use Rattle.arena_tree.specs.declared.trees.TreeArena.{TreeArena}
use Rattle.lease_proto.specs.declared.lines.Op.{Op}
use Rattle.lease_proto.specs.declared.lines.Op.TheVariants as ops
use Rattle.lease_call.specs.CallPlans.{CallPlan}
use Rattle.lease_call.specs.Hands.{hand_first}
use Rattle.lease_call.specs.Leasing.{lease_plan}
use Rattle.lease_call.specs.Releasing.{CallEnd, release_plan}

-- by what it asks
abbrev pub op_plan : {D : Type 0} → List TreeArena → RequestId → Op → CallPlan D (CallEnd D)
op_plan arenas id (ops.Lease l) = lease_plan arenas id l
op_plan arenas id (ops.Release l) = release_plan arenas id l

-- after the hand
abbrev pub request_plan : {D : Type 0} → List TreeArena → Option Tag → RequestId → Op
    → CallPlan D (CallEnd D)
request_plan arenas hand id op = hand_first arenas hand (op_plan arenas id op)
