-- A segment that goes back first, and then the rest.
use Rattle.std.specs.Prelude.{List, Option, Some, None, Result, Ok, Err}
use Rattle.deed_core.specs.Tag.{Tag}
use Rattle.arena_tree.specs.Climbs.{ReturnEnd}
use Rattle.arena_tree.specs.declared.part_faults.ReturnFault.{ReturnFault}
use Rattle.arena_tree.specs.declared.part_faults.ReturnFault.TheVariants as returning
use Rattle.arena_tree.specs.declared.trees.TreeArena.{TreeArena}
use Rattle.lease_call.specs.CallPlans.{CallPlan, Done, over_parts}
use Rattle.lease_call.specs.Placing.{place_plan}
use Rattle.lease_call.specs.declared.call_faults.CallFault.{CallFault}
use Rattle.lease_call.specs.declared.call_faults.CallFault.TheVariants as calling

-- why a line comes to nothing where a segment isn't placed
abbrev pub unplaced : {X : Type 0} → ReturnFault X → CallFault X
unplaced (returning.Stuck x) = calling.Stuck x
unplaced (returning.Stopped x) = calling.Stopped (Some x)

-- then nothing else comes
abbrev pub on_place : {D A : Type 0} → CallPlan D (Result A (CallFault Tag)) → ReturnEnd
    → CallPlan D (Result A (CallFault Tag))
on_place rest (Ok u) = rest
on_place rest (Err e) = Done (Err (unplaced e))

abbrev pub place_first : {D A : Type 0} → List TreeArena → Tag
    → CallPlan D (Result A (CallFault Tag)) → CallPlan D (Result A (CallFault Tag))
place_first arenas t rest = over_parts (place_plan arenas t) (on_place rest)

-- what a line before left in the hand, if it left something
abbrev pub hand_first : {D A : Type 0} → List TreeArena → Option Tag
    → CallPlan D (Result A (CallFault Tag)) → CallPlan D (Result A (CallFault Tag))
hand_first arenas None rest = rest
hand_first arenas (Some t) rest = place_first arenas t rest

-- what a line leaves in the hand where it comes to nothing
abbrev pub left_in_hand : {X : Type 0} → CallFault X → Option X
left_in_hand (calling.Stuck x) = Some x
left_in_hand (calling.Stopped o) = o
