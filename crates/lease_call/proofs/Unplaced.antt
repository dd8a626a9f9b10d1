-- A line that comes to nothing where a segment isn't placed.
use Rattle.std.proofs.Common.{◌≡◌, ℕ, List, Result, Err, refl, sym, subst}
use Rattle.deed_core.specs.Tag.{Tag}
use Rattle.arena_tree.specs.Chains.{Node}
use Rattle.arena_tree.specs.Events.{Event, AnswerTo}
use Rattle.arena_tree.specs.Climbs.{ReturnEnd}
use Rattle.arena_tree.specs.Plans.{Plan, Ran}
use Rattle.arena_tree.specs.Tags.{tag_return_fault}
use Rattle.arena_tree.specs.declared.part_faults.ReturnFault.{ReturnFault}
use Rattle.arena_tree.specs.declared.part_faults.ReturnFault.TheVariants as returning
use Rattle.lease_call.specs.Calls.{BookCall, AnswerOf}
use Rattle.lease_call.specs.CallPlans.{CallPlan, CallRan, over_parts}
use Rattle.lease_call.specs.CallTags.{tag_call_fault, tag_end}
use Rattle.lease_call.specs.Hands.{on_place, unplaced}
use Rattle.lease_call.specs.declared.call_faults.CallFault.{CallFault}
use Rattle.lease_call.proofs.CallPaths.{call_done, call_over}

tagged : {X : Type 0} (tag : X → Tag) (e : ReturnFault X) → unplaced (tag_return_fault tag e) ≡ tag_call_fault tag (unplaced e)
tagged tag (returning.Stuck x) = refl
tagged tag (returning.Stopped x) = refl

module _ {B P D : Type 0} (part : P → (e : Event) → AnswerTo e → P → Type 0) (tree : P → List Node) (count : P → ℕ) (rounds : P → ℕ) (book : B → P → (c : BookCall) → AnswerOf D c → B → P → Type 0) where
  -- the line ends with the segment
  pub call_ends : {X A : Type 0} (tag : X → Tag) (p : Plan ReturnEnd) (rest : CallPlan D (Result A (CallFault Tag))) (b : B) (s m : P) (e : ReturnFault X) (r : Result A (CallFault X)) → r ≡ Err (unplaced e) → Ran part tree count rounds p s m (Err (tag_return_fault tag e))
      → CallRan part tree count rounds book (over_parts p (on_place rest)) b s b m (tag_end tag r)
  call_ends tag p rest b s m e r is ran =
      subst (λ (z : Result _ (CallFault _)). CallRan part tree count rounds book (over_parts p (on_place rest)) b s b m (tag_end tag z)) (sym is)
      (subst (λ (z : CallFault Tag). CallRan part tree count rounds book (over_parts p (on_place rest)) b s b m (Err z)) (tagged tag e)
      (call_over part tree count rounds book p (on_place rest) b s m b m (Err (tag_return_fault tag e)) (Err (unplaced (tag_return_fault tag e))) ran (call_done part tree count rounds book b m (Err (unplaced (tag_return_fault tag e))))))
