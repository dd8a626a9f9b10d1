-- Stages that take a segment, put together.
use Rattle.std.proofs.Common.{ℕ, List, Ok, Err}
use Rattle.deed_core.specs.Tag.{Tag}
use Rattle.arena_tree.specs.declared.part_faults.ReturnFault.TheVariants as returning
use Rattle.arena_tree.specs.Chains.{Node}
use Rattle.arena_tree.specs.Events.{Event, AnswerTo}
use Rattle.arena_tree.specs.Plans.{Plan, then, Ran}
use Rattle.arena_tree.specs.Climbs.{ReturnEnd}
use Rattle.arena_tree.proofs.LawProofs.{ran_then, ran_done}
use Rattle.quantum_cache.specs.Frees.{or_next}
use Rattle.quantum_cache.specs.declared.placings.Placing.{Placing}
use Rattle.quantum_cache.specs.declared.placings.Placing.TheVariants.{Placed, Left, Stopped}

module _ {S : Type 0} (step : S → (e : Event) → AnswerTo e → S → Type 0) (tree : S → List Node) (count : S → ℕ) (rounds : S → ℕ) where
  pub ran_takes : (p : Plan (Placing Tag)) (q : Tag → Plan ReturnEnd) (s t : S) → Ran step tree count rounds p s t Placed → Ran step tree count rounds (then p (or_next q)) s t (Ok tt)
  ran_takes p q s t r = ran_then step tree count rounds p (or_next q) s t t Placed (Ok tt) r (ran_done step tree count rounds t (Ok tt))

  pub ran_stops : (p : Plan (Placing Tag)) (q : Tag → Plan ReturnEnd) (x : Tag) (s t : S) → Ran step tree count rounds p s t (Stopped x) → Ran step tree count rounds (then p (or_next q)) s t (Err (returning.Stopped x))
  ran_stops p q x s t r = ran_then step tree count rounds p (or_next q) s t t (Stopped x) (Err (returning.Stopped x)) r (ran_done step tree count rounds t (Err (returning.Stopped x)))

  pub ran_leaves : (p : Plan (Placing Tag)) (q : Tag → Plan ReturnEnd) (x : Tag) (s m t : S) (a : ReturnEnd) → Ran step tree count rounds p s m (Left x) → Ran step tree count rounds (q x) m t a → Ran step tree count rounds (then p (or_next q)) s t a
  ran_leaves p q x s m t a r r' = ran_then step tree count rounds p (or_next q) s m t (Left x) a r r'
