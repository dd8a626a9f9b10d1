-- Two arenas, and how they stand under their locks.
use Rattle.std.proofs.Common.{◌≡◌, ℕ, zero, suc, List, [], ◌∷◌, Some, None, sym, subst, length}
use Rattle.std.specs.Prelude.{slice_get}
use Rattle.arena_tree.specs.Chains.{source_of}
use Rattle.arena_tree.specs.Trees.{nodes_of}
use Rattle.arena_tree.specs.declared.trees.TreeArena.{TreeArena}
use Rattle.locked_parts.proofs.Stands.{stand_as_set}
use Rattle.locked_parts.specs.News.{NewArenaState, IsMadeAsSet, StandAsSet, locked_of}
use Rattle.locked_parts.specs.States.{LockedArenaState}

-- they stand as they were set up
pub two_stand : (arenas : List TreeArena) (one two : NewArenaState) (stand : List LockedArenaState) → length arenas ≡ 2 → IsMadeAsSet arenas 0 one → IsMadeAsSet arenas 1 two → stand ≡ locked_of one ∷ locked_of two ∷ [] → StandAsSet arenas stand
two_stand arenas one two stand count first second is = stand_as_set arenas (one ∷ two ∷ []) stand (sym count) (record { each = each }) is
  where
    each : (k : ℕ) (a : NewArenaState) → slice_get (one ∷ two ∷ []) k ≡ Some a → IsMadeAsSet arenas k a
    each zero a at = (let same : one ≡ a = cc in subst (IsMadeAsSet arenas 0) same first)
    each (suc zero) a at = (let same : two ≡ a = cc in subst (IsMadeAsSet arenas 1) same second)
    each (suc (suc k)) a at = absurd (let e : None ≡ Some a = at in cc)

-- the source of the second
pub second_source : (arenas : List TreeArena) (x : TreeArena) → slice_get arenas 1 ≡ Some x → source_of (nodes_of arenas) 1 ≡ x.source
second_source [] x at = absurd (let e : None ≡ Some x = at in cc)
second_source (a ∷ []) x at = absurd (let e : None ≡ Some x = at in cc)
second_source (a ∷ b ∷ arenas) x at = let e : Some b ≡ Some x = at in cc
