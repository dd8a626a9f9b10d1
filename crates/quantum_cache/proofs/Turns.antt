-- Turns of a drain, put together.
use Rattle.std.proofs.Common.{◌≡◌, ℕ, ◌+◌, ◌≤◌, zero, suc, ◌<◌, List, Some, None, Ok, false, arith}
use Rattle.deed_core.specs.Tag.{Tag}
use Rattle.arena_tree.specs.Sound.{PopsRound}
use Rattle.arena_tree.specs.Stops.{Counts}
use Rattle.arena_tree.specs.Chains.{Node}
use Rattle.arena_tree.specs.Events.{Event, AnswerTo}
use Rattle.arena_tree.specs.Plans.{Ran}
use Rattle.arena_tree.proofs.LawProofs.{ran_then, ran_done}
use Rattle.quantum_cache.specs.Drains.{EmptyingEnd, DrainEnd, drain_end, drain_turn, drain_cache_plan, on_turn}

module _ {S : Type 0} (step : S → (e : Event) → AnswerTo e → S → Type 0) (tree : S → List Node) (count : S → ℕ) (rounds : S → ℕ) where
  pub drain_ends : (arena cache : ℕ) (r : EmptyingEnd) (s t : S) → Ran step tree count rounds (drain_turn arena cache) s t (Some r) → (turns : ℕ) → rounds s < turns → Ran step tree count rounds (drain_cache_plan turns arena cache) s t (drain_end r)
  drain_ends arena cache r s t d zero lt = absurd (omega (arith, lt))
  drain_ends arena cache r s t d (suc n) lt = ran_then step tree count rounds (drain_turn arena cache) (on_turn (drain_cache_plan n arena cache)) s t t (Some r) (drain_end r) d (ran_done step tree count rounds t (drain_end r))

  pub drain_again : (arena cache : ℕ) (a : DrainEnd) (s m t : S) → Ran step tree count rounds (drain_turn arena cache) s m None → rounds m < rounds s → ((turns : ℕ) → rounds m < turns → Ran step tree count rounds (drain_cache_plan turns arena cache) m t a)
      → (turns : ℕ) → rounds s < turns → Ran step tree count rounds (drain_cache_plan turns arena cache) s t a
  drain_again arena cache a s m t d less rest zero lt = absurd (omega (arith, lt))
  drain_again arena cache a s m t d less rest (suc n) lt = ran_then step tree count rounds (drain_turn arena cache) (on_turn (drain_cache_plan n arena cache)) s m t None a d (rest n (omega (arith, lt, less)))

-- a round that is popped pays for the lock that puts it back
pub turn_counts : (c c' c'' r r' r'' : ℕ) (t : Tag) → Counts false 0 c c' → PopsRound (Ok (Some t)) r r' → c'' ≤ c' + 1 → r'' ≡ r' → c'' + r'' ≤ c + r
turn_counts c c' c'' r r' r'' t counted moved put same = omega (arith, counted, moved, put, same)
