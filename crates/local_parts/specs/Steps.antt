-- One event of one thread's parts.
use Rattle.std.specs.Prelude.{◌≡◌, List, Option, length, false}
use Rattle.deed_core.specs.Tag.{Tag}
use Rattle.arena_tree.specs.Events.{Event, AnswerTo, BeginsWith, hand_after, Carve, Free, AddCarve}
use Rattle.arena_tree.specs.Events.{SlabTake, SlabPut, SlabAdd, SlabReap, SwapFull, SwapEmpty}
use Rattle.arena_tree.specs.Events.{SwapFresh, DepotReap, Pop, Push, Change}
use Rattle.arena_tree.specs.declared.trees.TreeArena.{TreeArena}
use Rattle.arena_tree.specs.Sound.{Sound, KeepsRounds}
use Rattle.arena_tree.specs.Stops.{is_stopped}
use Rattle.stock.specs.Spaces.{plans_of}
use Rattle.stock.specs.Stocks.{IsStock}
use Rattle.local_parts.specs.Cpus.{own_indexes, cpu_rounds}
use Rattle.local_parts.specs.States.{LocalState, Conserves, tree_of}
use Rattle.local_parts.specs.SharedSteps.{DoesCarve, DoesFree, DoesImport, DoesTake, DoesPut}
use Rattle.local_parts.specs.SharedSteps.{DoesAdd, DoesReap, DoesDepotReap}
use Rattle.local_parts.specs.OwnSteps.{DoesPop, DoesPush, DoesChange, DoesSwapFull, DoesSwapEmpty}
use Rattle.local_parts.specs.OwnSteps.{DoesSwapFresh}

-- what each event did, by its answer; Stopped never comes
abbrev pub Does : LocalState → (e : Event) → AnswerTo e → LocalState → Type 0
Does old (Carve k q) a new = DoesCarve old.spaces k q a new.spaces × (new.cpu ≡ old.cpu)
Does old (Free t) a new = DoesFree old.spaces t a new.spaces × (new.cpu ≡ old.cpu)
Does old (AddCarve k t n) a new = DoesImport old.spaces k t n a new.spaces × (new.cpu ≡ old.cpu)
Does old (SlabTake k c) a new = DoesTake old.spaces k c a new.spaces × (new.cpu ≡ old.cpu)
Does old (SlabPut t) a new = DoesPut old.spaces t a new.spaces × (new.cpu ≡ old.cpu)
Does old (SlabAdd k c t) a new = DoesAdd old.spaces k c t a new.spaces × (new.cpu ≡ old.cpu)
Does old (SlabReap k c) a new = DoesReap old.spaces k c a new.spaces × (new.cpu ≡ old.cpu)
Does old (DepotReap k c) a new =
    DoesDepotReap old.spaces k c a new.spaces × (new.cpu ≡ old.cpu)
Does old (SwapFull k c) a new = DoesSwapFull old k c a new
Does old (SwapEmpty k c) a new = DoesSwapEmpty old k c a new
Does old (SwapFresh k c) a new = DoesSwapFresh old k c a new
Does old (Pop k c) a new = DoesPop old k c a new
Does old (Push k c t) a new = DoesPush old k c t a new
Does old (Change k c size) a new = DoesChange old k c size a new

-- the same arenas and caches, set up alike
pub record IsSetUpAs (old new : LocalState) : Type 0 where
  pub plans : plans_of new.spaces ≡ plans_of old.spaces
  pub indexes : own_indexes new.cpu ≡ own_indexes old.cpu

-- the event did that, and with the hand it keeps the accounts, the stock's laws and the setup
pub record LocalStep (old : LocalState) (event : Event) (answer : AnswerTo event)
    (new : LocalState) : Type 0 where
  pub does : Does old event answer new
  pub conserves : (hand : Option Tag) → BeginsWith event hand
      → Conserves old hand new (hand_after event answer hand)
  pub stock : IsStock new.spaces
  pub setup : IsSetUpAs old new

-- the event, with all that a step of `Parts` wants of it
pub record WholeStep (old : LocalState) (event : Event) (answer : AnswerTo event)
    (new : LocalState) : Type 0 where
  pub step : LocalStep old event answer new
  pub sound : (sizes : List TreeArena)
      → Sound (tree_of (plans_of old.spaces) sizes) event answer
  pub moved : KeepsRounds event answer (length (cpu_rounds old.cpu)) (length (cpu_rounds new.cpu))
  pub goes : is_stopped event answer ≡ false
