-- What follows of every list of steps over one thread's parts, from what each of its events does.
use Rattle.std.specs.Prelude.{◌≡◌, ℕ, ◌+◌, ◌≤◌, ◌↔◌, List, [], ◌++◌, length, Option, Some, Ok}
use Rattle.std.specs.Prelude.{slice_get}
use Rattle.std.specs.Option.{option_to_list}
use Rattle.deed_core.specs.Tag.{Tag}
use Rattle.deed_core.specs.Covering.{covering_held}
use Rattle.tag_arena.specs.ArenaState.{spans_of}
use Rattle.arena_tree.specs.Events.{Pop}
use Rattle.arena_tree.specs.Plans.{Plan, Path, Handles}
use Rattle.stock.specs.Spaces.{SpaceState}
use Rattle.stock.specs.Accounts.{IsAccounted}
use Rattle.stock.specs.Sums.{Out, all_out, homes_of, all_homes}
use Rattle.stock.specs.OwnCaches.{OwnCacheState}
use Rattle.local_parts.specs.Cpus.{HasNoRounds, cpu_rounds}
use Rattle.local_parts.specs.States.{LocalState, Conserves}
use Rattle.local_parts.specs.Steps.{LocalStep, IsSetUpAs}

-- Whatever a list of steps does, and whoever else holds segments: where the accounts balance with
-- what the hand holds before it, they balance with what the hand holds after it.
abbrev pub PlanConserves : Type 0 → Type 0
PlanConserves A = (left : A → Option Tag) (p : Plan A) (hand : Option Tag) → Handles left p hand
    → (old new : LocalState) (a : A) → Path LocalStep p old new a → Conserves old hand new (left a)

-- It leaves the arenas and the caches as they were set up.
abbrev pub PlanKeepsSetup : Type 0 → Type 0
PlanKeepsSetup A = (p : Plan A) (old new : LocalState) (a : A) → Path LocalStep p old new a
    → IsSetUpAs old new

-- where the segments are that are out: in this hand and this CPU's magazines, and others
abbrev pub out_with : LocalState → Option Tag → Out → Out
out_with s hand others = record {
  hands = option_to_list hand ++ others.hands;
  leases = others.leases;
  rounds = cpu_rounds s.cpu ++ others.rounds;
}

-- After it each unit of an arena's spans is in one home, and no other unit in any.
abbrev pub PlanInOneHome : Type 0 → Type 0
PlanInOneHome A = (left : A → Option Tag) (p : Plan A) (hand : Option Tag) → Handles left p hand
    → (old new : LocalState) (a : A) → Path LocalStep p old new a
    → (others : Out) → IsAccounted old.spaces (all_out (out_with old hand others))
    → (k : ℕ) (s : SpaceState) → slice_get new.spaces k ≡ Some s → (u : ℕ)
    → (covering_held u (all_homes (homes_of new.spaces (out_with new (left a) others) s))
    ≡ covering_held u (spans_of s.arena))
    × (covering_held u (spans_of s.arena) ≤ 1)

-- A CPU's magazines are all empty just where it holds nothing that is out of the stock.
abbrev pub EmptyHasNoRounds : Type 0
EmptyHasNoRounds = (cpu : List (List OwnCacheState)) → HasNoRounds cpu ↔ (cpu_rounds cpu ≡ [])

-- A pop that gives a round leaves the CPU one round less.
abbrev pub PopTakesRound : Type 0
PopTakesRound = (old new : LocalState) (arena cache : ℕ) (t : Tag)
    → LocalStep old (Pop arena cache) (Ok (Some t)) new
    → length (cpu_rounds new.cpu) + 1 ≡ length (cpu_rounds old.cpu)
