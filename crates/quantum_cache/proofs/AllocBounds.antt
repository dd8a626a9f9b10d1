-- How many locks an allocation takes.
use Rattle.std.proofs.Common.{ℕ, ◌+◌, ◌-◌, ◌*◌, ◌≤◌, List, [], ◌∷◌, Option, Some, None, Result, Ok, Err, length, arith}
use Rattle.deed_core.specs.Tag.{Tag}
use Rattle.arena_tree.specs.declared.limits.TheConstants.{LONGEST_CHAIN}
use Rattle.arena_tree.specs.declared.levels.Level.{Level}
use Rattle.arena_tree.specs.declared.part_faults.ClimbFault.TheVariants as climbing
use Rattle.arena_tree.specs.declared.part_faults.PartFault.{PartFault}
use Rattle.arena_tree.specs.declared.part_faults.GivenFault.{GivenFault}
use Rattle.slab_layer.specs.declared.faults.AddFault.{AddFault}
use Rattle.magazine_layer.specs.declared.faults.FullFault.{FullFault}
use Rattle.arena_tree.specs.declared.part_faults.PartFault.TheVariants as asking
use Rattle.arena_tree.specs.declared.part_faults.GivenFault.TheVariants as giving
use Rattle.tag_arena.specs.declared.faults.ArenaFault.TheVariants as carving
use Rattle.slab_layer.specs.declared.faults.AddFault.TheVariants as slabbing
use Rattle.magazine_layer.specs.declared.faults.FullFault.TheVariants as fulling
use Rattle.arena_tree.specs.Plans.{Plan, Done, then, or_else, Within}
use Rattle.arena_tree.specs.Climbs.{ClimbEnd, climb_plan, memory_refusal, climb_most}
use Rattle.arena_tree.proofs.LawProofs.{within_then, within_refused, within_climb}
use Rattle.quantum_cache.specs.Sizes.{cache_for}
use Rattle.quantum_cache.specs.Allocs.{Stage, take_round, change_over, on_swap_full, take_from_depot, take_chunk, on_slab_add, make_slab, on_slab_climb, take_from_slab, alloc_cached, alloc_steps}
use Rattle.quantum_cache.specs.Laws.{AllocIsShort}

-- a stage, and those after it
within_or_else : {A : Type 0} (most : A → ℕ) (stage : Option A → ℕ) (p : Plan (Option A)) (q : Plan A) (n : ℕ) → Within stage p n → ((a : A) → stage (Some a) ≤ most a) → ((m : ℕ) → m ≤ stage None → Within most q m) → Within most (then p (or_else q)) n
within_or_else {A} most stage p q n w gives next = within_then stage most p (or_else q) n w go
  where
    go : (a : Option A) (m : ℕ) → m ≤ stage a → Within most (or_else q a) m
    go None m le = next m le
    go (Some a) m le = let h = gives a in omega arith

-- no lock
within_round : (arena cache n : ℕ) → Within (λ (s : Stage). n) (take_round arena cache) n
unfolding take_round
within_round arena cache n = λ x. omega arith

-- one lock
within_depot : (arena cache n : ℕ) → Within (λ (s : Stage). n + 1) (take_from_depot arena cache) n
unfolding take_from_depot take_round change_over
within_depot arena cache n = swapped
  where
    swapped : (x : Result (Unit {0}) (PartFault FullFault)) → Within (λ (s : Stage). n + 1) (on_swap_full arena cache x) (n + 1)
    swapped (Ok u) = λ x. omega arith
    swapped (Err (asking.Refused (fulling.OldSize m))) = λ x. omega arith
    swapped (Err (asking.Refused fulling.NoneFull)) = omega arith
    swapped (Err asking.Stopped) = omega arith

within_chunk : (arena cache n : ℕ) → Within (λ (s : Stage). n + 1) (take_chunk arena cache) n
unfolding take_chunk
within_chunk arena cache n = λ x. omega arith

-- a climb that found nothing takes as many as the chain has arenas; else three for each, and then one for the slab
abbrev slab_most : ℕ → ℕ → Stage → ℕ
slab_most n depth None = n + depth
slab_most n depth (Some r) = n + 3 * depth

slab_within : (most : ClimbEnd → ℕ) (chain : List Level) (x : Result Tag (GivenFault (AddFault Tag) Tag)) (n : ℕ) → ((r : ClimbEnd) → n + length chain ≤ most r) → Within most (on_slab_add chain x) n
slab_within most chain (Ok t) n le = let h = le (Ok t) in omega arith
slab_within most chain (Err (giving.Refused (slabbing.WrongSize t))) n le = let h = le (Err (climbing.Stuck t)) in omega arith
slab_within most chain (Err (giving.Refused (slabbing.Overlaps t))) n le = let h = le (Err (climbing.Stuck t)) in omega arith
slab_within most chain (Err (giving.Stopped t)) n le = let h = le (Err (climbing.Stopped (Some t))) in omega arith
slab_within most chain (Err (giving.Refused (slabbing.NoMemory t))) n le = within_refused most chain t n (λ r. le (memory_refusal r))

-- after the climb
within_climbed : (chain : List Level) (arena cache n : ℕ) (x : ClimbEnd) (m : ℕ) → 1 ≤ length chain → m ≤ n + climb_most (length chain) x → Within (slab_most n (length chain)) (on_slab_climb chain arena cache x) m
unfolding make_slab
within_climbed chain arena cache n (Ok span) m some low =
    within_then (λ (r : ClimbEnd). n + 3 * length chain) (slab_most n (length chain)) (make_slab chain arena cache span) (λ r. Done (Some r)) m (λ x. slab_within (λ (r : ClimbEnd). n + 3 * length chain) chain x (m + 1) (λ r. omega arith)) (λ r k le. le)
within_climbed chain arena cache n (Err (climbing.Refused carving.BadRequest)) m some low = omega arith
within_climbed chain arena cache n (Err (climbing.Refused carving.NoFit)) m some low = omega arith
within_climbed chain arena cache n (Err (climbing.Refused carving.NoMemory)) m some low = omega arith
within_climbed chain arena cache n (Err (climbing.Stuck t)) m some low = omega arith
within_climbed chain arena cache n (Err (climbing.Stopped o)) m some low = omega arith

within_slab : (chain : List Level) (l : Level) (cache n : ℕ) → 1 ≤ length chain → Within (slab_most n (length chain)) (take_from_slab chain l cache) n
unfolding take_from_slab
within_slab chain l cache n some =
    within_then (λ (r : ClimbEnd). n + climb_most (length chain) r) (slab_most n (length chain)) (climb_plan chain l.slab_size) (on_slab_climb chain l.id cache) n (within_climb (λ (r : ClimbEnd). n + climb_most (length chain) r) chain l.slab_size n (λ r. omega arith))
    (λ x m low. within_climbed chain l.id cache n x m some low)

-- a climb after so many locks
climb_after : (chain : List Level) (size n most : ℕ) → 1 ≤ length chain → n + (3 * length chain - 2) ≤ most → Within (λ (r : ClimbEnd). most) (climb_plan chain size) n
climb_after chain size n most some le = within_climb (λ (r : ClimbEnd). most) chain size n fits
  where
    fits : (r : ClimbEnd) → n + climb_most (length chain) r ≤ most
    fits (Ok t) = omega arith
    fits (Err (climbing.Refused carving.BadRequest)) = omega arith
    fits (Err (climbing.Refused carving.NoFit)) = omega arith
    fits (Err (climbing.Refused carving.NoMemory)) = omega arith
    fits (Err (climbing.Stuck t)) = omega arith
    fits (Err (climbing.Stopped o)) = omega arith

within_cached : (chain : List Level) (l : Level) (cache n : ℕ) → 1 ≤ length chain → length chain ≤ LONGEST_CHAIN → Within (λ (r : ClimbEnd). 8 + 2 * length chain) (alloc_cached chain l cache n) 0
unfolding alloc_cached
within_cached chain l cache n some small =
    let most : ClimbEnd → ℕ = λ r. 8 + 2 * length chain in
    within_or_else most (λ (s : Stage). 0) (take_round l.id cache) _ 0 (within_round l.id cache 0) (λ a. omega arith)
    (λ m le. within_or_else most (λ (s : Stage). m + 1) (take_from_depot l.id cache) _ m (within_depot l.id cache m) (λ a. omega arith)
    (λ m' le'. within_or_else most (λ (s : Stage). m' + 1) (take_chunk l.id cache) _ m' (within_chunk l.id cache m') (λ a. omega arith)
    (λ k low. within_or_else most (slab_most k (length chain)) (take_from_slab chain l cache) _ k (within_slab chain l cache k some) (λ a. omega arith)
    (λ j top. climb_after chain n j (8 + 2 * length chain) some (omega arith)))))

within_by : (o : Option ℕ) (chain : List Level) (l : Level) (n : ℕ) → 1 ≤ length chain → length chain ≤ LONGEST_CHAIN → Within (λ (r : ClimbEnd). 8 + 2 * length chain) (alloc_steps o chain l n) 0
within_by None chain l n some small = climb_after chain n 0 (8 + 2 * length chain) some (omega arith)
within_by (Some cache) chain l n some small = within_cached chain l cache n some small

pub alloc_is_short : AllocIsShort
alloc_is_short [] size small = omega arith
alloc_is_short (l ∷ up) size small = within_by (cache_for l size) (l ∷ up) l size (omega arith) small
