-- How many locks the lists of steps of climbs take.
use Rattle.std.proofs.Common.{ℕ, ◌+◌, ◌≤◌, List, [], ◌∷◌, Option, Some, None, Result, Ok, Err, length, arith, subst}
use Rattle.deed_core.specs.Tag.{Tag}
use Rattle.arena_tree.specs.declared.levels.Level.{Level}
use Rattle.arena_tree.specs.declared.part_faults.PartFault.{PartFault}
use Rattle.arena_tree.specs.declared.part_faults.GivenFault.{GivenFault}
use Rattle.tag_arena.specs.declared.faults.ArenaFault.{ArenaFault}
use Rattle.tag_arena.specs.declared.faults.SpanFault.{SpanFault}
use Rattle.arena_tree.specs.declared.part_faults.PartFault.TheVariants as asking
use Rattle.arena_tree.specs.declared.part_faults.GivenFault.TheVariants as giving
use Rattle.tag_arena.specs.declared.faults.ArenaFault.TheVariants as carving
use Rattle.tag_arena.specs.declared.faults.SpanFault.TheVariants as adding
use Rattle.arena_tree.specs.declared.part_faults.ClimbFault.{ClimbFault}
use Rattle.arena_tree.specs.declared.part_faults.ClimbFault.TheVariants as climbing
use Rattle.arena_tree.specs.declared.part_faults.ReturnFault.TheVariants as returning
use Rattle.arena_tree.specs.Chains.{amount_of}
use Rattle.arena_tree.specs.Plans.{Done, then, Within}
use Rattle.arena_tree.specs.Climbs.{ReturnEnd, ClimbEnd, return_plan, on_free, memory_refusal, on_add, on_import, on_carve, climb_plan, climb_most}
use Rattle.arena_tree.specs.Laws.{ClimbIsShort, ReturnIsShort}
use Rattle.arena_tree.proofs.Paths.{within_then}

-- a hand back: one for each arena
pub within_return : (most : ReturnEnd → ℕ) (chain : List Level) (t : Tag) (n : ℕ) → ((r : ReturnEnd) → n + length chain ≤ most r) → Within most (return_plan chain t) n
within_return most [] t n le = let h = le (Err (returning.Stuck t)) in omega arith
within_return most (l ∷ up) t n le = freed (λ w. within_return most up w (n + 1) (λ r. let h = le r in omega arith))
  where
    freed : ((w : Tag) → Within most (return_plan up w) (n + 1)) → (x : Result (Option Tag) (GivenFault Tag Tag)) → Within most (on_free (return_plan up) x) (n + 1)
    freed again (Ok None) = let h = le (Ok tt) in omega arith
    freed again (Ok (Some w)) = again w
    freed again (Err (giving.Refused x)) = let h = le (Err (returning.Stuck x)) in omega arith
    freed again (Err (giving.Stopped x)) = let h = le (Err (returning.Stopped x)) in omega arith

-- after so many locks and those of the hand back of t
pub within_refused : (most : ClimbEnd → ℕ) (chain : List Level) (t : Tag) (n : ℕ) → ((r : ReturnEnd) → n + length chain ≤ most (memory_refusal r)) → Within most (then (return_plan chain t) (λ r. Done (memory_refusal r))) n
within_refused most chain t n le =
    within_then (λ (r : ReturnEnd). n + length chain) most (return_plan chain t) (λ r. Done (memory_refusal r)) n (within_return (λ (r : ReturnEnd). n + length chain) chain t n (λ r. omega arith))
    (λ r m low. let h = le r in omega arith)

-- how a descent can end: not with NoFit
abbrev IsRefused : ClimbFault Tag → Type 0
IsRefused (climbing.Refused carving.NoFit) = ⊥
IsRefused _ = Unit {0}

-- a descent: one, and out of memory one for each arena above
pub within_added : (most : ClimbEnd → ℕ) (up : List Level) (x : Result Tag (GivenFault (SpanFault Tag) Tag)) (n : ℕ) → ((t : Tag) → n ≤ most (Ok t)) → ((f : ClimbFault Tag) → IsRefused f → n + length up ≤ most (Err f)) → Within most (on_add up x) n
within_added most up (Ok t) n ok err = ok t
within_added most up (Err (giving.Refused (adding.Overlaps t))) n ok err = let h = err (climbing.Stuck t) tt in omega arith
within_added most up (Err (giving.Refused (adding.NotAligned t))) n ok err = let h = err (climbing.Stuck t) tt in omega arith
within_added most up (Err (giving.Stopped t)) n ok err = let h = err (climbing.Stopped (Some t)) tt in omega arith
within_added most up (Err (giving.Refused (adding.NoMemory t))) n ok err = within_refused most up t n back
  where
    back : (r : ReturnEnd) → n + length up ≤ most (memory_refusal r)
    back (Ok u) = err (climbing.Refused carving.NoMemory) tt
    back (Err (returning.Stuck x)) = err (climbing.Stuck x) tt
    back (Err (returning.Stopped x)) = err (climbing.Stopped (Some x)) tt

-- after the climb of the source, by a chain of at least one arena
within_imported : (most : ClimbEnd → ℕ) (up : List Level) (child size : ℕ) (x : ClimbEnd) (n m : ℕ) → 1 ≤ length up → m ≤ n + 1 + climb_most (length up) x → ((r : ClimbEnd) → n + climb_most (length up + 1) r ≤ most r)
    → Within most (on_import up child size x) m
within_imported most up child size (Ok span) n m some low le = λ x. within_added most up x (m + 1) (λ t. let h = le (Ok t) in omega arith) fault
  where
    fault : (f : ClimbFault Tag) → IsRefused f → m + 1 + length up ≤ most (Err f)
    fault (climbing.Refused carving.NoFit) h = absurd h
    fault (climbing.Refused carving.BadRequest) _ = let h = le (Err (climbing.Refused carving.BadRequest)) in omega arith
    fault (climbing.Refused carving.NoMemory) _ = let h = le (Err (climbing.Refused carving.NoMemory)) in omega arith
    fault (climbing.Stuck t) _ = let h = le (Err (climbing.Stuck t)) in omega arith
    fault (climbing.Stopped o) _ = let h = le (Err (climbing.Stopped o)) in omega arith
within_imported most up child size (Err (climbing.Refused carving.NoFit)) n m some low le = let h = le (Err (climbing.Refused carving.NoFit)) in omega arith
within_imported most up child size (Err (climbing.Refused carving.BadRequest)) n m some low le = let h = le (Err (climbing.Refused carving.BadRequest)) in omega arith
within_imported most up child size (Err (climbing.Refused carving.NoMemory)) n m some low le = let h = le (Err (climbing.Refused carving.NoMemory)) in omega arith
within_imported most up child size (Err (climbing.Stuck t)) n m some low le = let h = le (Err (climbing.Stuck t)) in omega arith
within_imported most up child size (Err (climbing.Stopped o)) n m some low le = let h = le (Err (climbing.Stopped o)) in omega arith

-- after the carve in the arena itself
within_carved : (most : ClimbEnd → ℕ) (up : List Level) (child size amount : ℕ) (x : Result Tag (PartFault ArenaFault)) (n : ℕ) → 1 ≤ length up → ((m : ClimbEnd → ℕ) (k : ℕ) → ((r : ClimbEnd) → k + climb_most (length up) r ≤ m r) → Within m (climb_plan up amount) k)
    → ((r : ClimbEnd) → n + climb_most (length up + 1) r ≤ most r) → Within most (on_carve (climb_plan up amount) up child size x) (n + 1)
within_carved most up child size amount (Ok t) n some again le = let h = le (Ok t) in omega arith
within_carved most up child size amount (Err (asking.Refused carving.BadRequest)) n some again le = let h = le (Err (climbing.Refused carving.BadRequest)) in omega arith
within_carved most up child size amount (Err (asking.Refused carving.NoMemory)) n some again le = let h = le (Err (climbing.Refused carving.NoMemory)) in omega arith
within_carved most up child size amount (Err asking.Stopped) n some again le = let h = le (Err (climbing.Stopped None)) in omega arith
within_carved most up child size amount (Err (asking.Refused carving.NoFit)) n some again le =
    within_then (λ (r : ClimbEnd). n + 1 + climb_most (length up) r) most (climb_plan up amount) (on_import up child size) (n + 1) (again (λ (r : ClimbEnd). n + 1 + climb_most (length up) r) (n + 1) (λ r. omega arith))
    (λ x m low. within_imported most up child size x n m some low le)

-- the top arena has no source
within_top : (most : ClimbEnd → ℕ) (child size : ℕ) (x : Result Tag (PartFault ArenaFault)) (n : ℕ) → ((r : ClimbEnd) → n + climb_most 1 r ≤ most r) → Within most (on_carve (Done (Err (climbing.Refused carving.NoFit))) [] child size x) (n + 1)
within_top most child size (Ok t) n le = let h = le (Ok t) in omega arith
within_top most child size (Err (asking.Refused carving.BadRequest)) n le = let h = le (Err (climbing.Refused carving.BadRequest)) in omega arith
within_top most child size (Err (asking.Refused carving.NoMemory)) n le = let h = le (Err (climbing.Refused carving.NoMemory)) in omega arith
within_top most child size (Err asking.Stopped) n le = let h = le (Err (climbing.Stopped None)) in omega arith
within_top most child size (Err (asking.Refused carving.NoFit)) n le = let h = le (Err (climbing.Refused carving.NoFit)) in omega arith

-- a climb
pub within_climb : (most : ClimbEnd → ℕ) (chain : List Level) (size n : ℕ) → ((r : ClimbEnd) → n + climb_most (length chain) r ≤ most r) → Within most (climb_plan chain size) n
within_climb most [] size n le = let h = le (Err (climbing.Refused carving.NoFit)) in omega arith
within_climb most (l ∷ []) size n le = λ x. within_top most l.id size x n le
within_climb most (l ∷ (k ∷ up)) size n le =
    λ x. within_carved most (k ∷ up) l.id size (amount_of l (k ∷ up) size) x n (omega arith) (λ m j low. within_climb m (k ∷ up) (amount_of l (k ∷ up) size) j low) (λ r. let h = le r in subst (λ j. n + climb_most j r ≤ most r) (omega arith) h)

pub climb_is_short : ClimbIsShort
climb_is_short chain n = within_climb (climb_most (length chain)) chain n 0 (λ r. omega arith)

pub return_is_short : ReturnIsShort
return_is_short chain t = within_return (λ (r : ReturnEnd). length chain) chain t 0 (λ r. omega arith)
