-- What the lists of steps of climbs leave in the hand.
use Rattle.std.proofs.Common.{◌≡◌, ℕ, List, [], ◌∷◌, Option, Some, None, Result, Ok, Err, refl}
use Rattle.deed_core.specs.Tag.{Tag}
use Rattle.arena_tree.specs.declared.levels.Level.{Level}
use Rattle.arena_tree.specs.declared.part_faults.PartFault.{PartFault}
use Rattle.arena_tree.specs.declared.part_faults.GivenFault.{GivenFault}
use Rattle.tag_arena.specs.declared.faults.ArenaFault.{ArenaFault}
use Rattle.tag_arena.specs.declared.faults.SpanFault.{SpanFault}
use Rattle.arena_tree.specs.declared.part_faults.PartFault.TheVariants as asking
use Rattle.arena_tree.specs.declared.part_faults.GivenFault.TheVariants as giving
use Rattle.tag_arena.specs.declared.faults.ArenaFault.TheVariants as carving
use Rattle.tag_arena.specs.declared.faults.SpanFault.TheVariants as adding
use Rattle.arena_tree.specs.declared.part_faults.ReturnFault.TheVariants as returning
use Rattle.arena_tree.specs.Chains.{amount_of}
use Rattle.arena_tree.specs.Plans.{Plan, Done, then, Handles}
use Rattle.arena_tree.specs.Events.{hand_left, hand_of_answer, segment_of_free, segment_of_add}
use Rattle.arena_tree.specs.Climbs.{ReturnEnd, ClimbEnd, return_plan, on_free, memory_refusal, on_add, on_import, on_carve, climb_plan, climb_left, return_left}
use Rattle.arena_tree.proofs.Paths.{handles_then}

-- a hand back leaves what it ends with
pub handles_return : (chain : List Level) (t : Tag) → Handles return_left (return_plan chain t) (Some t)
handles_return [] t = refl
handles_return (l ∷ up) t = (refl, freed (handles_return up))
  where
    freed : ((w : Tag) → Handles return_left (return_plan up w) (Some w)) → (x : Result (Option Tag) (GivenFault Tag Tag)) → Handles return_left (on_free (return_plan up) x) (hand_of_answer (λ f. Some (segment_of_free f)) x)
    freed again (Ok None) = refl
    freed again (Ok (Some w)) = again w
    freed again (Err (giving.Refused x)) = refl
    freed again (Err (giving.Stopped x)) = refl

pub handles_refused : (chain : List Level) (t : Tag) → Handles climb_left (then (return_plan chain t) (λ r. Done (memory_refusal r))) (Some t)
handles_refused chain t = handles_then return_left climb_left (return_plan chain t) (λ r. Done (memory_refusal r)) (Some t) (handles_return chain t) ends
  where
    ends : (r : ReturnEnd) → return_left r ≡ climb_left (memory_refusal r)
    ends (Ok u) = refl
    ends (Err (returning.Stuck x)) = refl
    ends (Err (returning.Stopped x)) = refl

handles_added : (up : List Level) (x : Result Tag (GivenFault (SpanFault Tag) Tag)) → Handles climb_left (on_add up x) (hand_left (λ f. Some (segment_of_add f)) x)
handles_added up (Ok t) = refl
handles_added up (Err (giving.Refused (adding.NoMemory t))) = handles_refused up t
handles_added up (Err (giving.Refused (adding.Overlaps t))) = refl
handles_added up (Err (giving.Refused (adding.NotAligned t))) = refl
handles_added up (Err (giving.Stopped t)) = refl

handles_imported : (up : List Level) (child size : ℕ) (x : ClimbEnd) → Handles climb_left (on_import up child size x) (climb_left x)
handles_imported up child size (Ok t) = (refl, handles_added up)
handles_imported up child size (Err f) = refl

handles_carved : (import : Plan ClimbEnd) (up : List Level) (child size : ℕ) (x : Result Tag (PartFault ArenaFault)) → Handles climb_left import None → Handles climb_left (on_carve import up child size x) (hand_left (λ _. None) x)
handles_carved import up child size (Ok t) h = refl
handles_carved import up child size (Err (asking.Refused carving.BadRequest)) h = refl
handles_carved import up child size (Err (asking.Refused carving.NoMemory)) h = refl
handles_carved import up child size (Err asking.Stopped) h = refl
handles_carved import up child size (Err (asking.Refused carving.NoFit)) h = handles_then climb_left climb_left import (on_import up child size) None h (handles_imported up child size)

-- so does a climb
pub handles_climb : (chain : List Level) (size : ℕ) → Handles climb_left (climb_plan chain size) None
handles_climb [] size = refl
handles_climb (l ∷ up) size = (refl, λ x. handles_carved (climb_plan up (amount_of l up size)) up l.id size x (handles_climb up (amount_of l up size)))
