-- Import and hand back, as lists of steps.
use Rattle.std.specs.Prelude.{◌≡◌, ℕ, ◌-◌, ◌*◌, ◌<◌, ◌≤◌, length, List, [], ◌∷◌, Option, Some, None}
use Rattle.std.specs.Prelude.{Result, Ok, Err}
use Rattle.deed_core.specs.Tag.{Tag}
use Rattle.deed_core.specs.Request.{plain_of, rounding_of}
use Rattle.deed_core.specs.declared.segments.Route.TheVariants.{Direct}
use Rattle.arena_tree.specs.Chains.{Node, IsChain, IsGrant, first_id, source_of, quantum_in}
use Rattle.arena_tree.specs.Chains.{amount_of}
use Rattle.arena_tree.specs.Events.{Carve, Free, AddCarve}
use Rattle.arena_tree.specs.Plans.{Plan, Done, Ask, then}
use Rattle.arena_tree.specs.declared.levels.Level.{Level}
use Rattle.arena_tree.specs.declared.part_faults.PartFault.{PartFault}
use Rattle.arena_tree.specs.declared.part_faults.GivenFault.{GivenFault}
use Rattle.tag_arena.specs.declared.faults.ArenaFault.{ArenaFault}
use Rattle.tag_arena.specs.declared.faults.SpanFault.{SpanFault}
use Rattle.arena_tree.specs.declared.part_faults.PartFault.TheVariants as asking
use Rattle.arena_tree.specs.declared.part_faults.GivenFault.TheVariants as giving
use Rattle.tag_arena.specs.declared.faults.ArenaFault.TheVariants as carving
use Rattle.tag_arena.specs.declared.faults.SpanFault.TheVariants as adding
use Rattle.arena_tree.specs.declared.part_faults.ClimbFault.{ClimbFault}
use Rattle.arena_tree.specs.declared.part_faults.ClimbFault.TheVariants as climbing
use Rattle.arena_tree.specs.declared.part_faults.ReturnFault.{ReturnFault}
use Rattle.arena_tree.specs.declared.part_faults.ReturnFault.TheVariants as returning

-- what a climb ends with, and a hand back
abbrev pub ClimbEnd : Type 0
ClimbEnd = Result Tag (ClimbFault Tag)

abbrev pub ReturnEnd : Type 0
ReturnEnd = Result (Unit {0}) (ReturnFault Tag)

-- a segment is freed; each span that it makes whole is freed in its source, and so on upwards
abbrev pub on_free : (Tag → Plan ReturnEnd) → Result (Option Tag) (GivenFault Tag Tag)
    → Plan ReturnEnd
on_free again (Ok None) = Done (Ok tt)
on_free again (Ok (Some whole)) = again whole
on_free again (Err (giving.Refused t)) = Done (Err (returning.Stuck t))
on_free again (Err (giving.Stopped t)) = Done (Err (returning.Stopped t))

abbrev pub return_plan : List Level → Tag → Plan ReturnEnd
return_plan [] t = Done (Err (returning.Stuck t))
return_plan (l ∷ up) t = Ask (Free t) (on_free (return_plan up))

-- what a climb ends with that handed a span back since it ran out of memory
abbrev pub memory_refusal : ReturnEnd → ClimbEnd
memory_refusal (Ok u) = Err (climbing.Refused carving.NoMemory)
memory_refusal (Err (returning.Stuck t)) = Err (climbing.Stuck t)
memory_refusal (Err (returning.Stopped t)) = Err (climbing.Stopped (Some t))

abbrev pub give_back_plan : List Level → Tag → Plan ClimbEnd
give_back_plan up t = then (return_plan up t) (λ r. Done (memory_refusal r))

-- the child is given the span, and carves n units of it; out of memory for that, the span is freed
-- upwards
abbrev pub on_add : List Level → Result Tag (GivenFault (SpanFault Tag) Tag) → Plan ClimbEnd
on_add up (Ok t) = Done (Ok t)
on_add up (Err (giving.Refused (adding.NoMemory t))) = give_back_plan up t
on_add up (Err (giving.Refused (adding.Overlaps t))) = Done (Err (climbing.Stuck t))
on_add up (Err (giving.Refused (adding.NotAligned t))) = Done (Err (climbing.Stuck t))
on_add up (Err (giving.Stopped t)) = Done (Err (climbing.Stopped (Some t)))

abbrev pub descent_plan : List Level → ℕ → ℕ → Tag → Plan ClimbEnd
descent_plan up child n span = Ask (AddCarve child span n) (on_add up)

-- the child can be given the span, for n units: a Direct segment of its source, the first of these
-- arenas, with room for them
pub record CanDescend (nodes : List Node) (up : List Level) (child n : ℕ) (span : Tag)
    : Type 0 where
  pub here : child < length nodes
  pub source : source_of nodes child ≡ Some span.arena
  pub chain : IsChain nodes up
  pub first : first_id up ≡ Some span.arena
  pub some : 0 < n
  pub room : rounding_of (quantum_in nodes child) n ≤ span.holding.range.len
  pub direct : span.route ≡ Direct

abbrev pub on_import : List Level → ℕ → ℕ → ClimbEnd → Plan ClimbEnd
on_import up child n (Ok span) = descent_plan up child n span
on_import up child n (Err f) = Done (Err f)

-- n units are carved in the arena; where none fit, the source is climbed in the same way for the
-- import amount, and so on upwards; without a source nothing fits
abbrev pub on_carve : Plan ClimbEnd → List Level → ℕ → ℕ → Result Tag (PartFault ArenaFault)
    → Plan ClimbEnd
on_carve import up child n (Ok t) = Done (Ok t)
on_carve import up child n (Err (asking.Refused carving.NoFit)) = then import (on_import up child n)
on_carve import up child n (Err (asking.Refused f)) = Done (Err (climbing.Refused f))
on_carve import up child n (Err asking.Stopped) = Done (Err (climbing.Stopped None))

abbrev pub climb_plan : List Level → ℕ → Plan ClimbEnd
climb_plan [] n = Done (Err (climbing.Refused carving.NoFit))
climb_plan (l ∷ up) n = Ask (Carve l.id (plain_of n))
    (on_carve (climb_plan up (amount_of l up n)) up l.id n)

-- the hand after a climb, and after a hand back
abbrev pub climb_left : ClimbEnd → Option Tag
climb_left (Ok t) = Some t
climb_left (Err (climbing.Stuck t)) = Some t
climb_left (Err (climbing.Stopped o)) = o
climb_left (Err (climbing.Refused f)) = None

abbrev pub return_left : ReturnEnd → Option Tag
return_left (Ok u) = None
return_left (Err (returning.Stuck t)) = Some t
return_left (Err (returning.Stopped t)) = Some t

-- a segment of the chain's first arena that fits the request for n units
abbrev pub IsGrantOf : List Node → List Level → ℕ → Tag → Type 0
IsGrantOf nodes [] n t = ⊥
IsGrantOf nodes (l ∷ up) n t = IsGrant nodes l.id (plain_of n) t

-- the most locks of a climb in a chain of so many arenas
abbrev pub climb_most : ℕ → ClimbEnd → ℕ
climb_most depth (Ok t) = 2 * depth - 1
climb_most depth (Err (climbing.Refused carving.NoFit)) = depth
climb_most depth (Err _) = 3 * depth - 2
