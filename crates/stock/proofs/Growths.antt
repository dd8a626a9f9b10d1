-- A grow of a root arena by the next of its numbers.
use Rattle.std.proofs.Common.{◌≡◌, ℕ, List, length, Some, None, Ok, sym, subst, ap, ◌∙◌}
use Rattle.std.specs.Prelude.{slice_get}
use Rattle.deed_core.specs.Extent.{Extent}
use Rattle.deed_core.specs.Holding.{Holding}
use Rattle.deed_core.specs.Opening.{PlainOpenerState, OpensPlain}
use Rattle.tag_arena.specs.Calls.{after_add}
use Rattle.arena_tree.specs.declared.part_faults.GrowFault.{GrowFault}
use Rattle.arena_tree.specs.declared.part_faults.GrowFault.TheVariants as faults
use Rattle.stock.specs.Setups.{root_number}
use Rattle.stock.specs.Spaces.{SpaceState}
use Rattle.tag_arena.specs.Outcomes.{WasGrown}
use Rattle.stock.specs.Steps.{OnArena}
use Rattle.stock.specs.Growing.{CanGrow, GrowsBy, RefusesHere, RefusesToGrow}

pub at_one : (P : SpaceState → Type 0) (spaces : List SpaceState) (k : ℕ) (s x : SpaceState) → slice_get spaces k ≡ Some s → P s → slice_get spaces k ≡ Some x → P x
at_one P spaces k s x at p there = subst P (let both : Some s ≡ Some x = sym at ∙ there in cc) p

pub refused_here : (spaces : List SpaceState) (arena : ℕ) (range : Extent) (s : SpaceState) (why : GrowFault) → slice_get spaces arena ≡ Some s → RefusesHere s range why → RefusesToGrow arena range why spaces
refused_here spaces arena range s faults.NoArena at never = absurd never
refused_here spaces arena range s faults.NotRoot at of = (s, at, of)
refused_here spaces arena range s faults.Overlaps at of = (s, at, of)
refused_here spaces arena range s faults.NotAligned at of = (s, at, of)
refused_here spaces arena range s faults.TooMany at of = (s, at, of)
refused_here spaces arena range s faults.NoMemory at of = (s, at, of)

same_root : (h : Holding) (n : ℕ) (range : Extent) → h.root ≡ n → h.range ≡ range → h ≡ record { root = n; range = range }
same_root h n range root same = ap (λ (k : ℕ). record { root = k; range = h.range }) root ∙ ap (λ (e : Extent). record { root = n; range = e }) same

pub grown_by : (old new : List SpaceState) (arena : ℕ) (range : Extent) (s : SpaceState) (opener left : PlainOpenerState) → slice_get old arena ≡ Some s → s.source ≡ None → CanGrow s.arena range
    → opener.first ≡ root_number arena (length s.arena.owned) → OnArena arena (λ a b. WasGrown OpensPlain a opener range b left) old new → GrowsBy arena range (Ok tt) old new
grown_by old new arena range s opener left at root can first on =
    let same : s ≡ on.space = (let both : Some s ≡ Some on.space = sym at ∙ on.at in cc) in
    let number : on.does.span.root ≡ root_number arena (length on.space.arena.owned) = on.does.opened.0 ∙ first ∙ ap (λ (x : SpaceState). root_number arena (length x.arena.owned)) same in (
      (s, at, root, can),
      record {
        space = on.space;
        at = on.at;
        arena = on.arena;
        after = on.after;
        does = on.does.after ∙ ap (after_add on.space.arena) (same_root on.does.span (root_number arena (length on.space.arena.owned)) range number on.does.range_is);
      },
    )
