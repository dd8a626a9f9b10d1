-- How a grow of the stock ends its event.
use Rattle.std.proofs.Common.{◌≡◌, ℕ, ◌≤◌, List, [], length, Some, None, Ok, Err, Result, refl, sym, subst, ap, ◌∙◌, arith}
use Rattle.std.specs.Prelude.{slice_get, IsSome}
use Rattle.std.proofs.lemmas.Option.{slice_get_within}
use Rattle.std.proofs.lemmas.Bool.{false≢true}
use Rattle.deed_core.specs.Extent.{Extent}
use Rattle.arena_tree.specs.declared.part_faults.GrowFault.{GrowFault}
use Rattle.arena_tree.specs.declared.part_faults.GrowFault.TheVariants as growing
use Rattle.stock.specs.Spaces.{SpaceState, plans_of}
use Rattle.stock.specs.Stocks.{IsStock}
use Rattle.stock.specs.Accounts.{Frames}
use Rattle.stock.specs.Growing.{GrowsBy, OnRoot}
use Rattle.world_core.specs.WorldState.{WorldState}
use Rattle.world_core.specs.Events.{EndsAs}
use Rattle.world_core.specs.Growing.{outcome_of}
use Rattle.world_core.specs.declared.events.WorldEvent.TheVariants as events

same_stock : (w : WorldState) (stock : List SpaceState) → stock ≡ w.stock → record w { stock = stock } ≡ w
same_stock w stock same = ap (λ (s : List SpaceState). record w { stock = s }) same

no_arena : (w : WorldState) (arena : ℕ) → length w.stock ≤ arena → OnRoot arena (λ a. Unit {0}) w.stock → ⊥
no_arena w arena past on = let within = slice_get_within w.stock arena on.0 on.1 in omega (arith, past, within)

not_root : (w : WorldState) (arena : ℕ) (s : SpaceState) → slice_get w.stock arena ≡ Some s → IsSome s.source → OnRoot arena (λ a. Unit {0}) w.stock → ⊥
not_root w arena s at some on =
    let same : s ≡ on.0 = (let both : Some s ≡ Some on.0 = sym at ∙ on.1 in cc) in
    let none : s.source ≡ None = ap (λ (x : SpaceState). x.source) same ∙ on.2 in
    false≢true (subst IsSome none some)

pub grow_ends : (w : WorldState) (arena : ℕ) (range : Extent) (r : Result (Unit {0}) GrowFault) (stock : List SpaceState) → GrowsBy arena range r w.stock stock
    → IsStock stock → Frames w.stock [] stock [] → plans_of stock ≡ plans_of w.stock → EndsAs (events.Grows arena range) (outcome_of r) w (record w { stock = stock })
grow_ends w arena range (Ok x) stock by sound frame fixed = (by.0, record { stock = stock; does = by.1; step = record { stock = sound; frame = frame; fixed = fixed }; after = refl })
grow_ends w arena range (Err growing.NoArena) stock by sound frame fixed = (no_arena w arena by.0, same_stock w stock by.1)
grow_ends w arena range (Err growing.NotRoot) stock by sound frame fixed = (not_root w arena by.0.0 by.0.1 by.0.2, same_stock w stock by.1)
grow_ends w arena range (Err growing.Overlaps) stock by sound frame fixed = (by.0, same_stock w stock by.1)
grow_ends w arena range (Err growing.NotAligned) stock by sound frame fixed = (by.0, same_stock w stock by.1)
grow_ends w arena range (Err growing.TooMany) stock by sound frame fixed = (by.0, same_stock w stock by.1)
grow_ends w arena range (Err growing.NoMemory) stock by sound frame fixed = ((by.0.0, by.0.1, by.0.2.0, by.0.2.1), same_stock w stock by.1)
