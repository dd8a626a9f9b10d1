-- What is out of the parts, by its units.
use Rattle.std.proofs.Common.{◌≡◌, ℕ, ◌≤◌, Some, sym, subst, ap, ◌∙◌, sum_by, arith}
use Rattle.std.specs.Prelude.{slice_get, flat_map}
use Rattle.std.proofs.lemmas.List.Sums.{sum_by-append}
use Rattle.stock_audit.specs.Outside.{out_of}
use Rattle.stock.specs.OwnCaches.{all_own_rounds}
use Rattle.stock_audit.specs.Audits.{IsBalanced, IsTally, TellsSums, units_of_arena_in}
use Rattle.stock_audit.specs.declared.audits.UnitsOut.{UnitsOut}
use Rattle.stock_audit.proofs.LawProofs.{units_weigh, audit_adds_up}
use Rattle.lease_book.specs.BookState.{leased_segments, units_of_arena}
use Rattle.deed_core.specs.Covering.{units_in, units_held}
use Rattle.tag_arena.specs.ArenaState.{spans_of}
use Rattle.stock.specs.Spaces.{SpaceState}
use Rattle.stock.specs.Sums.{Out, held_of}
use Rattle.stock.specs.declared.sums.ArenaSums.{ArenaSums}
use Rattle.tag_arena.specs.Spanned.{holdings_of}
use Rattle.magazine_layer.specs.Depots.{depot_rounds}
use Rattle.world_core.specs.IsWorld.{IsWorld}
use Rattle.world_core.specs.WorldState.{WorldState, in_hands, outside_of}

pub tallied : (w : WorldState) (arena : ℕ) (out : UnitsOut) → out.rounds ≡ units_of_arena_in arena (all_own_rounds w.caches) → out.leased ≡ sum_by (units_of_arena arena) (leased_segments w.book)
    → out.hand ≡ units_of_arena_in arena (in_hands w.hands) → IsTally arena (out_of (outside_of w)) out
tallied w arena out rounds leases hand = record {
  rounds = rounds;
  leased = leases ∙ sym (units_weigh arena (leased_segments w.book));
  hand = hand;
}

-- rounds in CPUs' caches are units of the arena's spans
pub rounds_fit : (w : WorldState) → IsWorld w → (arena : ℕ) (s : SpaceState) → slice_get w.stock arena ≡ Some s → units_of_arena_in arena (all_own_rounds w.caches) ≤ units_held (spans_of s.arena)
rounds_fit w is arena s at =
    let id : s.arena.id ≡ arena = (is.parts.parts arena s at).id in
    let e = audit_adds_up w.stock (outside_of w) is.parts arena s at in
    let same : units_held (held_of s.arena.id (all_own_rounds w.caches)) ≡ units_of_arena_in arena (all_own_rounds w.caches) = ap (λ (k : ℕ). units_held (held_of k (all_own_rounds w.caches))) id in
    omega (arith, e, same, sum_by-append units_in (flat_map (λ c. holdings_of (depot_rounds c.depot)) s.caches) (held_of s.arena.id (all_own_rounds w.caches)))

module _ (w now : WorldState) (same : w ≡ now) (arena : ℕ) (out : UnitsOut) (tally : IsTally arena (out_of (outside_of now)) out) where
  own_tally : IsTally arena (out_of (outside_of w)) out
  own_tally = subst (λ (x : WorldState). IsTally arena (out_of (outside_of x)) out) (sym same) tally

  -- so much is out, and no more
  pub balanced_out : IsWorld now → IsBalanced w.stock arena out
  balanced_out world = record { out = out_of (outside_of w); accounts = (subst IsWorld (sym same) world).parts.accounts; tally = own_tally }

  -- what is told of the arena with so much out
  pub told_out : (sums : ArenaSums) → ((o : Out) → IsTally arena o out → TellsSums w.stock arena o sums) → TellsSums now.stock arena (out_of (outside_of now)) sums
  told_out sums tells = subst (λ (x : WorldState). TellsSums x.stock arena (out_of (outside_of x)) sums) same (tells (out_of (outside_of w)) own_tally)
