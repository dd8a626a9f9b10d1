-- What is accounted for: the arenas of a sound stock, and the CPUs' caches whatever a step did.
use Rattle.std.proofs.Common.{◌≡◌, ℕ, ◌<◌, sym, ap, ◌∙◌, List, length, map, All, Contains, Some, arith}
use Rattle.std.specs.Prelude.{slice_get}
use Rattle.std.proofs.lemmas.List.{length-map}
use Rattle.std.proofs.lemmas.Option.{slice_get_within}
use Rattle.std.proofs.lemmas.List.Elements.{All-weaker}
use Rattle.deed_core.specs.Holding.{Holding}
use Rattle.deed_core.proofs.LawProofs.{all_from, contains_at, contains_mapped, slice_get_some, slice_get_one, slice_get_mapped, mapped}
use Rattle.tag_arena.specs.ArenaState.{ArenaState, IsSoundArena, OnQuantum, spans_of, ranges_of, layout_of, direct_tag}
use Rattle.tag_arena.specs.Layout.{FreeIsLongestRuns}
use Rattle.tag_arena.proofs.LawProofs.{free_are_longest_runs, allocated_stand}
use Rattle.stock.specs.Spaces.{SpaceState, SpacePlan, HasCache, plan_of, plans_of, slab_size_of}
use Rattle.stock.specs.Stocks.{IsStock}
use Rattle.stock.specs.Accounts.{Accounts}
use Rattle.stock.specs.Steps.{HasQuantum}
use Rattle.stock.specs.OwnCaches.{OwnCacheState}
use Rattle.stock_audit.specs.Outside.{Outside, segments_out}
use Rattle.stock_audit.specs.Accounted.{IsOfWholeQuanta, IsOwnIn, IsAccountedFor}

-- everything in a sound arena is in whole quanta
whole_quanta : (a : ArenaState) → IsSoundArena a → IsOfWholeQuanta a
whole_quanta a sound = record {
  spans = each (spans_of a) sound.divided.span_grid;
  free = each a.free sound.divided.free_grid;
  allocated = each (ranges_of a.allocated) (λ h has. sound.divided.tag_grid h.range.base h ((allocated_stand a (direct_tag a.id h) sound).0 (contains_mapped (direct_tag a.id) (ranges_of a.allocated) h has)).stands);
}
  where
    each : (xs : List Holding) → ((h : Holding) → Contains xs h → OnQuantum a.quantum h.range) → All (λ h. OnQuantum a.quantum h.range) xs
    each xs on = all_from (λ h. OnQuantum a.quantum h.range) xs (λ i x at. on x (contains_at xs i x at))

pub accounted : (spaces : List SpaceState) (out : Outside) → IsStock spaces → Accounts spaces (segments_out out) → All (IsOwnIn spaces) out.cpus → IsAccountedFor spaces out
accounted spaces out stock accounts cpus = record {
  parts = stock;
  accounts = accounts;
  runs = all_from (λ s. FreeIsLongestRuns (layout_of s.arena)) spaces (λ k s at. free_are_longest_runs s.arena (stock k s at).sound);
  grid = all_from (λ s. IsOfWholeQuanta s.arena) spaces (λ k s at. whole_quanta s.arena (stock k s at).sound);
  cpus = cpus;
}

-- what was set up stays, so a CPU's cache is still of a quantum cache that stands
module _ (old new : List SpaceState) (fixed : plans_of new ≡ plans_of old) where
  stays : (k : ℕ) (s : SpaceState) → slice_get old k ≡ Some s → (x : SpaceState) × (slice_get new k ≡ Some x) × (plan_of s ≡ plan_of x)
  stays k s at = mapped plan_of new k (plan_of s) (ap (λ ps. slice_get ps k) fixed ∙ slice_get_mapped plan_of old k s at)

  has_kept : (k j : ℕ) → HasCache old k j → HasCache new k j
  has_kept k j has =
      let s = has.1.space in
      let there = stays k s has.1.at in
      let sizes : map slab_size_of s.caches ≡ map slab_size_of there.0.caches = ap (λ (p : SpacePlan). p.slab_sizes) there.2 in
      let within : j < length s.caches = slice_get_within s.caches j has.0 has.1.among in
      let number : length (map slab_size_of s.caches) ≡ length (map slab_size_of there.0.caches) = ap length sizes in
      let cache = slice_get_some there.0.caches j (omega (arith, within, number, length-map s.caches slab_size_of, length-map there.0.caches slab_size_of)) in
      (cache.0, record { space = there.0; at = there.1; among = cache.1 })

  quantum_kept : (k j q : ℕ) → HasCache old k j → HasQuantum old k q → HasQuantum new k q
  quantum_kept k j q has is x at =
      let s = has.1.space in
      let there = stays k s has.1.at in
      let same : x ≡ there.0 = slice_get_one new k x there.0 at there.1 in
      let quantum : s.arena.quantum ≡ there.0.arena.quantum = ap (λ (p : SpacePlan). p.quantum) there.2 in
      ap (λ (y : SpaceState). y.arena.quantum) same ∙ (sym quantum ∙ is s has.1.at)

  pub own_kept : (cpus : List OwnCacheState) → All (IsOwnIn old) cpus → All (IsOwnIn new) cpus
  own_kept cpus all = All-weaker (IsOwnIn old) (IsOwnIn new) (λ o is. record { own = is.own; has = has_kept o.arena o.cache is.has; quantum = quantum_kept o.arena o.cache o.quantum is.has is.quantum }) cpus all
