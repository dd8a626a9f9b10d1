-- One home for each unit.
use Rattle.std.proofs.Common.{◌≡◌, ◌≢◌, ℕ, ◌+◌, refl, sym, ap, ◌∙◌, List, ◌++◌, All, filter, Some, arith}
use Rattle.std.specs.Prelude.{slice_get, sum_by, flat_map}
use Rattle.std.proofs.lemmas.List.Sums.{sum_by-append}
use Rattle.deed_core.specs.Holding.{Holding}
use Rattle.deed_core.specs.Tag.{Tag}
use Rattle.deed_core.specs.Covering.{covers_held, covers_tag, covering_held, covering_tags, units_in}
use Rattle.deed_core.specs.Selections.{is_of_arena, came_direct}
use Rattle.deed_core.specs.Weights.{of_arena}
use Rattle.deed_core.proofs.LawProofs.{sum_by-map, sum_by-flat_map, sum_by-filter, sum_by-parts, sum_at, sum_none, sum_alike, sum_add, all_at, all_from, mapped}
use Rattle.tag_arena.specs.ArenaState.{spans_of}
use Rattle.tag_arena.proofs.LawProofs.{tags_weigh, spans_once}
use Rattle.slab_layer.specs.Cache.{IsChunkOf, span_tag, span_tags, deeds_of, chunks_out}
use Rattle.slab_layer.proofs.LawProofs.{chunks_are_of_cache}
use Rattle.magazine_layer.specs.Depots.{depot_rounds}
use Rattle.stock.specs.Spaces.{SpaceState, QuantumCacheState, quanta_of}
use Rattle.stock.specs.Stocks.{IsRoundOf, IsQuantumCache, IsSpaceAt, IsStock}
use Rattle.stock.specs.Accounts.{weight_imported, Accounts}
use Rattle.stock.specs.Sums.{Out, all_out, held_of, homes_of, all_homes, sums_of, total}
use Rattle.tag_arena.specs.Spanned.{holdings_of}
use Rattle.stock.specs.Laws.{IsInOneHome, AddsUp}
use Rattle.stock.proofs.Exporting.{arena_here, arena_there, allocated_of}
use Rattle.stock.proofs.Lengths.{as_long}

-- segments of one arena weigh in it, and in no other
module _ (k : ℕ) (g : Tag → ℕ) (a : ℕ) (xs : List Tag) (home : All (λ t. t.arena ≡ a) xs) where
  pub all_here : a ≡ k → sum_by (of_arena k g) xs ≡ sum_by g xs
  all_here is = sum_alike (of_arena k g) g xs (λ i x at. arena_here k g x (all_at (λ t. t.arena ≡ a) xs i x home at ∙ is))

  pub none_here : a ≢ k → sum_by (of_arena k g) xs ≡ 0
  none_here other = sum_none (of_arena k g) xs (λ i x at. arena_there k g x (λ e. other (sym (all_at (λ t. t.arena ≡ a) xs i x home at) ∙ e)))

-- what a cache has is of its arena
module _ (k n quantum : ℕ) (c : QuantumCacheState) (is : IsQuantumCache k n quantum c) where
  spans_home : All (λ t. t.arena ≡ k) (span_tags c.slab)
  spans_home = all_from (λ t. t.arena ≡ k) (span_tags c.slab) (λ i x at. (let there = mapped (span_tag c.slab.arena) c.slab.slabs i x at in ap (λ (t : Tag). t.arena) there.2 ∙ is.arena))

  chunks_home : All (λ t. t.arena ≡ k) (chunks_out c.slab)
  chunks_home = all_from (λ t. t.arena ≡ k) (chunks_out c.slab) (λ i x at. (all_at (IsChunkOf c.slab) (chunks_out c.slab) i x (chunks_are_of_cache c.slab is.sound).0 at).from ∙ is.arena)

  rounds_home : All (λ t. t.arena ≡ k) (depot_rounds c.depot)
  rounds_home = all_from (λ t. t.arena ≡ k) (depot_rounds c.depot) (λ i x at. (all_at (IsRoundOf k n quantum) (depot_rounds c.depot) i x is.rounds at).from)

module _ (spaces : List SpaceState) (stock : IsStock spaces) (k : ℕ) (s : SpaceState) (at : slice_get spaces k ≡ Some s) where
  is : IsSpaceAt (quanta_of spaces) k s
  is = stock k s at

  module _ (g : Tag → ℕ) where
    -- what lies in the caches of one arena, by a list of each cache's
    lists_of : (list : QuantumCacheState → List Tag) → ((i n q : ℕ) (c : QuantumCacheState) → IsQuantumCache i n q c → All (λ t. t.arena ≡ i) (list c))
        → sum_by (λ (x : SpaceState). sum_by (λ c. sum_by (of_arena k g) (list c)) x.caches) spaces ≡ sum_by (λ c. sum_by g (list c)) s.caches
    lists_of list home = sum_at (λ (x : SpaceState). sum_by (λ c. sum_by (of_arena k g) (list c)) x.caches) spaces k s at
        (λ i x there ne. sum_none (λ c. sum_by (of_arena k g) (list c)) x.caches (λ j c among. none_here k g i (list c) (home i (j + 1) x.arena.quantum c ((stock i x there).caches j c among)) ne))
        ∙ sum_alike (λ c. sum_by (of_arena k g) (list c)) (λ c. sum_by g (list c)) s.caches (λ j c among. all_here k g k (list c) (home k (j + 1) s.arena.quantum c (is.caches j c among)) refl)

  -- each unit of the arena, by where it is
  pub each_unit : (out : List Tag) → Accounts spaces out → (u : ℕ)
      → covering_held u s.arena.free + sum_by (λ c. covering_held u (deeds_of c.slab)) s.caches + sum_by (λ c. covering_tags u (depot_rounds c.depot)) s.caches
      + sum_by (weight_imported (of_arena k (covers_tag u))) spaces + sum_by (of_arena k (covers_tag u)) out ≡ covering_held u (spans_of s.arena)
  each_unit out a u =
      let f : Tag → ℕ = of_arena k (covers_tag u) in
      let tiled = sum_alike (λ (c : QuantumCacheState). covering_held u (deeds_of c.slab) + covering_tags u (chunks_out c.slab)) (λ c. covering_tags u (span_tags c.slab)) s.caches (λ j c among. (is.caches j c among).tiled u) in
      omega (
        arith,
        is.sound.divided.covers u,
        tags_weigh s.arena (covers_tag u),
        allocated_of spaces stock k s (covers_tag u) at,
        a.exports f,
        a.chunks_out f,
        lists_of (covers_tag u) (λ c. span_tags c.slab) spans_home,
        lists_of (covers_tag u) (λ c. chunks_out c.slab) chunks_home,
        lists_of (covers_tag u) (λ c. depot_rounds c.depot) rounds_home,
        tiled,
        sum_add (λ (c : QuantumCacheState). covering_held u (deeds_of c.slab)) (λ c. covering_tags u (chunks_out c.slab)) s.caches,
        sum_by-parts came_direct f out,
      )

-- what the segments of an arena cover
pub weigh_of : (k : ℕ) (f : Holding → ℕ) (ts : List Tag) → sum_by f (held_of k ts) ≡ sum_by (of_arena k (λ t. f t.holding)) ts
weigh_of k f ts = sum_by-map f (λ (t : Tag). t.holding) (filter (is_of_arena k) ts) ∙ sum_by-filter (is_of_arena k) (λ t. f t.holding) ts

module _ (f : Holding → ℕ) (spaces : List SpaceState) (out : Out) (s : SpaceState) where
  weigh_magazine : sum_by f (flat_map (λ (c : QuantumCacheState). holdings_of (depot_rounds c.depot)) s.caches) ≡ sum_by (λ (c : QuantumCacheState). sum_by (λ t. f t.holding) (depot_rounds c.depot)) s.caches
  weigh_magazine = sum_by-flat_map f (λ (c : QuantumCacheState). holdings_of (depot_rounds c.depot)) s.caches
      ∙ sum_alike (λ (c : QuantumCacheState). sum_by f (holdings_of (depot_rounds c.depot))) (λ c. sum_by (λ t. f t.holding) (depot_rounds c.depot)) s.caches (λ j c at. sum_by-map f (λ (t : Tag). t.holding) (depot_rounds c.depot))

  weigh_exported : sum_by f (flat_map (λ (x : SpaceState). held_of s.arena.id x.arena.imported) spaces) ≡ sum_by (weight_imported (of_arena s.arena.id (λ t. f t.holding))) spaces
  weigh_exported = sum_by-flat_map f (λ (x : SpaceState). held_of s.arena.id x.arena.imported) spaces
      ∙ sum_alike (λ (x : SpaceState). sum_by f (held_of s.arena.id x.arena.imported)) (weight_imported (of_arena s.arena.id (λ t. f t.holding))) spaces (λ j x at. weigh_of s.arena.id f x.arena.imported)

  weigh_homes : sum_by f (all_homes (homes_of spaces out s)) ≡ total (sums_of f (homes_of spaces out s))
  weigh_homes =
      let p = homes_of spaces out s in
      omega (
        arith,
        sum_by-append f p.free (p.slab ++ (p.magazine ++ (p.exported ++ (p.leased ++ p.hand)))),
        sum_by-append f p.slab (p.magazine ++ (p.exported ++ (p.leased ++ p.hand))),
        sum_by-append f p.magazine (p.exported ++ (p.leased ++ p.hand)),
        sum_by-append f p.exported (p.leased ++ p.hand),
        sum_by-append f p.leased p.hand,
      )

pub one_home : IsInOneHome
one_home spaces out accounted k s at u = (all, spans_once s.arena (accounted.stock k s at).sound u)
  where
    id : s.arena.id ≡ k
    id = (accounted.stock k s at).id

    at_id : slice_get spaces s.arena.id ≡ Some s
    at_id = ap (slice_get spaces) id ∙ at

    all : covering_held u (all_homes (homes_of spaces out s)) ≡ covering_held u (spans_of s.arena)
    all =
        let f : Tag → ℕ = of_arena s.arena.id (covers_tag u) in
        omega (
          arith,
          weigh_homes (covers_held u) spaces out s,
          each_unit spaces accounted.stock s.arena.id s at_id (all_out out) accounted.accounts u,
          sum_by-flat_map (covers_held u) (λ (c : QuantumCacheState). deeds_of c.slab) s.caches,
          weigh_magazine (covers_held u) spaces out s,
          weigh_exported (covers_held u) spaces out s,
          sum_by-append (covers_held u) (flat_map (λ (c : QuantumCacheState). holdings_of (depot_rounds c.depot)) s.caches) (held_of s.arena.id out.rounds),
          weigh_of s.arena.id (covers_held u) out.rounds,
          weigh_of s.arena.id (covers_held u) out.leases,
          weigh_of s.arena.id (covers_held u) out.hands,
          sum_by-append f out.hands (out.leases ++ out.rounds),
          sum_by-append f out.leases out.rounds,
        )

pub adds_up : AddsUp
adds_up spaces out accounted k s at = sym (weigh_homes units_in spaces out s) ∙ as_long (all_homes (homes_of spaces out s)) (spans_of s.arena) (λ u. (one_home spaces out accounted k s at u).0)
