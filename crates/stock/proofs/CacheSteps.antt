-- What a step of one quantum cache leaves of a stock and of its accounts.
use Rattle.std.proofs.Common.{◌≡◌, ℕ, ◌+◌, ◌<◌, refl, sym, subst, ap, ◌∙◌, inl, inr, ◌↔◌, List, map, length, set, get_or, Some, arith}
use Rattle.std.specs.Prelude.{sum_by, slice_get}
use Rattle.std.proofs.lemmas.Option.{slice_get_within}
use Rattle.std.proofs.lemmas.List.Sums.{sum_by-append}
use Rattle.deed_core.specs.Tag.{Tag}
use Rattle.deed_core.specs.Weights.{of_direct, of_cached}
use Rattle.deed_core.proofs.LawProofs.{written, sum_set, map_set_same, slice_get_here, slice_get_one, slice_get_some}
use Rattle.stock.specs.Spaces.{SpaceState, QuantumCacheState, with_cache, IsCacheAt, HasCache, slab_size_of, plan_of, plans_of, quantum_of, quanta_of}
use Rattle.stock.specs.Stocks.{IsQuantumCache, IsSpaceAt, IsStock}
use Rattle.stock.specs.Accounts.{weight_allocated, weight_imported, slabs_in, chunks_in, rounds_in, slabs, chunks, rounds, Frames}
use Rattle.stock.proofs.Moving.{Moves}
use Rattle.stock.proofs.Moving as moving

-- the indexes of a cache that stands
pub index_within : (spaces : List SpaceState) (k j : ℕ) → HasCache spaces k j → k < length spaces
index_within spaces k j has = slice_get_within spaces k has.1.space has.1.at

pub number_within : (spaces : List SpaceState) (k j : ℕ) (s : SpaceState) → HasCache spaces k j → slice_get spaces k ≡ Some s → j < length s.caches
number_within spaces k j s has at = subst (λ (x : SpaceState). j < length x.caches) (slice_get_one spaces k has.1.space s has.1.at at) (slice_get_within has.1.space.caches j has.0 has.1.among)

pub has_cache : (spaces : List SpaceState) (k : ℕ) (s : SpaceState) (j : ℕ) → slice_get spaces k ≡ Some s → j < length s.caches → HasCache spaces k j
has_cache spaces k s j at within = (let c = slice_get_some s.caches j within in (c.0, record { space = s; at = at; among = c.1 }))

-- the spaces lie in `items`, at the index stands one with these fields, and among its caches one
-- with these
pub record OpensCache (spaces items : List SpaceState) (k : ℕ) (s : SpaceState) (j : ℕ) (c : QuantumCacheState) : Type 0 where
  pub opened : moving.Opens spaces items k s
  pub among : slice_get s.caches j ≡ Some c

pub opens_cache : (spaces items : List SpaceState) (k : ℕ) (s : SpaceState) (j : ℕ) (c read : QuantumCacheState) → moving.Opens spaces items k s → j < length s.caches → read ≡ get_or s.caches j read → c ≡ read → OpensCache spaces items k s j c
opens_cache spaces items k s j c read o within at_read view = record { opened = o; among = slice_get_here s.caches j read within at_read ∙ ap Some (sym view) }

-- what holds of the cache that was opened holds of the one at the index
pub at_cache : (spaces items : List SpaceState) (k : ℕ) (s : SpaceState) (j : ℕ) (c : QuantumCacheState) → OpensCache spaces items k s j c → (P : QuantumCacheState → Type 0) → P c → (x : QuantumCacheState) → IsCacheAt spaces k j x → P x
at_cache spaces items k s j c o P here x at =
    let space : at.space ≡ s = slice_get_one spaces k at.space s at.at o.opened.at in
    let among : slice_get s.caches j ≡ Some x = ap (λ (z : SpaceState). slice_get z.caches j) (sym space) ∙ at.among in
    subst P (slice_get_one s.caches j c x o.among among) here

module _ (spaces : List SpaceState) (k : ℕ) (s : SpaceState) (at : slice_get spaces k ≡ Some s) (j : ℕ) (c : QuantumCacheState) (among : slice_get s.caches j ≡ Some c) (new : QuantumCacheState) where
  abbrev now : List SpaceState
  now = set spaces k (with_cache j new s)

  cache_plans : new.slab.slab_size ≡ c.slab.slab_size → plans_of now ≡ plans_of spaces
  cache_plans size =
      let sizes : map slab_size_of (set s.caches j new) ≡ map slab_size_of s.caches = map_set_same slab_size_of s.caches j c new among size in
      map_set_same plan_of spaces k s (with_cache j new s) at (λ i. record { source = s.source; quantum = s.arena.quantum; policy = s.arena.policy; slab_sizes = sizes i })

  cache_stock : IsQuantumCache k (j + 1) s.arena.quantum new → IsStock spaces → IsStock now
  cache_stock law stock i x there = subst (λ qs. IsSpaceAt qs i x) (sym quanta) (elim (written spaces k i (with_cache j new s) x there) [
    | inl here ↦ subst (λ z. IsSpaceAt (quanta_of spaces) i z) (sym here.1) (subst (λ m. IsSpaceAt (quanta_of spaces) m (with_cache j new s)) (sym here.0) is)
    | inr other ↦ stock i x other.1
  ])
    where
      quanta : quanta_of now ≡ quanta_of spaces
      quanta = map_set_same quantum_of spaces k s (with_cache j new s) at refl

      old : IsSpaceAt (quanta_of spaces) k s
      old = stock k s at

      each : (i : ℕ) (x : QuantumCacheState) → slice_get (set s.caches j new) i ≡ Some x → IsQuantumCache k (i + 1) s.arena.quantum x
      each i x there = elim (written s.caches j i new x there) [
        | inl here ↦ subst (λ z. IsQuantumCache k (i + 1) s.arena.quantum z) (sym here.1) (subst (λ m. IsQuantumCache k (m + 1) s.arena.quantum new) (sym here.0) law)
        | inr other ↦ old.caches i x other.1
      ]

      is : IsSpaceAt (quanta_of spaces) k (with_cache j new s)
      is = record { few = old.few; id = old.id; sound = old.sound; imported = old.imported; owned = old.owned; before = old.before; nests = old.nests; caches = each }

  cache_frame : (given answered : List Tag)
      → ((f : Tag → ℕ) → sum_by (of_direct f) answered + slabs_in f new ≡ sum_by (of_direct f) given + slabs_in f c)
      → ((f : Tag → ℕ) → chunks_in f new + sum_by (of_cached f) given + rounds_in f c ≡ chunks_in f c + sum_by (of_cached f) answered + rounds_in f new)
      → Frames spaces given now answered
  cache_frame given answered slabs_move chunks_move rest a = record {
    exports = λ f. omega (
      arith,
      a.exports f,
      slabs_move f,
      sum_set (weight_allocated f) spaces k s (with_cache j new s) at,
      sum_set (weight_imported f) spaces k s (with_cache j new s) at,
      sum_set (slabs f) spaces k s (with_cache j new s) at,
      sum_set (slabs_in f) s.caches j c new among,
      sum_by-append (of_direct f) given rest,
      sum_by-append (of_direct f) answered rest,
    );
    chunks_out = λ f. omega (
      arith,
      a.chunks_out f,
      chunks_move f,
      sum_set (chunks f) spaces k s (with_cache j new s) at,
      sum_set (chunks_in f) s.caches j c new among,
      sum_set (rounds f) spaces k s (with_cache j new s) at,
      sum_set (rounds_in f) s.caches j c new among,
      sum_by-append (of_cached f) given rest,
      sum_by-append (of_cached f) answered rest,
    );
  }

  -- One cache changed.
  pub cache_moves : (given answered : List Tag) → IsQuantumCache k (j + 1) s.arena.quantum new → new.slab.slab_size ≡ c.slab.slab_size
      → ((f : Tag → ℕ) → sum_by (of_direct f) answered + slabs_in f new ≡ sum_by (of_direct f) given + slabs_in f c)
      → ((f : Tag → ℕ) → chunks_in f new + sum_by (of_cached f) given + rounds_in f c ≡ chunks_in f c + sum_by (of_cached f) answered + rounds_in f new)
      → IsStock spaces → Moves spaces given now answered
  cache_moves given answered law size slabs_move chunks_move stock =
      record { stock = cache_stock law stock; frame = cache_frame given answered slabs_move chunks_move; fixed = cache_plans size }

-- a cache stands there, exactly where both indexes are within
pub has_exactly : (spaces : List SpaceState) (k : ℕ) (s : SpaceState) (j : ℕ) → slice_get spaces k ≡ Some s → (j < length s.caches) ↔ HasCache spaces k j
has_exactly spaces k s j at = ((λ within. has_cache spaces k s j at within), (λ has. number_within spaces k j s has at))
