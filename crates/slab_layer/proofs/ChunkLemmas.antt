-- What a chunk and a span of a cache are, and the laws of caches.
use Rattle.std.proofs.Common.{◌≡◌, inl, inr, ℕ, ◌+◌, ◌*◌, ◌/◌, ◌%◌, ◌<◌, ◌≤◌, ◌^◌, Bool, true, false, not, List, [], ◌∷◌, length, get_or, All, Some, None, refl, sym, ap, ◌∙◌, arith, subst}
use Rattle.std.proofs.Math.Nat.{mod-add-div', add-mul-mod_self_right, mul-mod_left, mul_assoc, eq-zero-or-pos, mul-zero}
use Rattle.std.specs.List.{flat_map}
use Rattle.std.proofs.lemmas.Bool.{not-false}
use Rattle.std.proofs.lemmas.List.{length-replicate, get_or_default}
use Rattle.std.proofs.lemmas.List.Elements.{All-weaker, All-head}
use Rattle.deed_core.specs.Extent.{end_of}
use Rattle.deed_core.specs.Selections.{is_of_cache}
use Rattle.deed_core.specs.Tag.{Tag}
use Rattle.deed_core.proofs.LawProofs.{sum_by-only_all, tests_say, fits_plain, rounds_once}
use Rattle.slab_layer.specs.Slab.{SlabState, IsSlab, IsComplete, new_slab, chunks_out_by}
use Rattle.slab_layer.specs.Cache.{SlabCacheState, IsSoundCache, IsOfSize, IsOnGrid, IsChunkOf, IsSpanOf, chunk_of, chunk_tag, chunks_out, idle_chunks}
use Rattle.slab_layer.specs.Calls.{IsAlike, Takes, Adds, Reaps}
use Rattle.slab_layer.specs.Laws.{ChunksAreOfCache, NeverBoth, OutIsOfCache, TakesNoneExactly, ReapsNoneExactly, ChunkFits, ChunkIsWholeQuanta, ReapedOutIsEmpty}
use Rattle.slab_layer.proofs.ListLemmas.{both_nil}
use Rattle.slab_layer.proofs.PassingLemmas.{none_passing}
use Rattle.slab_layer.proofs.SearchLemmas.{next_stands, not_all_out, not_none_complete}
use Rattle.slab_layer.proofs.SoundLemmas.{of_size, on_grid, some_chunk}
use Rattle.slab_layer.proofs.MoveLemmas.{slab_of_size}
use Rattle.slab_layer.proofs.MineLemmas.{SomeChunk, chunk_inside, never_both, out_is_chunk, idle_is_chunk}

-- a cache with other slabs and another colour
pub alike : (old new : SlabCacheState) (slabs : List SlabState) (colour : ℕ)
    → new ≡ record { arena = old.arena; k = old.k; quantum = old.quantum; slab_size = old.slab_size; slabs = slabs; colour = colour }
    → IsAlike old new
alike old new slabs colour after = record {
  arena = ap (λ c. c.arena) after;
  k = ap (λ c. c.k) after;
  quantum = ap (λ c. c.quantum) after;
  slab_size = ap (λ c. c.slab_size) after;
}

-- whole quanta together are whole quanta
grid_add : (a b q : ℕ) → a % q ≡ 0 → b % q ≡ 0 → (a + b) % q ≡ 0
grid_add a b q whole_a whole_b =
    let e : b ≡ b / q * q = omega (arith, mod-add-div' b q) in
    ap (λ (n : ℕ). (a + n) % q) e ∙ add-mul-mod_self_right a (b / q) q ∙ whole_a

grid_mul : (i k q : ℕ) → (i * (k * q)) % q ≡ 0
grid_mul i k q =
    let e : i * (k * q) ≡ i * k * q = omega (arith, mul_assoc i k q) in
    ap (λ (n : ℕ). n % q) e ∙ mul-mod_left (i * k) q

-- a chunk of a slab of the cache
chunk_of_slab : (c : SlabCacheState) (s : SlabState) (j : ℕ) (t : Tag) → IsSlab s → IsOfSize c.slab_size (chunk_of c) s → IsOnGrid c.quantum s → j < length s.home → t ≡ chunk_tag c.arena c.k s j
    → IsChunkOf c t
chunk_of_slab c s j t slab size grid within tag =
    let inside = chunk_inside s j slab within in
    let step : (j * s.chunk) % c.quantum ≡ 0 = ap (λ (n : ℕ). (j * n) % c.quantum) size.chunk ∙ grid_mul j c.k c.quantum in
    let first : (s.span.range.base + s.colour) % c.quantum ≡ 0 = grid_add s.span.range.base s.colour c.quantum grid.base grid.colour in
    subst (λ (x : Tag). IsChunkOf c x) (sym tag) (record {
      from = refl;
      by = refl;
      len = size.chunk;
      grid = grid_add (s.span.range.base + s.colour) (j * s.chunk) c.quantum first step;
      end = omega (arith, inside.1, size.end);
    })

pub takes_chunk : (i j : ℕ) (s : SlabState) (old new : SlabCacheState) (t : Tag) → Takes i j s old new t → IsSoundCache old → IsChunkOf old t
takes_chunk i j s old new t takes sound =
    let stands = next_stands i s old.slabs takes.next in
    let size = of_size old i s sound stands in
    chunk_of_slab old s j t (slab_of_size old s sound size) size (on_grid old i s sound stands) takes.lowest.within takes.tag

pub adds_chunk : (i : ℕ) (old new : SlabCacheState) (span first : Tag) → Adds i old new span first → end_of span.holding.range ≤ 2 ^ 62 → span.holding.range.base % old.quantum ≡ 0 → IsSoundCache old → IsChunkOf old first
adds_chunk i old new span first adds end base sound =
    let slab : SlabState = new_slab span.holding old.colour (chunk_of old) in
    let count : length slab.home ≡ old.slab_size / chunk_of old = length-replicate (span.holding.range.len / chunk_of old) true ∙ ap (λ (n : ℕ). n / chunk_of old) adds.size in
    let size : IsOfSize old.slab_size (chunk_of old) slab = record { size = adds.size; chunk = refl; count = count; colour = sound.colour; end = end } in
    chunk_of_slab old slab 0 first (slab_of_size old slab sound size) size (record { base = base; colour = sound.whole }) (omega (arith, count, some_chunk old sound)) adds.tag

pub reaps_span : (i : ℕ) (s : SlabState) (old new : SlabCacheState) (t : Tag) → Reaps i s old new t → IsSoundCache old → IsSpanOf old t
reaps_span i s old new t reaps sound =
    let size = of_size old i s sound reaps.lowest.stands in
    let grid = on_grid old i s sound reaps.lowest.stands in
    subst (λ (x : Tag). IsSpanOf old x) (sym reaps.tag) (record { from = refl; by = refl; len = size.size; grid = grid.base; end = size.end })

-- the laws
some_factor : (k q : ℕ) → 0 < k * q → 0 < q
some_factor k q some = elim (eq-zero-or-pos q) [
  | inl none ↦ let e : k * q ≡ 0 = ap (λ (n : ℕ). k * n) none ∙ mul-zero k in absurd (omega (arith, e))
  | inr more ↦ more
]

some_is_of : (b : Bool) (t : Tag) (c : SlabCacheState) → IsSoundCache c → SomeChunk b t c → IsChunkOf c t
some_is_of b t c sound some =
    let stands = some.chunk.stands in
    let size = of_size c some.i some.s sound stands in
    chunk_of_slab c some.s some.j t (slab_of_size c some.s sound size) size (on_grid c some.i some.s sound stands) some.chunk.within some.chunk.tag

pub chunks_are_of_cache : ChunksAreOfCache
chunks_are_of_cache c sound = (
  λ k d within.
      let t : Tag = get_or (chunks_out c) k d in
      some_is_of false t c sound (out_is_chunk t c (k, within, get_or_default (chunks_out c) k t d within)),
  λ k d within.
      let t : Tag = get_or (idle_chunks c) k d in
      some_is_of true t c sound (idle_is_chunk t c (k, within, get_or_default (idle_chunks c) k t d within)),
)

pub out_is_of_cache : OutIsOfCache
out_is_of_cache c sound f = sum_by-only_all (is_of_cache c.arena c.k) f (chunks_out c) (
    λ i d within.
    let t : Tag = get_or (chunks_out c) i d in
    let chunk : IsChunkOf c t = (chunks_are_of_cache c sound).0 i d within in
    ((tests_say t).3 c.arena c.k).1 (chunk.from, chunk.by)
    )

pub chunk_fits : ChunkFits
chunk_fits c t size chunk rounds =
    (fits_plain c.quantum size t.holding.range.base t.holding.range.len).1 (chunk.len ∙ sym rounds, chunk.grid, chunk.end)

pub chunk_is_whole_quanta : ChunkIsWholeQuanta
chunk_is_whole_quanta c sound = rounds_once c.quantum (chunk_of c) (some_factor c.k c.quantum sound.some) (mul-mod_left c.k c.quantum)

no_slab : (c : SlabCacheState) (slabs : List SlabState) → All (λ s. IsComplete s → ⊥) slabs → flat_map (λ s. chunks_out_by (chunk_tag c.arena c.k s) s) slabs ≡ [] → slabs ≡ []
no_slab c [] none empty = refl
no_slab c (s ∷ ss) none empty =
    let first = (both_nil (chunks_out_by (chunk_tag c.arena c.k s) s) (flat_map (λ r. chunks_out_by (chunk_tag c.arena c.k r) r) ss) empty).0 in
    let home : All (λ b. not b ≡ false) s.home = none_passing not (chunk_tag c.arena c.k s) 0 s.home first in
    let complete : IsComplete s = All-weaker (λ b. not b ≡ false) (λ b. b ≡ true) (λ b e. not-false b e) s.home home in
    absurd (All-head (λ r. IsComplete r → ⊥) s ss none complete)

pub never_both_ways : NeverBoth
never_both_ways c t sound out idle = never_both t c sound (out_is_chunk t c out) (idle_is_chunk t c idle)

pub takes_none_exactly : TakesNoneExactly
takes_none_exactly old new None taken = (λ e. taken.0, λ out. refl)
takes_none_exactly old new (Some t) taken = (λ e. cc, λ out. absurd (not_all_out taken.0 taken.1 taken.2 old.slabs (next_stands taken.0 taken.2 old.slabs taken.3.next) taken.3.lowest out))

pub reaps_none_exactly : ReapsNoneExactly
reaps_none_exactly old new None reaped = (λ e. reaped.0, λ none. refl)
reaps_none_exactly old new (Some t) reaped = (λ e. cc, λ none. absurd (not_none_complete reaped.0 reaped.1 old.slabs reaped.2.lowest none))

pub reaped_out_is_empty : ReapedOutIsEmpty
reaped_out_is_empty c none empty = no_slab c c.slabs none empty
