-- What a cache keeps, through its moves.
use Rattle.std.proofs.Common.{◌≡◌, inl, inr, ℕ, ◌+◌, ◌-◌, ◌*◌, ◌/◌, ◌%◌, ◌<◌, ◌≤◌, ◌^◌, Bool, true, false, nat_le, List, [], length, get_or, set, take, drop, All, AllPairs, insert, remove, refl, sym, ap, ◌∙◌, arith, subst, if◌then◌else◌}
use Rattle.std.proofs.Math.Nat.{div-eq-sub-div, eq-zero-or-pos, mul-le-mul_right, add-mod_right, zero-mod}
use Rattle.std.proofs.Math.ListN.{replicate}
use Rattle.std.proofs.lemmas.Bool.Decides.{nat_tests}
use Rattle.std.specs.Prelude.{Any}
use Rattle.std.proofs.lemmas.Bool.{cases_lt}
use Rattle.std.proofs.lemmas.List.{length-set, length-replicate, length-take, length-drop, get_or-take, get_or-drop, get_or_default}
use Rattle.std.proofs.lemmas.List.Elements.{All-set, All-get_or, All-nil, All-same}
use Rattle.std.proofs.lemmas.List.Quantifiers.{all_pairs_remove}
use Rattle.deed_core.specs.Extent.{Extent, Overlap, end_of}
use Rattle.deed_core.specs.Tag.{Tag}
use Rattle.slab_layer.specs.Slab.{SlabState, new_slab, with_chunk, IsComplete, IsLowestIdle}
use Rattle.slab_layer.specs.Cache.{SlabCacheState, chunk_tag, span_tag, IsBelow, IsOfSize, IsOnGrid, IsSoundCache, chunk_of, spare_of, next_colour}
use Rattle.slab_layer.specs.Calls.{StandsAt, IsChunk, IsLowest, IsNext, Takes, Puts, Adds, Reaps, with_slabs}
use Rattle.slab_layer.proofs.ListLemmas.{pairs_set, pairs_insert, all_insert, all_remove}
use Rattle.slab_layer.proofs.SearchLemmas.{next_stands, same_slab}

-- what holds of each slab holds of one that stands
pub of_size : (c : SlabCacheState) (i : ℕ) (s : SlabState) → IsSoundCache c → StandsAt i s c.slabs → IsOfSize c.slab_size (chunk_of c) s
of_size c i s sound stands = subst (λ (t : SlabState). IsOfSize c.slab_size (chunk_of c) t) stands.is (All-get_or (IsOfSize c.slab_size (chunk_of c)) c.slabs i s stands.within sound.slabs)

pub on_grid : (c : SlabCacheState) (i : ℕ) (s : SlabState) → IsSoundCache c → StandsAt i s c.slabs → IsOnGrid c.quantum s
on_grid c i s sound stands = subst (λ (t : SlabState). IsOnGrid c.quantum t) stands.is (All-get_or (IsOnGrid c.quantum) c.slabs i s stands.within sound.grid)

-- a chunk moves
pub sound_with : (c : SlabCacheState) (i j : ℕ) (s : SlabState) (b : Bool) → IsSoundCache c → StandsAt i s c.slabs → IsSoundCache (with_slabs c (set c.slabs i (with_chunk s j b)))
sound_with c i j s b sound stands =
    let size : IsOfSize c.slab_size (chunk_of c) s = of_size c i s sound stands in
    let grid : IsOnGrid c.quantum s = on_grid c i s sound stands in
    record {
      some = sound.some;
      room = sound.room;
      colour = sound.colour;
      slabs = All-set (IsOfSize c.slab_size (chunk_of c)) c.slabs i (with_chunk s j b) (record { size = size.size; chunk = size.chunk; count = length-set s.home j b ∙ size.count; colour = size.colour; end = size.end }) sound.slabs;
      whole = sound.whole;
      grid = All-set (IsOnGrid c.quantum) c.slabs i (with_chunk s j b) (record { base = grid.base; colour = grid.colour }) sound.grid;
      ascending = pairs_set IsBelow c.slabs i (with_chunk s j b) stands.within
          (λ d t below. let e : get_or c.slabs i d ≡ s = get_or_default c.slabs i d s stands.within ∙ stands.is in subst (λ (r : SlabState). IsBelow r t) e below)
          (λ d t below. let e : get_or c.slabs i d ≡ s = get_or_default c.slabs i d s stands.within ∙ stands.is in subst (λ (r : SlabState). IsBelow t r) e below)
          sound.ascending;
    }

pub sound_takes : (i j : ℕ) (s : SlabState) (old new : SlabCacheState) (t : Tag) → Takes i j s old new t → IsSoundCache old → IsSoundCache new
sound_takes i j s old new t takes sound = subst IsSoundCache (sym takes.after) (sound_with old i j s false sound (next_stands i s old.slabs takes.next))

pub sound_puts : (i j : ℕ) (s : SlabState) (old new : SlabCacheState) (t : Tag) → Puts i j s old new t → IsSoundCache old → IsSoundCache new
sound_puts i j s old new t puts sound = subst IsSoundCache (sym puts.after) (sound_with old i j s true sound puts.chunk.stands)

-- a slab leaves
pub sound_reaps : (i : ℕ) (s : SlabState) (old new : SlabCacheState) (t : Tag) → Reaps i s old new t → IsSoundCache old → IsSoundCache new
sound_reaps i s old new t reaps sound = subst IsSoundCache (sym reaps.after) (record {
  some = sound.some;
  room = sound.room;
  colour = sound.colour;
  whole = sound.whole;
  slabs = all_remove (IsOfSize old.slab_size (chunk_of old)) old.slabs i sound.slabs;
  grid = all_remove (IsOnGrid old.quantum) old.slabs i sound.grid;
  ascending = all_pairs_remove IsBelow old.slabs i reaps.lowest.stands.within sound.ascending;
})

-- the next colour leaves room
pub next_fits : (c : SlabCacheState) → next_colour c ≤ spare_of c.slab_size (chunk_of c)
next_fits c = elim (nat_le (c.colour + c.quantum) (spare_of c.slab_size (chunk_of c))) as (λ b. nat_le (c.colour + c.quantum) (spare_of c.slab_size (chunk_of c)) ≡ b → (if b then c.colour + c.quantum else 0) ≤ spare_of c.slab_size (chunk_of c)) [
  | true ↦ λ e. grind (arith, nat_tests)
  | false ↦ λ e. omega arith
] refl

-- and is in whole quanta
pub next_whole : (c : SlabCacheState) → c.colour % c.quantum ≡ 0 → next_colour c % c.quantum ≡ 0
next_whole c whole = elim (nat_le (c.colour + c.quantum) (spare_of c.slab_size (chunk_of c))) as (λ b. (if b then c.colour + c.quantum else 0) % c.quantum ≡ 0) [
  | true ↦ add-mod_right c.colour c.quantum ∙ whole
  | false ↦ zero-mod c.quantum
]

-- a slab comes
pub sound_adds : (i : ℕ) (old new : SlabCacheState) (span first : Tag) → Adds i old new span first → end_of span.holding.range ≤ 2 ^ 62 → span.holding.range.base % old.quantum ≡ 0 → IsSoundCache old → IsSoundCache new
sound_adds i old new span first adds end base sound =
    let size : span.holding.range.len ≡ old.slab_size = adds.size in
    let slab : SlabState = with_chunk (new_slab span.holding old.colour (chunk_of old)) 0 false in
    let count : length (set (replicate (span.holding.range.len / chunk_of old) true) 0 false) ≡ old.slab_size / chunk_of old =
    length-set (replicate (span.holding.range.len / chunk_of old) true) 0 false ∙ length-replicate (span.holding.range.len / chunk_of old) true ∙ ap (λ n. n / chunk_of old) size in
    subst IsSoundCache (sym adds.after) (record {
      some = sound.some;
      room = sound.room;
      colour = next_fits old;
      whole = next_whole old sound.whole;
      grid = all_insert (IsOnGrid old.quantum) old.slabs i slab sound.grid (record { base = base; colour = sound.whole });
      slabs = all_insert (IsOfSize old.slab_size (chunk_of old)) old.slabs i slab sound.slabs (record { size = size; chunk = refl; count = count; colour = sound.colour; end = end });
      ascending = pairs_insert IsBelow old.slabs i slab sound.ascending adds.below adds.above;
    })

-- the moves, from what the calls on the slabs say: x is the cache as the code sees it
pub made_takes : (i j : ℕ) (s : SlabState) (slabs : List SlabState) (x old : SlabCacheState) (t : Tag) → x ≡ old → IsNext i s x.slabs → IsLowestIdle j s.home → slabs ≡ set x.slabs i (with_chunk s j false) → t ≡ chunk_tag x.arena x.k s j
    → Takes i j s old (with_slabs x slabs) t
made_takes i j s slabs x old t view next idle after tag =
    let T : SlabCacheState → Type 0 = λ c. Takes i j s c (with_slabs x slabs) t in
    subst T view (record { next = next; lowest = idle; tag = tag; after = ap (with_slabs x) after })

pub made_puts : (i j : ℕ) (s : SlabState) (slabs : List SlabState) (x old : SlabCacheState) (t : Tag) → x ≡ old → IsChunk i j s false t x → slabs ≡ set x.slabs i (with_chunk s j true) → Puts i j s old (with_slabs x slabs) t
made_puts i j s slabs x old t view chunk after =
    let T : SlabCacheState → Type 0 = λ c. Puts i j s c (with_slabs x slabs) t in
    subst T view (record { chunk = chunk; after = ap (with_slabs x) after })

pub made_reaps : (i : ℕ) (s u : SlabState) (slabs : List SlabState) (x old : SlabCacheState) (t : Tag) → x ≡ old → IsLowest IsComplete i s x.slabs → u ≡ get_or x.slabs i u → slabs ≡ remove x.slabs i → t ≡ span_tag x.arena u
    → Reaps i s old (with_slabs x slabs) t
made_reaps i s u slabs x old t view lowest is left tag =
    let same : u ≡ s = same_slab i s u x.slabs lowest.stands is in
    let T : SlabCacheState → Type 0 = λ c. Reaps i s c (with_slabs x slabs) t in
    subst T view (record { lowest = lowest; tag = tag ∙ ap (span_tag x.arena) same; after = ap (with_slabs x) left })

-- an empty cache
pub sound_empty : (arena k quantum slab_size : ℕ) (slabs : List SlabState) → slabs ≡ [] → 1 ≤ k → 1 ≤ quantum → k * quantum ≤ slab_size
    → IsSoundCache (record { arena = arena; k = k; quantum = quantum; slab_size = slab_size; slabs = slabs; colour = 0 })
sound_empty arena k quantum slab_size slabs none some_k some_quantum room =
    let least : 1 * quantum ≤ k * quantum = mul-le-mul_right quantum some_k in
    record {
      some = omega (arith, least);
      room = room;
      colour = omega arith;
      whole = zero-mod quantum;
      slabs = All-same (IsOfSize slab_size (k * quantum)) slabs [] none (All-nil (IsOfSize slab_size (k * quantum)));
      grid = All-same (IsOnGrid quantum) slabs [] none (All-nil (IsOnGrid quantum));
      ascending = subst (λ (xs : List SlabState). AllPairs IsBelow xs) (sym none) (λ i j d before within. absurd (omega arith));
    }

-- there is a chunk in each slab
pub some_chunk : (c : SlabCacheState) → IsSoundCache c → 0 < c.slab_size / chunk_of c
some_chunk c sound = let e : c.slab_size / chunk_of c ≡ (c.slab_size - chunk_of c) / chunk_of c + 1 = div-eq-sub-div sound.some sound.room in omega arith

-- a span that overlaps no slab stands between those below it and those above it
pub record IsPlaced (i : ℕ) (e : Extent) (slabs : List SlabState) : Type 0 where
  pub within : i ≤ length slabs
  pub below : All (λ s. end_of s.span.range ≤ e.base) (take i slabs)
  pub above : All (λ s. end_of e ≤ s.span.range.base) (drop i slabs)

pub placed_at : (i : ℕ) (e : Extent) (c : SlabCacheState) → IsSoundCache c → 0 < e.len → (Any (λ s. Overlap s.span.range e) c.slabs → ⊥) → i ≤ length c.slabs
    → ((k : ℕ) (d : SlabState) → k < i → (get_or c.slabs k d).span.range.base < e.base) → (i < length c.slabs → (d : SlabState) → e.base ≤ (get_or c.slabs i d).span.range.base) → IsPlaced i e c.slabs
placed_at i e c sound some apart reach below above = record {
  within = reach;
  below = λ k d in_front.
      let k_at : k < i = omega (arith, length-take i c.slabs) in
      rw (get_or-take i c.slabs k d k_at) (
      let s : SlabState = get_or c.slabs k d in
      let low : s.span.range.base < e.base = below k d k_at in
      elim (cases_lt e.base (end_of s.span.range)) [
        | inl cross ↦ absurd (apart (k, s, omega arith, get_or_default c.slabs k s d (omega arith), (omega arith, cross)))
        | inr clear ↦ clear
      ]
      );
  above = λ k d in_back.
      let in_slabs : i + k < length c.slabs = omega (arith, length-drop i c.slabs) in
      rw (get_or-drop i c.slabs k d) (
      let s : SlabState = get_or c.slabs (i + k) d in
      let first : e.base ≤ (get_or c.slabs i d).span.range.base = above (omega arith) d in
      let size : IsOfSize c.slab_size (chunk_of c) s = sound.slabs (i + k) d in_slabs in
      let order : e.base ≤ s.span.range.base = elim (eq-zero-or-pos k) [
        | inl none ↦ let same : i + k ≡ i = omega arith in rw same first
        | inr more ↦ let up : IsBelow (get_or c.slabs i d) s = sound.ascending i (i + k) d (omega arith) in_slabs in omega (arith, up, first)
      ] in
      elim (cases_lt s.span.range.base (end_of e)) [
        | inl cross ↦ absurd (apart (i + k, s, in_slabs, get_or_default c.slabs (i + k) s d in_slabs, (cross, omega (arith, size.size, sound.some, sound.room))))
        | inr clear ↦ clear
      ]
      );
}

pub made_adds : (i next : ℕ) (slab : SlabState) (slabs : List SlabState) (x old : SlabCacheState) (span first : Tag) (e : Extent) → x ≡ old → IsSoundCache old → e ≡ span.holding.range → 0 < e.len
    → (Any (λ s. Overlap s.span.range e) x.slabs → ⊥) → i ≤ length x.slabs → ((k : ℕ) (d : SlabState) → k < i → (get_or x.slabs k d).span.range.base < e.base)
    → (i < length x.slabs → (d : SlabState) → e.base ≤ (get_or x.slabs i d).span.range.base)
    → slab ≡ with_chunk (new_slab span.holding x.colour (chunk_of x)) 0 false → span.holding.range.len ≡ x.slab_size → slabs ≡ insert x.slabs i slab → next ≡ next_colour old → first ≡ chunk_tag x.arena x.k (new_slab span.holding x.colour (chunk_of x)) 0
    → Adds i old (record { arena = x.arena; k = x.k; quantum = x.quantum; slab_size = x.slab_size; slabs = slabs; colour = next }) span first
made_adds i next slab slabs x old span first e view sound range some apart reach below above made size put colour tag =
    let placed : IsPlaced i e x.slabs = placed_at i e x (subst IsSoundCache (sym view) sound) some apart reach below above in
    let at : IsPlaced i span.holding.range x.slabs = subst (λ (r : Extent). IsPlaced i r x.slabs) range placed in
    let T : SlabCacheState → Type 0 = λ c. Adds i c (record { arena = x.arena; k = x.k; quantum = x.quantum; slab_size = x.slab_size; slabs = slabs; colour = next }) span first in
    let next_is : next ≡ next_colour x = colour ∙ ap next_colour (sym view) in
    subst T view (record {
      size = size;
      clear = subst (λ (r : Extent). Any (λ s. Overlap s.span.range r) x.slabs → ⊥) range apart;
      within = at.within;
      below = at.below;
      above = at.above;
      tag = tag;
      after = λ n. record { arena = x.arena; k = x.k; quantum = x.quantum; slab_size = x.slab_size; slabs = (put ∙ ap (insert x.slabs i) made) n; colour = next_is n };
    })
