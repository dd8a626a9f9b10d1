-- What the moves of a cache weigh.
use Rattle.std.proofs.Common.{◌≡◌, All, inl, inr, zero-add, ℕ, ◌+◌, ◌-◌, ◌*◌, ◌/◌, ◌<◌, ◌≤◌, Bool, true, false, not, List, [], ◌++◌, length, get_or, set, map, Option, insert, remove, refl, sym, ap, ◌∙◌, arith}
use Rattle.std.specs.Prelude.{sum_by}
use Rattle.std.specs.List.{flat_map}
use Rattle.std.specs.Option.{option_to_list}
use Rattle.std.proofs.Math.Nat.{div-mul-le_self, eq-zero-or-pos}
use Rattle.std.proofs.Math.ListN.{replicate}
use Rattle.std.proofs.lemmas.List.{length-set, length-replicate, get_or-replicate, get_or-map, map-set, set-get_or}
use Rattle.std.proofs.lemmas.List.Elements.{All-weaker, All-replicate}
use Rattle.std.proofs.lemmas.List.Sums.{sum_by-append, sum_by-insert, sum_by-remove}
use Rattle.deed_core.specs.Extent.{Extent}
use Rattle.deed_core.specs.Holding.{Holding}
use Rattle.deed_core.specs.Tag.{Tag}
use Rattle.deed_core.specs.declared.segments.Route.TheVariants.{Direct}
use Rattle.deed_core.specs.Covering.{covers, covers_held, covers_tag, covering_held}
use Rattle.deed_core.specs.Weights.{Gains, Loses, WeighSame}
use Rattle.deed_core.proofs.LawProofs.{covers_cut, sum_by-map}
use Rattle.slab_layer.specs.Parts.{piece_or_none}
use Rattle.slab_layer.specs.Slab.{SlabState, IsSlab, IsComplete, chunk_at, used_units, unused_units, gap_of, tail_of, idle_chunks_by, chunks_out_by, deeds_in, new_slab, with_chunk}
use Rattle.slab_layer.specs.Cache.{SlabCacheState, IsOfSize, IsSoundCache, chunk_of, spare_of, chunk_tag, span_tag, deeds_of, chunks_out, span_tags}
use Rattle.slab_layer.specs.Calls.{StandsAt, Takes, Puts, Adds, Reaps}
use Rattle.slab_layer.proofs.PartLemmas.{part_none, part_some}
use Rattle.slab_layer.proofs.PassingLemmas.{counted, sum_by-items_where-set, passing_none, covering-items_where, covers_nothing}
use Rattle.slab_layer.proofs.ListLemmas.{sum_by-flat_map-set, sum_by-flat_map-insert, sum_by-flat_map-remove}
use Rattle.slab_layer.proofs.SearchLemmas.{next_stands}

-- what lies in a slab
pub sum_by-kept : (g : Holding → ℕ) (s : SlabState) → sum_by g (deeds_in s) ≡ sum_by g (option_to_list (gap_of s)) + sum_by g (idle_chunks_by (chunk_at s) s) + sum_by g (option_to_list (tail_of s))
sum_by-kept g s =
    omega (arith, sum_by-append g (option_to_list (gap_of s)) (idle_chunks_by (chunk_at s) s ++ option_to_list (tail_of s)), sum_by-append g (idle_chunks_by (chunk_at s) s) (option_to_list (tail_of s)))

pub same_tail : (s : SlabState) (j : ℕ) (b : Bool) → tail_of (with_chunk s j b) ≡ tail_of s
same_tail s j b =
    let e : length (set s.home j b) * s.chunk ≡ length s.home * s.chunk = ap (λ n. n * s.chunk) (length-set s.home j b) in
    ap (λ n. piece_or_none s.span.root (s.span.range.base + s.colour + n) (s.span.range.len - (s.colour + n))) e

-- a chunk leaves a slab
pub out_taken : {X : Type 0} (g : X → ℕ) (f : ℕ → X) (s : SlabState) (j : ℕ) → j < length s.home → get_or s.home j false ≡ true → sum_by g (chunks_out_by f (with_chunk s j false)) ≡ sum_by g (chunks_out_by f s) + g (f j)
out_taken g f s j within here =
    let e : 0 + j ≡ j = omega arith in
    let set_out = sum_by-items_where-set g not f 0 s.home j false false within in
    let was : counted (not (get_or s.home j false)) (g (f (0 + j))) ≡ 0 = rw here refl in
    let is : counted true (g (f (0 + j))) ≡ g (f j) = rw e refl in
    omega (arith, set_out, was, is)

pub kept_taken : (g : Holding → ℕ) (s : SlabState) (j : ℕ) → j < length s.home → get_or s.home j false ≡ true → sum_by g (deeds_in s) ≡ sum_by g (deeds_in (with_chunk s j false)) + g (chunk_at s j)
kept_taken g s j within here =
    let e : 0 + j ≡ j = omega arith in
    let set_idle = sum_by-items_where-set g (λ b. b) (chunk_at s) 0 s.home j false false within in
    let was : counted (get_or s.home j false) (g (chunk_at s (0 + j))) ≡ g (chunk_at s j) = rw (here, e) refl in
    let tail = ap (λ (o : Option Holding). sum_by g (option_to_list o)) (same_tail s j false) in
    omega (arith, set_idle, was, tail, sum_by-kept g s, sum_by-kept g (with_chunk s j false))

-- a chunk comes back to a slab
pub out_put : {X : Type 0} (g : X → ℕ) (f : ℕ → X) (s : SlabState) (j : ℕ) → j < length s.home → get_or s.home j false ≡ false → sum_by g (chunks_out_by f s) ≡ sum_by g (chunks_out_by f (with_chunk s j true)) + g (f j)
out_put g f s j within away =
    let e : 0 + j ≡ j = omega arith in
    let set_out = sum_by-items_where-set g not f 0 s.home j true false within in
    let was : counted (not (get_or s.home j false)) (g (f (0 + j))) ≡ g (f j) = rw (away, e) refl in
    omega (arith, set_out, was)

pub kept_put : (g : Holding → ℕ) (s : SlabState) (j : ℕ) → j < length s.home → get_or s.home j false ≡ false → sum_by g (deeds_in (with_chunk s j true)) ≡ sum_by g (deeds_in s) + g (chunk_at s j)
kept_put g s j within away =
    let e : 0 + j ≡ j = omega arith in
    let set_idle = sum_by-items_where-set g (λ b. b) (chunk_at s) 0 s.home j true false within in
    let was : counted (get_or s.home j false) (g (chunk_at s (0 + j))) ≡ 0 = rw away refl in
    let is : counted true (g (chunk_at s (0 + j))) ≡ g (chunk_at s j) = rw e refl in
    let tail = ap (λ (o : Option Holding). sum_by g (option_to_list o)) (same_tail s j true) in
    omega (arith, set_idle, was, is, tail, sum_by-kept g s, sum_by-kept g (with_chunk s j true))

-- the spans stay where a chunk moves
same_spans : (a i j : ℕ) (s : SlabState) (b : Bool) (slabs : List SlabState) → StandsAt i s slabs → map (span_tag a) (set slabs i (with_chunk s j b)) ≡ map (span_tag a) slabs
same_spans a i j s b slabs stands =
    let here : get_or (map (span_tag a) slabs) i (span_tag a s) ≡ span_tag a s = get_or-map (span_tag a) slabs i s (span_tag a s) stands.within ∙ ap (span_tag a) stands.is in
    map-set (span_tag a) slabs i (with_chunk s j b) ∙ ap (set (map (span_tag a) slabs) i) (sym here) ∙ set-get_or (map (span_tag a) slabs) i (span_tag a s)

pub takes_out : (i j : ℕ) (s : SlabState) (old new : SlabCacheState) (t : Tag) → Takes i j s old new t → Gains (chunks_out old) (chunks_out new) t
takes_out i j s old new t takes f =
    let stands : StandsAt i s old.slabs = next_stands i s old.slabs takes.next in
    let F : SlabState → List Tag = λ x. chunks_out_by (chunk_tag old.arena old.k x) x in
    let all = sum_by-flat_map-set f F old.slabs i (with_chunk s j false) s stands.within in
    let was : sum_by f (F (get_or old.slabs i s)) ≡ sum_by f (F s) = ap (λ x. sum_by f (F x)) stands.is in
    let one : sum_by f (F (with_chunk s j false)) ≡ sum_by f (F s) + f (chunk_tag old.arena old.k s j) = out_taken f (chunk_tag old.arena old.k s) s j takes.lowest.within takes.lowest.idle in
    let after : sum_by f (chunks_out new) ≡ sum_by f (flat_map F (set old.slabs i (with_chunk s j false))) = ap (λ x. sum_by f (chunks_out x)) takes.after in
    let tag = ap f takes.tag in
    omega (arith, all, was, one, after, tag)

pub takes_kept : (i j : ℕ) (s : SlabState) (old new : SlabCacheState) (t : Tag) → Takes i j s old new t → Loses (deeds_of old) (deeds_of new) t.holding
takes_kept i j s old new t takes f =
    let stands : StandsAt i s old.slabs = next_stands i s old.slabs takes.next in
    let all = sum_by-flat_map-set f deeds_in old.slabs i (with_chunk s j false) s stands.within in
    let was : sum_by f (deeds_in (get_or old.slabs i s)) ≡ sum_by f (deeds_in s) = ap (λ x. sum_by f (deeds_in x)) stands.is in
    let one = kept_taken f s j takes.lowest.within takes.lowest.idle in
    let after : sum_by f (deeds_of new) ≡ sum_by f (flat_map deeds_in (set old.slabs i (with_chunk s j false))) = ap (λ x. sum_by f (deeds_of x)) takes.after in
    let tag : f t.holding ≡ f (chunk_at s j) = ap (λ (x : Tag). f x.holding) takes.tag in
    omega (arith, all, was, one, after, tag)

pub takes_spans : (i j : ℕ) (s : SlabState) (old new : SlabCacheState) (t : Tag) → Takes i j s old new t → span_tags new ≡ span_tags old
takes_spans i j s old new t takes = ap span_tags takes.after ∙ same_spans old.arena i j s false old.slabs (next_stands i s old.slabs takes.next)

pub puts_out : (i j : ℕ) (s : SlabState) (old new : SlabCacheState) (t : Tag) → Puts i j s old new t → Loses (chunks_out old) (chunks_out new) t
puts_out i j s old new t puts f =
    let stands : StandsAt i s old.slabs = puts.chunk.stands in
    let F : SlabState → List Tag = λ x. chunks_out_by (chunk_tag old.arena old.k x) x in
    let all = sum_by-flat_map-set f F old.slabs i (with_chunk s j true) s stands.within in
    let was : sum_by f (F (get_or old.slabs i s)) ≡ sum_by f (F s) = ap (λ x. sum_by f (F x)) stands.is in
    let one : sum_by f (F s) ≡ sum_by f (F (with_chunk s j true)) + f (chunk_tag old.arena old.k s j) = out_put f (chunk_tag old.arena old.k s) s j puts.chunk.within puts.chunk.home in
    let after : sum_by f (chunks_out new) ≡ sum_by f (flat_map F (set old.slabs i (with_chunk s j true))) = ap (λ x. sum_by f (chunks_out x)) puts.after in
    let tag = ap f puts.chunk.tag in
    omega (arith, all, was, one, after, tag)

pub puts_kept : (i j : ℕ) (s : SlabState) (old new : SlabCacheState) (t : Tag) → Puts i j s old new t → Gains (deeds_of old) (deeds_of new) t.holding
puts_kept i j s old new t puts f =
    let stands : StandsAt i s old.slabs = puts.chunk.stands in
    let all = sum_by-flat_map-set f deeds_in old.slabs i (with_chunk s j true) s stands.within in
    let was : sum_by f (deeds_in (get_or old.slabs i s)) ≡ sum_by f (deeds_in s) = ap (λ x. sum_by f (deeds_in x)) stands.is in
    let one = kept_put f s j puts.chunk.within puts.chunk.home in
    let after : sum_by f (deeds_of new) ≡ sum_by f (flat_map deeds_in (set old.slabs i (with_chunk s j true))) = ap (λ x. sum_by f (deeds_of x)) puts.after in
    let tag : f t.holding ≡ f (chunk_at s j) = ap (λ (x : Tag). f x.holding) puts.chunk.tag in
    omega (arith, all, was, one, after, tag)

pub puts_spans : (i j : ℕ) (s : SlabState) (old new : SlabCacheState) (t : Tag) → Puts i j s old new t → span_tags new ≡ span_tags old
puts_spans i j s old new t puts = ap span_tags puts.after ∙ same_spans old.arena i j s true old.slabs puts.chunk.stands

-- a part covers its units, also where it has none
pub covers_part : (u r b n : ℕ) → covering_held u (option_to_list (piece_or_none r b n)) ≡ covers u (record { base = b; len = n })
covers_part u r b n = elim (eq-zero-or-pos n) [
  | inl none ↦ rw (part_none r b n none) (sym (covers_nothing u b n none))
  | inr some ↦ rw (part_some r b n some) (zero-add (covers u (record { base = b; len = n })))
]

-- what lies in a slab and what is out of it cover its span
pub tile : (u : ℕ) (s : SlabState) → IsSlab s → covering_held u (deeds_in s) + covering_held u (chunks_out_by (chunk_at s) s) ≡ covers u s.span.range
tile u s slab =
    let b = s.span.range.base in
    let gap : Extent = record { base = b; len = s.colour } in
    let chunks : Extent = record { base = b + s.colour; len = used_units s } in
    let tail : Extent = record { base = b + s.colour + used_units s; len = unused_units s } in
    let body : Extent = record { base = b + s.colour; len = used_units s + unused_units s } in
    let in_kept = sum_by-kept (covers_held u) s in
    let in_gap : covering_held u (option_to_list (gap_of s)) ≡ covers u gap = covers_part u s.span.root b s.colour in
    let in_tail : covering_held u (option_to_list (tail_of s)) ≡ covers u tail = covers_part u s.span.root (b + s.colour + used_units s) (unused_units s) in
    let in_chunks : covering_held u (idle_chunks_by (chunk_at s) s) + covering_held u (chunks_out_by (chunk_at s) s) ≡ covers u chunks =
    covering-items_where u s.chunk (chunk_at s) 0 s.home (b + s.colour) (λ k. refl) (λ k. omega arith) (omega arith) in
    let first : covers u body ≡ covers u chunks + covers u tail = covers_cut u chunks tail body refl refl (omega arith) in
    let whole : covers u s.span.range ≡ covers u gap + covers u body = covers_cut u gap body s.span.range refl refl (omega (arith, slab.room)) in
    omega (arith, in_kept, in_gap, in_tail, in_chunks, first, whole)

-- no chunk of a complete slab is out
pub none_out : {X : Type 0} (f : ℕ → X) (s : SlabState) → IsComplete s → chunks_out_by f s ≡ []
none_out f s complete = passing_none not f 0 s.home (All-weaker (λ b. b ≡ true) (λ b. not b ≡ false) (λ b here. ap not here) s.home complete)

pub complete_covers : (u : ℕ) (s : SlabState) → IsSlab s → IsComplete s → covering_held u (deeds_in s) ≡ covers u s.span.range
complete_covers u s slab complete = let none : covering_held u (chunks_out_by (chunk_at s) s) ≡ 0 = ap (covering_held u) (none_out (chunk_at s) s complete) in omega (arith, tile u s slab, none)

-- a slab of the size of a sound cache
pub slab_of_size : (c : SlabCacheState) (s : SlabState) → IsSoundCache c → IsOfSize c.slab_size (chunk_of c) s → IsSlab s
slab_of_size c s sound size =
    let n = chunk_of c in
    let below : c.slab_size / n * n ≤ c.slab_size = div-mul-le_self c.slab_size n in
    let units : length s.home * s.chunk ≡ c.slab_size / n * n = ap (λ k. k * s.chunk) size.count ∙ ap (λ k. c.slab_size / n * k) size.chunk in
    record { some = rw size.chunk sound.some; room = omega (arith, below, units, size.colour, size.size) }

pub all_slabs : (c : SlabCacheState) → IsSoundCache c → All IsSlab c.slabs
all_slabs c sound k d within = slab_of_size c (get_or c.slabs k d) sound (sound.slabs k d within)

pub reaps_out : (i : ℕ) (s : SlabState) (old new : SlabCacheState) (t : Tag) → Reaps i s old new t → WeighSame (chunks_out old) (chunks_out new)
reaps_out i s old new t reaps f =
    let stands : StandsAt i s old.slabs = reaps.lowest.stands in
    let F : SlabState → List Tag = λ x. chunks_out_by (chunk_tag old.arena old.k x) x in
    let all = sum_by-flat_map-remove f F old.slabs i s stands.within in
    let was : sum_by f (F (get_or old.slabs i s)) ≡ 0 = ap (λ x. sum_by f (F x)) stands.is ∙ ap (sum_by f) (none_out (chunk_tag old.arena old.k s) s reaps.lowest.so) in
    let after : sum_by f (chunks_out new) ≡ sum_by f (flat_map F (remove old.slabs i)) = ap (λ x. sum_by f (chunks_out x)) reaps.after in
    omega (arith, all, was, after)

pub reaps_kept : (i : ℕ) (s : SlabState) (old new : SlabCacheState) (t : Tag) → Reaps i s old new t → IsSlab s → (u : ℕ) → covering_held u (deeds_of old) ≡ covering_held u (deeds_of new) + covers_tag u t
reaps_kept i s old new t reaps slab u =
    let stands : StandsAt i s old.slabs = reaps.lowest.stands in
    let all = sum_by-flat_map-remove (covers_held u) deeds_in old.slabs i s stands.within in
    let was : covering_held u (deeds_in (get_or old.slabs i s)) ≡ covers u s.span.range = ap (λ x. covering_held u (deeds_in x)) stands.is ∙ complete_covers u s slab reaps.lowest.so in
    let after : covering_held u (deeds_of new) ≡ covering_held u (flat_map deeds_in (remove old.slabs i)) = ap (λ x. covering_held u (deeds_of x)) reaps.after in
    let tag : covers_tag u t ≡ covers u s.span.range = ap (covers_tag u) reaps.tag in
    omega (arith, all, was, after, tag)

pub reaps_spans : (i : ℕ) (s : SlabState) (old new : SlabCacheState) (t : Tag) → Reaps i s old new t → Loses (span_tags old) (span_tags new) t
reaps_spans i s old new t reaps f =
    let stands : StandsAt i s old.slabs = reaps.lowest.stands in
    let g : SlabState → ℕ = λ x. f (span_tag old.arena x) in
    let all = sum_by-remove g old.slabs i s stands.within in
    let was : g (get_or old.slabs i s) ≡ f t = ap g stands.is ∙ ap f (sym reaps.tag) in
    let before = sum_by-map f (span_tag old.arena) old.slabs in
    let behind = sum_by-map f (span_tag old.arena) (remove old.slabs i) in
    let after : sum_by f (span_tags new) ≡ sum_by f (map (span_tag old.arena) (remove old.slabs i)) = ap (λ x. sum_by f (span_tags x)) reaps.after in
    omega (arith, all, was, before, behind, after)

-- a new slab
fresh_complete : (h : Holding) (colour n : ℕ) → IsComplete (new_slab h colour n)
fresh_complete h colour n = All-replicate (λ b. b ≡ true) (h.range.len / n) true refl

pub fresh_first : (h : Holding) (colour n : ℕ) → 0 < h.range.len / n → get_or (new_slab h colour n).home 0 false ≡ true
fresh_first h colour n some = get_or-replicate (h.range.len / n) 0 true false some

fresh_within : (h : Holding) (colour n : ℕ) → 0 < h.range.len / n → 0 < length (new_slab h colour n).home
fresh_within h colour n some = omega (arith, length-replicate (h.range.len / n) true)

pub adds_out : (i : ℕ) (old new : SlabCacheState) (span first : Tag) → Adds i old new span first → 0 < span.holding.range.len / chunk_of old → Gains (chunks_out old) (chunks_out new) first
adds_out i old new span first adds some f =
    let s : SlabState = new_slab span.holding old.colour (chunk_of old) in
    let F : SlabState → List Tag = λ x. chunks_out_by (chunk_tag old.arena old.k x) x in
    let all = sum_by-flat_map-insert f F old.slabs i (with_chunk s 0 false) in
    let one : sum_by f (F (with_chunk s 0 false)) ≡ sum_by f (F s) + f (chunk_tag old.arena old.k s 0) =
    out_taken f (chunk_tag old.arena old.k s) s 0 (fresh_within span.holding old.colour (chunk_of old) some) (fresh_first span.holding old.colour (chunk_of old) some) in
    let none : sum_by f (F s) ≡ 0 = ap (sum_by f) (none_out (chunk_tag old.arena old.k s) s (fresh_complete span.holding old.colour (chunk_of old))) in
    let after : sum_by f (chunks_out new) ≡ sum_by f (flat_map F (insert old.slabs i (with_chunk s 0 false))) = ap (λ x. sum_by f (chunks_out x)) adds.after in
    let tag = ap f adds.tag in
    omega (arith, all, one, none, after, tag)

pub adds_kept : (i : ℕ) (old new : SlabCacheState) (span first : Tag) → Adds i old new span first → 0 < span.holding.range.len / chunk_of old → IsSlab (new_slab span.holding old.colour (chunk_of old))
    → (u : ℕ) → covering_held u (deeds_of old) + covers_tag u span ≡ covering_held u (deeds_of new) + covers_tag u first
adds_kept i old new span first adds some slab u =
    let s : SlabState = new_slab span.holding old.colour (chunk_of old) in
    let all = sum_by-flat_map-insert (covers_held u) deeds_in old.slabs i (with_chunk s 0 false) in
    let one = kept_taken (covers_held u) s 0 (fresh_within span.holding old.colour (chunk_of old) some) (fresh_first span.holding old.colour (chunk_of old) some) in
    let whole : covering_held u (deeds_in s) ≡ covers_tag u span = complete_covers u s slab (fresh_complete span.holding old.colour (chunk_of old)) in
    let after : covering_held u (deeds_of new) ≡ covering_held u (flat_map deeds_in (insert old.slabs i (with_chunk s 0 false))) = ap (λ x. covering_held u (deeds_of x)) adds.after in
    let tag : covers_tag u first ≡ covers_held u (chunk_at s 0) = ap (covers_tag u) adds.tag in
    omega (arith, all, one, whole, after, tag)

pub adds_spans : (i : ℕ) (old new : SlabCacheState) (span first : Tag) → Adds i old new span first → span ≡ record { arena = old.arena; route = Direct; holding = span.holding } → Gains (span_tags old) (span_tags new) span
adds_spans i old new span first adds direct f =
    let s : SlabState = with_chunk (new_slab span.holding old.colour (chunk_of old)) 0 false in
    let g : SlabState → ℕ = λ x. f (span_tag old.arena x) in
    let all = sum_by-insert g old.slabs i s in
    let before = sum_by-map f (span_tag old.arena) old.slabs in
    let behind = sum_by-map f (span_tag old.arena) (insert old.slabs i s) in
    let after : sum_by f (span_tags new) ≡ sum_by f (map (span_tag old.arena) (insert old.slabs i s)) = ap (λ x. sum_by f (span_tags x)) adds.after in
    let tag : f span ≡ g s = ap f direct in
    omega (arith, all, before, behind, after, tag)

pub fresh_is_slab : (h : Holding) (colour n size : ℕ) → 0 < n → h.range.len ≡ size → colour ≤ spare_of size n → IsSlab (new_slab h colour n)
fresh_is_slab h colour n size some is fits =
    let below : size / n * n ≤ size = div-mul-le_self size n in
    let units : length (replicate (h.range.len / n) true) * n ≡ size / n * n = ap (λ k. k * n) (length-replicate (h.range.len / n) true ∙ ap (λ k. k / n) is) in
    record { some = some; room = omega (arith, below, units, fits, is) }
