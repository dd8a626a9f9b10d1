-- The sums over the slabs of a list, after a change of one of them.
use Rattle.std.proofs.Common.{◌≡◌, inl, inr, ℕ, suc, ◌+◌, ◌*◌, ◌<◌, ◌≤◌, ◌^◌, Bool, true, false, List, [], ◌∷◌, length, get_or, set, take, drop, insert, remove, All, AllPairs, refl, sym, ap, ◌∙◌, arith, subst}
use Rattle.std.specs.Prelude.{sum_by}
use Rattle.std.specs.Option.{option_to_list}
use Rattle.std.proofs.Math.Nat.{eq-zero-or-pos, mul-le-mul_right}
use Rattle.std.proofs.lemmas.List.{length-set}
use Rattle.std.proofs.lemmas.List.Sums.{sum_by-cons, sum_by-set, sum_by-insert, sum_by-remove, count_by-le-length}
use Rattle.std.proofs.lemmas.List.Elements.{All-set, All-head, All-tail}
use Rattle.deed_core.specs.Extent.{end_of}
use Rattle.deed_core.specs.Holding.{Holding}
use Rattle.deed_core.specs.Covering.{units_held}
use Rattle.slab_layer.specs.declared.reports.SlabReport.{SlabReport}
use Rattle.slab_layer.specs.Parts.{piece_or_none}
use Rattle.slab_layer.specs.Slab.{SlabState, IsSlab, chunk_at, used_units, unused_units, with_chunk}
use Rattle.slab_layer.specs.Cache.{IsBelow}
use Rattle.slab_layer.specs.Calls.{StandsAt}
use Rattle.slab_layer.specs.Bases.{IdleState, AreListed}
use Rattle.slab_layer.specs.Sums.{idle_in, gap_in, tail_in, AreSums, IsSlabList}
use Rattle.slab_layer.proofs.PartLemmas.{part_none, part_some}
use Rattle.slab_layer.proofs.PassingLemmas.{counted, sum_by-items_where-set}
use Rattle.slab_layer.proofs.SlabLemmas.{idle_units}
use Rattle.slab_layer.proofs.ListLemmas.{all_insert, all_remove, pairs_insert}
use Rattle.slab_layer.proofs.MoveLemmas.{same_tail}
use Rattle.slab_layer.proofs.SearchLemmas.{same_slab}

-- what lies in a slab is no more than its span
part_units : (r b n : ℕ) → units_held (option_to_list (piece_or_none r b n)) ≡ n
part_units r b n = elim (eq-zero-or-pos n) [
  | inl none ↦ rw (part_none r b n none) (omega (arith, none))
  | inr some ↦ rw (part_some r b n some) (omega arith)
]

kept_fits : (s : SlabState) → IsSlab s → idle_in s + gap_in s + tail_in s ≤ s.span.range.len
kept_fits s slab =
    let few = mul-le-mul_right s.chunk (count_by-le-length (λ b. b) s.home) in
    let gap = part_units s.span.root s.span.range.base s.colour in
    let tail = part_units s.span.root (s.span.range.base + s.colour + used_units s) (unused_units s) in
    omega (arith, few, gap, tail, idle_units s, slab.room)

-- the spans of slabs by ascending base are together no longer than the space
spans_from : (m : ℕ) (slabs : List SlabState) → m ≤ 2 ^ 62 → All (λ s. m ≤ s.span.range.base) slabs → All (λ s. end_of s.span.range ≤ 2 ^ 62) slabs → AllPairs IsBelow slabs → m + sum_by (λ s. s.span.range.len) slabs ≤ 2 ^ 62
spans_from m [] fits above ends ascending = omega arith
spans_from m (s ∷ ss) fits above ends ascending =
    let here = All-head (λ x. m ≤ x.span.range.base) s ss above in
    let end = All-head (λ x. end_of x.span.range ≤ 2 ^ 62) s ss ends in
    let next : All (λ x. end_of s.span.range ≤ x.span.range.base) ss = λ k d within. ascending 0 (suc k) d (omega arith) (omega arith) in
    let rest = spans_from (end_of s.span.range) ss end next (All-tail (λ x. end_of x.span.range ≤ 2 ^ 62) s ss ends) (λ i j d before within. ascending (suc i) (suc j) d (omega arith) (omega arith)) in
    omega (arith, here, rest, sum_by-cons (λ x. x.span.range.len) s ss)

spans_fit : (slabs : List SlabState) → All (λ s. end_of s.span.range ≤ 2 ^ 62) slabs → AllPairs IsBelow slabs → sum_by (λ s. s.span.range.len) slabs ≤ 2 ^ 62
spans_fit slabs ends ascending = omega (arith, spans_from 0 slabs (omega arith) (λ k d within. omega arith) ends ascending)

-- so what lies in slabs is no more either
sums_fit : (slabs : List SlabState) → All IsSlab slabs → sum_by idle_in slabs + sum_by gap_in slabs + sum_by tail_in slabs ≤ sum_by (λ s. s.span.range.len) slabs
sums_fit [] whole = omega arith
sums_fit (s ∷ ss) whole =
    let here = kept_fits s (All-head IsSlab s ss whole) in
    let rest = sums_fit ss (All-tail IsSlab s ss whole) in
    omega (arith, here, rest, sum_by-cons idle_in s ss, sum_by-cons gap_in s ss, sum_by-cons tail_in s ss, sum_by-cons (λ x. x.span.range.len) s ss)

-- a chunk taken, and one put back
pub idle_taken : (s : SlabState) (j : ℕ) → j < length s.home → get_or s.home j false ≡ true → idle_in (with_chunk s j false) + s.chunk ≡ idle_in s
idle_taken s j within here =
    let len : Holding → ℕ = λ h. h.range.len in
    let set_idle = sum_by-items_where-set len (λ b. b) (chunk_at s) 0 s.home j false false within in
    let was : counted (get_or s.home j false) s.chunk ≡ s.chunk = rw here refl in
    omega (arith, set_idle, was)

pub idle_put : (s : SlabState) (j : ℕ) → j < length s.home → get_or s.home j false ≡ false → idle_in (with_chunk s j true) ≡ idle_in s + s.chunk
idle_put s j within away =
    let len : Holding → ℕ = λ h. h.range.len in
    let set_idle = sum_by-items_where-set len (λ b. b) (chunk_at s) 0 s.home j true false within in
    let was : counted (get_or s.home j false) s.chunk ≡ 0 = rw away refl in
    omega (arith, set_idle, was)

-- a chunk that is asked for is the slab's
pub chunk_there : (i j : ℕ) (b : Bool) (s : SlabState) (slabs : List SlabState) → (t : SlabState) × StandsAt i t slabs × (j < length t.home) × (get_or t.home j false ≡ b) → s ≡ get_or slabs i s → (j < length s.home) × (get_or s.home j false ≡ b)
chunk_there i j b s slabs asked is =
    let same = same_slab i asked.0 s slabs asked.1 is in
    (subst (λ (t : SlabState). j < length t.home) (sym same) asked.2, subst (λ (t : SlabState). get_or t.home j false ≡ b) (sym same) asked.3)

-- a slab with a chunk moved lies in its span as before
moved_slab : (s : SlabState) (j : ℕ) (b : Bool) → IsSlab s → IsSlab (with_chunk s j b)
moved_slab s j b slab =
    let e : length (set s.home j b) * s.chunk ≡ length s.home * s.chunk = ap (λ n. n * s.chunk) (length-set s.home j b) in
    record { some = slab.some; room = omega (arith, e, slab.room) }

-- a slab of which a chunk moved
module _ (slabs : List SlabState) (old : IdleState) (sums : SlabReport) (i j : ℕ) (s : SlabState) (kept : IsSlabList slabs old sums) (within : i < length slabs) (is : s ≡ get_or slabs i s) where
  here : (P : SlabState → Type 0) → All P slabs → P s
  here P all = subst P (sym is) (all i s within)

  set_sum : (f : SlabState → ℕ) (v : SlabState) → sum_by f (set slabs i v) + f s ≡ sum_by f slabs + f v
  set_sum f v = omega (arith, sum_by-set f slabs i v s within, ap f is)

  pub moved : (b : Bool) (v : SlabState) (new : IdleState) (after : SlabReport) → v ≡ with_chunk s j b → after.idle + idle_in s ≡ sums.idle + idle_in (with_chunk s j b) → after.gap ≡ sums.gap → after.tail ≡ sums.tail → AreListed (set slabs i v) new → IsSlabList (set slabs i v) new after
  moved b v new after changed idle gap tail listed =
      let slab : IsSlab v = subst IsSlab (sym changed) (moved_slab s j b (here IsSlab kept.whole)) in
      let end : end_of v.span.range ≤ 2 ^ 62 = subst (λ (t : SlabState). end_of t.span.range ≤ 2 ^ 62) (sym changed) (here (λ t. end_of t.span.range ≤ 2 ^ 62) kept.ends) in
      let idle_is : idle_in v ≡ idle_in (with_chunk s j b) = ap idle_in changed in
      let gap_is : gap_in v ≡ gap_in s = ap gap_in changed in
      let tail_is : tail_in v ≡ tail_in s = ap tail_in changed ∙ ap (λ o. units_held (option_to_list o)) (same_tail s j b) in
      record {
        listed = listed;
        whole = All-set IsSlab slabs i v slab kept.whole;
        ends = All-set (λ t. end_of t.span.range ≤ 2 ^ 62) slabs i v end kept.ends;
        summed = record {
          idle = omega (arith, set_sum idle_in v, kept.summed.idle, idle, idle_is);
          gap = omega (arith, set_sum gap_in v, kept.summed.gap, gap, gap_is);
          tail = omega (arith, set_sum tail_in v, kept.summed.tail, tail, tail_is);
        };
      }

  -- the chunk was counted
  pub take_fits : j < length s.home → get_or s.home j false ≡ true → s.chunk ≤ sums.idle
  take_fits inside home = omega (arith, idle_taken s j inside home, set_sum idle_in (with_chunk s j false), kept.summed.idle)

  -- there is room to count it
  pub put_fits : j < length s.home → get_or s.home j false ≡ false → sums.idle + s.chunk ≤ 2 ^ 62
  put_fits inside out =
      let v : SlabState = with_chunk s j true in
      let whole : All IsSlab (set slabs i v) = All-set IsSlab slabs i v (moved_slab s j true (here IsSlab kept.whole)) kept.whole in
      let spans = set_sum (λ t. t.span.range.len) v in
      omega (arith, sums_fit (set slabs i v) whole, spans, spans_fit slabs kept.ends kept.listed.ascending, idle_put s j inside out, set_sum idle_in v, kept.summed.idle)

-- a slab put in
pub record FitIn (sums : SlabReport) (v : SlabState) : Type 0 where
  pub idle : sums.idle + idle_in v ≤ 2 ^ 62
  pub gap : sums.gap + gap_in v ≤ 2 ^ 62
  pub tail : sums.tail + tail_in v ≤ 2 ^ 62

module _ (slabs : List SlabState) (old : IdleState) (sums : SlabReport) (i : ℕ) (v : SlabState) (kept : IsSlabList slabs old sums) (slab : IsSlab v) (end : end_of v.span.range ≤ 2 ^ 62) where
  pub insert_fits : All (λ s. end_of s.span.range ≤ v.span.range.base) (take i slabs) → All (λ s. end_of v.span.range ≤ s.span.range.base) (drop i slabs) → FitIn sums v
  insert_fits below above =
      let more : List SlabState = insert slabs i v in
      let ends = all_insert (λ s. end_of s.span.range ≤ 2 ^ 62) slabs i v kept.ends end in
      let all = sums_fit more (all_insert IsSlab slabs i v kept.whole slab) in
      let spans = spans_fit more ends (pairs_insert IsBelow slabs i v kept.listed.ascending below above) in
      let idle = sum_by-insert idle_in slabs i v in
      let gap = sum_by-insert gap_in slabs i v in
      let tail = sum_by-insert tail_in slabs i v in
      record {
        idle = omega (arith, all, spans, idle, kept.summed.idle);
        gap = omega (arith, all, spans, gap, kept.summed.gap);
        tail = omega (arith, all, spans, tail, kept.summed.tail);
      }

  pub put_in : (new : IdleState) (after : SlabReport) → after.idle ≡ sums.idle + idle_in v → after.gap ≡ sums.gap + gap_in v → after.tail ≡ sums.tail + tail_in v → AreListed (insert slabs i v) new → IsSlabList (insert slabs i v) new after
  put_in new after idle gap tail listed = record {
    listed = listed;
    whole = all_insert IsSlab slabs i v kept.whole slab;
    ends = all_insert (λ s. end_of s.span.range ≤ 2 ^ 62) slabs i v kept.ends end;
    summed = record {
      idle = omega (arith, sum_by-insert idle_in slabs i v, kept.summed.idle, idle);
      gap = omega (arith, sum_by-insert gap_in slabs i v, kept.summed.gap, gap);
      tail = omega (arith, sum_by-insert tail_in slabs i v, kept.summed.tail, tail);
    };
  }

-- a slab taken out
pub record FitOut (sums : SlabReport) (v : SlabState) : Type 0 where
  pub idle : idle_in v ≤ sums.idle
  pub gap : gap_in v ≤ sums.gap
  pub tail : tail_in v ≤ sums.tail

module _ (slabs : List SlabState) (old : IdleState) (sums : SlabReport) (i : ℕ) (s : SlabState) (kept : IsSlabList slabs old sums) (within : i < length slabs) (is : s ≡ get_or slabs i s) where
  removed_sum : (f : SlabState → ℕ) → sum_by f (remove slabs i) + f s ≡ sum_by f slabs
  removed_sum f = omega (arith, sum_by-remove f slabs i s within, ap f is)

  pub remove_fits : FitOut sums s
  remove_fits = record {
    idle = omega (arith, removed_sum idle_in, kept.summed.idle);
    gap = omega (arith, removed_sum gap_in, kept.summed.gap);
    tail = omega (arith, removed_sum tail_in, kept.summed.tail);
  }

  pub taken_out : (new : IdleState) (after : SlabReport) → after.idle + idle_in s ≡ sums.idle → after.gap + gap_in s ≡ sums.gap → after.tail + tail_in s ≡ sums.tail → AreListed (remove slabs i) new → IsSlabList (remove slabs i) new after
  taken_out new after idle gap tail listed = record {
    listed = listed;
    whole = all_remove IsSlab slabs i kept.whole;
    ends = all_remove (λ t. end_of t.span.range ≤ 2 ^ 62) slabs i kept.ends;
    summed = record {
      idle = omega (arith, removed_sum idle_in, kept.summed.idle, idle);
      gap = omega (arith, removed_sum gap_in, kept.summed.gap, gap);
      tail = omega (arith, removed_sum tail_in, kept.summed.tail, tail);
    };
  }
