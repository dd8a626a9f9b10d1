use Rattle.std.proofs.Common.{◌≡◌, ◌+◌, ◌<◌, ◌≤◌, ◌++◌, ℕ, sym, subst, ap, ◌∙◌, List, [], ◌∷◌, get_or, set, take, drop, length, length-set, Some, refl, vec_capacity, arith}
use Rattle.std.specs.Prelude.{slice_get}
use Rattle.std.proofs.lemmas.List.{get_or-replicate}
use Rattle.deed_core.specs.Holding.{Holding}
use Rattle.deed_core.proofs.LawProofs.{slice_get_here}
use Rattle.arena_tree.specs.declared.limits.TheConstants.{MOST_ARENAS}
use Rattle.arena_tree.specs.declared.setups.OwnedSpan.{OwnedSpan}
use Rattle.arena_tree.specs.Settings.{span_count}
use Rattle.stock.specs.Setups.{deeds_after, numbered_deeds, root_number}
use Rattle.stock.proofs.Numbering.{arena_few, place_few, numbered_more, owned_more}
use Rattle.stock.proofs.plain_stocks.plain_deeds.Goals as goal

pub loop-span-init : goal.loop-span-init
loop-span-init c = record {
  is = ap (λ (hs : List Holding). hs ++ numbered_deeds c.args.setup.now.spans) c.in_ok-deeds.ensures.items;
  count = c.in_ok-deeds.ensures.len;
  room = subst (λ (xs : List OwnedSpan). length xs ≤ vec_capacity c.in_ok-deeds.deeds) c.spans-spans.ensures.value c.in_ok-deeds.ensures.capacity;
  size = refl;
  so_far = λ k lt. get_or-replicate 32 k 0 0 lt;
}

pub bounds-owned-arena : goal.bounds-owned-arena
bounds-owned-arena c =
    let at = subst (λ (xs : List OwnedSpan). slice_get xs c.loop-span.span-index ≡ Some c.span-item.result) c.spans-spans.ensures.value (slice_get_here c.spans-spans.result.now c.loop-span.span-index c.span-item.result c.loop-span-test.true c.span-item.is) in
    arena_few c.args.setup.now c.tree.ensures.tree c.tree.ensures.setup c.loop-span.span-index c.span-item.result at

pub number_of-requires-clause-arena : goal.number_of-requires-clause-arena
number_of-requires-clause-arena c =
    let at = subst (λ (xs : List OwnedSpan). slice_get xs c.loop-span.span-index ≡ Some c.span-item.result) c.spans-spans.ensures.value (slice_get_here c.spans-spans.result.now c.loop-span.span-index c.span-item.result c.loop-span-test.true c.span-item.is) in
    arena_few c.args.setup.now c.tree.ensures.tree c.tree.ensures.setup c.loop-span.span-index c.span-item.result at

pub number_of-requires-clause-place : goal.number_of-requires-clause-place
number_of-requires-clause-place c =
    let at = subst (λ (xs : List OwnedSpan). slice_get xs c.loop-span.span-index ≡ Some c.span-item.result) c.spans-spans.ensures.value (slice_get_here c.spans-spans.result.now c.loop-span.span-index c.span-item.result c.loop-span-test.true c.span-item.is) in
    let few = arena_few c.args.setup.now c.tree.ensures.tree c.tree.ensures.setup c.loop-span.span-index c.span-item.result at in
    let place = place_few c.args.setup.now.spans c.loop-span.span-index c.span-item.result at c.tree.ensures.setup.few in
    omega (arith, c.loop-span.invariant.so_far c.span-item.result.arena few, place)

pub bounds-owned-arena-in-loop-span : goal.bounds-owned-arena-in-loop-span
bounds-owned-arena-in-loop-span c =
    let at = subst (λ (xs : List OwnedSpan). slice_get xs c.loop-span.span-index ≡ Some c.span-item.result) c.spans-spans.ensures.value (slice_get_here c.spans-spans.result.now c.loop-span.span-index c.span-item.result c.loop-span-test.true c.span-item.is) in
    arena_few c.args.setup.now c.tree.ensures.tree c.tree.ensures.setup c.loop-span.span-index c.span-item.result at

pub loop-span-preserved : goal.loop-span-preserved
loop-span-preserved c =
    let at = subst (λ (xs : List OwnedSpan). slice_get xs c.loop-span.span-index ≡ Some c.span-item.result) c.spans-spans.ensures.value (slice_get_here c.spans-spans.result.now c.loop-span.span-index c.span-item.result c.loop-span-test.true c.span-item.is) in
    let spans = c.args.setup.now.spans in
    let i = c.loop-span.span-index in
    let o = c.span-item.result in
    let few : o.arena < MOST_ARENAS = arena_few c.args.setup.now c.tree.ensures.tree c.tree.ensures.setup i o at in
    let place : get_or c.loop-span.owned o.arena 0 ≡ span_count o.arena (take i spans) = c.loop-span.invariant.so_far o.arena few in
    let deed : c.new.result ≡ record { root = root_number o.arena (span_count o.arena (take i spans)); range = o.range } =
    c.new.ensures ∙ ap (λ n. record { root = n; range = o.range }) (c.number_of.ensures ∙ ap (root_number o.arena) place) in
    let within : o.arena < length c.loop-span.owned = omega (arith, few, c.loop-span.invariant.size) in
    record {
      is = ap (λ (hs : List Holding). hs ++ deeds_after (take (i + 1) spans) (drop (i + 1) spans)) (c.push_reserved.ensures.items ∙ ap (λ (h : Holding). c.loop-span.deeds.items ++ h ∷ []) deed) ∙ numbered_more spans i o at c.loop-span.deeds.items c.loop-span.invariant.is;
      count = c.push_reserved.ensures.len ∙ ap (λ n. n + 1) c.loop-span.invariant.count;
      room = subst (λ n. length spans ≤ n) (sym c.push_reserved.ensures.capacity) c.loop-span.invariant.room;
      size = length-set c.loop-span.owned o.arena (get_or c.loop-span.owned o.arena 0 + 1) ∙ c.loop-span.invariant.size;
      so_far = subst (λ n. (k : ℕ) → k < MOST_ARENAS → get_or (set c.loop-span.owned o.arena (n + 1)) k 0 ≡ span_count k (take (i + 1) spans)) (sym place) (owned_more spans i o at c.loop-span.owned within c.loop-span.invariant.so_far);
    }
