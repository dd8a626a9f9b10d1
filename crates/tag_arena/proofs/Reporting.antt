-- What an arena reports, and what is refused of a span.
use Rattle.std.proofs.Common.{◌≡◌, ℕ, ◌+◌, ◌<◌, sym, subst, ap, ◌∙◌, ⊎_elim, List, map, Contains, All, Any, arith}
use Rattle.std.proofs.lemmas.List.Elements.{All-append, All-map, Contains-append_right}
use Rattle.deed_core.specs.Extent.{Extent, Covers, Overlap}
use Rattle.deed_core.specs.Holding.{Holding}
use Rattle.deed_core.specs.Tag.{Tag}
use Rattle.tag_arena.specs.Layout.{Layout, IsPartOf, IsWhole, FreeIsLongestRuns}
use Rattle.tag_arena.specs.ArenaState.{ArenaState, spans_of, ranges_of, IsDivided}
use Rattle.tag_arena.specs.Calls.{IsClear}
use Rattle.tag_arena.specs.Laws.{UnitsAddUp}
use Rattle.tag_arena.proofs.Ranges.{Any-member, member-Any, holds_part}
use Rattle.tag_arena.proofs.Freeing.{absorbs, longest_edged}
use Rattle.tag_arena.proofs.Counting.{units_add}
use Rattle.tag_arena.proofs.SpanLists.{Contains-map}
use Rattle.std.proofs.lemmas.List.Sums.{sum_by-append}
use Rattle.deed_core.specs.Covering.{units_held}

-- the free ranges of a whole layout are the longest runs
pub free_is_longest_runs : (a : Layout) → IsWhole a → FreeIsLongestRuns a
free_is_longest_runs a whole r = (
  λ in-r. longest_edged a.spans whole.spans_apart a.allocated r (whole.runs r in-r),
  λ long.
      let s = long.run.inside in
      let h : IsPartOf s.1 r = s.4 in
      let some : 0 < r.range.len = long.run.some in
      ⊎_elim
      (λ (f : Any (λ x. Covers x.range r.range.base) a.free).
      let edged = whole.runs f.1 (Any-member a.free f) in
      let inside = absorbs a.spans whole.spans_apart a.allocated f.1 edged r r.range.base long.run f.4 (omega arith, omega arith) in
      subst (Contains a.free) (long.longest f.1 edged.run (holds_part f.1 r inside)) (Any-member a.free f))
      (λ al. absurd (long.run.free r.range.base (omega arith, omega arith) al))
      (whole.covered s.1 r.range.base (Any-member a.spans s) (h.from, omega (arith, h.to))),
)

-- spans have the units that are free and those that are allocated
pub units_add_up : UnitsAddUp
units_add_up a sound = sym (units_add a.free (ranges_of a.allocated) (spans_of a) sound.divided.covers)

-- the sums of an arena
pub report_adds : (a : ArenaState) → IsDivided a → (o i f : ℕ) (os : List Holding) (is : List Tag) (fs : List Holding) → o ≡ units_held os → os ≡ a.owned
    → i ≡ units_held (map (λ t. t.holding) is) → is ≡ a.imported → f ≡ units_held fs → fs ≡ a.free → f + units_held (ranges_of a.allocated) ≡ o + i
report_adds a sound o i f os is fs o_is os_is i_is is_is f_is fs_is =
    let own : o ≡ units_held a.owned = o_is ∙ ap units_held os_is in
    let imp : i ≡ units_held (map (λ t. t.holding) a.imported) = i_is ∙ ap (λ (xs : List Tag). units_held (map (λ t. t.holding) xs)) is_is in
    let fre : f ≡ units_held a.free = f_is ∙ ap units_held fs_is in
    omega (arith, own, imp, fre, units_add a.free (ranges_of a.allocated) (spans_of a) sound.covers, sum_by-append (λ (h : Holding). h.range.len) a.owned (map (λ t. t.holding) a.imported))

pub overlaps_imported : (a : ArenaState) (e : Extent) → Any (λ t. Overlap t.holding.range e) a.imported → Any (λ s. Overlap s.range e) (spans_of a)
overlaps_imported a e h =
    member-Any (λ s. Overlap s.range e) (spans_of a) h.1.holding (Contains-append_right a.owned (map (λ t. t.holding) a.imported) h.1.holding (Contains-map (λ t. t.holding) a.imported h.1 (Any-member a.imported h))) h.4

pub clear_of_both : (a : ArenaState) (e : Extent) (os : List Holding) (is : List Tag) → os ≡ a.owned → is ≡ a.imported
    → All (λ s. ¬ Overlap s.range e) os → All (λ t. ¬ Overlap t.holding.range e) is → IsClear a e
clear_of_both a e os is os_is is_is own imp =
    All-append (λ s. ¬ Overlap s.range e) a.owned (map (λ t. t.holding) a.imported) (subst (λ (xs : List Holding). All (λ s. ¬ Overlap s.range e) xs) os_is own)
    (All-map (λ s. ¬ Overlap s.range e) (λ (t : Tag). t.holding) a.imported (subst (λ (xs : List Tag). All (λ t. ¬ Overlap t.holding.range e) xs) is_is imp))
