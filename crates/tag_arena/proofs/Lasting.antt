-- The range that begins last, by the index of bases.
use Rattle.std.proofs.Common.{◌≡◌, ℕ, ◌+◌, ◌-◌, ◌*◌, ◌^◌, ◌<◌, ◌≤◌, ap, subst, List, All, Contains, Option, None, Some, arith}
use Rattle.deed_core.specs.Extent.{IsRange}
use Rattle.deed_core.specs.Holding.{Holding}
use Rattle.tag_arena.proofs.Members.{All-from_members}
use Rattle.sorted_rows.specs.Order.{Rises, last_to}
use Rattle.tag_arena.specs.declared.entries.IndexEntry.{IndexEntry}
use Rattle.tag_arena.specs.declared.orders.Order.TheVariants.{Rising}
use Rattle.tag_arena.specs.FreeTags.{FreeTag, tag_at, ranges_by_age, AreTags}
use Rattle.tag_arena.specs.Orders.{rank_of, entry_of, Mirrors}
use Rattle.tag_arena.proofs.Indexing.{range_is_free}
use Rattle.tag_arena.proofs.Fitting.{tag_of_free}
use Rattle.tag_arena.proofs.Searching.{IsLast, none_to}

-- of the ranges that begin at `base` or below it, the one that begins last
abbrev pub IsLastBy : ℕ → List Holding → Option Holding → Type 0
IsLastBy base free None = All (λ r. base < r.range.base) free
IsLastBy base free (Some h) = Contains free h × (h.range.base ≤ base)
    × ((r : Holding) → Contains free r → r.range.base ≤ base → r.range.base ≤ h.range.base)

-- the greatest key of a base
abbrev pub last_key : ℕ → ℕ
last_key base = base * 2 ^ 64 + (2 ^ 64 - 1)

module _ (base clock : ℕ) (items : List IndexEntry) (tags : List (Option FreeTag)) (m : Mirrors Rising items tags) (rises : Rises rank_of items) (are : AreTags clock tags) where
  pub none_by : last_to rank_of (last_key base) items ≡ None → IsLastBy base (ranges_by_age tags) None
  none_by none =
      All-from_members (λ r. base < r.range.base) (ranges_by_age tags)
      (λ r h.
      let w = tag_of_free tags r h in
      let above = none_to rank_of (last_key base) items rises none (entry_of Rising w.0 w.1) (m.into w.0 w.1 w.2) in
      let top = (are w.0 w.1 w.2).range.below in
      let b = ap (λ x. x.range.base) w.3 in
      omega (arith, above, top, b))

  pub some_by : (e : IndexEntry) (t : FreeTag) → IsLast rank_of (last_key base) items rises e → tag_at tags e.slot ≡ Some t → e ≡ entry_of Rising e.slot t → IsLastBy base (ranges_by_age tags) (Some t.range)
  some_by e t last at is =
      let rank_e = ap rank_of is in
      let top_t = (are e.slot t at).range.below in (
        range_is_free tags e.slot t at,
        (let to = last.to in omega (arith, to, rank_e)),
        λ r h low.
            let w = tag_of_free tags r h in
            let top = (are w.0 w.1 w.2).range.below in
            let b = ap (λ x. x.range.base) w.3 in
            let most = last.most (entry_of Rising w.0 w.1) (m.into w.0 w.1 w.2) (omega (arith, b, low, top)) in
            omega (arith, most, rank_e, top_t, b),
      )

-- each free range is a range
pub all_ranges : (clock : ℕ) (tags : List (Option FreeTag)) → AreTags clock tags → All (λ r. IsRange r.range) (ranges_by_age tags)
all_ranges clock tags are =
    All-from_members (λ r. IsRange r.range) (ranges_by_age tags)
    (λ r h. let w = tag_of_free tags r h in subst (λ x. IsRange x.range) w.3 (are w.0 w.1 w.2).range)
