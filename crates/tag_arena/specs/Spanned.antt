-- The spans of an arena, in order of coming and in the order of their ends.
use Rattle.std.specs.Prelude.{◌≡◌, ℕ, ◌*◌, ◌^◌, ◌<◌, ◌≤◌, List, [], ◌∷◌, map, insert, remove}
use Rattle.std.specs.Prelude.{All, AllPairs, Contains, HoldsAt, Option, Some, None, length}
use Rattle.deed_core.specs.Covering.{units_held}
use Rattle.deed_core.specs.Extent.{IsRange, end_of}
use Rattle.deed_core.specs.Holding.{Holding, Apart}
use Rattle.deed_core.specs.Tag.{Tag}
use Rattle.deed_core.specs.declared.segments.Route.TheVariants.{Direct}
use Rattle.sorted_rows.specs.Order.{place_below}
use Rattle.tag_arena.specs.declared.span_entries.SpanEntry.{SpanEntry}

-- the number of an entry's key
abbrev pub end_rank : SpanEntry → ℕ
end_rank e = end_of e.span.range

-- when it came
abbrev pub coming_of : SpanEntry → ℕ
coming_of e = e.since

-- the segment that goes back to where it came from
abbrev pub tag_of : SpanEntry → Tag
tag_of e = record { arena = e.source; route = Direct; holding = e.span }

-- the entries from the first that came on
unfoldable pub entries_by_coming : List SpanEntry → List SpanEntry
entries_by_coming [] = []
entries_by_coming (e ∷ rest) =
    insert (entries_by_coming rest) (place_below coming_of e.since (entries_by_coming rest)) e

-- the ranges of segments
abbrev pub holdings_of : List Tag → List Holding
holdings_of tags = map (λ t. t.holding) tags

-- what a contract sees of spans: each as a segment, in order of coming, and how many more may come
pub record SpansState : Type 0 where
  pub items : List Tag
  pub more : ℕ

-- what is so of the entries: no two came at one time, each has come by now, and their units are
-- counted
pub record AreSpans (items : List SpanEntry) (clock units : ℕ) : Type 0 where
  pub timed : (x y : SpanEntry) → Contains items x → Contains items y → x.since ≡ y.since → x ≡ y
  pub past : (x : SpanEntry) → Contains items x → x.since ≤ clock
  pub counted : units ≡ units_held (holdings_of (map tag_of (entries_by_coming items)))
  pub bound : units ≤ clock * 2 ^ 62

-- they are ranges, and no unit is in two
pub record AreDisjoint (spans : List Holding) : Type 0 where
  pub apart : AllPairs Apart spans
  pub ranges : All (λ s. IsRange s.range) spans

-- of the spans that end past the unit, the one that ends first
abbrev pub IsFirstPast : ℕ → List Tag → Option Tag → Type 0
IsFirstPast unit spans None = All (λ t. end_of t.holding.range ≤ unit) spans
IsFirstPast unit spans (Some h) = Contains spans h × (unit < end_of h.holding.range)
    × ((t : Tag) → Contains spans t → unit < end_of t.holding.range
    → end_of h.holding.range ≤ end_of t.holding.range)

-- one is taken out
abbrev pub WithoutSpan : (old : List Tag) → Tag → (new : List Tag) → Type 0
WithoutSpan old t new = (at : ℕ) × (at < length old) × HoldsAt (λ x. x ≡ t) old at
    × (new ≡ remove old at)

-- the lowest span that is a free range, or none is
abbrev pub IsLowestFree : (spans free : List Holding) → Option Holding → Type 0
IsLowestFree spans free None = All (λ s. Contains free s → ⊥) spans
IsLowestFree spans free (Some w) = Contains spans w × Contains free w
    × ((s : Holding) → Contains spans s → Contains free s → w.range.base ≤ s.range.base)
