-- How many ranges of a list cover a unit, its covering number, and how many units they have.
use Rattle.std.specs.Prelude.{ℕ, List, nat_le, nat_lt, ◌&&◌, if◌then◌else◌, sum_by}
use Rattle.deed_core.specs.Extent.{Extent, end_of}
use Rattle.deed_core.specs.Holding.{Holding}
use Rattle.deed_core.specs.Tag.{Tag}

-- 1 where the range covers the unit, else 0
abbrev pub covers : ℕ → Extent → ℕ
covers unit e = if nat_le e.base unit && nat_lt unit (end_of e) then 1 else 0

-- the same of a deed
abbrev pub covers_held : ℕ → Holding → ℕ
covers_held unit h = covers unit h.range

-- the same of a segment
abbrev pub covers_tag : ℕ → Tag → ℕ
covers_tag unit t = covers unit t.holding.range

-- how many of the ranges cover the unit
abbrev pub covering : ℕ → List Extent → ℕ
covering unit ranges = sum_by (covers unit) ranges

-- how many of the deeds
abbrev pub covering_held : ℕ → List Holding → ℕ
covering_held unit deeds = sum_by (covers_held unit) deeds

-- how many of the segments
abbrev pub covering_tags : ℕ → List Tag → ℕ
covering_tags unit segments = sum_by (covers_tag unit) segments

-- how many units a deed covers
abbrev pub units_in : Holding → ℕ
units_in h = h.range.len

-- how many the deeds cover, each counted by itself
abbrev pub units_held : List Holding → ℕ
units_held deeds = sum_by units_in deeds

-- how many the segments
abbrev pub units_tagged : List Tag → ℕ
units_tagged segments = sum_by (λ t. units_in t.holding) segments
