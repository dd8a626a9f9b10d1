-- How many units of a range a request on a grid can have.
use Rattle.std.specs.Prelude.{ℕ, ◌+◌, ◌-◌, ◌%◌, cond, max, min, nat_eq}

-- where units may stand: from a base at the phase modulo align on, and, where nocross isn't 0,
-- inside a block of so many
pub record GridState : Type 0 where
  pub align : ℕ
  pub phase : ℕ
  pub nocross : ℕ

-- the least number from `low` on at the phase modulo align
abbrev pub base_from : (align phase low : ℕ) → ℕ
base_from align phase low = low + (align + phase - low % align) % align

-- the first multiple of `block` past `base`
abbrev pub block_past : (block base : ℕ) → ℕ
block_past block base = base - base % block + block

-- an upper bound of the units from the first base on: to the end, or to the block past it, or in
-- later blocks
unfoldable pub reach_of : GridState → (base end : ℕ) → ℕ
reach_of g base end =
    let first = base_from g.align g.phase base in
    let edge = block_past g.nocross first in
    let second = base_from g.align g.phase edge in
    cond (nat_eq g.nocross 0)
    (end - first)
    (max (min end edge - first) (min (end - second) g.nocross))
