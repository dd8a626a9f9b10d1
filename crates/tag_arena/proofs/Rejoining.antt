-- A range that comes back to the free ranges, merged with its neighbours.
use Rattle.std.proofs.Common.{ℕ, ◌+◌, ◌<◌, ◌≤◌, sym, ap, subst, ◌∙◌, ⊎_elim, Bool, List, length, All, AllPairs, Contains, Option, None, Some, arith}
use Rattle.std.proofs.lemmas.Bool.{cases_lt}
use Rattle.std.proofs.lemmas.List.{length_push}
use Rattle.std.proofs.lemmas.List.Edits.{length-remove}
use Rattle.std.specs.Option.{option_map_or}
use Rattle.std.proofs.lemmas.List.Elements.{All-contains}
use Rattle.deed_core.specs.Extent.{Covers, end_of}
use Rattle.deed_core.specs.Holding.{Holding, Apart}
use Rattle.tag_arena.specs.Layout.{IsPartOf}
use Rattle.tag_arena.specs.Neighbors.{IsBeside, Merges, TakesLeft, TakesRight, Without}
use Rattle.tag_arena.specs.Returns.{ComesBack, Leaves}
use Rattle.tag_arena.proofs.Members.{All-from_members}
use Rattle.tag_arena.proofs.Merging.{none_left, without_apart, without_kept}
use Rattle.tag_arena.proofs.Ranges.{apart_or_share, not_both}

-- one less
pub fewer_without : (old new : List Holding) (r : Holding) → Without old r new → length new ≤ length old
fewer_without old new r out = let n = ap length out.3 in omega (arith, n, length-remove old out.0 out.1)

-- what is left where a neighbour was taken
pub left_kept : (start base : ℕ) (old mid : List Holding) (o : Option Holding) → TakesLeft start base old o mid → (x : Holding) → Contains mid x → Contains old x
left_kept start base old mid None takes x h = subst (λ l. Contains l x) takes.0 h
left_kept start base old mid (Some r) takes x h = without_kept old mid r x takes.2 h

pub right_kept : (end limit : ℕ) (mid new : List Holding) (o : Option Holding) → TakesRight end limit mid o new → (x : Holding) → Contains new x → Contains mid x
right_kept end limit mid new None takes x h = subst (λ l. Contains l x) takes.0 h
right_kept end limit mid new (Some r) takes x h = without_kept mid new r x takes.2 h

left_fewer : (start base : ℕ) (old mid : List Holding) (o : Option Holding) → TakesLeft start base old o mid → length mid ≤ length old
left_fewer start base old mid None takes = let n = ap length takes.0 in omega (arith, n)
left_fewer start base old mid (Some r) takes = fewer_without old mid r takes.2

right_fewer : (end limit : ℕ) (mid new : List Holding) (o : Option Holding) → TakesRight end limit mid o new → length new ≤ length mid
right_fewer end limit mid new None takes = let n = ap length takes.0 in omega (arith, n)
right_fewer end limit mid new (Some r) takes = fewer_without mid new r takes.2

-- where the merged range begins and ends
left_low : (start base : ℕ) (old mid : List Holding) (o : Option Holding) → TakesLeft start base old o mid → option_map_or (λ r. r.range.base) o base ≤ base
left_low start base old mid None takes = omega arith
left_low start base old mid (Some r) takes = let e = takes.1 in omega (arith, e)

right_high : (end limit : ℕ) (mid new : List Holding) (o : Option Holding) → TakesRight end limit mid o new → end ≤ option_map_or (λ r. end_of r.range) o end
right_high end limit mid new None takes = omega arith
right_high end limit mid new (Some r) takes = let e = takes.1 in omega (arith, e)

module _ (span piece merged : Holding) (old new : List Holding) (m : Merges span piece old merged new) where
  pub merged_fewer : length new ≤ length old
  merged_fewer = omega (arith, left_fewer span.range.base piece.range.base old m.mid m.left m.takes_left, right_fewer (end_of piece.range) (end_of span.range) m.mid new m.right m.takes_right)

  module _ (some : 0 < piece.range.len) (beside : All (IsBeside span) old) (apart : AllPairs Apart old) (clear : All (Apart piece) old) where
    -- no range that is left shares a unit with a neighbor that was taken
    left_alone : (o : Option Holding) (mid : List Holding) → TakesLeft span.range.base piece.range.base old o mid → (x : Holding) → Contains mid x → (u : ℕ) → Covers x.range u → option_map_or (λ r. r.range.base) o piece.range.base ≤ u → u < piece.range.base → ⊥
    left_alone None mid takes x h u has low high = omega (arith, low, high)
    left_alone (Some l) mid takes x h u has low high = none_left old mid l x u apart takes.2 h has (low, omega (arith, takes.1, high))

    mid_apart : (o : Option Holding) (mid : List Holding) → TakesLeft span.range.base piece.range.base old o mid → AllPairs Apart mid
    mid_apart None mid takes = subst (AllPairs Apart) (sym takes.0) apart
    mid_apart (Some l) mid takes = without_apart old mid l takes.2 apart

    right_alone : (mid : List Holding) → AllPairs Apart mid → (o : Option Holding) → TakesRight (end_of piece.range) (end_of span.range) mid o new → (x : Holding) → Contains new x → (u : ℕ) → Covers x.range u → end_of piece.range ≤ u → u < option_map_or (λ r. end_of r.range) o (end_of piece.range) → ⊥
    right_alone mid parted None takes x h u has low high = omega (arith, low, high)
    right_alone mid parted (Some r) takes x h u has low high = none_left mid new r x u parted takes.2 h has (omega (arith, takes.1, low), high)

    pub merged_clear : All (Apart merged) new
    merged_clear =
        All-from_members (Apart merged) new
        (λ x h.
        let in-mid = right_kept (end_of piece.range) (end_of span.range) m.mid new m.right m.takes_right x h in
        let in-x = left_kept span.range.base piece.range.base old m.mid m.left m.takes_left x in-mid in
        let long = (All-contains (IsBeside span) old x beside in-x).0 in
        let low = left_low span.range.base piece.range.base old m.mid m.left m.takes_left in
        let high = right_high (end_of piece.range) (end_of span.range) m.mid new m.right m.takes_right in
        ⊎_elim (λ a. a)
        (λ sh. absurd (⊎_elim (λ below. left_alone m.left m.mid m.takes_left x in-mid sh.0 sh.2 (omega (arith, sh.1, m.base)) below)
        (λ from. ⊎_elim (λ inside. not_both piece x sh.0 (All-contains (Apart piece) old x clear in-x) (from, inside) sh.2)
        (λ above. right_alone m.mid (mid_apart m.left m.mid m.takes_left) m.right m.takes_right x h sh.0 sh.2 above (omega (arith, sh.1, m.end)))
        (cases_lt sh.0 (end_of piece.range)))
        (cases_lt sh.0 piece.range.base)))
        (apart_or_share merged x (omega (arith, m.base, m.end, low, high, some)) long))

-- the merged range has the piece
pub merged_has : (span piece merged : Holding) (old new : List Holding) → Merges span piece old merged new → IsPartOf merged piece
merged_has span piece merged old new m = record {
  root = sym m.root;
  from = omega (arith, m.base, left_low span.range.base piece.range.base old m.mid m.left m.takes_left);
  to = omega (arith, m.end, right_high (end_of piece.range) (end_of span.range) m.mid new m.right m.takes_right);
}

leaves_fewer : (lent : Bool) (span merged : Holding) (mid new : List Holding) (o : Option Holding) → Leaves lent span merged mid new o → length new ≤ length mid + 1
leaves_fewer lent span merged mid new None leaves = let n = ap length leaves.1 ∙ length_push mid merged in omega (arith, n)
leaves_fewer lent span merged mid new (Some h) leaves = let n = ap length leaves.3 in omega (arith, n)

pub comes_fewer : (lent : Bool) (span piece : Holding) (old new : List Holding) (o : Option Holding) → ComesBack lent span piece old new o → length new ≤ length old + 1
comes_fewer lent span piece old new o back = omega (arith, leaves_fewer lent span back.merged back.mid new o back.leaves, merged_fewer span piece back.merged old back.mid back.merges)
