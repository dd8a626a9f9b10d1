-- The free neighbours of a range.
use Rattle.std.proofs.Common.{◌≡◌, ◌≢◌, ℕ, ◌-◌, ◌<◌, sym, subst, ◌∙◌, ⊎_elim, List, All, AllPairs, Contains, Option, None, Some, IfSome, arith}
use Rattle.std.proofs.lemmas.Bool.{cases_lt}
use Rattle.std.proofs.lemmas.List.Elements.{All-contains}
use Rattle.deed_core.specs.Extent.{Covers, IsRange, end_of}
use Rattle.deed_core.specs.Holding.{Holding, Apart, GoesOn}
use Rattle.tag_arena.specs.Layout.{IsPartOf}
use Rattle.tag_arena.specs.Neighbors.{IsBeside, TakesLeft, Without}
use Rattle.tag_arena.proofs.Members.{All-from_members}
use Rattle.tag_arena.proofs.Merging.{without_kept, without_member}
use Rattle.tag_arena.specs.Boundaries.{EndsAt}
use Rattle.tag_arena.specs.Fits.{IsWith}
use Rattle.tag_arena.proofs.Roving.{same_begin}

module _ (free : List Holding) (ranges : All (λ r. IsRange r.range) free) (apart : AllPairs Apart free) where
  -- the range that is taken is the one that was found
  pub taken_is : (h r : Holding) (new : List Holding) → Contains free h → Without free r new → r.range.base ≡ h.range.base → r ≡ h
  taken_is h r new in-h out same = same_begin free ranges apart r h (without_member free new r out) in-h same

-- where the one with the unit below the base in it hasn't the base, it ends there
pub ends_there : (base : ℕ) (h : Holding) → 0 < base → Covers h.range (base - 1) → ¬ Covers h.range base → end_of h.range ≡ base
ends_there base h some has hasnt =
    ⊎_elim (λ lt. let low = has.0 in absurd (hasnt (omega (arith, low), lt))) (λ ge. let up = has.1 in omega (arith, ge, up, some)) (cases_lt base (end_of h.range))

-- where the one with the unit below the end in it hasn't the end, it is the one that ends there
ends_with : (end : ℕ) (free : List Holding) (h : Holding) → 0 < end → All (λ r. ¬ Covers r.range end) free → IsWith (end - 1) free (Some h) → EndsAt end free (Some h)
ends_with end free h some clear with =
    (with.0, ends_there end h some with.1 (All-contains (λ r. ¬ Covers r.range end) free h clear with.0))

none_with : (end : ℕ) (free : List Holding) → 0 < end → All (λ r. IsRange r.range) free → IsWith (end - 1) free None → EndsAt end free None
none_with end free some ranges none =
    All-from_members (λ r. end_of r.range ≢ end) free
    (λ r in-r is.
    let long = (All-contains (λ x. IsRange x.range) free r ranges in-r).some in
    All-contains (λ x. ¬ Covers x.range (end - 1)) free r none in-r (omega (arith, is, long), omega (arith, is, some)))

pub ends_by : (end : ℕ) (free : List Holding) (o : Option Holding) → 0 < end → All (λ r. IsRange r.range) free → All (λ r. ¬ Covers r.range end) free → IsWith (end - 1) free o → EndsAt end free o
ends_by end free None some ranges clear with = none_with end free some ranges with
ends_by end free (Some h) some ranges clear with = ends_with end free h some clear with

-- what is so of each free range is so when one on the left is taken
pub left_keeps : (P : Holding → Type 0) (start base : ℕ) (old mid : List Holding) (o : Option Holding) → TakesLeft start base old o mid → All P old → All P mid
left_keeps P start base old mid None takes all = subst (All P) (sym takes.0) all
left_keeps P start base old mid (Some l) takes all = All-from_members P mid (λ r in-r. All-contains P old r all (without_kept old mid l r takes.2 in-r))

-- a neighbour on the left has the same root
pub left_goes_on : (span piece : Holding) (old mid : List Holding) (o : Option Holding) (start base : ℕ) → start ≡ span.range.base → base ≡ piece.range.base → IsPartOf span piece → 0 < piece.range.len → All (IsBeside span) old → TakesLeft start base old o mid → IfSome o (λ l. GoesOn l piece)
left_goes_on span piece old mid None start base start_is base_is inside some beside takes = tt
left_goes_on span piece old mid (Some l) start base start_is base_is inside some beside takes =
    let near = All-contains (IsBeside span) old l beside (without_member old mid l takes.2) in
    let meets = takes.1 ∙ base_is in
    let root : l.root ≡ piece.root = ⊎_elim (λ (h : IsPartOf span l). h.root ∙ sym inside.root) (λ apart. absurd (⊎_elim (λ le. omega (arith, takes.0, start_is, base_is, meets, le)) (λ le. omega (arith, meets, inside.to, some, near.0, le)) apart)) near.1 in
    record { root = root; meets = meets }
