-- The arena at the top of each one's chain.
use Rattle.std.proofs.Common.{◌≡◌, ◌⊎◌, ℕ, suc, zero, ◌+◌, ◌<◌, Option, Some, None, inl, inr, refl, sym, subst, ap, ◌∙◌, List, arith}
use Rattle.std.specs.Prelude.{slice_get}
use Rattle.deed_core.proofs.LawProofs.{slice_get_one}
use Rattle.stock.specs.Spaces.{SpaceState}
use Rattle.stock.specs.Laws.{HasTop, root, child}
use Rattle.stock_audit.specs.Outside.{Outside}
use Rattle.stock_audit.specs.Accounted.{IsAccountedFor}
use Rattle.stock_audit.specs.Laws.{TopsStand}
use Rattle.stock_audit.proofs.Climbing.{source_stands}

-- an arena is the top of its chain, or imports
pub next_up : (spaces : List SpaceState) (k top : ℕ) → HasTop spaces k top
    → (s : SpaceState) × (slice_get spaces k ≡ Some s) × (((top ≡ k) × (s.source ≡ None)) ⊎ ((p : ℕ) × (s.source ≡ Some p) × HasTop spaces p top))
next_up spaces _ _ (root k s at none) = (s, at, inl (refl, none))
next_up spaces _ _ (child k p top s at source up) = (s, at, inr (p, source, up))

same_source : (spaces : List SpaceState) (k : ℕ) (s x : SpaceState) → slice_get spaces k ≡ Some s → slice_get spaces k ≡ Some x → s.source ≡ x.source
same_source spaces k s x at there = ap (λ (y : SpaceState). y.source) (slice_get_one spaces k s x at there)

-- there is one
pub one_top : (spaces : List SpaceState) (k a b : ℕ) → HasTop spaces k a → HasTop spaces k b → a ≡ b
one_top spaces _ _ b (root k s at none) other =
    let up = next_up spaces k b other in
    elim up.2 [
      | inl top ↦ sym top.0
      | inr more ↦ absurd (let e : None ≡ Some more.0 = sym none ∙ (same_source spaces k s up.0 at up.1 ∙ more.1) in cc)
    ]
one_top spaces _ _ b (child k p top s at source rest) other =
    let up = next_up spaces k b other in
    elim up.2 [
      | inl top ↦ absurd (let e : None ≡ Some p = sym top.1 ∙ (same_source spaces k up.0 s up.1 at ∙ source) in cc)
      | inr more ↦
          let both : Some p ≡ Some more.0 = sym source ∙ (same_source spaces k s up.0 at up.1 ∙ more.1) in
          let same : p ≡ more.0 = cc in
          one_top spaces p top b rest (subst (λ q. HasTop spaces q b) (sym same) more.2)
    ]

-- it imports from none
pub top_is_root : (spaces : List SpaceState) (k top : ℕ) → HasTop spaces k top → (s : SpaceState) × (slice_get spaces top ≡ Some s) × (s.source ≡ None)
top_is_root spaces _ _ (root k s at none) = (s, at, none)
top_is_root spaces _ _ (child k p top s at source up) = top_is_root spaces p top up

-- the top of a chain, by the tops of what stands before
module _ (spaces : List SpaceState) (out : Outside) (a : IsAccountedFor spaces out) where
  abbrev Top : ℕ → Type 0
  Top k = (top : ℕ) × HasTop spaces k top

  next_top : (k : ℕ) (s : SpaceState) → slice_get spaces k ≡ Some s → ((p : ℕ) (x : SpaceState) → p < k → slice_get spaces p ≡ Some x → Top p) → Top k
  next_top k s at later = by s.source refl
    where
      by : (o : Option ℕ) → s.source ≡ o → Top k
      by None source = (k, root k s at source)
      by (Some p) source =
          let next = source_stands spaces out a 0 k p s at source in
          let rest = later p next.0 ((a.parts k s at).before p source) next.1 in
          (rest.0, child k p rest.0 s at source rest.1)

  top_below : (n k : ℕ) (s : SpaceState) → k < n → slice_get spaces k ≡ Some s → Top k
  top_below zero k s lt at = absurd (omega (arith, lt))
  top_below (suc n) k s lt at = next_top k s at (λ p x before there. top_below n p x (omega (arith, lt, before)) there)

  some_top : (k : ℕ) → (top : ℕ) × ((s : SpaceState) → slice_get spaces k ≡ Some s → HasTop spaces k top)
  some_top k = by (slice_get spaces k) refl
    where
      by : (o : Option SpaceState) → slice_get spaces k ≡ o → (top : ℕ) × ((s : SpaceState) → slice_get spaces k ≡ Some s → HasTop spaces k top)
      by None none = (0, λ s at. absurd (let e : None ≡ Some s = sym none ∙ at in cc))
      by (Some x) at = (let top = top_below (k + 1) k x (omega arith) at in (top.0, λ s there. top.1))

pub tops_stand : TopsStand
tops_stand spaces out a = ((λ k. (some_top spaces out a k).0), (λ k s at. (some_top spaces out a k).1 s at))
