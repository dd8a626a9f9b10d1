-- Chains of sources, and what no step changes.
use Rattle.std.proofs.Common.{◌≡◌, ℕ, sym, ap, ◌∙◌, List, length, Some, arith}
use Rattle.std.specs.Prelude.{slice_get}
use Rattle.std.proofs.lemmas.List.{length-map}
use Rattle.std.proofs.lemmas.Option.{slice_get_within}
use Rattle.deed_core.proofs.LawProofs.{slice_get_one, slice_get_some, slice_get_mapped}
use Rattle.stock.specs.Spaces.{SpaceState, SpacePlan, slab_size_of, plan_of, plans_of, quantum_of}
use Rattle.stock.specs.Laws.{SourceStandsBefore, IsSetUpAlike, PlansStay, CachesStay}
use Rattle.stock.proofs.CacheSteps.{number_within, has_cache}

pub source_stands_before : SourceStandsBefore
source_stands_before spaces stock k p s at from =
    let is = stock k s at in
    let lt = is.before p from in
    let y = slice_get_some spaces p (omega (arith, lt, slice_get_within spaces k s at)) in
    (lt, (y.0, y.1, is.nests p (quantum_of y.0) from (slice_get_mapped quantum_of spaces p y.0 y.1)))

set_up_as : (old new : List SpaceState) → plans_of new ≡ plans_of old → (k : ℕ) (s t : SpaceState) → slice_get old k ≡ Some s → slice_get new k ≡ Some t → IsSetUpAlike s t
set_up_as old new same k s t at there =
    let mine = slice_get_mapped plan_of old k s at in
    let its = ap (λ (ps : List SpacePlan). slice_get ps k) (sym same) ∙ slice_get_mapped plan_of new k t there in
    let one : plan_of t ≡ plan_of s = slice_get_one (plans_of old) k (plan_of t) (plan_of s) its mine in
    record {
      source = ap (λ (p : SpacePlan). p.source) one;
      quantum = ap (λ (p : SpacePlan). p.quantum) one;
      policy = ap (λ (p : SpacePlan). p.policy) one;
      caches = sym (length-map t.caches slab_size_of) ∙ ap (λ (p : SpacePlan). length p.slab_sizes) one ∙ length-map s.caches slab_size_of;
    }

same_length : (old new : List SpaceState) → plans_of new ≡ plans_of old → length new ≡ length old
same_length old new same = sym (length-map new plan_of) ∙ ap (λ (ps : List SpacePlan). length ps) same ∙ length-map old plan_of

pub plans_stay : PlansStay
plans_stay old new same = (same_length old new same, set_up_as old new same)

pub caches_stay : CachesStay
caches_stay old new same k j has =
    let at = has.1.at in
    let t = slice_get_some new k (omega (arith, slice_get_within old k has.1.space at, same_length old new same)) in
    let alike = set_up_as old new same k has.1.space t.0 at t.1 in
    has_cache new k t.0 j t.1 (omega (arith, number_within old k j has.1.space has at, alike.caches))
