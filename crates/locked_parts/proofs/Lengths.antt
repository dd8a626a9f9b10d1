-- How many rounds a CPU has, after a call and in all.
use Rattle.std.proofs.Common.{◌≡◌, ℕ, ◌+◌, List, [], ◌∷◌, length, Option, Some, None, Ok, ap, arith, set}
use Rattle.std.specs.Prelude.{slice_get}
use Rattle.std.proofs.lemmas.List.{length-append}
use Rattle.deed_core.specs.Tag.{Tag}
use Rattle.deed_core.proofs.LawProofs.{sum_set}
use Rattle.magazine_layer.specs.Magazines.{CpuCacheState, Of_loaded, Of_previous, Pushes, On_loaded, On_previous, cache_rounds}
use Rattle.magazine_layer.specs.Calls.{PopOf}
use Rattle.arena_tree.specs.Sound.{PopsRound}
use Rattle.locked_parts.specs.Kinds.{OwnCacheState, count_of_rounds}

abbrev rounds_of : CpuCacheState → ℕ
rounds_of c = length (cache_rounds c)

pub pops_length : (c d : CpuCacheState) (r : Option Tag) → PopOf c r d → PopsRound (Ok r) (rounds_of c) (rounds_of d)
pops_length c d None of = ap rounds_of of.1
pops_length c d (Some x) (Of_loaded e is) =
    omega (arith, length-append d.previous d.loaded, length-append c.previous c.loaded, ap length e, length-append d.loaded (x ∷ []), ap (λ (z : CpuCacheState). length z.previous) is)
pops_length c d (Some x) (Of_previous none e is) =
    omega (arith, length-append d.previous d.loaded, length-append c.previous c.loaded, ap length none, ap length e, length-append d.loaded (x ∷ []), ap (λ (z : CpuCacheState). length z.previous) is)

pub push_length : (c d : CpuCacheState) (x : Tag) → Pushes x c d → rounds_of d ≡ rounds_of c + 1
push_length c d x (On_loaded room is) =
    omega (arith, length-append d.previous d.loaded, length-append c.previous c.loaded, length-append c.loaded (x ∷ []), ap (λ (z : CpuCacheState). length z.previous) is, ap (λ (z : CpuCacheState). length z.loaded) is)
push_length c d x (On_previous full none is) =
    omega (arith, length-append d.previous d.loaded, length-append c.previous c.loaded, ap length none, ap (λ (z : CpuCacheState). length z.previous) is, ap (λ (z : CpuCacheState). length z.loaded) is)

-- of all caches, after one changed
pub pops_in : (xs : List OwnCacheState) (i : ℕ) (old new : OwnCacheState) (r : Option Tag) → slice_get xs i ≡ Some old → PopsRound (Ok r) (rounds_of old.cpu) (rounds_of new.cpu) → PopsRound (Ok r) (count_of_rounds xs) (count_of_rounds (set xs i new))
pops_in xs i old new None at is = omega (arith, is, sum_set (λ (k : OwnCacheState). rounds_of k.cpu) xs i old new at)
pops_in xs i old new (Some t) at is = omega (arith, is, sum_set (λ (k : OwnCacheState). rounds_of k.cpu) xs i old new at)

pub pushes_in : (xs : List OwnCacheState) (i : ℕ) (old new : OwnCacheState) → slice_get xs i ≡ Some old → rounds_of new.cpu ≡ rounds_of old.cpu + 1 → count_of_rounds (set xs i new) ≡ count_of_rounds xs + 1
pushes_in xs i old new at is = omega (arith, is, sum_set (λ (k : OwnCacheState). rounds_of k.cpu) xs i old new at)

pub same_in : (xs : List OwnCacheState) (i : ℕ) (old new : OwnCacheState) → slice_get xs i ≡ Some old → rounds_of new.cpu ≡ rounds_of old.cpu → count_of_rounds (set xs i new) ≡ count_of_rounds xs
same_in xs i old new at is = omega (arith, is, sum_set (λ (k : OwnCacheState). rounds_of k.cpu) xs i old new at)
