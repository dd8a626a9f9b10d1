-- The rounds of a CPU stay chunks of its quantum cache.
use Rattle.std.proofs.Common.{ℕ, ◌+◌, sym, subst, List, ◌∷◌, ◌++◌, All, Option, Some, None, IfSome, arith}
use Rattle.std.specs.Option.{option_to_list}
use Rattle.std.proofs.lemmas.List.Sums.{sum_by-append, sum_by-cons}
use Rattle.deed_core.specs.Tag.{Tag}
use Rattle.magazine_layer.specs.Magazines.{CpuCacheState, AreAmong, cache_rounds}
use Rattle.magazine_layer.proofs.LawProofs.{kinds_kept}
use Rattle.stock.specs.Stocks.{IsRoundOf}
use Rattle.stock.specs.Spaces.{SpaceState, HasCache}
use Rattle.stock.specs.Steps.{HasQuantum, AreRoundsOf, AreRoundsIn}
use Rattle.stock.proofs.Members.{all_less, all_gains}

-- of the arena's own quantum, and of the quantum that the CPU's cache keeps
pub are_own_rounds : (spaces : List SpaceState) (k j q : ℕ) (cpu : CpuCacheState) → HasCache spaces k j → HasQuantum spaces k q → AreRoundsIn spaces k j cpu → AreRoundsOf k j q cpu
are_own_rounds spaces k j q cpu has is rounds = subst (λ n. AreRoundsOf k j n cpu) (is has.1.space has.1.at) (rounds has.1.space has.1.at)

pub rounds_in : (spaces : List SpaceState) (k j q : ℕ) (cpu : CpuCacheState) → HasQuantum spaces k q → AreRoundsOf k j q cpu → AreRoundsIn spaces k j cpu
rounds_in spaces k j q cpu is own s at = subst (λ n. AreRoundsOf k j n cpu) (sym (is s at)) own

module _ (k j q : ℕ) (old new : CpuCacheState) (mine : AreRoundsOf k j q old) where
  all_of : (r : Option Tag) → AreAmong (option_to_list r ++ cache_rounds new) (cache_rounds old) → All (IsRoundOf k (j + 1) q) (option_to_list r ++ cache_rounds new)
  all_of r kinds = kinds_kept (IsRoundOf k (j + 1) q) (option_to_list r ++ cache_rounds new) (cache_rounds old) kinds mine

  pub left : (r : Option Tag) → AreAmong (option_to_list r ++ cache_rounds new) (cache_rounds old) → AreRoundsOf k j q new
  left r kinds = all_less (IsRoundOf k (j + 1) q) (option_to_list r ++ cache_rounds new) (cache_rounds new) (λ f. omega (arith, sum_by-append f (option_to_list r) (cache_rounds new))) (all_of r kinds)

  pub popped : (r : Option Tag) → AreAmong (option_to_list r ++ cache_rounds new) (cache_rounds old) → IfSome r (IsRoundOf k (j + 1) q)
  popped None kinds = tt
  popped (Some t) kinds = all_of (Some t) kinds 0 t (omega arith)

  pub kept : (t : Tag) → AreAmong (cache_rounds new) (t ∷ cache_rounds old) → IsRoundOf k (j + 1) q t → AreRoundsOf k j q new
  kept t kinds here = kinds_kept (IsRoundOf k (j + 1) q) (cache_rounds new) (t ∷ cache_rounds old) kinds
      (all_gains (IsRoundOf k (j + 1) q) (cache_rounds old) (t ∷ cache_rounds old) t (λ f. omega (arith, sum_by-cons f t (cache_rounds old))) here mine)

  pub changed : AreAmong (cache_rounds new) (cache_rounds old) → AreRoundsOf k j q new
  changed kinds = kinds_kept (IsRoundOf k (j + 1) q) (cache_rounds new) (cache_rounds old) kinds mine
