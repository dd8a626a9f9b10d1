-- A pop that gives a round leaves one round less.
use Rattle.std.proofs.Common.{◌≡◌, ◌+◌, [], ◌∷◌, ◌++◌, length, Some, None, Ok, inl, inr, sym, ap, subst, ◌∙◌, arith}
use Rattle.std.proofs.lemmas.List.{length-append}
use Rattle.deed_core.specs.Tag.{Tag}
use Rattle.magazine_layer.specs.Calls.{PopOf}
use Rattle.magazine_layer.specs.Magazines.{CpuCacheState, Pops, cache_rounds}
use Rattle.magazine_layer.specs.Magazines.Pops.{Of_loaded, Of_previous}
use Rattle.stock.specs.OwnCaches.{own_rounds}
use Rattle.local_parts.specs.Cpus.{cpu_rounds}
use Rattle.local_parts.specs.Laws.{PopTakesRound}
use Rattle.local_parts.specs.OwnSteps.{DoesPop}
use Rattle.local_parts.proofs.Owns.{count_sum, own_sums}

-- of two magazines
pops_one : (t : Tag) (x y : CpuCacheState) → Pops t x y → length (cache_rounds y) + 1 ≡ length (cache_rounds x)
pops_one t x y (Of_loaded loaded after) = omega (
  arith,
  ap (λ (c : CpuCacheState). length (cache_rounds c)) after,
  length-append x.previous y.loaded,
  length-append x.previous x.loaded,
  ap length loaded,
  length-append y.loaded (t ∷ []),
)
pops_one t x y (Of_previous loaded previous after) = omega (
  arith,
  ap (λ (c : CpuCacheState). length (cache_rounds c)) after,
  length-append x.previous x.loaded,
  ap length loaded,
  ap length previous,
  length-append y.loaded (t ∷ []),
)

pub pop_takes_round : PopTakesRound
pop_takes_round old new arena cache t step =
    let does : DoesPop old arena cache (Ok (Some t)) new = step.does in
    let is : does.0 ≡ Some t = (let e : Ok (Some t) ≡ Ok does.0 = does.1 in cc) in
    elim does.2 [
      | inl on ↦
          let own = on.1.3 in
          let one = pops_one t own.own.cpu own.changed.cpu (subst (λ r. PopOf own.own.cpu r own.changed.cpu) is own.does.1) in
          omega (
            arith,
            own_sums arena on.1.0 _ old.cpu new.cpu own (λ x. 1),
            count_sum (cpu_rounds new.cpu),
            count_sum (cpu_rounds old.cpu),
            count_sum (own_rounds own.own),
            count_sum (own_rounds own.changed),
            one,
          )
      | inr none ↦ absurd (let e : None ≡ Some t = sym none.0 ∙ is in cc)
    ]
