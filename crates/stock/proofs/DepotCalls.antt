-- A call of the depot that stands at an index, by its answer.
use Rattle.std.proofs.Common.{◌≡◌, ℕ, ◌+◌, refl, sym, subst, ap, ◌∙◌, List, [], ◌∷◌, ◌++◌, set, All, Option, Some, None, IfSome, Result, Ok, Err, OnOk, arith}
use Rattle.std.specs.Prelude.{sum_by}
use Rattle.std.specs.Option.{option_to_list}
use Rattle.std.proofs.lemmas.List.Elements.{All-append, All-nil}
use Rattle.std.proofs.lemmas.List.Sums.{sum_by-append}
use Rattle.deed_core.specs.Tag.{Tag}
use Rattle.deed_core.specs.Weights.{WeighSame, Loses, of_direct, of_cached}
use Rattle.deed_core.proofs.LawProofs.{all_at, sum_none, sum_alike}
use Rattle.magazine_layer.specs.Magazines.{CpuCacheState, MagazineState, BothEmpty, cache_rounds}
use Rattle.magazine_layer.specs.Depots.{DepotState, IsDepot, depot_rounds, both_rounds, after_tick}
use Rattle.magazine_layer.specs.Calls.{PutFullOf, DepotReapOf}
use Rattle.magazine_layer.specs.declared.faults.PutFullFault.{PutFullFault}
use Rattle.magazine_layer.specs.declared.faults.PutFullFault.TheVariants as put_fault
use Rattle.stock.specs.Spaces.{SpaceState, QuantumCacheState, with_depot, with_cache}
use Rattle.stock.specs.Stocks.{IsRoundOf, IsQuantumCache, IsStock}
use Rattle.stock.specs.Steps.{OnDepot, IsRoundIn, AreRoundsOf, AreRoundsIn}
use Rattle.stock.proofs.Members.{all_less, all_loses, cached_weighs, cached_none, alone}
use Rattle.stock.proofs.Moving.{Moves, is_written, moves_there, at_space}
use Rattle.stock.proofs.CacheSteps.{OpensCache, cache_moves}

-- rounds of one cache came from no arena
pub rounds_direct : (a k q : ℕ) (f : Tag → ℕ) (xs : List Tag) → All (IsRoundOf a k q) xs → sum_by (of_direct f) xs ≡ 0
rounds_direct a k q f xs all = sum_none (of_direct f) xs (λ i x at. cached_none f x k (all_at (IsRoundOf a k q) xs i x all at).by)

pub rounds_cached : (a k q : ℕ) (f : Tag → ℕ) (xs : List Tag) → All (IsRoundOf a k q) xs → sum_by (of_cached f) xs ≡ sum_by f xs
rounds_cached a k q f xs all = sum_alike (of_cached f) f xs (λ i x at. cached_weighs f x k (all_at (IsRoundOf a k q) xs i x all at).by)

-- a CPU with no round
pub no_rounds : (k j q : ℕ) (x : CpuCacheState) → BothEmpty x → AreRoundsOf k j q x
no_rounds k j q x empty = subst (λ ts. All (IsRoundOf k (j + 1) q) (ts ++ x.loaded)) (sym empty.previous_empty) (subst (λ ts. All (IsRoundOf k (j + 1) q) ts) (sym empty.loaded_empty) (All-nil (IsRoundOf k (j + 1) q)))

module _ (spaces items : List SpaceState) (k : ℕ) (s : SpaceState) (j : ℕ) (c : QuantumCacheState) (o : OpensCache spaces items k s j c) (new : DepotState) where
  abbrev written : SpaceState
  written = with_cache j (with_depot new c) s

  abbrev now : List SpaceState
  now = set items k written

  pub on_depot : (P : DepotState → DepotState → Type 0) → P c.depot new → OnDepot k j P spaces now
  on_depot P does = record { space = s; at = o.opened.at; cache = c; among = o.among; depot = new; after = is_written spaces items k s o.opened written; does = does }

  module _ (stock : IsStock spaces) (sound : IsDepot new) where
    is : IsQuantumCache k (j + 1) s.arena.quantum c
    is = (stock k s o.opened.at).caches j c o.among

    moved : (given answered : List Tag) → All (IsRoundOf k (j + 1) s.arena.quantum) (depot_rounds new)
        → ((f : Tag → ℕ) → sum_by (of_direct f) answered ≡ sum_by (of_direct f) given)
        → ((f : Tag → ℕ) → sum_by (of_cached f) given + sum_by f (depot_rounds c.depot) ≡ sum_by (of_cached f) answered + sum_by f (depot_rounds new))
        → Moves spaces given now answered
    moved given answered rounds direct cached = moves_there spaces items k s o.opened written given answered (cache_moves spaces k s o.opened.at j c o.among (with_depot new c) given answered
        (record { arena = is.arena; k = is.k; quantum_is = is.quantum_is; sound = is.sound; tiled = is.tiled; depot = sound; rounds = rounds })
        refl (λ f. omega (arith, direct f)) (λ f. omega (arith, cached f)) stock)

    -- the same rounds
    pub same_moves : WeighSame (depot_rounds c.depot) (depot_rounds new) → Moves spaces [] now []
    same_moves same = moved [] [] (all_less (IsRoundOf k (j + 1) s.arena.quantum) (depot_rounds c.depot) (depot_rounds new) (λ f. omega (arith, same f)) is.rounds) (λ f. refl) (λ f. omega (arith, same f))

    pub tick_moves : new ≡ after_tick c.depot → Moves spaces [] now []
    tick_moves e = same_moves (λ f. ap (λ (d : DepotState). sum_by f (depot_rounds d)) (sym e))

    -- a round is reaped
    pub reap_moves : (r : Option Tag) → DepotReapOf c.depot r new → IfSome r (Loses (depot_rounds c.depot) (depot_rounds new)) → Moves spaces [] now (option_to_list r)
    reap_moves None of less = same_moves (λ f. ap (λ (d : DepotState). sum_by f (depot_rounds d)) (sym of.1))
    reap_moves (Some t) of less =
        let route = (all_loses (IsRoundOf k (j + 1) s.arena.quantum) (depot_rounds c.depot) (depot_rounds new) t less is.rounds).by in
        moved [] (t ∷ []) (all_less (IsRoundOf k (j + 1) s.arena.quantum) (depot_rounds c.depot) (depot_rounds new) (λ f. omega (arith, less f)) is.rounds)
        (λ f. omega (arith, cached_none f t (j + 1) route, alone (of_direct f) t))
        (λ f. omega (arith, cached_weighs f t (j + 1) route, alone (of_cached f) t, less f))

    pub reap_chunk : (r : Option Tag) → IfSome r (Loses (depot_rounds c.depot) (depot_rounds new)) → IfSome r (IsRoundIn spaces k j)
    reap_chunk None less = tt
    reap_chunk (Some t) less = at_space spaces items k s o.opened (λ z. IsRoundOf k (j + 1) z.arena.quantum t) (all_loses (IsRoundOf k (j + 1) s.arena.quantum) (depot_rounds c.depot) (depot_rounds new) t less is.rounds)

    -- rounds go between a CPU and the depot
    module _ (x y : CpuCacheState) (mine : AreRoundsOf k j s.arena.quantum x) (even : WeighSame (both_rounds x c.depot) (both_rounds y new)) where
      weighs : (f : Tag → ℕ) → sum_by f (cache_rounds x) + sum_by f (depot_rounds c.depot) ≡ sum_by f (cache_rounds y) + sum_by f (depot_rounds new)
      weighs f = omega (arith, even f, sum_by-append f (cache_rounds x) (depot_rounds c.depot), sum_by-append f (cache_rounds y) (depot_rounds new))

      both : All (IsRoundOf k (j + 1) s.arena.quantum) (both_rounds x c.depot)
      both = All-append (IsRoundOf k (j + 1) s.arena.quantum) (cache_rounds x) (depot_rounds c.depot) mine is.rounds

      swap_rounds : AreRoundsOf k j s.arena.quantum y
      swap_rounds = all_less (IsRoundOf k (j + 1) s.arena.quantum) (both_rounds x c.depot) (cache_rounds y) (λ f. omega (arith, even f, sum_by-append f (cache_rounds y) (depot_rounds new))) both

      pub rounds_in : AreRoundsIn spaces k j y
      rounds_in = at_space spaces items k s o.opened (λ z. AreRoundsOf k j z.arena.quantum y) swap_rounds

      pub swap_moves : Moves spaces (cache_rounds x) now (cache_rounds y)
      swap_moves = moved (cache_rounds x) (cache_rounds y)
          (all_less (IsRoundOf k (j + 1) s.arena.quantum) (both_rounds x c.depot) (depot_rounds new) (λ f. omega (arith, even f, sum_by-append f (cache_rounds y) (depot_rounds new))) both)
          (λ f. omega (arith, rounds_direct k (j + 1) s.arena.quantum f (cache_rounds x) mine, rounds_direct k (j + 1) s.arena.quantum f (cache_rounds y) swap_rounds))
          (λ f. omega (arith, weighs f, rounds_cached k (j + 1) s.arena.quantum f (cache_rounds x) mine, rounds_cached k (j + 1) s.arena.quantum f (cache_rounds y) swap_rounds))

same_weigh : (x y : CpuCacheState) (d e : DepotState) → y ≡ x → e ≡ d → WeighSame (both_rounds x d) (both_rounds y e)
same_weigh x y d e cpu depot f = ap (λ (z : CpuCacheState). sum_by f (both_rounds z d)) (sym cpu) ∙ ap (λ (z : DepotState). sum_by f (both_rounds y z)) (sym depot)

-- a fresh magazine has no round
pub fresh_weighs : (m : MagazineState) (x y : CpuCacheState) (d e : DepotState) → m.rounds ≡ [] → (r : Result (Unit {0}) (PutFullFault MagazineState)) → PutFullOf x d m r y e
    → OnOk r (WeighSame (m.rounds ++ both_rounds x d) (both_rounds y e)) → WeighSame (both_rounds x d) (both_rounds y e)
fresh_weighs m x y d e fresh (Ok z) of weights f = ap (λ (ts : List Tag). sum_by f (ts ++ both_rounds x d)) (sym fresh) ∙ weights f
fresh_weighs m x y d e fresh (Err (put_fault.OldSize n back)) of weights f = same_weigh x y d e of.3 of.4 f
fresh_weighs m x y d e fresh (Err (put_fault.NoMemory back)) of weights f = same_weigh x y d e of.3 of.4 f
