-- No call brings a round from elsewhere: what weighs no more by any weight is among the others.
use Rattle.std.proofs.Common.{◌≡◌, ℕ, ◌<◌, ◌≤◌, List, ◌∷◌, ◌++◌, get_or, sum_by, arith}
use Rattle.std.proofs.lemmas.List.Elements.{Contains-get_or}
use Rattle.std.proofs.lemmas.List.Sums.{sum_by-append, sum_by-cons}
use Rattle.std.specs.Prelude.{Option, Some, None, option_to_list}
use Rattle.deed_core.specs.Tag.{Tag}
use Rattle.deed_core.specs.Weights.{WeighSame, Loses, one_at}
use Rattle.deed_core.proofs.LawProofs.{counts_where_it_is}
use Rattle.magazine_layer.specs.Magazines.{AreAmong, MagazineState, CpuCacheState, Pushes, cache_rounds, after_change}
use Rattle.magazine_layer.specs.Depots.{DepotState, depot_rounds}
use Rattle.magazine_layer.specs.Calls.{MagazineTakeOf, PopOf, DepotReapOf}
use Rattle.magazine_layer.proofs.Weighing.{last_weighs, pops_weigh, pushes_weigh}

among : (new old : List Tag) → ((f : Tag → ℕ) → sum_by f new ≤ sum_by f old) → AreAmong new old
among new old less = record {
  each = λ k d within.
      let x = get_or new k d in
      let some : 0 < sum_by (one_at x) new = (counts_where_it_is x new).1 (Contains-get_or new k d within) in
      (counts_where_it_is x old).0 (omega (arith, some, less (one_at x)));
}

pub among_itself : (rounds : List Tag) → AreAmong rounds rounds
among_itself rounds = among rounds rounds (λ f. omega arith)

pub among_more : (x : Tag) (rounds : List Tag) → AreAmong rounds (x ∷ rounds)
among_more x rounds = among rounds (x ∷ rounds) (λ f. omega (arith, sum_by-cons f x rounds))

pub among_both : (given rounds : List Tag) → AreAmong rounds (given ++ rounds)
among_both given rounds = among rounds (given ++ rounds) (λ f. omega (arith, sum_by-append f given rounds))

pub moved_are_among : (old new : List Tag) → WeighSame old new → AreAmong new old
moved_are_among old new same = among new old (λ f. omega (arith, same f))

pub taken_are_among : (old new : List Tag) (x : Tag) → Loses old new x → AreAmong (x ∷ new) old
taken_are_among old new x loses = among (x ∷ new) old (λ f. omega (arith, loses f, sum_by-cons f x new))

-- the rounds before and after a call of a magazine, a CPU's cache and a depot
pub magazine_take_among : (m m' : MagazineState) (r : Option Tag) → MagazineTakeOf m r m' → AreAmong (option_to_list r ++ m'.rounds) m.rounds
magazine_take_among m m' (Some x) takes = taken_are_among m.rounds m'.rounds x (last_weighs m.rounds m'.rounds x takes.0)
magazine_take_among m m' None none = rw none.1 (among_itself m.rounds)

pub pop_among : (c c' : CpuCacheState) (r : Option Tag) → PopOf c r c' → AreAmong (option_to_list r ++ cache_rounds c') (cache_rounds c)
pop_among c c' (Some x) pops = taken_are_among (cache_rounds c) (cache_rounds c') x (pops_weigh x c c' pops)
pop_among c c' None none = rw none.1 (among_itself (cache_rounds c))

pub push_among : (x : Tag) (c c' : CpuCacheState) → Pushes x c c' → AreAmong (cache_rounds c') (x ∷ cache_rounds c)
push_among x c c' pushes = among (cache_rounds c') (x ∷ cache_rounds c) (λ f. omega (arith, pushes_weigh x c c' pushes f, sum_by-cons f x (cache_rounds c)))

pub change_among : (m : ℕ) (c c' : CpuCacheState) → c' ≡ after_change m c → AreAmong (cache_rounds c') (cache_rounds c)
change_among m c c' after = rw after (among_itself (cache_rounds c))

pub none_reaped_among : (d d' : DepotState) → DepotReapOf d None d' → AreAmong (depot_rounds d') (depot_rounds d)
none_reaped_among d d' none = rw none.1 (among_itself (depot_rounds d))
