-- No call makes or loses a round, however rounds are weighed.
use Rattle.std.proofs.Common.{◌≡◌, ℕ, ◌+◌, List, [], ◌∷◌, ◌++◌, ◌<◌, take, get_or, min, inl, inr, arith, refl, ap, sym, ◌∙◌, append-nil, flat_map, length, sum_by}
use Rattle.std.proofs.lemmas.Grind.{flat_map-append}
use Rattle.std.proofs.lemmas.List.{take_more}
use Rattle.std.proofs.lemmas.List.Sums.{sum_by-append, sum_by-cons, sum_by_push}
use Rattle.deed_core.specs.Tag.{Tag}
use Rattle.deed_core.specs.Weights.{WeighSame, Gains, Loses}
use Rattle.magazine_layer.specs.Magazines.{CpuCacheState, MagazineState, Pops, Of_loaded, Of_previous, Pushes, On_loaded, On_previous, cache_rounds}
use Rattle.magazine_layer.specs.Depots.{DepotState, SwapsForFull, SwapsForEmpty, PutsFull, Begins, Drains, ReapsRound, all_rounds, depot_rounds, after_resize, after_trim}
use Rattle.magazine_layer.specs.Rounds.{CpuDepot, TakesRound, Own_taken, Swapped, None_full, Old_size, MakesRoom, By_empty, By_new, By_change, GivesRound, Own_given, Made, No_room, StepsRound, RunsRounds, Start, Then, rounds_of, rounds_of_op, rounds_of_answer}
use Rattle.magazine_layer.specs.declared.rounds.RoundOp.{RoundOp}
use Rattle.magazine_layer.specs.declared.rounds.RoundOp.TheVariants.{Give, Take}
use Rattle.magazine_layer.specs.declared.rounds.RoundAnswer.{RoundAnswer}

pub last_weighs : (xs ys : List Tag) (x : Tag) → xs ≡ ys ++ x ∷ [] → Loses xs ys x
last_weighs xs ys x is f = ap (sum_by f) is ∙ sum_by_push f ys x

one : (f : Tag → ℕ) (x : Tag) → sum_by f (x ∷ []) ≡ f x
one f x = omega (arith, sum_by-cons f x [])

parts : (f : Tag → ℕ) (c : CpuCacheState) → sum_by f (cache_rounds c) ≡ sum_by f c.previous + sum_by f c.loaded
parts f c = sum_by-append f c.previous c.loaded

pub pops_weigh : (x : Tag) (c c' : CpuCacheState) → Pops x c c' → Loses (cache_rounds c) (cache_rounds c') x
pops_weigh x c c' (Of_loaded last after) f =
    let loaded : sum_by f c.loaded ≡ sum_by f c'.loaded + f x = ap (sum_by f) last ∙ sum_by_push f c'.loaded x in
    let previous : sum_by f c'.previous ≡ sum_by f c.previous = ap (λ c. sum_by f c.previous) after in
    omega (arith, parts f c, parts f c')
pops_weigh x c c' (Of_previous none last after) f =
    let loaded : sum_by f c.loaded ≡ 0 = ap (sum_by f) none in
    let previous : sum_by f c.previous ≡ sum_by f c'.loaded + f x = ap (sum_by f) last ∙ sum_by_push f c'.loaded x in
    let previous' : sum_by f c'.previous ≡ 0 = ap (λ c. sum_by f c.previous) after in
    omega (arith, parts f c, parts f c')

pub pushes_weigh : (x : Tag) (c c' : CpuCacheState) → Pushes x c c' → Gains (cache_rounds c) (cache_rounds c') x
pushes_weigh x c c' (On_loaded room after) f =
    let loaded : sum_by f c'.loaded ≡ sum_by f c.loaded + f x = ap (λ c. sum_by f c.loaded) after ∙ sum_by_push f c.loaded x in
    let previous : sum_by f c'.previous ≡ sum_by f c.previous = ap (λ c. sum_by f c.previous) after in
    omega (arith, parts f c, parts f c')
pushes_weigh x c c' (On_previous full none after) f =
    let loaded : sum_by f c'.loaded ≡ f x = ap (λ c. sum_by f c.loaded) after ∙ one f x in
    let previous : sum_by f c'.previous ≡ sum_by f c.loaded = ap (λ c. sum_by f c.previous) after in
    let previous' : sum_by f c.previous ≡ 0 = ap (sum_by f) none in
    omega (arith, parts f c, parts f c')

-- the rounds of a list's members, and of one more
parts-push : {X : Type 0} (f : Tag → ℕ) (g : X → List Tag) (xs : List X) (x : X) → sum_by f (flat_map g (xs ++ x ∷ [])) ≡ sum_by f (flat_map g xs) + sum_by f (g x)
parts-push f g xs x = ap (sum_by f) (flat_map-append g xs (x ∷ [])) ∙ sum_by-append f (flat_map g xs) (g x ++ []) ∙ ap (λ m. sum_by f (flat_map g xs) + sum_by f m) (append-nil (g x))

all_rounds-push : (f : Tag → ℕ) (xs : List (List Tag)) (m : List Tag) → sum_by f (all_rounds (xs ++ m ∷ [])) ≡ sum_by f (all_rounds xs) + sum_by f m
all_rounds-push f xs m = parts-push f (λ m. m) xs m

depot_parts : (f : Tag → ℕ) (d : DepotState) → sum_by f (depot_rounds d) ≡ sum_by f (all_rounds d.old_full) + (sum_by f (all_rounds d.full) + sum_by f d.draining)
depot_parts f d = omega (arith, sum_by-append f (all_rounds d.old_full) (all_rounds d.full ++ d.draining), sum_by-append f (all_rounds d.full) d.draining)

both : (f : Tag → ℕ) (c : CpuCacheState) (d : DepotState) → sum_by f (cache_rounds c ++ depot_rounds d) ≡ (sum_by f c.previous + sum_by f c.loaded) + (sum_by f (all_rounds d.old_full) + (sum_by f (all_rounds d.full) + sum_by f d.draining))
both f c d = omega (arith, sum_by-append f (cache_rounds c) (depot_rounds d), parts f c, depot_parts f d)

pub swap_full_weigh : (c c' : CpuCacheState) (d d' : DepotState) → c.previous ≡ [] → SwapsForFull c d c' d' → WeighSame (cache_rounds c ++ depot_rounds d) (cache_rounds c' ++ depot_rounds d')
swap_full_weigh c c' d d' empty swaps f =
    let none : sum_by f c.previous ≡ 0 = ap (sum_by f) empty in
    let previous : sum_by f c'.previous ≡ sum_by f c.loaded = ap (λ c. sum_by f c.previous) swaps.cache in
    let full : sum_by f (all_rounds d.full) ≡ sum_by f (all_rounds d'.full) + sum_by f c'.loaded = ap (λ ms. sum_by f (all_rounds ms)) swaps.newest ∙ all_rounds-push f d'.full c'.loaded in
    let old : sum_by f (all_rounds d'.old_full) ≡ sum_by f (all_rounds d.old_full) = ap (λ d. sum_by f (all_rounds d.old_full)) swaps.depot in
    let draining : sum_by f d'.draining ≡ sum_by f d.draining = ap (λ d. sum_by f d.draining) swaps.depot in
    omega (arith, both f c d, both f c' d')

pub swap_empty_weigh : (c c' : CpuCacheState) (d d' : DepotState) → SwapsForEmpty c d c' d' → WeighSame (cache_rounds c ++ depot_rounds d) (cache_rounds c' ++ depot_rounds d')
swap_empty_weigh c c' d d' swaps f =
    let previous : sum_by f c'.previous ≡ sum_by f c.loaded = ap (λ c. sum_by f c.previous) swaps.cache in
    let loaded : sum_by f c'.loaded ≡ 0 = ap (λ c. sum_by f c.loaded) swaps.cache in
    let full : sum_by f (all_rounds d'.full) ≡ sum_by f (all_rounds d.full) + sum_by f c.previous = ap (λ d. sum_by f (all_rounds d.full)) swaps.depot ∙ all_rounds-push f d.full c.previous in
    let old : sum_by f (all_rounds d'.old_full) ≡ sum_by f (all_rounds d.old_full) = ap (λ d. sum_by f (all_rounds d.old_full)) swaps.depot in
    let draining : sum_by f d'.draining ≡ sum_by f d.draining = ap (λ d. sum_by f d.draining) swaps.depot in
    omega (arith, both f c d, both f c' d')

pub put_full_weigh : (m : MagazineState) (c c' : CpuCacheState) (d d' : DepotState) → PutsFull m c d c' d' → WeighSame (m.rounds ++ (cache_rounds c ++ depot_rounds d)) (cache_rounds c' ++ depot_rounds d')
put_full_weigh m c c' d d' puts f =
    let previous : sum_by f c'.previous ≡ sum_by f c.loaded = ap (λ c. sum_by f c.previous) puts.cache in
    let loaded : sum_by f c'.loaded ≡ sum_by f m.rounds = ap (λ c. sum_by f c.loaded) puts.cache in
    let full : sum_by f (all_rounds d'.full) ≡ sum_by f (all_rounds d.full) + sum_by f c.previous = ap (λ d. sum_by f (all_rounds d.full)) puts.depot ∙ all_rounds-push f d.full c.previous in
    let old : sum_by f (all_rounds d'.old_full) ≡ sum_by f (all_rounds d.old_full) = ap (λ d. sum_by f (all_rounds d.old_full)) puts.depot in
    let draining : sum_by f d'.draining ≡ sum_by f d.draining = ap (λ d. sum_by f d.draining) puts.depot in
    omega (arith, both f c d, both f c' d', sum_by-append f m.rounds (cache_rounds c ++ depot_rounds d))

pub resize_weigh : (m : ℕ) (d : DepotState) → WeighSame (depot_rounds d) (depot_rounds (after_resize m d))
resize_weigh m d f =
    let all = flat_map-append (λ (m : List Tag). m) d.old_full d.full in
    let parts : sum_by f (all_rounds (d.old_full ++ d.full)) ≡ sum_by f (all_rounds d.old_full) + sum_by f (all_rounds d.full) = ap (sum_by f) all ∙ sum_by-append f (all_rounds d.old_full) (all_rounds d.full) in
    omega (arith, depot_parts f d, depot_parts f (after_resize m d))

begins_weigh : (f : Tag → ℕ) (d d' : DepotState) → Begins d d' → sum_by f (depot_rounds d) ≡ sum_by f (depot_rounds d')
begins_weigh f d d' (inl goes_on) = sym (ap (λ d. sum_by f (depot_rounds d)) goes_on.1)
begins_weigh f d d' (inr (inl begins)) =
    let none : sum_by f d.draining ≡ 0 = ap (sum_by f) begins.drained in
    let oldest : sum_by f (all_rounds d.old_full) ≡ sum_by f d'.draining + sum_by f (all_rounds d'.old_full) = ap (λ ms. sum_by f (all_rounds ms)) begins.oldest ∙ sum_by-append f d'.draining (all_rounds d'.old_full) in
    let full : sum_by f (all_rounds d'.full) ≡ sum_by f (all_rounds d.full) = ap (λ d. sum_by f (all_rounds d.full)) begins.rest in
    omega (arith, depot_parts f d, depot_parts f d')
begins_weigh f d d' (inr (inr begins)) =
    let none : sum_by f d.draining ≡ 0 = ap (sum_by f) begins.drained in
    let oldest : sum_by f (all_rounds d.full) ≡ sum_by f d'.draining + sum_by f (all_rounds d'.full) = ap (λ ms. sum_by f (all_rounds ms)) begins.oldest ∙ sum_by-append f d'.draining (all_rounds d'.full) in
    let old : sum_by f (all_rounds d'.old_full) ≡ sum_by f (all_rounds d.old_full) = ap (λ d. sum_by f (all_rounds d.old_full)) begins.rest in
    omega (arith, depot_parts f d, depot_parts f d')

drains_weigh : (f : Tag → ℕ) (x : Tag) (d d' : DepotState) → Drains x d d' → sum_by f (depot_rounds d) ≡ sum_by f (depot_rounds d') + f x
drains_weigh f x d d' drains =
    let last : sum_by f d.draining ≡ sum_by f d'.draining + f x = ap (sum_by f) drains.last ∙ sum_by_push f d'.draining x in
    let full : sum_by f (all_rounds d'.full) ≡ sum_by f (all_rounds d.full) = ap (λ d. sum_by f (all_rounds d.full)) drains.rest in
    let old : sum_by f (all_rounds d'.old_full) ≡ sum_by f (all_rounds d.old_full) = ap (λ d. sum_by f (all_rounds d.old_full)) drains.rest in
    omega (arith, depot_parts f d, depot_parts f d')

pub reaps_weigh : (x : Tag) (d d' : DepotState) → ReapsRound x (after_trim d) d' → Loses (depot_rounds d) (depot_rounds d') x
reaps_weigh x d d' reaps f = begins_weigh f (after_trim d) reaps.0 reaps.1 ∙ drains_weigh f x reaps.0 d' reaps.2

-- what stands in a CPU's cache and its depot
stands : (f : Tag → ℕ) (s : CpuDepot) → sum_by f (rounds_of s) ≡ sum_by f (cache_rounds s.cpu) + sum_by f (depot_rounds s.depot)
stands f s = sum_by-append f (cache_rounds s.cpu) (depot_rounds s.depot)

room_weigh : (f : Tag → ℕ) (s s' : CpuDepot) (k : ℕ) → MakesRoom s s' k → sum_by f (rounds_of s) ≡ sum_by f (rounds_of s')
room_weigh f s s' k (By_empty swaps is) = swap_empty_weigh s.cpu s'.cpu s.depot s'.depot swaps f
room_weigh f s s' k (By_new none puts is) = put_full_weigh _ s.cpu s'.cpu s.depot s'.depot puts f
room_weigh f s s' k (By_change other change is) = sym (ap (λ s. sum_by f (rounds_of s)) change)

module _ {D : Type 0} where
  takes_weigh : (f : Tag → ℕ) (s s' : CpuDepot) (answer : RoundAnswer D) (k : ℕ) → TakesRound s s' answer k → sum_by f (rounds_of s) ≡ sum_by f (rounds_of s') + sum_by f (rounds_of_answer answer)
  takes_weigh f s s' answer k (Own_taken x pops depot is none) =
      let same : sum_by f (depot_rounds s'.depot) ≡ sum_by f (depot_rounds s.depot) = ap (λ d. sum_by f (depot_rounds d)) depot in
      let out : sum_by f (rounds_of_answer answer) ≡ f x = ap (λ a. sum_by f (rounds_of_answer a)) is ∙ one f x in
      omega (arith, stands f s, stands f s', pops_weigh x s.cpu s'.cpu pops f)
  takes_weigh f s s' answer k (Swapped x c empty swaps pops is one_made) =
      let out : sum_by f (rounds_of_answer answer) ≡ f x = ap (λ a. sum_by f (rounds_of_answer a)) is ∙ one f x in
      omega (arith, swap_full_weigh s.cpu c s.depot s'.depot empty.previous_empty swaps f, sum_by-append f (cache_rounds c) (depot_rounds s'.depot), stands f s', pops_weigh x c s'.cpu pops f)
  takes_weigh f s s' answer k (None_full empty sized none same is none_made) =
      let out : sum_by f (rounds_of_answer answer) ≡ 0 = ap (λ a. sum_by f (rounds_of_answer a)) is in
      let all : sum_by f (rounds_of s') ≡ sum_by f (rounds_of s) = ap (λ s. sum_by f (rounds_of s)) same in
      omega arith
  takes_weigh f s s' answer k (Old_size empty other (inl same) is none_made) =
      let out : sum_by f (rounds_of_answer answer) ≡ 0 = ap (λ a. sum_by f (rounds_of_answer a)) is in
      let all : sum_by f (rounds_of s') ≡ sum_by f (rounds_of s) = ap (λ s. sum_by f (rounds_of s)) same in
      omega arith
  takes_weigh f s s' answer k (Old_size empty other (inr change) is none_made) =
      let out : sum_by f (rounds_of_answer answer) ≡ 0 = ap (λ a. sum_by f (rounds_of_answer a)) is in
      let all : sum_by f (rounds_of s') ≡ sum_by f (rounds_of s) = ap (λ s. sum_by f (rounds_of s)) change in
      omega arith

  gives_weigh : (f : Tag → ℕ) (x : Tag) (s s' : CpuDepot) (answer : RoundAnswer D) (k : ℕ) → GivesRound x s s' answer k → sum_by f (rounds_of s) + f x ≡ sum_by f (rounds_of s') + sum_by f (rounds_of_answer answer)
  gives_weigh f x s s' answer k (Own_given pushes depot is none) =
      let out : sum_by f (rounds_of_answer answer) ≡ 0 = ap (λ a. sum_by f (rounds_of_answer a)) is in
      let same : sum_by f (depot_rounds s'.depot) ≡ sum_by f (depot_rounds s.depot) = ap (λ d. sum_by f (depot_rounds d)) depot in
      omega (arith, stands f s, stands f s', pushes_weigh x s.cpu s'.cpu pushes f)
  gives_weigh f x s s' answer k (Made made full room pushes depot is) =
      let out : sum_by f (rounds_of_answer answer) ≡ 0 = ap (λ a. sum_by f (rounds_of_answer a)) is in
      let same : sum_by f (depot_rounds s'.depot) ≡ sum_by f (depot_rounds made.depot) = ap (λ d. sum_by f (depot_rounds d)) depot in
      omega (arith, room_weigh f s made k room, stands f made, stands f s', pushes_weigh x made.cpu s'.cpu pushes f)
  gives_weigh f x s s' answer k (No_room full memory same is none) =
      let out : sum_by f (rounds_of_answer answer) ≡ f x = ap (λ a. sum_by f (rounds_of_answer a)) is ∙ one f x in
      let all : sum_by f (rounds_of s') ≡ sum_by f (rounds_of s) = ap (λ s. sum_by f (rounds_of s)) same in
      omega arith

  steps_weigh : (f : Tag → ℕ) (op : RoundOp D) (s s' : CpuDepot) (answer : RoundAnswer D) (k : ℕ) → StepsRound op s s' answer k → sum_by f (rounds_of s) + sum_by f (rounds_of_op op) ≡ sum_by f (rounds_of s') + sum_by f (rounds_of_answer answer)
  steps_weigh f (Give x) s s' answer k gives = omega (arith, gives_weigh f x s s' answer k gives, one f x)
  steps_weigh f Take s s' answer k takes = omega (arith, takes_weigh f s s' answer k takes)

  runs_weigh_by : (f : Tag → ℕ) (s s' : CpuDepot) (ops : List (RoundOp D)) (answers : List (RoundAnswer D)) (k : ℕ) → RunsRounds s ops answers s' k → sum_by f (rounds_of s) + sum_by f (flat_map rounds_of_op ops) ≡ sum_by f (rounds_of s') + sum_by f (flat_map rounds_of_answer answers)
  runs_weigh_by f s s' ops answers k Start = refl
  runs_weigh_by f s s' ops answers k (Then {ops = before} {answers = so_far} {mid = mid} {exchanges = n} op answer s'' more runs step) =
      omega (arith, runs_weigh_by f s mid before so_far n runs, steps_weigh f op mid s'' answer more step, parts-push f rounds_of_op before op, parts-push f rounds_of_answer so_far answer)

  -- rounds in are rounds out
  pub runs_weigh : (s s' : CpuDepot) (ops : List (RoundOp D)) (answers : List (RoundAnswer D)) (k : ℕ) → RunsRounds s ops answers s' k → WeighSame (rounds_of s ++ flat_map rounds_of_op ops) (rounds_of s' ++ flat_map rounds_of_answer answers)
  runs_weigh s s' ops answers k runs f = omega (arith, runs_weigh_by f s s' ops answers k runs, sum_by-append f (rounds_of s) (flat_map rounds_of_op ops), sum_by-append f (rounds_of s') (flat_map rounds_of_answer answers))

-- the first rounds of magazines, and those of one magazine more
pub all_rounds-more : (f : Tag → ℕ) (ms : List (List Tag)) (i : ℕ) (m : List Tag) → i < length ms → m ≡ get_or ms i m → sum_by f (all_rounds (take (i + 1) ms)) ≡ sum_by f (all_rounds (take i ms)) + sum_by f m
all_rounds-more f ms i m within is = ap (λ ms. sum_by f (all_rounds ms)) (take_more ms i m within) ∙ all_rounds-push f (take i ms) (get_or ms i m) ∙ ap (λ x. sum_by f (all_rounds (take i ms)) + sum_by f x) (sym is)

-- a sum that stops at the greatest number
pub capped : (most total all part next sum : ℕ) → total ≡ min all most → sum ≡ all + part → next ≡ min (total + part) most → next ≡ min sum most
capped most total all part next sum so_far more last = omega arith
