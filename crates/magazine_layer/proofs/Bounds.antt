-- How many exchanges a run makes: between two of them lie as many operations as a magazine has rounds.
use Rattle.std.proofs.Common.{◌≡◌, ℕ, ◌+◌, ◌-◌, ◌*◌, ◌/◌, ◌<◌, ◌≤◌, ◌⊎◌, zero, suc, List, [], ◌∷◌, length, inl, inr, arith, refl, ap, ◌∙◌, length-append}
use Rattle.std.proofs.Math.Nat.{le-div_iff_mul-le}
use Rattle.deed_core.specs.Tag.{Tag}
use Rattle.magazine_layer.specs.Magazines.{CpuCacheState, IsShaped, BothFull, Pops, Of_loaded, Of_previous, Pushes, On_loaded, On_previous, cache_rounds}
use Rattle.magazine_layer.specs.Rounds.{CpuDepot, TakesRound, Own_taken, Swapped, None_full, Old_size, MakesRoom, By_empty, By_new, By_change, GivesRound, Own_given, Made, No_room, StepsRound, RunsRounds, Start, Then}
use Rattle.magazine_layer.specs.declared.rounds.RoundOp.{RoundOp}
use Rattle.magazine_layer.specs.declared.rounds.RoundOp.TheVariants.{Give, Take}
use Rattle.magazine_layer.specs.declared.rounds.RoundAnswer.{RoundAnswer}

-- how many rounds a cache has
abbrev count : CpuCacheState → ℕ
count c = length (cache_rounds c)

parts : (c : CpuCacheState) → length (cache_rounds c) ≡ length c.previous + length c.loaded
parts c = length-append c.previous c.loaded

pops_count : (x : Tag) (c c' : CpuCacheState) → Pops x c c' → length (cache_rounds c) ≡ length (cache_rounds c') + 1
pops_count x c c' (Of_loaded last after) =
    let loaded : length c.loaded ≡ length c'.loaded + 1 = ap length last ∙ length-append c'.loaded (x ∷ []) in
    let previous : length c'.previous ≡ length c.previous = ap (λ c. length c.previous) after in
    omega (arith, parts c, parts c')
pops_count x c c' (Of_previous none last after) =
    let loaded : length c.loaded ≡ 0 = ap length none in
    let previous : length c.previous ≡ length c'.loaded + 1 = ap length last ∙ length-append c'.loaded (x ∷ []) in
    let previous' : length c'.previous ≡ 0 = ap (λ c. length c.previous) after in
    omega (arith, parts c, parts c')

pushes_count : (x : Tag) (c c' : CpuCacheState) → Pushes x c c' → length (cache_rounds c') ≡ length (cache_rounds c) + 1
pushes_count x c c' (On_loaded room after) =
    let loaded : length c'.loaded ≡ length c.loaded + 1 = ap (λ c. length c.loaded) after ∙ length-append c.loaded (x ∷ []) in
    let previous : length c'.previous ≡ length c.previous = ap (λ c. length c.previous) after in
    omega (arith, parts c, parts c')
pushes_count x c c' (On_previous full none after) =
    let loaded : length c'.loaded ≡ 1 = ap (λ c. length c.loaded) after in
    let previous : length c'.previous ≡ length c.loaded = ap (λ c. length c.previous) after in
    let previous' : length c.previous ≡ 0 = ap length none in
    omega (arith, parts c, parts c')

-- how far a cache is from one magazine's rounds
abbrev away : ℕ → CpuCacheState → ℕ
away m c = (length (cache_rounds c) - m) + (m - length (cache_rounds c))

-- an exchange takes a cache from the farthest, none or all of two magazines, to one round beside the nearest; any
-- other step takes it one round farther at most
record Bounded (s s' : CpuDepot) (k : ℕ) : Type 0 where
  few : s.depot.size * k + away s.depot.size s'.cpu ≤ 1 + away s.depot.size s.cpu
  size : s'.depot.size ≡ s.depot.size

bounded : (s s' : CpuDepot) (k : ℕ) → (k ≡ 0) × (length (cache_rounds s'.cpu) ≤ length (cache_rounds s.cpu) + 1) × (length (cache_rounds s.cpu) ≤ length (cache_rounds s'.cpu) + 1)
    ⊎ (k ≡ 1) × (s.depot.size + away s.depot.size s'.cpu ≤ 1 + away s.depot.size s.cpu)
    → s'.depot.size ≡ s.depot.size → Bounded s s' k
bounded s s' k (inl (none, most, least)) same = record { few = rw none (omega arith); size = same }
bounded s s' k (inr (one, near)) same = record { few = rw one (omega arith); size = same }

module _ {D : Type 0} where
  takes_bound : (s s' : CpuDepot) (answer : RoundAnswer D) (k : ℕ) → TakesRound s s' answer k → Bounded s s' k
  takes_bound s s' answer k (Own_taken x pops depot is none) =
      let one : length (cache_rounds s.cpu) ≡ length (cache_rounds s'.cpu) + 1 = pops_count x s.cpu s'.cpu pops in
      bounded s s' k (inl (none, omega arith, omega arith)) (ap (λ d. d.size) depot)
  takes_bound s s' answer k (Swapped x c empty swaps pops is made) =
      let one : length (cache_rounds c) ≡ length (cache_rounds s'.cpu) + 1 = pops_count x c s'.cpu pops in
      let out : length s.cpu.loaded ≡ 0 = ap length empty.loaded_empty in
      let out' : length s.cpu.previous ≡ 0 = ap length empty.previous_empty in
      let none : length c.previous ≡ 0 = ap (λ c. length c.previous) swaps.cache ∙ out in
      let near : s.depot.size + away s.depot.size s'.cpu ≤ 1 + away s.depot.size s.cpu = omega (arith, parts c, parts s.cpu, swaps.whole, swaps.sized) in
      bounded s s' k (inr (made, near)) (ap (λ d. d.size) swaps.depot)
  takes_bound s s' answer k (None_full empty sized none same is none_made) =
      let all : length (cache_rounds s'.cpu) ≡ length (cache_rounds s.cpu) = ap (λ s. length (cache_rounds s.cpu)) same in
      bounded s s' k (inl (none_made, omega arith, omega arith)) (ap (λ s. s.depot.size) same)
  takes_bound s s' answer k (Old_size empty other (inl same) is none_made) =
      let all : length (cache_rounds s'.cpu) ≡ length (cache_rounds s.cpu) = ap (λ s. length (cache_rounds s.cpu)) same in
      bounded s s' k (inl (none_made, omega arith, omega arith)) (ap (λ s. s.depot.size) same)
  takes_bound s s' answer k (Old_size empty other (inr change) is none_made) =
      let all : length (cache_rounds s'.cpu) ≡ length (cache_rounds s.cpu) = ap (λ s. length (cache_rounds s.cpu)) change in
      bounded s s' k (inl (none_made, omega arith, omega arith)) (ap (λ s. s.depot.size) change)

-- room made at two full magazines leaves one, or changes over
room_bound : (s s' : CpuDepot) (k : ℕ) → BothFull s.cpu → MakesRoom s s' k
    → ((k ≡ 1) × (length (cache_rounds s'.cpu) ≡ s.depot.size) × (length (cache_rounds s.cpu) ≡ s.depot.size + s.depot.size) ⊎ (k ≡ 0) × (length (cache_rounds s'.cpu) ≡ length (cache_rounds s.cpu))) × (s'.depot.size ≡ s.depot.size)
room_bound s s' k full (By_empty swaps is) =
    let previous : length s'.cpu.previous ≡ length s.cpu.loaded = ap (λ c. length c.previous) swaps.cache in
    let loaded : length s'.cpu.loaded ≡ 0 = ap (λ c. length c.loaded) swaps.cache in
    (inl (is, omega (arith, parts s'.cpu, full.loaded_full, swaps.sized), omega (arith, parts s.cpu, full.loaded_full, full.previous_full, swaps.sized)), ap (λ d. d.size) swaps.depot)
room_bound s s' k full (By_new none puts is) =
    let previous : length s'.cpu.previous ≡ length s.cpu.loaded = ap (λ c. length c.previous) puts.cache in
    let loaded : length s'.cpu.loaded ≡ 0 = ap (λ c. length c.loaded) puts.cache in
    (inl (is, omega (arith, parts s'.cpu, full.loaded_full, puts.sized.0), omega (arith, parts s.cpu, full.loaded_full, full.previous_full, puts.sized.0)), ap (λ d. d.size) puts.depot)
room_bound s s' k full (By_change other change is) = (inr (is, ap (λ s. length (cache_rounds s.cpu)) change), ap (λ s. s.depot.size) change)

one_less : (m k n : ℕ) → m * k ≤ n + m → (k - 1) * m ≤ n
one_less m zero n most = omega arith
one_less m (suc k) n most = let e : suc k - 1 ≡ k = omega arith in rw e (omega arith)

module _ {D : Type 0} where
  gives_bound : (x : Tag) (s s' : CpuDepot) (answer : RoundAnswer D) (k : ℕ) → GivesRound x s s' answer k → Bounded s s' k
  gives_bound x s s' answer k (Own_given pushes depot is none) =
      let one : length (cache_rounds s'.cpu) ≡ length (cache_rounds s.cpu) + 1 = pushes_count x s.cpu s'.cpu pushes in
      bounded s s' k (inl (none, omega arith, omega arith)) (ap (λ d. d.size) depot)
  gives_bound x s s' answer k (Made made full room pushes depot is) =
      let one : length (cache_rounds s'.cpu) ≡ length (cache_rounds made.cpu) + 1 = pushes_count x made.cpu s'.cpu pushes in
      let made_room = room_bound s made k full room in
      bounded s s' k
      (elim made_room.0 as (λ _. (k ≡ 0) × (length (cache_rounds s'.cpu) ≤ length (cache_rounds s.cpu) + 1) × (length (cache_rounds s.cpu) ≤ length (cache_rounds s'.cpu) + 1) ⊎ (k ≡ 1) × (s.depot.size + away s.depot.size s'.cpu ≤ 1 + away s.depot.size s.cpu))
      [ inl (made_one, whole, two) ↦ inr (made_one, omega arith) | inr (made_none, same) ↦ inl (made_none, omega arith, omega arith) ])
      (ap (λ d. d.size) depot ∙ made_room.1)
  gives_bound x s s' answer k (No_room full memory same is none) =
      let all : length (cache_rounds s'.cpu) ≡ length (cache_rounds s.cpu) = ap (λ s. length (cache_rounds s.cpu)) same in
      bounded s s' k (inl (none, omega arith, omega arith)) (ap (λ s. s.depot.size) same)

  steps_bound : (op : RoundOp D) (s s' : CpuDepot) (answer : RoundAnswer D) (k : ℕ) → StepsRound op s s' answer k → Bounded s s' k
  steps_bound (Give x) s s' answer k gives = gives_bound x s s' answer k gives
  steps_bound Take s s' answer k takes = takes_bound s s' answer k takes

  runs_bound : (s s' : CpuDepot) (ops : List (RoundOp D)) (answers : List (RoundAnswer D)) (k : ℕ) → RunsRounds s ops answers s' k
      → (s.depot.size * k + away s.depot.size s'.cpu ≤ length ops + away s.depot.size s.cpu) × (s'.depot.size ≡ s.depot.size)
  runs_bound s s' ops answers k Start = (omega arith, refl)
  runs_bound s s' ops answers k (Then {ops = before} {answers = so_far} {mid = mid} {exchanges = n} op answer s'' more runs step) =
      let so_few = runs_bound s mid before so_far n runs in
      let next = steps_bound op mid s'' answer more step in
      let next_few : s.depot.size * more + away s.depot.size s''.cpu ≤ 1 + away s.depot.size mid.cpu = rw so_few.1 at next.few in
      (omega (arith, so_few.0, next_few, length-append before (op ∷ [])), next.size ∙ so_few.1)

  -- n operations make at most 1 + n / M exchanges
  pub runs_few : (s s' : CpuDepot) (ops : List (RoundOp D)) (answers : List (RoundAnswer D)) (k : ℕ) → IsShaped s.cpu → s.cpu.size ≤ s.depot.size → 0 < s.depot.size → RunsRounds s ops answers s' k → k ≤ 1 + length ops / s.depot.size
  runs_few s s' ops answers k shape most some runs =
      let bound : s.depot.size * k + away s.depot.size s'.cpu ≤ length ops + away s.depot.size s.cpu = (runs_bound s s' ops answers k runs).0 in
      let two : length (cache_rounds s.cpu) ≤ s.depot.size + s.depot.size = grind (arith, parts, shape.most, shape.whole) in
      let product : (k - 1) * s.depot.size ≤ length ops = one_less s.depot.size k (length ops) (omega arith) in
      let quotient : k - 1 ≤ length ops / s.depot.size = (le-div_iff_mul-le some).1 product in
      omega arith
