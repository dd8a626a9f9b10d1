-- One of a CPU's caches changed: what that leaves of all its rounds, of its indexes and of the accounts.
use Rattle.std.proofs.Common.{◌≡◌, ℕ, ◌+◌, refl, ap, ◌∙◌, List, [], ◌∷◌, ◌++◌, map, length, set, Option, Some, arith}
use Rattle.std.specs.Prelude.{slice_get, sum_by}
use Rattle.std.specs.Option.{option_to_list}
use Rattle.std.proofs.lemmas.List.Sums.{sum_by-append, sum_by-cons}
use Rattle.deed_core.specs.Tag.{Tag}
use Rattle.deed_core.specs.Weights.{Gains, Loses, WeighSame}
use Rattle.deed_core.proofs.LawProofs.{slice_get_one, map_set_same, set_same, sum_set, sum_by-flat_map}
use Rattle.stock.specs.Spaces.{SpaceState}
use Rattle.stock.specs.Accounts.{Accounts, Frames}
use Rattle.stock.specs.OwnCaches.{OwnCacheState, IsAtIndexesOf, own_rounds, all_own_rounds}
use Rattle.stock.proofs.LawProofs.{out_weighs}
use Rattle.local_parts.specs.Cpus.{IsOwnAt, OnOwn, own_index, own_indexes, cpu_rounds}
use Rattle.local_parts.specs.States.{Conserves}

pub own_does : (k j : ℕ) (P Q : OwnCacheState → OwnCacheState → Type 0) (old new : List (List OwnCacheState)) → ((o o' : OwnCacheState) → P o o' → Q o o') → OnOwn k j P old new → OnOwn k j Q old new
own_does k j P Q old new so on = record { row = on.row; at = on.at; own = on.own; among = on.among; changed = on.changed; after = on.after; does = so on.own on.changed on.does }

pub count_sum : {X : Type 0} (xs : List X) → length xs ≡ sum_by (λ x. 1) xs
count_sum [] = refl
count_sum (x ∷ xs) = omega (arith, count_sum xs, sum_by-cons (λ y. 1) x xs)

-- a cache without a round
abbrev emptied : OwnCacheState → OwnCacheState
emptied o = record { arena = o.arena; cache = o.cache; quantum = o.quantum; cpu = record { size = o.cpu.size; loaded = []; previous = [] } }

-- one cache of a row of a CPU written over
sums_set : (f : Tag → ℕ) (cpu : List (List OwnCacheState)) (k j : ℕ) (row : List OwnCacheState) (o x : OwnCacheState) → slice_get cpu k ≡ Some row → slice_get row j ≡ Some o
    → sum_by f (cpu_rounds (set cpu k (set row j x))) + sum_by f (own_rounds o) ≡ sum_by f (cpu_rounds cpu) + sum_by f (own_rounds x)
sums_set f cpu k j row o x at among = omega (
  arith,
  sum_by-flat_map f all_own_rounds (set cpu k (set row j x)),
  sum_by-flat_map f all_own_rounds cpu,
  sum_by-flat_map f own_rounds (set row j x),
  sum_by-flat_map f own_rounds row,
  sum_set (λ r. sum_by f (all_own_rounds r)) cpu k row (set row j x) at,
  sum_set (λ y. sum_by f (own_rounds y)) row j o x among,
)

module _ (k j : ℕ) (P : OwnCacheState → OwnCacheState → Type 0) (old new : List (List OwnCacheState)) (on : OnOwn k j P old new) where
  pub own_sums : (f : Tag → ℕ) → sum_by f (cpu_rounds new) + sum_by f (own_rounds on.own) ≡ sum_by f (cpu_rounds old) + sum_by f (own_rounds on.changed)
  own_sums f = omega (arith, ap (λ xs. sum_by f (cpu_rounds xs)) on.after, sums_set f old k j on.row on.own on.changed on.at on.among)

  pub same_indexes : IsAtIndexesOf on.own on.changed → own_indexes new ≡ own_indexes old
  same_indexes p = ap own_indexes on.after ∙ map_set_same (map own_index) old k on.row (set on.row j on.changed) on.at
      (map_set_same own_index on.row j on.own on.changed on.among (λ i. record { arena = p.arena i; cache = p.cache i; quantum = p.quantum i }))

  pub same_cpu : on.changed ≡ on.own → new ≡ old
  same_cpu e = on.after ∙ ap (λ x. set old k (set on.row j x)) e ∙ ap (set old k) (set_same on.row j on.own on.among) ∙ set_same old k on.row on.at

  -- the cache is the one that stands there
  pub own_is : (o : OwnCacheState) → IsOwnAt old k j o → on.own ≡ o
  own_is o at =
      let row : on.row ≡ at.row = slice_get_one old k on.row at.row on.at at.at in
      slice_get_one on.row j on.own o on.among (ap (λ xs. slice_get xs j) row ∙ at.among)

  pub loses : (t : Tag) → Loses (own_rounds on.own) (own_rounds on.changed) t → Loses (cpu_rounds old) (cpu_rounds new) t
  loses t less f = omega (arith, own_sums f, less f)

  pub gains : (t : Tag) → Gains (own_rounds on.own) (own_rounds on.changed) t → Gains (cpu_rounds old) (cpu_rounds new) t
  gains t more f = omega (arith, own_sums f, more f)

  pub weigh_same : WeighSame (own_rounds on.own) (own_rounds on.changed) → WeighSame (cpu_rounds old) (cpu_rounds new)
  weigh_same same f = omega (arith, own_sums f, same f)

  -- an exchange with a depot keeps the accounts, whatever the hand holds
  pub exchange_conserves : (spaces spaces' : List SpaceState) → Frames spaces (own_rounds on.own) spaces' (own_rounds on.changed) → (hand : Option Tag)
      → Conserves (record { spaces = spaces; cpu = old }) hand (record { spaces = spaces'; cpu = new }) hand
  exchange_conserves spaces spaces' frame hand rest a =
      let rests : List Tag = option_to_list hand ++ (cpu_rounds (set old k (set on.row j (emptied on.own))) ++ rest) in
      let none : (f : Tag → ℕ) → sum_by f (cpu_rounds (set old k (set on.row j (emptied on.own)))) + sum_by f (own_rounds on.own) ≡ sum_by f (cpu_rounds old) + 0
      = λ f. sums_set f old k j on.row on.own (emptied on.own) on.at on.among in
      let before : Accounts spaces (own_rounds on.own ++ rests) = out_weighs spaces ((option_to_list hand ++ cpu_rounds old) ++ rest) (own_rounds on.own ++ rests)
      (λ f. omega (
        arith,
        none f,
        sum_by-append f (option_to_list hand ++ cpu_rounds old) rest,
        sum_by-append f (option_to_list hand) (cpu_rounds old),
        sum_by-append f (own_rounds on.own) rests,
        sum_by-append f (option_to_list hand) (cpu_rounds (set old k (set on.row j (emptied on.own))) ++ rest),
        sum_by-append f (cpu_rounds (set old k (set on.row j (emptied on.own)))) rest,
      )) a in
      out_weighs spaces' (own_rounds on.changed ++ rests) ((option_to_list hand ++ cpu_rounds new) ++ rest)
      (λ f. omega (
        arith,
        none f,
        own_sums f,
        sum_by-append f (option_to_list hand ++ cpu_rounds new) rest,
        sum_by-append f (option_to_list hand) (cpu_rounds new),
        sum_by-append f (own_rounds on.changed) rests,
        sum_by-append f (option_to_list hand) (cpu_rounds (set old k (set on.row j (emptied on.own))) ++ rest),
        sum_by-append f (cpu_rounds (set old k (set on.row j (emptied on.own)))) rest,
      )) (frame rests before)

-- the hand and the CPU's rounds weigh the same
pub own_conserves : (spaces : List SpaceState) (old new : List (List OwnCacheState)) (hand left : Option Tag)
    → ((f : Tag → ℕ) → sum_by f (option_to_list hand) + sum_by f (cpu_rounds old) ≡ sum_by f (option_to_list left) + sum_by f (cpu_rounds new))
    → Conserves (record { spaces = spaces; cpu = old }) hand (record { spaces = spaces; cpu = new }) left
own_conserves spaces old new hand left same rest a = out_weighs spaces ((option_to_list hand ++ cpu_rounds old) ++ rest) ((option_to_list left ++ cpu_rounds new) ++ rest)
    (λ f. omega (
      arith,
      same f,
      sum_by-append f (option_to_list hand ++ cpu_rounds old) rest,
      sum_by-append f (option_to_list hand) (cpu_rounds old),
      sum_by-append f (option_to_list left ++ cpu_rounds new) rest,
      sum_by-append f (option_to_list left) (cpu_rounds new),
    )) a
