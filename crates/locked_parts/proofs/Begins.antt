-- Where a CPU's magazines for a quantum cache stand.
use Rattle.std.proofs.Common.{◌≡◌, ◌∙◌, ℕ, zero, suc, ◌+◌, ◌-◌, ◌*◌, ◌<◌, ◌≤◌, List, [], ◌∷◌, ◌++◌, map, length, slice_index_or, Option, Some, None, inl, inr, refl, ap, sym, subst, arith}
use Rattle.std.specs.Prelude.{slice_get}
use Rattle.std.proofs.lemmas.List.{length-append}
use Rattle.std.proofs.lemmas.Bool.{cases_eq}
use Rattle.deed_core.proofs.LawProofs.{mapped}
use Rattle.arena_tree.specs.Chains.{quantum_in}
use Rattle.arena_tree.specs.Trees.{nodes_of}
use Rattle.arena_tree.specs.declared.trees.TreeArena.{TreeArena}
use Rattle.locked_parts.specs.Kinds.{OwnCacheState, IsCacheOf, caches_if, count_of_caches, kinds_up_to, kinds_of_first, kinds_of, caches_before}
use Rattle.std.specs.List.{remove}
use Rattle.locked_parts.specs.News.{NewCacheState}
use Rattle.locked_parts.specs.declared.kinds.CacheKind.{CacheKind}

-- a quantum cache by its numbers
abbrev cache : (arena number quantum : ℕ) → CacheKind
cache arena number quantum = record { arena = arena; number = number; quantum = quantum }

pub up_to_length : (arena quantum n : ℕ) → length (kinds_up_to arena quantum n) ≡ n
up_to_length arena quantum zero = refl
up_to_length arena quantum (suc n) =
    omega (arith, length-append (kinds_up_to arena quantum n) (cache arena (suc n) quantum ∷ []), up_to_length arena quantum n)

-- the arenas before the next one have its caches too
before_next : (arenas : List TreeArena) (id : ℕ) → caches_before arenas (suc id) ≡ caches_before arenas id + count_of_caches arenas id
before_next arenas id =
    let quantum = quantum_in (nodes_of arenas) id in
    length-append (kinds_of_first arenas id) (kinds_up_to id quantum (count_of_caches arenas id)) ∙ ap (λ n. caches_before arenas id + n) (up_to_length id quantum (count_of_caches arenas id))

pub before_more : (arenas : List TreeArena) (id : ℕ) → caches_before arenas (id + 1) ≡ caches_before arenas id + count_of_caches arenas id
before_more arenas id = (let next : id + 1 ≡ suc id = omega arith in ap (caches_before arenas) next ∙ before_next arenas id)

few : (o : Option TreeArena) → caches_if o ≤ 255
few None = omega arith
few (Some x) = omega arith

pub few_before : (arenas : List TreeArena) (id : ℕ) → caches_before arenas id ≤ 255 * id
few_before arenas zero = omega arith
few_before arenas (suc id) = omega (arith, before_next arenas id, few_before arenas id, few (slice_get arenas id))

module _ {X : Type 0} where
  pub at_first : (xs ys : List X) (k : ℕ) (x : X) → slice_get xs k ≡ Some x → slice_get (xs ++ ys) k ≡ Some x
  at_first [] ys k x at = absurd (let e : None ≡ Some x = at in cc)
  at_first (z ∷ xs) ys zero x at = at
  at_first (z ∷ xs) ys (suc k) x at = at_first xs ys k x at

  pub at_second : (xs ys : List X) (n : ℕ) → slice_get (xs ++ ys) (length xs + n) ≡ slice_get ys n
  at_second [] ys n = (let e : length {A = X} [] + n ≡ n = omega arith in ap (slice_get ys) e)
  at_second (z ∷ xs) ys n = (let e : length (z ∷ xs) + n ≡ suc (length xs + n) = omega arith in ap (slice_get (z ∷ (xs ++ ys))) e ∙ at_second xs ys n)

pub up_to_at : (arena quantum count n : ℕ) → n < count → slice_get (kinds_up_to arena quantum count) n ≡ Some (cache arena (n + 1) quantum)
up_to_at arena quantum zero n within = absurd (omega (arith, within))
up_to_at arena quantum (suc count) n within =
    let lesser = kinds_up_to arena quantum count in
    let last = cache arena (suc count) quantum in
    elim (cases_eq n count) [
      | inl e ↦
          let here : n ≡ length lesser + 0 = omega (arith, e, up_to_length arena quantum count) in
          let next : suc count ≡ n + 1 = omega (arith, e) in
          ap (slice_get (lesser ++ last ∷ [])) here ∙ at_second lesser (last ∷ []) 0 ∙ ap (λ m. Some (cache arena m quantum)) next
      | inr ne ↦ at_first lesser (last ∷ []) n (cache arena (n + 1) quantum) (up_to_at arena quantum count n (omega (arith, within, ne)))
    ]

of_first_at : (arenas : List TreeArena) (id n m : ℕ) → id < m → n < count_of_caches arenas id → slice_get (kinds_of_first arenas m) (caches_before arenas id + n) ≡ Some (cache id (n + 1) (quantum_in (nodes_of arenas) id))
of_first_at arenas id n zero within some = absurd (omega (arith, within))
of_first_at arenas id n (suc m) within some =
    let quantum = quantum_in (nodes_of arenas) id in
    let kind = cache id (n + 1) quantum in
    elim (cases_eq id m) [
      | inl e ↦
          subst (λ z. slice_get (kinds_of_first arenas (suc z)) (caches_before arenas id + n) ≡ Some kind) e
          (at_second (kinds_of_first arenas id) (kinds_up_to id quantum (count_of_caches arenas id)) n ∙ up_to_at id quantum (count_of_caches arenas id) n some)
      | inr ne ↦ at_first (kinds_of_first arenas m) (kinds_up_to m (quantum_in (nodes_of arenas) m) (count_of_caches arenas m)) (caches_before arenas id + n) kind (of_first_at arenas id n m (omega (arith, within, ne)) some)
    ]

-- where the magazines are for all caches in order, those for this one stand there
own_there : (arenas : List TreeArena) (kinds : List CacheKind) (k : CacheKind) (index : ℕ) → kinds ≡ kinds_of arenas → IsCacheOf arenas k → index + 1 ≡ caches_before arenas k.arena + k.number → slice_get kinds index ≡ Some k
own_there arenas kinds k index all is at =
    let n = k.number - 1 in
    let number : n + 1 ≡ k.number = omega (arith, is.some) in
    let there : index ≡ caches_before arenas k.arena + n = omega (arith, at, number) in
    ap (λ l. slice_get l index) all ∙ ap (slice_get (kinds_of arenas)) there
    ∙ of_first_at arenas k.arena n (length arenas) is.within (omega (arith, is.most, number))
    ∙ ap (λ m. Some (cache k.arena m (quantum_in (nodes_of arenas) k.arena))) number
    ∙ ap (λ q. Some (cache k.arena k.number q)) is.quantum

pub own_found : (arenas : List TreeArena) (caches : List OwnCacheState) (k : CacheKind) (index : ℕ) → map (λ (r : OwnCacheState). r.kind) caches ≡ kinds_of arenas → IsCacheOf arenas k → index + 1 ≡ caches_before arenas k.arena + k.number
    → (o : OwnCacheState) × (slice_get caches index ≡ Some o) × (k ≡ o.kind)
own_found arenas caches k index all is at =
    mapped (λ (r : OwnCacheState). r.kind) caches index k (own_there arenas (map (λ (r : OwnCacheState). r.kind) caches) k index all is at)

-- the first one is locked
pub first_kind : (caches : List NewCacheState) (x : NewCacheState) → 0 < length caches → x ≡ slice_index_or caches 0 x → map (λ c. c.kind) caches ≡ x.kind ∷ map (λ c. c.kind) (remove caches 0)
first_kind [] x some is = absurd (omega (arith, some))
first_kind (y ∷ ys) x some is = ap (λ (z : NewCacheState). z.kind ∷ map (λ c. c.kind) ys) (sym is)
