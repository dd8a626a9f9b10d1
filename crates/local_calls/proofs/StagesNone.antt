-- What the stages of an allocation that give nothing have found.
use Rattle.std.proofs.Common.{◌≡◌, ℕ, ◌+◌, ◌<◌, List, [], ◌∷◌, ◌++◌, Some, None, Result, Ok, Err, All, length, set, suc, zero, inl, inr, refl, sym, ap, subst, ◌∙◌, arith}
use Rattle.std.specs.Prelude.{slice_get, flat_map}
use Rattle.std.proofs.lemmas.Option.{slice_get_within}
use Rattle.deed_core.proofs.LawProofs.{slice_get_one, slice_get-set, set_same}
use Rattle.slab_layer.specs.Calls.{TakeOf}
use Rattle.slab_layer.specs.Slab.{IsAllOut}
use Rattle.magazine_layer.specs.Calls.{PopOf, SwapFullOf}
use Rattle.magazine_layer.specs.Depots.{IsDepot, SwapsForFull}
use Rattle.magazine_layer.specs.Magazines.{CpuCacheState, BothEmpty, IsSize}
use Rattle.magazine_layer.specs.declared.faults.FullFault.{FullFault}
use Rattle.arena_tree.specs.declared.part_faults.PartFault.{PartFault}
use Rattle.arena_tree.specs.declared.part_faults.ChangeFault.{ChangeFault}
use Rattle.arena_tree.specs.declared.part_faults.PartFault.TheVariants as asking
use Rattle.stock.specs.OwnCaches.{OwnCacheState, IsAtIndexesOf, own_rounds, all_own_rounds}
use Rattle.stock.specs.Spaces.{SpaceState, QuantumCacheState, IsCacheAt, with_cache, with_slab, plans_of}
use Rattle.stock.specs.Stocks.{IsStock}
use Rattle.stock.proofs.LawProofs.{plans_stay, caches_stay}
use Rattle.local_parts.specs.Cpus.{OnOwn, IsOwnAt, cpu_rounds}
use Rattle.local_parts.specs.OwnSteps.{DoesPop, DoesChange, OnExchange, SwapsFull}
use Rattle.local_parts.specs.SharedSteps.{DoesTake}
use Rattle.local_parts.specs.States.{LocalState, IsReached, IsUnchanged}
use Rattle.arena_tree.specs.Tags.{wording_of}

-- the CPU's magazines have no round of the cache
abbrev pub HasNoRoundOf : LocalState → ℕ → ℕ → Type 0
HasNoRoundOf s arena cache = (j : ℕ) (o : OwnCacheState) → cache ≡ j + 1 → IsReached s arena j o → BothEmpty o.cpu

-- where the CPU's magazines are of the depot's size, the depot has no full one
abbrev pub HasNoFullOf : LocalState → ℕ → ℕ → Type 0
HasNoFullOf s arena cache = (j : ℕ) (o : OwnCacheState) (c : QuantumCacheState) → cache ≡ j + 1 → IsReached s arena j o → IsCacheAt s.spaces arena j c → o.cpu.size ≡ c.depot.size → c.depot.full ≡ []

-- each chunk of the slabs is out
abbrev pub HasNoChunkOf : List SpaceState → ℕ → ℕ → Type 0
HasNoChunkOf spaces arena cache = (j : ℕ) (c : QuantumCacheState) → cache ≡ j + 1 → IsCacheAt spaces arena j c → All IsAllOut c.slab.slabs

-- the caches of a CPU, of which one is written over by one with the same rounds
flat_set_same : {X Y : Type 0} (f : X → List Y) (xs : List X) (i : ℕ) (x y : X) → slice_get xs i ≡ Some x → f y ≡ f x → flat_map f (set xs i y) ≡ flat_map f xs
flat_set_same f [] i x y at same = refl
flat_set_same f (z ∷ xs) zero x y at same = let e : Some z ≡ Some x = at in let is : z ≡ x = cc in ap (λ w. w ++ flat_map f xs) (same ∙ ap f (sym is))
flat_set_same f (z ∷ xs) (suc i) x y at same = ap (λ w. f z ++ w) (flat_set_same f xs i x y at same)

module _ (k j : ℕ) (P : OwnCacheState → OwnCacheState → Type 0) (old new : List (List OwnCacheState)) (on : OnOwn k j P old new) where
  -- the cache is the one that stands there
  pub own_is : (o : OwnCacheState) → IsOwnAt old k j o → on.own ≡ o
  own_is o at =
      let row : on.row ≡ at.row = slice_get_one old k on.row at.row on.at at.at in
      slice_get_one on.row j on.own o on.among (ap (λ xs. slice_get xs j) row ∙ at.among)

  pub own_same : IsAtIndexesOf on.own on.changed → on.changed.cpu ≡ on.own.cpu → new ≡ old
  own_same p cpu =
      let e : on.changed ≡ on.own = λ i. record { arena = p.arena i; cache = p.cache i; quantum = p.quantum i; cpu = cpu i } in
      on.after ∙ ap (λ x. set old k (set on.row j x)) e ∙ ap (set old k) (set_same on.row j on.own on.among) ∙ set_same old k on.row on.at

  pub own_rounds_same : own_rounds on.changed ≡ own_rounds on.own → cpu_rounds new ≡ cpu_rounds old
  own_rounds_same same = ap cpu_rounds on.after ∙ flat_set_same all_own_rounds old k on.row (set on.row j on.changed) on.at (flat_set_same own_rounds on.row j on.own on.changed on.among same)

  -- where it stands then
  pub changed_at : slice_get new k ≡ Some (set on.row j on.changed)
  changed_at = ap (λ xs. slice_get xs k) on.after ∙ slice_get-set old k (set on.row j on.changed) (slice_get_within old k on.row on.at)

  pub changed_among : slice_get (set on.row j on.changed) j ≡ Some on.changed
  changed_among = slice_get-set on.row j on.changed (slice_get_within on.row j on.own on.among)

-- a number's index is one
pub one_index : (c j i : ℕ) → c ≡ j + 1 → c ≡ i + 1 → j ≡ i
one_index c j i a b = omega (arith, a, b)

-- two caches at one index are one
pub cache_one : (spaces : List SpaceState) (k j : ℕ) (s : SpaceState) (c d : QuantumCacheState) → slice_get spaces k ≡ Some s → slice_get s.caches j ≡ Some c → IsCacheAt spaces k j d → c ≡ d
cache_one spaces k j s c d at among there =
    slice_get_one s.caches j c d among (ap (λ (x : SpaceState). slice_get x.caches j) (slice_get_one spaces k s there.space at there.at) ∙ there.among)

module _ (old new : LocalState) (k c : ℕ) where
  -- a pop that found no round
  pub popped_none : DoesPop old k c (Ok None) new → IsUnchanged old new × HasNoRoundOf old k c
  popped_none does = elim does.2 [
    | inl on ↦ (
      record { spaces = on.0; cpu = own_same k on.1.0 _ old.cpu new.cpu on.1.3 on.1.3.does.0 (empty on.1.3.own.cpu on.1.3.changed.cpu on.1.3.does.1).1 },
      λ j o number is.
          let here : on.1.0 ≡ j = one_index c on.1.0 j on.1.1 number in
          let there : IsOwnAt old.cpu k on.1.0 o = subst (λ i. IsOwnAt old.cpu k i o) (sym here) is.own in
          subst (λ (x : OwnCacheState). BothEmpty x.cpu) (own_is k on.1.0 _ old.cpu new.cpu on.1.3 o there) (empty on.1.3.own.cpu on.1.3.changed.cpu on.1.3.does.1).0,
    )
    | inr none ↦ (none.2, λ j o number is. absurd (none.1 j o number is tt))
  ]
    where
      nothing : does.0 ≡ None
      nothing = let e : Ok None ≡ Ok does.0 = does.1 in cc

      empty : (x y : CpuCacheState) → PopOf x does.0 y → BothEmpty x × (y ≡ x)
      empty x y of = subst (λ o. PopOf x o y) nothing of

  -- a chunk that there was none of
  pub taken_none : DoesTake old.spaces k c (Ok None) new.spaces → (new.spaces ≡ old.spaces) × HasNoChunkOf old.spaces k c
  taken_none does = elim does.2 [
    | inl on ↦
        let o = on.2 in
        let out : All IsAllOut o.cache.slab.slabs × (o.slab ≡ o.cache.slab) = subst (λ r. TakeOf o.cache.slab r o.slab) nothing o.does in
        let slab : with_slab o.slab o.cache ≡ o.cache = ap (λ x. with_slab x o.cache) out.1 in
        let cache : with_cache on.0 (with_slab o.slab o.cache) o.space ≡ o.space =
        ap (λ x. with_cache on.0 x o.space) slab ∙ ap (λ cs. record { arena = o.space.arena; source = o.space.source; caches = cs }) (set_same o.space.caches on.0 o.cache o.among) in (
          o.after ∙ ap (set old.spaces k) cache ∙ set_same old.spaces k o.space o.at,
          λ j d number there. subst (λ (x : QuantumCacheState). All IsAllOut x.slab.slabs) (cache_one old.spaces k j o.space o.cache d o.at (ap (slice_get o.space.caches) (sym (one_index c on.0 j on.1 number)) ∙ o.among) there) out.0,
        )
    | inr none ↦ (none.1.1, λ j d number there. absurd (none.0 j number (d, there)))
  ]
    where
      nothing : does.0 ≡ None
      nothing = let e : Ok None ≡ Ok does.0 = does.1 in cc

  -- a change of magazines
  pub changed_over : (size : ℕ) (a : Result (Unit {0}) (PartFault ChangeFault)) → DoesChange old k c size a new → (new.spaces ≡ old.spaces) × (cpu_rounds new.cpu ≡ cpu_rounds old.cpu)
  changed_over size a does = elim does [
    | inl on ↦
        let rounds : own_rounds on.1.1.3.changed ≡ own_rounds on.1.1.3.own = ap (λ (x : CpuCacheState). x.previous ++ x.loaded) on.1.1.3.does.1.after in
        (on.1.0, own_rounds_same k on.1.1.0 _ old.cpu new.cpu on.1.1.3 rounds)
    | inr none ↦ elim none [
      | inl memory ↦ (memory.2.spaces, ap cpu_rounds memory.2.cpu)
      | inr small ↦ (small.2.spaces, ap cpu_rounds small.2.cpu)
    ]
  ]

pub size_some : (m : ℕ) → IsSize m → 0 < m
size_some m is = elim is [
  | inl e ↦ omega (arith, e)
  | inr more ↦ elim more [
    | inl e ↦ omega (arith, e)
    | inr most ↦ elim most [ inl e ↦ omega (arith, e) | inr e ↦ omega (arith, e) ]
  ]
]

module _ (old new : LocalState) (k c : ℕ) (law : IsStock old.spaces) (fixed : plans_of new.spaces ≡ plans_of old.spaces) (on : OnExchange old k c (SwapsFull (Ok tt)) new) where
  swap : SwapsForFull on.3.own.cpu on.3.does.1.cache.depot on.3.changed.cpu on.3.does.1.depot
  swap = swapped on.3.does.1.does.r on.3.does.1.does.told on.3.does.1.does.did
    where
      swapped : (r : Result (Unit {0}) FullFault) → Ok tt ≡ wording_of asking.Refused r → SwapFullOf on.3.own.cpu on.3.does.1.cache.depot r on.3.changed.cpu on.3.does.1.depot → SwapsForFull on.3.own.cpu on.3.does.1.cache.depot on.3.changed.cpu on.3.does.1.depot
      swapped (Ok u) e did = did
      swapped (Err f) e did = absurd (let x : Ok tt ≡ Err (asking.Refused f) = e in cc)

  -- the magazine that came has rounds
  has_some : 0 < length on.3.changed.cpu.loaded
  has_some =
      let d = on.3.does.1 in
      let depot : IsDepot d.cache.depot = ((law k d.space d.at).caches on.0 d.cache d.among).depot in
      let some : 0 < d.cache.depot.size = size_some d.cache.depot.size depot.sized in
      omega (arith, some, swap.whole, swap.sized)

  -- the CPU's cache is still the one for the quantum cache
  still : IsReached new k on.0 on.3.changed
  still =
      let o = on.2.0 in
      let is : on.3.own ≡ o = own_is k on.0 _ old.cpu new.cpu on.3 o on.2.1.own in
      let index : IsAtIndexesOf on.3.own on.3.changed = on.3.does.0 in
      record {
        has = caches_stay old.spaces new.spaces fixed k on.0 on.2.1.has;
        own = record {
          row = set on.3.row on.0 on.3.changed;
          at = changed_at k on.0 _ old.cpu new.cpu on.3;
          among = changed_among k on.0 _ old.cpu new.cpu on.3;
          arena = index.arena ∙ (ap (λ (x : OwnCacheState). x.arena) is ∙ on.2.1.own.arena);
          cache = index.cache ∙ (ap (λ (x : OwnCacheState). x.cache) is ∙ on.2.1.own.cache);
        };
        quantum = λ s at.
            let d = on.3.does.1 in
            ((plans_stay old.spaces new.spaces fixed).1 k d.space s d.at at).quantum ∙ (on.2.1.quantum d.space d.at ∙ sym (index.quantum ∙ ap (λ (x : OwnCacheState). x.quantum) is));
      }

  -- so a pop finds one
  pub swapped_some : (later : LocalState) → DoesPop new k c (Ok None) later → ⊥
  swapped_some later pop =
      let none : HasNoRoundOf new k c = (popped_none new later k c pop).1 in
      let empty : on.3.changed.cpu.loaded ≡ [] = (none on.0 on.3.changed on.1 still).loaded_empty in
      omega (arith, has_some, ap length empty)
