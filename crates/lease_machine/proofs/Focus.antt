-- One quantum cache of the stock, and a CPU's cache for it: what events do there.
use Rattle.arena_tree.specs.declared.part_faults.PartFault.{PartFault}
use Rattle.arena_tree.specs.declared.part_faults.GivenFault.{GivenFault}
use Rattle.arena_tree.specs.declared.part_faults.FreshFault.{FreshFault}
use Rattle.arena_tree.specs.declared.part_faults.ChangeFault.{ChangeFault}
use Rattle.magazine_layer.specs.declared.faults.FullFault.{FullFault}
use Rattle.magazine_layer.specs.declared.faults.EmptyFault.{EmptyFault}
use Rattle.arena_tree.specs.declared.part_faults.PartFault.TheVariants as asking
use Rattle.arena_tree.specs.declared.part_faults.FreshFault.TheVariants as freshing
use Rattle.arena_tree.specs.declared.part_faults.ChangeFault.TheVariants as changing
use Rattle.arena_tree.specs.declared.part_faults.GivenFault.TheVariants as giving
use Rattle.arena_tree.specs.declared.part_faults.Stopped.{Stopped}
use Rattle.deed_core.proofs.LawProofs.{set_same, slice_get-set, slice_get_one}
use Rattle.deed_core.specs.Tag.{Tag}
use Rattle.local_parts.specs.Cpus.{OnOwn}
use Rattle.local_parts.specs.OwnSteps.{ChangesTo, DoesChange, DoesPop, DoesPush, DoesSwapEmpty, DoesSwapFresh, DoesSwapFull, OnExchange, OnReached, SwapsEmpty, SwapsFresh, SwapsFull}
use Rattle.local_parts.specs.SharedSteps.{DoesTake}
use Rattle.local_parts.specs.States.{IsReached, IsUnchanged, LocalState}
use Rattle.magazine_layer.specs.Calls.{PopOf, PushOf}
use Rattle.magazine_layer.specs.Depots.{DepotState}
use Rattle.magazine_layer.specs.Magazines.{BothEmpty, BothFull, CpuCacheState, IsSize, Pushes}
use Rattle.slab_layer.specs.Cache.{SlabCacheState}
use Rattle.slab_layer.specs.Calls.{TakeOf}
use Rattle.std.proofs.Common.{Err, List, Ok, Option, Result, Some, ap, arith, inl, inr, length, refl, set, slice_get, subst, sym, ℕ, ◌+◌, ◌<◌, ◌∙◌, ◌≡◌, ◌⊎◌}
use Rattle.std.proofs.lemmas.Bool.{cases_eq}
use Rattle.std.proofs.lemmas.List.{set-set}
use Rattle.std.proofs.lemmas.Option.{slice_get_within}
use Rattle.stock.specs.OwnCaches.{IsAtIndexesOf, OwnCacheState}
use Rattle.stock.specs.Spaces.{QuantumCacheState, SpaceState, with_cache, with_caches, with_depot, with_slab}
use Rattle.stock.specs.Steps.{OnDepot, OnSlab}
use Rattle.stock.specs.Stocks.{IsRoundOf}

pub record Focus (s : LocalState) (k j : ℕ) : Type 0 where
  pub space : SpaceState
  pub at : slice_get s.spaces k ≡ Some space
  pub cache : QuantumCacheState
  pub among : slice_get space.caches j ≡ Some cache
  pub row : List OwnCacheState
  pub row_at : slice_get s.cpu k ≡ Some row
  pub own : OwnCacheState
  pub own_at : slice_get row j ≡ Some own
  pub arena : own.arena ≡ k
  pub number : own.cache ≡ j
  pub quantum : own.quantum ≡ space.arena.quantum

abbrev pub with_magazines : CpuCacheState → OwnCacheState → OwnCacheState
with_magazines x o = record { arena = o.arena; cache = o.cache; quantum = o.quantum; cpu = x }

-- both magazines are full, or not
pub full_or_not : (x : CpuCacheState) → BothFull x ⊎ (BothFull x → ⊥)
full_or_not x = elim (cases_eq (length x.loaded) x.size) [
  | inl loaded ↦ elim (cases_eq (length x.previous) x.size) [
    | inl previous ↦ inl (record { loaded_full = loaded; previous_full = previous })
    | inr ne ↦ inr (λ full. ne full.previous_full)
  ]
  | inr ne ↦ inr (λ full. ne full.loaded_full)
]

pub size_some : (m : ℕ) → IsSize m → 0 < m
size_some m is = elim is [
  | inl e ↦ omega (arith, e)
  | inr more ↦ elim more [
    | inl e ↦ omega (arith, e)
    | inr most ↦ elim most [ inl e ↦ omega (arith, e) | inr e ↦ omega (arith, e) ]
  ]
]

module _ (s : LocalState) (k j : ℕ) (f : Focus s k j) where
  abbrev pub space_with : QuantumCacheState → SpaceState
  space_with q = with_cache j q f.space

  abbrev pub own_with : CpuCacheState → OwnCacheState
  own_with x = with_magazines x f.own

  -- the state where the two are these
  abbrev pub there : CpuCacheState → QuantumCacheState → LocalState
  there x q = record { spaces = set s.spaces k (space_with q); cpu = set s.cpu k (set f.row j (own_with x)) }

  space_there : (q : QuantumCacheState) → slice_get (set s.spaces k (space_with q)) k ≡ Some (space_with q)
  space_there q = slice_get-set s.spaces k (space_with q) (slice_get_within s.spaces k f.space f.at)

  cache_there : (q : QuantumCacheState) → slice_get (set f.space.caches j q) j ≡ Some q
  cache_there q = slice_get-set f.space.caches j q (slice_get_within f.space.caches j f.cache f.among)

  row_there : (x : CpuCacheState) → slice_get (set s.cpu k (set f.row j (own_with x))) k ≡ Some (set f.row j (own_with x))
  row_there x = slice_get-set s.cpu k (set f.row j (own_with x)) (slice_get_within s.cpu k f.row f.row_at)

  own_there : (x : CpuCacheState) → slice_get (set f.row j (own_with x)) j ≡ Some (own_with x)
  own_there x = slice_get-set f.row j (own_with x) (slice_get_within f.row j f.own f.own_at)

  -- as they are
  pub itself : s ≡ there f.own.cpu f.cache
  itself =
      let spaces : set s.spaces k (space_with f.cache) ≡ s.spaces = ap (λ cs. set s.spaces k (with_caches cs f.space)) (set_same f.space.caches j f.cache f.among) ∙ set_same s.spaces k f.space f.at in
      let cpu : set s.cpu k (set f.row j (own_with f.own.cpu)) ≡ s.cpu = ap (set s.cpu k) (set_same f.row j f.own f.own_at) ∙ set_same s.cpu k f.row f.row_at in
      λ i. record { spaces = sym spaces i; cpu = sym cpu i }

  pub reached : (x : CpuCacheState) (q : QuantumCacheState) → IsReached (there x q) k j (own_with x)
  reached x q = record {
    has = (q, record { space = space_with q; at = space_there q; among = cache_there q });
    own = record { row = set f.row j (own_with x); at = row_there x; among = own_there x; arena = f.arena; cache = f.number };
    quantum = λ y at. sym (f.quantum ∙ ap (λ (z : SpaceState). z.arena.quantum) (slice_get_one (there x q).spaces k (space_with q) y (space_there q) at));
  }

  -- from what is there then, the relations
  pub own_becomes : (P : CpuCacheState → CpuCacheState → Type 0) (y : CpuCacheState) (new : List (List OwnCacheState)) → new ≡ set s.cpu k (set f.row j (own_with y)) → P f.own.cpu y → OnOwn k j (λ o p. IsAtIndexesOf o p × P o.cpu p.cpu) s.cpu new
  own_becomes P y new is so = record {
    row = f.row;
    at = f.row_at;
    own = f.own;
    among = f.own_at;
    changed = own_with y;
    after = is;
    does = (record { arena = refl; cache = refl; quantum = refl }, so);
  }

  pub depot_becomes : (P : DepotState → DepotState → Type 0) (d : DepotState) (new : List SpaceState) → new ≡ set s.spaces k (space_with (with_depot d f.cache)) → P f.cache.depot d → OnDepot k j P s.spaces new
  depot_becomes P d new is so = record { space = f.space; at = f.at; cache = f.cache; among = f.among; depot = d; after = is; does = so }

  pub slab_becomes : (P : SlabCacheState → SlabCacheState → Type 0) (x : SlabCacheState) (new : List SpaceState) → new ≡ set s.spaces k (space_with (with_slab x f.cache)) → P f.cache.slab x → OnSlab k j P s.spaces new
  slab_becomes P x new is so = record { space = f.space; at = f.at; cache = f.cache; among = f.among; slab = x; after = is; does = so }

  module _ (x : CpuCacheState) (q : QuantumCacheState) where
    same_then : (new : LocalState) → IsUnchanged (there x q) new → new ≡ there x q
    same_then new u = λ i. record { spaces = u.spaces i; cpu = u.cpu i }

    cpu_on : (P : CpuCacheState → CpuCacheState → Type 0) (new : List (List OwnCacheState)) → OnOwn k j (λ o p. IsAtIndexesOf o p × P o.cpu p.cpu) (there x q).cpu new → (y : CpuCacheState) × (new ≡ (there y q).cpu) × P x y
    cpu_on P new on =
        let row : on.row ≡ set f.row j (own_with x) = slice_get_one (there x q).cpu k on.row (set f.row j (own_with x)) on.at (row_there x) in
        let own : on.own ≡ own_with x = slice_get_one on.row j on.own (own_with x) on.among (ap (λ r. slice_get r j) row ∙ own_there x) in
        let arena : on.changed.arena ≡ f.own.arena = on.does.0.arena ∙ ap (λ (o : OwnCacheState). o.arena) own in
        let number : on.changed.cache ≡ f.own.cache = on.does.0.cache ∙ ap (λ (o : OwnCacheState). o.cache) own in
        let quantum : on.changed.quantum ≡ f.own.quantum = on.does.0.quantum ∙ ap (λ (o : OwnCacheState). o.quantum) own in
        let changed : on.changed ≡ own_with on.changed.cpu = λ i. record { arena = arena i; cache = number i; quantum = quantum i; cpu = on.changed.cpu } in (
          on.changed.cpu,
          on.after ∙ (ap (λ r. set (there x q).cpu k (set r j on.changed)) row ∙ (ap (λ r. set (there x q).cpu k r) (set-set f.row j (own_with x) on.changed) ∙ (set-set s.cpu k (set f.row j (own_with x)) (set f.row j on.changed) ∙ ap (λ c. set s.cpu k (set f.row j c)) changed))),
          subst (λ (o : OwnCacheState). P o.cpu on.changed.cpu) own on.does.1,
        )

    space_is : (y : SpaceState) → slice_get (there x q).spaces k ≡ Some y → y ≡ space_with q
    space_is y at = slice_get_one (there x q).spaces k y (space_with q) at (space_there q)

    cache_is : (y : SpaceState) (c : QuantumCacheState) → slice_get (there x q).spaces k ≡ Some y → slice_get y.caches j ≡ Some c → c ≡ q
    cache_is y c at among = slice_get_one y.caches j c q among (ap (λ (z : SpaceState). slice_get z.caches j) (space_is y at) ∙ cache_there q)

    written_there : (y : SpaceState) (c : QuantumCacheState) → slice_get (there x q).spaces k ≡ Some y → set (there x q).spaces k (with_cache j c y) ≡ set s.spaces k (space_with c)
    written_there y c at =
        ap (λ (z : SpaceState). set (there x q).spaces k (with_cache j c z)) (space_is y at) ∙ (set-set s.spaces k (space_with q) (with_cache j c (space_with q)) ∙ ap (λ cs. set s.spaces k (with_caches cs f.space)) (set-set f.space.caches j q c))

    depot_on : (P : DepotState → DepotState → Type 0) (new : List SpaceState) → OnDepot k j P (there x q).spaces new → (d : DepotState) × (new ≡ (there x (with_depot d q)).spaces) × P q.depot d
    depot_on P new on =
        let cache : on.cache ≡ q = cache_is on.space on.cache on.at on.among in (
          on.depot,
          on.after ∙ (written_there on.space (with_depot on.depot on.cache) on.at ∙ ap (λ (c : QuantumCacheState). set s.spaces k (space_with (with_depot on.depot c))) cache),
          subst (λ (c : QuantumCacheState). P c.depot on.depot) cache on.does,
        )

    pub slab_on : (P : SlabCacheState → SlabCacheState → Type 0) (new : List SpaceState) → OnSlab k j P (there x q).spaces new → (d : SlabCacheState) × (new ≡ (there x (with_slab d q)).spaces) × P q.slab d
    slab_on P new on =
        let cache : on.cache ≡ q = cache_is on.space on.cache on.at on.among in (
          on.slab,
          on.after ∙ (written_there on.space (with_slab on.slab on.cache) on.at ∙ ap (λ (c : QuantumCacheState). set s.spaces k (space_with (with_slab on.slab c))) cache),
          subst (λ (c : QuantumCacheState). P c.slab on.slab) cache on.does,
        )

    -- the CPU's own
    reached_on : (P : CpuCacheState → CpuCacheState → Type 0) (new : LocalState) → OnReached (there x q) k (j + 1) P new → (y : CpuCacheState) × (new ≡ there y q) × P x y
    reached_on P new on =
        let here : on.1.0 ≡ j = omega (arith, on.1.1) in
        let c = cpu_on P new.cpu (subst (λ i. OnOwn k i (λ o p. IsAtIndexesOf o p × P o.cpu p.cpu) (there x q).cpu new.cpu) here on.1.3) in
        (c.0, (λ i. record { spaces = on.0 i; cpu = c.1 i }), c.2)

    pub popped : (a : Result (Option Tag) Stopped) (new : LocalState) → DoesPop (there x q) k (j + 1) a new → (r : Option Tag) × (a ≡ Ok r) × ((y : CpuCacheState) × (new ≡ there y q) × PopOf x r y)
    popped a new does = (
      does.0,
      does.1,
      elim does.2 [
        | inl on ↦ reached_on (λ o p. PopOf o does.0 p) new on
        | inr none ↦ absurd (none.1 j (own_with x) refl (reached x q) tt)
      ],
    )

    pub pushed : (t : Tag) → IsRoundOf k (j + 1) f.own.quantum t → (a : Result (Unit {0}) (GivenFault Tag Tag)) (new : LocalState) → DoesPush (there x q) k (j + 1) t a new
        → ((a ≡ Ok tt) × ((y : CpuCacheState) × (new ≡ there y q) × Pushes t x y)) ⊎ ((a ≡ Err (giving.Refused t)) × BothFull x × (new ≡ there x q))
    pushed t round a new does = elim does [
      | inl on ↦ inl (on.0, reached_on (λ o p. PushOf o t (Ok tt) p) new on.2)
      | inr none ↦ elim (full_or_not x) [
        | inl full ↦ inr (none.0, full, same_then new none.2)
        | inr room ↦ absurd (none.1 j (own_with x) refl (reached x q) (record { chunk = round; room = room }))
      ]
    ]

    pub changed : (size : ℕ) (a : Result (Unit {0}) (PartFault ChangeFault)) (new : LocalState) → DoesChange (there x q) k (j + 1) size a new
        → ((a ≡ Ok tt) × ((y : CpuCacheState) × (new ≡ there y q) × ChangesTo size x y)) ⊎ ((a ≡ Err (asking.Refused changing.NoMemory)) × (new ≡ there x q)) ⊎ ((a ≡ Err (asking.Refused changing.NotGreater)) × (new ≡ there x q))
    changed size a new does = elim does [
      | inl on ↦ inl (on.0, reached_on (ChangesTo size) new on.1)
      | inr none ↦ elim none [
        | inl memory ↦ inr (inl (memory.0, same_then new memory.2))
        | inr small ↦ inr (inr (small.0, same_then new small.2))
      ]
    ]

    -- exchanges
    exchanged : (P : CpuCacheState → DepotState → CpuCacheState → DepotState → Type 0) (new : LocalState) → OnExchange (there x q) k (j + 1) P new → (y : CpuCacheState) × (d : DepotState) × (new ≡ there y (with_depot d q)) × P x q.depot y d
    exchanged P new on =
        let here : on.0 ≡ j = omega (arith, on.1) in
        let c = cpu_on (λ o p. OnDepot k j (λ d e. P o d p e) (there x q).spaces new.spaces) new.cpu (subst (λ i. OnOwn k i (λ o p. IsAtIndexesOf o p × OnDepot k i (λ d e. P o.cpu d p.cpu e) (there x q).spaces new.spaces) (there x q).cpu new.cpu) here on.3) in
        let d = depot_on (λ a b. P x a c.0 b) new.spaces c.2 in
        (c.0, d.0, (λ i. record { spaces = d.1 i; cpu = c.1 i }), d.2)

    pub swapped_full : BothEmpty x → (a : Result (Unit {0}) (PartFault FullFault)) (new : LocalState) → DoesSwapFull (there x q) k (j + 1) a new → (y : CpuCacheState) × (d : DepotState) × (new ≡ there y (with_depot d q)) × SwapsFull a x q.depot y d
    swapped_full empty a new does = elim does [
      | inl on ↦ exchanged (SwapsFull a) new on
      | inr none ↦ absurd (none.1 j (own_with x) refl (reached x q) empty)
    ]

    pub swapped_empty : BothFull x → (a : Result (Unit {0}) (PartFault EmptyFault)) (new : LocalState) → DoesSwapEmpty (there x q) k (j + 1) a new → (y : CpuCacheState) × (d : DepotState) × (new ≡ there y (with_depot d q)) × SwapsEmpty a x q.depot y d
    swapped_empty full a new does = elim does [
      | inl on ↦ exchanged (SwapsEmpty a) new on
      | inr none ↦ absurd (none.1 j (own_with x) refl (reached x q) full)
    ]

    pub swapped_fresh : BothFull x → (a : Result (Unit {0}) (PartFault FreshFault)) (new : LocalState) → DoesSwapFresh (there x q) k (j + 1) a new → ((y : CpuCacheState) × (d : DepotState) × (new ≡ there y (with_depot d q)) × SwapsFresh a x q.depot y d) ⊎ ((a ≡ Err (asking.Refused freshing.NoMemory)) × (new ≡ there x q))
    swapped_fresh full a new does = elim does [
      | inl on ↦ inl (exchanged (SwapsFresh a) new on)
      | inr out ↦ elim out [
        | inl memory ↦ inr (memory.0, same_then new memory.2)
        | inr none ↦ absurd (none.1 j (own_with x) refl (reached x q) full)
      ]
    ]

    -- the slabs
    pub taken : (a : Result (Option Tag) Stopped) (new : List SpaceState) → DoesTake (there x q).spaces k (j + 1) a new → (r : Option Tag) × (a ≡ Ok r) × ((d : SlabCacheState) × (new ≡ (there x (with_slab d q)).spaces) × TakeOf q.slab r d)
    taken a new does = (
      does.0,
      does.1,
      elim does.2 [
        | inl on ↦ slab_on (λ o p. TakeOf o does.0 p) new (subst (λ i. OnSlab k i (λ o p. TakeOf o does.0 p) (there x q).spaces new) (omega (arith, on.1)) on.2)
        | inr none ↦ absurd (none.0 j refl (reached x q).has)
      ],
    )
