-- What reaping leaves.
use Rattle.std.proofs.Common.{◌≡◌, ℕ, ◌+◌, ◌<◌, ◌≤◌, ◌⊎◌, refl, sym, subst, ap, ◌∙◌, inl, inr, List, [], ◌∷◌, ◌++◌, length, set, All, Option, Some, None, Result, Ok, Err, IfSome, OnOk, arith}
use Rattle.std.proofs.lemmas.Bool.{cases_lt}
use Rattle.std.specs.Prelude.{slice_get, sum_by}
use Rattle.std.proofs.lemmas.List.{length-append}
use Rattle.std.proofs.lemmas.List.Sums.{sum_by-cons}
use Rattle.std.proofs.lemmas.List.Elements.{All-contains}
use Rattle.std.proofs.lemmas.List.Edits.{length-remove}
use Rattle.deed_core.specs.Tag.{Tag}
use Rattle.deed_core.specs.declared.segments.Route.TheVariants.{Direct, Cached}
use Rattle.std.proofs.lemmas.Option.{slice_get_within}
use Rattle.deed_core.proofs.LawProofs.{written, slice_get_some, all_from}
use Rattle.slab_layer.specs.Slab.{IsComplete}
use Rattle.slab_layer.specs.Cache.{SlabCacheState}
use Rattle.slab_layer.specs.Calls.{ReapOf, PutOf}
use Rattle.slab_layer.specs.declared.faults.PutFault.{PutFault}
use Rattle.magazine_layer.specs.Depots.{DepotState, depot_rounds, all_rounds, after_trim, after_tick, Begins, Drains, CanReap}
use Rattle.magazine_layer.specs.Calls.{DepotReapOf}
use Rattle.stock.specs.Spaces.{SpaceState, QuantumCacheState, IsCacheAt, HasCache, plans_of, with_cache, with_slab, with_depot}
use Rattle.stock.specs.Stocks.{IsRoundOf, IsFrom, IsStock}
use Rattle.stock.specs.Steps.{OnSlab, OnDepot, FreeIn, PutIn, IsRoundIn}
use Rattle.stock.specs.Endings.{IsReaped, IsReapedAt, IsReapedCache, OthersStay, OtherArenasStay, DepotsStay, AllCachesStay}
use Rattle.stock.proofs.CacheSteps.{number_within, has_cache}
use Rattle.stock.proofs.Ending.{from_lower}
use Rattle.stock.proofs.Chains.{plans_stay, caches_stay}

-- one cache was written
module _ (old new : List SpaceState) (k j : ℕ) (space : SpaceState) (at : slice_get old k ≡ Some space) (cache : QuantumCacheState) (among : slice_get space.caches j ≡ Some cache) (z : QuantumCacheState) (after : new ≡ set old k (with_cache j z space)) where
  pub stood : IsCacheAt old k j cache
  stood = record { space = space; at = at; among = among }

  found : (i n : ℕ) (c : QuantumCacheState) → IsCacheAt new i n c → IsCacheAt old i n c ⊎ ((i ≡ k) × (n ≡ j) × (c ≡ z))
  found i n c there = elim (written old k i (with_cache j z space) there.space (ap (λ (xs : List SpaceState). slice_get xs i) (sym after) ∙ there.at)) [
    | inl here ↦
        elim (written space.caches j n z c (ap (λ (x : SpaceState). slice_get x.caches n) (sym here.1) ∙ there.among)) [
          | inl this ↦ inr (here.0, this.0, this.1)
          | inr other ↦ inl (record { space = space; at = ap (slice_get old) here.0 ∙ at; among = other.1 })
        ]
    | inr other ↦ inl (record { space = there.space; at = other.1; among = there.among })
  ]

  pub others : OthersStay k j old new
  others i n c there = elim (found i n c there) [ inl was ↦ inl was | inr here ↦ inr (here.0, here.1) ]

  pub here_is : (c : QuantumCacheState) → IsCacheAt new k j c → c ≡ z
  here_is c there = elim (written old k k (with_cache j z space) there.space (ap (λ (xs : List SpaceState). slice_get xs k) (sym after) ∙ there.at)) [
    | inl here ↦
        elim (written space.caches j j z c (ap (λ (x : SpaceState). slice_get x.caches j) (sym here.1) ∙ there.among)) [
          | inl this ↦ this.1
          | inr other ↦ absurd (other.0 refl)
        ]
    | inr other ↦ absurd (other.0 refl)
  ]

  pub depots : z.depot ≡ cache.depot → DepotsStay old new
  depots same i n c there = elim (found i n c there) [
    | inl was ↦ (c, was, refl)
    | inr here ↦ (cache, subst (λ m. IsCacheAt old m n cache) (sym here.0) (subst (λ m. IsCacheAt old k m cache) (sym here.1) stood), ap (λ (x : QuantumCacheState). x.depot) here.2 ∙ same)
  ]

-- the slabs of a cache did
pub slab_others : (old new : List SpaceState) (k j : ℕ) (P : SlabCacheState → SlabCacheState → Type 0) → OnSlab k j P old new → OthersStay k j old new
slab_others old new k j P on = others old new k j on.space on.at on.cache on.among (with_slab on.slab on.cache) on.after

pub slab_depots : (old new : List SpaceState) (k j : ℕ) (P : SlabCacheState → SlabCacheState → Type 0) → OnSlab k j P old new → DepotsStay old new
slab_depots old new k j P on = depots old new k j on.space on.at on.cache on.among (with_slab on.slab on.cache) on.after refl

pub slab_here : (old new : List SpaceState) (k j : ℕ) (P : SlabCacheState → SlabCacheState → Type 0) (on : OnSlab k j P old new) (c : QuantumCacheState) → IsCacheAt new k j c → c ≡ with_slab on.slab on.cache
slab_here old new k j P on = here_is old new k j on.space on.at on.cache on.among (with_slab on.slab on.cache) on.after

pub depot_others : (old new : List SpaceState) (k j : ℕ) (P : DepotState → DepotState → Type 0) → OnDepot k j P old new → OthersStay k j old new
depot_others old new k j P on = others old new k j on.space on.at on.cache on.among (with_depot on.depot on.cache) on.after

pub depot_here : (old new : List SpaceState) (k j : ℕ) (P : DepotState → DepotState → Type 0) (on : OnDepot k j P old new) (c : QuantumCacheState) → IsCacheAt new k j c → c ≡ with_depot on.depot on.cache
depot_here old new k j P on = here_is old new k j on.space on.at on.cache on.among (with_depot on.depot on.cache) on.after

pub others_then : (k j : ℕ) (a b c : List SpaceState) → OthersStay k j a b → OthersStay k j b c → OthersStay k j a c
others_then k j a b c first then i n x there = elim (then i n x there) [ inl was ↦ first i n x was | inr here ↦ inr here ]

pub depots_then : (a b c : List SpaceState) → DepotsStay a b → DepotsStay b c → DepotsStay a c
depots_then a b c first then i n x there =
    let was = then i n x there in
    let before = first i n was.0 was.1 in
    (before.0, before.1, was.2 ∙ before.2)

-- a chunk was put back where it was cut
pub put_others : (old new : List SpaceState) (k j : ℕ) (t : Tag) (r : Result (Unit {0}) (PutFault Tag)) → HasCache old k j → IsRoundIn old k j t → PutIn old t r new → OthersStay k j old new
put_others old new k j t r has round put = elim put [
  | inl on ↦
      let is = round has.1.space has.1.at in
      let same : Cached (on.0 + 1) ≡ Cached (j + 1) = sym on.1 ∙ is.by in
      let number : on.0 + 1 ≡ j + 1 = cc in
      let here : on.0 ≡ j = omega (arith, number) in
      subst (λ i. OthersStay i j old new) is.from (subst (λ m. OthersStay t.arena m old new) here (slab_others old new t.arena on.0 (λ a b. PutOf a t r b) on.2))
  | inr none ↦ λ i n c there. inl (subst (λ (xs : List SpaceState). IsCacheAt xs i n c) none.2 there)
]

pub put_depots : (old new : List SpaceState) (t : Tag) (r : Result (Unit {0}) (PutFault Tag)) → PutIn old t r new → DepotsStay old new
put_depots old new t r put = elim put [
  | inl on ↦ slab_depots old new t.arena on.0 (λ a b. PutOf a t r b) on.2
  | inr none ↦ λ i n c there. (c, subst (λ (xs : List SpaceState). IsCacheAt xs i n c) none.2 there, refl)
]

-- a segment was freed
pub free_caches : (old new : List SpaceState) (t : Tag) (r : Result (Option Tag) Tag) → FreeIn old t r new → AllCachesStay old new
free_caches old new t r freed i n c there = elim freed [
  | inl on ↦
      elim (written old t.arena i (record { arena = on.arena; source = on.space.source; caches = on.space.caches }) there.space (ap (λ (xs : List SpaceState). slice_get xs i) (sym on.after) ∙ there.at)) [
        | inl here ↦ record { space = on.space; at = ap (slice_get old) here.0 ∙ on.at; among = ap (λ (x : SpaceState). slice_get x.caches n) (sym here.1) ∙ there.among }
        | inr other ↦ record { space = there.space; at = other.1; among = there.among }
      ]
  | inr none ↦ subst (λ (xs : List SpaceState). IsCacheAt xs i n c) none.2 there
]

-- what comes out is of an arena that stands before
pub record IsLower (t span : Tag) : Type 0 where
  pub lower : span.arena < t.arena
  pub direct : span.route ≡ Direct

pub free_lowers : (old new : List SpaceState) → IsStock old → (t : Tag) (back : Option Tag) → FreeIn old t (Ok back) new → IfSome back (IsLower t)
free_lowers old new stock t None freed = tt
free_lowers old new stock t (Some span) freed = elim freed [
  | inl on ↦
      let is = stock t.arena on.space on.at in
      let from = on.does.from in
      record { lower = from_lower on.space.source span t.arena (All-contains (IsFrom on.space.source) on.space.arena.imported span is.imported from.0) is.before; direct = from.1 }
  | inr none ↦ absurd (let e : Ok (Some span) ≡ Err t = none.1 in cc)
]

abbrev pub height : Option Tag → ℕ
height None = 0
height (Some t) = t.arena + 1

-- how many slabs and rounds a cache at an index has
abbrev pub caches_in : Option SpaceState → List QuantumCacheState
caches_in None = []
caches_in (Some s) = s.caches

abbrev pub slabs_of : Option QuantumCacheState → ℕ
slabs_of None = 0
slabs_of (Some c) = length c.slab.slabs

abbrev pub slabs_left : List SpaceState → ℕ → ℕ → ℕ
slabs_left spaces k j = slabs_of (slice_get (caches_in (slice_get spaces k)) j)

abbrev pub rounds_in_all : DepotState → ℕ
rounds_in_all d = length d.draining + sum_by (λ (m : List Tag). length m) d.old_full + sum_by (λ (m : List Tag). length m) d.full

abbrev pub rounds_of : Option QuantumCacheState → ℕ
rounds_of None = 0
rounds_of (Some c) = rounds_in_all c.depot

abbrev pub rounds_left : List SpaceState → ℕ → ℕ → ℕ
rounds_left spaces k j = rounds_of (slice_get (caches_in (slice_get spaces k)) j)

at_index : {X : Type 0} (f : Option QuantumCacheState → X) (spaces : List SpaceState) (k j : ℕ) (c : QuantumCacheState) → IsCacheAt spaces k j c → f (slice_get (caches_in (slice_get spaces k)) j) ≡ f (Some c)
at_index f spaces k j c is = ap (λ (o : Option SpaceState). f (slice_get (caches_in o) j)) is.at ∙ ap f is.among

-- a slab fewer
fewer : (old new : SlabCacheState) (t : Tag) → ReapOf old (Some t) new → length new.slabs < length old.slabs
fewer old new t of =
    let reaps = of.2 in
    let stands = reaps.lowest.stands in
    let e = ap (λ (c : SlabCacheState). length c.slabs) reaps.after in
    omega (arith, e, length-remove old.slabs of.0 stands.within, stands.within)

pub slab_smaller : (old mid new : List SpaceState) (k j : ℕ) (t : Tag) → OnSlab k j (λ a b. ReapOf a (Some t) b) old mid → HasCache new k j → AllCachesStay mid new → slabs_left new k j < slabs_left old k j
slab_smaller old mid new k j t on has stay =
    let P : SlabCacheState → SlabCacheState → Type 0 = λ a b. ReapOf a (Some t) b in
    let is = slab_here old mid k j P on has.0 (stay k j has.0 has.1) in
    let before = at_index slabs_of old k j on.cache (record { space = on.space; at = on.at; among = on.among }) in
    let now = at_index slabs_of new k j has.0 has.1 in
    let same = ap (λ (c : QuantumCacheState). length c.slab.slabs) is in
    omega (arith, before, now, same, fewer on.cache.slab on.slab t on.does)

pub slab_direct : (old mid : List SpaceState) (k j : ℕ) (t : Tag) → OnSlab k j (λ a b. ReapOf a (Some t) b) old mid → t.route ≡ Direct
slab_direct old mid k j t on = ap (λ (x : Tag). x.route) on.does.2.tag

pub slab_done : (old new : List SpaceState) (k j : ℕ) → OnSlab k j (λ a b. ReapOf a None b) old new → (c : QuantumCacheState) → IsCacheAt new k j c → All (λ s. ¬ IsComplete s) c.slab.slabs
slab_done old new k j on c there =
    let P : SlabCacheState → SlabCacheState → Type 0 = λ a b. ReapOf a None b in
    let same : c.slab ≡ on.cache.slab = ap (λ (x : QuantumCacheState). x.slab) (slab_here old new k j P on c there) ∙ on.does.1 in
    subst (λ (x : SlabCacheState). All (λ s. ¬ IsComplete s) x.slabs) (sym same) on.does.0

-- a depot of which all full magazines may be reaped
abbrev pub MayReapAll : DepotState → Type 0
MayReapAll d = d.full_reapable ≡ length d.full

no_list : {X : Type 0} (xs : List X) → (0 < length xs → ⊥) → xs ≡ []
no_list [] none = refl
no_list (x ∷ xs) none = absurd (none (omega arith))

emptied : (d : DepotState) → MayReapAll d → ¬ CanReap d → depot_rounds d ≡ []
emptied d may none =
    let draining = no_list d.draining (λ some. none (inl some)) in
    let old_full = no_list d.old_full (λ some. none (inr (inl some))) in
    let full = no_list d.full (λ some. none (inr (inr (omega (arith, some, may))))) in
    ap (λ (ms : List (List Tag)). all_rounds ms ++ (all_rounds d.full ++ d.draining)) old_full ∙ ap (λ (ms : List (List Tag)). all_rounds ms ++ d.draining) full ∙ draining

pub depot_done : (old new : List SpaceState) (k j : ℕ) → ((c : QuantumCacheState) → IsCacheAt old k j c → MayReapAll c.depot) → OnDepot k j (λ a b. DepotReapOf a None b) old new → (c : QuantumCacheState) → IsCacheAt new k j c → depot_rounds c.depot ≡ []
depot_done old new k j may on c there =
    let P : DepotState → DepotState → Type 0 = λ a b. DepotReapOf a None b in
    let same : c.depot ≡ after_trim on.cache.depot = ap (λ (x : QuantumCacheState). x.depot) (depot_here old new k j P on c there) ∙ on.does.1 in
    ap depot_rounds same ∙ emptied on.cache.depot (may on.cache (record { space = on.space; at = on.at; among = on.among })) on.does.0

-- a round fewer
pub record IsFewer (d new : DepotState) : Type 0 where
  pub may : MayReapAll new
  pub less : rounds_in_all new < rounds_in_all d

one_fewer : (x : Tag) (d b new : DepotState) → MayReapAll d → Begins d b → Drains x b new → IsFewer d new
one_fewer x d b new may begins drains =
    let full = ap (λ (e : DepotState). e.full) drains.rest in
    let old_full = ap (λ (e : DepotState). e.old_full) drains.rest in
    let reapable = ap (λ (e : DepotState). e.full_reapable) drains.rest in
    let many = ap (λ (ts : List Tag). length ts) drains.last ∙ length-append new.draining (x ∷ []) in
    let sum_full = ap (λ (ms : List (List Tag)). sum_by (λ (m : List Tag). length m) ms) full in
    let sum_old = ap (λ (ms : List (List Tag)). sum_by (λ (m : List Tag). length m) ms) old_full in
    let long = ap (λ (ms : List (List Tag)). length ms) full in
    elim begins [
      | inl same ↦
          let is = same.1 in
          record {
            may = reapable ∙ ap (λ (e : DepotState). e.full_reapable) is ∙ may ∙ sym (ap (λ (e : DepotState). length e.full) is) ∙ sym long;
            less = omega (arith, many, sum_full, sum_old, ap rounds_in_all is);
          }
      | inr begun ↦ elim begun [
        | inl old ↦
            let rest = old.rest in
            record {
              may = reapable ∙ ap (λ (e : DepotState). e.full_reapable) rest ∙ may ∙ sym (ap (λ (e : DepotState). length e.full) rest) ∙ sym long;
              less = omega (arith, many, sum_full, sum_old, ap (λ (e : DepotState). sum_by (λ (m : List Tag). length m) e.full) rest, ap (λ (ms : List (List Tag)). sum_by (λ (m : List Tag). length m) ms) old.oldest, sum_by-cons (λ (m : List Tag). length m) b.draining b.old_full);
            }
        | inr newest ↦
            let rest = newest.rest in
            let first = ap (λ (ms : List (List Tag)). length ms) newest.oldest in
            record {
              may = (let e = ap (λ (e : DepotState). e.full_reapable) rest in omega (arith, reapable, e, may, first, long));
              less = omega (arith, many, sum_full, sum_old, ap (λ (e : DepotState). sum_by (λ (m : List Tag). length m) e.old_full) rest, ap (λ (ms : List (List Tag)). sum_by (λ (m : List Tag). length m) ms) newest.oldest, sum_by-cons (λ (m : List Tag). length m) b.draining b.full);
            }
      ]
    ]

pub depot_fewer : (old mid : List SpaceState) (k j : ℕ) (t : Tag) → ((c : QuantumCacheState) → IsCacheAt old k j c → MayReapAll c.depot) → (on : OnDepot k j (λ a b. DepotReapOf a (Some t) b) old mid) → IsFewer on.cache.depot on.depot
depot_fewer old mid k j t may on =
    let was = may on.cache (record { space = on.space; at = on.at; among = on.among }) in
    let fewer : IsFewer (after_trim on.cache.depot) on.depot = one_fewer t (after_trim on.cache.depot) on.does.0 on.depot was on.does.1 on.does.2 in
    record { may = fewer.may; less = fewer.less }

pub depot_may : (old mid new : List SpaceState) (k j : ℕ) (t : Tag) → ((c : QuantumCacheState) → IsCacheAt old k j c → MayReapAll c.depot) → OnDepot k j (λ a b. DepotReapOf a (Some t) b) old mid → DepotsStay mid new
    → (c : QuantumCacheState) → IsCacheAt new k j c → MayReapAll c.depot
depot_may old mid new k j t may on stay c there =
    let P : DepotState → DepotState → Type 0 = λ a b. DepotReapOf a (Some t) b in
    let was = stay k j c there in
    let same : c.depot ≡ on.depot = was.2 ∙ ap (λ (x : QuantumCacheState). x.depot) (depot_here old mid k j P on was.0 was.1) in
    subst MayReapAll (sym same) (depot_fewer old mid k j t may on).may

pub depot_smaller : (old mid new : List SpaceState) (k j : ℕ) (t : Tag) → ((c : QuantumCacheState) → IsCacheAt old k j c → MayReapAll c.depot) → OnDepot k j (λ a b. DepotReapOf a (Some t) b) old mid → HasCache new k j → DepotsStay mid new
    → rounds_left new k j < rounds_left old k j
depot_smaller old mid new k j t may on has stay =
    let P : DepotState → DepotState → Type 0 = λ a b. DepotReapOf a (Some t) b in
    let was = stay k j has.0 has.1 in
    let same : has.0.depot ≡ on.depot = was.2 ∙ ap (λ (x : QuantumCacheState). x.depot) (depot_here old mid k j P on was.0 was.1) in
    let before = at_index rounds_of old k j on.cache (record { space = on.space; at = on.at; among = on.among }) in
    let now = at_index rounds_of new k j has.0 has.1 in
    omega (arith, before, now, ap rounds_in_all same, (depot_fewer old mid k j t may on).less)

pub tick_may : (old new : List SpaceState) (k j : ℕ) → OnDepot k j (λ a b. b ≡ after_tick a) old new → (c : QuantumCacheState) → IsCacheAt new k j c → MayReapAll c.depot
tick_may old new k j on c there =
    let P : DepotState → DepotState → Type 0 = λ a b. b ≡ after_tick a in
    let same : c.depot ≡ after_tick on.cache.depot = ap (λ (x : QuantumCacheState). x.depot) (depot_here old new k j P on c there) ∙ on.does in
    subst MayReapAll (sym same) refl

pub same_others : (k j : ℕ) (old new : List SpaceState) → AllCachesStay old new → OthersStay k j old new
same_others k j old new stay i n c there = inl (stay i n c there)

pub same_depots : (old new : List SpaceState) → AllCachesStay old new → DepotsStay old new
same_depots old new stay i n c there = (c, stay i n c there, refl)

-- a chunk of the cache is one where the plans stayed
pub round_there : (old new : List SpaceState) (k j : ℕ) (t : Tag) → plans_of new ≡ plans_of old → IsRoundIn old k j t → IsRoundIn new k j t
round_there old new k j t fixed round s at =
    let stays = plans_stay old new fixed in
    let was = slice_get_some old k (omega (arith, slice_get_within new k s at, stays.0)) in
    let same = (stays.1 k was.0 s was.1 at).quantum in
    subst (λ q. IsRoundOf k (j + 1) q t) (sym same) (round was.0 was.1)

pub lowers_direct : (t : Tag) (back : Option Tag) → IfSome back (IsLower t) → IfSome back (λ s. s.route ≡ Direct)
lowers_direct t None is = tt
lowers_direct t (Some s) is = is.direct

pub lower_height : (t : Tag) (before back : Option Tag) → before ≡ Some t → IfSome back (IsLower t) → height back < height before
lower_height t before None was is = (let e = ap height was in omega (arith, e))
lower_height t before (Some s) was is = (let e = ap height was in omega (arith, e, is.lower))

pub reaped_at : (r : Result (Unit {0}) Tag) (mid new : List SpaceState) (k j : ℕ) → OnOk r ((c : QuantumCacheState) → IsCacheAt new k j c → All (λ s. ¬ IsComplete s) c.slab.slabs) → DepotsStay mid new
    → ((c : QuantumCacheState) → IsCacheAt mid k j c → depot_rounds c.depot ≡ []) → OnOk r (IsReapedAt new k j)
reaped_at (Err t) mid new k j slabs stay empty = tt
reaped_at (Ok u) mid new k j slabs stay empty = λ c there. (let was = stay k j c there in record { rounds = ap depot_rounds was.2 ∙ empty was.0 was.1; slabs = slabs c there })

-- one cache more of an arena
pub reaped_more : (k m : ℕ) (old new : List SpaceState) → ((j : ℕ) → j < m → IsReapedAt old k j) → OthersStay k m old new → IsReapedAt new k m → (j : ℕ) → j < m + 1 → IsReapedAt new k j
reaped_more k m old new before others done j lt c there = elim (cases_lt j m) [
  | inl less ↦
      elim (others k j c there) [
        | inl was ↦ before j less c was
        | inr here ↦ absurd (omega (arith, less, here.1))
      ]
  | inr more ↦ (let e : m ≡ j = omega (arith, more, lt) in subst (λ i. IsReapedAt new k i) e done c there)
]

pub arenas_then : (k m : ℕ) (a b c : List SpaceState) → OtherArenasStay k a b → OthersStay k m b c → OtherArenasStay k a c
arenas_then k m a b c first then i n x there = elim (then i n x there) [ inl was ↦ first i n x was | inr here ↦ inr here.0 ]

module _ (old new : List SpaceState) (k n : ℕ) (fixed : plans_of new ≡ plans_of old) (within : k < length old) (many : (s : SpaceState) → slice_get old k ≡ Some s → n ≡ length s.caches) where
  pub has_there : (j : ℕ) → j < n → HasCache new k j
  has_there j lt =
      let s = slice_get_some old k within in
      caches_stay old new fixed k j (has_cache old k s.0 j s.1 (omega (arith, lt, many s.0 s.1)))

  pub reaped_each : ((j : ℕ) → j < n → IsReapedAt new k j) → (j : ℕ) → IsReapedAt new k j
  reaped_each done j c there =
      let s = slice_get_some old k within in
      let lt = number_within old k j s.0 (caches_stay new old (sym fixed) k j (c, there)) s.1 in
      done j (omega (arith, lt, many s.0 s.1)) c there

-- one arena more
pub arena_more : (m : ℕ) (old new : List SpaceState) → ((k j : ℕ) → k < m → IsReapedAt old k j) → OtherArenasStay m old new → ((j : ℕ) → IsReapedAt new m j) → (k j : ℕ) → k < m + 1 → IsReapedAt new k j
arena_more m old new before others done k j lt c there = elim (cases_lt k m) [
  | inl less ↦
      elim (others k j c there) [
        | inl was ↦ before k j less c was
        | inr here ↦ absurd (omega (arith, less, here))
      ]
  | inr more ↦ (let e : m ≡ k = omega (arith, more, lt) in subst (λ i. IsReapedAt new i j) e (done j) c there)
]

pub all_reaped : (spaces : List SpaceState) (n : ℕ) → length spaces ≤ n → ((k j : ℕ) → k < n → IsReapedAt spaces k j) → All IsReaped spaces
all_reaped spaces n few done = all_from IsReaped spaces (λ k s at. all_from IsReapedCache s.caches (λ j c among. done k j (omega (arith, few, slice_get_within spaces k s at)) c (record { space = s; at = at; among = among })))
