-- A chunk of a cache was in reach: a round of the CPU's or of the depot's, or one at home in a slab.
use Rattle.deed_core.proofs.LawProofs.{contained_in_sum, counts_the_unit, part_of_sum, sum_by-filter, sum_by-flat_map, sum_by-map}
use Rattle.deed_core.specs.Covering.{covers_held}
use Rattle.deed_core.specs.Extent.{Covers}
use Rattle.deed_core.specs.Holding.{Holding}
use Rattle.deed_core.specs.Selections.{is_of_arena}
use Rattle.deed_core.specs.Tag.{Tag}
use Rattle.deed_core.specs.Weights.{of_arena}
use Rattle.lease_machine.proofs.CpuRows.{rounds_flat}
use Rattle.lease_machine.proofs.Focus.{Focus}
use Rattle.lease_machine.specs.Picture.{NumberedCpu, Picture, is_cpu}
use Rattle.lease_machine.specs.AnswerLaws.{WasReachable, caches_or_none}
use Rattle.local_parts.specs.Cpus.{cpu_rounds}
use Rattle.stock.specs.OwnCaches.{all_own_rounds, own_rounds}
use Rattle.magazine_layer.specs.Depots.{DepotState, SwapsForFull, all_rounds, depot_rounds}
use Rattle.magazine_layer.specs.Magazines.{BothEmpty, CpuCacheState, Pops, cache_rounds}
use Rattle.magazine_layer.specs.Magazines.Pops.{Of_loaded, Of_previous}
use Rattle.slab_layer.specs.Cache.{SlabCacheState, chunk_tag, deeds_of, idle_chunks}
use Rattle.slab_layer.specs.Calls.{StandsAt}
use Rattle.slab_layer.specs.Slab.{IsLowestIdle, SlabState, chunk_at, deeds_in, gap_of, idle_chunks_by, items_where, tail_of}
use Rattle.std.proofs.Common.{Bool, List, Some, [], ap, arith, cond, false, find, get_or, inr, length, length-append, refl, slice_get, subst, suc, sum_by, sym, true, zero, ℕ, ◌++◌, ◌+◌, ◌<◌, ◌∙◌, ◌∷◌, ◌≡◌, ◌≢◌, ◌≤◌}
use Rattle.std.proofs.lemmas.Bool.Decides.{Decides-eqb}
use Rattle.std.proofs.lemmas.List.Sums.{sum_by-append, sum_by-cons}
use Rattle.std.specs.List.{flat_map}
use Rattle.std.specs.Option.{option_to_list}
use Rattle.std.specs.Prelude.{filter}
use Rattle.stock.specs.Spaces.{QuantumCacheState, SpaceState}
use Rattle.stock.specs.Stocks.{IsStock}
use Rattle.stock.specs.Sums.{held_of}
use Rattle.tag_arena.specs.Spanned.{holdings_of}

-- what stands at an index that passes is part of what passes
module _ {X : Type 0} (g : X → ℕ) where
  head : (b : Bool) (y : X) (ys : List X) → b ≡ true → g y ≤ sum_by g (cond b (y ∷ ys) ys)
  head true y ys is = omega (arith, sum_by-cons g y ys)
  head false y ys is = absurd (let e : false ≡ true = is in cc)

  tail : (b : Bool) (y : X) (ys : List X) (n : ℕ) → n ≤ sum_by g ys → n ≤ sum_by g (cond b (y ∷ ys) ys)
  tail true y ys n le = omega (arith, le, sum_by-cons g y ys)
  tail false y ys n le = le

  among_home : (f : ℕ → X) (i : ℕ) (xs : List Bool) (j : ℕ) → j < length xs → get_or xs j false ≡ true → g (f (i + j)) ≤ sum_by g (items_where (λ b. b) f i xs)
  among_home f i [] j within is = absurd (omega (arith, within))
  among_home f i (x ∷ xs) zero within is =
      let e : i ≡ i + 0 = omega arith in
      subst (λ k. g (f k) ≤ sum_by g (items_where (λ b. b) f i (x ∷ xs))) e (head x (f i) (items_where (λ b. b) f (i + 1) xs) is)
  among_home f i (x ∷ xs) (suc j) within is =
      let e : (i + 1) + j ≡ i + suc j = omega arith in
      subst (λ k. g (f k) ≤ sum_by g (items_where (λ b. b) f i (x ∷ xs))) e (tail x (f i) (items_where (λ b. b) f (i + 1) xs) (g (f ((i + 1) + j))) (among_home f (i + 1) xs j (omega (arith, within)) is))

  lowest_home : (f : ℕ → X) (xs : List Bool) (j : ℕ) → IsLowestIdle j xs → g (f j) ≤ sum_by g (items_where (λ b. b) f 0 xs)
  lowest_home f xs j idle = (let e : 0 + j ≡ j = omega arith in subst (λ k. g (f k) ≤ sum_by g (items_where (λ b. b) f 0 xs)) e (among_home f 0 xs j idle.within idle.idle))

  -- nothing weighs where there is nothing
  none_weighs : (xs : List X) (x : X) → g x ≡ 1 → g x ≤ sum_by g xs → xs ≢ []
  none_weighs xs x one le none = (let e : sum_by g xs ≡ 0 = ap (sum_by g) none in omega (arith, one, le, e))

module _ (c : SlabCacheState) (i j : ℕ) (s : SlabState) (stands : StandsAt i s c.slabs) (idle : IsLowestIdle j s.home) where
  -- one is where one is at home
  pub some_idle : idle_chunks c ≢ []
  some_idle = none_weighs (λ t. 1) (idle_chunks c) (chunk_tag c.arena c.k s j) refl (omega (
    arith,
    sum_by-flat_map (λ (t : Tag). 1) (λ z. idle_chunks_by (chunk_tag c.arena c.k z) z) c.slabs,
    contained_in_sum (λ z. sum_by (λ (t : Tag). 1) (idle_chunks_by (chunk_tag c.arena c.k z) z)) c.slabs s (i, stands.within, stands.is),
    lowest_home (λ (t : Tag). 1) (chunk_tag c.arena c.k s) s.home j idle,
  ))

  -- and it lies in the cache
  idle_lies : (g : Holding → ℕ) → g (chunk_at s j) ≤ sum_by g (deeds_of c)
  idle_lies g = omega (
    arith,
    sum_by-flat_map g deeds_in c.slabs,
    contained_in_sum (λ z. sum_by g (deeds_in z)) c.slabs s (i, stands.within, stands.is),
    sum_by-append g (option_to_list (gap_of s)) (idle_chunks_by (chunk_at s) s ++ option_to_list (tail_of s)),
    sum_by-append g (idle_chunks_by (chunk_at s) s) (option_to_list (tail_of s)),
    lowest_home g (chunk_at s) s.home j idle,
  )

-- it is part of these, however they are weighed
abbrev pub IsAmong : Tag → List Tag → Type 0
IsAmong t ts = (g : Tag → ℕ) → g t ≤ sum_by g ts

pub among_some : (t : Tag) (ts : List Tag) → IsAmong t ts → ts ≢ []
among_some t ts among = none_weighs (λ x. 1) ts t refl (among (λ x. 1))

pub pops_among : (t : Tag) (x y : CpuCacheState) → Pops t x y → IsAmong t (cache_rounds x)
pops_among t x y (Of_loaded loaded after) g = omega (
  arith,
  sum_by-append g x.previous x.loaded,
  ap (sum_by g) loaded,
  sum_by-append g y.loaded (t ∷ []),
  sum_by-cons g t [],
)
pops_among t x y (Of_previous none previous after) g = omega (
  arith,
  sum_by-append g x.previous x.loaded,
  ap (sum_by g) previous,
  sum_by-append g y.loaded (t ∷ []),
  sum_by-cons g t [],
)

module _ (t : Tag) (x y z : CpuCacheState) (d e : DepotState) (empty : BothEmpty x) (swaps : SwapsForFull x d y e) (pops : Pops t y z) where
  pub full_among : IsAmong t (all_rounds d.full)
  full_among g = omega (
    arith,
    pops_among t y z pops g,
    sum_by-append g y.previous y.loaded,
    ap (λ (c : CpuCacheState). sum_by g c.previous) swaps.cache,
    ap (sum_by g) empty.loaded_empty,
    sum_by-flat_map g (λ (m : List Tag). m) d.full,
    ap (sum_by (λ (m : List Tag). sum_by g m)) swaps.newest,
    sum_by-append (λ (m : List Tag). sum_by g m) e.full (y.loaded ∷ []),
    sum_by-cons (λ (m : List Tag). sum_by g m) y.loaded [],
  )

  pub full_some : d.full ≢ []
  full_some none = (let n : length d.full ≡ 0 = ap length none in let m : length d.full ≡ length e.full + 1 = ap length swaps.newest ∙ length-append e.full (y.loaded ∷ []) in omega (arith, n, m))

module _ (d : Picture) (c : NumberedCpu) (found : find (is_cpu d.selected) d.cpus ≡ Some c) (index j : ℕ) (f : Focus (record { spaces = d.spaces; cpu = c.caches }) index j) (law : IsStock d.spaces) (t : Tag) (home : t.arena ≡ index) where
  -- a unit of it, as segments of the arena are counted
  abbrev unit : ℕ → ℕ → Tag → ℕ
  unit k u = of_arena k (λ x. covers_held u x.holding)

  mine : (k u : ℕ) → t.arena ≡ k → Covers t.holding.range u → unit k u t ≡ 1
  mine k u is over = ap (λ b. cond b (covers_held u t.holding) 0) ((Decides-eqb t.arena k).1 is) ∙ (counts_the_unit u t.holding.range).1.1 over

  rounds_here : all_own_rounds (caches_or_none (find (is_cpu d.selected) d.cpus)) ≡ cpu_rounds c.caches
  rounds_here = ap (λ o. all_own_rounds (caches_or_none o)) found ∙ sym (rounds_flat c.caches)

  pub own_reached : IsAmong t (own_rounds f.own) → WasReachable d index t
  own_reached among s at u over =
      let k : ℕ = s.arena.id in
      let is : t.arena ≡ k = home ∙ sym (law index s at).id in
      let rounds : List Tag = all_own_rounds (caches_or_none (find (is_cpu d.selected) d.cpus)) in
      inr (omega (
        arith,
        mine k u is over,
        among (unit k u),
        part_of_sum (λ o. sum_by (unit k u) (own_rounds o)) f.row j f.own f.own_at,
        sum_by-flat_map (unit k u) own_rounds f.row,
        part_of_sum (λ row. sum_by (unit k u) (all_own_rounds row)) c.caches index f.row f.row_at,
        sum_by-flat_map (unit k u) all_own_rounds c.caches,
        ap (sum_by (unit k u)) rounds_here,
        sum_by-filter (is_of_arena k) (λ (x : Tag). covers_held u x.holding) rounds,
        sum_by-map (covers_held u) (λ (x : Tag). x.holding) (filter (is_of_arena k) rounds),
        sum_by-append (covers_held u) (flat_map (λ (q : QuantumCacheState). holdings_of (depot_rounds q.depot)) s.caches) (held_of k rounds),
      ))

  -- the cache that stands there
  stands : (s : SpaceState) → slice_get d.spaces index ≡ Some s → slice_get s.caches j ≡ Some f.cache
  stands s at = (let both : Some s ≡ Some f.space = sym at ∙ f.at in let one : s ≡ f.space = cc in ap (λ (z : SpaceState). slice_get z.caches j) one ∙ f.among)

  pub depot_reached : IsAmong t (all_rounds f.cache.depot.full) → WasReachable d index t
  depot_reached among s at u over =
      let g : Tag → ℕ = λ x. covers_held u x.holding in
      let depot : DepotState = f.cache.depot in
      let rounds : List Tag = all_own_rounds (caches_or_none (find (is_cpu d.selected) d.cpus)) in
      inr (omega (
        arith,
        (counts_the_unit u t.holding.range).1.1 over,
        among g,
        sum_by-append g (all_rounds depot.old_full) (all_rounds depot.full ++ depot.draining),
        sum_by-append g (all_rounds depot.full) depot.draining,
        sum_by-map (covers_held u) (λ (x : Tag). x.holding) (depot_rounds depot),
        part_of_sum (λ (q : QuantumCacheState). sum_by (covers_held u) (holdings_of (depot_rounds q.depot))) s.caches j f.cache (stands s at),
        sum_by-flat_map (covers_held u) (λ (q : QuantumCacheState). holdings_of (depot_rounds q.depot)) s.caches,
        sum_by-append (covers_held u) (flat_map (λ (q : QuantumCacheState). holdings_of (depot_rounds q.depot)) s.caches) (held_of s.arena.id rounds),
      ))

  pub idle_reached : (i n : ℕ) (b : SlabState) → StandsAt i b f.cache.slab.slabs → IsLowestIdle n b.home → t.holding ≡ chunk_at b n → WasReachable d index t
  idle_reached i n b stands_at idle is s at u over = inr (omega (
    arith,
    (counts_the_unit u t.holding.range).1.1 over,
    ap (covers_held u) is,
    idle_lies f.cache.slab i n b stands_at idle (covers_held u),
    part_of_sum (λ (q : QuantumCacheState). sum_by (covers_held u) (deeds_of q.slab)) s.caches j f.cache (stands s at),
    sum_by-flat_map (covers_held u) (λ (q : QuantumCacheState). deeds_of q.slab) s.caches,
  ))
