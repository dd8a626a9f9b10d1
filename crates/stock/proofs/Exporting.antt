-- What the accounts say of a Direct segment that is out: it stands allocated in the arena that it
-- names, beside what that arena's children imported and its slabs are cut from.
use Rattle.std.proofs.Common.{get_or, ◌≡◌, ◌≢◌, ℕ, ◌+◌, ◌%◌, ◌<◌, ◌≤◌, true, false, cond, nat_eq, refl, sym, subst, ap, ◌∙◌, List, ◌∷◌, ◌++◌, map, Any, Contains, Some, arith}
use Rattle.std.specs.Prelude.{slice_get, sum_by}
use Rattle.std.proofs.Math.Nat.{mod-mod_of_dvd, dvd_of_mod-eq-zero, zero-mod}
use Rattle.std.proofs.lemmas.Bool.Decides.{nat_tests}
use Rattle.std.proofs.lemmas.Option.{slice_get-get_or}
use Rattle.std.proofs.lemmas.List.Elements.{All-contains}
use Rattle.std.proofs.lemmas.List.Sums.{sum_by-cons}
use Rattle.deed_core.specs.Extent.{Overlap}
use Rattle.deed_core.specs.Holding.{Holding}
use Rattle.deed_core.specs.Tag.{Tag}
use Rattle.deed_core.specs.Covering.{covers_tag}
use Rattle.deed_core.specs.Weights.{of_direct, of_arena, one_at}
use Rattle.deed_core.specs.declared.segments.Route.TheVariants.{Direct}
use Rattle.deed_core.proofs.LawProofs.{contains_at, overlap_covers_twice, counts_where_it_is, one_at_itself, sum_some, sum_at, sum_none, part_of_sum, contained_in_sum, mapped_contains, contains_mapped, slice_get_mapped, slice_get_one}
use Rattle.tag_arena.specs.ArenaState.{ArenaState, spans_of, ranges_of, tags_of, direct_tag, OnQuantum}
use Rattle.tag_arena.proofs.LawProofs.{allocated_stand, tags_weigh, spans_once}
use Rattle.slab_layer.specs.Slab.{SlabState}
use Rattle.slab_layer.specs.Cache.{span_tag, span_tags}
use Rattle.slab_layer.specs.Calls.{OverlapsSlab}
use Rattle.tag_arena.specs.Calls.{IsClear}
use Rattle.stock.specs.Spaces.{SpaceState, QuantumCacheState, quantum_of, quanta_of}
use Rattle.stock.specs.Stocks.{IsFrom, IsSpaceAt, IsStock}
use Rattle.stock.specs.Accounts.{weight_allocated, weight_imported, slabs_in, slabs, Accounts}
use Rattle.stock.specs.Steps.{IsTaggedIn}
use Rattle.stock.proofs.Members.{direct_weighs}

-- the tags of an arena are its own
own_tag : (a : ArenaState) (t : Tag) → Contains (tags_of a) t → t.arena ≡ a.id
own_tag a t has = (let there = mapped_contains (direct_tag a.id) (ranges_of a.allocated) t has in ap (λ (x : Tag). x.arena) there.2)

-- a weight of one arena's segments
pub arena_here : (p : ℕ) (f : Tag → ℕ) (t : Tag) → t.arena ≡ p → of_arena p f t ≡ f t
arena_here p f t is = (let test : nat_eq t.arena p ≡ true = grind (arith, nat_tests) in ap (λ b. cond b (f t) 0) test)

pub arena_there : (p : ℕ) (f : Tag → ℕ) (t : Tag) → t.arena ≢ p → of_arena p f t ≡ 0
arena_there p f t other = (let test : nat_eq t.arena p ≡ false = grind (arith, nat_tests) in ap (λ b. cond b (f t) 0) test)

-- what an arena has allocated weighs in it and nowhere else
allocated_here : (p : ℕ) (f : Tag → ℕ) (s : SpaceState) → s.arena.id ≡ p → weight_allocated (of_arena p f) s ≡ weight_allocated f s
allocated_here p f s is =
    let test : nat_eq s.arena.id p ≡ true = grind (arith, nat_tests) in
    tags_weigh s.arena (of_arena p f) ∙ ap (λ b. sum_by (λ (h : Holding). cond b (f (direct_tag s.arena.id h)) 0) (ranges_of s.arena.allocated)) test ∙ sym (tags_weigh s.arena f)

allocated_there : (p : ℕ) (f : Tag → ℕ) (s : SpaceState) → s.arena.id ≢ p → weight_allocated (of_arena p f) s ≡ 0
allocated_there p f s other =
    let test : nat_eq s.arena.id p ≡ false = grind (arith, nat_tests) in
    tags_weigh s.arena (of_arena p f) ∙ ap (λ b. sum_by (λ (h : Holding). cond b (f (direct_tag s.arena.id h)) 0) (ranges_of s.arena.allocated)) test
    ∙ sum_none (λ (h : Holding). 0) (ranges_of s.arena.allocated) (λ j x at. refl)

module _ (spaces : List SpaceState) (stock : IsStock spaces) where
  -- of all that is allocated, one arena's
  pub allocated_of : (p : ℕ) (s : SpaceState) (f : Tag → ℕ) → slice_get spaces p ≡ Some s → sum_by (weight_allocated (of_arena p f)) spaces ≡ weight_allocated f s
  allocated_of p s f at = sum_at (weight_allocated (of_arena p f)) spaces p s at (λ j y there ne. allocated_there p f y (λ e. ne (sym (stock j y there).id ∙ e))) ∙ allocated_here p f s (stock p s at).id

  -- a segment that weighs among what is allocated stands in its arena
  tagged_by : (t : Tag) → 0 < sum_by (weight_allocated (one_at t)) spaces → IsTaggedIn spaces t
  tagged_by t some =
      let found = sum_some (weight_allocated (one_at t)) spaces some in
      let has : Contains (tags_of found.1.arena) t = (counts_where_it_is t (tags_of found.1.arena)).0 found.3 in
      let home : t.arena ≡ found.0 = own_tag found.1.arena t has ∙ (stock found.0 found.1 found.2).id in
      record {
        space = found.1;
        at = ap (slice_get spaces) home ∙ found.2;
        tagged = (allocated_stand found.1.arena t (stock found.0 found.1 found.2).sound).0 has;
      }

  -- it has units, and is in whole quanta of its arena
  pub tagged_grid : (t : Tag) (in_t : IsTaggedIn spaces t) → (0 < t.holding.range.len) × OnQuantum in_t.space.arena.quantum t.holding.range
  tagged_grid t in_t =
      let sound = (stock t.arena in_t.space in_t.at).sound in
      ((sound.divided.whole.tags_inside t.holding.range.base t.holding in_t.tagged.stands).1, sound.divided.tag_grid t.holding.range.base t.holding in_t.tagged.stands)

  -- no unit of an arena is in two segments that it allocated
  allocated_once : (s : SpaceState) (k : ℕ) → slice_get spaces k ≡ Some s → (u : ℕ) → sum_by (covers_tag u) (tags_of s.arena) ≤ 1
  allocated_once s k at u =
      let sound = (stock k s at).sound in
      omega (arith, sound.divided.covers u, spans_once s.arena sound u, tags_weigh s.arena (covers_tag u))

  module _ (out : List Tag) (accounts : Accounts spaces out) where
    -- what a child imported is allocated in its source
    pub imported_tagged : (k : ℕ) (s : SpaceState) → slice_get spaces k ≡ Some s → (x : Tag) → Contains s.arena.imported x → IsTaggedIn spaces x
    imported_tagged k s at x has =
        let one = one_at_itself x in
        tagged_by x (omega (
          arith,
          one,
          accounts.exports (one_at x),
          contained_in_sum (one_at x) s.arena.imported x has,
          part_of_sum (weight_imported (one_at x)) spaces k s at,
        ))

    -- so is the span of each slab
    pub slab_tagged : (k : ℕ) (s : SpaceState) (j : ℕ) (c : QuantumCacheState) → slice_get spaces k ≡ Some s → slice_get s.caches j ≡ Some c → (x : Tag) → Contains (span_tags c.slab) x → IsTaggedIn spaces x
    slab_tagged k s j c at among x has =
        let one = one_at_itself x in
        tagged_by x (omega (
          arith,
          one,
          accounts.exports (one_at x),
          contained_in_sum (one_at x) (span_tags c.slab) x has,
          part_of_sum (slabs_in (one_at x)) s.caches j c among,
          part_of_sum (slabs (one_at x)) spaces k s at,
        ))

  module _ (t : Tag) (rest : List Tag) (route : t.route ≡ Direct) (accounts : Accounts spaces (t ∷ rest)) where
    -- what is out is allocated, beside what children imported and slabs are cut from
    beside : (f : Tag → ℕ) → f t + sum_by (slabs f) spaces + sum_by (weight_imported f) spaces ≤ sum_by (weight_allocated f) spaces
    beside f = omega (arith, accounts.exports f, direct_weighs f t route, sum_by-cons (of_direct f) t rest)

    pub out_tagged : IsTaggedIn spaces t
    out_tagged = (let one = one_at_itself t in tagged_by t (omega (arith, one, beside (one_at t))))

    -- it is on its arena's grid
    pub on_grid_of : (s : SpaceState) → slice_get spaces t.arena ≡ Some s → t.holding.range.base % s.arena.quantum ≡ 0
    on_grid_of s at =
        let in_t = out_tagged in
        subst (λ (x : SpaceState). t.holding.range.base % x.arena.quantum ≡ 0) (slice_get_one spaces t.arena in_t.space s in_t.at at) (tagged_grid t in_t).1.0

    -- no unit of it is in another segment that weighs beside it
    apart_from : (x : Tag) → x.arena ≡ t.arena → 0 < x.holding.range.len → ((f : Tag → ℕ) → f t + f x ≤ sum_by (weight_allocated f) spaces) → ¬ Overlap x.holding.range t.holding.range
    apart_from x home some both overlap =
        let in_t = out_tagged in
        let twice = (overlap_covers_twice x.holding.range t.holding.range some (tagged_grid t in_t).0).0 overlap in
        omega (
          arith,
          twice.1,
          both (of_arena t.arena (covers_tag twice.0)),
          arena_here t.arena (covers_tag twice.0) t refl,
          arena_here t.arena (covers_tag twice.0) x home,
          allocated_of t.arena in_t.space (covers_tag twice.0) in_t.at,
          allocated_once in_t.space t.arena in_t.at twice.0,
        )

    module _ (child : ℕ) (c : SpaceState) (at : slice_get spaces child ≡ Some c) (source : c.source ≡ Some t.arena) where
      is : IsSpaceAt (quanta_of spaces) child c
      is = stock child c at

      -- no span that the child has overlaps it
      pub clear_of_child : Any (λ s. Overlap s.range t.holding.range) (spans_of c.arena) → ⊥
      clear_of_child any =
          let spans : spans_of c.arena ≡ map (λ (x : Tag). x.holding) c.arena.imported = ap (λ (os : List Holding). os ++ map (λ (x : Tag). x.holding) c.arena.imported) (is.owned t.arena source) in
          let one = subst (λ (xs : List Holding). Any (λ s. Overlap s.range t.holding.range) xs) spans any in
          let found = mapped_contains (λ (x : Tag). x.holding) c.arena.imported one.1 (one.0, one.2, one.3) in
          alone found.0 found.1 (subst (λ (h : Holding). Overlap h.range t.holding.range) found.2 one.4)
        where
          alone : (x : Tag) → Contains c.arena.imported x → ¬ Overlap x.holding.range t.holding.range
          alone x has = apart_from x (subst (λ o. IsFrom o x) source (All-contains (IsFrom c.source) c.arena.imported x is.imported has))
              (tagged_grid x (imported_tagged (t ∷ rest) accounts child c at x has)).0
              (λ f. omega (arith, beside f, contained_in_sum f c.arena.imported x has, part_of_sum (weight_imported f) spaces child c at))

      pub clear_for_child : IsClear c.arena t.holding.range
      clear_for_child i d within overlap =
          let xs : List Holding = spans_of c.arena in
          let has = contains_at xs i (get_or xs i d) (slice_get-get_or xs i d within) in
          clear_of_child (has.0, get_or xs i d, has.1, has.2, overlap)

      -- and it is in whole quanta of the child
      pub aligned_for_child : OnQuantum c.arena.quantum t.holding.range
      aligned_for_child = (on t.holding.range.base grid.0, on t.holding.range.len grid.1)
        where
          in_t : IsTaggedIn spaces t
          in_t = out_tagged

          grid : OnQuantum in_t.space.arena.quantum t.holding.range
          grid = (tagged_grid t in_t).1

          on : (n : ℕ) → n % in_t.space.arena.quantum ≡ 0 → n % c.arena.quantum ≡ 0
          on n e = multiple n in_t.space.arena.quantum c.arena.quantum e (is.nests t.arena in_t.space.arena.quantum source (slice_get_mapped quantum_of spaces t.arena in_t.space in_t.at))
            where
              multiple : (a b d : ℕ) → a % b ≡ 0 → b % d ≡ 0 → a % d ≡ 0
              multiple a b d x y = sym (mod-mod_of_dvd d a (dvd_of_mod-eq-zero d y)) ∙ ap (λ m. m % d) x ∙ zero-mod d

    -- no slab of a cache of its arena overlaps it
    pub clear_of_slabs : (s : SpaceState) (j : ℕ) (c : QuantumCacheState) → slice_get spaces t.arena ≡ Some s → slice_get s.caches j ≡ Some c → ¬ OverlapsSlab t c.slab
    clear_of_slabs s j c at among any =
        let home : c.slab.arena ≡ t.arena = ((stock t.arena s at).caches j c among).arena in
        let has : Contains (span_tags c.slab) (span_tag c.slab.arena any.1) = contains_map any.1 (any.0, any.2, any.3) in
        apart_from (span_tag c.slab.arena any.1) home
        (tagged_grid (span_tag c.slab.arena any.1) (slab_tagged (t ∷ rest) accounts t.arena s j c at among (span_tag c.slab.arena any.1) has)).0
        (λ f. omega (arith, beside f, contained_in_sum f (span_tags c.slab) (span_tag c.slab.arena any.1) has, part_of_sum (slabs_in f) s.caches j c among, part_of_sum (slabs f) spaces t.arena s at))
        any.4
      where
        contains_map : (x : SlabState) → Contains c.slab.slabs x → Contains (span_tags c.slab) (span_tag c.slab.arena x)
        contains_map x has = contains_mapped (span_tag c.slab.arena) c.slab.slabs x has
