-- An arena of which the first depots changed, one after another.
use Rattle.std.proofs.Common.{◌≡◌, ◌⊎◌, ℕ, ◌+◌, ◌<◌, ◌≤◌, Bool, true, false, cond, refl, sym, subst, ap, ◌∙◌, inl, inr, List, length, map, set, Some, Result, Ok, Err, arith}
use Rattle.std.specs.Prelude.{slice_get}
use Rattle.std.proofs.lemmas.Bool.{lt-ltb, le-ltb, cases_eq}
use Rattle.std.proofs.lemmas.Option.{slice_get_within, get_or_from_slice_get, slice_get-get_or}
use Rattle.deed_core.proofs.LawProofs.{slice_get-set, slice_get_one, slice_get_some, set_same}
use Rattle.arena_tree.specs.declared.trees.TreeArena.{TreeArena}
use Rattle.arena_tree.specs.Trees.{index_in}
use Rattle.magazine_layer.specs.declared.faults.NotGreater.{NotGreater}
use Rattle.magazine_layer.specs.Depots.{DepotState, after_resize}
use Rattle.magazine_layer.specs.Calls.{ResizeOf}
use Rattle.stock.specs.Spaces.{SpaceState, QuantumCacheState, HasCache, with_caches, with_cache, with_depot}
use Rattle.stock.specs.Steps.{OnDepot}
use Rattle.lease_proto.specs.declared.faults.ErrorWord.{ErrorWord}
use Rattle.lease_proto.specs.declared.faults.ErrorWord.TheVariants.{Size}
use Rattle.lease_proto.specs.Faults.{error_text}
use Rattle.lease_machine.specs.Operators.{HasSmaller, Resizes, with_depot_by, with_depots_by, after_rise}
use Rattle.lease_machine.specs.Picture.{Picture}
use Rattle.lease_proto.specs.Reports.{outcome_text}
use Rattle.stock_desk.specs.Depots.{ResizesAt}
use Rattle.stock_desk.proofs.FirstChanged.{first_changed, changed_here, changed_next, changed_all, changed_none, set_twice}

-- the arena with its first i depots changed so
abbrev pub partly : (DepotState → DepotState) → ℕ → SpaceState → SpaceState
partly f i s = with_caches (first_changed (with_depot_by f) i s.caches) s

-- the arena at the index is
pub record RowChanged (f : DepotState → DepotState) (k i : ℕ) (old new : List SpaceState) : Type 0 where
  pub space : SpaceState
  pub at : slice_get old k ≡ Some space
  pub after : new ≡ set old k (partly f i space)

-- none is, at first
pub row_start : (f : DepotState → DepotState) (k : ℕ) (old : List SpaceState) → k < length old → RowChanged f k 0 old old
row_start f k old within =
    let (s, at) = slice_get_some old k within in
    record { space = s; at = at; after = sym (set_same old k s at) }

module _ (f : DepotState → DepotState) (k i : ℕ) (old mid : List SpaceState) (r : RowChanged f k i old mid) where
  -- what stands there
  pub row_here : slice_get mid k ≡ Some (partly f i r.space)
  row_here = ap (λ z. slice_get z k) r.after ∙ slice_get-set old k (partly f i r.space) (slice_get_within old k r.space r.at)

  -- so many depots as there were
  pub row_has : i < length r.space.caches → HasCache mid k i
  row_has within =
      let (c, among) = slice_get_some r.space.caches i within in
      (c, record { space = partly f i r.space; at = row_here; among = changed_here (with_depot_by f) i r.space.caches ∙ among })

  -- all are, at last
  pub row_whole : i ≡ length r.space.caches → mid ≡ set old k (with_depots_by f r.space)
  row_whole all =
      r.after ∙ ap (λ cs. set old k (with_caches cs r.space)) (ap (λ n. first_changed (with_depot_by f) n r.space.caches) all ∙ changed_all (with_depot_by f) r.space.caches)

  module _ (P : DepotState → DepotState → Type 0) (new : List SpaceState) (d : OnDepot k i P mid new) where
    -- the depot that changes now is as it was
    pub row_same : partly f i r.space ≡ d.space
    row_same = slice_get_one mid k (partly f i r.space) d.space row_here d.at

    pub row_among : slice_get r.space.caches i ≡ Some d.cache
    row_among = sym (changed_here (with_depot_by f) i r.space.caches) ∙ ap (λ (s : SpaceState). slice_get s.caches i) row_same ∙ d.among

    -- one more
    pub row_more : d.depot ≡ f d.cache.depot → RowChanged f k (i + 1) old new
    row_more is = record {
      space = r.space;
      at = r.at;
      after = d.after
          ∙ ap (λ (x : DepotState). set mid k (with_cache i (with_depot x d.cache) d.space)) is
          ∙ ap (λ (s : SpaceState). set mid k (with_cache i (with_depot_by f d.cache) s)) (sym row_same)
          ∙ ap (λ (cs : List QuantumCacheState). set mid k (with_caches cs r.space)) (changed_next (with_depot_by f) i r.space.caches d.cache row_among)
          ∙ ap (λ (z : List SpaceState). set z k (partly f (i + 1) r.space)) r.after
          ∙ set_twice old k (partly f i r.space) (partly f (i + 1) r.space);
    }

-- a depot with smaller magazines rises, and any other stays
resized_rises : (m : ℕ) (d : DepotState) → d.size < m → after_rise m d ≡ after_resize m d
resized_rises m d less = ap (λ (b : Bool). cond b (after_resize m d) d) (lt-ltb d.size m less)

resized_stays : (m : ℕ) (d : DepotState) → m ≤ d.size → after_rise m d ≡ d
resized_stays m d most = ap (λ (b : Bool). cond b (after_resize m d) d) (le-ltb d.size m most)

-- none of the first i depots had smaller magazines
abbrev pub NoneSmaller : ℕ → ℕ → SpaceState → Type 0
NoneSmaller m i s = (j : ℕ) (c : QuantumCacheState) → j < i → slice_get s.caches j ≡ Some c → m ≤ c.depot.size

-- the first i depots of the arena were to rise, and whether one did
pub record RowResized (m k i : ℕ) (rose : Bool) (old new : List SpaceState) : Type 0 where
  pub row : RowChanged (after_rise m) k i old new
  pub told : ((rose ≡ true) × HasSmaller m row.space) ⊎ ((rose ≡ false) × NoneSmaller m i row.space)

pub resize_start : (m k : ℕ) (old : List SpaceState) → k < length old → RowResized m k 0 false old old
resize_start m k old within = record { row = row_start (after_rise m) k old within; told = inr (refl, λ j c below at. absurd (omega (arith, below))) }

module _ (m k i : ℕ) (rose : Bool) (old mid new : List SpaceState) (r : RowResized m k i rose old mid) where
  pub resize_rises : (x : Unit {0}) → OnDepot k i (λ a b. ResizeOf a m (Ok x) b) mid new → RowResized m k (i + 1) true old new
  unfolding row_more
  resize_rises x d =
      let among = row_among (after_rise m) k i old mid r.row (λ a b. ResizeOf a m (Ok x) b) new d in
      record {
        row = row_more (after_rise m) k i old mid r.row (λ a b. ResizeOf a m (Ok x) b) new d (d.does.1 ∙ sym (resized_rises m d.cache.depot d.does.0));
        told = inl (refl, (i, d.cache, slice_get_within r.row.space.caches i d.cache among, get_or_from_slice_get r.row.space.caches i d.cache d.cache among, d.does.0));
      }

  pub resize_stays : (x : NotGreater) → OnDepot k i (λ a b. ResizeOf a m (Err x) b) mid new → RowResized m k (i + 1) rose old new
  unfolding row_more
  resize_stays x d =
      let among = row_among (after_rise m) k i old mid r.row (λ a b. ResizeOf a m (Err x) b) new d in
      record {
        row = row_more (after_rise m) k i old mid r.row (λ a b. ResizeOf a m (Err x) b) new d (d.does.1 ∙ sym (resized_stays m d.cache.depot d.does.0));
        told = elim r.told [
          | inl one ↦ inl one
          | inr none ↦ inr (
            none.0,
            λ j c below at. elim (cases_eq j i) [
              | inl e ↦
                  let here : slice_get r.row.space.caches i ≡ Some c = ap (slice_get r.row.space.caches) (sym e) ∙ at in
                  subst (λ (c : QuantumCacheState). m ≤ c.depot.size) (slice_get_one r.row.space.caches i d.cache c among here) d.does.0
              | inr ne ↦ none.1 j c (omega (arith, below, ne)) at
            ],
          )
        ];
      }

-- what is told where all were
module _ (m k i : ℕ) (old new : List SpaceState) where
  pub resize_rose : (rose : Bool) (r : RowResized m k i rose old new) → rose ≡ true → i ≡ length r.row.space.caches → ResizesAt k m old (Ok tt) new
  resize_rose rose r so all = elim r.told [
    | inl one ↦ (r.row.space, r.row.at, one.1, row_whole (after_rise m) k i old new r.row all)
    | inr none ↦ absurd (let e : true ≡ false = sym so ∙ none.0 in cc)
  ]

  pub resize_none : (rose : Bool) (r : RowResized m k i rose old new) → rose ≡ false → i ≡ length r.row.space.caches → ResizesAt k m old (Err Size) new
  resize_none rose r so all = elim r.told [
    | inl one ↦ absurd (let e : true ≡ false = sym one.0 ∙ so in cc)
    | inr none ↦
        let s = r.row.space in
        let stays : (j : ℕ) (c : QuantumCacheState) → slice_get s.caches j ≡ Some c → m ≤ c.depot.size = λ j c at. (let within = slice_get_within s.caches j c at in none.1 j c (omega (arith, within, all)) at) in
        let same : map (with_depot_by (after_rise m)) s.caches ≡ s.caches = changed_none (with_depot_by (after_rise m)) s.caches (λ j c at. ap (λ (x : DepotState). with_depot x c) (resized_stays m c.depot (stays j c at))) in (
          s,
          r.row.at,
          (λ smaller. (let (j, c, within, is, less) = smaller in
              let most = stays j c (slice_get-get_or s.caches j c within ∙ ap Some is) in
              absurd (omega (arith, most, less)))),
          refl,
          row_whole (after_rise m) k i old new r.row all ∙ ap (λ (cs : List QuantumCacheState). set old k (with_caches cs s)) same ∙ set_same old k s r.row.at,
        )
  ]

-- the line of the operator
pub resize_told : (d : Picture) (name : List ℕ) (m k : ℕ) (tree : List TreeArena) (old new : List SpaceState) (r : Result (Unit {0}) ErrorWord) → index_in name tree ≡ Some k → ResizesAt k m old r new → d.tree ≡ tree → d.spaces ≡ old
    → Resizes name m d (outcome_text r) (record d { spaces = new })
resize_told d name m k tree old new (Ok x) found is arenas here =
    inr (inr (k, is.0, ap (index_in name) arenas ∙ found, ap (λ z. slice_get z k) here ∙ is.1, is.2, refl, ap (λ (z : List SpaceState). record d { spaces = z }) (is.3 ∙ ap (λ (z : List SpaceState). set z k (with_depots_by (after_rise m) is.0)) (sym here))))
resize_told d name m k tree old new (Err word) found is arenas here =
    inr (inl (k, is.0, ap (index_in name) arenas ∙ found, ap (λ z. slice_get z k) here ∙ is.1, is.2, ap error_text is.3, ap (λ (z : List SpaceState). record d { spaces = z }) (is.4 ∙ sym here)))
