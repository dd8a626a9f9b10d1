-- Greater magazines leave a picture of the same setup.
use Rattle.std.proofs.Common.{◌≡◌, ◌⊎◌, ℕ, ◌≤◌, ◌<◌, ◌+◌, Bool, cond, refl, sym, subst, ap, ◌∙◌, inl, inr, List, [], ◌++◌, length, set, All, Some, arith}
use Rattle.std.specs.Prelude.{slice_get, sum_by}
use Rattle.std.proofs.lemmas.Bool.{cases_lt, lt-ltb, le-ltb}
use Rattle.std.proofs.lemmas.Grind.{flat_map-append}
use Rattle.std.proofs.lemmas.List.{append_assoc}
use Rattle.std.proofs.lemmas.List.Elements.{All-append, All-nil, All-weaker}
use Rattle.deed_core.specs.Tag.{Tag}
use Rattle.deed_core.proofs.LawProofs.{mapped, written, sum_set, map_set_same}
use Rattle.magazine_layer.specs.Magazines.{IsSize}
use Rattle.magazine_layer.specs.Depots.{DepotState, IsDepot, after_resize, all_rounds, depot_rounds}
use Rattle.stock.specs.Spaces.{SpaceState, QuantumCacheState, SpacePlan, IsCacheAt, slab_size_of, plan_of, plans_of, quantum_of, quanta_of}
use Rattle.stock.specs.Stocks.{IsStock, IsSpaceAt, IsQuantumCache, IsRoundOf}
use Rattle.stock.specs.Accounts.{Frames, weight_allocated, weight_imported, slabs, slabs_in, chunks, chunks_in, rounds, rounds_in}
use Rattle.stock.specs.OwnCaches.{OwnCacheState}
use Rattle.stock_audit.specs.Accounted.{IsAccountedFor}
use Rattle.stock_audit.specs.Outside.{Outside}
use Rattle.stock_audit.proofs.LawProofs.{hand_steps_keep}
use Rattle.local_parts.specs.Cpus.{own_indexes, indexes_from}
use Rattle.lease_proto.specs.declared.operators.MagazineSize.{MagazineSize}
use Rattle.lease_proto.specs.declared.operators.MagazineSize.TheVariants as size
use Rattle.lease_proto.specs.Cpus.{IsCpu}
use Rattle.lease_proto.specs.Operators.{rounds_named}
use Rattle.lease_machine.specs.Picture.{Picture, IsPicture, IsShapedIn, SameSetup, held_outside, owned_spans}
use Rattle.lease_machine.specs.Operators.{with_depot_by, with_depots_by, after_rise}
use Rattle.lease_machine.specs.StepLaws.{ResizesKeep}
use Rattle.lease_machine.proofs.Ticking.{sums_same, maps_same, with_sizes}

module _ (m : ℕ) (taken : IsSize m) where
  -- a depot with smaller magazines rises, and any other stays
  rises_or_stays : (d : DepotState) → ((d.size < m) × (after_rise m d ≡ after_resize m d)) ⊎ (after_rise m d ≡ d)
  rises_or_stays d =
      elim (cases_lt d.size m) [
        | inl less ↦ inl (less, ap (λ (b : Bool). cond b (after_resize m d) d) (lt-ltb d.size m less))
        | inr most ↦ inr (ap (λ (b : Bool). cond b (after_resize m d) d) (le-ltb d.size m most))
      ]

  size_some : (n : ℕ) → IsSize n → 0 < n
  size_some n is = grind arith

  some_whole : (n : ℕ) (full : List (List Tag)) → IsSize n → All (λ x. length x ≡ n) full → All (λ x. 0 < length x) full
  some_whole n full is whole =
      let P : List Tag → Type 0 = λ x. length x ≡ n in
      let Q : List Tag → Type 0 = λ x. 0 < length x in
      All-weaker P Q (λ x same. let some : 0 < n = size_some n is in omega arith) full whole

  depot_stays : (d : DepotState) → IsDepot d → IsDepot (after_rise m d)
  depot_stays d is =
      let Q : List Tag → Type 0 = λ x. 0 < length x in
      elim (rises_or_stays d) [
        | inl rises ↦ subst IsDepot (sym rises.1) (record {
          sized = taken;
          whole = All-nil _;
          some = All-append Q d.old_full d.full is.some (some_whole d.size d.full is.sized is.whole);
          full_stands = omega arith;
          empty_stands = omega arith;
        })
        | inr same ↦ subst IsDepot (sym same) is
      ]

  rounds_stay : (d : DepotState) → depot_rounds (after_rise m d) ≡ depot_rounds d
  rounds_stay d = elim (rises_or_stays d) [
    | inl rises ↦ ap depot_rounds rises.1
        ∙ ap (λ (ts : List Tag). ts ++ d.draining) (flat_map-append (λ (x : List Tag). x) d.old_full d.full)
        ∙ append_assoc (all_rounds d.old_full) (all_rounds d.full) d.draining
    | inr same ↦ ap depot_rounds same
  ]

  size_grows : (d : DepotState) → d.size ≤ (after_rise m d).size
  size_grows d = elim (rises_or_stays d) [
    | inl rises ↦ let is : (after_rise m d).size ≡ m = ap (λ (x : DepotState). x.size) rises.1 in omega (arith, rises.0, is)
    | inr same ↦ let is : (after_rise m d).size ≡ d.size = ap (λ (x : DepotState). x.size) same in omega (arith, is)
  ]

  abbrev risen_cache : QuantumCacheState → QuantumCacheState
  risen_cache c = with_depot_by (after_rise m) c

  abbrev risen : SpaceState → SpaceState
  risen s = with_depots_by (after_rise m) s

  cache_stays : (index number quantum : ℕ) (c : QuantumCacheState) → IsQuantumCache index number quantum c → IsQuantumCache index number quantum (risen_cache c)
  cache_stays index number quantum c is = record {
    arena = is.arena;
    k = is.k;
    quantum_is = is.quantum_is;
    sound = is.sound;
    tiled = is.tiled;
    depot = depot_stays c.depot is.depot;
    rounds = subst (λ (ts : List Tag). All (IsRoundOf index number quantum) ts) (sym (rounds_stay c.depot)) is.rounds;
  }

  space_stays : (quanta : List ℕ) (k : ℕ) (s : SpaceState) → IsSpaceAt quanta k s → IsSpaceAt quanta k (risen s)
  space_stays quanta k s is = record {
    few = is.few;
    id = is.id;
    sound = is.sound;
    imported = is.imported;
    owned = is.owned;
    before = is.before;
    nests = is.nests;
    caches = λ j c at. (
        let n = mapped risen_cache s.caches j c at in
        subst (IsQuantumCache k (j + 1) s.arena.quantum) (sym n.2) (cache_stays k (j + 1) s.arena.quantum n.0 (is.caches j n.0 n.1))
        );
  }

  module _ (spaces : List SpaceState) (index : ℕ) (s : SpaceState) (at : slice_get spaces index ≡ Some s) where
    abbrev spaces_then : List SpaceState
    spaces_then = set spaces index (risen s)

    sums_stay : (g : SpaceState → ℕ) → g (risen s) ≡ g s → sum_by g spaces_then ≡ sum_by g spaces
    sums_stay g same = omega (arith, sum_set g spaces index s (risen s) at, same)

    plans_stay : plans_of spaces_then ≡ plans_of spaces
    plans_stay = map_set_same plan_of spaces index s (risen s) at (ap (with_sizes s) (maps_same risen_cache slab_size_of (λ c. refl) s.caches))

    quanta_stay : quanta_of spaces_then ≡ quanta_of spaces
    quanta_stay = map_set_same quantum_of spaces index s (risen s) at refl

    stock_stays : IsStock spaces → IsStock spaces_then
    stock_stays is k x here = subst (λ (qs : List ℕ). IsSpaceAt qs k x) (sym quanta_stay) (elim (written spaces index k (risen s) x here) [
      | inl this ↦ subst (IsSpaceAt (quanta_of spaces) k) (sym this.1) (space_stays (quanta_of spaces) k s (is k s (ap (slice_get spaces) this.0 ∙ at)))
      | inr other ↦ is k x other.1
    ])

    frame_stays : Frames spaces [] spaces_then []
    frame_stays rest a = record {
      exports = λ f. (
          let own = sums_stay (weight_allocated f) refl in
          let spans = sums_stay (slabs f) (sums_same risen_cache (slabs_in f) (λ c. refl) s.caches) in
          let below = sums_stay (weight_imported f) refl in
          omega (arith, a.exports f, own, spans, below)
          );
      chunks_out = λ f. (
          let out = sums_stay (chunks f) (sums_same risen_cache (chunks_in f) (λ c. refl) s.caches) in
          let kept = sums_stay (rounds f) (sums_same risen_cache (rounds_in f) (λ c. ap (sum_by f) (rounds_stay c.depot)) s.caches) in
          omega (arith, a.chunks_out f, out, kept)
          );
    }

    units_stay : (out : Outside) → IsAccountedFor spaces out → IsAccountedFor spaces_then out
    units_stay out is = hand_steps_keep spaces spaces_then [] [] out out is
        (record { stock = stock_stays is.parts; frame = frame_stays; fixed = plans_stay })
        (record { rest = out.hands; gave = λ f. refl; took = λ f. refl; leases = refl; cpus = refl })

    cache_then : (k j : ℕ) (c : QuantumCacheState) → IsCacheAt spaces_then k j c → (x : QuantumCacheState) × IsCacheAt spaces k j x × (x.depot.size ≤ c.depot.size)
    cache_then k j c is = elim (written spaces index k (risen s) is.space is.at) [
      | inl this ↦
          let among : slice_get (risen s).caches j ≡ Some c = ap (λ (y : SpaceState). slice_get y.caches j) (sym this.1) ∙ is.among in
          let n = mapped risen_cache s.caches j c among in
          let grows : n.0.depot.size ≤ c.depot.size = subst (λ (x : QuantumCacheState). n.0.depot.size ≤ x.depot.size) (sym n.2) (size_grows n.0.depot) in
          (n.0, record { space = s; at = ap (slice_get spaces) this.0 ∙ at; among = n.1 }, grows)
      | inr other ↦ (c, record { space = is.space; at = other.1; among = is.among }, omega arith)
    ]

    shape_stays : (o : OwnCacheState) → IsShapedIn spaces o → IsShapedIn spaces_then o
    shape_stays o is = record {
      shape = is.shape;
      most = λ c here. (
          let x = cache_then o.arena o.cache c here in
          omega (arith, is.most x.0 x.1, x.2)
          );
    }

  module _ (d : Picture) (is : IsPicture d) (index : ℕ) (s : SpaceState) (at : slice_get d.spaces index ≡ Some s) where
    picture_stays : IsPicture (record d { spaces = spaces_then d.spaces index s at })
    picture_stays = record {
      held = record {
        tree = is.held.tree;
        plans = plans_stay d.spaces index s at ∙ is.held.plans;
        units = units_stay d.spaces index s at (held_outside d) is.held.units;
        cpus = record {
          each = subst (λ (ps : List SpacePlan). All (λ c. IsCpu c.number × (own_indexes c.caches ≡ indexes_from 0 ps)) d.cpus) (sym (plans_stay d.spaces index s at)) is.held.cpus.each;
          shapes = λ i c below j o within. shape_stays d.spaces index s at _ (is.held.cpus.shapes i c below j o within);
          numbers = is.held.cpus.numbers;
          there = is.held.cpus.there;
        };
      };
      book = is.book;
    }

    setup_stays : SameSetup d (record d { spaces = spaces_then d.spaces index s at })
    setup_stays = record { tree = refl; owned = map_set_same owned_spans d.spaces index s (risen s) at refl }

is_size : (z : MagazineSize) → IsSize (rounds_named z)
is_size size.Three = inl refl
is_size size.Seven = inr (inl refl)
is_size size.Fifteen = inr (inr (inl refl))
is_size size.ThirtyOne = inr (inr (inr refl))

abbrev Keeps : Picture → Picture → Type 0
Keeps old new = IsPicture new × SameSetup old new

nothing_moves : (old new : Picture) → IsPicture old → new ≡ old → Keeps old new
nothing_moves old new is same = subst (Keeps old) (sym same) (is, record { tree = refl; owned = refl })

pub resizes_keep : ResizesKeep
resizes_keep old new r text is does = elim does [
  | inl none ↦ nothing_moves old new is none.2
  | inr some ↦ elim some [
    | inl great ↦ nothing_moves old new is great.6
    | inr rises ↦
        let m = rounds_named r.size in
        subst (Keeps old) (sym rises.6) (picture_stays m (is_size r.size) old is rises.0 rises.1 rises.3, setup_stays m (is_size r.size) old is rises.0 rises.1 rises.3)
  ]
]
