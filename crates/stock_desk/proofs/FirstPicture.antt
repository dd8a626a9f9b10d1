-- What a setup opens is a stock of which nothing is out, and with a first CPU a picture.
use Rattle.std.proofs.Common.{◌≡◌, ℕ, suc, zero, ◌+◌, ◌*◌, ◌/◌, ◌%◌, ◌<◌, ◌≤◌, refl, sym, subst, ap, ◌∙◌, inl, List, [], ◌∷◌, map, length, replicate, All, AllPairs, Option, Some, None, arith}
use Rattle.std.specs.Prelude.{slice_get, sum_by, IfSome}
use Rattle.std.proofs.Math.Nat.{mul-le-mul_right, div-mul-le_self, mod_self, zero-mod}
use Rattle.std.proofs.lemmas.List.{length-map, length-replicate}
use Rattle.std.proofs.lemmas.List.Elements.{All-nil}
use Rattle.std.proofs.lemmas.Option.{slice_get_within}
use Rattle.deed_core.specs.Holding.{Holding}
use Rattle.deed_core.specs.Tag.{Tag}
use Rattle.deed_core.proofs.LawProofs.{mapped, power_some, slice_get_mapped, slice_get_one, smaller_power_divides, sum_none}
use Rattle.tag_arena.specs.ArenaState.{ArenaState, IsSoundArena, direct_tag, tags_of}
use Rattle.slab_layer.specs.Cache.{IsSoundCache, IsOfSize, IsOnGrid}
use Rattle.magazine_layer.specs.Depots.{IsDepot, new_depot}
use Rattle.arena_tree.specs.declared.trees.TreeArena.{TreeArena}
use Rattle.arena_tree.specs.Settings.{SetupState, Clash, IsOwned}
use Rattle.arena_tree.specs.Trees.{IsArena, IsTree, ImportsFrom}
use Rattle.stock.specs.Accounts.{IsAccounted, weight_allocated, weight_imported, slabs_in, chunks_in, rounds_in, slabs, chunks, rounds}
use Rattle.stock.specs.Setups.{IsSetUpFrom, deeds_owned, numbered_deeds, plan_for, unused_arena}
use Rattle.stock.specs.Spaces.{SpaceState, QuantumCacheState, SpacePlan, plan_of, quantum_of, quanta_of, slab_size_of}
use Rattle.stock.specs.Steps.{new_cache}
use Rattle.stock.specs.Stocks.{IsFrom, IsQuantumCache, IsRoundOf, IsSpaceAt}
use Rattle.lease_machine.specs.Picture.{IsPicture}
use Rattle.stock_desk.specs.Openings.{OpenedIsPicture}
use Rattle.stock_desk.proofs.Opening.{begins_picture}
use Rattle.stock_desk.proofs.OwnSpans.{own_apart, own_whole, root_owns}
use Rattle.stock_desk.proofs.SoundSpans.{no_ranges, unused_sound}

no_first : {X : Type 0} (xs : List X) → ((x : X) → slice_get xs 0 ≡ Some x → ⊥) → xs ≡ []
no_first [] none = refl
no_first (x ∷ xs) none = absurd (none x refl)

-- what stands in so many copies is the one
one_copy : {X : Type 0} (n : ℕ) (x : X) (xs : List X) → xs ≡ replicate n x → (j : ℕ) (y : X) → slice_get xs j ≡ Some y → y ≡ x
one_copy n x [] are j y at = absurd (let e : None ≡ Some y = at in cc)
one_copy zero x (z ∷ xs) are j y at = absurd (let e : z ∷ xs ≡ [] = are in cc)
one_copy (suc n) x (z ∷ xs) are zero y at =
    let e : z ∷ xs ≡ x ∷ replicate n x = are in
    let f : Some z ≡ Some y = at in
    cc
one_copy (suc n) x (z ∷ xs) are (suc j) y at =
    let e : z ∷ xs ≡ x ∷ replicate n x = are in
    let rest : xs ≡ replicate n x = cc in
    one_copy n x xs rest j y at

-- a source stands before, with a quantum no smaller
import_is : (arenas : List TreeArena) (k p : ℕ) (x : TreeArena) (o : Option ℕ) → o ≡ Some p → IfSome o (ImportsFrom arenas k x) → ImportsFrom arenas k x p
import_is arenas k p x None is from = absurd (let e : None ≡ Some p = is in cc)
import_is arenas k p x (Some q) is from = (let same : q ≡ p = (let e : Some q ≡ Some p = is in cc) in subst (ImportsFrom arenas k x) same from)

-- a cache as it is made
module _ (k number quantum slab_size : ℕ) (some : 0 < quantum) (one : 0 < number) (room : number * quantum ≤ slab_size) where
  abbrev made : QuantumCacheState
  made = new_cache k number quantum slab_size 3

  made_sound : IsSoundCache made.slab
  made_sound = record {
    some = (let more : 1 * quantum ≤ number * quantum = mul-le-mul_right quantum (omega (arith, one)) in omega (arith, more, some));
    room = room;
    colour = omega arith;
    whole = zero-mod quantum;
    slabs = All-nil (IsOfSize slab_size (number * quantum));
    grid = All-nil (IsOnGrid quantum);
    ascending = λ i j d lt within. absurd (omega (arith, within));
  }

  made_depot : IsDepot (new_depot 3)
  made_depot = record {
    sized = inl refl;
    whole = All-nil (λ (m : List Tag). length m ≡ 3);
    some = All-nil (λ (m : List Tag). 0 < length m);
    full_stands = omega arith;
    empty_stands = omega arith;
  }

  made_cache : IsQuantumCache k number quantum made
  made_cache = record {
    arena = refl;
    k = refl;
    quantum_is = refl;
    sound = made_sound;
    tiled = λ u. refl;
    depot = made_depot;
    rounds = All-nil (IsRoundOf k number quantum);
  }

module _ (setup : SetupState) (tree : IsTree setup.arenas) (owned : All (IsOwned setup.arenas) setup.spans) (apart : AllPairs (λ a b. ¬ Clash a b) setup.spans) (spaces : List SpaceState) (up : IsSetUpFrom setup (numbered_deeds setup.spans) 3 spaces) where
  abbrev own : ℕ → List Holding
  own k = deeds_owned k setup.spans (numbered_deeds setup.spans)

  -- the arena that stands at the index
  planned : (k : ℕ) (s : SpaceState) → slice_get spaces k ≡ Some s → (x : TreeArena) × (slice_get setup.arenas k ≡ Some x) × (plan_of s ≡ plan_for x)
  planned k s at = mapped plan_for setup.arenas k (plan_of s) (ap (λ (ps : List SpacePlan). slice_get ps k) (sym up.plans) ∙ slice_get_mapped plan_of spaces k s at)

  module _ (k : ℕ) (s : SpaceState) (at : slice_get spaces k ≡ Some s) where
    abbrev x : TreeArena
    x = (planned k s at).0

    here : slice_get setup.arenas k ≡ Some x
    here = (planned k s at).1

    plan : plan_of s ≡ plan_for x
    plan = (planned k s at).2

    arena_is : IsArena setup.arenas k x
    arena_is = tree.each k x here

    unit : s.arena.quantum ≡ x.quantum
    unit = ap (λ (p : SpacePlan). p.quantum) plan

    source : s.source ≡ x.source
    source = ap (λ (p : SpacePlan). p.source) plan

    arena_of : s.arena ≡ unused_arena k s.arena.quantum s.arena.policy (own k)
    arena_of = (up.unused k s at).arena

    sound : IsSoundArena s.arena
    sound =
        subst IsSoundArena (sym arena_of)
        (subst (λ (n : ℕ). IsSoundArena (unused_arena k n s.arena.policy (own k))) (sym unit)
        (unused_sound x.quantum (own k) (own_whole setup.arenas setup.spans owned apart k x here) (own_apart setup.arenas setup.spans owned apart k x here) k s.arena.policy arena_is.power))

    imported_none : s.arena.imported ≡ []
    imported_none = ap (λ (a : ArenaState). a.imported) arena_of

    imports : (p : ℕ) → s.source ≡ Some p → ImportsFrom setup.arenas k x p
    imports p from = import_is setup.arenas k p x x.source (sym source ∙ from) arena_is.source

    owns_none : (p : ℕ) → s.source ≡ Some p → s.arena.owned ≡ []
    owns_none p from =
        let none : own k ≡ [] = no_first (own k) (λ h first. (let root = root_owns setup.arenas setup.spans owned apart k x here 0 h first in let e : None ≡ Some p = sym root ∙ (sym source ∙ from) in cc)) in
        ap (λ (a : ArenaState). a.owned) arena_of ∙ none

    nests : (p q : ℕ) → s.source ≡ Some p → slice_get (quanta_of spaces) p ≡ Some q → q % s.arena.quantum ≡ 0
    nests p q from there =
        let y = mapped quantum_of spaces p q there in
        let above = planned p y.0 y.1 in
        let asked = imports p from in
        let one : asked.1.0 ≡ above.0 = slice_get_one setup.arenas p asked.1.0 above.0 asked.1.1 above.1 in
        let wide : x.quantum ≤ above.0.quantum = subst (λ (z : TreeArena). x.quantum ≤ z.quantum) one asked.1.2 in
        let is : q ≡ above.0.quantum = y.2 ∙ ap (λ (p : SpacePlan). p.quantum) above.2 in
        let power = (tree.each p above.0 above.1).power in
        let whole : above.0.quantum % x.quantum ≡ 0 = smaller_power_divides x.quantum above.0.quantum above.0.quantum arena_is.power power wide (mod_self above.0.quantum) in
        subst (λ (n : ℕ). n % s.arena.quantum ≡ 0) (sym is) (subst (λ (n : ℕ). above.0.quantum % n ≡ 0) (sym unit) whole)

    -- each of its caches has slabs with room for a chunk
    cache_at : (j : ℕ) (c : QuantumCacheState) → slice_get s.caches j ≡ Some c → IsQuantumCache k (j + 1) s.arena.quantum c
    cache_at j c among =
        let sizes : map slab_size_of s.caches ≡ replicate (x.qcache_max / x.quantum) x.slab_size = ap (λ (p : SpacePlan). p.slab_sizes) plan in
        let count : length s.caches ≡ x.qcache_max / x.quantum = sym (length-map s.caches slab_size_of) ∙ (ap (λ (ns : List ℕ). length ns) sizes ∙ length-replicate (x.qcache_max / x.quantum) x.slab_size) in
        let size : c.slab.slab_size ≡ x.slab_size = one_copy (x.qcache_max / x.quantum) x.slab_size (map slab_size_of s.caches) sizes j c.slab.slab_size (slice_get_mapped slab_size_of s.caches j c among) in
        let within = slice_get_within s.caches j c among in
        let some : 0 < x.quantum = power_some x.quantum arena_is.power in
        let more : (j + 1) * x.quantum ≤ x.qcache_max / x.quantum * x.quantum = mul-le-mul_right x.quantum (omega (arith, within, count)) in
        let most : (j + 1) * x.quantum ≤ x.qcache_max = (let le = div-mul-le_self x.qcache_max x.quantum in omega (arith, more, le)) in
        let least : 1 * x.quantum ≤ (j + 1) * x.quantum = mul-le-mul_right x.quantum (omega arith) in
        let next = (arena_is.caches.2.1 (λ none. omega (arith, none, most, least, some))).1 in
        let room : (j + 1) * x.quantum ≤ x.slab_size = omega (arith, most, next) in
        let is : c ≡ new_cache k (j + 1) s.arena.quantum c.slab.slab_size 3 = (up.unused k s at).caches j c among ∙ ap (λ (i : ℕ). new_cache i (j + 1) s.arena.quantum c.slab.slab_size 3) (ap (λ (a : ArenaState). a.id) arena_of) in
        subst (λ (z : QuantumCacheState). IsQuantumCache k (j + 1) s.arena.quantum z) (sym is)
        (subst (λ (n : ℕ). IsQuantumCache k (j + 1) s.arena.quantum (new_cache k (j + 1) s.arena.quantum n 3)) (sym size)
        (subst (λ (n : ℕ). IsQuantumCache k (j + 1) n (new_cache k (j + 1) n x.slab_size 3)) (sym unit)
        (made_cache k (j + 1) x.quantum x.slab_size some (omega arith) room)))

    space_at : IsSpaceAt (quanta_of spaces) k s
    space_at = record {
      few = omega (arith, slice_get_within setup.arenas k x here, tree.few);
      id = ap (λ (a : ArenaState). a.id) arena_of;
      sound = sound;
      imported = subst (λ (ts : List Tag). All (IsFrom s.source) ts) (sym imported_none) (All-nil (IsFrom s.source));
      owned = owns_none;
      before = λ p from. (imports p from).0;
      nests = nests;
      caches = cache_at;
    }

    -- nothing of it weighs
    allocated_none : (f : Tag → ℕ) → weight_allocated f s ≡ 0
    allocated_none f = ap (λ (a : ArenaState). sum_by f (tags_of a)) arena_of ∙ ap (λ (hs : List Holding). sum_by f (map (direct_tag k) hs)) no_ranges

    cache_new : (j : ℕ) (c : QuantumCacheState) → slice_get s.caches j ≡ Some c → c ≡ new_cache s.arena.id (j + 1) s.arena.quantum c.slab.slab_size 3
    cache_new = (up.unused k s at).caches

    slabs_none : (f : Tag → ℕ) → slabs f s ≡ 0
    slabs_none f = sum_none (slabs_in f) s.caches (λ j c among. ap (slabs_in f) (cache_new j c among))

    chunks_none : (f : Tag → ℕ) → chunks f s ≡ 0
    chunks_none f = sum_none (chunks_in f) s.caches (λ j c among. ap (chunks_in f) (cache_new j c among))

    rounds_none : (f : Tag → ℕ) → rounds f s ≡ 0
    rounds_none f = sum_none (rounds_in f) s.caches (λ j c among. ap (rounds_in f) (cache_new j c among))

  set_up_accounted : IsAccounted spaces []
  set_up_accounted = record {
    stock = space_at;
    accounts = record {
      exports = λ f. omega (
        arith,
        sum_none (weight_allocated f) spaces (λ k s at. allocated_none k s at f),
        sum_none (slabs f) spaces (λ k s at. slabs_none k s at f),
        sum_none (weight_imported f) spaces (λ k s at. ap (sum_by f) (imported_none k s at)),
      );
      chunks_out = λ f. omega (arith, sum_none (chunks f) spaces (λ k s at. chunks_none k s at f), sum_none (rounds f) spaces (λ k s at. rounds_none k s at f));
    };
  }

pub opened_is_picture : OpenedIsPicture
opened_is_picture setup d tree owned apart is =
    let accounted = set_up_accounted setup tree owned apart d.spaces is.stock in
    let first : IsPicture (record d { selected = 0 }) = begins_picture setup (numbered_deeds setup.spans) d.spaces is.stock d.tree d.cpus d.book is.tree is.cpus is.book tree accounted in
    subst (λ (n : ℕ). IsPicture (record d { selected = n })) (sym is.selected) first
