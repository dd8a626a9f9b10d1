-- Which of a CPU's magazines an event changed.
use Rattle.std.proofs.Common.{◌≡◌, ◌∙◌, ◌<◌, ℕ, List, map, set, get_or, Result, Ok, Err, OnErr, refl, sym, subst, ap}
use Rattle.deed_core.proofs.LawProofs.{read_is, set_same, map_set_same}
use Rattle.magazine_layer.specs.Magazines.{MagazineState, BothFull, empty_magazine}
use Rattle.magazine_layer.specs.declared.faults.FullFault.{FullFault}
use Rattle.magazine_layer.specs.declared.faults.EmptyFault.{EmptyFault}
use Rattle.magazine_layer.specs.declared.faults.FullFault.TheVariants as fulling
use Rattle.magazine_layer.specs.declared.faults.EmptyFault.TheVariants as emptying
use Rattle.arena_tree.specs.declared.part_faults.PartFault.{PartFault}
use Rattle.arena_tree.specs.declared.part_faults.FreshFault.{FreshFault}
use Rattle.arena_tree.specs.declared.part_faults.PartFault.TheVariants as asking
use Rattle.arena_tree.specs.declared.part_faults.FreshFault.TheVariants as freshing
use Rattle.arena_tree.specs.declared.trees.TreeArena.{TreeArena}
use Rattle.arena_tree.specs.Chains.{quantum_in}
use Rattle.arena_tree.specs.Tags.{wording_of}
use Rattle.arena_tree.specs.Trees.{nodes_of}
use Rattle.locked_parts.specs.Kinds.{OwnCacheState, KindDepotState}
use Rattle.locked_parts.specs.Owns.{IsOwnAt, OnOwn, WithDepot, TakesOwn, OwnSwapsFull, OwnSwapsEmpty, OwnSwapsFresh}
use Rattle.locked_parts.specs.Swaps.{GivesFull, GivesEmpty, TakesFull}
use Rattle.locked_parts.specs.declared.kinds.CacheKind.{CacheKind}

-- r is what was read at the index where the magazines were found
module _ (arenas : List TreeArena) (arena cache : ℕ) (caches : List OwnCacheState) (index : ℕ) (h : (o : OwnCacheState) × IsOwnAt arenas arena cache caches index o) (r : OwnCacheState) (read : r ≡ get_or caches index r) where
  is_found : r ≡ h.0
  is_found = read_is caches index r h.0 read h.1.stands

  pub found_kind : 0 < r.kind.quantum → (r.kind.arena ≡ arena) × (r.kind.number ≡ cache) × (0 < r.kind.quantum) × (quantum_in (nodes_of arenas) arena ≡ r.kind.quantum)
  found_kind some =
      let kind = ap (λ (o : OwnCacheState). o.kind) is_found ∙ h.1.kind in
      (ap (λ (k : CacheKind). k.arena) kind, ap (λ (k : CacheKind). k.number) kind, some, sym (ap (λ (k : CacheKind). k.quantum) kind))

  -- it was read again
  pub same_read : (s : OwnCacheState) → s ≡ get_or caches index s → s ≡ r
  same_read s again = read_is caches index s h.0 again h.1.stands ∙ sym is_found

  -- they changed so
  pub did : (P : OwnCacheState → OwnCacheState → Type 0) (after : OwnCacheState) → P r after → after.kind ≡ r.kind → OnOwn arenas arena cache P caches (set caches index after)
  did P after does kind =
      record { index = index; own = h.0; after = after; at = h.1; does = subst (λ o. P o after) is_found does; kind = kind ∙ ap (λ (o : OwnCacheState). o.kind) is_found; rest = refl }

  -- and are for the same quantum caches still
  pub kinds_stay : (after : OwnCacheState) → after.kind ≡ r.kind → map (λ (o : OwnCacheState). o.kind) (set caches index after) ≡ map (λ (o : OwnCacheState). o.kind) caches
  kinds_stay after kind =
      map_set_same (λ (o : OwnCacheState). o.kind) caches index h.0 after h.1.stands (kind ∙ ap (λ (o : OwnCacheState). o.kind) is_found)

  -- the same was written back
  pub unwritten : (after : OwnCacheState) → after ≡ r → set caches index after ≡ caches
  unwritten after same = ap (set caches index) (same ∙ is_found) ∙ set_same caches index h.0 h.1.stands

  -- they are so, and nothing was written
  pub stayed : (P : OwnCacheState → OwnCacheState → Type 0) → P r r → OnOwn arenas arena cache P caches caches
  stayed P does = subst (OnOwn arenas arena cache P caches) (unwritten r refl) (did P r does refl)

  -- an exchange with a depot
  module _ (d d' : KindDepotState) (after : OwnCacheState) (kind : after.kind ≡ r.kind) where
    full : (a : Result (Unit {0}) FullFault) → GivesFull r d a after d' → OwnSwapsFull arenas arena cache (wording_of asking.Refused a) caches (set caches index after)
    full (Ok u) of = did (WithDepot (λ c d. GivesFull c d (Ok u))) after (d, d', of) kind
    full (Err (fulling.OldSize size)) of = did (WithDepot (λ c d. GivesFull c d (Err (fulling.OldSize size)))) after (d, d', of) kind
    full (Err fulling.NoneFull) of = unwritten after of.0.0

    pub full_did : (a : Result (Unit {0}) FullFault) (told : Result (Unit {0}) (PartFault FullFault)) → told ≡ wording_of asking.Refused a → GivesFull r d a after d' → OwnSwapsFull arenas arena cache told caches (set caches index after)
    full_did a told is of = subst (λ t. OwnSwapsFull arenas arena cache t caches (set caches index after)) (sym is) (full a of)

    empty : (a : Result (Unit {0}) EmptyFault) → GivesEmpty r d a after d' → OwnSwapsEmpty arenas arena cache (wording_of asking.Refused a) caches (set caches index after)
    empty (Ok u) of = did (WithDepot (λ c d. GivesEmpty c d (Ok u))) after (d, d', of) kind
    empty (Err (emptying.OldSize size)) of = did (WithDepot (λ c d. GivesEmpty c d (Err (emptying.OldSize size)))) after (d, d', of) kind
    empty (Err emptying.NoneEmpty) of = unwritten after of.0.0

    pub empty_did : (a : Result (Unit {0}) EmptyFault) (told : Result (Unit {0}) (PartFault EmptyFault)) → told ≡ wording_of asking.Refused a → GivesEmpty r d a after d' → OwnSwapsEmpty arenas arena cache told caches (set caches index after)
    empty_did a told is of = subst (λ t. OwnSwapsEmpty arenas arena cache t caches (set caches index after)) (sym is) (empty a of)

    fresh : (a : Result (Unit {0}) FreshFault) → TakesFull (empty_magazine r.cpu.size) r d a after d' → OwnSwapsFresh arenas arena cache (wording_of asking.Refused a) caches (set caches index after)
    fresh (Ok u) of = did (TakesOwn (Ok u)) after (d, d', of) kind
    fresh (Err (freshing.OldSize size)) of = did (TakesOwn (Err (freshing.OldSize size))) after (d, d', of) kind
    fresh (Err freshing.NotFull) of = unwritten after of.0.0
    fresh (Err freshing.NoMemory) of = did (λ c c'. BothFull c.cpu × (c' ≡ c)) after (of.2, of.0.0) kind

    pub fresh_did : (m : MagazineState) → m ≡ empty_magazine r.cpu.size → (a : Result (Unit {0}) FreshFault) (told : Result (Unit {0}) (PartFault FreshFault)) → told ≡ wording_of asking.Refused a → TakesFull m r d a after d'
        → OwnSwapsFresh arenas arena cache told caches (set caches index after)
    fresh_did m new a told is of =
        subst (λ t. OwnSwapsFresh arenas arena cache t caches (set caches index after)) (sym is) (fresh a (subst (λ x. TakesFull x r d a after d') new of))

    full_back : (a : Result (Unit {0}) FullFault) → GivesFull r d a after d' → OnErr (wording_of asking.Refused a) (set caches index after ≡ caches)
    full_back (Ok u) of = tt
    full_back (Err (fulling.OldSize size)) of = unwritten after of.0.0
    full_back (Err fulling.NoneFull) of = unwritten after of.0.0

    pub full_kept : (a : Result (Unit {0}) FullFault) (told : Result (Unit {0}) (PartFault FullFault)) → told ≡ wording_of asking.Refused a → GivesFull r d a after d' → OnErr told (set caches index after ≡ caches)
    full_kept a told is of = subst (λ t. OnErr t (set caches index after ≡ caches)) (sym is) (full_back a of)

    empty_back : (a : Result (Unit {0}) EmptyFault) → GivesEmpty r d a after d' → OnErr (wording_of asking.Refused a) (set caches index after ≡ caches)
    empty_back (Ok u) of = tt
    empty_back (Err (emptying.OldSize size)) of = unwritten after of.0.0
    empty_back (Err emptying.NoneEmpty) of = unwritten after of.0.0

    pub empty_kept : (a : Result (Unit {0}) EmptyFault) (told : Result (Unit {0}) (PartFault EmptyFault)) → told ≡ wording_of asking.Refused a → GivesEmpty r d a after d' → OnErr told (set caches index after ≡ caches)
    empty_kept a told is of = subst (λ t. OnErr t (set caches index after ≡ caches)) (sym is) (empty_back a of)

    fresh_back : (m : MagazineState) → (a : Result (Unit {0}) FreshFault) → TakesFull m r d a after d' → OnErr (wording_of asking.Refused a) (set caches index after ≡ caches)
    fresh_back m (Ok u) of = tt
    fresh_back m (Err (freshing.OldSize size)) of = unwritten after of.0.0
    fresh_back m (Err freshing.NotFull) of = unwritten after of.0.0
    fresh_back m (Err freshing.NoMemory) of = unwritten after of.0.0

    pub fresh_kept : (m : MagazineState) → (a : Result (Unit {0}) FreshFault) (told : Result (Unit {0}) (PartFault FreshFault)) → told ≡ wording_of asking.Refused a → TakesFull m r d a after d' → OnErr told (set caches index after ≡ caches)
    fresh_kept m a told is of = subst (λ t. OnErr t (set caches index after ≡ caches)) (sym is) (fresh_back m a of)
