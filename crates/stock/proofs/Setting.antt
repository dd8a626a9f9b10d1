-- What the setup of a stock leaves.
use Rattle.std.proofs.Common.{◌≡◌, ℕ, ◌+◌, ◌%◌, ◌<◌, refl, sym, subst, ap, ◌∙◌, inl, inr, List, [], ◌∷◌, ◌++◌, map, length, set, Option, Some, None, arith}
use Rattle.std.specs.Prelude.{slice_get, sum_by}
use Rattle.std.proofs.lemmas.Option.{slice_get_within}
use Rattle.std.proofs.lemmas.List.{length-map, map_push, nil_from_length}
use Rattle.std.proofs.lemmas.List.Elements.{All-nil}
use Rattle.std.proofs.lemmas.List.Sums.{sum_by_push}
use Rattle.deed_core.specs.Tag.{Tag}
use Rattle.deed_core.proofs.LawProofs.{pushed, written, slice_get_some, slice_get_one, slice_get_mapped, sum_set, set_same, map_set_same}
use Rattle.tag_arena.specs.declared.policies.Policy.{Policy}
use Rattle.tag_arena.specs.ArenaState.{IsSoundArena, empty_arena, ranges_of, direct_tag}
use Rattle.tag_arena.proofs.LawProofs.{tags_weigh}
use Rattle.std.specs.Ordering.{nat_cmp}
use Rattle.std.specs.FinMap as finmap
use Rattle.std.specs.FinMap.{entries, len-empty, len-entries}
use Rattle.deed_core.specs.Holding.{Holding}
use Rattle.arena_tree.specs.declared.limits.TheConstants.{MOST_ARENAS}
use Rattle.slab_layer.specs.Cache as slabs
use Rattle.magazine_layer.specs.Magazines.{IsSize}
use Rattle.magazine_layer.specs.Depots.{IsDepot, new_depot}
use Rattle.stock.specs.Spaces.{SpaceState, QuantumCacheState, with_caches, quantum_of, quanta_of}
use Rattle.stock.specs.Stocks.{IsRoundOf, IsQuantumCache, IsFrom, IsSpaceAt, IsStock}
use Rattle.stock.specs.Accounts as accounts
use Rattle.stock.specs.Accounts.{weight_allocated, weight_imported, slabs_in, chunks_in, rounds_in, chunks, rounds, Accounts}
use Rattle.stock.specs.Steps.{CanImportFrom, next_cache, GainsCache, new_space}
use Rattle.stock.proofs.Moving.{Opens, is_written}

-- nothing is allocated at first
no_ranges : ranges_of finmap.empty ≡ []
no_ranges = ap (map (λ (e : ℕ × Holding). e.1)) (nil_from_length (entries {R = nat_cmp} finmap.empty) (sym (len-entries {R = nat_cmp} finmap.empty) ∙ len-empty nat_cmp Holding))

-- an arena more
module _ (spaces : List SpaceState) (source : Option ℕ) (quantum : ℕ) (policy : Policy) (sound : IsSoundArena (empty_arena (length spaces) quantum policy)) (can : CanImportFrom spaces source quantum) (few : length spaces < MOST_ARENAS) where
  abbrev s : SpaceState
  s = new_space (length spaces) source quantum policy

  -- a quantum below the last is one of the old ones
  old_quantum : (p q : ℕ) → p < length spaces → slice_get (quanta_of (spaces ++ s ∷ [])) p ≡ Some q → (y : SpaceState) × (slice_get spaces p ≡ Some y) × (q ≡ quantum_of y)
  old_quantum p q lt at =
      let y = slice_get_some spaces p lt in
      let there : slice_get (quanta_of spaces ++ quantum_of s ∷ []) p ≡ Some q = ap (λ xs. slice_get xs p) (sym (map_push quantum_of spaces s)) ∙ at in (
        y.0,
        y.1,
        elim (pushed (quanta_of spaces) p (quantum_of s) q there) [
          | inl last ↦ absurd (omega (arith, last.0, lt, length-map spaces quantum_of))
          | inr old ↦ slice_get_one (quanta_of spaces) p q (quantum_of y.0) old (slice_get_mapped quantum_of spaces p y.0 y.1)
        ],
      )

  is_new : IsSpaceAt (quanta_of (spaces ++ s ∷ [])) (length spaces) s
  is_new = record {
    few = few;
    id = refl;
    sound = sound;
    imported = All-nil (IsFrom source);
    owned = λ p from. refl;
    before = λ p from. (can p from).0;
    nests = λ p q from at. (let y = old_quantum p q (can p from).0 at in ap (λ z. z % quantum) y.2 ∙ (can p from).1 y.0 y.1);
    caches = λ j c at. absurd (let none : None ≡ Some c = at in cc);
  }

  pub arena_added : IsStock spaces → IsStock (spaces ++ s ∷ [])
  arena_added stock k x at = elim (pushed spaces k s x at) [
    | inl last ↦ subst (λ z. IsSpaceAt (quanta_of (spaces ++ s ∷ [])) k z) (sym last.1) (subst (λ i. IsSpaceAt (quanta_of (spaces ++ s ∷ [])) i s) (sym last.0) is_new)
    | inr old ↦
        let is = stock k x old in
        record {
          few = is.few;
          id = is.id;
          sound = is.sound;
          imported = is.imported;
          owned = is.owned;
          before = is.before;
          nests = λ p q from there.
              let lt = is.before p from in
              let k_lt = slice_get_within spaces k x old in
              let z = old_quantum p q (omega (arith, lt, k_lt)) there in
              is.nests p q from (slice_get_mapped quantum_of spaces p z.0 z.1 ∙ ap Some (sym z.2));
          caches = is.caches;
        }
  ]

  pub arena_balances : (rest : List Tag) → Accounts spaces rest → Accounts (spaces ++ s ∷ []) rest
  arena_balances rest a = record {
    exports = λ f. omega (arith, a.exports f, sum_by_push (weight_allocated f) spaces s, sum_by_push (accounts.slabs f) spaces s, sum_by_push (weight_imported f) spaces s, nothing f);
    chunks_out = λ f. omega (arith, a.chunks_out f, sum_by_push (chunks f) spaces s, sum_by_push (rounds f) spaces s);
  }
    where
      nothing : (f : Tag → ℕ) → weight_allocated f s ≡ 0
      nothing f = tags_weigh s.arena f ∙ ap (sum_by (λ h. f (direct_tag (length spaces) h))) no_ranges

-- a cache more
module _ (spaces after : List SpaceState) (index slab_size size : ℕ) (on : GainsCache index slab_size size spaces after) where
  abbrev c : QuantumCacheState
  c = next_cache on.space slab_size size

  abbrev now : SpaceState
  now = with_caches (on.space.caches ++ c ∷ []) on.space

  pub cache_added : IsSize size → slabs.IsSoundCache c.slab → IsStock spaces → IsStock after
  cache_added sized sound stock = subst IsStock (sym on.after) all
    where
      old : IsSpaceAt (quanta_of spaces) index on.space
      old = stock index on.space on.at

      new_sound : IsDepot (new_depot size)
      new_sound = record {
        sized = sized;
        whole = All-nil (λ (m : List Tag). length m ≡ size);
        some = All-nil (λ (m : List Tag). 0 < length m);
        full_stands = omega arith;
        empty_stands = omega arith;
      }

      each : (j : ℕ) (x : QuantumCacheState) → slice_get (on.space.caches ++ c ∷ []) j ≡ Some x → IsQuantumCache index (j + 1) on.space.arena.quantum x
      each j x there = elim (pushed on.space.caches j c x there) [
        | inl last ↦
            subst (λ z. IsQuantumCache index (j + 1) on.space.arena.quantum z) (sym last.1)
            (subst (λ i. IsQuantumCache index (i + 1) on.space.arena.quantum c) (sym last.0) (record { arena = old.id; k = refl; quantum_is = refl; sound = sound; tiled = λ u. refl; depot = new_sound; rounds = All-nil (IsRoundOf index (length on.space.caches + 1) on.space.arena.quantum) }))
        | inr before ↦ old.caches j x before
      ]

      is : IsSpaceAt (quanta_of spaces) index now
      is = record { few = old.few; id = old.id; sound = old.sound; imported = old.imported; owned = old.owned; before = old.before; nests = old.nests; caches = each }

      quanta : quanta_of (set spaces index now) ≡ quanta_of spaces
      quanta = map_set_same quantum_of spaces index on.space now on.at refl

      all : IsStock (set spaces index now)
      all j x there = subst (λ qs. IsSpaceAt qs j x) (sym quanta) (elim (written spaces index j now x there) [
        | inl here ↦ subst (λ z. IsSpaceAt (quanta_of spaces) j z) (sym here.1) (subst (λ i. IsSpaceAt (quanta_of spaces) i now) (sym here.0) is)
        | inr other ↦ stock j x other.1
      ])

  pub cache_balances : (rest : List Tag) → Accounts spaces rest → Accounts after rest
  cache_balances rest a = subst (λ xs. Accounts xs rest) (sym on.after) (record {
    exports = λ f. omega (
      arith,
      a.exports f,
      sum_set (weight_allocated f) spaces index on.space now on.at,
      sum_set (weight_imported f) spaces index on.space now on.at,
      sum_set (accounts.slabs f) spaces index on.space now on.at,
      sum_by_push (slabs_in f) on.space.caches c,
    );
    chunks_out = λ f. omega (
      arith,
      a.chunks_out f,
      sum_set (chunks f) spaces index on.space now on.at,
      sum_by_push (chunks_in f) on.space.caches c,
      sum_set (rounds f) spaces index on.space now on.at,
      sum_by_push (rounds_in f) on.space.caches c,
    );
  })

-- the call
module _ (spaces items : List SpaceState) (k : ℕ) (s : SpaceState) (o : Opens spaces items k s) (cs : List QuantumCacheState) where
  abbrev here : List SpaceState
  here = set items k (with_caches cs s)

  pub same_caches : cs ≡ s.caches → here ≡ spaces
  same_caches same = ap (λ (xs : List QuantumCacheState). set items k (with_caches xs s)) same ∙ is_written spaces items k s o s ∙ set_same spaces k s o.at

  pub cache_done : (slab_size size : ℕ) → cs ≡ s.caches ++ next_cache s slab_size size ∷ [] → GainsCache k slab_size size spaces here
  cache_done slab_size size more = record {
    space = s;
    at = o.at;
    after = ap (λ (xs : List QuantumCacheState). set items k (with_caches xs s)) more ∙ is_written spaces items k s o (with_caches (s.caches ++ next_cache s slab_size size ∷ []) s);
  }

  pub cache_keeps : (slab_size size : ℕ) → cs ≡ s.caches ++ next_cache s slab_size size ∷ [] → IsSize size → slabs.IsSoundCache (next_cache s slab_size size).slab → IsStock spaces → IsStock here
  unfolding cache_done
  cache_keeps slab_size size more sized sound stock = cache_added spaces here k slab_size size (cache_done slab_size size more) sized sound stock
