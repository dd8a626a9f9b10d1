-- What stands among a CPU's caches.
use Rattle.std.proofs.Common.{◌≡◌, ◌⊎◌, ℕ, ◌+◌, ◌<◌, zero, suc, List, [], ◌∷◌, ◌++◌, Option, Some, None, length, map, set, inl, inr, refl, sym, ap, subst, ◌∙◌, arith}
use Rattle.std.specs.Prelude.{slice_get}
use Rattle.std.proofs.lemmas.List.{length-map}
use Rattle.deed_core.specs.Tag.{Tag}
use Rattle.deed_core.proofs.LawProofs.{mapped, slice_get_mapped, slice_get_one, slice_get_some, written}
use Rattle.magazine_layer.specs.Calls.{PopOf}
use Rattle.magazine_layer.specs.Magazines.{CpuCacheState, BothEmpty}
use Rattle.magazine_layer.specs.Magazines.Pops.{Of_loaded, Of_previous}
use Rattle.stock.specs.OwnCaches.{OwnCacheState, HasNoRound}
use Rattle.stock.specs.Spaces.{SpaceState, SpacePlan, plan_of, plans_of, slab_size_of}
use Rattle.local_parts.specs.Cpus.{CacheIndexes, IsCpuOf, OnOwn, own_index, row_indexes, indexes_from}
use Rattle.local_parts.specs.States.{IsReached}

-- the indexes of a row, and of all
in_row : (arena quantum i count j : ℕ) (p : CacheIndexes) → slice_get (row_indexes arena quantum i count) j ≡ Some p → (j < count) × (p ≡ record { arena = arena; cache = i + j; quantum = quantum })
in_row arena quantum i zero j p at = absurd (let e : None ≡ Some p = at in cc)
in_row arena quantum i (suc count) zero p at =
    let e : Some (record { arena = arena; cache = i; quantum = quantum }) ≡ Some p = at in
    let is : record { arena = arena; cache = i; quantum = quantum } ≡ p = cc in
    (omega arith, sym is ∙ ap (λ n. record { arena = arena; cache = n; quantum = quantum }) (omega arith))
in_row arena quantum i (suc count) (suc j) p at =
    let r = in_row arena quantum (i + 1) count j p at in
    (omega (arith, r.0), r.1 ∙ ap (λ n. record { arena = arena; cache = n; quantum = quantum }) (omega arith))

in_indexes : (n : ℕ) (plans : List SpacePlan) (k : ℕ) (row : List CacheIndexes) → slice_get (indexes_from n plans) k ≡ Some row → (p : SpacePlan) × (slice_get plans k ≡ Some p) × (row ≡ row_indexes (n + k) p.quantum 0 (length p.slab_sizes))
in_indexes n [] k row at = absurd (let e : None ≡ Some row = at in cc)
in_indexes n (p ∷ plans) zero row at =
    let e : Some (row_indexes n p.quantum 0 (length p.slab_sizes)) ≡ Some row = at in
    let is : row_indexes n p.quantum 0 (length p.slab_sizes) ≡ row = cc in
    (p, refl, sym is ∙ ap (λ m. row_indexes m p.quantum 0 (length p.slab_sizes)) (omega arith))
in_indexes n (p ∷ plans) (suc k) row at =
    let r = in_indexes (n + 1) plans k row at in
    (r.0, r.1, r.2 ∙ ap (λ m. row_indexes m r.0.quantum 0 (length r.0.slab_sizes)) (omega arith))

-- each cache of a CPU of the stock is the one for the quantum cache at its index
module _ (spaces : List SpaceState) (cpu : List (List OwnCacheState)) (of : IsCpuOf spaces cpu) (k j : ℕ) (row : List OwnCacheState) (o : OwnCacheState) (at : slice_get cpu k ≡ Some row) (among : slice_get row j ≡ Some o) where
  the_row : (p : SpacePlan) × (slice_get (plans_of spaces) k ≡ Some p) × (map own_index row ≡ row_indexes k p.quantum 0 (length p.slab_sizes))
  the_row =
      let here : slice_get (indexes_from 0 (plans_of spaces)) k ≡ Some (map own_index row) = ap (λ ps. slice_get ps k) (sym of) ∙ slice_get_mapped (map own_index) cpu k row at in
      let r = in_indexes 0 (plans_of spaces) k (map own_index row) here in
      (r.0, r.1, r.2 ∙ ap (λ m. row_indexes m r.0.quantum 0 (length r.0.slab_sizes)) (omega arith))

  the_index : (j < length the_row.0.slab_sizes) × (own_index o ≡ record { arena = k; cache = j; quantum = the_row.0.quantum })
  the_index =
      let here : slice_get (row_indexes k the_row.0.quantum 0 (length the_row.0.slab_sizes)) j ≡ Some (own_index o) = ap (λ ps. slice_get ps j) (sym the_row.2) ∙ slice_get_mapped own_index row j o among in
      let r = in_row k the_row.0.quantum 0 (length the_row.0.slab_sizes) j (own_index o) here in
      (r.0, r.1 ∙ ap (λ n. record { arena = k; cache = n; quantum = the_row.0.quantum }) (omega arith))

  the_space : (s : SpaceState) × (slice_get spaces k ≡ Some s) × (the_row.0 ≡ plan_of s)
  the_space = mapped plan_of spaces k the_row.0 the_row.1

  pub reached_here : IsReached (record { spaces = spaces; cpu = cpu }) k j o
  reached_here =
      let s = the_space in
      let count : length the_row.0.slab_sizes ≡ length s.0.caches = ap (λ (p : SpacePlan). length p.slab_sizes) s.2 ∙ length-map s.0.caches slab_size_of in
      let cache = slice_get_some s.0.caches j (omega (arith, the_index.0, count)) in
      record {
        has = (cache.0, record { space = s.0; at = s.1; among = cache.1 });
        own = record {
          row = row;
          at = at;
          among = among;
          arena = ap (λ (p : CacheIndexes). p.arena) the_index.1;
          cache = ap (λ (p : CacheIndexes). p.cache) the_index.1;
        };
        quantum = λ x there.
            let is : s.0 ≡ x = slice_get_one spaces k s.0 x s.1 there in
            ap (λ (y : SpaceState). y.arena.quantum) (sym is) ∙ (sym (ap (λ (p : SpacePlan). p.quantum) s.2) ∙ sym (ap (λ (p : CacheIndexes). p.quantum) the_index.1));
      }

  pub within_plan : (p : SpacePlan) × (slice_get (plans_of spaces) k ≡ Some p) × (j < length p.slab_sizes)
  within_plan = (the_row.0, the_row.1, the_index.0)

-- what stands at an index has no round
abbrev pub EmptyAt : List (List OwnCacheState) → ℕ → ℕ → Type 0
EmptyAt cpu k j = (row : List OwnCacheState) (o : OwnCacheState) → slice_get cpu k ≡ Some row → slice_get row j ≡ Some o → HasNoRound o

-- after one cache changed, what stands at an index is that one or stood there
pub own_written : (k j : ℕ) (P : OwnCacheState → OwnCacheState → Type 0) (old new : List (List OwnCacheState)) (on : OnOwn k j P old new) (i n : ℕ) (row : List OwnCacheState) (o : OwnCacheState) → slice_get new i ≡ Some row → slice_get row n ≡ Some o
    → ((i ≡ k) × (n ≡ j) × (o ≡ on.changed)) ⊎ ((was : List OwnCacheState) × (slice_get old i ≡ Some was) × (slice_get was n ≡ Some o))
own_written k j P old new on i n row o at among = elim (written old k i (set on.row j on.changed) row (ap (λ xs. slice_get xs i) (sym on.after) ∙ at)) [
  | inl here ↦
      let there : slice_get (set on.row j on.changed) n ≡ Some o = ap (λ xs. slice_get xs n) (sym here.1) ∙ among in
      elim (written on.row j n on.changed o there) [
        | inl one ↦ inl (here.0, one.0, one.1)
        | inr other ↦ inr (on.row, ap (slice_get old) here.0 ∙ on.at, other.1)
      ]
  | inr other ↦ inr (row, other.1, among)
]

-- a pop leaves an empty cache empty
pub empty_pops : (x y : CpuCacheState) (r : Option Tag) → PopOf x r y → BothEmpty x → BothEmpty y
empty_pops x y None of empty = subst BothEmpty (sym of.1) empty
empty_pops x y (Some t) (Of_loaded loaded after) empty = absurd (let e : [] ≡ y.loaded ++ t ∷ [] = sym empty.loaded_empty ∙ loaded in no_last y.loaded t e)
  where
    no_last : (xs : List Tag) (z : Tag) → [] ≡ xs ++ z ∷ [] → ⊥
    no_last [] z e = cc
    no_last (w ∷ xs) z e = cc
empty_pops x y (Some t) (Of_previous loaded previous after) empty = absurd (let e : [] ≡ y.loaded ++ t ∷ [] = sym empty.previous_empty ∙ previous in no_more y.loaded t e)
  where
    no_more : (xs : List Tag) (z : Tag) → [] ≡ xs ++ z ∷ [] → ⊥
    no_more [] z e = cc
    no_more (w ∷ xs) z e = cc
