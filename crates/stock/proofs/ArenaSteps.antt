-- What a step of one arena leaves of a stock and of its accounts.
use Rattle.std.proofs.Common.{◌≡◌, ℕ, ◌+◌, ◌%◌, sym, subst, ◌∙◌, inl, inr, List, [], map, set, All, Some}
use Rattle.std.proofs.Common.{arith}
use Rattle.std.specs.Prelude.{sum_by, slice_get}
use Rattle.std.proofs.lemmas.List.Sums.{sum_by-append}
use Rattle.deed_core.specs.Tag.{Tag}
use Rattle.deed_core.specs.Weights.{of_direct, of_cached}
use Rattle.deed_core.proofs.LawProofs.{written, sum_set, map_set_same}
use Rattle.tag_arena.specs.ArenaState.{ArenaState, IsSoundArena, tags_of}
use Rattle.tag_arena.specs.Outcomes.{KeepsSetup}
use Rattle.stock.specs.Spaces.{SpaceState, with_arena, slab_size_of, plan_of, plans_of, quantum_of, quanta_of}
use Rattle.stock.specs.Stocks.{IsQuantumCache, IsFrom, IsSpaceAt, IsStock}
use Rattle.stock.specs.Accounts.{weight_allocated, weight_imported, slabs, chunks, rounds, Frames}
use Rattle.stock.proofs.Moving.{Moves}

-- What the arena's own call keeps.
pub record Keeps (s : SpaceState) (new : ArenaState) : Type 0 where
  pub setup : KeepsSetup s.arena new
  pub sound : IsSoundArena new
  pub imported : All (IsFrom s.source) new.imported
  pub owned : (p : ℕ) → s.source ≡ Some p → new.owned ≡ []

module _ (spaces : List SpaceState) (k : ℕ) (s : SpaceState) (at : slice_get spaces k ≡ Some s) (new : ArenaState) where
  abbrev now : List SpaceState
  now = set spaces k (with_arena new s)

  arena_plans : KeepsSetup s.arena new → plans_of now ≡ plans_of spaces
  arena_plans kept = map_set_same plan_of spaces k s (with_arena new s) at
      (λ i. record { source = s.source; quantum = kept.quantum i; policy = kept.policy i; slab_sizes = map slab_size_of s.caches })

  arena_quanta : KeepsSetup s.arena new → quanta_of now ≡ quanta_of spaces
  arena_quanta kept = map_set_same quantum_of spaces k s (with_arena new s) at kept.quantum

  arena_stock : Keeps s new → IsStock spaces → IsStock now
  arena_stock keeps stock i x there = subst (λ qs. IsSpaceAt qs i x) (sym (arena_quanta keeps.setup)) (elim (written spaces k i (with_arena new s) x there) [
    | inl here ↦ subst (λ z. IsSpaceAt (quanta_of spaces) i z) (sym here.1) (subst (λ m. IsSpaceAt (quanta_of spaces) m (with_arena new s)) (sym here.0) is)
    | inr other ↦ stock i x other.1
  ])
    where
      old : IsSpaceAt (quanta_of spaces) k s
      old = stock k s at

      is : IsSpaceAt (quanta_of spaces) k (with_arena new s)
      is = record {
        few = old.few;
        id = keeps.setup.id ∙ old.id;
        sound = keeps.sound;
        imported = keeps.imported;
        owned = keeps.owned;
        before = old.before;
        nests = λ p q from there. subst (λ m. q % m ≡ 0) (sym keeps.setup.quantum) (old.nests p q from there);
        caches = λ j c among. subst (λ m. IsQuantumCache k (j + 1) m c) (sym keeps.setup.quantum) (old.caches j c among);
      }

  arena_frame : (given answered : List Tag)
      → ((f : Tag → ℕ) → sum_by f (tags_of new) + sum_by (of_direct f) given + sum_by f s.arena.imported ≡ sum_by f (tags_of s.arena) + sum_by (of_direct f) answered + sum_by f new.imported)
      → ((f : Tag → ℕ) → sum_by (of_cached f) answered ≡ sum_by (of_cached f) given) → Frames spaces given now answered
  arena_frame given answered moves same rest a = record {
    exports = λ f. omega (
      arith,
      a.exports f,
      moves f,
      sum_set (weight_allocated f) spaces k s (with_arena new s) at,
      sum_set (slabs f) spaces k s (with_arena new s) at,
      sum_set (weight_imported f) spaces k s (with_arena new s) at,
      sum_by-append (of_direct f) given rest,
      sum_by-append (of_direct f) answered rest,
    );
    chunks_out = λ f. omega (
      arith,
      a.chunks_out f,
      same f,
      sum_set (chunks f) spaces k s (with_arena new s) at,
      sum_set (rounds f) spaces k s (with_arena new s) at,
      sum_by-append (of_cached f) given rest,
      sum_by-append (of_cached f) answered rest,
    );
  }

  pub arena_moves : (given answered : List Tag) → Keeps s new
      → ((f : Tag → ℕ) → sum_by f (tags_of new) + sum_by (of_direct f) given + sum_by f s.arena.imported ≡ sum_by f (tags_of s.arena) + sum_by (of_direct f) answered + sum_by f new.imported)
      → ((f : Tag → ℕ) → sum_by (of_cached f) answered ≡ sum_by (of_cached f) given) → IsStock spaces → Moves spaces given now answered
  arena_moves given answered keeps moves same stock =
      record { stock = arena_stock keeps stock; frame = arena_frame given answered moves same; fixed = arena_plans keeps.setup }
