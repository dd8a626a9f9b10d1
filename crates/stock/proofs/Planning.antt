-- Arenas of a tree, set up one by one.
use Rattle.std.proofs.Common.{◌≡◌, ℕ, suc, zero, ◌+◌, ◌*◌, ◌/◌, ◌%◌, ◌<◌, ◌≤◌, refl, sym, subst, ap, ◌∙◌, inl, inr, List, [], ◌∷◌, ◌++◌, map, length, set, take, replicate, get_or, All, IfSome, Option, Some, None, arith}
use Rattle.std.specs.Prelude.{slice_get}
use Rattle.std.proofs.Math.Nat.{mul-le-mul_left, mod_self}
use Rattle.std.proofs.lemmas.List.{length-map, length-replicate, length-take-le, length_push, map_push, map-set, replicate_more, take_more}
use Rattle.std.proofs.lemmas.List.Elements.{All-push, All-set}
use Rattle.std.proofs.lemmas.Bool.{cases_lt}
use Rattle.std.proofs.lemmas.Option.{slice_get_within, slice_get-get_or}
use Rattle.deed_core.proofs.LawProofs.{pushed, slice_get_one, slice_get_mapped, all_at, smaller_power_divides}
use Rattle.arena_tree.specs.declared.trees.TreeArena.{TreeArena}
use Rattle.arena_tree.specs.Trees.{HasCaches, IsArena, IsTree, ImportsFrom}
use Rattle.stock.specs.Spaces.{SpaceState, QuantumCacheState, SpacePlan, slab_size_of, plan_of, plans_of, with_caches}
use Rattle.stock.specs.Steps.{CanImportFrom, HasRoomForCache, GainsCache, new_cache, next_cache, new_space}
use Rattle.stock.specs.Setups.{plan_for, plans_for, IsNewSpace}

times : (k m n : ℕ) → m ≤ n → k * m ≤ k * n
times k m n le = mul-le-mul_left k le

set_last : {X : Type 0} (xs : List X) (p q : X) → set (xs ++ p ∷ []) (length xs) q ≡ xs ++ q ∷ []
set_last [] p q = refl
set_last (x ∷ xs) p q = ap (λ ys. x ∷ ys) (set_last xs p q)

take_get : {X : Type 0} (xs : List X) (n k : ℕ) (x : X) → k < n → slice_get xs k ≡ Some x → slice_get (take n xs) k ≡ Some x
take_get [] n k x lt at = absurd (let e : None ≡ Some x = at in cc)
take_get (y ∷ xs) zero k x lt at = absurd (omega (arith, lt))
take_get (y ∷ xs) (suc n) zero x lt at = at
take_get (y ∷ xs) (suc n) (suc k) x lt at = take_get xs n k x (omega (arith, lt)) at

-- the arena with so many of its caches
abbrev pub so_far : TreeArena → ℕ → SpacePlan
so_far x n = record { source = x.source; quantum = x.quantum; policy = x.policy; slab_sizes = replicate n x.slab_size }

pub record IsPlanning (rounds : ℕ) (x : TreeArena) (first spaces : List SpaceState) (n : ℕ) : Type 0 where
  pub planned : plans_of spaces ≡ plans_of first ++ so_far x n ∷ []
  pub unused : All (IsNewSpace rounds) first → All (IsNewSpace rounds) spaces

module _ (rounds : ℕ) (x : TreeArena) (first : List SpaceState) where
  pub begun : (spaces : List SpaceState) → spaces ≡ first ++ new_space (length first) x.source x.quantum x.policy ∷ [] → IsPlanning rounds x first spaces 0
  begun spaces is = record {
    planned = ap plans_of is ∙ map_push plan_of first (new_space (length first) x.source x.quantum x.policy);
    unused = λ all. subst (λ (xs : List SpaceState). All (IsNewSpace rounds) xs) (sym is) (All-push (IsNewSpace rounds) first (new_space (length first) x.source x.quantum x.policy) all (record { arena = refl; caches = λ j c at. absurd (let e : None ≡ Some c = at in cc) }));
  }

  module _ (spaces : List SpaceState) (n : ℕ) (is : IsPlanning rounds x first spaces n) where
    pub count : length spaces ≡ length first + 1
    count = sym (length-map spaces plan_of) ∙ ap (λ (ps : List SpacePlan). length ps) is.planned ∙ length_push (plans_of first) (so_far x n) ∙ ap (λ k. k + 1) (length-map first plan_of)

    last : (s : SpaceState) → slice_get spaces (length first) ≡ Some s → plan_of s ≡ so_far x n
    last s at =
        let there = ap (λ (ps : List SpacePlan). slice_get ps (length first)) (sym is.planned) ∙ slice_get_mapped plan_of spaces (length first) s at in
        elim (pushed (plans_of first) (length first) (so_far x n) (plan_of s) there) [
          | inl here ↦ here.1
          | inr old ↦ absurd (omega (arith, slice_get_within (plans_of first) (length first) (plan_of s) old, length-map first plan_of))
        ]

    how_many : (s : SpaceState) → slice_get spaces (length first) ≡ Some s → length s.caches ≡ n
    how_many s at = sym (length-map s.caches slab_size_of) ∙ ap (λ (p : SpacePlan). length p.slab_sizes) (last s at) ∙ length-replicate n x.slab_size

    pub can : HasCaches x.quantum x.qcache_max x.slab_size → 0 < x.quantum → n < x.qcache_max / x.quantum → (s : SpaceState) → slice_get spaces (length first) ≡ Some s → HasRoomForCache x.slab_size s
    can caches some lt s at =
        let many = how_many s at in
        let unit : s.arena.quantum ≡ x.quantum = ap (λ (p : SpacePlan). p.quantum) (last s at) in
        let most : x.quantum * (n + 1) ≤ x.qcache_max = (let le = times x.quantum (n + 1) (x.qcache_max / x.quantum) (omega (arith, lt)) in omega (arith, le)) in
        let sized = caches.2.1 (λ none. (let le = times x.quantum 1 (n + 1) (omega arith) in omega (arith, most, le, none, some))) in
        let low : 3 * x.qcache_max + 1 ≤ x.slab_size = sized.1 in
        record {
          few = (let le = λ (more : 16 ≤ n). times x.quantum 17 (n + 1) (omega (arith, more)) in elim (cases_lt n 16) [ inl less ↦ omega (arith, less, many) | inr more ↦ absurd (omega (arith, le more, most, caches.1, some)) ]);
          room = rw (many, unit) (omega (arith, most, low));
        }

    pub more : (after : List SpaceState) → GainsCache (length first) x.slab_size rounds spaces after → IsPlanning rounds x first after (n + 1)
    more after on = record {
      planned = ap plans_of on.after ∙ map-set plan_of spaces (length first) now ∙ ap (λ (ps : List SpacePlan). set ps (length first) (plan_of now)) is.planned
          ∙ subst (λ i. set (plans_of first ++ so_far x n ∷ []) i (plan_of now) ≡ plans_of first ++ plan_of now ∷ []) (length-map first plan_of) (set_last (plans_of first) (so_far x n) (plan_of now)) ∙ ap (λ (p : SpacePlan). plans_of first ++ p ∷ []) planned_now;
      unused = λ all. subst (λ (xs : List SpaceState). All (IsNewSpace rounds) xs) (sym on.after) (All-set (IsNewSpace rounds) spaces (length first) now (unused_now (all_at (IsNewSpace rounds) spaces (length first) on.space (is.unused all) on.at)) (is.unused all));
    }
      where
        c : QuantumCacheState
        c = next_cache on.space x.slab_size rounds

        now : SpaceState
        now = with_caches (on.space.caches ++ c ∷ []) on.space

        here : plan_of on.space ≡ so_far x n
        here = last on.space on.at

        sizes : map slab_size_of (on.space.caches ++ c ∷ []) ≡ replicate (n + 1) x.slab_size
        sizes = map_push slab_size_of on.space.caches c ∙ ap (λ (ks : List ℕ). ks ++ x.slab_size ∷ []) (ap (λ (p : SpacePlan). p.slab_sizes) here) ∙ replicate_more n x.slab_size

        planned_now : plan_of now ≡ so_far x (n + 1)
        planned_now i = record { source = (here i).source; quantum = (here i).quantum; policy = (here i).policy; slab_sizes = sizes i }

        unused_now : IsNewSpace rounds on.space → IsNewSpace rounds now
        unused_now new = record {
          arena = new.arena;
          caches = λ j k at. elim (pushed on.space.caches j c k at) [
            | inl last ↦
                subst (λ (y : QuantumCacheState). y ≡ new_cache on.space.arena.id (j + 1) on.space.arena.quantum y.slab.slab_size rounds) (sym last.1)
                (subst (λ (n : ℕ). c ≡ new_cache on.space.arena.id (n + 1) on.space.arena.quantum x.slab_size rounds) (sym last.0) refl)
            | inr there ↦ new.caches j k there
          ];
        }

-- the arenas so far are those of the tree's front
module _ (arenas : List TreeArena) (spaces : List SpaceState) (id : ℕ) (within : id < length arenas) (planned : plans_of spaces ≡ plans_for (take id arenas)) where
  pub count_front : length spaces ≡ id
  count_front = sym (length-map spaces plan_of) ∙ ap (λ (ps : List SpacePlan). length ps) planned ∙ length-map (take id arenas) plan_for ∙ length-take-le id arenas (omega (arith, within))

  pub can_import : (x : TreeArena) → IsTree arenas → IsArena arenas id x → CanImportFrom spaces x.source x.quantum
  can_import x tree is p from =
      let imports : ImportsFrom arenas id x p = subst (λ (o : Option ℕ). IfSome o (ImportsFrom arenas id x)) from is.source in
      let lt : p < id = imports.0 in
      let y = imports.1 in (
        omega (arith, lt, count_front),
        λ s at.
            let mine = slice_get_mapped plan_of spaces p s at in
            let its = slice_get_mapped plan_for (take id arenas) p y.0 (take_get arenas id p y.0 lt y.1) in
            let same : plan_of s ≡ plan_for y.0 = slice_get_one (plans_of spaces) p (plan_of s) (plan_for y.0) mine (ap (λ (ps : List SpacePlan). slice_get ps p) planned ∙ its) in
            let unit : s.arena.quantum ≡ y.0.quantum = ap (λ (q : SpacePlan). q.quantum) same in
            subst (λ q. q % x.quantum ≡ 0) (sym unit) (smaller_power_divides x.quantum y.0.quantum y.0.quantum is.power (tree.each p y.0 y.1).power y.2 (mod_self y.0.quantum)),
      )

  pub front_more : (x : TreeArena) (after : List SpaceState) → slice_get arenas id ≡ Some x → plans_of after ≡ plans_of spaces ++ plan_for x ∷ [] → plans_of after ≡ plans_for (take (id + 1) arenas)
  front_more x after at is =
      let read : get_or arenas id x ≡ x = slice_get_one arenas id (get_or arenas id x) x (slice_get-get_or arenas id x within) at in
      is ∙ ap (λ (ps : List SpacePlan). ps ++ plan_for x ∷ []) planned ∙ sym (map_push plan_for (take id arenas) x) ∙ ap (λ (xs : List TreeArena). plans_for xs) (ap (λ (z : TreeArena). take id arenas ++ z ∷ []) (sym read) ∙ sym (take_more arenas id x within))
