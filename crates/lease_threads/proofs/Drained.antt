-- What a drain that was gone through leaves in a CPU's magazines.
use Rattle.std.proofs.Common.{◌≡◌, ◌∙◌, ◌⊎◌, ◌+◌, ◌-◌, ◌<◌, ◌≤◌, ◌++◌, ℕ, zero, suc, List, [], ◌∷◌, length, map, Option, Some, None, Result, Ok, Err, inl, inr, sym, subst, refl, ap, arith, slice_set, All}
use Rattle.std.specs.Prelude.{slice_get, slice_index_or}
use Rattle.std.proofs.lemmas.Option.{slice_get-map, slice_get_within, slice_get-get_or}
use Rattle.std.proofs.lemmas.List.{length-append, length-map}
use Rattle.std.specs.Option.{option_map}
use Rattle.deed_core.specs.Tag.{Tag}
use Rattle.magazine_layer.specs.Calls.{PopOf}
use Rattle.magazine_layer.specs.Magazines.{BothEmpty, CpuCacheState, Of_loaded, Of_previous}
use Rattle.arena_tree.specs.Chains.{Node, quantum_in}
use Rattle.arena_tree.specs.declared.levels.Level.{Level}
use Rattle.arena_tree.specs.declared.part_faults.Stopped.{Stopped}
use Rattle.arena_tree.specs.declared.trees.TreeArena.{TreeArena}
use Rattle.arena_tree.specs.Events.{Event, AnswerTo, Carve, Free, AddCarve, SlabTake, SlabPut, SlabAdd, SlabReap, SwapFull, SwapEmpty, SwapFresh, DepotReap, Pop, Push, Change}
use Rattle.arena_tree.specs.Plans.{Plan, Done, Ask, Step, Path, Ran, then}
use Rattle.arena_tree.specs.Sound.{Sound}
use Rattle.arena_tree.specs.Told.{AnsweredEvent, Tells}
use Rattle.arena_tree.specs.Trees.{nodes_of, node_of, caches_up_to, level_of}
use Rattle.quantum_cache.specs.Caches.{chain_in, over_caches, over_arenas, if_ok}
use Rattle.quantum_cache.specs.Drains.{Turn, DrainEnd, on_put_back, on_drain_pop, drain_turn, on_turn, drain_cache_plan, drain_arena_plan, drain_plan}
use Rattle.quantum_cache.specs.Frees.{put_chunk}
use Rattle.quantum_cache.specs.Looks.{WasLast, DrainTold}
use Rattle.quantum_cache.specs.Sizes.{caches_in}
use Rattle.quantum_cache.proofs.LawProofs.{drain_tells}
use Rattle.locked_parts.specs.Kinds.{OwnCacheState, IsCacheOf, caches_if, count_of_caches, kinds_up_to, kinds_of_first, kinds_of, caches_before}
use Rattle.locked_parts.specs.Owns.{cache_of, OnOwn, OwnPops, OwnStep}
use Rattle.locked_parts.specs.declared.kinds.CacheKind.{CacheKind}
use Rattle.lease_threads.specs.Retiring.{IsDrained}
use Rattle.lease_threads.proofs.Runs.{ran_leaves}

-- no magazine is filled by it
abbrev IsCalm : Event → Type 0
IsCalm (Carve arena request) = Unit {0}
IsCalm (Free given) = Unit {0}
IsCalm (AddCarve child given size) = Unit {0}
IsCalm (SlabTake arena cache) = Unit {0}
IsCalm (SlabPut given) = Unit {0}
IsCalm (SlabAdd arena cache given) = Unit {0}
IsCalm (SlabReap arena cache) = Unit {0}
IsCalm (SwapFull arena cache) = ⊥
IsCalm (SwapEmpty arena cache) = ⊥
IsCalm (SwapFresh arena cache) = ⊥
IsCalm (DepotReap arena cache) = Unit {0}
IsCalm (Pop arena cache) = Unit {0}
IsCalm (Push arena cache given) = ⊥
IsCalm (Change arena cache size) = ⊥

abbrev Calm : {A : Type 0} → Plan A → Type 0
Calm (Done a) = Unit {0}
Calm (Ask e f) = IsCalm e × ((x : AnswerTo e) → Calm (f x))

calm_then : {A B : Type 0} (p : Plan A) (next : A → Plan B) → Calm p → ((a : A) → Calm (next a)) → Calm (then p next)
calm_then (Done a) next c d = d a
calm_then (Ask e f) next c d = (c.0, λ x. calm_then (f x) next (c.1 x) d)

calm_put : (t : Tag) → Calm (put_chunk t)
unfolding put_chunk
calm_put t = (tt, λ x. tt)

calm_turn : (arena cache : ℕ) → Calm (drain_turn arena cache)
unfolding drain_turn
calm_turn arena cache = (tt, popped)
  where
    popped : (x : Result (Option Tag) Stopped) → Calm (on_drain_pop x)
    popped (Ok None) = tt
    popped (Ok (Some t)) = calm_then (put_chunk t) (λ r. Done (on_put_back r)) (calm_put t) (λ r. tt)
    popped (Err e) = tt

calm_cache : (turns arena cache : ℕ) → Calm (drain_cache_plan turns arena cache)
calm_cache zero arena cache = tt
calm_cache (suc n) arena cache = calm_then (drain_turn arena cache) (on_turn (drain_cache_plan n arena cache)) (calm_turn arena cache) (goes_on (calm_cache n arena cache))
  where
    goes_on : Calm (drain_cache_plan n arena cache) → (r : Turn) → Calm (on_turn (drain_cache_plan n arena cache) r)
    goes_on again None = again
    goes_on again (Some r) = tt

calm_caches : (turns arena all left : ℕ) (u : Unit {0}) → Calm (over_caches (λ cache (v : Unit {0}). drain_cache_plan turns arena cache) all left u)
calm_caches turns arena all zero u = tt
calm_caches turns arena all (suc left) u = calm_then (drain_cache_plan turns arena (all - left)) (if_ok (over_caches (λ cache (v : Unit {0}). drain_cache_plan turns arena cache) all left)) (calm_cache turns arena (all - left)) (goes_on (calm_caches turns arena all left))
  where
    goes_on : ((v : Unit {0}) → Calm (over_caches (λ cache (v : Unit {0}). drain_cache_plan turns arena cache) all left v)) → (r : DrainEnd) → Calm (if_ok (over_caches (λ cache (v : Unit {0}). drain_cache_plan turns arena cache) all left) r)
    goes_on again (Ok v) = again v
    goes_on again (Err f) = tt

calm_arena : (turns : ℕ) (chain : List Level) → Calm (drain_arena_plan turns chain)
calm_arena turns [] = tt
calm_arena turns (l ∷ up) = calm_caches turns l.id (caches_in l) (caches_in l) tt

calm_arenas : (turns : ℕ) (arenas : List TreeArena) (end : ℕ) (u : Unit {0}) → Calm (over_arenas (λ id (v : Unit {0}). drain_arena_plan turns (chain_in arenas id)) end u)
calm_arenas turns arenas zero u = tt
calm_arenas turns arenas (suc end) u = calm_then (drain_arena_plan turns (chain_in arenas end)) (if_ok (over_arenas (λ id (v : Unit {0}). drain_arena_plan turns (chain_in arenas id)) end)) (calm_arena turns (chain_in arenas end)) (goes_on (calm_arenas turns arenas end))
  where
    goes_on : ((v : Unit {0}) → Calm (over_arenas (λ id (v : Unit {0}). drain_arena_plan turns (chain_in arenas id)) end v)) → (r : DrainEnd) → Calm (if_ok (over_arenas (λ id (v : Unit {0}). drain_arena_plan turns (chain_in arenas id)) end) r)
    goes_on again (Ok v) = again v
    goes_on again (Err f) = tt

-- the magazines at this place, if there are some, are empty
abbrev EmptyAt : ℕ → List OwnCacheState → Type 0
EmptyAt i caches = (o : OwnCacheState) → slice_get caches i ≡ Some o → BothEmpty o.cpu

module _ {X : Type 0} where
  after_set : (xs : List X) (j : ℕ) (v : X) (i : ℕ) (x : X) → slice_get (slice_set xs j v) i ≡ Some x → (slice_get xs i ≡ Some x) ⊎ ((i ≡ j) × (v ≡ x))
  after_set [] j v i x at = inl at
  after_set (y ∷ ys) zero v zero x at = inr (refl, (let e : Some v ≡ Some x = at in cc))
  after_set (y ∷ ys) zero v (suc i) x at = inl at
  after_set (y ∷ ys) (suc j) v zero x at = inl at
  after_set (y ∷ ys) (suc j) v (suc i) x at = elim (after_set ys j v i x at) [
    | inl was ↦ inl was
    | inr new ↦ inr (ap (λ n. suc n) new.0, new.1)
  ]

  from_append : (xs ys : List X) (i : ℕ) (x : X) → slice_get (xs ++ ys) i ≡ Some x → (slice_get xs i ≡ Some x) ⊎ ((n : ℕ) × (i ≡ length xs + n) × (slice_get ys n ≡ Some x))
  from_append [] ys i x at = inr (i, (let e : i ≡ length {A = X} [] + i = omega arith in e), at)
  from_append (z ∷ xs) ys zero x at = inl at
  from_append (z ∷ xs) ys (suc i) x at = elim (from_append xs ys i x at) [
    | inl here ↦ inl here
    | inr there ↦ inr (there.0, (let e : suc i ≡ length (z ∷ xs) + there.0 = omega (arith, there.1) in e), there.2)
  ]

not_empty : (xs : List Tag) (x : Tag) → xs ++ x ∷ [] ≡ [] → ⊥
not_empty [] x is = (let e : x ∷ [] ≡ [] = is in absurd (cc))
not_empty (y ∷ ys) x is = (let e : y ∷ (ys ++ x ∷ []) ≡ [] = is in absurd (cc))

-- a pop leaves empty ones empty
pop_leaves : (c : CpuCacheState) (o : Option Tag) (c' : CpuCacheState) → PopOf c o c' → BothEmpty c → BothEmpty c'
pop_leaves c None c' d none = subst BothEmpty (sym d.1) none
pop_leaves c (Some x) c' (Of_loaded is new) none = absurd (not_empty c'.loaded x (sym is ∙ none.loaded_empty))
pop_leaves c (Some x) c' (Of_previous first is new) none = absurd (not_empty c'.loaded x (sym is ∙ none.previous_empty))

module _ (xs : List TreeArena) (arena cache : ℕ) where
  own_leaves : (o : Option Tag) (old new : List OwnCacheState) (i : ℕ) → OnOwn xs arena cache (λ c c'. PopOf c.cpu o c'.cpu) old new → EmptyAt i old → EmptyAt i new
  own_leaves o old new i on none p here = elim (after_set old on.index on.after i p (subst (λ l. slice_get l i ≡ Some p) on.rest here)) [
    | inl was ↦ none p was
    | inr is ↦ subst (λ (q : OwnCacheState). BothEmpty q.cpu) is.1 (pop_leaves on.own.cpu o on.after.cpu on.does (none on.own (ap (slice_get old) is.0 ∙ on.at.stands)))
  ]

  pop_keeps : (x : Result (Option Tag) Stopped) (old new : List OwnCacheState) (i : ℕ) → OwnPops xs arena cache x old new → EmptyAt i old → EmptyAt i new
  pop_keeps (Err s) old new i d none = subst (EmptyAt i) (sym d) none
  pop_keeps (Ok o) old new i (inl on) none = own_leaves o old new i on none
  pop_keeps (Ok o) old new i (inr d) none = subst (EmptyAt i) (sym d.1) none

keeps_empty : (xs : List TreeArena) (e : Event) (x : AnswerTo e) (old new : List OwnCacheState) (i : ℕ) → IsCalm e → OwnStep xs e x old new → EmptyAt i old → EmptyAt i new
keeps_empty xs (Carve arena request) x old new i calm d none = subst (EmptyAt i) (sym d) none
keeps_empty xs (Free given) x old new i calm d none = subst (EmptyAt i) (sym d) none
keeps_empty xs (AddCarve child given size) x old new i calm d none = subst (EmptyAt i) (sym d) none
keeps_empty xs (SlabTake arena cache) x old new i calm d none = subst (EmptyAt i) (sym d) none
keeps_empty xs (SlabPut given) x old new i calm d none = subst (EmptyAt i) (sym d) none
keeps_empty xs (SlabAdd arena cache given) x old new i calm d none = subst (EmptyAt i) (sym d) none
keeps_empty xs (SlabReap arena cache) x old new i calm d none = subst (EmptyAt i) (sym d) none
keeps_empty xs (SwapFull arena cache) x old new i calm d none = absurd calm
keeps_empty xs (SwapEmpty arena cache) x old new i calm d none = absurd calm
keeps_empty xs (SwapFresh arena cache) x old new i calm d none = absurd calm
keeps_empty xs (DepotReap arena cache) x old new i calm d none = subst (EmptyAt i) (sym d) none
keeps_empty xs (Pop arena cache) x old new i calm d none = pop_keeps xs arena cache x old new i d none
keeps_empty xs (Push arena cache given) x old new i calm d none = absurd calm
keeps_empty xs (Change arena cache size) x old new i calm d none = absurd calm

-- trees of the same nodes have the same quantum caches
abbrev caches_at : Option Node → ℕ
caches_at None = 0
caches_at (Some n) = caches_up_to n.quantum n.qcache_max

counted : (o : Option TreeArena) → caches_if o ≡ caches_at (option_map node_of o)
counted None = refl
counted (Some x) = refl

module _ (xs ys : List TreeArena) (same : nodes_of xs ≡ nodes_of ys) where
  same_count : (id : ℕ) → count_of_caches xs id ≡ count_of_caches ys id
  same_count id =
      counted (slice_get xs id) ∙ ap caches_at (sym (slice_get-map node_of xs id)) ∙ ap (λ (n : List Node). caches_at (slice_get n id)) same ∙ ap caches_at (slice_get-map node_of ys id) ∙ sym (counted (slice_get ys id))

  same_first : (n : ℕ) → kinds_of_first xs n ≡ kinds_of_first ys n
  same_first zero = refl
  same_first (suc n) =
      ap (λ l. l ++ kinds_up_to n (quantum_in (nodes_of xs) n) (count_of_caches xs n)) (same_first n)
      ∙ ap (λ (q : List Node). kinds_of_first ys n ++ kinds_up_to n (quantum_in q n) (count_of_caches xs n)) same
      ∙ ap (λ c. kinds_of_first ys n ++ kinds_up_to n (quantum_in (nodes_of ys) n) c) (same_count n)

  same_length : length xs ≡ length ys
  same_length = sym (length-map xs node_of) ∙ ap (λ (l : List Node). length l) same ∙ length-map ys node_of

  same_kinds : kinds_of xs ≡ kinds_of ys
  same_kinds = same_first (length xs) ∙ ap (kinds_of_first ys) same_length

  same_cache : (arena cache : ℕ) → IsCacheOf ys (cache_of ys arena cache) → IsCacheOf xs (cache_of xs arena cache)
  same_cache arena cache is = record {
    within = (let e = same_length in omega (arith, e, is.within));
    some = is.some;
    most = (let e = same_count arena in omega (arith, e, is.most));
    quantum = refl;
  }

-- a pop that finds none leaves none
pop_finds_none : (xs ys : List TreeArena) → nodes_of xs ≡ nodes_of ys → (arena cache : ℕ) (old new : List OwnCacheState) (i : ℕ) → IsCacheOf ys (cache_of ys arena cache) → map (λ (r : OwnCacheState). r.kind) old ≡ kinds_of ys → i + 1 ≡ caches_before ys arena + cache → OwnPops xs arena cache (Ok None) old new → EmptyAt i new
pop_finds_none xs ys same arena cache old new i is all at (inl on) =
    let before : caches_before xs arena ≡ caches_before ys arena = ap (λ (l : List CacheKind). length l) (same_first xs ys same arena) in
    let here : i ≡ on.index = omega (arith, at, on.at.place, before) in
    own_leaves xs arena cache None old new i on (λ o there. (let e : Some on.own ≡ Some o = sym on.at.stands ∙ (ap (slice_get old) (sym here) ∙ there) in let q : on.own ≡ o = cc in subst (λ (z : OwnCacheState). BothEmpty z.cpu) q on.does.0))
pop_finds_none xs ys same arena cache old new i is all at (inr d) =
    absurd (d.2 (all ∙ sym (same_kinds xs ys same)) (same_cache xs ys same arena cache is))

-- of each cache whose last pop found none the magazines are empty
abbrev Inv : List TreeArena → List AnsweredEvent → List OwnCacheState → Type 0
Inv arenas told caches = (arena cache i : ℕ) → IsCacheOf arenas (cache_of arenas arena cache) → i + 1 ≡ caches_before arenas arena + cache → WasLast (Pop arena cache) (Ok None) told → EmptyAt i caches

module _ {S : Type 0} (step : S → (e : Event) → AnswerTo e → S → Type 0) (tree : S → List Node) (count rounds : S → ℕ) (trees : S → List TreeArena) (own : S → List OwnCacheState)
    (shows : (s : S) → tree s ≡ nodes_of (trees s)) (does : (s t : S) (e : Event) (x : AnswerTo e) → step s e x t → OwnStep (trees s) e x (own s) (own t)) (keeps : (s t : S) (e : Event) (x : AnswerTo e) → step s e x t → map (λ (r : OwnCacheState). r.kind) (own t) ≡ map (λ (r : OwnCacheState). r.kind) (own s)) (arenas : List TreeArena) where
  abbrev Kept : S → Type 0
  Kept s = (tree s ≡ nodes_of arenas) × (map (λ (r : OwnCacheState). r.kind) (own s) ≡ kinds_of arenas)

  one_more : (s t : S) (e : Event) (x : AnswerTo e) (told : List AnsweredEvent) → Kept s → IsCalm e → step s e x t → Inv arenas told (own s) → Inv arenas (record { event = e; answer = x } ∷ told) (own t)
  one_more s t e x told kept calm d inv arena cache i is at (inl last) =
      pop_finds_none (trees s) arenas (sym (shows s) ∙ kept.0) arena cache (own s) (own t) i is kept.1 at (subst (λ (z : AnsweredEvent). OwnStep (trees s) z.event z.answer (own s) (own t)) last (does s t e x d))
  one_more s t e x told kept calm d inv arena cache i is at (inr before) =
      keeps_empty (trees s) e x (own s) (own t) i calm (does s t e x d) (inv arena cache i is at before.1)

  walked : {A : Type 0} (post : List AnsweredEvent → A → Type 0) (p : Plan A) (s u : S) (a : A) (told : List AnsweredEvent) → Calm p → Kept s → Inv arenas told (own s) → Tells (nodes_of arenas) post p told → Path (Step step tree count rounds) p s u a → (last : List AnsweredEvent) × post last a × Kept u × Inv arenas last (own u)
  walked post (Done b) s u a told calm kept inv tells d = (told, subst (post told) d.1 tells, subst Kept d.0 kept, subst (λ z. Inv arenas told (own z)) d.0 inv)
  walked post (Ask e f) s u a told calm kept inv tells d =
      let sound = subst (λ n. Sound n e d.1) kept.0 d.2.sound in
      walked post (f d.1) d.0 u a (record { event = e; answer = d.1 } ∷ told) (calm.1 d.1) (d.2.same_tree ∙ kept.0, keeps s d.0 e d.1 d.2.does ∙ kept.1) (one_more s d.0 e d.1 told kept calm.0 d.2.does inv) (tells d.1 sound) d.3

-- each place of a list of kinds is of a quantum cache
place_of : (arenas : List TreeArena) (m i : ℕ) (k : CacheKind) → slice_get (kinds_of_first arenas m) i ≡ Some k → (id n : ℕ) × (id < m) × (n < count_of_caches arenas id) × (i ≡ caches_before arenas id + n)
place_of arenas zero i k at = (let e : None ≡ Some k = at in absurd (cc))
place_of arenas (suc m) i k at = elim (from_append (kinds_of_first arenas m) (kinds_up_to m (quantum_in (nodes_of arenas) m) (count_of_caches arenas m)) i k at) [
  | inl before ↦ (let r = place_of arenas m i k before in (r.0, r.1, (let e = r.2 in omega (arith, e)), r.3, r.4))
  | inr there ↦ (m, there.0, omega arith, (let within = slice_get_within (kinds_up_to m (quantum_in (nodes_of arenas) m) (count_of_caches arenas m)) there.0 k there.2 in let e = up_to_length m (quantum_in (nodes_of arenas) m) (count_of_caches arenas m) in omega (arith, within, e)), there.1)
]
  where
    up_to_length : (arena quantum n : ℕ) → length (kinds_up_to arena quantum n) ≡ n
    up_to_length arena quantum zero = refl
    up_to_length arena quantum (suc n) =
        omega (arith, length-append (kinds_up_to arena quantum n) (record { arena = arena; number = suc n; quantum = quantum } ∷ []), up_to_length arena quantum n)

in_arena : (arenas : List TreeArena) (id n : ℕ) (o : Option TreeArena) → slice_get arenas id ≡ o → n < caches_if o → (x : TreeArena) × (slice_get arenas id ≡ Some x) × (n + 1 ≤ caches_in (level_of id x))
in_arena arenas id n None at within = absurd (omega (arith, within))
in_arena arenas id n (Some x) at within = (x, at, omega (arith, within))

module _ {S : Type 0} (step : S → (e : Event) → AnswerTo e → S → Type 0) (tree : S → List Node) (count rounds : S → ℕ) (trees : S → List TreeArena) (own : S → List OwnCacheState)
    (shows : (s : S) → tree s ≡ nodes_of (trees s)) (does : (s t : S) (e : Event) (x : AnswerTo e) → step s e x t → OwnStep (trees s) e x (own s) (own t)) (keeps : (s t : S) (e : Event) (x : AnswerTo e) → step s e x t → map (λ (r : OwnCacheState). r.kind) (own t) ≡ map (λ (r : OwnCacheState). r.kind) (own s)) where
  drains_all : (arenas : List TreeArena) (turns : ℕ) (s u : S) → Kept step tree count rounds trees own shows does keeps arenas s → Path (Step step tree count rounds) (drain_plan turns arenas) s u (Ok tt) → All (λ (r : OwnCacheState). BothEmpty r.cpu) (own u)
  drains_all arenas turns s u kept d =
      let w = walked step tree count rounds trees own shows does keeps arenas (DrainTold arenas) (drain_plan turns arenas) s u (Ok tt) [] (calm_arenas turns arenas (length arenas) tt) kept (λ arena cache i is at no. absurd no) (drain_tells turns arenas (nodes_of arenas)) d in
      λ i z within.
      let o : OwnCacheState = slice_index_or (own u) i z in
      let stands : slice_get (own u) i ≡ Some o = slice_get-get_or (own u) i z within in
      let kind : slice_get (kinds_of arenas) i ≡ Some o.kind = ap (λ (l : List CacheKind). slice_get l i) (sym w.2.1) ∙ (slice_get-map (λ (r : OwnCacheState). r.kind) (own u) i ∙ ap (option_map (λ (r : OwnCacheState). r.kind)) stands) in
      let p = place_of arenas (length arenas) i o.kind kind in
      let here = in_arena arenas p.0 p.1 (slice_get arenas p.0) refl p.3 in
      w.3 p.0 (p.1 + 1) i (record { within = p.2; some = omega arith; most = (let e = p.3 in omega (arith, e)); quantum = refl }) (let e = p.4 in omega (arith, e)) (w.1 p.0 (p.1 + 1) here.0 here.1 (omega arith) here.2) o stands

  -- a drain that was gone through to its end leaves nothing in magazines that are for the tree
  pub ran_empties : (arenas drained : List TreeArena) (turns : ℕ) (s u : S) (end : DrainEnd) → Ran step tree count rounds (drain_plan turns drained) s u end → end ≡ Ok tt → tree s ≡ nodes_of arenas → drained ≡ arenas → (number : ℕ) (hand : Option Tag) (caches : List OwnCacheState) → caches ≡ own u → IsDrained arenas (record { number = number; hand = hand; caches = caches })
  ran_empties arenas drained turns s u end ran well is same number hand caches has none all =
      let path = subst (λ r. Path (Step step tree count rounds) (drain_plan turns arenas) s u r) well (subst (λ xs. Path (Step step tree count rounds) (drain_plan turns xs) s u end) same ran.path) in
      let stays = ran_leaves step tree count rounds (λ v. map (λ (r : OwnCacheState). r.kind) (own v)) keeps (drain_plan turns drained) s u end ran in
      (none, subst (All (λ (r : OwnCacheState). BothEmpty r.cpu)) (sym has) (drains_all arenas turns s u (is, sym stays ∙ (ap (map (λ (r : OwnCacheState). r.kind)) (sym has) ∙ all)) path))
