-- What emptying a CPU that was gone through comes to.
use Rattle.std.proofs.Common.{◌≡◌, ◌∙◌, ℕ, Bool, true, false, List, [], ◌∷◌, length, Option, Some, Ok, Err, inl, inr, sym, subst, refl, nat_lt, if◌then◌else◌}
use Rattle.deed_core.specs.Tag.{Tag}
use Rattle.std.specs.Prelude.{IfSome}
use Rattle.std.proofs.lemmas.Bool.{ltb-true, ltb-false}
use Rattle.arena_tree.specs.Chains.{Node}
use Rattle.arena_tree.specs.Climbs.{ReturnEnd, return_left}
use Rattle.arena_tree.specs.declared.part_faults.ReturnFault.TheVariants as returning
use Rattle.arena_tree.specs.declared.trees.TreeArena.{TreeArena}
use Rattle.arena_tree.specs.Events.{Event, AnswerTo}
use Rattle.arena_tree.specs.Sound.{Sound}
use Rattle.arena_tree.specs.Stops.{is_stopped}
use Rattle.arena_tree.specs.Told.{AnsweredEvent, Tells, WasStopped}
use Rattle.arena_tree.specs.Trees.{nodes_of, IsTree}
use Rattle.arena_tree.specs.Plans.{Plan, Done, Ask, Step, Path, Ran}
use Rattle.quantum_cache.specs.Told.{JustRefused, PartRefuses, FreeTold}
use Rattle.quantum_cache.specs.Caches.{chain_in}
use Rattle.quantum_cache.specs.Frees.{free_plan}
use Rattle.quantum_cache.specs.Laws.{drain_left}
use Rattle.quantum_cache.specs.Looks.{DrainTold}
use Rattle.quantum_cache.specs.Drains.{EmptyingEnd, drain_plan, drain_end}
use Rattle.quantum_cache.specs.declared.emptying_faults.EmptyingFault.TheVariants as emptying
use Rattle.quantum_cache.proofs.LawProofs.{drain_tells, free_tells}
use Rattle.lease_call.specs.Placing.{place_plan}
use Rattle.lease_call.proofs.LawProofs.{tree_chain}
use Rattle.lease_threads.specs.Retiring.{EndsAtRefusal, DrainsSoundly, IsUnplaced}
use Rattle.lease_threads.proofs.Runs.{not_both}
use Rattle.lease_threads.proofs.Reaped.{IsQuiet, path_ends}

module _ {S : Type 0} (step : S → (e : Event) → AnswerTo e → S → Type 0) (tree : S → List Node) (count rounds : S → ℕ) (noted : S → Bool) (quiet : IsQuiet step noted) (nodes : List Node) where
  path_refuses : {A : Type 0} (post : List AnsweredEvent → A → Type 0) (t : Tag) (p : Plan A) (s u : S) (a : A) (told : List AnsweredEvent) (refused : Type 0) → ((last : List AnsweredEvent) → post last a → JustRefused t last) → (JustRefused t told → refused) → noted s ≡ false → tree s ≡ nodes → Tells nodes post p told → Path (Step step tree count rounds) p s u a → EndsAtRefusal nodes t refused p a
  path_refuses post t (Done b) s u a told refused says goes none is tells d = (d.1, goes (says told (subst (post told) d.1 tells)))
  path_refuses post t (Ask e f) s u a told refused says goes none is tells d =
      let calm = quiet s d.0 e d.1 d.2.does none in
      let sound = subst (λ n. Sound n e d.1) is d.2.sound in
      (d.1, (sound, calm.0), path_refuses post t (f d.1) d.0 u a (record { event = e; answer = d.1 } ∷ told) (PartRefuses t e d.1) says (λ x. x) calm.1 (d.2.same_tree ∙ is) (tells d.1 sound) d.3)

  never_stopped : {A : Type 0} (post : List AnsweredEvent → A → Type 0) (p : Plan A) (s u : S) (a : A) (told : List AnsweredEvent) → ((last : List AnsweredEvent) → post last a → WasStopped last) → (WasStopped told → ⊥) → noted s ≡ false → tree s ≡ nodes → Tells nodes post p told → Path (Step step tree count rounds) p s u a → ⊥
  never_stopped post (Done b) s u a told says goes none is tells d = goes (says told (subst (post told) d.1 tells))
  never_stopped post (Ask e f) s u a told says goes none is tells d =
      let calm = quiet s d.0 e d.1 d.2.does none in
      let sound = subst (λ n. Sound n e d.1) is d.2.sound in
      never_stopped post (f d.1) d.0 u a (record { event = e; answer = d.1 } ∷ told) says (λ stopped. not_both (is_stopped e d.1) stopped calm.0) calm.1 (d.2.same_tree ∙ is) (tells d.1 sound) d.3

-- a drain that was gone through leaves a round that a part refused, or none; more turns than there are
-- rounds never run out
pub ran_drains : {S : Type 0} (step : S → (e : Event) → AnswerTo e → S → Type 0) (tree : S → List Node) (count rounds : S → ℕ) (noted : S → Bool) → IsQuiet step noted → (arenas drained : List TreeArena) (turns : ℕ) (left : Option Tag) (s u : S) (end : EmptyingEnd)
    → Ran step tree count rounds (drain_plan turns drained) s u (drain_end end) → noted s ≡ false → tree s ≡ nodes_of arenas → drained ≡ arenas → left ≡ drain_left (drain_end end) → DrainsSoundly arenas left
ran_drains step tree count rounds noted quiet arenas drained turns left s u (Ok x) ran none is same has =
    subst (DrainsSoundly arenas) (sym has) (turns, path_ends step tree count rounds noted quiet (nodes_of arenas) (drain_plan turns arenas) s u (Ok tt) none is (subst (λ xs. Path (Step step tree count rounds) (drain_plan turns xs) s u (Ok tt)) same ran.path))
ran_drains step tree count rounds noted quiet arenas drained turns left s u (Err (emptying.Stuck t)) ran none is same has =
    subst (DrainsSoundly arenas) (sym has) (turns, path_refuses step tree count rounds noted quiet (nodes_of arenas) (DrainTold arenas) t (drain_plan turns arenas) s u (Err (Some (emptying.Stuck t))) [] ⊥ (λ told says. says) (λ x. x) none is (drain_tells turns arenas (nodes_of arenas)) (subst (λ xs. Path (Step step tree count rounds) (drain_plan turns xs) s u (Err (Some (emptying.Stuck t)))) same ran.path))
ran_drains step tree count rounds noted quiet arenas drained turns left s u (Err (emptying.Stopped o)) ran none is same has =
    absurd (never_stopped step tree count rounds noted quiet (nodes_of arenas) (DrainTold arenas) (drain_plan turns arenas) s u (Err (Some (emptying.Stopped o))) [] (λ told says. says) (λ x. x) none is (drain_tells turns arenas (nodes_of arenas)) (subst (λ xs. Path (Step step tree count rounds) (drain_plan turns xs) s u (Err (Some (emptying.Stopped o)))) same ran.path))

module _ {S : Type 0} (step : S → (e : Event) → AnswerTo e → S → Type 0) (tree : S → List Node) (count rounds : S → ℕ) (noted : S → Bool) (quiet : IsQuiet step noted) (arenas : List TreeArena) (is_tree : IsTree arenas) (given : Tag) where
  told_placing : nat_lt given.arena (length arenas) ≡ true → Tells (nodes_of arenas) FreeTold (place_plan arenas given) []
  told_placing within =
      let chain = tree_chain arenas is_tree given.arena (ltb-true given.arena (length arenas) within) in
      subst (λ (b : Bool). Tells (nodes_of arenas) FreeTold (if b then free_plan (chain_in arenas given.arena) given else Done (Err (returning.Stuck given))) []) (sym within)
      (free_tells (nodes_of arenas) (chain_in arenas given.arena) given chain.0 chain.1)

  outside : (s u : S) (r : ReturnEnd) → nat_lt given.arena (length arenas) ≡ false → Path (Step step tree count rounds) (place_plan arenas given) s u r → Err (returning.Stuck given) ≡ r
  outside s u r without d =
      (subst (λ (b : Bool). Path (Step step tree count rounds) (if b then free_plan (chain_in arenas given.arena) given else Done (Err (returning.Stuck given))) s u r) without d).1

  unplaced : (b : Bool) (s u : S) (r : ReturnEnd) → nat_lt given.arena (length arenas) ≡ b → noted s ≡ false → tree s ≡ nodes_of arenas → Path (Step step tree count rounds) (place_plan arenas given) s u r → IfSome (return_left r) (IsUnplaced arenas (Some given))
  unplaced b s u (Ok x) is none seen d = tt
  unplaced true s u (Err (returning.Stuck t)) is none seen d =
      inr (path_refuses step tree count rounds noted quiet (nodes_of arenas) FreeTold t (place_plan arenas given) s u (Err (returning.Stuck t)) [] ⊥ (λ told says. says) (λ x. x) none seen (told_placing is) d)
  unplaced false s u (Err (returning.Stuck t)) is none seen d =
      inl (ltb-false given.arena (length arenas) is, (let e : Err (returning.Stuck given) ≡ Err (returning.Stuck t) = outside s u (Err (returning.Stuck t)) is d in let same : t ≡ given = cc in same))
  unplaced true s u (Err (returning.Stopped t)) is none seen d =
      absurd (never_stopped step tree count rounds noted quiet (nodes_of arenas) FreeTold (place_plan arenas given) s u (Err (returning.Stopped t)) [] (λ told says. says) (λ x. x) none seen (told_placing is) d)
  unplaced false s u (Err (returning.Stopped t)) is none seen d =
      absurd (let e : Err (returning.Stuck given) ≡ Err (returning.Stopped t) = outside s u (Err (returning.Stopped t)) is d in cc)

  -- a hand whose placing was gone through, and that isn't placed
  pub ran_places : (placed : List TreeArena) (s u : S) (r : ReturnEnd) → Ran step tree count rounds (place_plan placed given) s u r → noted s ≡ false → tree s ≡ nodes_of arenas → placed ≡ arenas → (hand left : Option Tag) → hand ≡ Some given → left ≡ return_left r → IfSome left (IsUnplaced arenas hand)
  ran_places placed s u r ran none seen same hand left held has =
      subst (λ (o : Option Tag). IfSome left (IsUnplaced arenas o)) (sym held)
      (subst (λ (o : Option Tag). IfSome o (IsUnplaced arenas (Some given))) (sym has)
      (unplaced (nat_lt given.arena (length arenas)) s u r refl none seen (subst (λ xs. Path (Step step tree count rounds) (place_plan xs given) s u r) same ran.path)))

abbrev pub IsStop : EmptyingEnd → Type 0
IsStop (Ok u) = ⊥
IsStop (Err (emptying.Stuck t)) = ⊥
IsStop (Err (emptying.Stopped o)) = Unit {0}

-- and is never stopped
pub ran_on : {S : Type 0} (step : S → (e : Event) → AnswerTo e → S → Type 0) (tree : S → List Node) (count rounds : S → ℕ) (noted : S → Bool) (quiet : IsQuiet step noted) → (arenas drained : List TreeArena) (turns : ℕ) (s u : S) (end : EmptyingEnd)
    → Ran step tree count rounds (drain_plan turns drained) s u (drain_end end) → noted s ≡ false → tree s ≡ nodes_of arenas → drained ≡ arenas → IsStop end → ⊥
ran_on step tree count rounds noted quiet arenas drained turns s u (Ok x) ran none is same stopped = stopped
ran_on step tree count rounds noted quiet arenas drained turns s u (Err (emptying.Stuck t)) ran none is same stopped = stopped
ran_on step tree count rounds noted quiet arenas drained turns s u (Err (emptying.Stopped o)) ran none is same stopped =
    never_stopped step tree count rounds noted quiet (nodes_of arenas) (DrainTold arenas) (drain_plan turns arenas) s u (Err (Some (emptying.Stopped o))) [] (λ told says. says) (λ x. x) none is (drain_tells turns arenas (nodes_of arenas)) (subst (λ xs. Path (Step step tree count rounds) (drain_plan turns xs) s u (Err (Some (emptying.Stopped o)))) same ran.path)
