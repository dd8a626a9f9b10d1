-- Arenas under their locks, as they were made.
use Rattle.std.proofs.Common.{◌≡◌, ◌⊎◌, ◌∙◌, ℕ, zero, suc, ◌+◌, List, [], ◌∷◌, ◌++◌, Option, Some, None, IfSome, inl, inr, refl, ap, sym, subst, length, map, nat_lt, slice_index_or, arith}
use Rattle.std.specs.Prelude.{slice_get}
use Rattle.std.specs.Option.{is_some, option_map}
use Rattle.std.proofs.lemmas.Bool.{ltb-true}
use Rattle.deed_core.proofs.LawProofs.{slice_get_here}
use Rattle.std.proofs.lemmas.List.{append_assoc, length-map}
use Rattle.std.proofs.lemmas.Option.{slice_get-map, slice_get_within}
use Rattle.arena_tree.specs.Chains.{quantum_in, source_of}
use Rattle.arena_tree.specs.Trees.{nodes_of}
use Rattle.arena_tree.specs.declared.trees.TreeArena.{TreeArena}
use Rattle.locked_parts.specs.News.{NewArenaState, IsMadeAsSet, AreMadeAsSet, StandAsSet, StandsAsSet, locked_of}
use Rattle.locked_parts.specs.Answers.{set_of}
use Rattle.locked_parts.specs.Kinds.{count_of_caches, kinds_up_to}
use Rattle.locked_parts.specs.States.{AreInPlace, IsFrontOf, LockedArenaState, StandsInPlace}
use Rattle.locked_parts.specs.declared.kinds.CacheKind.{CacheKind}
use Rattle.locked_parts.proofs.Sounds.{quantum_at, source_at}
use Rattle.locked_parts.proofs.Begins.{at_first, at_second, up_to_at, up_to_length}

-- what one was made as is what it was set up as
set_up : (arenas : List TreeArena) (id : ℕ) (a : NewArenaState) → IsMadeAsSet arenas id a → record { number = a.id; quantum = a.quantum; source = a.source } ≡ set_of arenas id
set_up arenas id a made =
    let quantum : a.quantum ≡ quantum_in (nodes_of arenas) id = made.arena.3 ∙ sym (quantum_at arenas id made.arena.0 made.arena.1) in
    let source : a.source ≡ source_of (nodes_of arenas) id = made.arena.5 ∙ sym (source_at arenas id made.arena.0 made.arena.1) in
    let number : a.id ≡ id = made.arena.2 in
    cc

-- as they were made, so they stand
pub stand_as_set : (arenas : List TreeArena) (made : List NewArenaState) (stand : List LockedArenaState) → length made ≡ length arenas → AreMadeAsSet arenas made → stand ≡ map locked_of made → StandAsSet arenas stand
stand_as_set arenas made stand count all is = record {
  count = ap length is ∙ length-map made locked_of ∙ count;
  each = λ k a at. of_made k a (slice_get made k) refl (sym (slice_get-map locked_of made k) ∙ (ap (λ (l : List LockedArenaState). slice_get l k) (sym is) ∙ at));
}
  where
    of_made : (k : ℕ) (a : LockedArenaState) (o : Option NewArenaState) → slice_get made k ≡ o → option_map locked_of (slice_get made k) ≡ Some a → StandsAsSet arenas k a
    of_made k a None none at = (let e : option_map locked_of None ≡ Some a = ap (option_map locked_of) (sym none) ∙ at in absurd (cc))
    of_made k a (Some x) some at =
        let e : Some (locked_of x) ≡ Some a = ap (option_map locked_of) (sym some) ∙ at in
        let same : locked_of x ≡ a = cc in
        let made_so = all.each k x some in
        record {
          set = ap (λ (l : LockedArenaState). l.set) (sym same) ∙ set_up arenas k x made_so;
          kinds = ap (λ (l : LockedArenaState). l.kinds) (sym same) ∙ made_so.kinds;
        }

-- those are in their places
pub set_in_place : (arenas : List TreeArena) (stand : List LockedArenaState) → StandAsSet arenas stand → AreInPlace arenas stand
set_in_place arenas stand as_set = λ k a at. record {
  set = (as_set.each k a at).set;
  kinds = let set = (as_set.each k a at).kinds in
      let quantum = quantum_in (nodes_of arenas) k in
      let count : count_of_caches arenas k ≡ length a.kinds = sym (ap length set ∙ up_to_length k quantum (count_of_caches arenas k)) in
      set ∙ ap (kinds_up_to k quantum) count;
}

same_lists : {X : Type 0} (xs ys : List X) → length xs ≡ length ys → ((k : ℕ) (x : X) → slice_get xs k ≡ Some x → slice_get ys k ≡ Some x) → xs ≡ ys
same_lists [] [] count same = refl
same_lists [] (y ∷ ys) count same = absurd (omega (arith, count))
same_lists (x ∷ xs) [] count same = absurd (omega (arith, count))
same_lists (x ∷ xs) (y ∷ ys) count same =
    let first : Some y ≡ Some x = same 0 x refl in
    let rest : xs ≡ ys = same_lists xs ys (omega (arith, count)) (λ k z at. same (suc k) z at) in
    cc

-- of what is there, if anything
pub if_so : {B : Type 0} (P Q : B → Type 0) (o : Option B) → ((b : B) → P b → Q b) → IfSome o P → IfSome o Q
if_so P Q None f is = tt
if_so P Q (Some b) f is = f b is

-- what is so of the arena that stands at a place is so of one that was found there
pub found_so : {B : Type 0} (P : LockedArenaState → Type 0) (now : B → LockedArenaState) (o : Option B) (xs : List LockedArenaState) (k : ℕ) → (is_some o ≡ nat_lt k (length xs)) × IfSome o (λ b. now b ≡ slice_index_or xs k (now b)) → ((a : LockedArenaState) → slice_get xs k ≡ Some a → P a) → IfSome o (λ b. P (now b))
found_so P now None xs k found all = tt
found_so P now (Some b) xs k found all = all (now b) (slice_get_here xs k (now b) (ltb-true k (length xs) (sym found.0)) found.1)

-- the first ones of an arena's quantum caches are the first ones that it was set up with
front_of : (arena quantum : ℕ) (n : ℕ) (left rest : List CacheKind) → kinds_up_to arena quantum n ≡ left ++ rest → left ≡ kinds_up_to arena quantum (length left)
front_of arena quantum n left rest is = same_lists left (kinds_up_to arena quantum (length left)) (sym (up_to_length arena quantum (length left))) (λ k x at. same k x at)
  where
    same : (k : ℕ) (x : CacheKind) → slice_get left k ≡ Some x → slice_get (kinds_up_to arena quantum (length left)) k ≡ Some x
    same k x at =
        let there = at_first left rest k x at in
        let all : slice_get (kinds_up_to arena quantum n) k ≡ Some x = ap (λ (l : List CacheKind). slice_get l k) is ∙ there in
        let few = slice_get_within (kinds_up_to arena quantum n) k x all in
        let one = up_to_at arena quantum n k (omega (arith, few, up_to_length arena quantum n)) in
        up_to_at arena quantum (length left) k (slice_get_within left k x at) ∙ sym one ∙ all

-- so an arena with these left stands in its place too
pub fewer_kinds : (arenas : List TreeArena) (id : ℕ) (a b : LockedArenaState) → StandsInPlace arenas id a → b.set ≡ a.set → IsFrontOf a.kinds b.kinds → StandsInPlace arenas id b
fewer_kinds arenas id a b stands same front = record {
  set = same ∙ stands.set;
  kinds = front_of id (quantum_in (nodes_of arenas) id) (length a.kinds) b.kinds front.0 (sym stands.kinds ∙ front.1);
}

-- the last one goes, or comes back
module _ {X : Type 0} where
  pub front_before : (all held less : List X) (x : X) → held ≡ less ++ x ∷ [] → IsFrontOf all held → IsFrontOf all less
  front_before all held less x is front =
      (x ∷ front.0, front.1 ∙ ap (λ (l : List X). l ++ front.0) is ∙ append_assoc less (x ∷ []) front.0)

  pub front_back : (all held less : List X) (x y : X) (back : List X) → y ≡ x → held ≡ less ++ x ∷ [] → back ≡ less ++ y ∷ [] → IsFrontOf all held → IsFrontOf all back
  front_back all held less x y back same is pushed front =
      (front.0, front.1 ∙ ap (λ (l : List X). l ++ front.0) (is ∙ ap (λ (z : X). less ++ z ∷ []) (sym same) ∙ sym pushed))

-- without the last arena all are in their places too
pub fewer_in_place : (arenas : List TreeArena) (xs : List LockedArenaState) (a : LockedArenaState) → AreInPlace arenas (xs ++ a ∷ []) → AreInPlace arenas xs
fewer_in_place arenas xs a all = λ k b at. all k b (at_first xs (a ∷ []) k b at)

-- and with what is left of it in its place
module _ (arenas : List TreeArena) (xs : List LockedArenaState) (a b : LockedArenaState) (same : b.set ≡ a.set) (front : IsFrontOf a.kinds b.kinds) (all : AreInPlace arenas (xs ++ a ∷ [])) where
  here_or_last : (ys : List LockedArenaState) (k : ℕ) (c : LockedArenaState) → slice_get (ys ++ b ∷ []) k ≡ Some c → ((k ≡ length ys + 0) × (b ≡ c)) ⊎ (slice_get ys k ≡ Some c)
  here_or_last [] zero c at = inl (refl, (let e : Some b ≡ Some c = at in cc))
  here_or_last [] (suc k) c at = absurd (let e : None ≡ Some c = at in cc)
  here_or_last (y ∷ ys) zero c at = inr at
  here_or_last (y ∷ ys) (suc k) c at = elim (here_or_last ys k c at) [
    | inl is ↦ inl ((let e : suc k ≡ length (y ∷ ys) + 0 = omega (arith, is.0) in e), is.1)
    | inr there ↦ inr there
  ]

  pub back_in_place : AreInPlace arenas (xs ++ b ∷ [])
  back_in_place = λ k c at. elim (here_or_last xs k c at) [
    | inl is ↦ subst (StandsInPlace arenas k) is.1 (fewer_kinds arenas k a b (all k a (ap (slice_get (xs ++ a ∷ [])) is.0 ∙ at_second xs (a ∷ []) 0)) same front)
    | inr there ↦ all k c (at_first xs (a ∷ []) k c there)
  ]
