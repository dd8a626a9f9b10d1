-- A stock that is being made of a setup and the deeds of its spans.
use Rattle.std.proofs.Common.{◌≡◌, ◌≢◌, ℕ, ◌+◌, suc, ◌<◌, ◌==◌, true, false, refl, sym, subst, ap, ◌∙◌, inl, inr, List, [], ◌∷◌, ◌++◌, map, reverse, drop, length, set, All, Some, None, arith, eq-eqb}
use Rattle.std.specs.Prelude.{get_or, slice_get, sum_by}
use Rattle.std.proofs.lemmas.Bool.{ne_eqb}
use Rattle.std.proofs.lemmas.List.{append-nil, append_assoc, drop_more, length-map, reverse-append, map-append}
use Rattle.std.proofs.lemmas.List.Elements.{All-nil, All-set}
use Rattle.std.proofs.lemmas.List.Sums.{sum_by-cons, sum_by_push}
use Rattle.std.proofs.lemmas.Option.{slice_get_within, get_or_from_slice_get}
use Rattle.deed_core.specs.Extent.{Extent, Overlap}
use Rattle.deed_core.specs.Holding.{Holding}
use Rattle.deed_core.specs.Tag.{Tag}
use Rattle.deed_core.specs.Weights.{Loses}
use Rattle.deed_core.proofs.LawProofs.{pushed, written, slice_get_one, slice_get_mapped, all_at, all_from, sum_set, sum_none, set_same, slice_get-set, slice_get-set_other}
use Rattle.tag_arena.specs.ArenaState.{ArenaState, OnQuantum, empty_arena}
use Rattle.tag_arena.specs.Calls.{IsClear, after_add}
use Rattle.slab_layer.specs.Slab.{SlabState, IsComplete}
use Rattle.magazine_layer.specs.Depots.{depot_rounds}
use Rattle.arena_tree.specs.declared.trees.TreeArena.{TreeArena}
use Rattle.arena_tree.specs.declared.setups.OwnedSpan.{OwnedSpan}
use Rattle.arena_tree.specs.Settings.{SetupState, IsSetup, IsOwned, Clash}
use Rattle.stock.specs.Spaces.{SpaceState, QuantumCacheState, SpacePlan, plan_of, plans_of, with_arena}
use Rattle.stock.specs.Stocks.{IsStock}
use Rattle.stock.specs.Steps.{OnArena, new_cache}
use Rattle.stock.specs.Endings.{IsBare, IsReaped, IsReapedCache}
use Rattle.stock.specs.Setups.{plan_for, plans_for, AreNewCaches, IsNewSpace, AreDeedsOf, deeds_owned, unused_arena, IsUnused, IsSetUpFrom}
use Rattle.stock.specs.Owning.{weight_owned, AreOwnedOrLeft}

-- the last is the first of the list turned round
pub popped : {X : Type 0} (old new : List X) (x : X) → old ≡ new ++ x ∷ [] → reverse old ≡ x ∷ reverse new
popped old new x is = ap reverse is ∙ reverse-append new (x ∷ [])

pub drop_here : {X : Type 0} (xs : List X) (i : ℕ) (x : X) → slice_get xs i ≡ Some x → drop i xs ≡ x ∷ drop (i + 1) xs
drop_here xs i x at = drop_more xs i x (slice_get_within xs i x at) ∙ ap (λ z. z ∷ drop (i + 1) xs) (get_or_from_slice_get xs i x x at)

-- the other way round they weigh the same
pub turned : {X : Type 0} (held : X → Holding) (xs : List X) (f : Holding → ℕ) → sum_by f (map held (reverse xs)) ≡ sum_by f (map held xs)
turned held [] f = refl
turned held (x ∷ xs) f =
    let back = ap (λ ys. sum_by f (map held ys)) (reverse-append (x ∷ []) xs) ∙ ap (sum_by f) (map-append held (reverse xs) (x ∷ [])) in
    omega (arith, back, turned held xs f, sum_by_push f (map held (reverse xs)) (held x), sum_by-cons f (held x) (map held xs))

-- some are left where a span is
pub some_left : (left more : List OwnedSpan) (o : OwnedSpan) (rest : List Holding) → left ≡ o ∷ more → AreDeedsOf left rest → 0 < length rest
some_left left more o rest is deeds =
    let same = ap (λ (es : List Extent). length es) deeds in
    let longer = ap (λ (os : List OwnedSpan). length os) is in
    omega (arith, same, longer, length-map rest (λ (h : Holding). h.range), length-map left (λ (x : OwnedSpan). x.range))

-- an arena that is as before
pub same_there : (old new : List SpaceState) (k : ℕ) (s : SpaceState) (a : ArenaState) → slice_get old k ≡ Some s → new ≡ set old k (with_arena a s) → a ≡ s.arena → new ≡ old
same_there old new k s a at after same = after ∙ ap (λ (x : ArenaState). set old k (with_arena x s)) same ∙ set_same old k s at

-- a setup's root is one of the stock
module _ (setup : SetupState) (sound : IsSetup setup) (spaces : List SpaceState) (plans : plans_of spaces ≡ plans_for setup.arenas) where
  pub is_within : (id : ℕ) (x : TreeArena) → slice_get setup.arenas id ≡ Some x → id < length spaces
  is_within id x at =
      let same = ap (λ (ps : List SpacePlan). length ps) plans in
      omega (arith, slice_get_within setup.arenas id x at, same, length-map spaces plan_of, length-map setup.arenas plan_for)

  pub is_plan : (id : ℕ) (x : TreeArena) (s : SpaceState) → slice_get setup.arenas id ≡ Some x → slice_get spaces id ≡ Some s → plan_of s ≡ plan_for x
  is_plan id x s at there = slice_get_one (plans_of spaces) id (plan_of s) (plan_for x) (slice_get_mapped plan_of spaces id s there) (ap (λ (ps : List SpacePlan). slice_get ps id) plans ∙ slice_get_mapped plan_for setup.arenas id x at)

  module _ (i : ℕ) (o : OwnedSpan) (at : slice_get setup.spans i ≡ Some o) where
    owner : IsOwned setup.arenas o
    owner = all_at (IsOwned setup.arenas) setup.spans i o sound.owned at

    pub span_within : o.arena < length spaces
    span_within = is_within o.arena owner.0 owner.1.here

    pub span_of_root : (s : SpaceState) → slice_get spaces o.arena ≡ Some s → s.source ≡ None
    span_of_root s there = ap (λ (p : SpacePlan). p.source) (is_plan o.arena owner.0 s owner.1.here there) ∙ owner.1.root

    pub span_on_grid : (s : SpaceState) → slice_get spaces o.arena ≡ Some s → OnQuantum s.arena.quantum o.range
    span_on_grid s there = subst (λ q. OnQuantum q o.range) (sym (ap (λ (p : SpacePlan). p.quantum) (is_plan o.arena owner.0 s owner.1.here there))) owner.2.1

-- a span more
grown : (a b : ArenaState) (k : ℕ) (h : Holding) → a ≡ unused_arena k a.quantum a.policy a.owned → b ≡ after_add a h → b ≡ unused_arena k b.quantum b.policy b.owned
grown a b k h is after = subst (λ (x : ArenaState). x ≡ unused_arena k x.quantum x.policy x.owned) (sym after) (ap (λ (x : ArenaState). after_add x h) is)

module _ (setup : SetupState) (all : List Holding) (rounds : ℕ) where
  -- some spans are owned, and these are left, of which those are the deeds
  pub record IsOwning (left : List OwnedSpan) (rest : List Holding) (spaces : List SpaceState) : Type 0 where
    pub deeds : AreDeedsOf left rest
    pub plans : plans_of spaces ≡ plans_for setup.arenas
    pub unused : (k : ℕ) (s : SpaceState) → slice_get spaces k ≡ Some s → IsUnused rounds k s.arena.owned s
    pub owned : (k : ℕ) (s : SpaceState) → slice_get spaces k ≡ Some s → deeds_owned k setup.spans all ≡ s.arena.owned ++ deeds_owned k left rest
    pub same : AreOwnedOrLeft all spaces rest
    pub apart : (i j : ℕ) (a b : OwnedSpan) → i < j → slice_get left i ≡ Some a → slice_get left j ≡ Some b → ¬ Clash a b
    pub clear : (k j : ℕ) (s : SpaceState) (o : OwnedSpan) → slice_get spaces k ≡ Some s → slice_get left j ≡ Some o → o.arena ≡ k → All (λ h. ¬ Overlap h.range o.range) s.arena.owned

  module _ (spaces : List SpaceState) (stock : IsStock spaces) (new : All (IsNewSpace rounds) spaces) where
    owns_none : (k : ℕ) (s : SpaceState) → slice_get spaces k ≡ Some s → s.arena.owned ≡ []
    owns_none k s at = ap (λ (a : ArenaState). a.owned) (all_at (IsNewSpace rounds) spaces k s new at).arena

    pub begun : IsSetup setup → AreDeedsOf setup.spans all → plans_of spaces ≡ plans_for setup.arenas → IsOwning setup.spans all spaces
    begun sound deeds plans = record {
      deeds = deeds;
      plans = plans;
      unused = λ k s at. record {
        arena = (all_at (IsNewSpace rounds) spaces k s new at).arena ∙ ap (λ i. empty_arena i s.arena.quantum s.arena.policy) (stock k s at).id ∙ ap (unused_arena k s.arena.quantum s.arena.policy) (sym (owns_none k s at));
        caches = (all_at (IsNewSpace rounds) spaces k s new at).caches;
      };
      owned = λ k s at. ap (λ (os : List Holding). os ++ deeds_owned k setup.spans all) (sym (owns_none k s at));
      same = λ f. (let none = sum_none (weight_owned f) spaces (λ k s at. ap (sum_by f) (owns_none k s at)) in omega (arith, none));
      apart = λ i j a b lt x y.
          let one : get_or setup.spans i b ≡ a = get_or_from_slice_get setup.spans i a b x in
          let two : get_or setup.spans j b ≡ b = get_or_from_slice_get setup.spans j b b y in
          subst (λ z. ¬ Clash a z) two (subst (λ z. ¬ Clash z (get_or setup.spans j b)) one (sound.apart i j b lt (slice_get_within setup.spans j b y)));
      clear = λ k j s o at there here. subst (λ (hs : List Holding). All (λ h. ¬ Overlap h.range o.range) hs) (sym (owns_none k s at)) (All-nil (λ (h : Holding). ¬ Overlap h.range o.range));
    }

  -- nothing is in the way of the next span
  module _ (o : OwnedSpan) (left : List OwnedSpan) (h : Holding) (rest : List Holding) (spaces : List SpaceState) (is : IsOwning (o ∷ left) (h ∷ rest) spaces) where
    pub range_here : h.range ≡ o.range
    range_here = (let e : h.range ∷ map (λ (x : Holding). x.range) rest ≡ o.range ∷ map (λ (x : OwnedSpan). x.range) left = is.deeds in cc)

    pub clear_here : (s : SpaceState) → slice_get spaces o.arena ≡ Some s → IsClear s.arena h.range
    clear_here s at =
        subst (λ e. IsClear s.arena e) (sym range_here) (subst (λ (a : ArenaState). IsClear a o.range) (sym (is.unused o.arena s at).arena)
        (subst (λ (hs : List Holding). All (λ g. ¬ Overlap g.range o.range) hs) (sym (append-nil s.arena.owned)) (is.clear o.arena 0 s o at refl refl)))

  module _ (o : OwnedSpan) (left : List OwnedSpan) (h : Holding) (rest : List Holding) (old new : List SpaceState) (is : IsOwning (o ∷ left) (h ∷ rest) old) (on : OnArena o.arena (λ a b. b ≡ after_add a h) old new) (fixed : plans_of new ≡ plans_of old) where
    at_new : (k : ℕ) (s : SpaceState) → slice_get new k ≡ Some s → slice_get (set old o.arena (with_arena on.arena on.space)) k ≡ Some s
    at_new k s at = ap (λ (xs : List SpaceState). slice_get xs k) (sym on.after) ∙ at

    more_owned : on.arena.owned ≡ on.space.arena.owned ++ h ∷ []
    more_owned = ap (λ (a : ArenaState). a.owned) on.does

    here_unused : IsUnused rounds o.arena on.arena.owned (with_arena on.arena on.space)
    here_unused =
        let was = is.unused o.arena on.space on.at in
        record { arena = grown on.space.arena on.arena o.arena h was.arena on.does; caches = subst (λ (a : ArenaState). AreNewCaches rounds (with_arena a on.space)) (sym on.does) was.caches }

    here_owned : deeds_owned o.arena setup.spans all ≡ on.arena.owned ++ deeds_owned o.arena left rest
    here_owned =
        let own : (o.arena == o.arena) ≡ true = eq-eqb o.arena o.arena refl in
        let was : deeds_owned o.arena setup.spans all ≡ on.space.arena.owned ++ h ∷ deeds_owned o.arena left rest = is.owned o.arena on.space on.at ∙ rw own refl in
        was ∙ sym (append_assoc on.space.arena.owned (h ∷ []) (deeds_owned o.arena left rest)) ∙ ap (λ (os : List Holding). os ++ deeds_owned o.arena left rest) (sym more_owned)

    there_owned : (k : ℕ) (s : SpaceState) → k ≢ o.arena → slice_get old k ≡ Some s → deeds_owned k setup.spans all ≡ s.arena.owned ++ deeds_owned k left rest
    there_owned k s other at =
        let not : (o.arena == k) ≡ false = ne_eqb o.arena k (λ e. other (sym e)) in
        is.owned k s at ∙ rw not refl

    clear_more : (j : ℕ) (p : OwnedSpan) → slice_get left j ≡ Some p → p.arena ≡ o.arena → All (λ g. ¬ Overlap g.range p.range) on.arena.owned
    clear_more j p there same =
        let apart : ¬ Clash o p = is.apart 0 (suc j) o p (omega (arith)) refl there in
        let before = is.clear o.arena (suc j) on.space p on.at there same in
        subst (λ (hs : List Holding). All (λ g. ¬ Overlap g.range p.range) hs) (sym more_owned)
        (all_from (λ (g : Holding). ¬ Overlap g.range p.range) (on.space.arena.owned ++ h ∷ []) (λ n g got. elim (pushed on.space.arena.owned n h g got) [
          | inl last ↦ subst (λ (x : Holding). ¬ Overlap x.range p.range) (sym last.1) (λ over. apart (sym same, subst (λ e. Overlap e p.range) (range_here o left h rest old is) over))
          | inr earlier ↦ all_at (λ (x : Holding). ¬ Overlap x.range p.range) on.space.arena.owned n g before earlier
        ]))

    pub owned_more : IsOwning left rest new
    owned_more = record {
      deeds = (let e : h.range ∷ map (λ (x : Holding). x.range) rest ≡ o.range ∷ map (λ (x : OwnedSpan). x.range) left = is.deeds in cc);
      plans = fixed ∙ is.plans;
      unused = λ k s at. elim (written old o.arena k (with_arena on.arena on.space) s (at_new k s at)) [
        | inl here ↦ subst (λ (x : SpaceState). IsUnused rounds k x.arena.owned x) (sym here.1) (subst (λ j. IsUnused rounds j on.arena.owned (with_arena on.arena on.space)) (sym here.0) here_unused)
        | inr other ↦ is.unused k s other.1
      ];
      owned = λ k s at. elim (written old o.arena k (with_arena on.arena on.space) s (at_new k s at)) [
        | inl here ↦
            subst (λ (x : SpaceState). deeds_owned k setup.spans all ≡ x.arena.owned ++ deeds_owned k left rest) (sym here.1)
            (subst (λ j. deeds_owned j setup.spans all ≡ on.arena.owned ++ deeds_owned j left rest) (sym here.0) here_owned)
        | inr other ↦ there_owned k s other.0 other.1
      ];
      same = λ f.
          let set_is = sum_set (weight_owned f) old o.arena on.space (with_arena on.arena on.space) on.at in
          let grows : sum_by f on.arena.owned ≡ sum_by f on.space.arena.owned + f h = ap (sum_by f) more_owned ∙ sum_by_push f on.space.arena.owned h in
          let after = ap (sum_by (weight_owned f)) on.after in
          omega (arith, is.same f, set_is, grows, after, sum_by-cons f h rest);
      apart = λ i j a b lt x y. is.apart (suc i) (suc j) a b (omega (arith, lt)) x y;
      clear = λ k j s p at there same. elim (written old o.arena k (with_arena on.arena on.space) s (at_new k s at)) [
        | inl here ↦ subst (λ (x : SpaceState). All (λ g. ¬ Overlap g.range p.range) x.arena.owned) (sym here.1) (clear_more j p there (same ∙ here.0))
        | inr other ↦ is.clear k (suc j) s p other.1 there same
      ];
    }

  pub owned_whole : (left : List OwnedSpan) (rest : List Holding) (spaces : List SpaceState) → left ≡ [] → IsOwning left rest spaces → IsSetUpFrom setup all rounds spaces
  owned_whole left rest spaces none is = record {
    plans = is.plans;
    unused = λ k s at.
        let all_of : s.arena.owned ≡ deeds_owned k setup.spans all =
        sym (is.owned k s at ∙ ap (λ (os : List OwnedSpan). s.arena.owned ++ deeds_owned k os rest) none ∙ append-nil s.arena.owned) in
        subst (λ (os : List Holding). IsUnused rounds k os s) all_of (is.unused k s at);
  }

  reaped_cache : (arena k quantum slab_size : ℕ) (c : QuantumCacheState) → c ≡ new_cache arena k quantum slab_size rounds → IsReapedCache c
  reaped_cache arena k quantum slab_size c new = record {
    rounds = ap (λ (x : QuantumCacheState). depot_rounds x.depot) new;
    slabs = subst (λ (x : QuantumCacheState). All (λ s. ¬ IsComplete s) x.slab.slabs) (sym new) (All-nil (λ (s : SlabState). ¬ IsComplete s));
  }

  pub owning_is_reaped : (left : List OwnedSpan) (rest : List Holding) (spaces : List SpaceState) → IsOwning left rest spaces → All IsReaped spaces
  owning_is_reaped left rest spaces is = all_from IsReaped spaces (λ k s at. all_from IsReapedCache s.caches (λ j c there. reaped_cache s.arena.id (j + 1) s.arena.quantum c.slab.slab_size c ((is.unused k s at).caches j c there)))

-- an arena changed
module _ (old new : List SpaceState) (k : ℕ) (P : ArenaState → ArenaState → Type 0) (on : OnArena k P old new) where
  pub others_stay : (j : ℕ) → j ≢ k → slice_get new j ≡ slice_get old j
  others_stay j other = ap (λ (xs : List SpaceState). slice_get xs j) on.after ∙ slice_get-set_other old k j (with_arena on.arena on.space) other

  pub there_now : slice_get new k ≡ Some (with_arena on.arena on.space)
  there_now = ap (λ (xs : List SpaceState). slice_get xs k) on.after ∙ slice_get-set old k (with_arena on.arena on.space) (slice_get_within old k on.space on.at)

  pub stay_reaped : All IsReaped old → All IsReaped new
  stay_reaped all = subst (λ (xs : List SpaceState). All IsReaped xs) (sym on.after) (All-set IsReaped old k (with_arena on.arena on.space) (all_at IsReaped old k on.space all on.at) all)

  pub owns_less : (h : Holding) → ((s t : SpaceState) → slice_get old k ≡ Some s → slice_get new k ≡ Some t → Loses s.arena.owned t.arena.owned h) → (f : Holding → ℕ) → sum_by (weight_owned f) old ≡ sum_by (weight_owned f) new + f h
  owns_less h loses f =
      let less : sum_by f on.space.arena.owned ≡ sum_by f on.arena.owned + f h = loses on.space (with_arena on.arena on.space) on.at there_now f in
      let set_is = sum_set (weight_owned f) old k on.space (with_arena on.arena on.space) on.at in
      omega (arith, less, set_is, ap (sum_by (weight_owned f)) on.after)

-- a list's members, each weighing one
pub each_one : (hs : List Holding) → sum_by (λ (h : Holding). 1) hs ≡ length hs
each_one [] = refl
each_one (h ∷ hs) = omega (arith, sum_by-cons (λ (x : Holding). 1) h hs, each_one hs)

-- what is bare owns nothing
front_nil : {X : Type 0} (xs ys : List X) → xs ++ ys ≡ [] → xs ≡ []
front_nil [] ys e = refl
front_nil (x ∷ xs) ys e = absurd (let no : x ∷ (xs ++ ys) ≡ [] = e in cc)

pub bare_owns_none : (spaces : List SpaceState) → All IsBare spaces → (f : Holding → ℕ) → sum_by (weight_owned f) spaces ≡ 0
bare_owns_none spaces bare f = sum_none (weight_owned f) spaces (λ k s at. ap (sum_by f) (front_nil s.arena.owned (map (λ (t : Tag). t.holding) s.arena.imported) (all_at IsBare spaces k s bare at).spans))
