-- The roots of a system as they are brought together, and their ranges.
use Rattle.std.proofs.Common.{◌≡◌, ℕ, ◌+◌, ◌/◌, ◌<◌, ◌≤◌, ◌++◌, inl, inr, List, [], ◌∷◌, Some, subst, sym, ap, ◌∙◌, arith, length, append-nil, append_assoc, get_or, set}
use Rattle.std.specs.Prelude.{slice_get}
use Rattle.std.specs.Global.{Vec}
use Rattle.std.specs.List.Sorted.{IsPermutation}
use Rattle.std.proofs.lemmas.List.{length-set}
use Rattle.std.proofs.lemmas.List.Elements.{All-append, All-from_get_or, All-nil}
use Rattle.std.proofs.lemmas.List.Sorted.{IsPermutation-append, IsPermutation-refl, IsPermutation-trans}
use Rattle.std.proofs.lemmas.Option.{slice_get-get_or, slice_get_within}
use Rattle.deed_core.specs.Extent.{Extent}
use Rattle.deed_core.specs.Holding.{Holding}
use Rattle.deed_core.proofs.LawProofs.{pushed, read_is, slice_get_one, slice_get_some, written}
use Rattle.arena_tree.specs.declared.limits.TheConstants.{MOST_SPANS}
use Rattle.locked_parts.specs.Growing.{HasRootsMore}
use Rattle.lease_threads.specs.Systems.{SystemState}
use Rattle.lease_threads.specs.Ends.{AreClosed, AreClosedBelow, AreRangesOf, AreRootsFor, AreRootsIn, IsSoBelow, TellsArena}

-- the roots of an arena behind which further ones were put, in any order
pub more_roots : (id : ℕ) (own more all : List Holding) → HasRootsMore id own more → IsPermutation more all → AreRootsFor id own all
more_roots id own more all behind same = record {
  further = behind.0;
  of_arena = behind.1;
  each = subst (λ (l : List Holding). IsPermutation l all) behind.2 same;
}

own_roots : (id : ℕ) (own : List Holding) → AreRootsFor id own own
own_roots id own = more_roots id own own own ([], All-nil (λ (r : Holding). r.root / MOST_SPANS ≡ id), sym (append-nil own)) (IsPermutation-refl own)

-- further ones, and then further ones
roots_then : (id : ℕ) (own mid all : List Holding) → AreRootsFor id own mid → AreRootsFor id mid all → AreRootsFor id own all
roots_then id own mid all first next =
    let both = IsPermutation-append (own ++ first.further) mid next.further next.further first.each (IsPermutation-refl next.further) in
    record {
      further = first.further ++ next.further;
      of_arena = All-append (λ (r : Holding). r.root / MOST_SPANS ≡ id) first.further next.further first.of_arena next.of_arena;
      each = subst (λ (l : List Holding). IsPermutation l all) (append_assoc own first.further next.further) (IsPermutation-trans ((own ++ first.further) ++ next.further) (mid ++ next.further) all both next.each);
    }

-- no arena has further ones
pub same_roots : (s : SystemState) → length s.roots ≡ length s.arenas → AreRootsIn s s.roots
same_roots s count = record {
  for_each = record { roots = count; here = count };
  are = λ id own r at now. subst (λ (z : Vec Holding). AreRootsFor id own.items z.items) (slice_get_one s.roots id own r at now) (own_roots id own.items);
}

-- one arena has
pub more_at : (s : SystemState) (id : ℕ) (v w : Vec Holding) → length s.roots ≡ length s.arenas → v ≡ get_or s.roots id v → AreRootsFor id v.items w.items → AreRootsIn s (set s.roots id w)
more_at s id v w count read more = record {
  for_each = record { roots = count; here = length-set s.roots id w ∙ count };
  are = λ k own r at now. elim (written s.roots id k w r now) [
    | inl is ↦
        let here : slice_get s.roots id ≡ Some own = subst (λ (n : ℕ). slice_get s.roots n ≡ Some own) is.0 at in
        let first : AreRootsFor id own.items w.items = subst (λ (o : Vec Holding). AreRootsFor id o.items w.items) (read_is s.roots id v own read here) more in
        subst (λ (z : Vec Holding). AreRootsFor k own.items z.items) (sym is.1) (subst (λ (n : ℕ). AreRootsFor n own.items w.items) (sym is.0) first)
    | inr there ↦ subst (λ (z : Vec Holding). AreRootsFor k own.items z.items) (slice_get_one s.roots k own r at there.1) (own_roots k own.items)
  ];
}

-- it is so of the first arenas up to this one once it is of this
pub so_at : (P : List Holding → Type 0) (roots : List (Vec Holding)) (id : ℕ) (w : Vec Holding) → P w.items → IsSoBelow P id roots → IsSoBelow P (id + 1) (set roots id w)
so_at P roots id w here before k r at within = elim (written roots id k w r at) [
  | inl is ↦ subst (λ (z : Vec Holding). P z.items) (sym is.1) here
  | inr there ↦ before k r there.1 (let other = there.0 in omega (arith, within, other))
]

-- where those of all arenas are closed, none has a root
pub closed_all : (roots : List (Vec Holding)) (count : ℕ) → length roots ≤ count → AreClosedBelow count roots → AreClosed roots
closed_all [] count few below = All-nil (λ (r : Vec Holding). r.items ≡ [])
closed_all (x ∷ xs) count few below =
    All-from_get_or (λ (r : Vec Holding). r.items ≡ []) (x ∷ xs) x (λ i within. below i (get_or (x ∷ xs) i x) (slice_get-get_or (x ∷ xs) i x within) (omega (arith, within, few)))

-- what a system tells whose roots are those of another, and further ones
module _ (s t : SystemState) (arenas : t.arenas ≡ s.arenas) (first : AreRootsIn s t.roots) where
  counts : length t.arenas ≡ length s.arenas
  counts = ap length arenas

  pub roots_later : (all : List (Vec Holding)) → AreRootsIn t all → AreRootsIn s all
  roots_later all next = record {
    for_each = record { roots = first.for_each.roots; here = next.for_each.here ∙ counts };
    are = λ id own r at now.
        let within = slice_get_within all id r now in
        let mid = slice_get_some t.roots id (omega (arith, within, next.for_each.here, next.for_each.roots)) in
        roots_then id own.items mid.0.items r.items (first.are id own mid.0 at mid.1) (next.are id mid.0 r mid.1 now);
  }

  pub told_later : (id : ℕ) (ranges : List Extent) → id < length t.roots → TellsArena t id ranges → TellsArena s id ranges
  told_later id ranges within tells own at =
      let mid = slice_get_some t.roots id within in
      let is = tells mid.0 mid.1 in
      record {
        all = is.all;
        each = roots_then id own.items mid.0.items is.all (first.are id own mid.0 at mid.1) is.each;
        of_arena = is.of_arena;
        in_order = is.in_order;
        told = is.told;
      }

  pub ranges_later : (ranges : List (Vec Extent)) → AreRangesOf t ranges → AreRangesOf s ranges
  ranges_later ranges next = record {
    for_each = record { roots = first.for_each.roots; here = next.for_each.here ∙ counts };
    told = λ id r at. told_later id r.items (let within = slice_get_within ranges id r at in omega (arith, within, next.for_each.here, next.for_each.roots)) (next.told id r at);
  }

-- one arena more is told
pub told_more : (s : SystemState) (told new : List (Vec Extent)) (r : Vec Extent) (id : ℕ) → length told ≡ id → new ≡ told ++ r ∷ []
    → ((k : ℕ) (t : Vec Extent) → slice_get told k ≡ Some t → TellsArena s k t.items) → TellsArena s id r.items
    → (k : ℕ) (t : Vec Extent) → slice_get new k ≡ Some t → TellsArena s k t.items
told_more s told new r id is more before this k t at = elim (pushed told k r t (subst (λ (l : List (Vec Extent)). slice_get l k ≡ Some t) more at)) [
  | inl last ↦ subst (λ (z : Vec Extent). TellsArena s k z.items) (sym last.1) (subst (λ (n : ℕ). TellsArena s n r.items) (sym (last.0 ∙ is)) this)
  | inr there ↦ before k t there
]
