-- In which order a reaping gives spans back: look by look, the first of those that go.
use Rattle.std.proofs.Common.{◌≡◌, ◌⊎◌, ℕ, ◌+◌, ◌<◌, ◌≤◌, zero, suc, List, [], ◌∷◌, ◌++◌, Some, None, length, map, set, inl, inr, refl, sym, ap, subst, ◌∙◌, append_assoc, arith}
use Rattle.std.specs.Prelude.{slice_get}
use Rattle.std.specs.List.{flat_map}
use Rattle.std.proofs.lemmas.List.{length-set}
use Rattle.deed_core.proofs.LawProofs.{map_set_same, written}
use Rattle.deed_core.specs.Tag.{Tag}
use Rattle.tag_arena.specs.ArenaState.{ArenaState}
use Rattle.stock.specs.Spaces.{SpaceState, QuantumCacheState, IsCacheAt, with_arena, with_cache, with_caches}
use Rattle.stock.specs.Steps.{OnArena}
use Rattle.lease_machine.specs.Moves.{Returns, ReturnAll, arenas_with}
use Rattle.lease_machine.specs.Moves.Returns.{rises, stays}
use Rattle.lease_machine.specs.Operators.{outlines_after_reap, slabs_after_reap, spans_of_arena, spans_of_cache, spans_to_go}

-- lists of lists where one changed
module _ {X Y : Type 0} (f : X → List Y) where
  flat_same : (xs : List X) (j : ℕ) (x y : X) → slice_get xs j ≡ Some x → f y ≡ f x → flat_map f (set xs j y) ≡ flat_map f xs
  flat_same [] j x y at same = refl
  flat_same (z ∷ xs) zero x y at same = (let e : Some z ≡ Some x = at in let is : z ≡ x = cc in ap (λ ys. ys ++ flat_map f xs) (same ∙ ap f (sym is)))
  flat_same (z ∷ xs) (suc j) x y at same = ap (λ ys. f z ++ ys) (flat_same xs j x y at same)

  flat_head : (t : Y) (xs : List X) (j : ℕ) (x y : X) → slice_get xs j ≡ Some x → f x ≡ t ∷ f y → ((n : ℕ) (z : X) → n < j → slice_get xs n ≡ Some z → f z ≡ []) → flat_map f xs ≡ t ∷ flat_map f (set xs j y)
  flat_head t [] j x y at head before = absurd (let e : None ≡ Some x = at in cc)
  flat_head t (z ∷ xs) zero x y at head before = (let e : Some z ≡ Some x = at in let is : z ≡ x = cc in ap (λ ys. ys ++ flat_map f xs) (ap f is ∙ head))
  flat_head t (z ∷ xs) (suc j) x y at head before =
      let none : f z ≡ [] = before 0 z (omega arith) refl in
      let rest = flat_head t xs j x y at head (λ n w less there. before (suc n) w (omega (arith, less)) there) in
      ap (λ ys. ys ++ flat_map f xs) none ∙ (rest ∙ ap (λ ys. t ∷ (ys ++ flat_map f (set xs j y))) (sym none))

  flat_none : (xs : List X) → ((n : ℕ) (z : X) → slice_get xs n ≡ Some z → f z ≡ []) → flat_map f xs ≡ []
  flat_none [] none = refl
  flat_none (x ∷ xs) none = ap (λ ys. ys ++ flat_map f xs) (none 0 x refl) ∙ flat_none xs (λ n z at. none (suc n) z at)

-- the spans that go, where an arena changed
goes_same : (spaces : List SpaceState) (k : ℕ) (x y : SpaceState) → slice_get spaces k ≡ Some x → spans_of_arena y ≡ spans_of_arena x → spans_to_go (set spaces k y) ≡ spans_to_go spaces
goes_same [] k x y at same = refl
goes_same (s ∷ spaces) zero x y at same = (let e : Some s ≡ Some x = at in let is : s ≡ x = cc in ap (λ ts. spans_to_go spaces ++ ts) (same ∙ ap spans_of_arena (sym is)))
goes_same (s ∷ spaces) (suc k) x y at same = ap (λ ts. ts ++ spans_of_arena s) (goes_same spaces k x y at same)

goes_none : (spaces : List SpaceState) → ((i : ℕ) (s : SpaceState) → slice_get spaces i ≡ Some s → spans_of_arena s ≡ []) → spans_to_go spaces ≡ []
goes_none [] none = refl
goes_none (s ∷ spaces) none = ap (λ ts. ts ++ spans_of_arena s) (goes_none spaces (λ i x at. none (suc i) x at)) ∙ none 0 s refl

goes_head : (t : Tag) (spaces : List SpaceState) (k : ℕ) (x y : SpaceState) → slice_get spaces k ≡ Some x → spans_of_arena x ≡ t ∷ spans_of_arena y → ((i : ℕ) (s : SpaceState) → k < i → slice_get spaces i ≡ Some s → spans_of_arena s ≡ []) → spans_to_go spaces ≡ t ∷ spans_to_go (set spaces k y)
goes_head t [] k x y at head after = absurd (let e : None ≡ Some x = at in cc)
goes_head t (s ∷ spaces) zero x y at head after =
    let is : s ≡ x = (let e : Some s ≡ Some x = at in cc) in
    let none : spans_to_go spaces ≡ [] = goes_none spaces (λ i z there. after (suc i) z (omega arith) there) in
    ap (λ ts. ts ++ spans_of_arena s) none ∙ (ap spans_of_arena is ∙ (head ∙ ap (λ ts. t ∷ (ts ++ spans_of_arena y)) (sym none)))
goes_head t (s ∷ spaces) (suc k) x y at head after = ap (λ ts. ts ++ spans_of_arena s) (goes_head t spaces k x y at head (λ i z less there. after (suc i) z (omega (arith, less)) there))

-- the arenas alone
with_same : (spaces : List SpaceState) (k : ℕ) (x y : SpaceState) → slice_get spaces k ≡ Some x → ((cs : List QuantumCacheState) → with_caches cs y ≡ with_caches cs x) → (others : List SpaceState) → arenas_with (set spaces k y) others ≡ arenas_with spaces others
with_same [] k x y at same others = refl
with_same (s ∷ spaces) zero x y at same [] = (let e : Some s ≡ Some x = at in let is : s ≡ x = cc in ap (λ z. z ∷ arenas_with spaces []) (same [] ∙ ap (with_caches []) (sym is)))
with_same (s ∷ spaces) zero x y at same (o ∷ others) = (let e : Some s ≡ Some x = at in let is : s ≡ x = cc in ap (λ z. z ∷ arenas_with spaces others) (same o.caches ∙ ap (with_caches o.caches) (sym is)))
with_same (s ∷ spaces) (suc k) x y at same [] = ap (λ zs. with_caches [] s ∷ zs) (with_same spaces k x y at same [])
with_same (s ∷ spaces) (suc k) x y at same (o ∷ others) = ap (λ zs. with_caches o.caches s ∷ zs) (with_same spaces k x y at same others)

pub with_own : (spaces : List SpaceState) → arenas_with spaces spaces ≡ spaces
with_own [] = refl
with_own (s ∷ spaces) = ap (λ zs. s ∷ zs) (with_own spaces)

with_at : (spaces others : List SpaceState) (k : ℕ) (x : SpaceState) → slice_get spaces k ≡ Some x → (cs : List QuantumCacheState) × (slice_get (arenas_with spaces others) k ≡ Some (with_caches cs x))
    × ((a : ArenaState) → arenas_with (set spaces k (with_arena a x)) others ≡ set (arenas_with spaces others) k (with_arena a (with_caches cs x)))
with_at [] others k x at = absurd (let e : None ≡ Some x = at in cc)
with_at (s ∷ spaces) [] zero x at = (let e : Some s ≡ Some x = at in let is : s ≡ x = cc in ([], ap (λ z. Some (with_caches [] z)) is, λ a. refl))
with_at (s ∷ spaces) (o ∷ others) zero x at = (let e : Some s ≡ Some x = at in let is : s ≡ x = cc in (o.caches, ap (λ z. Some (with_caches o.caches z)) is, λ a. refl))
with_at (s ∷ spaces) [] (suc k) x at = let rest = with_at spaces [] k x at in (rest.0, rest.1, λ a. ap (λ zs. with_caches [] s ∷ zs) (rest.2 a))
with_at (s ∷ spaces) (o ∷ others) (suc k) x at = let rest = with_at spaces others k x at in (rest.0, rest.1, λ a. ap (λ zs. with_caches o.caches s ∷ zs) (rest.2 a))

on_with : (k : ℕ) (P : ArenaState → ArenaState → Type 0) (old new others : List SpaceState) → OnArena k P old new → OnArena k P (arenas_with old others) (arenas_with new others)
on_with k P old new others on =
    let here = with_at old others k on.space on.at in
    record { space = with_caches here.0 on.space; at = here.1; arena = on.arena; after = ap (λ zs. arenas_with zs others) on.after ∙ here.2 on.arena; does = on.does }

returns_with : (new : List SpaceState) (t : Tag) (old others : List SpaceState) → Returns new t old → Returns (arenas_with new others) t (arenas_with old others)
returns_with new _ _ others (stays u spaces on) = stays u (arenas_with spaces others) (on_with u.arena _ spaces new others on)
returns_with new _ _ others (rises u whole spaces mid on up) = rises u whole (arenas_with spaces others) (arenas_with mid others) (on_with u.arena _ spaces mid others on) (returns_with new whole mid others up)

pub return_all_then : (ts us : List Tag) (a b c : List SpaceState) → ReturnAll ts a b → ReturnAll us b c → ReturnAll (ts ++ us) a c
return_all_then [] us a b c first second = subst (λ z. ReturnAll us z c) first second
return_all_then (t ∷ ts) us a b c (mid, one, rest) second = (mid, one, return_all_then ts us mid b c rest second)

-- how many caches an arena has
abbrev pub cache_count : SpaceState → ℕ
cache_count s = length s.caches

-- the first of the spans that go went back, in order
pub record Went (old new : List SpaceState) : Type 0 where
  pub went : List Tag
  pub first : spans_to_go old ≡ went ++ spans_to_go new
  pub slabs : map outlines_after_reap new ≡ map outlines_after_reap old
  pub returns : (others : List SpaceState) → ReturnAll went (arenas_with old others) (arenas_with new others)
  pub counts : map cache_count new ≡ map cache_count old

pub went_none : (old new : List SpaceState) → new ≡ old → Went old new
went_none old new same = record { went = []; first = ap spans_to_go (sym same); slabs = ap (map outlines_after_reap) same; returns = λ others. ap (λ zs. arenas_with zs others) same; counts = ap (map cache_count) same }

pub went_then : (a b c : List SpaceState) → Went a b → Went b c → Went a c
went_then a b c one two = record {
  went = one.went ++ two.went;
  first = one.first ∙ (ap (λ ts. one.went ++ ts) two.first ∙ sym (append_assoc one.went two.went (spans_to_go c)));
  slabs = two.slabs ∙ one.slabs;
  returns = λ others. return_all_then one.went two.went (arenas_with a others) (arenas_with b others) (arenas_with c others) (one.returns others) (two.returns others);
  counts = two.counts ∙ one.counts;
}

-- of what stands before a cache of this number, in order of reaping, nothing goes
abbrev Before : ℕ → ℕ → ℕ → ℕ → Type 0
Before k c i n = (k < i) ⊎ ((i ≡ k) × (n + 1 < c))

abbrev pub Front : ℕ → ℕ → List SpaceState → Type 0
Front k c spaces = (i n : ℕ) (x : QuantumCacheState) → IsCacheAt spaces i n x → Before k c i n → spans_of_cache x ≡ []

-- each cache but one at this index stood there before
abbrev OthersStood : ℕ → ℕ → List SpaceState → List SpaceState → Type 0
OthersStood k j old new = (i n : ℕ) (x : QuantumCacheState) → IsCacheAt new i n x → ((i ≡ k) × (n ≡ j)) ⊎ IsCacheAt old i n x

pub front_stays : (k c j : ℕ) (old new : List SpaceState) → c ≡ j + 1 → OthersStood k j old new → Front k c old → Front k c new
front_stays k c j old new number stood front i n x at before = elim (stood i n x at) [
  | inl here ↦ absurd (elim before [
    | inl more ↦ omega (arith, more, here.0)
    | inr less ↦ omega (arith, less.1, here.1, number)
  ])
  | inr was ↦ front i n x was before
]

-- one cache became another
module _ (old new : List SpaceState) (k j : ℕ) (space : SpaceState) (c d : QuantumCacheState) (at : slice_get old k ≡ Some space) (among : slice_get space.caches j ≡ Some c) (after : new ≡ set old k (with_cache j d space)) where
  pub others_stood : OthersStood k j old new
  others_stood i n x there = elim (written old k i (with_cache j d space) there.space (ap (λ xs. slice_get xs i) (sym after) ∙ there.at)) [
    | inl here ↦ elim (written space.caches j n d x (ap (λ (s : SpaceState). slice_get s.caches n) (sym here.1) ∙ there.among)) [
      | inl one ↦ inl (here.0, one.0)
      | inr other ↦ inr (record { space = space; at = ap (slice_get old) here.0 ∙ at; among = other.1 })
    ]
    | inr other ↦ inr (record { space = there.space; at = other.1; among = there.among })
  ]

  pub it_became : (x : QuantumCacheState) → IsCacheAt new k j x → x ≡ d
  it_became x there = elim (written old k k (with_cache j d space) there.space (ap (λ xs. slice_get xs k) (sym after) ∙ there.at)) [
    | inl here ↦ elim (written space.caches j j d x (ap (λ (s : SpaceState). slice_get s.caches j) (sym here.1) ∙ there.among)) [
      | inl one ↦ one.1
      | inr other ↦ absurd (other.0 refl)
    ]
    | inr other ↦ absurd (other.0 refl)
  ]

  same_slabs : slabs_after_reap d ≡ slabs_after_reap c → map outlines_after_reap new ≡ map outlines_after_reap old
  same_slabs same = ap (map outlines_after_reap) after ∙ map_set_same outlines_after_reap old k space (with_cache j d space) at (map_set_same slabs_after_reap space.caches j c d among same)

  same_counts : map cache_count new ≡ map cache_count old
  same_counts = ap (map cache_count) after ∙ map_set_same cache_count old k space (with_cache j d space) at (length-set space.caches j d)

  same_arenas : (others : List SpaceState) → arenas_with new others ≡ arenas_with old others
  same_arenas others = ap (λ zs. arenas_with zs others) after ∙ with_same old k space (with_cache j d space) at (λ cs. refl) others

  -- of which the same goes
  pub came : spans_of_cache d ≡ spans_of_cache c → slabs_after_reap d ≡ slabs_after_reap c → Went old new
  came spans slabs = record {
    went = [];
    first = sym (ap spans_to_go after ∙ goes_same old k space (with_cache j d space) at (flat_same spans_of_cache space.caches j c d among spans));
    slabs = same_slabs slabs;
    returns = same_arenas;
    counts = same_counts;
  }

  -- or one slab less, which is the next to go
  pub next_goes : (t : Tag) → Front k (j + 1) old → spans_of_cache c ≡ t ∷ spans_of_cache d → slabs_after_reap d ≡ slabs_after_reap c → (last : List SpaceState) → Returns last t new
      → spans_to_go last ≡ spans_to_go new → map outlines_after_reap last ≡ map outlines_after_reap new → map cache_count last ≡ map cache_count new → Went old last
  next_goes t front head slabs last back goes outlines counts = record {
    went = t ∷ [];
    first = (
        let in_arena : spans_of_arena space ≡ t ∷ spans_of_arena (with_cache j d space) = flat_head spans_of_cache t space.caches j c d among head (λ n x less there. front k n x (record { space = space; at = at; among = there }) (inr (refl, omega (arith, less)))) in
        let all = goes_head t old k space (with_cache j d space) at in_arena (λ i s more there. flat_none spans_of_cache s.caches (λ n x here. front i n x (record { space = s; at = there; among = here }) (inl more))) in
        all ∙ ap (λ ts. t ∷ ts) (ap spans_to_go (sym after) ∙ sym goes)
        );
    slabs = outlines ∙ same_slabs slabs;
    returns = λ others. (arenas_with last others, subst (Returns (arenas_with last others) t) (same_arenas others) (returns_with last t new others back), refl);
    counts = counts ∙ same_counts;
  }

-- a span that goes back leaves the caches
abbrev pub CachesStood : List SpaceState → List SpaceState → Type 0
CachesStood old new = (i n : ℕ) (x : QuantumCacheState) → IsCacheAt new i n x → IsCacheAt old i n x

pub record KeepsCaches (old new : List SpaceState) : Type 0 where
  pub goes : spans_to_go new ≡ spans_to_go old
  pub slabs : map outlines_after_reap new ≡ map outlines_after_reap old
  pub counts : map cache_count new ≡ map cache_count old
  pub stood : CachesStood old new

keeps_then : (a b c : List SpaceState) → KeepsCaches a b → KeepsCaches b c → KeepsCaches a c
keeps_then a b c one two = record { goes = two.goes ∙ one.goes; slabs = two.slabs ∙ one.slabs; counts = two.counts ∙ one.counts; stood = λ i n x at. one.stood i n x (two.stood i n x at) }

pub on_arena_keeps : (k : ℕ) (P : ArenaState → ArenaState → Type 0) (old new : List SpaceState) → OnArena k P old new → KeepsCaches old new
on_arena_keeps k P old new on = record {
  goes = ap spans_to_go on.after ∙ goes_same old k on.space (with_arena on.arena on.space) on.at refl;
  slabs = ap (map outlines_after_reap) on.after ∙ map_set_same outlines_after_reap old k on.space (with_arena on.arena on.space) on.at refl;
  counts = ap (map cache_count) on.after ∙ map_set_same cache_count old k on.space (with_arena on.arena on.space) on.at refl;
  stood = λ i n x there. elim (written old k i (with_arena on.arena on.space) there.space (ap (λ xs. slice_get xs i) (sym on.after) ∙ there.at)) [
    | inl here ↦ record { space = on.space; at = ap (slice_get old) here.0 ∙ on.at; among = ap (λ (s : SpaceState). slice_get s.caches n) (sym here.1) ∙ there.among }
    | inr other ↦ record { space = there.space; at = other.1; among = there.among }
  ];
}

pub returns_keep : (new : List SpaceState) (t : Tag) (old : List SpaceState) → Returns new t old → KeepsCaches old new
returns_keep new _ _ (stays u spaces on) = on_arena_keeps u.arena _ spaces new on
returns_keep new _ _ (rises u whole spaces mid on up) = keeps_then spaces mid new (on_arena_keeps u.arena _ spaces mid on) (returns_keep new whole mid up)

-- with none of a cache, all before the next one is done
pub front_next : (k c : ℕ) (spaces : List SpaceState) → Front k c spaces → ((j : ℕ) (x : QuantumCacheState) → c ≡ j + 1 → IsCacheAt spaces k j x → spans_of_cache x ≡ []) → Front k (c + 1) spaces
front_next k c spaces front none i n x at (inl more) = front i n x at (inl more)
front_next k c spaces front none i n x at (inr (here, less)) = elim (cases_lt_or (n + 1) c) [
  | inl before ↦ front i n x at (inr (here, before))
  | inr is ↦ none n x (omega (arith, is, less)) (subst (λ m. IsCacheAt spaces m n x) here at)
]
  where
    cases_lt_or : (a b : ℕ) → (a < b) ⊎ (b ≤ a)
    cases_lt_or zero zero = inr (omega arith)
    cases_lt_or zero (suc b) = inl (omega arith)
    cases_lt_or (suc a) zero = inr (omega arith)
    cases_lt_or (suc a) (suc b) = elim (cases_lt_or a b) [
      | inl less ↦ inl (omega (arith, less))
      | inr more ↦ inr (omega (arith, more))
    ]

-- where nothing goes of any cache
pub goes_nothing : (spaces : List SpaceState) → ((i n : ℕ) (x : QuantumCacheState) → IsCacheAt spaces i n x → spans_of_cache x ≡ []) → spans_to_go spaces ≡ []
goes_nothing spaces none = goes_none spaces (λ i s at. flat_none spans_of_cache s.caches (λ n x among. none i n x (record { space = s; at = at; among = among })))
