-- What the looks of a reaping do to the slabs of a cache that go, and to those that stay.
use Rattle.std.proofs.Common.{◌≡◌, ◌≢◌, ◌⊎◌, ℕ, ◌+◌, ◌-◌, ◌*◌, ◌/◌, ◌<◌, ◌≤◌, ◌==◌, ◌&&◌, zero, suc, Bool, true, false, not, cond, List, [], ◌∷◌, ◌++◌, All, Some, None, length, map, filter, take, set, get_or, nat_lt, inl, inr, refl, sym, ap, subst, ◌∙◌, append_assoc, arith}
use Rattle.std.specs.Prelude.{slice_get, sum_by, count_by, nat_le}
use Rattle.std.specs.List.{remove}
use Rattle.std.proofs.Math.Nat.{div-mul-le_self, mul-le-mul_right}
use Rattle.std.proofs.lemmas.Bool.{cases_order, and_from, lt-ltb, le-leb}
use Rattle.std.proofs.lemmas.Bool.Decides.{Decides-eqb, Decides-ltb, leb_tells}
use Rattle.std.proofs.lemmas.List.{length-set}
use Rattle.std.proofs.lemmas.List.Sums.{sum_by-cons, sum_by-append}
use Rattle.std.proofs.lemmas.Option.{slice_get_within, get_or_from_slice_get}
use Rattle.deed_core.proofs.LawProofs.{all_at, all_from, slice_get_here, slice_get_some, sum_set}
use Rattle.deed_core.specs.Extent.{end_of}
use Rattle.deed_core.specs.Tag.{Tag}
use Rattle.slab_layer.specs.Cache.{SlabCacheState, IsBelow, IsOfSize, IsSoundCache, chunk_of, span_tag}
use Rattle.slab_layer.specs.Calls.{Puts, Reaps, with_slabs}
use Rattle.slab_layer.specs.Slab.{SlabState, IsComplete, idle_count, with_chunk}
use Rattle.magazine_layer.specs.Calls.{DepotReapOf}
use Rattle.magazine_layer.specs.Depots.{DepotState, Begins, CanReap, Drains, after_trim, all_rounds}
use Rattle.stock.specs.Spaces.{QuantumCacheState, with_slab, with_depot}
use Rattle.lease_machine.specs.Moves.{outline_of, slab_outlines}
use Rattle.lease_machine.specs.Operators.{goes, is_in_slab, rounds_to_go, slabs_after_reap, spans_of_cache}

not_so : (b : Bool) → (b ≡ true → ⊥) → b ≡ false
not_so true never = absurd (never refl)
not_so false never = refl

abbrev one_if : Bool → ℕ
one_if b = cond b 1 0

-- a list that is filtered by tests that say the same
module _ {X : Type 0} where
  kept : {Y : Type 0} (g : X → Y) (b : Bool) (x : X) (xs : List X) → map g (cond b (x ∷ xs) xs) ≡ cond b (g x ∷ map g xs) (map g xs)
  kept g true x xs = refl
  kept g false x xs = refl

  filter_alike : (f h : X → Bool) (xs : List X) → ((n : ℕ) (z : X) → slice_get xs n ≡ Some z → h z ≡ f z) → filter h xs ≡ filter f xs
  filter_alike f h [] same = refl
  filter_alike f h (x ∷ xs) same =
      let here = same 0 x refl in
      let rest = filter_alike f h xs (λ n z at. same (suc n) z at) in
      λ i. cond (here i) (x ∷ rest i) (rest i)

  -- where one member became another of which they say the same
  set_alike : {Y : Type 0} (f h : X → Bool) (g : X → Y) (xs : List X) (i : ℕ) (x y : X) → slice_get xs i ≡ Some x → h y ≡ f x → g y ≡ g x → ((n : ℕ) (z : X) → slice_get xs n ≡ Some z → n ≢ i → h z ≡ f z)
      → map g (filter h (set xs i y)) ≡ map g (filter f xs)
  set_alike f h g [] i x y at test seen others = absurd (let e : None ≡ Some x = at in cc)
  set_alike f h g (z ∷ xs) zero x y at test seen others =
      let is : x ≡ z = (let e : Some z ≡ Some x = at in cc) in
      let tests : h y ≡ f z = test ∙ ap f is in
      let sees : g y ≡ g z = seen ∙ ap g is in
      let rest = ap (map g) (filter_alike f h xs (λ n w there. others (suc n) w there (λ e. absurd (omega (arith, e))))) in
      kept g (h y) y (filter h xs) ∙ ((λ i. cond (tests i) (sees i ∷ rest i) (rest i)) ∙ sym (kept g (f z) z (filter f xs)))
  set_alike f h g (z ∷ xs) (suc i) x y at test seen others =
      let here : h z ≡ f z = others 0 z refl (λ e. absurd (omega (arith, e))) in
      let rest = set_alike f h g xs i x y at test seen (λ n w there ne. others (suc n) w there (λ e. ne (omega (arith, e)))) in
      kept g (h z) z (filter h (set xs i y)) ∙ ((λ k. cond (here k) (g z ∷ rest k) (rest k)) ∙ sym (kept g (f z) z (filter f xs)))

  -- the first member that passes is taken out
  remove_first : (f : X → Bool) (xs : List X) (i : ℕ) (s : X) → slice_get xs i ≡ Some s → f s ≡ true → ((n : ℕ) (z : X) → n < i → slice_get xs n ≡ Some z → f z ≡ false)
      → (filter f xs ≡ s ∷ filter f (remove xs i)) × (filter (λ x. not (f x)) (remove xs i) ≡ filter (λ x. not (f x)) xs)
  remove_first f [] i s at passes before = absurd (let e : None ≡ Some s = at in cc)
  remove_first f (x ∷ xs) zero s at passes before =
      let is : x ≡ s = (let e : Some x ≡ Some s = at in cc) in
      let here : f x ≡ true = ap f is ∙ passes in
      (ap (λ b. cond b (x ∷ filter f xs) (filter f xs)) here ∙ ap (λ z. z ∷ filter f xs) is, sym (ap (λ b. cond (not b) (x ∷ filter (λ z. not (f z)) xs) (filter (λ z. not (f z)) xs)) here))
  remove_first f (x ∷ xs) (suc i) s at passes before =
      let here : f x ≡ false = before 0 x (omega arith) refl in
      let rest = remove_first f xs i s at passes (λ n z less there. before (suc n) z (omega (arith, less)) there) in (
        ap (λ b. cond b (x ∷ filter f xs) (filter f xs)) here ∙ (rest.0 ∙ ap (λ zs. s ∷ zs) (sym (ap (λ b. cond b (x ∷ filter f (remove xs i)) (filter f (remove xs i))) here))),
        ap (λ zs. cond (not (f x)) (x ∷ zs) zs) rest.1,
      )

  -- none passes
  filter_nothing : (f : X → Bool) (xs : List X) → ((n : ℕ) (z : X) → slice_get xs n ≡ Some z → f z ≡ false) → (filter f xs ≡ []) × (filter (λ x. not (f x)) xs ≡ xs)
  filter_nothing f [] none = (refl, refl)
  filter_nothing f (x ∷ xs) none =
      let here = none 0 x refl in
      let rest = filter_nothing f xs (λ n z at. none (suc n) z at) in
      (ap (λ b. cond b (x ∷ filter f xs) (filter f xs)) here ∙ rest.0, ap (λ b. cond (not b) (x ∷ filter (λ z. not (f z)) xs) (filter (λ z. not (f z)) xs)) here ∙ ap (λ zs. x ∷ zs) rest.1)

-- the rounds that a depot may let go
take_one : {X : Type 0} (n : ℕ) (x : X) (xs : List X) → 0 < n → take n (x ∷ xs) ≡ x ∷ take (n - 1) xs
take_one zero x xs some = absurd (omega (arith, some))
take_one (suc n) x xs some = let e : n ≡ suc n - 1 = omega arith in ap (λ m. x ∷ take m xs) e

begins_with : (d e : DepotState) → Begins d e → rounds_to_go e ≡ rounds_to_go d
begins_with d e begins = elim begins [
  | inl same ↦ ap rounds_to_go same.1
  | inr more ↦ elim more [
    | inl old ↦
        let others : List Tag = all_rounds (take d.full_reapable d.full) in
        let was : rounds_to_go d ≡ (e.draining ++ all_rounds e.old_full) ++ others = λ i. old.drained i ++ (all_rounds (old.oldest i) ++ others) in
        ap rounds_to_go old.rest ∙ sym (was ∙ append_assoc e.draining (all_rounds e.old_full) others)
    | inr full ↦
        let left : List Tag = all_rounds (take (d.full_reapable - 1) e.full) in
        let one : take d.full_reapable d.full ≡ e.draining ∷ take (d.full_reapable - 1) e.full = ap (take d.full_reapable) full.oldest ∙ take_one d.full_reapable e.draining e.full full.some in
        let was : rounds_to_go d ≡ e.draining ++ left = λ i. full.drained i ++ (all_rounds (full.none_old i) ++ all_rounds (one i)) in
        let now : rounds_to_go e ≡ e.draining ++ left = ap rounds_to_go full.rest ∙ ap (λ ms. e.draining ++ (all_rounds ms ++ left)) full.none_old in
        now ∙ sym was
  ]
]

-- one less, once it is reaped
one_round_less : (f : Tag → ℕ) (t : Tag) (d e : DepotState) → DepotReapOf d (Some t) e → sum_by f (rounds_to_go d) ≡ sum_by f (rounds_to_go e) + f t
one_round_less f t d e is =
    let begun : DepotState = is.0 in
    let drains : Drains t begun e = is.2 in
    let others : List Tag = all_rounds begun.old_full ++ all_rounds (take begun.full_reapable begun.full) in
    let same : sum_by f (rounds_to_go begun) ≡ sum_by f (rounds_to_go d) = ap (sum_by f) (begins_with (after_trim d) begun is.1) in
    let was : sum_by f (rounds_to_go begun) ≡ sum_by f ((e.draining ++ t ∷ []) ++ others) = ap (λ ts. sum_by f (ts ++ others)) drains.last in
    let now : sum_by f (rounds_to_go e) ≡ sum_by f (e.draining ++ others) = ap (λ (z : DepotState). sum_by f (rounds_to_go z)) drains.rest in
    omega (arith, same, was, now, sum_by-append f (e.draining ++ t ∷ []) others, sum_by-append f e.draining (t ∷ []), sum_by-append f e.draining others, sum_by-cons f t [])

pub none_there : {X : Type 0} (xs : List X) → ¬ (0 < length xs) → xs ≡ []
none_there [] none = refl
none_there (x ∷ xs) none = absurd (none (omega arith))

pub no_rounds : (d : DepotState) → ¬ CanReap d → rounds_to_go d ≡ []
no_rounds d none =
    let draining = none_there d.draining (λ some. none (inl some)) in
    let old = none_there d.old_full (λ some. none (inr (inl some))) in
    let full : d.full_reapable ≡ 0 = by d.full_reapable (λ some. none (inr (inr some))) in
    λ i. draining i ++ (all_rounds (old i) ++ all_rounds (take (full i) d.full))
  where
    by : (n : ℕ) → ¬ (0 < n) → n ≡ 0
    by zero not_some = refl
    by (suc n) not_some = absurd (not_some (omega arith))

-- the number of chunks at home tells whether all are
all_home : (home : List Bool) → (All (λ b. b ≡ true) home × (count_by (λ b. b) home ≡ length home)) ⊎ ((¬ All (λ b. b ≡ true) home) × (count_by (λ b. b) home < length home))
all_home [] = inl (all_from (λ b. b ≡ true) [] (λ k x at. absurd (let e : None ≡ Some x = at in cc)), refl)
all_home (b ∷ home) = by b (all_home home)
  where
    by : (x : Bool) → (All (λ y. y ≡ true) home × (count_by (λ y. y) home ≡ length home)) ⊎ ((¬ All (λ y. y ≡ true) home) × (count_by (λ y. y) home < length home))
        → (All (λ y. y ≡ true) (x ∷ home) × (count_by (λ y. y) (x ∷ home) ≡ length (x ∷ home))) ⊎ ((¬ All (λ y. y ≡ true) (x ∷ home)) × (count_by (λ y. y) (x ∷ home) < length (x ∷ home)))
    by true (inl all) = inl (all_from (λ y. y ≡ true) (true ∷ home) (λ k y at. first k y at), omega (arith, all.1, sum_by-cons one_if true home))
      where
        first : (k : ℕ) (y : Bool) → slice_get (true ∷ home) k ≡ Some y → y ≡ true
        first zero y at = (let e : Some true ≡ Some y = at in cc)
        first (suc k) y at = all_at (λ z. z ≡ true) home k y all.0 at
    by true (inr less) = inr (λ all. less.0 (all_from (λ y. y ≡ true) home (λ k y at. all_at (λ z. z ≡ true) (true ∷ home) (suc k) y all at)), omega (arith, less.1, sum_by-cons one_if true home))
    by false (inl all) = inr (λ every. absurd (let e : false ≡ true = all_at (λ z. z ≡ true) (false ∷ home) 0 false every refl in cc), omega (arith, all.1, sum_by-cons one_if false home))
    by false (inr less) = inr (λ every. absurd (let e : false ≡ true = all_at (λ z. z ≡ true) (false ∷ home) 0 false every refl in cc), omega (arith, less.1, sum_by-cons one_if false home))

-- with no round to come, the slabs that go are the complete ones
module _ (c : QuantumCacheState) (none : rounds_to_go c.depot ≡ []) (s : SlabState) where
  counts : (idle_count s + count_by (is_in_slab s) (rounds_to_go c.depot)) ≡ idle_count s
  counts = let e : count_by (is_in_slab s) (rounds_to_go c.depot) ≡ 0 = ap (count_by (is_in_slab s)) none in omega (arith, e)

  complete_goes : IsComplete s → goes c s ≡ true
  complete_goes all = (Decides-eqb (idle_count s + count_by (is_in_slab s) (rounds_to_go c.depot)) (length s.home)).1 (elim (all_home s.home) [
    | inl is ↦ counts ∙ is.1
    | inr less ↦ absurd (less.0 all)
  ])

  goes_complete : ¬ IsComplete s → goes c s ≡ false
  goes_complete not_all = not_so (goes c s) (λ is. (
      let e = (Decides-eqb (idle_count s + count_by (is_in_slab s) (rounds_to_go c.depot)) (length s.home)).0 is in
      elim (all_home s.home) [
        | inl all ↦ not_all all.0
        | inr less ↦ omega (arith, e, counts, less.1)
      ]
      ))

-- none goes
pub none_goes : (c : QuantumCacheState) → rounds_to_go c.depot ≡ [] → All (λ s. ¬ IsComplete s) c.slab.slabs → (spans_of_cache c ≡ []) × (slabs_after_reap c ≡ slab_outlines c)
none_goes c none all =
    let nothing = filter_nothing (goes c) c.slab.slabs (λ n z at. goes_complete c none z (all_at (λ s. ¬ IsComplete s) c.slab.slabs n z all at)) in
    (ap (map (span_tag c.slab.arena)) nothing.0, ap (λ ss. record c.slab { slabs = map outline_of ss }) nothing.1)

-- slabs stand by their bases
module _ (c : SlabCacheState) (sound : IsSoundCache c) where
  below : (m n : ℕ) (x y : SlabState) → slice_get c.slabs m ≡ Some x → slice_get c.slabs n ≡ Some y → m < n → IsBelow x y
  below m n x y first second less =
      let is = sound.ascending m n x less (slice_get_within c.slabs n y second) in
      let one : get_or c.slabs m x ≡ x = get_or_from_slice_get c.slabs m x x first in
      let other : get_or c.slabs n x ≡ y = get_or_from_slice_get c.slabs n y x second in
      subst (IsBelow x) other (subst (λ z. IsBelow z (get_or c.slabs n x)) one is)

  of_size : (n : ℕ) (x : SlabState) → slice_get c.slabs n ≡ Some x → IsOfSize c.slab_size (chunk_of c) x
  of_size n x at = all_at (IsOfSize c.slab_size (chunk_of c)) c.slabs n x sound.slabs at

-- a slab goes
module _ (c : QuantumCacheState) (b : SlabCacheState) (t : Tag) (i : ℕ) (s : SlabState) (sound : IsSoundCache c.slab) (none : rounds_to_go c.depot ≡ []) (did : Reaps i s c.slab b t) where
  at_i : slice_get c.slab.slabs i ≡ Some s
  at_i = slice_get_here c.slab.slabs i s did.lowest.stands.within (sym did.lowest.stands.is)

  before : (n : ℕ) (z : SlabState) → n < i → slice_get c.slab.slabs n ≡ Some z → goes c z ≡ false
  before n z less at = goes_complete c none z (λ whole. (
      let least : s.span.range.base ≤ z.span.range.base = all_at (λ (x : SlabState). IsComplete x → s.span.range.base ≤ x.span.range.base) c.slab.slabs n z did.lowest.least at whole in
      let size = (of_size c.slab sound n z at).size in
      omega (arith, least, below c.slab sound n i z s at at_i less, size, sound.some, sound.room)
      ))

  parts : (filter (goes c) c.slab.slabs ≡ s ∷ filter (goes c) (remove c.slab.slabs i)) × (filter (λ x. not (goes c x)) (remove c.slab.slabs i) ≡ filter (λ x. not (goes c x)) c.slab.slabs)
  parts = remove_first (goes c) c.slab.slabs i s at_i (complete_goes c none s did.lowest.so) before

  pub slab_goes : (spans_of_cache c ≡ t ∷ spans_of_cache (with_slab b c)) × (slabs_after_reap (with_slab b c) ≡ slabs_after_reap c)
  slab_goes = (
    ap (map (span_tag c.slab.arena)) parts.0 ∙ ((λ k. sym did.tag k ∷ map (span_tag c.slab.arena) (filter (goes c) (remove c.slab.slabs i))) ∙ ap (λ (z : SlabCacheState). t ∷ spans_of_cache (with_slab z c)) (sym did.after)),
    ap (λ (z : SlabCacheState). slabs_after_reap (with_slab z c)) did.after ∙ ap (λ ss. record c.slab { slabs = map outline_of ss }) parts.1,
  )

-- a round comes home
module _ (c : QuantumCacheState) (e : DepotState) (b : SlabCacheState) (t : Tag) (i j : ℕ) (s : SlabState) (sound : IsSoundCache c.slab) (reaped : DepotReapOf c.depot (Some t) e) (puts : Puts i j s c.slab b t) where
  here : slice_get c.slab.slabs i ≡ Some s
  here = slice_get_here c.slab.slabs i s puts.chunk.stands.within (sym puts.chunk.stands.is)

  base_is : t.holding.range.base ≡ s.span.range.base + s.colour + j * s.chunk
  base_is = ap (λ (z : Tag). z.holding.range.base) puts.chunk.tag

  inside : (s.span.range.base ≤ t.holding.range.base) × (t.holding.range.base < end_of s.span.range)
  inside =
      let size = of_size c.slab sound i s here in
      let count : ℕ = c.slab.slab_size / chunk_of c.slab in
      let within : j < count = subst (λ n. j < n) size.count puts.chunk.within in
      let fits : count * chunk_of c.slab ≤ c.slab.slab_size = div-mul-le_self c.slab.slab_size (chunk_of c.slab) in
      let up : (j + 1) * chunk_of c.slab ≤ count * chunk_of c.slab = mul-le-mul_right (chunk_of c.slab) (omega (arith, within)) in
      let one : (j + 1) * chunk_of c.slab ≡ j * chunk_of c.slab + chunk_of c.slab = grind arith in
      let step : j * s.chunk ≡ j * chunk_of c.slab = ap (λ n. j * n) size.chunk in
      (omega (arith, base_is), omega (arith, base_is, size.size, size.colour, fits, up, one, step, sound.some))

  in_here : is_in_slab s t ≡ true
  in_here = and_from (nat_le s.span.range.base t.holding.range.base) (nat_lt t.holding.range.base (end_of s.span.range)) (le-leb s.span.range.base t.holding.range.base inside.0) (lt-ltb t.holding.range.base (end_of s.span.range) inside.1)

  not_lower : (z : SlabState) → end_of z.span.range ≤ t.holding.range.base → is_in_slab z t ≡ false
  not_lower z up = by (nat_le z.span.range.base t.holding.range.base) (nat_lt t.holding.range.base (end_of z.span.range)) (not_so (nat_lt t.holding.range.base (end_of z.span.range)) (λ is. (let less = (Decides-ltb t.holding.range.base (end_of z.span.range)).0 is in omega (arith, less, up))))
    where
      by : (x y : Bool) → y ≡ false → (x && y) ≡ false
      by true y is = is
      by false y is = refl

  not_higher : (z : SlabState) → t.holding.range.base < z.span.range.base → is_in_slab z t ≡ false
  not_higher z up =
      let under : nat_le z.span.range.base t.holding.range.base ≡ false = elim (leb_tells z.span.range.base t.holding.range.base) [
        | inl above ↦ absurd (omega (arith, above.1, up))
        | inr not_above ↦ not_above.0
      ] in
      ap (λ x. x && nat_lt t.holding.range.base (end_of z.span.range)) under

  others : (n : ℕ) (z : SlabState) → slice_get c.slab.slabs n ≡ Some z → n ≢ i → is_in_slab z t ≡ false
  others n z at ne = elim (cases_order n i) [
    | inl same ↦ absurd (ne same)
    | inr apart ↦ elim apart [
      | inl less ↦ not_lower z (omega (arith, below c.slab sound n i z s at here less, inside.0))
      | inr more ↦ not_higher z (omega (arith, below c.slab sound i n s z here at more, inside.1))
    ]
  ]

  fewer : (z : SlabState) → count_by (is_in_slab z) (rounds_to_go c.depot) ≡ count_by (is_in_slab z) (rounds_to_go e) + one_if (is_in_slab z t)
  fewer z = one_round_less (λ x. one_if (is_in_slab z x)) t c.depot e reaped

  abbrev came : SlabState
  came = with_chunk s j true

  abbrev now : QuantumCacheState
  now = record { slab = with_slabs c.slab (set c.slab.slabs i came); depot = e }

  stays_as : (n : ℕ) (z : SlabState) → slice_get c.slab.slabs n ≡ Some z → n ≢ i → goes now z ≡ goes c z
  stays_as n z at ne =
      let none : one_if (is_in_slab z t) ≡ 0 = ap one_if (others n z at ne) in
      let same : (idle_count z + count_by (is_in_slab z) (rounds_to_go e)) ≡ (idle_count z + count_by (is_in_slab z) (rounds_to_go c.depot)) = omega (arith, fewer z, none) in
      ap (λ m. m == length z.home) same

  comes_as : goes now came ≡ goes c s
  comes_as =
      let one : one_if (is_in_slab s t) ≡ 1 = ap one_if in_here in
      let place = slice_get_some s.home j puts.chunk.within in
      let out : place.0 ≡ false = sym (get_or_from_slice_get s.home j place.0 false place.1) ∙ puts.chunk.home in
      let was : one_if place.0 ≡ 0 = ap one_if out in
      let more : idle_count came + one_if place.0 ≡ idle_count s + 1 = sum_set one_if s.home j place.0 true place.1 in
      let same : (idle_count came + count_by (is_in_slab came) (rounds_to_go e)) ≡ (idle_count s + count_by (is_in_slab s) (rounds_to_go c.depot)) = omega (arith, fewer s, one, was, more) in
      let long : length came.home ≡ length s.home = length-set s.home j true in
      λ k. same k == long k

  so_now : (spans_of_cache now ≡ spans_of_cache c) × (slabs_after_reap now ≡ slabs_after_reap c)
  so_now = (
    set_alike (goes c) (goes now) (span_tag c.slab.arena) c.slab.slabs i s came here comes_as refl stays_as,
    ap (λ ss. record c.slab { slabs = ss }) (set_alike (λ x. not (goes c x)) (λ x. not (goes now x)) outline_of c.slab.slabs i s came here (ap not comes_as) refl (λ n z at ne. ap not (stays_as n z at ne))),
  )

  pub round_comes : (spans_of_cache (record { slab = b; depot = e }) ≡ spans_of_cache c) × (slabs_after_reap (record { slab = b; depot = e }) ≡ slabs_after_reap c)
  round_comes = subst (λ (z : SlabCacheState). (spans_of_cache (record { slab = z; depot = e }) ≡ spans_of_cache c) × (slabs_after_reap (record { slab = z; depot = e }) ≡ slabs_after_reap c)) (sym puts.after) so_now

-- a look that found no round
pub trimmed : (c : QuantumCacheState) (e : DepotState) → DepotReapOf c.depot None e → (spans_of_cache (with_depot e c) ≡ spans_of_cache c) × (slabs_after_reap (with_depot e c) ≡ slabs_after_reap c) × (rounds_to_go e ≡ [])
trimmed c e is = (
  ap (λ (d : DepotState). spans_of_cache (with_depot d c)) is.1,
  ap (λ (d : DepotState). slabs_after_reap (with_depot d c)) is.1,
  ap rounds_to_go is.1 ∙ no_rounds c.depot is.0,
)
