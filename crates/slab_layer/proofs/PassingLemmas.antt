-- The chunks at home, and those that are out, whatever is counted.
use Rattle.std.proofs.Common.{◌≡◌, ℕ, zero, suc, ◌+◌, ◌*◌, ◌<◌, Bool, true, false, not, cond, List, [], ◌∷◌, length, get_or, set, All, refl, sym, ap, ◌∙◌, arith, if◌then◌else◌}
use Rattle.std.specs.Prelude.{sum_by, count_by, Contains}
use Rattle.std.proofs.lemmas.List.Sums.{sum_by-cons}
use Rattle.std.proofs.lemmas.List.Elements.{All-nil, All-cons, All-head, All-tail, All-contains}
use Rattle.deed_core.specs.Extent.{Extent}
use Rattle.deed_core.specs.Holding.{Holding}
use Rattle.deed_core.specs.Covering.{covers, covers_held, covering_held, units_held}
use Rattle.deed_core.proofs.LawProofs.{covers_is, covers_cut}
use Rattle.slab_layer.specs.Slab.{items_where}

-- what a value counts, if it is there
abbrev pub counted : Bool → ℕ → ℕ
counted b n = if b then n else 0

module _ {X : Type 0} where
  head_sum : (g : X → ℕ) (b : Bool) (x : X) (xs : List X) → sum_by g (if b then x ∷ xs else xs) ≡ counted b (g x) + sum_by g xs
  head_sum g true x xs = sum_by-cons g x xs
  head_sum g false x xs = omega arith

  pub sum_by-items_where-cons : (g : X → ℕ) (test : Bool → Bool) (f : ℕ → X) (i : ℕ) (x : Bool) (xs : List Bool) → sum_by g (items_where test f i (x ∷ xs)) ≡ counted (test x) (g (f i)) + sum_by g (items_where test f (i + 1) xs)
  sum_by-items_where-cons g test f i x xs = head_sum g (test x) (f i) (items_where test f (i + 1) xs)

  -- one place changed
  pub sum_by-items_where-set : (g : X → ℕ) (test : Bool → Bool) (f : ℕ → X) (i : ℕ) (xs : List Bool) (j : ℕ) (y d : Bool) → j < length xs
      → sum_by g (items_where test f i (set xs j y)) + counted (test (get_or xs j d)) (g (f (i + j))) ≡ sum_by g (items_where test f i xs) + counted (test y) (g (f (i + j)))
  sum_by-items_where-set g test f i [] j y d within = absurd (omega arith)
  sum_by-items_where-set g test f i (x ∷ xs) zero y d within =
      let e : i + 0 ≡ i = omega arith in
      rw e (omega (arith, sum_by-items_where-cons g test f i x xs, sum_by-items_where-cons g test f i y xs))
  sum_by-items_where-set g test f i (x ∷ xs) (suc j) y d within =
      let e : i + suc j ≡ (i + 1) + j = omega arith in
      let rest = sum_by-items_where-set g test f (i + 1) xs j y d (omega arith) in
      rw e (omega (arith, rest, sum_by-items_where-cons g test f i x xs, sum_by-items_where-cons g test f i x (set xs j y)))

  -- none passes
  pub passing_none : (test : Bool → Bool) (f : ℕ → X) (i : ℕ) (xs : List Bool) → All (λ b. test b ≡ false) xs → items_where test f i xs ≡ []
  passing_none test f i [] none = refl
  passing_none test f i (x ∷ xs) none = rw (All-head (λ b. test b ≡ false) x xs none) (passing_none test f (i + 1) xs (All-tail (λ b. test b ≡ false) x xs none))

  head_none : (b : Bool) (x : X) (xs : List X) → (if b then x ∷ xs else xs) ≡ [] → (b ≡ false) × (xs ≡ [])
  head_none true x xs none = cc
  head_none false x xs none = (refl, none)

  pub none_passing : (test : Bool → Bool) (f : ℕ → X) (i : ℕ) (xs : List Bool) → items_where test f i xs ≡ [] → All (λ b. test b ≡ false) xs
  none_passing test f i [] none = All-nil (λ b. test b ≡ false)
  none_passing test f i (x ∷ xs) none =
      let t : (test x ≡ false) × (items_where test f (i + 1) xs ≡ []) = head_none (test x) (f i) (items_where test f (i + 1) xs) none in
      All-cons (λ b. test b ≡ false) x xs t.0 (none_passing test f (i + 1) xs t.1)

times_if : (b : Bool) (n : ℕ) → counted b n ≡ cond b 1 0 * n
times_if true n = omega arith
times_if false n = omega arith

-- chunks of one length
pub units-items_where : (n : ℕ) (test : Bool → Bool) (f : ℕ → Holding) (i : ℕ) (xs : List Bool) → ((k : ℕ) → (f k).range.len ≡ n) → units_held (items_where test f i xs) ≡ count_by test xs * n
units-items_where n test f i [] long = omega arith
units-items_where n test f i (x ∷ xs) long =
    let rest = units-items_where n test f (i + 1) xs long in
    let head : units_held (items_where test f i (x ∷ xs)) ≡ counted (test x) (f i).range.len + units_held (items_where test f (i + 1) xs) = sum_by-items_where-cons (λ h. h.range.len) test f i x xs in
    let count : count_by test (x ∷ xs) ≡ cond (test x) 1 0 + count_by test xs = sum_by-cons (λ b. cond (test b) 1 0) x xs in
    let here : counted (test x) (f i).range.len ≡ cond (test x) 1 0 * n = ap (counted (test x)) (long i) ∙ times_if (test x) n in
    let parts : (cond (test x) 1 0 + count_by test xs) * n ≡ cond (test x) 1 0 * n + count_by test xs * n = omega arith in
    let all : count_by test (x ∷ xs) * n ≡ cond (test x) 1 0 * n + count_by test xs * n = ap (λ (k : ℕ). k * n) count ∙ parts in
    omega (arith, rest, head, here, all)

same_extent : (e : Extent) (b n : ℕ) → e.base ≡ b → e.len ≡ n → e ≡ record { base = b; len = n }
same_extent e b n base len = λ i. record { base = base i; len = len i }

either : (x : Bool) (n : ℕ) → counted x n + counted (not x) n ≡ n
either true n = omega arith
either false n = omega arith

pub covers_nothing : (u b n : ℕ) → n ≡ 0 → covers u (record { base = b; len = n }) ≡ 0
covers_nothing u b n none = grind (arith, covers_is u (record { base = b; len = n }))

-- the chunks at home and those that are out cover what all of them do
pub covering-items_where : (u n : ℕ) (f : ℕ → Holding) (i : ℕ) (xs : List Bool) (b : ℕ) → ((k : ℕ) → (f k).range.len ≡ n) → ((k : ℕ) → (f (k + 1)).range.base ≡ (f k).range.base + n) → b ≡ (f i).range.base
    → covering_held u (items_where (λ y. y) f i xs) + covering_held u (items_where not f i xs) ≡ covers u (record { base = b; len = length xs * n })
covering-items_where u n f i [] b long next at = sym (covers_nothing u b (0 * n) (omega arith))
covering-items_where u n f i (x ∷ xs) b long next at =
    let rest = covering-items_where u n f (i + 1) xs (b + n) long next (sym (next i ∙ ap (λ k. k + n) (sym at))) in
    let idle = sum_by-items_where-cons (covers_held u) (λ y. y) f i x xs in
    let gone = sum_by-items_where-cons (covers_held u) not f i x xs in
    let one : covers_held u (f i) ≡ covers u (record { base = b; len = n }) = ap (covers u) (same_extent (f i).range b n (sym at) (long i)) in
    let cut = covers_cut u (record { base = b; len = n }) (record { base = b + n; len = length xs * n }) (record { base = b; len = suc (length xs) * n }) refl refl (omega arith) in
    let here : counted x (covers_held u (f i)) + counted (not x) (covers_held u (f i)) ≡ covers_held u (f i) = either x (covers_held u (f i)) in
    omega (arith, rest, idle, gone, one, cut, here)

-- two kinds of lists of places
pub some_false : (xs : List Bool) → (All (λ b. b ≡ true) xs → ⊥) → Contains xs false
some_false [] none = absurd (none (All-nil (λ b. b ≡ true)))
some_false (false ∷ xs) none = (0, omega arith, refl)
some_false (true ∷ xs) none =
    let rest : Contains xs false = some_false xs (λ all. none (All-cons (λ b. b ≡ true) true xs refl all)) in
    (suc rest.0, omega (arith, rest.1), rest.2)

pub no_true : (xs : List Bool) → All (λ b. b ≡ false) xs → Contains xs true → ⊥
no_true xs all has = let e : true ≡ false = All-contains (λ b. b ≡ false) xs true all has in cc
