-- No two segments that are out overlap where their arenas have one top: a unit of an arena is out
-- or exported once, so two ways up to one arena begin at one segment.
use Rattle.std.proofs.Common.{◌≡◌, ◌≢◌, ◌⊎◌, ℕ, suc, zero, ◌+◌, ◌<◌, ◌≤◌, Bool, true, false, refl, subst, ap, ◌∙◌, inl, inr, List, [], ◌∷◌, All, map, get_or, ltb, Some, None, arith}
use Rattle.std.specs.Prelude.{slice_get, sum_by}
use Rattle.std.proofs.lemmas.Bool.Decides.{nat_tests}
use Rattle.std.proofs.lemmas.List.Sums.{sum_by-cons, sum_by-append}
use Rattle.std.proofs.lemmas.Option.{slice_get-get_or}
use Rattle.deed_core.specs.Extent.{Covers}
use Rattle.deed_core.specs.Tag.{Tag}
use Rattle.deed_core.specs.Covering.{covers_held, covers_tag, covering_held}
use Rattle.deed_core.specs.Weights.{of_arena}
use Rattle.deed_core.proofs.LawProofs.{counts_the_unit, sum_by-map, sum_alike, part_of_sum, all_at}
use Rattle.tag_arena.specs.ArenaState.{spans_of}
use Rattle.tag_arena.proofs.LawProofs.{spans_once}
use Rattle.stock.specs.Spaces.{SpaceState}
use Rattle.stock.specs.Stocks.{IsFrom}
use Rattle.stock.specs.Accounts.{weight_imported, IsAccounted}
use Rattle.stock.specs.Laws.{HasTop, root, child, OutIsApart}
use Rattle.stock.proofs.Exporting.{arena_here}
use Rattle.stock.proofs.OneHomes.{each_unit}

-- two members are part of a sum
two_parts : {X : Type 0} (f : X → ℕ) (xs : List X) (i j : ℕ) (x y : X) → slice_get xs i ≡ Some x → slice_get xs j ≡ Some y → i ≢ j → f x + f y ≤ sum_by f xs
two_parts f [] i j x y one two ne = absurd (let e : None ≡ Some x = one in cc)
two_parts f (z ∷ zs) zero zero x y one two ne = absurd (ne refl)
two_parts f (z ∷ zs) zero (suc j) x y one two ne =
    let is : z ≡ x = (let e : Some z ≡ Some x = one in cc) in
    let le = part_of_sum f zs j y two in
    omega (arith, ap f is, le, sum_by-cons f z zs)
two_parts f (z ∷ zs) (suc i) zero x y one two ne =
    let is : z ≡ y = (let e : Some z ≡ Some y = two in cc) in
    let le = part_of_sum f zs i x one in
    omega (arith, ap f is, le, sum_by-cons f z zs)
two_parts f (z ∷ zs) (suc i) (suc j) x y one two ne =
    omega (arith, sum_by-cons f z zs, two_parts f zs i j x y one two (λ e. ne (omega (arith, e))))

module _ (spaces : List SpaceState) (out : List Tag) (accounted : IsAccounted spaces out) (u : ℕ) where
  abbrev at_arena : ℕ → Tag → ℕ
  at_arena k = of_arena k (covers_tag u)

  -- what is out and what is exported are units of the arena, each once
  room : (k : ℕ) (s : SpaceState) → slice_get spaces k ≡ Some s
      → (sum_by (at_arena k) out + sum_by (weight_imported (at_arena k)) spaces ≤ covering_held u (spans_of s.arena)) × (covering_held u (spans_of s.arena) ≤ 1)
  room k s at = (omega (arith, each_unit spaces accounted.stock k s at out accounted.accounts u), spans_once s.arena (accounted.stock k s at).sound u)

  -- what a child imported is its spans
  spans_imported : (k p : ℕ) (s : SpaceState) → slice_get spaces k ≡ Some s → s.source ≡ Some p → weight_imported (at_arena p) s ≡ covering_held u (spans_of s.arena)
  spans_imported k p s at source =
      let space = accounted.stock k s at in
      let home : All (IsFrom (Some p)) s.arena.imported = subst (λ o. All (IsFrom o) s.arena.imported) source space.imported in
      let owned : sum_by (covers_held u) s.arena.owned ≡ 0 = ap (sum_by (covers_held u)) (space.owned p source) in
      omega (
        arith,
        sum_alike (at_arena p) (covers_tag u) s.arena.imported (λ i x there. arena_here p (covers_tag u) x (all_at (IsFrom (Some p)) s.arena.imported i x home there)),
        owned,
        sum_by-append (covers_held u) s.arena.owned (map (λ (t : Tag). t.holding) s.arena.imported),
        sum_by-map (covers_held u) (λ (t : Tag). t.holding) s.arena.imported,
      )

  -- what has the unit: a segment of the arena that is out, or a child of it
  data Owner : Type 0 where
    segment : (i : ℕ) (t : Tag) → Owner
    importer : (c : ℕ) (s : SpaceState) → Owner

  abbrev Owns : ℕ → Owner → Type 0
  Owns k (segment i t) = (slice_get out i ≡ Some t) × (t.arena ≡ k) × Covers t.holding.range u
  Owns k (importer c s) = (slice_get spaces c ≡ Some s) × (s.source ≡ Some k) × (0 < covering_held u (spans_of s.arena))

  abbrev Differ : Owner → Owner → Type 0
  Differ (segment i t) (segment j r) = i ≢ j
  Differ (segment i t) (importer c s) = Unit {0}
  Differ (importer c s) (segment i t) = Unit {0}
  Differ (importer c s) (importer e r) = c ≢ e

  -- whoever was climbed from stands above
  abbrev Above : ℕ → Owner → Type 0
  Above b (segment i t) = Unit {0}
  Above b (importer c s) = b < c

  segment_weighs : (k : ℕ) (t : Tag) → t.arena ≡ k → Covers t.holding.range u → at_arena k t ≡ 1
  segment_weighs k t home has = arena_here k (covers_tag u) t home ∙ (counts_the_unit u t.holding.range).1.1 has

  -- an owner's unit is a unit of the arena
  owned : (k : ℕ) (s : SpaceState) (x : Owner) → slice_get spaces k ≡ Some s → Owns k x → 0 < covering_held u (spans_of s.arena)
  owned k s (segment i t) at has =
      omega (arith, room k s at, part_of_sum (at_arena k) out i t has.0, segment_weighs k t has.1 has.2)
  owned k s (importer c r) at has =
      omega (arith, room k s at, part_of_sum (weight_imported (at_arena k)) spaces c r has.0, spans_imported c k r has.0 has.1, has.2)

  -- no unit has two owners
  clash : (k : ℕ) (s : SpaceState) (x y : Owner) → slice_get spaces k ≡ Some s → Owns k x → Owns k y → Differ x y → ⊥
  clash k s (segment i t) (segment j r) at one two ne =
      omega (arith, room k s at, two_parts (at_arena k) out i j t r one.0 two.0 ne, segment_weighs k t one.1 one.2, segment_weighs k r two.1 two.2)
  clash k s (segment i t) (importer c r) at one two ne =
      omega (arith, room k s at, part_of_sum (at_arena k) out i t one.0, segment_weighs k t one.1 one.2, part_of_sum (weight_imported (at_arena k)) spaces c r two.0, spans_imported c k r two.0 two.1, two.2)
  clash k s (importer c r) (segment i t) at one two ne =
      omega (arith, room k s at, part_of_sum (at_arena k) out i t two.0, segment_weighs k t two.1 two.2, part_of_sum (weight_imported (at_arena k)) spaces c r one.0, spans_imported c k r one.0 one.1, one.2)
  clash k s (importer c r) (importer e q) at one two ne =
      omega (
        arith,
        room k s at,
        two_parts (weight_imported (at_arena k)) spaces c e r q one.0 two.0 ne,
        spans_imported c k r one.0 one.1,
        spans_imported e k q two.0 two.1,
        one.2,
        two.2,
      )

  -- an arena is the top of its chain, or imports
  next_up : (k top : ℕ) → HasTop spaces k top → (s : SpaceState) × (slice_get spaces k ≡ Some s) × ((top ≡ k) ⊎ ((p : ℕ) × (s.source ≡ Some p) × HasTop spaces p top))
  next_up _ _ (root k s at none) = (s, at, inl refl)
  next_up _ _ (child k p top s at source up) = (s, at, inr (p, source, up))

  top_below : (k top : ℕ) → HasTop spaces k top → top ≤ k
  top_below _ _ (root k s at none) = omega arith
  top_below _ _ (child k p top s at source up) = omega (arith, top_below p top up, (accounted.stock k s at).before p source)

  -- two owners in arenas with one top, of which the arena with the greater number is climbed from
  abbrev Meet : ℕ → ℕ → ℕ → Type 0
  Meet top a b = (x y : Owner) → Owns a x → Owns b y → Differ x y → Above b x → Above a y → HasTop spaces a top → HasTop spaces b top → ⊥

  differs : (a : ℕ) (s : SpaceState) (y : Owner) → Above a y → Differ (importer a s) y × Differ y (importer a s)
  differs a s (segment j r) above = (tt, tt)
  differs a s (importer e r) above = ((λ is_same. omega (arith, above, is_same)), (λ is_same. omega (arith, above, is_same)))

  still_above : (p a : ℕ) (y : Owner) → p < a → Above a y → Above p y
  still_above p a (segment j r) lt above = tt
  still_above p a (importer e r) lt above = omega (arith, above, lt)

  meet : (top a b : ℕ) → ((c e : ℕ) → c + e < a + b → Meet top c e) → Meet top a b
  meet top a b later x y one two ne over under first second = by (ltb a b) (ltb b a) refl refl
    where
      up_first : b < a → ⊥
      up_first lt =
          let at = next_up a top first in
          elim at.2 [
            | inl is_top ↦ omega (arith, lt, is_top, top_below b top second)
            | inr source ↦
                let below : source.0 < a = (accounted.stock a at.0 at.1).before source.0 source.1 in
                later
                source.0
                b
                (omega (arith, below))
                (importer a at.0)
                y
                (at.1, source.1, owned a at.0 x at.1 one)
                two
                (differs a at.0 y under).0
                lt
                (still_above source.0 a y below under)
                source.2
                second
          ]

      up_second : a < b → ⊥
      up_second lt =
          let at = next_up b top second in
          elim at.2 [
            | inl is_top ↦ omega (arith, lt, is_top, top_below a top first)
            | inr source ↦
                let below : source.0 < b = (accounted.stock b at.0 at.1).before source.0 source.1 in
                later
                a
                source.0
                (omega (arith, below))
                x
                (importer b at.0)
                one
                (at.1, source.1, owned b at.0 y at.1 two)
                (differs b at.0 x over).1
                (still_above source.0 b x below over)
                lt
                first
                source.2
          ]

      by : (p q : Bool) → ltb a b ≡ p → ltb b a ≡ q → ⊥
      by true q e f = up_second (grind (arith, nat_tests))
      by false true e f = up_first (grind (arith, nat_tests))
      by false false e f =
          let same : b ≡ a = grind (arith, nat_tests) in
          let at = next_up a top first in
          clash a at.0 x y at.1 one (subst (λ (k : ℕ). Owns k y) same two) ne

  climb : (n a b top : ℕ) → a + b < n → Meet top a b
  climb zero a b top few = absurd (omega (arith, few))
  climb (suc n) a b top few = meet top a b (λ c e lt. climb n c e top (omega (arith, few, lt)))

pub out_is_apart : OutIsApart
out_is_apart spaces out accounted i j e lt below top first second u one two =
    climb
    spaces
    out
    accounted
    u
    ((get_or out i e).arena + (get_or out j e).arena + 1)
    (get_or out i e).arena
    (get_or out j e).arena
    top
    (omega arith)
    (segment i (get_or out i e))
    (segment j (get_or out j e))
    (slice_get-get_or out i e (omega (arith, lt, below)), refl, one)
    (slice_get-get_or out j e below, refl, two)
    (λ is_same. omega (arith, lt, is_same))
    tt
    tt
    first
    second
