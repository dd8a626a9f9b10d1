-- Where a range serves a request, the request's units are within the range's reach.
use Rattle.std.proofs.Common.{◌≡◌, ◌≢◌, ℕ, ◌+◌, ◌-◌, ◌*◌, ◌/◌, ◌%◌, ◌<◌, ◌≤◌, suc, max, min, sym, ap, subst, inl, inr, ⊎_elim, arith}
use Rattle.std.proofs.Math.Nat.{mul-le-mul_right}
use Rattle.std.proofs.lemmas.Nat.{mod-mul-add, div-add-mod'}
use Rattle.std.proofs.lemmas.Bool.{cases_lt}
use Rattle.std.proofs.lemmas.Bool.Decides.{eqb_tells}
use Rattle.tag_arena.specs.Reach.{GridState, base_from, block_past, reach_of}
use Rattle.tag_arena.proofs.Blocks.{aligned_here, aligned_next, least_here, least_next, room_inside}

skip_here : (a p r : ℕ) → p < a → r ≤ p → (a + p - r) % a ≡ p - r
skip_here a p r below le =
    let e : 1 * a + (p - r) ≡ a + p - r = omega arith in
    subst (λ n. n % a ≡ p - r) e (mod-mul-add 1 a (p - r) (omega arith))

skip_next : (a p r : ℕ) → p < r → r < a → (a + p - r) % a ≡ a - r + p
skip_next a p r lt below =
    let e : 0 * a + (a - r + p) ≡ a + p - r = omega arith in
    subst (λ n. n % a ≡ a - r + p) e (mod-mul-add 0 a (a - r + p) (omega arith))

module _ (a p low : ℕ) (below : p < a) where
  rest_below : low % a < a
  rest_below = omega arith

  base_here : low % a ≤ p → low + (p - low % a) ≡ base_from a p low
  base_here le = ap (λ n. low + n) (sym (skip_here a p (low % a) below le))

  base_next : p < low % a → low + (a - low % a + p) ≡ base_from a p low
  base_next lt = ap (λ n. low + n) (sym (skip_next a p (low % a) lt rest_below))

  pub base_aligned : base_from a p low % a ≡ p
  base_aligned =
      ⊎_elim (λ lt. subst (λ n. n % a ≡ p) (base_next lt) (aligned_next low a p below lt rest_below))
      (λ le. subst (λ n. n % a ≡ p) (base_here le) (aligned_here low a p below le))
      (cases_lt p (low % a))

  pub base_least : (b : ℕ) → low ≤ b → b % a ≡ p → base_from a p low ≤ b
  base_least b from e =
      ⊎_elim (λ lt. subst (λ n. n ≤ b) (base_next lt) (least_next low a p b below rest_below lt from e))
      (λ le. subst (λ n. n ≤ b) (base_here le) (least_here low a p b below rest_below le from e))
      (cases_lt p (low % a))

  -- what is least of these is it
  pub base_is : (n : ℕ) → low ≤ n → n % a ≡ p → ((b : ℕ) → low ≤ b → b % a ≡ p → n ≤ b) → n ≡ base_from a p low
  base_is n from e least = omega (arith, base_least n from e, least (base_from a p low) (omega arith) base_aligned)

-- units from a base in the block of `first` on end by the end of that block
within_block : (first b c n : ℕ) → first ≤ b → b < block_past c first → b % c + n ≤ c → b + n ≤ block_past c first
within_block first b c n le near room =
    ⊎_elim
    (λ lt. let e : suc (first / c) * c ≤ b / c * c = mul-le-mul_right c lt in absurd (omega (arith, div-add-mod' first c, div-add-mod' b c)))
    (λ ge. let e : b / c * c ≤ first / c * c = mul-le-mul_right c ge in omega (arith, div-add-mod' first c, div-add-mod' b c))
    (cases_lt (first / c) (b / c))

-- units from b on reach no further than the range's end and the end of the block of `first`
in_block : (n end b first edge second c : ℕ) → first ≤ b → b + n ≤ end → b + n ≤ edge → n ≤ max (min end edge - first) (min (end - second) c)
in_block n end b first edge second c from to near = omega arith

-- or they are in a later block
in_later : (n end b first edge second c : ℕ) → second ≤ b → b + n ≤ end → n ≤ c → n ≤ max (min end edge - first) (min (end - second) c)
in_later n end b first edge second c from to room = omega arith

-- what these two come to by the order of the numbers
none_left : (end first edge second c : ℕ) → end ≤ first → first ≤ edge → edge ≤ second → 0 ≡ max (min end edge - first) (min (end - second) c)
none_left end first edge second c past near far = omega arith

near_left : (end first edge second c : ℕ) → end ≤ edge → edge ≤ second → end - first ≡ max (min end edge - first) (min (end - second) c)
near_left end first edge second c near far = omega arith

both_left : (end first edge second c : ℕ) → edge < end → max (edge - first) (min (end - second) c) ≡ max (min end edge - first) (min (end - second) c)
both_left end first edge second c past = omega arith

before_block : (c first : ℕ) → c ≢ 0 → first ≤ block_past c first
before_block c first some = let rest : first % c < c = omega arith in omega arith

module _ (a p c base end b n : ℕ) (below : p < a) (from : base ≤ b) (to : b + n ≤ end) (phase : b % a ≡ p) where
  blocked : 0 < n → n ≤ c → b / c ≡ (b + n - 1) / c
      → n ≤ max (min end (block_past c (base_from a p base)) - base_from a p base) (min (end - base_from a p (block_past c (base_from a p base))) c)
  blocked some room inside =
      let first = base_least a p base below b from phase in
      ⊎_elim
      (λ lt. in_block n end b (base_from a p base) (block_past c (base_from a p base)) (base_from a p (block_past c (base_from a p base))) c first to
      (within_block (base_from a p base) b c n first lt (room_inside b n c some room inside)))
      (λ ge. in_later n end b (base_from a p base) (block_past c (base_from a p base)) (base_from a p (block_past c (base_from a p base))) c
      (base_least a p (block_past c (base_from a p base)) below b ge phase) to room)
      (cases_lt b (block_past c (base_from a p base)))

  open_range : n ≤ end - base_from a p base
  open_range = let first = base_least a p base below b from phase in omega arith

pub serves_within : (g : GridState) (base end b n : ℕ) → g.phase < g.align → base ≤ b → b + n ≤ end → b % g.align ≡ g.phase → 0 < n → (g.nocross ≢ 0 → n ≤ g.nocross) → (g.nocross ≢ 0 → b / g.nocross ≡ (b + n - 1) / g.nocross) → n ≤ reach_of g base end
unfolding reach_of
serves_within g base end b n below from to phase some room inside =
    elim (eqb_tells g.nocross 0) [
      | inl w ↦ rw w.0 (open_range g.align g.phase g.nocross base end b n below from to phase)
      | inr w ↦ rw w.0 (blocked g.align g.phase g.nocross base end b n below from to phase some (room w.1) (inside w.1))
    ]

-- the reach of a range, by the bases that a search for it comes by
module _ (a p c base end first : ℕ) (below : p < a) (low : base ≤ first) (phase : first % a ≡ p) (least : (b : ℕ) → base ≤ b → b % a ≡ p → first ≤ b) where
  first_is : first ≡ base_from a p base
  first_is = base_is a p base below first low phase least

  pub reach_none : end ≤ first → 0 ≡ reach_of (record { align = a; phase = p; nocross = c }) base end
  unfolding reach_of
  reach_none past =
      let is = first_is in
      let over : block_past c (base_from a p base) ≤ base_from a p (block_past c (base_from a p base)) = omega arith in
      elim (eqb_tells c 0) [
        | inl w ↦ rw w.0 (omega arith)
        | inr w ↦ rw w.0 (none_left end (base_from a p base) (block_past c (base_from a p base)) (base_from a p (block_past c (base_from a p base))) c (omega arith) (before_block c (base_from a p base) w.1) over)
      ]

  pub reach_open : c ≡ 0 → end - first ≡ reach_of (record { align = a; phase = p; nocross = c }) base end
  unfolding reach_of
  reach_open none = elim (eqb_tells c 0) [
    | inl w ↦ rw w.0 (ap (λ n. end - n) first_is)
    | inr w ↦ absurd (w.1 none)
  ]

  pub reach_near : c ≢ 0 → end ≤ block_past c first → end - first ≡ reach_of (record { align = a; phase = p; nocross = c }) base end
  unfolding reach_of
  reach_near some near = elim (eqb_tells c 0) [
    | inl w ↦ absurd (some w.1)
    | inr w ↦ rw w.0 (rw (← first_is) (near_left end first (block_past c first) (base_from a p (block_past c first)) c near (omega arith)))
  ]

  pub reach_both : (second : ℕ) → c ≢ 0 → block_past c first < end → block_past c first ≤ second → second % a ≡ p → ((b : ℕ) → block_past c first ≤ b → b % a ≡ p → second ≤ b)
      → max (block_past c first - first) (min (end - second) c) ≡ reach_of (record { align = a; phase = p; nocross = c }) base end
  unfolding reach_of
  reach_both second some past low_2 phase_2 least_2 = elim (eqb_tells c 0) [
    | inl w ↦ absurd (some w.1)
    | inr w ↦ rw w.0 (rw (← first_is) (rw (← base_is a p (block_past c first) below second low_2 phase_2 least_2) (both_left end first (block_past c first) second c past)))
  ]
