-- Numbers by their block and their place in it: x * a + r, with r below a.
use Rattle.std.proofs.Common.{◌≡◌, ℕ, ◌+◌, ◌-◌, ◌*◌, ◌/◌, ◌%◌, ◌<◌, ◌≤◌, suc, sym, subst, ap, ◌∙◌, ⊎_elim, arith}
use Rattle.std.proofs.Math.Nat.{mul-le-mul_right, mod-mod_of_dvd, dvd_of_mod-eq-zero, mod-le, mul_assoc, le_of_dvd}
use Rattle.tag_arena.specs.Place.{Nest}
use Rattle.std.proofs.lemmas.Nat.{mod-mul-add, div-add-mod'}
use Rattle.std.proofs.lemmas.Bool.{cases_lt}

-- a number at place p that isn't below a number at place r, with r at most p, is in the same block or a later one
same_block : (a x y r p : ℕ) → r < a → p < a → x * a + r ≤ y * a + p → x * a ≤ y * a
same_block a x y r p hr hp h =
    ⊎_elim (λ lt. let e : suc y * a ≤ x * a = mul-le-mul_right a lt in absurd (omega arith))
    (λ le. mul-le-mul_right a le) (cases_lt y x)

-- and with p below r, in a later one
later_block : (a x y r p : ℕ) → r < a → p < a → p < r → x * a + r ≤ y * a + p → x * a + a ≤ y * a
later_block a x y r p hr hp lt h =
    ⊎_elim (λ below. let e : suc x * a ≤ y * a = mul-le-mul_right a below in omega arith)
    (λ le. let e : y * a ≤ x * a = mul-le-mul_right a le in absurd (omega arith)) (cases_lt x y)

pub aligned_here : (low a p : ℕ) → p < a → low % a ≤ p → (low + (p - low % a)) % a ≡ p
aligned_here low a p hp h =
    let e : low / a * a + p ≡ low + (p - low % a) = omega (arith, div-add-mod' low a) in
    subst (λ n. n % a ≡ p) e (mod-mul-add (low / a) a p hp)

pub aligned_next : (low a p : ℕ) → p < a → p < low % a → low % a < a → (low + (a - low % a + p)) % a ≡ p
aligned_next low a p hp h r =
    let e : suc (low / a) * a + p ≡ low + (a - low % a + p) = omega (arith, div-add-mod' low a) in
    subst (λ n. n % a ≡ p) e (mod-mul-add (suc (low / a)) a p hp)

pub least_here : (low a p b : ℕ) → p < a → low % a < a → low % a ≤ p → low ≤ b → b % a ≡ p → low + (p - low % a) ≤ b
least_here low a p b hp r h le e =
    omega (arith, div-add-mod' low a, div-add-mod' b a, same_block a (low / a) (b / a) (low % a) p r hp (omega (arith, div-add-mod' low a, div-add-mod' b a)))

pub least_next : (low a p b : ℕ) → p < a → low % a < a → p < low % a → low ≤ b → b % a ≡ p → low + (a - low % a + p) ≤ b
least_next low a p b hp r h le e =
    omega (arith, div-add-mod' low a, div-add-mod' b a, later_block a (low / a) (b / a) (low % a) p r hp h (omega (arith, div-add-mod' low a, div-add-mod' b a)))

-- len units that stay inside a block of c units leave room for it
pub room_inside : (b n c : ℕ) → 0 < n → n ≤ c → b / c ≡ (b + n - 1) / c → b % c + n ≤ c
room_inside b n c some room e = grind arith

pub no_room_across : (b n c : ℕ) → 0 < n → n ≤ c → (b / c ≡ (b + n - 1) / c → ⊥) → c < b % c + n
no_room_across b n c some room h = grind arith

-- where n units from first reach past the end of its block, they fit into a block only from the next one on
pub past_block : (first b c n : ℕ) → first ≤ b → c < first % c + n → b % c + n ≤ c → first - first % c + c ≤ b
past_block first b c n le across room =
    ⊎_elim (λ lt. let e : suc (first / c) * c ≤ b / c * c = mul-le-mul_right c lt in omega (arith, div-add-mod' first c, div-add-mod' b c))
    (λ ge. let e : b / c * c ≤ first / c * c = mul-le-mul_right c ge in absurd (omega (arith, div-add-mod' first c, div-add-mod' b c)))
    (cases_lt (first / c) (b / c))

-- the end of the block of c units round first, by blocks
next_block : (first c : ℕ) → suc (first / c) * c ≡ first - first % c + c
next_block first c = omega (arith, div-add-mod' first c)

-- where c is a multiple of a, each block of c units begins with a block of a units
at_phase : (first a p c : ℕ) → p < a → c % a ≡ 0 → (first - first % c + c + p) % a ≡ p
at_phase first a p c below e =
    let whole : c / a * a ≡ c = omega (arith, div-add-mod' c a) in
    let blocks : suc (first / c) * (c / a) * a ≡ first - first % c + c = mul_assoc (suc (first / c)) (c / a) a ∙ ap (λ k. suc (first / c) * k) whole ∙ next_block first c in
    subst (λ n. n % a ≡ p) (ap (λ n. n + p) blocks) (mod-mul-add (suc (first / c) * (c / a)) a p below)

-- the place in its block of a number that is at most p past the block's beginning
place_of : (first second c p : ℕ) → p < c → first - first % c + c ≤ second → second ≤ first - first % c + c + p → second % c ≤ p
place_of first second c p below from near =
    let e : suc (first / c) * c + (second - (first - first % c + c)) ≡ second = omega (arith, next_block first c) in
    let place : second % c ≡ second - (first - first % c + c) = subst (λ n. n % c ≡ second - (first - first % c + c)) e (mod-mul-add (suc (first / c)) c (second - (first - first % c + c)) (omega arith)) in
    omega arith

-- where they reach past it also from the first number of that phase in the next block, they do from each number of that phase
pub never_inside : (first second b a p c n : ℕ) → 0 < c → p < a → first - first % c + c ≤ second → ((k : ℕ) → first - first % c + c ≤ k → k % a ≡ p → second ≤ k)
    → second % a ≡ p → b % a ≡ p → Nest a c → c < second % c + n → b % c + n ≤ c → ⊥
never_inside first second b a p c n pos below from least sp bp nest across room =
    ⊎_elim
    (λ e. let place : b % c % a ≡ b % a = mod-mod_of_dvd a b (dvd_of_mod-eq-zero a e) in
    let within : b % c % a ≤ b % c = mod-le (b % c) a in
    let small : a ≤ c = le_of_dvd pos (dvd_of_mod-eq-zero a e) in
    let near : second ≤ first - first % c + c + p = least _ (omega arith) (at_phase first a p c below e) in
    let there : second % c ≤ p = place_of first second c p (omega arith) from near in
    omega arith)
    (λ e. let here : b % a % c ≡ b % c = mod-mod_of_dvd c b (dvd_of_mod-eq-zero c e) in
    let there : second % a % c ≡ second % c = mod-mod_of_dvd c second (dvd_of_mod-eq-zero c e) in
    let same : b % c ≡ second % c = sym here ∙ ap (λ k. k % c) (bp ∙ sym sp) ∙ there in
    omega arith)
    nest
