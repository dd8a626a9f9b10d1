-- How many rounds a depot's magazines have.
use Rattle.std.proofs.Common.{◌≡◌, ℕ, ◌+◌, ◌-◌, ◌*◌, ◌≤◌, List, [], ◌∷◌, ◌++◌, length, All, refl, arith, ap, ◌∙◌, length-append}
use Rattle.std.proofs.lemmas.Grind.{flat_map-append}
use Rattle.std.proofs.lemmas.List.Elements.{All-append, All-rest, All-nil, All-head, All-tail, All-weaker}
use Rattle.std.proofs.lemmas.List.Sums.{sum_by-cons}
use Rattle.deed_core.specs.Tag.{Tag}
use Rattle.deed_core.specs.Covering.{units_in, units_tagged}
use Rattle.magazine_layer.specs.Magazines.{IsSize}
use Rattle.magazine_layer.specs.Alike.{AreAlike}
use Rattle.magazine_layer.specs.Depots.{DepotState, IsDepot, IsOldCount, all_rounds, depot_rounds}

abbrev Few : List Tag → Type 0
Few m = length m ≤ 31

rounds_more : (m : List Tag) (ms : List (List Tag)) → length (all_rounds (m ∷ ms)) ≡ length m + length (all_rounds ms)
rounds_more m ms = length-append m (all_rounds ms)

-- magazines of one size
pub whole_rounds : (size : ℕ) (ms : List (List Tag)) → All (λ m. length m ≡ size) ms → length (all_rounds ms) ≡ length ms * size
whole_rounds size [] all = omega arith
whole_rounds size (m ∷ ms) all =
    let P : List Tag → Type 0 = λ m. length m ≡ size in
    let one : length m ≡ size = All-head P m ms all in
    let rest : length (all_rounds ms) ≡ length ms * size = whole_rounds size ms (All-tail P m ms all) in
    omega (arith, rounds_more m ms, one, rest)

-- magazines of any sizes
pub few_rounds : (ms : List (List Tag)) → All Few ms → length (all_rounds ms) ≤ 31 * length ms
few_rounds [] all = omega arith
few_rounds (m ∷ ms) all =
    let one : length m ≤ 31 = All-head Few m ms all in
    let rest : length (all_rounds ms) ≤ 31 * length ms = few_rounds ms (All-tail Few m ms all) in
    omega (arith, rounds_more m ms, one, rest)

size_few : (m : ℕ) → IsSize m → m ≤ 31
size_few m size = grind arith

pub no_old : IsOldCount [] 0
no_old = record { counted = refl; most = All-nil Few }

-- the oldest is taken out
pub old_taken : (ms rest : List (List Tag)) (m : List Tag) (count : ℕ) → ms ≡ m ∷ rest → IsOldCount ms count → (length m ≤ count) × IsOldCount rest (count - length m)
old_taken ms rest m count is old =
    let all : count ≡ length m + length (all_rounds rest) = old.counted ∙ (ap (λ xs. length (all_rounds xs)) is ∙ rounds_more m rest) in
    (omega (arith, all), record { counted = omega (arith, all); most = All-rest Few m rest ms is old.most })

-- full ones of this size are old ones from here on
pub old_added : (ms full : List (List Tag)) (size count : ℕ) → IsSize size → All (λ m. length m ≡ size) full → IsOldCount ms count → IsOldCount (ms ++ full) (count + length full * size)
old_added ms full size count is whole old =
    let P : List Tag → Type 0 = λ m. length m ≡ size in
    let parts : length (all_rounds (ms ++ full)) ≡ length (all_rounds ms) + length (all_rounds full) = ap length (flat_map-append (λ m. m) ms full) ∙ length-append (all_rounds ms) (all_rounds full) in
    let most : size ≤ 31 = size_few size is in
    record {
      counted = omega (arith, parts, old.counted, whole_rounds size full whole);
      most = All-append Few ms full old.most (All-weaker P Few (λ m same. omega (arith, same, most)) full whole);
    }

-- there are at most 31 for each magazine
pub old_few : (ms : List (List Tag)) (count : ℕ) → IsOldCount ms count → count ≤ 31 * length ms
old_few ms count old = omega (arith, old.counted, few_rounds ms old.most)

pub full_few : (size : ℕ) (ms : List (List Tag)) → IsSize size → All (λ m. length m ≡ size) ms → length ms * size ≤ 31 * length ms
full_few size ms is whole =
    let P : List Tag → Type 0 = λ m. length m ≡ size in
    let most : size ≤ 31 = size_few size is in
    omega (arith, whole_rounds size ms whole, few_rounds ms (All-weaker P Few (λ m same. omega (arith, same, most)) ms whole))

-- the old ones, the full ones, and what is being drained
pub depot_count : (d : DepotState) (count : ℕ) → IsDepot d → IsOldCount d.old_full count → length (depot_rounds d) ≡ count + length d.full * d.size + length d.draining
depot_count d count is old = omega (
  arith,
  length-append (all_rounds d.old_full) (all_rounds d.full ++ d.draining),
  length-append (all_rounds d.full) d.draining,
  old.counted,
  whole_rounds d.size d.full is.whole,
)

-- rounds that are alike
pub alike_units : (each : ℕ) (ts : List Tag) → All (λ t. units_in t.holding ≡ each) ts → units_tagged ts ≡ length ts * each
alike_units each [] all = omega arith
alike_units each (t ∷ ts) all =
    let P : Tag → Type 0 = λ t. units_in t.holding ≡ each in
    let one : units_in t.holding ≡ each = All-head P t ts all in
    let rest : units_tagged ts ≡ length ts * each = alike_units each ts (All-tail P t ts all) in
    omega (arith, one, rest, sum_by-cons (λ (t : Tag). units_in t.holding) t ts)

pub alike_last : (ts us : List Tag) → AreAlike (ts ++ us) → AreAlike us
alike_last [] us a = a
alike_last (t ∷ ts) us a = alike_last ts us (record { each = a.each; alike = All-tail (λ (t : Tag). units_in t.holding ≡ a.each) t (ts ++ us) a.alike })
