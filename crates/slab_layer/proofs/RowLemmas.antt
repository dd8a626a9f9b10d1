-- A row of chunks.
use Rattle.std.proofs.Common.{◌≡◌, inl, inr, ℕ, zero, suc, ◌+◌, ◌-◌, ◌*◌, ◌<◌, ◌≤◌, Bool, true, false, List, [], ◌∷◌, ◌++◌, length, get_or, set, All, Option, Some, None, map, is_some, refl, sym, ap, ◌∙◌, arith, if◌then◌else◌}
use Rattle.std.proofs.Math.ListN.{replicate}
use Rattle.std.proofs.Math.Nat.{mul-le-mul_right}
use Rattle.std.proofs.lemmas.Grind.{replicate_next}
use Rattle.std.proofs.lemmas.Bool.{cases_lt}
use Rattle.std.proofs.lemmas.List.{length-replicate, length-map, get_or-map}
use Rattle.std.proofs.lemmas.List.Elements.{All-head, All-tail}
use Rattle.deed_core.specs.Holding.{Holding, piece}
use Rattle.slab_layer.specs.Parts.{piece_or_none, joined_row, AreEndToEnd}
use Rattle.slab_layer.specs.Slab.{stored_row}
use Rattle.slab_layer.proofs.PartLemmas.{part_some, both_some, follows_some}

abbrev pub entry : (ℕ → Holding) → ℕ → Bool → Option Holding
entry f i x = if x then Some (f i) else None

pub stored_row-push : (f : ℕ → Holding) (i : ℕ) (xs : List Bool) (y : Bool) → stored_row f i (xs ++ y ∷ []) ≡ stored_row f i xs ++ entry f (i + length xs) y ∷ []
stored_row-push f i [] y = let e : i + 0 ≡ i = omega arith in rw e refl
stored_row-push f i (x ∷ xs) y = let e : i + suc (length xs) ≡ (i + 1) + length xs = omega arith in rw e (ap (λ (zs : List (Option Holding)). entry f i x ∷ zs) (stored_row-push f (i + 1) xs y))

pub get_or-stored_row : (f : ℕ → Holding) (i : ℕ) (xs : List Bool) (j : ℕ) (d : Option Holding) (b : Bool) → j < length xs → get_or (stored_row f i xs) j d ≡ entry f (i + j) (get_or xs j b)
get_or-stored_row f i [] j d b within = absurd (omega arith)
get_or-stored_row f i (x ∷ xs) zero d b within = let e : i + 0 ≡ i = omega arith in rw e refl
get_or-stored_row f i (x ∷ xs) (suc j) d b within = let e : i + suc j ≡ (i + 1) + j = omega arith in rw e (get_or-stored_row f (i + 1) xs j d b (omega arith))

pub stored_row-set : (f : ℕ → Holding) (i : ℕ) (xs : List Bool) (j : ℕ) (y : Bool) → stored_row f i (set xs j y) ≡ set (stored_row f i xs) j (entry f (i + j) y)
stored_row-set f i [] j y = refl
stored_row-set f i (x ∷ xs) zero y = let e : i + 0 ≡ i = omega arith in rw e refl
stored_row-set f i (x ∷ xs) (suc j) y = let e : i + suc j ≡ (i + 1) + j = omega arith in rw e (ap (λ (zs : List (Option Holding)). entry f i x ∷ zs) (stored_row-set f (i + 1) xs j y))

pub stored_from_start : (f : ℕ → Holding) (xs : List Bool) (j : ℕ) (y : Bool) → stored_row f 0 (set xs j y) ≡ set (stored_row f 0 xs) j (entry f j y)
stored_from_start f xs j y = let e : 0 + j ≡ j = omega arith in stored_row-set f 0 xs j y ∙ rw e refl

pub get_or_from_start : (f : ℕ → Holding) (xs : List Bool) (j : ℕ) (d : Option Holding) (b : Bool) → j < length xs → get_or (stored_row f 0 xs) j d ≡ entry f j (get_or xs j b)
get_or_from_start f xs j d b within = let e : 0 + j ≡ j = omega arith in get_or-stored_row f 0 xs j d b within ∙ rw e refl

pub is_some-entry : (h : Holding) (x : Bool) → is_some (if x then Some h else None) ≡ x
is_some-entry h true = refl
is_some-entry h false = refl

pub map-stored_row : (f : ℕ → Holding) (i : ℕ) (xs : List Bool) → map is_some (stored_row f i xs) ≡ xs
map-stored_row f i [] = refl
map-stored_row f i (x ∷ xs) = rw (is_some-entry (f i) x, map-stored_row f (i + 1) xs) refl

-- the chunks of n units from a base on
abbrev pub placed : ℕ → ℕ → ℕ → ℕ → Holding
placed r b n i = piece r (b + i * n) n

-- all chunks of a row and what is behind them, together
pub joined_row-stored_row : (r b n : ℕ) → 0 < n → (i k y c z : ℕ) → c ≡ b + (i + k) * n → z ≡ k * n + y → joined_row (stored_row (placed r b n) i (replicate k true)) (piece_or_none r c y) ≡ piece_or_none r (b + i * n) z
joined_row-stored_row r b n some i zero y c z at long = let e : c ≡ b + i * n = omega arith in let f : z ≡ y = omega arith in rw (e, f) refl
joined_row-stored_row r b n some i (suc k) y c z at long =
    let rest : joined_row (stored_row (placed r b n) (i + 1) (replicate k true)) (piece_or_none r c y) ≡ piece_or_none r (b + (i + 1) * n) (k * n + y) = joined_row-stored_row r b n some (i + 1) k y c (k * n + y) (omega arith) refl in
    rw rest (both_some r (b + i * n) (b + (i + 1) * n) n (k * n + y) z some (omega arith) (omega arith))

pub row-stored_row : (r b n : ℕ) → 0 < n → (i k y c : ℕ) → c ≡ b + (i + k) * n → AreEndToEnd (stored_row (placed r b n) i (replicate k true)) (piece_or_none r c y)
row-stored_row r b n some i zero y c at = tt
row-stored_row r b n some i (suc k) y c at =
    let rest : joined_row (stored_row (placed r b n) (i + 1) (replicate k true)) (piece_or_none r c y) ≡ piece_or_none r (b + (i + 1) * n) (k * n + y) = joined_row-stored_row r b n some (i + 1) k y c (k * n + y) (omega arith) refl in
    (rw rest (follows_some r (b + i * n) (b + (i + 1) * n) n (k * n + y) some (omega arith)), row-stored_row r b n some (i + 1) k y c (omega arith))

pub all_true : (xs : List Bool) → All (λ b. b ≡ true) xs → xs ≡ replicate (length xs) true
all_true [] h = refl
all_true (x ∷ xs) h = let e : x ≡ true = All-head (λ b. b ≡ true) x xs h in rw (e, ← all_true xs (All-tail (λ b. b ≡ true) x xs h)) refl

-- one more chunk cut off
pub next_stored : (f : ℕ → Holding) (k : ℕ) → stored_row f 0 (replicate (k + 1) true) ≡ stored_row f 0 (replicate k true) ++ Some (f k) ∷ []
next_stored f k =
    let e : 0 + length (replicate k true) ≡ k = omega (arith, length-replicate k true) in
    rw (replicate_next k true, stored_row-push f 0 (replicate k true) true, e) refl

-- there is room for one chunk more
pub room_for : (d k n len : ℕ) → d < k → k * n ≤ len → d * n + n ≤ len
room_for d k n len below room = let e : (d + 1) * n ≤ k * n = mul-le-mul_right n (omega arith) in omega arith

-- the first chunks of a deed and what is left of it
pub row_whole : (h : Holding) (n d : ℕ) → 0 < n → AreEndToEnd (stored_row (placed h.root h.range.base n) 0 (replicate d true)) (piece_or_none h.root (h.range.base + d * n) (h.range.len - d * n))
row_whole h n d some = row-stored_row h.root h.range.base n some 0 d (h.range.len - d * n) (h.range.base + d * n) (omega arith)

pub all_whole : (h : Holding) (n d : ℕ) → 0 < n → d * n ≤ h.range.len → 0 < h.range.len → joined_row (stored_row (placed h.root h.range.base n) 0 (replicate d true)) (piece_or_none h.root (h.range.base + d * n) (h.range.len - d * n)) ≡ Some h
all_whole h n d some room units =
    let e : h.range.base + 0 * n ≡ h.range.base = omega arith in
    joined_row-stored_row h.root h.range.base n some 0 d (h.range.len - d * n) (h.range.base + d * n) h.range.len (omega arith) (omega arith)
    ∙ rw e (part_some h.root h.range.base h.range.len units)

-- a place of a row, read
pub some_at : {X : Type 0} (row : List (Option X)) (k : ℕ) (x : Option X) (d : Bool) → k < length row → x ≡ get_or row k x → get_or (map is_some row) k d ≡ is_some x
some_at row k x d within is = get_or-map is_some row k x d within ∙ ap is_some (sym is)

-- what holds of each place so far, and of the next
pub more_places : {X : Type 0} (row : List (Option X)) (k : ℕ) (x : Option X) (b : Bool) → k < length row → x ≡ get_or row k x → is_some x ≡ b
    → ((j : ℕ) (d : Bool) → j < k → get_or (map is_some row) j d ≡ b) → (j : ℕ) (d : Bool) → j < k + 1 → get_or (map is_some row) j d ≡ b
more_places row k x b within is this below j d before = elim (cases_lt j k) [
  | inl earlier ↦ below j d earlier
  | inr later ↦ let e : j ≡ k = omega arith in rw e (some_at row k x d within is ∙ this)
]

pub all_places : {X : Type 0} (row : List (Option X)) (k : ℕ) (b : Bool) → length row ≤ k → ((j : ℕ) (d : Bool) → j < k → get_or (map is_some row) j d ≡ b) → All (λ y. y ≡ b) (map is_some row)
all_places row k b end below j d within = below j d (omega (arith, length-map row is_some))
