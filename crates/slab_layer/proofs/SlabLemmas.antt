-- The deeds of a slab.
use Rattle.std.proofs.Common.{◌≡◌, ℕ, cond, ◌+◌, ◌-◌, ◌*◌, ◌/◌, ◌%◌, ◌<◌, ◌≤◌, Bool, true, false, not, min, List, [], ◌∷◌, ◌++◌, length, get_or, set, All, Option, Some, None, map, is_some, refl, sym, ap, ◌∙◌, arith, subst}
use Rattle.std.proofs.Math.ListN.{replicate}
use Rattle.std.proofs.Math.Nat.{mul-le-mul_right, mul-mod_left, mul-div_left}
use Rattle.std.specs.Prelude.{count_by, MatchOption, ◌↔◌}
use Rattle.std.specs.Option.{option_to_list}
use Rattle.std.proofs.lemmas.Bool.{not-false}
use Rattle.std.proofs.lemmas.Option.{same_Some}
use Rattle.std.proofs.lemmas.List.Elements.{All-nil, All-cons, All-head, All-tail, All-same}
use Rattle.std.proofs.lemmas.List.Sums.{sum_by-set, count_by-le-length}
use Rattle.std.proofs.lemmas.List.Folds.{sum_by-replicate}
use Rattle.std.proofs.lemmas.List.{length-set, length-replicate, map-set}
use Rattle.deed_core.specs.Covering.{units_held}
use Rattle.deed_core.specs.Holding.{Holding, piece}
use Rattle.slab_layer.specs.Parts.{piece_or_none, front_of, back_of, Follows, joined_parts, joined_row, AreEndToEnd}
use Rattle.slab_layer.specs.Slab.{SlabState, chunk_at, used_units, unused_units, gap_of, tail_of, idle_chunks_by, deeds_in, stored_row, IsLowestIdle, PartsAreStored, IsSlab, IsComplete, idle_count, new_slab}
use Rattle.slab_layer.proofs.ListLemmas.{both_nil}
use Rattle.slab_layer.proofs.PartLemmas.{part_some, both_part, follows_part}
use Rattle.slab_layer.proofs.RowLemmas.{entry, is_some-entry, placed, get_or_from_start, stored_from_start, map-stored_row, joined_row-stored_row, row-stored_row, all_true}
use Rattle.slab_layer.proofs.PassingLemmas.{passing_none, none_passing, units-items_where}

abbrev pub state : Holding → ℕ → ℕ → List (Option Holding) → SlabState
state span colour chunk row = record { span = span; colour = colour; chunk = chunk; home = map is_some row }

-- a place changed
pub map_changed : (f : ℕ → Holding) (row : List (Option Holding)) (j : ℕ) (y : Bool) (x : Option Holding) → x ≡ entry f j y → map is_some (set row j x) ≡ set (map is_some row) j y
map_changed f row j y x is = map-set is_some row j x ∙ ap (λ (b : Bool). set (map is_some row) j b) (ap is_some is ∙ is_some-entry (f j) y)

pub changed : (span : Holding) (colour chunk : ℕ) (row : List (Option Holding)) (first last : Option Holding) (j : ℕ) (y : Bool) (x : Option Holding)
    → PartsAreStored (state span colour chunk row) first row last → x ≡ entry (chunk_at (state span colour chunk row)) j y → PartsAreStored (state span colour chunk (set row j x)) first (set row j x) last
changed span colour chunk row first last j y x held is =
    let s : SlabState = state span colour chunk row in
    let f : ℕ → Holding = chunk_at s in
    let home : map is_some (set row j x) ≡ set (map is_some row) j y = map_changed f row j y x is in
    let long : length (map is_some (set row j x)) ≡ length (map is_some row) = ap length home ∙ length-set (map is_some row) j y in
    let units : length (map is_some (set row j x)) * chunk ≡ length (map is_some row) * chunk = ap (λ (n : ℕ). n * chunk) long in
    record {
      shape = record { some = held.shape.some; room = omega (arith, held.shape.room) };
      gap = held.gap;
      chunks = ap (λ (o : Option Holding). set row j o) is ∙ ap (λ (r : List (Option Holding)). set r j (entry f j y)) held.chunks ∙ sym (stored_from_start f (map is_some row) j y) ∙ ap (stored_row f 0) (sym home);
      tail = rw units held.tail;
    }

pub changed_state : (span : Holding) (colour chunk : ℕ) (row : List (Option Holding)) (s : SlabState) (j : ℕ) (y : Bool) (x : Option Holding) → state span colour chunk row ≡ s
    → x ≡ entry (chunk_at (state span colour chunk row)) j y → state span colour chunk (set row j x) ≡ record { span = s.span; colour = s.colour; chunk = s.chunk; home = set s.home j y }
changed_state span colour chunk row s j y x view is =
    let S : SlabState → Type 0 = λ t. state span colour chunk (set row j x) ≡ record { span = t.span; colour = t.colour; chunk = t.chunk; home = set t.home j y } in
    subst S view (ap (λ (home : List Bool). let t : SlabState = record { span = span; colour = colour; chunk = chunk; home = home } in t) (map_changed (chunk_at (state span colour chunk row)) row j y x is))

-- and with it how many are at home
count_changed : (xs : List Bool) (j : ℕ) (y : Bool) → j < length xs → count_by (λ b. b) (set xs j y) + cond (get_or xs j false) 1 0 ≡ count_by (λ b. b) xs + cond y 1 0
count_changed xs j y within = sum_by-set (λ b. cond b 1 0) xs j y false within

pub some_idle : (xs : List Bool) (j : ℕ) → j < length xs → get_or xs j false ≡ true → 0 < count_by (λ b. b) xs
some_idle xs j within here = let e = rw here at (count_changed xs j false within) in omega (arith, e)

pub room_to_count : (xs : List Bool) (j : ℕ) → j < length xs → get_or xs j false ≡ false → count_by (λ b. b) xs < length xs
room_to_count xs j within away =
    let e = rw away at (count_changed xs j true within) in
    omega (arith, e, count_by-le-length (λ b. b) (set xs j true), length-set xs j true)

pub one_less : (row : List (Option Holding)) (j : ℕ) (x : Option Holding) (idle less : ℕ) → x ≡ None → j < length (map is_some row) → get_or (map is_some row) j false ≡ true → idle ≡ count_by (λ b. b) (map is_some row) → less ≡ idle - 1
    → less ≡ count_by (λ b. b) (map is_some (set row j x))
one_less row j x idle less is within here counted taken =
    let e = rw here at (count_changed (map is_some row) j false within) in
    let home : map is_some (set row j x) ≡ set (map is_some row) j false = map-set is_some row j x ∙ ap (λ (o : Option Holding). set (map is_some row) j (is_some o)) is in
    rw home (omega (arith, e, counted, taken))

pub one_more : {h : Holding} (row : List (Option Holding)) (j : ℕ) (x : Option Holding) (idle more : ℕ) → x ≡ Some h → j < length (map is_some row) → get_or (map is_some row) j false ≡ false → idle ≡ count_by (λ b. b) (map is_some row) → more ≡ idle + 1
    → more ≡ count_by (λ b. b) (map is_some (set row j x))
one_more row j x idle more is within away counted put =
    let e = rw away at (count_changed (map is_some row) j true within) in
    let home : map is_some (set row j x) ≡ set (map is_some row) j true = map-set is_some row j x ∙ ap (λ (o : Option Holding). set (map is_some row) j (is_some o)) is in
    rw home (omega (arith, e, counted, put))

pub all_idle : (row : List (Option Holding)) (count : ℕ) → map is_some row ≡ replicate count true → count ≡ count_by (λ b. b) (map is_some row)
all_idle row count home = rw home (omega (arith, sum_by-replicate (λ b. cond b 1 0) count true))

pub idle_fits : (s : SlabState) (idle : ℕ) → IsSlab s → idle ≡ idle_count s → idle * s.chunk ≤ s.span.range.len
idle_fits s idle slab counted =
    let few : idle ≤ length s.home = omega (arith, counted, count_by-le-length (λ b. b) s.home) in
    let units : idle * s.chunk ≤ length s.home * s.chunk = mul-le-mul_right s.chunk few in
    omega (arith, units, slab.room)

-- a chunk at home
pub at_home : (s : SlabState) (first last : Option Holding) (row : List (Option Holding)) (j : ℕ) (d : Option Holding) → PartsAreStored s first row last → j < length s.home → get_or s.home j false ≡ true → get_or row j d ≡ Some (chunk_at s j)
at_home s first last row j d held within here = rw (held.chunks, get_or_from_start (chunk_at s) s.home j d false within, here) refl

-- a new slab
behind_gap : (h r : Holding) (colour : ℕ) → colour < h.range.len → back_of colour (Some h) ≡ Some r → piece h.root (h.range.base + colour) (h.range.len - colour) ≡ r
behind_gap h r colour more is =
    let e : piece_or_none h.root (h.range.base + colour) (h.range.len - colour) ≡ Some (piece h.root (h.range.base + colour) (h.range.len - colour)) = part_some h.root (h.range.base + colour) (h.range.len - colour) (omega arith) in
    same_Some (piece h.root (h.range.base + colour) (h.range.len - colour)) r (sym e ∙ is)

made_of : (h : Holding) (colour n count : ℕ) (first last : Option Holding) (row : List (Option Holding)) → 0 < n → colour + count * n ≤ h.range.len → first ≡ front_of colour (Some h)
    → row ≡ stored_row (placed h.root (h.range.base + colour) n) 0 (replicate count true) → last ≡ piece_or_none h.root (h.range.base + colour + count * n) (h.range.len - colour - count * n)
    → (map is_some row ≡ replicate count true) × PartsAreStored (state h colour n row) first row last
made_of h colour n count first last row some room gap chunks tail =
    let home : map is_some row ≡ replicate count true = ap (map is_some) chunks ∙ map-stored_row (placed h.root (h.range.base + colour) n) 0 (replicate count true) in
    let long : length (map is_some row) ≡ count = ap length home ∙ length-replicate count true in
    let units : length (map is_some row) * n ≡ count * n = ap (λ (k : ℕ). k * n) long in
    let less : min colour h.range.len ≡ colour = omega arith in
    let left : h.range.len - colour - count * n ≡ h.range.len - (colour + count * n) = omega arith in (
      home,
      record {
        shape = record { some = some; room = omega arith };
        gap = gap ∙ rw less refl;
        chunks = chunks ∙ ap (stored_row (placed h.root (h.range.base + colour) n) 0) (sym home);
        tail = rw units (tail ∙ rw left refl);
      },
    )

pub made : (h span r : Holding) (colour n count : ℕ) (first last : Option Holding) (row : List (Option Holding)) → span ≡ h → 0 < n → 0 < count → colour + count * n ≤ h.range.len
    → first ≡ front_of colour (Some h) → back_of colour (Some h) ≡ Some r
    → row ≡ stored_row (placed r.root r.range.base n) 0 (replicate count true) → last ≡ piece_or_none r.root (r.range.base + count * n) (r.range.len - count * n)
    → (map is_some row ≡ replicate count true) × PartsAreStored (state span colour n row) first row last
made h span r colour n count first last row is some chunks room gap rest in_row tail =
    let one : 1 * n ≤ count * n = mul-le-mul_right n chunks in
    let e : r ≡ piece h.root (h.range.base + colour) (h.range.len - colour) = sym (behind_gap h r colour (omega arith) rest) in
    let P : Holding → Type 0 = λ q. row ≡ stored_row (placed q.root q.range.base n) 0 (replicate count true) in
    let Q : Holding → Type 0 = λ q. last ≡ piece_or_none q.root (q.range.base + count * n) (q.range.len - count * n) in
    let R : Holding → Type 0 = λ q. (map is_some row ≡ replicate count true) × PartsAreStored (state q colour n row) first row last in
    subst R (sym is) (made_of h colour n count first last row some room gap (subst P e in_row) (subst Q e tail))

pub made_state : (h span : Holding) (colour n count : ℕ) (row : List (Option Holding)) → span ≡ h → count ≡ h.range.len / n → map is_some row ≡ replicate count true → state span colour n row ≡ new_slab h colour n
made_state h span colour n count row is chunks home = rw (is, home, chunks) refl

-- a complete slab, joined
complete_chunks : (s : SlabState) (first last : Option Holding) (row : List (Option Holding)) → PartsAreStored s first row last → IsComplete s → row ≡ stored_row (chunk_at s) 0 (replicate (length s.home) true)
complete_chunks s first last row held complete = held.chunks ∙ ap (stored_row (chunk_at s) 0) (all_true s.home complete)

pub complete_row : (s : SlabState) (first last : Option Holding) (row : List (Option Holding)) → PartsAreStored s first row last → IsComplete s → AreEndToEnd row last
complete_row s first last row held complete =
    rw (complete_chunks s first last row held complete, held.tail) (row-stored_row s.span.root (s.span.range.base + s.colour) s.chunk held.shape.some 0 (length s.home) (unused_units s) (s.span.range.base + s.colour + used_units s) (omega arith))

pub complete_body : (s : SlabState) (first last : Option Holding) (row : List (Option Holding)) → PartsAreStored s first row last → IsComplete s → joined_row row last ≡ piece_or_none s.span.root (s.span.range.base + s.colour) (s.span.range.len - s.colour)
complete_body s first last row held complete =
    let e : s.span.range.base + s.colour + 0 * s.chunk ≡ s.span.range.base + s.colour = omega arith in
    rw (complete_chunks s first last row held complete, held.tail)
    (joined_row-stored_row s.span.root (s.span.range.base + s.colour) s.chunk held.shape.some 0 (length s.home) (unused_units s) (s.span.range.base + s.colour + used_units s) (s.span.range.len - s.colour) (omega arith) (omega (arith, held.shape.room)) ∙ rw e refl)

pub complete_follows : (s : SlabState) (first last body : Option Holding) (row : List (Option Holding)) → PartsAreStored s first row last → IsComplete s → body ≡ joined_row row last → Follows first body
complete_follows s first last body row held complete is =
    rw (is, complete_body s first last row held complete, held.gap) (follows_part s.span.root s.span.range.base (s.span.range.base + s.colour) s.colour (s.span.range.len - s.colour) refl)

pub complete_whole : (s : SlabState) (first last body : Option Holding) (row : List (Option Holding)) → PartsAreStored s first row last → IsComplete s → 0 < s.span.range.len → body ≡ joined_row row last → joined_parts first body ≡ Some s.span
complete_whole s first last body row held complete units is =
    rw (is, complete_body s first last row held complete, held.gap)
    (both_part s.span.root s.span.range.base (s.span.range.base + s.colour) s.colour (s.span.range.len - s.colour) s.span.range.len refl (omega (arith, held.shape.room)) ∙ part_some s.span.root s.span.range.base s.span.range.len units)

-- the chunks' places
pub place_back : (s : SlabState) (j : ℕ) (h : Holding) → chunk_at s j ≡ h → h.range.base - (s.span.range.base + s.colour) ≡ j * s.chunk
place_back s j h is = let e : s.span.range.base + s.colour + j * s.chunk ≡ h.range.base = ap (λ (x : Holding). x.range.base) is in omega arith

pub place_whole : (s : SlabState) (j : ℕ) (h : Holding) → chunk_at s j ≡ h → (h.range.base - (s.span.range.base + s.colour)) % s.chunk ≡ 0
place_whole s j h is = rw (place_back s j h is) (mul-mod_left j s.chunk)

pub place_is : (s : SlabState) (j : ℕ) (h : Holding) → 0 < s.chunk → chunk_at s j ≡ h → (h.range.base - (s.span.range.base + s.colour)) / s.chunk ≡ j
place_is s j h some is = rw (place_back s j h is) (mul-div_left j some)

pub ruleset places = (place_whole, place_is)

is_none : (o : Option Holding) → is_some o ≡ false → o ≡ None
is_none None e = refl
is_none (Some h) e = cc

-- a slab in which nothing lies
none_none : (o : Option Holding) → option_to_list o ≡ [] → o ≡ None
none_none None e = refl
none_none (Some h) e = cc

pub record IsBare (s : SlabState) (first last : Option Holding) (row : List (Option Holding)) : Type 0 where
  pub gap : first ≡ None
  pub out : All (λ b. b ≡ false) s.home
  pub tail : last ≡ None
  pub row_out : All (λ o. o ≡ None) row

stored_none : (f : ℕ → Holding) (i : ℕ) (xs : List Bool) → All (λ b. b ≡ false) xs → All (λ o. o ≡ None) (stored_row f i xs)
stored_none f i [] none = All-nil (λ o. o ≡ None)
stored_none f i (x ∷ xs) none =
    let e : x ≡ false = All-head (λ b. b ≡ false) x xs none in
    let here : entry f i x ≡ None = rw e refl in
    All-cons (λ o. o ≡ None) (entry f i x) (stored_row f (i + 1) xs) here (stored_none f (i + 1) xs (All-tail (λ b. b ≡ false) x xs none))

pub bare : (s : SlabState) (first last : Option Holding) (row : List (Option Holding)) → PartsAreStored s first row last → deeds_in s ≡ [] → IsBare s first last row
bare s first last row held none =
    let a = both_nil (option_to_list (gap_of s)) (idle_chunks_by (chunk_at s) s ++ option_to_list (tail_of s)) none in
    let b = both_nil (idle_chunks_by (chunk_at s) s) (option_to_list (tail_of s)) a.1 in
    let out : All (λ x. x ≡ false) s.home = none_passing (λ x. x) (chunk_at s) 0 s.home b.0 in
    record {
      gap = held.gap ∙ none_none (gap_of s) a.0;
      out = out;
      tail = held.tail ∙ none_none (tail_of s) b.1;
      row_out = All-same (λ o. o ≡ None) row (stored_row (chunk_at s) 0 s.home) held.chunks (stored_none (chunk_at s) 0 s.home out);
    }

pub is_bare : (s : SlabState) (first last : Option Holding) (row : List (Option Holding)) → PartsAreStored s first row last → first ≡ None → last ≡ None → All (λ b. b ≡ false) s.home → deeds_in s ≡ []
is_bare s first last row held none_before none_behind out =
    let a : option_to_list (gap_of s) ≡ [] = ap option_to_list (sym held.gap ∙ none_before) in
    let b : idle_chunks_by (chunk_at s) s ≡ [] = passing_none (λ x. x) (chunk_at s) 0 s.home out in
    let t : option_to_list (tail_of s) ≡ [] = ap option_to_list (sym held.tail ∙ none_behind) in
    rw (a, b, t) refl

-- its idle units
pub idle_units : (s : SlabState) → units_held (idle_chunks_by (chunk_at s) s) ≡ count_by (λ b. b) s.home * s.chunk
idle_units s = units-items_where s.chunk (λ b. b) (chunk_at s) 0 s.home (λ k. refl)

pub empty_is : (s : SlabState) (first last : Option Holding) (row : List (Option Holding)) (o : Option ℕ) (r : Bool) → PartsAreStored s first row last → is_some first ≡ false → is_some last ≡ false
    → is_some o ≡ not r → MatchOption o (All (λ b. b ≡ false) s.home) (λ j. IsLowestIdle j s.home) → (r ≡ true) ↔ (deeds_in s ≡ [])
empty_is s first last row None r held a b e out = (λ is. is_bare s first last row held (is_none first a) (is_none last b) out, λ none. not-false r (sym e))
empty_is s first last row (Some j) r held a b e idle = (
  λ is. absurd (let f : not r ≡ false = ap not is in cc),
  λ none.
      let o : get_or s.home j false ≡ false = (bare s first last row held none).out j false idle.within in
      let t = idle.idle in absurd cc,
)
