-- Lemmas on how bytes fall into lines.
use Rattle.std.proofs.Common.{◌≡◌, ◌≢◌, ◌==◌, ℕ, ◌≤◌, ◌<◌, ◌+◌, ◌-◌, nat_le, true, false, List, [], ◌∷◌, ◌++◌, length, take, refl, sym, ◌∙◌, ap, append_assoc, arith, cond, get_or, inl, inr, zero, suc, Err}
use Rattle.std.proofs.lemmas.List.{append-nil, take-take, take_all, length-take, take_more, get_or-take}
use Rattle.std.proofs.lemmas.Bool.{ne_eqb, cases_Bool, cases_eq, leb-true, leb-false, le-leb, lt-leb}
use Rattle.std.proofs.Math.Seq.{take-append-add}
use Rattle.std.specs.List.{flat_map, AllByRecursion}
use Rattle.lease_proto.specs.declared.limits.TheConstants.{LONGEST_LINE, LINE_ROOM}
use Rattle.lease_proto.specs.Frames.{frame_of, frames_of_rest, frames_in, rest_in, with_line_feed, IsOneLine, FramesAreLines, InputIsLines}
use Rattle.lease_proto.specs.declared.faults.LineFault.TheVariants.{TooLong, BadLine}

-- text with no line feed goes onto the line begun
pub frames_in-text : (line text bs : List ℕ) → IsOneLine text → frames_in line (text ++ bs) ≡ frames_in (line ++ text) bs
frames_in-text line [] bs one = ap (λ l. frames_in l bs) (sym (append-nil line))
frames_in-text line (b ∷ text) bs one =
    rw (ne_eqb b 10 one.0) (frames_in-text (line ++ b ∷ []) text bs one.1 ∙ ap (λ l. frames_in l bs) (append_assoc line (b ∷ []) text))

pub rest_in-text : (line text bs : List ℕ) → IsOneLine text → rest_in line (text ++ bs) ≡ rest_in (line ++ text) bs
rest_in-text line [] bs one = ap (λ l. rest_in l bs) (sym (append-nil line))
rest_in-text line (b ∷ text) bs one =
    rw (ne_eqb b 10 one.0) (rest_in-text (line ++ b ∷ []) text bs one.1 ∙ ap (λ l. rest_in l bs) (append_assoc line (b ∷ []) text))

-- bytes in two parts
pub frames_in-append : (line xs bs : List ℕ) → frames_in line (xs ++ bs) ≡ frames_in line xs ++ frames_in (rest_in line xs) bs
frames_in-append line [] bs = refl
frames_in-append line (x ∷ xs) bs =
    elim (x == 10) as (λ t. cond t (frame_of line ∷ frames_in [] (xs ++ bs)) (frames_in (line ++ x ∷ []) (xs ++ bs))
    ≡ cond t (frame_of line ∷ frames_in [] xs) (frames_in (line ++ x ∷ []) xs)
    ++ frames_in (cond t (rest_in [] xs) (rest_in (line ++ x ∷ []) xs)) bs) [
      | true ↦ ap (λ r. frame_of line ∷ r) (frames_in-append [] xs bs)
      | false ↦ frames_in-append (line ++ x ∷ []) xs bs
    ]

pub rest_in-append : (line xs bs : List ℕ) → rest_in line (xs ++ bs) ≡ rest_in (rest_in line xs) bs
rest_in-append line [] bs = refl
rest_in-append line (x ∷ xs) bs =
    elim (x == 10) as (λ t. cond t (rest_in [] (xs ++ bs)) (rest_in (line ++ x ∷ []) (xs ++ bs))
    ≡ rest_in (cond t (rest_in [] xs) (rest_in (line ++ x ∷ []) xs)) bs) [
      | true ↦ rest_in-append [] xs bs
      | false ↦ rest_in-append (line ++ x ∷ []) xs bs
    ]

-- a line that its line feed ends
pub frames_in-ended : (line text : List ℕ) → IsOneLine text → frames_in line (with_line_feed text) ≡ frame_of (line ++ text) ∷ []
frames_in-ended line text one = frames_in-text line text (10 ∷ []) one

pub rest_in-ended : (line text : List ℕ) → IsOneLine text → rest_in line (with_line_feed text) ≡ []
rest_in-ended line text one = rest_in-text line text (10 ∷ []) one

pub frames_in-none : (line text : List ℕ) → IsOneLine text → frames_in line text ≡ []
frames_in-none line text one = ap (frames_in line) (sym (append-nil text)) ∙ frames_in-text line text [] one

pub rest_in-none : (line text : List ℕ) → IsOneLine text → rest_in line text ≡ line ++ text
rest_in-none line text one = ap (rest_in line) (sym (append-nil text)) ∙ rest_in-text line text [] one

-- the front of a list tells the front of a longer one
pub take-front : (n : ℕ) (xs ys : List ℕ) → take n (take n xs ++ ys) ≡ take n (xs ++ ys)
take-front zero xs ys = refl
take-front (suc n) [] ys = refl
take-front (suc n) (x ∷ xs) ys = ap (λ r. x ∷ r) (take-front n xs ys)

-- the front of a line tells its frame
fits-take : (line : List ℕ) → nat_le (length (take LINE_ROOM line)) LONGEST_LINE ≡ nat_le (length line) LONGEST_LINE
fits-take line = rw length-take (elim (cases_Bool (nat_le (length line) LONGEST_LINE)) [
  | inl fits ↦ rw fits (le-leb _ _ (omega (arith, leb-true _ _ fits)))
  | inr over ↦ rw over (lt-leb _ _ (omega (arith, leb-false _ _ over)))
])

pub frame_of-take : (line : List ℕ) → frame_of (take LINE_ROOM line) ≡ frame_of line
frame_of-take line = elim (cases_Bool (nat_le (length line) LONGEST_LINE)) [
  | inl fits ↦ let same : take LINE_ROOM line ≡ line = take_all LINE_ROOM line (omega (arith, leb-true _ _ fits)) in ap frame_of same
  | inr over ↦ rw (fits-take line, over) refl
]

pub frames_of_rest-take : (line : List ℕ) → frames_of_rest (take LINE_ROOM line) ≡ frames_of_rest line
frames_of_rest-take [] = refl
frames_of_rest-take (b ∷ bs) = ap (λ t. cond t (Err BadLine) (Err TooLong) ∷ []) (fits-take (b ∷ bs))

pub frames_in-take : (line bs : List ℕ) → frames_in (take LINE_ROOM line) bs ≡ frames_in line bs
frames_in-take line [] = refl
frames_in-take line (b ∷ bs) =
    let same : frames_in (take LINE_ROOM line ++ b ∷ []) bs ≡ frames_in (line ++ b ∷ []) bs =
    sym (frames_in-take (take LINE_ROOM line ++ b ∷ []) bs) ∙ ap (λ l. frames_in l bs) (take-front LINE_ROOM line (b ∷ []))
    ∙ frames_in-take (line ++ b ∷ []) bs in
    rw (frame_of-take line, same) refl

pub rest_in-take : (line bs : List ℕ) → take LINE_ROOM (rest_in (take LINE_ROOM line) bs) ≡ take LINE_ROOM (rest_in line bs)
rest_in-take line [] = take-take LINE_ROOM LINE_ROOM line (omega arith)
rest_in-take line (b ∷ bs) =
    let same : take LINE_ROOM (rest_in (take LINE_ROOM line ++ b ∷ []) bs) ≡ take LINE_ROOM (rest_in (line ++ b ∷ []) bs) =
    sym (rest_in-take (take LINE_ROOM line ++ b ∷ []) bs) ∙ ap (λ l. take LINE_ROOM (rest_in l bs)) (take-front LINE_ROOM line (b ∷ []))
    ∙ rest_in-take (line ++ b ∷ []) bs in
    elim (b == 10) as (λ t. take LINE_ROOM (cond t (rest_in [] bs) (rest_in (take LINE_ROOM line ++ b ∷ []) bs))
    ≡ take LINE_ROOM (cond t (rest_in [] bs) (rest_in (line ++ b ∷ []) bs))) [ true ↦ refl | false ↦ same ]

-- what follows one line that is ended
one_more : (text bs : List ℕ) → IsOneLine text → (frames_in [] (with_line_feed text ++ bs) ≡ frame_of text ∷ frames_in [] bs) × (rest_in [] (with_line_feed text ++ bs) ≡ rest_in [] bs)
one_more text bs one = (
  frames_in-append [] (with_line_feed text) bs ∙ rw (frames_in-ended [] text one, rest_in-ended [] text one) refl,
  rest_in-append [] (with_line_feed text) bs ∙ rw (rest_in-ended [] text one) refl,
)

pub framed : FramesAreLines
framed [] rest none one = rw (frames_in-none [] rest one, rest_in-none [] rest one) refl
framed (line ∷ lines) rest each one =
    let step = one_more line (flat_map with_line_feed lines ++ rest) each.0 in
    rw (append_assoc (with_line_feed line) (flat_map with_line_feed lines) rest, step.0, step.1)
    (ap (λ r. frame_of line ∷ r) (framed lines rest each.1 one))

-- an input that is made of lines and a rest
abbrev InputIs : List ℕ → Type 0
InputIs input = (lines : List (List ℕ)) × (rest : List ℕ) × AllByRecursion IsOneLine lines × IsOneLine rest
    × (input ≡ flat_map with_line_feed lines ++ rest)

-- a byte that is no line feed, in front of one
onto : (b : ℕ) (bs : List ℕ) → b ≢ 10 → (lines : List (List ℕ)) (rest : List ℕ) → AllByRecursion IsOneLine lines → IsOneLine rest
    → bs ≡ flat_map with_line_feed lines ++ rest → InputIs (b ∷ bs)
onto b bs other [] rest each one is = ([], b ∷ rest, tt, (other, one), ap (λ r. b ∷ r) is)
onto b bs other (line ∷ lines) rest each one is = ((b ∷ line) ∷ lines, rest, ((other, each.0), each.1), one, ap (λ r. b ∷ r) is)

pub made_of_lines : InputIsLines
made_of_lines [] = ([], [], tt, tt, refl)
made_of_lines (b ∷ bs) =
    let made : InputIs bs = made_of_lines bs in
    elim (cases_eq b 10) [
      | inl is ↦ ([] ∷ made.0, made.1, (tt, made.2), made.3, rw is (ap (λ r. 10 ∷ r) made.4))
      | inr other ↦ onto b bs other made.0 made.1 made.2 made.3 made.4
    ]

-- what goes onto a front within n bytes
pub take_room : (n : ℕ) (front text : List ℕ) → length front ≤ n → take n (front ++ text) ≡ front ++ take (n - length front) text
take_room n front text fits =
    let whole : n ≡ length front + (n - length front) = omega arith in
    ap (λ k. take k (front ++ text)) whole ∙ take-append-add front text (n - length front)

-- a list of which no place is a line feed
pub one_line : (xs : List ℕ) → ((k : ℕ) → k < length xs → get_or xs k 0 ≢ 10) → IsOneLine xs
one_line [] none = tt
one_line (x ∷ xs) none = (none 0 (omega arith), one_line xs (λ k below. none (suc k) (omega arith)))

-- the bytes up to a line feed
pub up_to : (piece : List ℕ) (i : ℕ) → i < length piece → get_or piece i 0 ≡ 10 → take (i + 1) piece ≡ with_line_feed (take i piece)
up_to piece i below is = take_more piece i 0 below ∙ ap (λ b. take i piece ++ b ∷ []) is

pub one_line_before : (piece : List ℕ) (i : ℕ) → i < length piece → ((k : ℕ) → k < i → get_or piece k 0 ≢ 10) → IsOneLine (take i piece)
one_line_before piece i below none =
    one_line (take i piece) (λ k lt. let lower : k < i = omega (arith, length-take i piece) in
    let same : get_or (take i piece) k 0 ≡ get_or piece k 0 = get_or-take i piece k 0 lower in rw same (none k lower))

-- a reader that takes a piece up to its first line feed
pub ends_line : (line front piece : List ℕ) (i : ℕ) → i < length piece → get_or piece i 0 ≡ 10
    → ((k : ℕ) → k < i → get_or piece k 0 ≢ 10) → front ≡ take LINE_ROOM (line ++ take i piece)
    → (frames_in line (take (i + 1) piece) ≡ frame_of front ∷ []) × (rest_in line (take (i + 1) piece) ≡ [])
ends_line line front piece i below is none held =
    let one = one_line_before piece i below none in
    let frame : frame_of front ≡ frame_of (line ++ take i piece) = ap frame_of held ∙ frame_of-take _ in (
      ap (frames_in line) (up_to piece i below is) ∙ frames_in-ended line (take i piece) one ∙ ap (λ f. f ∷ []) (sym frame),
      ap (rest_in line) (up_to piece i below is) ∙ rest_in-ended line (take i piece) one,
    )

-- a reader that takes all of a piece
pub goes_on : (line front piece : List ℕ) → ((k : ℕ) → k < length piece → get_or piece k 0 ≢ 10) → front ≡ take LINE_ROOM (line ++ piece)
    → (frames_in line piece ≡ []) × (front ≡ take LINE_ROOM (rest_in line piece))
goes_on line front piece none held =
    let one = one_line piece none in
    (frames_in-none line piece one, held ∙ ap (take LINE_ROOM) (sym (rest_in-none line piece one)))
