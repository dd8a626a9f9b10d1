-- Lemmas on what is at hand of a stream.
use Rattle.std.proofs.Common.{◌≡◌, ◌≢◌, ◌==◌, ◌⊎◌, ℕ, ◌≤◌, ◌<◌, ◌+◌, ◌-◌, min, zero, suc, true, false, List, [], ◌∷◌, ◌++◌, length, take, drop, get_or, refl, sym, ◌∙◌, ap, append_assoc, arith, inl, inr, if◌then◌else◌}
use Rattle.std.proofs.lemmas.List.{append-nil, take-take, take_all, take_min, take-append-drop, drop-take, length-take}
use Rattle.std.proofs.Math.Seq.{drop-nil, drop-length}
use Rattle.std.proofs.lemmas.Bool.{ne_eqb, cases_Bool, cases_eq}
use Rattle.lease_proto.specs.declared.limits.TheConstants.{LINE_ROOM}
use Rattle.lease_proto.specs.Frames.{Frame, LineReaderState, frame_of, frames_in, rest_in, frames_of_rest, with_line_feed, IsOneLine}
use Rattle.lease_proto.proofs.LawProofs.{frame_of-take, frames_in-append, rest_in-append, one_line, one_line_before, up_to}
use Rattle.lease_server.specs.Serving.{SameFront}
use Rattle.lease_server.specs.Intakes.{AtHand, hand_in, frames_at, begun_at, frames_on, frames_to_end, hand_of, HandTells, HandIsWhole, HandIsBegun, HandGoesOn}
use Rattle.lease_server.proofs.ServingLemmas.{frames_in-same, rest_in-same, frames_of_rest-same}

-- text with no line feed goes onto the line begun
pub hand_in-text : (line text bytes : List ℕ) → IsOneLine text → hand_in line (text ++ bytes) ≡ hand_in (line ++ text) bytes
hand_in-text line [] bytes one = ap (λ l. hand_in l bytes) (sym (append-nil line))
hand_in-text line (b ∷ text) bytes one =
    rw (ne_eqb b 10 one.0) (hand_in-text (line ++ b ∷ []) text bytes one.1 ∙ ap (λ l. hand_in l bytes) (append_assoc line (b ∷ []) text))

-- by itself it ends no line
pub hand_in-none : (line text : List ℕ) → IsOneLine text → hand_in line text ≡ record { line = take LINE_ROOM (line ++ text); whole = false; rest = [] }
hand_in-none line text one = ap (hand_in line) (sym (append-nil text)) ∙ hand_in-text line text [] one

-- its line feed ends the line
pub hand_in-ended : (line text more : List ℕ) → IsOneLine text
    → hand_in line (with_line_feed text ++ more) ≡ record { line = take LINE_ROOM (line ++ text); whole = true; rest = more }
hand_in-ended line text more one = ap (hand_in line) (append_assoc text (10 ∷ []) more) ∙ hand_in-text line text (10 ∷ more) one

-- the whole lines are those that end in the bytes
pub hand_in-frames : (line bytes : List ℕ) → frames_at (hand_in line bytes) ≡ frames_in line bytes
hand_in-frames line [] = refl
hand_in-frames line (b ∷ bs) = elim (cases_Bool (b == 10)) [
  | inl is ↦ rw is (ap (λ f. f ∷ frames_in [] bs) (frame_of-take line))
  | inr other ↦ rw other (hand_in-frames (line ++ b ∷ []) bs)
]

-- and the line begun behind them is the rest
pub hand_in-begun : (line bytes : List ℕ) → SameFront (begun_at (hand_in line bytes)) (rest_in line bytes)
hand_in-begun line [] = take-take LINE_ROOM LINE_ROOM line (omega arith)
hand_in-begun line (b ∷ bs) = elim (cases_Bool (b == 10)) [
  | inl is ↦ rw is refl
  | inr other ↦ rw other (hand_in-begun (line ++ b ∷ []) bs)
]

-- how much is at hand, for measures
abbrev pub size_at : AtHand → ℕ
size_at h = if h.whole then length h.rest + 1 else 0

pub hand_in-size : (line bytes : List ℕ) → size_at (hand_in line bytes) ≤ length bytes
hand_in-size line [] = omega arith
hand_in-size line (b ∷ bs) = elim (cases_Bool (b == 10)) [
  | inl is ↦ rw is (omega arith)
  | inr other ↦ let smaller = hand_in-size (line ++ b ∷ []) bs in rw other (omega (arith, smaller))
]

-- lines of which the same is known go on in the same way
hand_in-same : (xs ys bs : List ℕ) → SameFront xs ys → hand_in xs bs ≡ hand_in ys bs
hand_in-same xs ys [] same = ap (λ l. record { line = l; whole = false; rest = [] }) same
hand_in-same xs ys (b ∷ bs) same = elim (cases_Bool (b == 10)) [
  | inl is ↦ rw is (ap (λ l. record { line = l; whole = true; rest = bs }) same)
  | inr other ↦
      let x : rest_in xs (b ∷ []) ≡ xs ++ b ∷ [] = rw other refl in
      let y : rest_in ys (b ∷ []) ≡ ys ++ b ∷ [] = rw other refl in
      let on : SameFront (xs ++ b ∷ []) (ys ++ b ∷ []) =
      ap (take LINE_ROOM) (sym x) ∙ rest_in-same xs ys (b ∷ []) same ∙ ap (take LINE_ROOM) y in
      rw other (hand_in-same (xs ++ b ∷ []) (ys ++ b ∷ []) bs on)
]

pub line_goes_on : HandGoesOn
line_goes_on bytes more one =
    hand_in-same (take LINE_ROOM bytes) bytes more (take-take LINE_ROOM LINE_ROOM bytes (omega arith)) ∙ sym (hand_in-text [] bytes more one)

pub line_is_whole : HandIsWhole
line_is_whole line [] whole = absurd (cc)
line_is_whole line (b ∷ bs) whole = elim (cases_eq b 10) [
  | inl is ↦
      let here : hand_in line (b ∷ bs) ≡ record { line = take LINE_ROOM line; whole = true; rest = bs } = rw is refl in (
        [],
        bs,
        tt,
        ap (λ x. x ∷ bs) is,
        here ∙ ap (λ l. record { line = take LINE_ROOM l; whole = true; rest = bs }) (sym (append-nil line)),
      )
  | inr other ↦
      let on : hand_in line (b ∷ bs) ≡ hand_in (line ++ b ∷ []) bs = rw (ne_eqb b 10 other) refl in
      let (text, rest, one, parts, is) = line_is_whole (line ++ b ∷ []) bs (ap (λ h. h.whole) (sym on) ∙ whole) in (
        b ∷ text,
        rest,
        (other, one),
        ap (λ l. b ∷ l) parts,
        on ∙ is ∙ ap (λ l. record { line = take LINE_ROOM l; whole = true; rest = rest }) (append_assoc line (b ∷ []) text),
      )
]

pub hand_tells : HandTells
hand_tells bytes more =
    let on : frames_on (hand_in [] bytes) more ≡ frames_in [] (bytes ++ more) =
    ap (λ f. f ++ frames_in (begun_at (hand_in [] bytes)) more) (hand_in-frames [] bytes)
    ∙ ap (λ f. frames_in [] bytes ++ f) (frames_in-same (begun_at (hand_in [] bytes)) (rest_in [] bytes) more (hand_in-begun [] bytes))
    ∙ sym (frames_in-append [] bytes more) in
    let last : frames_of_rest (rest_in (begun_at (hand_in [] bytes)) more) ≡ frames_of_rest (rest_in [] (bytes ++ more)) =
    frames_of_rest-same (rest_in (begun_at (hand_in [] bytes)) more) (rest_in (rest_in [] bytes) more)
    (rest_in-same (begun_at (hand_in [] bytes)) (rest_in [] bytes) more (hand_in-begun [] bytes))
    ∙ ap frames_of_rest (sym (rest_in-append [] bytes more)) in
    (on, ap (λ f. f ++ frames_of_rest (rest_in (begun_at (hand_in [] bytes)) more)) on ∙ ap (λ l. frames_in [] (bytes ++ more) ++ l) last)

-- the first LINE_ROOM bytes before an index
pub kept : (k end : ℕ) (piece : List ℕ) → k ≡ min end LINE_ROOM → end ≤ length piece → take k piece ≡ take LINE_ROOM (take end piece)
kept k end piece is fits =
    let same : k ≡ min LINE_ROOM (length (take end piece)) = omega (arith, is, length-take end piece, fits) in
    sym (take-take k end piece (omega (arith, is))) ∙ ap (λ n. take n (take end piece)) same ∙ take_min LINE_ROOM (take end piece)

drop-drop : (a c : ℕ) (xs : List ℕ) → drop c (drop a xs) ≡ drop (a + c) xs
drop-drop zero c xs = let same : c ≡ 0 + c = omega arith in ap (λ k. drop k xs) same
drop-drop (suc a) c [] = drop-nil c ∙ sym (drop-nil (suc a + c))
drop-drop (suc a) c (x ∷ xs) =
    let same : suc (a + c) ≡ suc a + c = omega arith in drop-drop a c xs ∙ ap (λ k. drop k (x ∷ xs)) same

-- what is left of a part of a buffer
pub behind : (buffer : List ℕ) (r n : ℕ) → r ≤ n → take (n - r) (drop r buffer) ≡ drop r (take n buffer)
behind buffer r n within =
    let whole : r + (n - r) ≡ n = omega (arith, within) in
    sym (drop-take r (n - r) buffer) ∙ ap (λ k. drop r (take k buffer)) whole

pub passed : (buffer : List ℕ) (s e i : ℕ) → i < e - s
    → take (e - (s + (i + 1))) (drop (s + (i + 1)) buffer) ≡ drop (i + 1) (take (e - s) (drop s buffer))
passed buffer s e i below =
    let less : e - (s + (i + 1)) ≡ (e - s) - (i + 1) = omega arith in
    ap (λ k. take k (drop (s + (i + 1)) buffer)) less
    ∙ ap (take ((e - s) - (i + 1))) (sym (drop-drop s (i + 1) buffer))
    ∙ behind (drop s buffer) (i + 1) (e - s) (omega (arith, below))

-- what is at hand where a line reader's line isn't whole
pub hand_is_in : (held : LineReaderState) (piece : List ℕ) (hand : AtHand) → hand_of held piece ≡ hand → held.whole ≡ false → hand ≡ hand_in held.line piece
hand_is_in held piece hand is unended =
    let same : hand_of held piece ≡ hand_in held.line piece = rw unended refl in sym is ∙ same

pub reader_open : (held : LineReaderState) (piece : List ℕ) → (hand_of held piece).whole ≡ false → held.whole ≡ false
reader_open held piece unended = elim (cases_Bool held.whole) [
  | inl is ↦ let whole : (hand_of held piece).whole ≡ true = rw is refl in let bad : true ≡ false = sym whole ∙ unended in absurd (cc)
  | inr other ↦ other
]

-- by the first line feed of a piece
pub hand_found : (held : LineReaderState) (piece : List ℕ) (hand : AtHand) (i : ℕ) → hand_of held piece ≡ hand → held.whole ≡ false → held.line ≡ []
    → i < length piece → get_or piece i 0 ≡ 10 → ((k : ℕ) → k < i → get_or piece k 0 ≢ 10)
    → hand ≡ record { line = take LINE_ROOM (take i piece); whole = true; rest = drop (i + 1) piece }
hand_found held piece hand i is unended empty below there none =
    let parts : piece ≡ with_line_feed (take i piece) ++ drop (i + 1) piece =
    sym (take-append-drop (i + 1) piece) ∙ ap (λ l. l ++ drop (i + 1) piece) (up_to piece i below there) in
    hand_is_in held piece hand is unended ∙ ap (λ l. hand_in l piece) empty ∙ ap (hand_in []) parts
    ∙ hand_in-ended [] (take i piece) (drop (i + 1) piece) (one_line_before piece i below none)

-- and where it has none
pub hand_unfound : (held : LineReaderState) (piece : List ℕ) (hand : AtHand) → hand_of held piece ≡ hand → held.whole ≡ false
    → ((k : ℕ) → k < length piece → get_or piece k 0 ≢ 10) → hand ≡ record { line = take LINE_ROOM (held.line ++ piece); whole = false; rest = [] }
hand_unfound held piece hand is unended none =
    hand_is_in held piece hand is unended ∙ hand_in-none held.line piece (one_line piece none)

-- where no line is whole, the line begun is all
pub line_is_begun : HandIsBegun
line_is_begun line [] unended = (ap (λ l. record { line = take LINE_ROOM l; whole = false; rest = [] }) (sym (append-nil line)), tt)
line_is_begun line (b ∷ bs) unended = elim (cases_eq b 10) [
  | inl is ↦ let whole : (hand_in line (b ∷ bs)).whole ≡ true = rw is refl in let bad : true ≡ false = sym whole ∙ unended in absurd (cc)
  | inr other ↦
      let on : hand_in line (b ∷ bs) ≡ hand_in (line ++ b ∷ []) bs = rw (ne_eqb b 10 other) refl in
      let more = line_is_begun (line ++ b ∷ []) bs (ap (λ h. h.whole) (sym on) ∙ unended) in
      (on ∙ more.0 ∙ ap (λ l. record { line = take LINE_ROOM l; whole = false; rest = [] }) (append_assoc line (b ∷ []) bs), (other, more.1))
]

pub hand_open : (held : LineReaderState) (piece : List ℕ) (hand : AtHand) → hand_of held piece ≡ hand → hand.whole ≡ false
    → (held.whole ≡ false) × (hand ≡ record { line = take LINE_ROOM (held.line ++ piece); whole = false; rest = [] }) × IsOneLine piece
hand_open held piece hand is unended =
    let closed = reader_open held piece (ap (λ h. h.whole) is ∙ unended) in
    let same = hand_is_in held piece hand is closed in
    let all = line_is_begun held.line piece (ap (λ h. h.whole) (sym same) ∙ unended) in
    (closed, same ∙ all.0, all.1)

-- where nothing more came, it stays
pub stays : (held : LineReaderState) (piece : List ℕ) (hand : AtHand) → hand_of held piece ≡ hand → hand.whole ≡ false → hand ≡ hand_in hand.line []
stays held piece hand is unended =
    let (closed, same, one) = hand_open held piece hand is unended in
    let line : hand.line ≡ take LINE_ROOM (held.line ++ piece) = ap (λ h. h.line) same in
    same ∙ ap (λ l. record { line = l; whole = false; rest = [] })
    (sym (take-take LINE_ROOM LINE_ROOM (held.line ++ piece) (omega arith)) ∙ ap (take LINE_ROOM) (sym line))

-- a piece lies behind a line reader that isn't whole only where no line has begun
pub not_begun : (held : LineReaderState) (s e : ℕ) → (held.line ≡ []) ⊎ (held.whole ≡ true) ⊎ (s ≡ e) → held.whole ≡ false → 0 < e - s → held.line ≡ []
not_begun held s e (inl empty) unended some = empty
not_begun held s e (inr (inl whole)) unended some = let bad : true ≡ false = sym whole ∙ unended in absurd (cc)
not_begun held s e (inr (inr same)) unended some = absurd (omega (arith, same, some))

-- what a line reader that was fed has at hand
pub fed : (old new : LineReaderState) (piece : List ℕ) (n : ℕ) → old.whole ≡ false
    → (new.whole ≡ false → n ≡ length piece)
    → (text : List ℕ) × IsOneLine text × (take n piece ≡ (if new.whole then with_line_feed text else text)) × (new.line ≡ take LINE_ROOM (old.line ++ text))
    → hand_of new (drop n piece) ≡ hand_in old.line piece
fed old new piece n unended all (text, one, parts, line) = elim (cases_Bool new.whole) [
  | inl is ↦
      let here : take n piece ≡ with_line_feed text = parts ∙ rw is refl in
      let whole : hand_of new (drop n piece) ≡ record { line = new.line; whole = true; rest = drop n piece } = rw is refl in
      whole ∙ ap (λ l. record { line = l; whole = true; rest = drop n piece }) line
      ∙ sym (ap (hand_in old.line) (sym (take-append-drop n piece) ∙ ap (λ l. l ++ drop n piece) here) ∙ hand_in-ended old.line text (drop n piece) one)
  | inr other ↦
      let here : take n piece ≡ text = parts ∙ rw other refl in
      let some : n ≡ length piece = all other in
      let same : piece ≡ text = sym (take_all n piece (omega (arith, some))) ∙ here in
      let none : drop n piece ≡ [] = ap (λ k. drop k piece) some ∙ drop-length piece in
      let short : hand_of new (drop n piece) ≡ hand_in new.line [] = rw (other, none) refl in
      short ∙ ap (λ l. record { line = take LINE_ROOM l; whole = false; rest = [] }) line
      ∙ ap (λ l. record { line = l; whole = false; rest = [] }) (take-take LINE_ROOM LINE_ROOM (old.line ++ text) (omega arith))
      ∙ sym (ap (hand_in old.line) same ∙ hand_in-none old.line text one)
]

-- a line reader that was fed what it had behind it, where no line ends there
pub held_all : (old new : LineReaderState) (piece : List ℕ) (n : ℕ) → (hand_of old piece).whole ≡ false
    → (new.whole ≡ false → n ≡ length piece)
    → (text : List ℕ) × IsOneLine text × (take n piece ≡ (if new.whole then with_line_feed text else text)) × (new.line ≡ take LINE_ROOM (old.line ++ text))
    → new ≡ record { line = (hand_of old piece).line; whole = false }
held_all old new piece n unended all given =
    let (closed, same, one) = hand_open old piece (hand_of old piece) refl unended in
    let hand = fed old new piece n closed all given in
    let none : hand_of new (drop n piece) ≡ hand_of old piece = hand ∙ hand_in-none old.line piece one ∙ sym same in
    let shut = reader_open new (drop n piece) (ap (λ h. h.whole) none ∙ unended) in
    let some : n ≡ length piece = all shut in
    let text : given.0 ≡ piece = sym (given.2 ∙ rw shut refl) ∙ take_all n piece (omega (arith, some)) in
    let line : new.line ≡ (hand_of old piece).line =
    given.3 ∙ ap (λ t. take LINE_ROOM (old.line ++ t)) text ∙ ap (λ h. h.line) (sym same) in
    ap (λ w. record { line = new.line; whole = w }) shut ∙ ap (λ l. record { line = l; whole = false }) line

-- with nothing behind it
pub held_none : (held : LineReaderState) (piece : List ℕ) → piece ≡ [] → (hand_of held piece).whole ≡ false → length held.line ≤ LINE_ROOM
    → held ≡ record { line = (hand_of held piece).line; whole = false }
held_none held piece none unended short =
    let (closed, same, one) = hand_open held piece (hand_of held piece) refl unended in
    let line : held.line ≡ (hand_of held piece).line =
    sym (take_all LINE_ROOM held.line short) ∙ ap (take LINE_ROOM) (sym (ap (λ l. held.line ++ l) none ∙ append-nil held.line)) ∙ ap (λ h. h.line) (sym same) in
    ap (λ w. record { line = held.line; whole = w }) closed ∙ ap (λ l. record { line = l; whole = false }) line

pub short_front : (line front : List ℕ) → line ≡ take LINE_ROOM front → length line ≤ LINE_ROOM
short_front line front is = let n : length line ≡ length (take LINE_ROOM front) = ap length is in omega (arith, n, length-take LINE_ROOM front)

-- the first whole line at hand, and what is at hand once it is passed
pub hand_whole : (h : AtHand) → h.whole ≡ true
    → (frames_at h ≡ frame_of h.line ∷ frames_at (hand_in [] h.rest)) × SameFront (begun_at (hand_in [] h.rest)) (begun_at h)
hand_whole h whole =
    let frames : frames_at h ≡ frame_of h.line ∷ frames_in [] h.rest = rw whole refl in
    let begun : begun_at h ≡ rest_in [] h.rest = rw whole refl in
    (frames ∙ ap (λ f. frame_of h.line ∷ f) (sym (hand_in-frames [] h.rest)), hand_in-begun [] h.rest ∙ ap (take LINE_ROOM) (sym begun))

pub passes_less : (h : AtHand) → h.whole ≡ true → size_at (hand_in [] h.rest) < size_at h
passes_less h whole =
    let less = hand_in-size [] h.rest in
    let size : size_at h ≡ length h.rest + 1 = rw whole refl in
    omega (arith, less, size)

-- a piece that was read behind a line begun, of which the first LINE_ROOM bytes are at hand
pub hand_more : (from now : AtHand) (input piece : List ℕ) (done : List Frame) → frames_on from input ≡ done
    → SameFront now.line (rest_in (begun_at from) input)
    → (frames_on from (input ++ piece) ≡ done ++ frames_at (hand_in now.line piece))
    × SameFront (begun_at (hand_in now.line piece)) (rest_in (begun_at from) (input ++ piece))
hand_more from now input piece done is same = (
  ap (λ f. frames_at from ++ f) (frames_in-append (begun_at from) input piece)
      ∙ sym (append_assoc (frames_at from) (frames_in (begun_at from) input) (frames_in (rest_in (begun_at from) input) piece))
      ∙ ap (λ f. f ++ frames_in (rest_in (begun_at from) input) piece) is
      ∙ ap (λ f. done ++ f) (sym (frames_in-same now.line (rest_in (begun_at from) input) piece same) ∙ sym (hand_in-frames now.line piece)),
  hand_in-begun now.line piece ∙ rest_in-same now.line (rest_in (begun_at from) input) piece same
      ∙ ap (take LINE_ROOM) (sym (rest_in-append (begun_at from) input piece)),
)

-- the whole lines come first of all
pub frames_to_end-append : (h : AtHand) (input left : List ℕ)
    → frames_to_end h (input ++ left) ≡ frames_on h input ++ (frames_in (rest_in (begun_at h) input) left ++ frames_of_rest (rest_in (begun_at h) (input ++ left)))
frames_to_end-append h input left =
    ap (λ f. (frames_at h ++ f) ++ frames_of_rest (rest_in (begun_at h) (input ++ left))) (frames_in-append (begun_at h) input left)
    ∙ ap (λ f. f ++ frames_of_rest (rest_in (begun_at h) (input ++ left))) (sym (append_assoc (frames_at h) (frames_in (begun_at h) input) (frames_in (rest_in (begun_at h) input) left)))
    ∙ append_assoc (frames_on h input) (frames_in (rest_in (begun_at h) input) left) (frames_of_rest (rest_in (begun_at h) (input ++ left)))
