-- Lemmas on setup lines, taken one after another.
use Rattle.std.proofs.Common.{◌≡◌, ◌==◌, ℕ, ◌≤◌, ◌<◌, ◌+◌, nat_le, Bool, true, false, if◌then◌else◌, Option, Some, None, Err, List, [], ◌∷◌, ◌++◌, length, take, refl, sym, ◌∙◌, ap, subst, arith, inl, inr, append_assoc, IfSome}
use Rattle.std.proofs.lemmas.Bool.{cases_Bool, leb-false, lt-leb, lt-ltb}
use Rattle.std.proofs.lemmas.List.{append-nil, length-append, length-take}
use Rattle.std.proofs.lemmas.Grind.{flat_map-append}
use Rattle.std.specs.List.{flat_map}
use Rattle.std.specs.Io.KnownBytes.{Consumes, IsAtEnd}
use Rattle.std.proofs.KnownBytes.{Consumes-kept}
use Rattle.lease_proto.specs.declared.limits.TheConstants.{LONGEST_LINE, LINE_ROOM}
use Rattle.lease_proto.specs.declared.faults.LineFault.{LineFault}
use Rattle.lease_proto.specs.declared.faults.LineFault.TheVariants.{TooLong}
use Rattle.lease_proto.specs.Frames.{Frame, frame_of, frames_of_rest, frames_in, rest_in, frames_of, with_line_feed, IsOneLine}
use Rattle.lease_proto.specs.Values.{◌>>=◌}
use Rattle.lease_proto.proofs.LawProofs.{frame_of-take, frames_of_rest-take, frames_in-append, rest_in-append, frames_in-ended, rest_in-ended, frames_in-text, rest_in-text, frames_in-none, rest_in-none}
use Rattle.lease_proto.specs.declared.setup_lines.SetupLine.{SetupLine}
use Rattle.vmemd_setup.specs.declared.faults.ConfigFault.{ConfigFault}
use Rattle.vmemd_setup.specs.declared.faults.ConfigFault.TheVariants as config
use Rattle.lease_proto.specs.SetupLines.{setup_of, begins_setup}
use Rattle.vmemd_setup.specs.Endings.{serving_fault}
use Rattle.vmemd_setup.specs.declared.faults.ScriptFault.{ScriptFault}
use Rattle.vmemd_setup.specs.declared.faults.ScriptFault.TheVariants.{Setup, Read, Write, Memory}
use Rattle.vmemd_setup.specs.Setups.{Makes, SetsUp, RefusesRead, RefusesFirst, SetupRefused, CanTakeRead, CanTakeFirst, CanGoOn, TakesLine, LineFails, SetupFails}
use Rattle.lease_server.specs.Intakes.{AtHand, IntakeState, hand_in, StopsReading}
use Rattle.lease_server.specs.declared.faults.ServeFault.{ServeFault}
use Rattle.lease_server.specs.declared.faults.ServeFault.TheVariants as serving
use Rattle.lease_server.proofs.LawProofs.{line_is_whole, line_is_begun, line_goes_on}
use Rattle.vmemd_setup.proofs.OpeningLemmas.{begins_line, begins_long, begins_setup-take}

-- whatever follows these bytes, they begin with a setup line
abbrev IsSetup : List ℕ → Type 0
IsSetup bytes = (more : List ℕ) → begins_setup (bytes ++ more) ≡ true

-- a whole line at hand, and the bytes that it comes from
pub line_at : (hand : AtHand) (bytes : List ℕ) → hand ≡ hand_in [] bytes → hand.whole ≡ true
    → (text : List ℕ) × (rest : List ℕ) × IsOneLine text × (bytes ≡ with_line_feed text ++ rest) × (hand.line ≡ take LINE_ROOM text) × (hand.rest ≡ rest)
line_at hand bytes is whole =
    let (text, rest, one, parts, e) = line_is_whole [] bytes (ap (λ h. h.whole) (sym is) ∙ whole) in
    (text, rest, one, parts, ap (λ h. h.line) (is ∙ e), ap (λ h. h.rest) (is ∙ e))

-- a line begun
pub begun_at : (hand : AtHand) (bytes : List ℕ) → hand ≡ hand_in [] bytes → hand.whole ≡ false → IsOneLine bytes × (hand.line ≡ take LINE_ROOM bytes)
begun_at hand bytes is unended =
    let (e, one) = line_is_begun [] bytes (ap (λ h. h.whole) (sym is) ∙ unended) in (one, ap (λ h. h.line) (is ∙ e))

-- what was read behind a line begun
pub read_behind : (old new : AtHand) (bytes piece : List ℕ) → IsOneLine bytes → old.line ≡ take LINE_ROOM bytes → new ≡ hand_in old.line piece
    → new ≡ hand_in [] (bytes ++ piece)
read_behind old new bytes piece one first is = is ∙ ap (λ l. hand_in l piece) first ∙ line_goes_on bytes piece one

-- and where nothing was
pub read_none : (old new : AtHand) (bytes piece : List ℕ) → IsOneLine bytes → old.line ≡ take LINE_ROOM bytes → new ≡ hand_in old.line piece → piece ≡ []
    → new ≡ hand_in [] bytes
read_none old new bytes piece one first is none =
    read_behind old new bytes piece one first is ∙ ap (λ l. hand_in [] (bytes ++ l)) none ∙ ap (hand_in []) (append-nil bytes)

-- whether a setup line begins, by a whole line
pub begins_by_line : (bytes text rest more : List ℕ) → bytes ≡ with_line_feed text ++ rest → begins_setup (bytes ++ more) ≡ begins_setup (take LINE_ROOM text)
begins_by_line bytes text rest more parts =
    ap (λ l. begins_setup (l ++ more)) parts ∙ ap begins_setup (append_assoc (with_line_feed text) rest more) ∙ begins_line text (rest ++ more)

-- how much is at hand, for measures
abbrev pub size_at : AtHand → ℕ
size_at h = if h.whole then length h.rest + 1 else 0

pub size-hand_in : (line bytes : List ℕ) → size_at (hand_in line bytes) ≤ length bytes
size-hand_in line [] = omega arith
size-hand_in line (b ∷ bs) = elim (cases_Bool (b == 10)) [
  | inl is ↦ rw is (omega arith)
  | inr other ↦ let smaller = size-hand_in (line ++ b ∷ []) bs in rw other (omega (arith, smaller))
]

pub size-passed : (h : AtHand) → h.whole ≡ true → size_at (hand_in [] h.rest) < size_at h
size-passed h whole =
    let less = size-hand_in [] h.rest in
    let size : size_at h ≡ length h.rest + 1 = rw whole refl in
    omega (arith, less, size)

-- a line that is too long is refused by the grammar too
pub frame_setup : (line : List ℕ) → (frame_of line >>= setup_of) ≡ setup_of line
unfolding setup_of
frame_setup line = elim (cases_Bool (nat_le (length line) LONGEST_LINE)) [
  | inl fits ↦ rw fits refl
  | inr over ↦ rw (over, lt-ltb LONGEST_LINE (length line) (leb-false _ _ over)) refl
]

-- so the first LINE_ROOM bytes of a line tell what it is
pub setup_of-take : (line : List ℕ) → setup_of (take LINE_ROOM line) ≡ setup_of line
setup_of-take line = sym (frame_setup (take LINE_ROOM line)) ∙ ap (λ f. f >>= setup_of) (frame_of-take line) ∙ frame_setup line

module _ {S : Type 0} (takes : S → SetupLine → S → Type 0) where
  -- one more line
  pub Makes-one : (first mid last : S) (lines : List (List ℕ)) (line : List ℕ) → Makes takes first lines mid → TakesLine takes mid line last
      → Makes takes first (lines ++ line ∷ []) last
  Makes-one first mid last [] line same taken =
      subst (λ s. Makes takes s (line ∷ []) last) same (taken.0, last, taken.1, taken.2, refl)
  Makes-one first mid last (l ∷ lines) line made taken =
      (made.0, made.1, made.2, made.3, Makes-one made.1 mid last lines line made.4 taken)

  -- the lines of a setup, before any is taken
  pub none_taken : (first : S) → (setup : SetsUp takes first [] [] first) × (1 ≡ length setup.lines + 1)
  none_taken first = (record { lines = []; makes = refl; split = refl }, refl)

  pub one_taken : (first mid last : S) (input front line rest : List ℕ) (setup : SetsUp takes first input front mid) → TakesLine takes mid (take LINE_ROOM line) last
      → front ≡ with_line_feed line ++ rest → (more : SetsUp takes first input rest last) × (length more.lines ≡ length setup.lines + 1)
  one_taken first mid last input front line rest setup taken e = (
    record {
      lines = setup.lines ++ line ∷ [];
      makes = Makes-one first mid last setup.lines line setup.makes (taken.0, sym (setup_of-take line) ∙ taken.1, taken.2);
      split = setup.split ∙ ap (λ l. flat_map with_line_feed setup.lines ++ l) e ∙ sym (append_assoc (flat_map with_line_feed setup.lines) (with_line_feed line) rest)
          ∙ ap (λ l. l ++ rest) (sym (flat_map-append with_line_feed setup.lines (line ∷ []) ∙ ap (λ l. flat_map with_line_feed setup.lines ++ l) (append-nil (with_line_feed line))));
    },
    length-append setup.lines (line ∷ []),
  )

  -- more of the input is read
  pub more_read : (first made : S) (input front piece : List ℕ) (setup : SetsUp takes first input front made)
      → (more : SetsUp takes first (input ++ piece) (front ++ piece) made) × (length more.lines ≡ length setup.lines)
  more_read first made input front piece setup = (
    record {
      lines = setup.lines;
      makes = setup.makes;
      split = ap (λ l. l ++ piece) setup.split ∙ append_assoc (flat_map with_line_feed setup.lines) front piece;
    },
    refl,
  )

-- a line and what follows it
line_first : (line more : List ℕ) → IsOneLine line → frames_of (with_line_feed line ++ more) ≡ frame_of (take LINE_ROOM line) ∷ frames_of more
line_first line more one =
    let frames : frames_in [] (with_line_feed line ++ more) ≡ frame_of line ∷ frames_in [] more =
    frames_in-append [] (with_line_feed line) more ∙ rw (frames_in-ended [] line one, rest_in-ended [] line one) refl in
    let rest : rest_in [] (with_line_feed line ++ more) ≡ rest_in [] more = rest_in-append [] (with_line_feed line) more ∙ rw (rest_in-ended [] line one) refl in
    let all : frames_of (with_line_feed line ++ more) ≡ frame_of line ∷ frames_of more = rw (frames, rest) refl in
    all ∙ ap (λ f. f ∷ frames_of more) (sym (frame_of-take line))

-- of a front that goes on
first_frames : (front line rest left : List ℕ) → IsOneLine line → front ≡ with_line_feed line ++ rest
    → frames_of (front ++ left) ≡ frame_of (take LINE_ROOM line) ∷ frames_of (rest ++ left)
first_frames front line rest left one e =
    ap (λ l. frames_of (l ++ left)) e ∙ ap frames_of (append_assoc (with_line_feed line) rest left) ∙ line_first line (rest ++ left) one

-- a line that is too long already stays so
long_goes_on : (line left : List ℕ) → LONGEST_LINE < length line → (frames : List Frame) × (frames_in line left ++ frames_of_rest (rest_in line left) ≡ Err TooLong ∷ frames)
long_goes_on [] [] long = absurd (omega arith)
long_goes_on (b ∷ bs) [] long = ([], rw (lt-leb (length (b ∷ bs)) LONGEST_LINE long) refl)
long_goes_on line (b ∷ bs) long =
    let frame : frame_of line ≡ Err TooLong = rw (lt-leb (length line) LONGEST_LINE long) refl in
    let longer : LONGEST_LINE < length (line ++ b ∷ []) = subst (λ n. LONGEST_LINE < n) (sym (length-append line (b ∷ []))) (omega arith) in
    let on = long_goes_on (line ++ b ∷ []) bs longer in
    elim (cases_Bool (b == 10)) [
      | inl is ↦ (frames_in [] bs ++ frames_of_rest (rest_in [] bs), rw (is, frame) refl)
      | inr other ↦ (on.0, rw other on.1)
    ]

pub long_first : (front left : List ℕ) → LONGEST_LINE < length front → IsOneLine front → (frames : List Frame) × (frames_of (front ++ left) ≡ Err TooLong ∷ frames)
long_first front left long one =
    let on = long_goes_on front left long in
    (on.0, rw (frames_in-text [] front left one, rest_in-text [] front left one) on.1)

-- a rest that the input ends
pub rest_first : (rest : List ℕ) (why : LineFault) → IsOneLine rest → frames_of_rest (take LINE_ROOM rest) ≡ Err why ∷ [] → frames_of rest ≡ Err why ∷ []
rest_first rest why one last = rw (frames_in-none [] rest one, rest_in-none [] rest one) (sym (frames_of_rest-take rest) ∙ last)

module _ {S : Type 0} (takes : S → SetupLine → S → Type 0) (refuses : S → SetupLine → ConfigFault → Type 0) where
  pub refuses_line : (made : S) (front line rest left : List ℕ) (word : ConfigFault) → IsOneLine line → front ≡ with_line_feed line ++ rest
      → RefusesRead refuses made (setup_of (take LINE_ROOM line)) word → RefusesFirst refuses made (front ++ left) word
  refuses_line made front line rest left word one e refused = (
    frame_of (take LINE_ROOM line),
    frames_of (rest ++ left),
    first_frames front line rest left one e,
    subst (λ r. RefusesRead refuses made r word) (sym (frame_setup (take LINE_ROOM line))) refused,
  )

  refuses_long : (made : S) (front left : List ℕ) → LONGEST_LINE < length front → IsOneLine front → RefusesFirst refuses made (front ++ left) (config.Line TooLong)
  refuses_long made front left long one =
      let first = long_first front left long one in
      (Err TooLong, first.0, first.1, refl)

  -- the refusal of a line, however the input goes on
  refused_now : (first made : S) (unread left : Option (List ℕ)) (input front : List ℕ) (setup : SetsUp takes first input front made) (number line : ℕ) (word : ConfigFault)
      → Consumes unread left input → number ≡ length setup.lines + 1 → line ≡ number → IsSetup front
      → ((more : List ℕ) → RefusesFirst refuses made (front ++ more) word) → IfSome unread (λ all. SetupRefused takes refuses first all line word made)
  refused_now first made None left input front setup number line word read counted same begins refused = tt
  refused_now first made (Some xs) None input front setup number line word read counted same begins refused = absurd read
  refused_now first made (Some xs) (Some ys) input front setup number line word read counted same begins refused =
      let more = more_read takes first made input front ys setup in
      subst (λ all. SetupRefused takes refuses first all line word made) (sym read)
      (front ++ ys, more.0, same ∙ counted ∙ ap (λ n. n + 1) (sym more.1), begins ys, refused ys)

  -- the refusal of a line begun that is too long already
  pub refused_long : (first made : S) (unread left : Option (List ℕ)) (input front : List ℕ) (setup : SetsUp takes first input front made) (number : ℕ)
      → Consumes unread left input → number ≡ length setup.lines + 1 → IsOneLine front → LONGEST_LINE < length (take LINE_ROOM front) → begins_setup (take LINE_ROOM front) ≡ true
      → IfSome unread (λ all. SetupRefused takes refuses first all number (config.Line TooLong) made)
  refused_long first made unread left input front setup number read counted one long begins =
      let size = length-take LINE_ROOM front in
      refused_now first made unread left input front setup number number (config.Line TooLong) read counted refl
      (λ more. begins_long front more long ∙ begins)
      (λ more. refuses_long made front more (omega (arith, long, size)) one)

  -- the refusal of a rest that the input ends
  pub refused_rest : (first made : S) (unread left : Option (List ℕ)) (input front : List ℕ) (setup : SetsUp takes first input front made) (number : ℕ) (why : LineFault)
      → Consumes unread left input → IsAtEnd left → number ≡ length setup.lines + 1 → IsOneLine front → frames_of_rest (take LINE_ROOM front) ≡ Err why ∷ []
      → begins_setup (take LINE_ROOM front) ≡ true → IfSome unread (λ all. SetupRefused takes refuses first all number (config.Line why) made)
  refused_rest first made None left input front setup number why read end counted one last begins = tt
  refused_rest first made (Some xs) None input front setup number why read end counted one last begins = absurd read
  refused_rest first made (Some xs) (Some ys) input front setup number why read end counted one last begins =
      subst (λ all. SetupRefused takes refuses first all number (config.Line why) made) (sym (read ∙ ap (λ l. input ++ l) end ∙ append-nil input))
      (front, setup, counted, sym (begins_setup-take front) ∙ begins, (Err why, [], rest_first front why one last, refl))

module _ {S : Type 0} (takes : S → SetupLine → S → Type 0) (can : S → SetupLine → Type 0) where
  pub can_take_line : (made : S) (front line rest left : List ℕ) → IsOneLine line → front ≡ with_line_feed line ++ rest
      → CanTakeRead can made (setup_of (take LINE_ROOM line)) → CanTakeFirst can made (front ++ left)
  can_take_line made front line rest left one e able = (
    frame_of (take LINE_ROOM line),
    frames_of (rest ++ left),
    first_frames front line rest left one e,
    subst (λ r. CanTakeRead can made r) (sym (frame_setup (take LINE_ROOM line))) able,
  )

  -- a line that can be taken, however the input goes on
  pub goes_on : (first made : S) (unread left : Option (List ℕ)) (input front : List ℕ) (setup : SetsUp takes first input front made)
      → Consumes unread left input → ((more : List ℕ) → CanTakeFirst can made (front ++ more))
      → IfSome unread (λ all. CanGoOn takes can first all made)
  goes_on first made None left input front setup read able = tt
  goes_on first made (Some xs) None input front setup read able = absurd read
  goes_on first made (Some xs) (Some ys) input front setup read able =
      subst (λ all. CanGoOn takes can first all made) (sym read)
      (front ++ ys, (more_read takes first made input front ys setup).0, able ys)

module _ {S : Type 0} (takes : S → SetupLine → S → Type 0) (refuses : S → SetupLine → ConfigFault → Type 0) (can : S → SetupLine → Type 0) where
  pub line_fails : (first made last : S) (unread left : Option (List ℕ)) (input front line rest : List ℕ) (setup : SetsUp takes first input front made) (number : ℕ) (fault : ScriptFault)
      → Consumes unread left input → number ≡ length setup.lines + 1 → begins_setup (take LINE_ROOM line) ≡ true → IsOneLine line → front ≡ with_line_feed line ++ rest
      → last ≡ made → LineFails refuses can made number (setup_of (take LINE_ROOM line)) fault → SetupFails takes refuses can first unread left last fault
  line_fails first made last unread left input front line rest setup number (Setup at word) read counted begins one e same fails =
      subst (λ desk. IfSome unread (λ all. SetupRefused takes refuses first all at word desk)) (sym same)
      (refused_now takes refuses first made unread left input front setup number at word read counted fails.0
      (λ more. begins_by_line front line rest more e ∙ begins) (λ more. refuses_line takes refuses made front line rest more word one e fails.1))
  line_fails first made last unread left input front line rest setup number Read read counted begins one e same fails = absurd fails
  line_fails first made last unread left input front line rest setup number Write read counted begins one e same fails = absurd fails
  line_fails first made last unread left input front line rest setup number Memory read counted begins one e same fails =
      subst (λ desk. IfSome unread (λ all. CanGoOn takes can first all desk)) (sym same)
      (goes_on takes can first made unread left input front setup read (λ more. can_take_line takes can made front line rest more one e fails))

  -- a read that failed while a line had begun
  pub reading_fails : (first made : S) (unread mid left : Option (List ℕ)) (input front : List ℕ) (setup : SetsUp takes first input front made) (old : IntakeState) (before after : Bool)
      (fault : ServeFault) → Consumes unread mid input → IsOneLine front → StopsReading old mid left before after fault
      → SetupFails takes refuses can first unread left made (serving_fault fault)
  reading_fails first made unread mid left input front setup old before after serving.Read read one stops =
      (front, (input, Consumes-kept unread mid left input read stops.0, setup), one)
  reading_fails first made unread mid left input front setup old before after serving.Turns read one stops =
      (front, (input, Consumes-kept unread mid left input read stops.0, setup), one)
  reading_fails first made unread mid left input front setup old before after serving.Write read one stops = absurd stops
  reading_fails first made unread mid left input front setup old before after serving.Memory read one stops = absurd stops
