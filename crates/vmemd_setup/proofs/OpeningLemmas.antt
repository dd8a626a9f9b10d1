-- Lemmas on the first word of a setup line.
use Rattle.std.proofs.Common.{◌≡◌, ◌⊎◌, ℕ, ◌<◌, min, nat_le, zero, suc, true, false, List, [], ◌∷◌, ◌++◌, length, take, drop, refl, sym, ◌∙◌, ap, arith, codes, inl, inr}
use Rattle.std.proofs.lemmas.Bool.{cases_Bool, or_cases, leb-true, leb-false}
use Rattle.std.proofs.lemmas.List.{take_all, take-append-drop, take-append-le, length-append, length-take}
use Rattle.std.proofs.lemmas.Slice.Eq.{bytes_eq-Decides}
use Rattle.std.specs.Str.{bytes_eq}
use Rattle.memchr.specs.Find.{Nowhere, Passes, is_byte2}
use Rattle.lease_proto.specs.declared.limits.TheConstants.{LONGEST_LINE, LINE_ROOM}
use Rattle.lease_proto.specs.Frames.{with_line_feed, frames_of_rest}
use Rattle.lease_proto.specs.SetupLines.{opening, is_setup_word, begins_setup}

-- it ends at the first space or line feed
pub opening_ends : (bytes more : List ℕ) (i : ℕ) → i < length bytes → Passes (is_byte2 32 10) bytes i → Nowhere (Passes (is_byte2 32 10) bytes) 0 i
    → opening (bytes ++ more) ≡ take i bytes
opening_ends [] more i below there none = absurd (omega arith)
opening_ends (b ∷ bs) more zero below there none = rw there refl
opening_ends (b ∷ bs) more (suc i) below there none =
    elim (cases_Bool (is_byte2 32 10 b)) [
      | inl is ↦ absurd (none 0 (omega arith) (omega arith) is)
      | inr other ↦ rw other (ap (λ l. b ∷ l) (opening_ends bs more i (omega arith) there (λ k low lt. none (suc k) (omega arith) (omega arith))))
    ]

-- without one it goes on
pub opening_goes_on : (bytes more : List ℕ) → Nowhere (Passes (is_byte2 32 10) bytes) 0 (length bytes) → opening (bytes ++ more) ≡ bytes ++ opening more
opening_goes_on [] more none = refl
opening_goes_on (b ∷ bs) more none =
    elim (cases_Bool (is_byte2 32 10 b)) [
      | inl is ↦ absurd (none 0 (omega arith) (omega arith) is)
      | inr other ↦ rw other (ap (λ l. b ∷ l) (opening_goes_on bs more (λ k low lt. none (suc k) (omega arith) (omega arith))))
    ]

same_length : (word is : List ℕ) → bytes_eq word is ≡ true → length word ≡ length is
same_length word is same = ap length ((bytes_eq-Decides word is).0 same)

-- a longer word is none of them
pub long_word : (word : List ℕ) → 5 < length word → is_setup_word word ≡ false
long_word word long =
    elim (cases_Bool (is_setup_word word)) [
      | inr other ↦ other
      | inl is ↦ elim (or_cases (bytes_eq word (codes "root")) _ is) [
        | inl root ↦ let e : length word ≡ 4 = same_length word (codes "root") root in absurd (omega arith)
        | inr rest ↦ elim (or_cases (bytes_eq word (codes "child")) _ rest) [
          | inl child ↦ let e : length word ≡ 5 = same_length word (codes "child") child in absurd (omega arith)
          | inr span ↦ let e : length word ≡ 4 = same_length word (codes "span") span in absurd (omega arith)
        ]
      ]
    ]

-- of a front: it ends there, or goes on behind it
opening_front : (front more : List ℕ)
    → (opening (front ++ more) ≡ opening front) ⊎ ((opening front ≡ front) × (opening (front ++ more) ≡ front ++ opening more))
opening_front [] more = inr (refl, refl)
opening_front (b ∷ bs) more = elim (cases_Bool (is_byte2 32 10 b)) [
  | inl is ↦ inl (rw is refl)
  | inr other ↦ elim (opening_front bs more) [
    | inl e ↦ inl (rw other (ap (λ l. b ∷ l) e))
    | inr e ↦ inr (rw other (ap (λ l. b ∷ l) e.0), rw other (ap (λ l. b ∷ l) e.1))
  ]
]

-- the first LINE_ROOM bytes tell whether a setup line begins
pub begins_setup-take : (bytes : List ℕ) → begins_setup (take LINE_ROOM bytes) ≡ begins_setup bytes
begins_setup-take bytes = elim (cases_Bool (nat_le (length bytes) LINE_ROOM)) [
  | inl fits ↦ ap begins_setup (take_all LINE_ROOM bytes (leb-true (length bytes) LINE_ROOM fits))
  | inr over ↦
      let more : LINE_ROOM < length bytes = leb-false (length bytes) LINE_ROOM over in
      let front = take LINE_ROOM bytes in
      let rest = drop LINE_ROOM bytes in
      let all : front ++ rest ≡ bytes = take-append-drop LINE_ROOM bytes in
      let size : length front ≡ min LINE_ROOM (length bytes) = length-take LINE_ROOM bytes in
      elim (opening_front front rest) [
        | inl e ↦ ap is_setup_word (sym e ∙ ap opening all)
        | inr e ↦
            let size_all = length-append front (opening rest) in
            let here : begins_setup front ≡ false = ap is_setup_word e.0 ∙ long_word front (omega (arith, size, more)) in
            let there : begins_setup bytes ≡ false =
            ap begins_setup (sym all) ∙ ap is_setup_word e.1 ∙ long_word (front ++ opening rest) (omega (arith, size, more, size_all)) in
            here ∙ sym there
      ]
]

opening-ended : (text more : List ℕ) → opening (with_line_feed text ++ more) ≡ opening text
opening-ended [] more = refl
opening-ended (b ∷ text) more = elim (cases_Bool (is_byte2 32 10 b)) [
  | inl is ↦ rw is refl
  | inr other ↦ rw other (ap (λ l. b ∷ l) (opening-ended text more))
]

-- of a whole line they tell it too, whatever follows
pub begins_line : (text more : List ℕ) → begins_setup (with_line_feed text ++ more) ≡ begins_setup (take LINE_ROOM text)
begins_line text more = ap is_setup_word (opening-ended text more) ∙ sym (begins_setup-take text)

-- and of a line begun that is too long already
pub begins_long : (bytes more : List ℕ) → LONGEST_LINE < length (take LINE_ROOM bytes) → begins_setup (bytes ++ more) ≡ begins_setup (take LINE_ROOM bytes)
begins_long bytes more long =
    let size = length-take LINE_ROOM bytes in
    sym (begins_setup-take (bytes ++ more)) ∙ ap begins_setup (take-append-le LINE_ROOM bytes more (omega (arith, long, size)))

-- nothing begins no setup line
pub begins_last : (rest : List ℕ) → [] ≡ frames_of_rest rest → begins_setup rest ≡ false
begins_last [] none = refl
begins_last (b ∷ bs) none = absurd (cc)
