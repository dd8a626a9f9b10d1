-- A free range that is cut, and its rests.
use Rattle.std.proofs.Common.{◌≡◌, ℕ, ◌+◌, ◌<◌, ◌≤◌, not, sym, ap, subst, ◌∙◌, inl, inr, ⊎_elim, List, [], ◌++◌, length, filter, All, AllPairs, Contains, Option, None, Some, IfSome, option_to_list, arith}
use Rattle.std.proofs.lemmas.Bool.{cases_Bool}
use Rattle.std.proofs.lemmas.List.{append_assoc, length-append}
use Rattle.std.proofs.lemmas.List.Edits.{length-remove}
use Rattle.std.proofs.lemmas.List.Elements.{All-contains, Contains-append_cases}
use Rattle.deed_core.specs.Extent.{IsRange, end_of}
use Rattle.deed_core.specs.Holding.{Holding, Apart}
use Rattle.tag_arena.specs.Calls.{rest_between, rests, surrounds}
use Rattle.tag_arena.specs.Neighbors.{Without}
use Rattle.tag_arena.proofs.Members.{All-from_members, Contains-head, filter_whole}
use Rattle.tag_arena.proofs.Merging.{none_left, without_member, without_kept, without_filter}
use Rattle.tag_arena.proofs.Ranges.{apart_or_share, between_is, surrounds-true, true-surrounds}
use Rattle.tag_arena.specs.Cuts.{CarvesOut, IsCut}
use Rattle.tag_arena.specs.FreeTags.{FreeTag}
use Rattle.tag_arena.specs.Slotted.{SlotsState}

-- the same slots
pub same_table : (s s2 : SlotsState) → s2.tags ≡ s.tags → s2.room ≡ s.room → s2 ≡ s
same_table s s2 tags room = ap (λ (l : List (Option FreeTag)). record { tags = l; room = s2.room }) tags ∙ ap (λ (n : ℕ). record { tags = s.tags; room = n }) room

module _ (old mid : List Holding) (range : Holding) (ranges : All (λ r. IsRange r.range) old) (apart : AllPairs Apart old) (out : Without old range mid) where
  -- the others are apart from it
  others_apart : All (Apart range) mid
  others_apart =
      All-from_members (Apart range) mid
      (λ r h.
      let some = λ (x : Holding) (in-x : Contains old x). (All-contains (λ y. IsRange y.range) old x ranges in-x).some in
      ⊎_elim (λ a. a) (λ sh. absurd (none_left old mid range r sh.0 apart out h sh.2 sh.1))
      (apart_or_share range r (some range (without_member old mid range out)) (some r (without_kept old mid range r out h))))

  pub fewer : length mid + 1 ≡ length old
  fewer = ap (λ l. length l + 1) out.3 ∙ length-remove old out.0 out.1

  -- and so from a rest of it
  clear_rest : (o : Option Holding) (from to : ℕ) → option_to_list o ≡ rest_between range from to → range.range.base ≤ from → to ≤ end_of range.range → IfSome o (λ h. All (Apart h) mid)
  clear_rest None from to is low high = tt
  clear_rest (Some h) from to is low high =
      let w = between_is range from to h (subst (λ l. Contains l h) is (Contains-head h [])) in
      let b = ap (λ x. x.range.base) w.1 in
      let e : end_of h.range ≡ to = ap (λ x. end_of x.range) w.1 ∙ omega (arith, w.0) in
      All-from_members (Apart h) mid
      (λ r in-r. ⊎_elim (λ le. inl (omega (arith, le, e, high))) (λ le. inr (omega (arith, le, b, low))) (All-contains (Apart range) mid r others_apart in-r))

  module _ (piece : Holding) (low high : Option Holding) (base end : ℕ) (cut : IsCut range base end low piece high) (from : range.range.base ≤ base) (some : base < end) (to : end ≤ end_of range.range) where
    pub clear_low : IfSome low (λ h. All (Apart h) mid)
    clear_low = clear_rest low range.range.base base cut.low_is (omega arith) (omega (arith, some, to))

    -- the low rest ends by the piece
    low_below : (r : Holding) → Contains (option_to_list low) r → end_of r.range ≤ end
    low_below r h =
        let w = between_is range range.range.base base r (subst (λ l. Contains l r) cut.low_is h) in
        let e = ap (λ x. end_of x.range) w.1 in
        omega (arith, e, w.0, some)

    clear_both : (o : Option Holding) → option_to_list o ≡ rest_between range end (end_of range.range) → IfSome o (λ h. All (Apart h) mid) → IfSome o (λ h. All (Apart h) (mid ++ option_to_list low))
    clear_both None is clear = tt
    clear_both (Some h) is clear =
        let w = between_is range end (end_of range.range) h (subst (λ l. Contains l h) is (Contains-head h [])) in
        let b = ap (λ x. x.range.base) w.1 in
        All-from_members (Apart h) (mid ++ option_to_list low)
        (λ r in-r. ⊎_elim (λ a. All-contains (Apart h) mid r clear a) (λ a. inr (omega (arith, low_below r a, b))) (Contains-append_cases mid (option_to_list low) r in-r))

    pub clear_high : (now : List Holding) → now ≡ mid ++ option_to_list low → IfSome high (λ h. All (Apart h) now)
    clear_high now is = subst (λ l. IfSome high (λ h. All (Apart h) l)) (sym is) (clear_both high cut.high_is (clear_rest high end (end_of range.range) cut.high_is (omega (arith, from, some)) (omega arith)))

    -- the rest of the list is as it was
    others_stay : filter (λ r. not (surrounds r piece)) old ≡ mid
    others_stay =
        let b = ap (λ x. x.range.base) cut.piece_is in
        let n = ap (λ x. end_of x.range) cut.piece_is in
        let p = λ (r : Holding). not (surrounds r piece) in
        without_filter p old mid range out (ap not (true-surrounds range piece (record { from = omega (arith, b, from); to = omega (arith, n, to, some) })))
        ∙ filter_whole p mid
        (λ x h. elim (cases_Bool (surrounds x piece)) [
          | inr f ↦ ap not f
          | inl t ↦ let hx = surrounds-true x piece t in absurd (none_left old mid range x base apart out h (omega (arith, hx.from, b), omega (arith, hx.to, n, some)) (from, omega (arith, some, to)))
        ])

    rests_are : option_to_list low ++ option_to_list high ≡ rests range piece
    rests_are =
        let b : base ≡ piece.range.base = sym (ap (λ x. x.range.base) cut.piece_is) in
        let n : end ≡ end_of piece.range = omega (arith, ap (λ x. end_of x.range) cut.piece_is, some) in
        ap (λ l. l ++ option_to_list high) (cut.low_is ∙ ap (rest_between range range.range.base) b)
        ∙ ap (λ l. rest_between range range.range.base piece.range.base ++ l) (cut.high_is ∙ ap (λ k. rest_between range k (end_of range.range)) n)

    pub carved_out : (two new : List Holding) → two ≡ mid ++ option_to_list low → new ≡ two ++ option_to_list high → CarvesOut range piece old new
    carved_out two new two_is new_is =
        new_is ∙ (ap (λ l. l ++ option_to_list high) two_is
        ∙ (append_assoc mid (option_to_list low) (option_to_list high)
        ∙ (ap (λ l. l ++ (option_to_list low ++ option_to_list high)) (sym others_stay)
        ∙ ap (λ l. filter (λ r. not (surrounds r piece)) old ++ l) rests_are)))

    pub room_for_low : (room : ℕ) → length old < room → length mid < room
    room_for_low room lt = omega (arith, fewer, lt)

    low_one : (o : Option Holding) → length (option_to_list o) ≤ 1
    low_one None = omega arith
    low_one (Some h) = omega arith

    pub room_for_high : (room : ℕ) (now : List Holding) → now ≡ mid ++ option_to_list low → length old < room → length now < room
    room_for_high room now is lt = omega (arith, fewer, lt, ap length is, length-append mid (option_to_list low), low_one low)
