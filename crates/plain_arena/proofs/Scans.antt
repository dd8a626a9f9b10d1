-- One range more in a scan of the free ranges.
use Rattle.std.proofs.Common.{◌≡◌, ℕ, ◌+◌, ◌*◌, ◌%◌, ◌^◌, ◌<◌, ◌≤◌, sym, subst, ap, ⊎_elim, List, length, get_or, HoldsAt, Contains, Option, Some, None, MatchOption, arith}
use Rattle.std.proofs.lemmas.Bool.{cases_lt}
use Rattle.std.proofs.lemmas.Nat.{one_shl}
use Rattle.std.specs.List.{AllWithin}
use Rattle.deed_core.specs.Holding.{Holding}
use Rattle.deed_core.specs.declared.requests.Request.{Request}
use Rattle.plain_arena.specs.declared.choices.Found.{Found}
use Rattle.plain_arena.specs.declared.power_lists.Listed.{Listed}
use Rattle.tag_arena.specs.Place.{IsLeast, ServesIn}
use Rattle.tag_arena.specs.Choice.{ComesFirst, OnList, ListServes}
use Rattle.plain_arena.specs.declared.whole_spans.Whole.{Whole}
use Rattle.plain_arena.specs.Found.{BestSoFar, EarliestSoFar, NewestSoFar, LowestSoFar}

pub within_more : {X : Type 0} (P : X → Type 0) (xs : List X) (i n : ℕ) → AllWithin P xs i n → ((d : X) → P (get_or xs n d)) → AllWithin P xs i (n + 1)
within_more P xs i n before here k d from below =
    ⊎_elim (λ lt. before k d from lt) (λ ge. let e : k ≡ n = omega arith in subst (λ j. P (get_or xs j d)) (sym e) (here d)) (cases_lt k n)

module _ (free : List Holding) (at : ℕ) (range : Holding) (here : HoldsAt (λ r. r ≡ range) free at) where
  at_range : (P : Holding → Type 0) → P range → (d : Holding) → P (get_or free at d)
  at_range P p d = subst P (sym (here d)) p

  module _ (quantum : ℕ) (q : Request) where
    abbrev found : ℕ → Found
    found base = record { at = at; range = range; base = base }

    -- the range doesn't serve
    pub best_skips : (o : Option Found) → BestSoFar quantum q free at o → IsLeast (λ base. ServesIn quantum q range base × (0 ≤ base)) None → BestSoFar quantum q free (at + 1) o
    best_skips None so none = within_more (λ r. (b : ℕ) → ServesIn quantum q r b → ⊥) free 0 at so (at_range (λ r. (b : ℕ) → ServesIn quantum q r b → ⊥) (λ b s. none b (s, omega arith)))
    best_skips (Some f) so none = (
      omega (arith, so.0),
      so.1,
      so.2,
      within_more (λ r. (b : ℕ) → ServesIn quantum q r b → ComesFirst f.range f.base r b) free 0 at so.3
          (at_range (λ r. (b : ℕ) → ServesIn quantum q r b → ComesFirst f.range f.base r b) (λ b s. absurd (none b (s, omega arith)))),
    )

    module _ (base : ℕ) (least : IsLeast (λ base. ServesIn quantum q range base × (0 ≤ base)) (Some base)) where
      later : (b : ℕ) → ServesIn quantum q range b → base ≤ b
      later b s = least.1 b (s, omega arith)

      -- it is the first that serves
      pub best_first : BestSoFar quantum q free at None → BestSoFar quantum q free (at + 1) (Some (found base))
      best_first so = (
        omega arith,
        here,
        least.0.0,
        within_more (λ r. (b : ℕ) → ServesIn quantum q r b → ComesFirst range base r b) free 0 at (λ k d from below b s. absurd (so k d from below b s))
            (at_range (λ r. (b : ℕ) → ServesIn quantum q r b → ComesFirst range base r b) (λ b s. let le = later b s in grind arith)),
      )

      pub best_kept : (f : Found) → BestSoFar quantum q free at (Some f) → ComesFirst f.range f.base range base → BestSoFar quantum q free (at + 1) (Some f)
      best_kept f so first = (
        omega (arith, so.0),
        so.1,
        so.2,
        within_more (λ r. (b : ℕ) → ServesIn quantum q r b → ComesFirst f.range f.base r b) free 0 at so.3
            (at_range (λ r. (b : ℕ) → ServesIn quantum q r b → ComesFirst f.range f.base r b) (λ b s. let le = later b s in clear_first f b le first)),
      )
        where
          clear_first : (f : Found) (b : ℕ) → base ≤ b → ComesFirst f.range f.base range base → ComesFirst f.range f.base range b
          clear_first f b le first = grind arith

      pub best_taken : (f : Found) → BestSoFar quantum q free at (Some f) → ComesFirst range base f.range f.base → BestSoFar quantum q free (at + 1) (Some (found base))
      best_taken f so first = (
        omega arith,
        here,
        least.0.0,
        within_more (λ r. (b : ℕ) → ServesIn quantum q r b → ComesFirst range base r b) free 0 at (λ k d from below b s. through (get_or free k d) b (so.3 k d from below b s))
            (at_range (λ r. (b : ℕ) → ServesIn quantum q r b → ComesFirst range base r b) (λ b s. let le = later b s in grind arith)),
      )
        where
          through : (r : Holding) (b : ℕ) → ComesFirst f.range f.base r b → ComesFirst range base r b
          through r b after = grind arith

    module _ (start : ℕ) where
      pub earliest_skips : (o : Option Found) → EarliestSoFar quantum q start free at o → IsLeast (λ base. ServesIn quantum q range base × (start ≤ base)) None → EarliestSoFar quantum q start free (at + 1) o
      earliest_skips None so none = within_more (λ r. (b : ℕ) → ServesIn quantum q r b → start ≤ b → ⊥) free 0 at so (at_range (λ r. (b : ℕ) → ServesIn quantum q r b → start ≤ b → ⊥) (λ b s from. none b (s, from)))
      earliest_skips (Some f) so none = (
        omega (arith, so.0),
        so.1,
        so.2,
        so.3,
        within_more (λ r. (b : ℕ) → ServesIn quantum q r b → start ≤ b → f.base ≤ b) free 0 at so.4
            (at_range (λ r. (b : ℕ) → ServesIn quantum q r b → start ≤ b → f.base ≤ b) (λ b s from. absurd (none b (s, from)))),
      )

      module _ (base : ℕ) (least : IsLeast (λ base. ServesIn quantum q range base × (start ≤ base)) (Some base)) where
        pub earliest_kept : (f : Found) → EarliestSoFar quantum q start free at (Some f) → f.base ≤ base → EarliestSoFar quantum q start free (at + 1) (Some f)
        earliest_kept f so le = (
          omega (arith, so.0),
          so.1,
          so.2,
          so.3,
          within_more (λ r. (b : ℕ) → ServesIn quantum q r b → start ≤ b → f.base ≤ b) free 0 at so.4
              (at_range (λ r. (b : ℕ) → ServesIn quantum q r b → start ≤ b → f.base ≤ b) (λ b s up. let after = least.1 b (s, up) in omega (arith, after, le))),
        )

        pub earliest_taken : (f : Found) → EarliestSoFar quantum q start free at (Some f) → base ≤ f.base → EarliestSoFar quantum q start free (at + 1) (Some (found base))
        earliest_taken f so le = (
          omega arith,
          here,
          least.0.0,
          least.0.1,
          within_more (λ r. (b : ℕ) → ServesIn quantum q r b → start ≤ b → base ≤ b) free 0 at (λ k d from below b s up. let after = so.4 k d from below b s up in omega (arith, after, le))
              (at_range (λ r. (b : ℕ) → ServesIn quantum q r b → start ≤ b → base ≤ b) (λ b s up. least.1 b (s, up))),
        )

  module _ (quantum len : ℕ) where
    abbrev listed : ℕ → Listed
    listed list = record { at = at; range = range; list = list }

    -- no list that it is on serves
    pub newest_skips : (o : Option Listed) → NewestSoFar quantum len free at o → ((i : ℕ) → OnList quantum range i → ListServes quantum len i → ⊥) → NewestSoFar quantum len free (at + 1) o
    newest_skips None so none = within_more (λ r. (i : ℕ) → OnList quantum r i → ListServes quantum len i → ⊥) free 0 at so (at_range (λ r. (i : ℕ) → OnList quantum r i → ListServes quantum len i → ⊥) none)
    newest_skips (Some f) so none = (
      omega (arith, so.0),
      so.1,
      so.2,
      so.3,
      within_more (λ r. (i : ℕ) → OnList quantum r i → ListServes quantum len i → f.list ≤ i) free 0 at so.4
          (at_range (λ r. (i : ℕ) → OnList quantum r i → ListServes quantum len i → f.list ≤ i) (λ i on serves. absurd (none i on serves))),
      within_more (λ r. OnList quantum r f.list → ⊥) free (f.at + 1) at so.5 (at_range (λ r. OnList quantum r f.list → ⊥) (λ on. none f.list on so.3)),
    )

    module _ (list : ℕ) (on : OnList quantum range list) (one : (i : ℕ) → OnList quantum range i → i ≡ list) where
      -- none stands behind the last
      none_behind : AllWithin (λ r. OnList quantum r list → ⊥) free (at + 1) (at + 1)
      none_behind k d from below = absurd (omega (arith, from, below))

      pub newest_first : NewestSoFar quantum len free at None → ListServes quantum len list → NewestSoFar quantum len free (at + 1) (Some (listed list))
      newest_first so serves = (
        omega arith,
        here,
        on,
        serves,
        within_more (λ r. (i : ℕ) → OnList quantum r i → ListServes quantum len i → list ≤ i) free 0 at (λ k d from below i oni si. absurd (so k d from below i oni si))
            (at_range (λ r. (i : ℕ) → OnList quantum r i → ListServes quantum len i → list ≤ i) (λ i oni si. let e = one i oni in omega (arith, e))),
        none_behind,
      )

      pub newest_kept : (f : Listed) → NewestSoFar quantum len free at (Some f) → f.list < list → NewestSoFar quantum len free (at + 1) (Some f)
      newest_kept f so lt = (
        omega (arith, so.0),
        so.1,
        so.2,
        so.3,
        within_more (λ r. (i : ℕ) → OnList quantum r i → ListServes quantum len i → f.list ≤ i) free 0 at so.4
            (at_range (λ r. (i : ℕ) → OnList quantum r i → ListServes quantum len i → f.list ≤ i) (λ i oni si. let e = one i oni in omega (arith, e, lt))),
        within_more (λ r. OnList quantum r f.list → ⊥) free (f.at + 1) at so.5 (at_range (λ r. OnList quantum r f.list → ⊥) (λ onf. let e = one f.list onf in omega (arith, e, lt))),
      )

      pub newest_taken : (f : Listed) → NewestSoFar quantum len free at (Some f) → list ≤ f.list → ListServes quantum len list → NewestSoFar quantum len free (at + 1) (Some (listed list))
      newest_taken f so le serves = (
        omega arith,
        here,
        on,
        serves,
        within_more (λ r. (i : ℕ) → OnList quantum r i → ListServes quantum len i → list ≤ i) free 0 at (λ k d from below i oni si. let after = so.4 k d from below i oni si in omega (arith, after, le))
            (at_range (λ r. (i : ℕ) → OnList quantum r i → ListServes quantum len i → list ≤ i) (λ i oni si. let e = one i oni in omega (arith, e))),
        none_behind,
      )

-- a shift by less than 64 bits
pub shifted : (list quantum : ℕ) → list < 64 → 1 * 2 ^ list % 2 ^ 64 * quantum ≡ 2 ^ list * quantum
shifted list quantum lt = ap (λ k. k * quantum) (one_shl list 64 lt)

-- one owned span more
module _ (owned free : List Holding) (at : ℕ) (span : Holding) (here : HoldsAt (λ s. s ≡ span) owned at) where
  at_span : (P : Holding → Type 0) → P span → (d : Holding) → P (get_or owned at d)
  at_span P p d = subst P (sym (here d)) p

  pub lowest_skips : (o : Option Whole) → LowestSoFar owned free at o → (Contains free span → ⊥) → LowestSoFar owned free (at + 1) o
  lowest_skips None so none = within_more (λ s. Contains free s → ⊥) owned 0 at so (at_span (λ s. Contains free s → ⊥) none)
  lowest_skips (Some w) so none = (
    omega (arith, so.0),
    so.1,
    so.2,
    so.3,
    within_more (λ s. Contains free s → w.span.range.base ≤ s.range.base) owned 0 at so.4 (at_span (λ s. Contains free s → w.span.range.base ≤ s.range.base) (λ in-free. absurd (none in-free))),
  )

  pub lowest_first : (free_at : ℕ) → free_at < length free → HoldsAt (λ r. r ≡ span) free free_at → LowestSoFar owned free at None → LowestSoFar owned free (at + 1) (Some (record { at = at; free_at = free_at; span = span }))
  lowest_first free_at within there so = (
    omega arith,
    here,
    within,
    there,
    within_more (λ s. Contains free s → span.range.base ≤ s.range.base) owned 0 at (λ k d from below in-free. absurd (so k d from below in-free)) (at_span (λ s. Contains free s → span.range.base ≤ s.range.base) (λ in-free. omega arith)),
  )

  -- where none was found before
  pub lowest_alone : (o : Option Whole) → MatchOption o (¬ Contains free span) (λ w. (w ≡ record { at = at; free_at = w.free_at; span = span }) × (w.free_at < length free) × HoldsAt (λ r. r ≡ span) free w.free_at)
      → LowestSoFar owned free at None → LowestSoFar owned free (at + 1) o
  lowest_alone None none so = lowest_skips None so none
  lowest_alone (Some w) is so = subst (λ (x : Whole). LowestSoFar owned free (at + 1) (Some x)) (sym is.0) (lowest_first w.free_at is.1 is.2 so)
