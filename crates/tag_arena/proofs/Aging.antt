-- The tags of the slots in their order of becoming free.
use Rattle.std.proofs.Common.{◌≡◌, ◌≢◌, ◌⊎◌, ℕ, zero, suc, ◌<◌, refl, sym, ap, subst, ◌∙◌, inl, inr, ⊎_elim, List, [], ◌∷◌, ◌++◌, length, insert, remove, All, Contains, HoldsAt, Option, None, Some, arith}
use Rattle.std.proofs.lemmas.List.Elements.{at_from_Contains, Contains-push, Contains-push_cases, Contains-append_left}
use Rattle.std.proofs.lemmas.List.Edits.{length-insert}
use Rattle.std.proofs.lemmas.List.Sums.{sum_by-cons}
use Rattle.std.proofs.lemmas.Bool.{cases_order}
use Rattle.tag_arena.proofs.Members.{All-from_members, Contains-nil, Contains-remove, remove_kept, remove_pairs}
use Rattle.sorted_rows.specs.Order.{Rises, place_below}
use Rattle.sorted_rows.proofs.PlaceLemmas.{rises_insert}
use Rattle.tag_arena.specs.FreeTags.{FreeTag, since_of, tag_at, SlotBecomes, tags_by_age, IsTimed}
use Rattle.tag_arena.specs.Slotted.{taken_count}
use Rattle.tag_arena.proofs.Slotting.{one_of}
use Rattle.tag_arena.proofs.Listing.{None≢Some, Some-injective, Contains-inserted, Contains-insert, Contains-insert_cases, AllPairs-remove, rank_at_place, same_rising, rises_push}

pub in_tags_by_age : (tags : List (Option FreeTag)) (k : ℕ) (t : FreeTag) → tag_at tags k ≡ Some t → Contains (tags_by_age tags) t
unfolding tags_by_age
in_tags_by_age [] k t e = absurd (None≢Some e)
in_tags_by_age (None ∷ rest) zero t e = absurd (None≢Some e)
in_tags_by_age (None ∷ rest) (suc k) t e = in_tags_by_age rest k t e
in_tags_by_age (Some u ∷ rest) zero t e =
    let p = place_below since_of u.since (tags_by_age rest) in
    subst (Contains (insert (tags_by_age rest) p u)) (Some-injective e) (Contains-inserted (tags_by_age rest) p u)
in_tags_by_age (Some u ∷ rest) (suc k) t e = Contains-insert (tags_by_age rest) (place_below since_of u.since (tags_by_age rest)) u t (in_tags_by_age rest k t e)

pub from_tags_by_age : (tags : List (Option FreeTag)) (t : FreeTag) → Contains (tags_by_age tags) t → (k : ℕ) × (tag_at tags k ≡ Some t)
unfolding tags_by_age
from_tags_by_age [] t h = absurd (Contains-nil t h)
from_tags_by_age (None ∷ rest) t h = let r = from_tags_by_age rest t h in (suc r.0, r.1)
from_tags_by_age (Some u ∷ rest) t h =
    ⊎_elim (λ e. (zero, ap (λ x. Some x) e)) (λ later. let r = from_tags_by_age rest t later in (suc r.0, r.1))
    (Contains-insert_cases (tags_by_age rest) (place_below since_of u.since (tags_by_age rest)) u t h)

timed_rest : (o : Option FreeTag) (rest : List (Option FreeTag)) → IsTimed (o ∷ rest) → IsTimed rest
timed_rest o rest timed j k t u e f s = let h = timed (suc j) (suc k) t u e f s in omega (arith, h)

-- nobody else became free then
absent_time : (t : FreeTag) (rest : List (Option FreeTag)) → IsTimed (Some t ∷ rest) → All (λ y. y.since ≢ t.since) (tags_by_age rest)
absent_time t rest timed =
    All-from_members (λ y. y.since ≢ t.since) (tags_by_age rest)
    (λ y h same. let r = from_tags_by_age rest y h in let e = timed (suc r.0) zero y t r.1 refl same in omega (arith, e))

pub rises_by_age : (tags : List (Option FreeTag)) → IsTimed tags → Rises since_of (tags_by_age tags)
unfolding tags_by_age
rises_by_age [] timed = λ i j d lt below. absurd (omega (arith, below))
rises_by_age (None ∷ rest) timed = rises_by_age rest (timed_rest None rest timed)
rises_by_age (Some t ∷ rest) timed =
    let rec = rises_by_age rest (timed_rest (Some t) rest timed) in
    rises_insert since_of (tags_by_age rest) (place_below since_of t.since (tags_by_age rest)) t rec (rank_at_place since_of t.since (tags_by_age rest) rec) (absent_time t rest timed)

pub length-tags_by_age : (tags : List (Option FreeTag)) → IsTimed tags → length (tags_by_age tags) ≡ taken_count tags
unfolding tags_by_age
length-tags_by_age [] timed = refl
length-tags_by_age (None ∷ rest) timed = let h = length-tags_by_age rest (timed_rest None rest timed) in omega (arith, h)
length-tags_by_age (Some t ∷ rest) timed =
    let h = length-tags_by_age rest (timed_rest (Some t) rest timed) in
    let r = rises_by_age rest (timed_rest (Some t) rest timed) in
    let n = length-insert (tags_by_age rest) (place_below since_of t.since (tags_by_age rest)) t (rank_at_place since_of t.since (tags_by_age rest) r).within in
    omega (arith, h, n, sum_by-cons one_of (Some t) rest)

module _ (old new : List (Option FreeTag)) (k : ℕ) (t : FreeTag) where
  -- what lies in the slots when one was filled
  pub put_cases : SlotBecomes old new k (Some t) → (j : ℕ) (u : FreeTag) → tag_at new j ≡ Some u → ((j ≡ k) × (t ≡ u)) ⊎ ((j ≢ k) × (tag_at old j ≡ Some u))
  put_cases becomes j u e =
      ⊎_elim (λ same. inl (same, Some-injective (sym becomes.changed ∙ (ap (tag_at new) (sym same) ∙ e))))
      (λ other. let ne : j ≢ k = omega (arith, other) in inr (ne, sym (becomes.others j ne) ∙ e)) (cases_order j k)

  pub put_kept : tag_at old k ≡ None → SlotBecomes old new k (Some t) → (j : ℕ) (u : FreeTag) → tag_at old j ≡ Some u → tag_at new j ≡ Some u
  put_kept vacant becomes j u e = let ne : j ≢ k = λ same. None≢Some (sym vacant ∙ (ap (tag_at old) (sym same) ∙ e)) in becomes.others j ne ∙ e

  -- and when one was emptied
  pub take_cases : SlotBecomes old new k None → (j : ℕ) (u : FreeTag) → tag_at new j ≡ Some u → (j ≢ k) × (tag_at old j ≡ Some u)
  take_cases becomes j u e =
      let ne : j ≢ k = λ same. None≢Some (sym becomes.changed ∙ (ap (tag_at new) (sym same) ∙ e)) in
      (ne, sym (becomes.others j ne) ∙ e)

  -- a slot that was filled
  module _ (timed : IsTimed old) (vacant : tag_at old k ≡ None) (becomes : SlotBecomes old new k (Some t)) (newer : (j : ℕ) (u : FreeTag) → tag_at old j ≡ Some u → u.since < t.since) where
    pub timed_put : IsTimed new
    timed_put i j u v at_i at_j same =
        ⊎_elim
        (λ a. ⊎_elim (λ b. a.0 ∙ sym b.0) (λ b. let h = newer j v b.1 in let e = ap since_of a.1 in absurd (omega (arith, h, e, same))) (put_cases becomes j v at_j))
        (λ a. ⊎_elim (λ b. let h = newer i u a.1 in let e = ap since_of b.1 in absurd (omega (arith, h, e, same))) (λ b. timed i j u v a.1 b.1 same) (put_cases becomes j v at_j))
        (put_cases becomes i u at_i)

    -- the newest comes last
    pub aged_put : tags_by_age new ≡ tags_by_age old ++ t ∷ []
    aged_put =
        same_rising since_of (tags_by_age new) (tags_by_age old ++ t ∷ []) (rises_by_age new timed_put)
        (rises_push since_of (tags_by_age old) t (rises_by_age old timed) (λ y h. let r = from_tags_by_age old y h in newer r.0 y r.1))
        (λ x h. let r = from_tags_by_age new x h in
        ⊎_elim (λ a. subst (Contains (tags_by_age old ++ t ∷ [])) a.1 (Contains-push (tags_by_age old) t))
        (λ a. Contains-append_left (tags_by_age old) (t ∷ []) x (in_tags_by_age old r.0 x a.1)) (put_cases becomes r.0 x r.1))
        (λ x h. ⊎_elim (λ a. let r = from_tags_by_age old x a in in_tags_by_age new r.0 x (put_kept vacant becomes r.0 x r.1))
        (λ e. subst (Contains (tags_by_age new)) e (in_tags_by_age new k t becomes.changed)) (Contains-push_cases (tags_by_age old) t x h))

  -- a slot that was emptied
  module _ (timed : IsTimed old) (here : tag_at old k ≡ Some t) (becomes : SlotBecomes old new k None) where
    pub timed_take : IsTimed new
    timed_take i j u v at_i at_j same = timed i j u v (take_cases becomes i u at_i).1 (take_cases becomes j v at_j).1 same

    pub aged_take : (p : ℕ) × (p < length (tags_by_age old)) × HoldsAt (λ x. x ≡ t) (tags_by_age old) p × (tags_by_age new ≡ remove (tags_by_age old) p)
    aged_take =
        let at = at_from_Contains (tags_by_age old) t (in_tags_by_age old k t here) in
        let p = at.0 in
        let rises = rises_by_age old timed in (
          p,
          at.1,
          at.2,
          same_rising since_of (tags_by_age new) (remove (tags_by_age old) p) (rises_by_age new timed_take) (AllPairs-remove (λ a b. since_of a < since_of b) (tags_by_age old) p at.1 rises)
              (λ x h. let r = from_tags_by_age new x h in
              let c = take_cases becomes r.0 x r.1 in
              Contains-remove (tags_by_age old) p x (in_tags_by_age old r.0 x c.1) (λ is. let e = ap since_of (sym (at.2 x) ∙ is) in c.0 (timed r.0 k x t c.1 here (sym e))))
              (λ x h. let r = from_tags_by_age old x (remove_kept (tags_by_age old) p x h) in
              let apart = remove_pairs (λ a b. since_of a < since_of b) (tags_by_age old) p x x rises at.1 h in
              let one = ap since_of (at.2 x) in
              let ne : r.0 ≢ k = λ same. let e = ap since_of (Some-injective (sym r.1 ∙ (ap (tag_at old) same ∙ here))) in ⊎_elim (λ a. omega (arith, a, one, e)) (λ a. omega (arith, a, one, e)) apart in
              in_tags_by_age new r.0 x (becomes.others r.0 ne ∙ r.1)),
        )
