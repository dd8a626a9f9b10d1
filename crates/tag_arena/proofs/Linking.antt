-- Power-of-two lists with one tag more, and with one less.
use Rattle.std.proofs.Common.{◌≡◌, ◌≢◌, ℕ, ◌<◌, ◌≤◌, refl, sym, ap, subst, ◌∙◌, ⊎_elim, List, [], length, get_or, set, Option, None, Some, IfSome, arith}
use Rattle.std.proofs.lemmas.Bool.{cases_lt, cases_order}
use Rattle.std.proofs.lemmas.List.{get_or-set_same, get_or-set_other, get_or_default, length-set}
use Rattle.tag_arena.specs.declared.newest_lists.Link.{Link}
use Rattle.tag_arena.specs.FreeTags.{FreeTag, since_of, tag_at, SlotBecomes, IsTimed, ArePowers}
use Rattle.tag_arena.specs.Linked.{ListsState, IsLinked, IsNewestFrom, IsNewestOf, IsNextNewer, IsNextOlder, link_at, lists_room, newest_of}
use Rattle.tag_arena.proofs.Aging.{put_cases, put_kept, take_cases}
use Rattle.tag_arena.proofs.Listing.{None≢Some, Some-injective}

-- one more tag, newer than all
module _ (tags tags2 : List (Option FreeTag)) (k : ℕ) (t : FreeTag) (vacant : tag_at tags k ≡ None) (becomes : SlotBecomes tags tags2 k (Some t)) (later : (j : ℕ) (u : FreeTag) → tag_at tags j ≡ Some u → u.since < t.since) where
  newest_other : (p : ℕ) → t.power ≢ p → (o : Option ℕ) → IsNewestOf tags p o → IsNewestOf tags2 p o
  newest_other p ne None none = λ j u at. ⊎_elim (λ a e. ne (ap (λ x. x.power) a.1 ∙ e)) (λ a. none j u a.1) (put_cases tags tags2 k t becomes j u at)
  newest_other p ne (Some h) is = (
    is.0,
    put_kept tags tags2 k t vacant becomes h is.0 is.1,
    is.2,
    λ j u at e. ⊎_elim (λ a. absurd (ne (ap (λ x. x.power) a.1 ∙ e))) (λ a. is.3 j u a.1 e) (put_cases tags tags2 k t becomes j u at),
  )

  none_later : (j : ℕ) (u : FreeTag) → tag_at tags2 j ≡ Some u → u.since ≤ t.since
  none_later j u at = ⊎_elim (λ a. let s = ap since_of a.1 in omega (arith, s)) (λ a. let l = later j u a.1 in omega (arith, l)) (put_cases tags tags2 k t becomes j u at)

  older_this : (o : Option ℕ) → IsNewestOf tags t.power o → IsNextOlder tags2 t o
  older_this None none = λ j u at e. ⊎_elim (λ a. let s = ap since_of a.1 in omega (arith, s)) (λ a. absurd (none j u a.1 e)) (put_cases tags tags2 k t becomes j u at)
  older_this (Some h) is = (
    is.0,
    put_kept tags tags2 k t vacant becomes h is.0 is.1,
    is.2,
    later h is.0 is.1,
    λ j u at e lt. ⊎_elim (λ a. let s = ap since_of a.1 in absurd (omega (arith, s, lt))) (λ a. is.3 j u a.1 e) (put_cases tags tags2 k t becomes j u at),
  )

  newer_kept : (j : ℕ) (u : FreeTag) → (o : Option ℕ) → (u.power ≡ t.power → o ≡ None → ⊥) → IsNextNewer tags u o → IsNextNewer tags2 u o
  newer_kept j u None inner is = λ i v at e. ⊎_elim (λ a. absurd (inner (sym e ∙ ap (λ x. x.power) (sym a.1)) refl)) (λ a. is i v a.1 e) (put_cases tags tags2 k t becomes i v at)
  newer_kept j u (Some n) inner is = (
    is.0,
    put_kept tags tags2 k t vacant becomes n is.0 is.1,
    is.2,
    is.3,
    λ i v at e lt. ⊎_elim (λ a. let l = later n is.0 is.1 in let s = ap since_of a.1 in omega (arith, l, s)) (λ a. is.4 i v a.1 e lt) (put_cases tags tags2 k t becomes i v at),
  )

  newer_head : (j : ℕ) (u : FreeTag) → tag_at tags j ≡ Some u → u.power ≡ t.power → ((i : ℕ) (v : FreeTag) → tag_at tags i ≡ Some v → v.power ≡ t.power → v.since ≤ u.since) → IsNextNewer tags2 u (Some k)
  newer_head j u here same most = (
    t,
    becomes.changed,
    sym same,
    later j u here,
    λ i v at e lt. ⊎_elim (λ a. let s = ap since_of a.1 in omega (arith, s)) (λ a. let m = most i v a.1 (e ∙ same) in absurd (omega (arith, m, lt))) (put_cases tags tags2 k t becomes i v at),
  )

  older_kept : (j : ℕ) (u : FreeTag) → tag_at tags j ≡ Some u → (o : Option ℕ) → IsNextOlder tags u o → IsNextOlder tags2 u o
  older_kept j u here None is = λ i v at e. ⊎_elim (λ a. let l = later j u here in let s = ap since_of a.1 in omega (arith, l, s)) (λ a. is i v a.1 e) (put_cases tags tags2 k t becomes i v at)
  older_kept j u here (Some o) is = (
    is.0,
    put_kept tags tags2 k t vacant becomes o is.0 is.1,
    is.2,
    is.3,
    λ i v at e lt. ⊎_elim (λ a. let l = later j u here in let s = ap since_of a.1 in absurd (omega (arith, l, s, lt))) (λ a. is.4 i v a.1 e lt) (put_cases tags tags2 k t becomes i v at),
  )

  module _ (timed : IsTimed tags) (l l2 : ListsState) (x : IsLinked l tags) (power : t.power < 64) (room : k < lists_room l) (same_room : lists_room l2 ≡ lists_room l) (head : newest_of l2 t.power ≡ Some k) (heads : (p : ℕ) → t.power ≢ p → newest_of l2 p ≡ newest_of l p)
      (own_newer : (link_at l2.links k).newer ≡ None) (own_older : (link_at l2.links k).older ≡ newest_of l t.power) (olders : (j : ℕ) → j ≢ k → (link_at l2.links j).older ≡ (link_at l.links j).older)
      (behind : (j : ℕ) → j ≢ k → newest_of l t.power ≡ Some j → (link_at l2.links j).newer ≡ Some k) (newers : (j : ℕ) → j ≢ k → newest_of l t.power ≢ Some j → (link_at l2.links j).newer ≡ (link_at l.links j).newer) where
    newer_of : (j : ℕ) (u : FreeTag) → j ≢ k → tag_at tags j ≡ Some u → (o : Option ℕ) → newest_of l t.power ≡ o → IsNewestOf tags t.power o → IsNextNewer tags2 u (link_at l2.links j).newer
    newer_of j u ne here None is none =
        subst (IsNextNewer tags2 u) (sym (newers j ne (λ e. None≢Some (sym is ∙ e))))
        (newer_kept j u (link_at l.links j).newer (λ e o. none j u here e) (x.newer j u here))
    newer_of j u ne here (Some h) is newest =
        ⊎_elim
        (λ same. let tag = Some-injective (sym here ∙ (ap (tag_at tags) same ∙ newest.1)) in
        subst (IsNextNewer tags2 u) (sym (behind j ne (is ∙ ap (λ i. Some i) (sym same))))
        (newer_head j u here (ap (λ v. v.power) tag ∙ newest.2) (λ i v at e. let m = newest.3 i v at e in let s = ap since_of tag in omega (arith, m, s))))
        (λ other.
        let apart : j ≢ h = omega (arith, other) in
        subst (IsNextNewer tags2 u) (sym (newers j ne (λ e. apart (Some-injective (sym e ∙ is)))))
        (newer_kept j u (link_at l.links j).newer
        (λ e none.
        let most = subst (IsNextNewer tags u) none (x.newer j u here) h newest.0 newest.1 (newest.2 ∙ sym e) in
        let least = newest.3 j u here e in
        apart (timed j h u newest.0 here newest.1 (omega (arith, most, least))))
        (x.newer j u here)))
        (cases_order j h)

    pub linked_put : IsLinked l2 tags2
    linked_put = record {
      heads = λ p lt.
          ⊎_elim
          (λ same. subst (λ q. IsNewestOf tags2 q (newest_of l2 q)) same
          (subst (IsNewestOf tags2 t.power) (sym head) (t, becomes.changed, refl, λ j u at e. none_later j u at)))
          (λ other. let ne : t.power ≢ p = omega (arith, other) in
          subst (IsNewestOf tags2 p) (sym (heads p ne)) (newest_other p ne (newest_of l p) (x.heads p lt)))
          (cases_order t.power p);
      within = λ j u at. ⊎_elim (λ a. omega (arith, a.0, room, same_room)) (λ a. let w = x.within j u a.1 in omega (arith, w, same_room)) (put_cases tags tags2 k t becomes j u at);
      newer = λ j u at.
          ⊎_elim
          (λ a. subst (λ i. IsNextNewer tags2 u (link_at l2.links i).newer) (sym a.0)
          (subst (IsNextNewer tags2 u) (sym own_newer) (λ i v here e. let m = none_later i v here in let s = ap since_of a.1 in omega (arith, m, s))))
          (λ a. newer_of j u a.0 a.1 (newest_of l t.power) refl (x.heads t.power power))
          (put_cases tags tags2 k t becomes j u at);
      older = λ j u at.
          ⊎_elim
          (λ a. subst (λ i. IsNextOlder tags2 u (link_at l2.links i).older) (sym a.0)
          (subst (λ v. IsNextOlder tags2 v (link_at l2.links k).older) a.1
          (subst (IsNextOlder tags2 t) (sym own_older) (older_this (newest_of l t.power) (x.heads t.power power)))))
          (λ a. subst (IsNextOlder tags2 u) (sym (olders j a.0)) (older_kept j u a.1 (link_at l.links j).older (x.older j u a.1)))
          (put_cases tags tags2 k t becomes j u at);
    }

-- one tag less
module _ (tags tags2 : List (Option FreeTag)) (k : ℕ) (t : FreeTag) (timed : IsTimed tags) (here : tag_at tags k ≡ Some t) (becomes : SlotBecomes tags tags2 k None) where
  stays : (j : ℕ) (u : FreeTag) → tag_at tags j ≡ Some u → j ≢ k → tag_at tags2 j ≡ Some u
  stays j u at ne = becomes.others j ne ∙ at

  -- a tag that isn't t is of another time
  other_time : (j : ℕ) (u : FreeTag) → tag_at tags j ≡ Some u → j ≢ k → u.since ≢ t.since
  other_time j u at ne same = ne (timed j k u t at here same)

  -- a tag of another time isn't t
  other_slot : (j : ℕ) (u : FreeTag) → tag_at tags j ≡ Some u → u.since ≢ t.since → j ≢ k
  other_slot j u at ne same = ne (ap since_of (Some-injective (sym at ∙ (ap (tag_at tags) same ∙ here))))

  newest_left : (p : ℕ) → t.power ≢ p → (o : Option ℕ) → IsNewestOf tags p o → IsNewestOf tags2 p o
  newest_left p ne None none = λ j u at. none j u (take_cases tags tags2 k t becomes j u at).1
  newest_left p ne (Some h) is = (
    is.0,
    stays h is.0 is.1 (λ same. ne (ap (λ x. x.power) (Some-injective (sym here ∙ (ap (tag_at tags) (sym same) ∙ is.1))) ∙ is.2)),
    is.2,
    λ j u at e. is.3 j u (take_cases tags tags2 k t becomes j u at).1 e,
  )

  -- where one is newer, the newest stays
  newest_stays : (n : ℕ) → IsNextNewer tags t (Some n) → (o : Option ℕ) → IsNewestOf tags t.power o → IsNewestOf tags2 t.power o
  newest_stays n next None none = absurd (none k t here refl)
  newest_stays n next (Some h) is =
      let most = is.3 n next.0 next.1 next.2 in
      let after = next.3 in (
        is.0,
        stays h is.0 is.1 (other_slot h is.0 is.1 (omega (arith, most, after))),
        is.2,
        λ j u at e. is.3 j u (take_cases tags tags2 k t becomes j u at).1 e,
      )

  -- where none is newer, the next older one is the newest
  newest_next : IsNextNewer tags t None → (o : Option ℕ) → IsNextOlder tags t o → IsNewestOf tags2 t.power o
  newest_next last None none = λ j u at e.
      let c = take_cases tags tags2 k t becomes j u at in
      let le = last j u c.1 e in
      let ge = none j u c.1 e in
      other_time j u c.1 c.0 (omega (arith, le, ge))
  newest_next last (Some o) is =
      let before = is.3 in (
        is.0,
        stays o is.0 is.1 (other_slot o is.0 is.1 (omega (arith, before))),
        is.2,
        λ j u at e.
            let c = take_cases tags tags2 k t becomes j u at in
            let le = last j u c.1 e in
            let ne = other_time j u c.1 c.0 in
            is.4 j u c.1 e (omega (arith, le, ne)),
      )

  -- the next older one gets t's next newer one
  newer_joined : (o : ℕ) → IsNextOlder tags t (Some o) → (u : FreeTag) → tag_at tags o ≡ Some u → (n : Option ℕ) → IsNextNewer tags t n → IsNextNewer tags2 u n
  newer_joined o next u at None last = λ i v there e.
      let c = take_cases tags tags2 k t becomes i v there in
      let same = Some-injective (sym next.1 ∙ at) in
      let power = e ∙ (ap (λ x. x.power) (sym same) ∙ next.2) in
      let le = last i v c.1 power in
      let ne = other_time i v c.1 c.0 in
      let most = next.4 i v c.1 power (omega (arith, le, ne)) in
      let s = ap since_of same in
      omega (arith, most, s)
  newer_joined o next u at (Some n) is =
      let same = Some-injective (sym next.1 ∙ at) in
      let u_power : u.power ≡ t.power = ap (λ x. x.power) (sym same) ∙ next.2 in
      let before = next.3 in
      let after = is.3 in
      let s = ap since_of same in (
        is.0,
        stays n is.0 is.1 (other_slot n is.0 is.1 (omega (arith, after))),
        is.2 ∙ sym u_power,
        omega (arith, before, after, s),
        λ i v there e lt.
            let c = take_cases tags tags2 k t becomes i v there in
            let ne = other_time i v c.1 c.0 in
            ⊎_elim (λ low. let most = next.4 i v c.1 (e ∙ u_power) low in absurd (omega (arith, most, s, lt))) (λ high. is.4 i v c.1 (e ∙ u_power) (omega (arith, high, ne))) (cases_lt v.since t.since),
      )

  -- and the next newer one t's next older one
  older_joined : (n : ℕ) → IsNextNewer tags t (Some n) → (u : FreeTag) → tag_at tags n ≡ Some u → (o : Option ℕ) → IsNextOlder tags t o → IsNextOlder tags2 u o
  older_joined n next u at None last = λ i v there e.
      let c = take_cases tags tags2 k t becomes i v there in
      let same = Some-injective (sym next.1 ∙ at) in
      let power = e ∙ (ap (λ x. x.power) (sym same) ∙ next.2) in
      let ge = last i v c.1 power in
      let ne = other_time i v c.1 c.0 in
      let least = next.4 i v c.1 power (omega (arith, ge, ne)) in
      let s = ap since_of same in
      omega (arith, least, s)
  older_joined n next u at (Some o) is =
      let same = Some-injective (sym next.1 ∙ at) in
      let u_power : u.power ≡ t.power = ap (λ x. x.power) (sym same) ∙ next.2 in
      let after = next.3 in
      let before = is.3 in
      let s = ap since_of same in (
        is.0,
        stays o is.0 is.1 (other_slot o is.0 is.1 (omega (arith, before))),
        is.2 ∙ sym u_power,
        omega (arith, before, after, s),
        λ i v there e lt.
            let c = take_cases tags tags2 k t becomes i v there in
            let ne = other_time i v c.1 c.0 in
            ⊎_elim (λ low. is.4 i v c.1 (e ∙ u_power) low) (λ high. let least = next.4 i v c.1 (e ∙ u_power) (omega (arith, high, ne)) in absurd (omega (arith, least, s, lt))) (cases_lt v.since t.since),
      )

  -- the others keep theirs
  newer_stays : (j : ℕ) (u : FreeTag) → tag_at tags j ≡ Some u → (y : Option ℕ) → IsNextOlder tags t y → y ≢ Some j → (w : Option ℕ) → IsNextNewer tags u w → IsNextNewer tags2 u w
  newer_stays j u at y prev ne None is = λ i v there e. is i v (take_cases tags tags2 k t becomes i v there).1 e
  newer_stays j u at y prev ne (Some m) is =
      let only : m ≢ k = λ same.
      let tag = Some-injective (sym is.1 ∙ (ap (tag_at tags) same ∙ here)) in
      let power : u.power ≡ t.power = sym is.2 ∙ ap (λ x. x.power) tag in
      let s = ap since_of tag in
      let lt = is.3 in
      between j u at y prev ne power (omega (arith, lt, s)) (λ i v there e after. let le = is.4 i v there e after in omega (arith, le, s)) in
      (is.0, stays m is.0 is.1 only, is.2, is.3, λ i v there e. is.4 i v (take_cases tags tags2 k t becomes i v there).1 e)
    where
      between : (j : ℕ) (u : FreeTag) → tag_at tags j ≡ Some u → (y : Option ℕ) → IsNextOlder tags t y → y ≢ Some j → u.power ≡ t.power → u.since < t.since → ((i : ℕ) (v : FreeTag) → tag_at tags i ≡ Some v → v.power ≡ u.power → u.since < v.since → t.since ≤ v.since) → ⊥
      between j u at None prev ne power lt least = let ge = prev j u at power in omega (arith, ge, lt)
      between j u at (Some o) prev ne power lt least =
          let le = prev.4 j u at power lt in
          let before = prev.3 in
          ⊎_elim (λ less. let ge = least o prev.0 prev.1 (prev.2 ∙ sym power) less in omega (arith, ge, before))
          (λ more. ne (ap (λ i. Some i) (timed o j prev.0 u prev.1 at (omega (arith, le, more))))) (cases_lt u.since prev.0.since)

  older_stays : (j : ℕ) (u : FreeTag) → tag_at tags j ≡ Some u → (y : Option ℕ) → IsNextNewer tags t y → y ≢ Some j → (w : Option ℕ) → IsNextOlder tags u w → IsNextOlder tags2 u w
  older_stays j u at y next ne None is = λ i v there e. is i v (take_cases tags tags2 k t becomes i v there).1 e
  older_stays j u at y next ne (Some m) is =
      let only : m ≢ k = λ same.
      let tag = Some-injective (sym is.1 ∙ (ap (tag_at tags) same ∙ here)) in
      let power : u.power ≡ t.power = sym is.2 ∙ ap (λ x. x.power) tag in
      let s = ap since_of tag in
      let lt = is.3 in
      between j u at y next ne power (omega (arith, lt, s)) (λ i v there e before. let le = is.4 i v there e before in omega (arith, le, s)) in
      (is.0, stays m is.0 is.1 only, is.2, is.3, λ i v there e. is.4 i v (take_cases tags tags2 k t becomes i v there).1 e)
    where
      between : (j : ℕ) (u : FreeTag) → tag_at tags j ≡ Some u → (y : Option ℕ) → IsNextNewer tags t y → y ≢ Some j → u.power ≡ t.power → t.since < u.since → ((i : ℕ) (v : FreeTag) → tag_at tags i ≡ Some v → v.power ≡ u.power → v.since < u.since → v.since ≤ t.since) → ⊥
      between j u at None next ne power lt most = let le = next j u at power in omega (arith, le, lt)
      between j u at (Some n) next ne power lt most =
          let ge = next.4 j u at power lt in
          let after = next.3 in
          ⊎_elim (λ less. let le = most n next.0 next.1 (next.2 ∙ sym power) less in omega (arith, le, after))
          (λ more. ne (ap (λ i. Some i) (timed n j next.0 u next.1 at (omega (arith, ge, more))))) (cases_lt next.0.since u.since)

  module _ (l l2 : ListsState) (x : IsLinked l tags) (same_room : lists_room l2 ≡ lists_room l) (heads : (p : ℕ) → t.power ≢ p → newest_of l2 p ≡ newest_of l p) (head : IsNewestOf tags2 t.power (newest_of l2 t.power))
      (newer_is : (j : ℕ) → j ≢ k → (link_at l.links k).older ≡ Some j → (link_at l2.links j).newer ≡ (link_at l.links k).newer) (newers : (j : ℕ) → j ≢ k → (link_at l.links k).older ≢ Some j → (link_at l2.links j).newer ≡ (link_at l.links j).newer)
      (older_is : (j : ℕ) → j ≢ k → (link_at l.links k).newer ≡ Some j → (link_at l2.links j).older ≡ (link_at l.links k).older) (olders : (j : ℕ) → j ≢ k → (link_at l.links k).newer ≢ Some j → (link_at l2.links j).older ≡ (link_at l.links j).older) where
    is_or_not : (o : Option ℕ) (j : ℕ) (P : Type 0) → (o ≡ Some j → P) → (o ≢ Some j → P) → P
    is_or_not None j P one other = other (λ e. None≢Some e)
    is_or_not (Some i) j P one other = ⊎_elim (λ same. one (ap (λ n. Some n) same)) (λ apart. other (λ e. let same = Some-injective e in omega (arith, same, apart))) (cases_order i j)

    pub linked_take : IsLinked l2 tags2
    linked_take = record {
      heads = λ p lt.
          ⊎_elim (λ same. subst (λ q. IsNewestOf tags2 q (newest_of l2 q)) same head)
          (λ other. let ne : t.power ≢ p = omega (arith, other) in
          subst (IsNewestOf tags2 p) (sym (heads p ne)) (newest_left p ne (newest_of l p) (x.heads p lt)))
          (cases_order t.power p);
      within = λ j u at. let w = x.within j u (take_cases tags tags2 k t becomes j u at).1 in omega (arith, w, same_room);
      newer = λ j u at.
          let c = take_cases tags tags2 k t becomes j u at in
          is_or_not (link_at l.links k).older j (IsNextNewer tags2 u (link_at l2.links j).newer)
          (λ is. subst (IsNextNewer tags2 u) (sym (newer_is j c.0 is))
          (newer_joined j (subst (IsNextOlder tags t) is (x.older k t here)) u c.1 (link_at l.links k).newer (x.newer k t here)))
          (λ isnt. subst (IsNextNewer tags2 u) (sym (newers j c.0 isnt))
          (newer_stays j u c.1 (link_at l.links k).older (x.older k t here) isnt (link_at l.links j).newer (x.newer j u c.1)));
      older = λ j u at.
          let c = take_cases tags tags2 k t becomes j u at in
          is_or_not (link_at l.links k).newer j (IsNextOlder tags2 u (link_at l2.links j).older)
          (λ is. subst (IsNextOlder tags2 u) (sym (older_is j c.0 is))
          (older_joined j (subst (IsNextNewer tags t) is (x.newer k t here)) u c.1 (link_at l.links k).older (x.older k t here)))
          (λ isnt. subst (IsNextOlder tags2 u) (sym (olders j c.0 isnt))
          (older_stays j u c.1 (link_at l.links k).newer (x.newer k t here) isnt (link_at l.links j).older (x.older j u c.1)));
    }

-- links that are changed: a newer slot's older one, and an older slot's newer one
abbrev pub relink_older : List Link → Option ℕ → Option ℕ → List Link
relink_older links None y = links
relink_older links (Some n) y = set links n (record { newer = (link_at links n).newer; older = y })

abbrev pub relink_newer : List Link → Option ℕ → Option ℕ → List Link
relink_newer links None x = links
relink_newer links (Some o) x = set links o (record { newer = x; older = (link_at links o).older })

-- the slot of an option is one of so many
abbrev pub IsWithin : ℕ → Option ℕ → Type 0
IsWithin n None = Unit {0}
IsWithin n (Some k) = k < n

pub within_more : (n most : ℕ) → n ≤ most → (o : Option ℕ) → IsWithin n o → IfSome o (λ i. i < most)
within_more n most few None within = tt
within_more n most few (Some k) within = omega (arith, few, within)

module _ (links : List Link) (y : Option ℕ) where
  older_set : (n : ℕ) → n < length links → (link_at (relink_older links (Some n) y) n).older ≡ y
  older_set n lt = ap (λ v. v.older) (get_or-set_same links n (record { newer = (link_at links n).newer; older = y }) (record { newer = None; older = None }) lt)

  newer_same : (x : Option ℕ) → IsWithin (length links) x → (j : ℕ) → (link_at (relink_older links x y) j).newer ≡ (link_at links j).newer
  newer_same None within j = refl
  newer_same (Some n) lt j =
      let new : Link = record { newer = (link_at links n).newer; older = y } in
      ⊎_elim (λ e. subst (λ i. (link_at (set links n new) i).newer ≡ (link_at links i).newer) (sym e) (ap (λ v. v.newer) (get_or-set_same links n new (record { newer = None; older = None }) lt)))
      (λ ne. ap (λ v. v.newer) (get_or-set_other links n j new (record { newer = None; older = None }) (omega (arith, ne)))) (cases_order j n)

  older_other : (x : Option ℕ) (j : ℕ) → x ≢ Some j → (link_at (relink_older links x y) j).older ≡ (link_at links j).older
  older_other None j ne = refl
  older_other (Some n) j ne = ap (λ v. v.older) (get_or-set_other links n j (record { newer = (link_at links n).newer; older = y }) (record { newer = None; older = None }) (λ e. ne (ap (λ i. Some i) (sym e))))

  pub relinked_older : (x : Option ℕ) → length (relink_older links x y) ≡ length links
  relinked_older None = refl
  relinked_older (Some n) = length-set links n (record { newer = (link_at links n).newer; older = y })

module _ (links : List Link) (x : Option ℕ) where
  newer_set : (o : ℕ) → o < length links → (link_at (relink_newer links (Some o) x) o).newer ≡ x
  newer_set o lt = ap (λ v. v.newer) (get_or-set_same links o (record { newer = x; older = (link_at links o).older }) (record { newer = None; older = None }) lt)

  older_same : (y : Option ℕ) → IsWithin (length links) y → (j : ℕ) → (link_at (relink_newer links y x) j).older ≡ (link_at links j).older
  older_same None within j = refl
  older_same (Some o) lt j =
      let new : Link = record { newer = x; older = (link_at links o).older } in
      ⊎_elim (λ e. subst (λ i. (link_at (set links o new) i).older ≡ (link_at links i).older) (sym e) (ap (λ v. v.older) (get_or-set_same links o new (record { newer = None; older = None }) lt)))
      (λ ne. ap (λ v. v.older) (get_or-set_other links o j new (record { newer = None; older = None }) (omega (arith, ne)))) (cases_order j o)

  newer_other : (y : Option ℕ) (j : ℕ) → y ≢ Some j → (link_at (relink_newer links y x) j).newer ≡ (link_at links j).newer
  newer_other None j ne = refl
  newer_other (Some o) j ne = ap (λ v. v.newer) (get_or-set_other links o j (record { newer = x; older = (link_at links o).older }) (record { newer = None; older = None }) (λ e. ne (ap (λ i. Some i) (sym e))))

  relinked_newer : (y : Option ℕ) → length (relink_newer links y x) ≡ length links
  relinked_newer None = refl
  relinked_newer (Some o) = length-set links o (record { newer = x; older = (link_at links o).older })

-- as code writes them
pub wired_older : (links : List Link) (n : ℕ) (y : Option ℕ) (seen : Link) → n < length links → seen ≡ get_or links n seen → set links n (record { newer = seen.newer; older = y }) ≡ relink_older links (Some n) y
wired_older links n y seen lt is = ap (λ v. set links n (record { newer = v.newer; older = y })) (is ∙ get_or_default links n seen (record { newer = None; older = None }) lt)

pub wired_newer : (links : List Link) (o : ℕ) (x : Option ℕ) (seen : Link) → o < length links → seen ≡ get_or links o seen → set links o (record { newer = x; older = seen.older }) ≡ relink_newer links (Some o) x
wired_newer links o x seen lt is = ap (λ v. set links o (record { newer = x; older = v.older })) (is ∙ get_or_default links o seen (record { newer = None; older = None }) lt)

-- the lists with one tag more
module _ (tags tags2 : List (Option FreeTag)) (k : ℕ) (t : FreeTag) (l : ListsState) (x : IsLinked l tags) (lists : length l.newest ≡ 64) (power : t.power < 64) (room : k < lists_room l) where
  pub head_within : (n : ℕ) → n ≡ lists_room l → (o : Option ℕ) → IsNewestOf tags t.power o → IsWithin n o
  head_within n is None none = tt
  head_within n is (Some h) newest = let w = x.within h newest.0 newest.1 in omega (arith, w, is)

  pub entered : (l2 : ListsState) → l2.newest ≡ set l.newest t.power (Some k) → l2.links ≡ relink_newer (set l.links k (record { newer = None; older = newest_of l t.power })) (newest_of l t.power) (Some k)
      → IsTimed tags → tag_at tags k ≡ None → ((j : ℕ) (u : FreeTag) → tag_at tags j ≡ Some u → u.since < t.since) → SlotBecomes tags tags2 k (Some t) → IsLinked l2 tags2
  entered l2 newest_is links_are timed vacant later becomes =
      let head = newest_of l t.power in
      let own : Link = record { newer = None; older = head } in
      let links1 = set l.links k own in
      let long : length links1 ≡ lists_room l = length-set l.links k own in
      let within = head_within (length links1) long head (x.heads t.power power) in
      let now : (j : ℕ) → link_at l2.links j ≡ link_at (relink_newer links1 head (Some k)) j = λ j. ap (λ ls. link_at ls j) links_are in
      let at_own : link_at links1 k ≡ own = get_or-set_same l.links k own (record { newer = None; older = None }) room in
      let at_other : (j : ℕ) → j ≢ k → link_at links1 j ≡ link_at l.links j = λ j ne. get_or-set_other l.links k j own (record { newer = None; older = None }) ne in
      let vacant_head : head ≢ Some k = λ e. let is = subst (IsNewestOf tags t.power) e (x.heads t.power power) in None≢Some (sym vacant ∙ is.1) in
      linked_put tags tags2 k t vacant becomes later timed l l2 x power room (ap length links_are ∙ (relinked_newer links1 (Some k) head ∙ long))
      (ap (λ ns. get_or ns t.power None) newest_is ∙ get_or-set_same l.newest t.power (Some k) None (omega (arith, power, lists)))
      (λ p ne. ap (λ ns. get_or ns p None) newest_is ∙ get_or-set_other l.newest t.power p (Some k) None (λ e. ne (sym e)))
      (ap (λ v. v.newer) (now k) ∙ (newer_other links1 (Some k) head k vacant_head ∙ ap (λ v. v.newer) at_own))
      (ap (λ v. v.older) (now k) ∙ (older_same links1 (Some k) head within k ∙ ap (λ v. v.older) at_own))
      (λ j ne. ap (λ v. v.older) (now j) ∙ (older_same links1 (Some k) head within j ∙ ap (λ v. v.older) (at_other j ne)))
      (λ j ne is. ap (λ v. v.newer) (now j) ∙ (ap (λ o. (link_at (relink_newer links1 o (Some k)) j).newer) is ∙ newer_set links1 (Some k) j (subst (IsWithin (length links1)) is within)))
      (λ j ne isnt. ap (λ v. v.newer) (now j) ∙ (newer_other links1 (Some k) head j isnt ∙ ap (λ v. v.newer) (at_other j ne)))

-- and with one less
abbrev pub relist : List (Option ℕ) → ℕ → (x y : Option ℕ) → List (Option ℕ)
relist newest p None y = set newest p y
relist newest p (Some n) y = newest

module _ (tags tags2 : List (Option FreeTag)) (k : ℕ) (t : FreeTag) (l : ListsState) (x : IsLinked l tags) (lists : length l.newest ≡ 64) (power : t.power < 64) where
  pub newer_within : (n : Option ℕ) → IsNextNewer tags t n → IsWithin (lists_room l) n
  newer_within None last = tt
  newer_within (Some n) next = x.within n next.0 next.1

  pub older_within : (o : Option ℕ) → IsNextOlder tags t o → IsWithin (lists_room l) o
  older_within None last = tt
  older_within (Some o) next = x.within o next.0 next.1

  relisted : (p : ℕ) → t.power ≢ p → (n y : Option ℕ) → get_or (relist l.newest t.power n y) p None ≡ newest_of l p
  relisted p ne None y = get_or-set_other l.newest t.power p y None (λ e. ne (sym e))
  relisted p ne (Some n) y = refl

  relisted_here : IsTimed tags → tag_at tags k ≡ Some t → SlotBecomes tags tags2 k None → (n y : Option ℕ) → IsNextNewer tags t n → IsNextOlder tags t y → IsNewestOf tags2 t.power (get_or (relist l.newest t.power n y) t.power None)
  relisted_here timed here becomes None y last next =
      subst (IsNewestOf tags2 t.power) (sym (get_or-set_same l.newest t.power y None (omega (arith, power, lists)))) (newest_next tags tags2 k t timed here becomes last y next)
  relisted_here timed here becomes (Some n) y later next = newest_stays tags tags2 k t timed here becomes n later (newest_of l t.power) (x.heads t.power power)

  pub struck : (l2 : ListsState) → (n y : Option ℕ) → n ≡ (link_at l.links k).newer → y ≡ (link_at l.links k).older → l2.newest ≡ relist l.newest t.power n y → l2.links ≡ relink_newer (relink_older l.links n y) y n
      → IsTimed tags → tag_at tags k ≡ Some t → SlotBecomes tags tags2 k None → IsLinked l2 tags2
  struck l2 n y n_is y_is newest_is links_are timed here becomes =
      let links1 = relink_older l.links n y in
      let long : length links1 ≡ lists_room l = relinked_older l.links y n in
      let newer : IsNextNewer tags t n = subst (IsNextNewer tags t) (sym n_is) (x.newer k t here) in
      let older : IsNextOlder tags t y = subst (IsNextOlder tags t) (sym y_is) (x.older k t here) in
      let n_within = newer_within n newer in
      let y_within = subst (λ m. IsWithin m y) (sym long) (older_within y older) in
      let now : (j : ℕ) → link_at l2.links j ≡ link_at (relink_newer links1 y n) j = λ j. ap (λ ls. link_at ls j) links_are in
      linked_take tags tags2 k t timed here becomes l l2 x (ap length links_are ∙ (relinked_newer links1 n y ∙ long))
      (λ p ne. ap (λ ns. get_or ns p None) newest_is ∙ relisted p ne n y)
      (subst (λ ns. IsNewestOf tags2 t.power (get_or ns t.power None)) (sym newest_is) (relisted_here timed here becomes n y newer older))
      (λ j ne is. let e = y_is ∙ is in ap (λ v. v.newer) (now j) ∙ (ap (λ o. (link_at (relink_newer links1 o n) j).newer) e ∙ (newer_set links1 n j (subst (IsWithin (length links1)) e y_within) ∙ n_is)))
      (λ j ne isnt. ap (λ v. v.newer) (now j) ∙ (newer_other links1 n y j (λ e. isnt (sym y_is ∙ e)) ∙ newer_same l.links y n n_within j))
      (λ j ne is. let e = n_is ∙ is in ap (λ v. v.older) (now j) ∙ (older_same links1 n y y_within j ∙ (ap (λ o. (link_at (relink_older l.links o y) j).older) e ∙ (older_set l.links y j (subst (IsWithin (lists_room l)) e n_within) ∙ y_is))))
      (λ j ne isnt. ap (λ v. v.older) (now j) ∙ (older_same links1 n y y_within j ∙ older_other l.links y n j (λ e. isnt (sym n_is ∙ e))))

-- the first list that has a tag
module _ (l : ListsState) (tags : List (Option FreeTag)) (x : IsLinked l tags) (powers : ArePowers tags) (list at : ℕ) (before : (p : ℕ) → list ≤ p → p < at → newest_of l p ≡ None) where
  not_before : (j : ℕ) (u : FreeTag) → tag_at tags j ≡ Some u → list ≤ u.power → at ≤ u.power
  not_before j u here from =
      ⊎_elim (λ lt. absurd (subst (IsNewestOf tags u.power) (before u.power from lt) (x.heads u.power (powers j u here)) j u here refl))
      (λ ge. ge) (cases_lt u.power at)

  pub first_listed : (k : ℕ) → list ≤ at → at < 64 → newest_of l at ≡ Some k → IsNewestFrom list tags (Some k)
  first_listed k from lt found =
      let is = subst (IsNewestOf tags at) found (x.heads at lt) in
      let power = is.2 in (
        is.0,
        is.1,
        omega (arith, from, power),
        λ j u here le. (let ge = not_before j u here le in omega (arith, ge, power), λ e. is.3 j u here (e ∙ power)),
      )

  pub never_listed : 64 ≤ at → IsNewestFrom list tags None
  never_listed all j u here =
      ⊎_elim (λ lt. lt) (λ from. let ge = not_before j u here from in let few = powers j u here in omega (arith, ge, few, all)) (cases_lt u.power list)

-- lists with nothing on them
pub none_linked : (l : ListsState) → ((p : ℕ) → p < 64 → newest_of l p ≡ None) → IsLinked l []
none_linked l none = record {
  heads = λ p lt. subst (IsNewestOf [] p) (sym (none p lt)) (λ j u here. absurd (None≢Some here));
  within = λ k t here. absurd (None≢Some here);
  newer = λ k t here. absurd (None≢Some here);
  older = λ k t here. absurd (None≢Some here);
}
