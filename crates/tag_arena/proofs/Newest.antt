-- The newest range of the least list that serves.
use Rattle.std.proofs.Common.{◌≡◌, ℕ, add-one, ◌+◌, ◌-◌, ◌*◌, ◌^◌, ◌<◌, ◌≤◌, sym, ap, subst, ◌∙◌, ⊎_elim, List, length, get_or, Option, None, Some, arith}
use Rattle.std.proofs.Math.Nat.{pow-suc}
use Rattle.std.proofs.Math.Pow.{pow_mono}
use Rattle.std.proofs.lemmas.Nat.{pow-add}
use Rattle.std.proofs.lemmas.Bool.{cases_lt}
use Rattle.std.proofs.lemmas.List.{length-map, get_or-map}
use Rattle.std.proofs.lemmas.List.Elements.{Contains-get_or}
use Rattle.std.specs.Int.{IsPowerOfTwo}
use Rattle.deed_core.specs.Holding.{Holding}
use Rattle.tag_arena.specs.Choice.{OnList, ListServes, NoListServes, IsInstant}
use Rattle.tag_arena.proofs.PowerLists.{one_list}
use Rattle.tag_arena.specs.FreeTags.{FreeTag, range_of, since_of, tag_at, tags_by_age, ranges_by_age, AreTags, IsTimed}
use Rattle.tag_arena.specs.Linked.{IsNewestFrom}
use Rattle.tag_arena.proofs.Aging.{in_tags_by_age, from_tags_by_age, rises_by_age}
use Rattle.tag_arena.proofs.Fitting.{tag_of_free}
use Rattle.tag_arena.proofs.Indexing.{tag_of_range}
use Rattle.tag_arena.specs.Place.{Serves, ServesIn}
use Rattle.deed_core.specs.Request.{rounding_of}
use Rattle.deed_core.specs.declared.requests.Request.{Request}

next_power : (p : ℕ) → 2 ^ (p + 1) ≡ 2 * 2 ^ p
next_power p = ap (λ k. 2 ^ k) (add-one p) ∙ omega (arith, pow-suc 2 p)

some_power : (p : ℕ) → 0 < 2 ^ p
some_power p = let h = pow_mono {i = 0} {j = p} (omega arith) in omega (arith, h)

-- a power is least where the one below it is too small
pub least_power : (units k : ℕ) → 2 ^ k ≤ units - 1 → 1 < units → (p : ℕ) → units ≤ 2 ^ p → k + 1 ≤ p
least_power units k low some p large =
    ⊎_elim (λ lt. omega (arith, lt))
    (λ ge. let h = pow_mono {i = p} {j = k} ge in absurd (omega (arith, h, low, large, some))) (cases_lt k p)

module _ (quantum j : ℕ) (is : quantum ≡ 2 ^ j) where
  list_power : (i : ℕ) → 2 ^ i * quantum ≡ 2 ^ (i + j)
  list_power i = ap (λ n. 2 ^ i * n) is ∙ sym (pow-add 2 i j)

  next_list : (i : ℕ) → 2 ^ (i + 1) * quantum ≡ 2 * 2 ^ (i + j)
  next_list i =
      let a : 2 ^ (i + 1) * quantum ≡ 2 * 2 ^ i * quantum = ap (λ n. n * quantum) (next_power i) in
      omega (arith, a, list_power i)

  on_power : (r : Holding) (i p : ℕ) → OnList quantum r i → 2 ^ p ≤ r.range.len → r.range.len < 2 * 2 ^ p → p ≡ i + j
  on_power r i p on low high =
      one_list 1 r p (i + j) (omega (arith, low), omega (arith, high, next_power p))
      (omega (arith, on.0, list_power i), omega (arith, on.1, next_list i, next_power (i + j)))

  to_list : (r : Holding) (i p : ℕ) → p ≡ i + j → 2 ^ p ≤ r.range.len → r.range.len < 2 * 2 ^ p → OnList quantum r i
  to_list r i p e low high =
      let same : 2 ^ p ≡ 2 ^ (i + j) = ap (λ n. 2 ^ n) e in
      (omega (arith, low, same, list_power i), omega (arith, high, same, next_list i))

module _ (quantum units list clock : ℕ) (tags : List (Option FreeTag)) (power : IsPowerOfTwo quantum) (are : AreTags clock tags) (least : (p : ℕ) → units ≤ 2 ^ p → list ≤ p) where
  -- a tag whose list serves
  served_list : (k : ℕ) (u : FreeTag) (r : Holding) (i : ℕ) → tag_at tags k ≡ Some u → u.range ≡ r → OnList quantum r i → ListServes quantum units i → (u.power ≡ i + power.0) × (list ≤ u.power)
  served_list k u r i here is on serves =
      let h = are k u here in
      let e = on_power quantum power.0 power.1 u.range i u.power (subst (λ x. OnList quantum x i) (sym is) on) h.low h.high in
      let same : 2 ^ u.power ≡ 2 ^ (i + power.0) = ap (λ n. 2 ^ n) e in
      (e, least u.power (omega (arith, serves, list_power quantum power.0 power.1 i, same)))

  pub none_listed : IsNewestFrom list tags None → NoListServes quantum units (ranges_by_age tags)
  none_listed none r i h on serves =
      let w = tag_of_free tags r h in
      let l = served_list w.0 w.1 r i w.2 w.3 on serves in
      let below = none w.0 w.1 w.2 in
      omega (arith, below, l.1)

  module _ (large : units ≤ 2 ^ list) (some : quantum ≤ units) (timed : IsTimed tags) (k : ℕ) (first : IsNewestFrom list tags (Some k)) where
    abbrev t : FreeTag
    t = first.0

    roomy : units ≤ 2 ^ t.power
    roomy = let h = pow_mono {i = list} {j = t.power} first.2 in omega (arith, h, large)

    over : power.0 ≤ t.power
    over =
        ⊎_elim
        (λ lt. let h = pow_mono {i = t.power + 1} {j = power.0} (omega arith) in absurd (omega (arith, h, next_power t.power, some_power t.power, roomy, some, power.1)))
        (λ ge. ge) (cases_lt t.power power.0)

    pub is_newest : IsInstant quantum units (ranges_by_age tags) first.0.range
    is_newest =
        let j = power.0 in
        let i : ℕ = t.power - j in
        let back : t.power ≡ i + j = omega (arith, over) in
        let same : 2 ^ t.power ≡ 2 ^ (i + j) = ap (λ n. 2 ^ n) back in
        let mine = are k t first.1 in
        let c = in_tags_by_age tags k t first.1 in
        let long = length-map (tags_by_age tags) range_of in
        record {
          list = i;
          large = omega (arith, roomy, list_power quantum j power.1 i, same);
          least = λ r i2 h on serves.
              let w = tag_of_free tags r h in
              let l = served_list w.0 w.1 r i2 w.2 w.3 on serves in
              let low = (first.3 w.0 w.1 w.2 l.1).0 in
              omega (arith, low, l.0, back);
          index = c.0;
          within = omega (arith, c.1, long);
          here = λ d. get_or-map range_of (tags_by_age tags) c.0 t d c.1 ∙ ap range_of c.2;
          on_list = to_list quantum j power.1 t.range i t.power back mine.low mine.high;
          newest = λ k2 d from lt on.
              let inside : k2 < length (tags_by_age tags) = omega (arith, lt, long) in
              let u = get_or (tags_by_age tags) k2 t in
              let r = from_tags_by_age tags u (Contains-get_or (tags_by_age tags) k2 t inside) in
              let h = are r.0 u r.1 in
              let later = rises_by_age tags timed c.0 k2 t (omega (arith, from)) inside in
              let here = ap since_of c.2 in
              let p = on_power quantum j power.1 u.range i u.power (subst (λ x. OnList quantum x i) (get_or-map range_of (tags_by_age tags) k2 t d inside) on) h.low h.high in
              let its = first.2 in
              let old = (first.3 r.0 u r.1 (omega (arith, p, back, its))).1 (p ∙ sym back) in
              omega (arith, old, later, here);
        }

-- where each tag is on a lower list than that of so many units, no range serves
pub none_as_long : (clock p : ℕ) (tags : List (Option FreeTag)) → AreTags clock tags → ((k : ℕ) (t : FreeTag) → tag_at tags k ≡ Some t → t.power < p)
    → (quantum : ℕ) (q : Request) → 2 ^ p ≤ rounding_of quantum q.size → (base : ℕ) → Serves quantum q (ranges_by_age tags) base → ⊥
none_as_long clock p tags are lower quantum q long base serves =
    let w = tag_of_range tags (λ r. ServesIn quantum q r base) serves in
    let high = (are w.0 w.1 w.2).high in
    let low = lower w.0 w.1 w.2 in
    let s = w.3 in
    let power : 2 ^ (w.1.power + 1) ≤ 2 ^ p = pow_mono {i = w.1.power + 1} {j = p} (omega (arith, low)) in
    let twice = next_power w.1.power in
    let from = s.from in
    let to = s.to in
    omega (arith, high, power, twice, long, from, to)
