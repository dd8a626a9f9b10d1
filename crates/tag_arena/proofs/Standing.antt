-- What is allocated stands at its base, spans are there once, and an arena of which nothing is out holds no imported span.
use Rattle.std.proofs.Common.{◌≡◌, ◌≢◌, ℕ, suc, ◌<◌, ◌≤◌, Bool, true, false, cond, ◌&&◌, nat_eq, T, refl, sym, subst, ap, ◌∙◌, inl, inr, ⊎_elim, List, [], ◌∷◌, ◌++◌, map, Option, Some, None, Contains, All, AllPairs, sum_by, arith}
use Rattle.std.proofs.lemmas.List.Sums.{sum_by-cons}
use Rattle.std.proofs.lemmas.List.Elements.{All-contains}
use Rattle.std.proofs.lemmas.Bool.{cases_eq}
use Rattle.std.proofs.lemmas.Bool.Decides.{nat_tests}
use Rattle.std.specs.Ordering.{nat_cmp, is_lt, is_eq}
use Rattle.std.specs.Cmp.{unsigned_tied}
use Rattle.std.specs.declared.cmp.Ordering.{Ordering}
use Rattle.std.specs.declared.cmp.Ordering.TheVariants.{Less, Equal, Greater}
use Rattle.std.specs.FinMap.{get, entries, entries_sorted, get-entries, find, is_sorted}
use Rattle.std.specs.FinMap.Entries.{below_all}
use Rattle.deed_core.specs.Extent.{Covers}
use Rattle.deed_core.specs.Holding.{Holding, Apart}
use Rattle.deed_core.specs.Tag.{Tag}
use Rattle.deed_core.specs.Weights.{one_at}
use Rattle.deed_core.specs.Covering.{covers, covers_held, covering_held}
use Rattle.deed_core.proofs.LawProofs.{covers_is, same_holding, counts_where_it_is}
use Rattle.tag_arena.specs.Layout.{Holds, IsPartOf, IsAllocated, IsRun}
use Rattle.tag_arena.specs.ArenaState.{ArenaState, spans_of, layout_of, ranges_of, tags_of, direct_tag, IsSoundArena}
use Rattle.tag_arena.specs.Calls.{IsTagged}
use Rattle.tag_arena.specs.Laws.{AllocatedStand, AllocatedCount, SpansOnce, FreeAreLongestRuns, GoesEmpty}
use Rattle.tag_arena.proofs.Members.{Contains-head, Contains-tail, Contains-cases, Contains-nil, AllPairs-head, AllPairs-tail}
use Rattle.tag_arena.proofs.Ranges.{Any-member, member-Any, same_where_shared}
use Rattle.tag_arena.proofs.Reporting.{free_is_longest_runs}
use Rattle.tag_arena.proofs.Returning.{same_tag}
use Rattle.tag_arena.proofs.Sounding.{span_some}
use Rattle.tag_arena.proofs.SpanLists.{Contains-map, Contains-from_map}
use Rattle.tag_arena.proofs.Using.{in_spans}

pub free_are_longest_runs : FreeAreLongestRuns
free_are_longest_runs a sound = free_is_longest_runs (layout_of a) sound.divided.whole

-- a sorted list of entries, and what a look-up finds there
below_one : (r : Ordering) (b : Bool) (v : Holding) (o : Option Holding) → T (is_lt r && b) → (T b → o ≡ None) → cond (is_eq r) (Some v) o ≡ None
below_one Less b v o h rest = rest h
below_one Equal b v o h rest = absurd h
below_one Greater b v o h rest = absurd h

below_none : (x : ℕ) (es : List (ℕ × Holding)) → T (below_all nat_cmp x es) → find nat_cmp x es ≡ None
below_none x [] h = refl
below_none x (e ∷ es) h = below_one (nat_cmp x e.0) (below_all nat_cmp x es) e.1 (find nat_cmp x es) h (below_none x es)

first_of : (a b : Bool) → T (a && b) → T a
first_of true b h = tt
first_of false b h = absurd h

second_of : (a b : Bool) → T (a && b) → T b
second_of true b h = h
second_of false b h = absurd h

found_past : (q : ℕ) (e : ℕ × Holding) (es : List (ℕ × Holding)) → q ≢ e.0 → find nat_cmp q (e ∷ es) ≡ find nat_cmp q es
found_past q e es ne = ap (λ b. cond b (Some e.1) (find nat_cmp q es)) (unsigned_tied q e.0 ∙ other)
  where
    other : nat_eq q e.0 ≡ false
    other = grind (arith, nat_tests)

found_first : (e : ℕ × Holding) (es : List (ℕ × Holding)) → find nat_cmp e.0 (e ∷ es) ≡ Some e.1
found_first e es = ap (λ b. cond b (Some e.1) (find nat_cmp e.0 es)) (unsigned_tied e.0 e.0 ∙ itself)
  where
    itself : nat_eq e.0 e.0 ≡ true
    itself = grind (arith, nat_tests)

none_some : (o : Option Holding) (v : Holding) → o ≡ None → o ≡ Some v → ⊥
none_some o v none some = (let e : None ≡ Some v = sym none ∙ some in cc)

member_found : (es : List (ℕ × Holding)) (e : ℕ × Holding) → T (is_sorted nat_cmp es) → Contains es e → find nat_cmp e.0 es ≡ Some e.1
member_found [] e sorted in-e = absurd (Contains-nil e in-e)
member_found (x ∷ es) e sorted in-e =
    ⊎_elim (λ (same : x ≡ e). subst (λ (y : ℕ × Holding). find nat_cmp y.0 (x ∷ es) ≡ Some y.1) same (found_first x es))
    (λ later.
    let there = member_found es e (second_of _ _ sorted) later in
    elim (cases_eq e.0 x.0) as (λ _. find nat_cmp e.0 (x ∷ es) ≡ Some e.1) [
      | inl same ↦ absurd (none_some (find nat_cmp x.0 es) e.1 (below_none x.0 es (first_of _ _ sorted)) (ap (λ k. find nat_cmp k es) (sym same) ∙ there))
      | inr ne ↦ found_past e.0 x es ne ∙ there
    ])
    (Contains-cases x e es in-e)

kept_by : (b : Bool) (v h : Holding) (o : Option Holding) (hs : List Holding) → cond b (Some v) o ≡ Some h → (o ≡ Some h → Contains hs h) → Contains (v ∷ hs) h
kept_by true v h o hs is later = (let same : v ≡ h = cc in subst (Contains (v ∷ hs)) same (Contains-head v hs))
kept_by false v h o hs is later = Contains-tail v h hs (later is)

found_member : (k : ℕ) (es : List (ℕ × Holding)) (h : Holding) → find nat_cmp k es ≡ Some h → Contains (map (λ e. e.1) es) h
found_member k [] h is = absurd (let e : None ≡ Some h = is in cc)
found_member k (e ∷ es) h is = kept_by (is_eq (nat_cmp k e.0)) e.1 h (find nat_cmp k es) (map (λ e. e.1) es) is (found_member k es h)

module _ (a : ArenaState) where
  -- what stands is among the ranges, and the other way round
  pub standing_in : (k : ℕ) (h : Holding) → get a.allocated k ≡ Some h → Contains (ranges_of a.allocated) h
  standing_in k h at = found_member k (entries a.allocated) h (sym (get-entries a.allocated k) ∙ at)

  pub in_stands : IsSoundArena a → (h : Holding) → Contains (ranges_of a.allocated) h → get a.allocated h.range.base ≡ Some h
  in_stands sound h in-h =
      let e = Contains-from_map (λ (e : ℕ × Holding). e.1) (entries a.allocated) h in-h in
      let at : get a.allocated e.0.0 ≡ Some e.0.1 = get-entries a.allocated e.0.0 ∙ member_found (entries a.allocated) e.0 (entries_sorted a.allocated) e.1 in
      let base : e.0.1.range.base ≡ e.0.0 = (sound.divided.whole.tags_inside e.0.0 e.0.1 at).0 in
      subst (λ (x : Holding). get a.allocated x.range.base ≡ Some x) e.2 (ap (get a.allocated) base ∙ at)

  tagged_in : (t : Tag) → IsTagged a t → Contains (tags_of a) t
  tagged_in t is = subst (Contains (tags_of a)) (sym (same_tag t (direct_tag a.id t.holding) is.arena is.route refl)) (Contains-map (direct_tag a.id) (ranges_of a.allocated) t.holding (standing_in t.holding.range.base t.holding is.stands))

  in_tagged : IsSoundArena a → (t : Tag) → Contains (tags_of a) t → IsTagged a t
  in_tagged sound t in-t =
      let h = Contains-from_map (direct_tag a.id) (ranges_of a.allocated) t in-t in
      let stands = in_stands sound h.0 h.1 in
      subst (IsTagged a) h.2 (record { arena = refl; route = refl; stands = stands })

pub allocated_stand : AllocatedStand
allocated_stand a t sound = (in_tagged a sound t, tagged_in a t)

pub allocated_count : AllocatedCount
allocated_count a t sound =
    let counts = counts_where_it_is t (tags_of a) in (
      λ is. counts.1 (tagged_in a t is),
      λ none. elim (cases_eq (sum_by (one_at t) (tags_of a)) 0) [
        | inl e ↦ e
        | inr ne ↦ absurd (none (in_tagged a sound t (counts.0 (omega arith))))
      ],
    )

-- ranges that don't overlap cover a unit once at most
apart_none : (u : ℕ) (s : Holding) (xs : List Holding) → Covers s.range u → All (Apart s) xs → covering_held u xs ≡ 0
apart_none u s [] here apart = refl
apart_none u s (x ∷ xs) here apart =
    let first : Apart s x = apart 0 s (omega arith) in
    let none : covers u x.range ≡ 0 = grind (arith, covers_is u x.range, first, here) in
    let rest = apart_none u s xs here (λ k d lt. apart (suc k) d (omega arith)) in
    omega (arith, sum_by-cons (covers_held u) x xs, none, rest)

pub apart_once : (u : ℕ) (xs : List Holding) → AllPairs Apart xs → covering_held u xs ≤ 1
apart_once u [] apart = omega arith
apart_once u (x ∷ xs) apart =
    let rest = apart_once u xs (AllPairs-tail Apart x xs apart) in
    elim (covers_is u x.range) [
      | inl here ↦ (let none = apart_none u x xs (here.1, here.2) (AllPairs-head Apart x xs apart) in omega (arith, sum_by-cons (covers_held u) x xs, here.0, none))
      | inr off ↦ omega (arith, sum_by-cons (covers_held u) x xs, off.0, rest)
    ]

pub spans_once : SpansOnce
spans_once a sound u = apart_once u (spans_of a) sound.divided.whole.spans_apart

-- nothing is allocated
module _ (a : ArenaState) (sound : IsSoundArena a) (none : tags_of a ≡ []) where
  none_allocated : (u : ℕ) → IsAllocated a.allocated u → ⊥
  none_allocated u al =
      let in-t : Contains (tags_of a) (direct_tag a.id al.1) = Contains-map (direct_tag a.id) (ranges_of a.allocated) al.1 (standing_in a al.0 al.1 al.2) in
      Contains-nil (direct_tag a.id al.1) (subst (λ (ts : List Tag). Contains ts (direct_tag a.id al.1)) none in-t)

  span_run : (s : Holding) → Contains (spans_of a) s → IsRun (spans_of a) a.allocated s
  span_run s in-s = record {
    some = span_some a sound.divided s in-s;
    inside = member-Any (λ x. IsPartOf x s) (spans_of a) s in-s (record { root = refl; from = omega arith; to = omega arith });
    free = λ u covered al. none_allocated u al;
  }

  span_longest : (s : Holding) → Contains (spans_of a) s → (r : Holding) → IsRun (spans_of a) a.allocated r → Holds r s → r ≡ s
  span_longest s in-s r run holds =
      let some : 0 < s.range.len = span_some a sound.divided s in-s in
      let w = run.inside in
      let h : IsPartOf w.1 r = w.4 in
      let same : w.1 ≡ s = same_where_shared (spans_of a) w.1 s s.range.base sound.divided.whole.spans_apart (Any-member (spans_of a) w) in-s (omega (arith, h.from, holds.from), omega (arith, h.to, holds.to, some)) (omega arith, omega (arith, some)) in
      let inside : IsPartOf s r = subst (λ (y : Holding). IsPartOf y r) same h in
      same_holding r s inside.root (omega (arith, inside.from, holds.from)) (omega (arith, inside.from, holds.from, inside.to, holds.to))

  span_free : (s : Holding) → Contains (spans_of a) s → Contains a.free s
  span_free s in-s = (free_is_longest_runs (layout_of a) sound.divided.whole s).1 (record { run = span_run s in-s; longest = span_longest s in-s })

  none_in : (ts : List Tag) → ((t : Tag) → Contains ts t → ⊥) → ts ≡ []
  none_in [] out = refl
  none_in (t ∷ ts) out = absurd (out t (Contains-head t ts))

  no_imports : a.imported ≡ []
  no_imports = none_in a.imported (λ t in-t. All-contains (λ t. ¬ Contains a.free t.holding) a.imported t sound.used in-t (span_free t.holding (in_spans a t in-t)))

  no_free : (rs : List Holding) → ((r : Holding) → Contains rs r → ⊥) → rs ≡ []
  no_free [] out = refl
  no_free (r ∷ rs) out = absurd (out r (Contains-head r rs))

  pub gone : (a.imported ≡ []) × (a.owned ≡ [] → a.free ≡ [])
  gone = (
    no_imports,
    λ owned. no_free a.free (λ r in-r.
        let w = (sound.divided.whole.runs r in-r).run.inside in
        let spans : spans_of a ≡ [] = ap (λ (xs : List Holding). xs ++ map (λ t. t.holding) a.imported) owned ∙ ap (λ (ts : List Tag). map (λ t. t.holding) ts) no_imports in
        Contains-nil w.1 (subst (λ (xs : List Holding). Contains xs w.1) spans (Any-member (spans_of a) w))),
  )

pub goes_empty : GoesEmpty
goes_empty a sound none = gone a sound none
