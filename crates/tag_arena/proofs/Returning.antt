-- A free in terms of the calls that make it, and an imported span that goes back.
use Rattle.std.proofs.Common.{◌≡◌, ◌≢◌, ℕ, zero, suc, ◌+◌, ◌%◌, ◌<◌, true, not, nat_eq, refl, sym, subst, ap, ◌∙◌, inl, inr, ⊎_elim, List, [], ◌∷◌, ◌++◌, map, length, get_or, remove, filter, HoldsAt, Contains, All, AllPairs, Any, Option, Some, None, IfSome, MatchOption, arith}
use Rattle.std.specs.Option.{IsSome, option_map_or}
use Rattle.std.proofs.lemmas.Bool.{cases_order}
use Rattle.std.proofs.lemmas.Bool.Decides.{nat_tests}
use Rattle.std.proofs.lemmas.List.{length-append, length-map}
use Rattle.std.proofs.lemmas.List.Elements.{All-contains, Contains-get_or, Contains-push, Contains-append_right}
use Rattle.std.proofs.lemmas.List.Sums.{sum_by_push}
use Rattle.std.specs.Ordering.{nat_cmp}
use Rattle.std.specs.FinMap as finmap
use Rattle.std.specs.FinMap.{FinMap}
use Rattle.deed_core.specs.Extent.{Extent, Covers, end_of}
use Rattle.deed_core.specs.Holding.{Holding, GoesOn, Apart}
use Rattle.deed_core.specs.Tag.{Tag}
use Rattle.deed_core.specs.declared.segments.Route.TheVariants.{Direct}
use Rattle.deed_core.specs.Covering.{covers, covers_held, covering_held}
use Rattle.tag_arena.specs.Layout.{IsPartOf, IsEdgedRun, IsLongestRun}
use Rattle.tag_arena.specs.ArenaState.{ArenaState, spans_of, layout_of, OnQuantum, IsDivided, IsSoundArena}
use Rattle.tag_arena.specs.Calls.{surrounds, ranges_without, without_span, after_free, after_return, Frees}
use Rattle.tag_arena.specs.Neighbors.{IsBeside, Merges, TakesLeft, TakesRight}
use Rattle.tag_arena.proofs.Members.{All-from_members, filter_one}
use Rattle.tag_arena.proofs.Ranges.{apart_or_share, same_where_shared, Any-member}
use Rattle.tag_arena.proofs.Counting.{covering-freed}
use Rattle.tag_arena.proofs.SpanLists.{without-remove, Contains-map, AllPairs-second}
use Rattle.tag_arena.proofs.Freeing.{longest_edged}
use Rattle.tag_arena.proofs.Merging.{IsLeft, IsRight, left_of, right_of, without_member, without_kept, merged_edged, merged_holds, others_are}
use Rattle.tag_arena.proofs.Using.{freed_used, returned_used}
use Rattle.tag_arena.proofs.Sounding.{sum_multiple, rest_multiple, power_some, span_some, sound_free, sound_return}

pub right_goes_on : (span piece : Holding) (mid new : List Holding) (o : Option Holding) → IsPartOf span piece → 0 < piece.range.len → All (IsBeside span) mid → TakesRight (end_of piece.range) (end_of span.range) mid o new → IfSome o (λ r. GoesOn piece r)
right_goes_on span piece mid new None inside some beside takes = tt
right_goes_on span piece mid new (Some r) inside some beside takes =
    let near = All-contains (IsBeside span) mid r beside (without_member mid new r takes.2) in
    let root : r.root ≡ piece.root = ⊎_elim (λ (h : IsPartOf span r). h.root ∙ sym inside.root) (λ apart. absurd (⊎_elim (λ le. omega (arith, takes.1, inside.from, some, near.0, le)) (λ le. omega (arith, takes.0, takes.1, le)) apart)) near.1 in
    record { root = sym root; meets = sym takes.1 }

pub mid_beside : (span : Holding) (start base : ℕ) (old mid : List Holding) (o : Option Holding) → All (IsBeside span) old → TakesLeft start base old o mid → All (IsBeside span) mid
mid_beside span start base old mid None beside takes = subst (λ (xs : List Holding). All (IsBeside span) xs) (sym takes.0) beside
mid_beside span start base old mid (Some r) beside takes = All-from_members (IsBeside span) mid (λ x in-x. All-contains (IsBeside span) old x beside (without_kept old mid r x takes.2 in-x))

pub goes_off_same : (o : Option Holding) (p d : Holding) → d.root ≡ p.root → end_of d.range ≡ end_of p.range → IfSome o (λ r. GoesOn p r) → IfSome o (λ r. GoesOn d r)
goes_off_same None p d root end h = tt
goes_off_same (Some r) p d root end h = record { root = root ∙ h.root; meets = end ∙ h.meets }

-- lists of what a function gives
pub get_or-map : {X Y : Type 0} (g : X → Y) (xs : List X) (k : ℕ) (d : X) → get_or (map g xs) k (g d) ≡ g (get_or xs k d)
get_or-map g [] zero d = refl
get_or-map g [] (suc k) d = refl
get_or-map g (x ∷ xs) zero d = refl
get_or-map g (x ∷ xs) (suc k) d = get_or-map g xs k d

pub remove-push : {X : Type 0} (xs : List X) (y : X) → remove (xs ++ y ∷ []) (length xs) ≡ xs
remove-push [] y = refl
remove-push (x ∷ xs) y = ap (λ ys. x ∷ ys) (remove-push xs y)

pub at-push : {X : Type 0} (xs : List X) (y d : X) → get_or (xs ++ y ∷ []) (length xs) d ≡ y
at-push [] y d = refl
at-push (x ∷ xs) y d = at-push xs y d

module _ (a : ArenaState) (sound : IsDivided a) (piece : Holding) (at : finmap.get a.allocated piece.range.base ≡ Some piece) where
  pub positive : 0 < piece.range.len
  positive = (sound.whole.tags_inside piece.range.base piece at).1

  span : Any (λ s. IsPartOf s piece) (spans_of a)
  span = (sound.whole.tags_inside piece.range.base piece at).2

  -- some span has the base
  pub has_span : (o : Option Holding) → MatchOption o (All (λ s. ¬ Covers s.range piece.range.base) (spans_of a)) (λ s. Contains (spans_of a) s × Covers s.range piece.range.base) → (s : Holding) × (o ≡ Some s) × Contains (spans_of a) s × Covers s.range piece.range.base
  has_span None none =
      let h : IsPartOf span.1 piece = span.4 in
      absurd (All-contains (λ s. ¬ Covers s.range piece.range.base) (spans_of a) span.1 none (Any-member (spans_of a) span) (h.from, omega (arith, h.to, positive)))
  has_span (Some s) h = (s, refl, h.0, h.1)

-- what is tagged, by what was read of a segment
pub tagged_is : (p h : Holding) (root : ℕ) (range : Extent) → p ≡ record { root = root; range = range } → root ≡ h.root → range ≡ h.range → p ≡ h
tagged_is p h root range is root_is range_is = is ∙ ap (λ (n : ℕ). record { root = n; range = range }) root_is ∙ ap (λ (e : Extent). record { root = h.root; range = e }) range_is

-- what a search among the spans has found, by what was read of them
pub spans_said : (a : ArenaState) (o : Option Holding) (owned : List Holding) (imported : List Tag) (base unit : ℕ) → owned ≡ a.owned → imported ≡ a.imported → base ≡ unit
    → MatchOption o (All (λ s. ¬ Covers s.range base) (owned ++ map (λ t. t.holding) imported)) (λ s. Contains (owned ++ map (λ t. t.holding) imported) s × Covers s.range base)
    → MatchOption o (All (λ s. ¬ Covers s.range unit) (spans_of a)) (λ s. Contains (spans_of a) s × Covers s.range unit)
spans_said a o owned imported base unit owned_is imported_is base_is said =
    let said_of = λ (spans : List Holding) (n : ℕ). MatchOption o (All (λ s. ¬ Covers s.range n) spans) (λ s. Contains spans s × Covers s.range n) in
    let spans : owned ++ map (λ t. t.holding) imported ≡ spans_of a = ap (λ (xs : List Holding). xs ++ map (λ t. t.holding) imported) owned_is ∙ ap (λ (ts : List Tag). a.owned ++ map (λ t. t.holding) ts) imported_is in
    subst (λ n. said_of (spans_of a) n) base_is (subst (λ xs. said_of xs base) spans said)

-- what a search among the imported spans has found, by what was read of them
pub place_said : (ts imported : List Tag) (span merged : Holding) (at : ℕ) → ts ≡ imported → span ≡ merged → (at < length ts) × HoldsAt (λ t. t.holding ≡ span) ts at
    → (at < length imported) × HoldsAt (λ t. t.holding ≡ merged) imported at
place_said ts imported span merged at ts_is span_is said =
    subst (λ (h : Holding). (at < length imported) × HoldsAt (λ t. t.holding ≡ h) imported at) span_is
    (subst (λ (xs : List Tag). (at < length xs) × HoldsAt (λ t. t.holding ≡ span) xs at) ts_is said)

pub none_said : (ts imported : List Tag) (span merged : Holding) → ts ≡ imported → span ≡ merged → All (λ t. t.holding ≢ span) ts → All (λ t. t.holding ≢ merged) imported
none_said ts imported span merged ts_is span_is said =
    subst (λ (h : Holding). All (λ t. t.holding ≢ h) imported) span_is (subst (λ (xs : List Tag). All (λ t. t.holding ≢ span) xs) ts_is said)

pub is_some : {X : Type 0} (o : Option X) (x : X) → o ≡ Some x → IsSome o
is_some o x same = subst IsSome (sym same) refl

-- what a match says where the value is there
some_there : {X : Type 0} (o : Option X) (A : Type 0) (B : X → Type 0) (x : X) → MatchOption o A B → o ≡ Some x → B x
some_there o A B x h e = subst (λ k. MatchOption k A B) e h

-- an allocated piece lies in a span
pub record LiesIn (a : ArenaState) (piece s : Holding) : Type 0 where
  pub sound : IsDivided a
  pub at : finmap.get a.allocated piece.range.base ≡ Some piece
  pub here : Contains (spans_of a) s
  pub covers : Covers s.range piece.range.base

-- so it is of the span that was found
pub lies_in : (a : ArenaState) (piece s : Holding) (o : Option Holding) → IsDivided a → finmap.get a.allocated piece.range.base ≡ Some piece
    → MatchOption o (All (λ t. ¬ Covers t.range piece.range.base) (spans_of a)) (λ t. Contains (spans_of a) t × Covers t.range piece.range.base) → o ≡ Some s → LiesIn a piece s
lies_in a piece s o sound at spans found =
    let there = some_there o _ (λ t. Contains (spans_of a) t × Covers t.range piece.range.base) s spans found in
    record { sound = sound; at = at; here = there.0; covers = there.1 }

module _ (a : ArenaState) (piece s : Holding) (lies : LiesIn a piece s) where
  some : 0 < piece.range.len
  some = positive a lies.sound piece lies.at

  around : Any (λ t. IsPartOf t piece) (spans_of a)
  around = span a lies.sound piece lies.at

  -- the span has the whole piece
  pub span_holds : IsPartOf s piece
  span_holds =
      let h : IsPartOf around.1 piece = around.4 in
      let same : around.1 ≡ s = same_where_shared (spans_of a) around.1 s piece.range.base lies.sound.whole.spans_apart (Any-member (spans_of a) around) lies.here (h.from, omega (arith, h.to, some)) lies.covers in
      subst (λ (y : Holding). IsPartOf y piece) same h

  -- a free range lies in the span or apart from it
  pub free_beside : All (IsBeside s) a.free
  free_beside = All-from_members (IsBeside s) a.free (λ r in-r.
      let run = (lies.sound.whole.runs r in-r).run in
      let t = run.inside in
      let ht : IsPartOf t.1 r = t.4 in (
        run.some,
        ⊎_elim inr
            (λ shared. let cr = shared.1 in inl (subst (λ (y : Holding). IsPartOf y r) (same_where_shared (spans_of a) t.1 s shared.0 lies.sound.whole.spans_apart (Any-member (spans_of a) t) lies.here (omega (arith, ht.from, cr), omega (arith, ht.to, cr)) shared.2) ht))
            (apart_or_share r s run.some (span_some a lies.sound s lies.here)),
      ))

  module _ (merged : Holding) (new : List Holding) (m : Merges s piece a.free merged new) where
    abbrev low : ℕ
    low = option_map_or (λ r. r.range.base) m.left piece.range.base

    abbrev high : ℕ
    high = option_map_or (λ r. end_of r.range) m.right (end_of piece.range)

    left : IsLeft (layout_of a) lies.sound.whole piece lies.at s lies.here span_holds low m.mid
    left = left_of (layout_of a) lies.sound.whole piece lies.at s lies.here span_holds m.left m.mid m.takes_left

    right : IsRight (layout_of a) lies.sound.whole piece lies.at s lies.here span_holds high m.mid new
    right = right_of (layout_of a) lies.sound.whole piece lies.at s lies.here span_holds low m.mid left m.right new m.takes_right

    edged : IsEdgedRun (spans_of a) (finmap.remove a.allocated piece.range.base) merged
    edged = merged_edged (layout_of a) lies.sound.whole piece lies.at s lies.here span_holds low m.mid left high new right merged m.root m.base m.end

    held : IsPartOf merged piece
    held = merged_holds (layout_of a) lies.sound.whole piece lies.at s lies.here span_holds low m.mid left high new right merged m.root m.base m.end

    longest : IsLongestRun (spans_of a) (finmap.remove a.allocated piece.range.base) merged
    longest = longest_edged (spans_of a) lies.sound.whole.spans_apart (finmap.remove a.allocated piece.range.base) merged edged

    pub others : filter (λ x. not (surrounds merged x)) a.free ≡ new
    others = others_are (layout_of a) lies.sound.whole piece lies.at s lies.here span_holds low m.mid left high new right merged m.root m.base m.end

    quantum_some : 0 < a.quantum
    quantum_some = power_some a.quantum lies.sound.power

    low_grid : (o : Option Holding) → TakesLeft s.range.base piece.range.base a.free o m.mid → option_map_or (λ r. r.range.base) o piece.range.base % a.quantum ≡ 0
    low_grid None h = (lies.sound.tag_grid piece.range.base piece lies.at).0
    low_grid (Some r) h = (lies.sound.free_grid r (without_member a.free m.mid r h.2)).0

    high_grid : (o : Option Holding) → TakesRight (end_of piece.range) (end_of s.range) m.mid o new → option_map_or (λ r. end_of r.range) o (end_of piece.range) % a.quantum ≡ 0
    high_grid None h = let g = lies.sound.tag_grid piece.range.base piece lies.at in sum_multiple piece.range.base piece.range.len a.quantum g.0 g.1
    high_grid (Some r) h = let g = lies.sound.free_grid r (left.kept r (without_member m.mid new r h.2)) in sum_multiple r.range.base r.range.len a.quantum g.0 g.1

    grid : OnQuantum a.quantum merged.range
    grid =
        let base : merged.range.base % a.quantum ≡ 0 = ap (λ k. k % a.quantum) m.base ∙ low_grid m.left m.takes_left in
        (base, rest_multiple merged.range.base merged.range.len a.quantum quantum_some base (ap (λ k. k % a.quantum) m.end ∙ high_grid m.right m.takes_right))

    -- what is left and the merged range cover what was free and the piece
    pub merge_covers : (u : ℕ) → covering_held u new + covers u merged.range ≡ covering_held u a.free + covers u piece.range
    merge_covers u = covering-freed u piece merged s a.free m.mid new m.left m.right m.takes_left m.takes_right m.base m.end left.below right.above

    free_is : (after_free a piece merged).free ≡ new ++ merged ∷ []
    free_is = ap (λ (xs : List Holding). xs ++ merged ∷ []) others

    pub freed_covers : (u : ℕ) → covering_held u (after_free a piece merged).free ≡ covering_held u a.free + covers u piece.range
    freed_covers u =
        let same : covering_held u (after_free a piece merged).free ≡ covering_held u (new ++ merged ∷ []) = ap (covering_held u) free_is in
        omega (arith, same, sum_by_push (covers_held u) new merged, merge_covers u)

    pub freed_sound : IsDivided (after_free a piece merged)
    freed_sound = sound_free a lies.sound piece merged lies.at edged held grid freed_covers

    pub freed_is_sound : IsSoundArena a → All (λ t. t.holding ≢ merged) a.imported → (now : ArenaState) → now ≡ after_free a piece merged → IsSoundArena now
    freed_is_sound sound none now is = subst IsSoundArena (sym is) (record { divided = freed_sound; used = freed_used a sound.used piece merged none })

    pub freed_is : (free : List Holding) (tags : FinMap nat_cmp Holding) → free ≡ new ++ merged ∷ [] → tags ≡ finmap.remove a.allocated piece.range.base → record a { free = free; allocated = tags } ≡ after_free a piece merged
    freed_is free tags free_eq tags_is =
        ap (λ (xs : List Holding). record a { free = xs; allocated = tags }) (free_eq ∙ sym free_is) ∙ ap (λ (n : FinMap nat_cmp Holding). record (after_free a piece merged) { allocated = n }) tags_is

    -- no imported span is whole
    pub frees : (now : ArenaState) → now ≡ after_free a piece merged → All (λ t. t.holding ≢ merged) a.imported → Frees a now piece None
    frees now is none = record { merged = merged; longest = longest; inside = held; after = (none, is) }

    -- or one is, and goes back
    module _ (k : ℕ) (within : k < length a.imported) (here : HoldsAt (λ t. t.holding ≡ merged) a.imported k) where
      abbrev sources : List Holding
      sources = map (λ t. t.holding) a.imported

      in_sources : Contains sources merged
      in_sources =
          let at_k : (d : Tag) → get_or sources k d.holding ≡ merged = λ d. get_or-map (λ t. t.holding) a.imported k d ∙ here d in
          (k, omega (arith, within, length-map a.imported (λ (t : Tag). t.holding)), at_k (record { arena = 0; route = Direct; holding = merged }))

      in_free : Contains (after_free a piece merged).free merged
      in_free = Contains-push (filter (λ x. not (surrounds merged x)) a.free) merged

      pub returned_sound : IsDivided (after_return (after_free a piece merged) merged)
      returned_sound = sound_return (after_free a piece merged) freed_sound merged (Contains-append_right a.owned sources merged in_sources) in_free in_sources

      pub returned_is_sound : IsSoundArena a → (now : ArenaState) → now ≡ after_return (after_free a piece merged) merged → IsSoundArena now
      returned_is_sound sound now is = subst IsSoundArena (sym is) (record { divided = returned_sound; used = returned_used a sound.used piece merged })

      -- what is left of the imported spans
      differs : (j : ℕ) (d : Tag) → j < length a.imported → j ≢ k → not (nat_eq (get_or a.imported j d).holding.range.base merged.range.base) ≡ true
      differs j d lt ne =
          let len : length sources ≡ length a.imported = length-map a.imported (λ (t : Tag). t.holding) in
          let apart : AllPairs Apart sources = AllPairs-second Apart a.owned sources lies.sound.whole.spans_apart in
          let x : Holding = (get_or a.imported j d).holding in
          let at_j : get_or sources j d.holding ≡ x = get_or-map (λ t. t.holding) a.imported j d in
          let at_k : get_or sources k d.holding ≡ merged = get_or-map (λ t. t.holding) a.imported k d ∙ here d in
          let in_x : Contains sources x = Contains-map (λ t. t.holding) a.imported (get_or a.imported j d) (Contains-get_or a.imported j d lt) in
          let px : 0 < x.range.len = span_some a lies.sound x (Contains-append_right a.owned sources x in_x) in
          let pm : 0 < merged.range.len = span_some a lies.sound merged (Contains-append_right a.owned sources merged in_sources) in
          let both : Apart x merged = elim (cases_order j k) [
            | inl e ↦ absurd (ne e)
            | inr (inl before) ↦ subst (λ (y : Holding). Apart y merged) at_j (subst (Apart (get_or sources j d.holding)) at_k (apart j k d.holding before (omega (arith, within, len))))
            | inr (inr after) ↦ ⊎_elim inr inl (subst (λ (y : Holding). Apart merged y) at_j (subst (λ (y : Holding). Apart y (get_or sources j d.holding)) at_k (apart k j d.holding after (omega (arith, lt, len)))))
          ] in
          grind (arith, nat_tests, px, pm, both)

      imported_is : remove a.imported k ≡ without_span merged a.imported
      imported_is = sym (filter_one (λ t. not (nat_eq t.holding.range.base merged.range.base)) a.imported k within
          (λ d. let e : (get_or a.imported k d).holding.range.base ≡ merged.range.base = ap (λ (y : Holding). y.range.base) (here d) in grind (arith, nat_tests)) differs)

      new_is : ranges_without merged (after_free a piece merged).free ≡ new
      new_is =
          let whole = freed_sound.whole in
          let rest : List Holding = filter (λ x. not (surrounds merged x)) a.free in
          let n : length (after_free a piece merged).free ≡ length rest + 1 = length-append rest (merged ∷ []) in
          sym (without-remove (after_free a piece merged).free (λ x in-x. (whole.runs x in-x).run.some) whole.free_apart merged in_free (length rest) (omega (arith, n)) (λ d. at-push rest merged d))
          ∙ remove-push rest merged ∙ others

      pub returned_is : (imported : List Tag) (tags : FinMap nat_cmp Holding) → imported ≡ remove a.imported k → tags ≡ finmap.remove a.allocated piece.range.base
          → record a { imported = imported; free = new; allocated = tags } ≡ after_return (after_free a piece merged) merged
      returned_is imported tags imported_eq tags_is =
          ap (λ (xs : List Tag). record a { imported = xs; free = new; allocated = tags }) (imported_eq ∙ imported_is)
          ∙ ap (λ (xs : List Holding). record a { imported = without_span merged a.imported; free = xs; allocated = tags }) (sym new_is)
          ∙ ap (λ (n : FinMap nat_cmp Holding). record (after_return (after_free a piece merged) merged) { allocated = n }) tags_is

      pub frees_back : (now : ArenaState) (t : Tag) → now ≡ after_return (after_free a piece merged) merged → t ≡ get_or a.imported k t → Frees a now piece (Some t)
      frees_back now t is there = record {
        merged = merged;
        longest = longest;
        inside = held;
        after = ((k, within, sym there), ap (λ (w : Tag). w.holding) there ∙ here t, is);
      }

-- the piece and its left neighbor go on to the right one
pub joins_right : (span piece low : Holding) (old mid new : List Holding) (l r : Option Holding) (start base end limit : ℕ) → start ≡ span.range.base → base ≡ piece.range.base → end ≡ end_of piece.range → limit ≡ end_of span.range
    → IsPartOf span piece → 0 < piece.range.len → All (IsBeside span) old → TakesLeft start base old l mid → TakesRight end limit mid r new → low.root ≡ piece.root → end_of low.range ≡ end_of piece.range → IfSome r (λ x. GoesOn low x)
joins_right span piece low old mid new l r start base end limit start_is base_is end_is limit_is inside some beside left right root end_same =
    goes_off_same r piece low root end_same
    (right_goes_on span piece mid new r inside some (mid_beside span start base old mid l beside left)
    (subst (λ (k : ℕ). TakesRight k (end_of span.range) mid r new) end_is (subst (λ (k : ℕ). TakesRight end k mid r new) limit_is right)))

-- segments of one arena, route and holding are seen alike
pub same_tag : (t w : Tag) → t.arena ≡ w.arena → t.route ≡ w.route → t.holding ≡ w.holding → t ≡ w
same_tag t w arena route holding = λ i. record { arena = arena i; route = route i; holding = holding i }
