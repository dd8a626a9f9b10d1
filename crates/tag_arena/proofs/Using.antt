-- That no imported span is wholly free once a call is done.
use Rattle.std.proofs.Common.{◌≡◌, ◌≢◌, ℕ, ◌+◌, ◌-◌, ◌<◌, true, not, nat_eq, sym, subst, ap, ◌∙◌, ⊎_elim, List, [], ◌∷◌, ◌++◌, map, filter, Contains, All, arith}
use Rattle.std.proofs.lemmas.Bool.Decides.{nat_tests}
use Rattle.std.proofs.lemmas.List.Elements.{All-contains, Contains-append_right, Contains-push_cases}
use Rattle.std.specs.Int.{IsPowerOfTwo}
use Rattle.deed_core.specs.Extent.{Covers, IsRange}
use Rattle.deed_core.specs.Holding.{Holding}
use Rattle.deed_core.specs.Tag.{Tag}
use Rattle.tag_arena.specs.declared.policies.Policy.{Policy}
use Rattle.tag_arena.specs.Layout.{IsPartOf}
use Rattle.tag_arena.specs.ArenaState.{ArenaState, spans_of, layout_of, OnQuantum, IsDivided, IsSoundArena, empty_arena}
use Rattle.tag_arena.specs.Calls.{surrounds, ranges_without, without_span, after_carve, after_add, after_import, after_free, after_return, after_remove, IsClear}
use Rattle.tag_arena.proofs.Members.{All-from_members, Contains-from_filter}
use Rattle.tag_arena.proofs.Ranges.{same_where_shared, true-surrounds, Any-member, holds_part, not_both}
use Rattle.tag_arena.proofs.Carving.{new_cases}
use Rattle.tag_arena.proofs.Freeing.{not_true}
use Rattle.tag_arena.proofs.SpanLists.{Contains-map}
use Rattle.tag_arena.proofs.Sounding.{sound_empty, sound_add, apart}

-- no imported span is a free range
abbrev pub AreUsed : List Holding → List Tag → Type 0
AreUsed free imported = All (λ t. ¬ Contains free t.holding) imported

pub in_spans : (a : ArenaState) (t : Tag) → Contains a.imported t → Contains (spans_of a) t.holding
in_spans a t in-t = Contains-append_right a.owned (map (λ t. t.holding) a.imported) t.holding (Contains-map (λ t. t.holding) a.imported t in-t)

pub empty_sound : (id quantum : ℕ) (policy : Policy) → IsPowerOfTwo quantum → IsSoundArena (empty_arena id quantum policy)
empty_sound id quantum policy power = record { divided = sound_empty id quantum policy power; used = λ k d lt. absurd (omega (arith, lt)) }

-- a new span is none of those that were here
pub added_sound : (a : ArenaState) → IsSoundArena a → (h : Holding) → IsRange h.range → OnQuantum a.quantum h.range → IsClear a h.range → IsSoundArena (after_add a h)
added_sound a sound h range grid clear = record {
  divided = sound_add a sound.divided h range grid clear;
  used = All-from_members (λ t. ¬ Contains (a.free ++ h ∷ []) t.holding) a.imported (λ t in-t here.
      ⊎_elim (λ l. All-contains (λ t. ¬ Contains a.free t.holding) a.imported t sound.used in-t l)
      (λ (e : h ≡ t.holding).
      let some = range.some in
      let same : t.holding.range.base ≡ h.range.base = ap (λ (x : Holding). x.range.base) (sym e) in
      let len : t.holding.range.len ≡ h.range.len = ap (λ (x : Holding). x.range.len) (sym e) in
      not_both t.holding h h.range.base (apart a sound.divided h range grid clear t.holding (in_spans a t in-t)) (omega (arith, same), omega (arith, same, len, some)) (omega arith, omega (arith, some)))
      (Contains-push_cases a.free h t.holding here));
}

-- a carve: what is left of a free range is no whole span
module _ (a : ArenaState) (divided : IsDivided a) (r piece : Holding) (among : Contains a.free r) (held : IsPartOf r piece) (some : 0 < piece.range.len) where
  rest_is_none : (x : Holding) (u : ℕ) → Contains (spans_of a) x → Covers x.range u → Covers r.range u → x.range.len < r.range.len → ⊥
  rest_is_none x u in-x cx cr less =
      let s = (divided.whole.runs r among).run.inside in
      let h : IsPartOf s.1 r = s.4 in
      let same : s.1 ≡ x = same_where_shared (spans_of a) s.1 x u divided.whole.spans_apart (Any-member (spans_of a) s) in-x (omega (arith, h.from, h.to, cr), omega (arith, h.from, h.to, cr)) cx in
      let inside : IsPartOf x r = subst (λ (y : Holding). IsPartOf y r) same h in
      omega (arith, less, inside.from, inside.to)

  low_is_none : (x : Holding) → Contains (spans_of a) x → x.range.base ≡ r.range.base → x.range.len ≡ piece.range.base - r.range.base → r.range.base < piece.range.base → ⊥
  low_is_none x in-x base len lt = rest_is_none x r.range.base in-x (omega (arith, base), omega (arith, base, len, lt)) (omega arith, omega (arith, lt, held.to, some)) (omega (arith, len, lt, held.to, some))

  high_is_none : (x : Holding) → Contains (spans_of a) x → x.range.base ≡ piece.range.base + piece.range.len → x.range.len ≡ r.range.base + r.range.len - (piece.range.base + piece.range.len) → piece.range.base + piece.range.len < r.range.base + r.range.len → ⊥
  high_is_none x in-x base len lt = rest_is_none x x.range.base in-x (omega arith, omega (arith, base, len, lt)) (omega (arith, base, held.from), omega (arith, base, lt)) (omega (arith, len, lt, held.from, some))

  pub carved_used : ((t : Tag) → Contains a.imported t → Contains a.free t.holding → t.holding ≡ r) → AreUsed (after_carve a r piece).free a.imported
  carved_used whole = All-from_members (λ t. ¬ Contains (after_carve a r piece).free t.holding) a.imported (λ t in-t here.
      ⊎_elim (λ old. not_true (surrounds t.holding piece) old.1 (ap (λ (h : Holding). surrounds h piece) (whole t in-t old.0) ∙ true-surrounds r piece (holds_part r piece held)))
      (λ rest. ⊎_elim
      (λ l. low_is_none t.holding (in_spans a t in-t) (ap (λ (h : Holding). h.range.base) l.1) (ap (λ (h : Holding). h.range.len) l.1) l.0)
      (λ g. high_is_none t.holding (in_spans a t in-t) (ap (λ (h : Holding). h.range.base) g.1) (ap (λ (h : Holding). h.range.len) g.1) g.0)
      rest)
      (new_cases (layout_of a) divided.whole r piece among held some t.holding here))

-- a span that is imported is the one that is whole until its first units are carved
pub imported_whole : (a : ArenaState) → AreUsed a.free a.imported → (t w : Tag) → Contains (after_import a t).imported w → Contains (after_import a t).free w.holding → w.holding ≡ t.holding
imported_whole a used t w in-w free =
    ⊎_elim
    (λ old. ⊎_elim (λ l. absurd (All-contains (λ s. ¬ Contains a.free s.holding) a.imported w used old l)) (λ (e : t.holding ≡ w.holding). sym e) (Contains-push_cases a.free t.holding w.holding free))
    (λ (e : t ≡ w). ap (λ (s : Tag). s.holding) (sym e))
    (Contains-push_cases a.imported t w in-w)

-- a free
module _ (a : ArenaState) (used : AreUsed a.free a.imported) (piece merged : Holding) where
  pub freed_used : All (λ t. t.holding ≢ merged) a.imported → AreUsed (after_free a piece merged).free a.imported
  freed_used none = All-from_members (λ t. ¬ Contains (after_free a piece merged).free t.holding) a.imported (λ t in-t here.
      ⊎_elim (λ l. All-contains (λ s. ¬ Contains a.free s.holding) a.imported t used in-t (Contains-from_filter (λ x. not (surrounds merged x)) a.free t.holding l).0)
      (λ (e : merged ≡ t.holding). All-contains (λ s. s.holding ≢ merged) a.imported t none in-t (sym e))
      (Contains-push_cases (filter (λ x. not (surrounds merged x)) a.free) merged t.holding here))

  other_base : (x : Holding) → not (nat_eq x.range.base merged.range.base) ≡ true → merged ≡ x → ⊥
  other_base x e same = let base : x.range.base ≡ merged.range.base = ap (λ (h : Holding). h.range.base) (sym same) in grind (arith, nat_tests)

  pub returned_used : AreUsed (after_return (after_free a piece merged) merged).free (after_return (after_free a piece merged) merged).imported
  returned_used = All-from_members (λ t. ¬ Contains (after_return (after_free a piece merged) merged).free t.holding) (without_span merged a.imported) (λ t in-t here.
      let was = Contains-from_filter (λ (t : Tag). not (nat_eq t.holding.range.base merged.range.base)) a.imported t in-t in
      let there = Contains-from_filter (λ (x : Holding). not (nat_eq x.range.base merged.range.base)) (after_free a piece merged).free t.holding here in
      ⊎_elim (λ l. All-contains (λ s. ¬ Contains a.free s.holding) a.imported t used was.0 (Contains-from_filter (λ x. not (surrounds merged x)) a.free t.holding l).0)
      (λ (e : merged ≡ t.holding). other_base t.holding was.1 e)
      (Contains-push_cases (filter (λ x. not (surrounds merged x)) a.free) merged t.holding there.0))

-- an owned span that is taken out
pub removed_used : (a : ArenaState) → AreUsed a.free a.imported → (h : Holding) → AreUsed (after_remove a h).free a.imported
removed_used a used h = All-from_members (λ t. ¬ Contains (ranges_without h a.free) t.holding) a.imported (λ t in-t here.
    All-contains (λ s. ¬ Contains a.free s.holding) a.imported t used in-t (Contains-from_filter (λ (x : Holding). not (nat_eq x.range.base h.range.base)) a.free t.holding here).0)
