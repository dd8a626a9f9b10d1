-- The arena's calls, in terms of the index of its free ranges.
use Rattle.std.proofs.Common.{◌≡◌, ◌≢◌, ℕ, ◌+◌, ◌<◌, Bool, true, refl, sym, ap, subst, ◌∙◌, inl, inr, ⊎_elim, List, [], ◌∷◌, ◌++◌, length, get_or, HoldsAt, All, AllPairs, Contains, Option, None, Some, IfSome, MatchBool, false, option_to_list, arith}
use Rattle.std.proofs.lemmas.List.Elements.{All-contains, at_from_Contains, Contains-append_left, Contains-append_right, Contains-get_or}
use Rattle.std.proofs.lemmas.List.{map-append}
use Rattle.std.specs.Ordering.{nat_cmp}
use Rattle.std.specs.FinMap as finmap
use Rattle.std.specs.FinMap.{FinMap}
use Rattle.deed_core.specs.Extent.{IsRange, Overlap, end_of}
use Rattle.deed_core.specs.Holding.{Holding, Apart}
use Rattle.deed_core.specs.Tag.{Tag}
use Rattle.deed_core.specs.Request.{rounding_of, IsGood}
use Rattle.deed_core.specs.declared.requests.Request.{Request}
use Rattle.tag_arena.specs.ArenaState.{ArenaState, IsDivided, IsSoundArena, spans_of}
use Rattle.tag_arena.specs.Calls.{part, rest_between, after_carve, IsClear}
use Rattle.tag_arena.specs.Layout.{Holds, IsPartOf}
use Rattle.tag_arena.specs.Neighbors.{Without}
use Rattle.tag_arena.proofs.Members.{All-from_members, Contains-head}
use Rattle.tag_arena.proofs.Granting.{CarvesAt, FoundAt, IsFoundAt, found_carves}
use Rattle.tag_arena.proofs.Importing.{Imports}
use Rattle.tag_arena.proofs.Ranges.{apart_or_share, between_is, same_where_shared}
use Rattle.tag_arena.proofs.Returning.{LiesIn, positive, span_holds}
use Rattle.tag_arena.proofs.Sounding.{sound_import}
use Rattle.tag_arena.proofs.Taking.{IsLowestAt}
use Rattle.tag_arena.proofs.SpanLists.{AllPairs-cross, AllPairs-first, AllPairs-second, Contains-map}
use Rattle.tag_arena.proofs.Using.{in_spans}
use Rattle.tag_arena.specs.declared.searches.Fit.{Fit}
use Rattle.tag_arena.specs.Cuts.{CarvesOut}
use Rattle.tag_arena.specs.Fits.{IsFit}
use Rattle.tag_arena.specs.Found.{IsCuttable}
use Rattle.tag_arena.specs.Spanned.{holdings_of, AreDisjoint, IsLowestFree}

-- what was found, with its place in the list
abbrev pub found_of : (free : List Holding) (f : Fit) → Contains free f.range → FoundAt
found_of free f among = record { at = (at_from_Contains free f.range among).0; range = f.range; base = f.base }

pub placed_of : (quantum : ℕ) (q : Request) (free : List Holding) (f : Fit) (fit : IsFit quantum q free f) → IsFoundAt quantum q free (found_of free f fit.among)
placed_of quantum q free f fit = let at = at_from_Contains free f.range fit.among in (at.1, at.2, fit.serves)

-- what was found for a good request can be carved there
pub fit_cuttable : (a : ArenaState) (q : Request) (f : Fit) (n : ℕ) → IsSoundArena a → IsGood a.quantum q → IsFit a.quantum q a.free f → n ≡ rounding_of a.quantum q.size → IsCuttable a.quantum a.free f n
fit_cuttable a q f n sound good fit n_is =
    let can = found_carves a q (found_of a.free f fit.among) n sound good (placed_of a.quantum q a.free f fit) n_is in
    record { among = fit.among; some = can.some; from = can.held.from; to = can.held.to; grid = can.grid }

pub cuttable_at : (a b : ArenaState) (f : Fit) (n : ℕ) → IsDivided a → a ≡ b → IsCuttable b.quantum b.free f n → (at : ℕ) × CarvesAt a at f.range (part f.range f.base n)
cuttable_at a b f n divided same can =
    let here : IsCuttable a.quantum a.free f n = subst (λ (s : ArenaState). IsCuttable s.quantum s.free f n) (sym same) can in
    let at = at_from_Contains a.free f.range here.among in (
      at.0,
      record {
        sound = divided;
        within = at.1;
        here = at.2;
        held = record { root = refl; from = here.from; to = here.to };
        some = here.some;
        grid = here.grid;
      },
    )

-- the arena after a carve
pub carve_done : (a : ArenaState) (r piece : Holding) (free : List Holding) (tags : FinMap nat_cmp Holding) → CarvesOut r piece a.free free → tags ≡ finmap.insert a.allocated piece.range.base piece
    → record a { free = free; allocated = tags; rover = end_of piece.range } ≡ after_carve a r piece
carve_done a r piece free tags free_is tags_is =
    ap (λ (xs : List Holding). record a { free = xs; allocated = tags; rover = end_of piece.range }) free_is
    ∙ ap (λ (m : FinMap nat_cmp Holding). record (after_carve a r piece) { allocated = m }) tags_is

-- an allocated piece is apart from each free range
module _ (a : ArenaState) (piece s : Holding) (lies : LiesIn a piece s) where
  some : 0 < piece.range.len
  some = positive a lies.sound piece lies.at

  pub free_clear : All (Apart piece) a.free
  free_clear =
      All-from_members (Apart piece) a.free
      (λ r in-r.
      let run = (lies.sound.whole.runs r in-r).run in
      ⊎_elim (λ apart. apart)
      (λ shared. absurd (run.free shared.0 shared.2 (piece.range.base, piece, lies.at, shared.1)))
      (apart_or_share piece r some run.some))

  -- where the merged range isn't the whole of a lent span, it is no imported span
  pub none_lent : (merged : Holding) → IsPartOf merged piece → ((t : Tag) → Contains a.imported t → t.holding ≡ s → s ≡ merged → ⊥) → All (λ t. t.holding ≢ merged) a.imported
  none_lent merged holds none =
      All-from_members (λ t. t.holding ≢ merged) a.imported
      (λ t in-t e.
      let inside = span_holds a piece s lies in
      let whole : IsPartOf t.holding piece = subst (λ (h : Holding). IsPartOf h piece) (sym e) holds in
      let same = same_where_shared (spans_of a) t.holding s piece.range.base lies.sound.whole.spans_apart (in_spans a t in-t) lies.here (whole.from, omega (arith, whole.to, some)) (inside.from, omega (arith, inside.to, some)) in
      none t in-t same (sym same ∙ e))

-- the spans don't overlap
pub disjoint_owned : (a : ArenaState) → IsDivided a → AreDisjoint a.owned
disjoint_owned a sound = record {
  apart = AllPairs-first Apart a.owned (holdings_of a.imported) sound.whole.spans_apart;
  ranges = All-from_members (λ s. IsRange s.range) a.owned (λ s h. All-contains (λ s. IsRange s.range) (spans_of a) s sound.spans (Contains-append_left a.owned (holdings_of a.imported) s h));
}

pub disjoint_imported : (a : ArenaState) → IsDivided a → AreDisjoint (holdings_of a.imported)
disjoint_imported a sound = record {
  apart = AllPairs-second Apart a.owned (holdings_of a.imported) sound.whole.spans_apart;
  ranges = All-from_members (λ s. IsRange s.range) (holdings_of a.imported) (λ s h. All-contains (λ s. IsRange s.range) (spans_of a) s sound.spans (Contains-append_right a.owned (holdings_of a.imported) s h));
}

-- a span that overlaps none ends where none does
pub ends_alone : (a : ArenaState) (h : Holding) (tags : List Tag) → IsDivided a → IsRange h.range → IsClear a h.range → ((s : Holding) → Contains (holdings_of tags) s → Contains (spans_of a) s) → All (λ t. end_of t.holding.range ≢ end_of h.range) tags
ends_alone a h tags sound range clear among =
    All-from_members (λ t. end_of t.holding.range ≢ end_of h.range) tags
    (λ t in-t e.
    let in-s = among t.holding (Contains-map (λ (t : Tag). t.holding) tags t in-t) in
    let some = (All-contains (λ s. IsRange s.range) (spans_of a) t.holding sound.spans in-s).some in
    let more = range.some in
    All-contains (λ s. ¬ Overlap s.range h.range) (spans_of a) t.holding clear in-s (omega (arith, e, more), omega (arith, e, some)))

-- the lowest whole span, with its places
pub lowest_at : (owned free new : List Holding) (w : Holding) (at : ℕ) → at < length owned → HoldsAt (λ s. s ≡ w) owned at → IsLowestFree owned free (Some w) → (out : Without free w new)
    → IsLowestAt owned free (record { at = at; free_at = out.0; span = w })
lowest_at owned free new w at within here so out = (
  within,
  here,
  out.1,
  out.2,
  λ k d from below in-free. so.2 (get_or owned k d) (Contains-get_or owned k d below) in-free,
)

-- what lies in a range that is apart from each free one is so too
pub clear_inside : (free : List Holding) (h r : Holding) → AllPairs Apart (free ++ h ∷ []) → Holds h r → All (Apart r) free
clear_inside free h r apart inside =
    All-from_members (Apart r) free
    (λ x in-x. ⊎_elim (λ le. inr (omega (arith, le, inside.from))) (λ le. inl (omega (arith, le, inside.to))) (AllPairs-cross Apart free (h ∷ []) apart x h in-x (Contains-head h [])))

-- so is the rest of a span that is imported
clear_rest : (a : ArenaState) (t : Tag) (n : ℕ) (k : Imports a t n) (o : Option Holding) → option_to_list o ≡ rest_between t.holding (t.holding.range.base + n) (end_of t.holding.range) → IfSome o (λ h. All (Apart h) a.free)
clear_rest a t n k None is = tt
clear_rest a t n k (Some h) is =
    let w = between_is t.holding (t.holding.range.base + n) (end_of t.holding.range) h (subst (λ l. Contains l h) is (Contains-head h [])) in
    let b : h.range.base ≡ t.holding.range.base + n = ap (λ x. x.range.base) w.1 in
    let e : end_of h.range ≡ end_of t.holding.range = ap (λ x. end_of x.range) w.1 ∙ omega (arith, w.0) in
    let added = sound_import a k.sound.divided t k.range k.aligned k.clear k.route in
    clear_inside a.free t.holding h added.whole.free_apart (record { from = omega (arith, b); to = omega (arith, e) })

pub clear_behind : (a : ArenaState) (t : Tag) (n : ℕ) (k : Imports a t n) (o : Option Holding) → option_to_list o ≡ rest_between t.holding (t.holding.range.base + n) (end_of t.holding.range)
    → (free : List Holding) → free ≡ a.free → IfSome o (λ h. All (Apart h) free)
clear_behind a t n k o is free same = subst (λ xs. IfSome o (λ h. All (Apart h) xs)) (sym same) (clear_rest a t n k o is)

-- a span that comes back whole was lent
pub lent_there : (A : Type 0) (B : Type 0) (lent : Bool) → MatchBool lent A B → lent ≡ true → A
lent_there A B true said lends = said
lent_there A B false said lends = absurd cc

pub not_lent : (imported : List Tag) (s merged : Holding) (lent : Bool) → MatchBool lent (Contains (holdings_of imported) s) (¬ Contains (holdings_of imported) s) → (lent ≡ true → merged ≢ s) → (t : Tag) → Contains imported t → t.holding ≡ s → s ≡ merged → ⊥
not_lent imported s merged true said other t in-t e same = other refl (sym same)
not_lent imported s merged false said other t in-t e same = said (subst (Contains (holdings_of imported)) e (Contains-map (λ (t : Tag). t.holding) imported t in-t))

-- one more span, by its range
pub held_more : (old grown new : List Tag) (t : Tag) (h : Holding) → new ≡ grown ++ t ∷ [] → grown ≡ old → t.holding ≡ h → holdings_of new ≡ holdings_of old ++ h ∷ []
held_more old grown new t h is same range =
    ap holdings_of is ∙ (map-append (λ (x : Tag). x.holding) grown (t ∷ []) ∙ (ap (λ (ts : List Tag). holdings_of ts ++ t.holding ∷ []) same ∙ ap (λ (x : Holding). holdings_of old ++ x ∷ []) range))
