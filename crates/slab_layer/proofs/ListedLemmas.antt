-- Slabs whose bases are listed, after a change of one of them.
use Rattle.std.proofs.Common.{◌≡◌, ℕ, suc, ◌+◌, ◌<◌, ◌≤◌, Bool, true, false, cond, List, [], ◌∷◌, ◌++◌, length, get_or, set, take, drop, map, All, AllPairs, insert, remove, refl, sym, ap, ◌∙◌, arith, subst}
use Rattle.std.specs.List.{filter}
use Rattle.std.proofs.Math.Seq.{drop-cons}
use Rattle.std.proofs.lemmas.List.{take-append-drop, take-set, drop-set, length-map, length-take, length-drop, length-set, map-append, length-append, get_or-take, get_or-drop, get_or_default}
use Rattle.std.proofs.lemmas.List.Sums.{length-filter, count_by-le-length}
use Rattle.std.proofs.lemmas.List.Edits.{length-remove, length-insert}
use Rattle.std.proofs.lemmas.List.Elements.{All-set, All-head, All-tail, All-cons, All-nil, filter-append}
use Rattle.std.proofs.lemmas.List.Quantifiers.{all_pairs_remove}
use Rattle.deed_core.specs.Extent.{end_of}
use Rattle.slab_layer.specs.declared.standings.Standing.{Standing}
use Rattle.slab_layer.specs.declared.standings.Standing.TheVariants.{AllOut}
use Rattle.slab_layer.specs.Slab.{SlabState}
use Rattle.slab_layer.specs.Standings.{standing_of, lists_partial, lists_complete}
use Rattle.slab_layer.specs.Cache.{IsBelow}
use Rattle.slab_layer.specs.Bases.{base_if, bases_where, AreBeside, IsAround, IdleState, ListsAt, AreListed}
use Rattle.slab_layer.proofs.ListLemmas.{pairs_set, pairs_insert, all_insert, all_remove}

abbrev pub base_of : SlabState → ℕ
base_of s = s.span.range.base

-- the bases of some slabs and of others behind them
bases_both : (has : Standing → Bool) (xs ys : List SlabState) → bases_where has (xs ++ ys) ≡ bases_where has xs ++ bases_where has ys
bases_both has xs ys = ap (map base_of) (filter-append (λ (s : SlabState). has (standing_of s)) xs ys) ∙ map-append base_of (filter (λ (s : SlabState). has (standing_of s)) xs) (filter (λ (s : SlabState). has (standing_of s)) ys)

bases_next : (has : Standing → Bool) (s : SlabState) (ys : List SlabState) → bases_where has (s ∷ ys) ≡ base_if (has (standing_of s)) (base_of s) ++ bases_where has ys
bases_next has s ys =
    let rest : List SlabState = filter (λ (x : SlabState). has (standing_of x)) ys in
    elim (has (standing_of s)) as (λ b. map base_of (cond b (s ∷ rest) rest) ≡ base_if b (base_of s) ++ map base_of rest) [ true ↦ refl | false ↦ refl ]

bases_split : (has : Standing → Bool) (xs : List SlabState) (s : SlabState) (ys : List SlabState) → bases_where has (xs ++ (s ∷ ys)) ≡ bases_where has xs ++ (base_if (has (standing_of s)) (base_of s) ++ bases_where has ys)
bases_split has xs s ys = bases_both has xs (s ∷ ys) ∙ ap (λ (zs : List ℕ). bases_where has xs ++ zs) (bases_next has s ys)

-- what holds of the slabs holds of the bases listed
all_bases : (P : ℕ → Type 0) (has : Standing → Bool) (slabs : List SlabState) → All (λ s. P (base_of s)) slabs → All P (bases_where has slabs)
all_bases P has [] all = All-nil P
all_bases P has (s ∷ ss) all =
    let rest : All P (bases_where has ss) = all_bases P has ss (All-tail (λ x. P (base_of x)) s ss all) in
    let others : List SlabState = filter (λ (x : SlabState). has (standing_of x)) ss in
    elim (has (standing_of s)) as (λ b. All P (map base_of (cond b (s ∷ others) others))) [
      | true ↦ All-cons P (base_of s) (bases_where has ss) (All-head (λ x. P (base_of x)) s ss all) rest
      | false ↦ rest
    ]

pub bases_around : (has : Standing → Bool) (low : List SlabState) (base : ℕ) (high : List SlabState) → AreBeside low base high → IsAround base (bases_where has low) (bases_where has high)
bases_around has low base high beside = record { below = all_bases (λ b. b < base) has low beside.below; above = all_bases (λ b. base < b) has high beside.above }

-- a list of some of the slabs is no longer than that of all
few_bases : (has : Standing → Bool) (slabs : List SlabState) → length (bases_where has slabs) ≤ length slabs
few_bases has slabs =
    let some : List SlabState = filter (λ (x : SlabState). has (standing_of x)) slabs in
    omega (arith, length-map some base_of, length-filter (λ (x : SlabState). has (standing_of x)) slabs, count_by-le-length (λ (x : SlabState). has (standing_of x)) slabs)

-- so there is room for a base that isn't listed
pub room_listed : (has : Standing → Bool) (low : List SlabState) (base : ℕ) (high : List SlabState) (xs : List ℕ) (was : Bool) (room : ℕ) → xs ≡ bases_where has low ++ (base_if was base ++ bases_where has high) → was ≡ false → length low + length high < room → length xs < room
room_listed has low base high xs was room is out fits =
    let none : base_if was base ++ bases_where has high ≡ bases_where has high = rw out refl in
    let both = length-append (bases_where has low) (base_if was base ++ bases_where has high) in
    omega (arith, ap length is, both, ap length none, few_bases has low, few_bases has high, fits)

-- the slabs are those below one, that one, and those above it
pub slab_parts : (slabs : List SlabState) (i : ℕ) (s : SlabState) → i < length slabs → s ≡ get_or slabs i s → slabs ≡ take i slabs ++ (s ∷ drop (suc i) slabs)
slab_parts slabs i s within is = sym (take-append-drop i slabs) ∙ ap (λ (xs : List SlabState). take i slabs ++ xs) (drop-cons slabs i s within ∙ ap (λ (r : SlabState). r ∷ drop (suc i) slabs) (sym is))

set_parts : (slabs : List SlabState) (i : ℕ) (v : SlabState) → i < length slabs → set slabs i v ≡ take i slabs ++ (v ∷ drop (suc i) slabs)
set_parts slabs i v within =
    let e : i + 1 ≡ suc i = omega arith in
    let back : drop i (set slabs i v) ≡ v ∷ drop (suc i) slabs = drop-set slabs i v within ∙ ap (λ (n : ℕ). v ∷ drop n slabs) e in
    sym (take-append-drop i (set slabs i v)) ∙ ap (λ (xs : List SlabState). xs ++ drop i (set slabs i v)) (take-set slabs i v) ∙ ap (λ (xs : List SlabState). take i slabs ++ xs) back

-- the lower slabs have lower bases, the higher ones higher
pub beside_slab : (slabs : List SlabState) (i : ℕ) (s : SlabState) → AllPairs IsBelow slabs → All (λ x. 0 < x.span.range.len) slabs → i < length slabs → s ≡ get_or slabs i s → AreBeside (take i slabs) (base_of s) (drop (suc i) slabs)
beside_slab slabs i s ascending some within is = record {
  below = λ k d in_front.
      let k_at : k < i = omega (arith, length-take i slabs, in_front) in
      rw (get_or-take i slabs k d k_at) (
      let e : s ≡ get_or slabs i d = is ∙ get_or_default slabs i s d within in
      let up : IsBelow (get_or slabs k d) (get_or slabs i d) = ascending k i d k_at within in
      let more : 0 < (get_or slabs k d).span.range.len = some k d (omega arith) in
      rw e (omega (arith, up, more))
      );
  above = λ k d in_back.
      let in_slabs : suc i + k < length slabs = omega (arith, length-drop (suc i) slabs, in_back) in
      rw (get_or-drop (suc i) slabs k d) (
      let e : s ≡ get_or slabs i d = is ∙ get_or_default slabs i s d within in
      let up : IsBelow (get_or slabs i d) (get_or slabs (suc i + k) d) = ascending i (suc i + k) d (omega arith) in_slabs in
      let more : 0 < (get_or slabs i d).span.range.len = some i d within in
      rw e (omega (arith, up, more))
      );
}

pub beside_gap : (slabs : List SlabState) (i : ℕ) (v : SlabState) → All (λ x. 0 < x.span.range.len) slabs → 0 < v.span.range.len → All (λ s. end_of s.span.range ≤ base_of v) (take i slabs) → All (λ s. end_of v.span.range ≤ base_of s) (drop i slabs)
    → AreBeside (take i slabs) (base_of v) (drop i slabs)
beside_gap slabs i v some more below above = record {
  below = λ k d in_front.
      let k_at : k < i = omega (arith, length-take i slabs, in_front) in
      let units : 0 < (get_or slabs k d).span.range.len = some k d (omega (arith, length-take i slabs, in_front)) in
      let units' : 0 < (get_or (take i slabs) k d).span.range.len = rw (get_or-take i slabs k d k_at) units in
      omega (arith, below k d in_front, units');
  above = λ k d in_back. omega (arith, above k d in_back, more);
}

-- the lists of listed slabs, about one that stands among them, or where there is none
pub lists_slab : (slabs : List SlabState) (idle : IdleState) (i : ℕ) (s : SlabState) → AreListed slabs idle → i < length slabs → s ≡ get_or slabs i s → ListsAt (take i slabs) (base_of s) (standing_of s) (drop (suc i) slabs) idle
lists_slab slabs idle i s listed within is =
    let parts = slab_parts slabs i s within is in
    record {
      partial = listed.partial ∙ ap (bases_where lists_partial) parts ∙ bases_split lists_partial (take i slabs) s (drop (suc i) slabs);
      complete = listed.complete ∙ ap (bases_where lists_complete) parts ∙ bases_split lists_complete (take i slabs) s (drop (suc i) slabs);
    }

pub lists_gap : (slabs : List SlabState) (idle : IdleState) (i base : ℕ) → AreListed slabs idle → ListsAt (take i slabs) base AllOut (drop i slabs) idle
lists_gap slabs idle i base listed =
    let parts : slabs ≡ take i slabs ++ drop i slabs = sym (take-append-drop i slabs) in
    record {
      partial = listed.partial ∙ ap (bases_where lists_partial) parts ∙ bases_both lists_partial (take i slabs) (drop i slabs);
      complete = listed.complete ∙ ap (bases_where lists_complete) parts ∙ bases_both lists_complete (take i slabs) (drop i slabs);
    }

-- there is room for one more
pub room_beside : (slabs : List SlabState) (i room : ℕ) → i < length slabs → length slabs ≤ room → length (take i slabs) + length (drop (suc i) slabs) < room
room_beside slabs i room within fits = omega (arith, length-take i slabs, length-drop (suc i) slabs)

pub room_in_gap : (slabs : List SlabState) (i room : ℕ) → length slabs < room → length (take i slabs) + length (drop i slabs) < room
room_in_gap slabs i room fits = omega (arith, length-take i slabs, length-drop i slabs)

-- slabs by ascending base, with one of them changed that keeps its span
rise_set : (slabs : List SlabState) (i : ℕ) (s v : SlabState) → AllPairs IsBelow slabs → i < length slabs → s ≡ get_or slabs i s → v.span ≡ s.span → AllPairs IsBelow (set slabs i v)
rise_set slabs i s v ascending within is same =
    let e : (d : SlabState) → get_or slabs i d ≡ s = λ d. get_or_default slabs i d s within ∙ sym is in
    pairs_set IsBelow slabs i v within
    (λ d t below. let under : IsBelow s t = subst (λ (r : SlabState). IsBelow r t) (e d) below in rw same under)
    (λ d t below. let under : IsBelow t s = subst (λ (r : SlabState). IsBelow t r) (e d) below in rw same under)
    ascending

-- listed slabs, after a change
pub listed_set : (slabs : List SlabState) (old new : IdleState) (i : ℕ) (s v : SlabState) → AreListed slabs old → i < length slabs → s ≡ get_or slabs i s → v.span ≡ s.span → ListsAt (take i slabs) (base_of v) (standing_of v) (drop (suc i) slabs) new → new.room ≡ old.room
    → AreListed (set slabs i v) new
listed_set slabs old new i s v listed within is same lists room =
    let parts = set_parts slabs i v within in
    let units : 0 < s.span.range.len = subst (λ (r : SlabState). 0 < r.span.range.len) (sym is) (listed.some i s within) in
    record {
      ascending = rise_set slabs i s v listed.ascending within is same;
      some = All-set (λ (r : SlabState). 0 < r.span.range.len) slabs i v (rw same units) listed.some;
      partial = lists.partial ∙ sym (ap (bases_where lists_partial) parts ∙ bases_split lists_partial (take i slabs) v (drop (suc i) slabs));
      complete = lists.complete ∙ sym (ap (bases_where lists_complete) parts ∙ bases_split lists_complete (take i slabs) v (drop (suc i) slabs));
      room = omega (arith, length-set slabs i v, listed.room, room);
    }

pub listed_insert : (slabs : List SlabState) (old new : IdleState) (i : ℕ) (v : SlabState) → AreListed slabs old → i ≤ length slabs → length slabs < old.room → 0 < v.span.range.len → All (λ s. end_of s.span.range ≤ base_of v) (take i slabs)
    → All (λ s. end_of v.span.range ≤ base_of s) (drop i slabs) → ListsAt (take i slabs) (base_of v) (standing_of v) (drop i slabs) new → new.room ≡ old.room → AreListed (insert slabs i v) new
listed_insert slabs old new i v listed within more units below above lists room = record {
  ascending = pairs_insert IsBelow slabs i v listed.ascending below above;
  some = all_insert (λ (s : SlabState). 0 < s.span.range.len) slabs i v listed.some units;
  partial = lists.partial ∙ sym (bases_split lists_partial (take i slabs) v (drop i slabs));
  complete = lists.complete ∙ sym (bases_split lists_complete (take i slabs) v (drop i slabs));
  room = omega (arith, length-insert slabs i v within, more, room);
}

pub listed_remove : (slabs : List SlabState) (old new : IdleState) (i base : ℕ) → AreListed slabs old → i < length slabs → ListsAt (take i slabs) base AllOut (drop (suc i) slabs) new → new.room ≡ old.room → AreListed (remove slabs i) new
listed_remove slabs old new i base listed within lists room = record {
  ascending = all_pairs_remove IsBelow slabs i within listed.ascending;
  some = all_remove (λ (s : SlabState). 0 < s.span.range.len) slabs i listed.some;
  partial = lists.partial ∙ sym (bases_both lists_partial (take i slabs) (drop (suc i) slabs));
  complete = lists.complete ∙ sym (bases_both lists_complete (take i slabs) (drop (suc i) slabs));
  room = omega (arith, length-remove slabs i within, listed.room, room);
}
