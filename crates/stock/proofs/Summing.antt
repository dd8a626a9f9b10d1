-- What the sums of an arena tell, all that is out being leased, is what its homes weigh.
use Rattle.std.proofs.Common.{◌≡◌, ◌≢◌, ℕ, ◌+◌, ◌*◌, refl, sym, subst, ap, ◌∙◌, List, [], map, All, Some, None, append-nil, arith}
use Rattle.std.specs.Prelude.{slice_get, flat_map}
use Rattle.std.proofs.lemmas.List.Sums.{sum_by-append}
use Rattle.std.proofs.lemmas.List.Elements.{All-weaker}
use Rattle.deed_core.specs.Tag.{Tag}
use Rattle.deed_core.specs.Holding.{Holding}
use Rattle.deed_core.specs.Covering.{units_in, units_held}
use Rattle.deed_core.specs.Weights.{of_arena}
use Rattle.deed_core.proofs.LawProofs.{sum_by-map, sum_none, all_at}
use Rattle.tag_arena.specs.ArenaState.{spans_of}
use Rattle.tag_arena.specs.Spanned.{holdings_of}
use Rattle.slab_layer.specs.Cache.{deeds_of}
use Rattle.magazine_layer.specs.Depots.{depot_rounds}
use Rattle.stock.specs.Spaces.{SpaceState}
use Rattle.stock.specs.Stocks.{IsRoundOf, IsFrom, IsSpaceAt, IsStock}
use Rattle.stock.specs.Accounts.{Accounts, IsAccounted}
use Rattle.stock.specs.Sums.{Sums, all_out, held_of, homes_of, lengths_of, told_sums, as_leased}
use Rattle.stock.specs.declared.sums.ArenaSums.{ArenaSums}
use Rattle.stock.proofs.OneHomes.{all_here, none_here, weigh_of, adds_up}

-- rounds of one cache have so many units each
pub rounds_alike : (k n q : ℕ) (ts : List Tag) → All (IsRoundOf k n q) ts → All (λ t. units_in t.holding ≡ n * q) ts
rounds_alike k n q ts all = All-weaker (IsRoundOf k n q) (λ t. units_in t.holding ≡ n * q) (λ t round. round.len) ts all

-- the ranges in the slabs of an arena, the rounds of its depots, and the spans of its children
abbrev pub in_slabs : SpaceState → List Holding
in_slabs s = flat_map (λ c. deeds_of c.slab) s.caches

abbrev pub in_depots : SpaceState → List Holding
in_depots s = flat_map (λ c. holdings_of (depot_rounds c.depot)) s.caches

abbrev pub in_children : List SpaceState → ℕ → List Holding
in_children spaces k = flat_map (λ x. held_of k x.arena.imported) spaces

-- what an arena imported from this one are its spans, if it imports from this one
module _ (p : ℕ) (quanta : List ℕ) (k : ℕ) (x : SpaceState) (is : IsSpaceAt quanta k x) where
  home : (q : ℕ) → x.source ≡ Some q → All (λ t. t.arena ≡ q) x.arena.imported
  home q source = subst (λ o. All (IsFrom o) x.arena.imported) source is.imported

  pub from_none : x.source ≡ None → units_held (held_of p x.arena.imported) ≡ 0
  from_none source = weigh_of p units_in x.arena.imported
      ∙ sum_none (of_arena p (λ t. units_in t.holding)) x.arena.imported (λ i t at. absurd (all_at (IsFrom None) x.arena.imported i t (subst (λ o. All (IsFrom o) x.arena.imported) source is.imported) at))

  pub from_this : x.source ≡ Some p → units_held (held_of p x.arena.imported) ≡ units_held (spans_of x.arena)
  from_this source =
      let owned : units_held x.arena.owned ≡ 0 = ap units_held (is.owned p source) in
      omega (
        arith,
        owned,
        weigh_of p units_in x.arena.imported,
        all_here p (λ t. units_in t.holding) p x.arena.imported (home p source) refl,
        sum_by-append units_in x.arena.owned (map (λ (t : Tag). t.holding) x.arena.imported),
        sum_by-map units_in (λ (t : Tag). t.holding) x.arena.imported,
      )

  pub from_other : (q : ℕ) → x.source ≡ Some q → q ≢ p → units_held (held_of p x.arena.imported) ≡ 0
  from_other q source other = weigh_of p units_in x.arena.imported ∙ none_here p (λ t. units_in t.holding) q x.arena.imported (home q source) other

same_sums : (x y : Sums) → x.free ≡ y.free → x.slab ≡ y.slab → x.magazine ≡ y.magazine → x.exported ≡ y.exported → x.leased ≡ y.leased → x.hand ≡ y.hand → x ≡ y
same_sums x y free slab magazine exported leased hand = λ i. record { free = free i; slab = slab i; magazine = magazine i; exported = exported i; leased = leased i; hand = hand i }

module _ (spaces : List SpaceState) (stock : IsStock spaces) (k : ℕ) (s : SpaceState) (at : slice_get spaces k ≡ Some s) (out : List Tag) (accounts : Accounts spaces out) where
  balanced : IsAccounted spaces (all_out (as_leased out))
  balanced = record { stock = stock; accounts = subst (Accounts spaces) (sym (append-nil out)) accounts }

  exported : (lengths_of (homes_of spaces (as_leased out) s)).exported ≡ units_held (in_children spaces k)
  exported = ap (λ i. units_held (in_children spaces i)) (stock k s at).id

  magazine : (lengths_of (homes_of spaces (as_leased out) s)).magazine ≡ units_held (in_depots s)
  magazine = omega (arith, sum_by-append units_in (in_depots s) [])

  -- the parts of the spans
  pub all_told : units_held s.arena.free + units_held (in_slabs s) + units_held (in_depots s) + units_held (in_children spaces k) + units_held (held_of s.arena.id out) ≡ units_held (spans_of s.arena)
  all_told = omega (arith, adds_up spaces (as_leased out) balanced k s at, magazine, exported)

  pub tells : (r : ArenaSums) → r.free ≡ units_held s.arena.free → r.slab ≡ units_held (in_slabs s) → r.magazine ≡ units_held (in_depots s) → r.exported ≡ units_held (in_children spaces k)
      → r.leased ≡ units_held (held_of s.arena.id out) → r.hand ≡ 0 → told_sums r ≡ lengths_of (homes_of spaces (as_leased out) s)
  tells r free slab depots children leased hand = same_sums (told_sums r) (lengths_of (homes_of spaces (as_leased out) s)) free slab (depots ∙ sym magazine) (children ∙ sym exported) leased hand
