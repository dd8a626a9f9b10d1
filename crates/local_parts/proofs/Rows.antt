-- A CPU's cache at its index.
use Rattle.std.proofs.Common.{◌≡◌, ℕ, ◌+◌, ◌<◌, sym, subst, ap, ◌∙◌, List, [], ◌∷◌, ◌++◌, length, set, get_or, take, min, append-nil, Some, arith}
use Rattle.std.specs.Prelude.{slice_get, sum_by}
use Rattle.std.proofs.lemmas.Grind.{flat_map-append}
use Rattle.std.proofs.lemmas.List.{take_more}
use Rattle.std.proofs.lemmas.Option.{slice_get_within}
use Rattle.deed_core.specs.Covering.{units_in, units_tagged}
use Rattle.deed_core.specs.Tag.{Tag}
use Rattle.std.proofs.lemmas.List.Sums.{sum_by-append}
use Rattle.deed_core.proofs.LawProofs.{slice_get_here, slice_get_one}
use Rattle.stock.specs.OwnCaches.{OwnCacheState, own_rounds, all_own_rounds}
use Rattle.local_parts.specs.Cpus.{IsOwnAt, OnOwn}

abbrev HasOwn : List (List OwnCacheState) → ℕ → ℕ → Type 0
HasOwn cpu k j = (o : OwnCacheState) × IsOwnAt cpu k j o

pub row_within : (cpu : List (List OwnCacheState)) (k j : ℕ) → HasOwn cpu k j → k < length cpu
row_within cpu k j has = slice_get_within cpu k has.1.row has.1.at

-- the rows lie in `items`, and the row at the index was read
pub record OpensRow (cpu items : List (List OwnCacheState)) (k : ℕ) (row : List OwnCacheState) : Type 0 where
  pub same : items ≡ cpu
  pub at : slice_get cpu k ≡ Some row

pub opens_row : (cpu items : List (List OwnCacheState)) (k : ℕ) (row read : List OwnCacheState) → items ≡ cpu → k < length cpu → read ≡ get_or items k read → row ≡ read → OpensRow cpu items k row
opens_row cpu items k row read same within at_read view = record {
  same = same;
  at = ap (λ xs. slice_get xs k) (sym same) ∙ slice_get_here items k read (subst (λ xs. k < length xs) (sym same) within) at_read ∙ ap Some (sym view);
}

pub own_within : (cpu : List (List OwnCacheState)) (k j : ℕ) (row : List OwnCacheState) → HasOwn cpu k j → slice_get cpu k ≡ Some row → j < length row
own_within cpu k j row has at = subst (λ (xs : List OwnCacheState). j < length xs) (slice_get_one cpu k has.1.row row has.1.at at) (slice_get_within has.1.row j has.0 has.1.among)

pub on_own : (P : OwnCacheState → OwnCacheState → Type 0) (cpu items : List (List OwnCacheState)) (k j : ℕ) (row : List OwnCacheState) (own changed : OwnCacheState) → OpensRow cpu items k row → HasOwn cpu k j
    → own ≡ get_or row j own → P own changed → OnOwn k j P cpu (set items k (set row j changed))
on_own P cpu items k j row own changed o has at_read does = record {
  row = row;
  at = o.at;
  own = own;
  among = slice_get_here row j own (own_within cpu k j row has o.at) at_read;
  changed = changed;
  after = ap (λ xs. set xs k (set row j changed)) o.same;
  does = does;
}

-- the units of one cache more of a row
pub row_more : (row : List OwnCacheState) (i : ℕ) (o : OwnCacheState) → i < length row → o ≡ get_or row i o → units_tagged (all_own_rounds (take (i + 1) row)) ≡ units_tagged (all_own_rounds (take i row)) + units_tagged (own_rounds o)
row_more row i o within is =
    let f : Tag → ℕ = λ t. units_in t.holding in
    let both : all_own_rounds (take (i + 1) row) ≡ all_own_rounds (take i row) ++ own_rounds o =
    ap all_own_rounds (take_more row i o within ∙ ap (λ x. take i row ++ x ∷ []) (sym is)) ∙ (flat_map-append own_rounds (take i row) (o ∷ []) ∙ ap (λ x. all_own_rounds (take i row) ++ x) (append-nil (own_rounds o))) in
    ap (sum_by f) both ∙ sum_by-append f (all_own_rounds (take i row)) (own_rounds o)

-- a sum that stops at the greatest number
pub capped : (most total all part next sum : ℕ) → total ≡ min all most → sum ≡ all + part → next ≡ min (total + part) most → next ≡ min sum most
capped most total all part next sum so_far more last = omega arith
