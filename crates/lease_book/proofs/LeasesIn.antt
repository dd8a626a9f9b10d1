-- The leases that stand in places.
use Rattle.std.proofs.Common.{◌≡◌, ℕ, ◌+◌, ◌<◌, ◌≤◌, Bool, ◌||◌, List, [], ◌∷◌, ◌++◌, length, map, take, drop, get_or, Option, Some, None, refl, sym, ◌∙◌, ap, arith}
use Rattle.std.proofs.lemmas.List.{take_more, take-append-drop, length-append, append_assoc, map-append}
use Rattle.std.proofs.lemmas.List.Elements.{filter_map-append}
use Rattle.std.specs.Prelude.{option_to_list}
use Rattle.std.specs.List.{list_any, cons_option}
use Rattle.lease_book.specs.Account.{Lease}
use Rattle.lease_book.specs.Places.{PlaceState, leases_in, holds}

-- a lease of those that are asked for stands in a place just where one is among them
pub any_held : (test : Lease → Bool) (ps : List PlaceState) → list_any (λ (p : PlaceState). holds test p.lease) ps ≡ list_any test (leases_in ps)
any_held test [] = refl
any_held test (p ∷ ps) = by p.lease (any_held test ps)
  where
    by : (o : Option Lease) → list_any (λ (q : PlaceState). holds test q.lease) ps ≡ list_any test (leases_in ps)
        → (holds test o || list_any (λ (q : PlaceState). holds test q.lease) ps) ≡ list_any test (cons_option o (leases_in ps))
    by None rest = rest
    by (Some l) rest = ap (λ b. test l || b) rest

one_held : (o : Option Lease) → cons_option o [] ≡ option_to_list o
one_held None = refl
one_held (Some l) = refl

-- the leases in the places up to one more
pub leases_in_more : (ps : List PlaceState) (i : ℕ) (p : PlaceState) → i < length ps → p ≡ get_or ps i p
    → leases_in (take (i + 1) ps) ≡ leases_in (take i ps) ++ option_to_list p.lease
leases_in_more ps i p within at =
    ap leases_in (take_more ps i p within ∙ ap (λ q. take i ps ++ q ∷ []) (sym at))
    ∙ filter_map-append (λ (q : PlaceState). q.lease) (take i ps) (p ∷ [])
    ∙ ap (λ ls. leases_in (take i ps) ++ ls) (one_held p.lease)

-- they are among those in all places
pub leases_in_few : (ps : List PlaceState) (i : ℕ) → length (leases_in (take i ps)) ≤ length (leases_in ps)
leases_in_few ps i =
    let whole : leases_in (take i ps) ++ leases_in (drop i ps) ≡ leases_in ps =
    sym (filter_map-append (λ (q : PlaceState). q.lease) (take i ps) (drop i ps)) ∙ ap leases_in (take-append-drop i ps) in
    let count : length (leases_in (take i ps)) + length (leases_in (drop i ps)) ≡ length (leases_in ps) =
    sym (length-append (leases_in (take i ps)) (leases_in (drop i ps))) ∙ ap length whole in
    omega arith

-- one more is told of
pub told_more : {X Y : Type 0} (f : X → Y) (all out : List Y) (told : List X) (x : X) (y : Y) → out ≡ all ++ map f told → y ≡ f x
    → out ++ y ∷ [] ≡ all ++ map f (told ++ x ∷ [])
told_more f all out told x y is made =
    ap (λ ys. ys ++ y ∷ []) is ∙ append_assoc all (map f told) (y ∷ [])
    ∙ ap (λ ys. all ++ ys) (ap (λ z. map f told ++ z ∷ []) made ∙ sym (map-append f told (x ∷ [])))
