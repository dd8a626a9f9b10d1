-- What lists of segments have, by what they weigh; and segments by their routes.
use Rattle.std.proofs.Common.{◌≡◌, ℕ, ◌≤◌, subst, ap, inl, inr, List, [], ◌∷◌, All, Contains, not, cond, get_or, arith}
use Rattle.std.specs.Prelude.{sum_by}
use Rattle.std.proofs.lemmas.Bool.{cases_eq}
use Rattle.std.proofs.lemmas.Option.{slice_get-get_or}
use Rattle.std.proofs.lemmas.List.Elements.{All-contains}
use Rattle.std.proofs.lemmas.List.Sums.{sum_by-cons}
use Rattle.deed_core.specs.Tag.{Tag}
use Rattle.deed_core.specs.Selections.{is_direct}
use Rattle.deed_core.specs.Weights.{Gains, Loses, of_direct, of_cached, one_at}
use Rattle.deed_core.specs.declared.segments.Route.TheVariants.{Direct, Cached}
use Rattle.deed_core.proofs.LawProofs.{counts_where_it_is, one_at_itself, one_at_is, contains_at}

-- a list that weighs no more has no other members
pub has_less : (old new : List Tag) → ((f : Tag → ℕ) → sum_by f new ≤ sum_by f old) → (x : Tag) → Contains new x → Contains old x
has_less old new less x has = (let some = (counts_where_it_is x new).1 has in (counts_where_it_is x old).0 (omega (arith, some, less (one_at x))))

module _ (P : Tag → Type 0) where
  all_by : (xs : List Tag) → ((x : Tag) → Contains xs x → P x) → All P xs
  all_by xs each k d within = each (get_or xs k d) (contains_at xs k (get_or xs k d) (slice_get-get_or xs k d within))

  pub all_less : (old new : List Tag) → ((f : Tag → ℕ) → sum_by f new ≤ sum_by f old) → All P old → All P new
  all_less old new less all = all_by new (λ x has. All-contains P old x all (has_less old new less x has))

  pub all_gains : (old new : List Tag) (t : Tag) → Gains old new t → P t → All P old → All P new
  all_gains old new t more here all = all_by new each
    where
      each : (x : Tag) → Contains new x → P x
      each x has = elim (cases_eq (one_at x t) 0) [
        | inl none ↦
            let some = (counts_where_it_is x new).1 has in
            All-contains P old x all ((counts_where_it_is x old).0 (omega (arith, some, none, more (one_at x))))
        | inr some ↦ subst P (one_at_is x t (omega (arith, some))) here
      ]

  pub all_loses : (old new : List Tag) (t : Tag) → Loses old new t → All P old → P t
  all_loses old new t less all =
      let one = one_at_itself t in
      All-contains P old t all ((counts_where_it_is t old).0 (omega (arith, one, less (one_at t))))

-- what a segment weighs by its route
pub direct_weighs : (f : Tag → ℕ) (t : Tag) → t.route ≡ Direct → of_direct f t ≡ f t
direct_weighs f t is = ap (λ r. cond (is_direct r) (f t) 0) is

pub direct_none : (f : Tag → ℕ) (t : Tag) → t.route ≡ Direct → of_cached f t ≡ 0
direct_none f t is = ap (λ r. cond (not (is_direct r)) (f t) 0) is

pub cached_weighs : (f : Tag → ℕ) (t : Tag) (n : ℕ) → t.route ≡ Cached n → of_cached f t ≡ f t
cached_weighs f t n is = ap (λ r. cond (not (is_direct r)) (f t) 0) is

pub cached_none : (f : Tag → ℕ) (t : Tag) (n : ℕ) → t.route ≡ Cached n → of_direct f t ≡ 0
cached_none f t n is = ap (λ r. cond (is_direct r) (f t) 0) is

-- one alone
pub alone : (f : Tag → ℕ) (t : Tag) → sum_by f (t ∷ []) ≡ f t
alone f t = omega (arith, sum_by-cons f t [])
