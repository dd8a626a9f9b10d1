-- Laws of weights restricted to some of the segments.
use Rattle.std.specs.Prelude.{◌≡◌, ℕ, ◌+◌, ◌↔◌, Bool, true, false, not, List, All, sum_by}
use Rattle.deed_core.specs.Tag.{Tag}
use Rattle.deed_core.specs.Selections.{is_of_arena, came_direct, came_cached, is_of_cache}
use Rattle.deed_core.specs.Weights.{weight_where, of_direct, of_cached}
use Rattle.deed_core.specs.declared.segments.Route.TheVariants.{Direct, Cached}

-- which segments the tests are true of
abbrev pub TestsSay : Type 0
TestsSay = (t : Tag) →
    ((arena : ℕ) → (is_of_arena arena t ≡ true) ↔ (t.arena ≡ arena))
    × ((came_direct t ≡ true) ↔ (t.route ≡ Direct))
    × ((came_cached t ≡ true) ↔ ((k : ℕ) × (t.route ≡ Cached k)))
    × ((arena k : ℕ) → (is_of_cache arena k t ≡ true) ↔ ((t.arena ≡ arena) × (t.route ≡ Cached k)))

-- those that pass a test and those that fail it weigh what all do
abbrev pub PartsWeighAll : Type 0
PartsWeighAll = (test : Tag → Bool) (f : Tag → ℕ) (segments : List Tag) →
    sum_by f segments ≡ sum_by (weight_where test f) segments
    + sum_by (weight_where (λ t. not (test t)) f) segments

-- those that were carved and those from caches weigh what all do
abbrev pub RoutesWeighAll : Type 0
RoutesWeighAll = (f : Tag → ℕ) (segments : List Tag) →
    sum_by f segments ≡ sum_by (of_direct f) segments + sum_by (of_cached f) segments

-- where all pass the test, the part weighs what all do
abbrev pub AllWeigh : Type 0
AllWeigh = (test : Tag → Bool) (f : Tag → ℕ) (segments : List Tag) →
    All (λ t. test t ≡ true) segments → sum_by (weight_where test f) segments ≡ sum_by f segments

-- and where none does, nothing
abbrev pub NoneWeigh : Type 0
NoneWeigh = (test : Tag → Bool) (f : Tag → ℕ) (segments : List Tag) →
    All (λ t. test t ≡ false) segments → sum_by (weight_where test f) segments ≡ 0
