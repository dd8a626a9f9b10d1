-- A system as it is made.
use Rattle.std.specs.Prelude.{◌≡◌, ℕ, zero, suc, ◌*◌, ◌++◌, List, [], ◌∷◌, map, length}
use Rattle.deed_core.specs.Holding.{Holding}
use Rattle.arena_tree.specs.Settings.{SetupState}
use Rattle.arena_tree.specs.declared.limits.TheConstants.{MOST_SPANS}
use Rattle.arena_tree.specs.declared.setups.OwnedSpan.{OwnedSpan}
use Rattle.locked_parts.specs.News.{NewArenaState, numbered_from, ranges_owned}
use Rattle.lease_threads.specs.Systems.{SystemState}

-- the roots of the first arenas, so many, a list for each: each span of an arena is a root of its
-- own, and each arena has as many root numbers as it may own spans
abbrev pub roots_of_first : List OwnedSpan → ℕ → List (List Holding)
roots_of_first spans zero = []
roots_of_first spans (suc n) = roots_of_first spans n
    ++ numbered_from (MOST_SPANS * n) (ranges_owned n spans) ∷ []

-- the system has the arenas of the setup, and of each a root for each of its spans
pub record IsSystemOf (setup : SetupState) (s : SystemState) : Type 0 where
  pub arenas : s.arenas ≡ setup.arenas
  pub roots : map (λ r. r.items) s.roots ≡ roots_of_first setup.spans (length setup.arenas)

-- the roots of new arenas, a list for each
abbrev pub roots_of : List NewArenaState → List (List Holding)
roots_of made = map (λ a. a.roots) made
