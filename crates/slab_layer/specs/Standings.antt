-- How slabs stand.
use Rattle.std.specs.Prelude.{Bool, true, false, not, if◌then◌else◌}
use Rattle.std.specs.List.{list_any}
use Rattle.slab_layer.specs.declared.standings.Standing.{Standing}
use Rattle.slab_layer.specs.declared.standings.Standing.TheVariants.{AllOut, Partial, Complete}
use Rattle.slab_layer.specs.Slab.{SlabState}

-- complete where no chunk is out, partial where one is and another is at home
abbrev pub standing_of : SlabState → Standing
standing_of s =
    if list_any not s.home then (if list_any (λ b. b) s.home then Partial else AllOut) else Complete

-- which slabs the list of the partial ones has
abbrev pub lists_partial : Standing → Bool
lists_partial AllOut = false
lists_partial Partial = true
lists_partial Complete = false

-- and that of the complete ones
abbrev pub lists_complete : Standing → Bool
lists_complete AllOut = false
lists_complete Partial = false
lists_complete Complete = true
