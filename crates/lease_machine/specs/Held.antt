-- A picture on the way from one line to the next, and the parts of it that one CPU reaches.
use Rattle.std.specs.Prelude.{ℕ, List, map, if◌then◌else◌}
use Rattle.stock.specs.OwnCaches.{OwnCacheState}
use Rattle.local_parts.specs.States.{LocalState}
use Rattle.lease_machine.specs.Picture.{NumberedCpu, Picture, is_cpu}
use Rattle.lease_machine.specs.Chunks.{selected_caches}

-- the parts that the selected CPU reaches
abbrev pub parts_in : Picture → LocalState
parts_in d = record { spaces = d.spaces; cpu = selected_caches d }

-- the CPU's caches became these, if it is the one of this number
abbrev pub with_caches_of : ℕ → List (List OwnCacheState) → NumberedCpu → NumberedCpu
with_caches_of n rows c = if is_cpu n c then record { number = c.number; caches = rows } else c

-- the picture with those parts as they became
abbrev pub with_parts : LocalState → Picture → Picture
with_parts s d = record d { spaces = s.spaces; cpus = map (with_caches_of d.selected s.cpu) d.cpus }
