-- Connections that come after those that couldn't be accepted.
use Rattle.std.proofs.Common.{Bool, List, [], ◌∷◌, Option, Some, None, Result, Ok, Err, refl, ap, subst}
use Rattle.tcp_connections.specs.Arrivals.{MissesEach, ComesNext, ServesEach, AcceptsAt, FindsAt, MissesAt}
use Rattle.tcp_connections.specs.declared.arrivals.Reception.{Reception}

module _ {A C F : Type 0} (may_accept : A → Result C F → A → Type 0) (may_find : A → Bool → Type 0) (may_serve : A → C → A → Type 0) (may_miss : A → F → A → Type 0) where
  -- they were met too
  missed_on : (faults : List F) (old mid : A) → MissesEach may_accept may_find may_miss old faults mid → (new : A) → ServesEach may_accept may_find may_serve may_miss mid new → ServesEach may_accept may_find may_serve may_miss old new
  missed_on [] old mid same new served = subst (λ (a : A). ServesEach may_accept may_find may_serve may_miss a new) same served
  missed_on (fault ∷ more) old mid (here, missed, came, found, misses, rest) new served =
      let (all, last, at, met, ended, closed) = missed_on more missed mid rest new served in
      (Err fault ∷ all, last, at, (here, missed, came, found, misses, met), ended, closed)

  -- the next one was served, and what served each after it served each
  pub served_on : (old here met : A) (connection : C) → ComesNext may_accept may_find may_miss old (Some connection) here → may_serve here connection met → (new : A) → ServesEach may_accept may_find may_serve may_miss met new → ServesEach may_accept may_find may_serve may_miss old new
  served_on old here met connection (faults, mid, missed, (came, found)) serves new (all, last, at, more, ended, closed) =
      missed_on faults old mid missed new (Ok connection ∷ all, last, at, (here, met, came, found, serves, more), ended, closed)

  -- none is served once the door is closed
  pub none_on : (old new : A) → ComesNext may_accept may_find may_miss old None new → ServesEach may_accept may_find may_serve may_miss old new
  none_on old new (faults, mid, missed, (last, came, closed)) =
      missed_on faults old mid missed new ([], last, mid, refl, came, closed)

-- whoever meets those that come, they come alike
module _ {A H C F : Type 0} (may_accept : A → Result C F → A → Type 0) (may_find : A → Bool → Type 0) (may_miss : A → F → A → Type 0) (host : H) where
  abbrev pub at : A → Reception A H
  at a = record { arrivals = a; host = host }

  missed_at : (faults : List F) (old mid : A) → MissesEach may_accept may_find may_miss old faults mid → MissesEach (AcceptsAt may_accept) (FindsAt may_find) (MissesAt may_miss) (at old) faults (at mid)
  missed_at [] old mid same = ap at same
  missed_at (fault ∷ more) old mid (here, missed, came, found, misses, rest) =
      (at here, at missed, (came, refl), found, (misses, refl), missed_at more missed mid rest)

  pub next_at : (old new : A) (next : Option C) → ComesNext may_accept may_find may_miss old next new → ComesNext (AcceptsAt may_accept) (FindsAt may_find) (MissesAt may_miss) (at old) next (at new)
  next_at old new (Some connection) (faults, mid, missed, (came, found)) = (faults, at mid, missed_at faults old mid missed, ((came, refl), found))
  next_at old new None (faults, mid, missed, (last, came, closed)) = (faults, at mid, missed_at faults old mid missed, (last, (came, refl), closed))
