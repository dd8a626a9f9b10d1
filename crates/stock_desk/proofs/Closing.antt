-- What is out of a picture's parts, when its desk is closed.
use Rattle.std.proofs.Common.{◌≡◌, refl, subst, ap, ◌∙◌, List, [], ◌∷◌, ◌++◌}
use Rattle.std.specs.List.{flat_map}
use Rattle.std.proofs.lemmas.Grind.{flat_map-append}
use Rattle.deed_core.specs.Tag.{Tag}
use Rattle.stock.specs.Accounts.{Accounts}
use Rattle.stock.specs.OwnCaches.{OwnCacheState, own_rounds, all_own_rounds}
use Rattle.local_parts.specs.Cpus.{cpu_rounds}
use Rattle.lease_book.specs.BookState.{leased_segments}
use Rattle.lease_machine.specs.Picture.{NumberedCpu, Picture, IsPicture, caches_of}
use Rattle.stock_desk.specs.Supplies.{rounds_of_all}

-- the rounds of all caches are those of all CPUs
joined_rounds : (rows : List (List OwnCacheState)) → all_own_rounds (flat_map (λ row. row) rows) ≡ cpu_rounds rows
joined_rounds [] = refl
joined_rounds (row ∷ rows) = flat_map-append own_rounds row (flat_map (λ r. r) rows) ∙ ap (λ (ts : List Tag). all_own_rounds row ++ ts) (joined_rounds rows)

rounds_joined : (cs : List NumberedCpu) → all_own_rounds (flat_map caches_of cs) ≡ rounds_of_all cs
rounds_joined [] = refl
rounds_joined (c ∷ cs) = flat_map-append own_rounds (caches_of c) (flat_map caches_of cs) ∙ (ap (λ (ts : List Tag). ts ++ all_own_rounds (flat_map caches_of cs)) (joined_rounds c.caches) ∙ ap (λ (ts : List Tag). cpu_rounds c.caches ++ ts) (rounds_joined cs))

-- so leases are out and they, and nothing else
pub out_of_picture : (d : Picture) → IsPicture d → Accounts d.spaces (leased_segments d.book ++ rounds_of_all d.cpus)
out_of_picture d is = subst (λ (ts : List Tag). Accounts d.spaces (leased_segments d.book ++ ts)) (rounds_joined d.cpus) is.held.units.accounts
