use Rattle.std.proofs.Common.{◌≡◌, ◌<◌, length, arith, refl}
use Rattle.std.proofs.lemmas.List.{nil_from_length}
use Rattle.std.proofs.lemmas.Bool.Decides.{nat_tests}
use Rattle.magazine_layer.proofs.ListLemmas.{full_rounds, old_rounds}
use Rattle.magazine_layer.proofs.depots.Depot.close.Goals as goal

pub returns-then-not-is_empty : goal.returns-then-not-is_empty
returns-then-not-is_empty g c =
    let some : 0 < length c.self.inside.full.items = grind (arith, nat_tests, c.self.inside.full.ok.0) in
    rw (← c.self.view_is) (record { of = ((λ none. full_rounds _ c.self.invariant.0 some none), refl) })

pub returns-then-not-is_empty-2 : goal.returns-then-not-is_empty-2
returns-then-not-is_empty-2 g c =
    let some : 0 < length c.self.inside.old_full.items = grind (arith, nat_tests, c.self.inside.old_full.ok.0) in
    rw (← c.self.view_is) (record { of = ((λ none. old_rounds _ c.self.invariant.0 some none), refl) })

pub returns : goal.returns
returns g c =
    let full : length c.self.inside.full.items ≡ 0 = grind (arith, nat_tests, c.self.inside.full.ok.0) in
    let old : length c.self.inside.old_full.items ≡ 0 = grind (arith, nat_tests, c.self.inside.old_full.ok.0) in
    let draining : length c.self.inside.draining.items ≡ 0 = grind (arith, nat_tests, c.self.inside.draining.ok.0) in
    rw (← c.self.view_is, nil_from_length _ full, nil_from_length _ old, nil_from_length _ draining) (record { of = refl })
