-- What is out of the parts, as hands and leases change.
use Rattle.std.proofs.Common.{◌≡◌, ℕ, ◌+◌, List, [], ◌++◌, set, Option, Some, None, refl, arith}
use Rattle.std.specs.Prelude.{slice_get, sum_by}
use Rattle.std.specs.Option.{option_to_list}
use Rattle.std.proofs.lemmas.List.Sums.{sum_by-append}
use Rattle.deed_core.specs.Tag.{Tag}
use Rattle.deed_core.proofs.LawProofs.{sum_by-flat_map, sum_set}
use Rattle.stock.specs.Spaces.{SpaceState}
use Rattle.stock.specs.OwnCaches.{OwnCacheState, all_own_rounds}
use Rattle.stock.proofs.LawProofs.{out_weighs}
use Rattle.stock_audit.specs.Outside.{outside}
use Rattle.stock_audit.specs.Accounted.{IsAccountedFor}
use Rattle.stock_audit.specs.Keeping.{IsStep}
use Rattle.stock_audit.proofs.LawProofs.{hand_steps_keep}
use Rattle.world_core.specs.WorldState.{in_hands}

-- a hand that changes, by weight
pub hand_set : (f : Tag → ℕ) (hands : List (Option Tag)) (cpu : ℕ) (old new : Option Tag) → slice_get hands cpu ≡ Some old
    → sum_by f (in_hands (set hands cpu new)) + sum_by f (option_to_list old) ≡ sum_by f (in_hands hands) + sum_by f (option_to_list new)
hand_set f hands cpu old new at =
    let e = sum_set (λ o. sum_by f (option_to_list o)) hands cpu old new at in
    omega (arith, e, sum_by-flat_map f option_to_list (set hands cpu new), sum_by-flat_map f option_to_list hands)

-- a part did something with no hand
pub part_moved : (spaces after : List SpaceState) (hands leases : List Tag) (cpus : List OwnCacheState) → IsStep spaces [] after [] → IsAccountedFor spaces (outside hands leases cpus)
    → IsAccountedFor after (outside hands leases cpus)
part_moved spaces after hands leases cpus step a = hand_steps_keep spaces after [] [] (outside hands leases cpus) (outside hands leases cpus) a step (record {
  rest = hands;
  gave = λ f. refl;
  took = λ f. refl;
  leases = refl;
  cpus = refl;
})

-- segments pass from hand to hand
pub hands_pass : (spaces : List SpaceState) (hands more leases : List Tag) (cpus : List OwnCacheState) → ((f : Tag → ℕ) → sum_by f more ≡ sum_by f hands) → IsAccountedFor spaces (outside hands leases cpus)
    → IsAccountedFor spaces (outside more leases cpus)
hands_pass spaces hands more leases cpus even a = hand_steps_keep spaces spaces [] [] (outside hands leases cpus) (outside more leases cpus) a (record { stock = a.parts; frame = λ rest x. x; fixed = refl }) (record {
  rest = hands;
  gave = λ f. refl;
  took = λ f. even f;
  leases = refl;
  cpus = refl;
})

module _ (spaces : List SpaceState) (hands : List (Option Tag)) (leases : List Tag) (cpus : List OwnCacheState) (cpu : ℕ) (old new : Option Tag) (at : slice_get hands cpu ≡ Some old) where
  -- a part was given what the hand had, and answered what it has now
  pub hand_moved : (after : List SpaceState) → IsStep spaces (option_to_list old) after (option_to_list new)
      → IsAccountedFor spaces (outside (in_hands hands) leases cpus) → IsAccountedFor after (outside (in_hands (set hands cpu new)) leases cpus)
  hand_moved after step a = hand_steps_keep spaces after (option_to_list old) (option_to_list new) (outside (in_hands hands) leases cpus) (outside (in_hands (set hands cpu new)) leases cpus) a step (record {
    rest = others;
    gave = λ f. omega (arith, hand_set f hands cpu old None at, sum_by-append f (option_to_list old) others);
    took = λ f. omega (arith, hand_set f hands cpu old new at, hand_set f hands cpu old None at, sum_by-append f (option_to_list new) others);
    leases = refl;
    cpus = refl;
  })
    where
      others : List Tag
      others = in_hands (set hands cpu None)

  -- the book was given what the hand had, or the other way round
  pub hand_leased : (more : List Tag) → ((f : Tag → ℕ) → sum_by f leases + sum_by f (option_to_list old) ≡ sum_by f more + sum_by f (option_to_list new))
      → IsAccountedFor spaces (outside (in_hands hands) leases cpus) → IsAccountedFor spaces (outside (in_hands (set hands cpu new)) more cpus)
  hand_leased more even a = record {
    parts = a.parts;
    accounts = out_weighs spaces (in_hands hands ++ (leases ++ all_own_rounds cpus)) (in_hands (set hands cpu new) ++ (more ++ all_own_rounds cpus))
        (λ f. omega (
          arith,
          even f,
          hand_set f hands cpu old new at,
          sum_by-append f (in_hands hands) (leases ++ all_own_rounds cpus),
          sum_by-append f (in_hands (set hands cpu new)) (more ++ all_own_rounds cpus),
          sum_by-append f leases (all_own_rounds cpus),
          sum_by-append f more (all_own_rounds cpus),
        )) a.accounts;
    runs = a.runs;
    grid = a.grid;
    cpus = a.cpus;
  }
