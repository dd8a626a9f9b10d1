-- Each unit has one home, and leases are apart, after any lines.
use Rattle.std.proofs.Common.{◌≡◌, ℕ, refl, inl, inr, sym, subst, ap, ◌∙◌, List, [], ◌∷◌, ◌++◌, get_or, AllPairs, Ok, Err, arith}
use Rattle.std.specs.Prelude.{map, sum_by, codes}
use Rattle.std.proofs.lemmas.List.{get_or_append_left, length-append}
use Rattle.stock.specs.Laws.{ApartUpChain}
use Rattle.stock.specs.OwnCaches.{all_own_rounds}
use Rattle.stock_audit.proofs.LawProofs.{audit_adds_up, unit_adds_up, units_weigh, out_never_overlaps}
use Rattle.lease_proto.specs.declared.operators.OperatorLine.TheVariants as operator
use Rattle.lease_proto.specs.declared.operators.ServedLine.TheVariants as served
use Rattle.lease_proto.specs.Operators.{served_of}
use Rattle.lease_proto.specs.Operators as reading
use Rattle.lease_book.specs.BookState.{leased_segments, units_of_arena}
use Rattle.lease_machine.specs.Picture.{Picture, IsPicture, held_outside, owned_spans}
use Rattle.lease_machine.specs.Operators.{sums_in}
use Rattle.lease_machine.specs.Machine.{AnswersLine}
use Rattle.lease_machine.specs.Laws.{PicturesStay, SetupOnlyGrows, SetupStays, UnitsHaveOneHome, LeasesAreApart, AuditTellsLeases, AuditIsWhole, AuditIsTold}
use Rattle.lease_machine.proofs.Spans.{grows_none, grows_then}

pub pictures_stay : PicturesStay
pictures_stay old new [] text is run = subst IsPicture (sym run.1) is
pictures_stay old new (Ok line ∷ frames) text is run = pictures_stay run.2 new frames run.1 (run.3).picture run.5
pictures_stay old new (Err fault ∷ frames) text is run = pictures_stay old new frames run.0 is run.2

pub setup_only_grows : SetupOnlyGrows
setup_only_grows old new [] text run = grows_none old new run.1
setup_only_grows old new (Ok line ∷ frames) text run = grows_then old run.2 new (run.3).setup (setup_only_grows run.2 new frames run.1 run.5)
setup_only_grows old new (Err fault ∷ frames) text run = setup_only_grows old new frames run.0 run.2

pub setup_stays : SetupStays
setup_stays old new [] text run none = record { tree = ap (λ (d : Picture). d.tree) run.1; owned = ap (λ (d : Picture). map owned_spans d.spaces) run.1 }
setup_stays old new (Ok line ∷ frames) text run none =
    let rest = setup_stays run.2 new frames run.1 run.5 none.1 in
    let first = (run.3).stays none.0 in
    record { tree = rest.tree ∙ first.tree; owned = rest.owned ∙ first.owned }
setup_stays old new (Err fault ∷ frames) text run none = setup_stays old new frames run.0 run.2 none.1

pub units_have_one_home : UnitsHaveOneHome
units_have_one_home d is k s at u = unit_adds_up d.spaces (held_outside d) is.held.units k s at u

-- what holds of a list of pairs holds of a front of it
front_pairs : {X : Type 0} (R : X → X → Type 0) (xs ys : List X) → AllPairs R (xs ++ ys) → AllPairs R xs
front_pairs R xs ys all i j e lt below =
    let whole = all i j e lt (omega (arith, below, length-append xs ys)) in
    let first = get_or_append_left xs ys e i (omega (arith, lt, below)) in
    let second = get_or_append_left xs ys e j below in
    subst (λ x. R x (get_or xs j e)) first (subst (R (get_or (xs ++ ys) i e)) second whole)

pub leases_are_apart : LeasesAreApart
leases_are_apart d is = front_pairs (ApartUpChain d.spaces) (leased_segments d.book) (all_own_rounds (held_outside d).cpus) (out_never_overlaps d.spaces (held_outside d) is.held.units)

pub audit_tells_leases : AuditTellsLeases
audit_tells_leases d is k s at =
    subst (λ (n : ℕ). (sums_in d s).leased ≡ sum_by (units_of_arena n) (leased_segments d.book)) (is.held.units.parts k s at).id (units_weigh s.arena.id (leased_segments d.book))

pub audit_is_whole : AuditIsWhole
audit_is_whole d is k s at = audit_adds_up d.spaces (held_outside d) is.held.units k s at

audit_read : served_of (codes "audit") ≡ Ok (served.Operator operator.Audit)
unfolding served_of reading.served_in reading.operator_in
audit_read = refl

pub audit_is_told : AuditIsTold
audit_is_told old new text step = elim (subst (λ x. AnswersLine old x text new) audit_read step.answer) [
  | inl told ↦ (inl told.0, told.1)
  | inr out ↦ (inr out.0, out.1)
]
