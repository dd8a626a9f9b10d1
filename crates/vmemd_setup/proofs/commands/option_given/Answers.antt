use Rattle.std.proofs.Common.{rules, arith, ap, refl, sym, subst, ◌≡◌, ◌∙◌, ◌<◌, ◌^◌, Some, None}
use Rattle.std.specs.Option.{unwrap_or}
use Rattle.std.specs.Str.Parse.{ExplainsUnsignedError, HasUnsignedDigitsIfOk, ParsesUnsigned}
use Rattle.clap.specs.Words.{found_of, one_of, rows_of}
use Rattle.clap.proofs.WalkLemmas.{one_text-rows}
use Rattle.vmemd_setup.specs.Commands.{GivesOption}
use Rattle.vmemd_setup.proofs.CommandLemmas.{number_says}
use Rattle.vmemd_setup.proofs.commands.option_given.Goals as goal
use Rattle.vmemd_setup.proofs.commands.option_given.Goals.{else-number-ge1-via-then-number-ge1+else-number-most, else-number-ge1-via-else-number-ge1}

pub returns-in_err-number : goal.returns-in_err-number
returns-in_err-number c =
    let found = found_of c.args.of.now in
    let none : c.get_one.result ≡ None = search rules in
    let fits : c.args.most < 2 ^ 32 = omega arith in
    let says = number_says (λ bs r. ParsesUnsigned 32 10 bs r × ExplainsUnsignedError 10 bs r × HasUnsignedDigitsIfOk bs r) (one_of c.args.id.now (rows_of found))
    c.args.most c.get_one.result (λ t is. c.get_one.ensures.value t (one_text-rows found c.args.id.now ∙ is)) (λ text r h. h.0) fits in
    let gives : GivesOption (rows_of found) c.args.id.now c.args.most None =
    (tt, λ is. refl, λ n is low high. (let bad : None ≡ Some n = sym none ∙ says n is high in cc)) in
    subst (GivesOption (rows_of found) c.args.id.now c.args.most) (sym c.from_residual.ensures) gives

pub returns-then-number-most : goal.returns-then-number-most
returns-then-number-most c =
    let found = found_of c.args.of.now in
    let number = c.in_ok-number.number in
    let some : c.get_one.result ≡ Some number = search rules in
    let fits : c.args.most < 2 ^ 32 = omega arith in
    let says = number_says (λ bs r. ParsesUnsigned 32 10 bs r × ExplainsUnsignedError 10 bs r × HasUnsignedDigitsIfOk bs r) (one_of c.args.id.now (rows_of found))
    c.args.most c.get_one.result (λ t is. c.get_one.ensures.value t (one_text-rows found c.args.id.now ∙ is)) (λ text r h. h.0) fits in (
      (omega arith, omega arith),
      λ is. (let bad : Some number ≡ None = sym some ∙ c.get_one.ensures.none (one_text-rows found c.args.id.now ∙ is) in cc),
      λ n is low high. sym some ∙ says n is high,
    )

pub returns-else-number-ge1 : goal.returns-else-number-ge1
returns-else-number-ge1 c =
    let found = found_of c.args.of.now in
    let number = c.in_ok-number.number in
    let some : c.get_one.result ≡ Some number = search rules in
    let fits : c.args.most < 2 ^ 32 = omega arith in
    let says = number_says (λ bs r. ParsesUnsigned 32 10 bs r × ExplainsUnsignedError 10 bs r × HasUnsignedDigitsIfOk bs r) (one_of c.args.id.now (rows_of found))
    c.args.most c.get_one.result (λ t is. c.get_one.ensures.value t (one_text-rows found c.args.id.now ∙ is)) (λ text r h. h.0) fits in (
      tt,
      λ is. refl,
      λ n is low high.
          let same : number ≡ n = ap (λ o. unwrap_or o 0) (sym some ∙ says n is high) in
          absurd (elim c.else-number-ge1.branch [ else-number-ge1-via-then-number-ge1+else-number-most w ↦ omega arith | else-number-ge1-via-else-number-ge1 w ↦ omega arith ]),
    )
