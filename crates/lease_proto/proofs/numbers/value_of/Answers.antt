use Rattle.std.proofs.Common.{◌≡◌, ◌+◌, ◌-◌, ◌*◌, ◌∷◌, None, true, sym, ◌∙◌, ap, arith, drop, get_or}
use Rattle.std.proofs.lemmas.List.{drop_more}
use Rattle.std.specs.Char.{is_ascii_digit}
use Rattle.lease_proto.specs.Words.{digits_from}
use Rattle.lease_proto.proofs.WordLemmas.{digits_over}
use Rattle.lease_proto.proofs.numbers.value_of.Goals as goal

pub returns-then-value-clause-value : goal.returns-then-value-clause-value
returns-then-value-clause-value c =
    let word = c.args.word.now in
    let i = c.loop-digit.digit-index in
    let value = c.loop-digit.value in
    let digit : is_ascii_digit (get_or word i 0) ≡ true = sym c.if-not-is_ascii_digit.ensures.value in
    let over : digits_from value (get_or word i 0 ∷ drop (i + 1) word) ≡ None =
    rw digit (digits_over (value * 10 + (get_or word i 0 - 48)) (drop (i + 1) word) (omega arith)) in
    sym (sym c.loop-digit.invariant ∙ ap (digits_from value) (drop_more word i 0 c.loop-digit-test.true) ∙ over)
