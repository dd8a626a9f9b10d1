use Rattle.std.proofs.Common.{◌∙◌, ap, sym, []}
use Rattle.std.proofs.lemmas.List.{append-nil}
use Rattle.lease_proto.specs.SetupLines.{opening, is_setup_word}
use Rattle.vmemd_setup.proofs.OpeningLemmas.{opening_ends, opening_goes_on}
use Rattle.vmemd_setup.proofs.setting_up.begins_setup.Goals as goal

pub returns-in-Some : goal.returns-in-Some
returns-in-Some c =
    let line = c.args.line.now in
    let first = opening_ends line [] c.in-Some.end c.in-Some.ensures.0.high c.in-Some.ensures.1 c.in-Some.ensures.0.before in
    c.is_setup_word.ensures ∙ ap is_setup_word (sym first ∙ ap opening (append-nil line))

pub returns-in-None : goal.returns-in-None
returns-in-None c =
    let line = c.args.line.now in
    let all = opening_goes_on line [] c.in-None.ensures in
    c.is_setup_word-in-None.ensures ∙ ap is_setup_word (sym (append-nil line) ∙ sym all ∙ ap opening (append-nil line))
