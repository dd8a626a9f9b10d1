use Rattle.std.proofs.Common.{Err, ap, sym, ◌∙◌}
use Rattle.std.proofs.lemmas.Result.{err_from_is_err_and}
use Rattle.lease_proto.specs.Grammar.{line_in, line_of}
use Rattle.lease_proto.proofs.PartLemmas.{parts_read, parts_refused, parts_long}
use Rattle.lease_proto.proofs.LineLemmas.{words_of_line}
use Rattle.lease_proto.proofs.lines.Line.read.Goals as goal

pub returns-in_err-parts : goal.returns-in_err-parts
unfolding line_of
returns-in_err-parts c =
    let p = err_from_is_err_and c.from_residual.result c.from_residual.ensures.1 in
    rw (p.1, p.2) (sym (parts_long c.args.bytes.now line_in c.in_err-parts.field-0.0 (sym c.in_err-parts.ensures)))

pub returns-in-Err : goal.returns-in-Err
unfolding line_of
returns-in-Err c =
    let words = c.in_ok-parts.field-0 in
    ap Err c.first_fault.ensures ∙ sym (parts_refused c.args.bytes.now words line_in c.in-Err.fault (sym c.parts.ensures ∙ c.in_ok-parts.was) (sym c.of_parts-line.ensures ∙ c.in-Err.is))

pub returns-in_default : goal.returns-in_default
unfolding line_of
returns-in_default c =
    let words = c.in_ok-parts.field-0 in
    let line = c.in_default.field-0 in
    c.in_default.is ∙ sym (parts_read c.args.bytes.now words line_in line (sym c.parts.ensures ∙ c.in_ok-parts.was) (words_of_line words line (sym c.of_parts-line.ensures ∙ c.in_default.is)) (sym c.of_parts-line.ensures ∙ c.in_default.is))
