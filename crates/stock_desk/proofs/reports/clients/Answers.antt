use Rattle.std.proofs.Common.{◌≡◌, ◌∙◌, sym, map, length, arith}
use Rattle.std.proofs.lemmas.List.{length-map}
use Rattle.std.proofs.lemmas.Option.{slice_get-map}
use Rattle.lease_book.specs.Reports.{report_of}
use Rattle.lease_machine.specs.Operators.{client_text_of}
use Rattle.stock_desk.proofs.TextLemmas.{one_more, all_told}
use Rattle.stock_desk.proofs.reports.clients.Goals as goal

pub loop-index-preserved : goal.loop-index-preserved
loop-index-preserved c = one_more client_text_of c.args.out.now.items c.loop-index.out.items c.tell_client.new.out.items (map report_of c.args.book.now.accounts) c.loop-index.index c.in-Some.report
    (slice_get-map report_of c.args.book.now.accounts c.loop-index.index ∙ sym c.in-Some.ensures.value) c.loop-index.invariant c.in_ok-tell_client.ensures.ok

pub returns-clause-ok : goal.returns-clause-ok
returns-clause-ok c =
    let count = c.clients-index-end.ensures.count in
    let whole : c.loop-index.index ≡ length (map report_of c.args.book.now.accounts) = omega (arith, count, length-map c.args.book.now.accounts report_of) in
    all_told client_text_of c.args.out.now.items c.loop-index.out.items (map report_of c.args.book.now.accounts) c.loop-index.index whole c.loop-index.invariant
