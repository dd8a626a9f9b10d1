use Rattle.std.proofs.Common.{◌++◌, sym, ◌∙◌, ap, arith}
use Rattle.std.proofs.lemmas.List.{append-nil}
use Rattle.std.proofs.lemmas.Option.{slice_get_past}
use Rattle.lease_book.specs.Reports.{lease_reports}
use Rattle.lease_book.proofs.accounts.Accounts.tell_leases.Goals as goal

pub returns-else-index-len-clause-leases : goal.returns-else-index-len-clause-leases
returns-else-index-len-clause-leases g c =
    let past = slice_get_past c.args.self.now c.args.index (omega arith) in
    sym (ap (λ o. c.args.out.now.items ++ lease_reports o) past ∙ append-nil c.args.out.now.items)
