use Rattle.std.proofs.Common.{◌≡◌}
use Rattle.form_urlencoded.specs.Form.{raw_pairs}
use Rattle.form_urlencoded.specs.Parse.{raw_pairs_left}
use Rattle.lease_watch.specs.Queries.{first_value}
use Rattle.lease_watch.proofs.queries.value_in.Given as goal

abbrev pub invariant-loop-key : goal.invariant-loop-key
invariant-loop-key l = first_value l.name (raw_pairs_left l.key-iterator) ≡ first_value l.name (raw_pairs l.query)
