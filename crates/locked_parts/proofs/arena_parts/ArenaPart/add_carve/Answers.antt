use Rattle.std.proofs.Common.{rules, ◌≡◌, Some, ap, arith, length}
use Rattle.locked_parts.proofs.Imports.{imported_own}
use Rattle.locked_parts.proofs.Numbers.{numbers_kept}
use Rattle.locked_parts.proofs.arena_parts.ArenaPart.add_carve.Goals as goal

pub invariant_of-self : goal.invariant_of-self
invariant_of-self g c =
    let same = ap length c.add_span_and_carve-carved.ensures.owned in
    let from : c.self.inside.source ≡ Some c.args.span.arena = search rules in
    record {
      imports = imported_own c.self.inside.source c.self.inside.arena c.add_span_and_carve-carved.new.self c.args.span _ c.add_span_and_carve-carved.result c.add_span_and_carve-carved.ensures.carved c.add_span_and_carve-carved.ensures.imported from c.self.invariant.imports;
      numbers = numbers_kept _ c.add_span_and_carve-carved.new.self c.add_span_and_carve-carved.ensures.kept.id (omega (arith, same)) c.self.invariant.numbers;
      enough = c.self.invariant.enough;
    }
