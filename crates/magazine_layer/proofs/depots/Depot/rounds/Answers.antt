use Rattle.std.proofs.Common.{◌≡◌, ◌*◌, length, ap, sym, ◌∙◌, deque_len, arith}
use Rattle.magazine_layer.specs.Depots.{depot_rounds}
use Rattle.magazine_layer.proofs.OldCounting.{depot_count, alike_units, old_few, full_few}
use Rattle.magazine_layer.proofs.depots.Depot.rounds.Goals as goal

pub overflow_add-result : goal.overflow_add-result
overflow_add-result g c =
    let len : c.len.result ≡ length c.self.inside.full.items = omega (arith, c.self.inside.full.ok.0) in
    let full = ap (λ n. n * c.self.inside.size) len in
    omega (arith, full, c.self.inside.full.ok.0, c.self.inside.old_full.ok.0, old_few c.self.inside.old_full.items c.self.inside.old_rounds c.self.invariant.3, full_few c.self.inside.size c.self.inside.full.items c.self.invariant.0.sized c.self.invariant.0.whole)

pub overflow_add-result-2 : goal.overflow_add-result-2
overflow_add-result-2 g c =
    let len : c.len.result ≡ length c.self.inside.full.items = omega (arith, c.self.inside.full.ok.0) in
    let full = ap (λ n. n * c.self.inside.size) len in
    omega (arith, full, c.self.inside.full.ok.0, c.self.inside.old_full.ok.0, old_few c.self.inside.old_full.items c.self.inside.old_rounds c.self.invariant.3, full_few c.self.inside.size c.self.inside.full.items c.self.invariant.0.sized c.self.invariant.0.whole)

pub returns-clause-value : goal.returns-clause-value
returns-clause-value g c =
    let len : c.len.result ≡ length c.self.inside.full.items = omega (arith, c.self.inside.full.ok.0) in
    let full = ap (λ n. n * c.self.inside.size) len in
    let all = depot_count (record {
      size = c.self.inside.size;
      full = c.self.inside.full.items;
      full_reapable = c.self.inside.full_reapable;
      empty = deque_len c.self.inside.empty;
      empty_reapable = c.self.inside.empty_reapable;
      old_full = c.self.inside.old_full.items;
      draining = c.self.inside.draining.items;
    }) c.self.inside.old_rounds c.self.invariant.0 c.self.invariant.3 in
    omega (arith, full, all, ap (λ d. length (depot_rounds d)) c.self.view_is, c.self.inside.draining.ok.0)

pub returns-clause-units : goal.returns-clause-units
returns-clause-units g c each all = alike_units each (depot_rounds c.args.self.now) all ∙ ap (λ n. n * each) (sym (returns-clause-value g c))
