use Rattle.std.proofs.Common.{rules, length, ◌<◌, ℕ, suc, arith}
use Rattle.local_parts.specs.Cpus.{cpu_rounds}
use Rattle.local_calls.proofs.LawProofs.{drain_always_done, drain_empties_cpu}
use Rattle.stock_desk.proofs.Runs.{ran_leaves, local_nodes, ran_here}
use Rattle.stock_desk.proofs.Draining.{drained_out, drained_fixed}
use Rattle.stock_desk.proofs.endings.drain_with.Goals as goal
use Rattle.stock_desk.specs.Supplies.{local_of}

pub unreachable-requires : goal.unreachable-requires
unreachable-requires c =
    let (others, out) = c.requires.out in
    let turns : ℕ = suc (length (cpu_rounds c.args.cpu.now)) in
    let more : length (cpu_rounds c.args.cpu.now) < turns = omega arith in
    drain_always_done turns c.args.tree.now (local_of c.args.stock.now c.args.cpu.now) (local_of c.drain.new.parts.stock.now c.drain.new.parts.cpu.now) others _ c.requires.local out (ran_here c.args.tree.now (λ s. local_of s.stock.now s.cpu.now) _ _ _ _ (λ s t e x d. d.0) _ _ _ _ (local_nodes c.args.tree.now (local_of c.args.stock.now c.args.cpu.now) c.requires.local) (c.in-Err.ensures.ran turns more))

pub returns : goal.returns
returns c =
    let turns : ℕ = suc (length (cpu_rounds c.args.cpu.now)) in
    let more : length (cpu_rounds c.args.cpu.now) < turns = omega arith in
    let ran_in = λ (n : ℕ) (less : length (cpu_rounds c.args.cpu.now) < n). ran_here c.args.tree.now (λ s. local_of s.stock.now s.cpu.now) _ _ _ _ (λ s t e x d. d.0) _ _ _ _ (local_nodes c.args.tree.now (local_of c.args.stock.now c.args.cpu.now) c.requires.local) (c.in-Ok.ensures.ran n less) in
    let ran = ran_in turns more in
    let none = drain_empties_cpu turns c.args.tree.now (local_of c.args.stock.now c.args.cpu.now) (local_of c.drain.new.parts.stock.now c.drain.new.parts.cpu.now) c.requires.local ran in
    let fixed = drained_fixed c.args.tree.now turns c.args.stock.now c.drain.new.parts.stock.now c.args.cpu.now c.drain.new.parts.cpu.now ran in
    let same_stock = ran_leaves _ _ _ _ (λ s. s.stock.ghost_name) (λ s e x t d. d.1) _ _ _ _ (c.drain.ensures.ran turns more) in
    let same_cpu = ran_leaves _ _ _ _ (λ s. s.cpu.ghost_name) (λ s e x t d. d.2) _ _ _ _ (c.drain.ensures.ran turns more) in
    record {
      ran = λ n less. (let here = ran_in n less in search (rules, here, same_stock, same_cpu));
      empty = search (rules, none, same_cpu);
      out = λ others acc. (let left = drained_out c.args.tree.now turns c.args.stock.now c.drain.new.parts.stock.now c.args.cpu.now c.drain.new.parts.cpu.now ran none others acc in search (rules, left, same_stock));
      fixed = search (rules, fixed, same_stock);
    }
