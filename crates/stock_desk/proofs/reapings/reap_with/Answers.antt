use Rattle.std.proofs.Common.{rules}
use Rattle.local_calls.proofs.LawProofs.{reap_always_done}
use Rattle.stock_desk.proofs.Runs.{ran_leaves, local_nodes, ran_here}
use Rattle.stock_desk.proofs.reapings.reap_with.Goals as goal
use Rattle.stock_desk.specs.Supplies.{local_of}

pub reap-requires : goal.reap-requires
reap-requires c = record { tree = local_nodes c.args.tree.now (local_of c.args.stock.now c.args.cpu.now) c.requires.local }

pub unreachable-requires : goal.unreachable-requires
unreachable-requires c =
    let (others, out) = c.requires.out in
    reap_always_done c.args.tree.now _ (local_of c.args.stock.now c.args.cpu.now) (local_of c.reap.new.parts.stock.now c.reap.new.parts.cpu.now) others _ c.requires.local out (ran_here c.args.tree.now (λ s. local_of s.stock.now s.cpu.now) _ _ _ _ (λ s t e x d. d.0) _ _ _ _ (local_nodes c.args.tree.now (local_of c.args.stock.now c.args.cpu.now) c.requires.local) c.in-Err.ensures.ran)

pub returns : goal.returns
returns c =
    let ran = ran_here c.args.tree.now (λ s. local_of s.stock.now s.cpu.now) _ _ _ _ (λ s t e x d. d.0) _ _ _ _ (local_nodes c.args.tree.now (local_of c.args.stock.now c.args.cpu.now) c.requires.local) c.in-Ok.ensures.ran in
    let same_stock = ran_leaves _ _ _ _ (λ s. s.stock.ghost_name) (λ s e x t d. d.1) _ _ _ _ c.reap.ensures.ran in
    let same_cpu = ran_leaves _ _ _ _ (λ s. s.cpu.ghost_name) (λ s e x t d. d.2) _ _ _ _ c.reap.ensures.ran in
    record { ran = search (rules, ran, same_stock, same_cpu) }
