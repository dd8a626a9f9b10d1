use Rattle.std.proofs.Common.{rules, refl, subst}
use Rattle.lease_call.specs.Releasing.{CallEnd}
use Rattle.lease_call.specs.Requesting.{op_plan}
use Rattle.lease_call.proofs.LawProofs.{end_same}
use Rattle.lease_machine.specs.Conversations.{RunsCall}
use Rattle.stock_desk.proofs.CallsSeen.{call_seen, call_stays, same_local}
use Rattle.stock_desk.proofs.Runs.{local_nodes}
use Rattle.stock_desk.proofs.requests.request_with.Goals as goal
use Rattle.stock_desk.specs.Supplies.{local_of}

pub request-requires : goal.request-requires
request-requires c = local_nodes c.args.tree.now (local_of c.args.stock.now c.args.cpu.now) c.requires.local

pub returns : goal.returns
returns c =
    let old = local_of c.args.stock.now c.args.cpu.now in
    let arenas = c.args.tree.now in
    let ran = subst (λ (r : CallEnd _). RunsCall arenas (op_plan arenas c.args.id c.args.op.now) c.args.book.now old c.request.new.book.book.now (local_of c.request.new.parts.stock.now c.request.new.parts.cpu.now) r) (end_same _)
    (call_seen arenas (λ b. b.book.now) (λ s. local_of s.stock.now s.cpu.now) _ _ _ _ _ (λ s t e x d. d.0) (λ b f s t k x d. (d.0, same_local _ _ _ _ d.2 d.3)) _ _ _ _ _ _ (local_nodes arenas old c.requires.local) c.request.ensures.ran) in
    let same_stock = call_stays _ _ _ _ _ (λ b s. s.stock.ghost_name) (λ b s t e x d. d.1) (λ b f s t k x d. d.4) _ _ _ _ _ _ c.request.ensures.ran in
    let same_cpu = call_stays _ _ _ _ _ (λ b s. s.cpu.ghost_name) (λ b s t e x d. d.2) (λ b f s t k x d. d.5) _ _ _ _ _ _ c.request.ensures.ran in
    let same_book = call_stays _ _ _ _ _ (λ b s. b.book.ghost_name) (λ b s t e x d. refl) (λ b f s t k x d. d.1) _ _ _ _ _ _ c.request.ensures.ran in
    record { ran = search (rules, ran, same_stock, same_cpu, same_book) }
