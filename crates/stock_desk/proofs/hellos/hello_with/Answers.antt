use Rattle.std.proofs.Common.{refl, sym, subst}
use Rattle.lease_book.specs.BookState.{BookState}
use Rattle.local_parts.specs.States.{LocalState}
use Rattle.lease_call.specs.Greeting.{HelloEnd, greet_plan}
use Rattle.deed_core.specs.declared.plain.PlainDeed.{PlainDeed}
use Rattle.lease_call.proofs.LawProofs.{end_same}
use Rattle.lease_machine.specs.Conversations.{RunsCall}
use Rattle.stock_desk.proofs.CallsSeen.{call_seen, call_stays, same_local}
use Rattle.stock_desk.proofs.Runs.{local_nodes}
use Rattle.stock_desk.proofs.hellos.hello_with.Goals as goal
use Rattle.stock_desk.specs.Supplies.{local_of}

pub hello-requires : goal.hello-requires
hello-requires c = local_nodes c.args.tree.now (local_of c.args.stock.now c.args.cpu.now) c.requires.local

pub returns : goal.returns
returns c =
    let old = local_of c.args.stock.now c.args.cpu.now in
    let arenas = c.args.tree.now in
    let path = subst (λ (r : HelloEnd PlainDeed). RunsCall {D = PlainDeed} arenas (greet_plan arenas c.args.line.now c.args.turns) c.args.book.now old c.hello.new.book.book.now (local_of c.hello.new.parts.stock.now c.hello.new.parts.cpu.now) r) (end_same _)
    (call_seen arenas (λ b. b.book.now) (λ s. local_of s.stock.now s.cpu.now) _ _ _ _ _ (λ s t e x d. d.0) (λ b f s t k x d. (d.0, same_local _ _ _ _ d.2 d.3)) _ _ _ _ _ _ (local_nodes arenas old c.requires.local) c.hello.ensures.ran) in
    let same_stock = call_stays _ _ _ _ _ (λ b s. s.stock.ghost_name) (λ b s t e x d. d.1) (λ b f s t k x d. d.4) _ _ _ _ _ _ c.hello.ensures.ran in
    let same_cpu = call_stays _ _ _ _ _ (λ b s. s.cpu.ghost_name) (λ b s t e x d. d.2) (λ b f s t k x d. d.5) _ _ _ _ _ _ c.hello.ensures.ran in
    let same_book = call_stays _ _ _ _ _ (λ b s. b.book.ghost_name) (λ b s t e x d. refl) (λ b f s t k x d. d.1) _ _ _ _ _ _ c.hello.ensures.ran in
    let book_is = c.book-1.given.1 (sym same_book) in
    let parts_are = same_local _ _ _ _ (c.stock-1.given.1 (sym same_stock)) (c.cpu-1.given.1 (sym same_cpu)) in
    record {
      ran = subst (λ (s : LocalState). RunsCall {D = PlainDeed} arenas (greet_plan arenas c.args.line.now c.args.turns) c.args.book.now old c.book-1.given.0 s c.hello.result) (sym parts_are)
          (subst (λ (b : BookState). RunsCall {D = PlainDeed} arenas (greet_plan arenas c.args.line.now c.args.turns) c.args.book.now old b (local_of c.hello.new.parts.stock.now c.hello.new.parts.cpu.now) c.hello.result) (sym book_is) path);
    }
