use Rattle.std.proofs.Common.{List, subst}
use Rattle.std.proofs.lemmas.Result.{IfOk-weaker}
use Rattle.arena_tree.specs.Trees.{IsTree}
use Rattle.arena_tree.specs.declared.trees.TreeArena.{TreeArena}
use Rattle.shared_book.specs.Outcomes.{TellsEnd}
use Rattle.lease_threads.proofs.CallEnds.{request_well, settled_so}
use Rattle.lease_threads.proofs.systems.System.serve.Goals as goal

pub tell-requires-clause-outcome : goal.tell-requires-clause-outcome
tell-requires-clause-outcome g c =
    let well = request_well _ c.args.self.now.arenas c.args.id (subst IsTree c.tree.ensures c.len.ensures.tree) c.args.cpu.now.hand c.args.op.now c.in_ok-ended.ended c.in_ok-ended.ensures.went.gone in
    IfOk-weaker c.in_ok-ended.ended _ _ (λ o is. is.of_book) well

pub returns-clause-new : goal.returns-clause-new
returns-clause-new g c =
    let well = request_well _ c.args.self.now.arenas c.args.id (subst IsTree c.tree.ensures c.len.ensures.tree) c.args.cpu.now.hand c.args.op.now c.in_ok-ended.ended c.in_ok-ended.ensures.went.gone in
    λ new. (let is = c.tell.ensures.new.0 new in settled_so c.args.self.now.arenas c.args.id c.args.op.now c.in_ok-ended.ended c.tell.result.receipt well is.0 is.1)

pub returns-clause-runs : goal.returns-clause-runs
returns-clause-runs g c = record {
  answers = record {
    ended = c.in_ok-ended.ended;
    went = c.in_ok-ended.ensures.went;
    left = c.tell.ensures.left;
    told = subst (λ (xs : List TreeArena). TellsEnd xs c.args.id c.in_ok-ended.ended c.tell.result.reply c.tell.result.receipt) c.tree-2.ensures c.tell.ensures.exactly;
  };
  newly = c.tell.ensures.new;
}
