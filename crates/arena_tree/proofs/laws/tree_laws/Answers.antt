use Rattle.arena_tree.proofs.Amounts.{node_read, arena_read, chain_read}
use Rattle.arena_tree.proofs.laws.tree_laws.Goals as goal

pub returns-clause-node : goal.returns-clause-node
returns-clause-node c = node_read

pub returns-clause-arena : goal.returns-clause-arena
returns-clause-arena c = arena_read

pub returns-clause-chain : goal.returns-clause-chain
returns-clause-chain c = chain_read
