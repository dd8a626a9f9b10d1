use Rattle.tag_arena.proofs.Reporting.{units_add_up}
use Rattle.tag_arena.proofs.Standing.{free_are_longest_runs, spans_once, goes_empty}
use Rattle.tag_arena.proofs.laws.arena_laws.Goals as goal

pub returns-clause-longest : goal.returns-clause-longest
returns-clause-longest c = free_are_longest_runs

pub returns-clause-once : goal.returns-clause-once
returns-clause-once c = spans_once

pub returns-clause-units : goal.returns-clause-units
returns-clause-units c = units_add_up

pub returns-clause-empty : goal.returns-clause-empty
returns-clause-empty c = goes_empty
