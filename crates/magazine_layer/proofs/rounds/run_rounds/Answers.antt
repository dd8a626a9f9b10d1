use Rattle.std.proofs.Common.{◌≡◌, ◌+◌, ◌≤◌, [], vec_len, vec_capacity, arith, refl, ◌∙◌}
use Rattle.std.proofs.lemmas.Grind.{common_steps}
use Rattle.std.specs.Vec.Iter.{into_iter_items, into_iter_len}
use Rattle.magazine_layer.specs.Rounds.{cpu_depot}
use Rattle.magazine_layer.proofs.Belonging.{moved_are_among}
use Rattle.magazine_layer.proofs.Bounds.{runs_few}
use Rattle.magazine_layer.proofs.Running.{running_start, running_then, running_end}
use Rattle.magazine_layer.proofs.ListLemmas.{size_some}
use Rattle.magazine_layer.proofs.Weighing.{runs_weigh}
use Rattle.magazine_layer.proofs.rounds.run_rounds.Goals as goal

pub loop-op-init : goal.loop-op-init
loop-op-init g c =
    let len : vec_len c.in-Ok.answers + into_iter_len c.into_iter-rest.result ≡ vec_len c.args.ops = omega (arith, c.in-Ok.ensures.len, c.into_iter-rest.ensures.len) in
    let room : vec_len c.args.ops ≤ vec_capacity c.in-Ok.answers = omega (arith, c.in-Ok.ensures.exact) in
    let few : 0 ≤ vec_len c.in-Ok.answers = omega arith in
    (rw (c.in-Ok.ensures.items, c.into_iter-rest.ensures.rest) (running_start (cpu_depot c.args.cpu.now c.args.depot.now) c.args.ops.items), len, room, few, c.requires, c.size.ensures.shape, refl)

pub loop-op-preserved : goal.loop-op-preserved
loop-op-preserved g c =
    let len : vec_len c.push_reserved.new.self + into_iter_len c.next.new.self ≡ vec_len c.args.ops = omega (arith, c.loop-op.invariant.1, c.in-Some.ensures.len) in
    let room : vec_len c.args.ops ≤ vec_capacity c.push_reserved.new.self = omega (arith, c.loop-op.invariant.2) in
    let few : c.loop-op.run.exchanges + c.run_one-answer.result.exchanges ≤ vec_len c.push_reserved.new.self = omega (arith, c.loop-op.invariant.3, c.run_one-answer.ensures.most) in (
      running_then _ _ _ _ _ _ _ _ _ _ c.in-Some.op c.run_one-answer.result.answer c.loop-op.invariant.0 c.in-Some.ensures.items c.push_reserved.ensures.items c.run_one-answer.ensures.step,
      len,
      room,
      few,
      c.run_one-answer.ensures.sizes,
      c.run_one-answer.ensures.shape,
      c.run_one-answer.ensures.size ∙ c.loop-op.invariant.6,
    )

pub returns-clause-run : goal.returns-clause-run
returns-clause-run g c =
    let none : into_iter_items c.loop-op.rest ≡ [] = grind (arith, common_steps) in
    running_end _ _ c.args.ops.items (into_iter_items c.loop-op.rest) c.loop-op.run.answers.items c.loop-op.run.exchanges c.loop-op.invariant.0 none

pub returns-clause-weights : goal.returns-clause-weights
returns-clause-weights g c = runs_weigh (cpu_depot c.args.cpu.now c.args.depot.now) (cpu_depot c.loop-op.cpu c.loop-op.depot) c.args.ops.items c.loop-op.run.answers.items c.loop-op.run.exchanges (returns-clause-run g c)

pub returns-clause-kinds : goal.returns-clause-kinds
returns-clause-kinds g c = moved_are_among _ _ (returns-clause-weights g c)

pub returns-clause-counts : goal.returns-clause-counts
returns-clause-counts g c =
    let none : into_iter_len c.loop-op.rest ≡ 0 = grind (arith, common_steps) in (
      omega (arith, c.loop-op.invariant.1, none),
      rw c.args.ops.ok.0 (runs_few (cpu_depot c.args.cpu.now c.args.depot.now) (cpu_depot c.loop-op.cpu c.loop-op.depot) c.args.ops.items c.loop-op.run.answers.items c.loop-op.run.exchanges
          c.size.ensures.shape c.requires (size_some c.args.depot.now.size c.size-2.ensures.sound.sized) (returns-clause-run g c)),
    )
