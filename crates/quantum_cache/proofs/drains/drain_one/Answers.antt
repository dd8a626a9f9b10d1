use Rattle.arena_tree.proofs.LawProofs.{ran_counts}
use Rattle.arena_tree.specs.Climbs.{ReturnEnd}
use Rattle.quantum_cache.specs.Frees.{put_chunk}
use Rattle.quantum_cache.proofs.FreeBounds.{within_put}
use Rattle.quantum_cache.proofs.Turns.{turn_counts}
use Rattle.quantum_cache.proofs.drains.drain_one.Goals as goal

pub returns-in-Ok-clause-few : goal.returns-in-Ok-clause-few
returns-in-Ok-clause-few g c =
    let put = ran_counts _ _ _ _ (λ (r : ReturnEnd). 1) (put_chunk (g.S.Held.tag c.in-Ok-Some.segment)) _ _ _ c.put_back.ensures.ran (within_put _) in
    turn_counts _ _ _ _ _ _ (g.S.Held.tag c.in-Ok-Some.segment) c.in-Ok-Some.ensures.counted (rw c.in-Ok-Some.field-0-is at c.in-Ok-Some.ensures.moved) put c.put_back.ensures.rounds

pub returns-in-Err-Stuck-clause-few : goal.returns-in-Err-Stuck-clause-few
returns-in-Err-Stuck-clause-few g c =
    let put = ran_counts _ _ _ _ (λ (r : ReturnEnd). 1) (put_chunk (g.S.Held.tag c.in-Ok-Some.segment)) _ _ _ c.put_back.ensures.ran (within_put _) in
    turn_counts _ _ _ _ _ _ (g.S.Held.tag c.in-Ok-Some.segment) c.in-Ok-Some.ensures.counted (rw c.in-Ok-Some.field-0-is at c.in-Ok-Some.ensures.moved) put c.put_back.ensures.rounds

pub returns-in-Err-Stopped-clause-few : goal.returns-in-Err-Stopped-clause-few
returns-in-Err-Stopped-clause-few g c =
    let put = ran_counts _ _ _ _ (λ (r : ReturnEnd). 1) (put_chunk (g.S.Held.tag c.in-Ok-Some.segment)) _ _ _ c.put_back.ensures.ran (within_put _) in
    turn_counts _ _ _ _ _ _ (g.S.Held.tag c.in-Ok-Some.segment) c.in-Ok-Some.ensures.counted (rw c.in-Ok-Some.field-0-is at c.in-Ok-Some.ensures.moved) put c.put_back.ensures.rounds
