-- What the lists of steps of climbs give.
use Rattle.std.proofs.Common.{ℕ, List, [], ◌∷◌, Option, Some, None, Result, Ok, Err}
use Rattle.std.specs.Prelude.{IfOk}
use Rattle.deed_core.specs.Request.{plain_of}
use Rattle.deed_core.specs.Tag.{Tag}
use Rattle.arena_tree.specs.declared.levels.Level.{Level}
use Rattle.arena_tree.specs.declared.part_faults.PartFault.{PartFault}
use Rattle.arena_tree.specs.declared.part_faults.GivenFault.{GivenFault}
use Rattle.tag_arena.specs.declared.faults.ArenaFault.{ArenaFault}
use Rattle.tag_arena.specs.declared.faults.SpanFault.{SpanFault}
use Rattle.arena_tree.specs.declared.part_faults.PartFault.TheVariants as asking
use Rattle.arena_tree.specs.declared.part_faults.GivenFault.TheVariants as giving
use Rattle.tag_arena.specs.declared.faults.ArenaFault.TheVariants as carving
use Rattle.tag_arena.specs.declared.faults.SpanFault.TheVariants as adding
use Rattle.arena_tree.specs.declared.part_faults.ReturnFault.TheVariants as returning
use Rattle.arena_tree.specs.Chains.{Node, amount_of, IsGrant}
use Rattle.arena_tree.specs.Plans.{Plan, Done, Ask, then, Gives}
use Rattle.arena_tree.specs.Events.{Free, AddCarve}
use Rattle.arena_tree.specs.Sound.{Sound, SoundCarve}
use Rattle.arena_tree.specs.Climbs.{ReturnEnd, ClimbEnd, return_plan, on_free, memory_refusal, on_add, on_import, on_carve, climb_plan, IsGrantOf}
use Rattle.arena_tree.proofs.Paths.{gives_then}

-- what a hand back ends with, whatever that is
pub gives_return : (nodes : List Node) (chain : List Level) (t : Tag) → Gives nodes (λ (r : ReturnEnd). Unit {0}) (return_plan chain t)
gives_return nodes [] t = tt
gives_return nodes (l ∷ up) t = freed (gives_return nodes up)
  where
    freed : ((w : Tag) → Gives nodes (λ (r : ReturnEnd). Unit {0}) (return_plan up w)) → (x : Result (Option Tag) (GivenFault Tag Tag)) → Sound nodes (Free t) x → Gives nodes (λ (r : ReturnEnd). Unit {0}) (on_free (return_plan up) x)
    freed again (Ok None) s = tt
    freed again (Ok (Some w)) s = again w
    freed again (Err (giving.Refused x)) s = tt
    freed again (Err (giving.Stopped x)) s = tt

pub gives_refused : (nodes : List Node) (post : Tag → Type 0) (chain : List Level) (t : Tag) → Gives nodes (λ (r : ClimbEnd). IfOk r post) (then (return_plan chain t) (λ r. Done (memory_refusal r)))
gives_refused nodes post chain t = gives_then nodes (λ (r : ReturnEnd). Unit {0}) (λ (r : ClimbEnd). IfOk r post) (return_plan chain t) (λ r. Done (memory_refusal r)) (gives_return nodes chain t) ended
  where
    ended : (r : ReturnEnd) → Unit {0} → IfOk (memory_refusal r) post
    ended (Ok u) _ = tt
    ended (Err (returning.Stuck x)) _ = tt
    ended (Err (returning.Stopped x)) _ = tt

gives_added : (nodes : List Node) (up : List Level) (child n : ℕ) (given : Tag) (x : Result Tag (GivenFault (SpanFault Tag) Tag)) → Sound nodes (AddCarve child given n) x → Gives nodes (λ (r : ClimbEnd). IfOk r (IsGrant nodes child (plain_of n))) (on_add up x)
gives_added nodes up child n given (Ok t) s = (s.0).grant
gives_added nodes up child n given (Err (giving.Refused (adding.NotAligned t))) s = tt
gives_added nodes up child n given (Err (giving.Refused (adding.Overlaps t))) s = tt
gives_added nodes up child n given (Err (giving.Stopped t)) s = tt
gives_added nodes up child n given (Err (giving.Refused (adding.NoMemory t))) s = gives_refused nodes (IsGrant nodes child (plain_of n)) up t

gives_carved : (nodes : List Node) (import : Plan ClimbEnd) (up : List Level) (id n : ℕ) (x : Result Tag (PartFault ArenaFault)) → Gives nodes (λ (r : ClimbEnd). Unit {0}) import → SoundCarve nodes id (plain_of n) x
    → Gives nodes (λ (r : ClimbEnd). IfOk r (IsGrant nodes id (plain_of n))) (on_carve import up id n x)
gives_carved nodes import up id n (Ok t) w s = s.1
gives_carved nodes import up id n (Err (asking.Refused carving.BadRequest)) w s = tt
gives_carved nodes import up id n (Err (asking.Refused carving.NoMemory)) w s = tt
gives_carved nodes import up id n (Err asking.Stopped) w s = tt
gives_carved nodes import up id n (Err (asking.Refused carving.NoFit)) w s = gives_then nodes (λ (r : ClimbEnd). Unit {0}) (λ (r : ClimbEnd). IfOk r (IsGrant nodes id (plain_of n))) import (on_import up id n) w imported
  where
    imported : (r : ClimbEnd) → Unit {0} → Gives nodes (λ (r : ClimbEnd). IfOk r (IsGrant nodes id (plain_of n))) (on_import up id n r)
    imported (Ok span) _ = λ x sound. gives_added nodes up id n span x sound
    imported (Err f) _ = tt

any : (nodes : List Node) (post : ClimbEnd → Type 0) (p : Plan ClimbEnd) → Gives nodes post p → Gives nodes (λ (r : ClimbEnd). Unit {0}) p
any nodes post (Done a) w = tt
any nodes post (Ask e f) w = λ x s. any nodes post (f x) (w x s)

-- a climb gives a grant of its first arena
pub gives_climb : (nodes : List Node) (chain : List Level) (n : ℕ) → Gives nodes (λ (r : ClimbEnd). IfOk r (IsGrantOf nodes chain n)) (climb_plan chain n)
gives_climb nodes [] n = tt
gives_climb nodes (l ∷ up) n = λ x s. gives_carved nodes (climb_plan up (amount_of l up n)) up l.id n x (any nodes (λ (r : ClimbEnd). IfOk r (IsGrantOf nodes up (amount_of l up n))) (climb_plan up (amount_of l up n)) (gives_climb nodes up (amount_of l up n))) s
