-- Climbs and hand backs end well.
use Rattle.std.proofs.Common.{◌≡◌, ℕ, List, [], ◌∷◌, Option, Some, None, Result, Ok, Err, sym, ap, subst, ◌∙◌}
use Rattle.deed_core.specs.Tag.{Tag}
use Rattle.deed_core.specs.Request.{plain_of}
use Rattle.deed_core.specs.declared.segments.Route.TheVariants.{Direct}
use Rattle.arena_tree.specs.declared.levels.Level.{Level}
use Rattle.arena_tree.specs.declared.trees.TreeArena.{TreeArena}
use Rattle.arena_tree.specs.declared.part_faults.PartFault.{PartFault}
use Rattle.arena_tree.specs.declared.part_faults.GivenFault.{GivenFault}
use Rattle.tag_arena.specs.declared.faults.ArenaFault.{ArenaFault}
use Rattle.tag_arena.specs.declared.faults.SpanFault.{SpanFault}
use Rattle.arena_tree.specs.declared.part_faults.PartFault.TheVariants as asking
use Rattle.arena_tree.specs.declared.part_faults.GivenFault.TheVariants as giving
use Rattle.tag_arena.specs.declared.faults.ArenaFault.TheVariants as carving
use Rattle.tag_arena.specs.declared.faults.SpanFault.TheVariants as adding
use Rattle.arena_tree.specs.declared.part_faults.ClimbFault.TheVariants as climbing
use Rattle.arena_tree.specs.declared.part_faults.ReturnFault.TheVariants as returning
use Rattle.arena_tree.specs.Chains.{IsChain, first_id, amount_of}
use Rattle.arena_tree.specs.Climbs.{ClimbEnd, ReturnEnd, IsGrantOf, return_plan, on_free, memory_refusal, give_back_plan, on_add, on_import, on_carve, climb_plan}
use Rattle.arena_tree.specs.Events.{Carve, Free, AddCarve}
use Rattle.arena_tree.specs.Plans.{Plan, Done, Ask, then}
use Rattle.arena_tree.specs.Sound.{Sound}
use Rattle.arena_tree.specs.Trees.{nodes_of}
use Rattle.local_calls.specs.Asked.{GoesWell, DoesWell, EndsWell}
use Rattle.local_calls.proofs.Chains.{chain_source, chain_above}

pub ends_then : {A B : Type 0} (arenas : List TreeArena) (post : A → Type 0) (post' : B → Type 0) (p : Plan A) (next : A → Plan B) → EndsWell arenas post p → ((a : A) → post a → EndsWell arenas post' (next a)) → EndsWell arenas post' (then p next)
ends_then arenas post post' (Done a) next w f = f a w
ends_then arenas post post' (Ask e g) next w f = (w.0, λ x s well. ends_then arenas post post' (g x) next (w.1 x s well) f)

module _ (arenas : List TreeArena) where
  -- a Direct segment of the chain's first arena goes back
  pub well_return : (chain : List Level) (t : Tag) → IsChain (nodes_of arenas) chain → first_id chain ≡ Some t.arena → t.route ≡ Direct → EndsWell arenas (λ (r : ReturnEnd). DoesWell r) (return_plan chain t)
  well_return [] t is first direct = absurd (let e : None ≡ Some t.arena = first in cc)
  well_return (l ∷ up) t is first direct = (direct, freed (λ w at way. well_return up w is.2 at way))
    where
      freed : ((w : Tag) → first_id up ≡ Some w.arena → w.route ≡ Direct → EndsWell arenas (λ (r : ReturnEnd). DoesWell r) (return_plan up w)) → (x : Result (Option Tag) (GivenFault Tag Tag)) → Sound (nodes_of arenas) (Free t) x → GoesWell (Free t) x
          → EndsWell arenas (λ (r : ReturnEnd). DoesWell r) (on_free (return_plan up) x)
      freed again (Ok None) s well = tt
      freed again (Ok (Some w)) s well = again w (chain_above (nodes_of arenas) l up t w is first (s.0).whole.1) (s.0).whole.0
      freed again (Err (giving.Refused x)) s well = absurd well
      freed again (Err (giving.Stopped x)) s well = absurd well

  -- a climb ends with a grant, or with an empty hand
  abbrev pub ClimbsWell : List Level → ℕ → ClimbEnd → Type 0
  ClimbsWell chain n (Ok t) = IsGrantOf (nodes_of arenas) chain n t
  ClimbsWell chain n (Err (climbing.Refused f)) = Unit {0}
  ClimbsWell chain n (Err (climbing.Stuck t)) = ⊥
  ClimbsWell chain n (Err (climbing.Stopped o)) = ⊥

  pub well_refused : (post : ClimbEnd → Type 0) → post (Err (climbing.Refused carving.NoMemory)) → (up : List Level) (t : Tag) → IsChain (nodes_of arenas) up → first_id up ≡ Some t.arena → t.route ≡ Direct → EndsWell arenas post (give_back_plan up t)
  well_refused post ok up t is first direct = ends_then arenas (λ (r : ReturnEnd). DoesWell r) post (return_plan up t) (λ r. Done (memory_refusal r)) (well_return up t is first direct) ends
    where
      ends : (r : ReturnEnd) → DoesWell r → post (memory_refusal r)
      ends (Ok u) w = ok
      ends (Err (returning.Stuck x)) w = absurd w
      ends (Err (returning.Stopped x)) w = absurd w

  well_added : (l : Level) (up : List Level) (n : ℕ) (span : Tag) (x : Result Tag (GivenFault (SpanFault Tag) Tag)) → IsChain (nodes_of arenas) up → first_id up ≡ Some span.arena → span.route ≡ Direct → Sound (nodes_of arenas) (AddCarve l.id span n) x → GoesWell (AddCarve l.id span n) x
      → EndsWell arenas (ClimbsWell (l ∷ up) n) (on_add up x)
  well_added l up n span (Ok t) is first direct s well = (s.0).grant
  well_added l up n span (Err (giving.Refused (adding.NoMemory t))) is first direct s well =
      well_refused (ClimbsWell (l ∷ up) n) tt up t is (subst (λ (z : Tag). first_id up ≡ Some z.arena) (sym s.1) first) (subst (λ (z : Tag). z.route ≡ Direct) (sym s.1) direct)
  well_added l up n span (Err (giving.Refused (adding.Overlaps t))) is first direct s well = absurd well
  well_added l up n span (Err (giving.Refused (adding.NotAligned t))) is first direct s well = absurd well
  well_added l up n span (Err (giving.Stopped t)) is first direct s well = absurd well

  -- a grant is of the first arena
  granted_first : (chain : List Level) (n : ℕ) (t : Tag) → IsGrantOf (nodes_of arenas) chain n t → (first_id chain ≡ Some t.arena) × (t.route ≡ Direct)
  granted_first [] n t g = absurd g
  granted_first (l ∷ up) n t g = (ap Some (sym g.of_arena), g.direct)

  well_imported : (l : Level) (up : List Level) (n m : ℕ) → IsChain (nodes_of arenas) (l ∷ up) → (r : ClimbEnd) → ClimbsWell up m r → EndsWell arenas (ClimbsWell (l ∷ up) n) (on_import up l.id n r)
  well_imported l up n m is (Ok span) w =
      let g = granted_first up m span w in
      (record { source = chain_source (nodes_of arenas) l up is ∙ g.0; direct = g.1 }, λ x s well. well_added l up n span x is.2 g.0 g.1 s well)
  well_imported l up n m is (Err (climbing.Refused f)) w = tt
  well_imported l up n m is (Err (climbing.Stuck t)) w = absurd w
  well_imported l up n m is (Err (climbing.Stopped o)) w = absurd w

  pub well_climb : (chain : List Level) (n : ℕ) → IsChain (nodes_of arenas) chain → EndsWell arenas (ClimbsWell chain n) (climb_plan chain n)
  well_climb [] n is = tt
  well_climb (l ∷ up) n is = (tt, carved (well_climb up (amount_of l up n) is.2))
    where
      carved : EndsWell arenas (ClimbsWell up (amount_of l up n)) (climb_plan up (amount_of l up n)) → (x : Result Tag (PartFault ArenaFault)) → Sound (nodes_of arenas) (Carve l.id (plain_of n)) x → GoesWell (Carve l.id (plain_of n)) x → EndsWell arenas (ClimbsWell (l ∷ up) n) (on_carve (climb_plan up (amount_of l up n)) up l.id n x)
      carved again (Ok t) s well = s.1
      carved again (Err (asking.Refused carving.NoFit)) s well = ends_then arenas (ClimbsWell up (amount_of l up n)) (ClimbsWell (l ∷ up) n) (climb_plan up (amount_of l up n)) (on_import up l.id n) again (well_imported l up n (amount_of l up n) is)
      carved again (Err (asking.Refused carving.BadRequest)) s well = tt
      carved again (Err (asking.Refused carving.NoMemory)) s well = tt
      carved again (Err asking.Stopped) s well = absurd well
