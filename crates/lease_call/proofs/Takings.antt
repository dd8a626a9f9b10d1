-- What comes of taking a segment for a request, whatever the parts answer soundly.
use Rattle.std.proofs.Common.{◌≡◌, ℕ, zero, suc, ◌<◌, ◌≤◌, List, [], ◌∷◌, Some, None, Result, Ok, Err, true, false, Bool, refl, sym, subst, ap, ◌∙◌, arith, inl, inr, length}
use Rattle.std.specs.Prelude.{slice_get, if◌then◌else◌}
use Rattle.deed_core.specs.Tag.{Tag}
use Rattle.deed_core.specs.Request.{Fits, IsGood, IsPlain, plain_of, rounding_of}
use Rattle.deed_core.specs.declared.requests.Request.{Request}
use Rattle.deed_core.proofs.LawProofs.{rounded_some, mapped}
use Rattle.arena_tree.specs.declared.levels.Level.{Level}
use Rattle.arena_tree.specs.declared.part_faults.PartFault.{PartFault}
use Rattle.tag_arena.specs.declared.faults.ArenaFault.{ArenaFault}
use Rattle.arena_tree.specs.declared.part_faults.PartFault.TheVariants as asking
use Rattle.arena_tree.specs.declared.part_faults.ClimbFault.TheVariants as climbing
use Rattle.tag_arena.specs.declared.faults.ArenaFault.TheVariants as arena_fault
use Rattle.arena_tree.specs.declared.trees.TreeArena.{TreeArena}
use Rattle.arena_tree.specs.Chains.{Node, IsChain, first_id, first_node, quantum_in, amount_of}
use Rattle.arena_tree.specs.Climbs.{ClimbEnd, climb_plan, on_carve}
use Rattle.arena_tree.specs.Plans.{Plan, Done, Ask, Gives}
use Rattle.arena_tree.specs.Sound.{SoundCarve}
use Rattle.arena_tree.specs.Told.{AnsweredEvent}
use Rattle.arena_tree.specs.Trees.{HasCaches, IsSlabSize, IsTree, node_of, nodes_of}
use Rattle.arena_tree.proofs.LawProofs.{tells_gives}
use Rattle.quantum_cache.specs.Allocs.{alloc_plan}
use Rattle.quantum_cache.specs.Caches.{chain_in}
use Rattle.quantum_cache.specs.Served.{IsServed, AsksForNone}
use Rattle.quantum_cache.specs.Sizes.{is_cached, quanta_for, cache_for}
use Rattle.quantum_cache.specs.Told.{AllocTold}
use Rattle.quantum_cache.proofs.LawProofs.{alloc_tells}
use Rattle.lease_call.specs.Leasing.{is_plain, carve_end, take_steps, take_plan}
use Rattle.lease_call.specs.Taking.{TakeTold}
use Rattle.lease_call.proofs.TreeChains.{tree_chain}

gives_any : {A : Type 0} (nodes : List Node) (post : A → Type 0) (p : Plan A) → ((a : A) → post a) → Gives nodes post p
gives_any nodes post (Done a) w = w a
gives_any nodes post (Ask e f) w = λ x _. gives_any nodes post (f x) w

gives_both : {A : Type 0} (nodes : List Node) (post post' more : A → Type 0) (p : Plan A) → ((a : A) → post a → post' a → more a) → Gives nodes post p → Gives nodes post' p → Gives nodes more p
gives_both nodes post post' more (Done a) f w v = f a w v
gives_both nodes post post' more (Ask e g) f w v = λ x s. gives_both nodes post post' more (g x) f (w x s) (v x s)

-- where it isn't refused as bad, some units were asked for
abbrev ForSome : ℕ → ClimbEnd → Type 0
ForSome n (Ok t) = 0 < n
ForSome n (Err (climbing.Refused arena_fault.BadRequest)) = Unit {0}
ForSome n (Err (climbing.Refused arena_fault.NoFit)) = 0 < n
ForSome n (Err (climbing.Refused arena_fault.NoMemory)) = Unit {0}
ForSome n (Err (climbing.Stuck t)) = Unit {0}
ForSome n (Err (climbing.Stopped o)) = Unit {0}

for_some : (n : ℕ) → 0 < n → (r : ClimbEnd) → ForSome n r
for_some n some (Ok t) = some
for_some n some (Err (climbing.Refused arena_fault.BadRequest)) = tt
for_some n some (Err (climbing.Refused arena_fault.NoFit)) = some
for_some n some (Err (climbing.Refused arena_fault.NoMemory)) = tt
for_some n some (Err (climbing.Stuck t)) = tt
for_some n some (Err (climbing.Stopped o)) = tt

none_for : (nodes : List Node) (l : Level) (up : List Level) (x : Result Tag (PartFault ArenaFault)) → SoundCarve nodes l.id (plain_of 0) x → Gives nodes (ForSome 0) (on_carve (climb_plan up (amount_of l up 0)) up l.id 0 x)
none_for nodes l up (Ok t) s = absurd (omega (arith, s.0.size))
none_for nodes l up (Err (asking.Refused arena_fault.BadRequest)) s = tt
none_for nodes l up (Err (asking.Refused arena_fault.NoFit)) s = absurd (omega (arith, s.size))
none_for nodes l up (Err (asking.Refused arena_fault.NoMemory)) s = tt
none_for nodes l up (Err asking.Stopped) s = tt

alloc_for : (nodes : List Node) (l : Level) (up : List Level) (n : ℕ) → Gives nodes (ForSome n) (alloc_plan (l ∷ up) n)
alloc_for nodes l up zero = none_for nodes l up
alloc_for nodes l up (suc n) = gives_any nodes (ForSome (suc n)) (alloc_plan (l ∷ up) (suc n)) (for_some (suc n) (omega arith))

-- what an allocation tells, without its way
abbrev Told : List Node → List Level → ℕ → ClimbEnd → Type 0
Told nodes chain n (Ok t) = IsServed nodes chain n t
Told nodes chain n (Err (climbing.Refused arena_fault.BadRequest)) = AsksForNone chain n
Told nodes chain n (Err (climbing.Refused arena_fault.NoFit)) = Unit {0}
Told nodes chain n (Err (climbing.Refused arena_fault.NoMemory)) = Unit {0}
Told nodes chain n (Err (climbing.Stuck t)) = Unit {0}
Told nodes chain n (Err (climbing.Stopped o)) = Unit {0}

told : (nodes : List Node) (chain : List Level) (n : ℕ) (now : List AnsweredEvent) (r : ClimbEnd) → AllocTold nodes chain n now r → Told nodes chain n r
told nodes chain n now (Ok t) w = w
told nodes chain n now (Err (climbing.Refused arena_fault.BadRequest)) w = w
told nodes chain n now (Err (climbing.Refused arena_fault.NoFit)) w = tt
told nodes chain n now (Err (climbing.Refused arena_fault.NoMemory)) w = tt
told nodes chain n now (Err (climbing.Stuck t)) w = tt
told nodes chain n now (Err (climbing.Stopped o)) w = tt

-- a plain request for some units is good
plain_good : (quantum : ℕ) (q : Request) → IsPlain q → 0 < q.size → IsGood quantum q
plain_good quantum q plain some = record {
  size = some;
  align = λ set. absurd (set plain.align);
  phase = λ set. absurd (set plain.phase);
  nocross = λ set. absurd (set plain.nocross);
  window = omega (arith, plain.min, plain.max);
  top = omega (arith, plain.max);
}

plain_fits : (quantum : ℕ) (q : Request) (base len : ℕ) → IsPlain q → Fits quantum (plain_of q.size) base len → Fits quantum q base len
plain_fits quantum q base len plain f = record {
  size = f.size;
  whole = f.whole;
  phase = λ set. absurd (set plain.align);
  min = omega (arith, plain.min);
  max = omega (arith, plain.max, f.max);
  nocross = λ set. absurd (set plain.nocross);
}

pub is_plain_so : (q : Request) → is_plain q ≡ true → IsPlain q
is_plain_so q is = record { align = grind (arith, is); phase = grind (arith, is); nocross = grind (arith, is); min = grind (arith, is); max = grind (arith, is) }

-- an arena whose slabs have no units caches nothing
no_slabs : (most size : ℕ) → IsSlabSize most size → size ≡ 0 → most ≡ 0
no_slabs zero size is none = refl
no_slabs (suc m) size is none = let next = is.1 (λ e. absurd (omega (arith, e))) in absurd (omega (arith, next.1, none))

not_cached : (l : Level) (n k : ℕ) → l.qcache_max ≡ 0 → cache_for l n ≡ Some k → ⊥
not_cached l n k none at = by (is_cached l n) refl at
  where
    by : (b : Bool) → is_cached l n ≡ b → (if b then Some (quanta_for l n) else None) ≡ Some k → ⊥
    by true is e =
        let some : 0 < n = grind (arith, is) in
        let low : rounding_of l.quantum n ≤ l.qcache_max = grind (arith, is) in
        absurd (omega (arith, none, low, rounded_some l.quantum n some))
    by false is e = let same : None ≡ Some k = e in absurd cc

-- what is so of each node's slabs
abbrev HaveSlabs : List Node → Type 0
HaveSlabs nodes = (id : ℕ) (n : Node) → slice_get nodes id ≡ Some n → n.slab_size ≡ 0 → n.qcache_max ≡ 0

have_slabs : (arenas : List TreeArena) → IsTree arenas → HaveSlabs (nodes_of arenas)
have_slabs arenas tree id n at none =
    let here = mapped node_of arenas id n at in
    let caches : HasCaches here.0.quantum here.0.qcache_max here.0.slab_size = (tree.each id here.0 here.1).caches in
    let size : here.0.slab_size ≡ 0 = sym (ap (λ (z : Node). z.slab_size) here.2) ∙ none in
    ap (λ (z : Node). z.qcache_max) here.2 ∙ no_slabs here.0.qcache_max here.0.slab_size caches.2 size

taken_plain : (nodes : List Node) (l : Level) (up : List Level) (q : Request) → HaveSlabs nodes → IsChain nodes (l ∷ up) → IsPlain q → (r : ClimbEnd) → Told nodes (l ∷ up) q.size r → ForSome q.size r → TakeTold nodes l.id q r
taken_plain nodes l up q slabs is plain (Ok t) served some = record {
  good = plain_good (quantum_in nodes l.id) q plain some;
  of_arena = served.of_arena;
  fits = plain_fits (quantum_in nodes l.id) q t.holding.range.base t.holding.range.len plain served.fits;
}
taken_plain nodes l up q slabs is plain (Err (climbing.Refused arena_fault.BadRequest)) (inl none) some = λ good. absurd (omega (arith, none, good.size))
taken_plain nodes l up q slabs is plain (Err (climbing.Refused arena_fault.BadRequest)) (inr (none, (k, at))) some = absurd (not_cached l q.size k (slabs l.id (first_node l up) is.0 none) at)
taken_plain nodes l up q slabs is plain (Err (climbing.Refused arena_fault.NoFit)) w some = plain_good (quantum_in nodes l.id) q plain some
taken_plain nodes l up q slabs is plain (Err (climbing.Refused arena_fault.NoMemory)) w some = tt
taken_plain nodes l up q slabs is plain (Err (climbing.Stuck t)) w some = tt
taken_plain nodes l up q slabs is plain (Err (climbing.Stopped o)) w some = tt

alloc_taken : (nodes : List Node) (chain : List Level) (arena : ℕ) (q : Request) → HaveSlabs nodes → IsChain nodes chain → first_id chain ≡ Some arena → IsPlain q → Gives nodes (TakeTold nodes arena q) (alloc_plan chain q.size)
alloc_taken nodes [] arena q slabs is first plain = absurd (let e : None ≡ Some arena = first in cc)
alloc_taken nodes (l ∷ up) arena q slabs is first plain =
    let here : l.id ≡ arena = (let e : Some l.id ≡ Some arena = first in cc) in
    let gives = tells_gives nodes (AllocTold nodes (l ∷ up) q.size) (Told nodes (l ∷ up) q.size) (alloc_plan (l ∷ up) q.size) [] (told nodes (l ∷ up) q.size) (alloc_tells nodes (l ∷ up) q.size is) in
    subst (λ (n : ℕ). Gives nodes (TakeTold nodes n q) (alloc_plan (l ∷ up) q.size)) here
    (gives_both nodes (Told nodes (l ∷ up) q.size) (ForSome q.size) (TakeTold nodes l.id q) (alloc_plan (l ∷ up) q.size) (taken_plain nodes l up q slabs is plain) gives (alloc_for nodes l up q.size))

carved : (nodes : List Node) (arena : ℕ) (q : Request) (x : Result Tag (PartFault ArenaFault)) → SoundCarve nodes arena q x → TakeTold nodes arena q (carve_end x)
carved nodes arena q (Ok t) s = record { good = s.0; of_arena = s.1.of_arena; fits = s.1.fits }
carved nodes arena q (Err (asking.Refused arena_fault.BadRequest)) s = s
carved nodes arena q (Err (asking.Refused arena_fault.NoFit)) s = s
carved nodes arena q (Err (asking.Refused arena_fault.NoMemory)) s = tt
carved nodes arena q (Err asking.Stopped) s = tt

-- of a tree's arena
pub take_gives : (arenas : List TreeArena) (arena : ℕ) (q : Request) → IsTree arenas → arena < length arenas → Gives (nodes_of arenas) (TakeTold (nodes_of arenas) arena q) (take_plan arenas arena q)
take_gives arenas arena q tree within = by (is_plain q) refl
  where
    by : (b : Bool) → is_plain q ≡ b → Gives (nodes_of arenas) (TakeTold (nodes_of arenas) arena q) (take_steps b arenas arena q)
    by true is =
        let chain = tree_chain arenas tree arena within in
        alloc_taken (nodes_of arenas) (chain_in arenas arena) arena q (have_slabs arenas tree) chain.0 chain.1 (is_plain_so q is)
    by false is = λ x s. carved (nodes_of arenas) arena q x s
