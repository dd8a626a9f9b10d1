-- What the parts of a picture give for a lease.
use Rattle.std.proofs.Common.{◌≡◌, ◌<◌, ◌^◌, ◌∙◌, ℕ, Bool, true, false, refl, sym, subst, ap, inl, inr, List, [], Some, None, Result, Ok, Err, arith, cond, nat_lt, length, slice_get}
use Rattle.std.specs.List.{position_or_len}
use Rattle.std.specs.Str.{bytes_eq}
use Rattle.std.proofs.lemmas.Bool.{cases_lt, ltb-true}
use Rattle.deed_core.specs.Tag.{Tag}
use Rattle.deed_core.specs.Request.{IsPlain, plain_of, rounding_of}
use Rattle.deed_core.specs.declared.requests.Request.{Request}
use Rattle.arena_tree.specs.Climbs.{ClimbEnd}
use Rattle.arena_tree.specs.Plans as plans
use Rattle.arena_tree.specs.Trees.{index_in, nodes_of}
use Rattle.arena_tree.specs.declared.part_faults.PartFault.{PartFault}
use Rattle.tag_arena.specs.declared.faults.ArenaFault.{ArenaFault}
use Rattle.arena_tree.specs.declared.part_faults.PartFault.TheVariants as asking
use Rattle.tag_arena.specs.declared.faults.ArenaFault.TheVariants as carving
use Rattle.arena_tree.specs.declared.part_faults.ClimbFault.TheVariants as climbing
use Rattle.arena_tree.specs.declared.trees.TreeArena.{TreeArena}
use Rattle.arena_tree.proofs.LawProofs.{path_split}
use Rattle.quantum_cache.specs.Allocs.{alloc_plan, xalloc_plan}
use Rattle.quantum_cache.specs.Caches.{chain_in}
use Rattle.local_parts.specs.States.{LocalState}
use Rattle.local_calls.specs.Runs.{RunsTo, SoundStep}
use Rattle.lease_call.proofs.LawProofs.{is_plain_so}
use Rattle.lease_call.specs.Leasing.{carve_end, is_plain, take_plan, take_steps}
use Rattle.lease_machine.specs.CallLaws.{IsCarvedFor, IsClimbedFor, IsFromCaches}
use Rattle.lease_machine.specs.Held.{parts_in, with_parts}
use Rattle.lease_machine.specs.Picture.{Picture, SameSetup, IsHeld}
use Rattle.lease_machine.proofs.AllocLaws.{alloc_climbs}
use Rattle.lease_machine.proofs.CachedLaws.{alloc_from_caches}
use Rattle.lease_machine.proofs.XallocLaws.{xalloc_carves}

abbrev place_of : List TreeArena → List ℕ → ℕ
place_of tree name = position_or_len (λ (x : TreeArena). bytes_eq x.name name) tree

-- an arena that has a name is there
pub index_within : (tree : List TreeArena) (name : List ℕ) (index : ℕ) → index_in name tree ≡ Some index → index < length tree
index_within tree name index first = by (nat_lt (place_of tree name) (length tree)) refl first
  where
    by : (b : Bool) → nat_lt (place_of tree name) (length tree) ≡ b → cond b (Some (place_of tree name)) None ≡ Some index → index < length tree
    by true less is = (let e : Some (place_of tree name) ≡ Some index = is in let same : place_of tree name ≡ index = cc in subst (λ (n : ℕ). n < length tree) same (ltb-true _ _ less))
    by false less is = absurd (let e : None ≡ Some index = is in cc)

-- a request that isn't constrained is known by its size
plain_is : (q : Request) → IsPlain q → plain_of q.size ≡ q
plain_is q is =
    ap (λ n. record { size = q.size; align = n; phase = 0; nocross = 0; min = 0; max = 2 ^ 62 }) (sym is.align)
    ∙ ap (λ n. record { size = q.size; align = q.align; phase = n; nocross = 0; min = 0; max = 2 ^ 62 }) (sym is.phase)
    ∙ ap (λ n. record { size = q.size; align = q.align; phase = q.phase; nocross = n; min = 0; max = 2 ^ 62 }) (sym is.nocross)
    ∙ ap (λ n. record { size = q.size; align = q.align; phase = q.phase; nocross = q.nocross; min = n; max = 2 ^ 62 }) (sym is.min)
    ∙ ap (λ n. record { size = q.size; align = q.align; phase = q.phase; nocross = q.nocross; min = q.min; max = n }) (sym is.max)

not_plain : (q : Request) → is_plain q ≡ false → ¬ IsPlain q
not_plain q is plain =
    let test : is_plain q ≡ true = subst (λ (r : Request). is_plain r ≡ true) (plain_is q plain) refl in
    let e : false ≡ true = sym is ∙ test in
    cc

module _ (d : Picture) (index : ℕ) (x : TreeArena) (q : Request) (s : LocalState) (held : IsHeld [] d) (here : slice_get d.tree index ≡ Some x) where
  abbrev new : Picture
  new = with_parts s d

  same_setup : new ≡ d → SameSetup d new
  same_setup same = subst (SameSetup d) (sym same) (record { tree = refl; owned = refl })

  same_held : new ≡ d → IsHeld [] new
  same_held same = subst (IsHeld []) (sym same) held

  from_climbed : (a : ClimbEnd) → IsClimbedFor index x q d a new → IsFromCaches index x q d a new
  from_climbed (Ok t) is = is
  from_climbed (Err (climbing.Refused carving.BadRequest)) is = is
  from_climbed (Err (climbing.Refused carving.NoFit)) is = (is.0, is.1, same_held is.2, same_setup is.2)
  from_climbed (Err (climbing.Refused carving.NoMemory)) is = is
  from_climbed (Err (climbing.Stuck t)) is = absurd is
  from_climbed (Err (climbing.Stopped o)) is = absurd is

  from_carved : (r : Result Tag (PartFault ArenaFault)) → IsCarvedFor index x q d r new → IsFromCaches index x q d (carve_end r) new
  from_carved (Ok t) is = is
  from_carved (Err (asking.Refused carving.BadRequest)) is = is
  from_carved (Err (asking.Refused carving.NoFit)) is = (is.0, is.1, same_held is.2, same_setup is.2)
  from_carved (Err (asking.Refused carving.NoMemory)) is = (is.0, is.1, is.2, same_held is.3, same_setup is.3)
  from_carved (Err asking.Stopped) is = absurd is

  allocated : IsPlain q → (a : ClimbEnd) → RunsTo d.tree (alloc_plan (chain_in d.tree index) q.size) (parts_in d) s a → IsFromCaches index x q d a new
  allocated plain a run = elim (cases_lt x.qcache_max (rounding_of x.quantum q.size)) [
    | inl greater ↦ from_climbed a (alloc_climbs d index x q s a held here plain (λ cached. (let within = cached.1 in omega (arith, greater, within))) run)
    | inr within ↦ alloc_from_caches d index x q s a held here plain (plain, omega (arith, within)) run
  ]

-- whatever was asked
pub taken_so : (d : Picture) (index : ℕ) (x : TreeArena) (q : Request) (s : LocalState) (a : ClimbEnd) → IsHeld [] d → slice_get d.tree index ≡ Some x → RunsTo d.tree (take_plan d.tree index q) (parts_in d) s a → IsFromCaches index x q d a (with_parts s d)
taken_so d index x q s a held here run = by (is_plain q) refl run
  where
    by : (b : Bool) → is_plain q ≡ b → RunsTo d.tree (take_steps b d.tree index q) (parts_in d) s a → IsFromCaches index x q d a (with_parts s d)
    by true is path = allocated d index x q s held here (is_plain_so q is) a path
    by false is path =
        let split = path_split (SoundStep (nodes_of d.tree)) (xalloc_plan index q) (λ r. plans.Done (carve_end r)) (parts_in d) s a path in
        let carved = from_carved d index x q split.0 held here split.1 (xalloc_carves d index x q split.0 split.1 held here (not_plain q is) split.2) in
        subst (λ (e : ClimbEnd). IsFromCaches index x q d e (with_parts s d)) split.3.1 (subst (λ (m : LocalState). IsFromCaches index x q d (carve_end split.1) (with_parts m d)) split.3.0 carved)
