-- By which part an event came, where that part was asked.
use Rattle.std.proofs.Common.{◌≡◌, ◌∙◌, ℕ, ◌+◌, ◌-◌, ◌<◌, ◌≤◌, List, length, get_or, Option, Some, None, Result, Ok, Err, inl, inr, refl, ap, sym, subst, arith}
use Rattle.std.specs.Prelude.{slice_get}
use Rattle.std.proofs.lemmas.Option.{slice_get_within}
use Rattle.deed_core.proofs.LawProofs.{slice_get_here}
use Rattle.deed_core.specs.Tag.{Tag}
use Rattle.deed_core.specs.declared.requests.Request.{Request}
use Rattle.tag_arena.specs.declared.faults.ArenaFault.{ArenaFault}
use Rattle.tag_arena.specs.declared.faults.SpanFault.{SpanFault}
use Rattle.tag_arena.specs.declared.faults.SpanFault.TheVariants as adding
use Rattle.slab_layer.specs.declared.faults.PutFault.{PutFault}
use Rattle.slab_layer.specs.declared.faults.PutFault.TheVariants as putting
use Rattle.slab_layer.specs.declared.faults.AddFault.{AddFault}
use Rattle.slab_layer.specs.declared.faults.AddFault.TheVariants as slabbing
use Rattle.magazine_layer.specs.declared.faults.FullFault.{FullFault}
use Rattle.magazine_layer.specs.declared.faults.EmptyFault.{EmptyFault}
use Rattle.arena_tree.specs.declared.part_faults.FreshFault.{FreshFault}
use Rattle.arena_tree.specs.declared.part_faults.PartFault.TheVariants as asking
use Rattle.arena_tree.specs.declared.part_faults.GivenFault.TheVariants as giving
use Rattle.arena_tree.specs.Events.{AnswerTo, Carve, Free, AddCarve, SlabTake, SlabPut, SlabAdd, SlabReap, SwapFull, SwapEmpty, SwapFresh, DepotReap}
use Rattle.arena_tree.specs.Tags.{wording_of, tag_ok, tag_all, tag_free, tag_add, tag_put, tag_slab}
use Rattle.locked_parts.specs.Kinds.{OwnCacheState}
use Rattle.locked_parts.specs.Owns.{cache_of}
use Rattle.arena_tree.specs.Chains.{quantum_in}
use Rattle.arena_tree.specs.Trees.{nodes_of}
use Rattle.arena_tree.specs.declared.trees.TreeArena.{TreeArena}
use Rattle.locked_parts.specs.Missing.{IsFoundFor}
use Rattle.locked_parts.specs.Saying.{CameBy, HasCache, HasCacheAt, IsNoCache, IsNone, arena_said, slabs_said, depot_said, number_of_cache}
use Rattle.locked_parts.specs.States.{IsCacheAt, LockedArenaState, LockedPartsState, StandsInPlace}
use Rattle.locked_parts.specs.Words.{given_word, carve_word, free_word, span_word, put_word, add_word, full_word, empty_word, fresh_word}
use Rattle.locked_parts.specs.declared.gates.NextStep.{NextStep}
use Rattle.locked_parts.specs.declared.kinds.CacheKind.{CacheKind}
use Rattle.locked_parts.specs.declared.misplaced.Found.TheVariants as finding
use Rattle.locked_parts.specs.declared.misplaced.PartName.{PartName}
use Rattle.locked_parts.specs.declared.misplaced.PartName.TheVariants as naming
use Rattle.locked_parts.specs.declared.said.Said.{Said}
use Rattle.locked_parts.proofs.Begins.{up_to_at}

-- where none was found, the part doesn't stand
pub none_found : (p : LockedPartsState) (part : PartName) → IsFoundFor p part finding.None → IsNone p part
none_found p (naming.Arena arena) is = is
none_found p (naming.Slabs arena cache) is = is
none_found p (naming.Depot arena cache) is = is

-- an arena that stands has no cache of this number
pub lacks : (p : LockedPartsState) (arena cache : ℕ) (a : LockedArenaState) → slice_get p.stand arena ≡ Some a → ¬ HasCache a cache → IsNoCache p arena cache
lacks p arena cache a at lacking = inr (a, at, lacking)

-- a quantum cache of an arena that stands in its place is the one of its number
pub is_same : (arenas : List TreeArena) (arena number : ℕ) (a : LockedArenaState) (k : CacheKind) → StandsInPlace arenas arena a → HasCacheAt a number k → k ≡ cache_of arenas arena number
is_same arenas arena number a k stands has =
    let within = slice_get_within a.kinds has.0 k has.2 in
    let there : Some k ≡ Some (cache_of arenas arena (has.0 + 1)) = sym has.2 ∙ ap (λ (l : List CacheKind). slice_get l has.0) stands.kinds ∙ up_to_at arena (quantum_in (nodes_of arenas) arena) (length a.kinds) has.0 within in
    let same : k ≡ cache_of arenas arena (has.0 + 1) = cc in
    same ∙ ap (cache_of arenas arena) has.1

pub is_at : (arenas : List TreeArena) (arena number : ℕ) (a : LockedArenaState) (k : CacheKind) → StandsInPlace arenas arena a → HasCacheAt a number k → 0 < quantum_in (nodes_of arenas) arena → IsCacheAt arenas arena number k
is_at arenas arena number a k stands has some =
    let same = is_same arenas arena number a k stands has in (
      ap (λ (c : CacheKind). c.arena) same,
      ap (λ (c : CacheKind). c.number) same,
      subst (λ (c : CacheKind). 0 < c.quantum) (sym same) some,
      sym (ap (λ (c : CacheKind). c.quantum) same),
    )

-- the quantum cache that was read is the one of its number
pub stands_there : (a v : LockedArenaState) (number : ℕ) (k : CacheKind) → v ≡ a → 0 < number → number ≤ length v.kinds → k ≡ get_or v.kinds (number - 1) k → HasCacheAt a number k
stands_there a v number k same some most read = subst (λ (q : LockedArenaState). HasCacheAt q number k) same (number - 1, omega (arith, some), slice_get_here v.kinds (number - 1) k (omega (arith, some, most)) read)

module _ (p : LockedPartsState) (own : List OwnCacheState) (step : NextStep) (s : Said) where
  pub carved : (arena : ℕ) (q : Request) (r : Result Tag ArenaFault) (a : AnswerTo (Carve arena q)) → a ≡ wording_of asking.Refused r → s ≡ arena_said arena step (carve_word r) → CameBy p own step (Carve arena q) a s
  carved arena q r a told said = inl (r, told, said)

  pub freed : (t : Tag) (r : Result (Option Tag) Tag) (a : AnswerTo (Free t)) → a ≡ wording_of giving.Refused r → s ≡ arena_said t.arena step (free_word r) → CameBy p own step (Free t) a s
  freed t r a told said = inl (r, told, said)

  pub added : (child : ℕ) (t : Tag) (size : ℕ) (r : Result Tag (SpanFault Tag)) (a : AnswerTo (AddCarve child t size)) → a ≡ wording_of giving.Refused r → s ≡ arena_said child step (span_word r) → CameBy p own step (AddCarve child t size) a s
  added child t size r a told said = inl (r, told, said)

  pub taken : (arena cache : ℕ) (k : CacheKind) (o : Option Tag) → k ≡ cache_of p.arenas arena cache → s ≡ slabs_said k step (given_word o) → CameBy p own step (SlabTake arena cache) (Ok o) s
  taken arena cache k o same said = (let e : s ≡ slabs_said (cache_of p.arenas arena cache) step (given_word o) = cc in inl (o, refl, e))

  pub reaped : (arena cache : ℕ) (k : CacheKind) (o : Option Tag) → k ≡ cache_of p.arenas arena cache → s ≡ slabs_said k step (given_word o) → CameBy p own step (SlabReap arena cache) (Ok o) s
  reaped arena cache k o same said = (let e : s ≡ slabs_said (cache_of p.arenas arena cache) step (given_word o) = cc in inl (o, refl, e))

  pub round_reaped : (arena cache : ℕ) (k : CacheKind) (o : Option Tag) → k ≡ cache_of p.arenas arena cache → s ≡ depot_said k step (given_word o) → CameBy p own step (DepotReap arena cache) (Ok o) s
  round_reaped arena cache k o same said = (let e : s ≡ depot_said (cache_of p.arenas arena cache) step (given_word o) = cc in inl (o, refl, e))

  pub put_back : (t : Tag) (arena number : ℕ) (k : CacheKind) (r : Result (Unit {0}) (PutFault Tag)) (a : AnswerTo (SlabPut t)) → a ≡ wording_of giving.Refused r → k ≡ cache_of p.arenas arena number → s ≡ slabs_said k step (put_word r) → arena ≡ t.arena → number ≡ number_of_cache t.route → CameBy p own step (SlabPut t) a s
  put_back t arena number k r a told same said of_arena of_number = (let e : s ≡ slabs_said (cache_of p.arenas t.arena (number_of_cache t.route)) step (put_word r) = cc in inl (r, told, e))

  pub slab_made : (arena cache : ℕ) (t : Tag) (k : CacheKind) (r : Result Tag (AddFault Tag)) (a : AnswerTo (SlabAdd arena cache t)) → k ≡ cache_of p.arenas arena cache → a ≡ wording_of giving.Refused r → s ≡ slabs_said k step (add_word r) → CameBy p own step (SlabAdd arena cache t) a s
  slab_made arena cache t k r a same told said = (let e : s ≡ slabs_said (cache_of p.arenas arena cache) step (add_word r) = cc in inl (r, told, e))

  pub got_full : (arena cache : ℕ) (k : CacheKind) (r : Result (Unit {0}) FullFault) (a : AnswerTo (SwapFull arena cache)) → k ≡ cache_of p.arenas arena cache → a ≡ wording_of asking.Refused r → s ≡ depot_said k step (full_word r) → CameBy p own step (SwapFull arena cache) a s
  got_full arena cache k r a same told said = (let e : s ≡ depot_said (cache_of p.arenas arena cache) step (full_word r) = cc in inl (r, told, e))

  pub got_empty : (arena cache : ℕ) (k : CacheKind) (r : Result (Unit {0}) EmptyFault) (a : AnswerTo (SwapEmpty arena cache)) → k ≡ cache_of p.arenas arena cache → a ≡ wording_of asking.Refused r → s ≡ depot_said k step (empty_word r) → CameBy p own step (SwapEmpty arena cache) a s
  got_empty arena cache k r a same told said = (let e : s ≡ depot_said (cache_of p.arenas arena cache) step (empty_word r) = cc in inl (r, told, e))

  pub got_fresh : (arena cache : ℕ) (k : CacheKind) (r : Result (Unit {0}) FreshFault) (a : AnswerTo (SwapFresh arena cache)) → k ≡ cache_of p.arenas arena cache → a ≡ wording_of asking.Refused r → s ≡ depot_said k step (fresh_word r) → CameBy p own step (SwapFresh arena cache) a s
  got_fresh arena cache k r a same told said = (let e : s ≡ depot_said (cache_of p.arenas arena cache) step (fresh_word r) = cc in inl (inl (r, told, e)))

-- an answer is the same by its tags

module _ (p : LockedPartsState) (own : List OwnCacheState) (step asked : NextStep) (s : Said) where
  pub carve_tagged : (arena : ℕ) (q : Request) (a : AnswerTo (Carve arena q)) → CameBy p own step (Carve arena q) a s → step ≡ asked → CameBy p own asked (Carve arena q) (tag_ok (λ t. t) a) s
  carve_tagged arena q (Ok t) came same = subst (λ (n : NextStep). CameBy p own n (Carve arena q) (Ok t) s) same came
  carve_tagged arena q (Err f) came same = subst (λ (n : NextStep). CameBy p own n (Carve arena q) (Err f) s) same came

  pub free_tagged : (t : Tag) (a : AnswerTo (Free t)) → CameBy p own step (Free t) a s → step ≡ asked → CameBy p own asked (Free t) (tag_free (λ t. t) a) s
  free_tagged t (Ok None) came same = subst (λ (n : NextStep). CameBy p own n (Free t) (Ok None) s) same came
  free_tagged t (Ok (Some o)) came same = subst (λ (n : NextStep). CameBy p own n (Free t) (Ok (Some o)) s) same came
  free_tagged t (Err (giving.Refused f)) came same = subst (λ (n : NextStep). CameBy p own n (Free t) (Err (giving.Refused f)) s) same came
  free_tagged t (Err (giving.Stopped f)) came same = subst (λ (n : NextStep). CameBy p own n (Free t) (Err (giving.Stopped f)) s) same came

  pub add_tagged : (child : ℕ) (t : Tag) (size : ℕ) (a : AnswerTo (AddCarve child t size)) → CameBy p own step (AddCarve child t size) a s → step ≡ asked → CameBy p own asked (AddCarve child t size) (tag_add (λ t. t) a) s
  add_tagged child t size (Ok o) came same = subst (λ (n : NextStep). CameBy p own n (AddCarve child t size) (Ok o) s) same came
  add_tagged child t size (Err (giving.Refused (adding.Overlaps f))) came same = subst (λ (n : NextStep). CameBy p own n (AddCarve child t size) (Err (giving.Refused (adding.Overlaps f))) s) same came
  add_tagged child t size (Err (giving.Refused (adding.NotAligned f))) came same = subst (λ (n : NextStep). CameBy p own n (AddCarve child t size) (Err (giving.Refused (adding.NotAligned f))) s) same came
  add_tagged child t size (Err (giving.Refused (adding.NoMemory f))) came same = subst (λ (n : NextStep). CameBy p own n (AddCarve child t size) (Err (giving.Refused (adding.NoMemory f))) s) same came
  add_tagged child t size (Err (giving.Stopped f)) came same = subst (λ (n : NextStep). CameBy p own n (AddCarve child t size) (Err (giving.Stopped f)) s) same came

  pub put_tagged : (t : Tag) (a : AnswerTo (SlabPut t)) → CameBy p own step (SlabPut t) a s → step ≡ asked → CameBy p own asked (SlabPut t) (tag_put (λ t. t) a) s
  put_tagged t (Ok u) came same = subst (λ (n : NextStep). CameBy p own n (SlabPut t) (Ok u) s) same came
  put_tagged t (Err (giving.Refused (putting.NotMine f))) came same = subst (λ (n : NextStep). CameBy p own n (SlabPut t) (Err (giving.Refused (putting.NotMine f))) s) same came
  put_tagged t (Err (giving.Refused (putting.AtHome f))) came same = subst (λ (n : NextStep). CameBy p own n (SlabPut t) (Err (giving.Refused (putting.AtHome f))) s) same came
  put_tagged t (Err (giving.Stopped f)) came same = subst (λ (n : NextStep). CameBy p own n (SlabPut t) (Err (giving.Stopped f)) s) same came

  pub slab_tagged : (arena cache : ℕ) (t : Tag) (a : AnswerTo (SlabAdd arena cache t)) → CameBy p own step (SlabAdd arena cache t) a s → step ≡ asked → CameBy p own asked (SlabAdd arena cache t) (tag_slab (λ t. t) a) s
  slab_tagged arena cache t (Ok o) came same = subst (λ (n : NextStep). CameBy p own n (SlabAdd arena cache t) (Ok o) s) same came
  slab_tagged arena cache t (Err (giving.Refused (slabbing.WrongSize f))) came same = subst (λ (n : NextStep). CameBy p own n (SlabAdd arena cache t) (Err (giving.Refused (slabbing.WrongSize f))) s) same came
  slab_tagged arena cache t (Err (giving.Refused (slabbing.Overlaps f))) came same = subst (λ (n : NextStep). CameBy p own n (SlabAdd arena cache t) (Err (giving.Refused (slabbing.Overlaps f))) s) same came
  slab_tagged arena cache t (Err (giving.Refused (slabbing.NoMemory f))) came same = subst (λ (n : NextStep). CameBy p own n (SlabAdd arena cache t) (Err (giving.Refused (slabbing.NoMemory f))) s) same came
  slab_tagged arena cache t (Err (giving.Stopped f)) came same = subst (λ (n : NextStep). CameBy p own n (SlabAdd arena cache t) (Err (giving.Stopped f)) s) same came

  pub take_tagged : (arena cache : ℕ) (a : AnswerTo (SlabTake arena cache)) → CameBy p own step (SlabTake arena cache) a s → step ≡ asked → CameBy p own asked (SlabTake arena cache) (tag_all (λ t. t) a) s
  take_tagged arena cache (Ok None) came same = subst (λ (n : NextStep). CameBy p own n (SlabTake arena cache) (Ok None) s) same came
  take_tagged arena cache (Ok (Some o)) came same = subst (λ (n : NextStep). CameBy p own n (SlabTake arena cache) (Ok (Some o)) s) same came
  take_tagged arena cache (Err f) came same = subst (λ (n : NextStep). CameBy p own n (SlabTake arena cache) (Err f) s) same came

  pub reap_tagged : (arena cache : ℕ) (a : AnswerTo (SlabReap arena cache)) → CameBy p own step (SlabReap arena cache) a s → step ≡ asked → CameBy p own asked (SlabReap arena cache) (tag_all (λ t. t) a) s
  reap_tagged arena cache (Ok None) came same = subst (λ (n : NextStep). CameBy p own n (SlabReap arena cache) (Ok None) s) same came
  reap_tagged arena cache (Ok (Some o)) came same = subst (λ (n : NextStep). CameBy p own n (SlabReap arena cache) (Ok (Some o)) s) same came
  reap_tagged arena cache (Err f) came same = subst (λ (n : NextStep). CameBy p own n (SlabReap arena cache) (Err f) s) same came

  pub round_tagged : (arena cache : ℕ) (a : AnswerTo (DepotReap arena cache)) → CameBy p own step (DepotReap arena cache) a s → step ≡ asked → CameBy p own asked (DepotReap arena cache) (tag_all (λ t. t) a) s
  round_tagged arena cache (Ok None) came same = subst (λ (n : NextStep). CameBy p own n (DepotReap arena cache) (Ok None) s) same came
  round_tagged arena cache (Ok (Some o)) came same = subst (λ (n : NextStep). CameBy p own n (DepotReap arena cache) (Ok (Some o)) s) same came
  round_tagged arena cache (Err f) came same = subst (λ (n : NextStep). CameBy p own n (DepotReap arena cache) (Err f) s) same came
