-- A picture whose selected CPU's parts are written, and a segment that goes back to them.
use Rattle.std.proofs.Common.{rules, ◌≡◌, ◌∙◌, ◌<◌, ℕ, refl, sym, subst, ap, List, [], ◌∷◌, Option, Ok, Err, Bool, true, false, cond, nat_lt, find, length, map, if◌then◌else◌}
use Rattle.deed_core.specs.Tag.{Tag}
use Rattle.arena_tree.specs.Climbs.{ReturnEnd}
use Rattle.arena_tree.specs.Plans.{Plan}
use Rattle.arena_tree.specs.Trees.{nodes_of}
use Rattle.arena_tree.specs.declared.trees.TreeArena.{TreeArena}
use Rattle.quantum_cache.specs.Caches.{chain_in}
use Rattle.quantum_cache.specs.Frees.{free_plan}
use Rattle.lease_book.specs.BookState.{BookState}
use Rattle.local_calls.specs.Runs.{SoundStep, RunsTo}
use Rattle.local_calls.proofs.LawProofs.{free_always_done, tree_chain}
use Rattle.local_parts.specs.States.{LocalState}
use Rattle.lease_call.specs.CallPlans.{Done}
use Rattle.lease_call.specs.Hands.{on_place, place_first}
use Rattle.lease_call.specs.Placing.{place_plan}
use Rattle.lease_call.specs.Releasing.{CallEnd}
use Rattle.lease_call.specs.declared.outcomes.Outcome.{Outcome}
use Rattle.lease_call.proofs.LawProofs.{path_under}
use Rattle.lease_machine.specs.Chunks.{GoesBack, selected_caches, own_or_none}
use Rattle.lease_machine.specs.Conversations.{BookDoes, RunsCall}
use Rattle.lease_machine.specs.Held.{parts_in, with_parts, with_caches_of}
use Rattle.lease_machine.specs.Picture.{AreCpus, NumberedCpu, Picture, SameSetup, is_cpu, IsHeld}
use Rattle.lease_machine.proofs.CpuRows.{with_rows, round, found_then}
use Rattle.lease_machine.proofs.FreeLaws.{free_goes_back}
use Rattle.lease_machine.proofs.HeldLaws.{there_is, hand_is_local}
use Rattle.stock.specs.OwnCaches.{OwnCacheState}
use Rattle.stock.specs.Spaces.{SpaceState}

-- the selected CPU's caches, written where they are
pub own_cpus : (d : Picture) → AreCpus d.spaces d.cpus d.selected → map (with_caches_of d.selected (selected_caches d)) d.cpus ≡ d.cpus
own_cpus d are =
    let found = there_is (find (is_cpu d.selected) d.cpus) are.there in
    let r = round d.selected found.0.caches d.cpus found.0 found.1 are.numbers in
    ap (λ (o : Option NumberedCpu). map (with_caches_of d.selected (own_or_none o)) d.cpus) found.1 ∙ r.then_is ∙ sym r.is

pub unchanged : (d : Picture) (b : BookState) (s : LocalState) → AreCpus d.spaces d.cpus d.selected → d.book ≡ b → parts_in d ≡ s → d ≡ with_parts s (record d { book = b })
unchanged d b s are books parts =
    sym (ap (λ (cs : List NumberedCpu). record d { cpus = cs }) (own_cpus d are))
    ∙ ap (λ (z : BookState). with_parts (parts_in d) (record d { book = z })) books
    ∙ ap (λ (p : LocalState). with_parts p (record d { book = b })) parts

abbrev found_parts : List SpaceState → Option NumberedCpu → LocalState
found_parts spaces o = record { spaces = spaces; cpu = own_or_none o }

-- what was written is there
pub parts_written : (d : Picture) (s : LocalState) → AreCpus d.spaces d.cpus d.selected → parts_in (with_parts s d) ≡ s
parts_written d s are =
    let found = there_is (find (is_cpu d.selected) d.cpus) are.there in
    ap (found_parts s.spaces) (found_then d.selected s.cpu d.cpus found.0 found.1)

-- of what is written twice the second is there
written_again : (n : ℕ) (p q : List (List OwnCacheState)) (cs : List NumberedCpu) → map (with_caches_of n q) (map (with_caches_of n p) cs) ≡ map (with_caches_of n q) cs
written_again n p q [] = refl
written_again n p q (c ∷ cs) =
    ap (λ (x : NumberedCpu). x ∷ map (with_caches_of n q) (map (with_caches_of n p) cs)) (once (is_cpu n c) refl)
    ∙ ap (λ (xs : List NumberedCpu). with_caches_of n q c ∷ xs) (written_again n p q cs)
  where
    once : (b : Bool) → is_cpu n c ≡ b → with_caches_of n q (with_caches_of n p c) ≡ with_caches_of n q c
    once true is =
        ap (with_caches_of n q) (ap (λ (b : Bool). cond b (with_rows p c) c) is)
        ∙ ap (λ (b : Bool). cond b (with_rows q c) (with_rows p c)) is
        ∙ sym (ap (λ (b : Bool). cond b (with_rows q c) c) is)
    once false is = ap (with_caches_of n q) (ap (λ (b : Bool). cond b (with_rows p c) c) is)

pub parts_again : (d : Picture) (m s : LocalState) → with_parts s (with_parts m d) ≡ with_parts s d
parts_again d m s = ap (λ (cs : List NumberedCpu). record d { spaces = s.spaces; cpus = cs }) (written_again d.selected m.cpu s.cpu d.cpus)

-- the segment went back, and no hand is full
pub record PlacedBack (t : Tag) (old new : Picture) : Type 0 where
  pub back : GoesBack t old new
  pub held : IsHeld [] new
  pub setup : SameSetup old new

chosen : {X : Type 0} (a b : X) (test : Bool) → test ≡ true → (if test then a else b) ≡ a
chosen a b test is = ap (λ t. if t then a else b) is

-- a segment of the tree's is freed
place_frees : (arenas : List TreeArena) (t : Tag) → t.arena < length arenas → place_plan arenas t ≡ free_plan (chain_in arenas t.arena) t
place_frees arenas t within = let is : nat_lt t.arena (length arenas) ≡ true = search rules in chosen _ _ _ is

module _ (d : Picture) (t : Tag) (held : IsHeld (t ∷ []) d) where
  -- it is always taken
  freed : (s : LocalState) (r : ReturnEnd) → RunsTo d.tree (free_plan (chain_in d.tree t.arena) t) (parts_in d) s r → (r ≡ Ok tt) × PlacedBack t d (with_parts s d)
  freed s (Ok u) run = (let went = free_goes_back d t s held run in (refl, record { back = went.0; held = went.1; setup = went.2 }))
  freed s (Err f) run =
      let out = hand_is_local d t held in
      let chain = tree_chain d.tree out.0.tree t.arena out.1 in
      absurd (free_always_done d.tree (chain_in d.tree t.arena) t (parts_in d) s out.2.0 (Err f) chain.0 chain.1 out.0 out.2.1 run)

  pub placed_back : (s : LocalState) (r : ReturnEnd) → RunsTo d.tree (place_plan d.tree t) (parts_in d) s r → (r ≡ Ok tt) × PlacedBack t d (with_parts s d)
  placed_back s r run = freed s r (subst (λ (p : Plan ReturnEnd). RunsTo d.tree p (parts_in d) s r) (place_frees d.tree t (hand_is_local d t held).1) run)

  -- and so the request ends as was meant
  pub placed_told : {D : Type 0} (o : Outcome D) (b c : BookState) (s : LocalState) (a : CallEnd D) → RunsCall {D = D} d.tree (place_first d.tree t (Done (Ok o))) b (parts_in d) c s a → (b ≡ c) × (Ok o ≡ a) × PlacedBack t d (with_parts s d)
  placed_told {D = D} o b c s a path =
      let split = path_under (SoundStep (nodes_of d.tree)) (BookDoes D) (place_plan d.tree t) (on_place (Done (Ok o))) b (parts_in d) c s a path in
      let went = placed_back split.0 split.1 split.2 in
      let end : RunsCall {D = D} d.tree (Done (Ok o)) b split.0 c s a = subst (λ (r : ReturnEnd). RunsCall {D = D} d.tree (on_place (Done (Ok o)) r) b split.0 c s a) went.0 split.3 in
      (end.0, end.2, subst (λ (x : LocalState). PlacedBack t d (with_parts x d)) end.1 went.1)
