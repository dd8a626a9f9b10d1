-- When the book is asked to refuse a request since nothing fits.
use Rattle.std.proofs.Common.{◌≡◌, ◌<◌, ℕ, List, [], ◌∷◌, ◌++◌, length, Option, Some, None, Result, Ok, Err, Bool, true, false, refl, ap, subst, ◌∙◌}
use Rattle.std.specs.Str.{bytes_eq}
use Rattle.std.proofs.lemmas.List.Quantifiers.{position-Some}
use Rattle.deed_core.specs.Request.{plain_of}
use Rattle.deed_core.specs.Tag.{Tag}
use Rattle.deed_core.specs.declared.requests.Request.{Request}
use Rattle.lease_terms.specs.Requests.{RequestId}
use Rattle.arena_tree.specs.Chains.{Node, IsChain, amount_of}
use Rattle.arena_tree.specs.Climbs.{ClimbEnd, ReturnEnd}
use Rattle.arena_tree.specs.Events.{AnswerTo, Carve}
use Rattle.arena_tree.specs.Plans as plans
use Rattle.arena_tree.specs.Plans.{Plan}
use Rattle.arena_tree.specs.Sound.{Sound}
use Rattle.arena_tree.specs.Told.{AnsweredEvent, Tells}
use Rattle.arena_tree.specs.Trees.{IsTree, index_in, nodes_of}
use Rattle.arena_tree.specs.declared.levels.Level.{Level}
use Rattle.arena_tree.specs.declared.part_faults.PartFault.{PartFault}
use Rattle.arena_tree.specs.declared.part_faults.PartFault.TheVariants as asking
use Rattle.arena_tree.specs.declared.part_faults.ClimbFault.TheVariants as climbing
use Rattle.tag_arena.specs.declared.faults.ArenaFault.{ArenaFault}
use Rattle.tag_arena.specs.declared.faults.ArenaFault.TheVariants as arena_fault
use Rattle.arena_tree.specs.declared.part_faults.Stopped.{Stopped}
use Rattle.arena_tree.specs.declared.trees.TreeArena.{TreeArena}
use Rattle.arena_tree.proofs.LawProofs.{TellsAfter, tells_own, tells_so}
use Rattle.quantum_cache.specs.Allocs.{alloc_plan}
use Rattle.quantum_cache.specs.Caches.{chain_in}
use Rattle.quantum_cache.specs.Told.{NoneFitted, none_fitted, AllocTold}
use Rattle.quantum_cache.proofs.LawProofs.{alloc_tells, tells_any}
use Rattle.lease_book.specs.Receipts.{ReceiptState}
use Rattle.lease_book.specs.declared.answers.Answer.{Answer}
use Rattle.lease_proto.specs.Requests.{demand_of}
use Rattle.lease_proto.specs.declared.lines.LeaseLine.{LeaseLine}
use Rattle.lease_proto.specs.declared.lines.Op.{Op}
use Rattle.lease_proto.specs.declared.lines.Op.TheVariants as ops
use Rattle.lease_call.specs.Answered.{AnsweredStep, EndsTold}
use Rattle.lease_call.specs.CallPlans.{CallPlan, Done, Part, Call, over_parts}
use Rattle.lease_call.specs.Calls.{BookCall, AnswerOf}
use Rattle.lease_call.specs.Hands.{on_place, place_first, hand_first}
use Rattle.lease_call.specs.Laws.{NoFitIsLast}
use Rattle.lease_call.specs.Leasing.{is_plain, carve_end, take_steps, take_plan, on_settle, on_take, lease_at, on_look}
use Rattle.lease_call.specs.Refusing.{AskedAfter, LastFoundNone, NoFitAfter, of_parts}
use Rattle.lease_call.specs.Placing.{place_plan}
use Rattle.lease_call.specs.Releasing.{CallEnd, on_release, release_at}
use Rattle.lease_call.specs.Requesting.{op_plan, request_plan}
use Rattle.lease_call.specs.declared.call_faults.CallFault.{CallFault}
use Rattle.lease_call.specs.declared.call_faults.NotReleased.{NotReleased}
use Rattle.lease_call.specs.declared.call_faults.NotReleased.TheVariants as releasing
use Rattle.lease_call.specs.declared.call_faults.NotSettled.{NotSettled}
use Rattle.lease_call.specs.declared.call_faults.NotSettled.TheVariants as settling
use Rattle.lease_call.specs.declared.outcomes.Outcome.TheVariants.{Settled, Answered}
use Rattle.lease_call.proofs.TreeChains.{tree_chain}

-- each call of the book is asked only after such answers of the parts, the last first, where each answer is sound
abbrev AsksAfter : {D A : Type 0} → List Node → (BookCall → List AnsweredEvent → Type 0) → CallPlan D A → List AnsweredEvent → Type 0
AsksAfter nodes post (Done a) told = Unit {0}
AsksAfter nodes post (Part e f) told = (x : AnswerTo e) → Sound nodes e x → AsksAfter nodes post (f x) (record { event = e; answer = x } ∷ told)
AsksAfter {D = D} nodes post (Call k f) told = post k told × ((x : AnswerOf D k) → AsksAfter nodes post (f x) told)

-- an arena that has a name is one of the tree's
named_within : (arenas : List TreeArena) (name : List ℕ) (arena : ℕ) → index_in name arenas ≡ Some arena → arena < length arenas
named_within [] name arena at = absurd (let e : None ≡ Some arena = at in cc)
named_within (x ∷ xs) name arena at = (position-Some (λ (y : TreeArena). bytes_eq y.name name) (x ∷ xs) arena x at).0

-- what was answered before the last climb may be anything
none_more : (chain : List Level) (n : ℕ) (told more : List AnsweredEvent) → none_fitted chain n told ++ more ≡ none_fitted chain n (told ++ more)
none_more [] n told more = refl
none_more (l ∷ up) n told more = none_more up (amount_of l up n) (record { event = Carve l.id (plain_of n); answer = Err (asking.Refused arena_fault.NoFit) } ∷ told) more

asks_over : {D X A : Type 0} (nodes : List Node) (post : BookCall → List AnsweredEvent → Type 0) (given : List AnsweredEvent → X → Type 0) (p : Plan X) (next : X → CallPlan D A) (told : List AnsweredEvent) → Tells nodes given p told
    → ((x : X) (now : List AnsweredEvent) → given now x → AsksAfter nodes post (next x) now) → AsksAfter nodes post (over_parts p next) told
asks_over nodes post given (plans.Done x) next told w f = f x told w
asks_over nodes post given (plans.Ask e g) next told w f = λ x s. asks_over nodes post given (g x) next _ (w x s) f

module _ (arenas : List TreeArena) (post : BookCall → List AnsweredEvent → Type 0) where
  -- a segment goes back, and then the rest
  placed_asks : {D A : Type 0} (t : Tag) (next : ReturnEnd → CallPlan D A) (told : List AnsweredEvent) → ((r : ReturnEnd) (now : List AnsweredEvent) → AsksAfter (nodes_of arenas) post (next r) now) → AsksAfter (nodes_of arenas) post (over_parts (place_plan arenas t) next) told
  placed_asks t next told f = asks_over (nodes_of arenas) post (λ now (r : ReturnEnd). Unit {0}) (place_plan arenas t) next told (tells_any (nodes_of arenas) (place_plan arenas t) told) (λ r now _. f r now)

  first_asks : {D A : Type 0} (t : Tag) (rest : CallPlan D (Result A (CallFault Tag))) (told : List AnsweredEvent) → ((now : List AnsweredEvent) → AsksAfter (nodes_of arenas) post rest now) → AsksAfter (nodes_of arenas) post (place_first arenas t rest) told
  first_asks t rest told w = placed_asks t (on_place rest) told back
    where
      back : (r : ReturnEnd) (now : List AnsweredEvent) → AsksAfter (nodes_of arenas) post (on_place rest r) now
      back (Ok u) now = w now
      back (Err e) now = tt

  hand_asks : {D A : Type 0} (hand : Option Tag) (rest : CallPlan D (Result A (CallFault Tag))) (told : List AnsweredEvent) → ((now : List AnsweredEvent) → AsksAfter (nodes_of arenas) post rest now) → AsksAfter (nodes_of arenas) post (hand_first arenas hand rest) told
  hand_asks None rest told w = w told
  hand_asks (Some t) rest told w = first_asks t rest told w

module _ (D : Type 0) (arenas : List TreeArena) (id : RequestId) where
  released_asks : (op : Op) (x : Result (ReceiptState × Tag) (NotReleased D)) (told : List AnsweredEvent) → AsksAfter {D = D} (nodes_of arenas) (NoFitAfter arenas op) (on_release arenas x) told
  released_asks op (Ok r) told = first_asks arenas (NoFitAfter arenas op) r.1 (Done (Ok (Settled r.0))) told (λ now. tt)
  released_asks op (Err (releasing.Answered a)) told = tt
  released_asks op (Err releasing.Stopped) told = tt

  release_asks : (op : Op) (base : ℕ) (o : Option ℕ) (told : List AnsweredEvent) → AsksAfter {D = D} (nodes_of arenas) (NoFitAfter arenas op) (release_at arenas id base o) told
  release_asks op base None told = ((λ e. absurd cc), λ x. tt)
  release_asks op base (Some arena) told = (tt, λ x. released_asks op x told)

  settled_asks : (op : Op) (x : Result ReceiptState (NotSettled Tag D)) (told : List AnsweredEvent) → AsksAfter {D = D} (nodes_of arenas) (NoFitAfter arenas op) (on_settle arenas x) told
  settled_asks op (Ok v) told = tt
  settled_asks op (Err (settling.NotLeased n)) told = first_asks arenas (NoFitAfter arenas op) n.segment (Done (Ok (Answered n.answer))) told (λ now. tt)
  settled_asks op (Err (settling.Stopped t)) told = tt

  module _ (tree : IsTree arenas) (l : LeaseLine) where
    abbrev Told : Bool → ℕ → Request → List AnsweredEvent → ClimbEnd → Type 0
    Told b arena q now r = r ≡ Err (climbing.Refused arena_fault.NoFit) → LastFoundNone b arenas arena q now

    taken_asks : (arena : ℕ) → index_in l.arena arenas ≡ Some arena → (r : ClimbEnd) (now : List AnsweredEvent) → Told (is_plain (demand_of l)) arena (demand_of l) now r → AsksAfter {D = D} (nodes_of arenas) (NoFitAfter arenas (ops.Lease l)) (on_take arenas id arena (demand_of l) r) now
    taken_asks arena at (Ok t) now w = (tt, λ x. settled_asks (ops.Lease l) x now)
    taken_asks arena at (Err (climbing.Refused arena_fault.BadRequest)) now w = ((λ e. absurd cc), λ x. tt)
    taken_asks arena at (Err (climbing.Refused arena_fault.NoFit)) now w = ((λ e. (arena, at, w refl)), λ x. tt)
    taken_asks arena at (Err (climbing.Refused arena_fault.NoMemory)) now w = tt
    taken_asks arena at (Err (climbing.Stuck t)) now w = tt
    taken_asks arena at (Err (climbing.Stopped o)) now w = tt

    climbed : (chain : List Level) (n : ℕ) (before now : List AnsweredEvent) (r : ClimbEnd) → TellsAfter (AllocTold (nodes_of arenas) chain n) before now r → r ≡ Err (climbing.Refused arena_fault.NoFit) → NoneFitted chain n now
    climbed chain n before now r w is =
        let none : NoneFitted chain n w.0 = subst (AllocTold (nodes_of arenas) chain n w.0) is w.2 in
        (none.0 ++ before, w.1 ∙ ap (λ z. z ++ before) none.1 ∙ none_more chain n none.0 before)

    carved : (arena : ℕ) (q : Request) (told : List AnsweredEvent) (x : Result Tag (PartFault ArenaFault)) → Told false arena q (record { event = Carve arena q; answer = x } ∷ told) (carve_end x)
    carved arena q told (Ok t) = λ e. absurd cc
    carved arena q told (Err (asking.Refused arena_fault.BadRequest)) = λ e. absurd cc
    carved arena q told (Err (asking.Refused arena_fault.NoMemory)) = λ e. absurd cc
    carved arena q told (Err asking.Stopped) = λ e. absurd cc
    carved arena q told (Err (asking.Refused arena_fault.NoFit)) = λ e. (told, refl)

    take_tells : (arena : ℕ) (q : Request) (told : List AnsweredEvent) → IsChain (nodes_of arenas) (chain_in arenas arena) → (b : Bool) → Tells (nodes_of arenas) (Told b arena q) (take_steps b arenas arena q) told
    take_tells arena q told is true =
        let chain : List Level = chain_in arenas arena in
        tells_so (nodes_of arenas) (TellsAfter (AllocTold (nodes_of arenas) chain q.size) told) (Told true arena q) (alloc_plan chain q.size) told (λ now r. climbed chain q.size told now r) (tells_own (nodes_of arenas) (AllocTold (nodes_of arenas) chain q.size) (alloc_plan chain q.size) [] told (alloc_tells (nodes_of arenas) chain q.size is))
    take_tells arena q told is false = λ x s. carved arena q told x

    lease_asks : (o : Option ℕ) → index_in l.arena arenas ≡ o → (told : List AnsweredEvent) → AsksAfter {D = D} (nodes_of arenas) (NoFitAfter arenas (ops.Lease l)) (lease_at arenas id (demand_of l) o) told
    lease_asks None at told = ((λ e. absurd cc), λ x. tt)
    lease_asks (Some arena) at told =
        let chain = (tree_chain arenas tree arena (named_within arenas l.arena arena at)).0 in
        asks_over (nodes_of arenas) (NoFitAfter arenas (ops.Lease l)) (Told (is_plain (demand_of l)) arena (demand_of l)) (take_plan arenas arena (demand_of l)) (on_take arenas id arena (demand_of l)) told (take_tells arena (demand_of l) told chain (is_plain (demand_of l))) (taken_asks arena at)

    looked_asks : (new : CallPlan D (CallEnd D)) (told : List AnsweredEvent) → AsksAfter (nodes_of arenas) (NoFitAfter arenas (ops.Lease l)) new told → (x : Result (Option (Answer D)) Stopped) → AsksAfter (nodes_of arenas) (NoFitAfter arenas (ops.Lease l)) (on_look new x) told
    looked_asks new told w (Ok None) = w
    looked_asks new told w (Ok (Some a)) = tt
    looked_asks new told w (Err e) = tt

  op_asks : IsTree arenas → (op : Op) (told : List AnsweredEvent) → AsksAfter {D = D} (nodes_of arenas) (NoFitAfter arenas op) (op_plan arenas id op) told
  op_asks tree (ops.Lease l) told = (tt, looked_asks tree l (lease_at arenas id (demand_of l) (index_in l.arena arenas)) told (lease_asks tree l (index_in l.arena arenas) refl told))
  op_asks tree (ops.Release l) told = release_asks (ops.Release l) l.base (index_in l.arena arenas) told

-- so was each that was asked
asked : {D A : Type 0} (nodes : List Node) (post : BookCall → List AnsweredEvent → Type 0) (p : CallPlan D A) (told : List (AnsweredStep D)) → AskedAfter post told → AsksAfter nodes post p (of_parts told) → EndsTold (Sound nodes) (λ k x. Unit {0}) (λ now r. AskedAfter post now) p told
asked nodes post (Done a) told before w = before
asked nodes post (Part e f) told before w = λ x s. asked nodes post (f x) _ before (w x s)
asked nodes post (Call k f) told before w = λ x _. asked nodes post (f x) _ (w.0, before) (w.1 x)

pub no_fit_is_last : (D : Type 0) → NoFitIsLast D
no_fit_is_last D arenas hand id op tree = asked (nodes_of arenas) (NoFitAfter arenas op) (request_plan arenas hand id op) [] tt (hand_asks arenas (NoFitAfter arenas op) hand (op_plan arenas id op) [] (op_asks D arenas id tree op))
