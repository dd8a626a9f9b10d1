-- Where each segment is that a line moves.
use Rattle.std.proofs.Common.{◌≡◌, ℕ, zero, suc, List, [], Option, Some, None, Result, Ok, Err, Bool, true, false, refl, sym, ap, subst, ◌∙◌, length, nat_lt, if◌then◌else◌}
use Rattle.deed_core.specs.Tag.{Tag}
use Rattle.deed_core.specs.declared.requests.Request.{Request}
use Rattle.lease_terms.specs.Requests.{RequestId}
use Rattle.lease_book.specs.Words.{Greeted}
use Rattle.arena_tree.specs.Chains.{Node}
use Rattle.arena_tree.specs.Climbs.{ClimbEnd, ReturnEnd, climb_left, return_left}
use Rattle.arena_tree.specs.Events.{Event, AnswerTo, BeginsWith, hand_after, Carve, Free, AddCarve, SlabTake, SlabPut, SlabAdd, SlabReap, SwapFull, SwapEmpty, SwapFresh, DepotReap, Pop, Push, Change}
use Rattle.arena_tree.specs.Plans as plans
use Rattle.arena_tree.specs.Plans.{Plan, Handles}
use Rattle.arena_tree.specs.Sound.{Sound}
use Rattle.arena_tree.specs.Trees.{index_in, nodes_of}
use Rattle.arena_tree.specs.declared.part_faults.PartFault.{PartFault}
use Rattle.arena_tree.specs.declared.part_faults.PartFault.TheVariants as asking
use Rattle.arena_tree.specs.declared.part_faults.ClimbFault.TheVariants as climbing
use Rattle.tag_arena.specs.declared.faults.ArenaFault.{ArenaFault}
use Rattle.tag_arena.specs.declared.faults.ArenaFault.TheVariants as arena_fault
use Rattle.arena_tree.specs.declared.part_faults.ReturnFault.TheVariants as returning
use Rattle.arena_tree.specs.declared.part_faults.Stopped.{Stopped}
use Rattle.arena_tree.specs.declared.trees.TreeArena.{TreeArena}
use Rattle.arena_tree.proofs.LawProofs.{handles_then}
use Rattle.quantum_cache.specs.Allocs.{xalloc_plan}
use Rattle.quantum_cache.specs.Caches.{chain_in}
use Rattle.quantum_cache.specs.Frees.{free_plan}
use Rattle.quantum_cache.specs.Laws.{carve_left}
use Rattle.quantum_cache.proofs.LawProofs.{alloc_handles, xalloc_handles, free_handles}
use Rattle.lease_book.specs.Receipts.{ReceiptState}
use Rattle.lease_book.specs.declared.answers.Answer.{Answer}
use Rattle.lease_proto.specs.Requests.{demand_of}
use Rattle.lease_proto.specs.declared.lines.Op.{Op}
use Rattle.lease_proto.specs.declared.lines.Op.TheVariants as ops
use Rattle.lease_call.specs.Calls.{BookCall, AnswerOf, Look, Settle, Refuse, Release, Hello, Sweep}
use Rattle.lease_call.specs.CallPlans.{CallPlan, Done, Part, Call, over_parts}
use Rattle.lease_call.specs.Greeting.{on_sweep, sweep_plan, on_hello, greet_plan}
use Rattle.lease_call.specs.Hands.{on_place, hand_first}
use Rattle.lease_call.specs.Answered.{AnsweredStep, EndsTold}
use Rattle.lease_call.specs.Kept.{released, swept, not_leased, CallBeginsWith, hand_after_call, CallHandles, put_in, taken_out, put_in_book, taken_out_of_book, HandsBack, put_first, came_in, gone_out, IsAllKept, call_left}
use Rattle.lease_call.specs.Laws.{RequestHandles, HelloHandles, RequestKeeps, HelloKeeps, EventHandsBack}
use Rattle.lease_call.specs.Leasing.{is_plain, carve_end, take_steps, take_plan, on_settle, on_take, lease_at, on_look}
use Rattle.lease_call.specs.Placing.{place_plan}
use Rattle.lease_call.specs.Releasing.{CallEnd, on_refuse, on_release, release_at}
use Rattle.lease_call.specs.Requesting.{op_plan}
use Rattle.lease_call.specs.declared.call_faults.CallFault.{CallFault}
use Rattle.lease_call.specs.declared.call_faults.NotGreeted.{NotGreeted}
use Rattle.lease_call.specs.declared.call_faults.NotGreeted.TheVariants as greeting
use Rattle.lease_call.specs.declared.call_faults.NotReleased.{NotReleased}
use Rattle.lease_call.specs.declared.call_faults.NotReleased.TheVariants as releasing
use Rattle.lease_call.specs.declared.call_faults.NotSettled.{NotSettled}
use Rattle.lease_call.specs.declared.call_faults.NotSettled.TheVariants as settling
use Rattle.lease_call.specs.declared.outcomes.Outcome.TheVariants.{Settled, Answered}

over_handles : {D X A : Type 0} (left : X → Option Tag) (left' : A → Option Tag) (p : Plan X) (next : X → CallPlan D A) (h : Option Tag) → Handles left p h → ((x : X) → CallHandles left' (next x) (left x)) → CallHandles left' (over_parts p next) h
over_handles left left' (plans.Done x) next h w f = subst (CallHandles left' (next x)) (sym w) (f x)
over_handles left left' (plans.Ask e g) next h w f = (w.0, λ x. over_handles left left' (g x) next (hand_after e x h) (w.1 x) f)

module _ (arenas : List TreeArena) where
  place_handles : (t : Tag) → Handles return_left (place_plan arenas t) (Some t)
  place_handles t = by (nat_lt t.arena (length arenas))
    where
      by : (b : Bool) → Handles return_left (if b then free_plan (chain_in arenas t.arena) t else plans.Done (Err (returning.Stuck t))) (Some t)
      by true = free_handles (chain_in arenas t.arena) t
      by false = refl

  -- a segment goes back, and then the rest
  placed_handles : {D A : Type 0} (left : A → Option Tag) (t : Tag) (next : ReturnEnd → CallPlan D A) → ((r : ReturnEnd) → CallHandles left (next r) (return_left r)) → CallHandles left (over_parts (place_plan arenas t) next) (Some t)
  placed_handles left t next f = over_handles return_left left (place_plan arenas t) next (Some t) (place_handles t) f

  first_handles : {D A : Type 0} (t : Tag) (rest : CallPlan D (Result A (CallFault Tag))) → CallHandles call_left rest None → CallHandles call_left (over_parts (place_plan arenas t) (on_place rest)) (Some t)
  first_handles t rest w = placed_handles call_left t (on_place rest) back
    where
      back : (r : ReturnEnd) → CallHandles call_left (on_place rest r) (return_left r)
      back (Ok u) = w
      back (Err (returning.Stuck x)) = refl
      back (Err (returning.Stopped x)) = refl

  hand_handles : {D A : Type 0} (hand : Option Tag) (rest : CallPlan D (Result A (CallFault Tag))) → CallHandles call_left rest None → CallHandles call_left (hand_first arenas hand rest) hand
  hand_handles None rest w = w
  hand_handles (Some t) rest w = first_handles t rest w

  module _ (D : Type 0) (id : RequestId) where
    refused : (x : Result (Answer D) Stopped) → None ≡ call_left (on_refuse x)
    refused (Ok a) = refl
    refused (Err e) = refl

    release_handles : (x : Result (ReceiptState × Tag) (NotReleased D)) → CallHandles {D = D} call_left (on_release arenas x) (released x)
    release_handles (Ok r) = first_handles r.1 (Done (Ok (Settled r.0))) refl
    release_handles (Err (releasing.Answered a)) = refl
    release_handles (Err releasing.Stopped) = refl

    release_at_handles : (base : ℕ) (o : Option ℕ) → CallHandles {D = D} call_left (release_at arenas id base o) None
    release_at_handles base None = (refl, refused)
    release_at_handles base (Some arena) = (refl, release_handles)

    settle_handles : (x : Result ReceiptState (NotSettled Tag D)) → CallHandles {D = D} call_left (on_settle arenas x) (not_leased x)
    settle_handles (Ok v) = refl
    settle_handles (Err (settling.NotLeased n)) = first_handles n.segment (Done (Ok (Answered n.answer))) refl
    settle_handles (Err (settling.Stopped t)) = refl

    take_handles : (arena : ℕ) (q : Request) (r : ClimbEnd) → CallHandles {D = D} call_left (on_take arenas id arena q r) (climb_left r)
    take_handles arena q (Ok t) = (refl, settle_handles)
    take_handles arena q (Err (climbing.Refused arena_fault.BadRequest)) = (refl, refused)
    take_handles arena q (Err (climbing.Refused arena_fault.NoFit)) = (refl, refused)
    take_handles arena q (Err (climbing.Refused arena_fault.NoMemory)) = refl
    take_handles arena q (Err (climbing.Stuck t)) = refl
    take_handles arena q (Err (climbing.Stopped o)) = refl

    carved : (r : Result Tag (PartFault ArenaFault)) → carve_left r ≡ climb_left (carve_end r)
    carved (Ok t) = refl
    carved (Err (asking.Refused f)) = refl
    carved (Err asking.Stopped) = refl

    taken_handles : (arena : ℕ) (q : Request) (b : Bool) → Handles climb_left (take_steps b arenas arena q) None
    taken_handles arena q true = alloc_handles (chain_in arenas arena) q.size
    taken_handles arena q false = handles_then carve_left climb_left (xalloc_plan arena q) (λ r. plans.Done (carve_end r)) None (xalloc_handles arena q) carved

    lease_at_handles : (q : Request) (o : Option ℕ) → CallHandles {D = D} call_left (lease_at arenas id q o) None
    lease_at_handles q None = (refl, refused)
    lease_at_handles q (Some arena) = over_handles climb_left call_left (take_plan arenas arena q) (on_take arenas id arena q) None (taken_handles arena q (is_plain q)) (take_handles arena q)

    look_handles : (new : CallPlan D (CallEnd D)) → CallHandles call_left new None → (x : Result (Option (Answer D)) Stopped) → CallHandles call_left (on_look new x) None
    look_handles new w (Ok None) = w
    look_handles new w (Ok (Some a)) = refl
    look_handles new w (Err e) = refl

    op_handles : (op : Op) → CallHandles {D = D} call_left (op_plan arenas id op) None
    op_handles (ops.Lease l) = (refl, look_handles (lease_at arenas id (demand_of l) (index_in l.arena arenas)) (lease_at_handles (demand_of l) (index_in l.arena arenas)))
    op_handles (ops.Release l) = release_at_handles l.base (index_in l.arena arenas)

  module _ (D : Type 0) where
    sweep_handles : (taken : Greeted) (turns : ℕ) → CallHandles {D = D} call_left (sweep_plan arenas taken turns) None
    sweep_handles taken zero = refl
    sweep_handles taken (suc turns) = (refl, by (sweep_handles taken turns))
      where
        by : CallHandles {D = D} call_left (sweep_plan arenas taken turns) None → (x : Result (Option (RequestId × Tag)) Stopped) → CallHandles {D = D} call_left (on_sweep arenas taken (sweep_plan arenas taken turns) x) (swept x)
        by again (Ok None) = refl
        by again (Ok (Some r)) = first_handles r.1 (sweep_plan arenas taken turns) again
        by again (Err e) = refl

    hello_handles : (turns : ℕ) (x : Result Greeted (NotGreeted D)) → CallHandles {D = D} call_left (on_hello arenas turns x) None
    hello_handles turns (Ok taken) = sweep_handles taken turns
    hello_handles turns (Err (greeting.Late f)) = refl
    hello_handles turns (Err greeting.Stopped) = refl

pub request_handles : (D : Type 0) → RequestHandles D
request_handles D arenas hand id op = hand_handles arenas hand (op_plan arenas id op) (op_handles arenas D id op)

pub line_handles : (D : Type 0) → HelloHandles D
line_handles D arenas hand h turns = hand_handles arenas hand (greet_plan arenas h turns) (refl, hello_handles arenas D turns)

-- one step: what comes is given, what goes was in the hand
moved : (hand given out : Option Tag) (came gone : List Tag) → hand ≡ given → came ≡ put_first hand gone → put_first out came ≡ put_first out (put_first given gone)
moved hand given out came gone is kept = ap (put_first out) (kept ∙ ap (λ h. put_first h gone) is)

-- it comes back
backed : (hand : Option Tag) (given back : Tag) (came gone : List Tag) → hand ≡ Some given → back ≡ given → came ≡ put_first hand gone → came ≡ put_first (Some back) gone
backed hand given back came gone is same kept = kept ∙ ap (λ h. put_first h gone) (is ∙ ap Some (sym same))

module _ (nodes : List Node) (hand : Option Tag) (came gone : List Tag) (kept : came ≡ put_first hand gone) where
  step_keeps : (e : Event) (x : AnswerTo e) → BeginsWith e hand → Sound nodes e x → put_first (taken_out e x) came ≡ put_first (hand_after e x hand) (put_first (put_in e x) gone)
  step_keeps (Carve arena request) (Ok t) is s = moved hand None (Some t) came gone is kept
  step_keeps (Carve arena request) (Err f) is s = moved hand None None came gone is kept
  step_keeps (Free given) (Ok o) is s = moved hand (Some given) o came gone is kept
  step_keeps (Free given) (Err f) is s = backed hand given _ came gone is s.1 kept
  step_keeps (AddCarve child given size) (Ok t) is s = moved hand (Some given) (Some t) came gone is kept
  step_keeps (AddCarve child given size) (Err f) is s = backed hand given _ came gone is s.1 kept
  step_keeps (SlabTake arena cache) (Ok o) is s = moved hand None o came gone is kept
  step_keeps (SlabTake arena cache) (Err f) is s = moved hand None None came gone is kept
  step_keeps (SlabPut given) (Ok u) is s = moved hand (Some given) None came gone is kept
  step_keeps (SlabPut given) (Err f) is s = backed hand given _ came gone is s kept
  step_keeps (SlabAdd arena cache given) (Ok t) is s = moved hand (Some given) (Some t) came gone is kept
  step_keeps (SlabAdd arena cache given) (Err f) is s = backed hand given _ came gone is s.1 kept
  step_keeps (SlabReap arena cache) (Ok o) is s = moved hand None o came gone is kept
  step_keeps (SlabReap arena cache) (Err f) is s = moved hand None None came gone is kept
  step_keeps (SwapFull arena cache) x is s = kept
  step_keeps (SwapEmpty arena cache) x is s = kept
  step_keeps (SwapFresh arena cache) x is s = kept
  step_keeps (DepotReap arena cache) (Ok o) is s = moved hand None o came gone is kept
  step_keeps (DepotReap arena cache) (Err f) is s = moved hand None None came gone is kept
  step_keeps (Pop arena cache) (Ok o) is s = moved hand None o came gone is kept
  step_keeps (Pop arena cache) (Err f) is s = moved hand None None came gone is kept
  step_keeps (Push arena cache given) (Ok u) is s = moved hand (Some given) None came gone is kept
  step_keeps (Push arena cache given) (Err f) is s = backed hand given _ came gone is s kept
  step_keeps (Change arena cache size) x is s = kept

  call_keeps : (D : Type 0) (k : BookCall) (x : AnswerOf D k) → CallBeginsWith k hand → HandsBack D k x → put_first (taken_out_of_book D k x) came ≡ put_first (hand_after_call D k x) (put_first (put_in_book D k x) gone)
  call_keeps D (Look id) x is s = moved hand None None came gone is kept
  call_keeps D (Settle id given terms) (Ok r) is s = moved hand (Some given) None came gone is kept
  call_keeps D (Settle id given terms) (Err (settling.NotLeased n)) is s = backed hand given n.segment came gone is s kept
  call_keeps D (Settle id given terms) (Err (settling.Stopped t)) is s = backed hand given t came gone is s kept
  call_keeps D (Refuse id why) x is s = moved hand None None came gone is kept
  call_keeps D (Release id arena base) x is s = moved hand None (released x) came gone is kept
  call_keeps D (Hello client incarnation asked) x is s = moved hand None None came gone is kept
  call_keeps D (Sweep client) x is s = moved hand None (swept x) came gone is kept

-- what is asked with the hand that it needs keeps all
keeps : {D A : Type 0} (nodes : List Node) (left : A → Option Tag) (first : Option Tag) (p : CallPlan D A) (hand : Option Tag) (told : List (AnsweredStep D)) → IsAllKept first hand told → CallHandles left p hand → EndsTold (Sound nodes) (HandsBack D) (λ now r. IsAllKept first (left r) now) p told
keeps nodes left first (Done a) hand told kept w = kept ∙ ap (λ h. put_first h (gone_out told)) w
keeps nodes left first (Part e f) hand told kept w = λ x s. keeps nodes left first (f x) (hand_after e x hand) _ (step_keeps nodes hand (came_in first told) (gone_out told) kept e x w.0 s) (w.1 x)
keeps {D = D} nodes left first (Call k f) hand told kept w = λ x s. keeps nodes left first (f x) (hand_after_call D k x) _ (call_keeps nodes hand (came_in first told) (gone_out told) kept D k x w.0 s) (w.1 x)

pub request_keeps : (D : Type 0) → RequestKeeps D
request_keeps D arenas hand id op = keeps (nodes_of arenas) call_left hand _ hand [] refl (request_handles D arenas hand id op)

pub hello_keeps : (D : Type 0) → HelloKeeps D
hello_keeps D arenas hand h turns = keeps (nodes_of arenas) call_left hand _ hand [] refl (line_handles D arenas hand h turns)

-- a book hands back what it doesn't lease
pub event_hands_back : (D : Type 0) → EventHandsBack D
event_hands_back D b c (Look id) x event = tt
event_hands_back D b c (Settle id given terms) (Ok r) event = tt
event_hands_back D b c (Settle id given terms) (Err (settling.NotLeased n)) event = event.0
event_hands_back D b c (Settle id given terms) (Err (settling.Stopped t)) event = absurd event
event_hands_back D b c (Refuse id why) x event = tt
event_hands_back D b c (Release id arena base) x event = tt
event_hands_back D b c (Hello client incarnation asked) x event = tt
event_hands_back D b c (Sweep client) x event = tt
