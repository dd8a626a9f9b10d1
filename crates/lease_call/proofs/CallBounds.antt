-- How many locks of parts the lists of steps of lines take.
use Rattle.std.proofs.Common.{◌≡◌, ℕ, zero, suc, ◌+◌, ◌*◌, ◌≤◌, List, Option, Some, None, Result, Ok, Err, Bool, true, false, arith, length, nat_lt, if◌then◌else◌}
use Rattle.std.specs.Prelude.{slice_get}
use Rattle.deed_core.specs.Tag.{Tag}
use Rattle.deed_core.specs.declared.requests.Request.{Request}
use Rattle.deed_core.specs.declared.segments.Route.{Route}
use Rattle.deed_core.specs.declared.segments.Route.TheVariants.{Direct, Cached}
use Rattle.lease_terms.specs.Requests.{RequestId}
use Rattle.lease_book.specs.Words.{Greeted}
use Rattle.arena_tree.specs.Climbs.{ClimbEnd, ReturnEnd}
use Rattle.arena_tree.specs.Events.{locks}
use Rattle.arena_tree.specs.Plans as plans
use Rattle.arena_tree.specs.Plans.{Plan, Within}
use Rattle.arena_tree.specs.Trees.{index_in}
use Rattle.arena_tree.specs.declared.limits.TheConstants.{LONGEST_CHAIN}
use Rattle.arena_tree.specs.declared.part_faults.ClimbFault.TheVariants as climbing
use Rattle.tag_arena.specs.declared.faults.ArenaFault.TheVariants as arena_fault
use Rattle.arena_tree.specs.declared.part_faults.ReturnFault.TheVariants as returning
use Rattle.arena_tree.specs.declared.part_faults.Stopped.{Stopped}
use Rattle.arena_tree.specs.declared.trees.TreeArena.{TreeArena}
use Rattle.quantum_cache.specs.Caches.{chain_in, chain_up, rest_of_chain}
use Rattle.quantum_cache.specs.Frees.{free_plan}
use Rattle.quantum_cache.specs.Laws.{free_most}
use Rattle.quantum_cache.proofs.LawProofs.{alloc_is_short, free_is_short}
use Rattle.lease_book.specs.Receipts.{ReceiptState}
use Rattle.lease_book.specs.declared.answers.Answer.{Answer}
use Rattle.lease_call.specs.CallPlans.{CallPlan, Done, over_parts}
use Rattle.lease_call.specs.Greeting.{HelloEnd, on_sweep, sweep_plan, on_hello}
use Rattle.lease_call.specs.Hands.{on_place}
use Rattle.lease_call.specs.Laws.{CallWithin, depth_at, lease_most, LeaseIsShort, ReleaseIsShort, HelloIsShort}
use Rattle.lease_proto.specs.Requests.{demand_of}
use Rattle.lease_call.specs.Leasing.{is_plain, take_steps, take_plan, on_settle, on_take, lease_at, on_look}
use Rattle.lease_call.specs.Placing.{place_plan}
use Rattle.lease_call.specs.Releasing.{CallEnd, on_refuse, on_release, release_at}
use Rattle.lease_call.specs.declared.call_faults.NotGreeted.{NotGreeted}
use Rattle.lease_call.specs.declared.call_faults.NotGreeted.TheVariants as greeting
use Rattle.lease_call.specs.declared.call_faults.NotReleased.{NotReleased}
use Rattle.lease_call.specs.declared.call_faults.NotReleased.TheVariants as releasing
use Rattle.lease_call.specs.declared.call_faults.NotSettled.{NotSettled}
use Rattle.lease_call.specs.declared.call_faults.NotSettled.TheVariants as settling
use Rattle.lease_call.specs.declared.outcomes.Outcome.TheVariants.{Settled, Answered}

-- after more locks, so many more
within_more : {A : Type 0} (most : A → ℕ) (k : ℕ) (p : Plan A) (n m : ℕ) → m ≡ n + k → Within most p n → Within (λ a. most a + k) p m
within_more most k (plans.Done a) n m is w = omega (arith, is, w)
within_more most k (plans.Ask e f) n m is w = λ x. within_more most k (f x) (n + locks e) (m + locks e) (omega (arith, is)) (w x)

within_low : {A : Type 0} (most most' : A → ℕ) (p : Plan A) (n : ℕ) → ((a : A) → most a ≤ most' a) → Within most p n → Within most' p n
within_low most most' (plans.Done a) n low w = omega (arith, low a, w)
within_low most most' (plans.Ask e f) n low w = λ x. within_low most most' (f x) (n + locks e) low (w x)

over_within : {D X A : Type 0} (most : X → ℕ) (most' : A → ℕ) (p : Plan X) (next : X → CallPlan D A) (n : ℕ) → Within most p n → ((x : X) (m : ℕ) → m ≤ most x → CallWithin most' (next x) m) → CallWithin most' (over_parts p next) n
over_within most most' (plans.Done x) next n w f = f x n w
over_within most most' (plans.Ask e g) next n w f = λ x. over_within most most' (g x) next (n + locks e) (w x) f

chain_short : (n : ℕ) (arenas : List TreeArena) (o : Option ℕ) → length (chain_up n arenas o) ≤ n
chain_short zero arenas o = omega arith
chain_short (suc n) arenas None = omega arith
chain_short (suc n) arenas (Some id) = by (λ o. chain_short n arenas o) (slice_get arenas id)
  where
    by : ((o : Option ℕ) → length (chain_up n arenas o) ≤ n) → (x : Option TreeArena) → length (rest_of_chain (chain_up n arenas) id x) ≤ suc n
    by again None = omega arith
    by again (Some x) = omega (arith, again x.source)

free_low : (route : Route) (depth : ℕ) → depth ≤ LONGEST_CHAIN → free_most route depth ≤ LONGEST_CHAIN
free_low Direct depth low = low
free_low (Cached k) depth low = omega arith

module _ (arenas : List TreeArena) where
  place_short : (t : Tag) → Within (λ (r : ReturnEnd). LONGEST_CHAIN) (place_plan arenas t) 0
  place_short t = by (nat_lt t.arena (length arenas))
    where
      by : (b : Bool) → Within (λ (r : ReturnEnd). LONGEST_CHAIN) (if b then free_plan (chain_in arenas t.arena) t else plans.Done (Err (returning.Stuck t))) 0
      by true = within_low (λ (r : ReturnEnd). free_most t.route (length (chain_in arenas t.arena))) (λ (r : ReturnEnd). LONGEST_CHAIN) (free_plan (chain_in arenas t.arena) t) 0 (λ r. free_low t.route (length (chain_in arenas t.arena)) (chain_short LONGEST_CHAIN arenas (Some t.arena))) (free_is_short (chain_in arenas t.arena) t)
      by false = omega arith

  -- a segment goes back, and then the rest
  placed_within : {D A : Type 0} (most : A → ℕ) (t : Tag) (next : ReturnEnd → CallPlan D A) (n : ℕ) → ((r : ReturnEnd) (m : ℕ) → m ≤ n + LONGEST_CHAIN → CallWithin most (next r) m) → CallWithin most (over_parts (place_plan arenas t) next) n
  placed_within most t next n f =
      over_within (λ (r : ReturnEnd). LONGEST_CHAIN + n) most (place_plan arenas t) next n (within_more (λ (r : ReturnEnd). LONGEST_CHAIN) n (place_plan arenas t) 0 n (omega arith) (place_short t)) (λ r m low. f r m (omega (arith, low)))

  module _ (D : Type 0) (id : RequestId) where
    released_within : (v : ReceiptState) (e : ReturnEnd) (m : ℕ) → m ≤ LONGEST_CHAIN → CallWithin {D = D} (λ (r : CallEnd D). LONGEST_CHAIN) (on_place (Done (Ok (Settled v))) e) m
    released_within v (Ok u) m low = low
    released_within v (Err f) m low = low

    release_within : (x : Result (ReceiptState × Tag) (NotReleased D)) → CallWithin {D = D} (λ (r : CallEnd D). LONGEST_CHAIN) (on_release arenas x) 0
    release_within (Ok r) = placed_within (λ (r : CallEnd D). LONGEST_CHAIN) r.1 _ 0 (released_within r.0)
    release_within (Err (releasing.Answered a)) = omega arith
    release_within (Err releasing.Stopped) = omega arith

    release_at_within : (base : ℕ) (o : Option ℕ) → CallWithin {D = D} (λ (r : CallEnd D). LONGEST_CHAIN) (release_at arenas id base o) 0
    release_at_within base None = λ x. omega arith
    release_at_within base (Some arena) = release_within

    module _ (depth : ℕ) where
      answered_within : (o : Answer D) (e : ReturnEnd) (m : ℕ) → m ≤ 8 + 2 * depth + LONGEST_CHAIN → CallWithin {D = D} (lease_most depth) (on_place (Done (Ok (Answered o))) e) m
      answered_within o (Ok u) m low = low
      answered_within o (Err f) m low = low

      refused_within : (n : ℕ) → n ≤ 8 + 2 * depth → (x : Result (Answer D) Stopped) → n ≤ lease_most depth (on_refuse x)
      refused_within n low (Ok a) = omega (arith, low)
      refused_within n low (Err e) = omega (arith, low)

      settle_within : (n : ℕ) → n ≤ 8 + 2 * depth → (x : Result ReceiptState (NotSettled Tag D)) → CallWithin {D = D} (lease_most depth) (on_settle arenas x) n
      settle_within n low (Ok v) = low
      settle_within n low (Err (settling.NotLeased x)) = placed_within (lease_most depth) x.segment _ n (λ e m most. answered_within x.answer e m (omega (arith, low, most)))
      settle_within n low (Err (settling.Stopped t)) = omega (arith, low)

      take_within : (arena : ℕ) (q : Request) (r : ClimbEnd) (n : ℕ) → n ≤ 8 + 2 * depth → CallWithin {D = D} (lease_most depth) (on_take arenas id arena q r) n
      take_within arena q (Ok t) n low = settle_within n low
      take_within arena q (Err (climbing.Refused arena_fault.BadRequest)) n low = refused_within n low
      take_within arena q (Err (climbing.Refused arena_fault.NoFit)) n low = refused_within n low
      take_within arena q (Err (climbing.Refused arena_fault.NoMemory)) n low = low
      take_within arena q (Err (climbing.Stuck t)) n low = omega (arith, low)
      take_within arena q (Err (climbing.Stopped o)) n low = omega (arith, low)

    taken_short : (arena : ℕ) (q : Request) (b : Bool) → Within (λ (r : ClimbEnd). 8 + 2 * length (chain_in arenas arena)) (take_steps b arenas arena q) 0
    taken_short arena q true = alloc_is_short (chain_in arenas arena) q.size (chain_short LONGEST_CHAIN arenas (Some arena))
    taken_short arena q false = λ x. omega arith

    lease_at_within : (q : Request) (o : Option ℕ) → CallWithin {D = D} (lease_most (depth_at arenas o)) (lease_at arenas id q o) 0
    lease_at_within q None = refused_within 0 0 (omega arith)
    lease_at_within q (Some arena) =
        over_within (λ (r : ClimbEnd). 8 + 2 * length (chain_in arenas arena)) (lease_most (length (chain_in arenas arena))) (take_plan arenas arena q) (on_take arenas id arena q) 0 (taken_short arena q (is_plain q)) (λ r m low. take_within (length (chain_in arenas arena)) arena q r m low)

    look_within : (depth : ℕ) (new : CallPlan D (CallEnd D)) → CallWithin (lease_most depth) new 0 → (x : Result (Option (Answer D)) Stopped) → CallWithin (lease_most depth) (on_look new x) 0
    look_within depth new w (Ok None) = w
    look_within depth new w (Ok (Some a)) = omega arith
    look_within depth new w (Err e) = omega arith

  module _ (D : Type 0) (all : ℕ) where
    sweep_within : (taken : Greeted) (turns n : ℕ) → n + turns * LONGEST_CHAIN ≤ all → CallWithin {D = D} (λ (r : HelloEnd D). all) (sweep_plan arenas taken turns) n
    sweep_within taken zero n low = omega (arith, low)
    sweep_within taken (suc turns) n low = by (sweep_within taken turns)
      where
        by : ((m : ℕ) → m + turns * LONGEST_CHAIN ≤ all → CallWithin {D = D} (λ (r : HelloEnd D). all) (sweep_plan arenas taken turns) m) → (x : Result (Option (RequestId × Tag)) Stopped) → CallWithin {D = D} (λ (r : HelloEnd D). all) (on_sweep arenas taken (sweep_plan arenas taken turns) x) n
        by again (Ok None) = omega (arith, low)
        by again (Ok (Some r)) = placed_within (λ (e : HelloEnd D). all) r.1 (on_place (sweep_plan arenas taken turns)) n back
          where
            back : (e : ReturnEnd) (m : ℕ) → m ≤ n + LONGEST_CHAIN → CallWithin {D = D} (λ (e : HelloEnd D). all) (on_place (sweep_plan arenas taken turns) e) m
            back (Ok u) m most = again m (omega (arith, low, most))
            back (Err f) m most = omega (arith, low, most)
        by again (Err e) = omega (arith, low)

  hello_within : (D : Type 0) (turns : ℕ) (x : Result Greeted (NotGreeted D)) → CallWithin {D = D} (λ (r : HelloEnd D). turns * LONGEST_CHAIN) (on_hello arenas turns x) 0
  hello_within D turns (Ok taken) = sweep_within D (turns * LONGEST_CHAIN) taken turns 0 (omega arith)
  hello_within D turns (Err (greeting.Late f)) = omega arith
  hello_within D turns (Err greeting.Stopped) = omega arith

pub lease_is_short : (D : Type 0) → LeaseIsShort D
lease_is_short D arenas id l = look_within arenas D id (depth_at arenas (index_in l.arena arenas)) (lease_at arenas id (demand_of l) (index_in l.arena arenas)) (lease_at_within arenas D id (demand_of l) (index_in l.arena arenas))

pub release_is_short : (D : Type 0) → ReleaseIsShort D
release_is_short D arenas id l = release_at_within arenas D id l.base (index_in l.arena arenas)

pub hello_is_short : (D : Type 0) → HelloIsShort D
hello_is_short D arenas h turns = hello_within arenas D turns
