-- How many locks a reaping takes.
use Rattle.std.proofs.Common.{ℕ, ◌+◌, ◌-◌, ◌*◌, ◌≤◌, zero, suc, List, [], ◌∷◌, Option, Some, None, Result, Ok, Err, length, arith}
use Rattle.std.specs.Prelude.{slice_get}
use Rattle.deed_core.specs.Tag.{Tag}
use Rattle.arena_tree.specs.declared.limits.TheConstants.{LONGEST_CHAIN}
use Rattle.arena_tree.specs.declared.levels.Level.{Level}
use Rattle.arena_tree.specs.declared.part_faults.Stopped.{Stopped}
use Rattle.arena_tree.specs.declared.trees.TreeArena.{TreeArena}
use Rattle.arena_tree.specs.Events.{AnswerTo, locks}
use Rattle.arena_tree.specs.Plans.{Plan, Done, Ask, then, Within}
use Rattle.arena_tree.specs.Climbs.{ReturnEnd, return_plan}
use Rattle.arena_tree.proofs.LawProofs.{within_then, within_return}
use Rattle.quantum_cache.specs.declared.reaps.Reaping.{Reaping}
use Rattle.quantum_cache.specs.Caches.{rest_of_chain, chain_up, chain_in, if_ok, over_caches, over_arenas}
use Rattle.quantum_cache.specs.Frees.{put_chunk}
use Rattle.quantum_cache.specs.Laws.{looks_left, ReapArenaIsShort, ReapIsShort}
use Rattle.quantum_cache.specs.Reaps.{LookEnd, ReapEnd, on_return, on_depot_reap, reap_round, on_slab_reap, reap_slab, on_look, looks_in_turn, reap_steps, reap_cache, reap_arena_plan, reap_plan}
use Rattle.quantum_cache.specs.Sizes.{caches_in}

-- after so many locks it ends with so many in all, of which the end says what it says
abbrev Counted : {A : Type 0} → (A → ℕ → Type 0) → Plan A → ℕ → Type 0
Counted post (Done a) n = post a n
Counted post (Ask e f) n = (x : AnswerTo e) → Counted post (f x) (n + locks e)

counted_then : {A B : Type 0} (post : A → ℕ → Type 0) (post' : B → ℕ → Type 0) (p : Plan A) (next : A → Plan B) (n : ℕ) → Counted post p n → ((a : A) (m : ℕ) → post a m → Counted post' (next a) m) → Counted post' (then p next) n
counted_then post post' (Done a) next n w f = f a n w
counted_then post post' (Ask e g) next n w f = λ x. counted_then post post' (g x) next (n + locks e) (w x) f

counted_within : {A : Type 0} (post : A → ℕ → Type 0) (most : A → ℕ) (p : Plan A) (n : ℕ) → ((a : A) (m : ℕ) → post a m → m ≤ most a) → Counted post p n → Within most p n
counted_within post most (Done a) n f w = f a n w
counted_within post most (Ask e g) n f w = λ x. counted_within post most (g x) (n + locks e) f (w x)

within_counted : {A : Type 0} (most : A → ℕ) (p : Plan A) (n : ℕ) → Within most p n → Counted (λ (a : A) (m : ℕ). m ≤ most a) p n
within_counted most (Done a) n w = w
within_counted most (Ask e g) n w = λ x. within_counted most (g x) (n + locks e) (w x)

-- one lock for each look, and those of a hand back
abbrev Paid : ℕ → ReapEnd → ℕ → Type 0
Paid limit r n = n + (1 + LONGEST_CHAIN) * looks_left r ≤ (1 + LONGEST_CHAIN) * limit

put_within : (t : Tag) (n : ℕ) → Within (λ (r : ReturnEnd). n + 1) (put_chunk t) n
unfolding put_chunk
put_within t n = λ x. omega arith

within_reap_round : (arena cache n : ℕ) → Within (λ (a : LookEnd). n + (1 + LONGEST_CHAIN)) (reap_round arena cache) n
unfolding reap_round
within_reap_round arena cache n = taken
  where
    taken : (x : Result (Option Tag) Stopped) → Within (λ (a : LookEnd). n + (1 + LONGEST_CHAIN)) (on_depot_reap x) (n + 1)
    taken (Ok None) = omega arith
    taken (Ok (Some t)) = within_then (λ (r : ReturnEnd). n + 1 + 1) (λ (a : LookEnd). n + (1 + LONGEST_CHAIN)) (put_chunk t) (λ r. Done (on_return 0 r)) (n + 1) (put_within t (n + 1)) (λ r m low. omega (arith, low))
    taken (Err e) = omega arith

within_reap_slab : (chain : List Level) (arena cache n : ℕ) → length chain ≤ LONGEST_CHAIN → Within (λ (a : LookEnd). n + (1 + LONGEST_CHAIN)) (reap_slab chain arena cache) n
unfolding reap_slab
within_reap_slab chain arena cache n short = taken
  where
    taken : (x : Result (Option Tag) Stopped) → Within (λ (a : LookEnd). n + (1 + LONGEST_CHAIN)) (on_slab_reap chain x) (n + 1)
    taken (Ok None) = omega arith
    taken (Ok (Some t)) =
        within_then (λ (r : ReturnEnd). n + 1 + length chain) (λ (a : LookEnd). n + (1 + LONGEST_CHAIN)) (return_plan chain t) (λ r. Done (on_return t.holding.range.len r)) (n + 1) (within_return (λ (r : ReturnEnd). n + 1 + length chain) chain t (n + 1) (λ r. omega arith)) (λ r m low. omega (arith, low, short))
    taken (Err e) = omega arith

module _ (limit : ℕ) where
  paid_up_to : (p : Plan LookEnd) → ((n : ℕ) → Within (λ (a : LookEnd). n + (1 + LONGEST_CHAIN)) p n) → (left units n : ℕ) → n + (1 + LONGEST_CHAIN) * left ≤ (1 + LONGEST_CHAIN) * limit → Counted (Paid limit) (looks_in_turn p left units) n
  paid_up_to p look zero units n le = le
  paid_up_to p look (suc k) units n le =
      counted_then (λ (a : LookEnd) (m : ℕ). m ≤ n + (1 + LONGEST_CHAIN)) (Paid limit) p (on_look (looks_in_turn p k) k units) n (within_counted (λ (a : LookEnd). n + (1 + LONGEST_CHAIN)) p n (look n)) (looked (λ sum m fits. paid_up_to p look k sum m fits))
    where
      looked : ((sum m : ℕ) → m + (1 + LONGEST_CHAIN) * k ≤ (1 + LONGEST_CHAIN) * limit → Counted (Paid limit) (looks_in_turn p k sum) m) → (a : LookEnd) (m : ℕ) → m ≤ n + (1 + LONGEST_CHAIN) → Counted (Paid limit) (on_look (looks_in_turn p k) k units a) m
      looked again (Ok (Some more)) m low = again (units + more) m (omega (arith, le, low))
      looked again (Ok None) m low = omega (arith, le, low)
      looked again (Err f) m low = omega (arith, le, low)

  paid_if_ok : (next : Reaping → Plan ReapEnd) → ((r : Reaping) (n : ℕ) → n + (1 + LONGEST_CHAIN) * r.left ≤ (1 + LONGEST_CHAIN) * limit → Counted (Paid limit) (next r) n) → (a : ReapEnd) (n : ℕ) → Paid limit a n → Counted (Paid limit) (if_ok next a) n
  paid_if_ok next w (Ok r) n le = w r n le
  paid_if_ok next w (Err f) n le = le

  paid_cache : (chain : List Level) → length chain ≤ LONGEST_CHAIN → (arena cache : ℕ) (r : Reaping) (n : ℕ) → n + (1 + LONGEST_CHAIN) * r.left ≤ (1 + LONGEST_CHAIN) * limit → Counted (Paid limit) (reap_cache chain arena cache r) n
  unfolding reap_cache
  paid_cache chain short arena cache r n le =
      counted_then (Paid limit) (Paid limit) (reap_steps (reap_round arena cache) r) (if_ok (reap_steps (reap_slab chain arena cache))) n (paid_up_to (reap_round arena cache) (within_reap_round arena cache) r.left r.units n le)
      (paid_if_ok (reap_steps (reap_slab chain arena cache)) (λ x m fits. paid_up_to (reap_slab chain arena cache) (λ k. within_reap_slab chain arena cache k short) x.left x.units m fits))

  module _ (each : ℕ → Reaping → Plan ReapEnd) (paid : (k : ℕ) (r : Reaping) (n : ℕ) → n + (1 + LONGEST_CHAIN) * r.left ≤ (1 + LONGEST_CHAIN) * limit → Counted (Paid limit) (each k r) n) where
    paid_caches : (all k : ℕ) (r : Reaping) (n : ℕ) → n + (1 + LONGEST_CHAIN) * r.left ≤ (1 + LONGEST_CHAIN) * limit → Counted (Paid limit) (over_caches each all k r) n
    paid_caches all zero r n le = le
    paid_caches all (suc k) r n le = counted_then (Paid limit) (Paid limit) (each (all - k) r) (if_ok (over_caches each all k)) n (paid (all - k) r n le) (paid_if_ok (over_caches each all k) (paid_caches all k))

    paid_arenas : (end : ℕ) (r : Reaping) (n : ℕ) → n + (1 + LONGEST_CHAIN) * r.left ≤ (1 + LONGEST_CHAIN) * limit → Counted (Paid limit) (over_arenas each end r) n
    paid_arenas zero r n le = le
    paid_arenas (suc id) r n le = counted_then (Paid limit) (Paid limit) (each id r) (if_ok (over_arenas each id)) n (paid id r n le) (paid_if_ok (over_arenas each id) (paid_arenas id))

  paid_arena : (chain : List Level) → length chain ≤ LONGEST_CHAIN → (r : Reaping) (n : ℕ) → n + (1 + LONGEST_CHAIN) * r.left ≤ (1 + LONGEST_CHAIN) * limit → Counted (Paid limit) (reap_arena_plan chain r) n
  paid_arena [] short r n le = le
  paid_arena (l ∷ up) short r n le = paid_caches (reap_cache (l ∷ up) l.id) (paid_cache (l ∷ up) short l.id) (caches_in l) (caches_in l) r n le

short_on : (n : ℕ) (again : Option ℕ → List Level) (id : ℕ) (x : Option TreeArena) → ((o : Option ℕ) → length (again o) ≤ n) → length (rest_of_chain again id x) ≤ n + 1
short_on n again id None short = omega arith
short_on n again id (Some x) short = let up = short x.source in omega (arith, up)

short_up : (n : ℕ) (arenas : List TreeArena) (o : Option ℕ) → length (chain_up n arenas o) ≤ n
short_up zero arenas o = omega arith
short_up (suc n) arenas None = omega arith
short_up (suc n) arenas (Some id) = let le = short_on n (chain_up n arenas) id (slice_get arenas id) (short_up n arenas) in omega (arith, le)

pub reap_is_short : ReapIsShort
reap_is_short arenas limit =
    counted_within (Paid limit) (λ (r : ReapEnd). (1 + LONGEST_CHAIN) * (limit - looks_left r)) (reap_plan arenas limit) 0 (λ r m le. omega (arith, le))
    (paid_arenas limit (λ id. reap_arena_plan (chain_in arenas id)) (λ id. paid_arena limit (chain_in arenas id) (short_up LONGEST_CHAIN arenas (Some id))) (length arenas) (record { left = limit; units = 0 }) 0 (omega arith))

pub reap_arena_is_short : ReapArenaIsShort
reap_arena_is_short chain limit short =
    counted_within (Paid limit) (λ (r : ReapEnd). (1 + LONGEST_CHAIN) * (limit - looks_left r)) (reap_arena_plan chain (record { left = limit; units = 0 })) 0 (λ r m le. omega (arith, le))
    (paid_arena limit chain short (record { left = limit; units = 0 }) 0 (omega arith))
