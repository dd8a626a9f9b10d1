-- What a drain and a reaping tell of their last looks.
use Rattle.std.proofs.Common.{◌≢◌, ℕ, ◌+◌, ◌-◌, ◌<◌, ◌≤◌, zero, suc, List, [], ◌∷◌, Option, Some, None, Result, Ok, Err, inl, inr, arith, subst, sym}
use Rattle.std.proofs.lemmas.Bool.{cases_eq}
use Rattle.deed_core.specs.Tag.{Tag}
use Rattle.arena_tree.specs.declared.levels.Level.{Level}
use Rattle.arena_tree.specs.declared.part_faults.GivenFault.{GivenFault}
use Rattle.arena_tree.specs.declared.part_faults.GivenFault.TheVariants as giving
use Rattle.arena_tree.specs.declared.part_faults.Stopped.{Stopped}
use Rattle.arena_tree.specs.Chains.{Node}
use Rattle.arena_tree.specs.Climbs.{return_plan, on_free}
use Rattle.arena_tree.specs.Events.{Event, AnswerTo, Free, SlabPut, SlabReap, DepotReap}
use Rattle.arena_tree.specs.Plans.{Plan, Done, Ask, then}
use Rattle.arena_tree.specs.Told.{AnsweredEvent, Tells}
use Rattle.arena_tree.proofs.LawProofs.{tells_then}
use Rattle.quantum_cache.specs.Caches.{if_ok, over_caches, over_arenas}
use Rattle.quantum_cache.specs.Frees.{put_chunk}
use Rattle.quantum_cache.specs.Looks.{WasLast}
use Rattle.quantum_cache.specs.Reaps.{LookEnd, on_return, on_depot_reap, reap_round, on_slab_reap, reap_slab, on_look, looks_in_turn}
use Rattle.quantum_cache.proofs.Tellings.{answered, tells_both, tells_so}

-- for all, where it is so for each
pub tells_all : {I A : Type 0} (nodes : List Node) (post : I → List AnsweredEvent → A → Type 0) (p : Plan A) (told : List AnsweredEvent) → ((i : I) → Tells nodes (post i) p told) → Tells nodes (λ now a. (i : I) → post i now a) p told
tells_all nodes post (Done a) told w = w
tells_all nodes post (Ask e g) told w = λ x s. tells_all nodes post (g x) (answered e x ∷ told) (λ i. w i x s)

-- the event is never asked
abbrev pub Avoids : {A : Type 0} → Event → Plan A → Type 0
Avoids e (Done a) = Unit {0}
Avoids e (Ask e' f) = (e' ≢ e) × ((x : AnswerTo e') → Avoids e (f x))

pub avoids_then : {A B : Type 0} (e : Event) (p : Plan A) (next : A → Plan B) → Avoids e p → ((a : A) → Avoids e (next a)) → Avoids e (then p next)
avoids_then e (Done a) next v f = f a
avoids_then e (Ask e' g) next v f = (v.0, λ x. avoids_then e (g x) next (v.1 x) f)

pub keeps_last : {A : Type 0} (nodes : List Node) (e : Event) (a : AnswerTo e) (p : Plan A) (told : List AnsweredEvent) → Avoids e p → WasLast e a told → Tells nodes (λ now (b : A). WasLast e a now) p told
keeps_last nodes e a (Done b) told v w = w
keeps_last nodes e a (Ask e' g) told v w = λ x s. keeps_last nodes e a (g x) (answered e' x ∷ told) (v.1 x) (inr (v.0, w))

pub avoids_return : (e : Event) → ((t : Tag) → Free t ≢ e) → (chain : List Level) (t : Tag) → Avoids e (return_plan chain t)
avoids_return e never [] t = tt
avoids_return e never (l ∷ up) t = (never t, freed (avoids_return e never up))
  where
    freed : ((w : Tag) → Avoids e (return_plan up w)) → (x : Result (Option Tag) (GivenFault Tag Tag)) → Avoids e (on_free (return_plan up) x)
    freed again (Ok None) = tt
    freed again (Ok (Some w)) = again w
    freed again (Err (giving.Refused b)) = tt
    freed again (Err (giving.Stopped b)) = tt

pub avoids_put : (e : Event) → ((t : Tag) → SlabPut t ≢ e) → (t : Tag) → Avoids e (put_chunk t)
unfolding put_chunk
avoids_put e never t = (never t, λ x. tt)

pub avoids_round : (e : Event) → ((t : Tag) → SlabPut t ≢ e) → (arena cache : ℕ) → DepotReap arena cache ≢ e → Avoids e (reap_round arena cache)
unfolding reap_round
avoids_round e never arena cache other = (other, taken)
  where
    taken : (x : Result (Option Tag) Stopped) → Avoids e (on_depot_reap x)
    taken (Ok None) = tt
    taken (Ok (Some t)) = avoids_then e (put_chunk t) (λ r. Done (on_return 0 r)) (avoids_put e never t) (λ r. tt)
    taken (Err f) = tt

pub avoids_slab : (e : Event) → ((t : Tag) → Free t ≢ e) → (chain : List Level) (arena cache : ℕ) → SlabReap arena cache ≢ e → Avoids e (reap_slab chain arena cache)
unfolding reap_slab
avoids_slab e never chain arena cache other = (other, taken)
  where
    taken : (x : Result (Option Tag) Stopped) → Avoids e (on_slab_reap chain x)
    taken (Ok None) = tt
    taken (Ok (Some t)) = avoids_then e (return_plan chain t) (λ r. Done (on_return t.holding.range.len r)) (avoids_return e never chain t) (λ r. tt)
    taken (Err f) = tt

pub avoids_up_to : (e : Event) (p : Plan LookEnd) → Avoids e p → (left units : ℕ) → Avoids e (looks_in_turn p left units)
avoids_up_to e p v zero units = tt
avoids_up_to e p v (suc n) units = avoids_then e p (on_look (looks_in_turn p n) n units) v (looked (avoids_up_to e p v n))
  where
    looked : ((sum : ℕ) → Avoids e (looks_in_turn p n sum)) → (a : LookEnd) → Avoids e (on_look (looks_in_turn p n) n units a)
    looked again (Ok (Some more)) = again (units + more)
    looked again (Ok None) = tt
    looked again (Err f) = tt

pub avoids_ok : {X F : Type 0} (e : Event) (next : X → Plan (Result X F)) → ((x : X) → Avoids e (next x)) → (r : Result X F) → Avoids e (if_ok next r)
avoids_ok e next v (Ok x) = v x
avoids_ok e next v (Err f) = tt

pub avoids_caches : {X F : Type 0} (e : Event) (each : ℕ → X → Plan (Result X F)) → ((k : ℕ) (x : X) → Avoids e (each k x)) → (all left : ℕ) (x : X) → Avoids e (over_caches each all left x)
avoids_caches e each v all zero x = tt
avoids_caches e each v all (suc n) x = avoids_then e (each (all - n) x) (if_ok (over_caches each all n)) (v (all - n) x) (avoids_ok e (over_caches each all n) (avoids_caches e each v all n))

-- what is found of each key, as long as there are looks left, and kept while others are looked at
module _ (nodes : List Node) {X F : Type 0} (each : ℕ → X → Plan (Result X F)) (live : X → Type 0) (found : List AnsweredEvent → ℕ → Type 0) (fault : List AnsweredEvent → F → Type 0) where
  abbrev pub KeyTold : ℕ → X → List AnsweredEvent → Result X F → Type 0
  KeyTold k x now (Ok y) = (live y → found now k) × (live y → live x)
  KeyTold k x now (Err f) = fault now f

  abbrev pub KeysTold : (ℕ → Type 0) → X → List AnsweredEvent → Result X F → Type 0
  KeysTold keys x now (Ok y) = ((k : ℕ) → keys k → live y → found now k) × (live y → live x)
  KeysTold keys x now (Err f) = fault now f

  module _ (tells : (k : ℕ) (x : X) (told : List AnsweredEvent) → Tells nodes (KeyTold k x) (each k x) told) (keeps : (k j : ℕ) (x : X) (told : List AnsweredEvent) → j ≢ k → found told j → Tells nodes (λ now (r : Result X F). found now j) (each k x) told) where
    pub keeps_caches : (all left j : ℕ) (x : X) (told : List AnsweredEvent) → left ≤ all → j ≤ all - left → found told j → Tells nodes (λ now (r : Result X F). found now j) (over_caches each all left x) told
    keeps_caches all zero j x told le low w = w
    keeps_caches all (suc n) j x told le low w =
        tells_then nodes (λ now (r : Result X F). found now j) (λ now (r : Result X F). found now j) (each (all - n) x) (if_ok (over_caches each all n)) told (keeps (all - n) j x told (λ same. omega (arith, le, low, same)) w) (next (λ y now v. keeps_caches all n j y now (omega (arith, le)) (omega (arith, le, low)) v))
      where
        next : ((y : X) (now : List AnsweredEvent) → found now j → Tells nodes (λ now (r : Result X F). found now j) (over_caches each all n y) now) → (r : Result X F) (now : List AnsweredEvent) → found now j → Tells nodes (λ now (r : Result X F). found now j) (if_ok (over_caches each all n) r) now
        next again (Ok y) now v = again y now v
        next again (Err f) now v = v

    pub tells_caches : (all left : ℕ) (x : X) (told : List AnsweredEvent) → left ≤ all → Tells nodes (KeysTold (λ k. (all - left < k) × (k ≤ all)) x) (over_caches each all left x) told
    tells_caches all zero x told le = (λ k within. absurd (omega (arith, within.0, within.1)), λ l. l)
    tells_caches all (suc n) x told le = tells_then nodes (KeyTold (all - n) x) (KeysTold (λ k. (all - suc n < k) × (k ≤ all)) x) (each (all - n) x) (if_ok (over_caches each all n)) told (tells (all - n) x told) (next (λ y now. tells_caches all n y now (omega (arith, le))))
      where
        both : (y : X) → (live y → live x) → (now : List AnsweredEvent) (r : Result X F) → KeysTold (λ k. (all - n < k) × (k ≤ all)) y now r × (live y → found now (all - n)) → KeysTold (λ k. (all - suc n < k) × (k ≤ all)) x now r
        both y back now (Ok z) w = (
          λ k within l. elim (cases_eq k (all - n)) [
            | inl same ↦ subst (found now) (sym same) (w.1 ((w.0).1 l))
            | inr other ↦ (w.0).0 k (omega (arith, le, within.0, other), within.1) l
          ],
          λ l. back ((w.0).1 l),
        )
        both y back now (Err f) w = w.0

        next : ((y : X) (now : List AnsweredEvent) → Tells nodes (KeysTold (λ k. (all - n < k) × (k ≤ all)) y) (over_caches each all n y) now) → (r : Result X F) (now : List AnsweredEvent) → KeyTold (all - n) x now r → Tells nodes (KeysTold (λ k. (all - suc n < k) × (k ≤ all)) x) (if_ok (over_caches each all n) r) now
        next again (Ok y) now w =
            tells_so nodes (λ now' r. KeysTold (λ k. (all - n < k) × (k ≤ all)) y now' r × (live y → found now' (all - n))) (KeysTold (λ k. (all - suc n < k) × (k ≤ all)) x) (over_caches each all n y) now (both y w.1)
            (tells_both nodes (KeysTold (λ k. (all - n < k) × (k ≤ all)) y) (λ now' r. live y → found now' (all - n)) (over_caches each all n y) now (again y now)
            (tells_all nodes (λ (l : live y) now' r. found now' (all - n)) (over_caches each all n y) now (λ l. keeps_caches all n (all - n) y now (omega (arith, le)) (omega arith) (w.0 l))))
        next again (Err f) now w = w

    pub keeps_arenas : (end j : ℕ) (x : X) (told : List AnsweredEvent) → end ≤ j → found told j → Tells nodes (λ now (r : Result X F). found now j) (over_arenas each end x) told
    keeps_arenas zero j x told le w = w
    keeps_arenas (suc n) j x told le w =
        tells_then nodes (λ now (r : Result X F). found now j) (λ now (r : Result X F). found now j) (each n x) (if_ok (over_arenas each n)) told (keeps n j x told (λ same. omega (arith, le, same)) w) (next (λ y now v. keeps_arenas n j y now (omega (arith, le)) v))
      where
        next : ((y : X) (now : List AnsweredEvent) → found now j → Tells nodes (λ now (r : Result X F). found now j) (over_arenas each n y) now) → (r : Result X F) (now : List AnsweredEvent) → found now j → Tells nodes (λ now (r : Result X F). found now j) (if_ok (over_arenas each n) r) now
        next again (Ok y) now v = again y now v
        next again (Err f) now v = v

    pub tells_arenas : (end : ℕ) (x : X) (told : List AnsweredEvent) → Tells nodes (KeysTold (λ k. k < end) x) (over_arenas each end x) told
    tells_arenas zero x told = (λ k within. absurd (omega (arith, within)), λ l. l)
    tells_arenas (suc n) x told = tells_then nodes (KeyTold n x) (KeysTold (λ k. k < suc n) x) (each n x) (if_ok (over_arenas each n)) told (tells n x told) (next (λ y now. tells_arenas n y now))
      where
        both : (y : X) → (live y → live x) → (now : List AnsweredEvent) (r : Result X F) → KeysTold (λ k. k < n) y now r × (live y → found now n) → KeysTold (λ k. k < suc n) x now r
        both y back now (Ok z) w = (
          λ k within l. elim (cases_eq k n) [
            | inl same ↦ subst (found now) (sym same) (w.1 ((w.0).1 l))
            | inr other ↦ (w.0).0 k (omega (arith, within, other)) l
          ],
          λ l. back ((w.0).1 l),
        )
        both y back now (Err f) w = w.0

        next : ((y : X) (now : List AnsweredEvent) → Tells nodes (KeysTold (λ k. k < n) y) (over_arenas each n y) now) → (r : Result X F) (now : List AnsweredEvent) → KeyTold n x now r → Tells nodes (KeysTold (λ k. k < suc n) x) (if_ok (over_arenas each n) r) now
        next again (Ok y) now w =
            tells_so nodes (λ now' r. KeysTold (λ k. k < n) y now' r × (live y → found now' n)) (KeysTold (λ k. k < suc n) x) (over_arenas each n y) now (both y w.1)
            (tells_both nodes (KeysTold (λ k. k < n) y) (λ now' r. live y → found now' n) (over_arenas each n y) now (again y now)
            (tells_all nodes (λ (l : live y) now' r. found now' n) (over_arenas each n y) now (λ l. keeps_arenas n n y now (omega arith) (w.0 l))))
        next again (Err f) now w = w
