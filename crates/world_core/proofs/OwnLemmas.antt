-- What CPUs' own caches do, and that a world stays one by it.
use Rattle.std.proofs.Common.{◌≡◌, ◌⊎◌, ℕ, ◌+◌, ◌<◌, List, [], ◌∷◌, ◌++◌, length, set, Option, Some, None, Ok, Err, refl, sym, subst, ap, ◌∙◌, inl, inr, arith}
use Rattle.std.specs.Prelude.{slice_get}
use Rattle.std.proofs.lemmas.Bool.{cases_order}
use Rattle.std.proofs.lemmas.List.{length-set, length-append}
use Rattle.std.proofs.lemmas.List.Sums.{sum_by-cons}
use Rattle.deed_core.specs.Tag.{Tag}
use Rattle.deed_core.specs.Weights.{Gains, Loses}
use Rattle.deed_core.specs.declared.segments.Route.TheVariants.{Cached}
use Rattle.deed_core.proofs.LawProofs.{written, all_at, set_same, slice_get_one}
use Rattle.magazine_layer.specs.Magazines.{CpuCacheState, IsShaped, BothEmpty, BothFull, Of_loaded, Of_previous, On_loaded, On_previous}
use Rattle.magazine_layer.specs.Calls.{PopOf, PushOf}
use Rattle.stock.specs.Spaces.{SpaceState}
use Rattle.stock.specs.OwnCaches.{OwnCacheState, IsOwnCache, IsAtIndexesOf, own_rounds}
use Rattle.stock.proofs.LawProofs.{plans_stay}
use Rattle.stock_audit.specs.Outside.{outside}
use Rattle.stock_audit.specs.Accounted.{IsAccountedFor, IsOwnIn}
use Rattle.stock_audit.specs.Keeping.{OnCpu}
use Rattle.stock_audit.proofs.LawProofs.{pops_keep, pushes_keep, swaps_keep}
use Rattle.lease_book.specs.BookState.{leased_segments}
use Rattle.world_core.specs.WorldState.{WorldState, in_hands, outside_of}
use Rattle.world_core.specs.Moves.{IsOwnFor, OwnGoesOn, TakesHand, RoundMoves, RoundPopped, RoundPushed, OwnMoves}
use Rattle.world_core.specs.IsWorld.{IsWorld, AreInOrder, IsBefore}
use Rattle.world_core.specs.Events.{EndsAs, HasInHand}
use Rattle.world_core.specs.declared.events.WorldEvent.TheVariants as events
use Rattle.world_core.specs.declared.events.Outcome.TheVariants.{Done, NotEnabled}
use Rattle.world_core.proofs.CpuLemmas.{hand_changed}
use Rattle.world_core.proofs.Members.{each_written}
use Rattle.world_core.proofs.HandLemmas.{hand_set}
use Rattle.world_core.proofs.StockLemmas.{due_stays}
use Rattle.world_core.proofs.CallLemmas.{one_held, put_same}

-- Lists of caches.

-- a cache goes on: what stands at an index stood there, for the same quantum cache
stood : (caches : List OwnCacheState) (index k : ℕ) (own next o : OwnCacheState) → slice_get caches index ≡ Some own → IsAtIndexesOf own next → slice_get (set caches index next) k ≡ Some o
    → (q : OwnCacheState) × (slice_get caches k ≡ Some q) × (o.arena ≡ q.arena) × (o.cache ≡ q.cache)
stood caches index k own next o at same there = elim (written caches index k next o there) [
  | inl here ↦ (
    own,
    subst (λ (n : ℕ). slice_get caches n ≡ Some own) (sym here.0) at,
    ap (λ (x : OwnCacheState). x.arena) here.1 ∙ same.arena,
    ap (λ (x : OwnCacheState). x.cache) here.1 ∙ same.cache,
  )
  | inr other ↦ (o, other.1, refl, refl)
]

still_ordered : (owners : List ℕ) (caches : List OwnCacheState) (index : ℕ) (own next : OwnCacheState) → AreInOrder owners caches → slice_get caches index ≡ Some own → IsAtIndexesOf own next
    → AreInOrder owners (set caches index next)
still_ordered owners caches index own next are at same = record {
  owned = are.owned ∙ sym (length-set caches index next);
  order = λ i j cpu o p less mine here yours there. (let a = stood caches index i own next o at same here in
      let b = stood caches index j own next p at same there in
      before o p a.0 b.0 (sym a.2) (sym b.2) (sym a.3) (sym b.3) (are.order i j cpu a.0 b.0 less mine a.1 yours b.1));
}
  where
    before : (o p a b : OwnCacheState) → a.arena ≡ o.arena → b.arena ≡ p.arena → a.cache ≡ o.cache → b.cache ≡ p.cache → IsBefore a b → IsBefore o p
    before o p a b oa pa oc pc (inl less) = inl (omega (arith, oa, pa, less))
    before o p a b oa pa oc pc (inr (home, less)) = inr (sym oa ∙ home ∙ pa, omega (arith, oc, pc, less))

-- so no two of a CPU are for one quantum cache
lone : (owners : List ℕ) (caches : List OwnCacheState) → AreInOrder owners caches → (i j cpu : ℕ) (o p : OwnCacheState) → slice_get owners i ≡ Some cpu → slice_get owners j ≡ Some cpu → slice_get caches i ≡ Some o
    → slice_get caches j ≡ Some p → o.arena ≡ p.arena → o.cache ≡ p.cache → i ≡ j
lone owners caches are i j cpu o p mine yours here there home number = by (cases_order i j)
  where
    unless : (a b : OwnCacheState) → a.arena ≡ b.arena → a.cache ≡ b.cache → IsBefore a b → ⊥
    unless a b home number (inl less) = omega (arith, home, less)
    unless a b home number (inr (same, less)) = omega (arith, number, less)

    by : (i ≡ j) ⊎ ((i < j) ⊎ (j < i)) → i ≡ j
    by (inl same) = same
    by (inr (inl less)) = absurd (unless o p home number (are.order i j cpu o p less mine here yours there))
    by (inr (inr more)) = absurd (unless p o (sym home) (sym number) (are.order j i cpu p o more yours there mine here))

-- a CPU has one for a quantum cache
pub one_own : (w : WorldState) (cpu arena cache i j : ℕ) (o p : OwnCacheState) → IsWorld w → IsOwnFor w cpu arena cache i o → IsOwnFor w cpu arena cache j p → o ≡ p
one_own w cpu arena cache i j o p is a b =
    let same : i ≡ j = lone w.owners w.caches is.own i j cpu o p a.mine.owner b.mine.owner a.mine.at b.mine.at (a.home ∙ sym b.home) (a.number ∙ sym b.number) in
    slice_get_one w.caches j o p (subst (λ (k : ℕ). slice_get w.caches k ≡ Some o) same a.mine.at) b.mine.at

-- the one that was found
pub found_own : (w : WorldState) (cpu arena cache index : ℕ) (own : OwnCacheState) → (o : OwnCacheState) × IsOwnFor w cpu arena cache index o → slice_get w.caches index ≡ Some own
    → IsOwnFor w cpu arena cache index own
found_own w cpu arena cache index own (o, here) at = subst (λ (x : OwnCacheState). IsOwnFor w cpu arena cache index x) (slice_get_one w.caches index o own here.mine.at at) here

-- and one that takes what its hand has
one_taking : (w : WorldState) (cpu i j : ℕ) (o p : OwnCacheState) (t u : Tag) → IsWorld w → TakesHand w cpu i o t → TakesHand w cpu j p u → o ≡ p
one_taking w cpu i j o p t u is a b =
    let tag : t ≡ u = one_held w cpu t u a.holds b.holds in
    let home : o.arena ≡ p.arena = sym a.takes.from ∙ ap (λ (x : Tag). x.arena) tag ∙ b.takes.from in
    let route : Cached (o.cache + 1) ≡ Cached (p.cache + 1) = sym a.takes.by ∙ ap (λ (x : Tag). x.route) tag ∙ b.takes.by in
    let number : o.cache ≡ p.cache = (let e : o.cache + 1 ≡ p.cache + 1 = cc in omega arith) in
    let same : i ≡ j = lone w.owners w.caches is.own i j cpu o p a.mine.owner b.mine.owner a.mine.at b.mine.at home number in
    slice_get_one w.caches j o p (subst (λ (k : ℕ). slice_get w.caches k ≡ Some o) same a.mine.at) b.mine.at

pub found_taking : (w : WorldState) (cpu index : ℕ) (own : OwnCacheState) (t : Tag) → (o : OwnCacheState) × (u : Tag) × TakesHand w cpu index o u → slice_get w.caches index ≡ Some own → HasInHand w cpu (Some t)
    → TakesHand w cpu index own t
found_taking w cpu index own t (o, u, takes) at held =
    let tag : u ≡ t = one_held w cpu u t takes.holds held in
    let cache : o ≡ own = slice_get_one w.caches index o own takes.mine.at at in
    subst (λ (x : Tag). TakesHand w cpu index own x) tag (subst (λ (x : OwnCacheState). TakesHand w cpu index x u) cache takes)

-- the cache that it is for stands
pub own_in : (w : WorldState) (index : ℕ) (own : OwnCacheState) → IsWorld w → slice_get w.caches index ≡ Some own → IsOwnIn w.stock own
own_in w index own is at = all_at (IsOwnIn w.stock) w.caches index own is.parts.cpus at

-- What keeps a world.

module _ (cpu index : ℕ) (own next : OwnCacheState) (w v : WorldState) (is : IsWorld w) (at : slice_get w.caches index ≡ Some own) where
  on_cpu : (hands : List (Option Tag)) → OwnGoesOn own next → OnCpu index own next (outside_of w) (outside (in_hands hands) (leased_segments w.book) (set w.caches index next))
  on_cpu hands goes = record { at = at; own = goes.sound; index = goes.same; cpus = refl; leases = refl }

  round_kept : (given answered : Option Tag) → (m : RoundMoves cpu index own next given answered w v)
      → IsAccountedFor w.stock (outside (in_hands (set w.hands cpu answered)) (leased_segments w.book) (set w.caches index next)) → IsWorld v
  round_kept given answered m parts = subst IsWorld (sym m.after) (record {
    parts = parts;
    named = is.named;
    few = is.few;
    names = is.names;
    book = is.book;
    due = is.due;
    ids = is.ids;
    known = is.known;
    said = is.said;
    cpus = hand_changed w.hands w.tasks w.failed w.owners is.cpus cpu answered;
    tasks = is.tasks;
    own = still_ordered w.owners w.caches index own next is.own at m.goes.same;
    shaped = each_written (λ (o : OwnCacheState). IsShaped o.cpu) w.caches index next is.shaped m.goes.shaped;
    told = is.told;
  })

  pub pop_kept : (t : Tag) → RoundMoves cpu index own next None (Some t) w v → IsWorld v
  pop_kept t m = round_kept None (Some t) m (pops_keep w.stock index own next t (outside_of w) (outside (in_hands (set w.hands cpu (Some t))) (leased_segments w.book) (set w.caches index next)) is.parts (record {
    on = on_cpu (set w.hands cpu (Some t)) m.goes;
    rounds = λ f. omega (arith, m.even f, sum_by-cons f t []);
    hands = λ f. omega (arith, hand_set f w.hands cpu None (Some t) m.holds, sum_by-cons f t []);
  }))

  push_kept : (t : Tag) → RoundMoves cpu index own next (Some t) None w v → IsWorld v
  push_kept t m = round_kept (Some t) None m (pushes_keep w.stock index own next t (outside_of w) (outside (in_hands (set w.hands cpu None)) (leased_segments w.book) (set w.caches index next)) is.parts (record {
    on = on_cpu (set w.hands cpu None) m.goes;
    rounds = λ f. omega (arith, m.even f, sum_by-cons f t []);
    hands = λ f. omega (arith, hand_set f w.hands cpu (Some t) None m.holds, sum_by-cons f t []);
  }))

pub popped_keeps : (cpu arena cache : ℕ) (w v : WorldState) → IsWorld w → RoundPopped cpu arena cache w v → IsWorld v
popped_keeps cpu arena cache w v is m = pop_kept cpu m.index m.own m.next w v is m.here.mine.at m.round m.moves

pub pushed_keeps : (cpu : ℕ) (w v : WorldState) → IsWorld w → RoundPushed cpu w v → IsWorld v
pushed_keeps cpu w v is m = push_kept cpu m.index m.own m.next w v is m.takes.mine.at m.chunk m.moves

pub own_move_keeps : (cpu arena cache : ℕ) (Does : (old new : CpuCacheState) → (before after : List SpaceState) → Type 0) (w v : WorldState) → IsWorld w → OwnMoves cpu arena cache Does w v → IsWorld v
own_move_keeps cpu arena cache Does w v is m =
    let stay = plans_stay w.stock m.stock m.step.fixed in
    subst IsWorld (sym m.after) (record {
      parts = swaps_keep w.stock m.stock m.index m.own m.next (outside_of w) (outside (in_hands w.hands) (leased_segments w.book) (set w.caches m.index m.next)) is.parts m.step
          (on_cpu cpu m.index m.own m.next w v is m.here.mine.at w.hands m.goes) refl;
      named = is.named ∙ sym stay.0;
      few = is.few;
      names = is.names;
      book = is.book;
      due = λ k e at. due_stays w.stock m.stock w.names w.requests e m.step.fixed (is.due k e at);
      ids = is.ids;
      known = is.known;
      said = is.said;
      cpus = is.cpus;
      tasks = is.tasks;
      own = still_ordered w.owners w.caches m.index m.own m.next is.own m.here.mine.at m.goes.same;
      shaped = each_written (λ (o : OwnCacheState). IsShaped o.cpu) w.caches m.index m.next is.shaped m.goes.shaped;
      told = is.told;
    })

-- Pops and pushes.

not_nil : {X : Type 0} (xs : List X) (x : X) → xs ++ x ∷ [] ≡ [] → ⊥
not_nil xs x is = (let e = ap length is in omega (arith, e, length-append xs (x ∷ [])))

had_round : (c x : CpuCacheState) (t : Tag) → PopOf c (Some t) x → ¬ BothEmpty c
had_round c x t (Of_loaded loaded after) = λ both. not_nil x.loaded t (sym loaded ∙ both.loaded_empty)
had_round c x t (Of_previous loaded previous after) = λ both. not_nil x.loaded t (sym previous ∙ both.previous_empty)

had_room : (c x : CpuCacheState) (t : Tag) → IsShaped c → PushOf c t (Ok tt) x → ¬ BothFull c
had_room c x t shaped (On_loaded less after) = λ both. omega (arith, less, both.loaded_full)
had_room c x t shaped (On_previous loaded previous after) = λ both. (let e = ap length previous in sizes shaped.sized (omega (arith, e, both.previous_full)))
  where
    sizes : (c.size ≡ 3) ⊎ (c.size ≡ 7) ⊎ (c.size ≡ 15) ⊎ (c.size ≡ 31) → c.size ≡ 0 → ⊥
    sizes (inl a) zero = omega (arith, a, zero)
    sizes (inr (inl a)) zero = omega (arith, a, zero)
    sizes (inr (inr (inl a))) zero = omega (arith, a, zero)
    sizes (inr (inr (inr a))) zero = omega (arith, a, zero)

-- a cache that did nothing
pub own_same : (own next : OwnCacheState) → IsAtIndexesOf own next → next.cpu ≡ own.cpu → next ≡ own
own_same own next same cpu = λ j. record { arena = same.arena j; cache = same.cache j; quantum = same.quantum j; cpu = cpu j }

pub caches_same : (w : WorldState) (index : ℕ) (own next : OwnCacheState) → slice_get w.caches index ≡ Some own → IsAtIndexesOf own next → next.cpu ≡ own.cpu → set w.caches index next ≡ w.caches
caches_same w index own next at same cpu = ap (set w.caches index) (own_same own next same cpu) ∙ set_same w.caches index own at

module _ (w : WorldState) (cpu arena cache index : ℕ) (own next : OwnCacheState) (is : IsWorld w) (empty : HasInHand w cpu None) (here : IsOwnFor w cpu arena cache index own) (same : IsAtIndexesOf own next) where
  pub pops_round : (t : Tag) (hands : List (Option Tag)) (caches : List OwnCacheState) → PopOf own.cpu (Some t) next.cpu → Loses (own_rounds own) (own_rounds next) t → IsOwnCache next
      → IsShaped next.cpu → hands ≡ set w.hands cpu (Some t) → caches ≡ set w.caches index next → EndsAs (events.Pops cpu arena cache) Done w (record w { hands = hands; caches = caches })
  pops_round t hands caches pops weights sound shaped moved gone = (
    (empty, record { index = index; own = own; here = here; is = had_round own.cpu next.cpu t pops }),
    record {
      index = index;
      own = own;
      next = next;
      round = t;
      here = here;
      pops = pops;
      moves = record {
        holds = empty;
        goes = record { same = same; sound = sound; shaped = shaped };
        even = λ f. omega (arith, weights f, sum_by-cons f t []);
        after = λ j. record w { hands = moved j; caches = gone j };
      };
    },
  )

  pub pops_none : (caches : List OwnCacheState) → PopOf own.cpu None next.cpu → caches ≡ set w.caches index next → EndsAs (events.Pops cpu arena cache) NotEnabled w (record w { caches = caches })
  pops_none caches pops gone =
      let whole = gone ∙ caches_same w index own next here.mine.at same pops.1 in (
        λ ready. (let one : own ≡ ready.1.own = one_own w cpu arena cache index ready.1.index own ready.1.own is here ready.1.here in
            ready.1.is (subst (λ (o : OwnCacheState). BothEmpty o.cpu) one pops.0)),
        λ j. record w { caches = whole j },
      )

module _ (w : WorldState) (cpu index : ℕ) (own next : OwnCacheState) (t : Tag) (is : IsWorld w) (takes : TakesHand w cpu index own t) (same : IsAtIndexesOf own next) where
  pub pushes_chunk : (hands : List (Option Tag)) (caches : List OwnCacheState) → PushOf own.cpu t (Ok tt) next.cpu → Gains (own_rounds own) (own_rounds next) t → IsOwnCache next
      → IsShaped next.cpu → hands ≡ set w.hands cpu None → caches ≡ set w.caches index next → EndsAs (events.Pushes cpu) Done w (record w { hands = hands; caches = caches })
  pushes_chunk hands caches pushes weights sound shaped moved gone = (
    record { index = index; own = own; chunk = t; takes = takes; room = had_room own.cpu next.cpu t (is.shaped index own takes.mine.at) pushes },
    record {
      index = index;
      own = own;
      next = next;
      chunk = t;
      takes = takes;
      pushes = pushes;
      moves = record {
        holds = takes.holds;
        goes = record { same = same; sound = sound; shaped = shaped };
        even = λ f. omega (arith, weights f, sum_by-cons f t []);
        after = λ j. record w { hands = moved j; caches = gone j };
      };
    },
  )

  pub pushes_none : (back : Tag) (taken hands : List (Option Tag)) (caches : List OwnCacheState) → PushOf own.cpu t (Err back) next.cpu → taken ≡ set w.hands cpu None → hands ≡ set taken cpu (Some back)
      → caches ≡ set w.caches index next → EndsAs (events.Pushes cpu) NotEnabled w (record w { hands = hands; caches = caches })
  pushes_none back taken hands caches pushes out put gone =
      let whole = gone ∙ caches_same w index own next takes.mine.at same pushes.2 in
      let again = put_same w.hands taken hands cpu t back takes.holds out put pushes.1 in (
        λ ready. (let one : own ≡ ready.own = one_taking w cpu index ready.index own ready.own t ready.chunk is takes ready.takes in
            ready.room (subst (λ (o : OwnCacheState). BothFull o.cpu) one pushes.0)),
        λ j. record w { hands = again j; caches = whole j },
      )
