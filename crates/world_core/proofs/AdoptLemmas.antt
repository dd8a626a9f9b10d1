-- What a CPU had that has failed goes to others, and a world stays one by it.
use Rattle.std.proofs.Common.{◌≡◌, ◌≢◌, ℕ, suc, zero, ◌<◌, ◌≤◌, true, List, [], ◌∷◌, length, set, Option, Some, None, refl, sym, subst, ap, ◌∙◌, inl, inr, arith}
use Rattle.std.specs.Prelude.{slice_get}
use Rattle.std.proofs.lemmas.List.Sums.{sum_by-cons}
use Rattle.deed_core.specs.Tag.{Tag}
use Rattle.deed_core.specs.Weights.{Loses}
use Rattle.deed_core.proofs.LawProofs.{slice_get-set_other}
use Rattle.magazine_layer.specs.Magazines.{IsShaped}
use Rattle.magazine_layer.specs.Calls.{PopOf}
use Rattle.stock.specs.OwnCaches.{OwnCacheState, IsOwnCache, IsAtIndexesOf, own_rounds}
use Rattle.lease_book.specs.BookState.{leased_segments}
use Rattle.world_core.specs.WorldState.{WorldState, in_hands}
use Rattle.world_core.specs.IsWorld.{IsWorld, IsOfLines}
use Rattle.world_core.specs.Moves.{after_failure, HandAdopted, RoundAdopted, IsFirstWithRound}
use Rattle.world_core.specs.Events.{EndsAs, HasInHand}
use Rattle.world_core.specs.declared.events.WorldEvent.TheVariants as events
use Rattle.world_core.specs.declared.events.Outcome.TheVariants.{Done}
use Rattle.world_core.proofs.CpuLemmas.{hand_changed, failed_changed}
use Rattle.world_core.proofs.Members.{each_written}
use Rattle.world_core.proofs.HandLemmas.{hand_set, hands_pass}
use Rattle.world_core.proofs.OwnLemmas.{pop_kept}

pub set_past : {X : Type 0} (xs : List X) (i : ℕ) (y : X) → length xs ≤ i → set xs i y ≡ xs
set_past [] i y past = refl
set_past (x ∷ xs) zero y past = absurd (omega (arith, past))
set_past (x ∷ xs) (suc i) y past = ap (λ zs. x ∷ zs) (set_past xs i y (omega (arith, past)))

failing_keeps : (cpu : ℕ) (w : WorldState) → IsWorld w → IsWorld (after_failure cpu w)
failing_keeps cpu w is = record {
  parts = is.parts;
  named = is.named;
  few = is.few;
  names = is.names;
  book = is.book;
  due = is.due;
  ids = is.ids;
  known = is.known;
  said = is.said;
  cpus = failed_changed w.hands w.tasks w.failed w.owners is.cpus cpu None true;
  tasks = each_written (IsOfLines w.requests) w.tasks cpu None is.tasks tt;
  own = is.own;
  shaped = is.shaped;
  told = is.told;
}

pub hand_adopted_keeps : (cpu other : ℕ) (w v : WorldState) → IsWorld w → HandAdopted cpu other w v → IsWorld v
hand_adopted_keeps cpu other w v is m =
    let given = set w.hands other None in
    let hands = set given cpu (Some m.segment) in
    let apart : cpu ≢ other = λ same. (let e : Some None ≡ Some (Some m.segment) = sym m.empty ∙ ap (slice_get w.hands) same ∙ m.holds in absurd (let d : None ≡ Some m.segment = cc in cc)) in
    let still : slice_get given cpu ≡ Some None = slice_get-set_other w.hands other cpu None apart ∙ m.empty in
    subst IsWorld (sym m.after) (failing_keeps other (record w { hands = hands }) (record {
      parts = hands_pass w.stock (in_hands w.hands) (in_hands hands) (leased_segments w.book) w.caches
          (λ f. omega (arith, hand_set f w.hands other (Some m.segment) None m.holds, hand_set f given cpu None (Some m.segment) still)) is.parts;
      named = is.named;
      few = is.few;
      names = is.names;
      book = is.book;
      due = is.due;
      ids = is.ids;
      known = is.known;
      said = is.said;
      cpus = hand_changed given w.tasks w.failed w.owners (hand_changed w.hands w.tasks w.failed w.owners is.cpus other None) cpu (Some m.segment);
      tasks = is.tasks;
      own = is.own;
      shaped = is.shaped;
      told = is.told;
    }))

pub round_adopted_keeps : (cpu other : ℕ) (w v : WorldState) → IsWorld w → RoundAdopted cpu other w v → IsWorld v
round_adopted_keeps cpu other w v is m =
    subst IsWorld (sym m.after) (failing_keeps other m.between (pop_kept cpu m.index m.own m.next w m.between is m.first.has.mine.at m.round m.moves))

-- How it ends.

module _ (w : WorldState) (cpu other : ℕ) (apart : cpu ≢ other) (within : other < length w.failed) (empty : HasInHand w cpu None) where
  pub adopts_hand : (t : Tag) (taken hands : List (Option Tag)) (mid v : WorldState) → HasInHand w other (Some t) → taken ≡ set w.hands other None → hands ≡ set taken cpu (Some t)
      → mid ≡ record w { hands = hands } → v ≡ after_failure other mid → EndsAs (events.Adopts cpu other) Done w v
  adopts_hand t taken hands mid v held out put between after =
      let moved : hands ≡ set (set w.hands other None) cpu (Some t) = put ∙ ap (λ (hs : List (Option Tag)). set hs cpu (Some t)) out in
      let whole : mid ≡ record w { hands = set (set w.hands other None) cpu (Some t) } = between ∙ (λ j. record w { hands = moved j }) in (
        (apart, within, empty, inl (t, held)),
        inl (record { segment = t; empty = empty; holds = held; after = after ∙ ap (after_failure other) whole }),
      )

  pub adopts_round : (index : ℕ) (own next : OwnCacheState) (t : Tag) (hands : List (Option Tag)) (caches : List OwnCacheState) (v : WorldState) → ((x : Tag) → ¬ HasInHand w other (Some x))
      → IsFirstWithRound w other index own → IsAtIndexesOf own next → PopOf own.cpu (Some t) next.cpu → Loses (own_rounds own) (own_rounds next) t → IsOwnCache next → IsShaped next.cpu
      → hands ≡ set w.hands cpu (Some t) → caches ≡ set w.caches index next → v ≡ after_failure other (record w { hands = hands; caches = caches })
      → EndsAs (events.Adopts cpu other) Done w v
  adopts_round index own next t hands caches v none first same pops weights sound shaped moved gone after = (
    (apart, within, empty, inr (index, own, first.has)),
    inr (record {
      index = index;
      own = own;
      next = next;
      round = t;
      between = record w { hands = hands; caches = caches };
      none = none;
      first = first;
      pops = pops;
      moves = record {
        holds = empty;
        goes = record { same = same; sound = sound; shaped = shaped };
        even = λ f. omega (arith, weights f, sum_by-cons f t []);
        after = λ j. record w { hands = moved j; caches = gone j };
      };
      after = after;
    }),
  )
