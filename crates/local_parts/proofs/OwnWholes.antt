-- Each event of the CPU's magazines, with all that a step of `Parts` wants of it.
use Rattle.std.proofs.Common.{◌≡◌, ℕ, ◌+◌, refl, sym, subst, ap, ◌∙◌, inl, inr, List, [], ◌++◌, length, Option, Some, None, Result, Ok, Err, false, arith}
use Rattle.std.specs.Prelude.{slice_get, sum_by}
use Rattle.std.specs.Option.{option_to_list}
use Rattle.std.proofs.lemmas.List.Sums.{sum_by-cons}
use Rattle.deed_core.specs.Tag.{Tag}
use Rattle.deed_core.proofs.LawProofs.{slice_get_one}
use Rattle.magazine_layer.specs.Magazines.{CpuCacheState, MagazineState, BothEmpty, BothFull}
use Rattle.magazine_layer.specs.declared.faults.FullFault.{FullFault}
use Rattle.magazine_layer.specs.declared.faults.FullFault.TheVariants as full_fault
use Rattle.magazine_layer.specs.declared.faults.EmptyFault.{EmptyFault}
use Rattle.magazine_layer.specs.declared.faults.EmptyFault.TheVariants as empty_fault
use Rattle.magazine_layer.specs.declared.faults.PutFullFault.{PutFullFault}
use Rattle.magazine_layer.specs.declared.faults.PutFullFault.TheVariants as fresh_fault
use Rattle.magazine_layer.specs.Depots.{DepotState}
use Rattle.arena_tree.specs.declared.trees.TreeArena.{TreeArena}
use Rattle.arena_tree.specs.declared.part_faults.PartFault.{PartFault}
use Rattle.arena_tree.specs.declared.part_faults.FreshFault.{FreshFault}
use Rattle.arena_tree.specs.declared.part_faults.ChangeFault.{ChangeFault}
use Rattle.arena_tree.specs.declared.part_faults.PartFault.TheVariants as asking
use Rattle.arena_tree.specs.declared.part_faults.GivenFault.TheVariants as giving
use Rattle.arena_tree.specs.declared.part_faults.ChangeFault.TheVariants.{NotGreater, NoMemory}
use Rattle.arena_tree.specs.declared.part_faults.FreshFault.TheVariants as freshing
use Rattle.arena_tree.specs.Chains.{IsCachedChunk}
use Rattle.arena_tree.specs.Events.{Event, AnswerTo, BeginsWith, hand_after, Pop, Push, Change, SwapFull, SwapEmpty, SwapFresh}
use Rattle.arena_tree.specs.Sound.{Sound, KeepsRounds}
use Rattle.arena_tree.specs.Stops.{is_stopped, refuses_by, part_stops}
use Rattle.stock.specs.Spaces.{SpaceState, plans_of}
use Rattle.stock.specs.Stocks.{IsStock, IsRoundOf}
use Rattle.stock.specs.Accounts.{Accounts}
use Rattle.stock.specs.OwnCaches.{OwnCacheState, own_rounds}
use Rattle.stock.specs.Steps.{OnDepot}
use Rattle.local_parts.specs.Cpus.{IsOwnAt, OnOwn, own_indexes, cpu_rounds}
use Rattle.local_parts.specs.States.{LocalState, IsReached, HasReached, IsUnchanged, Conserves, tree_of}
use Rattle.local_parts.specs.OwnSteps.{NoneReached, CanPush, CanChange, OnExchange, SwapsFull, SwapsEmpty, SwapsFresh}
use Rattle.arena_tree.specs.Tags.{wording_of}
use Rattle.local_parts.specs.OwnSteps.{fresh_word}
use Rattle.local_parts.specs.OwnChanges.{OwnPops, OwnPushes, OwnChanges, OwnTries, OwnSwapsFull, OwnSwapsEmpty, OwnSwapsFresh}
use Rattle.local_parts.specs.Steps.{Does, WholeStep}
use Rattle.local_parts.proofs.Sounds.{chunk_here}
use Rattle.local_parts.proofs.Owns.{own_does, count_sum, own_sums, same_indexes, same_cpu, own_is, loses, gains, weigh_same, exchange_conserves, own_conserves}
use Rattle.local_parts.proofs.Wholes.{beside}

-- the magazines alone
module _ (spaces : List SpaceState) (law : IsStock spaces) (old new : List (List OwnCacheState)) (k c : ℕ) where
  abbrev was : LocalState
  was = beside spaces old

  abbrev is : LocalState
  is = beside spaces new

  module _ (j : ℕ) (number : c ≡ j + 1) (served : HasReached was k j) where
    -- the chunk that it gave
    given_chunk : (sizes : List TreeArena) (o : OwnCacheState) (t : Tag) → IsOwnAt old k j o → IsRoundOf o.arena (o.cache + 1) o.quantum t → IsReached was k j o → IsCachedChunk (tree_of (plans_of spaces) sizes) k c t
    given_chunk sizes o t at round here =
        let s = here.has.1 in
        chunk_here spaces sizes k j c s.space t law s.at number
        (subst (λ q. IsRoundOf k (j + 1) q t) (sym (here.quantum s.space s.at)) (subst (λ m. IsRoundOf k (m + 1) o.quantum t) at.cache (subst (λ m. IsRoundOf m (o.cache + 1) o.quantum t) at.arena round)))

    pub pop_whole : (r : Option Tag) → OnOwn k j (OwnPops r) old new → WholeStep was (Pop k c) (Ok r) is
    pop_whole None on =
        let same : own_rounds on.changed ≡ own_rounds on.own = ap (λ (x : CpuCacheState). own_rounds (record { arena = on.own.arena; cache = on.own.cache; quantum = on.own.quantum; cpu = x })) on.does.popped.1 in
        let sums : (f : Tag → ℕ) → sum_by f (cpu_rounds new) ≡ sum_by f (cpu_rounds old) = λ f. omega (arith, own_sums k j _ old new on f, ap (sum_by f) same) in
        record {
          step = record {
            does = (None, refl, inl (refl, (j, number, served, own_does k j _ _ old new (λ o o' d. (d.index, d.popped)) on)));
            conserves = λ hand b. subst (λ h. Conserves was h is None) (sym b) (own_conserves spaces old new None None (λ f. omega (arith, sums f)));
            stock = law;
            setup = record { plans = refl; indexes = same_indexes k j _ old new on on.does.index };
          };
          sound = λ sizes. tt;
          moved = omega (arith, count_sum (cpu_rounds new), count_sum (cpu_rounds old), sums (λ x. 1));
          goes = refl;
        }
    pop_whole (Some t) on =
        let less = loses k j _ old new on t on.does.weights in
        record {
          step = record {
            does = (Some t, refl, inl (refl, (j, number, served, own_does k j _ _ old new (λ o o' d. (d.index, d.popped)) on)));
            conserves = λ hand b. subst (λ h. Conserves was h is (Some t)) (sym b) (own_conserves spaces old new None (Some t) (λ f. omega (arith, less f, sum_by-cons f t [])));
            stock = law;
            setup = record { plans = refl; indexes = same_indexes k j _ old new on on.does.index };
          };
          sound = λ sizes. (let here = own_is k j _ old new on served.0 served.1.own in given_chunk sizes served.0 t served.1.own (subst (λ (x : OwnCacheState). IsRoundOf x.arena (x.cache + 1) x.quantum t) here on.does.chunk) served.1);
          moved = omega (arith, count_sum (cpu_rounds new), count_sum (cpu_rounds old), less (λ x. 1));
          goes = refl;
        }

-- nothing changed
module _ (old new : LocalState) (law : IsStock old.spaces) (u : IsUnchanged old new) where
  pub unchanged_whole : (e : Event) (a : AnswerTo e) → ((hand : Option Tag) → BeginsWith e hand → hand_after e a hand ≡ hand) → Does old e a new → ((sizes : List TreeArena) → Sound (tree_of (plans_of old.spaces) sizes) e a)
      → KeepsRounds e a (length (cpu_rounds old.cpu)) (length (cpu_rounds new.cpu)) → is_stopped e a ≡ false → WholeStep old e a new
  unchanged_whole e a ends does sound moved goes = record {
    step = record {
      does = does;
      conserves = λ hand b rest acc. subst (λ h. Accounts new.spaces ((option_to_list h ++ cpu_rounds new.cpu) ++ rest)) (sym (ends hand b))
          (subst (λ x. Accounts x ((option_to_list hand ++ cpu_rounds new.cpu) ++ rest)) (sym u.spaces) (subst (λ x. Accounts old.spaces ((option_to_list hand ++ cpu_rounds x) ++ rest)) (sym u.cpu) acc));
      stock = subst IsStock (sym u.spaces) law;
      setup = record { plans = ap plans_of u.spaces; indexes = ap own_indexes u.cpu };
    };
    sound = sound;
    moved = moved;
    goes = goes;
  }

-- no cache serves it
module _ (s : LocalState) (law : IsStock s.spaces) (k c : ℕ) (none : (j : ℕ) (o : OwnCacheState) → c ≡ j + 1 → ¬ IsReached s k j o) where
  same : IsUnchanged s s
  same = record { spaces = refl; cpu = refl }

  none_served : (P : OwnCacheState → Type 0) → NoneReached s k c P
  none_served P j o number served p = none j o number served

  pub none_popped : WholeStep s (Pop k c) (Ok None) s
  none_popped = unchanged_whole s s law same (Pop k c) (Ok None) (λ h b. sym b) (None, refl, inr (refl, none_served (λ o. Unit {0}), same)) (λ sizes. tt) refl refl

  pub none_pushed : (t : Tag) → WholeStep s (Push k c t) (Err (giving.Refused t)) s
  none_pushed t = unchanged_whole s s law same (Push k c t) (Err (giving.Refused t)) (λ h b. sym b) (inr (refl, none_served (CanPush t k c), same)) (λ sizes. refl) refl refl

  pub none_changed : (size : ℕ) → WholeStep s (Change k c size) (Err (asking.Refused NotGreater)) s
  none_changed size = unchanged_whole s s law same (Change k c size) (Err (asking.Refused NotGreater)) (λ h b. refl) (inr (inr (refl, none_served (CanChange size), same))) (λ sizes. tt) refl refl

  pub none_full : WholeStep s (SwapFull k c) (Err (asking.Refused full_fault.NoneFull)) s
  none_full = unchanged_whole s s law same (SwapFull k c) (Err (asking.Refused full_fault.NoneFull)) (λ h b. refl) (inr (refl, none_served (λ o. BothEmpty o.cpu), same)) (λ sizes. tt) tt refl

  pub none_empty : WholeStep s (SwapEmpty k c) (Err (asking.Refused empty_fault.NoneEmpty)) s
  none_empty = unchanged_whole s s law same (SwapEmpty k c) (Err (asking.Refused empty_fault.NoneEmpty)) (λ h b. refl) (inr (refl, none_served (λ o. BothFull o.cpu), same)) (λ sizes. tt) tt refl

  pub none_fresh : WholeStep s (SwapFresh k c) (Err (asking.Refused freshing.NotFull)) s
  none_fresh = unchanged_whole s s law same (SwapFresh k c) (Err (asking.Refused freshing.NotFull)) (λ h b. refl) (inr (inr (refl, none_served (λ o. BothFull o.cpu), same))) (λ sizes. tt) tt refl

-- the one cache that serves it isn't so
one_served : (s : LocalState) (k c j : ℕ) (P : OwnCacheState → Type 0) (number : c ≡ j + 1) (o : OwnCacheState) → IsReached s k j o → ¬ P o → NoneReached s k c P
one_served s k c j P number o served isnt i x at there so =
    let indexes : i ≡ j = omega (arith, at, number) in
    let here : IsOwnAt s.cpu k j x = subst (λ m. IsOwnAt s.cpu k m x) indexes there.own in
    let rows : served.own.row ≡ here.row = slice_get_one s.cpu k served.own.row here.row served.own.at here.at in
    let one : o ≡ x = slice_get_one served.own.row j o x served.own.among (ap (λ xs. slice_get xs j) rows ∙ here.among) in
    isnt (subst P (sym one) so)

module _ (spaces : List SpaceState) (law : IsStock spaces) (old new : List (List OwnCacheState)) (k c j : ℕ) (number : c ≡ j + 1) (served : HasReached (beside spaces old) k j) where
  -- a refused segment is back
  pub push_whole : (t : Tag) → OnOwn k j (OwnPushes t (Ok tt)) old new → WholeStep (beside spaces old) (Push k c t) (Ok tt) (beside spaces new)
  push_whole t on =
      let more = gains k j _ old new on t on.does.weights in
      let here = own_is k j _ old new on served.0 served.1.own in
      let chunk : IsRoundOf k c served.0.quantum t
      = subst (λ m. IsRoundOf k m served.0.quantum t) (sym number) (subst (λ m. IsRoundOf k (m + 1) served.0.quantum t) served.1.own.cache
      (subst (λ m. IsRoundOf m (served.0.cache + 1) served.0.quantum t) served.1.own.arena (subst (λ (x : OwnCacheState). IsRoundOf x.arena (x.cache + 1) x.quantum t) here on.does.chunk))) in
      record {
        step = record {
          does = inl (refl, (j, number, (served.0, served.1, chunk)), (refl, (j, number, served, own_does k j _ _ old new (λ o o' d. (d.index, d.pushed)) on)));
          conserves = λ hand b. subst (λ h. Conserves (beside spaces old) h (beside spaces new) None) (sym b) (own_conserves spaces old new (Some t) None (λ f. omega (arith, more f, sum_by-cons f t [])));
          stock = law;
          setup = record { plans = refl; indexes = same_indexes k j _ old new on on.does.index };
        };
        sound = λ sizes. tt;
        moved = omega (arith, count_sum (cpu_rounds new), count_sum (cpu_rounds old), more (λ x. 1));
        goes = refl;
      }

  pub push_refused : (t same : Tag) → OnOwn k j (OwnPushes t (Err same)) old new → WholeStep (beside spaces old) (Push k c t) (Err (giving.Refused same)) (beside spaces new)
  push_refused t same on =
      let back : same ≡ t = on.does.0 in
      let here = own_is k j _ old new on served.0 served.1.own in
      let u : IsUnchanged (beside spaces old) (beside spaces new) = record { spaces = refl; cpu = same_cpu k j _ old new on on.does.1 } in
      let cannot : ¬ CanPush t k c served.0
      = λ can. on.does.2 (subst (λ x. CanPush t x.arena (x.cache + 1) x) (sym here)
      (subst (λ m. CanPush t m (served.0.cache + 1) served.0) (sym served.1.own.arena) (subst (λ m. CanPush t k (m + 1) served.0) (sym served.1.own.cache) (subst (λ m. CanPush t k m served.0) number can)))) in
      unchanged_whole (beside spaces old) (beside spaces new) law u (Push k c t) (Err (giving.Refused same)) (λ h b. ap Some back ∙ sym b)
      (inr (ap (λ x. Err (giving.Refused x)) back, one_served (beside spaces old) k c j (CanPush t k c) number served.0 served.1 cannot, u)) (λ sizes. back) (ap (λ x. length (cpu_rounds x)) u.cpu) refl

  change_cases : (size : ℕ) (r : Result (Unit {0}) ChangeFault) → OnOwn k j (OwnChanges size r) old new → WholeStep (beside spaces old) (Change k c size) (wording_of asking.Refused r) (beside spaces new)
  change_cases size (Ok tt) on =
      let sums = weigh_same k j _ old new on on.does.weights in
      record {
        step = record {
          does = inl (refl, (refl, (j, number, served, own_does k j _ _ old new (λ o o' d. (d.index, d.changed)) on)));
          conserves = λ hand b. own_conserves spaces old new hand hand (λ f. omega (arith, sums f));
          stock = law;
          setup = record { plans = refl; indexes = same_indexes k j _ old new on on.does.index };
        };
        sound = λ sizes. tt;
        moved = omega (arith, count_sum (cpu_rounds new), count_sum (cpu_rounds old), sums (λ x. 1));
        goes = refl;
      }
  change_cases size (Err NoMemory) on =
      let here = own_is k j _ old new on served.0 served.1.own in
      let u : IsUnchanged (beside spaces old) (beside spaces new) = record { spaces = refl; cpu = same_cpu k j _ old new on on.does.0 } in
      unchanged_whole (beside spaces old) (beside spaces new) law u (Change k c size) (Err (asking.Refused NoMemory)) (λ h b. refl) (inr (inl (refl, (j, number, (served.0, served.1, subst (CanChange size) here on.does.1)), u))) (λ sizes. tt) (ap (λ x. length (cpu_rounds x)) u.cpu) refl
  change_cases size (Err NotGreater) on =
      let here = own_is k j _ old new on served.0 served.1.own in
      let u : IsUnchanged (beside spaces old) (beside spaces new) = record { spaces = refl; cpu = same_cpu k j _ old new on on.does.0 } in
      unchanged_whole (beside spaces old) (beside spaces new) law u (Change k c size) (Err (asking.Refused NotGreater)) (λ h b. refl)
      (inr (inr (refl, one_served (beside spaces old) k c j (CanChange size) number served.0 served.1 (λ can. on.does.1 (subst (CanChange size) (sym here) can)), u))) (λ sizes. tt) (ap (λ x. length (cpu_rounds x)) u.cpu) refl

  pub change_whole : (size : ℕ) (r : Result (Unit {0}) ChangeFault) (a : AnswerTo (Change k c size)) → a ≡ wording_of asking.Refused r → OnOwn k j (OwnChanges size r) old new → WholeStep (beside spaces old) (Change k c size) a (beside spaces new)
  change_whole size r a told on = subst (λ x. WholeStep (beside spaces old) (Change k c size) x (beside spaces new)) (sym told) (change_cases size r on)

-- the three exchanges
module _ (old new : LocalState) (law : IsStock old.spaces) (k c j : ℕ) (number : c ≡ j + 1) (served : HasReached old k j) where
  tried : (P : CpuCacheState → DepotState → CpuCacheState → DepotState → Type 0) (why : OwnCacheState → Type 0) (e : Event) (a : AnswerTo e) → ((hand : Option Tag) → hand_after e a hand ≡ hand)
      → ((sizes : List TreeArena) → Sound (tree_of (plans_of old.spaces) sizes) e a) → ((m n : ℕ) → KeepsRounds e a m n) → is_stopped e a ≡ false
      → (OnExchange old k c P new → Does old e a new) → (why served.0 → IsUnchanged old new → Does old e a new)
      → (on : OnOwn k j (OwnTries why P old.spaces new.spaces) old.cpu new.cpu) → OwnTries why P old.spaces new.spaces on.own on.changed → WholeStep old e a new
  tried P why e a ends sound moved goes did didnt on (inl x) =
      let here = own_is k j _ old.cpu new.cpu on served.0 served.1.own in
      let arena : on.own.arena ≡ k = ap (λ (y : OwnCacheState). y.arena) here ∙ served.1.own.arena in
      let cache : on.own.cache ≡ j = ap (λ (y : OwnCacheState). y.cache) here ∙ served.1.own.cache in
      let at : OnDepot k j (λ d d'. P on.own.cpu d on.changed.cpu d') old.spaces new.spaces
      = subst (λ m. OnDepot k m (λ d d'. P on.own.cpu d on.changed.cpu d') old.spaces new.spaces) cache (subst (λ m. OnDepot m on.own.cache (λ d d'. P on.own.cpu d on.changed.cpu d') old.spaces new.spaces) arena x.swapped) in
      record {
        step = record {
          does = did (j, number, served, record { row = on.row; at = on.at; own = on.own; among = on.among; changed = on.changed; after = on.after; does = (x.index, at) });
          conserves = λ hand b. subst (Conserves old hand new) (sym (ends hand)) (exchange_conserves k j _ old.cpu new.cpu on old.spaces new.spaces x.frame hand);
          stock = x.stock;
          setup = record { plans = x.fixed; indexes = same_indexes k j _ old.cpu new.cpu on x.index };
        };
        sound = sound;
        moved = moved (length (cpu_rounds old.cpu)) (length (cpu_rounds new.cpu));
        goes = goes;
      }
  tried P why e a ends sound moved goes did didnt on (inr y) =
      let here = own_is k j _ old.cpu new.cpu on served.0 served.1.own in
      let u : IsUnchanged old new = record { spaces = y.2; cpu = same_cpu k j _ old.cpu new.cpu on y.1 } in
      unchanged_whole old new law u e a (λ h b. ends h) (didnt (subst why here y.0) u) sound (moved (length (cpu_rounds old.cpu)) (length (cpu_rounds new.cpu))) goes

  wrapped_goes : {F : Type 0} (r : Result (Unit {0}) F) (a : Result (Unit {0}) (PartFault F)) → a ≡ wording_of asking.Refused r → refuses_by part_stops a ≡ false
  wrapped_goes (Ok u) a told = subst (λ v. refuses_by part_stops v ≡ false) (sym told) refl
  wrapped_goes (Err f) a told = subst (λ v. refuses_by part_stops v ≡ false) (sym told) refl

  fresh_goes : (a : Result (Unit {0}) (PartFault FreshFault)) (x : CpuCacheState) (d : DepotState) (y : CpuCacheState) (z : DepotState) → SwapsFresh a x d y z → refuses_by part_stops a ≡ false
  fresh_goes a x d y z s = subst (λ v. refuses_by part_stops v ≡ false) (sym s.told) (fresh_in s.r)
    where
      fresh_in : (r : Result (Unit {0}) (PutFullFault MagazineState)) → refuses_by part_stops (wording_of fresh_word r) ≡ false
      fresh_in (Ok u) = refl
      fresh_in (Err (fresh_fault.OldSize m back)) = refl
      fresh_in (Err (fresh_fault.NoMemory back)) = refl

  pub full_whole : (a : Result (Unit {0}) (PartFault FullFault)) → OnOwn k j (OwnSwapsFull a old.spaces new.spaces) old.cpu new.cpu → WholeStep old (SwapFull k c) a new
  full_whole a on = tried (SwapsFull a) _ (SwapFull k c) a (λ h. refl) (λ sizes. tt) (λ m n. tt) (goes on.does) (λ x. inl x)
      (λ why u. inr (why.0, one_served old k c j (λ o. BothEmpty o.cpu) number served.0 served.1 why.1, u)) on on.does
    where
      goes : OwnSwapsFull a old.spaces new.spaces on.own on.changed → refuses_by part_stops a ≡ false
      goes (inl x) = wrapped_goes x.swapped.does.r a x.swapped.does.told
      goes (inr y) = subst (λ v. refuses_by part_stops v ≡ false) (sym y.0.0) refl

  pub empty_whole : (a : Result (Unit {0}) (PartFault EmptyFault)) → OnOwn k j (OwnSwapsEmpty a old.spaces new.spaces) old.cpu new.cpu → WholeStep old (SwapEmpty k c) a new
  empty_whole a on = tried (SwapsEmpty a) _ (SwapEmpty k c) a (λ h. refl) (λ sizes. tt) (λ m n. tt) (goes on.does) (λ x. inl x)
      (λ why u. inr (why.0, one_served old k c j (λ o. BothFull o.cpu) number served.0 served.1 why.1, u)) on on.does
    where
      goes : OwnSwapsEmpty a old.spaces new.spaces on.own on.changed → refuses_by part_stops a ≡ false
      goes (inl x) = wrapped_goes x.swapped.does.r a x.swapped.does.told
      goes (inr y) = subst (λ v. refuses_by part_stops v ≡ false) (sym y.0.0) refl

  pub fresh_whole : (a : Result (Unit {0}) (PartFault FreshFault)) → OnOwn k j (OwnSwapsFresh a old.spaces new.spaces) old.cpu new.cpu → WholeStep old (SwapFresh k c) a new
  fresh_whole a on = tried (SwapsFresh a) _ (SwapFresh k c) a (λ h. refl) (λ sizes. tt) (λ m n. tt) (goes on.does) (λ x. inl x)
      (λ why u. inr (elim why [
        | inl memory ↦ inl (memory.0, (j, number, (served.0, served.1, memory.1)), u)
        | inr none ↦ inr (none.0, one_served old k c j (λ o. BothFull o.cpu) number served.0 served.1 none.1, u)
      ])) on on.does
    where
      goes : OwnSwapsFresh a old.spaces new.spaces on.own on.changed → refuses_by part_stops a ≡ false
      goes (inl x) = fresh_goes a _ _ _ _ x.swapped.does
      goes (inr y) = elim y.0 [
        | inl memory ↦ subst (λ v. refuses_by part_stops v ≡ false) (sym memory.0) refl
        | inr none ↦ subst (λ v. refuses_by part_stops v ≡ false) (sym none.0) refl
      ]
