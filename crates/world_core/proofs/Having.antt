-- What a CPU has: it stays at all events but its own and adoptions from it.
use Rattle.std.proofs.Common.{◌≡◌, ◌≢◌, ◌⊎◌, ℕ, zero, suc, ◌+◌, ◌<◌, true, false, List, [], ◌∷◌, ◌++◌, length, set, Option, Some, None, refl, sym, subst, ap, ◌∙◌, inl, inr, arith}
use Rattle.std.specs.Prelude.{slice_get, get_or, nat_eq, if◌then◌else◌, sum_by}
use Rattle.std.specs.Option.{option_to_list}
use Rattle.std.proofs.lemmas.Bool.{cases_eq}
use Rattle.std.proofs.lemmas.Bool.Decides.{nat_tests}
use Rattle.std.proofs.lemmas.List.{get_or-set_other}
use Rattle.std.proofs.lemmas.List.Sums.{sum_by-append, sum_by-cons}
use Rattle.std.proofs.lemmas.Option.{slice_get_within, get_or_from_slice_get}
use Rattle.deed_core.specs.Tag.{Tag}
use Rattle.deed_core.proofs.LawProofs.{slice_get-set, slice_get-set_other}
use Rattle.magazine_layer.specs.Magazines.{BothEmpty}
use Rattle.stock.specs.Spaces.{SpaceState}
use Rattle.stock.specs.OwnCaches.{OwnCacheState, own_rounds}
use Rattle.world_core.specs.declared.events.WorldEvent.{WorldEvent}
use Rattle.world_core.specs.declared.events.WorldEvent.TheVariants as events
use Rattle.world_core.specs.WorldState.{WorldState}
use Rattle.world_core.specs.Moves.{after_failure, ClientSays, TaskRefused, TaskEnded, HandMoves, PartMoves, RoundMoves, OwnMoves, HandAdopted, RoundAdopted}
use Rattle.world_core.specs.Events.{MovesBy, cpu_of}
use Rattle.world_core.specs.Drains.{rounds_of, segments_of, HasFailed, TakesOne}

pub same_cpu : (x cpu : ℕ) → x ≡ cpu → nat_eq x cpu ≡ true
same_cpu x cpu same = grind (arith, nat_tests)

pub other_cpu : (x cpu : ℕ) → x ≢ cpu → nat_eq x cpu ≡ false
other_cpu x cpu differ = grind (arith, nat_tests)

-- Rounds in own caches.

-- a cache of another CPU becomes another
rounds_stay : (owners : List ℕ) (caches : List OwnCacheState) (index owner cpu : ℕ) (next : OwnCacheState) → slice_get owners index ≡ Some owner → owner ≢ cpu
    → rounds_of cpu owners (set caches index next) ≡ rounds_of cpu owners caches
rounds_stay [] caches index owner cpu next at other = refl
rounds_stay (x ∷ owners) [] index owner cpu next at other = refl
rounds_stay (x ∷ owners) (own ∷ caches) zero owner cpu next at other =
    let same : x ≡ owner = cc in
    rw (other_cpu x cpu (λ e. other (sym same ∙ e)))
rounds_stay (x ∷ owners) (own ∷ caches) (suc index) owner cpu next at other =
    ap (λ (ts : List Tag). (if nat_eq x cpu then own_rounds own else []) ++ ts) (rounds_stay owners caches index owner cpu next at other)

-- one of its own does, by weight
rounds_change : (f : Tag → ℕ) (owners : List ℕ) (caches : List OwnCacheState) (index cpu : ℕ) (own next : OwnCacheState) → slice_get owners index ≡ Some cpu → slice_get caches index ≡ Some own
    → sum_by f (rounds_of cpu owners (set caches index next)) + sum_by f (own_rounds own) ≡ sum_by f (rounds_of cpu owners caches) + sum_by f (own_rounds next)
rounds_change f [] caches index cpu own next at there = absurd (let e : None ≡ Some cpu = at in cc)
rounds_change f (x ∷ owners) [] index cpu own next at there = absurd (let e : None ≡ Some own = there in cc)
rounds_change f (x ∷ owners) (o ∷ caches) zero cpu own next at there =
    let mine : x ≡ cpu = cc in
    let is : o ≡ own = cc in
    let yes = same_cpu x cpu mine in
    let rest = rounds_of cpu owners caches in
    let weighs : sum_by f (own_rounds o) ≡ sum_by f (own_rounds own) = ap (λ (c : OwnCacheState). sum_by f (own_rounds c)) is in
    rw yes (omega (arith, weighs, sum_by-append f (own_rounds next) rest, sum_by-append f (own_rounds o) rest))
rounds_change f (x ∷ owners) (o ∷ caches) (suc index) cpu own next at there =
    let mine : List Tag = if nat_eq x cpu then own_rounds o else [] in
    let more = rounds_change f owners caches index cpu own next at there in
    omega (arith, more, sum_by-append f mine (rounds_of cpu owners (set caches index next)), sum_by-append f mine (rounds_of cpu owners caches))

-- one of its own caches that has a round
pub record HasRounds (owners : List ℕ) (caches : List OwnCacheState) (cpu : ℕ) : Type 0 where
  pub index : ℕ
  pub own : OwnCacheState
  pub owner : slice_get owners index ≡ Some cpu
  pub at : slice_get caches index ≡ Some own
  pub some : ¬ BothEmpty own.cpu

pub some_round : (owners : List ℕ) (caches : List OwnCacheState) (cpu : ℕ) → (rounds_of cpu owners caches ≡ []) ⊎ HasRounds owners caches cpu
some_round [] caches cpu = inl refl
some_round (x ∷ owners) [] cpu = inl refl
some_round (x ∷ owners) (o ∷ caches) cpu = by (some_round owners caches cpu) (cases_eq x cpu) (own_rounds o) refl
  where
    by : (rounds_of cpu owners caches ≡ []) ⊎ HasRounds owners caches cpu → (x ≡ cpu) ⊎ (x ≢ cpu) → (ts : List Tag) → own_rounds o ≡ ts
        → (rounds_of cpu (x ∷ owners) (o ∷ caches) ≡ []) ⊎ HasRounds (x ∷ owners) (o ∷ caches) cpu
    by (inr has) which ts is = inr (record { index = suc has.index; own = has.own; owner = has.owner; at = has.at; some = has.some })
    by (inl none) (inr other) ts is =
        let no = other_cpu x cpu other in
        inl (rw no none)
    by (inl none) (inl mine) [] is =
        let yes = same_cpu x cpu mine in
        inl (rw yes (ap (λ (ts : List Tag). ts ++ rounds_of cpu owners caches) is ∙ none))
    by (inl none) (inl mine) (t ∷ ts) is = inr (record {
      index = 0;
      own = o;
      owner = ap Some mine;
      at = refl;
      some = λ both. (let empty : own_rounds o ≡ [] = rw (both.previous_empty, both.loaded_empty) in let e : t ∷ ts ≡ [] = sym is ∙ empty in absurd (cc));
    })

-- What stays of a CPU.

-- what it has stays, and if it has failed it stays so
pub record Leaves (cpu : ℕ) (w v : WorldState) : Type 0 where
  pub hand : get_or v.hands cpu None ≡ get_or w.hands cpu None
  pub rounds : rounds_of cpu v.owners v.caches ≡ rounds_of cpu w.owners w.caches
  pub failed : HasFailed w cpu → HasFailed v cpu

pub still_has : (cpu : ℕ) (w v : WorldState) → Leaves cpu w v → segments_of cpu v ≡ segments_of cpu w
still_has cpu w v l =
    ap (λ (o : Option Tag). option_to_list o ++ rounds_of cpu v.owners v.caches) l.hand
    ∙ ap (λ (ts : List Tag). option_to_list (get_or w.hands cpu None) ++ ts) l.rounds

other_hand : (hands : List (Option Tag)) (by cpu : ℕ) (held : Option Tag) → Some by ≢ Some cpu → get_or (set hands by held) cpu None ≡ get_or hands cpu None
other_hand hands by cpu held other = get_or-set_other hands by cpu held None (λ same. other (ap Some (sym same)))

module _ (cpu : ℕ) (w v : WorldState) where
  says_leaves : (c : ℕ) (May : _) → ClientSays c May w v → Leaves cpu w v
  says_leaves c May m = subst (Leaves cpu w) (sym m.after) (record { hand = refl; rounds = refl; failed = λ has. has })

  refused_leaves : (by : ℕ) (why : _) → TaskRefused by why w v → Leaves cpu w v
  refused_leaves by why m = subst (Leaves cpu w) (sym m.after) (record { hand = refl; rounds = refl; failed = λ has. has })

  ended_leaves : (by : ℕ) (May : _) → TaskEnded by May w v → Leaves cpu w v
  ended_leaves by May m = subst (Leaves cpu w) (sym m.after) (record { hand = refl; rounds = refl; failed = λ has. has })

  part_leaves : (Does : List SpaceState → List SpaceState → Type 0) → PartMoves Does w v → Leaves cpu w v
  part_leaves Does m = subst (Leaves cpu w) (sym m.after) (record { hand = refl; rounds = refl; failed = λ has. has })

  hand_leaves : (by : ℕ) (given answered : Option Tag) (Does : List SpaceState → List SpaceState → Type 0) → Some by ≢ Some cpu → HandMoves by given answered Does w v → Leaves cpu w v
  hand_leaves by given answered Does other m = subst (Leaves cpu w) (sym m.after) (record { hand = other_hand w.hands by cpu answered other; rounds = refl; failed = λ has. has })

  round_leaves : (by index owner : ℕ) (own next : OwnCacheState) (given answered : Option Tag) → Some by ≢ Some cpu → owner ≢ cpu → slice_get w.owners index ≡ Some owner
      → RoundMoves by index own next given answered w v → Leaves cpu w v
  round_leaves by index owner own next given answered other differ at m = subst (Leaves cpu w) (sym m.after) (record {
    hand = other_hand w.hands by cpu answered other;
    rounds = rounds_stay w.owners w.caches index owner cpu next at differ;
    failed = λ has. has;
  })

  own_leaves : (by arena cache : ℕ) (Does : _) → Some by ≢ Some cpu → OwnMoves by arena cache Does w v → Leaves cpu w v
  own_leaves by arena cache Does other m = subst (Leaves cpu w) (sym m.after) (record {
    hand = refl;
    rounds = rounds_stay w.owners w.caches m.index by cpu m.next m.here.mine.owner (λ same. other (ap Some same));
    failed = λ has. has;
  })

-- a CPU that fails leaves what another has
failure_leaves : (cpu other : ℕ) (w v : WorldState) → other ≢ cpu → Leaves cpu w v → Leaves cpu w (after_failure other v)
failure_leaves cpu other w v differ l = record {
  hand = l.hand;
  rounds = l.rounds;
  failed = λ has. slice_get-set_other v.failed other cpu true (λ same. differ (sym same)) ∙ l.failed has;
}

hand_adopted_leaves : (by other cpu : ℕ) (w v : WorldState) → Some by ≢ Some cpu → other ≢ cpu → HandAdopted by other w v → Leaves cpu w v
hand_adopted_leaves by other cpu w v differ from m =
    let given = set w.hands other None in
    let hands = set given by (Some m.segment) in
    subst (Leaves cpu w) (sym m.after) (failure_leaves cpu other w (record w { hands = hands }) from (record {
      hand = other_hand given by cpu (Some m.segment) differ ∙ other_hand w.hands other cpu None (λ same. from (let e : Some other ≡ Some cpu = same in cc));
      rounds = refl;
      failed = λ has. has;
    }))

round_adopted_leaves : (by other cpu : ℕ) (w v : WorldState) → Some by ≢ Some cpu → other ≢ cpu → RoundAdopted by other w v → Leaves cpu w v
round_adopted_leaves by other cpu w v differ from m = subst (Leaves cpu w) (sym m.after)
    (failure_leaves cpu other w m.between from (round_leaves cpu w m.between by m.index other m.own m.next None (Some m.round) differ from m.first.has.mine.owner m.moves))

-- the event isn't an adopting from this CPU
abbrev pub IsNotFrom : ℕ → WorldEvent → Type 0
IsNotFrom cpu (events.Adopts by other) = other ≢ cpu
IsNotFrom cpu event = Unit {0}

-- no other event's move touches it
pub moves_leave : (event : WorldEvent) (cpu : ℕ) (w v : WorldState) → cpu_of event ≢ Some cpu → IsNotFrom cpu event → MovesBy event w v → Leaves cpu w v
moves_leave (events.Restarts c i p) cpu w v other from m = says_leaves cpu w v c _ m
moves_leave (events.Says c op) cpu w v other from m = says_leaves cpu w v c _ m
moves_leave (events.Repeats c number) cpu w v other from m = says_leaves cpu w v c _ m
moves_leave (events.Hears c which) cpu w v other from m = subst (Leaves cpu w) (sym m.after) (record { hand = refl; rounds = refl; failed = λ has. has })
moves_leave (events.Looks by which) cpu w v other from (inl m) = subst (Leaves cpu w) (sym m.after) (record { hand = refl; rounds = refl; failed = λ has. has })
moves_leave (events.Looks by which) cpu w v other from (inr (inl m)) = subst (Leaves cpu w) (sym m.after) (record { hand = refl; rounds = refl; failed = λ has. has })
moves_leave (events.Looks by which) cpu w v other from (inr (inr (inl m))) = subst (Leaves cpu w) (sym m.after) (record { hand = refl; rounds = refl; failed = λ has. has })
moves_leave (events.Looks by which) cpu w v other from (inr (inr (inr m))) = subst (Leaves cpu w) (sym m.after) (record { hand = refl; rounds = refl; failed = λ has. has })
moves_leave (events.Settles by) cpu w v other from (inl m) = subst (Leaves cpu w) (sym m.after) (record { hand = other_hand w.hands by cpu None other; rounds = refl; failed = λ has. has })
moves_leave (events.Settles by) cpu w v other from (inr (inl (m, why))) = refused_leaves cpu w v by _ m
moves_leave (events.Settles by) cpu w v other from (inr (inr m)) = ended_leaves cpu w v by _ m
moves_leave (events.Declines by why) cpu w v other from (inl m) = refused_leaves cpu w v by why m
moves_leave (events.Declines by why) cpu w v other from (inr m) = ended_leaves cpu w v by _ m
moves_leave (events.GivesUp by) cpu w v other from m = ended_leaves cpu w v by _ m
moves_leave (events.Releases by) cpu w v other from (inl m) = subst (Leaves cpu w) (sym m.after) (record { hand = other_hand w.hands by cpu (Some m.segment) other; rounds = refl; failed = λ has. has })
moves_leave (events.Releases by) cpu w v other from (inr (inl (m, why))) = refused_leaves cpu w v by _ m
moves_leave (events.Releases by) cpu w v other from (inr (inr m)) = ended_leaves cpu w v by _ m
moves_leave (events.Sweeps by c) cpu w v other from m = subst (Leaves cpu w) (sym m.after) (record { hand = other_hand w.hands by cpu (Some m.segment) other; rounds = refl; failed = λ has. has })
moves_leave (events.Carves by arena q) cpu w v other from (t, m) = hand_leaves cpu w v by None (Some t) _ other m
moves_leave (events.Frees by) cpu w v other from (t, back, m) = hand_leaves cpu w v by (Some t) back _ other m
moves_leave (events.AddCarves by child size) cpu w v other from (span, t, m) = hand_leaves cpu w v by (Some span) (Some t) _ other m
moves_leave (events.SlabTakes by arena cache) cpu w v other from (t, m) = hand_leaves cpu w v by None (Some t) _ other m
moves_leave (events.SlabPuts by) cpu w v other from (t, m) = hand_leaves cpu w v by (Some t) None _ other m
moves_leave (events.SlabAdds by arena cache) cpu w v other from (span, t, m) = hand_leaves cpu w v by (Some span) (Some t) _ other m
moves_leave (events.SlabReaps by arena cache) cpu w v other from (t, m) = hand_leaves cpu w v by None (Some t) _ other m
moves_leave (events.DepotReaps by arena cache) cpu w v other from (t, m) = hand_leaves cpu w v by None (Some t) _ other m
moves_leave (events.Pops by arena cache) cpu w v other from m = round_leaves cpu w v by m.index by m.own m.next None (Some m.round) other (λ same. other (ap Some same)) m.here.mine.owner m.moves
moves_leave (events.Pushes by) cpu w v other from m = round_leaves cpu w v by m.index by m.own m.next (Some m.chunk) None other (λ same. other (ap Some same)) m.takes.mine.owner m.moves
moves_leave (events.SwapsFull by arena cache) cpu w v other from m = own_leaves cpu w v by arena cache _ other m
moves_leave (events.SwapsEmpty by arena cache) cpu w v other from m = own_leaves cpu w v by arena cache _ other m
moves_leave (events.SwapsFresh by arena cache) cpu w v other from m = own_leaves cpu w v by arena cache _ other m
moves_leave (events.Changes by arena cache size) cpu w v other from m = own_leaves cpu w v by arena cache _ other m
moves_leave (events.Adopts by from) cpu w v other differ (inl m) = hand_adopted_leaves by from cpu w v other differ m
moves_leave (events.Adopts by from) cpu w v other differ (inr m) = round_adopted_leaves by from cpu w v other differ m
moves_leave (events.Grows arena range) cpu w v other from m = part_leaves cpu w v _ m
moves_leave (events.Ticks arena cache) cpu w v other from m = part_leaves cpu w v _ m
moves_leave (events.Resizes arena cache size) cpu w v other from m = part_leaves cpu w v _ m

-- An adoption.

-- what it does to the two CPUs
pub record Adopted (by other : ℕ) (w v : WorldState) : Type 0 where
  pub takes : TakesOne by other w v
  pub rest : slice_get v.failed by ≡ slice_get w.failed by
  pub names : v.names ≡ w.names

module _ (by other : ℕ) (w v : WorldState) (apart : by ≢ other) (within : other < length w.failed) where
  pub hand_adopted : HandAdopted by other w v → Adopted by other w v
  hand_adopted m =
      let given = set w.hands other None in
      let hands = set given by (Some m.segment) in
      let still : slice_get given by ≡ Some None = slice_get-set_other w.hands other by None apart ∙ m.empty in
      let had : get_or w.hands other None ≡ Some m.segment = get_or_from_slice_get w.hands other (Some m.segment) None m.holds in
      let now : get_or hands other None ≡ None =
      get_or-set_other given by other (Some m.segment) None (λ same. apart (sym same))
      ∙ get_or_from_slice_get given other None None (slice_get-set w.hands other None (slice_get_within w.hands other (Some m.segment) m.holds)) in
      let rounds = rounds_of other w.owners w.caches in
      subst (Adopted by other w) (sym m.after) (record {
        takes = record {
          segment = m.segment;
          held = slice_get-set given by (Some m.segment) (slice_get_within given by None still);
          loses = λ f. rw (had, now) (omega (arith, sum_by-cons f m.segment rounds));
          fails = slice_get-set w.failed other true within;
        };
        rest = slice_get-set_other w.failed other by true apart;
        names = refl;
      })

  pub round_adopted : RoundAdopted by other w v → Adopted by other w v
  round_adopted m =
      let hands = set w.hands by (Some m.round) in
      let caches = set w.caches m.index m.next in
      let mid : WorldState = record w { hands = hands; caches = caches } in
      let hand : get_or hands other None ≡ get_or w.hands other None = get_or-set_other w.hands by other (Some m.round) None (λ same. apart (sym same)) in
      let had = option_to_list (get_or w.hands other None) in
      let after = m.after ∙ ap (after_failure other) m.moves.after in
      subst (Adopted by other w) (sym after) (record {
        takes = record {
          segment = m.round;
          held = slice_get-set w.hands by (Some m.round) (slice_get_within w.hands by None m.moves.holds);
          loses = λ f. rw hand (omega (
            arith,
            rounds_change f w.owners w.caches m.index other m.own m.next m.first.has.mine.owner m.first.has.mine.at,
            m.moves.even f,
            sum_by-cons f m.round [],
            sum_by-append f had (rounds_of other w.owners caches),
            sum_by-append f had (rounds_of other w.owners w.caches),
          ));
          fails = slice_get-set w.failed other true within;
        };
        rest = slice_get-set_other w.failed other by true apart;
        names = refl;
      })
