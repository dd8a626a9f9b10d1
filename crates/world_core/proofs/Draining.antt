-- What a CPU has that has failed is taken over by adopting alone, and all of it can be.
use Rattle.std.proofs.Common.{◌≡◌, ◌≢◌, ◌⊎◌, ℕ, zero, suc, ◌+◌, ◌<◌, ◌≤◌, List, [], ◌∷◌, ◌++◌, length, replicate, set, Option, Some, None, Ok, refl, sym, subst, ap, ◌∙◌, inl, inr, arith}
use Rattle.std.specs.Prelude.{slice_get, get_or, sum_by}
use Rattle.std.proofs.lemmas.Bool.{cases_eq}
use Rattle.std.proofs.lemmas.List.Elements.{All-contains}
use Rattle.std.proofs.lemmas.List.Sums.{sum_by-cons}
use Rattle.std.proofs.lemmas.Option.{slice_get_within}
use Rattle.deed_core.specs.Tag.{Tag}
use Rattle.deed_core.specs.Weights.{Loses}
use Rattle.deed_core.specs.declared.segments.Route.{Route}
use Rattle.deed_core.specs.declared.segments.Route.TheVariants.{Direct, Cached}
use Rattle.deed_core.proofs.LawProofs.{slice_get-set}
use Rattle.stock.specs.Spaces.{SpaceState}
use Rattle.stock.specs.Stocks.{IsFrom}
use Rattle.stock.specs.Steps.{FreeIn}
use Rattle.stock.proofs.LawProofs.{always_tagged, always_out}
use Rattle.world_core.specs.declared.events.WorldEvent.{WorldEvent}
use Rattle.world_core.specs.declared.events.WorldEvent.TheVariants as events
use Rattle.world_core.specs.declared.events.Outcome.{Outcome}
use Rattle.world_core.specs.declared.events.Outcome.TheVariants.{Done, NotEnabled, NoMemory, Refused}
use Rattle.world_core.specs.WorldState.{WorldState}
use Rattle.world_core.specs.IsWorld.{IsWorld}
use Rattle.world_core.specs.Events.{MovesBy, HappensAs, HappensTo, HasInHand, HasSegment, IsOfFailed, cpu_of, IsEnabled}
use Rattle.world_core.specs.Drains.{segments_of, rounds_of, HasFailed, MayAdopt, TakesOne, taken_at, taken, placing, draining, AdoptsWhatIsThere, LosesByAdopting, DrainsAll}
use Rattle.world_core.proofs.CallLemmas.{one_held, not_empty, others, held_out}
use Rattle.world_core.proofs.Keeps.{happens_keeps}
use Rattle.world_core.proofs.Having.{same_cpu, other_cpu, HasRounds, some_round, Leaves, still_has, moves_leave, Adopted, hand_adopted, round_adopted}

counted : {X : Type 0} (xs : List X) → sum_by (λ (x : X). 1) xs ≡ length xs
counted [] = omega arith
counted {X} (x ∷ xs) = omega (arith, counted xs, sum_by-cons (λ (y : X). 1) x xs)

none_left : {X : Type 0} (xs : List X) → length xs ≤ 0 → xs ≡ []
none_left [] few = refl
none_left (x ∷ xs) few = absurd (omega (arith, few))

one_less : (before after : List Tag) (t : Tag) → Loses before after t → length before ≡ length after + 1
one_less before after t loses = omega (arith, loses (λ (x : Tag). 1), counted before, counted after)

in_hand : (hands : List (Option Tag)) (cpu : ℕ) (t : Tag) → get_or hands cpu None ≡ Some t → slice_get hands cpu ≡ Some (Some t)
in_hand [] cpu t is = absurd (let e : None ≡ Some t = is in cc)
in_hand (h ∷ hands) zero t is = ap Some is
in_hand (h ∷ hands) (suc cpu) t is = in_hand hands cpu t is

-- Adopting.

-- a CPU that has a segment is one of those that can fail
has_failure : (w : WorldState) (other : ℕ) → IsWorld w → HasSegment w other → other < length w.failed
has_failure w other is (inl (t, held)) = (let a = slice_get_within w.hands other (Some t) held in let b = is.cpus.marked in omega arith)
has_failure w other is (inr (index, own, has)) = (let a = is.cpus.owned index other has.mine.owner in let b = is.cpus.marked in omega arith)

-- it has one, or nothing
something : (w : WorldState) (other : ℕ) → HasSegment w other ⊎ (segments_of other w ≡ [])
something w other = by (get_or w.hands other None) refl (some_round w.owners w.caches other)
  where
    by : (o : Option Tag) → get_or w.hands other None ≡ o → (rounds_of other w.owners w.caches ≡ []) ⊎ HasRounds w.owners w.caches other → HasSegment w other ⊎ (segments_of other w ≡ [])
    by (Some t) is rounds = inl (inl (t, in_hand w.hands other t is))
    by None is (inl none) = inr (rw is none)
    by None is (inr has) = inl (inr (has.index, has.own, record { mine = record { owner = has.owner; at = has.at }; some = has.some }))

adopted_by : (by other : ℕ) (w v : WorldState) → IsEnabled (events.Adopts by other) w → MovesBy (events.Adopts by other) w v → Adopted by other w v
adopted_by by other w v ready (inl m) = hand_adopted by other w v ready.0 ready.1 m
adopted_by by other w v ready (inr m) = round_adopted by other w v ready.0 ready.1 m

-- the same with what else stays
data Adopts (cpu other : ℕ) (outcome : Outcome) (old new : WorldState) : Type 0 where
  Takes : outcome ≡ Done → Adopted cpu other old new → Adopts cpu other outcome old new
  Finds_none : outcome ≡ NotEnabled → segments_of other old ≡ [] → new ≡ old → Adopts cpu other outcome old new

adopts : (cpu other : ℕ) (outcome : Outcome) (old new : WorldState) → IsWorld old → MayAdopt old cpu other → HappensAs (events.Adopts cpu other) outcome old new → Adopts cpu other outcome old new
adopts cpu other outcome old new is may (inl (failed, none, same)) =
    let me : cpu ≡ failed.0 = (let e : Some cpu ≡ Some failed.0 = failed.1 in cc) in
    absurd (may.lives (subst (HasFailed old) (sym me) failed.2))
adopts cpu other Done old new is may (inr (lives, (ready, moves))) = Takes refl (adopted_by cpu other old new ready moves)
adopts cpu other NotEnabled old new is may (inr (lives, (unready, same))) = Finds_none refl (by (something old other)) same
  where
    by : HasSegment old other ⊎ (segments_of other old ≡ []) → segments_of other old ≡ []
    by (inr none) = none
    by (inl has) = absurd (unready (may.apart, has_failure old other is has, may.empty, has))
adopts cpu other (Refused why) old new is may (inr (lives, (refuses, same))) = absurd refuses
adopts cpu other NoMemory old new is may (inr (lives, (wants, same))) = absurd wants

pub adopts_what_is_there : AdoptsWhatIsThere
adopts_what_is_there cpu other outcome old new is may happens = by (adopts cpu other outcome old new is may happens)
  where
    by : Adopts cpu other outcome old new
        → ((outcome ≡ Done) × TakesOne cpu other old new)
        ⊎ ((outcome ≡ NotEnabled) × (segments_of other old ≡ []) × (new ≡ old))
    by (Takes done a) = inl (done, a.takes)
    by (Finds_none unready none same) = inr (unready, none, same)

-- Whatever happens.

-- what becomes of a CPU that has failed
abbrev Keeps : ℕ → ℕ → WorldState → WorldState → Type 0
Keeps cpu gone w v = HasFailed v cpu × (length (segments_of cpu w) ≡ length (segments_of cpu v) + gone)

left : (cpu : ℕ) (w v : WorldState) → HasFailed w cpu → Leaves cpu w v → Keeps cpu 0 w v
left cpu w v failed l = (l.failed failed, (let e = ap length (still_has cpu w v l) in omega (arith, e)))

unchanged : (cpu : ℕ) (w v : WorldState) → HasFailed w cpu → v ≡ w → Keeps cpu 0 w v
unchanged cpu w v failed same = subst (Keeps cpu 0 w) (sym same) (failed, omega arith)

done_keeps : (event : WorldEvent) (cpu : ℕ) (w v : WorldState) → HasFailed w cpu → cpu_of event ≢ Some cpu → IsEnabled event w → MovesBy event w v → Keeps cpu (taken_at cpu Done event) w v
done_keeps (events.Adopts by from) cpu w v failed other enabled moves = of (cases_eq from cpu)
  where
    of : (from ≡ cpu) ⊎ (from ≢ cpu) → Keeps cpu (taken_at cpu Done (events.Adopts by from)) w v
    of (inl mine) =
        let yes = same_cpu from cpu mine in
        let a = adopted_by by from w v enabled moves in
        let less = one_less (segments_of from w) (segments_of from v) a.takes.segment a.takes.loses in
        rw yes (subst (λ (c : ℕ). Keeps c 1 w v) mine (a.takes.fails, less))
    of (inr differ) =
        let no = other_cpu from cpu differ in
        rw no (left cpu w v failed (moves_leave (events.Adopts by from) cpu w v other differ moves))
done_keeps event cpu w v failed other enabled moves = left cpu w v failed (moves_leave event cpu w v other tt moves)

event_keeps : (event : WorldEvent) (outcome : Outcome) (cpu : ℕ) (w v : WorldState) → HasFailed w cpu → HappensAs event outcome w v → Keeps cpu (taken_at cpu outcome event) w v
event_keeps event outcome cpu w v failed (inl (of, none, same)) = subst (λ (o : Outcome). Keeps cpu (taken_at cpu o event) w v) (sym none) (unchanged cpu w v failed same)
event_keeps event Done cpu w v failed (inr (not, (enabled, moves))) = done_keeps event cpu w v failed (λ mine. not (cpu, mine, failed)) enabled moves
event_keeps event NotEnabled cpu w v failed (inr (not, (unready, same))) = unchanged cpu w v failed same
event_keeps event (Refused why) cpu w v failed (inr (not, (refuses, same))) = unchanged cpu w v failed same
event_keeps event NoMemory cpu w v failed (inr (not, (wants, same))) = unchanged cpu w v failed same

events_take : (list : List WorldEvent) (outcomes : List Outcome) (start end : WorldState) (cpu : ℕ) → HappensTo list outcomes start end → HasFailed start cpu → Keeps cpu (taken cpu list outcomes) start end
events_take [] [] start end cpu run failed = unchanged cpu start end failed run
events_take [] (o ∷ outcomes) start end cpu run failed = absurd run
events_take (event ∷ list) [] start end cpu run failed = absurd run
events_take (event ∷ list) (outcome ∷ outcomes) start end cpu (next, step, rest) failed =
    let one = event_keeps event outcome cpu start next failed step in
    let more = events_take list outcomes next end cpu rest one.0 in
    (more.0, omega (arith, one.1, more.1))

pub loses_by_adopting : LosesByAdopting
loses_by_adopting list outcomes start end cpu is run failed = events_take list outcomes start end cpu run failed

-- Placing.

module _ (cpu other : ℕ) (apart : cpu ≢ other) where
  -- the CPU goes on, and touches nothing that the other has
  record Goes (w v : WorldState) : Type 0 where
    world : IsWorld v
    lives : ¬ HasFailed v cpu
    names : v.names ≡ w.names
    stays : segments_of other v ≡ segments_of other w

  goes_then : (u w v : WorldState) → Goes u w → Goes w v → Goes u v
  goes_then u w v a b = record { world = b.world; lives = b.lives; names = b.names ∙ a.names; stays = b.stays ∙ a.stays }

  goes_nowhere : (w v : WorldState) → IsWorld w → ¬ HasFailed w cpu → v ≡ w → Goes w v
  goes_nowhere w v is lives same = subst (Goes w) (sym same) (record { world = is; lives = lives; names = refl; stays = refl })

  -- its hand is empty, or has a segment of one of the first so many arenas, which came direct
  abbrev HasBelow : ℕ → WorldState → Type 0
  HasBelow n w = HasInHand w cpu None ⊎ ((t : Tag) × HasInHand w cpu (Some t) × (t.route ≡ Direct) × (t.arena < n))

  not_failed : (w : WorldState) (event : WorldEvent) → cpu_of event ≡ Some cpu → ¬ HasFailed w cpu → ¬ IsOfFailed event w
  not_failed w event mine lives (c, is, failed) =
      let e : Some c ≡ Some cpu = sym is ∙ mine in
      let same : c ≡ cpu = cc in
      lives (subst (HasFailed w) same failed)

  differs : Some cpu ≢ Some other
  differs same = apart (cc)

  -- the source of an imported span is an arena before
  source_before : (k : ℕ) (source : Option ℕ) (span : Tag) → ((p : ℕ) → source ≡ Some p → p < k) → IsFrom source span → span.arena < k
  source_before k None span before from = absurd from
  source_before k (Some p) span before from = (let e : span.arena ≡ p = from in let lt = before p refl in omega (arith, e, lt))

  comes_from_before : (w : WorldState) (t span : Tag) (stock : List SpaceState) → IsWorld w → FreeIn w.stock t (Ok (Some span)) stock → (span.route ≡ Direct) × (span.arena < t.arena)
  comes_from_before w t span stock is (inl on) =
      let here = is.parts.parts t.arena on.space on.at in
      (on.does.from.1, source_before t.arena on.space.source span here.before (All-contains (IsFrom on.space.source) on.space.arena.imported span here.imported on.does.from.0))
  comes_from_before w t span stock is (inr (past, answer, same)) = absurd (let e = answer in cc)

  free_step : (n : ℕ) (outcome : Outcome) (w v : WorldState) → IsWorld w → ¬ HasFailed w cpu → HasBelow (suc n) w → HappensAs (events.Frees cpu) outcome w v → Goes w v × HasBelow n v
  free_step n outcome w v is lives has (inl (failed, none, same)) = absurd (not_failed w (events.Frees cpu) refl lives failed)
  free_step n Done w v is lives (inl empty) (inr (not, (ready, (t, back, m)))) = absurd (not_empty w cpu t m.holds empty)
  free_step n Done w v is lives (inr (u, held, route, low)) (inr (not, (ready, (t, back, m)))) =
      let same : t ≡ u = one_held w cpu t u m.holds held in
      let within = slice_get_within w.hands cpu (Some t) m.holds in
      let world = happens_keeps (events.Frees cpu) Done w v is (inr (not, (ready, (t, back, m)))) in
      let stays = still_has other w v (moves_leave (events.Frees cpu) other w v differs tt (t, back, m)) in
      let moved : v ≡ record w { stock = m.stock; hands = set w.hands cpu back } = m.after in
      let now : HasInHand v cpu back = ap (λ (x : WorldState). slice_get x.hands cpu) moved ∙ slice_get-set w.hands cpu back within in (
        record { world = world; lives = subst (λ (x : WorldState). ¬ HasFailed x cpu) (sym moved) lives; names = ap (λ (x : WorldState). x.names) moved; stays = stays },
        below back t m.stock now m.does same,
      )
    where
      below : (back : Option Tag) (t : Tag) (stock : List SpaceState) → HasInHand v cpu back → FreeIn w.stock t (Ok back) stock → t ≡ u → HasBelow n v
      below None t stock now does same = inl now
      below (Some span) t stock now does same =
          let from = comes_from_before w t span stock is does in
          let e : t.arena ≡ u.arena = ap (λ (x : Tag). x.arena) same in
          inr (span, now, from.0, omega (arith, from.1, e, low))
  free_step n NotEnabled w v is lives (inl empty) (inr (not, (unready, same))) = (goes_nowhere w v is lives same, inl (subst (λ (x : WorldState). HasInHand x cpu None) (sym same) empty))
  free_step n NotEnabled w v is lives (inr (u, held, route, low)) (inr (not, (unready, same))) = absurd (unready (u, held, always_tagged w.stock u (others w cpu) (held_out w cpu u is held) route))
  free_step n (Refused why) w v is lives has (inr (not, (refuses, same))) = absurd refuses
  free_step n NoMemory w v is lives has (inr (not, (wants, same))) = absurd wants

  frees_home : (n : ℕ) (outcomes : List Outcome) (w v : WorldState) → IsWorld w → ¬ HasFailed w cpu → HasBelow n w → HappensTo (replicate n (events.Frees cpu)) outcomes w v → Goes w v × HasInHand v cpu None
  frees_home zero [] w v is lives (inl empty) run = (goes_nowhere w v is lives run, subst (λ (x : WorldState). HasInHand x cpu None) (sym run) empty)
  frees_home zero [] w v is lives (inr (u, held, route, low)) run = absurd (omega (arith, low))
  frees_home zero (o ∷ outcomes) w v is lives has run = absurd run
  frees_home (suc n) [] w v is lives has run = absurd run
  frees_home (suc n) (outcome ∷ outcomes) w v is lives has (next, step, rest) =
      let one = free_step n outcome w next is lives has step in
      let more = frees_home n outcomes next v one.0.world one.0.lives one.1 rest in
      (goes_then w next v one.0 more.0, more.1)

  -- it came direct, and so its arena is one of these, or it goes into its slab
  put_step : (arenas : ℕ) (held : Option Tag) (outcome : Outcome) (w v : WorldState) → IsWorld w → ¬ HasFailed w cpu → HasInHand w cpu held → length w.names ≤ arenas
      → HappensAs (events.SlabPuts cpu) outcome w v → Goes w v × HasBelow arenas v
  put_step arenas held outcome w v is lives has many (inl (failed, none, same)) = absurd (not_failed w (events.SlabPuts cpu) refl lives failed)
  put_step arenas held Done w v is lives has many (inr (not, (ready, (t, m)))) =
      let within = slice_get_within w.hands cpu (Some t) m.holds in
      let world = happens_keeps (events.SlabPuts cpu) Done w v is (inr (not, (ready, (t, m)))) in
      let stays = still_has other w v (moves_leave (events.SlabPuts cpu) other w v differs tt (t, m)) in
      let moved : v ≡ record w { stock = m.stock; hands = set w.hands cpu None } = m.after in (
        record { world = world; lives = subst (λ (x : WorldState). ¬ HasFailed x cpu) (sym moved) lives; names = ap (λ (x : WorldState). x.names) moved; stays = stays },
        inl (ap (λ (x : WorldState). slice_get x.hands cpu) moved ∙ slice_get-set w.hands cpu None within),
      )
  put_step arenas None NotEnabled w v is lives has many (inr (not, (unready, same))) = (goes_nowhere w v is lives same, inl (subst (λ (x : WorldState). HasInHand x cpu None) (sym same) has))
  put_step arenas (Some t) NotEnabled w v is lives has many (inr (not, (unready, same))) = by t.route refl
    where
      by : (route : Route) → t.route ≡ route → Goes w v × HasBelow arenas v
      by Direct route =
          let tagged = always_tagged w.stock t (others w cpu) (held_out w cpu t is has) route in
          let within = slice_get_within w.stock t.arena tagged.space tagged.at in
          let named = is.named in
          let below : t.arena < arenas = omega arith in
          (goes_nowhere w v is lives same, inr (t, subst (λ (x : WorldState). HasInHand x cpu (Some t)) (sym same) has, route, below))
      by (Cached k) route =
          let out = always_out w.stock t k (others w cpu) (held_out w cpu t is has) route in
          absurd (unready (t, out.0, has, out.2))
  put_step arenas held (Refused why) w v is lives has many (inr (not, (refuses, same))) = absurd refuses
  put_step arenas held NoMemory w v is lives has many (inr (not, (wants, same))) = absurd wants

  places : (arenas : ℕ) (held : Option Tag) (outcomes : List Outcome) (w v : WorldState) → IsWorld w → ¬ HasFailed w cpu → HasInHand w cpu held → length w.names ≤ arenas → HappensTo (placing cpu arenas) outcomes w v
      → Goes w v × HasInHand v cpu None
  places arenas held [] w v is lives has many run = absurd run
  places arenas held (outcome ∷ outcomes) w v is lives has many (next, step, rest) =
      let one = put_step arenas held outcome w next is lives has many step in
      let more = frees_home arenas outcomes next v one.0.world one.0.lives one.1 rest in
      (goes_then w next v one.0 more.0, more.1)

-- a list of events in two parts
record Parted (first last : List WorldEvent) (w v : WorldState) : Type 0 where
  mid : WorldState
  begun : List Outcome
  ended : List Outcome
  begins : HappensTo first begun w mid
  ends : HappensTo last ended mid v

parted : (first last : List WorldEvent) (outcomes : List Outcome) (w v : WorldState) → HappensTo (first ++ last) outcomes w v → Parted first last w v
parted [] last outcomes w v run = record { mid = w; begun = []; ended = outcomes; begins = refl; ends = run }
parted (event ∷ first) last [] w v run = absurd run
parted (event ∷ first) last (outcome ∷ outcomes) w v (next, step, rest) =
    let p = parted first last outcomes next v rest in
    record { mid = p.mid; begun = outcome ∷ p.begun; ended = p.ended; begins = (next, step, p.begins); ends = p.ends }

-- after one adopting: the CPU lives, has this in its hand, and the other has at most so many left
record After (cpu other times : ℕ) (w v : WorldState) : Type 0 where
  held : Option Tag
  has : HasInHand v cpu held
  lives : ¬ HasFailed v cpu
  names : v.names ≡ w.names
  few : length (segments_of other v) ≤ times

after_one : (cpu other times : ℕ) (outcome : Outcome) (w v : WorldState) → MayAdopt w cpu other → length (segments_of other w) ≤ suc times → Adopts cpu other outcome w v → After cpu other times w v
after_one cpu other times outcome w v may few (Takes done a) = record {
  held = Some a.takes.segment;
  has = a.takes.held;
  lives = λ failed. may.lives (sym a.rest ∙ failed);
  names = a.names;
  few = (let less = one_less (segments_of other w) (segments_of other v) a.takes.segment a.takes.loses in omega (arith, less, few));
}
after_one cpu other times outcome w v may few (Finds_none unready none same) = subst (After cpu other times w) (sym same) (record {
  held = None;
  has = may.empty;
  lives = may.lives;
  names = refl;
  few = (let e = ap length none in omega (arith, e));
})

pub drains_all : DrainsAll
drains_all cpu other arenas zero [] start end is may many few run =
    let none = none_left (segments_of other start) few in
    subst (λ (x : WorldState). (segments_of other x ≡ []) × HasInHand x cpu None) (sym run) (none, may.empty)
drains_all cpu other arenas zero (o ∷ outcomes) start end is may many few run = absurd run
drains_all cpu other arenas (suc times) [] start end is may many few run = absurd run
drains_all cpu other arenas (suc times) (outcome ∷ outcomes) start end is may many few (next, step, rest) =
    let a = after_one cpu other times outcome start next may few (adopts cpu other outcome start next is may step) in
    let world = happens_keeps (events.Adopts cpu other) outcome start next is step in
    let p = parted (placing cpu arenas) (draining cpu other arenas times) outcomes next end rest in
    let enough : length next.names ≤ arenas = subst (λ (names : List (List ℕ)). length names ≤ arenas) (sym a.names) many in
    let placed = places cpu other may.apart arenas a.held p.begun next p.mid world a.lives a.has enough p.begins in
    let still : length p.mid.names ≤ arenas = subst (λ (names : List (List ℕ)). length names ≤ arenas) (sym placed.0.names) enough in
    let left : length (segments_of other p.mid) ≤ times = (let e = ap length placed.0.stays in let f = a.few in omega arith) in
    drains_all cpu other arenas times p.ended p.mid end placed.0.world (record { apart = may.apart; empty = placed.1; lives = placed.0.lives }) still left p.ends
