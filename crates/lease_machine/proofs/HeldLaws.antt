-- A picture, and the parts that one of its CPUs reaches.
use Rattle.arena_tree.specs.declared.trees.TreeArena.{TreeArena}
use Rattle.deed_core.proofs.LawProofs.{all_at, all_from, power_some}
use Rattle.deed_core.specs.Tag.{Tag}
use Rattle.deed_core.specs.Weights.{WeighSame}
use Rattle.deed_core.specs.declared.segments.Route.{Route}
use Rattle.deed_core.specs.declared.segments.Route.TheVariants.{Cached, Direct}
use Rattle.lease_book.specs.BookState.{leased_segments}
use Rattle.lease_machine.proofs.CpuRows.{Round, all_back, all_become, all_front, each_all, flat_all, numbers_apart, round, rounds_flat, still_found, with_rows}
use Rattle.lease_machine.proofs.Lasting.{all_last, owned_stay, size_stood}
use Rattle.lease_machine.specs.CallLaws.{HandIsLocal, HeldIsLocal}
use Rattle.lease_machine.specs.Chunks.{own_or_none}
use Rattle.lease_machine.specs.Held.{with_caches_of}
use Rattle.lease_machine.specs.Picture.{AreCpus, NumberedCpu, IsShapedIn, Picture, SameSetup, caches_of, is_cpu, IsHeld}
use Rattle.lease_proto.specs.Cpus.{IsCpu}
use Rattle.local_calls.proofs.LawProofs.{reached_here}
use Rattle.local_calls.specs.Runs.{IsAccountedWith, IsLocalOf}
use Rattle.local_parts.specs.Cpus.{IsCpuOf, cpu_rounds, own_indexes, indexes_from}
use Rattle.local_parts.specs.States.{Conserves, LocalState, out_of_stock}
use Rattle.local_parts.specs.Steps.{IsSetUpAs}
use Rattle.std.proofs.Common.{All, List, None, Option, Some, [], ap, arith, find, flat_map, length, map, refl, slice_get, subst, sum_by, sym, ℕ, ◌++◌, ◌<◌, ◌∙◌, ◌∷◌, ◌≡◌, ◌≢◌, ◌≤◌}
use Rattle.std.proofs.lemmas.Grind.{flat_map-append}
use Rattle.std.proofs.lemmas.List.{append-nil, length-map}
use Rattle.std.proofs.lemmas.List.Elements.{All-append, All-cons, All-head, All-tail, All-weaker}
use Rattle.std.proofs.lemmas.List.Sums.{sum_by-append}
use Rattle.std.proofs.lemmas.Option.{slice_get_within}
use Rattle.std.specs.Option.{option_to_list}
use Rattle.stock.proofs.LawProofs.{always_out, always_tagged, out_weighs}
use Rattle.stock.specs.Accounts.{Accounts, IsAccounted}
use Rattle.stock.specs.OwnCaches.{OwnCacheState, own_rounds, all_own_rounds}
use Rattle.stock.specs.Setups.{plan_for, plans_for}
use Rattle.stock.specs.Spaces.{HasCache, SpacePlan, SpaceState, plan_of, plans_of}
use Rattle.stock.specs.Steps.{AreRoundsOf, HasQuantum}
use Rattle.stock.specs.Stocks.{IsStock}
use Rattle.stock_audit.proofs.LawProofs.{hand_steps_keep}
use Rattle.stock_audit.specs.Accounted.{IsAccountedFor, IsOwnIn}
use Rattle.stock_audit.specs.Outside.{outside}

abbrev pub hands_of : Option Tag → List Tag
hands_of hand = option_to_list hand

pub there_is : (o : Option NumberedCpu) → o ≢ None → (c : NumberedCpu) × (o ≡ Some c)
there_is None some = absurd (some refl)
there_is (Some c) some = (c, refl)

-- hands and this CPU's rounds first, then the rest
weigh : (hands rounds leases front back : List Tag) → WeighSame (hands ++ (leases ++ (front ++ (rounds ++ back)))) ((hands ++ rounds) ++ (leases ++ (front ++ back)))
weigh hands rounds leases front back f = omega (
  arith,
  sum_by-append f hands (leases ++ (front ++ (rounds ++ back))),
  sum_by-append f leases (front ++ (rounds ++ back)),
  sum_by-append f front (rounds ++ back),
  sum_by-append f rounds back,
  sum_by-append f (hands ++ rounds) (leases ++ (front ++ back)),
  sum_by-append f hands rounds,
  sum_by-append f leases (front ++ back),
  sum_by-append f front back,
)

-- each cache of the CPU at its index
abbrev pub Everywhere : (OwnCacheState → Type 0) → List (List OwnCacheState) → Type 0
Everywhere Q cpu = (k j : ℕ) (row : List OwnCacheState) (o : OwnCacheState) → slice_get cpu k ≡ Some row → slice_get row j ≡ Some o → Q o

pub all_everywhere : (Q : OwnCacheState → Type 0) (cpu : List (List OwnCacheState)) → Everywhere Q cpu → All Q (flat_map (λ row. row) cpu)
all_everywhere Q cpu each = flat_all Q (λ row. row) cpu (all_from (λ row. All Q row) cpu (λ k row at. all_from Q row (λ j o among. each k j row o at among)))

pub everywhere_all : (Q : OwnCacheState → Type 0) (cpu : List (List OwnCacheState)) → All Q (flat_map (λ row. row) cpu) → Everywhere Q cpu
everywhere_all Q cpu all k j row o at among = all_at Q row j o (all_at (λ r. All Q r) cpu k row (each_all Q (λ r. r) cpu all) at) among

-- what a cache of a CPU is for these arenas
pub record FitsIn (spaces : List SpaceState) (o : OwnCacheState) : Type 0 where
  pub shaped : IsShapedIn spaces o
  pub rounds : AreRoundsOf o.arena o.cache o.quantum o.cpu

-- the sizes of the depots being as they were
pub shaped_last : (old new : List SpaceState) → all_last new ≡ all_last old → (o : OwnCacheState) → IsShapedIn old o → IsShapedIn new o
shaped_last old new last o is = record {
  shape = is.shape;
  most = λ c at. (
      let x = size_stood old new last o.arena o.cache c at in
      subst (λ n. o.cpu.size ≤ n) x.2 (is.most x.0 x.1)
      );
}

module _ (d : Picture) (n : ℕ) (c : NumberedCpu) (found : find (is_cpu n) d.cpus ≡ Some c) (hand : Option Tag) (held : IsHeld (hands_of hand) d) where
  abbrev pub reach : LocalState
  reach = record { spaces = d.spaces; cpu = c.caches }

  module _ (rows : List (List OwnCacheState)) where
    abbrev r : Round n rows d.cpus c
    r = round n rows d.cpus c found held.cpus.numbers

    abbrev front : List Tag
    front = all_own_rounds (flat_map caches_of r.front)

    abbrev back : List Tag
    back = all_own_rounds (flat_map caches_of r.back)

    abbrev pub others : List Tag
    others = leased_segments d.book ++ (front ++ back)

    rounds_round : (x : NumberedCpu) → all_own_rounds (flat_map caches_of (r.front ++ x ∷ r.back)) ≡ front ++ (cpu_rounds x.caches ++ back)
    rounds_round x =
        ap all_own_rounds (flat_map-append caches_of r.front (x ∷ r.back)) ∙ (flat_map-append own_rounds (flat_map caches_of r.front) (caches_of x ++ flat_map caches_of r.back)
        ∙ ap (λ ts. front ++ ts) (flat_map-append own_rounds (caches_of x) (flat_map caches_of r.back) ∙ ap (λ ts. ts ++ back) (sym (rounds_flat x.caches))))

    pub balanced : Accounts d.spaces (out_of_stock reach hand ++ others)
    balanced = out_weighs d.spaces (hands_of hand ++ (leased_segments d.book ++ (front ++ (cpu_rounds c.caches ++ back)))) (out_of_stock reach hand ++ others)
        (weigh (hands_of hand) (cpu_rounds c.caches) (leased_segments d.book) front back)
        (subst (λ ts. Accounts d.spaces (hands_of hand ++ (leased_segments d.book ++ ts))) (ap (λ cs. all_own_rounds (flat_map caches_of cs)) r.is ∙ rounds_round c) held.units.accounts)

    of_each : (P : NumberedCpu → Type 0) → All P d.cpus → P c
    of_each P all = All-head P c r.back (all_back P r.front (c ∷ r.back) (subst (All P) r.is all))

    pub of_stock : IsCpuOf d.spaces c.caches
    of_stock = (of_each (λ x. IsCpu x.number × IsCpuOf d.spaces x.caches) held.cpus.each).1

    pub shaped_here : Everywhere (IsShapedIn d.spaces) c.caches
    shaped_here = everywhere_all (IsShapedIn d.spaces) c.caches (of_each (λ x. All (IsShapedIn d.spaces) (caches_of x)) held.cpus.shapes)

    own_each : All (λ x. All (IsOwnIn d.spaces) (caches_of x)) d.cpus
    own_each = each_all (IsOwnIn d.spaces) caches_of d.cpus held.units.cpus

    pub own_here : Everywhere (IsOwnIn d.spaces) c.caches
    own_here = everywhere_all (IsOwnIn d.spaces) c.caches (of_each (λ x. All (IsOwnIn d.spaces) (caches_of x)) own_each)

    own_others : All (IsOwnIn d.spaces) (flat_map caches_of (r.front ++ r.back))
    own_others =
        let split = subst (All (λ x. All (IsOwnIn d.spaces) (caches_of x))) r.is own_each in
        flat_all (IsOwnIn d.spaces) caches_of (r.front ++ r.back) (All-append (λ x. All (IsOwnIn d.spaces) (caches_of x)) r.front r.back (all_front (λ x. All (IsOwnIn d.spaces) (caches_of x)) r.front (c ∷ r.back) split)
        (All-tail (λ x. All (IsOwnIn d.spaces) (caches_of x)) c r.back (all_back (λ x. All (IsOwnIn d.spaces) (caches_of x)) r.front (c ∷ r.back) split)))

    rounds_others : all_own_rounds (flat_map caches_of (r.front ++ r.back)) ≡ front ++ back
    rounds_others = ap all_own_rounds (flat_map-append caches_of r.front r.back) ∙ flat_map-append own_rounds (flat_map caches_of r.front) (flat_map caches_of r.back)

  pub local : IsLocalOf d.tree reach
  local = record { tree = held.tree; plans = held.plans; cpu = of_stock [] }

  pub accounted_here : IsAccountedWith reach hand (others [])
  accounted_here = record { stock = held.units.parts; accounts = balanced [] }

  -- what was rightly done with those parts leaves a picture
  module _ (s : LocalState) (left : Option Tag) (law : IsStock s.spaces) (conserves : Conserves reach hand s left) (setup : IsSetUpAs reach s) (last : all_last s.spaces ≡ all_last d.spaces) (fits : Everywhere (FitsIn s.spaces) s.cpu) where
    abbrev pub then_d : Picture
    then_d = record d { spaces = s.spaces; cpus = map (with_caches_of n s.cpu) d.cpus }

    abbrev rr : Round n s.cpu d.cpus c
    rr = r s.cpu

    before : IsAccountedFor d.spaces (outside (out_of_stock reach hand) (leased_segments d.book) (flat_map caches_of (rr.front ++ rr.back)))
    before = record {
      parts = held.units.parts;
      accounts = subst (λ ts. Accounts d.spaces (out_of_stock reach hand ++ (leased_segments d.book ++ ts))) (sym (rounds_others s.cpu)) (balanced s.cpu);
      runs = held.units.runs;
      grid = held.units.grid;
      cpus = own_others s.cpu;
    }

    after : IsAccountedFor s.spaces (outside (out_of_stock s left) (leased_segments d.book) (flat_map caches_of (rr.front ++ rr.back)))
    after = hand_steps_keep d.spaces s.spaces (out_of_stock reach hand) (out_of_stock s left) _ _ before
        (record { stock = law; frame = conserves; fixed = setup.plans })
        (record { rest = []; gave = λ f. ap (sum_by f) (sym (append-nil (out_of_stock reach hand))); took = λ f. ap (sum_by f) (sym (append-nil (out_of_stock s left))); leases = refl; cpus = refl })

    of_then : IsCpuOf s.spaces s.cpu
    of_then = setup.indexes ∙ (of_stock s.cpu ∙ ap (indexes_from 0) (sym setup.plans))

    own_then : Everywhere (IsOwnIn s.spaces) s.cpu
    own_then k j row o at among =
        let here = reached_here s.spaces s.cpu of_then k j row o at among in
        let space = here.has.1.space in
        let positive : 0 < space.arena.quantum = power_some space.arena.quantum (law k space here.has.1.at).sound.divided.power in
        record {
          own = record {
            some = subst (λ q. 0 < q) (here.quantum space here.has.1.at) positive;
            rounds = (fits k j row o at among).rounds;
          };
          has = subst (λ i. HasCache s.spaces i o.cache) (sym here.own.arena) (subst (HasCache s.spaces k) (sym here.own.cache) here.has);
          quantum = subst (λ i. HasQuantum s.spaces i o.quantum) (sym here.own.arena) here.quantum;
        }

    abbrev new_cpu : NumberedCpu
    new_cpu = with_rows s.cpu c

    own_all : All (IsOwnIn s.spaces) (flat_map caches_of (rr.front ++ new_cpu ∷ rr.back))
    own_all =
        let rest = each_all (IsOwnIn s.spaces) caches_of (rr.front ++ rr.back) after.cpus in
        flat_all (IsOwnIn s.spaces) caches_of (rr.front ++ new_cpu ∷ rr.back) (All-append (λ x. All (IsOwnIn s.spaces) (caches_of x)) rr.front (new_cpu ∷ rr.back) (all_front (λ x. All (IsOwnIn s.spaces) (caches_of x)) rr.front rr.back rest)
        (All-cons (λ x. All (IsOwnIn s.spaces) (caches_of x)) new_cpu rr.back (all_everywhere (IsOwnIn s.spaces) s.cpu own_then) (all_back (λ x. All (IsOwnIn s.spaces) (caches_of x)) rr.front rr.back rest)))

    units : IsAccountedFor s.spaces (outside (hands_of left) (leased_segments d.book) (flat_map caches_of (map (with_caches_of n s.cpu) d.cpus)))
    units =
        let is : all_own_rounds (flat_map caches_of (map (with_caches_of n s.cpu) d.cpus)) ≡ front s.cpu ++ (cpu_rounds s.cpu ++ back s.cpu) = ap (λ cs. all_own_rounds (flat_map caches_of cs)) rr.then_is ∙ rounds_round s.cpu new_cpu in
        let first : Accounts s.spaces (out_of_stock s left ++ (leased_segments d.book ++ (front s.cpu ++ back s.cpu))) = subst (λ ts. Accounts s.spaces (out_of_stock s left ++ (leased_segments d.book ++ ts))) (rounds_others s.cpu) after.accounts in
        let second : Accounts s.spaces (hands_of left ++ (leased_segments d.book ++ (front s.cpu ++ (cpu_rounds s.cpu ++ back s.cpu)))) =
        out_weighs s.spaces (out_of_stock s left ++ (leased_segments d.book ++ (front s.cpu ++ back s.cpu))) (hands_of left ++ (leased_segments d.book ++ (front s.cpu ++ (cpu_rounds s.cpu ++ back s.cpu)))) (λ f. sym (weigh (hands_of left) (cpu_rounds s.cpu) (leased_segments d.book) (front s.cpu) (back s.cpu) f)) first in
        record {
          parts = after.parts;
          accounts = subst (λ ts. Accounts s.spaces (hands_of left ++ (leased_segments d.book ++ ts))) (sym is) second;
          runs = after.runs;
          grid = after.grid;
          cpus = subst (λ cs. All (IsOwnIn s.spaces) (flat_map caches_of cs)) (sym rr.then_is) own_all;
        }

    cpus_then : AreCpus s.spaces (map (with_caches_of n s.cpu) d.cpus) d.selected
    cpus_then = record {
      each = all_become n s.cpu (λ x. IsCpu x.number × IsCpuOf s.spaces x.caches) d.cpus
          (subst (λ (ps : List SpacePlan). All (λ x. IsCpu x.number × (own_indexes x.caches ≡ indexes_from 0 ps)) d.cpus) (sym setup.plans) held.cpus.each)
          (λ x is. (is.0, of_then));
      shapes = all_become n s.cpu (λ x. All (IsShapedIn s.spaces) (caches_of x)) d.cpus
          (All-weaker (λ x. All (IsShapedIn d.spaces) (caches_of x)) (λ x. All (IsShapedIn s.spaces) (caches_of x)) (λ x all. All-weaker (IsShapedIn d.spaces) (IsShapedIn s.spaces) (shaped_last d.spaces s.spaces last) (caches_of x) all) d.cpus held.cpus.shapes)
          (λ x is. all_everywhere (IsShapedIn s.spaces) s.cpu (λ k j row o at among. (fits k j row o at among).shaped));
      numbers = numbers_apart n s.cpu d.cpus held.cpus.numbers;
      there = still_found n s.cpu d.selected d.cpus held.cpus.there;
    }

    pub held_then : IsHeld (hands_of left) then_d
    held_then = record { tree = held.tree; plans = setup.plans ∙ held.plans; units = units; cpus = cpus_then }

    pub same_setup : SameSetup d then_d
    same_setup = record { tree = refl; owned = owned_stay d.spaces s.spaces last }

-- the selected CPU
pub held_is_local : HeldIsLocal
held_is_local d held =
    let c = there_is (find (is_cpu d.selected) d.cpus) held.cpus.there in
    let see : (o : Option NumberedCpu) → LocalState = λ o. record { spaces = d.spaces; cpu = own_or_none o } in (
      subst (λ o. IsLocalOf d.tree (see o)) (sym c.1) (local d d.selected c.0 c.1 None held),
      (others d d.selected c.0 c.1 None held [], subst (λ o. IsAccountedWith (see o) None (others d d.selected c.0 c.1 None held [])) (sym c.1) (accounted_here d d.selected c.0 c.1 None held)),
    )

within_tree : (tree : List TreeArena) (spaces : List SpaceState) (k : ℕ) (s : SpaceState) → plans_of spaces ≡ plans_for tree → slice_get spaces k ≡ Some s → k < length tree
within_tree tree spaces k s plans at =
    let within = slice_get_within spaces k s at in
    omega (arith, within, length-map spaces plan_of, ap length plans, length-map tree plan_for)

-- a segment that is out is of one of the arenas
pub out_within : (tree : List TreeArena) (spaces : List SpaceState) (t : Tag) (rest : List Tag) → plans_of spaces ≡ plans_for tree → IsAccounted spaces (t ∷ rest) → t.arena < length tree
out_within tree spaces t rest plans is = by t.route refl
  where
    by : (r : Route) → t.route ≡ r → t.arena < length tree
    by Direct route = let x = always_tagged spaces t rest is route in within_tree tree spaces t.arena x.space plans x.at
    by (Cached k) route = let x = always_out spaces t k rest is route in within_tree tree spaces t.arena x.2.at.space plans x.2.at.at

pub hand_is_local : HandIsLocal
hand_is_local d t held =
    let c = there_is (find (is_cpu d.selected) d.cpus) held.cpus.there in
    let see : (o : Option NumberedCpu) → LocalState = λ o. record { spaces = d.spaces; cpu = own_or_none o } in (
      subst (λ o. IsLocalOf d.tree (see o)) (sym c.1) (local d d.selected c.0 c.1 (Some t) held),
      out_within d.tree d.spaces t _ held.plans (accounted_here d d.selected c.0 c.1 (Some t) held),
      (others d d.selected c.0 c.1 (Some t) held [], subst (λ o. IsAccountedWith (see o) (Some t) (others d d.selected c.0 c.1 (Some t) held [])) (sym c.1) (accounted_here d d.selected c.0 c.1 (Some t) held)),
    )
