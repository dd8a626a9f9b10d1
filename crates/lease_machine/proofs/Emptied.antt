-- What the lines `reap`, `tick` and `offline` leave empty, and when a lease is to be asked for again.
use Rattle.std.proofs.Common.{◌≡◌, ◌≢◌, ◌⊎◌, ℕ, refl, sym, subst, ap, ◌∙◌, inl, inr, Bool, true, false, cond, All, Contains, suc, List, [], ◌∷◌, ◌++◌, map, get_or, Some, Ok, arith}
use Rattle.std.specs.Prelude.{codes, flat_map, slice_get}
use Rattle.std.proofs.lemmas.Bool.Decides.{Decides-eqb}
use Rattle.std.proofs.lemmas.Grind.{flat_map-append}
use Rattle.std.proofs.Math.Seq.{drop-length}
use Rattle.deed_core.proofs.LawProofs.{all_at, all_from, contains_at, mapped, slice_get_mapped}
use Rattle.deed_core.specs.Tag.{Tag}
use Rattle.magazine_layer.specs.Depots.{DepotState, after_tick, all_rounds, depot_rounds}
use Rattle.arena_tree.specs.declared.trees.TreeArena.{TreeArena}
use Rattle.stock.specs.Endings.{IsReaped, IsReapedCache}
use Rattle.stock.specs.OwnCaches.{own_rounds, all_own_rounds}
use Rattle.stock.specs.Spaces.{SpaceState, QuantumCacheState}
use Rattle.lease_terms.specs.Requests.{RequestId}
use Rattle.lease_proto.specs.declared.lines.LeaseLine.{LeaseLine}
use Rattle.lease_proto.specs.declared.lines.Op.TheVariants as ops
use Rattle.lease_proto.specs.declared.operators.OperatorLine.TheVariants as operator
use Rattle.lease_proto.specs.declared.operators.ServedLine.TheVariants as served
use Rattle.lease_proto.specs.declared.replies.Reply.{Reply}
use Rattle.lease_proto.specs.declared.replies.Reply.TheVariants as reply
use Rattle.lease_proto.specs.Operators.{served_of}
use Rattle.lease_proto.specs.Operators as reading
use Rattle.lease_proto.specs.Requests.{demand_of, again_of}
use Rattle.lease_book.specs.BookState.{leased_segments}
use Rattle.lease_machine.specs.Picture.{NumberedCpu, Picture, Finds, caches_of, fresh_cpu, held_outside, is_cpu}
use Rattle.lease_machine.specs.Operators.{IsReapedOut, ReapsAll, after_reap, with_depot_by, depots_of, depots_after_reap, with_depots_by, after_renewal}
use Rattle.lease_machine.specs.Serving.{CanServe}
use Rattle.lease_machine.specs.Machine.{LeaseStep, AnswersLine, NewLease}
use Rattle.lease_machine.specs.AnswerLaws.{reply_bytes}
use Rattle.lease_machine.specs.EmptyingLaws.{CpuHasNoRound, ReapLeavesNone, OfflineHasNoRound, TickAndReapEmpty, AgainMeansRoom}
use Rattle.lease_machine.proofs.Fitting.{not_known}
use Rattle.lease_machine.proofs.FreshCpus.{fresh_cpu_fits}
use Rattle.lease_machine.proofs.Repeats.{request_answer}

reap_read : served_of (codes "reap") ≡ Ok (served.Operator operator.Reap)
unfolding served_of reading.served_in reading.operator_in
reap_read = refl

tick_read : served_of (codes "tick") ≡ Ok (served.Operator operator.Tick)
unfolding served_of reading.served_in reading.operator_in
tick_read = refl

-- whatever the line is answered, all was reaped
all_reaped : (old new : Picture) (text : List ℕ) → LeaseStep old (codes "reap") text new → (units : ℕ) × ReapsAll units old new
all_reaped old new text step = elim (subst (λ x. AnswersLine old x text new) reap_read step.answer) [
  | inl did ↦ (did.0, did.2)
  | inr out ↦ out.1
]

all_ticked : (old new : Picture) (text : List ℕ) → LeaseStep old (codes "tick") text new → new ≡ record old { spaces = map (with_depots_by after_tick) old.spaces }
all_ticked old new text step = elim (subst (λ x. AnswersLine old x text new) tick_read step.answer) [
  | inl did ↦ did.1
  | inr out ↦ absurd out.1
]

pub reap_leaves_none : ReapLeavesNone
reap_leaves_none old new text step = (all_reaped old new text step).1.left

-- a depot that was reaped right after an interval began has no round
bare_depot : (d : DepotState) → depot_rounds (after_reap (after_tick d)) ≡ []
bare_depot d = ap (λ (ms : List (List Tag)). all_rounds ms ++ []) (drop-length d.full)

no_rounds : (cpus : List NumberedCpu) → All CpuHasNoRound cpus → all_own_rounds (flat_map caches_of cpus) ≡ []
no_rounds [] none = refl
no_rounds (c ∷ cpus) none =
    let first : CpuHasNoRound c = all_at CpuHasNoRound (c ∷ cpus) 0 c none refl in
    let others : All CpuHasNoRound cpus = all_from CpuHasNoRound cpus (λ k x at. all_at CpuHasNoRound (c ∷ cpus) (suc k) x none at) in
    flat_map-append own_rounds (caches_of c) (flat_map caches_of cpus) ∙ (ap (λ (ts : List Tag). ts ++ all_own_rounds (flat_map caches_of cpus)) first ∙ no_rounds cpus others)

-- after both lines
module _ (old mid new : Picture) (units : ℕ) (ticked : mid ≡ record old { spaces = map (with_depots_by after_tick) old.spaces }) (all : ReapsAll units mid new) where
  depots : map depots_of new.spaces ≡ map depots_after_reap (map (with_depots_by after_tick) old.spaces)
  depots = all.depots ∙ ap (λ (d : Picture). map depots_after_reap d.spaces) ticked

  depot_bare : (k j : ℕ) (s : SpaceState) (c : QuantumCacheState) → slice_get new.spaces k ≡ Some s → slice_get s.caches j ≡ Some c → depot_rounds c.depot ≡ []
  depot_bare k j s c at among =
      let there : slice_get (map depots_after_reap (map (with_depots_by after_tick) old.spaces)) k ≡ Some (depots_of s) = ap (λ ls. slice_get ls k) (sym depots) ∙ slice_get_mapped depots_of new.spaces k s at in
      let space = mapped depots_after_reap (map (with_depots_by after_tick) old.spaces) k (depots_of s) there in
      let before = mapped (with_depots_by after_tick) old.spaces k space.0 space.1 in
      let one : slice_get (depots_after_reap space.0) j ≡ Some c.depot = ap (λ (ds : List DepotState). slice_get ds j) (sym space.2) ∙ slice_get_mapped (λ (x : QuantumCacheState). x.depot) s.caches j c among in
      let depot = mapped after_reap (depots_of space.0) j c.depot one in
      let cache = mapped (λ (x : QuantumCacheState). x.depot) space.0.caches j depot.0 depot.1 in
      let was = mapped (with_depot_by after_tick) before.0.caches j cache.0 (ap (λ (x : SpaceState). slice_get x.caches j) (sym before.2) ∙ cache.1) in
      let same : depot.0 ≡ after_tick was.0.depot = cache.2 ∙ ap (λ (x : QuantumCacheState). x.depot) was.2 in
      ap depot_rounds (depot.2 ∙ ap after_reap same) ∙ bare_depot was.0.depot

  pub reaped : All IsReaped new.spaces
  reaped = all_from IsReaped new.spaces (λ k s at. all_from IsReapedCache s.caches (λ j c among. (
      let out : All IsReapedOut s.caches = all_at (λ (x : SpaceState). All IsReapedOut x.caches) new.spaces k s all.left at in
      record { rounds = depot_bare k j s c at among; slabs = (all_at IsReapedOut s.caches j c out among).slabs }
      )))

  pub book : leased_segments new.book ≡ leased_segments old.book
  book = ap (λ (d : Picture). leased_segments d.book) all.parts ∙ ap (λ (d : Picture). leased_segments d.book) ticked

  pub cpus : (held_outside new).cpus ≡ (held_outside old).cpus
  cpus = ap (λ (d : Picture). (held_outside d).cpus) all.parts ∙ ap (λ (d : Picture). (held_outside d).cpus) ticked

pub tick_and_reap_empty : TickAndReapEmpty
tick_and_reap_empty old mid new told text free none first second =
    let ticked = all_ticked old mid told first in
    let all = all_reaped mid new text second in
    record {
      leases = book old mid new all.0 ticked all.1 ∙ free;
      rounds = ap all_own_rounds (cpus old mid new all.0 ticked all.1) ∙ no_rounds old.cpus none;
      reaped = reaped old mid new all.0 ticked all.1;
    }

-- a CPU that is new has no round, and each other is as it was
renewed_so : (n : ℕ) (spaces : List SpaceState) (all : List NumberedCpu) (k : ℕ) (c x : NumberedCpu) → slice_get all k ≡ Some c → x ≡ after_renewal n spaces c → CpuHasNoRound x ⊎ ((x.number ≢ n) × Contains all x)
renewed_so n spaces all k c x at is = by (is_cpu n c) refl
  where
    by : (b : Bool) → is_cpu n c ≡ b → CpuHasNoRound x ⊎ ((x.number ≢ n) × Contains all x)
    by true test =
        let fresh : x ≡ fresh_cpu n spaces = is ∙ ap (λ b. cond b (fresh_cpu n spaces) c) test in
        inl (ap (λ (y : NumberedCpu). all_own_rounds (caches_of y)) fresh ∙ fresh_cpu_fits.none spaces n)
    by false test =
        let same : x ≡ c = is ∙ ap (λ b. cond b (fresh_cpu n spaces) c) test in
        inr (
          λ e. (
              let yes : is_cpu n c ≡ true = (Decides-eqb c.number n).1 (ap (λ (y : NumberedCpu). y.number) (sym same) ∙ e) in
              let wrong : true ≡ false = sym yes ∙ test in
              cc
              ),
          contains_at all k x (at ∙ ap Some (sym same)),
        )

pub offline_has_no_round : OfflineHasNoRound
offline_has_no_round old new n line text read step = elim (subst (λ x. AnswersLine old x text new) read step.answer) [
  | inl did ↦ inr (all_from (λ (c : NumberedCpu). CpuHasNoRound c ⊎ ((c.number ≢ n) × Contains old.cpus c)) new.cpus (λ k x at. (
      let m = mapped (after_renewal n old.spaces) old.cpus k x (ap (λ (cs : List NumberedCpu). slice_get cs k) (sym did.1.cpus) ∙ at) in
      renewed_so n old.spaces old.cpus k m.0 x m.1 m.2
      )))
  | inr out ↦ inl out.0
]

-- what serves a new lease that is to be asked for again
new_again : (id : RequestId) (old new : Picture) (l : LeaseLine) (r : Reply) → NewLease id l old new r → reply_bytes r ≡ reply_bytes (again_of id)
    → (index : ℕ) × (x : TreeArena) × Finds old l.arena index x × CanServe old index x (demand_of l)
new_again id old new l (reply.Again a) does same = (does.1.index, does.1.arena, does.1.takes.finds, does.1.can)
new_again id old new l (reply.Granted g) does same = absurd (let e : 103 ≡ 97 = ap (λ xs. get_or xs 0 0) same in omega (arith, e))
new_again id old new l (reply.Refused x) does same = absurd (let e : 114 ≡ 97 = ap (λ xs. get_or xs 0 0) same in omega (arith, e))
new_again id old new l (reply.Released x) does same = absurd does
new_again id old new l (reply.Old x) does same = absurd does
new_again id old new l (reply.Stale x) does same = absurd does
new_again id old new l (reply.Gap x) does same = absurd does
new_again id old new l (reply.Welcome x) does same = absurd does
new_again id old new l (reply.Error x) does same = absurd does

pub again_means_room : AgainMeansRoom
again_means_room old new id l line text read fresh step said =
    let a = request_answer old new id (ops.Lease l) line text read step in
    elim a.2 [
      | inl known ↦ absurd (not_known old id a.0 fresh known.0)
      | inr does ↦ new_again id old new l a.0 does.1 (sym a.1 ∙ said)
    ]
