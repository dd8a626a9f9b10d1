-- Each step keeps the rules of leases.
use Rattle.std.proofs.Common.{◌≡◌, ℕ, sym, subst, ap, ◌∙◌, inl, inr, List, [], ◌∷◌, Some, Ok, Err}
use Rattle.std.specs.Prelude.{slice_get}
use Rattle.deed_core.specs.Request.{Fits}
use Rattle.arena_tree.specs.declared.trees.TreeArena.{TreeArena}
use Rattle.quantum_cache.specs.Caches.{chain_in}
use Rattle.lease_terms.specs.Requests.{RequestId}
use Rattle.lease_terms.specs.declared.refusals.Refusal.{Refusal}
use Rattle.lease_terms.specs.declared.refusals.Refusal.TheVariants.{NoFit, BadRequest, NoArena, NotYours, Leases}
use Rattle.lease_proto.specs.declared.lines.Line.TheVariants as lines
use Rattle.lease_proto.specs.declared.lines.HelloLine.{HelloLine}
use Rattle.lease_proto.specs.declared.lines.LeaseLine.{LeaseLine}
use Rattle.lease_proto.specs.declared.lines.ReleaseLine.{ReleaseLine}
use Rattle.lease_proto.specs.declared.lines.Op.{Op}
use Rattle.lease_proto.specs.declared.lines.Op.TheVariants as ops
use Rattle.lease_proto.specs.declared.operators.ServedLine.TheVariants as served
use Rattle.lease_proto.specs.declared.replies.Granted.{Granted}
use Rattle.lease_proto.specs.declared.replies.RefusedRequest.{RefusedRequest}
use Rattle.lease_proto.specs.declared.replies.Reply.{Reply}
use Rattle.lease_proto.specs.declared.replies.Reply.TheVariants as reply
use Rattle.lease_book.specs.BookState.{account_in}
use Rattle.lease_book.specs.Entry.{Grant}
use Rattle.lease_book.proofs.LawProofs.{found_number}
use Rattle.lease_history.specs.Told.{reply_to}
use Rattle.lease_machine.specs.Picture.{Picture, IsPicture}
use Rattle.arena_tree.specs.Trees.{arena_named}
use Rattle.local_calls.specs.NoFits.{HasBase}
use Rattle.lease_proto.specs.Operators.{served_of}
use Rattle.lease_proto.specs.Requests.{demand_of}
use Rattle.lease_machine.specs.Serving.{CanServe}
use Rattle.lease_machine.specs.Machine.{NewLease, NewRelease, NewRequest, RefusesLease, RefusesRelease, HelloStep, SettlesRefusal}
use Rattle.lease_machine.specs.AnswerLaws.{IsKept}
use Rattle.lease_machine.specs.LeaseLaws.{grant_told}
use Rattle.lease_machine.specs.RoomLaws.{HasRun}
use Rattle.lease_machine.specs.Rules.{NothingServes, WhyNoLease, LeaseRule, ReleaseRule, RequestRule, HelloRule, IsReplyKept, StepsKeepRules, RunsKeepRules}
use Rattle.lease_machine.proofs.Homes.{leases_are_apart, units_have_one_home}
use Rattle.lease_machine.proofs.Growing.{grows_add_free}
use Rattle.lease_machine.proofs.Repeats.{history_of, request_answer, new_kept, operator_keeps, answer_keeps}
use Rattle.lease_machine.proofs.Fitting.{not_known}
use Rattle.lease_machine.proofs.Rooms.{run_serves, base_serves}
use Rattle.lease_machine.proofs.NoRoom.{runs_up}
use Rattle.lease_machine.proofs.CachedReach.{grants_were_reachable}
use Rattle.lease_machine.proofs.CouldServe.{what_serves_can}
use Rattle.lease_machine.proofs.Leases.{lease_moves, release_moves, hello_moves, welcome_moves, welcome_anew, welcome_on, settled_becomes, answer_to}

nothing_serves : (old : Picture) (index : ℕ) (x : TreeArena) (l : LeaseLine) → IsPicture old → slice_get old.tree index ≡ Some x → ¬ CanServe old index x (demand_of l) → NothingServes index x l old
nothing_serves old index x l is here none = record {
  taken = λ has. base_serves old index x (demand_of l) here (base has) none;
  above = λ plain has. none (inr (inl (plain, runs_up old is (chain_in old.tree index) l.size has)));
  none = none;
}
  where
    base : HasRun old.spaces index (demand_of l) → HasBase old.spaces index (demand_of l)
    base (s, at, (run, first, free, serves)) = (s, at, (first, run_serves s.arena (is.held.units.parts index s at).sound (demand_of l) run first free serves))

why_no_lease : (id : RequestId) (l : LeaseLine) (old new : Picture) → IsPicture old → (why : Refusal) → RefusesLease id l old new why → WhyNoLease id l old why
why_no_lease id l old new is NoArena does = does.0
why_no_lease id l old new is BadRequest does = (does.0, does.1, does.2, does.3)
why_no_lease id l old new is NoFit does = (does.0, does.1, does.2, nothing_serves old does.0 does.1 l is does.2.finds.here does.3.none)
why_no_lease id l old new is Leases does = ((does.0, does.1, does.2, does.3), does.5)
why_no_lease id l old new is NotYours does = does

-- the refusal that is told is the one that it was settled by
refused_so : (old new : Picture) (id : RequestId) (why : Refusal) (x : RefusedRequest) → SettlesRefusal id why old new (reply.Refused x) → (x.id ≡ id) × (why ≡ x.refusal)
refused_so old new id why x does =
    let e : reply.Refused x ≡ reply.Refused (record { id = id; refusal = why }) = does.reply in
    let same : x ≡ record { id = id; refusal = why } = cc in
    (ap (λ (y : RefusedRequest). y.id) same, sym (ap (λ (y : RefusedRequest). y.refusal) same))

lease_rule : (old new : Picture) (id : RequestId) (l : LeaseLine) → IsPicture old → (r : Reply) → NewLease id l old new r → LeaseRule id l old r new
lease_rule old new id l is (reply.Granted g) does =
    let told : reply.Granted g ≡ reply.Granted (grant_told old id does.segment) = does.reply in
    let same : g ≡ grant_told old id does.segment = cc in
    record {
      index = does.index;
      arena = does.arena;
      takes = does.takes;
      can = what_serves_can old new does.index does.arena (demand_of l) does.segment is does.takes.finds.here does.serves;
      room = does.granted.room;
      segment = does.segment;
      told = same;
      named = (lease_moves old new id l is (reply.Granted g) does).2;
      fits = subst (λ (x : Granted). Fits does.arena.quantum (demand_of l) x.base x.len) (sym same) does.serves.fits;
      reach = grants_were_reachable old new id l (reply.Granted g) is does;
      more = settled_becomes old new id (Grant does.segment (record { quantum = does.arena.quantum; request = demand_of l })) (history_of old is) does.granted.entry;
    }
lease_rule old new id l is (reply.Refused x) does =
    let so = refused_so old new id does.0 x does.1 in
    (so.0, subst (WhyNoLease id l old) so.1 (why_no_lease id l old new is does.0 does.2), lease_moves old new id l is (reply.Refused x) does)
lease_rule old new id l is (reply.Again x) does = (does.0, (does.1.index, does.1.arena, does.1.takes, does.1.can), does.1.book)
lease_rule old new id l is (reply.Released x) does = does
lease_rule old new id l is (reply.Old x) does = does
lease_rule old new id l is (reply.Stale x) does = does
lease_rule old new id l is (reply.Gap x) does = does
lease_rule old new id l is (reply.Welcome x) does = does
lease_rule old new id l is (reply.Error x) does = does

release_rule : (old new : Picture) (id : RequestId) (l : ReleaseLine) → IsPicture old → (r : Reply) → NewRelease id l old new r → ReleaseRule id l old r new
release_rule old new id l is (reply.Released p) does = release_moves old new id l is (reply.Released p) does
release_rule old new id l is (reply.Refused x) does =
    let so = refused_so old new id does.0 x does.1 in
    (so.0, subst (RefusesRelease id l old) so.1 does.2, release_moves old new id l is (reply.Refused x) does)
release_rule old new id l is (reply.Granted x) does = does
release_rule old new id l is (reply.Again x) does = does
release_rule old new id l is (reply.Old x) does = does
release_rule old new id l is (reply.Stale x) does = does
release_rule old new id l is (reply.Gap x) does = does
release_rule old new id l is (reply.Welcome x) does = does
release_rule old new id l is (reply.Error x) does = does

request_rule : (old new : Picture) (id : RequestId) (op : Op) → IsPicture old → (r : Reply) → NewRequest id op old new r → RequestRule id op old r new
request_rule old new id (ops.Lease l) is r does = lease_rule old new id l is r does
request_rule old new id (ops.Release l) is r does = release_rule old new id l is r does

hello_rule : (old new : Picture) (h : HelloLine) → IsPicture old → (r : Reply) → HelloStep h old new r → HelloRule h old r new
hello_rule old new h is (reply.Welcome w) does = (
  record {
    current = does.1.current;
    becomes = (welcome_moves old new h is does.1).0;
    anew = λ above. welcome_anew old new h is does.1 above;
    goes_on = λ same. welcome_on old new h is does.1 same;
  },
  hello_moves old new h is (reply.Welcome w) does,
)
hello_rule old new h is (reply.Old o) does = does
hello_rule old new h is (reply.Again a) does = does
hello_rule old new h is (reply.Granted x) does = does
hello_rule old new h is (reply.Released x) does = does
hello_rule old new h is (reply.Refused x) does = does
hello_rule old new h is (reply.Stale x) does = does
hello_rule old new h is (reply.Gap x) does = does
hello_rule old new h is (reply.Error x) does = does

-- what settles a request is kept
reply_kept : (old new : Picture) (id : RequestId) (op : Op) (r : Reply) → IsPicture old → new.tree ≡ old.tree → NewRequest id op old new r → IsKept r → IsReplyKept old new id r
reply_kept old new id op r is tree does settles =
    let was = new_kept old new id (history_of old is) op r settles does in
    record {
      incarnation = sym was.1.current;
      kept = was.0;
      number = sym (found_number (account_in id.client new.book).kept id.number was.0 was.1.there).0;
      there = was.1.there;
      becomes = was.3;
      reply = was.2 ∙ ap (λ (xs : List TreeArena). reply_to (arena_named xs) id was.0.reply) (sym tree);
    }

pub steps_keep_rules : StepsKeepRules
steps_keep_rules old new line text is step = record {
  no_line = λ fault read. answer_to old new line text (Err fault) read step;
  hello = λ h read. (let a = answer_to old new line text (Ok (served.Client (lines.Hello h))) read step in (a.0, a.1, hello_rule old new h is a.0 a.2));
  request = λ id op read fresh. (
      let a = request_answer old new id op line text read step in
      elim a.2 [
        | inl known ↦ absurd (not_known old id a.0 fresh known.0)
        | inr does ↦ (a.0, a.1, request_rule old new id op is a.0 does.1, reply_kept old new id op a.0 is step.setup.tree does.1)
      ]);
  repeat = λ id op read again. (
      let a = request_answer old new id op line text read step in
      elim a.2 [
        | inl known ↦ (a.0, a.1, known.0, known.1)
        | inr does ↦ absurd (again does.0)
      ]);
  operator = λ o read. (let a = answer_to old new line text (Ok (served.Operator o)) read step in (a, operator_keeps o old new text a));
  others = λ c apart. answer_keeps c (served_of line) apart old new text (history_of old is) step.answer;
  apart = leases_are_apart new step.picture;
  homes = units_have_one_home new step.picture;
  grow = λ g read. grows_add_free old new g line text is read step;
  setup = step.setup;
  stays = step.stays;
  picture = step.picture;
}

pub runs_keep_rules : RunsKeepRules
runs_keep_rules old new [] text is run = run
runs_keep_rules old new (Ok line ∷ frames) text is (first, rest, mid, step, same, run) = (first, rest, mid, steps_keep_rules old mid line first is step, same, runs_keep_rules mid new frames rest step.picture run)
runs_keep_rules old new (Err fault ∷ frames) text is (rest, same, run) = (rest, same, runs_keep_rules old new frames rest is run)
