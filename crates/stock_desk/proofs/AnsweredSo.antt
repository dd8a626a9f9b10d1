-- A line's list of steps over the parts of the selected CPU.
use Rattle.std.proofs.Common.{◌≡◌, ◌<◌, ℕ, sym, subst, List, set, position, Some}
use Rattle.std.specs.Prelude.{slice_get}
use Rattle.lease_terms.specs.Requests.{RequestId}
use Rattle.lease_proto.specs.declared.lines.HelloLine.{HelloLine}
use Rattle.lease_proto.specs.declared.lines.Op.{Op}
use Rattle.lease_book.specs.BookState.{BookState}
use Rattle.lease_book.specs.declared.books.TheConstants.{MOST_LEASES}
use Rattle.local_calls.specs.Runs.{IsLocalOf}
use Rattle.local_parts.specs.States.{LocalState}
use Rattle.lease_call.specs.Greeting.{HelloEnd, greet_plan}
use Rattle.lease_call.specs.Releasing.{CallEnd}
use Rattle.lease_call.specs.Requesting.{op_plan}
use Rattle.lease_machine.specs.Conversations.{RunsCall, AnswersRequest, AnswersHello}
use Rattle.lease_machine.specs.Picture.{NumberedCpu, Picture, IsPicture, is_cpu}
use Rattle.lease_machine.proofs.LawProofs.{request_runs, hello_runs}
use Rattle.stock_desk.proofs.SelectedCpu.{written_caches}
use Rattle.stock_desk.proofs.SelectedParts.{parts_local, same_parts}
use Rattle.stock_desk.specs.Supplies.{local_of}

module _ (d : Picture) (k : ℕ) (c : NumberedCpu) (first : position (is_cpu d.selected) d.cpus ≡ Some k) (at : slice_get d.cpus k ≡ Some c) (is : IsPicture d) where
  pub call_local : IsLocalOf d.tree (local_of d.spaces c.caches)
  call_local = parts_local d k c first at is.held

  module _ (b : BookState) (s : LocalState) where
    abbrev pub became : List NumberedCpu → Picture
    became cs = record d { book = b; spaces = s.spaces; cpus = cs }

    abbrev pub now : Picture
    now = became (set d.cpus k (record { number = c.number; caches = s.cpu }))

    pub request_so : {D : Type 0} (id : RequestId) (op : Op) (a : CallEnd D) → RunsCall d.tree (op_plan d.tree id op) d.book (local_of d.spaces c.caches) b s a → AnswersRequest id op d now a
    request_so {D} id op a ran =
        subst (λ (cs : List NumberedCpu). AnswersRequest id op d (became cs) a) (sym (written_caches d.selected d.cpus is.held.cpus.numbers k first c at s.cpu))
        (request_runs D d id op b s a is (subst (λ (p : LocalState). RunsCall d.tree (op_plan d.tree id op) d.book p b s a) (sym (same_parts d k c first at is.held)) ran))

    pub hello_so : (D : Type 0) (h : HelloLine) (turns : ℕ) (a : HelloEnd D) → MOST_LEASES < turns → RunsCall {D = D} d.tree (greet_plan d.tree h turns) d.book (local_of d.spaces c.caches) b s a → AnswersHello h d now a
    hello_so D h turns a enough ran =
        subst (λ (cs : List NumberedCpu). AnswersHello h d (became cs) a) (sym (written_caches d.selected d.cpus is.held.cpus.numbers k first c at s.cpu))
        (hello_runs D d h turns b s a is enough (subst (λ (p : LocalState). RunsCall {D = D} d.tree (greet_plan d.tree h turns) d.book p b s a) (sym (same_parts d k c first at is.held)) ran))
