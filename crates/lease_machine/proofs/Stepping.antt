-- From each picture there is a step of these lines.
use Rattle.std.proofs.Common.{◌≡◌, ◌⊎◌, ◌∙◌, ℕ, refl, sym, ap, subst, inl, inr, List, Err, Result}
use Rattle.lease_proto.specs.declared.faults.LineFault.{LineFault}
use Rattle.lease_proto.specs.declared.operators.ServedLine.{ServedLine}
use Rattle.lease_terms.specs.Requests.{RequestId}
use Rattle.lease_terms.specs.declared.refusals.Refusal.{Refusal}
use Rattle.lease_proto.specs.declared.lines.Op.TheVariants as ops
use Rattle.lease_proto.specs.declared.lines.ReleaseLine.{ReleaseLine}
use Rattle.lease_proto.specs.declared.replies.Reply.{Reply}
use Rattle.lease_proto.specs.declared.replies.Reply.TheVariants as reply
use Rattle.lease_proto.specs.Faults.{error_line}
use Rattle.lease_proto.specs.Operators.{served_of}
use Rattle.lease_proto.specs.Reports.{ok_text}
use Rattle.lease_book.specs.BookState.{account_in}
use Rattle.lease_book.specs.Reports.{report_of}
use Rattle.std.specs.List.{flat_map}
use Rattle.std.specs.Prelude.{map}
use Rattle.lease_machine.specs.Picture.{Picture, IsPicture}
use Rattle.lease_machine.specs.Operators.{audit_texts_of, client_text_of, with_cpu}
use Rattle.lease_machine.specs.Machine.{AnswersLine, LeaseStep, NewRelease, Releases, RefusesRelease}
use Rattle.lease_machine.specs.RoomLaws.{refusal_to}
use Rattle.lease_machine.specs.AnswerLaws.{reply_bytes}
use Rattle.lease_machine.specs.StepLaws.{FaultsAreAnswered, KnownAreAnswered, OldHellosAreAnswered, AuditsAreAnswered, ClientsAreTold, CpusAreSelected, ResizesAreAnswered, ReleasesAreSettled}
use Rattle.lease_machine.proofs.FreshCpus.{selected_is_picture}
use Rattle.lease_machine.proofs.Spans.{same_grows, grows_none}
use Rattle.lease_machine.proofs.Fitting.{not_known}
use Rattle.lease_machine.proofs.Repeats.{request_answer}
use Rattle.lease_machine.proofs.Resizing.{resizes_keep}

module _ (d : Picture) (is : IsPicture d) (line : List ℕ) (x : Result ServedLine LineFault) (read : served_of line ≡ x) where
  -- an answer after which all is as it was
  stays : (text : List ℕ) → AnswersLine d x text d → LeaseStep d line text d
  stays text answer = record {
    answer = subst (λ (y : Result ServedLine LineFault). AnswersLine d y text d) (sym read) answer;
    setup = grows_none d d refl;
    stays = λ none. record { tree = refl; owned = refl };
    picture = is;
  }

pub faults_are_answered : FaultsAreAnswered
faults_are_answered d line fault is read = stays d is line (Err fault) read (error_line fault) (refl, refl)

pub known_are_answered : KnownAreAnswered
known_are_answered d line id op r is read known = stays d is line _ read (reply_bytes r) (r, refl, inl (known, refl))

pub old_hellos_are_answered : OldHellosAreAnswered
old_hellos_are_answered d line h is read below =
    let r = reply.Old (record { client = h.client; current = (account_in h.client d.book).incarnation }) in
    stays d is line _ read (reply_bytes r) (r, refl, (refl, below, refl))

pub audits_are_answered : AuditsAreAnswered
audits_are_answered d line is read = stays d is line _ read (audit_texts_of d d.tree d.spaces) (inl (refl, refl))

pub clients_are_told : ClientsAreTold
clients_are_told d line is read = stays d is line _ read (flat_map client_text_of (map report_of d.book.accounts)) (inl (refl, refl))

pub cpus_are_selected : CpusAreSelected
cpus_are_selected d line n is in_range read =
    let new : Picture = record d { cpus = with_cpu n d; selected = n } in
    record {
      answer = subst (λ (y : Result ServedLine LineFault). AnswersLine d y ok_text new) (sym read) (inl (refl, refl));
      setup = same_grows d new (record { tree = refl; owned = refl });
      stays = λ none. record { tree = refl; owned = refl };
      picture = selected_is_picture d n is in_range;
    }

pub resizes_are_answered : ResizesAreAnswered
resizes_are_answered d new line text r is read resizes =
    let kept = resizes_keep d new r text is resizes in
    record {
      answer = subst (λ (y : Result ServedLine LineFault). AnswersLine d y text new) (sym read) (inl resizes);
      setup = same_grows d new kept.1;
      stays = λ none. kept.1;
      picture = kept.0;
    }

-- what a new release is answered
released_or_refused : (id : RequestId) (l : ReleaseLine) (old new : Picture) (r : Reply) → NewRelease id l old new r
    → ((r ≡ reply.Released id) × Releases id l old new) ⊎ ((why : Refusal) × (r ≡ refusal_to id why) × RefusesRelease id l old why)
released_or_refused id l old new (reply.Released p) does = inl (ap (λ (x : RequestId). reply.Released x) does.0, does.1)
released_or_refused id l old new (reply.Refused x) does = inr (does.0, does.1.reply, does.2)
released_or_refused id l old new (reply.Granted x) does = absurd does
released_or_refused id l old new (reply.Again x) does = absurd does
released_or_refused id l old new (reply.Old x) does = absurd does
released_or_refused id l old new (reply.Stale x) does = absurd does
released_or_refused id l old new (reply.Gap x) does = absurd does
released_or_refused id l old new (reply.Welcome x) does = absurd does
released_or_refused id l old new (reply.Error x) does = absurd does

pub releases_are_settled : ReleasesAreSettled
releases_are_settled old new line text id l read fresh step =
    let a = request_answer old new id (ops.Release l) line text read step in
    elim a.2 [
      | inl known ↦ absurd (not_known old id a.0 fresh known.0)
      | inr does ↦ elim (released_or_refused id l old new a.0 does.1) [
        | inl released ↦ inl (a.1 ∙ ap reply_bytes released.0, released.1)
        | inr refused ↦ inr (refused.0, a.1 ∙ ap reply_bytes refused.1, refused.2)
      ]
    ]
