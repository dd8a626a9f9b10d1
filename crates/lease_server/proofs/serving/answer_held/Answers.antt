use Rattle.std.proofs.Common.{◌<◌, [], ◌∷◌, ◌++◌, sym, refl, ap, subst, ◌∙◌, append_assoc}
use Rattle.std.proofs.lemmas.List.{append-nil}
use Rattle.lease_proto.specs.Frames.{frame_of}
use Rattle.lease_server.specs.Serving.{Answers}
use Rattle.lease_server.specs.Intakes.{hand_in, frames_at}
use Rattle.lease_server.proofs.ServingLemmas.{Answers-append}
use Rattle.lease_server.proofs.IntakeLemmas.{hand_whole, passes_less, size_at}
use Rattle.lease_server.proofs.serving.answer_held.Goals as goal

pub loop-line-init : goal.loop-line-init
loop-line-init g c = ([], refl, refl, ([], (refl, refl), sym (append-nil _)), refl, refl)

pub loop-line-smaller : goal.loop-line-smaller
loop-line-smaller g c =
    subst (λ v. size_at v.hand < size_at c.loop-line.input.hand) (sym c.pass.ensures) (passes_less c.loop-line.input.hand c.in-Some.ensures.some.0)

pub loop-line-preserved : goal.loop-line-preserved
loop-line-preserved g c =
    let (done, split, same, answers, reads, ended) = c.loop-line.invariant in
    let may = g.P.Responder.may_answer in
    let hand = c.loop-line.input.hand in
    let frame = frame_of hand.line in
    let next = hand_in [] hand.rest in
    let first = hand_whole hand c.in-Some.ensures.some.0 in
    let answered = subst (λ l. Answers may c.loop-line.responder (frame_of l ∷ []) c.loop-line.out.items c.answer_line.new.out.items c.answer_line.new.responder)
    c.in-Some.ensures.some.1 c.in_ok-answer_line.ensures.ok in
    rw c.pass.ensures (
      done ++ frame ∷ [],
      split ∙ ap (λ f. done ++ f) first.0 ∙ sym (append_assoc done (frame ∷ []) (frames_at next)),
      first.1 ∙ same,
      Answers-append may done (frame ∷ []) c.args.responder.now c.loop-line.responder c.answer_line.new.responder
          c.args.out.now.items c.loop-line.out.items c.answer_line.new.out.items answers answered,
      reads,
      ended,
    )
