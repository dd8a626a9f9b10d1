use Rattle.std.proofs.Common.{◌≡◌, ◌+◌, ◌-◌, ◌^◌, min, [], ◌++◌, length, true, false, sym, refl, ap, subst, ◌∙◌, arith, rules}
use Rattle.std.proofs.lemmas.List.{append-nil, length-append}
use Rattle.std.proofs.lemmas.Result.{err_from_is_err_and}
use Rattle.std.proofs.KnownBytes.{Consumes-nil, Consumes-trans, Appends-nil}
use Rattle.lease_proto.specs.Frames.{rest_in}
use Rattle.lease_server.specs.Intakes.{frames_at, frames_on, begun_at}
use Rattle.lease_server.specs.Serving.{SameFront, Writes, TellFails}
use Rattle.lease_server.specs.Watching.{streams_of}
use Rattle.lease_server.specs.declared.faults.ServeFault.TheVariants.{Write}
use Rattle.lease_server.proofs.ServingLemmas.{Writes-append}
use Rattle.lease_server.proofs.IntakeLemmas.{hand_more}
use Rattle.lease_server.proofs.FaultLemmas.{held_untold, write_untold, read_fails, read_untold, read_all, rest_told, rest_untold, last_front}
use Rattle.lease_server.proofs.telling.tell.Goals as goal

pub loop-input-init : goal.loop-input-init
loop-input-init g c =
    let reads = c.args.reader.now.reads in
    let least : reads ≡ min (reads + 0) (2 ^ 64 - 1) = omega (arith, c.reads.ensures) in
    let none : 0 ≡ c.args.input.now.reads - c.args.input.now.reads = omega arith in (
      [],
      Consumes-nil _,
      [],
      append-nil (frames_at c.args.input.now.hand),
      refl,
      ([], (refl, refl), Appends-nil _),
      c.requires.works.0,
      c.requires.works.1,
      c.requires.ended,
      omega arith,
      omega arith,
      least ∙ ap (λ n. min (reads + n) (2 ^ 64 - 1)) none,
      refl,
    )

pub returns-in_err-tell_held-clause-err : goal.returns-in_err-tell_held-clause-err
returns-in_err-tell_held-clause-err g c =
    let (input, consumed, done, split, same, writes, reads_on, writes_on, ended, low, gave, counted, still) = c.loop-input.invariant in
    let may = g.T.Teller.may_answer in
    let old = streams_of g.R.Read.remaining g.W.Write.contents c.args.reader.now c.args.writer.now in
    let new = streams_of g.R.Read.remaining g.W.Write.contents c.loop-input.reader c.tell_held.new.writer in
    let e = c.in_err-tell_held.ensures in
    let p = err_from_is_err_and c.from_residual.result c.from_residual.ensures.1 in
    let fails : TellFails may c.args.input.now old new c.args.teller.now c.tell_held.new.teller Write = (
      input,
      consumed,
      held_untold may c.args.input.now.hand old new c.args.teller.now c.loop-input.teller c.loop-input.input.hand input done (g.W.Write.contents c.loop-input.writer.inner) split writes e.err,
      reads_on,
      e.failed,
    ) in
    rw (p.1, p.2) (write_untold may c.args.input.now old new c.args.teller.now c.tell_held.new.teller c.in_err-tell_held.field-0.0 e.fault fails)

pub returns-in_err-tell_held-clause-bound : goal.returns-in_err-tell_held-clause-bound
returns-in_err-tell_held-clause-bound g c =
    let (input, consumed, done, split, same, writes, reads_on, writes_on, ended, low, gave, counted, still) = c.loop-input.invariant in
    let kept = c.in_err-tell_held.ensures.kept in
    (omega (arith, low, kept.0), kept.2)

pub returns-in_err-read_on-clause-err : goal.returns-in_err-read_on-clause-err
returns-in_err-read_on-clause-err g c =
    let (input, consumed, done, split, same, writes, reads_on, writes_on, ended, low, gave, counted, still) = c.loop-input.invariant in
    let may = g.T.Teller.may_answer in
    let held = c.in_ok-tell_held.ensures in
    let before = g.W.Write.contents c.args.writer.now.inner in
    let after = g.W.Write.contents c.tell_held.new.writer.inner in
    let answered : Writes may c.args.teller.now (frames_on c.args.input.now.hand input) before after c.tell_held.new.teller =
    subst (λ f. Writes may c.args.teller.now f before after c.tell_held.new.teller) (sym split)
    (Writes-append may done (frames_at c.loop-input.input.hand) c.args.teller.now c.loop-input.teller c.tell_held.new.teller
    before (g.W.Write.contents c.loop-input.writer.inner) after writes held.served) in
    let p = err_from_is_err_and c.from_residual-in_err-read_on.result c.from_residual-in_err-read_on.ensures.1 in
    rw (p.1, p.2) (read_untold may c.args.input.now c.tell_held.new.input
    (streams_of g.R.Read.remaining g.W.Write.contents c.args.reader.now c.args.writer.now)
    (streams_of g.R.Read.remaining g.W.Write.contents c.read_on.new.reader c.tell_held.new.writer)
    c.args.teller.now c.tell_held.new.teller (g.R.Read.remaining c.loop-input.reader.inner) c.loop-input.reader.failed c.in_err-read_on.field-0.0 c.in_err-read_on.ensures.err
    (read_fails may c.args.input.now c.tell_held.new.input c.read_on.new.self
    (streams_of g.R.Read.remaining g.W.Write.contents c.args.reader.now c.args.writer.now)
    (streams_of g.R.Read.remaining g.W.Write.contents c.read_on.new.reader c.tell_held.new.writer)
    c.args.teller.now c.tell_held.new.teller input (g.R.Read.remaining c.loop-input.reader.inner) c.loop-input.reader.failed c.loop-input.reader.reads
    c.in_err-read_on.field-0.0 consumed answered c.in_err-read_on.ensures.err reads_on (held.works ∙ writes_on)
    (held.kept.1 ∙ still) (omega (arith, low, held.kept.0)) (omega (arith, gave, held.kept.0)) c.in_err-read_on.ensures.bound
    (omega (arith, counted, held.kept.0)) c.in_err-read_on.ensures.counted))

pub returns-then-not-branch-clause-ok : goal.returns-then-not-branch-clause-ok
returns-then-not-branch-clause-ok g c =
    let (input, consumed, done, split, same, writes, reads_on, writes_on, ended, low, gave, counted, still) = c.loop-input.invariant in
    let may = g.T.Teller.may_answer in
    let held = c.in_ok-tell_held.ensures in
    let before = g.W.Write.contents c.args.writer.now.inner in
    let between = g.W.Write.contents c.tell_held.new.writer.inner in
    let answered : Writes may c.args.teller.now (frames_on c.args.input.now.hand input) before between c.tell_held.new.teller =
    subst (λ f. Writes may c.args.teller.now f before between c.tell_held.new.teller) (sym split)
    (Writes-append may done (frames_at c.loop-input.input.hand) c.args.teller.now c.loop-input.teller c.tell_held.new.teller
    before (g.W.Write.contents c.loop-input.writer.inner) between writes held.served) in
    let (piece, read, short, hand, more, none) = c.in_ok-read_on.ensures.ok in
    let over : c.in_ok-read_on.field-0 ≡ false = search rules in
    let (nothing, at_end, is_end) = none over in
    let line : SameFront c.read_on.new.self.hand.line (rest_in (begun_at c.args.input.now.hand) input) =
    last_front c.tell_held.new.input.hand c.read_on.new.self.hand piece hand nothing ∙ held.begun.1 ∙ same in
    rest_told may c.tell_rest.result c.args.input.now.hand c.read_on.new.self.hand
    (streams_of g.R.Read.remaining g.W.Write.contents c.args.reader.now c.args.writer.now)
    (streams_of g.R.Read.remaining g.W.Write.contents c.read_on.new.reader c.tell_rest.new.writer)
    c.args.teller.now c.tell_held.new.teller c.tell_held.new.teller input between c.tell_held.new.writer.failed
    (read_all may _ _ _ input piece consumed read nothing) is_end answered line c.tell_rest.ensures.ok c.tell_rest.ensures.works
    (held.works ∙ writes_on) (c.in_ok-read_on.ensures.works ∙ reads_on)

pub returns-then-not-branch-clause-err : goal.returns-then-not-branch-clause-err
returns-then-not-branch-clause-err g c =
    let (input, consumed, done, split, same, writes, reads_on, writes_on, ended, low, gave, counted, still) = c.loop-input.invariant in
    let may = g.T.Teller.may_answer in
    let held = c.in_ok-tell_held.ensures in
    let before = g.W.Write.contents c.args.writer.now.inner in
    let between = g.W.Write.contents c.tell_held.new.writer.inner in
    let answered : Writes may c.args.teller.now (frames_on c.args.input.now.hand input) before between c.tell_held.new.teller =
    subst (λ f. Writes may c.args.teller.now f before between c.tell_held.new.teller) (sym split)
    (Writes-append may done (frames_at c.loop-input.input.hand) c.args.teller.now c.loop-input.teller c.tell_held.new.teller
    before (g.W.Write.contents c.loop-input.writer.inner) between writes held.served) in
    let (piece, read, short, hand, more, none) = c.in_ok-read_on.ensures.ok in
    let over : c.in_ok-read_on.field-0 ≡ false = search rules in
    let (nothing, at_end, is_end) = none over in
    let line : SameFront c.read_on.new.self.hand.line (rest_in (begun_at c.args.input.now.hand) input) =
    last_front c.tell_held.new.input.hand c.read_on.new.self.hand piece hand nothing ∙ held.begun.1 ∙ same in
    rest_untold may c.tell_rest.result c.args.input.now c.read_on.new.self.hand
    (streams_of g.R.Read.remaining g.W.Write.contents c.args.reader.now c.args.writer.now)
    (streams_of g.R.Read.remaining g.W.Write.contents c.read_on.new.reader c.tell_rest.new.writer)
    c.args.teller.now c.tell_held.new.teller c.tell_held.new.teller input between
    (read_all may _ _ _ input piece consumed read nothing) answered line c.tell_rest.ensures.err c.tell_rest.ensures.fault c.tell_rest.ensures.failed
    (c.in_ok-read_on.ensures.works ∙ reads_on)

pub loop-input-preserved : goal.loop-input-preserved
loop-input-preserved g c =
    let (input, consumed, done, split, same, writes, reads_on, writes_on, ended, low, gave, counted, still) = c.loop-input.invariant in
    let may = g.T.Teller.may_answer in
    let held = c.in_ok-tell_held.ensures in
    let before = g.W.Write.contents c.args.writer.now.inner in
    let after = g.W.Write.contents c.tell_held.new.writer.inner in
    let all = done ++ frames_at c.loop-input.input.hand in
    let answered : Writes may c.args.teller.now all before after c.tell_held.new.teller =
    Writes-append may done (frames_at c.loop-input.input.hand) c.args.teller.now c.loop-input.teller c.tell_held.new.teller
    before (g.W.Write.contents c.loop-input.writer.inner) after writes held.served in
    let (piece, read, short, hand, more, none) = c.in_ok-read_on.ensures.ok in
    let on : c.in_ok-read_on.field-0 ≡ true = search rules in
    let (some, before_end, not_ended, once) = more on in
    let next = hand_more c.args.input.now.hand c.tell_held.new.input.hand input piece all split (held.begun.1 ∙ same) in
    let longer = length-append input piece in
    rw hand (
      input ++ piece,
      Consumes-trans _ _ _ input piece consumed read,
      all,
      next.0,
      next.1,
      answered,
      c.in_ok-read_on.ensures.works ∙ reads_on,
      held.works ∙ writes_on,
      (λ is. let bad : true ≡ false = sym is ∙ not_ended in absurd (cc)),
      omega (arith, low, held.kept.0, once),
      omega (arith, gave, held.kept.0, once, some, longer),
      omega (arith, counted, held.kept.0, once, low, c.read_on.ensures.counted),
      not_ended ∙ sym before_end ∙ held.kept.1 ∙ still,
    )
