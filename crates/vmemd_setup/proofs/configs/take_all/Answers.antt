use Rattle.std.proofs.Common.{◌≡◌, ◌<◌, ◌+◌, ◌-◌, ◌*◌, ◌^◌, ◌∷◌, ◌++◌, [], Err, take, min, refl, sym, ◌∙◌, ap, subst, arith, rules, true, false}
use Rattle.std.proofs.lemmas.List.{append-nil}
use Rattle.std.proofs.lemmas.Result.{err_from_is_err_and}
use Rattle.std.specs.Io.KnownBytes.{Consumes}
use Rattle.std.proofs.KnownBytes.{Consumes-nil, Consumes-trans}
use Rattle.lease_proto.specs.declared.limits.TheConstants.{LINE_ROOM}
use Rattle.lease_proto.specs.Frames.{frames_of_rest}
use Rattle.lease_proto.specs.declared.faults.LineFault.{LineFault}
use Rattle.lease_proto.specs.SetupLines.{setup_of}
use Rattle.lease_server.specs.declared.intakes.TheConstants.{MOST_READS}
use Rattle.lease_server.specs.Intakes.{IntakeState, hand_in}
use Rattle.lease_server.specs.Watching.{inner_of, has_failed, reads_of}
use Rattle.vmemd_setup.specs.Setups.{LineFails, TakesLine}
use Rattle.vmemd_setup.proofs.SetupLemmas.{none_taken, one_taken, more_read, line_at, begun_at, read_behind, read_none, size_at, size-hand_in, size-passed}
use Rattle.vmemd_setup.specs.Configs.{MakesAll, ConfigFails}
use Rattle.vmemd_setup.specs.declared.faults.ConfigFault.TheVariants.{Line}
use Rattle.vmemd_setup.specs.declared.faults.ScriptFault.{ScriptFault}
use Rattle.vmemd_setup.specs.declared.faults.ScriptFault.TheVariants.{Setup}
use Rattle.vmemd_setup.proofs.ConfigLemmas.{at_ok, at_err, none_of_front, all_taken, unended_refused, line_not_taken, reading_stops}
use Rattle.vmemd_setup.proofs.configs.take_all.Goals as goal

pub loop-line-init : goal.loop-line-init
loop-line-init g c =
    let none = none_taken g.S.SetupBuilder.takes c.args.setup.now in
    let reads = reads_of c.args.reader.now in
    let least : reads ≡ min (reads + 0) (2 ^ 64 - 1) = omega (arith, c.reads.ensures) in
    rw c.new-input.ensures ([], Consumes-nil _, [], none.0, refl, none.1, refl, omega arith, omega arith, refl, least)

pub returns-in_err-take_line-in-Some-clause-err : goal.returns-in_err-take_line-in-Some-clause-err
returns-in_err-take_line-in-Some-clause-err g c =
    let (input, read, front, setup, hand, counted, going, room, low, works, spent) = c.loop-line.invariant in
    let (text, rest, one, parts, first, behind) = line_at c.loop-line.input.hand front hand c.in-Some.ensures.some.0 in
    let p = err_from_is_err_and c.from_residual.result c.from_residual.ensures.1 in
    let line : c.in-Some.line.now ≡ take LINE_ROOM text = c.in-Some.ensures.some.1 ∙ first in
    let failed = subst (λ l. LineFails g.S.SetupBuilder.refuses g.S.SetupBuilder.can c.loop-line.setup c.loop-line.number (setup_of l) c.in_err-take_line-in-Some.field-0.0)
    line c.in_err-take_line-in-Some.ensures.err in
    rw (p.1, p.2) (line_not_taken g.S.SetupBuilder.takes g.S.SetupBuilder.refuses g.S.SetupBuilder.can c.args.setup.now c.loop-line.setup c.take_line.new.setup
    (g.R.Read.remaining (inner_of c.args.reader.now)) (g.R.Read.remaining (inner_of c.loop-line.reader))
    input front text rest setup c.loop-line.number c.in_err-take_line-in-Some.field-0.0 read counted one parts c.in_err-take_line-in-Some.ensures.unchanged failed)

pub loop-line-smaller-in-Some : goal.loop-line-smaller-in-Some
loop-line-smaller-in-Some g c =
    let old = c.loop-line.input in
    let less = size-passed old.hand c.in-Some.ensures.some.0 in
    subst (λ (v : IntakeState). (MOST_READS - v.reads) * 32768 + size_at v.hand < (MOST_READS - old.reads) * 32768 + size_at old.hand)
    (sym c.pass.ensures) (omega (arith, less))

pub loop-line-preserved-in-Some : goal.loop-line-preserved-in-Some
loop-line-preserved-in-Some g c =
    let (input, read, front, setup, hand, counted, going, room, low, works, spent) = c.loop-line.invariant in
    let (text, rest, one, parts, first, behind) = line_at c.loop-line.input.hand front hand c.in-Some.ensures.some.0 in
    let line : c.in-Some.line.now ≡ take LINE_ROOM text = c.in-Some.ensures.some.1 ∙ first in
    let taken = subst (λ l. TakesLine g.S.SetupBuilder.takes c.loop-line.setup l c.take_line.new.setup) line c.in_ok-take_line-in-Some.ensures.ok in
    let more = one_taken g.S.SetupBuilder.takes c.args.setup.now c.loop-line.setup c.take_line.new.setup input front text rest setup taken parts in
    let less = size-passed c.loop-line.input.hand c.in-Some.ensures.some.0 in
    rw c.pass.ensures (
      input,
      read,
      rest,
      more.0,
      ap (hand_in []) behind,
      ap (λ n. n + 1) (counted ∙ sym more.1),
      going,
      omega (arith, less, room),
      low,
      works,
      spent,
    )

pub returns-in_err-read_on-in-None-clause-err : goal.returns-in_err-read_on-in-None-clause-err
returns-in_err-read_on-in-None-clause-err g c =
    let (input, read, front, setup, hand, counted, going, room, low, works, spent) = c.loop-line.invariant in
    let (one, first) = begun_at c.loop-line.input.hand front hand c.in-None.ensures.none in
    let p = err_from_is_err_and c.from_residual-in_err-read_on-in-None.result c.from_residual-in_err-read_on-in-None.ensures.1 in
    rw (p.1, p.2) (reading_stops g.S.SetupBuilder.takes g.S.SetupBuilder.refuses g.S.SetupBuilder.can c.args.setup.now c.loop-line.setup
    (g.R.Read.remaining (inner_of c.args.reader.now)) (g.R.Read.remaining (inner_of c.loop-line.reader)) (g.R.Read.remaining (inner_of c.read_on.new.reader))
    input front setup c.loop-line.input (has_failed c.loop-line.reader) (has_failed c.read_on.new.reader) c.in_err-read_on-in-None.field-0.0
    read one c.in_err-read_on-in-None.ensures.err)

pub returns-then-not-branch-clause-ok : goal.returns-then-not-branch-clause-ok
returns-then-not-branch-clause-ok g c =
    let (input, read, front, setup, hand, counted, going, room, low, works, spent) = c.loop-line.invariant in
    let (one, first) = begun_at c.loop-line.input.hand front hand c.in-None.ensures.none in
    let (piece, consumes, short, next, more, none) = c.in_ok-read_on-in-None.ensures.ok in
    let over : c.in_ok-read_on-in-None.field-0 ≡ false = search rules in
    let (nothing, at_end, is_end) = none over in
    let stays = read_none c.loop-line.input.hand c.read_on.new.self.hand front piece one first next nothing in
    let line : c.begun.result.now ≡ take LINE_ROOM front = c.begun.ensures ∙ ap (λ h. h.line) (stays ∙ sym hand) ∙ first in
    let unread = g.R.Read.remaining (inner_of c.args.reader.now) in
    let left = g.R.Read.remaining (inner_of c.read_on.new.reader) in
    let all : Consumes unread left input =
    subst (λ l. Consumes unread left l) (ap (λ l. input ++ l) nothing ∙ append-nil input) (Consumes-trans _ _ _ input piece read consumes) in
    at_ok c.refuse_unended.result (c.begun.result.now ≡ []) (MakesAll g.S.SetupBuilder.takes c.args.setup.now unread c.loop-line.setup)
    (λ none. all_taken g.S.SetupBuilder.takes g.S.SetupBuilder.refuses c.args.setup.now c.loop-line.setup unread left input front setup all is_end (none_of_front front (sym line ∙ none)))
    c.refuse_unended.ensures.ok

pub returns-then-not-branch-clause-err : goal.returns-then-not-branch-clause-err
returns-then-not-branch-clause-err g c =
    let (input, read, front, setup, hand, counted, going, room, low, works, spent) = c.loop-line.invariant in
    let (one, first) = begun_at c.loop-line.input.hand front hand c.in-None.ensures.none in
    let (piece, consumes, short, next, more, none) = c.in_ok-read_on-in-None.ensures.ok in
    let over : c.in_ok-read_on-in-None.field-0 ≡ false = search rules in
    let (nothing, at_end, is_end) = none over in
    let stays = read_none c.loop-line.input.hand c.read_on.new.self.hand front piece one first next nothing in
    let line : c.begun.result.now ≡ take LINE_ROOM front = c.begun.ensures ∙ ap (λ h. h.line) (stays ∙ sym hand) ∙ first in
    let unread = g.R.Read.remaining (inner_of c.args.reader.now) in
    let left = g.R.Read.remaining (inner_of c.read_on.new.reader) in
    let all : Consumes unread left input =
    subst (λ l. Consumes unread left l) (ap (λ l. input ++ l) nothing ∙ append-nil input) (Consumes-trans _ _ _ input piece read consumes) in
    let fails : ScriptFault → Type 0 = ConfigFails g.S.SetupBuilder.takes g.S.SetupBuilder.refuses g.S.SetupBuilder.can c.args.setup.now unread left c.loop-line.setup in
    let ends : ScriptFault → Type 0 = λ (fault : ScriptFault). (why : LineFault) × (fault ≡ Setup c.loop-line.number (Line why)) × (frames_of_rest c.begun.result.now ≡ Err why ∷ []) in
    at_err c.refuse_unended.result ends fails
    (λ (fault : ScriptFault) (e : ends fault).
    subst fails (sym e.1)
    (unended_refused g.S.SetupBuilder.takes g.S.SetupBuilder.refuses c.args.setup.now c.loop-line.setup unread left input front setup c.loop-line.number e.0 all is_end counted one
    (subst (λ l. frames_of_rest l ≡ Err e.0 ∷ []) line e.2)))
    c.refuse_unended.ensures.err

pub loop-line-smaller : goal.loop-line-smaller
loop-line-smaller g c =
    let (piece, consumes, short, next, more, none) = c.in_ok-read_on-in-None.ensures.ok in
    let on : c.in_ok-read_on-in-None.field-0 ≡ true = search rules in
    let (some, fresh, not_ended, once) = more on in
    let size = ap size_at next in
    let fits = size-hand_in c.loop-line.input.hand.line piece in
    let bound = c.read_on.ensures.bound in
    let less : (MOST_READS - c.read_on.new.self.reads) * 32768 + size_at c.read_on.new.self.hand
    < (MOST_READS - c.loop-line.input.reads) * 32768 + size_at c.loop-line.input.hand = omega (arith, once, bound, size, fits, short) in
    less

pub loop-line-preserved : goal.loop-line-preserved
loop-line-preserved g c =
    let (input, read, front, setup, hand, counted, going, room, low, works, spent) = c.loop-line.invariant in
    let (one, first) = begun_at c.loop-line.input.hand front hand c.in-None.ensures.none in
    let (piece, consumes, short, next, more, none) = c.in_ok-read_on-in-None.ensures.ok in
    let on : c.in_ok-read_on-in-None.field-0 ≡ true = search rules in
    let (some, fresh, not_ended, once) = more on in
    let size = ap size_at next in
    let fits = size-hand_in c.loop-line.input.hand.line piece in
    let grown = more_read g.S.SetupBuilder.takes c.args.setup.now c.loop-line.setup input front piece setup in (
      input ++ piece,
      Consumes-trans _ _ _ input piece read consumes,
      front ++ piece,
      grown.0,
      read_behind c.loop-line.input.hand c.read_on.new.self.hand front piece one first next,
      counted ∙ ap (λ n. n + 1) (sym grown.1),
      not_ended,
      omega (arith, room, once, size, fits, short),
      c.read_on.ensures.bound.1,
      c.in_ok-read_on-in-None.ensures.works ∙ works,
      omega (arith, spent, once, c.read_on.ensures.counted),
    )
