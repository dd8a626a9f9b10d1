use Rattle.std.proofs.Common.{Bool, ◌≡◌, ◌∙◌, sym, drop, subst, arith}
use Rattle.lease_proto.specs.Words.{is_sentence}
use Rattle.lease_proto.proofs.SentenceLemmas.{goes_on, sentence_begun, goes_ended, past_byte, past_space, no_word_begun, no_space_behind}
use Rattle.lease_proto.proofs.sentences.is_sentence.Goals as goal
use Rattle.lease_proto.proofs.sentences.is_sentence.Goals.{then-is_word_byte, else-is_word_byte+then-inside+then-byte-eq32, else-inside-via-then-inside+else-byte-eq32, else-inside-via-else-inside}

pub loop-byte-init : goal.loop-byte-init
loop-byte-init c = sentence_begun c.args.line.now

pub returns-else-inside : goal.returns-else-inside
returns-else-inside c =
    let odd = sym c.is_word_byte.ensures ∙ c.if-is_word_byte.false in
    let at = λ (inside : Bool). is_sentence c.args.line.now ≡ goes_on inside (drop c.loop-byte.byte-index c.args.line.now) in
    elim c.else-inside.branch [
      | else-inside-via-then-inside+else-byte-eq32 w ↦ sym (no_space_behind c.args.line.now c.loop-byte.byte-index c.loop-byte-test.true odd w.if-byte-eq32.false (subst at w.if-inside.true c.loop-byte.invariant))
      | else-inside-via-else-inside w ↦ sym (no_word_begun c.args.line.now c.loop-byte.byte-index c.loop-byte-test.true odd (subst at w.if-inside.false c.loop-byte.invariant))
    ]

pub loop-byte-preserved : goal.loop-byte-preserved
loop-byte-preserved c =
    let at = λ (inside : Bool). is_sentence c.args.line.now ≡ goes_on inside (drop c.loop-byte.byte-index c.args.line.now) in
    elim c.if-is_word_byte.branch [
      | then-is_word_byte w ↦ rw w.inside-is (past_byte c.args.line.now c.loop-byte.byte-index c.loop-byte.inside c.loop-byte-test.true (sym c.is_word_byte.ensures ∙ w.if-is_word_byte.true) c.loop-byte.invariant)
      | else-is_word_byte+then-inside+then-byte-eq32 w ↦ rw w.inside-is (past_space c.args.line.now c.loop-byte.byte-index c.loop-byte-test.true (sym c.is_word_byte.ensures ∙ w.if-is_word_byte.false) w.if-byte-eq32.true (subst at w.if-inside.true c.loop-byte.invariant))
    ]

pub returns : goal.returns
returns c = sym (goes_ended c.args.line.now _ c.loop-byte.inside (omega arith) c.loop-byte.invariant)
