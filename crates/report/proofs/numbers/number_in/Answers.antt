use Rattle.std.proofs.Common.{◌+◌, sym, ◌∙◌, drop, rules}
use Rattle.report.proofs.Reading.{number_start, number_above, number_end, number_digit, number_other}
use Rattle.report.proofs.numbers.number_in.Goals as goal

pub loop-byte-init : goal.loop-byte-init
loop-byte-init c = (search rules, number_start c.args.most c.args.text.now)

pub returns-then-not-is_ascii_digit : goal.returns-then-not-is_ascii_digit
returns-then-not-is_ascii_digit c =
    let head = c.loop-byte in
    number_other c.args.most head.value head.byte-index c.args.text.now c.loop-byte-test.true
    (sym c.is_ascii_digit.ensures.value ∙ c.if-not-is_ascii_digit.true)
    ∙ head.invariant.1

pub returns-then-from-value : goal.returns-then-from-value
returns-then-from-value c =
    let head = c.loop-byte in
    let text = c.args.text.now in
    sym (number_above c.args.most _ (drop (head.byte-index + 1) text)
    (rw (← c.from.ensures) (rw c.from-in-loop-byte.ensures at c.if-from-value.true)))
    ∙ number_digit c.args.most head.value head.byte-index text c.loop-byte-test.true
    (sym c.is_ascii_digit.ensures.value ∙ c.if-not-is_ascii_digit.false)
    ∙ head.invariant.1

pub loop-byte-preserved : goal.loop-byte-preserved
loop-byte-preserved c =
    let head = c.loop-byte in
    let text = c.args.text.now in (
      rw c.from-in-loop-byte.ensures at c.if-from-value.false,
      rw c.from.ensures
          (number_digit c.args.most head.value head.byte-index text c.loop-byte-test.true
          (sym c.is_ascii_digit.ensures.value ∙ c.if-not-is_ascii_digit.false)
          ∙ head.invariant.1),
    )

pub returns : goal.returns
returns c =
    let head = c.loop-byte in
    sym (number_end c.args.most head.value head.byte-index c.args.text.now head.invariant.0 c.loop-byte-test.false
    head.auto.byte-index-end)
    ∙ head.invariant.1
