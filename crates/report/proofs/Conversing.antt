-- What is told of a line that is no answer, what a line is, and the turn that it makes.
-- Assumes nothing.
use Prim.Native.Nat.{ℕ, ◌≤◌, ◌<◌}
use mathlib.Core.Path.{◌≡◌, sym, ap, ◌∙◌}
use mathlib.Core.Bool.{Bool, cond, ◌&&◌}
use mathlib.Core.Logic.{inl, inr}
use mathlib.Core.List.{List, [], ◌++◌, append-nil}
use mathlib.Core.Option.{some, some-ne-none}
use Rattle.std.specs.Prelude.{Some, None}
use native.Mathlib.Omega.{arith}
use borrow.Author.Tests.{lt-ltb, le-ltb, le-leb, lt-leb, leb-true}
use lib.Dec.{leb}
use lib.ListN.{length}
use Rattle.facts.specs.Tests.{true_or_false, both_true}
use Rattle.facts.specs.Decimal.{bytes, all_digits, value_from, number_in}
use Rattle.desk.specs.declared.desk.Desk.{Desk}
use Rattle.desk.specs.declared.desk.Order.TheVariants.{Home}
use Rattle.desk.specs.declared.stepping.Stepped.{Stepped}
use Rattle.desk.specs.Service.{Steps}
use Rattle.report.specs.declared.dialogue.Reply.{Reply}
use Rattle.report.specs.declared.dialogue.Reply.TheVariants.{Answer, Other, Long}
use Rattle.report.specs.declared.dialogue.Turned.{Turned}
use Rattle.report.specs.Numbers.{number_of}
use Rattle.report.specs.Output.{Writes}
use Rattle.report.specs.Output.Laws.{writes_same}
use Rattle.report.specs.Dialogue.{most_line, reply_of, reply, other_line, stop_line, others_line, turn_output}
use Rattle.report.specs.Dialogue.{turn_over}
use Rattle.report.specs.Dialogue.{turn_desk, turn_left, Turns}

-- ---- a line that is no answer
pub others_more : (left : ℕ) → 1 < left → other_line ≡ others_line left
unfolding others_line
others_more left l =
    sym (append-nil other_line)
    ∙ ap (λ (b : Bool). other_line ++ cond b [] (stop_line (bytes "100 lines were no answer"))) (sym (lt-ltb 1 left l))

pub others_last : (left : ℕ) → left ≤ 1 → other_line ++ stop_line (bytes "100 lines were no answer") ≡ others_line left
unfolding others_line
others_last left l =
    ap (λ (b : Bool). other_line ++ cond b [] (stop_line (bytes "100 lines were no answer"))) (sym (le-ltb 1 left l))

-- ---- what a line is
-- a number that was read is at most the most
pub number_most : (most : ℕ) (w : List ℕ) {v : ℕ} → some v ≡ number_in most w → v ≤ most
unfolding number_in
number_most most w {v} f = let e = sym f in elim (true_or_false (all_digits w && leb (value_from 0 w) most)) [
  | inl t ↦ (let here : value_from 0 w ≡ v = cc (rw t at e) in
      let l = leb-true (value_from 0 w) most (both_true (all_digits w) _ t).1 in
      omega arith)
  | inr t ↦ absurd (some-ne-none v (sym (rw t at e)))
]

module _ (line : List ℕ) where
  pub reply_long : most_line < length line → Long ≡ reply line
  unfolding reply
  reply_long l = rw (lt-ltb most_line (length line) l)

  pub reply_empty : length line ≡ 0 → Other ≡ reply line
  unfolding reply
  reply_empty e =
      rw (le-ltb most_line (length line) (omega arith), lt-leb 1 (length line) (omega arith))

  pub reply_more : length line ≤ most_line → 3 < length line → Other ≡ reply line
  unfolding reply
  reply_more l m =
      rw (le-ltb most_line (length line) l, le-leb 1 (length line) (omega arith), lt-leb (length line) 3 m)

  -- one to three bytes: what their number gives
  reply_few : 1 ≤ length line → length line ≤ 3 → reply_of (number_in 255 line) ≡ reply line
  unfolding reply
  reply_few l m =
      rw (le-ltb most_line (length line) (omega arith), le-leb 1 (length line) l, le-leb (length line) 3 m)

  -- what reading that number returned
  pub reply_answer : {v : ℕ} → (length line ≡ 0 → ⊥) → length line ≤ 3 → number_of (Some v) ≡ number_in 255 line
      → Answer v ≡ reply line
  reply_answer d m e = ap reply_of e ∙ reply_few (omega arith) m

  pub reply_none : (length line ≡ 0 → ⊥) → length line ≤ 3 → number_of None ≡ number_in 255 line → Other ≡ reply line
  reply_none d m e = ap reply_of e ∙ reply_few (omega arith) m

-- ---- a turn, by what the line is
-- of a line that is no answer no step is made: any will do
abbrev pub unmade : Desk → Stepped
unmade d = record { order = Home 0; desk = d }

module _ (d : Desk) (left : ℕ) (line before after : List ℕ) {t : Turned} where
  pub turns_by : {what : Reply} → what ≡ reply line → (p : Stepped) → ((y : ℕ) → what ≡ Answer y → Steps d y p)
      → t.desk ≡ turn_desk p what d → t.left ≡ turn_left what left → t.over ≡ turn_over p what left
      → Writes (turn_output p what left) before after t.written → Turns d left line before after t
  turns_by e p steps desk left_after over written = record {
    stepped = p;
    steps = λ y q. steps y (e ∙ q);
    desk = desk ∙ ap (λ (r : Reply). turn_desk p r d) e;
    left_after = left_after ∙ ap (λ (r : Reply). turn_left r left) e;
    over = over ∙ ap (λ (r : Reply). turn_over p r left) e;
    written = writes_same written (ap (λ (r : Reply). turn_output p r left) (sym e));
  }
