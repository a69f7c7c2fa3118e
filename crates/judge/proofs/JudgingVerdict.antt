-- The laws of the verdict that go from the verdict to what holds of the answers (specs/Judging/Verdict.antt has the
-- definitions and the other direction). An edit of what a result says of the answers is refused here and there.
use Rattle.std.specs.Prelude.{ℕ, ◌≤◌, ◌<◌, refl, List, length, get_or}
use Rattle.std.proofs.Common.{sym, ◌∙◌, inl, inr, arith, ext_get_or}
use Rattle.facts.specs.Numbers.{equal_or_not, less_or_not}
use Rattle.facts.specs.CommonPrefix.{Agreed, agreed_holds}
use Rattle.machine.specs.Machine.{Mealy, no_answer, answers}
use Rattle.machine.specs.Machine.Laws.{answers_length}
use Rattle.judge.specs.Judging.{difference, result_at, verdict}
use Rattle.judge.specs.Judging.Verdict.{Judged, passed, wrong, unheard, unfinished, difference_wrong}
use Rattle.judge.specs.Judging.Verdict.{difference_unheard, at_difference, at_unfinished, at_passed}

module _ (M : Mealy) (xs ys : List ℕ) (few : length ys ≤ length xs) where
  abbrev specified : List ℕ
  specified = answers M M.start xs

  judged_difference : {p : ℕ} → Agreed specified ys p → p < length ys
      → Judged M xs ys (difference p (get_or specified p 0) (get_or ys p 0))
  judged_difference {p} h l = elim (equal_or_not (get_or ys p 0) no_answer) [
    | inl e ↦ rw (difference_unheard p (get_or specified p 0) (get_or ys p 0) e)
        (unheard l h.before (λ q. h.here (omega (arith, answers_length M M.start xs)) l (q ∙ sym e)) e)
    | inr some ↦ rw (difference_wrong p (get_or specified p 0) (get_or ys p 0) some)
        (wrong l h.before (h.here (omega (arith, answers_length M M.start xs)) l) some refl refl)
  ]

  judged_by : {p : ℕ} → Agreed specified ys p → Judged M xs ys (result_at M xs ys p)
  judged_by {p} h = elim (less_or_not p (length ys)) [
    | inl l ↦ rw (at_difference M xs ys few l) (judged_difference h l)
    | inr l ↦ elim (less_or_not p (length xs)) [
      | inl k ↦ rw (at_unfinished M xs ys few l k) (unfinished {number = p} (omega (arith, h.in_second)) k h.before)
      | inr k ↦ rw (at_passed M xs ys few l k)
          (passed (sym (ext_get_or 0 specified ys (omega (arith, answers_length M M.start xs, h.in_second))
          (λ i il. h.before i (omega (arith, answers_length M M.start xs))))) refl refl)
    ]
  ]

  pub verdict_judged : Judged M xs ys (verdict M xs ys)
  unfolding verdict
  verdict_judged = judged_by (agreed_holds specified ys)
