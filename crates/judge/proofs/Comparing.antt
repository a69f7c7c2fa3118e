-- How the loop of `compare` runs along the answers, and what its three ends show.
-- Assumes nothing.
use Prim.Native.Nat.{ℕ, ◌+◌, ◌≤◌, ◌<◌}
use mathlib.Core.Path.{◌≡◌, refl, sym, ap, ◌∙◌}
use mathlib.Core.List.{List}
use native.Mathlib.Omega.{arith}
use lib.ListN.{length, get_or}
use lib.Seq.{ext_get_or}
use borrow.Author.Count.{below_more}
use Rattle.machine.specs.Machine.{Mealy, answers, state_at}
use Rattle.machine.specs.Machine.Laws.{answers_length, answer_at, state_start, state_next}
use Rattle.judge.specs.Answer.{Answer, Pass, Unfinished}
use Rattle.judge.specs.Judging.{difference, verdict}
use Rattle.judge.specs.Comparison.{CompareRequires}
use Rattle.judge.specs.Judging.Verdict.{Right, passed, unfinished, differs_verdict, judged_verdict}

-- the answers before i are right, and s is the state there
pub record Compared (M : Mealy) (xs ys : List ℕ) (i s : ℕ) : Type 0 where
  pub inside : i ≤ length ys
  pub state : s ≡ state_at M xs i
  pub right : Right M xs ys i

module _ (M : Mealy) (xs ys : List ℕ) where
  pub compared_start : {s : ℕ} → s ≡ M.start → Compared M xs ys 0 s
  compared_start e = record {
    inside = omega arith;
    state = e ∙ sym (state_start M xs);
    right = λ i l. absurd (omega arith);
  }

  module _ (h : CompareRequires M xs ys) {i s : ℕ} (c : Compared M xs ys i s) where
    module _ (l : i < length ys) where
      inside_sequence : i < length xs
      inside_sequence = omega (arith, h.few)

      specified_is : {v : ℕ} → v ≡ M.answer s (get_or xs i 0) → v ≡ get_or (answers M M.start xs) i 0
      specified_is ve = rw (answer_at M xs i inside_sequence, ← c.state) ve

      -- an answer that differs
      pub compared_differs : {v g : ℕ} → v ≡ M.answer s (get_or xs i 0) → g ≡ get_or ys i 0 → (v ≡ g → ⊥) → {a : Answer}
          → a ≡ difference i v g → a ≡ verdict M xs ys
      compared_differs ve ge d ae = ae ∙ differs_verdict M xs ys h.few l c.right d (specified_is ve) ge

      -- one that is right
      pub compared_next : {v g t : ℕ} → v ≡ M.answer s (get_or xs i 0) → g ≡ get_or ys i 0 → v ≡ g
          → t ≡ M.next s (get_or xs i 0) → Compared M xs ys (i + 1) t
      compared_next {v} {g} ve ge q te = record {
        inside = omega arith;
        state = rw (state_next M xs i inside_sequence, ← c.state) te;
        right =
            below_more (λ j. get_or (answers M M.start xs) j 0 ≡ get_or ys j 0) i c.right
            (sym (specified_is ve) ∙ q ∙ ge);
      }

    module _ (l : length ys ≤ i) where
      ended : i ≡ length ys
      ended = omega (arith, c.inside)

      pub compared_unfinished : length ys < length xs → Unfinished (length ys) ≡ verdict M xs ys
      compared_unfinished k =
          judged_verdict M xs ys h.few
          (unfinished {number = length ys} refl k (λ j jl. c.right j (omega (arith, ended))))

      pub compared_passed : length xs ≤ length ys → Pass (length ys) s ≡ verdict M xs ys
      compared_passed k =
          let all : length ys ≡ length xs = omega (arith, h.few) in
          let long : length (answers M M.start xs) ≡ length ys = answers_length M M.start xs ∙ sym all in
          judged_verdict M xs ys h.few
          (passed (sym
          (ext_get_or 0 (answers M M.start xs) ys long (λ j jl. c.right j (omega (arith, long, ended))))) all
          (c.state ∙ ap (state_at M xs) (ended ∙ all)))
