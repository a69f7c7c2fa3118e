-- How the search for the state in which a unit began runs along the word and over the states.
-- Assumes nothing.
use Prim.Native.Nat.{ℕ, ◌+◌, ◌≤◌, ◌<◌}
use mathlib.Core.Path.{◌≡◌, sym, ap, ◌∙◌}
use mathlib.Core.List.{List}
use mathlib.Core.Option.{none}
use native.Mathlib.Omega.{arith}
use lib.ListN.{length, get_or, take}
use lib.Seq.{take_all, get_or-take, get_or_at, length-take-le}
use Rattle.facts.specs.Lists.{take_more}
use Rattle.machine.specs.Machine.{Mealy, run, answers}
use Rattle.machine.specs.Machine.Laws.{run_none, run_cons, run_append, answers_none, answers_cons, answers_append}
use Rattle.machine.specs.Machine.Laws.{answers_take, answers_length}
use Rattle.std.specs.Prelude.{Option, Some, None}
use Rattle.desk.specs.Desk.{first_state}
use Rattle.desk.specs.Desk.Laws.{first_nowhere, first_here, first_passed}
use Rattle.desk.specs.Identification.{Follows, Identifies}

-- ---- along the word: the first i answers are right, and state is where the first i commands lead
pub record Following (M : Mealy) (w ys : List ℕ) (s state i : ℕ) : Type 0 where
  pub inside : i ≤ length w
  pub same : answers M s (take i w) ≡ take i ys
  pub at : state ≡ run M s (take i w)

module _ (M : Mealy) (w ys : List ℕ) (s : ℕ) (even : length w ≡ length ys) where
  pub following_start : Following M w ys s s 0
  following_start = record {
    inside = omega arith;
    same = answers_none M s;
    at = sym (run_none M s);
  }

  module _ {state i : ℕ} (h : Following M w ys s state i) (l : i < length w) where
    answer_here : get_or (answers M s w) i 0 ≡ M.answer state (get_or w i 0)
    answer_here =
        let long = answers_length M s (take i w) ∙ length-take-le i w (omega arith) in
        rw (
          ← get_or-take (i + 1) (answers M s w) i 0 (omega arith),
          answers_take,
          take_more w i l,
          answers_append,
          answers_cons,
          get_or_at (answers M s (take i w)) _ _ 0 i long,
          h.at,
        )

    -- an answer that differs
    pub following_differs : {v y : ℕ} → v ≡ M.answer state (get_or w i 0) → y ≡ get_or ys i 0 → (v ≡ y → ⊥)
        → Follows M w ys s None
    following_differs ve ye d = record {
      agrees = λ t. cc;
      ends = λ t. cc;
      differs = λ t q. d (ve ∙ sym answer_here ∙ ap (λ (x : List ℕ). get_or x i 0) q ∙ sym ye);
    }

    -- one that is right
    pub following_next : {v y t : ℕ} → v ≡ M.answer state (get_or w i 0) → y ≡ get_or ys i 0 → v ≡ y
        → t ≡ M.next state (get_or w i 0) → Following M w ys s t (i + 1)
    following_next {v} {y} {t} ve ye q te = record {
      inside = omega arith;
      same =
          let right : M.answer state (get_or w i 0) ≡ get_or ys i 0 = sym ve ∙ q ∙ ye in
          let more = take_more ys i (omega arith) in
          rw (take_more w i l, answers_append, answers_cons, answers_none, h.same, ← h.at, right, more);
      at = rw (take_more w i l, run_append, run_cons, run_none, ← h.at) te;
    }

  -- the end of the word
  pub following_ends : {state i : ℕ} → Following M w ys s state i → length w ≤ i
      → Follows M w ys s (Some state)
  following_ends {state} {i} h l =
      let whole : take i w ≡ w = take_all i w l in
      let given : take i ys ≡ ys = take_all i ys (omega arith) in
      record {
        agrees = λ t. rw (whole, given) at h.same;
        ends = λ t. let e : state ≡ run M s w = (rw whole at h.at) in cc;
        differs = λ t q. cc;
      }

-- ---- over the states: none before s answers so
module _ (M : Mealy) (w ys : List ℕ) where
  pub identifying_start : first_state M w ys 0 ≡ none
  identifying_start = first_nowhere M w ys

  module _ {s : ℕ} (h : first_state M w ys s ≡ none) {r : Option ℕ} (f : Follows M w ys s r) where
    pub identifying_found : s < M.n → {end : ℕ} → r ≡ Some end → Identifies M w ys r
    identifying_found l t = record {
      found = λ q. (s, first_here M w ys s M.n h (f.agrees q) l, f.ends q);
      missing = λ e. cc;
    }

    pub identifying_next : r ≡ None → first_state M w ys (s + 1) ≡ none
    identifying_next e = first_passed M w ys s h (f.differs e)

  pub identifying_none : {s : ℕ} → first_state M w ys s ≡ none → s ≡ M.n → Identifies M w ys None
  identifying_none h e = record {
    found = λ t. cc;
    missing = λ t. ap (first_state M w ys) (sym e) ∙ h;
  }
