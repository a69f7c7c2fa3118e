-- The laws of what the desk orders: the state in which a unit began, the order by it, and the order along the course
-- of a unit whose answers are right so far.
use Rattle.std.specs.Prelude.{ℕ, ◌+◌, ◌-◌, ◌≤◌, ◌<◌, ◌≡◌, true, length, get_or, take}
use Rattle.std.proofs.Math.Path.{refl, ap}
use Rattle.std.proofs.Common.{sym, ◌∙◌, arith}
use Rattle.std.proofs.Math.Logic.{inl, inr}
use mathlib.Core.List.{List, [], ◌∷◌, ◌++◌, append_assoc, append-nil}
use Rattle.std.proofs.Math.Option
use Rattle.std.proofs.Math.Option.{Option, none, some, mem_unique}
use Rattle.std.proofs.Math.ListN.{length-append}
use Rattle.std.proofs.Math.Seq.{take-append_seam, take-append-le, get_or-append_seam}
use borrow.Author.Tests.{lt-ltb, le-ltb}
use borrow.Author.Count.{below_more}
use Rattle.facts.specs.Tests.{true_or_false, if_true, if_false}
use Rattle.facts.specs.Lists.{same, same_refl, same_equal}
use Rattle.facts.specs.CommonPrefix.{agreed, agreed_front, agreed_then}
use Rattle.facts.specs.FirstOf.{some_none, nothing, value, seen, guard, guard_some, guard_true, guard_false}
use Rattle.facts.specs.FirstOf.{first_of, first_some, least_first, none_first, first_none as each_none}
use Rattle.machine.specs.Machine.{Mealy, run, answers, Separates}
use Rattle.machine.specs.Machine.Laws.{run_none, run_cons, run_append, answers_none, answers_cons, answers_append}
use Rattle.machine.specs.Machine.Laws.{answers_length, answers_take}
use Rattle.build.specs.Transfer.{transfer}
use Rattle.build.specs.Transfer.Laws.{transfer_below, transfer_rest}
use Rattle.desk.specs.declared.desk.Order.TheVariants.{Command, Home, Stranger}
use Rattle.desk.specs.declared.desk.Phase.TheVariants.{Driving}
use Rattle.desk.specs.Desk.{first_state, began_in, course, order_at, order_from, order_of, state_after, phase_for}
use Rattle.desk.specs.Desk.{phase_of}

-- ---- the state in which a unit began
module _ (M : Mealy) (w ys : List ℕ) where
  -- one that answers so passes the test
  right : (s : ℕ) → answers M s w ≡ ys → same (answers M s w) ys ≡ true
  right s e = ap (same (answers M s w)) (sym e) ∙ same_refl (answers M s w)

  pub first_nowhere : first_state M w ys 0 ≡ none
  unfolding first_state first_of
  first_nowhere = refl

  -- none before m answers so, and m does
  pub first_here : (m n : ℕ) → first_state M w ys m ≡ none → answers M m w ≡ ys → m < n → first_state M w ys n ≡ some m
  unfolding first_state
  first_here m n e q l =
      least_first n (λ s. guard (same (answers M s w) ys) (some s))
      (record { m = m; low = l; found = guard_true (some m) (right m q); passed = each_none m _ e })

  -- nor does m
  pub first_passed : (m : ℕ) → first_state M w ys m ≡ none → (answers M m w ≡ ys → ⊥) → first_state M w ys (m + 1) ≡ none
  unfolding first_state
  first_passed m e d =
      none_first (m + 1) (λ s. guard (same (answers M s w) ys) (some s))
      (λ i l. below_more (λ s. guard (same (answers M s w) ys) (some s) ≡ none) m (each_none m _ e)
      (elim (true_or_false (same (answers M m w) ys)) [
        | inl q ↦ absurd (d (same_equal (answers M m w) ys q))
        | inr q ↦ guard_false (some m) q
      ]) i l)

  -- what is found is a state that answers so
  pub first_answers : (m : ℕ) {s : ℕ} → first_state M w ys m ≡ some s → (s < m) × (answers M s w ≡ ys)
  unfolding first_state
  first_answers m {s} e =
      let l = first_some m (λ s. guard (same (answers M s w) ys) (some s)) e in
      let g = guard_some (same (answers M l.m w) ys) (some l.m) l.found in
      let here : s ≡ l.m = mem_unique g.1 refl in
      rw here (l.low, same_equal (answers M l.m w) ys g.0)

  -- where none is found no state answers so
  pub first_none : (m : ℕ) → first_state M w ys m ≡ none → (s : ℕ) → s < m → answers M s w ≡ ys → ⊥
  unfolding first_state
  first_none m e s l q = some_none (guard_true (some s) (right s q)) (each_none m _ e s l)

  -- the word separates: the one state that answers so is found
  pub first_one : Separates M w → (s : ℕ) → s < M.n → answers M s w ≡ ys → first_state M w ys M.n ≡ some s
  first_one h s l e = elim (seen (first_state M w ys M.n)) [
    | nothing p ↦ absurd (first_none M.n p s l e)
    | value r p ↦ (let f = first_answers M.n p in p ∙ ap some (h r s f.0 l (f.1 ∙ sym e)))
  ]

-- ---- the order by it
module _ (M : Mealy) (w ys : List ℕ) where
  pub began_is : began_in M w ys ≡ first_state M w (take (length w) ys) M.n
  unfolding began_in
  began_is = refl

  -- later answers change nothing of it
  pub began_more : length w ≤ length ys → (zs : List ℕ) → began_in M w (ys ++ zs) ≡ began_in M w ys
  unfolding began_in
  began_more l zs = ap (λ (x : List ℕ). first_state M w x M.n) (take-append-le (length w) ys zs l)

  pub order_reading : length ys < length w → order_of M w ys ≡ Command (get_or w (length ys) 0)
  unfolding order_of
  order_reading l = if_true _ _ (lt-ltb _ _ l)

  pub order_read : length w ≤ length ys → order_of M w ys ≡ order_from M w ys (began_in M w ys)
  unfolding order_of
  order_read l = if_false _ _ (le-ltb _ _ l)

  pub order_none : length w ≤ length ys → began_in M w ys ≡ none → order_of M w ys ≡ Stranger (length w - 1)
  unfolding order_from
  order_none l e = order_read l ∙ (rw e)

  pub order_some : length w ≤ length ys → {s : ℕ} → began_in M w ys ≡ some s
      → order_of M w ys ≡ order_at (course M w s) ys (agreed (answers M s (course M w s)) ys)
  unfolding order_from
  order_some l e = order_read l ∙ (rw e)

module _ (xs ys : List ℕ) {right : ℕ} where
  pub at_stranger : right < length xs → right < length ys → order_at xs ys right ≡ Stranger right
  unfolding order_at
  at_stranger l k = if_true _ _ (lt-ltb _ _ l) ∙ if_true _ _ (lt-ltb _ _ k)

  pub at_command : right < length xs → length ys ≤ right → order_at xs ys right ≡ Command (get_or xs right 0)
  unfolding order_at
  at_command l k = if_true _ _ (lt-ltb _ _ l) ∙ if_false _ _ (le-ltb _ _ k)

  pub at_home : length xs ≤ right → order_at xs ys right ≡ Home (length xs)
  unfolding order_at
  at_home l = if_false _ _ (le-ltb _ _ l)

-- ---- the course
module _ (M : Mealy) (w : List ℕ) (s : ℕ) where
  pub course_is : {t : List ℕ} → transfer M (run M s w) M.start ≡ some t → course M w s ≡ w ++ t
  unfolding course
  course_is e = ap (λ (o : Option (List ℕ)). w ++ Option.get_or o []) e

  -- it has at most L + n - 1 commands
  pub course_short : 1 ≤ M.n → length (course M w s) + 1 ≤ length w + M.n
  unfolding course
  course_short p = elim (seen (transfer M (run M s w) M.start)) [
    | nothing e ↦ rw e (omega (arith, length-append w []))
    | value t e ↦ rw e (omega (arith, length-append w t, transfer_below M (run M s w) M.start e))
  ]

-- ---- along the course: a unit that began in s was sent the commands v and gave the answers ys, all right, the word's
-- among them; what is left is the transfer from where it is
pub record Along (M : Mealy) (w : List ℕ) (s : ℕ) (v rest ys : List ℕ) : Type 0 where
  pub state : s < M.n
  pub splits : course M w s ≡ v ++ rest
  pub long : length w ≤ length v
  pub answered : ys ≡ answers M s v
  pub drives : transfer M (run M s v) M.start ≡ some rest

module _ (M : Mealy) (w : List ℕ) where
  -- the word is answered as s does
  pub along_word : (s : ℕ) → s < M.n → {t : List ℕ} → transfer M (run M s w) M.start ≡ some t
      → Along M w s w t (answers M s w)
  along_word s l e = record { state = l; splits = course_is M w s e; long = omega arith; answered = refl; drives = e }

  module _ {s : ℕ} {v rest ys : List ℕ} (h : Along M w s v rest ys) where
    pub along_length : length ys ≡ length v
    along_length = ap length h.answered ∙ answers_length M s v

    pub along_read : length w ≤ length ys
    along_read = omega (arith, along_length, h.long)

    word_first : take (length w) v ≡ w
    unfolding course
    word_first = rw (← take-append-le (length w) v rest h.long, ← h.splits, take-append_seam)

    pub along_began : Separates M w → (zs : List ℕ) → began_in M w (ys ++ zs) ≡ some s
    along_began separates zs =
        began_more M w ys along_read zs
        ∙ began_is M w ys
        ∙ first_one M w (take (length w) ys) separates s h.state (rw (h.answered, answers_take, word_first))

    along_order : Separates M w → (zs : List ℕ)
        → order_of M w (ys ++ zs) ≡ order_at (v ++ rest) (ys ++ zs) (agreed (answers M s (v ++ rest)) (ys ++ zs))
    along_order separates zs =
        rw (← h.splits)
        (order_some M w (ys ++ zs) (omega (arith, along_read, length-append ys zs)) (along_began separates zs))

    -- all of ys agree
    along_now : Separates M w → order_of M w ys ≡ order_at (v ++ rest) ys (length v)
    along_now separates =
        let all : agreed (answers M s (v ++ rest)) ys ≡ length v =
        rw (h.answered, answers_append, agreed_front, answers_length) in
        rw all at (rw append-nil at (along_order separates []))

    -- all is sent: home
    pub along_home : Separates M w → rest ≡ [] → order_of M w ys ≡ Home (length v)
    along_home separates e =
        let whole : length (v ++ rest) ≡ length v = rw (e, append-nil) in
        along_now separates ∙ at_home (v ++ rest) ys (omega arith) ∙ ap Home whole

    -- the next command of the rest
    module _ (c : ℕ) (u : List ℕ) (re : rest ≡ c ∷ u) where
      more_left : length v < length (v ++ rest)
      more_left = omega (arith, length-append v rest, ap length re)

      pub along_command : Separates M w → order_of M w ys ≡ Command c
      along_command separates =
          along_now separates
          ∙ at_command (v ++ rest) ys more_left (omega (arith, along_length))
          ∙ (rw (re, get_or-append_seam))

      -- a wrong answer to it
      pub along_differs : Separates M w → (y : ℕ) → (M.answer (run M s v) c ≡ y → ⊥)
          → order_of M w (ys ++ (y ∷ [])) ≡ Stranger (length ys)
      along_differs separates y d =
          let right : agreed (answers M s (v ++ rest)) (ys ++ (y ∷ [])) ≡ length ys =
          rw (re, answers_append, ← h.answered, answers_cons, agreed_then _ _ _ _ _ d) in
          along_order separates (y ∷ [])
          ∙ ap (order_at (v ++ rest) (ys ++ (y ∷ []))) right
          ∙ at_stranger (v ++ rest) (ys ++ (y ∷ [])) (omega (arith, more_left, along_length))
          (omega (arith, length-append ys (y ∷ [])))

      -- where it leads
      pub along_reached : run M s (v ++ (c ∷ [])) ≡ M.next (run M s v) c
      along_reached = rw (run_append, run_cons, run_none)

      -- the right answer to it
      pub along_next : (y : ℕ) → M.answer (run M s v) c ≡ y → Along M w s (v ++ (c ∷ [])) u (ys ++ (y ∷ []))
      along_next y e = record {
        state = h.state;
        splits = h.splits ∙ ap (◌++◌ v) re ∙ sym (append_assoc v (c ∷ []) u);
        long = omega (arith, h.long, length-append v (c ∷ []));
        answered = rw (h.answered, answers_append, answers_cons, answers_none, e);
        drives = rw along_reached (transfer_rest M (run M s v) M.start c (h.drives ∙ ap some re)).1;
      }

      -- the phase in which it waits
      pub along_phase : Separates M w → phase_of M w ys ≡ Driving (run M s v)
      unfolding phase_of phase_for state_after
      along_phase separates =
          let began : began_in M w ys ≡ some s = rw append-nil at (along_began separates []) in
          rw (along_command separates, le-ltb _ _ along_read, began, h.splits, along_length, take-append_seam)
