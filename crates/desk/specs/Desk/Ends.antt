-- The laws of ends: the desk has ended after L + n - 1 answers at the latest, whatever they are, and what comes after
-- its end changes nothing; and what order and phase say of each other.
use Rattle.std.specs.Prelude.{ℕ, ◌+◌, ◌≤◌, ◌<◌, ◌≡◌, true, false, List, ◌++◌, length}
use Rattle.std.proofs.Math.Path.{refl, ap}
use Rattle.std.proofs.Common.{sym, ◌∙◌, true≢false, arith, length-append, lt-ltb, le-ltb}
use Rattle.std.proofs.Math.Logic.{inl, inr}
use Rattle.facts.specs.Tests.{if_true}
use Rattle.facts.specs.Numbers.{less_or_not}
use Rattle.facts.specs.CommonPrefix.{agreed, agreed_longer, agreed_differ}
use Rattle.facts.specs.FirstOf.{nothing, value, seen}
use Rattle.machine.specs.Machine.{Mealy, answers}
use Rattle.machine.specs.Machine.Laws.{answers_length}
use Rattle.desk.specs.declared.desk.Order.{Order}
use Rattle.desk.specs.declared.desk.Order.TheVariants.{Command, Home, Stranger}
use Rattle.desk.specs.declared.desk.Phase.{Phase}
use Rattle.desk.specs.declared.desk.Phase.TheVariants.{Reading, Driving, Home as HomePhase}
use Rattle.desk.specs.declared.desk.Phase.TheVariants.{Stranger as StrangerPhase}
use Rattle.desk.specs.Desk.{began_in, course, order_at, order_of, is_end, phase_for, phase_of}
use Rattle.desk.specs.Desk.Laws.{began_more, order_reading, order_none, order_some}
use Rattle.desk.specs.Desk.Laws.{at_stranger, at_command, at_home, course_short}

-- a command is no end
command_ends : {A : Type 0} {o : Order} {c : ℕ} → o ≡ Command c → is_end o ≡ true → A
command_ends e t = let z : false ≡ true = cc in absurd (true≢false (sym z))

module _ (M : Mealy) (w ys : List ℕ) where
  -- before the word is answered there is no end
  pub end_read : is_end (order_of M w ys) ≡ true → length w ≤ length ys
  end_read t = elim (less_or_not (length ys) (length w)) [
    | inl l ↦ command_ends (order_reading M w ys l) t
    | inr l ↦ l
  ]

  -- ---- the bound
  pub order_ends : 1 ≤ M.n → length w + M.n ≤ length ys + 1 → is_end (order_of M w ys) ≡ true
  order_ends one l =
      let read : length w ≤ length ys = omega arith in
      elim (seen (began_in M w ys)) [
        | nothing e ↦ ap is_end (order_none M w ys read e)
        | value s e ↦ ap is_end (order_some M w ys read e)
            ∙ at (course M w s) _ (omega (arith, course_short M w s one))
      ]
    where
      at : (xs : List ℕ) (right : ℕ) → length xs ≤ length ys → is_end (order_at xs ys right) ≡ true
      at xs right k = elim (less_or_not right (length xs)) [
        | inl low ↦ ap is_end (at_stranger xs ys low (omega arith))
        | inr all ↦ ap is_end (at_home xs ys all)
      ]

  -- ---- what comes after an end
  pub order_repeats : is_end (order_of M w ys) ≡ true → (zs : List ℕ) → order_of M w (ys ++ zs) ≡ order_of M w ys
  order_repeats t zs =
      let read = end_read t in
      let later : length w ≤ length (ys ++ zs) = omega (arith, read, length-append ys zs) in
      elim (seen (began_in M w ys)) [
        | nothing e ↦ order_none M w (ys ++ zs) later (began_more M w ys read zs ∙ e) ∙ sym (order_none M w ys read e)
        | value s e ↦ (let here = order_some M w ys read e in
            order_some M w (ys ++ zs) later (began_more M w ys read zs ∙ e)
            ∙ at s (course M w s) (ap is_end (sym here) ∙ t)
            ∙ sym here)
      ]
    where
      at : (s : ℕ) (xs : List ℕ) → is_end (order_at xs ys (agreed (answers M s xs) ys)) ≡ true
          → order_at xs (ys ++ zs) (agreed (answers M s xs) (ys ++ zs)) ≡ order_at xs ys (agreed (answers M s xs) ys)
      at s xs u = elim (less_or_not (agreed (answers M s xs) ys) (length xs)) [
        | inl low ↦ elim (less_or_not (agreed (answers M s xs) ys) (length ys)) [
          | inl inside ↦ ap (order_at xs (ys ++ zs)) (agreed_differ (answers M s xs) ys zs inside)
              ∙ at_stranger xs (ys ++ zs) low (omega (arith, length-append ys zs))
              ∙ sym (at_stranger xs ys low inside)
          | inr all ↦ command_ends (at_command xs ys low all) u
        ]
        | inr all ↦ ap (order_at xs (ys ++ zs))
            (agreed_longer (answers M s xs) ys zs (omega (arith, answers_length M s xs)))
            ∙ at_home xs (ys ++ zs) all
            ∙ sym (at_home xs ys all)
      ]

  -- ---- the phase of an order
  pub phase_reading : length ys < length w → phase_of M w ys ≡ Reading (length ys)
  unfolding phase_of phase_for
  phase_reading l = ap (phase_for M w ys) (order_reading M w ys l) ∙ if_true _ _ (lt-ltb _ _ l)

  pub phase_home : {n : ℕ} → order_of M w ys ≡ Home n → phase_of M w ys ≡ HomePhase n
  unfolding phase_of phase_for
  phase_home e = ap (phase_for M w ys) e

  pub phase_stranger : {p : ℕ} → order_of M w ys ≡ Stranger p → phase_of M w ys ≡ StrangerPhase p
  unfolding phase_of phase_for
  phase_stranger e = ap (phase_for M w ys) e

  -- ---- and what a phase says
  -- the order of each phase
  data Said (o : Order) : Phase → Type 0 where
    reads : {p : ℕ} → length ys < length w → p ≡ length ys → Said o (Reading p)
    drives : {t : ℕ} → length w ≤ length ys → (c : ℕ) → o ≡ Command c → Said o (Driving t)
    ends : {n : ℕ} → o ≡ Home n → Said o (HomePhase n)
    strange : {p : ℕ} → o ≡ Stranger p → Said o (StrangerPhase p)

  said : (o : Order) → Said o (phase_for M w ys o)
  unfolding phase_for
  said (Command c) = elim (less_or_not (length ys) (length w)) [
    | inl l ↦ rw (lt-ltb _ _ l) (reads l refl)
    | inr l ↦ rw (le-ltb _ _ l) (drives l c refl)
  ]
  said (Home n) = ends refl
  said (Stranger p) = strange refl

  -- reading: the word is not answered, and the position is the number of answers
  pub phase_read : {p : ℕ} → phase_of M w ys ≡ Reading p → (length ys < length w) × (p ≡ length ys)
  unfolding phase_of
  phase_read e = elim (rw e at (said (order_of M w ys))) [ reads l q ↦ (l, q) ]

  -- driving: the word is answered, and a command is ordered
  pub phase_driven : {t : ℕ} → phase_of M w ys ≡ Driving t
      → (length w ≤ length ys) × ((c : ℕ) × (order_of M w ys ≡ Command c))
  unfolding phase_of
  phase_driven e = elim (rw e at (said (order_of M w ys))) [ drives l c q ↦ (l, (c, q)) ]

  -- an end: that is ordered
  pub phase_at_home : {n : ℕ} → phase_of M w ys ≡ HomePhase n → order_of M w ys ≡ Home n
  unfolding phase_of
  phase_at_home e = elim (rw e at (said (order_of M w ys))) [ ends q ↦ q ]

  pub phase_at_stranger : {p : ℕ} → phase_of M w ys ≡ StrangerPhase p → order_of M w ys ≡ Stranger p
  unfolding phase_of
  phase_at_stranger e = elim (rw e at (said (order_of M w ys))) [ strange q ↦ q ]
