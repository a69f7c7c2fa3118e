-- The byte for no answer at the desk (§13.1): a byte like any other there, and on a sheet that starting does not refuse
-- no state gives it. So it makes the unit a stranger: among the answers to the word, and as the first answer to the
-- transfer that is not right.
use Rattle.std.specs.Prelude.{ℕ, ◌-◌, ◌≤◌, ◌<◌, ◌≡◌, refl, List, length, get_or}
use Rattle.std.proofs.Common.{sym, ap, ◌∙◌, get_or-take}
use Rattle.facts.specs.Lists.{Below, low_append}
use Rattle.sheet.specs.Check.{first_cause, Clear}
use Rattle.sheet.specs.Reader.{word_in}
use Rattle.machine.specs.Machine.{Mealy, no_answer, answers}
use Rattle.machine.specs.Machine.Laws.{answers_always}
use Rattle.machine.specs.Causes.{machine_in}
use Rattle.machine.specs.Causes.Lists.{load_answers}
use Rattle.build.specs.Building.{build_needs, connected_causes}
use Rattle.build.specs.Building.Connection.{clear_load}
use Rattle.desk.specs.declared.desk.Order.TheVariants.{Stranger}
use Rattle.desk.specs.Desk.{Course, RightFrom, strange, no_state, differing, order_of}
use Rattle.desk.specs.Desk.Agreement.{Suited, clear_suited, ordered_order}

module _ (s : List ℕ) (clear : first_cause (connected_causes s) ≡ Clear) where
  abbrev M : Mealy
  M = machine_in s

  abbrev word : List ℕ
  word = word_in s

  abbrev suited : Suited M word
  suited = clear_suited s clear

  -- no state gives it to any commands
  pub state_answers : (b : ℕ) (xs : List ℕ) → b < M.n → Below M.k xs → (i : ℕ) → i < length xs
      → get_or (answers M b xs) i 0 ≡ no_answer → ⊥
  state_answers = answers_always M suited.proper (load_answers build_needs s (clear_load s clear))

  module _ (ys : List ℕ) where
    -- among the answers to the word: stranger, told with the last of them
    pub word_unheard : length word ≤ length ys → (i : ℕ) → i < length word → get_or ys i 0 ≡ no_answer
        → order_of M word ys ≡ Stranger (length word - 1)
    word_unheard l i il q =
        sym (ordered_order M word suited ys (strange (no_state l refl (λ b bl e.
        state_answers b word bl suited.word.commands.low i il
        (ap (λ (x : List ℕ). get_or x i 0) e ∙ get_or-take (length word) ys i 0 il ∙ q)))))

    -- as the first answer to the transfer that is not right: stranger, told with this answer
    pub course_unheard : (b : ℕ) (xs : List ℕ) → Course M word b xs → (i : ℕ) → length word ≤ i → i < length ys
        → i < length xs → RightFrom M b xs ys i → get_or ys i 0 ≡ no_answer → order_of M word ys ≡ Stranger i
    course_unheard b xs c i l yl xl r q =
        let low : Below M.k xs =
        rw c.commands (low_append M.k word c.homeward suited.word.commands.low
        c.drives.is.has.commands) in
        sym (ordered_order M word suited ys (strange (differing b xs c l yl xl r (λ e.
        state_answers b xs c.state low i xl (e ∙ q)))))
