-- Where a word leads, command by command.
-- Assumes nothing.
use Prim.Native.Nat.{ℕ, ◌+◌, ◌≤◌, ◌<◌}
use mathlib.Core.Path.{◌≡◌, sym, ap, ◌∙◌}
use mathlib.Core.List.{List}
use lib.ListN.{length, get_or, drop, drop_of_length-le}
use Rattle.machine.specs.Machine.{Mealy, run}
use Rattle.machine.specs.Machine.Laws.{run_none, run_rest}

module _ (M : Mealy) (w : List ℕ) (p t : ℕ) where
  -- one command on
  pub rest_on : {u : ℕ} → p < length w → u ≡ M.next t (get_or w p 0) → {g : ℕ} → run M t (drop p w) ≡ g
      → run M u (drop (p + 1) w) ≡ g
  rest_on l e q = ap (λ (x : ℕ). run M x (drop (p + 1) w)) e ∙ sym (run_rest M t w p l) ∙ q

  -- the end of the word
  pub rest_end : length w ≤ p → {g : ℕ} → run M t (drop p w) ≡ g → t ≡ g
  rest_end l e = sym (ap (run M t) (drop_of_length-le w l) ∙ run_none M t) ∙ e
