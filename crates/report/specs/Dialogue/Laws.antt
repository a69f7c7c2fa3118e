-- The laws of the dialogue's beginning: what is written where nothing is refused, and where something is.
use Rattle.std.specs.Prelude.{ℕ, ◌≡◌, List, get_or}
use Rattle.std.proofs.Math.Path.{ap}
use Rattle.sheet.specs.Check.{first_cause, Clear, Refused}
use Rattle.sheet.specs.Reader.{word_in}
use Rattle.build.specs.Building.{connected_causes}
use Rattle.desk.specs.Service.Dialogue.{starting_first, starting_refused}
use Rattle.report.specs.Lines.{command_line, refusal_line, first_line}
use Rattle.report.specs.Output.{on_output}
use Rattle.report.specs.Dialogue.{begun}

module _ (s : List ℕ) where
  pub begun_clear : first_cause (connected_causes s) ≡ Clear
      → begun s ≡ on_output (command_line (get_or (word_in s) 0 0))
  unfolding begun
  begun_clear e = ap (λ a. on_output (first_line a)) (starting_first s e)

  pub begun_refused : {number place : ℕ} → first_cause (connected_causes s) ≡ Refused number place
      → begun s ≡ on_output (refusal_line number place)
  unfolding begun
  begun_refused e = ap (λ a. on_output (first_line a)) (starting_refused s e)
