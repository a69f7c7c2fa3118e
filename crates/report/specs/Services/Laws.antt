-- The laws of the search's output: a refusal, a word, or none; and of the writer's: parts that are not wanted play no
-- role.
use Rattle.std.specs.Prelude.{ℕ, ◌≡◌, List}
use Rattle.std.proofs.Math.Path.{sym}
use Rattle.std.proofs.Common.{ap, ap₂, ◌∙◌}
use Rattle.std.proofs.Math.Option.{some}
use Rattle.sheet.specs.Check.{first_cause, Check, Clear, Refused}
use Rattle.word.specs.Answer.{Found}
use Rattle.machine.specs.Causes.{machine_in}
use Rattle.word.specs.Search.{search}
use Rattle.word.specs.Service.{search_causes, searching, word_found}
use Rattle.word.specs.Service.Laws.{found_clear, found_answered}
use Rattle.writer.specs.declared.wanted.Wanted.{Wanted}
use Rattle.writer.specs.Parts.{Parts, wanted_of}
use Rattle.writer.specs.Writer.Laws.{wanted_alone}
use Rattle.report.specs.Lines.{refusal_line}
use Rattle.report.specs.Output.{on_error, bytes_unless}
use Rattle.report.specs.Output.Laws.{unless_clear, unless_refused}
use Rattle.report.specs.Services.{found_output, searched, sheet_written}

module _ (s : List ℕ) where
  pub searched_refused : {number place : ℕ} → first_cause (search_causes s) ≡ Refused number place
      → searched s ≡ on_error (refusal_line number place)
  unfolding searched
  searched_refused e = unless_refused (found_output s (search (machine_in s))) e

  pub searched_clear : first_cause (search_causes s) ≡ Clear → searched s ≡ found_output s (word_found s)
  unfolding searched
  searched_clear e =
      unless_clear (found_output s (search (machine_in s))) e ∙ sym (ap (found_output s) (found_clear s e))

  pub searched_found : {size : ℕ} (e : searching s ≡ Found size)
      → searched s ≡ found_output s (some (found_answered s e).word)
  searched_found e = let h = found_answered s e in searched_clear h.clear ∙ ap (found_output s) h.found

pub wanted_written : (v : Wanted) (p : Parts) → sheet_written v (wanted_of v p) ≡ sheet_written v p
wanted_written v p =
    let h = wanted_alone v p in
    ap₂ (λ (cs : List Check) (t : List ℕ). bytes_unless (first_cause cs) t) h.0 h.1
