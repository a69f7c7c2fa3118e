-- What the bench's output says of its words and its inputs: what is not read plays no role; wrong words give a line on
-- standard error and nothing else; and where the words ask for judging, the identity claim as the reader of standard
-- output has it.
use Rattle.std.specs.Prelude.{ℕ, ◌+◌, ◌≡◌, refl, List}
use Rattle.std.proofs.Math.Path.{ap}
use Rattle.std.proofs.Common.{subst, ◌∙◌, arith}
use Rattle.sheet.specs.Reader.{sequence_in, answers_in}
use Rattle.machine.specs.Limits.{most_sequence}
use Rattle.machine.specs.Causes.{machine_in}
use Rattle.machine.specs.Unit.{Unit, own_answers}
use Rattle.judge.specs.Renaming.{Renaming}
use Rattle.judge.specs.Judging.{judgement}
use Rattle.report.specs.declared.words.Mistake.{Mistake}
use Rattle.report.specs.Lines.{pass_line, judge_line}
use Rattle.report.specs.Lines.Identity.{Passing, line_identity}
use Rattle.report.specs.Words.{mistake_line}
use Rattle.report.specs.Output.{Output, on_output, on_error}
use Rattle.report.specs.Services.Laws.{wanted_written}
use Rattle.bench.specs.declared.words.Service.{Service}
use Rattle.bench.specs.declared.words.Service.TheVariants.{Wrong, OnSheet, Write, AddAnswers, House, Help}
use Rattle.bench.specs.declared.words.SheetService.{SheetService}
use Rattle.bench.specs.declared.words.SheetService.TheVariants.{Judge, Certify, Word, Build, Read, Desk}
use Rattle.bench.specs.declared.words.Source.TheVariants.{Nothing}
use Rattle.bench.specs.Words.{service_of}
use Rattle.bench.specs.Bench.{Inputs, output, sheet_from, source_of, read_for, bench}

-- a service on a sheet has one from somewhere
from_somewhere : {A : Type 0} (service : SheetService) → sheet_from service ≡ Nothing → A
from_somewhere Judge e = let z : ◌≡◌ {A = ℕ} 0 1 = cc in absurd (omega arith)
from_somewhere Certify e = let z : ◌≡◌ {A = ℕ} 0 1 = cc in absurd (omega arith)
from_somewhere Word e = let z : ◌≡◌ {A = ℕ} 0 1 = cc in absurd (omega arith)
from_somewhere Build e = let z : ◌≡◌ {A = ℕ} 0 1 = cc in absurd (omega arith)
from_somewhere (Read kind) e = let z : ◌≡◌ {A = ℕ} 0 1 = cc in absurd (omega arith)
from_somewhere Desk e = let z : ◌≡◌ {A = ℕ} 0 1 = cc in absurd (omega arith)

unread_service : (service : Service) (x y : Inputs) → source_of service ≡ Nothing → output service x ≡ output service y
unread_service (Wrong mistake) x y e = refl
unread_service (OnSheet service) x y e = from_somewhere service e
unread_service (Write wanted) x y e = let z : ◌≡◌ {A = ℕ} 0 1 = cc in absurd (omega arith)
unread_service AddAnswers x y e = let z : ◌≡◌ {A = ℕ} 0 1 = cc in absurd (omega arith)
unread_service House x y e = refl
unread_service Help x y e = refl

read_service : (service : Service) (x : Inputs) → output service (read_for service x) ≡ output service x
read_service (Wrong mistake) x = refl
read_service (OnSheet service) x = refl
read_service (Write wanted) x = wanted_written wanted x.parts
read_service AddAnswers x = refl
read_service House x = refl
read_service Help x = refl

module _ (words : List (List ℕ)) (x : Inputs) where
  -- nothing is read, or only what the service is given
  pub unread : source_of (service_of words) ≡ Nothing → (y : Inputs) → bench words x ≡ bench words y
  unfolding bench
  unread e y = unread_service (service_of words) x y e

  pub read_enough : bench words (read_for (service_of words) x) ≡ bench words x
  unfolding bench
  read_enough = read_service (service_of words) x

  pub wrong_words : {mistake : Mistake} → service_of words ≡ Wrong mistake
      → bench words x ≡ on_error (mistake_line mistake)
  unfolding bench
  wrong_words {mistake} e = ap (λ (service : Service). output service x) e

  abbrev s : List ℕ
  s = x.sheet

  judge_words : service_of words ≡ OnSheet Judge → bench words x ≡ on_output (judge_line (judgement (most_sequence + 1) s))
  unfolding bench
  judge_words e = ap (λ (service : Service). output service x) e

  -- whatever the unit, if standard output begins as a pass does and the answers judged are the unit's own, it
  -- is the line of a pass with some end state, and there is a renaming, which assigns the unit's present
  -- state to that end state
  pub judge_identity : service_of words ≡ OnSheet Judge → (U : Unit (machine_in s).n (machine_in s).k)
      → Passing (bench words x).out → answers_in s ≡ own_answers (machine_in s).n (machine_in s).k U (sequence_in s)
      → (size : ℕ) × (end : ℕ) × ((bench words x).out ≡ pass_line size end) × Renaming (machine_in s) U (sequence_in s) end
  judge_identity e U passing own =
      let line = ap (λ (o : Output). o.out) (judge_words e) in
      let h = line_identity (most_sequence + 1) s U (subst Passing line passing) own in
      (h.0, h.1, line ∙ h.2, h.3)
