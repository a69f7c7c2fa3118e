-- What the program passes to `bench` is enough: of the words their number and the first bytes of the first five, of the
-- inputs those that the service reads, of the sheet the first 40,913 bytes, since a longer one is too long whatever
-- follows, and of a part the first 20,356.
use Rattle.std.specs.Prelude.{ℕ, ◌+◌, ◌<◌, ◌≡◌, refl, Bool, true, false, List, [], ◌∷◌, map, length, take}
use Rattle.std.proofs.Common.{sym, ap, ◌∙◌, arith, take_all, length-take-le, inl, inr}
use Rattle.std.proofs.lemmas.List.{length-map}
use Rattle.sheet.specs.Check.{first_cause, Refused}
use Rattle.sheet.specs.declared.reader.Needs.{Needs}
use Rattle.sheet.specs.Check.Laws.{refusal_stays}
use Rattle.sheet.specs.Format.{longest, standard}
use Rattle.sheet.specs.Reader.{refusal_of, sheet_causes, needed}
use Rattle.sheet.specs.Reader.Laws.{long_refused}
use Rattle.machine.specs.Limits.{most_sequence}
use Rattle.machine.specs.Causes.{load_causes}
use Rattle.machine.specs.Causes.Lists.{machine_causes_are, load_causes_are}
use Rattle.word.specs.Service.{search_needs}
use Rattle.certify.specs.Certification.{sequence_needs, marking_causes}
use Rattle.certify.specs.Certification.Laws.{marking_causes_are, certification_refused}
use Rattle.build.specs.Building.{build_needs}
use Rattle.build.specs.Building.Connection.{load_refused}
use Rattle.judge.specs.Judging.Laws.{judge_causes_are, judgement_refused}
use Rattle.writer.specs.declared.wanted.Wanted.TheVariants.{Sequence}
use Rattle.writer.specs.Parts.{needs_of}
use Rattle.writer.specs.Writer.Laws.{answers_causes_are}
use Rattle.report.specs.Lines.{refusal_line, judge_line, certify_line}
use Rattle.report.specs.Output.{Output, on_output, on_error}
use Rattle.report.specs.Output.Laws.{unless_refused}
use Rattle.report.specs.Services.{answers_written}
use Rattle.report.specs.Services.Laws.{searched_refused}
use Rattle.report.specs.Dialogue.Laws.{begun_refused}
use Rattle.bench.specs.declared.words.Service.{Service}
use Rattle.bench.specs.declared.words.Service.TheVariants.{Wrong, OnSheet, Write, AddAnswers, House, Help}
use Rattle.bench.specs.declared.words.SheetService.{SheetService}
use Rattle.bench.specs.declared.words.SheetService.TheVariants.{Judge, Certify, Word, Build, Read, Desk}
use Rattle.bench.specs.Words.{service_of, words_of}
use Rattle.bench.specs.Words.Laws.{firsts, words_are, cut, words_cut}
use Rattle.bench.specs.Bench.{Inputs, sheet_output, output, read_for, bench}
use Rattle.bench.specs.Bench.Laws.{read_enough}
use Rattle.bench.specs.Bench.Cut.{cut_part, cut_parts, parts_cut, added_cut}
use Rattle.facts.specs.Numbers.{less_or_not}

-- what a service on a sheet writes of one that is too long
abbrev long : SheetService → Output
long Judge = on_output (refusal_line 1 longest)
long Certify = on_output (refusal_line 1 longest)
long Word = on_error (refusal_line 1 longest)
long Build = on_error (refusal_line 1 longest)
long (Read kind) = on_error (refusal_line 1 longest)
long Desk = on_output (refusal_line 1 longest)

module _ (s : List ℕ) (l : longest < length s) where
  read_long : (ks : List ℕ) → refusal_of standard ks s ≡ Refused 1 longest
  unfolding refusal_of
  read_long ks = long_refused standard (ks ∷ []) s l

  checks_long : (n : Needs) → first_cause (sheet_causes standard (needed standard n) s) ≡ Refused 1 longest
  checks_long n = long_refused standard (needed standard n) s l

  load_long : (n : Needs) → first_cause (load_causes n s) ≡ Refused 1 longest
  load_long n = load_causes_are n s ∙ refusal_stays _ (machine_causes_are n s ∙ refusal_stays _ (checks_long n))

  marking_long : (answers : Bool) (room : ℕ) → first_cause (marking_causes answers room s) ≡ Refused 1 longest
  marking_long answers room = marking_causes_are answers room s ∙ refusal_stays _ (load_long (sequence_needs answers))

  output_long : (service : SheetService) → sheet_output service s ≡ long service
  output_long Judge =
      ap (λ a. on_output (judge_line a))
      (judgement_refused (most_sequence + 1) s
      (judge_causes_are (most_sequence + 1) s ∙ refusal_stays _ (marking_long true (most_sequence + 1))))
  output_long Certify =
      ap (λ a. on_output (certify_line a))
      (certification_refused (most_sequence + 1) s (marking_long false (most_sequence + 1)))
  output_long Word = searched_refused s (load_long search_needs)
  output_long Build = unless_refused _ (load_refused s (load_long build_needs))
  output_long (Read kind) = unless_refused _ (read_long (kind ∷ []))
  output_long Desk = begun_refused s (load_refused s (load_long build_needs))

  added_long : (ys : List ℕ) → answers_written s ys ≡ on_error (refusal_line 1 longest)
  added_long ys = unless_refused _ (answers_causes_are s ys ∙ refusal_stays _ (checks_long (needs_of Sequence)))

-- the first bytes of an input, one more than a sheet may have
abbrev pub cut_input : List ℕ → List ℕ
cut_input s = take (longest + 1) s

sheet_cut : (service : SheetService) (s : List ℕ) → sheet_output service (cut_input s) ≡ sheet_output service s
sheet_cut service s = elim (less_or_not longest (length s)) [
  | inl l ↦ output_long (cut_input s) (omega (arith, length-take-le (longest + 1) s (omega arith))) service
      ∙ sym (output_long s l service)
  | inr l ↦ ap (sheet_output service) (take_all (longest + 1) s (omega arith))
]

added_sheet_cut : (s ys : List ℕ) → answers_written (cut_input s) ys ≡ answers_written s ys
added_sheet_cut s ys = elim (less_or_not longest (length s)) [
  | inl l ↦ added_long (cut_input s) (omega (arith, length-take-le (longest + 1) s (omega arith))) ys
      ∙ sym (added_long s l ys)
  | inr l ↦ ap (λ (t : List ℕ). answers_written t ys) (take_all (longest + 1) s (omega arith))
]

-- the first bytes of all that there is to read
abbrev pub cut_inputs : Inputs → Inputs
cut_inputs x = record { sheet = cut_input x.sheet; parts = cut_parts x.parts }

service_cut : (service : Service) (x : Inputs) → output service (cut_inputs x) ≡ output service x
service_cut (Wrong mistake) x = refl
service_cut (OnSheet service) x = sheet_cut service x.sheet
service_cut (Write wanted) x = parts_cut wanted x.parts
service_cut AddAnswers x =
    added_sheet_cut x.sheet (cut_part x.parts.answers) ∙ added_cut x.sheet x.parts.answers
service_cut House x = refl
service_cut Help x = refl

-- of any words and any inputs: how many words there are, the first bytes of the first five, and the first bytes of the
-- inputs that are read are enough
pub handed_over : (ws : List (List ℕ)) (x : Inputs)
    → bench (words_of (length ws) (firsts (map cut ws))) (cut_inputs (read_for (service_of ws) x)) ≡ bench ws x
unfolding bench
handed_over ws x =
    let handed = words_of (length ws) (firsts (map cut ws)) in
    service_cut (service_of handed) (read_for (service_of ws) x)
    ∙ ap (λ (service : Service). output service (read_for (service_of ws) x))
    (ap (λ (n : ℕ). service_of (words_of n (firsts (map cut ws)))) (sym (length-map ws cut))
    ∙ words_are (map cut ws)
    ∙ words_cut ws)
    ∙ read_enough ws x
