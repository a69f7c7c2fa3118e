-- The laws of the sheet of some parts: how long it is.
use Rattle.std.specs.Prelude.{ℕ, ◌≡◌, List, [], ◌∷◌, length}
use Rattle.std.proofs.Common.{ap, arith}
use Rattle.sheet.specs.Format.{standard, offset}
use Rattle.sheet.specs.Joining.{joined, fresh}
use Rattle.sheet.specs.Joining.Laws.{joined_none, joined_long}
use Rattle.writer.specs.declared.wanted.Wanted.{Wanted}
use Rattle.writer.specs.declared.wanted.Wanted.TheVariants.{Word, Sequence, Answers}
use Rattle.writer.specs.Parts.{Parts, records_of, sheet_of, sequence_start, answers_start}

-- where the last record of a sheet ends
abbrev pub end_of : Wanted → Parts → ℕ
end_of Word p = sequence_start p
end_of Sequence p = answers_start p
end_of Answers p = offset (answers_start p) (length p.answers)

-- it ends there
pub sheet_long : (v : Wanted) (p : Parts) → length (sheet_of v p) ≡ end_of v p
unfolding sheet_of
sheet_long v p = long v
  where
    machine : ℕ × List ℕ
    machine = fresh standard.machine p.machine

    word : ℕ × List ℕ
    word = fresh standard.word p.word

    sequence : ℕ × List ℕ
    sequence = fresh standard.sequence p.sequence

    answers : ℕ × List ℕ
    answers = fresh standard.answers p.answers

    none : length (joined []) ≡ 0
    none = ap length joined_none

    long : (v : Wanted) → length (joined (records_of v p)) ≡ end_of v p
    long Word = omega (arith, joined_long machine (word ∷ []), joined_long word [], none)
    long Sequence =
        omega (
          arith,
          joined_long machine (word ∷ sequence ∷ []),
          joined_long word (sequence ∷ []),
          joined_long sequence [],
          none,
        )
    long Answers =
        omega (
          arith,
          joined_long machine (word ∷ sequence ∷ answers ∷ []),
          joined_long word (sequence ∷ answers ∷ []),
          joined_long sequence (answers ∷ []),
          joined_long answers [],
          none,
        )
