-- Judging: its causes (§4.1), 11 (§4.2), the results and what is written (§7), and the identity claim (§9.3).
-- Certifying's answer and buffer, `certification` and `marks_after`, cannot be unfolded here: its contract says what
-- they are. Judging.Verdict has laws of the verdict, Judging.Laws those of a sheet, Judging.NoAnswer those of the byte
-- for no answer, Judging.Bounds bounds on values; those that rest on what a result says, on the renaming or on cause 11
-- are in proofs/, in files of the same names.
use Rattle.std.specs.Prelude.{Err}
use Rattle.std.specs.Prelude.{ℕ, ◌≡◌, true, cond, List, [], ◌∷◌, ◌++◌, ltb, eqb, length, get_or}
use Rattle.facts.specs.CommonPrefix.{agreed}
use Rattle.sheet.specs.Check.{first_cause, refused_or, unless_refused, Check, Clear, Refused}
use Rattle.certify.specs.Answer.{Answer as Certification, Certified, Open}
use Rattle.judge.specs.Answer.{Answer, Pass, Wrong, Unheard, Unfinished}
use Rattle.sheet.specs.declared.check.Values.{Values}
use Rattle.sheet.specs.Values.{refusal_values, Returns}
use Rattle.sheet.specs.Reader.{sequence_in, answers_in, answers_record}
use Rattle.machine.specs.Machine.{Mealy, no_answer, answers, state_at}
use Rattle.machine.specs.Causes.{cause10, machine_in}
use Rattle.machine.specs.Unit.{Unit, own_answers}
use Rattle.certify.specs.Certification.{marking_causes, certification, marks_after}
use Rattle.judge.specs.Renaming.{Renaming}
pub mod Verdict
pub mod Laws
pub mod NoAnswer
pub mod Bounds

-- ---- causes
-- the causes of certifying, all four kinds being needed, and 10: those that write nothing (§4.3)
unfoldable pub judge_causes : ℕ → List ℕ → List Check
judge_causes room s = marking_causes true room s ++ (cause10 (answers_record s).start (sequence_in s) (answers_in s) ∷ [])

-- not certified (§4.2), by what certifying answers: an open sequence is refused with its open number. A refusal of
-- certifying would stay one; there is none here, since judging has refused such a sheet before: certifying_clear, in
-- Judging.Laws
unfoldable pub cause11 : Certification → Check
cause11 (Certified recognised) = Clear
cause11 (Open recognised number) = Refused 11 number
cause11 (Err r) = Err r

-- ---- the results
-- the result (§7) where the answer given at a place is not the specified one: unheard where it is the byte for no
-- answer, otherwise wrong
unfoldable pub difference : ℕ → ℕ → ℕ → Answer
difference place specified given = cond (eqb given no_answer) (Unheard place) (Wrong place specified given)

-- the result (§7), by how many answers from the front are the specified ones: wrong or unheard where there are more
-- answers, unfinished where there are not and the sequence goes on, otherwise pass with N and the state of place N
unfoldable pub result_at : Mealy → List ℕ → List ℕ → ℕ → Answer
result_at M xs ys right =
    cond (ltb right (length ys)) (difference right (get_or (answers M M.start xs) right 0) (get_or ys right 0))
    (cond (ltb right (length xs)) (Unfinished right) (Pass (length xs) (state_at M xs (length xs))))

-- the result (§7) for a machine, a sequence, and the answers given to it, which are no more than the commands
unfoldable pub verdict : Mealy → List ℕ → List ℕ → Answer
verdict M xs ys = result_at M xs ys (agreed (answers M M.start xs) ys)

-- ---- the service
-- what judging answers to a sheet and a room for marks: cause 11 comes last (§4.1)
unfoldable pub judgement : ℕ → List ℕ → Answer
judgement room s =
    refused_or Refused (first_cause (judge_causes room s))
    (refused_or Refused (cause11 (certification room s)) (verdict (machine_in s) (sequence_in s) (answers_in s)))

-- the lent buffer after judging: that of certifying for a result (§7) and for refusal 11, otherwise as before (§4.3)
unfoldable pub judged_marks : List ℕ → List ℕ → List ℕ
judged_marks s buffer = unless_refused (first_cause (judge_causes (length buffer) s)) (marks_after s buffer) buffer

-- number and values of each answer (§8.3): pass has N as its place and the end state as b; wrong its place, the
-- specified answer as a and the given one as b; unheard its place; unfinished the number of answers as its place
abbrev pub values_of : Answer → Values
values_of (Pass size end) = record { class = 100; place = size; a = 0; b = end }
values_of (Wrong place specified given) = record { class = 101; place = place; a = specified; b = given }
values_of (Unheard place) = record { class = 103; place = place; a = 0; b = 0 }
values_of (Unfinished number) = record { class = 102; place = number; a = 0; b = 0 }
values_of (Err r) = refusal_values r.number r.place

-- what judging promises of a sheet (§4.4): the specified answer with its number and values, and every
-- byte of the lent buffer
pub record Judges (s before after : List ℕ) (a : Answer) : Type 0 where
  pub answer : Returns values_of (judgement (length before) s) a
  pub marks : after ≡ judged_marks s before

-- the identity claim (§9.3), of a sheet and judging's answer: for every unit, if the answer is pass and record 4 holds
-- the answers that the unit gives to the sequence, there is a renaming with that end state
abbrev pub Identity : List ℕ → Answer → Type 0
Identity s a =
    (U : Unit (machine_in s).n (machine_in s).k) (size end : ℕ) → a ≡ Pass size end
    → answers_in s ≡ own_answers (machine_in s).n (machine_in s).k U (sequence_in s)
    → Renaming (machine_in s) U (sequence_in s) end
