-- The identity claim as the reader of the line has it: a line that begins with P is that of a pass, and no other line
-- is; it tells the end state.
use Rattle.std.specs.Prelude.{Err}
use Rattle.std.specs.Prelude.{ℕ, ◌≡◌, refl, List, get_or}
use Rattle.std.proofs.Common.{ap, arith}
use Rattle.facts.specs.Decimal.{bytes}
use Rattle.sheet.specs.Reader.{sequence_in, answers_in}
use Rattle.machine.specs.Causes.{machine_in}
use Rattle.judge.specs.Answer.{Answer, Pass, Wrong, Unheard, Unfinished}
use Rattle.machine.specs.Unit.{Unit, own_answers}
use Rattle.judge.specs.Renaming.{Renaming}
use Rattle.judge.specs.Judging.{judgement}
use Rattle.judge.proofs.JudgingLaws.{pass_identity}
use Rattle.report.specs.Lines.{refusal_line, pass_line, wrong_line, unheard_line, unfinished_line, judge_line}

-- the line's first byte is that of the word PASS
abbrev pub Passing : List ℕ → Type 0
Passing line = get_or line 0 0 ≡ get_or (bytes "PASS") 0 0

pub pass_passing : (size end : ℕ) → Passing (judge_line (Pass size end))
unfolding pass_line
pass_passing size end = refl

pub passing_pass : (a : Answer) → Passing (judge_line a) → (size : ℕ) × (end : ℕ) × (a ≡ Pass size end)
unfolding refusal_line wrong_line unheard_line unfinished_line
passing_pass (Pass size end) e = (size, end, refl)
passing_pass (Wrong place specified given) e = let z : ⊥ = omega (arith, e) in absurd z
passing_pass (Unheard place) e = let z : ⊥ = omega (arith, e) in absurd z
passing_pass (Unfinished number) e = let z : ⊥ = omega (arith, e) in absurd z
passing_pass (Err r) e = let z : ⊥ = omega (arith, e) in absurd z

-- whatever the unit, if the line begins so and the answers judged are the unit's own, the line is that of a pass with
-- some end state, and there is a renaming, which assigns the unit's present state to that end state
pub line_identity : (room : ℕ) (s : List ℕ) (U : Unit (machine_in s).n (machine_in s).k)
    → Passing (judge_line (judgement room s))
    → answers_in s ≡ own_answers (machine_in s).n (machine_in s).k U (sequence_in s)
    → (size : ℕ) × (end : ℕ) × (judge_line (judgement room s) ≡ pass_line size end)
    × Renaming (machine_in s) U (sequence_in s) end
line_identity room s U e own =
    let h = passing_pass (judgement room s) e in
    (h.0, h.1, ap judge_line h.2, pass_identity room s refl U h.0 h.1 h.2 own)
