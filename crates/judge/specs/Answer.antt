-- What judging answers (§7): a judgement, or a refusal.
use Rattle.std.specs.Prelude.{ℕ, Result, Ok}
use Rattle.sheet.specs.declared.check.Refusal.{Refusal}
use Rattle.judge.specs.declared.answer.Judgement.{Judgement}
use Rattle.judge.specs.declared.answer.Judgement.TheVariants.{Pass as IsPass, Wrong as IsWrong, Unheard as IsUnheard}
use Rattle.judge.specs.declared.answer.Judgement.TheVariants.{Unfinished as IsUnfinished}

abbrev pub Answer : Type 0
Answer = Result Judgement Refusal

-- pass, with the number of commands and the end state
pattern abbrev pub Pass : ℕ → ℕ → Answer
Pass size end = Ok (IsPass size end)

-- wrong, with the place, what was specified there and what was given
pattern abbrev pub Wrong : ℕ → ℕ → ℕ → Answer
Wrong place specified given = Ok (IsWrong place specified given)

-- unheard, with the place
pattern abbrev pub Unheard : ℕ → Answer
Unheard place = Ok (IsUnheard place)

-- unfinished, with the number of answers
pattern abbrev pub Unfinished : ℕ → Answer
Unfinished number = Ok (IsUnfinished number)
