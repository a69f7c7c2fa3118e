-- The lines that the specification writes out (§8.1), as examples of the definitions.
use Rattle.std.specs.Prelude.{◌≡◌, refl, [], ◌∷◌}
use Rattle.facts.specs.Decimal.{bytes, decimal_within, decimal}
use Rattle.judge.specs.Answer.{Pass, Wrong, Unheard, Unfinished}
use Rattle.sheet.specs.Check.{Refused}
use Rattle.certify.specs.Answer.{Certified, Open}
use Rattle.desk.specs.declared.desk.Order.TheVariants.{Command, Home, Stranger}
use Rattle.report.specs.Phrases.{phrase}
use Rattle.report.specs.Lines.{refusal_line, pass_line, wrong_line, unheard_line, unfinished_line, judge_line}
use Rattle.report.specs.Lines.{certified_line, open_line, certify_line, listed, word_line, none_line, command_line}
use Rattle.report.specs.Lines.{home_line, stranger_line, order_line}

pub pass : judge_line (Pass 12 0) ≡ bytes "PASS 12 end 0\n"
unfolding pass_line decimal decimal_within
pass = refl

pub wrong : judge_line (Wrong 6 5 6) ≡ bytes "WRONG at 6 want 5 got 6\n"
unfolding wrong_line decimal decimal_within
wrong = refl

pub unheard : judge_line (Unheard 3) ≡ bytes "UNHEARD at 3\n"
unfolding unheard_line decimal decimal_within
unheard = refl

pub unfinished : judge_line (Unfinished 4) ≡ bytes "UNFINISHED 4\n"
unfolding unfinished_line decimal decimal_within
unfinished = refl

pub refused : judge_line (Refused 6 1) ≡ bytes "REFUSED 6 at 1 word does not separate\n"
unfolding refusal_line phrase decimal decimal_within
refused = refl

-- a number without a phrase
pub refused_later : judge_line (Refused 12 9) ≡ bytes "REFUSED 12 at 9\n"
unfolding refusal_line phrase decimal decimal_within
refused_later = refl

pub certified : certify_line (Certified 13) ≡ bytes "CERTIFIED 13\n"
unfolding certified_line decimal decimal_within
certified = refl

pub open_number : certify_line (Open 5 2) ≡ bytes "OPEN 2 recognised 5\n"
unfolding open_line decimal decimal_within
open_number = refl

pub too_long : certify_line (Refused 1 40912) ≡ bytes "REFUSED 1 at 40912 sheet cut or too long\n"
unfolding refusal_line phrase decimal decimal_within
too_long = refl

pub word_found : word_line (0 ∷ 1 ∷ []) ≡ bytes "WORD 0 1\n"
unfolding word_line listed decimal decimal_within
word_found = refl

pub no_word : none_line ≡ bytes "NONE of 1 to 6 commands\n"
unfolding none_line
no_word = refl

pub command_ordered : order_line (Command 0) ≡ bytes "COMMAND 0\n"
unfolding command_line decimal decimal_within
command_ordered = refl

pub home_told : order_line (Home 7) ≡ bytes "HOME after 7\n"
unfolding home_line decimal decimal_within
home_told = refl

pub stranger_told : order_line (Stranger 3) ≡ bytes "STRANGER at 3\n"
unfolding stranger_line decimal decimal_within
stranger_told = refl
