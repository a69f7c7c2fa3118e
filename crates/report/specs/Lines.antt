-- The lines that the bench prints, to the byte (§8.1): those of judging, of certifying, of the desk, of the search for
-- a word and of a refusal.
use Rattle.std.specs.Prelude.{Err}
use Rattle.std.specs.Prelude.{ℕ, List, [], ◌∷◌, ◌++◌}
use Prim.Native.String.{String}
use Rattle.facts.specs.Decimal.{bytes, decimal}
use Rattle.judge.specs.Answer.{Answer as Judgement, Pass, Wrong, Unheard, Unfinished}
use Rattle.certify.specs.Answer.{Answer as Certification, Certified, Open}
use Rattle.desk.specs.First.{First, Command as FirstCommand}
use Rattle.desk.specs.declared.desk.Order.{Order}
use Rattle.desk.specs.declared.desk.Order.TheVariants.{Command, Home, Stranger}
use Rattle.report.specs.Phrases.{phrase}
pub mod Examples
pub mod Identity

-- ---- parts of a line
-- a text, then a number
abbrev pub labelled : String → ℕ → List ℕ
labelled text n = bytes text ++ decimal n

-- a phrase with a space before it, or nothing where there is no phrase
abbrev pub spaced : List ℕ → List ℕ
spaced [] = []
spaced (b ∷ bs) = bytes " " ++ (b ∷ bs)

-- the end of every line (§8.1)
abbrev pub newline : List ℕ
newline = bytes "\n"

-- a line of a text and a number, and the bytes of the longest such text
abbrev pub numbered_line : List ℕ → ℕ → List ℕ
numbered_line text n = (text ++ decimal n) ++ newline

abbrev pub longest_label : ℕ
longest_label = 12

-- numbers, each with a space before it
unfoldable pub listed : List ℕ → List ℕ
listed [] = []
listed (n ∷ ns) = labelled " " n ++ listed ns

-- ---- the lines
-- `REFUSED 6 at 1 word does not separate`: number, place and phrase; without a phrase the line ends after the place
unfoldable pub refusal_line : ℕ → ℕ → List ℕ
refusal_line number place = labelled "REFUSED " number ++ labelled " at " place ++ spaced (phrase number) ++ newline

-- `PASS 12 end 0`: N and the end state
unfoldable pub pass_line : ℕ → ℕ → List ℕ
pass_line size end = labelled "PASS " size ++ labelled " end " end ++ newline

-- `WRONG at 6 want 5 got 6`: the place, then what was specified and what was given
unfoldable pub wrong_line : ℕ → ℕ → ℕ → List ℕ
wrong_line place specified given =
    labelled "WRONG at " place ++ labelled " want " specified ++ labelled " got " given ++ newline

-- `UNHEARD at 3`: the place
unfoldable pub unheard_line : ℕ → List ℕ
unheard_line place = numbered_line (bytes "UNHEARD at ") place

-- `UNFINISHED 4`: how many answers there are
unfoldable pub unfinished_line : ℕ → List ℕ
unfinished_line number = numbered_line (bytes "UNFINISHED ") number

-- the line for an answer of judging
abbrev pub judge_line : Judgement → List ℕ
judge_line (Pass size end) = pass_line size end
judge_line (Wrong place specified given) = wrong_line place specified given
judge_line (Unheard place) = unheard_line place
judge_line (Unfinished number) = unfinished_line number
judge_line (Err r) = refusal_line r.number r.place

-- `CERTIFIED 13`: the number of recognised places
unfoldable pub certified_line : ℕ → List ℕ
certified_line recognised = numbered_line (bytes "CERTIFIED ") recognised

-- `OPEN 2 recognised 5`: the open number, then the number of recognised places
unfoldable pub open_line : ℕ → ℕ → List ℕ
open_line recognised number = labelled "OPEN " number ++ labelled " recognised " recognised ++ newline

-- the line for an answer of certifying
abbrev pub certify_line : Certification → List ℕ
certify_line (Certified recognised) = certified_line recognised
certify_line (Open recognised number) = open_line recognised number
certify_line (Err r) = refusal_line r.number r.place

-- `WORD 0 1`: the commands of the word that was found
unfoldable pub word_line : List ℕ → List ℕ
word_line w = (bytes "WORD" ++ listed w) ++ newline

-- `NONE of 1 to 6 commands`: there is no eligible word (§14.1)
unfoldable pub none_line : List ℕ
none_line = bytes "NONE of 1 to 6 commands" ++ newline

-- `COMMAND 0`: the command to be sent
unfoldable pub command_line : ℕ → List ℕ
command_line command = numbered_line (bytes "COMMAND ") command

-- `HOME after 7`: the number of commands sent
unfoldable pub home_line : ℕ → List ℕ
home_line after = numbered_line (bytes "HOME after ") after

-- `STRANGER at 3`: the number of the answer
unfoldable pub stranger_line : ℕ → List ℕ
stranger_line place = numbered_line (bytes "STRANGER at ") place

-- the line for what the desk orders
abbrev pub order_line : Order → List ℕ
order_line (Command command) = command_line command
order_line (Home after) = home_line after
order_line (Stranger place) = stranger_line place

-- the line for what the desk begins with
abbrev pub first_line : First → List ℕ
first_line (FirstCommand command) = command_line command
first_line (Err r) = refusal_line r.number r.place
