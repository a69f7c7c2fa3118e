-- The dialogue of `bench desk` (§8.2), turn by turn: what a line is, what is written, and whether the dialogue goes on.
-- The laws of its beginning stand in Dialogue.Laws.
use Rattle.std.specs.Prelude.{is_err}
use Rattle.std.specs.Prelude.{ℕ, ◌-◌, ◌≡◌, Bool, true, cond, ◌&&◌, List, [], ◌++◌, leb, ltb, length}
use Rattle.std.proofs.Math.Option.{Option, none, some}
use Rattle.facts.specs.Decimal.{bytes, number_in}
use Rattle.desk.specs.declared.desk.Desk.{Desk}
use Rattle.desk.specs.First.{First}
use Rattle.desk.specs.declared.starting.Started.{Started}
use Rattle.desk.specs.declared.stepping.Stepped.{Stepped}
use Rattle.desk.specs.Desk.{is_end}
use Rattle.desk.specs.Service.{starting, Starts, Steps}
use Rattle.report.specs.declared.dialogue.Reply.{Reply}
use Rattle.report.specs.declared.dialogue.Reply.TheVariants.{Answer, Other, Long}
use Rattle.report.specs.declared.dialogue.Turned.{Turned}
use Rattle.report.specs.Lines.{order_line, first_line}
use Rattle.report.specs.Output.{Output, on_output, on_error, Writes}
pub mod Laws

-- ---- a line
-- the most bytes of a line, its newline not counted
abbrev pub most_line : ℕ
most_line = 80

-- a number that was read is an answer
abbrev pub reply_of : Option ℕ → Reply
reply_of none = Other
reply_of (some y) = Answer y

-- what a line is: too long; an answer, which is one to three digits of a number up to 255; or neither
unfoldable pub reply : List ℕ → Reply
reply line =
    cond (ltb most_line (length line)) Long
    (cond (leb 1 (length line) && leb (length line) 3) (reply_of (number_in 255 line)) Other)

-- ---- what is told on standard error
-- a line that is no answer
unfoldable pub other_line : List ℕ
other_line = bytes "bench: an answer is one to three digits, at most 255\n"

-- the bytes of the longest reason for which the dialogue stops
abbrev pub longest_reason : ℕ
longest_reason = 30

-- the dialogue stops without an end, for this reason
abbrev pub stop_line : List ℕ → List ℕ
stop_line reason = bytes "bench: the dialogue stops: " ++ reason ++ bytes "\n"

-- the bytes of the longest such line
abbrev pub longest_stop : ℕ
longest_stop = 58

-- a line that is no answer, where so many may still come: after the last of them the dialogue stops
unfoldable pub others_line : ℕ → List ℕ
others_line left = other_line ++ cond (ltb 1 left) [] (stop_line (bytes "100 lines were no answer"))

-- ---- the beginning
-- what is written of a sheet: the first command, or the refusal's line
unfoldable pub begun : List ℕ → Output
begun s = on_output (first_line (starting s))

-- how many lines that are no answer stop the dialogue
abbrev pub most_others : ℕ
most_others = 100

-- whether the desk began with a refusal
abbrev pub is_refused : First → Bool
is_refused first = is_err first

-- what the beginning of a dialogue promises: the desk is one that start gives
pub record Begins (s before after : List ℕ) (t : Turned) : Type 0 where
  pub started : Started
  pub starts : Starts s started
  pub desk : t.desk ≡ started.desk
  pub left : t.left ≡ most_others
  pub over : t.over ≡ is_refused (starting s)
  pub written : Writes (begun s) before after t.written

-- ---- a turn: what a line changes, by what it is and what step gives for its answer
module _ (p : Stepped) where
  -- what is written: the order's line, or what is wrong with the line
  unfoldable pub turn_output : Reply → ℕ → Output
  turn_output (Answer y) left = on_output (order_line p.order)
  turn_output Other left = on_error (others_line left)
  turn_output Long left = on_error (stop_line (bytes "a line is longer than 80 bytes"))

  -- whether the dialogue is over: at the desk's end, at the last line of those that may be no answer, at a long line
  abbrev pub turn_over : Reply → ℕ → Bool
  turn_over (Answer y) left = is_end p.order
  turn_over Other left = leb left 1
  turn_over Long left = true

  -- the desk after it
  abbrev pub turn_desk : Reply → Desk → Desk
  turn_desk (Answer y) d = p.desk
  turn_desk Other d = d
  turn_desk Long d = d

-- how many lines that are no answer may still come, the last of which stops it
abbrev pub turn_left : Reply → ℕ → ℕ
turn_left (Answer y) left = left
turn_left Other left = left - 1
turn_left Long left = left

-- what a turn promises of a desk, the lines that are left and a line: for an answer, what step gives
pub record Turns (d : Desk) (left : ℕ) (line before after : List ℕ) (t : Turned) : Type 0 where
  pub stepped : Stepped
  pub steps : (y : ℕ) → reply line ≡ Answer y → Steps d y stepped
  pub desk : t.desk ≡ turn_desk stepped (reply line) d
  pub left_after : t.left ≡ turn_left (reply line) left
  pub over : t.over ≡ turn_over stepped (reply line) left
  pub written : Writes (turn_output stepped (reply line) left) before after t.written

-- ---- the end of the input
unfoldable pub input_ended : Output
input_ended = on_error (stop_line (bytes "the input ended"))
