-- What the program's functions that put a line or a sheet together promise each other.
use Rattle.std.specs.Prelude.{ℕ, ◌+◌, ◌≤◌, ◌≡◌, List, length}
use Rattle.sheet.specs.Format.{standard}
use Rattle.std.specs.Prelude.{Option}
use Rattle.sheet.specs.declared.record.Record.{Record}
use Rattle.sheet.specs.Reader.{found_in, machine_payload}
use Rattle.sheet.specs.Writing.{Puts}
use Rattle.machine.specs.Limits.{most_machine}
use Rattle.word.specs.Search.{most_sought}
use Rattle.report.specs.declared.pieces.Cursor.{Cursor}
use Rattle.report.specs.Digits.{most_digits}

-- a line at the start of a lent buffer, every later byte as it was (§4.3), and the number of its bytes,
-- which is at most the buffer's
abbrev pub Prints : List ℕ → List ℕ → List ℕ → ℕ → Type 0
Prints xs before after size = Puts before 0 xs after size

-- these bytes were put into a lent buffer behind those that were put, all else as it was, and it is the same buffer
pub record PutsNext (xs : List ℕ) (before after : Cursor) : Type 0 where
  pub same_buffer : after.buffer.ghost_name ≡ before.buffer.ghost_name
  pub puts : Puts before.buffer.now before.end xs after.buffer.now after.end

-- the bytes of room for a number of a list: a space and its digits
abbrev pub list_room : ℕ
list_room = most_digits + 1

-- what writing a word into a sheet needs: the record is that of the sheet's machine, and the machine's payload and the
-- word are no longer than they can be, so that all of it has room
pub record WordRequires (s : List ℕ) (f : Option Record) (w : List ℕ) : Type 0 where
  pub found : f ≡ found_in standard standard.machine s
  pub machine : length (machine_payload s) ≤ most_machine standard
  pub few : length w ≤ most_sought
