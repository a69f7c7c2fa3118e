-- The house control unit (§10.1): its entries as the table there has them, next state/answer; its machine record, the
-- machine and the word. The laws stand in House.Laws.
use Rattle.std.specs.Prelude.{ℕ, List, [], ◌∷◌, ◌++◌, get_or}
use Rattle.machine.specs.declared.house.Entry.{Entry}
use Rattle.machine.specs.Machine.{Mealy, machine_of}
use Rattle.sheet.specs.Format.{standard}
pub mod Laws

infix 75 ◌▹◌
-- an entry, next state and answer; §10.1 writes a slash between them
abbrev pub ◌▹◌ : ℕ → ℕ → Entry
n ▹ a = record { next = n; answer = a }

-- the table (§10.1). Rows are states: preview and archive waiting, preview and archive running; columns are commands:
-- quality, profile, run, stop
abbrev pub house_table : List (List Entry)
house_table =
    (0 ▹ 31 ∷ 1 ▹ 6 ∷ 2 ▹ 6 ∷ 0 ▹ 21 ∷ [])
    ∷ (1 ▹ 2 ∷ 0 ▹ 6 ∷ 3 ▹ 6 ∷ 1 ▹ 21 ∷ [])
    ∷ (2 ▹ 31 ∷ 2 ▹ 21 ∷ 2 ▹ 21 ∷ 0 ▹ 6 ∷ [])
    ∷ (3 ▹ 2 ∷ 3 ▹ 21 ∷ 3 ▹ 21 ∷ 1 ▹ 6 ∷ [])
    ∷ []

-- the entry of a state and a command (§10.1); 255/0 where one of them is above 3
unfoldable pub house_entry : ℕ → ℕ → Entry
house_entry s c = get_or (get_or house_table s []) c (255 ▹ 0)

-- the entries of one row as a machine record has them (§2.2): next state and answer of each
abbrev pub pairs : List Entry → List ℕ
pairs [] = []
pairs (e ∷ es) = e.next ∷ e.answer ∷ pairs es

-- the same for all rows, first to last
abbrev pub row_pairs : List (List Entry) → List ℕ
row_pairs [] = []
row_pairs (row ∷ rows) = pairs row ++ row_pairs rows

-- the payload of its machine record: 4 states, 4 commands, then the table
unfoldable pub house_payload : List ℕ
house_payload = 4 ∷ 4 ∷ row_pairs house_table

-- the house unit as a machine
unfoldable pub house : Mealy
house = machine_of standard house_payload

-- its word (§10.1)
abbrev pub house_word : List ℕ
house_word = 0 ∷ 1 ∷ []
