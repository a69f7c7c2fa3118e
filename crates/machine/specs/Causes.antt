-- Causes 3 to 7, 10 and 12 (§4.2), each of a payload and of the offset at which its record starts, or would start, in a
-- sheet; and the causes of loading a sheet in order (§4.1), which are these with the starts of its own records. Laws
-- stand in Causes.Laws (3, 4, 12, 5, 7 and 10), Causes.Separation (6) and Causes.Lists (the lists); Causes.Bounds has
-- how large a place is.
use Rattle.std.specs.Prelude.{ℕ, ◌+◌, ◌*◌, Bool, not, ◌&&◌, ◌||◌, List, [], ◌∷◌, ◌++◌, leb, ltb, eqb, length, get_or}
use Rattle.std.specs.Prelude.{take}
use Rattle.facts.specs.Lists.{same}
use Rattle.sheet.specs.Check.{refusal◌with◌if◌, ◌else◌, first, Check}
use Rattle.sheet.specs.declared.reader.Needs.{Needs}
use Rattle.sheet.specs.Format.{offset, standard, Format}
use Rattle.sheet.specs.Reader.{sheet_causes, when, needed, machine_payload, word_in, sequence_in, machine_record}
use Rattle.sheet.specs.Reader.{word_record, sequence_record}
use Rattle.machine.specs.Limits.{least, most_states, most_commands, most_machine, most_word, most_sequence}
use Rattle.machine.specs.Machine.{Mealy, no_answer, pair_at, machine_of, tabled, answers}
pub mod Laws
pub mod Lists
pub mod Bounds
pub mod Separation

-- whether x is outside its limits (§2.2): below the least or above the most
abbrev pub outside : ℕ → ℕ → Bool
outside most x = ltb x least || ltb most x

-- machine shape (§4.2), at the start of the record: n or k is outside its limits, or the payload's length is wrong
unfoldable pub cause3 : Format → ℕ → List ℕ → Check
cause3 F at p =
    let n = get_or p 0 0 in
    let k = get_or p 1 0 in
    refusal 3 with at
    if (outside most_states n || outside most_commands k || not (eqb (length p) (F.table + 2 * (n * k))))

-- next state (§4.2), at its offset: the first byte for a next state that is not below n
unfoldable pub cause4 : Format → ℕ → List ℕ → Check
cause4 F at p =
    let n = get_or p 0 0 in
    let k = get_or p 1 0 in
    first (n * k) (λ e. refusal 4 with offset at (pair_at F e) if leb n (get_or p (pair_at F e) 0))

-- cause 12 (§4.2), at its offset: the first byte for an answer that is the one for no answer
unfoldable pub cause12 : Format → ℕ → List ℕ → Check
cause12 F at p =
    let n = get_or p 0 0 in
    let k = get_or p 1 0 in
    first (n * k) (λ e. refusal 12 with offset at (pair_at F e + 1) if eqb (get_or p (pair_at F e + 1) 0) no_answer)

-- the cause at byte from + stride · i of a part that begins at offset base: the byte is not below the bound. The code
-- looks for causes 4, 12, 5 and 7 with it: cause4_is, cause12_is and commands_cause_is, in Causes.Laws
unfoldable pub byte_cause : ℕ → ℕ → List ℕ → ℕ → ℕ → ℕ → ℕ → Check
byte_cause number base p from stride bound i =
    refusal number with base + (from + stride * i) if leb bound (get_or p (from + stride * i) 0)

-- causes 5 and 7 (§4.2): at the start of the record where the length is not within its limits, else at the offset of
-- the first command that is not below k
unfoldable pub commands_cause : ℕ → ℕ → ℕ → ℕ → List ℕ → Check
commands_cause number most k at w =
    (refusal number with at if outside most (length w))
    else first (length w) (λ i. refusal number with offset at i if leb k (get_or w i 0))

-- cause 5, word (§4.2)
abbrev pub cause5 : ℕ → ℕ → List ℕ → Check
cause5 k at w = commands_cause 5 most_word k at w

-- cause 7, sequence (§4.2)
abbrev pub cause7 : ℕ → ℕ → List ℕ → Check
cause7 k at xs = commands_cause 7 most_sequence k at xs

-- cause 10, answers (§4.2), at the start of the record: there are more answers than commands
unfoldable pub cause10 : ℕ → List ℕ → List ℕ → Check
cause10 at xs ys = refusal 10 with at if ltb (length xs) (length ys)

-- whether states i and j answer a word alike, by a table's two columns; number of states and start play no part
abbrev pub agrees : ℕ → List ℕ → List ℕ → List ℕ → ℕ → ℕ → Bool
agrees k next answer w i j = same (answers (tabled 0 k 0 next answer) i w) (answers (tabled 0 k 0 next answer) j w)

-- cause 6 at a pair of states (§4.2): i is below j, and both answer the word alike; the place is 16·i + j
abbrev pub pair_cause : Mealy → List ℕ → ℕ → ℕ → Check
pair_cause M w i j = refusal 6 with 16 * i + j if (ltb i j && same (answers M i w) (answers M j w))

-- word does not separate (§4.2): the lowest i for which there is such a pair, and for it the lowest j
unfoldable pub cause6 : Mealy → List ℕ → Check
cause6 M w = first M.n (λ i. first M.n (pair_cause M w i))

-- the machine of a sheet (§3.1)
unfoldable pub machine_in : List ℕ → Mealy
machine_in s = machine_of standard (machine_payload s)

-- the machine that the program holds for any sheet: that of the payload, cut to the bytes of the largest machine. Where
-- the causes of the machine are absent it is the sheet's: held_is, in Causes.Lists
unfoldable pub held : List ℕ → Mealy
held s = machine_of standard (take (most_machine standard) (machine_payload s))

-- ---- the causes of each payload in order (§4.1)
-- of a machine: 12 stands behind 4
unfoldable pub table_causes : Format → ℕ → List ℕ → List Check
table_causes F at p = cause3 F at p ∷ cause4 F at p ∷ cause12 F at p ∷ []

-- of a word, for a machine
unfoldable pub word_causes : Mealy → ℕ → List ℕ → List Check
word_causes M at w = cause5 M.k at w ∷ cause6 M w ∷ []

-- of a sequence, for a machine
unfoldable pub sequence_causes : Mealy → ℕ → List ℕ → List Check
sequence_causes M at xs = cause7 M.k at xs ∷ []

-- ---- of a sheet, where the records stand in it
-- its machine
abbrev pub table_causes_in : List ℕ → List Check
table_causes_in s = table_causes standard (machine_record s).start (machine_payload s)

-- its word
abbrev pub word_causes_in : List ℕ → List Check
word_causes_in s = word_causes (machine_in s) (word_record s).start (word_in s)

-- its sequence
abbrev pub sequence_causes_in : List ℕ → List Check
sequence_causes_in s = sequence_causes (machine_in s) (sequence_record s).start (sequence_in s)

-- the causes of the machine in order (§4.1), 1 to 4 and 12, for a service that needs it and these kinds besides
unfoldable pub machine_causes : Needs → List ℕ → List Check
machine_causes needs s = sheet_causes standard (needed standard needs) s ++ table_causes_in s

-- the causes of loading in order (§4.1), 1 to 7 and 12: those of the machine, then those of the word and of the
-- sequence, each where it is needed
unfoldable pub load_causes : Needs → List ℕ → List Check
load_causes needs s =
    machine_causes needs s ++ (when needs.word (word_causes_in s) ++ when needs.sequence (sequence_causes_in s))
