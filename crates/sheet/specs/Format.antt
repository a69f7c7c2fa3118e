-- The byte format of a sheet (§2.1, §2.2), and causes 1 and 2 at each record (§4.1, §4.2). A sheet is a list of numbers
-- here; the contracts are about bytes. The laws stand in Format.Laws.
use Rattle.std.specs.Prelude.{Err}
use Rattle.std.specs.Prelude.{ℕ, zero, suc, ◌+◌, ◌*◌, ◌-◌, Bool, true, false, cond, ◌||◌, List, [], ◌∷◌, leb, ltb}
use Rattle.std.specs.Prelude.{length, get_or}
use Rattle.facts.specs.Lists.{among}
use Rattle.sheet.specs.Check.{refusal◌with◌if◌, ◌else◌, Check, Clear}
use Rattle.std.specs.Prelude.{Option, Some, None}
use Rattle.std.specs.Option.{option_or}
use Rattle.sheet.specs.declared.record.Record.{Record}
use Rattle.sheet.specs.declared.format.Role.{Role}
use Rattle.sheet.specs.declared.format.Role.TheVariants.{Machine, Word, Sequence, Answers, Unknown}
use Rattle.sheet.specs.declared.record.Records.{Records}
pub mod Laws

-- a format of sheets (§2.1, §2.2): the kinds that the record of each role may have, the most bytes of a sheet, and how
-- many bytes of the machine's payload come before its table. In every format the records stand in the order of these
-- roles (`rank`)
pub record Format : Type 0 where
  pub machine : List ℕ
  pub word : List ℕ
  pub sequence : List ℕ
  pub answers : List ℕ
  pub longest : ℕ
  pub table : ℕ

-- the format that the services take
abbrev pub standard : Format
standard = record {
  machine = 1 ∷ [];
  word = 2 ∷ [];
  sequence = 3 ∷ [];
  answers = 4 ∷ [];
  longest = 40912;
  table = 2;
}

-- the most bytes of a sheet of the standard format (§2.1)
abbrev pub longest : ℕ
longest = standard.longest

-- the bytes of a record's header: 4 for the payload's length and 2 for the kind (§2.1)
abbrev pub header : ℕ
header = 6

-- the record whose header starts at this offset, each number with its lowest byte first (§2.1). Bytes past the sheet's
-- end count as 0; cause 1 is present there
unfoldable pub record_at : List ℕ → ℕ → Record
record_at s at = record {
  start = at;
  size = get_or s at 0 + 256 * get_or s (at + 1) 0 + 65536 * get_or s (at + 2) 0 + 16777216 * get_or s (at + 3) 0;
  kind = get_or s (at + 4) 0 + 256 * get_or s (at + 5) 0;
}

-- the offset of byte i of the payload of a record that starts at an offset (§2.1)
abbrev pub offset : ℕ → ℕ → ℕ
offset start i = start + header + i

-- the offset at which the record ends and the next one starts (§2.1)
unfoldable pub end : Record → ℕ
end r = offset r.start r.size

-- what a kind's number means (§2.2): the role, or Unknown for a number that the format does not have
unfoldable pub role_of : Format → ℕ → Role
role_of F k =
    cond (among k F.machine) Machine
    (cond (among k F.word) Word
    (cond (among k F.sequence) Sequence
    (cond (among k F.answers) Answers Unknown)))

-- the kinds of a role (§2.2)
abbrev pub kinds_of : Format → Role → List ℕ
kinds_of F Machine = F.machine
kinds_of F Word = F.word
kinds_of F Sequence = F.sequence
kinds_of F Answers = F.answers
kinds_of F Unknown = []

-- the kind of a record of a role that is written: the first of the role's kinds
abbrev pub new_kind : Format → Role → ℕ
new_kind F role = get_or (kinds_of F role) 0 0

-- the number by which kinds rise in a sheet (§2.1), by their role; an unknown kind has 0, so that it is above none
abbrev pub rank : Role → ℕ
rank Unknown = 0
rank Machine = 1
rank Word = 2
rank Sequence = 3
rank Answers = 4

-- the rank of a record
abbrev pub rank_in : Format → Record → ℕ
rank_in F r = rank (role_of F r.kind)

-- cause 1 at a record (§4.2): a sheet of so many bytes does not hold all of its header and payload
unfoldable pub cause1 : ℕ → Record → Check
cause1 bytes r = refusal 1 with r.start if (ltb bytes (r.start + header) || ltb bytes (end r))

-- cause 2 at a record (§4.2): its kind is unknown, or not above that of the record before, whose rank is last
unfoldable pub cause2 : Format → Record → ℕ → Check
cause2 F r last = refusal 2 with r.start if leb (rank_in F r) last

-- the check of a record: cause 1, then cause 2 (§4.1)
unfoldable pub cause_of : Format → ℕ → Record → ℕ → Check
cause_of F bytes r last = cause1 bytes r else cause2 F r last

-- that of the record that starts at an offset
abbrev pub cause_at : Format → List ℕ → ℕ → ℕ → Check
cause_at F s at last = cause_of F (length s) (record_at s at) last

-- the records from the front without cause 1 or 2 (§4.1), and what stopped the parsing: Clear at the sheet's end
pub record Parsed : Type 0 where
  pub records : List Record
  pub stop : Check

-- no more records, and what stopped the parsing
abbrev pub ended : Check → Parsed
ended c = record { records = []; stop = c }

infixr 15 ◌before◌
-- a record, then what follows it
abbrev pub ◌before◌ : Record → Parsed → Parsed
r before w = record { records = r ∷ w.records; stop = w.stop }

-- one step of the parsing: at the sheet's end it ends, at a cause it stops, else a record and what follows it
unfoldable pub parse_step : Bool → Check → Record → Parsed → Parsed
parse_step false c r w = ended Clear
parse_step true (Err e) r w = ended (Err e)
parse_step true Clear r w = r before w

-- the parsing from an offset on; last is the rank of the record before. The first number only bounds the recursion:
-- parse_end and parse_on, in Format.Laws, are the equations of parse without it
unfoldable pub parse_from : ℕ → Format → List ℕ → ℕ → ℕ → Parsed
parse_from zero F s at last = ended Clear
parse_from (suc f) F s at last =
    let w : Parsed = parse_from f F s (end (record_at s at)) (rank_in F (record_at s at)) in
    parse_step (ltb at (length s)) (cause_at F s at last) (record_at s at) w

-- the parsing from an offset on (§4.1). A record has 6 bytes or more, so the number of bytes left is bound enough
unfoldable pub parse : Format → List ℕ → ℕ → ℕ → Parsed
parse F s at last = parse_from (length s - at) F s at last

-- the parsing of the whole sheet, from offset 0 on
unfoldable pub parsed : Format → List ℕ → Parsed
parsed F s = parse F s 0 0

-- the record where it is of one of the kinds
unfoldable pub of_kind : List ℕ → Record → Option Record
of_kind ks r = cond (among r.kind ks) (Some r) None

infixr 15 ◌or◌
-- the first that is found
unfoldable pub ◌or◌ : Option Record → Option Record → Option Record
f or g = option_or f g

-- the first record of one of the kinds in a list of records, or None
unfoldable pub find : List ℕ → List Record → Option Record
find ks [] = None
find ks (r ∷ rs) = of_kind ks r or find ks rs

-- ---- the record of each role
-- what is found of each, by its kinds
abbrev pub records_by : Format → (List ℕ → Option Record) → Records
records_by F f = record {
  machine = f F.machine;
  word = f F.word;
  sequence = f F.sequence;
  answers = f F.answers;
}

-- none
abbrev pub no_records : Records
no_records = records_by standard (λ ks. None)

-- one record, as that of the role which has its kind
abbrev pub one_record : Format → Record → Records
one_record F r = records_by F (λ ks. of_kind ks r)

-- the first of each role in a list of records
abbrev pub records_among : Format → List Record → Records
records_among F rs = records_by F (λ ks. find ks rs)

infixr 15 ◌or_each◌
-- the first that is found of each role
abbrev pub ◌or_each◌ : Records → Records → Records
a or_each b = record {
  machine = a.machine or b.machine;
  word = a.word or b.word;
  sequence = a.sequence or b.sequence;
  answers = a.answers or b.answers;
}

-- the one of a role
abbrev pub of_role : Records → Role → Option Record
of_role a Machine = a.machine
of_role a Word = a.word
of_role a Sequence = a.sequence
of_role a Answers = a.answers
of_role a Unknown = None

-- one record, as that of a role
abbrev pub in_role : Record → Role → Records
in_role r Machine = record { machine = Some r; word = None; sequence = None; answers = None }
in_role r Word = record { machine = None; word = Some r; sequence = None; answers = None }
in_role r Sequence = record { machine = None; word = None; sequence = Some r; answers = None }
in_role r Answers = record { machine = None; word = None; sequence = None; answers = Some r }
in_role r Unknown = no_records
