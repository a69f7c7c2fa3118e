-- Checks 1 and 2 of a whole sheet (§4.1, §4.2), and what reading it gives (§2.4).
-- The laws stand in Reader.Laws, bounds on places in Reader.Bounds.
use Rattle.std.specs.Prelude.{ℕ, ◌+◌, ◌≤◌, ◌≡◌, Bool, true, false, cond, ◌&&◌, ◌||◌, List, [], ◌∷◌, ◌++◌, map, leb}
use Rattle.std.specs.Prelude.{ltb, length, take, drop}
use Rattle.std.specs.Borrow.{Bor}
use Rattle.facts.specs.Lists.{among}
use Rattle.sheet.specs.Check.{refusal◌with◌if◌, ◌else◌, first_cause, refused_or, Check, Clear, Refused}
use Rattle.std.specs.Prelude.{Option, Some, None, is_none, Result, Ok, Err}
use Rattle.sheet.specs.declared.check.Refusal.{Refusal}
use Rattle.sheet.specs.declared.record.Record.{Record}
use Rattle.sheet.specs.declared.record.Records.{Records}
use Rattle.sheet.specs.declared.reader.Part.{Part}
use Rattle.sheet.specs.declared.reader.Needs.{Needs}
use Rattle.sheet.specs.declared.parse.Reading.{Reading}
use Rattle.sheet.specs.Format.{Format, standard, header, end, parsed, find, records_by}
pub mod Laws
pub mod Bounds

-- cause 1 of a sheet that is too long, which comes before every other (§4.1)
abbrev pub too_long : Format → List ℕ → Check
too_long F s = refusal 1 with F.longest if ltb F.longest (length s)

-- cause 2 of a needed role: no record is of one of its kinds; the place is the sheet's length (§4.2)
abbrev pub missing : Format → List ℕ → List ℕ → Check
missing F s ks = refusal 2 with length s if is_none (find ks (parsed F s).records)

-- causes 1 and 2 in order, for the roles that a service needs, each given by its kinds: the length, the records, what
-- is missing (§4.1)
unfoldable pub sheet_causes : Format → List (List ℕ) → List ℕ → List Check
sheet_causes F roles s = too_long F s ∷ (parsed F s).stop ∷ map (missing F s) roles

-- a list where it is needed, else the empty list
abbrev pub when : {A : Type 0} → Bool → List A → List A
when true xs = xs
when false xs = []

-- the roles that a service on a machine needs (§2.3): the machine always, the others where the flags say so
abbrev pub needed : Format → Needs → List (List ℕ)
needed F needs =
    F.machine
    ∷ (when needs.word (F.word ∷ [])
    ++ (when needs.sequence (F.sequence ∷ []) ++ when needs.answers (F.answers ∷ [])))

-- what reading refuses with (§2.4): checks 1 and 2, a record of one of the kinds being needed
unfoldable pub refusal_of : Format → List ℕ → List ℕ → Check
refusal_of F ks s = first_cause (sheet_causes F (ks ∷ []) s)

-- ---- what one pass over a sheet gives
-- causes 1 and 2 but for what is missing: the length, then the records (§4.1)
abbrev pub whole_cause : Format → List ℕ → Check
whole_cause F s = too_long F s else (parsed F s).stop

-- what is found where nothing is refused
abbrev pub found_unless : Check → Option Record → Option Record
found_unless Clear f = f
found_unless (Err r) f = None

-- the record of one of the kinds that reading a sheet finds (§2.4): none where the sheet is too long or the parsing
-- is stopped
unfoldable pub found_in : Format → List ℕ → List ℕ → Option Record
found_in F ks s = found_unless (whole_cause F s) (find ks (parsed F s).records)

-- that of each role
abbrev pub records_in : Format → List ℕ → Records
records_in F s = records_by F (λ ks. found_in F ks s)

-- whether the record of one of these roles is missing
abbrev pub lacks : (List ℕ → Option Record) → List (List ℕ) → Bool
lacks found [] = false
lacks found (ks ∷ roles) = is_none (found ks) || lacks found roles

-- whether that of one that a service needs is
abbrev pub lacks_needed : Needs → Records → Bool
lacks_needed n f =
    is_none f.machine
    || ((n.word && is_none f.word)
    || ((n.sequence && is_none f.sequence) || (n.answers && is_none f.answers)))

-- the records, or causes 1 and 2 but for what is missing
abbrev pub whole_reading : Format → List ℕ → Result Records Refusal
whole_reading F s = refused_or Refused (whole_cause F s) (Ok (records_in F s))

-- all that a service reads a sheet for: causes 1 and 2 for the roles that it needs, and the record of each role
abbrev pub reading_of : Format → Needs → List ℕ → Reading
reading_of F n s = record { check = first_cause (sheet_causes F (needed F n) s); records = records_in F s }

-- ---- the record and the part of a role
-- the record that was found; where none was, cause 1 or 2 is present and this record is not used
abbrev pub record_or : Option Record → Record
record_or (Some r) = r
record_or None = record { start = 0; size = 0; kind = 0 }

-- the record of one of the kinds in a sheet: the places of the causes of its payload are its start or offsets in it
-- (§4.2)
unfoldable pub record_of : Format → List ℕ → List ℕ → Record
record_of F ks s = record_or (found_in F ks s)

-- where a record's payload lies, after its header (§2.1); the empty part at the sheet's start where there is no record
abbrev pub payload_part : Option Record → Part
payload_part (Some r) = record { from = r.start + header; size = r.size }
payload_part None = record { from = 0; size = 0 }

-- where the part lies that reading gives (§2.4): the wanted record's payload; on a refusal the empty part at the
-- sheet's start
unfoldable pub part : Format → List ℕ → List ℕ → Part
part F ks s = payload_part (found_in F ks s)

-- a record where the sheet holds all of it; it does where reading the sheet found it: part_within_lem, in Reader.Laws
abbrev pub within : List ℕ → Option Record → Option Record
within s (Some r) = cond (leb (end r) (length s)) (Some r) None
within s None = None

-- where its payload lies then
unfoldable pub part_within : List ℕ → Option Record → Part
part_within s f = payload_part (within s f)

-- the bytes of a part of a sheet
unfoldable pub part_bytes : Part → List ℕ → List ℕ
part_bytes p s = take p.size (drop p.from s)

-- the bytes that reading gives (§2.4): the payload, or none on a refusal
unfoldable pub content : Format → List ℕ → List ℕ → List ℕ
content F ks s = part_bytes (part F ks s) s

-- ---- by role, in the format that the services take (§2.2)
-- the payload of the machine's record, the word, the sequence and the answers of a sheet
abbrev pub machine_payload : List ℕ → List ℕ
machine_payload s = content standard standard.machine s

abbrev pub word_in : List ℕ → List ℕ
word_in s = content standard standard.word s

abbrev pub sequence_in : List ℕ → List ℕ
sequence_in s = content standard standard.sequence s

abbrev pub answers_in : List ℕ → List ℕ
answers_in s = content standard standard.answers s

-- the records in which they stand
abbrev pub machine_record : List ℕ → Record
machine_record s = record_of standard standard.machine s

abbrev pub word_record : List ℕ → Record
word_record s = record_of standard standard.word s

abbrev pub sequence_record : List ℕ → Record
sequence_record s = record_of standard standard.sequence s

abbrev pub answers_record : List ℕ → Record
answers_record s = record_of standard standard.answers s

-- ---- the lent sheet
-- a reference: the memory block and the offset in it to which it points, and the bytes there
abbrev pub seen : Bor (List ℕ) → (ℕ × ℕ) × List ℕ
seen r = (r.ref_ptr, r.now)

-- the part as a reference into the lent sheet (§2.4): the same block, so no copy, the part's position, and its bytes
unfoldable pub handed : Bor (List ℕ) → Part → (ℕ × ℕ) × List ℕ
handed s p = ((s.ref_ptr.0, s.ref_ptr.1 + p.from), part_bytes p s.now)

-- what holds where reading is not refused (§2.4): the record is of one of the kinds and lies inside the sheet, and the
-- part is its payload
pub record Reads (F : Format) (ks s : List ℕ) : Type 0 where
  pub kind : among (record_of F ks s).kind ks ≡ true
  pub from : (part F ks s).from ≡ (record_of F ks s).start + header
  pub size : (part F ks s).size ≡ (record_of F ks s).size
  pub inside : end (record_of F ks s) ≤ length s
