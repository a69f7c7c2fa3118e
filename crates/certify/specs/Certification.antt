-- Certifying: its causes (§4.1), the answer and what is written (§5.4), and the contract (§4.4), which says by
-- Recognition what an answer and a mark mean. No other module can unfold `verified`, `open_cause`, `open_in`, `outcome`,
-- `certification` and `marks_after`; proofs/CertificationContract.antt shows that the contract holds of them.
-- Certification.Laws has the laws of causes, answer and buffer (those by the rules in proofs/CertificationLaws.antt),
-- proofs/CertificationBounds.antt how large the values are, Certification.Program what the program's own functions
-- need; Certification.Twin and proofs/CertificationTwin.antt compute the starred sequences.
use Rattle.std.specs.Prelude.{Err}
use Rattle.std.specs.Prelude.{ℕ, ◌+◌, ◌*◌, ◌≡◌, Bool, true, false, not, ◌&&◌, List, [], ◌∷◌, ◌++◌, ◌↔◌, eqb, length}
use Rattle.std.specs.Prelude.{get_or, take, drop}
use Rattle.sheet.specs.Check.{unless_refused, Check, Clear, Refused, refusal◌with◌if◌, ◌else◌, first_cause, first}
use Rattle.sheet.specs.Check.{refused_or}
use Rattle.sheet.specs.Promise.{cause9}
use Rattle.certify.specs.Answer.{Answer, Certified as CertifiedAnswer, Open}
use Rattle.sheet.specs.declared.check.Values.{Values}
use Rattle.sheet.specs.declared.reader.Needs.{Needs}
use Rattle.sheet.specs.Values.{refusal_values, Returns}
use Rattle.sheet.specs.Format.{standard}
use Rattle.sheet.specs.Reader.{word_in, sequence_in, records_in}
use Rattle.sheet.specs.Writing.{written}
use Rattle.machine.specs.declared.loading.Loaded.{Loaded}
use Rattle.machine.specs.Machine.{Mealy, state_at, meaning}
use Rattle.machine.specs.Causes.{machine_in, load_causes}
use Rattle.certify.specs.Recognition.{Certified, OpenNumber, MarksOf, RecognisedNumber}
use Rattle.certify.specs.Marks.{any, marked, count, marks}
pub mod Laws
pub mod Contract
pub mod Bounds
pub mod Program
pub mod Twin

-- ---- causes
-- the kinds that a service which certifies needs (§2.3): 1 to 3, and 4 where it needs the answers
abbrev pub sequence_needs : Bool → Needs
sequence_needs with_answers = record { word = true; sequence = true; answers = with_answers }

-- the bytes that the marks of a sequence need (§4.2, cause 9)
abbrev pub mark_bytes : List ℕ → ℕ
mark_bytes xs = length xs + 1

-- the causes of loading, then 9, of a service that marks the places of a sequence (§4.1), by whether it needs the
-- answers and by the room for marks
unfoldable pub marking_causes : Bool → ℕ → List ℕ → List Check
marking_causes with_answers room s =
    load_causes (sequence_needs with_answers) s ++ (cause9 room (mark_bytes (sequence_in s)) ∷ [])

-- the causes of certifying (§4.1)
abbrev pub certify_causes : ℕ → List ℕ → List Check
certify_causes room s = marking_causes false room s

-- ---- what is certified
-- whether entry (s, c) is verified by these marks: Verified of Recognition, computed
pub verified : Mealy → List ℕ → List ℕ → ℕ → ℕ → Bool
verified M xs ms s c =
    any (length xs) (λ i. eqb (state_at M xs i) s && (eqb (get_or xs i 0) c && (marked ms i && marked ms (i + 1))))

-- an entry that is not verified, as a cause with its open number, of marks
abbrev pub entry_cause : Mealy → List ℕ → List ℕ → ℕ → ℕ → Check
entry_cause M xs ms s c = refusal 11 with 1 + (s * M.k + c) if not (verified M xs ms s c)

-- the open number by these marks, as cause 11 with the number as its place (`OpenNumber` of Recognition, computed);
-- Clear where there is none
pub open_cause : Mealy → List ℕ → List ℕ → Check
open_cause M xs ms =
    (refusal 11 with 0 if not (marked ms 0))
    else first M.n (λ s. first M.k (entry_cause M xs ms s))

-- the open number by the sequence's own marks, in the same form
pub open_in : Mealy → List ℕ → List ℕ → Check
open_in M w xs = open_cause M xs (marks M w xs)

-- certified where there is no open number, else open (§5.4); both with the number of recognised places
abbrev pub answer_of : Check → ℕ → Answer
answer_of Clear recognised = CertifiedAnswer recognised
answer_of (Err r) recognised = Open recognised r.place

-- what certifying answers where nothing is refused (§5.4)
pub outcome : Mealy → List ℕ → List ℕ → Answer
outcome M w xs = answer_of (open_in M w xs) (count (marks M w xs))

-- ---- the service
-- what certifying answers to a sheet and a room for marks (§4.1, §5.4)
pub certification : ℕ → List ℕ → Answer
certification room s =
    refused_or Refused (first_cause (certify_causes room s)) (outcome (machine_in s) (word_in s) (sequence_in s))

-- marks in a buffer (§5.4): one byte each, written to its start, and the bytes after them keep their values
unfoldable pub kept : List ℕ → List ℕ → List ℕ
kept ms buffer = written ms buffer

-- the lent buffer after certifying: it begins with the marks (§5.4); on a refusal it is as before (§4.3)
pub marks_after : List ℕ → List ℕ → List ℕ
marks_after s buffer =
    unless_refused (first_cause (certify_causes (length buffer) s))
    (kept (marks (machine_in s) (word_in s) (sequence_in s)) buffer) buffer

-- the first N + 1 bytes of a buffer, where the marks of a sequence are (§5.4)
unfoldable pub kept_in : List ℕ → List ℕ → List ℕ
kept_in xs buffer = take (mark_bytes xs) buffer

-- ---- the contract
-- number and values of each answer (§8.3): certified and open have the number of recognised places as their place, and
-- open has its open number as b
abbrev pub values_of : Answer → Values
values_of (CertifiedAnswer recognised) = record { class = 110; place = recognised; a = 0; b = 0 }
values_of (Open recognised number) = record { class = 111; place = recognised; a = 0; b = number }
values_of (Err r) = refusal_values r.number r.place

-- certified with a number (§5.4): no cause is present, the rules certify the sequence, and so many places are
-- recognised
pub record CertifiedWith (room : ℕ) (s : List ℕ) (recognised : ℕ) : Type 0 where
  pub clear : first_cause (certify_causes room s) ≡ Clear
  pub certified : Certified (machine_in s) (word_in s) (sequence_in s)
  pub number : RecognisedNumber (machine_in s) (word_in s) (sequence_in s) recognised

-- open with two numbers (§5.4): no cause is present, so many places are recognised, and v is the sequence's open number
pub record OpenWith (room : ℕ) (s : List ℕ) (recognised v : ℕ) : Type 0 where
  pub clear : first_cause (certify_causes room s) ≡ Clear
  pub open_number : OpenNumber (machine_in s) (word_in s) (sequence_in s) v
  pub number : RecognisedNumber (machine_in s) (word_in s) (sequence_in s) recognised

-- what an answer to a sheet and a room for marks says (§5.4): each case is answered exactly where that holds
pub record Says (room : ℕ) (s : List ℕ) (a : Answer) : Type 0 where
  pub certified : (n : ℕ) → (a ≡ CertifiedAnswer n) ↔ CertifiedWith room s n
  pub opened : (n v : ℕ) → (a ≡ Open n v) ↔ OpenWith room s n v
  pub refused : (n p : ℕ) → (a ≡ Refused n p) ↔ (first_cause (certify_causes room s) ≡ Refused n p)

-- a sheet that was loaded, with its machine and its records, where certifying into this room refuses nothing
pub record Certifiable (s : List ℕ) (room : ℕ) (l : Loaded) : Type 0 where
  pub clear : first_cause (certify_causes room s) ≡ Clear
  pub machine : meaning l.machine ≡ machine_in s
  pub records : l.records ≡ records_in standard s

-- what certifying a sheet promises (§4.4): the specified answer with its number and values, and what it says; every
-- byte of the lent buffer, and what these are: the marks with later bytes unchanged or, on a refusal, those before
pub record Certifies (s before after : List ℕ) (a : Answer) : Type 0 where
  pub answer : Returns values_of (certification (length before) s) a
  pub says : Says (length before) s a
  pub marks : after ≡ marks_after s before
  pub marked : first_cause (certify_causes (length before) s) ≡ Clear
      → MarksOf (machine_in s) (word_in s) (sequence_in s) (kept_in (sequence_in s) after)
  pub later : drop (mark_bytes (sequence_in s)) after ≡ drop (mark_bytes (sequence_in s)) before
  pub unwritten : (n p : ℕ) → a ≡ Refused n p → after ≡ before
