-- Sheets as joined records (§2.1): the bytes of a list of records, each given by its kind and its payload, and what a
-- sheet holds as such a list. The laws stand in Joining.Laws: how joined records are read. Joining.Whole has the
-- converse: a sheet without causes 1 and 2 is the joining of what it holds; and Joining.Front that the records of the
-- first roles come first.
use Rattle.std.specs.Prelude.{is_none}
use Rattle.std.specs.Prelude.{ℕ, ◌+◌, ◌^◌, ◌<◌, ◌≡◌, Bool, true, false, cond, ◌&&◌, ◌||◌, List, [], ◌∷◌, ◌++◌, map}
use Rattle.std.specs.Prelude.{length, get_or}
use Rattle.facts.specs.Lists.{among, Each}
use Rattle.sheet.specs.declared.record.Record.{Record}
use Rattle.std.specs.Prelude.{Some}
use Rattle.sheet.specs.Format.{Format, header, end, role_of, rank, parsed, find}
use Rattle.sheet.specs.Reader.{payload_part, part_bytes, record_of, content}
use Rattle.sheet.specs.Writing.{record_bytes}
pub mod Laws
pub mod Whole
pub mod Front

-- the bytes of a record that is given by its kind and its payload (§2.1)
abbrev pub bytes_of : ℕ × List ℕ → List ℕ
bytes_of r = record_bytes r.0 r.1

-- the bytes of several, one after the other (§2.1)
unfoldable pub joined : List (ℕ × List ℕ) → List ℕ
joined [] = []
joined (r ∷ rs) = bytes_of r ++ joined rs

-- where these records stand in the bytes, the first one at an offset
abbrev pub placed : ℕ → List (ℕ × List ℕ) → List Record
placed at [] = []
placed at (r ∷ rs) =
    record { start = at; size = length r.1; kind = r.0 } ∷ placed (at + header + length r.1) rs

-- records in the order of a format, behind one of rank last: their kinds are known and rise (§2.1), and a header can
-- hold each kind and each length
abbrev pub InOrder : Format → ℕ → List (ℕ × List ℕ) → Type 0
InOrder F last [] = Unit {0}
InOrder F last (r ∷ rs) =
    (last < rank (role_of F r.0)) × (r.0 < 65536) × (length r.1 < 2 ^ 32) × InOrder F (rank (role_of F r.0)) rs

-- the payload of the first of these records that is of one of the kinds; none where there is no such record
abbrev pub payload_of : List ℕ → List (ℕ × List ℕ) → List ℕ
payload_of ks [] = []
payload_of ks (r ∷ rs) = cond (among r.0 ks) r.1 (payload_of ks rs)

-- whether one of these records is of one of the kinds
abbrev pub has : List ℕ → List (ℕ × List ℕ) → Bool
has ks [] = false
has ks (r ∷ rs) = among r.0 ks || has ks rs

-- whether each of the roles, given by its kinds, has a record among these
abbrev pub has_all : List (List ℕ) → List (ℕ × List ℕ) → Bool
has_all [] rs = true
has_all (ks ∷ roles) rs = has ks rs && has_all roles rs

-- kind and payload of each of some records of a sheet
abbrev pub held_by : List ℕ → List Record → List (ℕ × List ℕ)
held_by s qs = map (λ r. (r.kind, part_bytes (payload_part (Some r)) s)) qs

-- what a sheet holds: those of each record up to where the parsing stops
abbrev pub contents : Format → List ℕ → List (ℕ × List ℕ)
contents F s = held_by s (parsed F s).records

-- the record of a role as a sheet has it, where reading it is not refused
abbrev pub record_in : Format → List ℕ → List ℕ → ℕ × List ℕ
record_in F s ks = ((record_of F ks s).kind, content F ks s)

-- the roles of a format, as their records stand
abbrev pub roles_of : Format → List (List ℕ)
roles_of F = F.machine ∷ F.word ∷ F.sequence ∷ F.answers ∷ []

-- roles whose ranks follow each other, that of the first being the next above last
abbrev pub Successive : Format → ℕ → List (List ℕ) → Type 0
Successive F last [] = Unit {0}
Successive F last (ks ∷ roles) = Each (λ k. rank (role_of F k) ≡ last + 1) ks × Successive F (last + 1) roles

-- a sheet that has no record of any of these roles, up to where its parsing stops
abbrev pub Lacks : Format → List ℕ → List (List ℕ) → Type 0
Lacks F s [] = Unit {0}
Lacks F s (ks ∷ roles) = (is_none (find ks (parsed F s).records) ≡ true) × Lacks F s roles

-- the records of these roles start one where the other ends, the first at an offset
abbrev pub Adjacent : Format → List ℕ → ℕ → List (List ℕ) → Type 0
Adjacent F s at [] = Unit {0}
Adjacent F s at (ks ∷ roles) =
    ((record_of F ks s).start ≡ at) × Adjacent F s (at + header + length (content F ks s)) roles

-- where the record of the last of these roles ends; at the given offset where there is no role
abbrev pub last_end : Format → List ℕ → ℕ → List (List ℕ) → ℕ
last_end F s at [] = at
last_end F s at (ks ∷ roles) = last_end F s (end (record_of F ks s)) roles

-- a record of a role to be written: the first of the role's kinds
abbrev pub fresh : List ℕ → List ℕ → ℕ × List ℕ
fresh ks payload = (get_or ks 0 0, payload)
