-- A record's header and a record as they are written (§2.1), and bytes put into a lent buffer at an offset or at its
-- start. The laws stand in Writing.Laws.
use Rattle.std.specs.Prelude.{ℕ, ◌+◌, ◌/◌, ◌%◌, ◌≤◌, ◌≡◌, cond, List, [], ◌∷◌, ◌++◌, leb, length, drop}
use Rattle.std.proofs.Math.Seq.{paste}
pub mod Laws

-- a header (§2.1): the payload's length, below 2^32, in 4 bytes and the kind, below 2^16, in 2, lowest byte first
unfoldable pub header_of : ℕ → ℕ → List ℕ
header_of kind size =
    (size % 256)
    ∷ (size / 256 % 256)
    ∷ (size / 65536 % 256)
    ∷ (size / 16777216 % 256)
    ∷ (kind % 256)
    ∷ (kind / 256 % 256)
    ∷ []

-- a record as a sheet has it (§2.1): its header, then the payload
abbrev pub record_bytes : ℕ → List ℕ → List ℕ
record_bytes kind payload = header_of kind (length payload) ++ payload

-- the most bytes of a payload: what the 4 bytes of its length can hold (§2.1)
abbrev pub most_payload : ℕ
most_payload = 4294967295

-- the bytes of a record that is put into a buffer: none where its header cannot hold the payload's length
unfoldable pub record_put : ℕ → List ℕ → List ℕ
record_put kind payload = cond (leb (length payload) most_payload) (record_bytes kind payload) []

-- a buffer after bytes were put at an offset: where all of them fit they are there and every other byte is as it was,
-- else nothing is changed
unfoldable pub put_at : List ℕ → ℕ → List ℕ → List ℕ
put_at before at xs = cond (leb (at + length xs) (length before)) (paste before at xs (length xs)) before

-- the offset after what was put: that after the bytes where all of them fit, else the one at which they were to go
unfoldable pub put_end : List ℕ → ℕ → List ℕ → ℕ
put_end before at xs = cond (leb (at + length xs) (length before)) (at + length xs) at

-- bytes put at an offset of a buffer where all of them fit, all else as it was, with the offset after them
pub record Puts (before : List ℕ) (at : ℕ) (xs after : List ℕ) (end : ℕ) : Type 0 where
  pub ends : end ≡ at + length xs
  pub inside : end ≤ length before
  pub written : after ≡ paste before at xs (length xs)

-- a buffer with room for these bytes after they were written to its start: they are its first bytes, and the bytes
-- after them keep their values (§4.3)
abbrev pub written : List ℕ → List ℕ → List ℕ
written xs buffer = xs ++ drop (length xs) buffer
