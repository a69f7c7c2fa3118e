-- Bytes copied into a buffer at a place, two parts one behind the other. `paste d at xs n` is d with the first n bytes
-- of xs from `at` on. The crates that write into a lent buffer cite this.
use Rattle.std.specs.Prelude.{ℕ, ◌+◌, ◌≤◌, ◌≡◌, List, ◌++◌, length}
use Rattle.std.proofs.Common.{append_assoc, arith, add_assoc, length-append, drop-drop}
use Rattle.std.proofs.Math.Seq.{paste, take-length}
use Rattle.std.proofs.lemmas.List.Edits.{take-paste, drop-paste}

-- two parts
pub paste_both : (d : List ℕ) (at : ℕ) (xs ys : List ℕ) → at + length xs ≤ length d
    → paste (paste d at xs (length xs)) (at + length xs) ys (length ys) ≡ paste d at (xs ++ ys) (length (xs ++ ys))
paste_both d at xs ys l =
    let x = length xs in
    let y = length ys in
    let front = take-paste d at xs x (omega arith) (omega arith) in
    let back = drop-paste d at xs x (omega arith) (omega arith) in
    rw (front, ← drop-drop y (at + x) (paste d at xs x), back, take-length (xs ++ ys))
    (simp (take-length, drop-drop, length-append, append_assoc, add_assoc))
