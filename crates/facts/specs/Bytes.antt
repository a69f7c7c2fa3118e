-- Lists of bytes, and a number's bytes, lowest first.
use Rattle.std.specs.Prelude.{ℕ, zero, suc, ◌+◌, ◌*◌, ◌/◌, ◌%◌, ◌^◌, ◌<◌, ◌≡◌, List, [], ◌∷◌, get_or, take, drop}
use Rattle.std.proofs.Common.{arith, div-lt_iff_lt-mul, mod-eq_of_lt, div-add-mod', get_or-drop}
use Rattle.std.proofs.Math.Nat.{div-div-eq-div-mul}

-- each element of a list is below 256
abbrev pub Bytes : List ℕ → Type 0
Bytes s = (i : ℕ) → get_or s i 0 < 256

pub bytes_take : (n : ℕ) (s : List ℕ) → Bytes s → Bytes (take n s)
bytes_take zero s h i = omega arith
bytes_take (suc n) [] h i = omega arith
bytes_take (suc n) (x ∷ s) h zero = h 0
bytes_take (suc n) (x ∷ s) h (suc i) = bytes_take n s (λ j. h (suc j)) i

-- of a part
pub bytes_part : (from size : ℕ) (s : List ℕ) → Bytes s → Bytes (take size (drop from s))
bytes_part from size s h = bytes_take size (drop from s) (λ i. rw get_or-drop (h (from + i)))

-- ---- a number from its two or four bytes
pub two_bytes : (n : ℕ) → n < 65536 → n % 256 + 256 * (n / 256 % 256) ≡ n
two_bytes n l = omega arith

pub four_bytes : (n : ℕ) → n < 2 ^ 32
    → n % 256 + 256 * (n / 256 % 256) + 65536 * (n / 65536 % 256) + 16777216 * (n / 16777216 % 256) ≡ n
four_bytes n l =
    let two : n / 256 / 256 ≡ n / 65536 = div-div-eq-div-mul n 256 256 in
    let three : n / 65536 / 256 ≡ n / 16777216 = div-div-eq-div-mul n 65536 256 in
    let last : n / 16777216 % 256 ≡ n / 16777216 =
    mod-eq_of_lt ((div-lt_iff_lt-mul {k = 16777216} (omega arith)).1 (omega arith)) in
    omega (arith, two, three, last, div-add-mod' n 256, div-add-mod' (n / 256) 256, div-add-mod' (n / 65536) 256)

-- ---- and the bytes of a number that is given by two or four of them
pub of_two_bytes : (a b n : ℕ) → a < 256 → b < 256 → n ≡ a + 256 * b
    → (n % 256 ≡ a) × (n / 256 % 256 ≡ b) × (n < 65536)
of_two_bytes a b n la lb e = omega arith

pub of_four_bytes : (a b c d n : ℕ) → a < 256 → b < 256 → c < 256 → d < 256
    → n ≡ a + 256 * b + 65536 * c + 16777216 * d
    → (n % 256 ≡ a) × (n / 256 % 256 ≡ b) × (n / 65536 % 256 ≡ c) × (n / 16777216 % 256 ≡ d) × (n < 2 ^ 32)
of_four_bytes a b c d n la lb lc ld e = omega arith
