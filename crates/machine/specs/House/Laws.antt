-- The laws of the house unit: a table whose sixteen entries pass one test, which antt computes, has the specified
-- entries; so has its machine.
use Rattle.std.specs.Prelude.{ℕ, zero, suc, ◌+◌, ◌*◌, ◌/◌, ◌%◌, ◌≤◌, ◌<◌, ◌≡◌, refl, Bool, true, ◌&&◌, eqb, length}
use Rattle.std.specs.Prelude.{get_or}
use Rattle.std.proofs.Common.{ap₂, ◌∙◌, inl, inr, arith, le_of_suc-le-suc, not-suc-le-zero, eq-or-lt_of_le, eqb-true}
use Rattle.facts.specs.Tests.{both_true}
use Rattle.machine.specs.Machine.{pair_at, machine_of}
use Rattle.machine.specs.House.{house_entry, house_payload, house}
use Rattle.sheet.specs.Format.{standard}

-- a test passes at every number below n
unfoldable pub every : ℕ → (ℕ → Bool) → Bool
every zero f = true
every (suc n) f = f n && every n f

pub every_at : (n : ℕ) (f : ℕ → Bool) → every n f ≡ true → (i : ℕ) → i < n → f i ≡ true
unfolding every
every_at zero f e i l = absurd (not-suc-le-zero l)
every_at (suc n) f e i l = elim (eq-or-lt_of_le (le_of_suc-le-suc l)) [
  | inl q ↦ rw q (both_true (f n) (every n f) e).0
  | inr q ↦ every_at n f (both_true (f n) (every n f) e).1 i q
]

-- the test of a table's two columns, entry e being that of state e / 4 and command e % 4
unfoldable pub right_at : (ℕ → ℕ) → (ℕ → ℕ) → ℕ → Bool
right_at next answer e =
    eqb (next e) (house_entry (e / 4) (e % 4)).next && eqb (answer e) (house_entry (e / 4) (e % 4)).answer

unfoldable pub all_right : (ℕ → ℕ) → (ℕ → ℕ) → Bool
all_right next answer = every 16 (right_at next answer)

right_entry : (next answer : ℕ → ℕ) → all_right next answer ≡ true → (e : ℕ) → e < 16
    → record { next = next e; answer = answer e } ≡ house_entry (e / 4) (e % 4)
unfolding right_at all_right
right_entry next answer all e l =
    let t = both_true (eqb (next e) _) (eqb (answer e) _) (every_at 16 (right_at next answer) all e l) in
    ap₂ (λ (x y : ℕ). record { next = x; answer = y }) (eqb-true _ _ t.0) (eqb-true _ _ t.1)

pub right_table : (next answer : ℕ → ℕ) → all_right next answer ≡ true → (s c : ℕ) → s ≤ 3 → c ≤ 3
    → record { next = next (s * 4 + c); answer = answer (s * 4 + c) } ≡ house_entry s c
right_table next answer all s c p q =
    right_entry next answer all (s * 4 + c) (omega arith) ∙ ap₂ house_entry (omega arith) (omega arith)

-- ---- the machine record, and the machine
listed : all_right (λ e. get_or house_payload (pair_at standard e) 0) (λ e. get_or house_payload (pair_at standard e + 1) 0)
    ≡ true
unfolding every right_at all_right house_entry house_payload
listed = refl

-- entry e of the record
pub payload_entry : (e : ℕ) → e < 16
    → record { next = get_or house_payload (pair_at standard e) 0; answer = get_or house_payload (pair_at standard e + 1) 0 }
    ≡ house_entry (e / 4) (e % 4)
payload_entry = right_entry (λ e. get_or house_payload (pair_at standard e) 0)
    (λ e. get_or house_payload (pair_at standard e + 1) 0) listed

pub payload_long : length house_payload ≡ standard.table + 32
unfolding house_payload
payload_long = refl

-- the machine's sixteen entries are those of the lookup
pub house_entry_lem : (s c : ℕ) → s < house.n → c < house.k
    → record { next = house.next s c; answer = house.answer s c } ≡ house_entry s c
unfolding house machine_of house_payload
house_entry_lem s c p q =
    right_table (λ e. get_or house_payload (pair_at standard e) 0) (λ e. get_or house_payload (pair_at standard e + 1) 0) listed
    s c (omega arith) (omega arith)
