-- The house table: packed, it passes the test over the sixteen entries; above 3; and its machine record, byte by byte.
-- Assumes nothing.
use Prim.Native.Nat.{ℕ, zero, suc, ◌+◌, ◌*◌, ◌/◌, ◌%◌, ◌≤◌, ◌<◌}
use mathlib.Core.Path.{◌≡◌, refl, sym, ap, ◌∙◌}
use mathlib.Core.Bool.{true}
use mathlib.Core.List.{List, [], map, flat_map}
use native.Mathlib.Omega.{arith}
use lib.Dec.{eqb}
use borrow.Author.Tests.{eqb-true}
use lib.ListN.{length, get_or, set, take, replicate, get_or-eq_default}
use lib.Seq.{take_all}
use Rattle.machine.specs.declared.house.Entry.{Entry}
use Rattle.machine.specs.Limits.{most_machine}
use Rattle.machine.specs.Machine.{pair_at, machine_of}
use Rattle.machine.specs.House.{house_table, house_entry, house_payload, house}
use Rattle.machine.specs.House.Laws.{every, every_at, right_at, all_right, right_table, payload_entry, payload_long}
use Rattle.sheet.specs.Format.{standard}

-- the specified table, row by row, each entry in one number: its next state times 64, plus its answer
unfoldable pub packed_table : List ℕ
packed_table = flat_map (map (λ (e : Entry). e.next * 64 + e.answer)) house_table

table_right : all_right (λ e. get_or packed_table e 0 / 64) (λ e. get_or packed_table e 0 % 64) ≡ true
unfolding every right_at all_right house_entry packed_table flat_map
table_right = refl

-- unpacked, its numbers are the entries again
pub house_inside : (s c : ℕ) → s ≤ 3 → c ≤ 3
    → record { next = get_or packed_table (s * 4 + c) 0 / 64; answer = get_or packed_table (s * 4 + c) 0 % 64 }
    ≡ house_entry s c
house_inside = right_table (λ e. get_or packed_table e 0 / 64) (λ e. get_or packed_table e 0 % 64) table_right

row_length : (s : ℕ) → length (get_or house_table s []) ≤ 4
row_length zero = omega arith
row_length (suc zero) = omega arith
row_length (suc (suc zero)) = omega arith
row_length (suc (suc (suc zero))) = omega arith
row_length (suc (suc (suc (suc s)))) = omega arith

-- above 3
pub house_command : (s c : ℕ) → 3 < c → record { next = 255; answer = 0 } ≡ house_entry s c
unfolding house_entry
house_command s c h =
    sym (get_or-eq_default (get_or house_table s []) (record { next = 255; answer = 0 }) (omega (arith, row_length s)))

pub house_state : (s c : ℕ) → 3 < s → record { next = 255; answer = 0 } ≡ house_entry s c
unfolding house_entry
house_state s c h =
    ap (λ (row : List Entry). get_or row c (record { next = 255; answer = 0 }))
    (sym (get_or-eq_default house_table [] {n = s} (omega arith)))

-- an entry's two bytes in the machine record
pub payload_next : {x : Entry} (e at : ℕ) → e < 16 → x ≡ house_entry (e / 4) (e % 4) → pair_at standard e ≡ at
    → x.next ≡ get_or house_payload at 0
payload_next e at l q here =
    ap (λ (y : Entry). y.next) (q ∙ sym (payload_entry e l)) ∙ ap (λ (i : ℕ). get_or house_payload i 0) here

pub payload_answer : {x : Entry} (e at : ℕ) → e < 16 → x ≡ house_entry (e / 4) (e % 4) → pair_at standard e + 1 ≡ at
    → x.answer ≡ get_or house_payload at 0
payload_answer e at l q here =
    ap (λ (y : Entry). y.answer) (q ∙ sym (payload_entry e l)) ∙ ap (λ (i : ℕ). get_or house_payload i 0) here

-- n and k
abbrev begun : ℕ → ℕ
begun j = get_or (set (set (replicate (standard.table + 32) 0) 0 4) 1 4) j 0

begins : every standard.table (λ j. eqb (begun j) (get_or house_payload j 0)) ≡ true
unfolding every house_payload
begins = refl

pub payload_starts : (j : ℕ) → j < standard.table → begun j ≡ get_or house_payload j 0
payload_starts j l = eqb-true _ _ (every_at standard.table (λ j. eqb (begun j) (get_or house_payload j 0)) begins j l)

-- the machine that is loaded from it
pub house_loaded : {p : List ℕ} → p ≡ house_payload → machine_of standard (take (most_machine standard) p) ≡ house
unfolding house
house_loaded {p} e =
    ap (λ (q : List ℕ). machine_of standard (take (most_machine standard) q)) e
    ∙ ap (machine_of standard) (take_all (most_machine standard) house_payload (omega (arith, payload_long)))
