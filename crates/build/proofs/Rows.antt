-- The table of transfers: a row stored, and the rows before it kept.
-- Assumes nothing.
use Prim.Native.Nat.{ℕ, ◌+◌, ◌-◌, ◌*◌, ◌≤◌, ◌<◌}
use mathlib.Core.Path.{◌≡◌, refl, sym, ap, ap₂, ◌∙◌}
use mathlib.Core.List.{List, ◌++◌, append_assoc}
use native.Mathlib.Omega.{arith}
use lib.ListN.{length, get_or, set, take, drop, length-set}
use lib.Seq.{paste, length-paste, length-take-le, take-take, take-set-le, take-add, take_at, drop_at, get_or-take}
use lib.Seq.{get_or-set_same, take-length}
use Rattle.machine.specs.Limits.{most_states}
use Rattle.sheet.specs.Writing.{put_at}
use Rattle.sheet.specs.Writing.Laws.{put_fits}
use Rattle.build.specs.Table.{row_size, table_size, row, Stored}
use Rattle.build.specs.Writing.{Adds}

-- a part in the middle depends on the front alone
middle_is : (l : List ℕ) (j v : ℕ) → j ≤ length l → take v (drop j l) ≡ drop j (take (j + v) l)
middle_is l j v h = sym (ap (drop j) (take-add j v l) ∙ drop_at (take j l) (take v (drop j l)) j (length-take-le j l h))

same_middle : (l m : List ℕ) (a j v : ℕ) → length l ≡ length m → take a l ≡ take a m → j + v ≤ a → a ≤ length m
    → take v (drop j l) ≡ take v (drop j m)
same_middle l m a j v long e h i =
    middle_is l j v (omega arith)
    ∙ ap (drop j) (sym (take-take (j + v) a l h) ∙ ap (take (j + v)) e ∙ take-take (j + v) a m h)
    ∙ sym (middle_is m j v (omega arith))

same_cell : (l m : List ℕ) (a i : ℕ) → take a l ≡ take a m → i < a → get_or l i 0 ≡ get_or m i 0
same_cell l m a i e h = sym (get_or-take a l i 0 h) ∙ ap (λ (x : List ℕ). get_or x i 0) e ∙ get_or-take a m i 0 h

-- the size stored at the front of a row, the commands behind it
module _ (before xs : List ℕ) (s : ℕ) (sl : s < most_states) (few : length xs < row_size)
    (long : length before ≡ table_size) where
  a : ℕ
  a = s * row_size

  d : List ℕ
  d = set before a (length xs)

  after : List ℕ
  after = paste d (a + 1) xs (length xs)

  d_long : length d ≡ table_size
  unfolding d
  d_long = length-set before a (length xs) ∙ long

  after_long : length after ≡ table_size
  unfolding after a
  after_long = length-paste d (a + 1) xs (length xs) (omega (arith, d_long)) (omega arith) ∙ d_long

  head_long : length (take (a + 1) d) ≡ a + 1
  unfolding a
  head_long = length-take-le (a + 1) d (omega (arith, d_long))

  after_split : after ≡ take (a + 1) d ++ (xs ++ drop (a + 1 + length xs) d)
  unfolding after
  after_split =
      append_assoc (take (a + 1) d) (take (length xs) xs) (drop (a + 1 + length xs) d)
      ∙ ap (λ (l : List ℕ). take (a + 1) d ++ (l ++ drop (a + 1 + length xs) d)) (take-length xs)

  front : take (a + 1) after ≡ take (a + 1) d
  front = ap (take (a + 1)) after_split ∙ take_at (take (a + 1) d) _ (a + 1) head_long

  kept : take a after ≡ take a before
  unfolding d
  kept =
      sym (take-take a (a + 1) after (omega arith))
      ∙ ap (take a) front
      ∙ take-take a (a + 1) d (omega arith)
      ∙ take-set-le a before a (length xs) (omega arith)

  cell : get_or after a 0 ≡ length xs
  unfolding d a
  cell = same_cell after d (a + 1) a front (omega arith) ∙ get_or-set_same before a (length xs) 0 (omega arith)

  stored_row : row after s ≡ xs
  unfolding row a
  stored_row =
      ap₂ (λ (n : ℕ) (l : List ℕ). take n l) cell
      (ap (drop (a + 1)) after_split ∙ drop_at (take (a + 1) d) _ (a + 1) head_long)
      ∙ take_at xs (drop (a + 1 + length xs) d) (length xs) refl

  other_cell : (i : ℕ) → i < s → get_or after (i * row_size) 0 ≡ get_or before (i * row_size) 0
  unfolding a
  other_cell i l = same_cell after before a (i * row_size) kept (omega arith)

  other_row : (i : ℕ) → i < s → get_or before (i * row_size) 0 < row_size → row after i ≡ row before i
  unfolding row a
  other_row i l v =
      ap (λ (n : ℕ). take n (drop (i * row_size + 1) after)) (other_cell i l)
      ∙ same_middle after before a (i * row_size + 1) (get_or before (i * row_size) 0) (after_long ∙ sym long) kept
      (omega arith) (omega arith)

  pub row_stored : {now : List ℕ} → now ≡ put_at (set before (s * row_size) (length xs)) (s * row_size + 1) xs
      → Stored before now s (length xs) xs
  unfolding after d a
  row_stored h =
      let e = h ∙ put_fits d (a + 1) xs (omega (arith, d_long)) in
      rw e (record {
        long = after_long;
        sized = cell;
        stored = stored_row ∙ sym (take-length xs);
        sizes = other_cell;
        rows = other_row;
      })

-- a row written as the part of the table that it is
pub adds_row : (rows : List ℕ) (s : ℕ) {before after xs : List ℕ} {at end : ℕ}
    → xs ≡ take (s * row_size + 1 + get_or rows (s * row_size) 0 - (s * row_size + 1)) (drop (s * row_size + 1) rows)
    → Adds before at xs after end → Adds before at (row rows s) after end
unfolding row
adds_row rows s {before} {after} {xs} e h =
    let size : s * row_size + 1 + get_or rows (s * row_size) 0 - (s * row_size + 1) ≡ get_or rows (s * row_size) 0 =
    omega arith in
    let part : xs ≡ take (get_or rows (s * row_size) 0) (drop (s * row_size + 1) rows) =
    e ∙ ap (λ (n : ℕ). take n (drop (s * row_size + 1) rows)) size in
    rw (← part) h
