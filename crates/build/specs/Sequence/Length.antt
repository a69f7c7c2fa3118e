-- The commands of the prescribed sequence are the machine's, and its length is within the length formula (§6.4), so
-- never above the limit of a sequence. M is the machine, w the word.
use Prim.Native.Nat.{ℕ, zero, suc, ◌+◌, ◌*◌, ◌≤◌, ◌<◌}
use Rattle.std.specs.Prelude.{◌≡◌, List, [], ◌∷◌, ◌++◌, length}
use Rattle.std.proofs.Common.{inl, inr, add-one, mul-le-mul, zero-mul, mul_assoc, length-append}
use native.Mathlib.Omega.{arith}
use Rattle.std.proofs.Math.Nat.{mul-le-mul_right, suc-mul}
use Rattle.facts.specs.Lists.{Below, low_append}
use Rattle.facts.specs.Numbers.{equal_or_not}
use Rattle.machine.specs.Limits.{most_states, most_entries, most_word, most_sequence}
use Rattle.machine.specs.Machine.{Mealy, run, Proper}
use Rattle.machine.specs.Machine.Laws.{proper_entries}
use Rattle.build.specs.Sequence.{following, T, nth_state, first_blocks, opening, approach, test, state_tests, tests}
use Rattle.build.specs.Sequence.{sequence, block_bound, most_block, length_bound}
use Rattle.build.specs.Sequence.Cycle.{following_below, gap, gap_below, gap_step, nth_state_below}
use Rattle.build.specs.Sequence.Laws.{Blocks, test_is, approach_none, approach_here, approach_step, opening_is}
use Rattle.build.specs.Sequence.Laws.{opening_leads, first_blocks_none, first_blocks_more, state_tests_stay}
use Rattle.build.specs.Sequence.Laws.{state_tests_none, state_tests_more, tests_none, tests_more, tests_stay}
use Rattle.build.specs.Sequence.Laws.{sequence_is}

-- ---- lists of commands below k and of at most m commands
record Short (k m : ℕ) (xs : List ℕ) : Type 0 where
  low : Below k xs
  few : length xs ≤ m

short_append : {k m n : ℕ} (xs ys : List ℕ) → Short k m xs → Short k n ys → Short k (m + n) (xs ++ ys)
short_append {k} xs ys a b = record {
  low = low_append k xs ys a.low b.low;
  few = omega (arith, a.few, b.few, length-append xs ys);
}

short_none : (k : ℕ) {xs : List ℕ} → xs ≡ [] → Short k 0 xs
short_none k e = rw e (record { low = λ i l. let z : ⊥ = omega arith in absurd z; few = omega arith })

short_one : (k c : ℕ) → c < k → Short k 1 (c ∷ [])
short_one k c l = record { low = λ i m. let z : i ≡ 0 = omega arith in rw z l; few = omega arith }

short_within : {k m n : ℕ} {xs : List ℕ} → m ≤ n → Short k m xs → Short k n xs
short_within l a = record { low = a.low; few = omega (arith, a.few) }

-- ---- the parts
module _ (M : Mealy) (w : List ℕ) (h : Blocks M w) where
  block : ℕ
  block = block_bound M w

  block_short : (s : ℕ) → s < M.n → Short M.k block (T M w s)
  unfolding block
  block_short s sl = record { low = h.low s sl; few = h.short s sl }

  first_blocks_short : (i : ℕ) → Short M.k (i * block) (first_blocks M w i)
  first_blocks_short zero = rw zero-mul (short_none M.k (first_blocks_none M w))
  first_blocks_short (suc i) =
      rw (suc-mul, first_blocks_more M w i)
      (short_append (first_blocks M w i) (T M w (nth_state M i)) (first_blocks_short i)
      (block_short (nth_state M i) (nth_state_below M h.proper i)))

  opening_short : Short M.k ((M.n + 1) * block) (opening M w)
  opening_short = rw (opening_is M w h, add-one) (first_blocks_short (suc M.n))

  -- at most one block for each state of the gap
  approach_short : (i p s : ℕ) → p < M.n → s < M.n → Short M.k (gap M.n p s * block) (approach M w i p s)
  approach_short zero p s pl sl = short_within (omega arith) (short_none M.k (approach_none M w p s))
  approach_short (suc i) p s pl sl = elim (equal_or_not p s) [
    | inl e ↦ rw e (short_within (omega arith) (short_none M.k (approach_here M w (suc i) s)))
    | inr ne ↦ (let q = following M.n p in
        let more : gap M.n p s ≡ suc (gap M.n q s) = omega (arith, gap_step M.n p s pl sl ne) in
        rw (more, suc-mul, approach_step M w h i p s pl ne)
        (short_within (omega arith) (short_append (T M w p) (approach M w i q s) (block_short p pl)
        (approach_short i q s (following_below M.n p pl) sl))))
  ]

  -- the length of a test at most
  test_length : ℕ
  test_length = M.n * block + 1

  test_short : (p s c : ℕ) → p < M.n → s < M.n → c < M.k → Short M.k test_length (test M w p s c)
  unfolding test_length
  test_short p s c pl sl cl =
      let g = gap_below M.n p s pl sl in
      let rest =
      short_append (c ∷ []) (T M w (M.next s c)) (short_one M.k c cl)
      (block_short (M.next s c) (h.proper.stays s c sl cl)) in
      rw (test_is M w p s c)
      (short_within
      (omega (arith, suc-mul (gap M.n p s) block, mul-le-mul_right {m = suc (gap M.n p s)} {n = M.n} block g))
      (short_append (approach M w M.n p s) (c ∷ T M w (M.next s c)) (approach_short M.n p s pl sl) rest))

  state_tests_short : (p s c : ℕ) → p < M.n → s < M.n → c ≤ M.k
      → Short M.k (c * test_length) (state_tests M w p s c)
  state_tests_short p s zero pl sl cl = rw zero-mul (short_none M.k (state_tests_none M w p s))
  state_tests_short p s (suc c) pl sl cl =
      let stays = state_tests_stay M w h p s c pl sl (omega arith) in
      rw (suc-mul, state_tests_more M w p s c)
      (short_append (state_tests M w p s c) _ (state_tests_short p s c pl sl (omega arith))
      (test_short _ s c stays sl cl))

  tests_short : (p s : ℕ) → p < M.n → s ≤ M.n → Short M.k (s * (M.k * test_length)) (tests M w p s)
  tests_short p zero pl sl = rw zero-mul (short_none M.k (tests_none M w p))
  tests_short p (suc s) pl sl =
      let stays = tests_stay M w h p s pl (omega arith) in
      rw (suc-mul, tests_more M w p s)
      (short_append (tests M w p s) _ (tests_short p s pl (omega arith))
      (state_tests_short _ s M.k stays sl (omega arith)))

  -- ---- the lengths of the parts
  pub approach_length : (i p s : ℕ) → p < M.n → s < M.n
      → length (approach M w i p s) ≤ gap M.n p s * block_bound M w
  unfolding block
  approach_length i p s pl sl = (approach_short i p s pl sl).few

  pub approach_low : (i p s : ℕ) → p < M.n → s < M.n → Below M.k (approach M w i p s)
  approach_low i p s pl sl = (approach_short i p s pl sl).low

  pub test_length_lem : (p s c : ℕ) → p < M.n → s < M.n → c < M.k → length (test M w p s c) ≤ M.n * block_bound M w + 1
  unfolding block test_length
  test_length_lem p s c pl sl cl = (test_short p s c pl sl cl).few

  pub state_tests_length : (p s c : ℕ) → p < M.n → s < M.n → c ≤ M.k
      → length (state_tests M w p s c) ≤ c * (M.n * block_bound M w + 1)
  unfolding block test_length
  state_tests_length p s c pl sl cl = (state_tests_short p s c pl sl cl).few

  pub opening_length : length (opening M w) ≤ (M.n + 1) * block_bound M w
  unfolding block
  opening_length = opening_short.few

  -- ---- the whole
  sequence_short : Short M.k ((M.n + 1) * block + M.n * (M.k * test_length)) (sequence M w)
  sequence_short =
      let p = run M M.start (opening M w) in
      let pl : p < M.n = rw (opening_leads M w h) (following_below M.n M.start h.proper.starts) in
      rw (sequence_is M w)
      (short_append (opening M w) (tests M w p M.n) opening_short (tests_short p M.n pl (omega arith)))

  -- the length formula bounds the length
  pub sequence_length : length (sequence M w) ≤ length_bound M w
  unfolding length_bound block test_length
  sequence_length = rw mul_assoc sequence_short.few

  -- every command is below k
  pub sequence_low : Below M.k (sequence M w)
  sequence_low = sequence_short.low

-- ---- on a machine and a word within the limits
module _ (M : Mealy) (w : List ℕ) (proper : Proper M) (few : length w ≤ most_word) where
  -- a block
  pub block_few : block_bound M w ≤ most_block
  block_few = omega (arith, proper.few_states)

  -- so many blocks
  pub blocks_few : (i most : ℕ) → i ≤ most → i * block_bound M w ≤ most * most_block
  blocks_few i most l = mul-le-mul {n₁ = i} {m₁ = block_bound M w} {n₂ = most} {m₂ = most_block} l block_few

  -- so many tests
  pub tests_few : (i most : ℕ) → i ≤ most → i * (M.n * block_bound M w + 1) ≤ most * (most_states * most_block + 1)
  tests_few i most l =
      mul-le-mul {n₁ = i} {m₁ = M.n * block_bound M w + 1} {n₂ = most} {m₂ = most_states * most_block + 1} l
      (omega (arith, blocks_few M.n most_states proper.few_states))

  -- so the sequence is within the limit of a sequence
  pub longest_below : length_bound M w ≤ most_sequence
  unfolding length_bound
  longest_below =
      let opens = blocks_few (M.n + 1) (most_states + 1) (omega (arith, proper.few_states)) in
      let tested = tests_few (M.n * M.k) most_entries (proper_entries M proper) in
      omega arith
