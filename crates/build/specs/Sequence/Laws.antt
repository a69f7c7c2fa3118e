-- The laws of the prescribed sequence: where each part of it leads.
use Prim.Native.Nat.{ℕ, zero, suc, ◌-◌, ◌≤◌, ◌<◌}
use Rattle.std.specs.Prelude.{◌≡◌, List, [], ◌∷◌, ◌++◌, length}
use Rattle.std.proofs.Math.Path.{refl}
use Rattle.std.proofs.Common.{◌∙◌, inl, inr, arith, eq-eqb, ne_eqb}
use Rattle.std.proofs.Math.Option.{get_or}
use Rattle.facts.specs.Lists.{Below}
use Rattle.facts.specs.Numbers.{equal_or_not}
use Rattle.machine.specs.Machine.{Mealy, run, Proper}
use Rattle.machine.specs.Machine.Laws.{run_none, run_append, run_cons}
use Rattle.build.specs.Sequence.{following, B, T, nth_state, first_blocks, opening, approach, test, state_tests}
use Rattle.build.specs.Sequence.{tests, sequence, block_bound}
use Rattle.build.specs.Sequence.Cycle.{following_below, gap, gap_below, gap_none, gap_step, nth_state_below}
use Rattle.build.specs.Sequence.Cycle.{nth_state_home}

-- what the blocks T(s) have where every transfer is there: each leads to the state after its own, begins with the word,
-- is of the machine's commands and at most c long
pub record Blocks (M : Mealy) (w : List ℕ) : Type 0 where
  pub proper : Proper M
  pub some : 1 ≤ length w
  pub leads : (s : ℕ) → s < M.n → run M s (T M w s) ≡ following M.n s
  pub begins : (s : ℕ) → s < M.n → (t : List ℕ) × (T M w s ≡ w ++ t)
  pub low : (s : ℕ) → s < M.n → Below M.k (T M w s)
  pub short : (s : ℕ) → s < M.n → length (T M w s) ≤ block_bound M w

-- ---- one more of each part
module _ (M : Mealy) (w : List ℕ) where
  pub T_is : (s : ℕ) → T M w s ≡ w ++ get_or (B M w s) []
  unfolding T
  T_is s = refl

  pub first_blocks_none : first_blocks M w 0 ≡ []
  unfolding first_blocks
  first_blocks_none = refl

  pub first_blocks_more : (i : ℕ) → first_blocks M w (suc i) ≡ first_blocks M w i ++ T M w (nth_state M i)
  unfolding first_blocks
  first_blocks_more i = refl

  pub state_tests_none : (p s : ℕ) → state_tests M w p s 0 ≡ []
  unfolding state_tests
  state_tests_none p s = refl

  pub state_tests_more : (p s c : ℕ)
      → state_tests M w p s (suc c) ≡ state_tests M w p s c ++ test M w (run M p (state_tests M w p s c)) s c
  unfolding state_tests
  state_tests_more p s c = refl

  pub tests_none : (p : ℕ) → tests M w p 0 ≡ []
  unfolding tests
  tests_none p = refl

  pub tests_more : (p s : ℕ) → tests M w p (suc s) ≡ tests M w p s ++ state_tests M w (run M p (tests M w p s)) s M.k
  unfolding tests
  tests_more p s = refl

  pub test_is : (p s c : ℕ) → test M w p s c ≡ approach M w M.n p s ++ (c ∷ T M w (M.next s c))
  unfolding test
  test_is p s c = refl

  pub sequence_is : sequence M w ≡ opening M w ++ tests M w (run M M.start (opening M w)) M.n
  unfolding sequence
  sequence_is = refl

  -- ---- the approach
  pub approach_none : (p s : ℕ) → approach M w 0 p s ≡ []
  unfolding approach
  approach_none p s = refl

  -- none where the state is reached already
  pub approach_here : (i s : ℕ) → approach M w i s s ≡ []
  unfolding approach
  approach_here zero s = refl
  approach_here (suc i) s = rw (eq-eqb s s refl)

  -- else T of the present state, and on from where it leads
  pub approach_on : (i p s : ℕ) → (p ≡ s → ⊥)
      → approach M w (suc i) p s ≡ T M w p ++ approach M w i (run M p (T M w p)) s
  unfolding approach
  approach_on i p s ne = rw (ne_eqb p s ne)

module _ (M : Mealy) (w : List ℕ) (h : Blocks M w) where
  -- T of a state p other than s, then the approach from the state after p
  pub approach_step : (i p s : ℕ) → p < M.n → (p ≡ s → ⊥)
      → approach M w (suc i) p s ≡ T M w p ++ approach M w i (following M.n p) s
  approach_step i p s pl ne = rw (approach_on M w i p s ne, h.leads p pl)

  -- any number of times that is not below the gap is enough
  approach_same : (i j p s : ℕ) → p < M.n → s < M.n → gap M.n p s ≤ i → gap M.n p s ≤ j
      → approach M w i p s ≡ approach M w j p s
  approach_same zero j p s pl sl li lj = rw (gap_none M.n p s pl (omega arith)) (simp approach_here)
  approach_same (suc i) zero p s pl sl li lj = rw (gap_none M.n p s pl (omega arith)) (simp approach_here)
  approach_same (suc i) (suc j) p s pl sl li lj = elim (equal_or_not p s) [
    | inl e ↦ rw e (simp approach_here)
    | inr ne ↦ (let st = gap_step M.n p s pl sl ne in
        let on =
        approach_same i j (following M.n p) s (following_below M.n p pl) sl (omega arith) (omega arith) in
        rw (approach_step i p s pl ne, on, approach_step j p s pl ne))
  ]

  -- the same, for the n times of the definition
  pub approach_more : (p s : ℕ) → p < M.n → s < M.n → (p ≡ s → ⊥)
      → approach M w M.n p s ≡ T M w p ++ approach M w M.n (following M.n p) s
  approach_more p s pl sl ne =
      let g = gap_below M.n p s pl sl in
      let st = gap_step M.n p s pl sl ne in
      approach_same M.n (suc M.n) p s pl sl (omega arith) (omega arith) ∙ approach_step M.n p s pl ne

  -- it reaches s
  reaches : (i p s : ℕ) → p < M.n → s < M.n → gap M.n p s ≤ i → run M p (approach M w i p s) ≡ s
  reaches zero p s pl sl l = rw (gap_none M.n p s pl (omega arith), approach_here, run_none)
  reaches (suc i) p s pl sl l = elim (equal_or_not p s) [
    | inl e ↦ rw (e, approach_here, run_none)
    | inr ne ↦ (let st = gap_step M.n p s pl sl ne in
        rw (approach_step i p s pl ne, run_append, h.leads p pl)
        (reaches i (following M.n p) s (following_below M.n p pl) sl (omega arith)))
  ]

  pub approach_reaches : (p s : ℕ) → p < M.n → s < M.n → run M p (approach M w M.n p s) ≡ s
  approach_reaches p s pl sl = let g = gap_below M.n p s pl sl in reaches M.n p s pl sl (omega arith)

  -- ---- the opening
  pub first_blocks_lead : (i : ℕ) → run M M.start (first_blocks M w i) ≡ nth_state M i
  unfolding first_blocks nth_state
  first_blocks_lead zero = run_none M M.start
  first_blocks_lead (suc i) =
      rw (run_append, first_blocks_lead i) (h.leads (nth_state M i) (nth_state_below M h.proper i))

  pub opening_is : opening M w ≡ first_blocks M w (suc M.n)
  unfolding opening first_blocks
  opening_is = rw (nth_state_home M h.proper)

  pub opening_leads : run M M.start (opening M w) ≡ following M.n M.start
  unfolding nth_state
  opening_leads = rw (opening_is, first_blocks_lead, nth_state_home M h.proper)

  -- ---- the tests
  -- a test leads to the state after the one that the entry leads to
  pub test_leads : (p s c : ℕ) → p < M.n → s < M.n → c < M.k
      → run M p (test M w p s c) ≡ following M.n (M.next s c)
  unfolding test
  test_leads p s c pl sl cl =
      rw (run_append, approach_reaches p s pl sl, run_cons) (h.leads (M.next s c) (h.proper.stays s c sl cl))

  pub test_stays : (p s c : ℕ) → p < M.n → s < M.n → c < M.k → run M p (test M w p s c) < M.n
  test_stays p s c pl sl cl =
      rw (test_leads p s c pl sl cl) (following_below M.n (M.next s c) (h.proper.stays s c sl cl))

  -- the tests of the first s + 1 states lead to the state after the one that the last entry leads to
  pub state_tests_stay : (p s c : ℕ) → p < M.n → s < M.n → c ≤ M.k → run M p (state_tests M w p s c) < M.n
  state_tests_stay p s zero pl sl cl = rw (state_tests_none M w p s, run_none) pl
  state_tests_stay p s (suc c) pl sl cl =
      rw (state_tests_more M w p s c, run_append)
      (test_stays (run M p (state_tests M w p s c)) s c (state_tests_stay p s c pl sl (omega arith)) sl cl)

  state_tests_lead : (p s c : ℕ) → p < M.n → s < M.n → c < M.k
      → run M p (state_tests M w p s (suc c)) ≡ following M.n (M.next s c)
  state_tests_lead p s c pl sl cl =
      rw (state_tests_more M w p s c, run_append)
      (test_leads (run M p (state_tests M w p s c)) s c (state_tests_stay p s c pl sl (omega arith)) sl cl)

  pub tests_stay : (p s : ℕ) → p < M.n → s ≤ M.n → run M p (tests M w p s) < M.n
  tests_stay p zero pl sl = rw (tests_none M w p, run_none) pl
  tests_stay p (suc s) pl sl =
      rw (tests_more M w p s, run_append)
      (state_tests_stay (run M p (tests M w p s)) s M.k (tests_stay p s pl (omega arith)) sl (omega arith))

  -- the sequence ends in the state after the one that the last entry leads to
  ends_by : (p s c : ℕ) → p < M.n → M.n ≡ suc s → M.k ≡ suc c
      → run M p (tests M w p M.n) ≡ following M.n (M.next s c)
  ends_by p s c pl ne ke =
      let whole : run M p (tests M w p (suc s)) ≡ following M.n (M.next s c) =
      rw (tests_more M w p s, run_append)
      (rw (← ke) at (state_tests_lead _ s c (tests_stay p s pl (omega arith)) (omega arith) (omega arith))) in
      rw (← ne) at whole

  pub sequence_leads : run M M.start (sequence M w) ≡ following M.n (M.next (M.n - 1) (M.k - 1))
  sequence_leads =
      let p = run M M.start (opening M w) in
      let pl : p < M.n = rw opening_leads (following_below M.n M.start h.proper.starts) in
      rw (sequence_is M w, run_append)
      (ends_by p (M.n - 1) (M.k - 1) pl (omega (arith, h.proper.some_states))
      (omega (arith, h.proper.some_commands)))
