-- The states counted round: s+1 after s, 0 after n-1.
use Prim.Native.Nat.{ℕ, zero, suc, ◌+◌, ◌-◌, ◌≤◌, ◌<◌}
use Rattle.std.specs.Prelude.{◌≡◌, Bool, true, false, leb}
use Rattle.std.proofs.Math.Path.{refl}
use Rattle.std.proofs.Common.{inl, inr, arith, eq-eqb, ne_eqb, le-leb}
use Rattle.std.proofs.lemmas.Bool.{lt-leb}
use Rattle.std.proofs.Math.Arith.{lt_of_le-ne}
use Rattle.facts.specs.Numbers.{equal_or_not, less_or_not}
use Rattle.machine.specs.Machine.{Mealy, Proper}
use Rattle.build.specs.Sequence.{following, nth_state}

-- ---- the state after a state
-- 0 after the last, else one more
pub data After (n s t : ℕ) : Type 0 where
  around : s + 1 ≡ n → t ≡ 0 → After n s t
  on : s + 1 < n → t ≡ s + 1 → After n s t

pub following_is : (n s : ℕ) → s < n → After n s (following n s)
unfolding following
following_is n s l = elim (equal_or_not (s + 1) n) [
  | inl e ↦ around e (rw (eq-eqb (s + 1) n e))
  | inr o ↦ on (lt_of_le-ne (omega arith) o) (rw (ne_eqb (s + 1) n o))
]

pub following_below : (n s : ℕ) → s < n → following n s < n
following_below n s l = elim (following_is n s l) [ around e q ↦ omega arith | on m q ↦ omega arith ]

pub following_last : (n s : ℕ) → s + 1 ≡ n → following n s ≡ 0
unfolding following
following_last n s e = rw (eq-eqb (s + 1) n e)

pub following_next : (n s : ℕ) → (s + 1 ≡ n → ⊥) → following n s ≡ s + 1
unfolding following
following_next n s ne = rw (ne_eqb (s + 1) n ne)

-- ---- how many states s is after p, counted round
abbrev pub gap_or : Bool → ℕ → ℕ → ℕ → ℕ
gap_or true n p s = s - p
gap_or false n p s = s + n - p

unfoldable pub gap : ℕ → ℕ → ℕ → ℕ
gap n p s = gap_or (leb p s) n p s

data Gap (n p s g : ℕ) : Type 0 where
  ahead : p ≤ s → g ≡ s - p → Gap n p s g
  round_about : s < p → g ≡ s + n - p → Gap n p s g

gap_is : (n p s : ℕ) → Gap n p s (gap n p s)
unfolding gap
gap_is n p s =
    elim (less_or_not s p) [ inl l ↦ round_about l (rw (lt-leb p s l)) | inr l ↦ ahead l (rw (le-leb p s l)) ]

pub gap_below : (n p s : ℕ) → p < n → s < n → gap n p s < n
gap_below n p s pl sl = elim (gap_is n p s) [ ahead l e ↦ omega arith | round_about l e ↦ omega arith ]

-- none: it is s
pub gap_none : (n p s : ℕ) → p < n → gap n p s ≡ 0 → p ≡ s
gap_none n p s pl z = elim (gap_is n p s) [ ahead l e ↦ omega arith | round_about l e ↦ omega arith ]

step_by : {n p s q g h : ℕ} → p < n → s < n → (p ≡ s → ⊥) → After n p q → Gap n p s g → Gap n q s h → h + 1 ≡ g
step_by pl sl ne (around a b) (ahead l e) (ahead m f) = absurd (ne (omega arith))
step_by pl sl ne (around a b) (ahead l e) (round_about m f) = omega arith
step_by pl sl ne (around a b) (round_about l e) (ahead m f) = omega arith
step_by pl sl ne (around a b) (round_about l e) (round_about m f) = omega arith
step_by pl sl ne (on a b) (ahead l e) (ahead m f) = omega arith
step_by pl sl ne (on a b) (ahead l e) (round_about m f) = absurd (ne (omega arith))
step_by pl sl ne (on a b) (round_about l e) (ahead m f) = omega arith
step_by pl sl ne (on a b) (round_about l e) (round_about m f) = omega arith

-- one less after each step
pub gap_step : (n p s : ℕ) → p < n → s < n → (p ≡ s → ⊥) → gap n (following n p) s + 1 ≡ gap n p s
gap_step n p s pl sl ne = step_by pl sl ne (following_is n p pl) (gap_is n p s) (gap_is n (following n p) s)

-- ---- the states from the start on
-- i states after the start: counted on, or once around
data Turned (n start i t : ℕ) : Type 0 where
  before_end : start + i < n → t ≡ start + i → Turned n start i t
  past_end : n ≤ start + i → t + n ≡ start + i → Turned n start i t

turned_on : {n start i t u : ℕ} → start < n → i < n → Turned n start i t → After n t u → Turned n start (suc i) u
turned_on sl il (before_end l e) (around a b) = past_end (omega arith) (omega arith)
turned_on sl il (before_end l e) (on a b) = before_end (omega arith) (omega arith)
turned_on sl il (past_end l e) (around a b) = let z : ⊥ = omega arith in absurd z
turned_on sl il (past_end l e) (on a b) = past_end (omega arith) (omega arith)

module _ (M : Mealy) (proper : Proper M) where
  pub nth_state_below : (i : ℕ) → nth_state M i < M.n
  unfolding nth_state
  nth_state_below zero = proper.starts
  nth_state_below (suc i) = following_below M.n (nth_state M i) (nth_state_below i)

  state_is : (i : ℕ) → i ≤ M.n → Turned M.n M.start i (nth_state M i)
  unfolding nth_state
  state_is zero l = before_end (omega (arith, proper.starts)) (omega arith)
  state_is (suc i) l =
      turned_on proper.starts (omega arith) (state_is i (omega arith))
      (following_is M.n (nth_state M i) (nth_state_below i))

  -- after n states it is the start again
  pub nth_state_home : nth_state M M.n ≡ M.start
  nth_state_home = elim (state_is M.n (omega arith)) [ before_end l e ↦ omega arith | past_end l e ↦ omega arith ]

  pub nth_state_start : nth_state M 0 ≡ M.start
  unfolding nth_state
  nth_state_start = refl

  pub nth_state_next : (i : ℕ) → nth_state M (suc i) ≡ following M.n (nth_state M i)
  unfolding nth_state
  nth_state_next i = refl

  -- from state 0 on it is the number itself
  pub nth_state_is : (i : ℕ) → M.start ≡ 0 → i < M.n → nth_state M i ≡ i
  nth_state_is i e l = elim (state_is i (omega arith)) [ before_end m f ↦ omega arith | past_end m f ↦ omega arith ]

  -- every state is among the first n
  pub nth_state_at : (s : ℕ) → s < M.n → nth_state M (gap M.n M.start s) ≡ s
  nth_state_at s sl =
      let g = gap_below M.n M.start s proper.starts sl in
      let at = state_is (gap M.n M.start s) (omega arith) in
      elim (gap_is M.n M.start s) [
        | ahead l e ↦ elim at [ before_end m f ↦ omega arith | past_end m f ↦ omega arith ]
        | round_about l e ↦ elim at [ before_end m f ↦ omega arith | past_end m f ↦ omega (arith, proper.starts) ]
      ]
