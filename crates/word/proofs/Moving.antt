-- What the loops over pairs keep, over plain variables. Assumes nothing.
use Prim.Native.Nat.{ℕ, zero, suc, ◌+◌, ◌-◌, ◌≤◌, ◌<◌}
use mathlib.Core.Path.{◌≡◌, refl, ap}
use mathlib.Core.Bool.{Bool, true, false, ◌&&◌, and_assoc}
use mathlib.Core.List.{List, [], ◌∷◌, ◌++◌, append-nil}
use native.Mathlib.Omega.{arith}
use native.Mathlib.Numerals.{add-one}
use borrow.Author.Tests.{eq-eqb, ne_eqb}
use lib.ListN.{length, get_or, drop, length-append, drop_of_length-le}
use lib.Seq.{append_snoc}
use Rattle.facts.specs.Lists.{rest_cons}
use Rattle.machine.specs.Limits.{most_states}
use Rattle.word.specs.Search.{one, other, pairs_with, all_pairs, keep, alike, moved, after, unmet}
use Rattle.word.specs.Searching.{most_pairs, cells, none_alike, left_by}

-- ---- all pairs
-- how many pairs of j there are
with_long : (j m : ℕ) → length (pairs_with j m) ≡ m
unfolding pairs_with
with_long j zero = refl
with_long j (suc m) = rw (length-append, with_long j m, add-one)

-- and how many there are behind other pairs
pub pushed_long : (xs : List ℕ) (j m : ℕ) → length (xs ++ pairs_with j m) ≡ length xs + m
pushed_long xs j m = rw (length-append, with_long j m)

all_more : (j : ℕ) → length (all_pairs (suc j)) ≡ length (all_pairs j) + j
unfolding all_pairs
all_more j = pushed_long (all_pairs j) j j

all_grow : (j d : ℕ) → length (all_pairs j) ≤ length (all_pairs (d + j))
all_grow j zero = let e : 0 + j ≡ j = omega arith in rw e (omega arith)
all_grow j (suc d) =
    let e : suc d + j ≡ suc (d + j) = omega arith in
    rw e (omega (arith, all_grow j d, all_more (d + j)))

-- those of at most ten states fit
pub all_few : (j : ℕ) → j ≤ most_states → length (all_pairs j) ≤ most_pairs
unfolding all_pairs pairs_with
all_few j l =
    let e : (most_states - j) + j ≡ most_states = omega arith in
    let ten : length (all_pairs most_states) ≡ most_pairs = refl in
    omega (arith, all_grow j (most_states - j), ap (λ (n : ℕ). length (all_pairs n)) e, ten)

-- of one state more
pub all_on : (j : ℕ) → all_pairs (j + 1) ≡ all_pairs j ++ pairs_with j j
unfolding all_pairs
all_on j = rw (add-one j)

-- the pairs of one more fit
pub more_few : (j : ℕ) → j < most_states → length (all_pairs j) + j ≤ most_pairs
more_few j l = omega (arith, all_more j, all_few (suc j) (omega arith))

-- one state more, for the loop over states
pub ruleset more_pairs = (all_on, more_few)

-- ---- pairs moved on
-- pairs one behind the other have not met where none of both has
unmet_append : (xs ys : List ℕ) → unmet (xs ++ ys) ≡ (unmet xs && unmet ys)
unfolding unmet
unmet_append [] ys = refl
unmet_append (x ∷ xs) ys = rw (unmet_append xs ys, and_assoc)

module _ (k : ℕ) (next answer ps : List ℕ) (c : ℕ) where
  -- what the loop keeps: what is left of the pairs before i, of which none has met
  pub record Moving (left : List ℕ) (i : ℕ) : Type 0 where
    pub few : length left ≤ i
    pub same : left_by k next answer ps c ≡ left ++ left_by k next answer (drop i ps) c
    pub apart : unmet left ≡ true

  pub moving_none : Moving [] 0
  unfolding unmet
  moving_none = record { few = omega arith; same = refl; apart = refl }

  module _ {left : List ℕ} {i : ℕ} {b : Bool} (h : Moving left i) (l : i < length ps)
      (e : b ≡ alike (cells k answer) c (get_or ps i 0)) where
    step_moved : left_by k next answer ps c
        ≡ left ++ keep b (moved (cells k next) c (get_or ps i 0)) (left_by k next answer (drop (i + 1) ps) c)
    unfolding after
    step_moved = rw (h.same, rest_cons ps i l, e)

    -- a pair that is told apart
    pub moving_past : b ≡ false → Moving left (i + 1)
    moving_past be = record { few = omega (arith, h.few); same = rw be at step_moved; apart = h.apart }

    module _ (be : b ≡ true) {q : ℕ} (qe : q ≡ moved (cells k next) c (get_or ps i 0)) where
      step_kept : left_by k next answer ps c ≡ left ++ (q ∷ left_by k next answer (drop (i + 1) ps) c)
      step_kept = rw qe (rw be at step_moved)

      -- a pair that met
      pub moving_met : one q ≡ other q → unmet (left_by k next answer ps c) ≡ false
      unfolding unmet
      moving_met m = rw (step_kept, unmet_append, h.apart, eq-eqb (one q) (other q) m)

      -- a pair that is left
      pub moving_kept : (one q ≡ other q → ⊥) → Moving (left ++ (q ∷ [])) (i + 1)
      unfolding unmet
      moving_kept o = record {
        few = omega (arith, h.few, length-append left (q ∷ []));
        same = rw append_snoc step_kept;
        apart = rw (unmet_append, h.apart, ne_eqb (one q) (other q) o);
      }

  pub moving_end : {left : List ℕ} {i : ℕ} → Moving left i → length ps ≤ i → left ≡ left_by k next answer ps c
  unfolding after
  moving_end {left} {i} h o = rw (h.same, drop_of_length-le ps o, append-nil)

-- ---- pairs told apart
module _ (k : ℕ) (answer ps : List ℕ) (c : ℕ) {i : ℕ} where
  pub told_on : {b : Bool} → i < length ps → b ≡ alike (cells k answer) c (get_or ps i 0) → b ≡ false
      → none_alike k answer (drop i ps) c ≡ none_alike k answer (drop (i + 1) ps) c
  told_on l e f = rw (rest_cons ps i l, ← e, f) refl

  pub told_stops : {b : Bool} → i < length ps → b ≡ alike (cells k answer) c (get_or ps i 0) → b ≡ true
      → none_alike k answer (drop i ps) c ≡ false
  told_stops l e t = rw (rest_cons ps i l, ← e, t) refl

  pub told_ends : length ps ≤ i → none_alike k answer (drop i ps) c ≡ true
  told_ends l = rw (drop_of_length-le ps l) refl
