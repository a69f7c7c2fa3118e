-- A text of decimal digits, read from the front: what it gives, behind digits of some value.
-- Assumes nothing.
use Prim.Native.Nat.{ℕ, ◌+◌, ◌*◌, ◌-◌, ◌≤◌, ◌<◌}
use mathlib.Core.Path.{◌≡◌, refl, sym, ap, ◌∙◌}
use mathlib.Core.Bool.{Bool, true, false, cond, ◌&&◌, and-false}
use mathlib.Core.List.{List, [], ◌∷◌}
use mathlib.Core.Option.{Option, none, some}
use native.Mathlib.Omega.{arith}
use native.Mathlib.Numerals.{add-one}
use borrow.Author.Tests.{le-leb, lt-leb}
use lib.Dec.{leb}
use lib.ListN.{length, get_or, drop}
use lib.Seq.{drop-cons, drop-length}
use Rattle.facts.specs.Decimal.{is_digit, all_digits, value_from, number_in}

-- what more digits stand for, behind digits of this value
unfoldable pub number_from : ℕ → ℕ → List ℕ → Option ℕ
number_from most value w =
    cond (all_digits w && leb (value_from value w) most) (some (value_from value w)) none

pub number_start : (most : ℕ) (w : List ℕ) → number_from most 0 w ≡ number_in most w
unfolding number_from number_in
number_start most w = refl

-- the digits make no smaller number than those before them
grows : (value : ℕ) (w : List ℕ) → value ≤ value_from value w
unfolding value_from
grows value [] = omega arith
grows value (b ∷ w) = omega (arith, grows (10 * value + (b - 48)) w)

-- a value that is too large stays so
pub number_above : (most value : ℕ) (w : List ℕ) → most < value → number_from most value w ≡ none
unfolding number_from
number_above most value w l =
    ap (λ (b : Bool). cond b (some (value_from value w)) none)
    (ap (λ (b : Bool). all_digits w && b) (lt-leb (value_from value w) most (omega (arith, grows value w)))
    ∙ and-false (all_digits w))

-- no more digits
number_none : (most value : ℕ) → value ≤ most → number_from most value [] ≡ some value
unfolding number_from all_digits value_from
number_none most value l = ap (λ (b : Bool). cond b (some value) none) (le-leb value most l)

pub number_end : (most value i : ℕ) (w : List ℕ) → value ≤ most → length w ≤ i → i ≤ length w
    → number_from most value (drop i w) ≡ some value
number_end most value i w l m k =
    let e : i ≡ length w = omega arith in
    ap (λ (n : ℕ). number_from most value (drop n w)) e ∙ ap (number_from most value) (drop-length w) ∙ number_none most
    value l

-- one byte more: a digit, or not
number_cons : (most value b : ℕ) (w : List ℕ) (t : Bool) → is_digit b ≡ t
    → number_from most value (b ∷ w) ≡ cond t (number_from most (10 * value + (b - 48)) w) none
unfolding number_from all_digits value_from
number_cons most value b w true e = rw e
number_cons most value b w false e = rw e

module _ (most value i : ℕ) (w : List ℕ) (l : i < length w) where
  first : drop i w ≡ get_or w i 0 ∷ drop (i + 1) w
  first = rw add-one (drop-cons w i 0 l)

  pub number_digit : is_digit (get_or w i 0) ≡ true
      → number_from most (10 * value + (get_or w i 0 - 48)) (drop (i + 1) w) ≡ number_from most value (drop i w)
  number_digit t =
      sym (number_cons most value (get_or w i 0) (drop (i + 1) w) true t) ∙ ap (number_from most value) (sym first)

  pub number_other : is_digit (get_or w i 0) ≡ false → none ≡ number_from most value (drop i w)
  number_other t =
      sym (number_cons most value (get_or w i 0) (drop (i + 1) w) false t) ∙ ap (number_from most value) (sym first)
