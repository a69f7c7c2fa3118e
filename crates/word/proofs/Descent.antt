-- A command in front of a word, and the words by rising commands, over plain variables. Assumes nothing.
use Prim.Native.Nat.{ℕ, suc, ◌-◌, ◌≤◌, ◌<◌}
use mathlib.Core.Path.{◌≡◌, refl, ap, ◌∙◌}
use mathlib.Core.Bool.{true, false, ◌&&◌, and-false}
use mathlib.Core.Logic.{inl, inr}
use mathlib.Core.List.{List, [], ◌∷◌}
use mathlib.Core.Option.{none, some, map}
use native.Mathlib.Omega.{arith}
use lib.ListN.{length}
use Rattle.facts.specs.Tests.{true_or_false}
use Rattle.facts.specs.FirstOf.{first_of, least_first, none_first}
use Rattle.facts.proofs.FirstStringLaws.{string_length, string_here, string_not_here, string_inside, string_outside}
use Rattle.word.specs.Search.{alike, moved, after, unmet, is_empty, word_from}
use Rattle.word.specs.Searching.{cells, none_alike, left_by, word_on, word_behind}

module _ (k : ℕ) (next answer : List ℕ) where
  -- ---- the equations of `word_on`
  on_none : (ps : List ℕ) → (unmet ps && is_empty ps) ≡ false → word_on k next answer ps 0 ≡ none
  unfolding word_from
  on_none ps e = string_not_here k unmet (after (cells k next) (cells k answer)) is_empty ps e

  on_here : (ps : List ℕ) → (unmet ps && is_empty ps) ≡ true → word_on k next answer ps 0 ≡ some []
  unfolding word_from
  on_here ps e = string_here k unmet (after (cells k next) (cells k answer)) is_empty ps e

  on_met : (ps : List ℕ) (m : ℕ) → unmet ps ≡ false → word_on k next answer ps m ≡ none
  unfolding word_from
  on_met ps m e = string_outside k unmet (after (cells k next) (cells k answer)) is_empty m ps e

  on_more : (ps : List ℕ) (m : ℕ) → 1 ≤ m → unmet ps ≡ true
      → word_on k next answer ps m ≡ first_of k (λ c. word_behind k next answer ps c m)
  unfolding word_from
  on_more ps m l e =
      let s : suc (m - 1) ≡ m = omega arith in
      rw s at (string_inside k unmet (after (cells k next) (cells k answer)) is_empty (m - 1) ps e)

  -- a word of m commands has m commands
  pub on_long : (ps : List ℕ) (m : ℕ) {w : List ℕ} → word_on k next answer ps m ≡ some w → length w ≡ m
  unfolding word_from
  on_long ps m e = string_length k unmet (after (cells k next) (cells k answer)) is_empty m ps e

  -- no pair is left where none answers alike
  left_empty : (ps : List ℕ) (c : ℕ) → (unmet (left_by k next answer ps c) && is_empty (left_by k next answer ps c))
      ≡ none_alike k answer ps c
  unfolding after unmet is_empty
  left_empty [] c = refl
  left_empty (p ∷ ps) c = elim (true_or_false (alike (cells k answer) c p)) [
    | inl e ↦ rw e (and-false (unmet (moved (cells k next) c p ∷ left_by k next answer ps c)))
    | inr e ↦ rw e (left_empty ps c)
  ]

  module _ (ps : List ℕ) where
    -- ---- a command in front
    -- a word of this command alone, and none
    pub last_told : (c : ℕ) → none_alike k answer ps c ≡ true → word_behind k next answer ps c 1 ≡ some (c ∷ [])
    last_told c e = ap (map (◌∷◌ c)) (on_here (left_by k next answer ps c) (left_empty ps c ∙ e))

    pub last_alike : (c : ℕ) → none_alike k answer ps c ≡ false → word_behind k next answer ps c 1 ≡ none
    last_alike c e = ap (map (◌∷◌ c)) (on_none (left_by k next answer ps c) (left_empty ps c ∙ e))

    -- no word where two states met
    pub behind_met : (c m : ℕ) → unmet (left_by k next answer ps c) ≡ false → word_behind k next answer ps c m ≡ none
    behind_met c m e = ap (map (◌∷◌ c)) (on_met (left_by k next answer ps c) (m - 1) e)

    -- a word that goes on behind the command
    pub behind_more : (c m : ℕ) {left w : List ℕ} → left ≡ left_by k next answer ps c
        → word_on k next answer left (m - 1) ≡ some w → word_behind k next answer ps c m ≡ some (c ∷ w)
    behind_more c m l e = ap (map (◌∷◌ c)) (rw l at e)

    -- ---- words by rising commands
    module _ {size : ℕ} (some_commands : 1 ≤ size) (apart : unmet ps ≡ true) where
      pub first_found : {c : ℕ} {w : List ℕ} → c < k
          → ((x : ℕ) → x < c → word_behind k next answer ps x size ≡ none)
          → word_behind k next answer ps c size ≡ some w → word_on k next answer ps size ≡ some w
      first_found {c} l passed found =
          on_more ps size some_commands apart
          ∙ least_first k (λ x. word_behind k next answer ps x size)
          (record { m = c; low = l; found = found; passed = passed })

      pub none_found : ((x : ℕ) → x < k → word_behind k next answer ps x size ≡ none)
          → word_on k next answer ps size ≡ none
      none_found passed =
          on_more ps size some_commands apart ∙ none_first k (λ x. word_behind k next answer ps x size) passed
