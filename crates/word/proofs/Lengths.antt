-- The lengths one after the other, over plain variables. Assumes nothing.
use Prim.Native.Nat.{ℕ, suc, ◌-◌, ◌≤◌, ◌<◌}
use mathlib.Core.Path.{◌≡◌, refl, ◌∙◌}
use mathlib.Core.List.{List}
use mathlib.Core.Option.{Option, none, some}
use native.Mathlib.Omega.{arith}
use Rattle.facts.specs.FirstOf.{first_of, least_first, none_first}
use Rattle.machine.specs.declared.machine.Machine.{Machine}
use Rattle.machine.specs.Limits.{most_states}
use Rattle.machine.specs.Machine.{tabled, meaning, Proper}
use Rattle.word.specs.Search.{most_sought, all_pairs, search}
use Rattle.word.specs.Searching.{word_on}

module _ (m : Machine) where
  -- the words of a length, of all pairs
  abbrev pub of_length : ℕ → Option (List ℕ)
  of_length l = word_on m.k m.next m.answer (all_pairs m.n) l

  -- a machine within its limits has at most so many states
  pub few_states : Proper (meaning m) → m.n ≤ most_states
  unfolding tabled
  few_states p = p.few_states

  search_firsts : search (meaning m) ≡ first_of most_sought (λ i. of_length (suc i))
  unfolding search tabled
  search_firsts = refl

  -- a word of a length, and none shorter
  pub search_found : {size : ℕ} {w : List ℕ} → 1 ≤ size → size ≤ most_sought
      → ((i : ℕ) → suc i < size → of_length (suc i) ≡ none) → of_length size ≡ some w → search (meaning m) ≡ some w
  search_found {size} {w} l few passed found =
      let s : suc (size - 1) ≡ size = omega arith in
      search_firsts
      ∙ least_first most_sought (λ i. of_length (suc i))
      (record { m = size - 1; low = omega arith; found = rw s found; passed = λ i il. passed i (omega arith) })

  pub search_none : ((i : ℕ) → i < most_sought → of_length (suc i) ≡ none) → search (meaning m) ≡ none
  search_none passed = search_firsts ∙ none_first most_sought (λ i. of_length (suc i)) passed
