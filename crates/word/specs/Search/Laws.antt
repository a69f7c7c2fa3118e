-- The laws of the search: what `search` computes is the word of §14.1, and it is there wherever a word of 1 to 6
-- commands separates.
use Prim.Native.Nat.{ℕ, zero, suc, ◌-◌, ◌≤◌, ◌<◌}
use Rattle.std.specs.Prelude.{◌≡◌, List, [], ◌∷◌, get_or}
use Rattle.std.proofs.Common.{ap, ◌∙◌, arith}
use Rattle.std.proofs.Math.Option.{none, some}
use Rattle.std.proofs.Math.ListN.{length}
use Rattle.facts.specs.ByteOrder.{first_one}
use Rattle.facts.specs.FirstOf.{Some, some_none, nothing, value, seen, first_some, some_first}
use Rattle.facts.specs.FirstString.{Accepted}
use Rattle.facts.proofs.FirstStringLaws.{string_length, string_accepted, accepted_some, string_first}
use Rattle.machine.specs.Machine.{Mealy, Proper}
use Rattle.word.specs.Search.{most_sought, Eligible, IsSought, all_pairs, after, unmet, is_empty, word_from, search}
use Rattle.word.specs.Search.Pairs.{accepted_apart, apart_accepted, all_states, apart_separates, separates_apart}

module _ (M : Mealy) (p : Proper M) where
  abbrev Accepts : List ℕ → Type 0
  Accepts w = Accepted M.k unmet (after M.next M.answer) is_empty (all_pairs M.n) w

  -- the eligible words are those that are accepted, of 1 to 6 commands
  accepted_eligible : (w : List ℕ) → 1 ≤ length w → length w ≤ most_sought → Accepts w → Eligible M w
  accepted_eligible w least most a =
      let r = accepted_apart M p w (all_pairs M.n) (all_states M p) a in
      record {
        commands = record { some = least; few = most; low = r.0 };
        separates = apart_separates M p w r.1;
      }

  eligible_accepted : (w : List ℕ) → Eligible M w → Accepts w
  eligible_accepted w h =
      apart_accepted M p w (all_pairs M.n) (all_states M p) h.commands.low (separates_apart M p w h.separates)

  -- ---- words of one length
  -- an eligible word has one of its length
  some_word : (u : List ℕ) → Eligible M u
      → Some (word_from M.k M.next M.answer (suc (length u - 1)) (all_pairs M.n))
  unfolding word_from
  some_word u h =
      let long : suc (length u - 1) ≡ length u = omega (arith, h.commands.some) in
      rw long (accepted_some _ _ _ _ u _ (eligible_accepted u h))

  -- ---- the search
  -- where a word is eligible one is found
  pub eligible_some : (u : List ℕ) → Eligible M u → Some (search M)
  unfolding search
  eligible_some u h =
      some_first most_sought (λ m. word_from M.k M.next M.answer (suc m) (all_pairs M.n)) (length u - 1)
      (omega (arith, h.commands.some, h.commands.few)) (some_word u h).1

  -- what is found is the word that is sought
  pub search_is : {w : List ℕ} → search M ≡ some w → IsSought M w
  unfolding search word_from
  search_is {w} e =
      let l = first_some most_sought (λ m. word_from M.k M.next M.answer (suc m) (all_pairs M.n)) e in
      let long : length w ≡ suc l.m = string_length _ _ _ _ (suc l.m) _ l.found in
      record {
        has =
            accepted_eligible w (omega arith) (omega (arith, l.low))
            (string_accepted _ _ _ _ (suc l.m) _ l.found);
        shortest = λ u h.
            let not-less : length u - 1 < l.m → ⊥ = λ k. some_none (some_word u h).1 (l.passed (length u - 1) k) in
            omega (arith, h.commands.some);
        first = λ u h k. string_first _ _ _ _ (suc l.m) _ l.found u (eligible_accepted u h) (k ∙ long);
      }

  -- and the word that is sought is the one that is found
  pub is_search : {w : List ℕ} → IsSought M w → search M ≡ some w
  is_search {w} h =
      let r = eligible_some w h.has in
      r.1 ∙ ap some (first_one (Eligible M) (search_is r.1) h)

  -- none is found exactly where no word is eligible
  pub none_eligible : search M ≡ none → (u : List ℕ) → Eligible M u → ⊥
  none_eligible e u h = some_none (eligible_some u h).1 e

  pub eligible_none : ((u : List ℕ) → Eligible M u → ⊥) → search M ≡ none
  eligible_none h = elim (seen (search M)) [ nothing e ↦ e | value t e ↦ absurd (h t (search_is e).has) ]

-- of a machine with one state the word is 0
pub single_word : (M : Mealy) → Proper M → M.n ≡ 1 → search M ≡ some (0 ∷ [])
single_word M p one = is_search M p (record {
  has = record {
    commands = record { some = omega arith; few = omega arith; low = low };
    separates = λ i j il jl e. omega arith;
  };
  shortest = λ u h. h.commands.some;
  first = λ u h l b. let z : b.place ≡ 0 = omega (arith, b.inside) in omega (arith, rw z at b.lower);
})
  where
    low : (i : ℕ) → i < 1 → get_or (0 ∷ []) i 0 < M.k
    low zero l = omega (arith, p.some_commands)
    low (suc i) l = let z : ⊥ = omega arith in absurd z
