-- What pairs of states say of words: the pairs that are left after a command are those that the rest of a word has to
-- tell apart; where two states met, no word does.
use Prim.Native.Nat.{ℕ, zero, suc, ◌+◌, ◌/◌, ◌%◌, ◌≤◌, ◌<◌}
use Rattle.std.specs.Prelude.{◌≡◌, true, false, ◌&&◌}
use Rattle.std.proofs.Math.Path.{refl}
use Rattle.std.proofs.Common.{sym, ap, ap₂, ◌∙◌, true≢false, le_of_suc-le-suc, eq-or-lt_of_le, eqb-true, ne_eqb}
use Rattle.std.proofs.Math.Bool.{and-false}
use Rattle.std.proofs.Math.Logic.{inl, inr}
use mathlib.Core.List.{List, [], ◌∷◌}
use native.Mathlib.Omega.{arith}
use Rattle.std.proofs.lemmas.Bool.{eqb-false}
use Rattle.std.proofs.Math.Arith.{digits_div, digits_mod}
use Rattle.facts.specs.Tests.{true_or_false}
use Rattle.facts.specs.FirstString.{Accepted}
use Rattle.facts.specs.Lists.{Below, below_cons, below_head, below_tail, Each, each_append, append_each}
use Rattle.machine.specs.Machine.{Mealy, answers, Separates, Proper}
use Rattle.machine.specs.Machine.Laws.{answers_cons}
use Rattle.word.specs.Search.{pair_of, one, other, pairs_with, all_pairs, alike, moved, after, unmet, is_empty}

-- ---- the states of a pair
pub one_of : (s : ℕ) {t : ℕ} → t < 256 → one (pair_of s t) ≡ s
one_of s {t} l = ap (λ (x : ℕ). (x + t) / 256) (omega arith) ∙ digits_div s l

pub other_of : (s : ℕ) {t : ℕ} → t < 256 → other (pair_of s t) ≡ t
other_of s {t} l = ap (λ (x : ℕ). (x + t) % 256) (omega arith) ∙ digits_mod s l

-- ---- each pair
module _ (P : ℕ → Type 0) where
  -- each pair of j with a state below m
  pub each_with : (j m : ℕ) → ((i : ℕ) → i < m → P (pair_of i j)) → Each P (pairs_with j m)
  unfolding pairs_with
  each_with j zero h = tt
  each_with j (suc m) h =
      each_append P (pairs_with j m) (pair_of m j ∷ []) (each_with j m (λ i l. h i (omega arith))) (h m (omega arith), tt)

  pub with_each : (j m : ℕ) → Each P (pairs_with j m) → (i : ℕ) → i < m → P (pair_of i j)
  unfolding pairs_with
  with_each j zero h i l = let z : ⊥ = omega arith in absurd z
  with_each j (suc m) h i l =
      let r = append_each P (pairs_with j m) (pair_of m j ∷ []) h in
      elim (eq-or-lt_of_le (le_of_suc-le-suc l)) [ inl q ↦ rw q r.1.0 | inr k ↦ with_each j m r.0 i k ]

  -- each pair of states below n
  pub each_all : (n : ℕ) → ((i j : ℕ) → i < j → j < n → P (pair_of i j)) → Each P (all_pairs n)
  unfolding all_pairs
  each_all zero h = tt
  each_all (suc j) h =
      each_append P (all_pairs j) (pairs_with j j) (each_all j (λ a b l k. h a b l (omega arith)))
      (each_with j j (λ i l. h i j l (omega arith)))

  pub all_each : (n : ℕ) → Each P (all_pairs n) → (i j : ℕ) → i < j → j < n → P (pair_of i j)
  unfolding all_pairs
  all_each zero h i j l k = let z : ⊥ = omega arith in absurd z
  all_each (suc m) h i j l k =
      let r = append_each P (all_pairs m) (pairs_with m m) h in
      elim (eq-or-lt_of_le (le_of_suc-le-suc k)) [
        | inl q ↦ rw q (with_each m m r.1 i (rw q at l))
        | inr b ↦ all_each m r.0 i j l b
      ]

-- ---- pairs that have not met
-- the two states of a pair are not the same
abbrev pub Different : ℕ → Type 0
Different p = one p ≡ other p → ⊥

pub different_unmet : (ps : List ℕ) → Each Different ps → unmet ps ≡ true
unfolding unmet
different_unmet [] h = refl
different_unmet (p ∷ ps) h = rw (ne_eqb (one p) (other p) h.0) (different_unmet ps h.1)

-- before the first command no pair has met
pub all_unmet : (n : ℕ) → n ≤ 256 → unmet (all_pairs n) ≡ true
all_unmet n l =
    different_unmet (all_pairs n)
    (each_all Different n (λ i j il jl e.
    let k : j < 256 = omega arith in omega (arith, one_of i k, other_of i k, e)))

-- ---- pairs that a word tells apart
module _ (M : Mealy) where
  -- the two states of a pair answer a word differently
  abbrev pub Apart : List ℕ → ℕ → Type 0
  Apart w p = answers M (one p) w ≡ answers M (other p) w → ⊥

  -- both are states
  pub record States (p : ℕ) : Type 0 where
    pub one_state : one p < M.n
    pub other_state : other p < M.n

  -- no word tells a state from itself
  pub met_none : (w : List ℕ) (p : ℕ) → one p ≡ other p → Apart w p → ⊥
  met_none w p e h = h (ap (λ (s : ℕ). answers M s w) e)

  -- so pairs that a word tells apart have not met
  pub apart_different : (w : List ℕ) (ps : List ℕ) → Each (Apart w) ps → Each Different ps
  apart_different w [] h = tt
  apart_different w (p ∷ ps) h = (λ e. met_none w p e h.0, apart_different w ps h.1)

  -- the empty word tells no pair apart
  pub apart_empty : (ps : List ℕ) → Each (Apart []) ps → (unmet ps && is_empty ps) ≡ true
  unfolding unmet is_empty answers
  apart_empty [] h = refl
  apart_empty (p ∷ ps) h = absurd (h.0 refl)

  pub empty_apart : (ps : List ℕ) → (unmet ps && is_empty ps) ≡ true → Each (Apart []) ps
  unfolding is_empty
  empty_apart [] e = tt
  empty_apart (p ∷ ps) e = absurd (true≢false (sym e ∙ and-false (unmet (p ∷ ps))))

  module _ (p : Proper M) where
    low : {s : ℕ} → s < M.n → s < 256
    low l = omega (arith, p.few_states)

    module _ (c : ℕ) (cl : c < M.k) where
      moved_one : (q : ℕ) → States q → one (moved M.next c q) ≡ M.next (one q) c
      moved_one q h = one_of (M.next (one q) c) (low (p.stays (other q) c h.other_state cl))

      moved_other : (q : ℕ) → States q → other (moved M.next c q) ≡ M.next (other q) c
      moved_other q h = other_of (M.next (one q) c) (low (p.stays (other q) c h.other_state cl))

      -- states lead to states
      moved_states : (q : ℕ) → States q → States (moved M.next c q)
      moved_states q h = record {
        one_state = rw (moved_one q h) (p.stays (one q) c h.one_state cl);
        other_state = rw (moved_other q h) (p.stays (other q) c h.other_state cl);
      }

      pub after_states : (ps : List ℕ) → Each States ps → Each States (after M.next M.answer ps c)
      unfolding after
      after_states [] h = tt
      after_states (q ∷ ps) h = elim (true_or_false (alike M.answer c q)) [
        | inl e ↦ rw e (moved_states q h.0, after_states ps h.1)
        | inr e ↦ rw e (after_states ps h.1)
      ]

      -- a word with a command in front tells a pair apart where the command does, or the word does behind it
      apart_cons : (w : List ℕ) (q : ℕ) → States q → Apart w (moved M.next c q) → Apart (c ∷ w) q
      apart_cons w q h o e =
          o (rw (moved_one q h, moved_other q h)
          (cc (rw (answers_cons M (one q) c w, answers_cons M (other q) c w) at e)))

      cons_apart : (w : List ℕ) (q : ℕ) → States q → alike M.answer c q ≡ true → Apart (c ∷ w) q
          → Apart w (moved M.next c q)
      cons_apart w q h a o e =
          o (rw (answers_cons M (one q) c w, answers_cons M (other q) c w)
          (ap₂ ◌∷◌ (eqb-true _ _ a) (rw (moved_one q h, moved_other q h) at e)))

      -- a command that two states answer differently tells them apart
      differ_apart : (w : List ℕ) (q : ℕ) → alike M.answer c q ≡ false → Apart (c ∷ w) q
      differ_apart w q a e =
          eqb-false (M.answer (one q) c) (M.answer (other q) c) a
          (cc (rw (answers_cons M (one q) c w, answers_cons M (other q) c w) at e))

      -- a word with a command in front tells pairs apart exactly where it tells those apart that the command leaves
      pub after_apart : (w : List ℕ) (ps : List ℕ) → Each States ps
          → Each (Apart w) (after M.next M.answer ps c) → Each (Apart (c ∷ w)) ps
      unfolding after
      after_apart w [] h a = tt
      after_apart w (q ∷ ps) h a = elim (true_or_false (alike M.answer c q)) [
        | inl e ↦ (let b = rw e at a in (apart_cons w q h.0 b.0, after_apart w ps h.1 b.1))
        | inr e ↦ (differ_apart w q e, after_apart w ps h.1 (rw e at a))
      ]

      pub apart_after : (w : List ℕ) (ps : List ℕ) → Each States ps → Each (Apart (c ∷ w)) ps
          → Each (Apart w) (after M.next M.answer ps c)
      unfolding after
      apart_after w [] h a = tt
      apart_after w (q ∷ ps) h a = elim (true_or_false (alike M.answer c q)) [
        | inl e ↦ rw e (cons_apart w q h.0 e a.0, apart_after w ps h.1 a.1)
        | inr e ↦ rw e (apart_after w ps h.1 a.1)
      ]

    -- ---- accepted words
    -- from pairs of states those words are accepted whose commands are the machine's and which tell all pairs apart
    pub accepted_apart : (w ps : List ℕ) → Each States ps
        → Accepted M.k unmet (after M.next M.answer) is_empty ps w → Below M.k w × Each (Apart w) ps
    accepted_apart [] ps h a = (λ i l. let z : ⊥ = omega arith in absurd z, empty_apart ps a)
    accepted_apart (c ∷ w) ps h a =
        let r = accepted_apart w (after M.next M.answer ps c) (after_states c a.1 ps h) a.2 in
        (below_cons M.k c w a.1 r.0, after_apart c a.1 w ps h r.1)

    pub apart_accepted : (w ps : List ℕ) → Each States ps → Below M.k w → Each (Apart w) ps
        → Accepted M.k unmet (after M.next M.answer) is_empty ps w
    apart_accepted [] ps h b a = apart_empty ps a
    apart_accepted (c ∷ w) ps h b a =
        let cl = below_head M.k c w b in (
          different_unmet ps (apart_different (c ∷ w) ps a),
          cl,
          apart_accepted w (after M.next M.answer ps c) (after_states c cl ps h) (below_tail M.k c w b)
              (apart_after c cl w ps h a),
        )

    -- ---- all pairs
    pub all_states : Each States (all_pairs M.n)
    all_states =
        each_all States M.n (λ i j l k. record {
          one_state = rw (one_of i (low k)) (omega arith);
          other_state = rw (other_of i (low k)) k;
        })

    -- a word separates the states where it tells all pairs apart
    pub apart_separates : (w : List ℕ) → Each (Apart w) (all_pairs M.n) → Separates M w
    apart_separates w h i j il jl e =
        let a : i < j → ⊥ = λ l. below i j l jl e in
        let b : j < i → ⊥ = λ l. below j i l il (sym e) in
        omega arith
      where
        below : (a b : ℕ) → a < b → b < M.n → answers M a w ≡ answers M b w → ⊥
        below a b l k q = all_each (Apart w) M.n h a b l k (rw (one_of a (low k), other_of a (low k)) q)

    pub separates_apart : (w : List ℕ) → Separates M w → Each (Apart w) (all_pairs M.n)
    separates_apart w h =
        each_all (Apart w) M.n (λ i j l k e.
        let q : i ≡ j = h i j (omega arith) k (rw (one_of i (low k), other_of i (low k)) at e) in
        omega arith)
