-- Soundness of folding: two places are paired where they are one, or equally many equal commands after two places of
-- one state that belong to the closure. Paired places have one state, and if one of them belongs to the closure, so
-- does the other, by rule 2. Assumes nothing.
use Prim.Native.Nat.{ℕ, ◌+◌, ◌≤◌, ◌<◌}
use mathlib.Core.Path.{◌≡◌, sym, ap, ap₂, ◌∙◌}
use mathlib.Core.List.{List}
use mathlib.Core.Logic.{◌⊎◌, inl, inr}
use native.Mathlib.Omega.{arith}
use native.Mathlib.Nat.{eq-or-lt_of_le}
use lib.ListN.{length, get_or, take, drop, length-take, length-drop}
use lib.Seq.{ext_get_or}
use Rattle.facts.specs.Lists.{part_at}
use Rattle.machine.specs.Machine.{Mealy, state_at}
use Rattle.machine.specs.Machine.Laws.{state_next}
use Rattle.certify.specs.Recognition.{rule2}
use Rattle.certify.specs.Folding.{From, Paired, same, tops, step, Past, here, past}

-- the m commands from p and from q are equal where they are so one by one
commands_equal : (xs : List ℕ) (p q m : ℕ) → p + m ≤ length xs → q + m ≤ length xs
    → ((i : ℕ) → i < m → get_or xs (p + i) 0 ≡ get_or xs (q + i) 0) → take m (drop p xs) ≡ take m (drop q xs)
commands_equal xs p q m pl ql h =
    ext_get_or 0 (take m (drop p xs)) (take m (drop q xs)) (simp (length-take, length-drop) (omega arith))
    (λ i l. let k : i < m = omega (arith, simp length-take at l) in
    part_at xs p m i k ∙ h i k ∙ sym (part_at xs q m i k))

-- two places m commands after two of one state in the closure, the commands equal
record Run (M : Mealy) (xs given : List ℕ) (a b : ℕ) : Type 0 where
  p : ℕ
  q : ℕ
  m : ℕ
  p_in : From M xs given p
  q_in : From M xs given q
  states : state_at M xs p ≡ state_at M xs q
  a_at : a ≡ p + m
  b_at : b ≡ q + m
  a_inside : 1 ≤ m → a ≤ length xs
  b_inside : 1 ≤ m → b ≤ length xs
  commands : (i : ℕ) → i < m → get_or xs (p + i) 0 ≡ get_or xs (q + i) 0

module _ {M : Mealy} {xs given : List ℕ} where
  pub paired_sym : {a b : ℕ} → Paired M xs given a b → Paired M xs given b a
  paired_sym (same e) = same (sym e)
  paired_sym (tops ha hb e) = tops hb ha (sym e)
  paired_sym (step p q h pl ql e ea eb) = step q p (paired_sym h) ql pl (sym e) eb ea

  pub paired_state : {a b : ℕ} → Paired M xs given a b → state_at M xs a ≡ state_at M xs b
  paired_state (same e) = ap (state_at M xs) e
  paired_state (tops ha hb e) = e
  paired_state (step p q h pl ql e ea eb) =
      ap (state_at M xs) ea
      ∙ state_next M xs p pl
      ∙ ap₂ M.next (paired_state h) e
      ∙ sym (state_next M xs q ql)
      ∙ sym (ap (state_at M xs) eb)

  run_on : {a b a' b' : ℕ} → Run M xs given a b → a < length xs → b < length xs → get_or xs a 0 ≡ get_or xs b 0 → a' ≡ a + 1
      → b' ≡ b + 1 → Run M xs given a' b'
  run_on {a} {b} r al bl e ea eb = record {
    p = r.p;
    q = r.q;
    m = r.m + 1;
    p_in = r.p_in;
    q_in = r.q_in;
    states = r.states;
    a_at = omega (arith, r.a_at);
    b_at = omega (arith, r.b_at);
    a_inside = λ z. omega arith;
    b_inside = λ z. omega arith;
    commands = λ i l. elim (eq-or-lt_of_le {n = i} {m = r.m} (omega arith)) [
      | inl k ↦ rw (k, ← r.a_at, ← r.b_at) e
      | inr k ↦ r.commands i k
    ];
  }

  paired_run : {a b : ℕ} → Paired M xs given a b → (a ≡ b) ⊎ (Run M xs given a b)
  paired_run (same e) = inl e
  paired_run {a} {b} (tops ha hb e) = inr (record {
    p = a;
    q = b;
    m = 0;
    p_in = ha;
    q_in = hb;
    states = e;
    a_at = omega arith;
    b_at = omega arith;
    a_inside = λ z. let y : ⊥ = omega arith in absurd y;
    b_inside = λ z. let y : ⊥ = omega arith in absurd y;
    commands = λ i l. let y : ⊥ = omega arith in absurd y;
  })
  paired_run (step p q h pl ql e ea eb) =
      elim (paired_run h) [ inl s ↦ inl (omega arith) | inr r ↦ inr (run_on r pl ql e ea eb) ]

  run_carries : {a b : ℕ} → Run M xs given a b → From M xs given a → From M xs given b
  run_carries {a} {b} r ha = elim (eq-or-lt_of_le {n = 0} {m = r.m} (omega arith)) [
    | inl z ↦ (let e : b ≡ r.q = omega (arith, r.b_at) in rw e r.q_in)
    | inr l ↦ (let al = r.a_inside (omega arith) in
        let bl = r.b_inside (omega arith) in
        rule2 r.p r.q r.m (omega arith) r.p_in r.q_in r.states (rw (← r.a_at) ha)
        (omega (arith, r.b_at))
        (commands_equal xs r.p r.q r.m (omega (arith, r.a_at)) (omega (arith, r.b_at)) r.commands)
        r.b_at)
  ]

  -- rule 2 carries membership over
  pub paired_carries : {a b : ℕ} → Paired M xs given a b → From M xs given a → From M xs given b
  paired_carries {a} {b} h ha = elim (paired_run h) [ inl e ↦ rw (← e) ha | inr r ↦ run_carries r ha ]

  pub paired_trans : {a b c : ℕ} → Paired M xs given a b → Paired M xs given b c → Paired M xs given a c
  paired_trans (same e) k = rw e k
  paired_trans (tops ha hb e) k = tops ha (paired_carries k hb) (e ∙ paired_state k)
  paired_trans (step p q h pl ql e ea eb) (same d) = step p q h pl ql e ea (sym d ∙ eb)
  paired_trans (step p q h pl ql e ea eb) (tops hb hc d) =
      let k = step p q h pl ql e ea eb in tops (paired_carries (paired_sym k) hb) hc (paired_state k ∙ d)
  paired_trans (step p q h pl ql e ea eb) (step q' r k ql' rl d db dc) =
      let same-q : q ≡ q' = omega arith in
      step p r (paired_trans h (rw same-q k)) pl rl (e ∙ (rw same-q d)) ea dc

  -- the places along a chain of alternatives, where each is paired with the next
  pub paired_past : {alt : List ℕ} → ((v : ℕ) → (get_or alt v 0 ≡ 0 → ⊥) → Paired M xs given v (get_or alt v 0))
      → {c r v : ℕ} → Past xs alt c r v → Paired M xs given r v
  paired_past h (here e) = same e
  paired_past h (past o n k) = paired_trans (h _ n) (paired_past h k)
