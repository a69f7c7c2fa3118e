-- The laws of recognition: what building and judging may know of it.
use Rattle.std.specs.Prelude.{ℕ, ◌+◌, ◌*◌, ◌≤◌, ◌≡◌, List, length, take, drop}
use Rattle.std.proofs.Math.Path.{refl}
use Rattle.std.proofs.Common.{arith}
use Rattle.std.proofs.Math.Arith.{digits_lt}
use Rattle.machine.specs.Machine.{Mealy, state_at}
use Rattle.certify.specs.Recognition.{OccursAt, Closure, rule1, rule2, Recognised, OpenNumber, start_open}
use Rattle.certify.specs.Recognition.{entry_open}

-- the smallest set is in any other that has its first places
pub closure_in : {xs : List ℕ} {state : ℕ → ℕ} {A B : ℕ → Type 0} → ((p : ℕ) → A p → Closure xs state B p) → {p : ℕ}
    → Closure xs state A p → Closure xs state B p
closure_in f (rule1 h) = f _ h
closure_in f (rule2 p q m l hp hq e hm i same at) =
    rule2 p q m l (closure_in f hp) (closure_in f hq) e (closure_in f hm) i same at

pub closure_more : {xs : List ℕ} {state : ℕ → ℕ} {A B : ℕ → Type 0} → ((p : ℕ) → A p → B p) → {p : ℕ}
    → Closure xs state A p → Closure xs state B p
closure_more f = closure_in (λ p h. rule1 (f p h))

-- rule 2 only adds places behind others, so each has one of the first places at or before it
pub closure_first : {xs : List ℕ} {state : ℕ → ℕ} {Base : ℕ → Type 0} {r : ℕ} → Closure xs state Base r
    → (q : ℕ) × (q ≤ r) × (Base q)
closure_first {r = r} (rule1 h) = (r, omega arith, h)
closure_first (rule2 p q m l hp hq e hm i same at) = let f = closure_first hq in (f.0, omega (arith, f.1), f.2)

module _ (M : Mealy) (w xs : List ℕ) where
  -- recognised is in the smallest set
  pub closure_recognised : (p : ℕ) → Closure xs (state_at M xs) (OccursAt w xs) p → Recognised M w xs p
  unfolding Recognised
  closure_recognised p h = h

  pub recognised_closure : (p : ℕ) → Recognised M w xs p → Closure xs (state_at M xs) (OccursAt w xs) p
  unfolding Recognised
  recognised_closure p h = h

  -- ---- the rules
  pub by_rule1 : (p : ℕ) → OccursAt w xs p → Recognised M w xs p
  unfolding Recognised
  by_rule1 p h = rule1 h

  pub by_rule2 : (p q m : ℕ) → 1 ≤ m → Recognised M w xs p → Recognised M w xs q → state_at M xs p ≡ state_at M xs q
      → Recognised M w xs (p + m) → q + m ≤ length xs → take m (drop p xs) ≡ take m (drop q xs)
      → Recognised M w xs (q + m)
  unfolding Recognised
  by_rule2 p q m l hp hq e hm i same = rule2 p q m l hp hq e hm i same refl

  -- the smallest set: whatever has both rules holds of every recognised place
  pub smallest : (P : ℕ → Type 0) → ((p : ℕ) → OccursAt w xs p → P p)
      → ((p q m : ℕ) → 1 ≤ m → Recognised M w xs p → P p → Recognised M w xs q → P q → state_at M xs p ≡ state_at M xs q
      → Recognised M w xs (p + m) → P (p + m) → q + m ≤ length xs → take m (drop p xs) ≡ take m (drop q xs) → P (q + m))
      → (p : ℕ) → Recognised M w xs p → P p
  unfolding Recognised
  smallest P one two p (rule1 h) = one p h
  smallest P one two r (rule2 p q m l hp hq e hm i same at) =
      rw at (two p q m l hp (smallest P one two p hp) hq (smallest P one two q hq) e hm
      (smallest P one two (p + m) hm) i same)

  -- a recognised place is a place of the sequence
  pub recognised_inside : (p : ℕ) → Recognised M w xs p → p ≤ length xs
  recognised_inside =
      smallest (λ p. p ≤ length xs) (λ p h. omega (arith, h.inside)) (λ p q m ml rp hp rq hq e rm hm i same. i)

-- ---- the open number is at most n·k
pub open_small : (M : Mealy) (w xs : List ℕ) (v : ℕ) → OpenNumber M w xs v → v ≤ M.n * M.k
open_small M w xs v (start_open h e) = omega arith
open_small M w xs v (entry_open s c ls lc r h b d e) =
    omega (arith, digits_lt {q = s} {m = M.n} {r = c} {c = M.k} ls lc)
