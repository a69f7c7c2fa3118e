-- The laws of checks: how a cause, two checks in a row, a list of causes and a first cause answer.
use Rattle.std.specs.Prelude.{Result, Ok, Err}
use Rattle.std.specs.Result.{IsErrAnd, result_and}
use Rattle.std.specs.Prelude.{ℕ, zero, suc, ◌+◌, ◌*◌, ◌≤◌, ◌<◌, ◌≡◌, refl, Bool, true, false, ◌||◌, List, [], ◌∷◌}
use Rattle.std.specs.Prelude.{◌++◌, ◌⊎◌}
use Rattle.std.proofs.Common.{sym, ap, ◌∙◌, arith, le_of_suc-le-suc, eq-or-lt_of_le, not-suc-le-zero, add-zero}
use Rattle.std.proofs.Common.{add-suc, zero-mul, suc-mul, add-one, inl, inr}
use Rattle.sheet.specs.declared.check.Refusal.{Refusal}
use Rattle.sheet.specs.Check.{refusal◌with◌if◌, ◌else◌, first_cause, refused_or, AllClear, first, Check, Clear}
use Rattle.sheet.specs.Check.{Refused}

-- a refusal is not clear
pub clear_refused : {A : Type 0} {n p : ℕ} {c : Check} → c ≡ Clear → c ≡ Refused n p → A
clear_refused e r = let z : ◌≡◌ {A = ℕ} 0 1 = cc in absurd (omega arith)

-- number and place of a refusal
abbrev refused_number : {A : Type 0} → Result A Refusal → ℕ
refused_number (Ok a) = 0
refused_number (Err r) = r.number

abbrev refused_place : {A : Type 0} → Result A Refusal → ℕ
refused_place (Ok a) = 0
refused_place (Err r) = r.place

-- equal refusals have the same number and place
pub same_refusal : {A : Type 0} {a b p q : ℕ} → Refused {A = A} a p ≡ Refused b q → (a ≡ b) × (p ≡ q)
same_refusal e = (ap refused_number e, ap refused_place e)

-- ---- one cause
pub absent : (n p : ℕ) {b : Bool} → b ≡ false → (refusal n with p if b) ≡ Clear
unfolding refusal◌with◌if◌
absent n p e = rw e

pub present : (n p : ℕ) {b : Bool} → b ≡ true → (refusal n with p if b) ≡ Refused n p
unfolding refusal◌with◌if◌
present n p e = rw e

pub clear_absent : (n p : ℕ) (b : Bool) → (refusal n with p if b) ≡ Clear → b ≡ false
unfolding refusal◌with◌if◌
clear_absent n p true e = cc
clear_absent n p false e = refl

pub not_clear : (n p : ℕ) (b : Bool) → ((refusal n with p if b) ≡ Clear → ⊥) → (refusal n with p if b) ≡ Refused n p
unfolding refusal◌with◌if◌
not_clear n p true d = refl
not_clear n p false d = absurd (d refl)

-- ---- two checks in a row
pub else_clear : (d : Check) → (Clear else d) ≡ d
unfolding ◌else◌
else_clear d = refl

pub else_refused : (n p : ℕ) (d : Check) → (Refused n p else d) ≡ Refused n p
unfolding ◌else◌
else_refused n p d = refl

-- a refusal stays what it is, whatever is checked behind it
pub refusal_stays : (d : Check) {c : Check} {n p : ℕ} → c ≡ Refused n p → (c else d) ≡ Refused n p
refusal_stays d {c} {n} {p} e = ap (λ (x : Check). x else d) e ∙ else_refused n p d

-- code that makes the first one as k, and stops where it refuses or goes on where it is clear
pub stops_at : (c d : Check) {e k : Check} → e ≡ (c else d) → k ≡ c → {n p : ℕ} → k ≡ Refused n p → k ≡ e
unfolding ◌else◌
stops_at c d ee ke h = rw (ee, ← ke, h) refl

pub goes_on : (c d : Check) {e k : Check} → e ≡ (c else d) → k ≡ c → k ≡ Clear → d ≡ e
unfolding ◌else◌
goes_on c d ee ke h = rw (ee, ← ke, h) refl

-- both made, and the first refusal taken
pub else_and : (c d : Check) → result_and c d ≡ (c else d)
unfolding ◌else◌
else_and Clear d = refl
else_and (Err r) d = refl

-- what `?` hands on: the same refusal
pub hands_on : {A : Type 0} (c : Result A Refusal) {r : Refusal} → IsErrAnd c (λ x. x ≡ r) → c ≡ Err r
hands_on (Ok a) h = absurd h
hands_on (Err x) h = ap Err h

-- a check, and then an answer
pub cause_before : {A : Type 0} (c : Check) {a b : A} → refused_or Refused c (Ok a) ≡ Ok b → (c ≡ Clear) × (b ≡ a)
cause_before Clear e = (refl, cc)
cause_before (Err r) e = cc

pub cause_refuses : {A : Type 0} (c : Check) (a : A) {r : Refusal} → refused_or Refused c (Ok a) ≡ Err r → c ≡ Err r
cause_refuses Clear a e = cc
cause_refuses (Err x) a e = cc

-- code that stops by `?` at the first of two checks
pub stops_with : (c d : Check) {e k s : Check} {r : Refusal} → IsErrAnd s (λ x. x ≡ r) → e ≡ (c else d) → k ≡ c
    → k ≡ Err r → s ≡ e
stops_with c d h ee ke q = hands_on _ h ∙ sym q ∙ stops_at c d ee ke q

-- two causes with one number and place
pub either_there : (n p : ℕ) (a b : Bool)
    → ((refusal n with p if a) else (refusal n with p if b)) ≡ (refusal n with p if (a || b))
unfolding refusal◌with◌if◌ ◌else◌
either_there n p true b = refl
either_there n p false b = refl

pub else_end : (c : Check) → (c else Clear) ≡ c
unfolding ◌else◌
else_end Clear = refl
else_end (Err r) = refl

pub else_assoc : (a b c : Check) → ((a else b) else c) ≡ (a else (b else c))
unfolding ◌else◌
else_assoc Clear b c = refl
else_assoc (Err r) b c = refl

pub both_clear : (a b : Check) → (a else b) ≡ Clear → (a ≡ Clear) × (b ≡ Clear)
unfolding ◌else◌
both_clear Clear b e = (refl, e)
both_clear (Err r) b e = (e, cc)

-- where they refuse, the first one does, or it is clear and the second one does
pub either_refused : (c d : Check) {a b : ℕ} → (c else d) ≡ Refused a b
    → (c ≡ Refused a b) ⊎ ((c ≡ Clear) × (d ≡ Refused a b))
unfolding ◌else◌
either_refused Clear d e = inr (refl, e)
either_refused (Err r) d e = inl e

-- ---- a list of causes
pub cause_none : first_cause [] ≡ Clear
unfolding first_cause
cause_none = refl

pub cause_cons : (c : Check) (cs : List Check) → first_cause (c ∷ cs) ≡ (c else first_cause cs)
unfolding first_cause
cause_cons c cs = refl

pub cause_one : (c : Check) → first_cause (c ∷ []) ≡ c
unfolding first_cause
cause_one c = else_end c

pub cause_two : (c d : Check) → first_cause (c ∷ d ∷ []) ≡ (c else d)
cause_two c d = cause_cons c (d ∷ []) ∙ ap (λ (x : Check). c else x) (cause_one d)

-- none is the first where none is present, and the other way round
pub clear_all : (cs : List Check) → first_cause cs ≡ Clear → AllClear cs
clear_all [] e = tt
clear_all (c ∷ cs) e =
    let both = both_clear c (first_cause cs) (sym (cause_cons c cs) ∙ e) in
    (both.0, clear_all cs both.1)

pub all_clear : (cs : List Check) → AllClear cs → first_cause cs ≡ Clear
all_clear [] h = cause_none
all_clear (c ∷ cs) h = rw (cause_cons c cs, h.0, all_clear cs h.1) (else_clear Clear)

pub cause_append : (cs ds : List Check) → first_cause (cs ++ ds) ≡ (first_cause cs else first_cause ds)
unfolding first_cause ◌else◌
cause_append [] ds = refl
cause_append (a ∷ cs) ds = rw (cause_append cs ds, else_assoc)

-- ---- the first present of a row of causes
pub first_none : (f : ℕ → Check) → first 0 f ≡ Clear
unfolding first
first_none f = refl

pub first_more : (n : ℕ) (f : ℕ → Check) → first (n + 1) f ≡ (first n f else f n)
unfolding first
first_more n f = rw add-one

-- all clear so far and clear here
pub first_passed : (n : ℕ) (f : ℕ → Check) → first n f ≡ Clear → f n ≡ Clear → first (n + 1) f ≡ Clear
first_passed n f e h = first_more n f ∙ (rw (e, h) (else_clear Clear))

-- all clear before i, and refused at i: that is the answer, however many follow
pub first_found : (n i : ℕ) (f : ℕ → Check) → i < n → first i f ≡ Clear → {a b : ℕ} → f i ≡ Refused a b
    → first n f ≡ Refused a b
unfolding first
first_found zero i f l e h = absurd (not-suc-le-zero l)
first_found (suc n) i f l e {a} {b} h = elim (eq-or-lt_of_le (le_of_suc-le-suc l)) [
  | inl q ↦ rw (← q, e, h) (else_clear (Refused a b))
  | inr q ↦ rw (first_found n i f q e h) (else_refused a b (f n))
]

-- where the first of n is clear, each is
pub first_clear_at : (n i : ℕ) (f : ℕ → Check) → first n f ≡ Clear → i < n → f i ≡ Clear
unfolding first
first_clear_at zero i f e l = absurd (not-suc-le-zero l)
first_clear_at (suc n) i f e l = elim (eq-or-lt_of_le (le_of_suc-le-suc l)) [
  | inl q ↦ rw q (both_clear (first n f) (f n) e).1
  | inr q ↦ first_clear_at n i f (both_clear (first n f) (f n) e).0 q
]

-- where each is clear, the first of n is
pub first_clear : (n : ℕ) (f : ℕ → Check) → ((i : ℕ) → i < n → f i ≡ Clear) → first n f ≡ Clear
unfolding first
first_clear zero f h = refl
first_clear (suc n) f h = rw (first_clear n f (λ i l. h i (omega arith)), h n (omega arith)) (else_clear Clear)

-- ---- a loop that looks for the first: c is the check that it makes at i
module _ (f : ℕ → Check) where
  pub first_stops : {n i : ℕ} → i < n → first i f ≡ Clear → {c : Check} → c ≡ f i → {a b : ℕ} → c ≡ Refused a b
      → c ≡ first n f
  first_stops {n} {i} l h ce e = e ∙ sym (first_found n i f l h (sym ce ∙ e))

  pub first_stops_with : {n i : ℕ} → i < n → first i f ≡ Clear → {c s : Check} → c ≡ f i → {r : Refusal}
      → IsErrAnd s (λ x. x ≡ r) → c ≡ Err r → s ≡ first n f
  first_stops_with l h ce g e = hands_on _ g ∙ sym e ∙ first_stops l h ce e

  pub first_goes_on : (i : ℕ) → first i f ≡ Clear → {c : Check} → c ≡ f i → c ≡ Clear → first (i + 1) f ≡ Clear
  first_goes_on i h ce e = first_passed i f h (sym ce ∙ e)

  pub first_ends : {n i : ℕ} → i ≤ n → n ≤ i → first i f ≡ Clear → Clear ≡ first n f
  first_ends {n} {i} l m h = sym h ∙ ap (λ (x : ℕ). first x f) (omega arith)

-- ---- rows of causes, one behind the other
pub first_same : (n : ℕ) (f g : ℕ → Check) → ((i : ℕ) → i < n → f i ≡ g i) → first n f ≡ first n g
unfolding first
first_same zero f g h = refl
first_same (suc n) f g h = rw (first_same n f g (λ i l. h i (omega arith)), h n (omega arith))

pub first_add : (a b : ℕ) (g : ℕ → Check) → first (a + b) g ≡ (first a g else first b (λ i. g (a + i)))
unfolding first
first_add a zero g = rw add-zero (sym (else_end (first a g)))
first_add a (suc b) g = rw (add-suc, first_add a b g) (else_assoc (first a g) (first b (λ i. g (a + i))) (g (a + b)))

pub first_rows : (n k : ℕ) (g : ℕ → Check) → first n (λ s. first k (λ c. g (s * k + c))) ≡ first (n * k) g
unfolding first
first_rows zero k g = rw zero-mul
first_rows (suc n) k g = rw (suc-mul, first_rows n k g) (sym (first_add (n * k) k g))

-- ---- where the first of n is a refusal, it is the first one present
pub record Present (n : ℕ) (f : ℕ → Check) (a b : ℕ) : Type 0 where
  pub place : ℕ
  pub inside : place < n
  pub before : first place f ≡ Clear
  pub here : f place ≡ Refused a b

pub first_present : (n : ℕ) (f : ℕ → Check) {a b : ℕ} → first n f ≡ Refused a b → Present n f a b
unfolding first
first_present zero f e = clear_refused refl e
first_present (suc n) f e = elim (either_refused (first n f) (f n) e) [
  | inl q ↦ (let h = first_present n f q in
      record { place = h.place; inside = omega (arith, h.inside); before = h.before; here = h.here })
  | inr q ↦ record { place = n; inside = omega arith; before = q.0; here = q.1 }
]

-- where a cause refuses, its test holds, and number and place are its own
pub present_test : (n p : ℕ) (t : Bool) {a b : ℕ} → (refusal n with p if t) ≡ Refused a b
    → (t ≡ true) × ((a ≡ n) × (b ≡ p))
unfolding refusal◌with◌if◌
present_test n p true e = (refl, same_refusal (sym e))
present_test n p false e = clear_refused refl e
