-- Checks, the order in which their causes count (§4.1), and what a refusal leaves (§4.3). A check is Clear, or Refused
-- with the refusal's number and its place. The laws stand in Check.Laws; Check.Bounds has what holds of number and
-- place wherever a check refuses.
use Rattle.std.specs.Prelude.{ℕ, zero, suc, ◌≡◌, Bool, true, false, List, [], ◌∷◌, Result, Ok, Err}
use Rattle.sheet.specs.declared.check.Refusal.{Refusal}
pub mod Laws
pub mod Bounds

-- what a check answers: clear, or the refusal
abbrev pub Check : Type 0
Check = Result (Unit {0}) Refusal

-- clear
pattern abbrev pub Clear : Check
Clear = Ok tt

-- refused with number and place, by any answer
abbrev pub Refused : {A : Type 0} → ℕ → ℕ → Result A Refusal
Refused number place = Err (record { number = number; place = place })

infix 20 refusal◌with◌if◌
infixr 15 ◌else◌
-- one cause: refused with this number and place where the test holds, else Clear
unfoldable pub refusal◌with◌if◌ : ℕ → ℕ → Bool → Check
refusal n with p if true = Refused n p
refusal n with p if false = Clear

-- the first check, or, where it is clear, the second
unfoldable pub ◌else◌ : Check → Check → Check
Clear else d = d
(Err r) else d = Err r

-- the first cause of a list that is present, with which a service refuses; Clear where none is (§4.1)
unfoldable pub first_cause : List Check → Check
first_cause [] = Clear
first_cause (c ∷ cs) = c else first_cause cs

-- none of a list of causes is present
abbrev pub AllClear : List Check → Type 0
AllClear [] = Unit {0}
AllClear (c ∷ cs) = (c ≡ Clear) × AllClear cs

-- the first present of f 0, f 1, .., f (n - 1), for causes of §4.2 of which the first byte or the lowest state counts
unfoldable pub first : ℕ → (ℕ → Check) → Check
first zero f = Clear
first (suc n) f = first n f else f n

-- ---- what a refusal leaves, for every service that answers and writes
-- what a service answers: on a refusal its own case of refused, with number and place, else the given answer
abbrev pub refused_or : {A : Type 0} → (ℕ → ℕ → A) → Check → A → A
refused_or refused Clear answer = answer
refused_or refused (Err r) answer = refused r.number r.place

-- the lent buffer afterwards (§4.3): on a refusal what it held before, else what it holds once the service has written
abbrev pub unless_refused : Check → List ℕ → List ℕ → List ℕ
unless_refused Clear after before = after
unless_refused (Err r) after before = before
