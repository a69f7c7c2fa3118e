-- What the program's own functions need besides: the open number by a table of known entries, and answers and values by
-- their cases. Nothing here has to be believed: the service's contract does not name it.
use Rattle.std.specs.Prelude.{ℕ, ◌+◌, ◌*◌, ◌<◌, ◌≡◌, Bool, true, not, List, eqb, get_or}
use Rattle.std.proofs.Common.{sym, ap, ◌∙◌, true≢false, inl, inr, ne_eqb}
use Rattle.std.proofs.lemmas.Bool.{eqb-false}
use Rattle.facts.specs.Tests.{true_or_false}
use Rattle.sheet.specs.Check.{refusal◌with◌if◌, ◌else◌, first, Check, Clear, Refused}
use Rattle.certify.specs.Answer.{Answer, Certified as CertifiedAnswer, Open}
use Rattle.sheet.specs.Check.Laws.{first_same, first_rows}
use Rattle.sheet.specs.Values.{refusal_values}
use Rattle.machine.specs.Machine.{Mealy}
use Rattle.certify.specs.Marks.{marked}
use Rattle.certify.specs.Certification.{verified, open_cause, answer_of, values_of}

-- ---- the open number by a table of known entries
-- the cause of an entry that is not known
abbrev pub unknown_at : List ℕ → ℕ → Check
unknown_at known e = refusal 11 with 1 + e if eqb (get_or known e 0) 0

-- the open number of marks and known entries, as cause 11
abbrev pub open_by : List ℕ → List ℕ → ℕ → Check
open_by ms known entries = (refusal 11 with 0 if not (marked ms 0)) else first entries (unknown_at known)

-- a table that knows exactly the verified entries gives the open number
pub open_known : (M : Mealy) (xs ms known : List ℕ)
    → ((s c : ℕ) → s < M.n → c < M.k → (get_or known (s * M.k + c) 0 ≡ 0 → ⊥) → verified M xs ms s c ≡ true)
    → ((s c : ℕ) → s < M.n → c < M.k → verified M xs ms s c ≡ true → get_or known (s * M.k + c) 0 ≡ 0 → ⊥)
    → open_by ms known (M.n * M.k) ≡ open_cause M xs ms
unfolding open_cause
open_known M xs ms known sound all =
    ap (λ (c : Check). (refusal 11 with 0 if not (marked ms 0)) else c)
    (sym (first_rows M.n M.k (unknown_at known))
    ∙ first_same M.n _ _
    (λ s ls. first_same M.k _ _
    (λ c lc. ap (λ (b : Bool). refusal 11 with 1 + (s * M.k + c) if b) (test s c ls lc))))
  where
    test : (s c : ℕ) → s < M.n → c < M.k → eqb (get_or known (s * M.k + c) 0) 0 ≡ not (verified M xs ms s c)
    test s c ls lc = elim (true_or_false (verified M xs ms s c)) [
      | inl e ↦ rw e (ne_eqb _ _ (all s c ls lc e))
      | inr e ↦ rw e (elim (true_or_false (eqb (get_or known (s * M.k + c) 0) 0)) [
        | inl z ↦ z
        | inr z ↦ absurd (true≢false (sym (sound s c ls lc (eqb-false _ _ z)) ∙ e))
      ])
    ]

-- ---- answers and their values by their cases
pub answer_of_clear : (n : ℕ) {c : Check} → c ≡ Clear → CertifiedAnswer n ≡ answer_of c n
answer_of_clear n e = rw e

pub answer_of_open : (n : ℕ) {c : Check} {number place : ℕ} → c ≡ Refused number place → Open n place ≡ answer_of c n
answer_of_open n e = rw e

pub values_certified : {a : Answer} {n : ℕ} → a ≡ CertifiedAnswer n
    → record { class = 110; place = n; a = 0; b = 0 } ≡ values_of a
values_certified e = rw e

pub values_open : {a : Answer} {n number : ℕ} → a ≡ Open n number
    → record { class = 111; place = n; a = 0; b = number } ≡ values_of a
values_open e = rw e

pub values_refused : {a : Answer} {number place : ℕ} → a ≡ Refused number place
    → refusal_values number place ≡ values_of a
values_refused e = rw e
