-- The contract of certifying holds of the definitions: what the answer says, and what stands in the buffer.
use Rattle.std.specs.Prelude.{Err}
use Rattle.std.specs.Prelude.{ℕ, ◌≡◌, refl, List, length, get_or, drop}
use Rattle.std.proofs.Common.{ap, ◌∙◌, inl, inr, arith}
use Rattle.std.proofs.Math.Seq.{take-append_seam, drop-append_seam}
use Rattle.facts.specs.Numbers.{bit_zero, equal_or_not}
use Rattle.sheet.specs.Check.{first_cause, Check, Clear}
use Rattle.certify.specs.Answer.{Answer, Certified as CertifiedAnswer, Open}
use Rattle.sheet.specs.Values.Laws.{returns_specified}
use Rattle.sheet.specs.Reader.{word_in, sequence_in}
use Rattle.machine.specs.Machine.{Mealy, state_at}
use Rattle.machine.specs.Causes.{machine_in}
use Rattle.certify.specs.Recognition.{OccursAt, MarksOf, RecognisedNumber}
use Rattle.certify.specs.Recognition.Laws.{closure_recognised, recognised_closure}
use Rattle.certify.specs.Marks.{count, marks}
use Rattle.certify.specs.Marks.Agreement.{Exact}
use Rattle.certify.specs.Certification.{mark_bytes, certify_causes, certification, kept}
use Rattle.certify.specs.Certification.{marks_after, kept_in, values_of, CertifiedWith, OpenWith, Says, Certifies}
use Rattle.certify.specs.Certification.Laws.{outcome_clear, outcome_open, certification_refused}
use Rattle.certify.specs.Certification.Laws.{certification_clear, after_refused, after_clear}
use Rattle.certify.specs.Certification.Contract.{certified, still_open, answer_by, answer_refused}
use Rattle.certify.proofs.MarksAgreement.{marks_unique, marks_length, marks_bits, marked_recognised}
use Rattle.certify.proofs.MarksAgreement.{recognised_marked}
use Rattle.certify.proofs.CertificationLaws.{clear_certified, certified_clear, refused_open, open_refused}

-- ---- the marks and their number, as the rules say them
module _ (M : Mealy) (w xs : List ℕ) where
  pub marks_of : MarksOf M w xs (marks M w xs)
  marks_of = record {
    long = marks_length M w xs;
    marked = λ p. (marked_recognised M w xs p, recognised_marked M w xs p);
    otherwise = λ p h. bit_zero (marks_bits M w xs p) (λ e. h (marked_recognised M w xs p e));
  }

  marks_number : {n : ℕ} → n ≡ count (marks M w xs) → RecognisedNumber M w xs n
  marks_number e = record { marks = marks M w xs; are = marks_of; number = e }

  -- no other list has such marks, and no other number is theirs
  of_exact : (ms : List ℕ) → MarksOf M w xs ms → Exact xs (state_at M xs) (OccursAt w xs) ms
  of_exact ms h = record {
    long = h.long;
    bits = λ p. elim (equal_or_not (get_or (marks M w xs) p 0) 1) [
      | inl e ↦ omega (arith, (h.marked p).1 (marked_recognised M w xs p e))
      | inr o ↦ omega (arith, h.otherwise p (λ r. o (recognised_marked M w xs p r)))
    ];
    sound = λ p e. recognised_closure M w xs p ((h.marked p).0 e);
    complete = λ p l c. (h.marked p).1 (closure_recognised M w xs p c);
  }

  pub number_is : {n : ℕ} → RecognisedNumber M w xs n → n ≡ count (marks M w xs)
  number_is h = h.number ∙ ap count (marks_unique M w xs h.marks (of_exact h.marks h.are))

-- ---- what an answer says
module _ (room : ℕ) (s : List ℕ) where
  abbrev M : Mealy
  M = machine_in s

  abbrev w : List ℕ
  w = word_in s

  abbrev xs : List ℕ
  xs = sequence_in s

  answer_certified : (n : ℕ) → certification room s ≡ CertifiedAnswer n → CertifiedWith room s n
  answer_certified n e = elim (rw e at (answer_by room s)) [
    | certified c d q ↦ record {
      clear = c;
      certified = clear_certified M w xs d;
      number = marks_number M w xs q;
    }
  ]

  certified_answer : (n : ℕ) → CertifiedWith room s n → certification room s ≡ CertifiedAnswer n
  certified_answer n h =
      rw (number_is M w xs h.number, certification_clear room s h.clear)
      (outcome_clear M w xs (certified_clear M w xs h.certified))

  answer_open : (n v : ℕ) → certification room s ≡ Open n v → OpenWith room s n v
  answer_open n v e = elim (rw e at (answer_by room s)) [
    | still_open c a d q ↦ record {
      clear = c;
      open_number = (refused_open M w xs d).1;
      number = marks_number M w xs q;
    }
  ]

  open_answer : (n v : ℕ) → OpenWith room s n v → certification room s ≡ Open n v
  open_answer n v h =
      rw (number_is M w xs h.number, certification_clear room s h.clear)
      (outcome_open M w xs (open_refused M w xs h.open_number))

  pub certification_says : Says room s (certification room s)
  certification_says = record {
    certified = λ n. (answer_certified n, certified_answer n);
    opened = λ n v. (answer_open n v, open_answer n v);
    refused = λ n p. (answer_refused room s n p, certification_refused room s);
  }

-- ---- what stands in the buffer
module _ (M : Mealy) (w xs buffer : List ℕ) where
  kept_marked : MarksOf M w xs (kept_in xs (kept (marks M w xs) buffer))
  unfolding kept kept_in
  kept_marked = rw (← marks_length M w xs, take-append_seam) (marks_of M w xs)

  kept_later : drop (mark_bytes xs) (kept (marks M w xs) buffer) ≡ drop (mark_bytes xs) buffer
  unfolding kept
  kept_later = rw (← marks_length M w xs, drop-append_seam)

module _ (s before : List ℕ) where
  later_by : (c : Check) → first_cause (certify_causes (length before) s) ≡ c
      → drop (mark_bytes (sequence_in s)) (marks_after s before) ≡ drop (mark_bytes (sequence_in s)) before
  later_by Clear e = rw (after_clear s before e) (kept_later (machine_in s) (word_in s) (sequence_in s) before)
  later_by (Err r) e = ap (drop (mark_bytes (sequence_in s))) (after_refused s before e)

  holds : Certifies s before (marks_after s before) (certification (length before) s)
  holds = record {
    answer = returns_specified values_of refl;
    says = certification_says (length before) s;
    marks = refl;
    marked = λ e. rw (after_clear s before e) (kept_marked (machine_in s) (word_in s) (sequence_in s) before);
    later = later_by (first_cause (certify_causes (length before) s)) refl;
    unwritten = λ n p e. after_refused s before (answer_refused (length before) s n p e);
  }

  -- the two equations show the whole contract
  pub certifies : {after : List ℕ} {a : Answer} → a ≡ certification (length before) s → after ≡ marks_after s before
      → Certifies s before after a
  certifies ae fe = rw (ae, fe) holds
