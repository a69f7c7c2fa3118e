-- The first 20,356 bytes of a part are enough, one more than the longest part may have: a longer one that
-- is wanted is refused, whatever follows. One before it that is too long is refused first, so that where later records
-- start plays no role.
use Rattle.std.specs.Prelude.{Err}
use Rattle.std.specs.Prelude.{ℕ, ◌+◌, ◌<◌, ◌≡◌, refl, true, List, length, take}
use Rattle.std.proofs.Common.{sym, ap, ◌∙◌, true≢false, inl, inr, arith, lt-ltb, take_all, length-take-le}
use Rattle.facts.specs.Numbers.{less_or_not}
use Rattle.sheet.specs.Check.{◌else◌, first_cause, Check, Clear, Refused}
use Rattle.sheet.specs.Check.Laws.{present, else_clear, refusal_stays, else_assoc}
use Rattle.sheet.specs.Format.{standard, offset}
use Rattle.sheet.specs.Reader.{sheet_causes, needed}
use Rattle.machine.specs.Limits.{most_sequence}
use Rattle.machine.specs.Machine.{Mealy, machine_of}
use Rattle.machine.specs.Causes.{table_causes, word_causes, sequence_causes}
use Rattle.machine.specs.Causes.Laws.{cause10_is}
use Rattle.machine.specs.Causes.Lists.{table_long, word_long, sequence_long}
use Rattle.writer.specs.declared.wanted.Wanted.{Wanted}
use Rattle.writer.specs.declared.wanted.Wanted.TheVariants.{Word, Sequence, Answers}
use Rattle.writer.specs.Parts.{Parts, parts_of, with_answers, needs_of, word_start, sequence_start}
use Rattle.writer.specs.Parts.{answers_start}
use Rattle.writer.specs.Writer.{later_causes, part_causes, answers_causes}
use Rattle.writer.specs.Writer.Laws.{later_sequence, later_answers, part_causes_are, answers_causes_are}
use Rattle.report.specs.Output.{bytes_unless}
use Rattle.report.specs.Services.{sheet_written, answers_written}
use Rattle.report.specs.Services.Laws.{wanted_written}

-- two refusals of one kind, whatever would be written without them
refusal_same : (c : Check) (n p : ℕ) (xs ys : List ℕ)
    → bytes_unless (c else Refused n p) xs ≡ bytes_unless (c else Refused n p) ys
unfolding ◌else◌
refusal_same Clear n p xs ys = refl
refusal_same (Err r) n p xs ys = refl

refused_same : (c : Check) (n p : ℕ) {a b : Check} (xs ys : List ℕ) → a ≡ (c else Refused n p)
    → b ≡ (c else Refused n p)
    → bytes_unless a xs ≡ bytes_unless b ys
refused_same c n p xs ys e f =
    ap (λ (x : Check). bytes_unless x xs) e
    ∙ refusal_same c n p xs ys
    ∙ sym (ap (λ (x : Check). bytes_unless x ys) f)

-- ---- more answers than a sequence may have commands
module _ (M : Mealy) (at : ℕ) where
  -- of a sequence that is not too long there are more answers than commands, and one that is too long is refused first
  answers_long : (xs ys : List ℕ) → most_sequence < length ys → first_cause (later_causes Answers M at xs ys)
      ≡ (first_cause (sequence_causes M at xs) else Refused 10 (offset at (length xs)))
  answers_long xs ys l = later_answers M at xs ys ∙ elim (less_or_not most_sequence (length xs)) [
    | inl h ↦ refusal_stays _ (sequence_long M at xs h) ∙ sym (refusal_stays _ (sequence_long M at xs h))
    | inr h ↦ ap (λ (c : Check). first_cause (sequence_causes M at xs) else c)
        (sym (cause10_is (offset at (length xs)) xs ys)
        ∙ present 10 (offset at (length xs)) (lt-ltb (length xs) (length ys) (omega arith)))
  ]

-- ---- one part after the other
-- the first bytes of a part, one more than the longest may have (§8.2)
abbrev pub cut_part : List ℕ → List ℕ
cut_part p = take (most_sequence + 1) p

-- what is long stays so
cut_long : (p : List ℕ) → most_sequence < length p → most_sequence < length (cut_part p)
cut_long p l = omega (arith, length-take-le (most_sequence + 1) p (omega arith))

-- only of what is long something is cut off
by_length : {A : Type 0} (f : List ℕ → A) (p : List ℕ) → (most_sequence < length p → f (cut_part p) ≡ f p)
    → f (cut_part p) ≡ f p
by_length f p long = elim (less_or_not most_sequence (length p)) [
  | inl l ↦ long l
  | inr l ↦ ap f (take_all (most_sequence + 1) p (omega arith))
]

-- the first cause of the machine, of machine and word, and of these and the sequence (§15.2)
module _ (p : Parts) where
  abbrev M : Mealy
  M = machine_of standard p.machine

  abbrev up_to_machine : Check
  up_to_machine = first_cause (table_causes standard 0 p.machine)

  abbrev up_to_word : Check
  up_to_word = up_to_machine else first_cause (word_causes M (word_start p) p.word)

  abbrev up_to_sequence : Check
  up_to_sequence = up_to_word else first_cause (sequence_causes M (sequence_start p) p.sequence)

-- the first cause of all where one part is too long: those behind it play no role
module _ (v : Wanted) (p : Parts) where
  at_machine : most_sequence < length p.machine → first_cause (part_causes v p) ≡ (Clear else Refused 3 0)
  at_machine l = part_causes_are v p ∙ refusal_stays _ (table_long standard 0 p.machine (omega arith)) ∙ sym (else_clear (Refused 3 0))

  at_word : most_sequence < length p.word
      → first_cause (part_causes v p) ≡ (up_to_machine p else Refused 5 (word_start p))
  at_word l =
      part_causes_are v p
      ∙ ap (λ (c : Check). up_to_machine p else c) (refusal_stays _ (word_long (M p) (word_start p) p.word (omega arith)))

  at_later : {c : Check} → first_cause (later_causes v (M p) (sequence_start p) p.sequence p.answers) ≡ c
      → first_cause (part_causes v p) ≡ (up_to_word p else c)
  at_later {c} e =
      let word = first_cause (word_causes (M p) (word_start p) p.word) in
      part_causes_are v p
      ∙ ap (λ (d : Check). up_to_machine p else (word else d)) e
      ∙ sym (else_assoc (up_to_machine p) word c)

at_sequence : (v : Wanted) (p : Parts) → (needs_of v).sequence ≡ true → most_sequence < length p.sequence
    → first_cause (part_causes v p) ≡ (up_to_word p else Refused 7 (sequence_start p))
at_sequence Word p t l = absurd (true≢false (sym t))
at_sequence Sequence p t l =
    at_later Sequence p (later_sequence _ _ p.sequence p.answers ∙ sequence_long _ _ p.sequence l)
at_sequence Answers p t l =
    at_later Answers p (later_answers _ _ p.sequence p.answers ∙ refusal_stays _ (sequence_long _ _ p.sequence l))

at_answers : (p : Parts) → most_sequence < length p.answers
    → first_cause (part_causes Answers p) ≡ (up_to_sequence p else Refused 10 (answers_start p))
at_answers p l =
    at_later Answers p (answers_long (M p) (sequence_start p) p.sequence p.answers l)
    ∙ sym (else_assoc (up_to_word p) (first_cause (sequence_causes (M p) (sequence_start p) p.sequence)) _)

-- so it does not matter how much of that part there is
cut_machine : (v : Wanted) (m w xs ys : List ℕ)
    → sheet_written v (parts_of (cut_part m) w xs ys) ≡ sheet_written v (parts_of m w xs ys)
cut_machine v m w xs ys = by_length (λ (p : List ℕ). sheet_written v (parts_of p w xs ys)) m
    (λ l. refused_same Clear 3 0 _ _ (at_machine v (parts_of (cut_part m) w xs ys) (cut_long m l))
    (at_machine v (parts_of m w xs ys) l))

cut_word : (v : Wanted) (m w xs ys : List ℕ)
    → sheet_written v (parts_of m (cut_part w) xs ys) ≡ sheet_written v (parts_of m w xs ys)
cut_word v m w xs ys = by_length (λ (p : List ℕ). sheet_written v (parts_of m p xs ys)) w
    (λ l. refused_same (up_to_machine (parts_of m w xs ys)) 5 (word_start (parts_of m w xs ys)) _ _
    (at_word v (parts_of m (cut_part w) xs ys) (cut_long w l))
    (at_word v (parts_of m w xs ys) l))

long_sequence : (v : Wanted) (m w xs ys : List ℕ) → (needs_of v).sequence ≡ true
    → sheet_written v (parts_of m w (cut_part xs) ys) ≡ sheet_written v (parts_of m w xs ys)
long_sequence v m w xs ys t = by_length (λ (p : List ℕ). sheet_written v (parts_of m w p ys)) xs
    (λ l. refused_same (up_to_word (parts_of m w xs ys)) 7 (sequence_start (parts_of m w xs ys)) _ _
    (at_sequence v (parts_of m w (cut_part xs) ys) t (cut_long xs l))
    (at_sequence v (parts_of m w xs ys) t l))

cut_sequence : (v : Wanted) (m w xs ys : List ℕ)
    → sheet_written v (parts_of m w (cut_part xs) ys) ≡ sheet_written v (parts_of m w xs ys)
cut_sequence Word m w xs ys =
    sym (wanted_written Word (parts_of m w (cut_part xs) ys)) ∙ wanted_written Word (parts_of m w xs ys)
cut_sequence Sequence m w xs ys = long_sequence Sequence m w xs ys refl
cut_sequence Answers m w xs ys = long_sequence Answers m w xs ys refl

long_answers : (m w xs ys : List ℕ)
    → sheet_written Answers (parts_of m w xs (cut_part ys)) ≡ sheet_written Answers (parts_of m w xs ys)
long_answers m w xs ys = by_length (λ (p : List ℕ). sheet_written Answers (parts_of m w xs p)) ys
    (λ l. refused_same (up_to_sequence (parts_of m w xs ys)) 10 (answers_start (parts_of m w xs ys)) _ _
    (at_answers (parts_of m w xs (cut_part ys)) (cut_long ys l))
    (at_answers (parts_of m w xs ys) l))

cut_answers : (v : Wanted) (m w xs ys : List ℕ)
    → sheet_written v (parts_of m w xs (cut_part ys)) ≡ sheet_written v (parts_of m w xs ys)
cut_answers Word m w xs ys =
    sym (wanted_written Word (parts_of m w xs (cut_part ys))) ∙ wanted_written Word (parts_of m w xs ys)
cut_answers Sequence m w xs ys =
    sym (wanted_written Sequence (parts_of m w xs (cut_part ys))) ∙ wanted_written Sequence (parts_of m w xs ys)
cut_answers Answers m w xs ys = long_answers m w xs ys

-- the first bytes of each part (§8.2)
abbrev pub cut_parts : Parts → Parts
cut_parts p = parts_of (cut_part p.machine) (cut_part p.word) (cut_part p.sequence) (cut_part p.answers)

pub parts_cut : (v : Wanted) (p : Parts) → sheet_written v (cut_parts p) ≡ sheet_written v p
parts_cut v p =
    cut_machine v p.machine (cut_part p.word) (cut_part p.sequence) (cut_part p.answers)
    ∙ cut_word v p.machine p.word (cut_part p.sequence) (cut_part p.answers)
    ∙ cut_sequence v p.machine p.word p.sequence (cut_part p.answers)
    ∙ cut_answers v p.machine p.word p.sequence p.answers

-- ---- answers put into a sheet
-- the first cause of the sheet, its machine, word and sequence (§15.3)
abbrev up_to_answers : List ℕ → List ℕ → Check
up_to_answers s ys =
    first_cause (sheet_causes standard (needed standard (needs_of Sequence)) s) else up_to_sequence (with_answers s ys)

added_long : (s ys : List ℕ) → most_sequence < length ys
    → first_cause (answers_causes s ys) ≡ (up_to_answers s ys else Refused 10 (answers_start (with_answers s ys)))
added_long s ys l =
    let sheet = first_cause (sheet_causes standard (needed standard (needs_of Sequence)) s) in
    let p = with_answers s ys in
    answers_causes_are s ys
    ∙ ap (λ (c : Check). sheet else c) (at_answers p l)
    ∙ sym (else_assoc sheet (up_to_sequence p) (Refused 10 (answers_start p)))

pub added_cut : (s ys : List ℕ) → answers_written s (cut_part ys) ≡ answers_written s ys
added_cut s ys = by_length (answers_written s) ys
    (λ l. refused_same (up_to_answers s ys) 10 (answers_start (with_answers s ys)) _ _
    (added_long s (cut_part ys) (cut_long ys l)) (added_long s ys l))
