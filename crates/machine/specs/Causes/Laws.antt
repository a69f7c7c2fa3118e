-- The laws of causes 3, 4, 12, 5, 7 and 10: each as the code looks for it, and what it shows where it is clear.
use Rattle.std.specs.Prelude.{ℕ, ◌+◌, ◌*◌, ◌/◌, ◌%◌, ◌<◌, ◌≤◌, ◌≡◌, refl, Bool, false, not, ◌||◌, List, [], ◌∷◌, leb}
use Rattle.std.specs.Prelude.{ltb, eqb, length, get_or}
use Rattle.std.proofs.Common.{sym, ap, ap₂, ◌∙◌, inl, inr, zero-add, one-mul, div-add-mod', div-lt_iff_lt-mul, mod-lt}
use Rattle.std.proofs.Common.{arith, ltb-false, leb-false, eqb-true, lt-ltb, le-ltb, le-leb, eq-eqb, ne_eqb}
use Rattle.std.proofs.Math.Path.{fun_ext}
use Rattle.std.proofs.lemmas.Bool.{eqb-false, not-false, lt-leb}
use Rattle.std.proofs.Math.Arith.{digits_lt}
use Rattle.facts.specs.Tests.{neither, or_right}
use Rattle.facts.specs.Numbers.{less_or_not}
use Rattle.sheet.specs.Check.{refusal◌with◌if◌, ◌else◌, first, first_cause, Check, Clear, Refused}
use Rattle.sheet.specs.Check.Laws.{absent, present, clear_absent, not_clear, else_clear, refusal_stays, both_clear}
use Rattle.sheet.specs.Check.Laws.{clear_all, all_clear, first_clear, first_clear_at}
use Rattle.sheet.specs.Check.Laws.{first_same, cause_cons, cause_two}
use Rattle.sheet.specs.Format.{Format, header, offset}
use Rattle.facts.specs.Bytes.{Bytes}
use Rattle.machine.specs.Limits.{least, most_states, most_commands, most_entries, most_machine, entries_few}
use Rattle.machine.specs.Machine.{no_answer, pair_at, Commands}
use Rattle.machine.specs.Causes.{outside, cause3, cause4, cause12, byte_cause, commands_cause, cause10, table_causes}

-- cause 3, of the bytes and tests as the code has them
pub cause3_is : (F : Format) (at : ℕ) (p : List ℕ) {n k : ℕ} → n ≡ get_or p 0 0 → k ≡ get_or p 1 0 → {a b : Bool}
    → a ≡ outside most_states n → b ≡ outside most_commands k
    → (refusal 3 with at if (a || b || not (eqb (length p) (F.table + 2 * (n * k))))) ≡ cause3 F at p
unfolding cause3
cause3_is F at p {n} {k} ne ke {a} {b} ae be = rw (ae, be, ne, ke)

-- the check that a scan makes at a byte
pub byte_check_is : (number base : ℕ) (p : List ℕ) (from stride bound i : ℕ) {b : ℕ} {c : Check}
    → b ≡ get_or p (from + stride * i) 0 → c ≡ (refusal number with base + (from + stride * i) if leb bound b)
    → c ≡ byte_cause number base p from stride bound i
unfolding byte_cause
byte_check_is number base p from stride bound i be ce =
    ce ∙ ap (λ (x : ℕ). refusal number with base + (from + stride * i) if leb bound x) be

-- cause 4 looks at every second byte from the table on
pub cause4_is : (F : Format) (at : ℕ) (p : List ℕ)
    → first (get_or p 0 0 * get_or p 1 0) (byte_cause 4 (at + header) p F.table 2 (get_or p 0 0)) ≡ cause4 F at p
unfolding cause4 byte_cause
cause4_is F at p = refl

-- a byte that is not below the highest one is that one
highest_is : (b : ℕ) → b < 256 → leb no_answer b ≡ eqb b no_answer
highest_is b l = elim (less_or_not b no_answer) [
  | inl h ↦ lt-leb no_answer b h ∙ sym (ne_eqb b no_answer (λ q. omega arith))
  | inr h ↦ le-leb no_answer b h ∙ sym (eq-eqb b no_answer (omega arith))
]

-- cause 12, of a payload of bytes, looks at every second byte from the first answer on
pub cause12_is : (F : Format) (at : ℕ) (p : List ℕ) → Bytes p
    → first (get_or p 0 0 * get_or p 1 0) (byte_cause 12 (at + header) p (F.table + 1) 2 no_answer) ≡ cause12 F at p
unfolding cause12 byte_cause
cause12_is F at p bytes =
    first_same (get_or p 0 0 * get_or p 1 0) _ _
    (λ e l.
    let here : F.table + 1 + 2 * e ≡ pair_at F e + 1 = omega arith in
    rw (here, highest_is (get_or p (pair_at F e + 1) 0) (bytes (pair_at F e + 1))) refl)

-- causes 5 and 7 look at every byte
pub commands_cause_is : (number most k : ℕ) (at : ℕ) (w : List ℕ)
    → ((refusal number with at if outside most (length w))
    else first (length w) (byte_cause number (at + header) w 0 1 k))
    ≡ commands_cause number most k at w
unfolding commands_cause byte_cause
commands_cause_is number most k at w =
    ap (λ (f : ℕ → Check). (refusal number with at if outside most (length w)) else first (length w) f)
    (fun_ext (λ i. simp (zero-add, one-mul)))

-- ---- what a clear check shows
not_outside : (most x : ℕ) → outside most x ≡ false → (least ≤ x) × (x ≤ most)
not_outside most x e =
    let h = neither (ltb x least) (ltb most x) e in
    (ltb-false _ _ h.0, ltb-false _ _ h.1)

-- the shape of a machine's payload
pub record Shape (F : Format) (p : List ℕ) : Type 0 where
  pub some_states : least ≤ get_or p 0 0
  pub few_states : get_or p 0 0 ≤ most_states
  pub some_commands : least ≤ get_or p 1 0
  pub few_commands : get_or p 1 0 ≤ most_commands
  pub long : length p ≡ F.table + 2 * (get_or p 0 0 * get_or p 1 0)

pub clear_shape : (F : Format) (at : ℕ) (p : List ℕ) → cause3 F at p ≡ Clear → Shape F p
unfolding cause3
clear_shape F at p e =
    let n = get_or p 0 0 in
    let k = get_or p 1 0 in
    let sized = not (eqb (length p) (F.table + 2 * (n * k))) in
    let all = neither (outside most_states n || outside most_commands k) sized (clear_absent 3 at _ e) in
    let two = neither (outside most_states n) (outside most_commands k) all.0 in
    record {
      some_states = (not_outside most_states n two.0).0;
      few_states = (not_outside most_states n two.0).1;
      some_commands = (not_outside most_commands k two.1).0;
      few_commands = (not_outside most_commands k two.1).1;
      long = eqb-true _ _ (not-false _ all.1);
    }

-- the other direction
pub shape_clear : (F : Format) (at : ℕ) (p : List ℕ) → Shape F p → cause3 F at p ≡ Clear
unfolding cause3
shape_clear F at p h =
    absent 3 at (rw (
      le-ltb _ _ h.some_states,
      le-ltb _ _ h.few_states,
      le-ltb _ _ h.some_commands,
      le-ltb _ _ h.few_commands,
      eq-eqb _ _ h.long,
    ) refl)

-- a machine with few states and commands has few entries
pub shape_entries : (F : Format) (p : List ℕ) → Shape F p → get_or p 0 0 * get_or p 1 0 ≤ most_entries
shape_entries F p h = entries_few (get_or p 0 0) (get_or p 1 0) h.few_states h.few_commands

-- a cause that the pairs of a table are looked through for: where it is clear, its test fails at every entry
entry_absent : (n k number : ℕ) (place : ℕ → ℕ) (test : ℕ → Bool)
    → first (n * k) (λ e. refusal number with place e if test e) ≡ Clear → (s c : ℕ) → s < n → c < k
    → test (s * k + c) ≡ false
entry_absent n k number place test e s c sl cl =
    clear_absent number (place (s * k + c)) _
    (first_clear_at (n * k) (s * k + c) _ e (digits_lt {q = s} {m = n} {r = c} {c = k} sl cl))

-- the other direction: entry e is that of state e / k and command e % k
absent_entries : (n k number : ℕ) (place : ℕ → ℕ) (test : ℕ → Bool) → 1 ≤ k
    → ((s c : ℕ) → s < n → c < k → test (s * k + c) ≡ false)
    → first (n * k) (λ e. refusal number with place e if test e) ≡ Clear
absent_entries n k number place test some h =
    first_clear (n * k) _
    (λ e l.
    absent number (place e)
    (ap test (sym (div-add-mod' e k))
    ∙ h (e / k) (e % k) ((div-lt_iff_lt-mul {k = k} {x = e} {y = n} some).1 l) (mod-lt e {m = k} some)))

-- the causes of a table, written out
pub table_causes_are : (F : Format) (at : ℕ) (p : List ℕ)
    → first_cause (table_causes F at p) ≡ (cause3 F at p else (cause4 F at p else cause12 F at p))
unfolding table_causes
table_causes_are F at p =
    cause_cons (cause3 F at p) (cause4 F at p ∷ cause12 F at p ∷ [])
    ∙ ap (λ (c : Check). cause3 F at p else c) (cause_two (cause4 F at p) (cause12 F at p))

-- a row of causes that is clear is clear with any other places
first_anywhere : (n number : ℕ) (place other : ℕ → ℕ) (test : ℕ → Bool)
    → first n (λ e. refusal number with place e if test e) ≡ Clear
    → first n (λ e. refusal number with other e if test e) ≡ Clear
first_anywhere n number place other test e =
    first_clear n _ (λ i l. absent number (other i) (clear_absent number (place i) (test i) (first_clear_at n i _ e l)))

-- whether a table has a cause does not depend on where it stands
pub table_anywhere : (F : Format) (at to : ℕ) (p : List ℕ) → first_cause (table_causes F at p) ≡ Clear
    → first_cause (table_causes F to p) ≡ Clear
unfolding table_causes cause3 cause4 cause12
table_anywhere F at to p e =
    let entries = get_or p 0 0 * get_or p 1 0 in
    let h = clear_all (table_causes F at p) e in
    all_clear (table_causes F to p) (
      absent 3 to (clear_absent 3 at _ h.0),
      (
        first_anywhere entries 4 (λ e. offset at (pair_at F e)) (λ e. offset to (pair_at F e)) _ h.1.0,
        (first_anywhere entries 12 (λ e. offset at (pair_at F e + 1)) (λ e. offset to (pair_at F e + 1)) _ h.1.1.0, tt),
      ),
    )

pub clear_next : (F : Format) (at : ℕ) (p : List ℕ) → cause4 F at p ≡ Clear → (s c : ℕ) → s < get_or p 0 0
    → c < get_or p 1 0
    → get_or p (pair_at F (s * get_or p 1 0 + c)) 0 < get_or p 0 0
unfolding cause4
clear_next F at p e s c sl cl =
    leb-false _ _ (entry_absent (get_or p 0 0) (get_or p 1 0) 4 (λ i. offset at (pair_at F i))
    (λ i. leb (get_or p 0 0) (get_or p (pair_at F i) 0)) e s c sl cl)

-- no answer of the table is the byte for no answer
pub clear_answers : (F : Format) (at : ℕ) (p : List ℕ) → cause12 F at p ≡ Clear → (s c : ℕ) → s < get_or p 0 0
    → c < get_or p 1 0
    → get_or p (pair_at F (s * get_or p 1 0 + c) + 1) 0 ≡ no_answer → ⊥
unfolding cause12
clear_answers F at p e s c sl cl =
    eqb-false _ _ (entry_absent (get_or p 0 0) (get_or p 1 0) 12 (λ i. offset at (pair_at F i + 1))
    (λ i. eqb (get_or p (pair_at F i + 1) 0) no_answer) e s c sl cl)

-- the other directions
pub next_clear : (F : Format) (at : ℕ) (p : List ℕ) → 1 ≤ get_or p 1 0
    → ((s c : ℕ) → s < get_or p 0 0 → c < get_or p 1 0 → get_or p (pair_at F (s * get_or p 1 0 + c)) 0 < get_or p 0 0)
    → cause4 F at p ≡ Clear
unfolding cause4
next_clear F at p some h =
    absent_entries (get_or p 0 0) (get_or p 1 0) 4 (λ i. offset at (pair_at F i))
    (λ i. leb (get_or p 0 0) (get_or p (pair_at F i) 0)) some (λ s c sl cl. lt-leb _ _ (h s c sl cl))

pub answers_clear : (F : Format) (at : ℕ) (p : List ℕ) → 1 ≤ get_or p 1 0
    → ((s c : ℕ) → s < get_or p 0 0 → c < get_or p 1 0 → get_or p (pair_at F (s * get_or p 1 0 + c) + 1) 0 ≡ no_answer → ⊥)
    → cause12 F at p ≡ Clear
unfolding cause12
answers_clear F at p some h =
    absent_entries (get_or p 0 0) (get_or p 1 0) 12 (λ i. offset at (pair_at F i + 1))
    (λ i. eqb (get_or p (pair_at F i + 1) 0) no_answer) some (λ s c sl cl. ne_eqb _ _ (h s c sl cl))

-- the commands of a word or a sequence
pub clear_commands : (number most k : ℕ) (at : ℕ) (w : List ℕ) → commands_cause number most k at w ≡ Clear
    → Commands most k w
unfolding commands_cause
clear_commands number most k at w e =
    let long = outside most (length w) in
    let both = both_clear (refusal number with at if long) _ e in
    let l = not_outside most (length w) (clear_absent number at long both.0) in
    record {
      some = l.0;
      few = l.1;
      low = λ i h. leb-false _ _ (clear_absent number (offset at i) _ (first_clear_at (length w) i _ both.1 h));
    }

-- the other direction
pub commands_clear : (number most k : ℕ) (at : ℕ) (w : List ℕ) → Commands most k w
    → commands_cause number most k at w ≡ Clear
unfolding commands_cause
commands_clear number most k at w h =
    ap₂ ◌else◌ (absent number at (ap₂ ◌||◌ (le-ltb (length w) 1 h.some) (le-ltb most (length w) h.few)))
    (first_clear (length w) _ (λ i l. absent number (offset at i) (lt-leb k (get_or w i 0) (h.low i l))))
    ∙ else_clear Clear

-- ---- payloads that are too long
-- of a machine
shape_refused : (F : Format) (at : ℕ) (p : List ℕ) → (cause3 F at p ≡ Clear → ⊥) → cause3 F at p ≡ Refused 3 at
unfolding cause3
shape_refused F at p d = not_clear 3 at _ d

pub shape_long : (F : Format) (at : ℕ) (p : List ℕ) → most_machine F < length p → cause3 F at p ≡ Refused 3 at
shape_long F at p l =
    shape_refused F at p (λ e. let h = clear_shape F at p e in omega (arith, h.long, shape_entries F p h))

-- of a word or a sequence
pub commands_long : (number most k at : ℕ) (w : List ℕ) → most < length w
    → commands_cause number most k at w ≡ Refused number at
unfolding commands_cause
commands_long number most k at w l =
    refusal_stays _ (present number at (or_right (ltb (length w) 1) (lt-ltb most (length w) l)))

-- ---- cause 10
pub cause10_is : (at : ℕ) (xs ys : List ℕ) → (refusal 10 with at if ltb (length xs) (length ys)) ≡ cause10 at xs ys
unfolding cause10
cause10_is at xs ys = refl

pub clear_few : (at : ℕ) (xs ys : List ℕ) → cause10 at xs ys ≡ Clear → length ys ≤ length xs
clear_few at xs ys e = ltb-false _ _ (clear_absent 10 at _ (cause10_is at xs ys ∙ e))

-- the other direction
pub few_clear : (at : ℕ) (xs ys : List ℕ) → length ys ≤ length xs → cause10 at xs ys ≡ Clear
few_clear at xs ys l = sym (cause10_is at xs ys) ∙ absent 10 at (le-ltb (length xs) (length ys) l)
