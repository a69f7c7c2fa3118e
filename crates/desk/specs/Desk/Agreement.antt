-- What the desk orders as the specification says it and as it is computed agree, for a machine and a word that starting
-- does not refuse.
use Rattle.std.specs.Prelude.{ℕ, suc, ◌+◌, ◌-◌, ◌≤◌, ◌<◌, ◌≡◌, refl, List, ◌∷◌, ◌++◌, length, get_or, take, drop}
use Rattle.std.proofs.Common.{sym, ap, ◌∙◌, inl, inr, append_assoc, arith, length-append, take-append-drop}
use Rattle.std.proofs.Common.{ext_get_or, get_or-take, length-take-le, drop-cons}
use Rattle.std.proofs.Math.Option.{some}
use Rattle.std.proofs.Math.ListN.{get_or-append}
use Rattle.std.proofs.Math.Seq.{take-append-add, drop-append-add}
use Rattle.facts.specs.Numbers.{less_or_not}
use Rattle.facts.specs.CommonPrefix.{Agreed, agreed_holds, agreed_is}
use Rattle.facts.specs.FirstOf.{nothing, value, seen}
use Rattle.sheet.specs.Check.{first_cause, Clear}
use Rattle.sheet.specs.Reader.{word_in}
use Rattle.machine.specs.Machine.{Mealy, run, answers, Proper, Distinguishes}
use Rattle.machine.specs.Machine.Laws.{run_append, run_stays, answers_append, answers_length, answers_take}
use Rattle.machine.specs.Causes.{machine_in}
use Rattle.build.specs.Transfer.{transfer}
use Rattle.build.specs.Transfer.Laws.{transfer_is, is_transfer, leads_some, transfer_drop}
use Rattle.build.specs.Building.{connected_causes, StronglyConnected}
use Rattle.build.specs.Building.Connection.{clear_proper, clear_distinguishes, clear_strongly}
use Rattle.desk.specs.declared.desk.Order.{Order}
use Rattle.desk.specs.declared.desk.Order.TheVariants.{Command, Stranger}
use Rattle.desk.specs.Desk.{Course, RightFrom, Ordered, word_next, transfer_next, home, strange}
use Rattle.desk.specs.Desk.{no_state, differing, began_in, course, order_at, order_of}
use Rattle.desk.specs.Desk.Laws.{first_answers, first_none, first_one, at_home, course_is, Along}
use Rattle.desk.specs.Desk.Laws.{began_is, order_reading, order_none, order_some, at_stranger, at_command}

-- the answers to the front of a course are the first of its answers
front_answers : (M : Mealy) (s : ℕ) (u v : List ℕ) (i : ℕ) → i < length u
    → get_or (answers M s (u ++ v)) i 0 ≡ get_or (answers M s u) i 0
front_answers M s u v i l =
    rw (answers_append, get_or-append (answers M s u) _ 0 i (omega (arith, answers_length M s u)))

-- a machine and a word that starting does not refuse: the machine is within its limits and strongly connected, the word
-- within its own, and it separates
pub record Suited (M : Mealy) (w : List ℕ) : Type 0 where
  pub proper : Proper M
  pub word : Distinguishes M w
  pub connected : StronglyConnected M

pub clear_suited : (s : List ℕ) → first_cause (connected_causes s) ≡ Clear → Suited (machine_in s) (word_in s)
clear_suited s clear = record {
  proper = clear_proper s clear;
  word = clear_distinguishes s clear;
  connected = clear_strongly s clear;
}

module _ (M : Mealy) (w : List ℕ) (suited : Suited M w) where
  abbrev proper : Proper M
  proper = suited.proper

  abbrev word : Distinguishes M w
  word = suited.word

  -- ---- courses
  -- there is a transfer from where the word takes a state
  pub course_transfer : (s : ℕ) → s < M.n → (t : List ℕ) × (transfer M (run M s w) M.start ≡ some t)
  course_transfer s l =
      let low = run_stays M proper s w l word.commands.low in
      let u = suited.connected (run M s w) M.start low proper.starts in
      leads_some M proper (run M s w) M.start low u.0 u.1

  pub course_course : (s : ℕ) → s < M.n → Course M w s (course M w s)
  course_course s l =
      let t = course_transfer s l in
      record {
        state = l;
        homeward = t.0;
        drives = transfer_is M proper (run M s w) M.start t.1;
        commands = course_is M w s t.1;
      }

  pub course_one : (s : ℕ) (xs : List ℕ) → Course M w s xs → course M w s ≡ xs
  course_one s xs h =
      course_is M w s (is_transfer M proper (run M s w) M.start h.drives) ∙ sym h.commands

  -- m commands behind the word, all answered right
  pub along_at : (s : ℕ) → s < M.n → {t : List ℕ} → transfer M (run M s w) M.start ≡ some t → (m : ℕ)
      → Along M w s (w ++ take m t) (drop m t) (answers M s (w ++ take m t))
  along_at s l {t} e m = record {
    state = l;
    splits = rw (course_is M w s e, append_assoc, take-append-drop);
    long = omega (arith, length-append w (take m t));
    answered = refl;
    drives = rw run_append (transfer_drop M (run M s w) M.start (take m t) (drop m t) (rw take-append-drop e));
  }

  -- so of a course of which p commands are answered, the word's among them
  pub course_along : (s : ℕ) (xs : List ℕ) → Course M w s xs → (p : ℕ) → length w ≤ p
      → Along M w s (take p xs) (drop p xs) (answers M s (take p xs))
  course_along s xs h p l =
      let e = is_transfer M proper (run M s w) M.start h.drives in
      let a = along_at s h.state e (p - length w) in
      let pe : p ≡ length w + (p - length w) = omega arith in
      rw (h.commands, pe, take-append-add, drop-append-add) a

  -- ---- the word's answers are right where the unit began in s
  word_right : (s : ℕ) (xs ys : List ℕ) → Course M w s xs → length w ≤ length ys → answers M s w ≡ take (length w) ys
      → (i : ℕ) → i < length w → get_or (answers M s xs) i 0 ≡ get_or ys i 0
  word_right s xs ys h l e i il = rw (h.commands, front_answers M s w h.homeward i il, e, get_or-take)

  right_word : (s : ℕ) (xs ys : List ℕ) → Course M w s xs → (p : ℕ) → length w ≤ p → p ≤ length ys
      → RightFrom M s xs ys p
      → answers M s w ≡ take (length w) ys
  right_word s xs ys h p l pl r =
      ext_get_or 0 (answers M s w) (take (length w) ys)
      (answers_length M s w ∙ sym (length-take-le (length w) ys (omega arith)))
      (λ i il.
      let low : i < length w = omega (arith, answers_length M s w) in
      rw (get_or-take, ← r i (omega arith), h.commands, front_answers M s w h.homeward i low))

  -- ---- from what is computed to what is said
  ordered_by : (s : ℕ) (ys : List ℕ) → s < M.n → length w ≤ length ys → answers M s w ≡ take (length w) ys → (p : ℕ)
      → Agreed (answers M s (course M w s)) ys p → Ordered M w ys (order_at (course M w s) ys p)
  ordered_by s ys sl l e p a =
      let xs = course M w s in
      let h = course_course s sl in
      let many = answers_length M s xs in
      elim (less_or_not p (length xs)) [
        | inl pl ↦ elim (less_or_not p (length ys)) [
          | inl yl ↦ (let here = a.here (omega (arith, many)) yl in
              let behind : p < length w → ⊥ = λ k. here (word_right s xs ys h l e p k) in
              rw (at_stranger xs ys pl yl) (strange {p = p} (differing s xs h (omega arith) yl pl a.before here)))
          | inr yl ↦ (let all : p ≡ length ys = omega (arith, a.in_second) in
              rw (at_command xs ys pl yl)
              (transfer_next s xs h l (omega arith) (λ i il. a.before i (omega arith))
              (ap (λ (i : ℕ). get_or xs i 0) all)))
        ]
        | inr pl ↦ rw (at_home xs ys pl)
            (home s xs h (omega (arith, a.in_second)) (λ i il. a.before i (omega arith)) refl)
      ]

  pub order_ordered : (ys : List ℕ) → Ordered M w ys (order_of M w ys)
  order_ordered ys = elim (less_or_not (length ys) (length w)) [
    | inl l ↦ rw (order_reading M w ys l) (word_next l refl)
    | inr l ↦ elim (seen (began_in M w ys)) [
      | nothing e ↦ rw (order_none M w ys l e)
          (strange (no_state l refl (first_none M w (take (length w) ys) M.n (sym (began_is M w ys) ∙ e))))
      | value s e ↦ (let f = first_answers M w (take (length w) ys) M.n (sym (began_is M w ys) ∙ e) in
          rw (order_some M w ys l e)
          (ordered_by s ys f.0 l f.1 _ (agreed_holds (answers M s (course M w s)) ys)))
    ]
  ]

  -- ---- and back
  began_right : (s : ℕ) (xs ys : List ℕ) → Course M w s xs → (p : ℕ) → length w ≤ p → p ≤ length ys
      → RightFrom M s xs ys p
      → began_in M w ys ≡ some s
  began_right s xs ys h p l pl r =
      began_is M w ys
      ∙ first_one M w (take (length w) ys) word.separates s h.state (right_word s xs ys h p l pl r)

  order_right : (s : ℕ) (xs ys : List ℕ) → Course M w s xs → (p : ℕ) → length w ≤ p → p ≤ length ys → p ≤ length xs
      → RightFrom M s xs ys p
      → (p < length xs → p < length ys → get_or (answers M s xs) p 0 ≡ get_or ys p 0 → ⊥)
      → order_of M w ys ≡ order_at xs ys p
  order_right s xs ys h p l pl xl r d =
      let many = answers_length M s xs in
      rw (
        order_some M w ys (omega arith) (began_right s xs ys h p l pl r),
        course_one s xs h,
        ← agreed_is (answers M s xs) ys p
            (record { in_first = omega arith; in_second = pl; before = r; here = λ k q. d (omega arith) q }),
      )

  course_long : (s : ℕ) (xs : List ℕ) → Course M w s xs → length w ≤ length xs
  course_long s xs h = omega (arith, ap length h.commands, length-append w h.homeward)

  pub ordered_order : (ys : List ℕ) {o : Order} → Ordered M w ys o → o ≡ order_of M w ys
  ordered_order ys (word_next l e) = ap Command e ∙ sym (order_reading M w ys l)
  ordered_order ys (strange (no_state l e h)) =
      ap Stranger e ∙ sym (order_none M w ys l (elim (seen (began_in M w ys)) [
        | nothing q ↦ q
        | value s q ↦ (let f = first_answers M w (take (length w) ys) M.n (sym (began_is M w ys) ∙ q) in
            absurd (h s f.0 f.1))
      ]))
  ordered_order ys (transfer_next s xs h l k r e) =
      let is = order_right s xs ys h (length ys) l (omega arith) (omega arith) r (λ p q x. omega arith) in
      rw (is, at_command xs ys k (omega arith), e)
  ordered_order ys (strange {p = p} (differing s xs h l yl xl r d)) =
      rw (order_right s xs ys h p l (omega arith) (omega arith) r (λ i k. d), at_stranger xs ys xl yl)
  ordered_order ys (home s xs h l r e) =
      let is = order_right s xs ys h (length xs) (course_long s xs h) l (omega arith) r (λ p q x. omega arith) in
      rw (is, at_home xs ys {right = length xs} (omega arith), e)

  -- ---- where the desk drives: how far the unit has come
  pub order_along : (ys : List ℕ) {c : ℕ} → length w ≤ length ys → order_of M w ys ≡ Command c
      → (s : ℕ) × (v : List ℕ) × (u : List ℕ) × Along M w s v (c ∷ u) ys
  order_along ys l e = elim (rw e at (order_ordered ys)) [
    | word_next k q ↦ absurd (omega arith)
    | transfer_next s xs h k yl r q ↦ (let many = answers_length M s (take (length ys) xs) in
        let size = length-take-le (length ys) xs (omega arith) in
        let given : answers M s (take (length ys) xs) ≡ ys =
        ext_get_or 0 _ ys (many ∙ size)
        (λ i il. let low : i < length ys = omega arith in rw (← answers_take M s _ xs, get_or-take) (r i low)) in
        let next = rw (← q) at (drop-cons xs (length ys) 0 yl) in
        (s, take (length ys) xs, drop (suc (length ys)) xs, rw (given, next) at (course_along s xs h (length ys) k)))
  ]
