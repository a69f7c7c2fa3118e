-- Dialogues: what start and the steps after it give, each with the desk as last returned. By the two contracts alone,
-- every order is the specified one; the desk ends after L + n - 1 answers at the latest, whatever they are; it repeats
-- its end; its phase says whether it reads or drives; and stranger has one of two reasons (§13.2, §13.3).
use Rattle.std.specs.Prelude.{Err}
use Rattle.std.specs.Prelude.{ℕ, ◌+◌, ◌≤◌, ◌<◌, ◌≡◌, refl, true, List, [], ◌∷◌, ◌++◌, length, get_or, take}
use Rattle.std.proofs.Common.{sym, ap, ◌∙◌, arith, take_at}
use Rattle.std.proofs.Math.Option.{some}
use Rattle.sheet.specs.Check.{first_cause, refused_or, Check, Clear, Refused}
use Rattle.desk.specs.First.{Command as FirstCommand}
use Rattle.sheet.specs.Reader.{word_in}
use Rattle.machine.specs.Machine.{run, answers}
use Rattle.machine.specs.Causes.{machine_in}
use Rattle.build.specs.Building.{connected_causes}
use Rattle.build.specs.Building.Connection.{clear_distinguishes}
use Rattle.desk.specs.declared.desk.Desk.{Desk}
use Rattle.desk.specs.declared.desk.Order.{Order}
use Rattle.desk.specs.declared.desk.Order.TheVariants.{Command, Home, Stranger}
use Rattle.desk.specs.declared.desk.Phase.TheVariants.{Reading, Driving}
use Rattle.desk.specs.declared.starting.Started.{Started}
use Rattle.desk.specs.declared.stepping.Stepped.{Stepped}
use Rattle.desk.specs.Desk.{Course, Strange, Ordered, strange, course, is_end}
use Rattle.desk.specs.Desk.Laws.{order_reading, along_length, along_phase}
use Rattle.desk.specs.Desk.Agreement.{Suited, clear_suited, course_course, order_ordered, order_along}
use Rattle.desk.specs.Desk.Ends.{order_ends, order_repeats, phase_reading, phase_home, phase_stranger}
use Rattle.desk.specs.Service.{order_on, Reached, starting, Starts, end_of, Steps}

-- start on a sheet, then a step for each of the answers ys: the desk and the order that were returned last
pub data Dialogue (s : List ℕ) : List ℕ → Desk → Order → Type 0 where
  begun : {c : ℕ} (r : Started) → Starts s r → r.first ≡ FirstCommand c → Dialogue s [] r.desk (Command c)
  continued : {ys : List ℕ} {d : Desk} {o : Order} (y : ℕ) (r : Stepped) → Dialogue s ys d o → Steps d y r
      → Dialogue s (ys ++ (y ∷ [])) r.desk r.order

-- ---- the first command
first_by : (c : Check) (a : ℕ) {b : ℕ} → refused_or Refused c (FirstCommand a) ≡ FirstCommand b
    → (c ≡ Clear) × (b ≡ a)
first_by Clear a e = (refl, cc)
first_by (Err r) a e = let z : ◌≡◌ {A = ℕ} 0 1 = cc in absurd (omega arith)

pub starting_first : (s : List ℕ) → first_cause (connected_causes s) ≡ Clear
    → starting s ≡ FirstCommand (get_or (word_in s) 0 0)
unfolding starting
starting_first s e = rw e

pub starting_refused : (s : List ℕ) {a b : ℕ} → first_cause (connected_causes s) ≡ Refused a b
    → starting s ≡ Refused a b
unfolding starting
starting_refused s e = rw e

-- a first command: nothing is refused, and it is the word's first
pub starting_clear : (s : List ℕ) {c : ℕ} → starting s ≡ FirstCommand c
    → (first_cause (connected_causes s) ≡ Clear) × (c ≡ get_or (word_in s) 0 0)
unfolding starting
starting_clear s e = first_by (first_cause (connected_causes s)) (get_or (word_in s) 0 0) e

-- ---- every order is the specified one
module _ (s : List ℕ) where
  pub dialogue_reached : {ys : List ℕ} {d : Desk} {o : Order} → Dialogue s ys d o → Reached s ys d
  dialogue_reached (begun r h e) = h.desk (starting_clear s (sym h.first.is ∙ e)).0
  dialogue_reached (continued {ys} y r g h) = h.desk s ys (dialogue_reached g)

  pub dialogue_order : {ys : List ℕ} {d : Desk} {o : Order} → Dialogue s ys d o → o ≡ order_on s ys
  dialogue_order (begun r h e) =
      let k = starting_clear s (sym h.first.is ∙ e) in
      let long = (clear_distinguishes s k.0).commands.some in
      ap Command k.1 ∙ sym (order_reading (machine_in s) (word_in s) [] (omega arith))
  dialogue_order (continued {ys} y r g h) = (h.order s ys (dialogue_reached g)).is

  module _ {ys : List ℕ} {d : Desk} {o : Order} (g : Dialogue s ys d o) where
    suited : Suited (machine_in s) (word_in s)
    suited = clear_suited s (dialogue_reached g).clear

    -- and as the specification says it
    pub dialogue_ordered : Ordered (machine_in s) (word_in s) ys o
    dialogue_ordered =
        rw (dialogue_order g) (order_ordered (machine_in s) (word_in s) suited ys)

    -- after L + n - 1 answers, whatever they are, the desk has ended
    pub dialogue_ends : length (word_in s) + (machine_in s).n ≤ length ys + 1 → is_end o ≡ true
    dialogue_ends l =
        ap is_end (dialogue_order g)
        ∙ order_ends (machine_in s) (word_in s) ys suited.proper.some_states l

    -- the desk has ended where its order is an end, and its end is that order
    pub dialogue_ended : is_end o ≡ true → end_of d.phase ≡ some o
    dialogue_ended t = go o (dialogue_order g) t
      where
        go : (x : Order) → x ≡ order_on s ys → is_end x ≡ true → end_of d.phase ≡ some x
        go (Command c) e u = cc
        go (Home n) e u =
            ap end_of ((dialogue_reached g).phase ∙ phase_home (machine_in s) (word_in s) ys (sym e))
        go (Stranger p) e u =
            ap end_of ((dialogue_reached g).phase ∙ phase_stranger (machine_in s) (word_in s) ys (sym e))

    -- the desk says that it reads until the word is answered, with the position in the word
    pub dialogue_reads : length ys < length (word_in s) → d.phase ≡ Reading (length ys)
    dialogue_reads l = (dialogue_reached g).phase ∙ phase_reading (machine_in s) (word_in s) ys l

    -- and where it then sends a command, that it drives, with the state reached: that to which the commands sent so
    -- far, the first of the course of the state in which the unit began, lead from that state
    pub dialogue_drives : length (word_in s) ≤ length ys → {c : ℕ} → o ≡ Command c
        → (b : ℕ) × (xs : List ℕ) × Course (machine_in s) (word_in s) b xs
        × (ys ≡ answers (machine_in s) b (take (length ys) xs))
        × (d.phase ≡ Driving (run (machine_in s) b (take (length ys) xs)))
    dialogue_drives l {c} e =
        let M = machine_in s in
        let w = word_in s in
        let a = order_along M w suited ys l (sym (dialogue_order g) ∙ e) in
        let on = a.3 in
        let sent : take (length ys) (course M w a.0) ≡ a.1 =
        ap (take (length ys)) on.splits ∙ take_at a.1 (c ∷ a.2) (length ys) (sym (along_length M w on)) in (
          a.0,
          course M w a.0,
          course_course M w suited a.0 on.state,
          on.answered ∙ ap (answers M a.0) (sym sent),
          (dialogue_reached g).phase
              ∙ along_phase M w on c a.2 refl suited.word.separates
              ∙ ap (λ (v : List ℕ). Driving (run M a.0 v)) (sym sent),
        )

    -- an end is the order to any answers after it
    pub dialogue_repeats : is_end o ≡ true → (zs : List ℕ) (e : Desk) (p : Order) → Dialogue s (ys ++ zs) e p → p ≡ o
    dialogue_repeats t zs e p f =
        dialogue_order f
        ∙ order_repeats (machine_in s) (word_in s) ys (ap is_end (sym (dialogue_order g)) ∙ t) zs
        ∙ sym (dialogue_order g)

-- ---- why stranger is told
pub stranger_why : (s : List ℕ) {ys : List ℕ} {d : Desk} {p : ℕ} → Dialogue s ys d (Stranger p)
    → Strange (machine_in s) (word_in s) ys p
stranger_why s g = elim (dialogue_ordered s g) [ strange why ↦ why ]
